-- An object that has processed nothing is replaced by another with its number.
use Rattle.std.proofs.Common.{◌≡◌, ℕ, ◌<◌, List, [], length, get_or, ap, ◌∙◌}
use Rattle.std.specs.Prelude.{slice_set}
use Rattle.key_order.proofs.EachLemmas.{Each-map}
use Rattle.object_log.specs.Carrying.{Placed}
use Rattle.object_log.specs.EventLogs.{dones_at}
use Rattle.object_log.specs.Keeping.{Keeps}
use Rattle.object_log.specs.Objects.{KeptObject}
use Rattle.object_log.specs.Whole.{IsEventLog, StandsAt, dones_in}
use Rattle.object_log.proofs.EventLogLemmas.{IsChanged, each-but, object-there, stands-still, still-apart}
use Rattle.object_log.proofs.KeepingLemmas.{keeps-none}

module _ (objects : List KeptObject) (items : List Placed) (place : ℕ) (o later : KeptObject) (log : IsEventLog objects items) (within : place < length objects) (at : o ≡ get_or objects place o) (same : later.object ≡ o.object) where
  pub changed : IsChanged objects place o later
  changed = record { apart = log.apart; within = within; at = at; same = same }

  pub set-log : dones_at o.object (dones_in items) ≡ [] → IsEventLog (slice_set objects place later) items
  set-log none =
      let ds = dones_in items in
      let P : KeptObject → Type 0 = λ k. Keeps k.cells k.sent (dones_at k.object ds) in
      let now : P later = keeps-none later.cells later.sent (dones_at later.object ds) (ap (λ n. dones_at n ds) same ∙ none) in
      record {
        apart = still-apart objects place o later changed;
        keeps = each-but P P objects place later within (object-there objects place o later changed) log.apart (λ y there k. k) now log.keeps;
        places = Each-map (λ (q : Placed). StandsAt objects q.place q.done.event.key.dest) (λ (q : Placed). StandsAt (slice_set objects place later) q.place q.done.event.key.dest) items
            (λ q s. stands-still objects place o later changed q.place q.done.event.key.dest s) log.places;
        ordered = log.ordered;
        few = log.few;
      }
