-- The keys of a node's processed events.
use Rattle.std.proofs.Common.{◌≡◌, ℕ, ◌+◌, ◌*◌, ◌≤◌, List, [], ◌∷◌, length, Option, Some, None, is_some, Bool, true, false, refl, sym, ap, ◌∙◌, subst, arith}
use Rattle.std.specs.Prelude.{filter, ◌==◌}
use Rattle.std.proofs.lemmas.List.{length-map}
use Rattle.event_key.specs.declared.key.Key.{Key}
use Rattle.model_core.specs.Meaning.{Meaning, MeaningLaws}
use Rattle.key_order.specs.Ascending.{After, Ascends}
use Rattle.world_spec.specs.Share.{IsHome}
use Rattle.key_order.proofs.FilterLemmas.{filter-map}
use Rattle.object_log.specs.Logs.{LogView}
use Rattle.object_log.specs.Replays.{IsReplayed}
use Rattle.node_core.specs.Marks.{MarkView, AreInOrder}
use Rattle.node_core.specs.Nodes.{IsHere, NodeView, ahead_of, base_at, home, log_at, log_or, slot_at}
use Rattle.node_core.specs.Rows.{keys_of}
use Rattle.node_core.specs.Shares.{AreProcessedKeys, total_upto}
use Rattle.node_core.specs.Sound.{AreMarked, IsNode, IsStore}
use Rattle.node_core.proofs.CommitReplay.{log-little}
use Rattle.node_core.proofs.MarkLemmas.{marked-keys}
use Rattle.node_core.proofs.RollbackFacts.{home-here}
use Rattle.node_core.proofs.SentFacts.{sent-bound}
use Rattle.node_core.proofs.ShareFacts.{marks-total}

keys-after : (key : Key) (ks : List MarkView) → After (λ (k : MarkView). k.key) key ks → After (λ (k : Key). k) key (keys_of ks)
keys-after key [] all = tt
keys-after key (k ∷ ks) all = (all.0, keys-after key ks all.1)

keys-ascend : (ks : List MarkView) → AreInOrder ks → Ascends (λ (k : Key). k) (keys_of ks)
unfolding Ascends
keys-ascend [] up = tt
keys-ascend (k ∷ ks) up = (keys-after k.key ks up.0, keys-ascend ks up.1)

module _ {M : Type 0} (m : Meaning) (n : NodeView M) (marks : List MarkView) (node : IsNode m n.terms n.number n.homes n.logs marks n.counts) (marked : AreMarked n.logs marks) where
  -- an object that isn't here has processed nothing
  none-away : (object : ℕ) → (IsHome m (home n) n.number object → ⊥) → ahead_of n object ≡ 0
  unfolding IsHere log_at
  none-away object away = by_slot (slot_at n.logs object) refl
    where
      by_slot : (slot : Option LogView) → slot_at n.logs object ≡ slot → length (log_or (slot_at n.logs object)).done ≡ 0
      by_slot None is = ap (λ slot. length (log_or slot).done) is
      by_slot (Some log) is = absurd (away (home-here m n.terms n.number n.homes n.logs marks n.counts object node (ap is_some is)))

  pub own-keys : n.processed ≡ keys_of marks → AreProcessedKeys m n
  own-keys is =
      let A : List Key → Type 0 = Ascends (λ (k : Key). k) in
      let total = marks-total n.logs marks marked in
      let long = ap length is ∙ length-map marks (λ (k : MarkView). k.key) in
      record {
        ordered = subst A (sym is) (keys-ascend marks marked.ordered);
        parts = λ o. ap (filter (λ (k : Key). k.dest == o)) is ∙ filter-map (λ (k : MarkView). k.key) (λ (k : Key). k.dest == o) marks ∙ ap keys_of (marked.parts o) ∙ marked-keys (log_at n.logs o).done;
        empty = none-away;
        total = long ∙ total ∙ ap (total_upto (ahead_of n)) node.lawful.long;
      }

none-sent : (logs : List (Option LogView)) (object : ℕ) → is_some (slot_at logs object) ≡ false → (log_at logs object).state.sent ≡ 0
unfolding log_at
none-sent logs object away = by_slot (slot_at logs object) refl
  where
    by_slot : (slot : Option LogView) → slot_at logs object ≡ slot → (log_or (slot_at logs object)).state.sent ≡ 0
    by_slot None is = ap (λ slot. (log_or slot).state.sent) is
    by_slot (Some log) is = absurd (let here = ap is_some is in cc)

-- no object has sent more than eight events for each one that it has processed
pub own-sent : {M : Type 0} (m : Meaning) (n : NodeView M) (marks : List MarkView) → IsNode m n.terms n.number n.homes n.logs marks n.counts → IsStore n.logs marks n.waiting → MeaningLaws m
    → (object : ℕ) → (log_at n.logs object).state.sent ≤ (base_at n.logs object).sent + 8 * ahead_of n object
unfolding IsHere
own-sent m n marks node store laws object = by_here (is_some (slot_at n.logs object)) refl
  where
    by_here : (b : Bool) → is_some (slot_at n.logs object) ≡ b → (log_at n.logs object).state.sent ≤ (base_at n.logs object).sent + 8 * ahead_of n object
    by_here true here =
        let log = log_at n.logs object in
        let home = home-here m n.terms n.number n.homes n.logs marks n.counts object node here in
        let R : ℕ → Type 0 = λ o. IsReplayed m o log.state log.done in
        sent-bound log.state log.done
        (log-little m object log.state log.done laws home.0 (subst R (store.held.objects object here) (node.lawful.replayed object)) (node.lawful.lawful object here)).0
    by_here false away =
        let none = none-sent n.logs object away in
        omega arith
