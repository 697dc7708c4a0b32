-- One event more in the log of a node.
use Rattle.std.proofs.Common.{◌≡◌, ℕ, ◌<◌, true, not, arith, refl, List, [], ◌∷◌, length, get_or, sym, ap, ◌∙◌, subst}
use Rattle.std.proofs.lemmas.List.{length-map}
use Rattle.std.specs.Prelude.{Option, Some, Result, Ok, Err, IfOk, OnErr, OnOk, filter, slice_get, slice_set}
use Rattle.std.specs.List.{AllByRecursion as Each}
use Rattle.event_key.specs.declared.key.Key.{Key}
use Rattle.event_key.specs.Keys.{key_lt}
use Rattle.key_order.specs.Due.{is_due}
use Rattle.key_order.specs.Keys.{times}
use Rattle.key_order.proofs.AscendingLemmas.{Ascends-filter, Ascends-map}
use Rattle.key_order.proofs.EachLemmas.{Each-filter, Each-map}
use Rattle.key_order.proofs.FilterLemmas.{length-filter_le}
use Rattle.model_core.specs.declared.note.Note.{Note}
use Rattle.model_core.specs.declared.event.Event.{Event}
use Rattle.model_core.specs.Meaning.{Meaning}
use Rattle.object_log.specs.Carrying.{Placed, placed_key}
use Rattle.object_log.specs.Dones.{Done}
use Rattle.object_log.specs.declared.done.Verdict.TheVariants.{Failed}
use Rattle.object_log.specs.EventCalls.{HasProcessed}
use Rattle.object_log.specs.EventLogs.{done_key, dones_at}
use Rattle.object_log.specs.Logs.{keys_of}
use Rattle.object_log.specs.Objects.{IsSameObject, KeptObject}
use Rattle.object_log.specs.Keeping.{Keeps}
use Rattle.object_log.specs.Parts.{due_of, left_of}
use Rattle.object_log.specs.Whole.{IsEventLog, StandsAt, dones_in, log_view, object_view}
use Rattle.object_log.proofs.CarriedLemmas.{read-map, times-map}
use Rattle.object_log.proofs.CellLemmas.{keeps-left}
use Rattle.object_log.proofs.OwnLemmas.{left-at, own-ascends}
use Rattle.object_log.proofs.PrefixLemmas.{due-front}
use Rattle.object_log.proofs.EventLogLemmas.{IsFiring, processed-one, same-log, same-view, still-log}
use Rattle.object_log.proofs.JoinLemmas.{new-key}
use Rattle.event_log.specs.Committing.{HasCommittedDue}
use Rattle.event_log.specs.NodeLogs.{HasCommittedTo, NodeLogView, node_log_view}
use Rattle.event_log.specs.Processing.{HasCome, IsSameProcessed, ProcessedView}
use Rattle.event_log.proofs.CommitFacts.{dones-left}

pub ok-more : {T E : Type 0} (r : Result T E) (P Q : T → Type 0) → ((t : T) → P t → Q t) → IfOk r P → IfOk r Q
ok-more (Ok t) P Q more holds = more t holds
ok-more (Err e) P Q more holds = holds

pub either : {T E : Type 0} (r : Result T E) (P : T → Type 0) (Q R X : Type 0) → IfOk r P → OnErr r Q → OnErr r R → ((t : T) → P t → X) → (Q → R → X) → X
either (Ok t) P Q R X ok err same one other = one t ok
either (Err e) P Q R X ok err same one other = other err same

pub err-more : {T E : Type 0} (r : Result T E) (P Q X : Type 0) → (P → Q → X) → OnErr r P → OnErr r Q → OnErr r X
err-more (Ok t) P Q X more one other = one
err-more (Err e) P Q X more one other = more one other

pub err-one : {T E : Type 0} (r : Result T E) (P X : Type 0) → (P → X) → OnErr r P → OnErr r X
err-one (Ok t) P X more one = one
err-one (Err e) P X more one = more one

keys-above : (event : Event) (xs : List Done) → Each (λ k. key_lt k event.key ≡ true) (keys_of xs) → Each (λ (x : Done). key_lt x.event.key event.key ≡ true) xs
keys-above event [] all = tt
keys-above event (x ∷ xs) all = (all.0, keys-above event xs all.1)

-- a key above all of its object is new
pub fresh-key : (event : Event) (items : List Placed) → Each (λ k. key_lt k event.key ≡ true) (keys_of (dones_at event.key.dest (dones_in items))) → times placed_key event.key items ≡ 0
fresh-key event items above =
    let d : Done = record { event = event; undo = []; sends = []; verdict = Failed 0 } in
    times-map (λ (q : Placed). q.done) done_key event.key items ∙ new-key d (dones_in items) (keys-above event (dones_at event.key.dest (dones_in items)) above)

module _ (m : Meaning) (objects : List KeptObject) (place : ℕ) (o later : KeptObject) (event : Event) (old new : ProcessedView) where
  -- it came
  module _ (least : ℕ) (h : HasCome m event place o later old new least) (f : IsFiring m objects old.items place o later event h.entry) where
    pub come-log : IsEventLog (slice_set objects place later) new.items
    come-log = subst (IsEventLog (slice_set objects place later)) (sym h.items) (still-log m objects old.items place o later event h.entry f)

    pub come-processed : HasProcessed m (log_view objects old.items) (log_view (slice_set objects place later) new.items) event least
    come-processed =
        let P : List Placed → Type 0 = λ items. HasProcessed m (log_view objects old.items) (log_view (slice_set objects place later) items) event least in
        subst P (sym h.items) (processed-one m objects old.items place o later event h.entry f least h.least_is)

  -- or all is as it was
  module _ (same : IsSameProcessed old new) (is : IsSameObject o later) (log : IsEventLog objects old.items) (within : place < length objects) (at : o ≡ get_or objects place o) where
    pub kept-log : IsEventLog (slice_set objects place later) new.items
    kept-log = subst (IsEventLog (slice_set objects place later)) (sym same.items) (same-log objects old.items place o later log within at is)

    pub kept-view : log_view (slice_set objects place later) new.items ≡ log_view objects old.items
    kept-view = ap (log_view (slice_set objects place later)) same.items ∙ same-view objects old.items place o later log within at is

-- the object at a place is seen there
pub stands-seen : (objects : List KeptObject) (events : ProcessedView) (v : NodeLogView) (place : ℕ) → node_log_view objects events ≡ v
    → place < length v.log.objects → place < length objects
stands-seen objects events v place view inside =
    let same = length-map objects object_view in
    let long = ap (λ (w : NodeLogView). length w.log.objects) view in
    omega arith

pub object-seen : (objects : List KeptObject) (events : ProcessedView) (v : NodeLogView) (place : ℕ) (o : KeptObject) → node_log_view objects events ≡ v
    → place < length v.log.objects → o ≡ get_or objects place o → slice_get v.log.objects place ≡ Some (object_view o)
object-seen objects events v place o view inside at =
    let P : NodeLogView → Type 0 = λ w. slice_get w.log.objects place ≡ Some (object_view o) in
    subst P view (read-map object_view objects place o (stands-seen objects events v place view inside) at)

-- what isn't due is a log
pub committed-log : (horizon : ℕ) (cut : Option Key) (objects : List KeptObject) (items : List Placed) → IsEventLog objects items → IsEventLog objects (filter (λ (p : Placed). not (is_due horizon cut (placed_key p))) items)
committed-log horizon cut objects items log =
    let stays = λ (p : Placed). not (is_due horizon cut (placed_key p)) in
    let less = length-filter_le stays items in
    let few = log.few in
    record {
      apart = log.apart;
      keeps = Each-map (λ (o : KeptObject). Keeps o.cells o.sent (dones_at o.object (dones_in items))) (λ (o : KeptObject). Keeps o.cells o.sent (dones_at o.object (dones_in (filter stays items)))) objects (λ o k. keeps_on o k) log.keeps;
      places = Each-filter (λ (p : Placed). StandsAt objects p.place p.done.event.key.dest) stays items log.places;
      ordered = Ascends-filter placed_key stays items log.ordered;
      few = omega arith;
    }
  where
    keeps_on : (o : KeptObject) → Keeps o.cells o.sent (dones_at o.object (dones_in items)) → Keeps o.cells o.sent (dones_at o.object (dones_in (filter (λ (p : Placed). not (is_due horizon cut (placed_key p))) items)))
    keeps_on o k =
        let own = dones_at o.object (dones_in items) in
        let up = own-ascends o.object (dones_in items) (Ascends-map done_key (λ (p : Placed). p.done) items log.ordered) in
        let K : List Done → Type 0 = Keeps o.cells o.sent in
        subst K (sym (ap (dones_at o.object) (dones-left horizon cut items) ∙ left-at o.object horizon cut (dones_in items)))
        (keeps-left o.cells o.sent (due_of horizon cut own) (left_of horizon cut own) (subst K (due-front horizon cut own up) k))

module _ (homes : List ℕ) (horizon : ℕ) (cut : Option Key) (objects : List KeptObject) (old new : ProcessedView) (told : List (Key × Note)) (out : List (List Event)) where
  pub commits-log : HasCommittedDue homes horizon cut old new told out → IsEventLog objects old.items → IsEventLog objects new.items
  commits-log h log = subst (IsEventLog objects) (sym h.items) (committed-log horizon cut objects old.items log)

  pub commits : HasCommittedDue homes horizon cut old new told out → HasCommittedTo homes horizon cut (node_log_view objects old) (node_log_view objects new) told out
  commits h = record {
    objects = refl;
    done = ap dones_in h.items ∙ dones-left horizon cut old.items;
    told_is = h.told_is;
    parcels = h.parcels;
    carried = record { news = h.news; chained = h.chained };
  }

pub on-either : {T E : Type 0} (r : Result T E) (P Q X : Type 0) → OnOk r P → OnErr r Q → (P → X) → (Q → X) → X
on-either (Ok t) P Q X ok err one other = one ok
on-either (Err e) P Q X ok err one other = other err

pub on-more : {T E : Type 0} (r : Result T E) (P Q : Type 0) → (P → Q) → OnOk r P → OnOk r Q
on-more (Ok t) P Q more holds = more holds
on-more (Err e) P Q more holds = holds
