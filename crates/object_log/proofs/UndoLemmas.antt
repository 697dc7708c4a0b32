-- The newest event of an object is undone, wherever it stands among those of others.
use Rattle.std.proofs.Common.{◌≡◌, ◌≢◌, ℕ, zero, suc, ◌+◌, ◌<◌, Some, List, [], ◌∷◌, ◌++◌, length, map, take, drop, get_or, sym, ap, ◌∙◌, subst, arith}
use Rattle.std.proofs.lemmas.Option.{slice_get_within}
use Rattle.std.specs.Prelude.{slice_get, slice_set}
use Rattle.std.specs.List.{AllByRecursion as Each, remove}
use Rattle.model_core.specs.declared.event.Event.{Event}
use Rattle.sim_spec.specs.Firing.{ObjectState}
use Rattle.key_order.proofs.EachLemmas.{Each-map}
use Rattle.object_log.specs.Carrying.{Placed, placed_key}
use Rattle.object_log.specs.Dones.{Done}
use Rattle.object_log.specs.EventCalls.{ChangesAt}
use Rattle.object_log.specs.EventLogs.{EventLogView, dones_at}
use Rattle.object_log.specs.Keeping.{Keeps}
use Rattle.object_log.specs.Logs.{before}
use Rattle.object_log.specs.Objects.{HasUndone, IsNewest, KeptObject, state_of}
use Rattle.object_log.specs.Undoings.{HasUndoneAt, IsNewestAt}
use Rattle.object_log.specs.Whole.{IsEventLog, StandsAt, dones_in, log_view}
use Rattle.object_log.proofs.CarriedLemmas.{ascends-removed, map-removed}
use Rattle.object_log.proofs.EventLogLemmas.{IsChanged, each-but, each-read, numbers-stay, object-there, read-get, stands-still, state-becomes, state-others, state-was, still-apart}
use Rattle.object_log.proofs.OwnLemmas.{middle-other, middle-own}

pub split-at : {X : Type 0} (xs : List X) (i : ℕ) (x : X) → slice_get xs i ≡ Some x → xs ≡ take i xs ++ x ∷ drop (suc i) xs
split-at [] i x at = absurd (cc)
split-at (y ∷ ys) zero x at = (let same : y ≡ x = cc in ap (λ z. z ∷ ys) same)
split-at (y ∷ ys) (suc i) x at = ap (λ zs. y ∷ zs) (split-at ys i x at)

each-get : {X : Type 0} (P : X → Type 0) (xs : List X) (i : ℕ) (x : X) → slice_get xs i ≡ Some x → Each P xs → P x
each-get P [] i x at all = absurd (cc)
each-get P (y ∷ ys) zero x at all = (let same : y ≡ x = cc in subst P same all.0)
each-get P (y ∷ ys) (suc i) x at all = each-get P ys i x at all.1

each-removed : {X : Type 0} (P : X → Type 0) (xs : List X) (i : ℕ) → Each P xs → Each P (remove xs i)
each-removed P [] zero all = tt
each-removed P [] (suc i) all = tt
each-removed P (x ∷ xs) zero all = all.1
each-removed P (x ∷ xs) (suc i) all = (all.0, each-removed P xs i all.1)

pub get-map : {X Y : Type 0} (f : X → Y) (xs : List X) (i : ℕ) (x : X) → slice_get xs i ≡ Some x → slice_get (map f xs) i ≡ Some (f x)
get-map f [] i x at = absurd (cc)
get-map f (y ∷ ys) zero x at = (let same : y ≡ x = cc in ap (λ z. Some (f z)) same)
get-map f (y ∷ ys) (suc i) x at = get-map f ys i x at

length-removed : {X : Type 0} (xs : List X) (i : ℕ) → length (remove xs i) < length xs + 1
length-removed [] zero = omega arith
length-removed [] (suc i) = omega arith
length-removed (x ∷ xs) zero = omega arith
length-removed (x ∷ xs) (suc i) = let more = length-removed xs i in omega arith

-- the event at this index goes, which is the newest of its object
pub record IsGoing (objects : List KeptObject) (items : List Placed) (index : ℕ) (p : Placed) (o : KeptObject) : Type 0 where
  pub log : IsEventLog objects items
  pub found : slice_get items index ≡ Some p
  pub within : p.place < length objects
  pub at : o ≡ get_or objects p.place o
  pub newest : dones_at p.done.event.key.dest (drop (suc index) (dones_in items)) ≡ []

module _ (objects : List KeptObject) (items : List Placed) (index : ℕ) (p : Placed) (o : KeptObject) (g : IsGoing objects items index p o) where
  abbrev ds : List Done
  ds = dones_in items

  abbrev left : List Done
  left = remove ds index

  found-done : slice_get ds index ≡ Some p.done
  found-done = get-map (λ (q : Placed). q.done) items index p g.found

  stands : StandsAt objects p.place p.done.event.key.dest
  stands = each-get (λ (q : Placed). StandsAt objects q.place q.done.event.key.dest) items index p g.found g.log.places

  pub going-dest : p.done.event.key.dest ≡ o.object
  going-dest = sym (ap (λ (k : KeptObject). k.object) (read-get objects p.place o stands.0 g.at stands.1) ∙ stands.2)

  own-split : dones_at o.object ds ≡ dones_at o.object left ++ p.done ∷ []
  own-split =
      let P : ℕ → Type 0 = λ n. dones_at n (drop (suc index) ds) ≡ [] in
      ap (dones_at o.object) (split-at ds index p.done found-done)
      ∙ middle-own o.object (take index ds) (drop (suc index) ds) p.done going-dest (subst P going-dest g.newest)

  others-same : (other : ℕ) → other ≢ o.object → dones_at other left ≡ dones_at other ds
  others-same other there =
      sym (ap (dones_at other) (split-at ds index p.done found-done)
      ∙ middle-other other (take index ds) (drop (suc index) ds) p.done (λ same. there (sym same ∙ going-dest)))

  -- its object fired it last
  pub going-newest : IsNewest o p.done
  going-newest =
      let K : List Done → Type 0 = Keeps o.cells o.sent in
      (dones_at o.object left, subst K own-split (each-read (λ (k : KeptObject). Keeps k.cells k.sent (dones_at k.object ds)) objects p.place o g.within g.at g.log.keeps))

  module _ (later : KeptObject) (u : HasUndone o later p.done) where
    abbrev after : List KeptObject
    after = slice_set objects p.place later

    changed : IsChanged objects p.place o later
    changed = record { apart = g.log.apart; within = g.within; at = g.at; same = u.object }

    dones-left : dones_in (remove items index) ≡ left
    dones-left = map-removed (λ (q : Placed). q.done) items index

    -- what is left is a log
    pub left-log : IsEventLog after (remove items index)
    unfolding going-newest
    left-log =
        let P : KeptObject → Type 0 = λ k. Keeps k.cells k.sent (dones_at k.object ds) in
        let Q : KeptObject → Type 0 = λ k. Keeps k.cells k.sent (dones_at k.object (dones_in (remove items index))) in
        let L : List Done → Type 0 = λ xs. Keeps later.cells later.sent (dones_at later.object xs) in
        let N : ℕ → Type 0 = λ n. Keeps later.cells later.sent (dones_at n left) in
        let now : Q later = subst L (sym dones-left) (subst N (sym u.object) (u.keeps (dones_at o.object left) going-newest.1)) in
        let fewer = length-removed items index in
        let few = g.log.few in
        record {
          apart = still-apart objects p.place o later changed;
          keeps = each-but P Q objects p.place later g.within (object-there objects p.place o later changed) g.log.apart
              (λ y there k. (let S : List Done → Type 0 = Keeps y.cells y.sent in
              subst S (sym (ap (dones_at y.object) dones-left ∙ others-same y.object (λ is. there (is ∙ sym u.object)))) k)) now g.log.keeps;
          places = each-removed (λ (q : Placed). StandsAt after q.place q.done.event.key.dest) items index
              (Each-map (λ (q : Placed). StandsAt objects q.place q.done.event.key.dest) (λ (q : Placed). StandsAt after q.place q.done.event.key.dest) items
              (λ q s. stands-still objects p.place o later changed q.place q.done.event.key.dest s) g.log.places);
          ordered = ascends-removed placed_key items index g.log.ordered;
          few = omega arith;
        }

    pub undone-at : (event : Event) → event ≡ p.done.event → HasUndoneAt index (log_view objects items) (log_view after (remove items index)) event
    undone-at event is =
        let C : ℕ → Type 0 = λ n. ChangesAt n (log_view objects items) (log_view after (remove items index)) (state_of o) (before (state_of o) p.done) in
        let S : ObjectState → Type 0 = λ s. ChangesAt o.object (log_view objects items) (log_view after (remove items index)) (state_of o) s in
        record {
          newest = p.done;
          found = found-done;
          done = dones-left;
          was = state_of o;
          changes = subst C (sym going-dest) (subst S u.state (record {
            before = state-was objects p.place o later changed;
            after = state-becomes objects p.place o later changed;
            states = state-others objects p.place o later changed;
            numbers = numbers-stay objects p.place o later changed;
            dones = λ other there. ap (dones_at other) dones-left ∙ others-same other there;
          }));
          event_is = is;
        }

-- what a caller of the log asks for
pub going : (objects : List KeptObject) (items : List Placed) (old : EventLogView) (index place : ℕ) (p : Placed) (o : KeptObject) → log_view objects items ≡ old → IsEventLog objects items → IsNewestAt index old
    → slice_get items index ≡ Some p → place ≡ p.place → o ≡ get_or objects place o → IsGoing objects items index p o
going objects items old index place p o view log newest found same at =
    let n = subst (IsNewestAt index) (sym view) newest in
    let is = get-map (λ (q : Placed). q.done) items index p found in
    let both : Some n.newest ≡ Some p.done = sym n.found ∙ is in
    let equal : n.newest ≡ p.done = cc in
    let L : Done → Type 0 = λ d. dones_at d.event.key.dest (drop (suc index) (dones_in items)) ≡ [] in
    let stands = each-get (λ (q : Placed). StandsAt objects q.place q.done.event.key.dest) items index p found log.places in
    let A : ℕ → Type 0 = λ k. o ≡ get_or objects k o in
    record {
      log = log;
      found = found;
      within = slice_get_within objects p.place stands.0 stands.1;
      at = subst A same at;
      newest = subst L equal n.last;
    }

pub same-found : {X : Type 0} (xs : List X) (i : ℕ) (x y : X) → slice_get xs i ≡ Some x → slice_get xs i ≡ Some y → x ≡ y
same-found xs i x y one other = let both : Some x ≡ Some y = sym one ∙ other in cc
