-- Events at hand and later ones, in one list in the order of their keys.
use Rattle.std.proofs.Common.{◌≡◌, ◌≢◌, ℕ, zero, suc, drop, ◌+◌, ◌^◌, ◌<◌, ◌≤◌, true, false, cond, List, [], ◌∷◌, ◌++◌, length, length-append, sym, refl, ap, ◌∙◌, subst, inl, inr, arith}
use denote.Ref.{Bor}
use Rattle.std.specs.Prelude.{Contains, IsPermutation, Option, Some, None, IfSome, OnSome, Result, Ok, Err, OnOk, OnErr, nat_lt}
use Rattle.std.specs.Bool.{OnTrue}
use Rattle.std.proofs.lemmas.Bool.{OnTrue_from}
use Rattle.std.proofs.lemmas.List.{length-drop}
use Rattle.std.proofs.lemmas.Bool.Decides.{nat_tests}
use Rattle.std.specs.List.{AllByRecursion as Each}
use Rattle.std.proofs.lemmas.List.Sorted.{IsPermutation-refl, IsPermutation-sym, IsPermutation-trans, IsPermutation-cons, IsPermutation-middle, IsPermutation-append_left, IsPermutation-append_right, length_permutation, sum_by-IsPermutation}
use Rattle.std.proofs.lemmas.List.Sums.{sum_by-append}
use Rattle.event_key.specs.declared.key.Key.{Key}
use Rattle.event_key.specs.Keys.{key_lt}
use Rattle.event_key.specs.Stamps.{time_part}
use Rattle.event_key.proofs.Order.{key_lt-stamp}
use Rattle.model_core.specs.declared.event.Event.{Event}
use Rattle.key_order.specs.Ascending.{AllAfter, Ascends, IsAscending, key_of}
use Rattle.key_order.specs.Keys.{IsNewKey, KeysDiffer, at_key}
use Rattle.key_order.specs.Pending.{enqueue, enqueue_all, in_order}
use Rattle.key_order.proofs.ArrivalLemmas.{enqueue-permutation}
use Rattle.key_order.proofs.EachLemmas.{Each-map, Each-append, Each-both}
use Rattle.key_order.proofs.EnqueueLemmas.{IsAscending-enqueue, enqueue-first, length-enqueue, Each-enqueue}
use Rattle.key_order.proofs.AscendingLemmas.{After-trans}
use Rattle.key_order.proofs.InOrder.{in_order-permutation, in_order-ascending, in_order-is, length-in_order}
use Rattle.key_order.proofs.KeyLemmas.{Differ-back, Differ-cons, Differ-prefix, Differ-none, Differ-permutation, key_lt-other, new-head, new-tail}
use Rattle.key_order.proofs.MemberLemmas.{Each-permutation, each-contains}
use Rattle.key_order.proofs.OrderLemmas.{by-permutation}
use Rattle.tick_queue.specs.Levels.{LevelsView, IsOfTick, IsLaterThan, HasLeft, Advances}
use Rattle.tick_queue.specs.Near.{AllBefore, LosesFirst, Refills, StartsWith, GoesLater, GoesNear}
use Rattle.tick_queue.specs.Queues.{QueueView, AreInOrder}

abbrev pub pending_of : List Event → List Event → List Event
pending_of near later = near ++ in_order later

-- lists in order, one of which comes before the other, are in order
joined_up : (xs ys : List Event) → IsAscending xs → IsAscending ys → Each (λ (x : Event). AllAfter x.key ys) xs → IsAscending (xs ++ ys)
unfolding Ascends
joined_up [] ys up down before = down
joined_up (x ∷ xs) ys up down before = (Each-append (λ (y : Event). key_lt x.key y.key ≡ true) xs ys up.0 before.0, joined_up xs ys up.1 down before.1)

-- what comes before all of a list comes before all of it in another order
after_moved : (near xs ys : List Event) → IsPermutation xs ys → Each (λ (x : Event). AllAfter x.key xs) near → Each (λ (x : Event). AllAfter x.key ys) near
after_moved near xs ys moves before =
    Each-map (λ (x : Event). AllAfter x.key xs) (λ (x : Event). AllAfter x.key ys) near (λ x all. Each-permutation (λ (y : Event). key_lt x.key y.key ≡ true) xs ys moves all) before

pub pending_up : (near : List Event) (tick : ℕ) (later : List Event) → AreInOrder near tick later → IsAscending (pending_of near later)
pending_up near tick later h =
    joined_up near (in_order later) h.up (in_order-ascending later (Differ-back key_of near later h.distinct)) (after_moved near later (in_order later) (in_order-permutation later) h.before)

pub pending_moves : (near later : List Event) → IsPermutation (near ++ later) (pending_of near later)
pending_moves near later = IsPermutation-append_right near later (in_order later) (in_order-permutation later)

pub length-pending : (near later : List Event) → length (pending_of near later) ≡ length near + length later
length-pending near later = let all = length-append near (in_order later) in let same = length-in_order later in omega (arith, all, same)

-- a key that is new to the pending events is new to both parts
pub new_to_both : (k : Key) (near later : List Event) → IsNewKey k (pending_of near later) → IsNewKey k (near ++ later)
new_to_both k near later new =
    let same = sum_by-IsPermutation (at_key key_of k) (near ++ later) (pending_of near later) (pending_moves near later) in
    omega (arith, same, new)

new_to_near : (k : Key) (near later : List Event) → IsNewKey k (near ++ later) → IsNewKey k near
new_to_near k near later new = let sum = sum_by-append (at_key key_of k) near later in omega (arith, sum, new)

pub new_near : (k : Key) (near later : List Event) → IsNewKey k (pending_of near later) → IsNewKey k near
new_near k near later new = new_to_near k near later (new_to_both k near later new)

new_each : (k : Key) (es : List Event) → IsNewKey k es → Each (λ (x : Event). x.key ≢ k) es
new_each k [] new = tt
new_each k (x ∷ es) new = ((λ same. new-head key_of k x es new (sym same)), new_each k es (new-tail key_of k x es new))

-- no events
pub in_order-none : (near later : List Event) (tick : ℕ) → near ≡ [] → later ≡ [] → AreInOrder near tick later
unfolding Ascends
in_order-none near later tick no_near no_later =
    let P : List Event → Type 0 = λ xs. AreInOrder xs tick later in
    let Q : List Event → Type 0 = λ ys. AreInOrder [] tick ys in
    subst P (sym no_near) (subst Q (sym no_later) record { up = tt; reached = tt; before = tt; distinct = Differ-none key_of; few = omega arith })

pub pending-none : (near later : List Event) → near ≡ [] → later ≡ [] → pending_of near later ≡ []
unfolding enqueue_all
pending-none near later no_near no_later = (λ i. no_near i ++ in_order (no_later i))

-- an event comes whose key is new, and there is room for it
pub record Comes (near : List Event) (tick : ℕ) (later : List Event) (e : Event) (old : List Event) : Type 0 where
  pub held : AreInOrder near tick later
  pub seen : pending_of near later ≡ old
  pub new : IsNewKey e.key (pending_of near later)
  pub room : length (pending_of near later) + 1 < 2 ^ 60

pub comes : {near later : List Event} {tick hand least : ℕ} {seen : QueueView} (e : Event) → AreInOrder near tick later → record { pending = pending_of near later; at_hand = hand; fresh_least = least } ≡ seen
    → IsNewKey e.key seen.pending → length seen.pending + 1 < 2 ^ 60 → Comes near tick later e seen.pending
comes {near} {later} {tick} {seen = seen} e held view new room =
    let same : pending_of near later ≡ seen.pending = ap (λ (v : QueueView). v.pending) view in
    record { held = held; seen = same; new = rw same new; room = rw same room }

-- it is later than those at hand
pub pushed_later : {near later old : List Event} {tick : ℕ} {e : Event} (it : Comes near tick later e old) (was new : List Event) (now : ℕ) → was ≡ later → IsPermutation (e ∷ was) new → now ≡ tick → AllBefore e.key near
    → AreInOrder near now new
pushed_later {near} {later} {tick = tick} {e = e} it was new now same moved is before =
    let moves : IsPermutation (e ∷ later) new = rw same at moved in
    let long = length_permutation (e ∷ later) new moves in
    let all = length-pending near later in
    rw is record {
      up = it.held.up;
      reached = it.held.reached;
      before = after_moved near (e ∷ later) new moves
          (Each-both (λ (x : Event). key_lt x.key e.key ≡ true) (λ (x : Event). AllAfter x.key later) (λ (x : Event). AllAfter x.key (e ∷ later)) near (λ x first rest. (first, rest)) before it.held.before);
      distinct = Differ-permutation key_of (near ++ (e ∷ later)) (near ++ new) (IsPermutation-append_right near (e ∷ later) new moves)
          (Differ-permutation key_of (e ∷ (near ++ later)) (near ++ (e ∷ later)) (IsPermutation-sym (near ++ (e ∷ later)) (e ∷ (near ++ later)) (IsPermutation-middle near e later))
          (Differ-cons key_of e (near ++ later) (new_to_both e.key near later it.new) it.held.distinct));
      few = (let room = it.room in omega (arith, long, all, room));
    }

pub later_in_place : {near later old : List Event} {tick : ℕ} {e : Event} (it : Comes near tick later e old) (was new : List Event) → was ≡ later → IsPermutation (e ∷ was) new → AllBefore e.key near
    → pending_of near new ≡ enqueue e old
later_in_place {near} {later} {tick = tick} {e = e} it was new same moved before =
    let old : List Event = pending_of near later in
    let now : List Event = pending_of near new in
    let moves : IsPermutation (e ∷ later) new = rw same at moved in
    let h2 = pushed_later it was new tick same moved refl before in
    by-permutation key_of now (enqueue e old) (pending_up near tick new h2) (IsAscending-enqueue e old it.new (pending_up near tick later it.held))
    (IsPermutation-trans now (near ++ new) (enqueue e old) (IsPermutation-sym (near ++ new) now (pending_moves near new))
    (IsPermutation-trans (near ++ new) (near ++ (e ∷ later)) (enqueue e old) (IsPermutation-sym (near ++ (e ∷ later)) (near ++ new) (IsPermutation-append_right near (e ∷ later) new moves))
    (IsPermutation-trans (near ++ (e ∷ later)) (e ∷ (near ++ later)) (enqueue e old) (IsPermutation-middle near e later)
    (IsPermutation-trans (e ∷ (near ++ later)) (e ∷ old) (enqueue e old) (IsPermutation-cons e (near ++ later) old (pending_moves near later)) (enqueue-permutation e old)))))
    ∙ ap (enqueue e) it.seen

-- an event of a later tick comes after those at hand
later_tick : (near : List Event) (tick : ℕ) (e : Event) → Each (λ (x : Event). time_part x.key.stamp ≤ tick) near → tick < time_part e.key.stamp → AllBefore e.key near
later_tick near tick e reached lt =
    Each-map (λ (x : Event). time_part x.key.stamp ≤ tick) (λ (x : Event). key_lt x.key e.key ≡ true) near (λ x le. key_lt-stamp x.key e.key (omega arith)) reached

pub later_test : (near : List Event) (now tick : ℕ) (e : Event) → Each (λ (x : Event). time_part x.key.stamp ≤ now) near → tick ≡ time_part e.key.stamp → OnTrue (nat_lt now tick) (GoesLater near now e)
later_test near now tick e reached is =
    OnTrue_from (nat_lt now tick) (GoesLater near now e) (λ yes. let lt : now < tick = grind (arith, nat_tests) in (omega arith, later_tick near now e reached (omega arith)))

-- an event that comes before the later ones goes to those at hand
enqueue-front : (e : Event) (xs ys : List Event) → AllAfter e.key ys → enqueue e (xs ++ ys) ≡ enqueue e xs ++ ys
unfolding enqueue
enqueue-front e [] ys after = enqueue-first e ys after
enqueue-front e (x ∷ xs) ys after =
    elim (key_lt e.key x.key) as (λ b. cond b (e ∷ x ∷ (xs ++ ys)) (x ∷ enqueue e (xs ++ ys)) ≡ cond b (e ∷ x ∷ xs) (x ∷ enqueue e xs) ++ ys)
    [ true ↦ refl | false ↦ ap (λ w. x ∷ w) (enqueue-front e xs ys after) ]

pub near_in_place : {near later old : List Event} {tick : ℕ} {e : Event} (it : Comes near tick later e old) (now : List Event) → AllAfter e.key later → now ≡ enqueue e near → pending_of now later ≡ enqueue e old
near_in_place {near} {later} {e = e} it now after is =
    ap (λ es. pending_of es later) is
    ∙ sym (enqueue-front e near (in_order later) (Each-permutation (λ (y : Event). key_lt e.key y.key ≡ true) later (in_order later) (in_order-permutation later) after))
    ∙ ap (enqueue e) it.seen

pub pushed_near : {near later old : List Event} {tick : ℕ} {e : Event} (it : Comes near tick later e old) (now : List Event) → AllAfter e.key later → time_part e.key.stamp ≤ tick → now ≡ enqueue e near → AreInOrder now tick later
pushed_near {near} {later} {tick = tick} {e = e} it now after le is =
    let long = length-enqueue e near in
    let all = length-pending near later in
    let room = it.room in
    rw is record {
      up = IsAscending-enqueue e near (new_near e.key near later it.new) it.held.up;
      reached = Each-enqueue (λ (x : Event). time_part x.key.stamp ≤ tick) e near le it.held.reached;
      before = Each-enqueue (λ (x : Event). AllAfter x.key later) e near after it.held.before;
      distinct = Differ-permutation key_of (e ∷ (near ++ later)) (enqueue e near ++ later) (IsPermutation-append_left later (e ∷ near) (enqueue e near) (enqueue-permutation e near))
          (Differ-cons key_of e (near ++ later) (new_to_both e.key near later it.new) it.held.distinct);
      few = omega (arith, long, all, room);
    }

-- an event of an earlier tick comes before the later ones
pub earlier_tick : (tick : ℕ) (later : List Event) (e : Event) → Each (λ (x : Event). tick ≤ time_part x.key.stamp) later → time_part e.key.stamp < tick → AllAfter e.key later
earlier_tick tick later e all lt =
    Each-map (λ (x : Event). tick ≤ time_part x.key.stamp) (λ (x : Event). key_lt e.key x.key ≡ true) later (λ x from. key_lt-stamp e.key x.key (omega arith)) all

-- so does one that comes before some event at hand
pub before_one : (near : List Event) (tick : ℕ) (later : List Event) (e x : Event) → AreInOrder near tick later → IsNewKey e.key (pending_of near later) → Contains near x → key_lt x.key e.key ≡ false
    → AllAfter e.key later
before_one near tick later e x h is_new is_in none =
    let apart = each-contains (λ (y : Event). y.key ≢ e.key) x near (new_each e.key near (new_near e.key near later is_new)) is_in in
    let after = each-contains (λ (y : Event). AllAfter y.key later) x near h.before is_in in
    After-trans key_of e.key x.key later (key_lt-other x.key e.key apart none) after

-- the events of the next tick come to hand
pub refilled : (old new : LevelsView) (near : List Event) → KeysDiffer old.events → length old.events < 2 ^ 60 → Refills old new near → AreInOrder near new.tick new.events
refilled old new near differ few h =
    let long = length_permutation old.events (near ++ new.events) h.events in
    let both = length-append near new.events in
    record {
      up = h.up;
      reached = Each-map (IsOfTick new.tick) (λ (x : Event). time_part x.key.stamp ≤ new.tick) near (λ x is. omega arith) h.of_tick;
      before = Each-map (IsOfTick new.tick) (λ (x : Event). AllAfter x.key new.events) near
          (λ x is. Each-map (IsLaterThan new.tick) (λ (y : Event). key_lt x.key y.key ≡ true) new.events (λ y lt. key_lt-stamp x.key y.key (omega arith)) h.later) h.of_tick;
      distinct = Differ-permutation key_of old.events (near ++ new.events) h.events differ;
      few = omega (arith, long, both, few);
    }

pub refilled_pending : (old new : LevelsView) (near : List Event) → KeysDiffer old.events → length old.events < 2 ^ 60 → Refills old new near → pending_of near new.events ≡ in_order old.events
refilled_pending old new near differ few h =
    sym (in_order-is old.events (pending_of near new.events) (IsPermutation-trans old.events (near ++ new.events) (pending_of near new.events) h.events (pending_moves near new.events))
    (pending_up near new.tick new.events (refilled old new near differ few h)))

no_length : (es : List Event) → length es ≡ 0 → es ≡ []
no_length [] none = refl
no_length (e ∷ es) none = absurd (omega arith)

pub refilled_settled : (old new : LevelsView) (near : List Event) → Refills old new near → length near ≡ 0 → pending_of near new.events ≡ []
refilled_settled old new near h none =
    let no = no_length near none in
    pending-none near new.events no (h.some no)

-- some events were lost
pub left_over : (near : List Event) (tick : ℕ) (old new : List Event) → near ≡ [] → KeysDiffer old → length old < 2 ^ 60 → HasLeft old new → AreInOrder near tick new
unfolding Ascends
left_over near tick old new none differ few left =
    let long = length_permutation old (left.0 ++ new) left.1 in
    let both = length-append left.0 new in
    let P : List Event → Type 0 = λ xs. AreInOrder xs tick new in
    subst P (sym none) record {
      up = tt;
      reached = tt;
      before = tt;
      distinct = Differ-back key_of left.0 new (Differ-permutation key_of old (left.0 ++ new) left.1 differ);
      few = omega (arith, long, both, few);
    }

-- the first event goes
pub first_gone : (near rest : List Event) (tick : ℕ) (later : List Event) → AreInOrder near tick later → LosesFirst near rest → AreInOrder rest tick later
unfolding Ascends
first_gone near rest tick later h loses =
    let A : List Event → Type 0 = IsAscending in
    let R : List Event → Type 0 = Each (λ (x : Event). time_part x.key.stamp ≤ tick) in
    let B : List Event → Type 0 = Each (λ (x : Event). AllAfter x.key later) in
    let D : List Event → Type 0 = λ xs. KeysDiffer (xs ++ later) in
    let long = ap length loses.1 in
    let few = h.few in
    record {
      up = (subst A loses.1 h.up).1;
      reached = (subst R loses.1 h.reached).1;
      before = (subst B loses.1 h.before).1;
      distinct = Differ-back key_of (loses.0 ∷ []) (rest ++ later) (subst D loses.1 h.distinct);
      few = omega (arith, long, few);
    }

pub first_gone_pending : (near rest later : List Event) → LosesFirst near rest → LosesFirst (pending_of near later) (pending_of rest later)
first_gone_pending near rest later loses = (loses.0, ap (λ xs. xs ++ in_order later) loses.1)

pub starts_pending : (near later : List Event) (e : Event) → StartsWith near e → StartsWith (pending_of near later) e
starts_pending near later e starts = (starts.0 ++ in_order later, ap (λ xs. xs ++ in_order later) starts.1)

pub some_at_hand : (near : List Event) (e : Event) → StartsWith near e → 0 < length near
some_at_hand near e starts = let long = ap length starts.1 in omega (arith, long)

pub starts_if : (near later : List Event) (r : Option (Bor Event)) → IfSome r (λ (e : Bor Event). StartsWith near e.now) → IfSome r (λ (e : Bor Event). StartsWith (pending_of near later) e.now)
starts_if near later None starts = tt
starts_if near later (Some e) starts = starts_pending near later e.now starts

-- those behind the first ones
drop_front : (near later : List Event) (k : ℕ) → k ≤ length near → drop k (near ++ later) ≡ drop k near ++ later
drop_front near later zero le = refl
drop_front [] later (suc k) le = absurd (omega arith)
drop_front (x ∷ near) later (suc k) le = drop_front near later k (omega arith)

starts_short : (near : List Event) (k : ℕ) (e : Event) → StartsWith (drop k near) e → k < length near
starts_short near k e starts = let long = ap length starts.1 in let less = length-drop k near in omega (arith, long, less)

starts_behind : (near later : List Event) (k : ℕ) (e : Event) → StartsWith (drop k near) e → StartsWith (drop k (pending_of near later)) e
starts_behind near later k e starts =
    let short = starts_short near k e starts in
    (starts.0 ++ in_order later, drop_front near (in_order later) k (omega arith) ∙ ap (λ xs. xs ++ in_order later) starts.1)

pub starts_behind_if : (near later : List Event) (k : ℕ) (r : Option (Bor Event)) → IfSome r (λ (e : Bor Event). StartsWith (drop k near) e.now) → IfSome r (λ (e : Bor Event). StartsWith (drop k (pending_of near later)) e.now)
starts_behind_if near later k None starts = tt
starts_behind_if near later k (Some e) starts = starts_behind near later k e.now starts

pub at_hand_if : (near : List Event) (k : ℕ) (r : Option (Bor Event)) → IfSome r (λ (e : Bor Event). StartsWith (drop k near) e.now) → OnSome r (k < length near)
at_hand_if near k None starts = tt
at_hand_if near k (Some e) starts = starts_short near k e.now starts

-- where an event goes
goes : (near : List Event) (tick : ℕ) (later : List Event) (e : Event) → AreInOrder near tick later → Each (λ (x : Event). tick ≤ time_part x.key.stamp) later → IsNewKey e.key (pending_of near later)
    → GoesNear near tick e → AllAfter e.key later × (time_part e.key.stamp ≤ tick)
goes near tick later e h all is_new (inl early) = (earlier_tick tick later e all early, omega arith)
goes near tick later e h all is_new (inr here) = (before_one near tick later e here.1.0 h is_new here.1.1 here.1.2, (let same = here.0 in omega arith))

pub goes_near : {near later old : List Event} {tick : ℕ} {e : Event} (it : Comes near tick later e old) (now : ℕ) → Each (λ (x : Event). tick ≤ time_part x.key.stamp) later → now ≡ tick → GoesNear near now e
    → AllAfter e.key later × (time_part e.key.stamp ≤ tick)
goes_near {near} {later} {tick = tick} {e = e} it now all is near_now = goes near tick later e it.held all it.new (rw is at near_now)

-- a queue that was settled, or that lost events
pub settled_order : {T E : Type 0} (r : Result T E) (old new : LevelsView) (near : List Event) → KeysDiffer old.events → length old.events < 2 ^ 60 → OnOk r (Refills old new near) → OnErr r (near ≡ [])
    → HasLeft old.events new.events → AreInOrder near new.tick new.events
settled_order (Ok x) old new near differ few refills none left = refilled old new near differ few refills
settled_order (Err e) old new near differ few refills none left = left_over near new.tick old.events new.events none differ few left

pub settled_pending : {T E : Type 0} (r : Result T E) (old new : LevelsView) (was near : List Event) → was ≡ [] → KeysDiffer old.events → length old.events < 2 ^ 60 → OnOk r (Refills old new near)
    → OnOk r (pending_of near new.events ≡ pending_of was old.events)
settled_pending (Ok x) old new was near none differ few refills = refilled_pending old new near differ few refills ∙ ap (λ xs. xs ++ in_order old.events) (sym none)
settled_pending (Err e) old new was near none differ few refills = tt

pub settled_hand : {T E : Type 0} (r : Result T E) (old new : LevelsView) (near : List Event) → OnOk r (Refills old new near) → OnOk r (length near ≡ 0 → pending_of near new.events ≡ [])
settled_hand (Ok x) old new near refills = refilled_settled old new near refills
settled_hand (Err e) old new near refills = tt

pub due_differ : (old new : LevelsView) (due : List Event) → KeysDiffer old.events → Advances old new due → KeysDiffer due
due_differ old new due differ h = Differ-prefix key_of due new.events (Differ-permutation key_of old.events (due ++ new.events) h.events differ)

-- the events that are due, in order
pub refills : (old new : LevelsView) (due near : List Event) → KeysDiffer old.events → Advances old new due → near ≡ in_order due → Refills old new near
refills old new due near differ h is =
    let P : List Event → Type 0 = Refills old new in
    subst P (sym is) record {
      events = IsPermutation-trans old.events (due ++ new.events) (in_order due ++ new.events) h.events (IsPermutation-append_left new.events due (in_order due) (in_order-permutation due));
      up = in_order-ascending due (due_differ old new due differ h);
      of_tick = Each-permutation (IsOfTick new.tick) due (in_order due) (in_order-permutation due) h.of_tick;
      later = h.later;
      some = λ none. h.some (no_length due (let same = length-in_order due in let no = ap length none in omega (arith, same, no)));
    }

-- no event comes anew
pub settled_left : (old new : LevelsView) (was near : List Event) {T E : Type 0} (r : Result T E) → was ≡ [] → OnOk r (Refills old new near) → OnErr r (near ≡ []) → HasLeft old.events new.events
    → HasLeft (pending_of was old.events) (pending_of near new.events)
settled_left old new was near (Ok x) none fills _ left =
    let P : List Event → Type 0 = λ xs. IsPermutation (pending_of xs old.events) (pending_of near new.events) in (
      [],
      subst P (sym none)
          (IsPermutation-trans (in_order old.events) old.events (pending_of near new.events) (IsPermutation-sym old.events (in_order old.events) (in_order-permutation old.events))
          (IsPermutation-trans old.events (near ++ new.events) (pending_of near new.events) fills.events (pending_moves near new.events))),
    )
settled_left old new was near (Err e) none _ empty left =
    let P : List Event → Type 0 = λ xs. IsPermutation (pending_of xs old.events) (left.0 ++ pending_of near new.events) in
    let Q : List Event → Type 0 = λ ys. IsPermutation (in_order old.events) (left.0 ++ pending_of ys new.events) in (
      left.0,
      subst P (sym none) (subst Q (sym empty)
          (IsPermutation-trans (in_order old.events) old.events (left.0 ++ in_order new.events) (IsPermutation-sym old.events (in_order old.events) (in_order-permutation old.events))
          (IsPermutation-trans old.events (left.0 ++ new.events) (left.0 ++ in_order new.events) left.1
          (IsPermutation-append_right left.0 new.events (in_order new.events) (in_order-permutation new.events))))),
    )

pub all_left : (es now : List Event) → now ≡ es → HasLeft es now
all_left es now same = let P : List Event → Type 0 = λ w. IsPermutation es w in ([], subst P (sym same) (IsPermutation-refl es))
