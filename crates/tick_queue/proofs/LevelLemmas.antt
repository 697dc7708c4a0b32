-- The first slot that has events is opened: its tick is at hand.
use Rattle.std.proofs.Common.{◌≡◌, ◌≢◌, ℕ, ◌*◌, ◌/◌, ◌^◌, ◌<◌, ◌≤◌, List, [], ◌∷◌, ◌++◌, length, append_assoc, sym, refl, ap, ◌∙◌, subst, inl, inr, arith}
use Rattle.std.specs.Prelude.{IsPermutation, Result, Ok, Err, OnOk, slice_set, slice_index_or}
use Rattle.std.specs.List.{AllByRecursion as Each}
use Rattle.std.proofs.lemmas.Bool.{cases_lt, cases_eq}
use Rattle.std.proofs.lemmas.List.{get_or-set_same, get_or-set_other, length-set}
use Rattle.std.proofs.lemmas.List.Sorted.{IsPermutation-sym, IsPermutation-trans, IsPermutation-append_left, IsPermutation-append_right, length_permutation}
use Rattle.event_key.specs.Stamps.{time_part}
use Rattle.model_core.specs.declared.event.Event.{Event}
use Rattle.key_order.proofs.EachLemmas.{Each-map, Each-back}
use Rattle.key_order.proofs.MemberLemmas.{Each-permutation}
use Rattle.tick_queue.specs.Digits.{InSlot}
use Rattle.key_order.specs.Joined.{joined}
use Rattle.tick_queue.specs.Levels.{LevelsView, StandsIn, AreLevels, PutsIn, Spreads, HasLeft, IsOfTick, IsLaterThan, Advances}
use Rattle.tick_queue.specs.Slots.{AllEmpty, IsFirst}
use Rattle.tick_queue.proofs.DigitLemmas.{slots_less, slots_later, tick_small}
use Rattle.tick_queue.proofs.FirstLemmas.{first_of, first_le, first_digits, first_lowest, first_stands, first_after}
use Rattle.key_order.proofs.JoinedLemmas.{slot_out}
use Rattle.tick_queue.proofs.SlotLemmas.{slot_put, each_joined, none_joined, each_none, first_event, within_some, read_same, read_other}

-- some tick stands in the first slot
pub some_stands : (tick slot : ℕ) (slots : List (List Event)) → AreLevels tick slots → IsFirst slots slot → (t : ℕ) × (t < 2 ^ 48) × InSlot tick slot t
some_stands tick slot slots h first =
    let f = first_event (slice_index_or slots slot []) first.some in
    let P : List Event → Type 0 = Each (StandsIn tick slot) in
    let at = (subst P f.is (h.stand slot)).0 in
    (time_part f.event.key.stamp, tick_small tick slot (time_part f.event.key.stamp) h.small first.small at, at)

-- the tick to which now goes on
abbrev pub GoesTo : ℕ → ℕ → ℕ → Type 0
GoesTo tick slot next = (t : ℕ) → InSlot tick slot t → next ≡ first_of slot t

pub next_stands : (tick slot next : ℕ) (slots : List (List Event)) → AreLevels tick slots → IsFirst slots slot → GoesTo tick slot next → InSlot tick slot next
next_stands tick slot next slots h first goes =
    let some = some_stands tick slot slots h first in first_stands tick slot some.0 next some.2 (goes some.0 some.2)

pub next_small : (tick slot next : ℕ) (slots : List (List Event)) → AreLevels tick slots → IsFirst slots slot → GoesTo tick slot next → next < 2 ^ 48
next_small tick slot next slots h first goes =
    let some = some_stands tick slot slots h first in
    let is = goes some.0 some.2 in
    let le = first_le slot some.0 in
    let small = some.1 in
    omega arith

-- the events of other slots stand where they should
others_stand : (tick slot next : ℕ) (slots : List (List Event)) → AreLevels tick slots → IsFirst slots slot → InSlot tick slot next
    → (i : ℕ) → i ≢ slot → Each (StandsIn next i) (slice_index_or slots i [])
others_stand tick slot next slots h first at i ne =
    elim (cases_lt i slot) [
      | inl before ↦ each_none (StandsIn next i) (slice_index_or slots i []) (first.none i before)
      | inr after ↦
          Each-map (StandsIn tick i) (StandsIn next i) (slice_index_or slots i [])
          (λ e stands. slots_later tick slot next i (time_part e.key.stamp) at stands (omega arith)) (h.stand i)
    ]

-- a slot of a higher level is to be spread
pub opened : (tick slot next : ℕ) (slots : List (List Event)) → AreLevels tick slots → IsFirst slots slot → GoesTo tick slot next → 64 ≤ slot → Spreads next slot slots
opened tick slot next slots h first goes high = record {
  small = next_small tick slot next slots h first goes;
  high = high;
  begins = Each-map (StandsIn tick slot) (λ (e : Event). (next ≤ time_part e.key.stamp) × (time_part e.key.stamp / 2 ^ (6 * (slot / 64)) ≡ next / 2 ^ (6 * (slot / 64)))) (slice_index_or slots slot [])
      (λ e stands.
      let is = goes (time_part e.key.stamp) stands in
      let le = first_le slot (time_part e.key.stamp) in
      (omega (arith, is, le), sym (ap (λ n. n / 2 ^ (6 * (slot / 64))) is ∙ first_digits slot (time_part e.key.stamp))))
      (h.stand slot);
  others = others_stand tick slot next slots h first (next_stands tick slot next slots h first goes);
}

-- the events of a slot of the lowest level are of the tick at hand
pub lowest : (tick slot next : ℕ) (slots : List (List Event)) → AreLevels tick slots → GoesTo tick slot next → slot < 64 → Each (IsOfTick next) (slice_index_or slots slot [])
lowest tick slot next slots h goes low =
    Each-map (StandsIn tick slot) (IsOfTick next) (slice_index_or slots slot [])
    (λ e stands. first_lowest slot (time_part e.key.stamp) next low (goes (time_part e.key.stamp) stands)) (h.stand slot)

-- so they stand there still
own_slot : (tick slot next t : ℕ) → slot < 64 → InSlot tick slot next → t ≡ next → InSlot next slot t
own_slot tick slot next t low at same =
    let P : ℕ → Type 0 = InSlot next slot in
    subst P (sym same) record { from = omega arith; above = refl; digit_is = at.digit_is; after = λ some. absurd (omega arith) }

-- some events of that slot are taken
pub levels-taken : (tick slot next : ℕ) (slots new : List (List Event)) → AreLevels tick slots → IsFirst slots slot → GoesTo tick slot next → slot < 64
    → slice_set new slot [] ≡ slice_set slots slot [] → HasLeft (slice_index_or slots slot []) (slice_index_or new slot []) → AreLevels next new
levels-taken tick slot next slots new h first goes low same left =
    let at = next_stands tick slot next slots h first goes in
    record {
      small = next_small tick slot next slots h first goes;
      stand = λ i. elim (cases_eq i slot) [
        | inl is ↦
            let P : ℕ → Type 0 = λ n. Each (StandsIn next n) (slice_index_or new n []) in
            let all = Each-map (IsOfTick next) (StandsIn next slot) (slice_index_or slots slot []) (λ e of_tick. own_slot tick slot next (time_part e.key.stamp) low at of_tick)
            (lowest tick slot next slots h goes low) in
            subst P (sym is) (Each-back (StandsIn next slot) left.0 (slice_index_or new slot [])
            (Each-permutation (StandsIn next slot) (slice_index_or slots slot []) (left.0 ++ slice_index_or new slot []) left.1 all))
        | inr ne ↦
            let P : List Event → Type 0 = Each (StandsIn next i) in
            let is : slice_index_or slots i [] ≡ slice_index_or new i [] =
            sym (get_or-set_other slots slot i [] [] ne) ∙ ap (λ ss. slice_index_or ss i []) (sym same) ∙ get_or-set_other new slot i [] [] ne in
            subst P is (others_stand tick slot next slots h first at i ne)
      ];
    }

-- no event is lost but those that were taken
pub taken_from : (slots new : List (List Event)) (slot : ℕ) (gone : List Event) → slot < length slots → slot < length new
    → slice_set new slot [] ≡ slice_set slots slot [] → IsPermutation (slice_index_or slots slot []) (gone ++ slice_index_or new slot [])
    → IsPermutation (joined slots) (gone ++ joined new)
taken_from slots new slot gone lt lt_new same moves =
    let others : List Event = joined (slice_set slots slot []) in
    let left : List Event = slice_index_or new slot [] in
    let P : List Event → Type 0 = λ w. IsPermutation (joined slots) w in
    let Q : List Event → Type 0 = λ w. IsPermutation (joined new) (left ++ w) in
    let back : IsPermutation (joined new) (left ++ others) = subst Q (ap joined same) (slot_out new slot lt_new) in
    IsPermutation-trans (joined slots) (gone ++ (left ++ others)) (gone ++ joined new)
    (subst P (append_assoc gone left others)
    (IsPermutation-trans (joined slots) (slice_index_or slots slot [] ++ others) ((gone ++ left) ++ others) (slot_out slots slot lt)
    (IsPermutation-append_left others (slice_index_or slots slot []) (gone ++ left) moves)))
    (IsPermutation-append_right gone (left ++ others) (joined new) (IsPermutation-sym (joined new) (left ++ others) back))

-- all are taken
pub advances : (tick slot next : ℕ) (slots new : List (List Event)) (due : List Event) (old now : LevelsView) → AreLevels tick slots → IsFirst slots slot → GoesTo tick slot next → slot < 64
    → IsPermutation old.events (joined slots) → new ≡ slice_set slots slot [] → IsPermutation (slice_index_or slots slot []) due
    → now.tick ≡ next → now.events ≡ joined new → Advances old now due
advances tick slot next slots new due old now h first goes low moves is taken is_tick is_events =
    let f = first_event (slice_index_or slots slot []) first.some in
    let lt : slot < length slots = within_some slots slot f.event f.rest f.is in
    let at = next_stands tick slot next slots h first goes in
    let left : List Event = joined (slice_set slots slot []) in
    let same : left ≡ now.events = ap joined (sym is) ∙ sym is_events in
    let P : List Event → Type 0 = λ w. IsPermutation old.events (due ++ w) in
    let later : Each (IsLaterThan next) left = each_joined (IsLaterThan next) (slice_set slots slot []) (λ i. elim (cases_eq i slot) [
      | inl here ↦ each_none (IsLaterThan next) (slice_index_or (slice_set slots slot []) i []) (ap (λ n. slice_index_or (slice_set slots slot []) n []) here ∙ get_or-set_same slots slot [] [] lt)
      | inr ne ↦ (
          let Q : List Event → Type 0 = Each (IsLaterThan next) in
          let read : slice_index_or slots i [] ≡ slice_index_or (slice_set slots slot []) i [] = sym (get_or-set_other slots slot i [] [] ne) in
          subst Q read (elim (cases_lt i slot) [
            | inl before ↦ each_none (IsLaterThan next) (slice_index_or slots i []) (first.none i before)
            | inr after ↦
                Each-map (StandsIn tick i) (IsLaterThan next) (slice_index_or slots i [])
                (λ e stands. slots_less tick slot next i (time_part e.key.stamp) at stands (omega arith)) (h.stand i)
          ]))
    ]) in
    let R : ℕ → List Event → Type 0 = λ n w. Each (IsLaterThan n) w in
    let S : ℕ → Type 0 = λ n. Each (IsOfTick n) due in
    let AllLater : List Event → Type 0 = λ w. Each (IsLaterThan next) w in
    let LaterThanTick : ℕ → Type 0 = λ n. Each (IsLaterThan n) now.events in
    record {
      events = subst P same
          (IsPermutation-trans old.events (joined slots) (due ++ left) moves
          (IsPermutation-trans (joined slots) (slice_index_or slots slot [] ++ left) (due ++ left) (slot_out slots slot lt) (IsPermutation-append_left left (slice_index_or slots slot []) due taken)));
      of_tick = subst S (sym is_tick) (Each-permutation (IsOfTick next) (slice_index_or slots slot []) due taken (lowest tick slot next slots h goes low));
      later = subst LaterThanTick (sym is_tick) (subst AllLater same later);
      some = λ none. absurd (
          let long = length_permutation (slice_index_or slots slot []) due taken in
          let had = ap length f.is in
          let no = ap length none in
          omega (arith, long, had, no));
    }

-- nothing is left
pub advances_none : (slots : List (List Event)) (due : List Event) (old now : LevelsView) → AllEmpty slots → IsPermutation old.events (joined slots) → due ≡ [] → now.events ≡ joined slots → Advances old now due
advances_none slots due old now none moves no_due is_events =
    let no : now.events ≡ [] = is_events ∙ none_joined slots none in
    let P : List Event → Type 0 = λ w. IsPermutation old.events (w ++ now.events) in
    let Q : List Event → Type 0 = λ w. IsPermutation old.events w in
    record {
      events = subst P (sym no_due) (subst Q (sym is_events) moves);
      of_tick = each_none (IsOfTick now.tick) due no_due;
      later = each_none (IsLaterThan now.tick) now.events no;
      some = λ _. no;
    }

-- an event is placed
pub placed : (tick : ℕ) (slots new : List (List Event)) (e : Event) → AreLevels tick slots → PutsIn tick slots new e → AreLevels tick new
placed tick slots new e h puts = record {
  small = h.small;
  stand = λ i. elim (cases_eq i puts.slot) [
    | inl is ↦
        let P : ℕ → Type 0 = λ n. Each (StandsIn tick n) (slice_index_or new n []) in
        let Q : List Event → Type 0 = Each (StandsIn tick puts.slot) in
        subst P (sym is) (subst Q (sym (read_same slots new puts.slot (e ∷ slice_index_or slots puts.slot []) puts.within puts.is)) (puts.at, h.stand puts.slot))
    | inr ne ↦
        let Q : List Event → Type 0 = Each (StandsIn tick i) in
        subst Q (sym (read_other slots new puts.slot i (e ∷ slice_index_or slots puts.slot []) ne puts.is)) (h.stand i)
  ];
}

pub placed_events : (tick : ℕ) (slots new : List (List Event)) (e : Event) → PutsIn tick slots new e → IsPermutation (e ∷ joined slots) (joined new)
placed_events tick slots new e puts =
    let P : List (List Event) → Type 0 = λ ss. IsPermutation (e ∷ joined slots) (joined ss) in
    subst P (sym puts.is) (slot_put slots puts.slot e puts.within)

-- all events are of the tick at hand or later
pub all_from : (tick : ℕ) (slots : List (List Event)) → AreLevels tick slots → Each (λ (e : Event). tick ≤ time_part e.key.stamp) (joined slots)
all_from tick slots h =
    each_joined (λ (e : Event). tick ≤ time_part e.key.stamp) slots
    (λ i. Each-map (StandsIn tick i) (λ (e : Event). tick ≤ time_part e.key.stamp) (slice_index_or slots i []) (λ e stands. stands.from) (h.stand i))

pub levels-none : (slots : List (List Event)) → AllEmpty slots → AreLevels 0 slots
levels-none slots none = record {
  small = omega arith;
  stand = λ i. each_none (StandsIn 0 i) (slice_index_or slots i []) (none i);
}

-- now goes on
pub next_after : (tick slot next : ℕ) (slots : List (List Event)) → AreLevels tick slots → IsFirst slots slot → GoesTo tick slot next → 64 ≤ slot → tick < next
next_after tick slot next slots h first goes high =
    let some = some_stands tick slot slots h first in first_after tick slot some.0 next high some.2 (goes some.0 some.2)

pub same_long : (slots new : List (List Event)) (slot : ℕ) → slice_set new slot [] ≡ slice_set slots slot [] → length new ≡ length slots
same_long slots new slot same = sym (length-set new slot []) ∙ ap length same ∙ length-set slots slot []

pub ok_both : {T E : Type 0} (r : Result T E) (A B C : Type 0) → OnOk r A → OnOk r B → (A → B → C) → OnOk r C
ok_both (Ok x) A B C a b gives = gives a b
ok_both (Err e) A B C a b gives = tt
