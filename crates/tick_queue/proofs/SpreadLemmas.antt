-- Events that go from slot to slot.
use Rattle.std.proofs.Common.{◌≡◌, ◌≢◌, ℕ, ◌+◌, ◌*◌, ◌/◌, ◌^◌, ◌<◌, ◌≤◌, List, [], ◌∷◌, ◌++◌, length, append-nil, sym, ap, ◌∙◌, subst, inl, inr, arith}
use Rattle.std.specs.Prelude.{IsPermutation, Result, Ok, Err, OnOk, OnErr, slice_set, slice_index_or}
use Rattle.std.specs.List.{AllByRecursion as Each}
use Rattle.std.proofs.Math.ListN.{length-set}
use Rattle.std.proofs.lemmas.Bool.{cases_eq}
use Rattle.std.proofs.lemmas.List.{set-set}
use Rattle.std.proofs.lemmas.List.Sorted.{IsPermutation-refl, IsPermutation-trans}
use Rattle.event_key.specs.Stamps.{time_part}
use Rattle.model_core.specs.declared.event.Event.{Event}
use Rattle.event_bags.specs.Views.{TakesFront, HasFront, MovesFront}
use Rattle.tick_queue.specs.Digits.{InSlot}
use Rattle.tick_queue.specs.Slots.{SlotsView}
use Rattle.key_order.specs.Joined.{joined}
use Rattle.tick_queue.specs.Levels.{StandsIn, StandIn, PutsIn, Spreads, HasLeft}
use Rattle.tick_queue.proofs.SlotLemmas.{read_same, read_other, slot_put, slot_take, within_some, each_none}

-- events of one slot that begin with the digits of the tick at hand
abbrev pub Begins : ℕ → ℕ → Event → Type 0
Begins now slot e = (now ≤ time_part e.key.stamp) × (time_part e.key.stamp / 2 ^ (6 * (slot / 64)) ≡ now / 2 ^ (6 * (slot / 64)))

-- such an event belongs into another slot
leaves : (now slot p : ℕ) (e : Event) → 64 ≤ slot → Begins now slot e → InSlot now p (time_part e.key.stamp) → p ≢ slot
leaves now slot p e high begins at same =
    let P : ℕ → Type 0 = λ n. InSlot now n (time_part e.key.stamp) in
    let here = subst P same at in
    let after = here.after (omega arith) in
    let digits = begins.1 in
    omega (arith, after, digits)

pub record Spread (now slot : ℕ) (s0 s2 : List (List Event)) : Type 0 where
  pub spreads : Spreads now slot s2
  pub events : IsPermutation (joined s0) (joined s2)
  pub fewer : length (slice_index_or s2 slot []) + 1 ≡ length (slice_index_or s0 slot [])

-- one of them goes there
pub spreads_step : (now slot : ℕ) (s0 s1 s2 : List (List Event)) (e : Event) → Spreads now slot s0 → TakesFront s0 s1 slot e → PutsIn now s1 s2 e → Spread now slot s0 s2
spreads_step now slot s0 s1 s2 e h takes puts =
    let rest : List Event = takes.0 in
    let p : ℕ = puts.slot in
    let within : slot < length s0 = within_some s0 slot e rest takes.1 in
    let P : List Event → Type 0 = Each (Begins now slot) in
    let begins = subst P takes.1 h.begins in
    let ne : p ≢ slot = leaves now slot p e h.high begins.0 puts.at in
    let left : slice_index_or s1 slot [] ≡ rest = read_same s0 s1 slot rest within takes.2 in
    let front : List Event = e ∷ slice_index_or s1 p [] in
    let here : slice_index_or s2 slot [] ≡ rest = read_other s1 s2 p slot front (λ same. ne (sym same)) puts.is ∙ left in
    let more = ap length here in
    let had = ap length takes.1 in
    let Q : List (List Event) → Type 0 = λ ss. IsPermutation (e ∷ joined s1) (joined ss) in
    record {
      spreads = record {
        small = h.small;
        high = h.high;
        begins = subst P (sym here) begins.1;
        others = λ i apart. elim (cases_eq i p) [
          | inl same ↦
              let R : ℕ → Type 0 = λ n. Each (StandsIn now n) (slice_index_or s2 n []) in
              let S : List Event → Type 0 = Each (StandsIn now p) in
              let was : slice_index_or s1 p [] ≡ slice_index_or s0 p [] = read_other s0 s1 slot p rest ne takes.2 in
              subst R (sym same) (subst S (sym (read_same s1 s2 p front puts.within puts.is)) (puts.at, subst S (sym was) (h.others p ne)))
          | inr far ↦
              let S : List Event → Type 0 = Each (StandsIn now i) in
              subst S (sym (read_other s1 s2 p i front far puts.is ∙ read_other s0 s1 slot i rest apart takes.2)) (h.others i apart)
        ];
      };
      events = IsPermutation-trans (joined s0) (e ∷ joined s1) (joined s2) (slot_take s0 s1 slot e takes) (subst Q (sym puts.is) (slot_put s1 p e puts.within));
      fewer = omega (arith, more, had);
    }

-- the first of them goes there
pub spreads_move : (now slot to : ℕ) (old new : List (List Event)) (e : Event) → Spreads now slot old → HasFront old slot e → length old ≡ 512
    → ((event : Event) → HasFront old slot event → MovesFront old new slot to event) → to < 512 → InSlot now to (time_part e.key.stamp) → Spread now slot old new
spreads_move now slot to old new e h front long moves within at =
    let moved = moves e front in
    let same : length moved.0 ≡ length old = ap length moved.1.2 ∙ length-set old slot moved.1.0 in
    spreads_step now slot old moved.0 new e h moved.1 (record { slot = to; within = omega (arith, same, long); at = at; is = moved.2 })

pub front_begins : (now slot : ℕ) (slots : List (List Event)) (e : Event) → Spreads now slot slots → HasFront slots slot e → Begins now slot e
front_begins now slot slots e h front = let P : List Event → Type 0 = Each (Begins now slot) in (subst P front.1 h.begins).0

-- all have gone
pub spreads_end : (now slot : ℕ) (slots : List (List Event)) → Spreads now slot slots → slice_index_or slots slot [] ≡ [] → StandIn now slots
spreads_end now slot slots h none i =
    elim (cases_eq i slot) [
      | inl same ↦
          let R : ℕ → Type 0 = λ n. Each (StandsIn now n) (slice_index_or slots n []) in
          subst R (sym same) (each_none (StandsIn now slot) (slice_index_or slots slot []) none)
      | inr ne ↦ h.others i ne
    ]

-- all events of a slot are taken, or none where memory runs out
pub taken_others : {T E : Type 0} (r : Result T E) (old new : SlotsView) (slot : ℕ) → OnOk r (new.slots ≡ slice_set old.slots slot []) → OnErr r (new ≡ old)
    → slice_set new.slots slot [] ≡ slice_set old.slots slot []
taken_others (Ok x) old new slot ok err = ap (λ ss. slice_set ss slot []) ok ∙ set-set old.slots slot [] []
taken_others (Err e) old new slot ok err = ap (λ (v : SlotsView). slice_set v.slots slot []) err

pub taken_left : {T E : Type 0} (r : Result T E) (old new : SlotsView) (slot : ℕ) → slot < length old.slots → OnOk r (new.slots ≡ slice_set old.slots slot []) → OnErr r (new ≡ old)
    → HasLeft (slice_index_or old.slots slot []) (slice_index_or new.slots slot [])
taken_left (Ok x) old new slot lt ok err =
    let all : List Event = slice_index_or old.slots slot [] in
    let none : slice_index_or new.slots slot [] ≡ [] = read_same old.slots new.slots slot [] lt ok in
    let P : List Event → Type 0 = λ w. IsPermutation all w in
    (all, subst P (sym (ap (λ w. all ++ w) none ∙ append-nil all)) (IsPermutation-refl all))
taken_left (Err e) old new slot lt ok err =
    let all : List Event = slice_index_or old.slots slot [] in
    let P : SlotsView → Type 0 = λ v. IsPermutation all (slice_index_or v.slots slot []) in
    ([], subst P (sym err) (IsPermutation-refl all))

pub taken_moves : {T E : Type 0} (r : Result T E) (all before after : List Event) → before ≡ [] → OnOk r (after ≡ before ++ all) → OnOk r (IsPermutation all after)
taken_moves (Ok x) all before after none is =
    let P : List Event → Type 0 = λ w. IsPermutation all w in
    subst P (sym (is ∙ ap (λ w. w ++ all) none)) (IsPermutation-refl all)
taken_moves (Err e) all before after none is = tt
