-- Events in slots, one slot after another.
use Rattle.std.proofs.Common.{◌≡◌, ◌≢◌, ℕ, zero, suc, ◌<◌, ◌%◌, ◌/◌, List, [], ◌∷◌, ◌++◌, length, replicate, get_or, sym, refl, ap, ◌∙◌, subst, inl, inr, arith}
use Rattle.std.specs.Prelude.{IsPermutation, slice_set, slice_index_or}
use Rattle.std.specs.List.{AllByRecursion as Each}
use Rattle.std.specs.Int.{bit_at}
use Rattle.std.proofs.Math.ListN.{get_or-eq_default, length-set}
use Rattle.std.proofs.lemmas.Bool.{cases_lt, cases_eq}
use Rattle.std.proofs.lemmas.Nat.Bits.{bit_at-zero}
use Rattle.std.proofs.lemmas.List.{get_or-set_same, get_or-set_other}
use Rattle.std.proofs.lemmas.List.Sorted.{IsPermutation-sym, IsPermutation-trans, IsPermutation-cons}
use Rattle.model_core.specs.declared.event.Event.{Event}
use Rattle.event_bags.specs.Views.{TakesFront, HasFront, MovesFront}
use Rattle.key_order.proofs.EachLemmas.{Each-append}
use Rattle.key_order.specs.Joined.{joined}
use Rattle.key_order.proofs.JoinedLemmas.{slot_first, slot_out}
use Rattle.tick_queue.specs.Marks.{mark_of}
use Rattle.tick_queue.specs.Slots.{SlotsView, AllEmpty, AreSlots}

-- an event comes into a slot
pub slot_put : (rs : List (List Event)) (i : ℕ) (e : Event) → i < length rs → IsPermutation (e ∷ joined rs) (joined (slice_set rs i (e ∷ slice_index_or rs i [])))
slot_put rs i e lt =
    IsPermutation-trans (e ∷ joined rs) (e ∷ (slice_index_or rs i [] ++ joined (slice_set rs i []))) (joined (slice_set rs i (e ∷ slice_index_or rs i [])))
    (IsPermutation-cons e (joined rs) (slice_index_or rs i [] ++ joined (slice_set rs i [])) (slot_out rs i lt))
    (IsPermutation-sym (joined (slice_set rs i (e ∷ slice_index_or rs i []))) ((e ∷ slice_index_or rs i []) ++ joined (slice_set rs i [])) (slot_first rs i (e ∷ slice_index_or rs i []) lt))

-- a slot that has events is one of the list
pub within_some : (rs : List (List Event)) (i : ℕ) (e : Event) (rest : List Event) → slice_index_or rs i [] ≡ e ∷ rest → i < length rs
within_some rs i e rest is =
    elim (cases_lt i (length rs)) [
      | inl lt ↦ lt
      | inr past ↦ absurd (let none : slice_index_or rs i [] ≡ [] = get_or-eq_default rs [] past in let long = ap length (sym none ∙ is) in omega (arith, long))
    ]

-- an event goes out of a slot
pub slot_take : (old new : List (List Event)) (i : ℕ) (e : Event) → TakesFront old new i e → IsPermutation (joined old) (e ∷ joined new)
slot_take old new i e h =
    let rest : List Event = h.0 in
    let was : slice_index_or old i [] ≡ e ∷ rest = h.1 in
    let lt : i < length old = within_some old i e rest was in
    let others : List Event = joined (slice_set old i []) in
    let P : List Event → Type 0 = λ w. IsPermutation (joined old) (w ++ others) in
    let Q : List (List Event) → Type 0 = λ w. IsPermutation (joined w) (rest ++ others) in
    IsPermutation-trans (joined old) (e ∷ (rest ++ others)) (e ∷ joined new) (subst P was (slot_out old i lt))
    (IsPermutation-cons e (rest ++ others) (joined new) (IsPermutation-sym (joined new) (rest ++ others) (subst Q (sym h.2) (slot_first old i rest lt))))

-- what holds in each slot holds of all
pub each_joined : (P : Event → Type 0) (ss : List (List Event)) → ((i : ℕ) → Each P (slice_index_or ss i [])) → Each P (joined ss)
each_joined P [] each = tt
each_joined P (s ∷ ss) each = Each-append P s (joined ss) (each zero) (each_joined P ss (λ i. each (suc i)))

pub none_joined : (ss : List (List Event)) → AllEmpty ss → joined ss ≡ []
none_joined [] each = refl
none_joined (s ∷ ss) each = ap (λ w. w ++ joined ss) (each zero) ∙ none_joined ss (λ i. each (suc i))

pub each_none : (P : Event → Type 0) (es : List Event) → es ≡ [] → Each P es
each_none P es none = let Q : List Event → Type 0 = Each P in subst Q (sym none) tt

-- the first event of a slot that has some
pub record HasFirst (es : List Event) : Type 0 where
  pub event : Event
  pub rest : List Event
  pub is : es ≡ event ∷ rest

pub first_event : (es : List Event) → es ≢ [] → HasFirst es
first_event [] some = absurd (some refl)
first_event (e ∷ es) some = record { event = e; rest = es; is = refl }

-- empty slots
abbrev no_event : List Event
no_event = []

empty_at : (n i : ℕ) → slice_index_or (replicate n no_event) i [] ≡ []
empty_at zero i = get_or-eq_default [] no_event {n = i} (omega arith)
empty_at (suc n) zero = refl
empty_at (suc n) (suc i) = empty_at n i

long_empty : (n : ℕ) → length (replicate n no_event) ≡ n
long_empty zero = refl
long_empty (suc n) = ap suc (long_empty n)

pub all_empty : (slots : List (List Event)) (n : ℕ) → slots ≡ replicate n [] → AllEmpty slots
all_empty slots n is i = ap (λ ss. slice_index_or ss i []) is ∙ empty_at n i

abbrev pub zeros : List ℕ
zeros = 0 ∷ 0 ∷ 0 ∷ 0 ∷ 0 ∷ 0 ∷ 0 ∷ 0 ∷ []

zero_at : (k : ℕ) → get_or zeros k 0 ≡ 0
zero_at zero = refl
zero_at (suc zero) = refl
zero_at (suc (suc zero)) = refl
zero_at (suc (suc (suc zero))) = refl
zero_at (suc (suc (suc (suc zero)))) = refl
zero_at (suc (suc (suc (suc (suc zero))))) = refl
zero_at (suc (suc (suc (suc (suc (suc zero)))))) = refl
zero_at (suc (suc (suc (suc (suc (suc (suc zero))))))) = refl
zero_at (suc (suc (suc (suc (suc (suc (suc (suc k)))))))) = get_or-eq_default [] 0 {n = k} (omega arith)

pub slots-none : (slots : List (List Event)) (n : ℕ) → n ≡ 512 → slots ≡ replicate n [] → AreSlots zeros slots
slots-none slots n all is = record {
  long = ap length is ∙ long_empty n ∙ all;
  clear = λ i _. all_empty slots n is i;
  full = λ i one. absurd (let z = ap (λ n. bit_at n (i % 64)) (zero_at (i / 64)) ∙ bit_at-zero (i % 64) in omega (arith, z, one));
}

-- what is read after a slot was written
pub read_same : (slots new : List (List Event)) (slot : ℕ) (es : List Event) → slot < length slots → new ≡ slice_set slots slot es → slice_index_or new slot [] ≡ es
read_same slots new slot es lt is = ap (λ ss. slice_index_or ss slot []) is ∙ get_or-set_same slots slot es [] lt

pub read_other : (slots new : List (List Event)) (slot i : ℕ) (es : List Event) → i ≢ slot → new ≡ slice_set slots slot es → slice_index_or new i [] ≡ slice_index_or slots i []
read_other slots new slot i es ne is = ap (λ ss. slice_index_or ss i []) is ∙ get_or-set_other slots slot i es [] ne

-- the front of one slot went to another
pub record Moved (old new : List (List Event)) (from to : ℕ) : Type 0 where
  pub some : slice_index_or old from [] ≢ []
  pub long : length new ≡ length old
  pub full : slice_index_or new to [] ≢ []
  pub others : (i : ℕ) → i ≢ to → i ≢ from → slice_index_or new i [] ≡ slice_index_or old i []

pub slots_moved : {marks : List ℕ} {old : List (List Event)} {spare : ℕ} {seen : SlotsView} (new : List (List Event)) (from to : ℕ) → AreSlots marks old → record { slots = old; spare = spare } ≡ seen
    → to < 512 → slice_index_or seen.slots from [] ≢ [] → ((event : Event) → HasFront old from event → MovesFront old new from to event) → Moved old new from to
slots_moved {old = old} {seen = seen} new from to are view within seen_some moves =
    let same : old ≡ seen.slots = ap (λ (v : SlotsView). v.slots) view in
    let some : slice_index_or old from [] ≢ [] = λ none. seen_some (ap (λ ss. slice_index_or ss from []) (sym same) ∙ none) in
    let first = first_event (slice_index_or old from []) some in
    let moved = moves first.event (first.rest, first.is) in
    let between : List (List Event) = moved.0 in
    let rest : List Event = moved.1.0 in
    let long : length between ≡ length old = ap length moved.1.2 ∙ length-set old from rest in
    let front : List Event = first.event ∷ slice_index_or between to [] in
    let here : slice_index_or new to [] ≡ front = read_same between new to front (let all = are.long in omega (arith, long, all)) moved.2 in
    record {
      some = some;
      long = ap length moved.2 ∙ length-set between to front ∙ long;
      full = λ none. let two : front ≡ [] = sym here ∙ none in cc two;
      others = λ i far apart. read_other between new to i front far moved.2 ∙ read_other old between from i rest apart moved.1.2;
    }

pub moves_seen : {old new : List (List Event)} {spare : ℕ} {seen : SlotsView} (from to : ℕ) → record { slots = old; spare = spare } ≡ seen → ((event : Event) → HasFront old from event → MovesFront old new from to event)
    → (event : Event) → HasFront seen.slots from event → MovesFront seen.slots new from to event
moves_seen {new = new} from to view moves =
    let P : SlotsView → Type 0 = λ v. (event : Event) → HasFront v.slots from event → MovesFront v.slots new from to event in
    subst P view moves

-- the marks still say which slots have events, where that one has more
pub still_slots : (marks marks2 : List ℕ) (old new : List (List Event)) (from to : ℕ) → AreSlots marks old → Moved old new from to → slice_index_or new from [] ≢ []
    → mark_of marks2 to ≡ 1 → ((i : ℕ) → i ≢ to → mark_of marks2 i ≡ mark_of marks i) → AreSlots marks2 new
still_slots marks marks2 old new from to are moved left set others = record {
  long = moved.long ∙ are.long;
  clear = λ i zero. elim (cases_eq i to) [
    | inl same ↦ absurd (let one = ap (mark_of marks2) same ∙ set in omega (arith, one, zero))
    | inr far ↦
        let was : mark_of marks i ≡ 0 = sym (others i far) ∙ zero in
        elim (cases_eq i from) [
          | inl here ↦ absurd (moved.some (sym (ap (λ n. slice_index_or old n []) here) ∙ are.clear i was))
          | inr apart ↦ moved.others i far apart ∙ are.clear i was
        ]
  ];
  full = λ i one none. elim (cases_eq i to) [
    | inl same ↦ moved.full (sym (ap (λ n. slice_index_or new n []) same) ∙ none)
    | inr far ↦ elim (cases_eq i from) [
      | inl here ↦ left (sym (ap (λ n. slice_index_or new n []) here) ∙ none)
      | inr apart ↦ are.full i (sym (others i far) ∙ one) (sym (moved.others i far apart) ∙ none)
    ]
  ];
}

-- and where it has none any more
pub left_slots : (marks marks2 marks3 : List ℕ) (old new : List (List Event)) (from to : ℕ) → AreSlots marks old → Moved old new from to → slice_index_or new from [] ≡ []
    → mark_of marks2 to ≡ 1 → ((i : ℕ) → i ≢ to → mark_of marks2 i ≡ mark_of marks i) → mark_of marks3 from ≡ 0 → ((i : ℕ) → i ≢ from → mark_of marks3 i ≡ mark_of marks2 i) → AreSlots marks3 new
left_slots marks marks2 marks3 old new from to are moved none set others gone stay = record {
  long = moved.long ∙ are.long;
  clear = λ i zero. elim (cases_eq i from) [
    | inl here ↦ ap (λ n. slice_index_or new n []) here ∙ none
    | inr apart ↦
        let before : mark_of marks2 i ≡ 0 = sym (stay i apart) ∙ zero in
        elim (cases_eq i to) [
          | inl same ↦ absurd (let one = ap (mark_of marks2) same ∙ set in omega (arith, one, before))
          | inr far ↦ moved.others i far apart ∙ are.clear i (sym (others i far) ∙ before)
        ]
  ];
  full = λ i one empty. elim (cases_eq i from) [
    | inl here ↦ let zero = ap (mark_of marks3) here ∙ gone in omega (arith, zero, one)
    | inr apart ↦ elim (cases_eq i to) [
      | inl same ↦ moved.full (sym (ap (λ n. slice_index_or new n []) same) ∙ empty)
      | inr far ↦ are.full i (sym (others i far) ∙ (sym (stay i apart) ∙ one)) (sym (moved.others i far apart) ∙ empty)
    ]
  ];
}
