-- Lists that come from each of so many nodes.
use Rattle.std.proofs.Common.{◌≡◌, ◌≢◌, ⊎_elim, ℕ, zero, suc, cond, eqb, ◌+◌, ◌<◌, ◌≤◌, List, [], ◌∷◌, ◌++◌, length, sym, ap, subst, ◌∙◌, refl, arith, append_assoc}
use Rattle.std.specs.Prelude.{Some, slice_get, IsPermutation}
use Rattle.std.specs.List.{flat_map, range_with_len}
use Rattle.std.proofs.lemmas.Bool.{cases_eq, eq-eqb, ne_eqb}
use Rattle.std.proofs.lemmas.List.{append-nil, length-append}
use Rattle.std.proofs.lemmas.List.Concat.{flat_map-append}
use Rattle.std.proofs.lemmas.List.Sorted.{IsPermutation-refl, IsPermutation-sym, IsPermutation-trans, IsPermutation-append_left, IsPermutation-append_right, IsPermutation-append_comm, IsPermutation-to_front, length_permutation}
use Rattle.model_core.specs.declared.event.Event.{Event}
use Rattle.release_lanes.specs.declared.parcel.Parcel.{Parcel}
use Rattle.release_lanes.specs.Lanes.{AddsOne}
use Rattle.parcel_exchange.specs.Mail.{events_in, parcels_of, from_each}
use Rattle.parcel_exchange.specs.Exchange.{HasTaken}

module _ {T : Type 0} where
  -- equal lists are a permutation of each other
  pub same_permutes : (xs ys : List T) → xs ≡ ys → IsPermutation xs ys
  same_permutes xs ys e = let P : List T → Type 0 = λ l. IsPermutation xs l in subst P e (IsPermutation-refl xs)

  -- the second of three lists may go behind the third
  pub behind : (a b c : List T) → IsPermutation ((a ++ b) ++ c) ((a ++ c) ++ b)
  behind a b c =
      let P : List T → List T → Type 0 = λ l r. IsPermutation l r in
      rw (append_assoc a b c, append_assoc a c b) (IsPermutation-append_right a (b ++ c) (c ++ b) (IsPermutation-append_comm b c))

  -- of four lists the two in the middle may change places
  pub middle : (a b c d : List T) → IsPermutation ((a ++ b) ++ (c ++ d)) ((a ++ c) ++ (b ++ d))
  middle a b c d =
      rw (← append_assoc (a ++ b) c d, ← append_assoc (a ++ c) b d)
      (IsPermutation-append_left d ((a ++ b) ++ c) ((a ++ c) ++ b) (behind a b c))

  nothing_from : (a n : ℕ) → flat_map {A = T} (λ (k : ℕ). []) (range_with_len a n) ≡ []
  nothing_from a zero = refl
  nothing_from a (suc n) = nothing_from (a + 1) n

  same_from : (f g : ℕ → List T) (a n : ℕ) → ((k : ℕ) → a ≤ k → k < a + n → f k ≡ g k) → flat_map f (range_with_len a n) ≡ flat_map g (range_with_len a n)
  same_from f g a zero same = refl
  same_from f g a (suc n) same =
      ap (λ l. l ++ flat_map f (range_with_len (a + 1) n)) (same a (omega arith) (omega arith))
      ∙ ap (λ l. g a ++ l) (same_from f g (a + 1) n (λ k above below. same k (omega arith) (omega arith)))

  more_from : (f g : ℕ → List T) (at : ℕ) (more : List T) (a n : ℕ) → a ≤ at → at < a + n → IsPermutation (f at ++ more) (g at) → ((k : ℕ) → k < a + n → k ≢ at → g k ≡ f k)
      → IsPermutation (flat_map f (range_with_len a n) ++ more) (flat_map g (range_with_len a n))
  more_from f g at more a zero above below adds same = absurd (omega arith)
  more_from f g at more a (suc n) above below adds same =
      let rest = flat_map f (range_with_len (a + 1) n) in
      let later = flat_map g (range_with_len (a + 1) n) in
      ⊎_elim
      (λ (here : at ≡ a).
      let P : ℕ → Type 0 = λ k. IsPermutation (f k ++ more) (g k) in
      let others : rest ≡ later = same_from f g (a + 1) n (λ k low high. sym (same k (omega arith) (λ e. absurd (omega arith)))) in
      rw (← others)
      (IsPermutation-trans _ _ _ (behind (f a) rest more) (IsPermutation-append_left rest (f a ++ more) (g a) (subst P here adds))))
      (λ (there : at ≡ a → ⊥).
      let first : g a ≡ f a = same a (omega arith) (λ e. there (sym e)) in
      rw (first, append_assoc (f a) rest more)
      (IsPermutation-append_right (f a) (rest ++ more) later (more_from f g at more (a + 1) n (omega arith) (omega arith) adds (λ k high ne. same k (omega arith) ne))))
      (cases_eq at a)

  both_from : (f g : ℕ → List T) (a n : ℕ)
      → IsPermutation (flat_map (λ k. f k ++ g k) (range_with_len a n)) (flat_map f (range_with_len a n) ++ flat_map g (range_with_len a n))
  both_from f g a zero = IsPermutation-refl []
  both_from f g a (suc n) =
      let fs = flat_map f (range_with_len (a + 1) n) in
      let gs = flat_map g (range_with_len (a + 1) n) in
      IsPermutation-trans _ _ _
      (IsPermutation-append_right (f a ++ g a) (flat_map (λ k. f k ++ g k) (range_with_len (a + 1) n)) (fs ++ gs) (both_from f g (a + 1) n))
      (middle (f a) (g a) fs gs)

  listed_from : {C : Type 0} (h : C → List T) (f : ℕ → List T) (xs : List C) (a : ℕ) → ((k : ℕ) (x : C) → slice_get xs k ≡ Some x → f (a + k) ≡ h x)
      → flat_map f (range_with_len a (length xs)) ≡ flat_map h xs
  listed_from h f [] a are = refl
  listed_from h f (x ∷ xs) a are =
      let first : f a ≡ h x = ap f (omega arith) ∙ are 0 x refl in
      ap (λ l. l ++ flat_map f (range_with_len (a + 1) (length xs))) first
      ∙ ap (λ l. h x ++ l) (listed_from h f xs (a + 1) (λ k y at. ap f (omega arith) ∙ are (suc k) y at))

  pub from_each-none : (nodes : ℕ) → from_each {T = T} nodes (λ _. []) ≡ []
  unfolding from_each
  from_each-none nodes = nothing_from 0 nodes

  pub from_each-same : (nodes : ℕ) (f g : ℕ → List T) → ((k : ℕ) → k < nodes → f k ≡ g k) → from_each nodes f ≡ from_each nodes g
  unfolding from_each
  from_each-same nodes f g same = same_from f g 0 nodes (λ k low high. same k (omega arith))

  -- one of the lists has more, up to its order
  pub from_each-more : (nodes : ℕ) (f g : ℕ → List T) (at : ℕ) (more : List T) → at < nodes → IsPermutation (f at ++ more) (g at) → ((k : ℕ) → k < nodes → k ≢ at → g k ≡ f k)
      → IsPermutation (from_each nodes f ++ more) (from_each nodes g)
  unfolding from_each
  from_each-more nodes f g at more within adds same = more_from f g at more 0 nodes (omega arith) (omega arith) adds (λ k high ne. same k (omega arith) ne)

  -- two lists from each
  pub from_each-both : (nodes : ℕ) (f g : ℕ → List T) → IsPermutation (from_each nodes (λ k. f k ++ g k)) (from_each nodes f ++ from_each nodes g)
  unfolding from_each
  from_each-both nodes f g = both_from f g 0 nodes

  -- what comes from each is what stands at its place of a list
  pub from_each-listed : {C : Type 0} (h : C → List T) (f : ℕ → List T) (xs : List C) → ((k : ℕ) (x : C) → slice_get xs k ≡ Some x → f k ≡ h x) → from_each (length xs) f ≡ flat_map h xs
  unfolding from_each
  from_each-listed h f xs are = listed_from h f xs 0 (λ k x at. ap f (omega arith) ∙ are k x at)

-- the parcels that carry events carry them
pub events_in-parcels_of : (from : ℕ) (events : List Event) → events_in (parcels_of from events) ≡ events
events_in-parcels_of from [] = refl
events_in-parcels_of from (e ∷ es) = append-nil (e ∷ es)

-- the events of the last parcel are the last
pub last_events : (parcels : List Parcel) (parcel : Parcel) → events_in (parcels ++ parcel ∷ []) ≡ events_in parcels ++ parcel.events
last_events parcels parcel =
    flat_map-append (λ (p : Parcel). p.events) parcels (parcel ∷ []) ∙ ap (λ l. events_in parcels ++ l) (append-nil parcel.events)

-- what is taken from the back arrives
pub last_first : (arrived early last : List Event) → IsPermutation (arrived ++ (early ++ last)) ((arrived ++ last) ++ early)
last_first arrived early last = rw (← append_assoc arrived early last) (behind arrived early last)

-- nothing was taken
pub takes_none : (nodes : ℕ) (before after : ℕ → List Parcel) → ((from : ℕ) → after from ≡ before from) → HasTaken nodes before after []
takes_none nodes before after same = record {
  took = λ _. [];
  received = λ from less. same from ∙ sym (append-nil (before from));
  all = same_permutes _ _ (from_each-none nodes);
}

-- no more was taken
pub takes_same : (nodes : ℕ) (before mid after : ℕ → List Parcel) (parcels : List Parcel) → HasTaken nodes before mid parcels → ((from : ℕ) → after from ≡ mid from) → HasTaken nodes before after parcels
takes_same nodes before mid after parcels taken same = record { took = taken.took; received = λ from less. same from ∙ taken.received from less; all = taken.all }

-- one more parcel was taken
pub takes_more : (nodes from : ℕ) (before mid after : ℕ → List Parcel) (parcels : List Parcel) (parcel : Parcel) → HasTaken nodes before mid parcels → from < nodes → AddsOne mid after from parcel
    → HasTaken nodes before after (parcels ++ parcel ∷ [])
takes_more nodes from before mid after parcels parcel taken within adds =
    let took : ℕ → List Parcel = λ k. cond (eqb k from) (taken.took k ++ parcel ∷ []) (taken.took k) in
    let here : took from ≡ taken.took from ++ parcel ∷ [] = ap (λ b. cond b (taken.took from ++ parcel ∷ []) (taken.took from)) (eq-eqb from from refl) in
    let there : (k : ℕ) → k ≢ from → took k ≡ taken.took k = λ k ne. ap (λ b. cond b (taken.took k ++ parcel ∷ []) (taken.took k)) (ne_eqb k from ne) in
    let had : ℕ → List Event = λ k. events_in (taken.took k) in
    let has : ℕ → List Event = λ k. events_in (took k) in record {
      took = took;
      received = λ k less.
          ⊎_elim
          (λ (is : k ≡ from).
          let now = adds.0 ∙ ap (λ l. l ++ parcel ∷ []) (taken.received from within) ∙ append_assoc (before from) (taken.took from) (parcel ∷ []) ∙ ap (λ l. before from ++ l) (sym here) in
          rw is now)
          (λ (other : k ≡ from → ⊥). adds.1 k other ∙ taken.received k less ∙ ap (λ l. before k ++ l) (sym (there k other)))
          (cases_eq k from);
      all = rw (last_events parcels parcel)
          (IsPermutation-trans _ _ _
          (IsPermutation-sym _ _ (from_each-more nodes had has from parcel.events within (same_permutes _ _ (sym (ap events_in here ∙ last_events (taken.took from) parcel))) (λ k less ne. ap events_in (there k ne))))
          (IsPermutation-append_left parcel.events (from_each nodes had) (events_in parcels) taken.all));
    }

-- the first parcel from a node was taken of what rested
pub rests_less : (nodes at : ℕ) (before after : ℕ → List Parcel) (parcel : Parcel) → at < nodes → before at ≡ parcel ∷ after at → ((k : ℕ) → k < nodes → k ≢ at → before k ≡ after k)
    → IsPermutation (from_each nodes (λ k. events_in (after k)) ++ parcel.events) (from_each nodes (λ k. events_in (before k)))
    × (length (from_each nodes before) ≡ length (from_each nodes after) + 1)
rests_less nodes at before after parcel within first others =
    let P : List Event → Type 0 = λ l. IsPermutation (events_in (after at) ++ parcel.events) l in
    let Q : List Parcel → Type 0 = λ l. IsPermutation (after at ++ parcel ∷ []) l in
    let parcels = from_each-more nodes after before at (parcel ∷ []) within (subst Q (sym first) (IsPermutation-to_front (after at) parcel)) others in (
      from_each-more nodes (λ k. events_in (after k)) (λ k. events_in (before k)) at parcel.events within
          (subst P (ap events_in (sym first)) (IsPermutation-append_comm (events_in (after at)) parcel.events)) (λ k less ne. ap events_in (others k less ne)),
      length_permutation _ _ parcels ∙ length-append (from_each nodes after) (parcel ∷ []),
    )
