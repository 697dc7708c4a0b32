-- What the nodes send and tell, node by node, is what the whole sends and tells.
use Rattle.std.proofs.Common.{Bool, List, [], ap, append_assoc, arith, cond, eqb, eqb-true, false, le-ltb, lt-ltb, ltb, ltb-false, ltb-true, refl, subst, suc, sym, true, zero, ℕ, ◌++◌, ◌<◌, ◌∙◌, ◌∷◌, ◌≡◌}
use Rattle.std.proofs.lemmas.Bool.{eqb-false}
use Rattle.std.proofs.lemmas.List.Elements.{filter-append}
use Rattle.std.proofs.lemmas.List.Sorted.{Contains-permutation, IsPermutation-append_comm, IsPermutation-append_left, IsPermutation-append_right, IsPermutation-refl, IsPermutation-sym, IsPermutation-trans}
use Rattle.std.specs.List.{AllByRecursion as Each}
use Rattle.std.specs.Prelude.{IsPermutation, filter}
use Rattle.event_key.specs.declared.key.Key.{Key}
use Rattle.model_core.specs.declared.event.Event.{Event}
use Rattle.model_core.specs.declared.note.Note.{Note}
use Rattle.sim_spec.specs.Cut.{emissions_of, events_of, records_of}
use Rattle.sim_spec.specs.Firing.{Firing}
use Rattle.key_order.specs.Ascending.{IsAscending, Ascends}
use Rattle.world_spec.specs.Parcels.{done_of, parcels, records_by_node}
use Rattle.world_spec.specs.Share.{is_at}
use Rattle.sim_spec.proofs.PartLemmas.{Ascends-done}
use Rattle.key_order.proofs.AscendingLemmas.{Ascends-map}
use Rattle.key_order.proofs.OrderLemmas.{by-members}

module _ {X A : Type 0} (images : X → List A) (node_of : X → ℕ) where
  pub joined_images : List X → List A
  joined_images [] = []
  joined_images (x ∷ xs) = images x ++ joined_images xs

  pub below_node : ℕ → List X → List X
  below_node n xs = filter (λ x. ltb (node_of x) n) xs

  pub at_node : ℕ → List X → List X
  at_node n xs = filter (λ x. eqb (node_of x) n) xs

  behind_first : (us R P Q : List A) → IsPermutation R (P ++ Q) → IsPermutation (us ++ R) (P ++ (us ++ Q))
  behind_first us R P Q moves =
      let one : IsPermutation (us ++ R) (us ++ (P ++ Q)) = IsPermutation-append_right us R (P ++ Q) moves in
      let two : us ++ (P ++ Q) ≡ (us ++ P) ++ Q = sym (append_assoc us P Q) in
      let three : IsPermutation ((us ++ P) ++ Q) ((P ++ us) ++ Q) = IsPermutation-append_left Q (us ++ P) (P ++ us) (IsPermutation-append_comm us P) in
      let four : (P ++ us) ++ Q ≡ P ++ (us ++ Q) = append_assoc P us Q in
      let S : List A → Type 0 = λ zs. IsPermutation (us ++ R) zs in
      subst S four (IsPermutation-trans (us ++ R) ((us ++ P) ++ Q) ((P ++ us) ++ Q) (subst S two one) three)

  in_front : (us R P Q : List A) → IsPermutation R (P ++ Q) → IsPermutation (us ++ R) ((us ++ P) ++ Q)
  in_front us R P Q moves =
      let S : List A → Type 0 = λ zs. IsPermutation (us ++ R) zs in
      subst S (sym (append_assoc us P Q)) (IsPermutation-append_right us R (P ++ Q) moves)

  one_node : (n : ℕ) (xs : List X) → IsPermutation (joined_images (below_node (suc n) xs)) (joined_images (below_node n xs) ++ joined_images (at_node n xs))
  unfolding joined_images below_node at_node
  one_node n [] = IsPermutation-refl []
  one_node n (x ∷ xs) = by_tests (ltb (node_of x) n) (eqb (node_of x) n) (ltb (node_of x) (suc n)) refl refl refl (one_node n xs)
    where
      by_tests : (a b c : Bool) → ltb (node_of x) n ≡ a → eqb (node_of x) n ≡ b → ltb (node_of x) (suc n) ≡ c → IsPermutation (joined_images (below_node (suc n) xs)) (joined_images (below_node n xs) ++ joined_images (at_node n xs))
          → IsPermutation (joined_images (cond c (x ∷ below_node (suc n) xs) (below_node (suc n) xs))) (joined_images (cond a (x ∷ below_node n xs) (below_node n xs)) ++ joined_images (cond b (x ∷ at_node n xs) (at_node n xs)))
      by_tests true true c h g k more = absurd (let lt = ltb-true (node_of x) n h in let same = eqb-true (node_of x) n g in omega arith)
      by_tests true false true h g k more = in_front (images x) (joined_images (below_node (suc n) xs)) (joined_images (below_node n xs)) (joined_images (at_node n xs)) more
      by_tests true false false h g k more = absurd (let lt = ltb-true (node_of x) n h in let le = ltb-false (node_of x) (suc n) k in omega arith)
      by_tests false true true h g k more = behind_first (images x) (joined_images (below_node (suc n) xs)) (joined_images (below_node n xs)) (joined_images (at_node n xs)) more
      by_tests false true false h g k more = absurd (let same = eqb-true (node_of x) n g in let le = ltb-false (node_of x) (suc n) k in omega arith)
      by_tests false false true h g k more = absurd (let ge = ltb-false (node_of x) n h in let apart = eqb-false (node_of x) n g in let lt = ltb-true (node_of x) (suc n) k in omega arith)
      by_tests false false false h g k more = more

  pub by_node : ℕ → List X → List A
  by_node zero xs = []
  by_node (suc n) xs = by_node n xs ++ joined_images (at_node n xs)

  none_below : (xs : List X) → joined_images (below_node zero xs) ≡ []
  unfolding joined_images below_node
  none_below [] = refl
  none_below (x ∷ xs) = let no : ltb (node_of x) zero ≡ false = le-ltb (node_of x) zero (omega arith) in ap (λ b. joined_images (cond b (x ∷ below_node zero xs) (below_node zero xs))) no ∙ none_below xs

  pub by_node-permutation : (n : ℕ) (xs : List X) → IsPermutation (joined_images (below_node n xs)) (by_node n xs)
  unfolding by_node
  by_node-permutation zero xs = let S : List A → Type 0 = λ zs. IsPermutation zs [] in subst S (sym (none_below xs)) (IsPermutation-refl [])
  by_node-permutation (suc n) xs =
      IsPermutation-trans (joined_images (below_node (suc n) xs)) (joined_images (below_node n xs) ++ joined_images (at_node n xs)) (by_node n xs ++ joined_images (at_node n xs)) (one_node n xs)
      (IsPermutation-append_left (joined_images (at_node n xs)) (joined_images (below_node n xs)) (by_node n xs) (by_node-permutation n xs))

all_below : {A : Type 0} (images : Event × Firing → List A) (home : ℕ → ℕ) (n : ℕ) (ds : List (Event × Firing)) → Each (λ (d : Event × Firing). home d.0.key.dest < n) ds → below_node images (λ x. home x.0.key.dest) n ds ≡ ds
unfolding below_node
all_below images home n [] below = refl
all_below images home n (d ∷ ds) below =
    let yes : ltb (home d.0.key.dest) n ≡ true = lt-ltb (home d.0.key.dest) n below.0 in
    ap (λ b. cond b (d ∷ below_node images (λ x. home x.0.key.dest) n ds) (below_node images (λ x. home x.0.key.dest) n ds)) yes ∙ ap (λ xs. d ∷ xs) (all_below images home n ds below.1)

abbrev messages : (ℕ → ℕ) → ℕ → Event × Firing → List Event
messages home to x = filter (is_at home to) x.1.events

images_messages : (home : ℕ → ℕ) (to : ℕ) (ds : List (Event × Firing)) → joined_images (messages home to) (λ x. home x.0.key.dest) ds ≡ filter (is_at home to) (emissions_of ds)
unfolding joined_images emissions_of
images_messages home to [] = refl
images_messages home to (d ∷ ds) = ap (λ xs. messages home to d ++ xs) (images_messages home to ds) ∙ sym (filter-append (is_at home to) d.1.events (emissions_of ds))

by_node_messages : (home : ℕ → ℕ) (to n : ℕ) (ds : List (Event × Firing)) → by_node (messages home to) (λ x. home x.0.key.dest) n ds ≡ parcels home ds to n
unfolding by_node parcels at_node
by_node_messages home to zero ds = refl
by_node_messages home to (suc n) ds = ap (λ xs. xs ++ joined_images (messages home to) (λ x. home x.0.key.dest) (at_node (messages home to) (λ x. home x.0.key.dest) n ds)) (by_node_messages home to n ds) ∙ ap (λ xs. parcels home ds to n ++ xs) (images_messages home to (done_of home n ds))

-- the parcels to a node are the messages to its objects
pub parcels-permutation : (home : ℕ → ℕ) (to n : ℕ) (ds : List (Event × Firing)) → Each (λ (d : Event × Firing). home d.0.key.dest < n) ds → IsPermutation (filter (is_at home to) (emissions_of ds)) (parcels home ds to n)
parcels-permutation home to n ds below =
    let images = messages home to in
    let f : Event × Firing → ℕ = λ x. home x.0.key.dest in
    let here : joined_images images f (below_node images f n ds) ≡ filter (is_at home to) (emissions_of ds) = ap (joined_images images f) (all_below images home n ds below) ∙ images_messages home to ds in
    let S : List Event → Type 0 = λ xs. IsPermutation xs (by_node images f n ds) in
    let T : List Event → Type 0 = λ xs. IsPermutation (filter (is_at home to) (emissions_of ds)) xs in
    subst T (by_node_messages home to n ds) (subst S here (by_node-permutation images f n ds))

abbrev record_of : Event × Firing → List (Key × Note)
record_of x = (x.0.key, x.1.note) ∷ []

images_records : (f : Event × Firing → ℕ) (ds : List (Event × Firing)) → joined_images record_of f ds ≡ records_of ds
unfolding joined_images
images_records f [] = refl
images_records f (d ∷ ds) = ap (λ xs. (d.0.key, d.1.note) ∷ xs) (images_records f ds)

by_node_records : (home : ℕ → ℕ) (n : ℕ) (ds : List (Event × Firing)) → by_node record_of (λ x. home x.0.key.dest) n ds ≡ records_by_node home ds n
unfolding by_node records_by_node at_node
by_node_records home zero ds = refl
by_node_records home (suc n) ds = ap (λ xs. xs ++ joined_images record_of (λ x. home x.0.key.dest) (at_node record_of (λ x. home x.0.key.dest) n ds)) (by_node_records home n ds) ∙ ap (λ xs. records_by_node home ds n ++ xs) (images_records (λ x. home x.0.key.dest) (done_of home n ds))

-- the records of all nodes are those of the whole
pub records-permutation : (home : ℕ → ℕ) (n : ℕ) (ds : List (Event × Firing)) → Each (λ (d : Event × Firing). home d.0.key.dest < n) ds → IsPermutation (records_of ds) (records_by_node home ds n)
records-permutation home n ds below =
    let f : Event × Firing → ℕ = λ x. home x.0.key.dest in
    let here : joined_images record_of f (below_node record_of f n ds) ≡ records_of ds = ap (joined_images record_of f) (all_below record_of home n ds below) ∙ images_records f ds in
    let S : List (Key × Note) → Type 0 = λ xs. IsPermutation xs (by_node record_of f n ds) in
    let T : List (Key × Note) → Type 0 = λ xs. IsPermutation (records_of ds) xs in
    subst T (by_node_records home n ds) (subst S here (by_node-permutation record_of f n ds))

-- the records of all nodes, put in order, are those of the whole
pub merged-is : (home : ℕ → ℕ) (n : ℕ) (ds : List (Event × Firing)) (merged : List (Key × Note)) → Each (λ (d : Event × Firing). home d.0.key.dest < n) ds → IsAscending (events_of ds)
    → IsPermutation (records_by_node home ds n) merged → Ascends (λ (x : Key × Note). x.0) merged → merged ≡ records_of ds
merged-is home n ds merged below up moves sorted =
    let all = IsPermutation-trans (records_of ds) (records_by_node home ds n) merged (records-permutation home n ds below) moves in
    by-members (λ (x : Key × Note). x.0) merged (records_of ds) sorted
    (Ascends-map (λ (x : Key × Note). x.0) (λ (d : Event × Firing). (d.0.key, d.1.note)) ds (Ascends-done ds up))
    (λ x. Contains-permutation merged (records_of ds) x (IsPermutation-sym (records_of ds) merged all)) (λ x. Contains-permutation (records_of ds) merged x all)
