-- Words that stand for events.
use Rattle.std.proofs.Common.{◌≡◌, ℕ, zero, suc, ◌+◌, ◌<◌, ◌≤◌, ◌%◌, false, List, [], ◌∷◌, ◌++◌, length, map, get_or, sym, refl, ap, ◌∙◌, subst, arith}
use Rattle.std.specs.Prelude.{IsPermutation, Result, Ok, Err, OnOk}
use Rattle.std.specs.List.{AllByRecursion as Each, range_with_len}
use Rattle.std.proofs.lemmas.List.{map-append, get_or-map, get_or_default, get_or_read}
use Rattle.std.proofs.lemmas.List.FromFn.{fill_by_all, map-range_with_len_more}
use Rattle.std.proofs.lemmas.List.Sorted.{IsPermutation-map, IsPermutation-sym, IsPermutation-trans}
use Rattle.event_key.specs.Keys.{key_lt}
use Rattle.model_core.specs.declared.event.Event.{Event}
use Rattle.key_order.specs.Ascending.{key_of}
use Rattle.key_order.specs.Keys.{KeysDiffer}
use Rattle.key_order.specs.Pending.{in_order}
use Rattle.key_order.proofs.InOrder.{in_order-permutation, in_order-ascending, in_order-is, in_order-same}
use Rattle.key_order.proofs.KeyLemmas.{Differ-permutation}
use Rattle.key_order.proofs.MemberLemmas.{Each-permutation}
use Rattle.key_order.proofs.SortLemmas.{sorted-ascends}
use Rattle.tick_queue.specs.Order.{place_at, no_event, event_at, shown, AreInside, Shows, HaveWords, AreUnturned}

-- one word more
pub words_more : (ws : List ℕ) (w i : ℕ) → map place_at ws ≡ map (λ k. k) (range_with_len 0 i) → w % 16384 ≡ i → map place_at (ws ++ w ∷ []) ≡ map (λ k. k) (range_with_len 0 (i + 1))
words_more ws w i so_far is =
    map-append place_at ws (w ∷ []) ∙ (λ j. so_far j ++ is j ∷ []) ∙ sym (map-range_with_len_more (λ k. k) 0 i i (omega arith))

-- another order of the same events
same_order : (xs ys : List Event) → KeysDiffer xs → IsPermutation xs ys → in_order ys ≡ in_order xs
same_order xs ys differ moves =
    in_order-is ys (in_order xs) (IsPermutation-trans ys xs (in_order xs) (IsPermutation-sym xs ys moves) (in_order-permutation xs)) (in_order-ascending xs differ)

-- events none of which comes before the one ahead of it are in order
unturned_order : (es : List Event) → KeysDiffer es → AreUnturned es → es ≡ in_order es
unturned_order es differ none =
    sym (in_order-same es (sorted-ascends key_of es differ (λ k d low lt. turned k d lt)))
  where
    turned : (k : ℕ) (d : Event) → k + 1 < length es → key_lt (get_or es (k + 1) d).key (get_or es k d).key ≡ false
    turned k d lt =
        let here : get_or es k d ≡ get_or es k no_event = get_or_default es k d no_event (omega arith) in
        let next : get_or es (k + 1) d ≡ get_or es (k + 1) no_event = get_or_default es (k + 1) d no_event lt in
        (λ i. key_lt (next i).key (here i).key) ∙ none k lt

-- numbers from the first one on are places of events
abbrev numbers : List Event → List ℕ
numbers es = map (λ k. k) (range_with_len 0 (length es))

below : (a n m : ℕ) → a + n ≤ m → Each (λ (k : ℕ). k < m) (map (λ k. k) (range_with_len a n))
below a zero m le = tt
below a (suc n) m le = (omega arith, below (a + 1) n m (omega arith))

all_inside : (es : List Event) → AreInside es (numbers es)
all_inside es = below 0 (length es) (length es) (omega arith)

-- what is read at all of them is the list
read_same : (es : List Event) (ks : List ℕ) → shown es (map (λ k. k) ks) ≡ map (λ k. get_or es k no_event) ks
read_same es [] = refl
read_same es (k ∷ ks) = ap (λ xs. get_or es k no_event ∷ xs) (read_same es ks)

all_shown : (es : List Event) → shown es (numbers es) ≡ es
all_shown es = read_same es (range_with_len 0 (length es)) ∙ sym (fill_by_all (λ k. get_or es k no_event) es (length es) no_event refl (λ k lt. refl))

numbered : (es list : List Event) (places : List ℕ) → es ≡ list → places ≡ numbers es → Shows es places list
numbered es list places same is =
    let P : List ℕ → Type 0 = λ ps. Shows es ps list in
    subst P (sym is) record { inside = all_inside es; is = all_shown es ∙ same }

pub numbers_more : (ps : List ℕ) (i : ℕ) → ps ≡ map (λ k. k) (range_with_len 0 i) → ps ++ i ∷ [] ≡ map (λ k. k) (range_with_len 0 (i + 1))
numbers_more ps i so_far = (λ j. so_far j ++ i ∷ []) ∙ sym (map-range_with_len_more (λ k. k) 0 i i (omega arith))

pub numbered_if : {T E : Type 0} (r : Result T E) (es list : List Event) (places : List ℕ) (n : ℕ) → n ≡ length es → es ≡ list → OnOk r (places ≡ map (λ k. k) (range_with_len 0 n)) → OnOk r (Shows es places list)
numbered_if (Ok x) es list places n long same is = numbered es list places same (is ∙ ap (λ m. map (λ k. k) (range_with_len 0 m)) long)
numbered_if (Err e) es list places n long same is = tt

-- one event is in order
pub lone_order : (es : List Event) → KeysDiffer es → length es ≡ 1 → es ≡ in_order es
lone_order es differ one = unturned_order es differ (λ k lt. absurd (omega (arith, one, lt)))

-- sorted words have the same places in another order
places_move : (es : List Event) (ws sorted : List ℕ) → HaveWords es ws → IsPermutation ws sorted → IsPermutation (numbers es) (map place_at sorted)
places_move es ws sorted have moves =
    let P : List ℕ → Type 0 = λ ps. IsPermutation ps (map place_at sorted) in
    subst P have (IsPermutation-map place_at ws sorted moves)

pub words_inside : (es : List Event) (ws sorted places : List ℕ) → HaveWords es ws → IsPermutation ws sorted → places ≡ map place_at sorted → AreInside es places
words_inside es ws sorted places have moves is =
    let P : List ℕ → Type 0 = AreInside es in
    subst P (sym is) (Each-permutation (λ (k : ℕ). k < length es) (numbers es) (map place_at sorted) (places_move es ws sorted have moves) (all_inside es))

events_move : (es : List Event) (ws sorted : List ℕ) → HaveWords es ws → IsPermutation ws sorted → IsPermutation es (shown es (map place_at sorted))
events_move es ws sorted have moves =
    let P : List Event → Type 0 = λ xs. IsPermutation xs (shown es (map place_at sorted)) in
    subst P (all_shown es) (IsPermutation-map (event_at es) (numbers es) (map place_at sorted) (places_move es ws sorted have moves))

pub words_show : (es : List Event) (ws sorted places : List ℕ) → KeysDiffer es → HaveWords es ws → IsPermutation ws sorted → places ≡ map place_at sorted → AreUnturned (shown es places) → Shows es places (in_order es)
words_show es ws sorted places differ have moves is unturned =
    let P : List Event → Type 0 = IsPermutation es in
    let to : IsPermutation es (shown es places) = subst P (ap (shown es) (sym is)) (events_move es ws sorted have moves) in
    record {
      inside = words_inside es ws sorted places have moves is;
      is = unturned_order (shown es places) (Differ-permutation key_of es (shown es places) to differ) unturned ∙ same_order es (shown es places) differ to;
    }

-- the event at one of the places
each_at : (P : ℕ → Type 0) (ws : List ℕ) (i : ℕ) → Each P ws → i < length ws → P (get_or ws i 0)
each_at P [] i all lt = absurd (omega arith)
each_at P (w ∷ ws) zero all lt = all.0
each_at P (w ∷ ws) (suc i) all lt = each_at P ws i all.1 (omega arith)

pub inside_at : (es : List Event) (places : List ℕ) (i place : ℕ) → AreInside es places → i < length places → place ≡ get_or places i place → place < length es
inside_at es places i place inside lt at =
    let P : ℕ → Type 0 = λ k. k < length es in
    subst P (sym (get_or_read places i place lt at 0)) (each_at P places i inside lt)

pub shown_at : (es : List Event) (places : List ℕ) (i place : ℕ) (e : Event) → AreInside es places → i < length places → place ≡ get_or places i place → e ≡ get_or es place e → e ≡ event_at (shown es places) i
shown_at es places i place e inside lt at read =
    get_or_read es place e (inside_at es places i place inside lt at) read no_event ∙ ap (event_at es) (get_or_read places i place lt at 0)
    ∙ sym (get_or-map (event_at es) places i 0 no_event lt)
