-- Two lists in order, read as one.
use Rattle.std.proofs.Common.{◌≡◌, ℕ, zero, suc, ◌+◌, ◌<◌, ◌≤◌, true, false, cond, Some, List, [], ◌∷◌, ◌++◌, length, map, drop, refl, sym, ap, ◌∙◌, subst, arith, ltb-true, lt-ltb, append_assoc}
use Rattle.std.proofs.lemmas.Bool.{false_from_ne_true, le-ltb}
use Rattle.std.proofs.lemmas.List.{append-nil, drop_all, length-map}
use Rattle.std.proofs.lemmas.Option.{slice_get_within}
use Rattle.std.specs.Prelude.{filter, nat_lt, slice_get}
use Rattle.std.specs.List.{AllByRecursion as Each}
use Rattle.event_key.specs.declared.key.Key.{Key}
use Rattle.event_key.specs.Keys.{key_lt}
use Rattle.event_key.proofs.Order.{stamp-le, key_lt-turned}
use Rattle.key_order.specs.Ascending.{After, Ascends}
use Rattle.key_order.proofs.AscendingLemmas.{After-head, Ascends-map}
use Rattle.key_order.proofs.EachLemmas.{Each-map}
use Rattle.key_order.proofs.FilterLemmas.{filter-none}
use Rattle.key_order.proofs.KeyLemmas.{key_lt-none-trans}
use Rattle.object_log.specs.Carrying.{Placed, placed_key}
use Rattle.object_log.specs.Dones.{Done}
use Rattle.object_log.specs.EventLogs.{done_key}
use Rattle.object_log.specs.Logs.{keys_of}
use Rattle.object_log.specs.Weave.{insert, weave}
use Rattle.object_log.proofs.CarriedLemmas.{map-insert}
use Rattle.object_log.proofs.WeaveLemmas.{Each-insert, insert-first}
use Rattle.event_log.specs.declared.reading.Reading.{Reading}
use Rattle.event_log.specs.Processing.{merged, placed_all}
use Rattle.event_log.specs.Reading.{IsWithin, NextKey, keys_from, own_key}
use Rattle.event_log.proofs.FirstFacts.{keys-placed}
use Rattle.event_log.proofs.ProcessedFacts.{placed-dones}
use Rattle.object_log.proofs.BackToLemmas.{drop-at}

module _ {X : Type 0} (key : X → Key) where
  pub each-woven : (P : X → Type 0) (xs ys : List X) → Each P xs → Each P ys → Each P (weave key xs ys)
  unfolding weave
  each-woven P [] ys one other = other
  each-woven P (x ∷ xs) ys one other = Each-insert key P x (weave key xs ys) one.0 (each-woven P xs ys one.1 other)

  -- the first of one list comes first
  pub weave-first : (x : X) (xs ys : List X) → After key (key x) xs → After key (key x) ys → weave key (x ∷ xs) ys ≡ x ∷ weave key xs ys
  unfolding weave
  weave-first x xs ys own other = insert-first key x (weave key xs ys) (each-woven (λ (y : X). key_lt (key x) (key y) ≡ true) xs ys own other)

  -- or that of the other, where none of the one comes before it
  pub weave-second : (y : X) (xs ys : List X) → Each (λ (x : X). key_lt (key x) (key y) ≡ false) xs → weave key xs (y ∷ ys) ≡ y ∷ weave key xs ys
  unfolding weave insert
  weave-second y [] ys late = refl
  weave-second y (x ∷ xs) ys late =
      ap (insert key x) (weave-second y xs ys late.1)
      ∙ ap (λ b. cond b (x ∷ y ∷ weave key xs ys) (y ∷ insert key x (weave key xs ys))) late.0

  pub Ascends-drop : (n : ℕ) (xs : List X) → Ascends key xs → Ascends key (drop n xs)
  unfolding Ascends
  Ascends-drop zero xs up = up
  Ascends-drop (suc n) [] up = tt
  Ascends-drop (suc n) (x ∷ xs) up = Ascends-drop n xs up.1

  pub Ascends-rest : (x : X) (xs : List X) → Ascends key (x ∷ xs) → Ascends key xs
  unfolding Ascends
  Ascends-rest x xs up = up.1

  pub Ascends-after : (x : X) (xs : List X) → Ascends key (x ∷ xs) → After key (key x) xs
  unfolding Ascends
  Ascends-after x xs up = up.0

  -- where the first comes not before a key, none does
  pub none-before : (x : X) (xs : List X) (k : Key) → Ascends key (x ∷ xs) → key_lt (key x) k ≡ false → Each (λ (y : X). key_lt (key y) k ≡ false) (x ∷ xs)
  none-before x xs k up late = (
    late,
    Each-map (λ (y : X). key_lt (key x) (key y) ≡ true) (λ (y : X). key_lt (key y) k ≡ false) xs (λ y after. key_lt-none-trans (key y) (key x) k (key_lt-turned (key x) (key y) after) late) (Ascends-after x xs up),
  )

-- the keys that are left, from those at these places
abbrev left : List Key → List Key → ℕ → ℕ → List Key
left ns cs m d = weave own_key (drop m ns) (drop d cs)

module _ (ns cs : List Key) (n c : ℕ) (up : Ascends own_key ns) (low : Ascends own_key cs) where
  own-up : (x : Key) → slice_get ns n ≡ Some x → Ascends own_key (x ∷ drop (suc n) ns)
  own-up x found = subst (Ascends own_key) (drop-at ns n x found) (Ascends-drop own_key n ns up)

  own-low : (k : Key) → slice_get cs c ≡ Some k → Ascends own_key (k ∷ drop (suc c) cs)
  own-low k at = subst (Ascends own_key) (drop-at cs c k at) (Ascends-drop own_key c cs low)

  -- the next of the news, where no more is carried
  pub only-news : (x : Key) → slice_get ns n ≡ Some x → drop c cs ≡ [] → left ns cs n c ≡ x ∷ left ns cs (suc n) c
  only-news x found none =
      let A : List Key → Type 0 = After own_key x in
      ap (λ ks. weave own_key ks (drop c cs)) (drop-at ns n x found)
      ∙ weave-first own_key x (drop (suc n) ns) (drop c cs) (Ascends-after own_key x (drop (suc n) ns) (own-up x found)) (subst A (sym none) tt)

  -- it comes before what is carried
  pub news-first : (x k : Key) → slice_get ns n ≡ Some x → slice_get cs c ≡ Some k → key_lt x k ≡ true → left ns cs n c ≡ x ∷ left ns cs (suc n) c
  news-first x k found at lt =
      let A : List Key → Type 0 = After own_key x in
      ap (λ ks. weave own_key ks (drop c cs)) (drop-at ns n x found)
      ∙ weave-first own_key x (drop (suc n) ns) (drop c cs) (Ascends-after own_key x (drop (suc n) ns) (own-up x found))
      (subst A (sym (drop-at cs c k at)) (After-head own_key x k (drop (suc c) cs) lt (own-low k at)))

  carried-first : (k : Key) → slice_get cs c ≡ Some k → Each (λ (x : Key). key_lt x k ≡ false) (drop n ns) → left ns cs n c ≡ k ∷ left ns cs n (suc c)
  carried-first k at late = ap (weave own_key (drop n ns)) (drop-at cs c k at) ∙ weave-second own_key k (drop n ns) (drop (suc c) cs) late

  -- what is carried, where no more are news
  pub only-carried : (k : Key) → slice_get cs c ≡ Some k → drop n ns ≡ [] → left ns cs n c ≡ k ∷ left ns cs n (suc c)
  only-carried k at none =
      let E : List Key → Type 0 = Each (λ (x : Key). key_lt x k ≡ false) in
      carried-first k at (subst E (sym none) tt)

  -- or where the next of them doesn't come before it
  pub carried-next : (x k : Key) → slice_get ns n ≡ Some x → slice_get cs c ≡ Some k → key_lt x k ≡ false → left ns cs n c ≡ k ∷ left ns cs n (suc c)
  carried-next x k found at late =
      let E : List Key → Type 0 = Each (λ (y : Key). key_lt y k ≡ false) in
      carried-first k at (subst E (sym (drop-at ns n x found)) (none-before own_key x (drop (suc n) ns) k (own-up x found) late))

-- where a key isn't below a horizon, those after it aren't either
pub none-below : (horizon : ℕ) (k : Key) (ks : List Key) → Ascends own_key (k ∷ ks) → nat_lt k.stamp horizon ≡ false → filter (λ (j : Key). nat_lt j.stamp horizon) (k ∷ ks) ≡ []
none-below horizon k ks up late =
    filter-none (λ (j : Key). nat_lt j.stamp horizon) (k ∷ ks) (
      late,
      Each-map (λ (j : Key). key_lt k j ≡ true) (λ (j : Key). nat_lt j.stamp horizon ≡ false) ks
          (λ j after. false_from_ne_true (nat_lt j.stamp horizon) (λ yes. let below = ltb-true j.stamp horizon yes in let le = stamp-le k j after in let low : nat_lt k.stamp horizon ≡ true = lt-ltb k.stamp horizon (omega arith) in cc))
          (Ascends-after own_key k ks up),
    )

-- the key that comes next, and what is read with it
module _ (read : Reading) (carried : List Placed) (news : List Done) (up : Ascends done_key news) (low : Ascends placed_key carried) (within : IsWithin read carried news) where
  abbrev fresh : List Key
  fresh = keys_of news

  abbrev old : List Key
  old = map placed_key carried

  fresh-up : Ascends own_key fresh
  fresh-up = Ascends-map own_key done_key news up

  old-up : Ascends own_key old
  old-up = Ascends-map own_key placed_key carried low

  abbrev news_next : Reading
  news_next = record { carried = read.carried; news = read.news + 1 }

  abbrev carried_next : Reading
  carried_next = record { carried = read.carried + 1; news = read.news }

  reads-news : (x : Key) → slice_get fresh read.news ≡ Some x → left fresh old read.news read.carried ≡ x ∷ left fresh old (suc read.news) read.carried → NextKey read carried news x news_next
  reads-news x found is =
      let one : suc read.news ≡ read.news + 1 = omega arith in
      let more = slice_get_within fresh read.news x found in
      let long = length-map news done_key in
      let in_carried = within.carried_in in
      record {
        first = is ∙ ap (λ n. x ∷ weave own_key (drop n fresh) (drop read.carried old)) one;
        within = record { carried_in = in_carried; news_in = omega arith };
        one = omega arith;
      }

  reads-carried : (k : Key) → slice_get old read.carried ≡ Some k → left fresh old read.news read.carried ≡ k ∷ left fresh old read.news (suc read.carried) → NextKey read carried news k carried_next
  reads-carried k found is =
      let one : suc read.carried ≡ read.carried + 1 = omega arith in
      let more = slice_get_within old read.carried k found in
      let long = length-map carried placed_key in
      let in_news = within.news_in in
      record {
        first = is ∙ ap (λ n. k ∷ weave own_key (drop read.news fresh) (drop n old)) one;
        within = record { carried_in = omega arith; news_in = in_news };
        one = omega arith;
      }

  none-old : length carried ≤ read.carried → drop read.carried old ≡ []
  none-old end = drop_all read.carried old (let long = length-map carried placed_key in omega arith)

  none-fresh : length news ≤ read.news → drop read.news fresh ≡ []
  none-fresh end = drop_all read.news fresh (let long = length-map news done_key in omega arith)

  pub next-only-news : (x : Key) → slice_get fresh read.news ≡ Some x → length carried ≤ read.carried → NextKey read carried news x news_next
  next-only-news x found end = reads-news x found (only-news fresh old read.news read.carried fresh-up old-up x found (none-old end))

  pub next-news : (x k : Key) → slice_get fresh read.news ≡ Some x → slice_get old read.carried ≡ Some k → key_lt x k ≡ true → NextKey read carried news x news_next
  next-news x k found at lt = reads-news x found (news-first fresh old read.news read.carried fresh-up old-up x k found at lt)

  pub next-only-carried : (k : Key) → slice_get old read.carried ≡ Some k → length news ≤ read.news → NextKey read carried news k carried_next
  next-only-carried k at end = reads-carried k at (only-carried fresh old read.news read.carried fresh-up old-up k at (none-fresh end))

  pub next-carried : (x k : Key) → slice_get fresh read.news ≡ Some x → slice_get old read.carried ≡ Some k → key_lt x k ≡ false → NextKey read carried news k carried_next
  next-carried x k found at late = reads-carried k at (carried-next fresh old read.news read.carried fresh-up old-up x k found at late)

  pub next-none : length carried ≤ read.carried → length news ≤ read.news → keys_from read carried news ≡ []
  unfolding weave
  next-none end last = (λ i. weave own_key (none-fresh last i) (none-old end i))

module _ {X Y : Type 0} (f : X → Y) (key : Y → Key) where
  pub map-woven : (xs ys : List X) → map f (weave (λ (x : X). key (f x)) xs ys) ≡ weave key (map f xs) (map f ys)
  unfolding weave
  map-woven [] ys = refl
  map-woven (x ∷ xs) ys = map-insert f key x (weave (λ (y : X). key (f y)) xs ys) ∙ ap (insert key (f x)) (map-woven xs ys)

-- nothing is read yet
pub keys-all : (carried : List Placed) (news : List Done) (places : List ℕ) → length places ≡ length news → keys_from (record { carried = 0; news = 0 }) carried news ≡ map placed_key (merged news places carried)
keys-all carried news places long =
    ap (λ ks. weave own_key ks (map placed_key carried)) (sym (keys-placed (placed_all news places) ∙ ap keys_of (placed-dones news places long)))
    ∙ sym (map-woven placed_key own_key (placed_all news places) carried)

-- what is below a horizon, key by key
module _ (horizon : ℕ) (into ks rest : List Key) (key : Key) (is : ks ≡ key ∷ rest) where
  pub read-more : key.stamp < horizon → (into ++ key ∷ []) ++ filter (λ (k : Key). nat_lt k.stamp horizon) rest ≡ into ++ filter (λ (k : Key). nat_lt k.stamp horizon) ks
  read-more low =
      append_assoc into (key ∷ []) (filter (λ (k : Key). nat_lt k.stamp horizon) rest)
      ∙ ap (λ b. into ++ cond b (key ∷ filter (λ (k : Key). nat_lt k.stamp horizon) rest) (filter (λ (k : Key). nat_lt k.stamp horizon) rest)) (sym (lt-ltb key.stamp horizon low))
      ∙ ap (λ js. into ++ filter (λ (k : Key). nat_lt k.stamp horizon) js) (sym is)

  pub read-rest : Ascends own_key ks → Ascends own_key rest
  read-rest up = Ascends-rest own_key key rest (subst (Ascends own_key) is up)

  pub read-end : Ascends own_key ks → horizon ≤ key.stamp → into ++ filter (λ (k : Key). nat_lt k.stamp horizon) ks ≡ into
  read-end up high =
      ap (λ js. into ++ js) (ap (filter (λ (k : Key). nat_lt k.stamp horizon)) is ∙ none-below horizon key rest (subst (Ascends own_key) is up) (le-ltb key.stamp horizon high))
      ∙ append-nil into

pub read-none : (horizon : ℕ) (into ks : List Key) → ks ≡ [] → into ++ filter (λ (k : Key). nat_lt k.stamp horizon) ks ≡ into
read-none horizon into ks none = ap (λ js. into ++ filter (λ (k : Key). nat_lt k.stamp horizon) js) none ∙ append-nil into
