-- Carried events while news go among them.
use Rattle.std.proofs.Common.{◌≡◌, ◌≢◌, ℕ, zero, suc, ◌+◌, ◌<◌, ◌≤◌, true, false, cond, List, [], ◌∷◌, ◌++◌, length, take, drop, get_or, slice_get, Some, refl, sym, ap, ◌∙◌, subst, arith, length-append, length-drop, length-take, append_assoc}
use Rattle.std.proofs.lemmas.List.{append-nil, drop-append-le, length-map, map-append, take-append-le}
use Rattle.std.proofs.lemmas.Option.{same_Some}
use Rattle.std.specs.List.{AllByRecursion as Each}
use Rattle.event_key.specs.declared.key.Key.{Key}
use Rattle.event_key.specs.Keys.{key_lt}
use Rattle.event_key.proofs.Order.{key_lt-trans, key_lt-turned}
use Rattle.key_order.specs.Ascending.{Ascends}
use Rattle.key_order.specs.Keys.{times}
use Rattle.key_order.proofs.AscendingLemmas.{Ascends-before, Ascends-map, Ascends-mapped, Ascends-prefix}
use Rattle.key_order.proofs.EachLemmas.{Each-append, Each-back, Each-map}
use Rattle.key_order.proofs.KeyLemmas.{key_lt-other}
use Rattle.object_log.specs.Carrying.{Placed, placed_key}
use Rattle.object_log.specs.Dones.{Done}
use Rattle.object_log.specs.EventLogs.{done_key}
use Rattle.object_log.specs.Logs.{keys_of}
use Rattle.object_log.specs.Weave.{insert}
use Rattle.object_log.proofs.WeaveLemmas.{insert-ascends, insert-first}
use Rattle.event_log.specs.Items.{AreHeld, AreHeldBut, CarriedView, IsHeld, IsHeldBut, Item, first_held, item_key, placed, placed_of}
use Rattle.event_log.specs.News.{NewsView}
use Rattle.event_log.specs.Processing.{CanCarry, merged}
use Rattle.event_log.specs.Turning.{AreAfter, IsTurned, turned_back}
use Rattle.event_log.proofs.FirstFacts.{later-new}

-- what the first of some holds
pub front-held : (n : ℕ) (es : List Item) (x : Item) → 0 < n → n ≤ length es → x ≡ get_or es 0 x → x.held ≡ first_held (take n es)
front-held zero es x some within at = absurd (omega arith)
front-held (suc n) [] x some within at = absurd (omega arith)
front-held (suc n) (e ∷ es) x some within at = ap (λ (i : Item). i.held) at

-- each but the last holds what it should
but-start : (es : List Item) → AreHeld es → AreHeldBut (length es) es
unfolding AreHeld AreHeldBut
but-start [] held = tt
but-start (e ∷ es) held = (first es held.0, but-start es held.1)
  where
    first : (es : List Item) → IsHeld e es → IsHeldBut (length es) e es
    first [] h = tt
    first (f ∷ es) h = h

but-shorter : (es : List Item) (x : Item) → AreHeldBut (length (es ++ x ∷ [])) (es ++ x ∷ []) → AreHeldBut (length es) es
unfolding AreHeld AreHeldBut
but-shorter [] x but = tt
but-shorter (e ∷ es) x but = (first es but.0, but-shorter es x but.1)
  where
    first : (es : List Item) → IsHeldBut (length (es ++ x ∷ [])) e (es ++ x ∷ []) → IsHeldBut (length es) e es
    first [] h = tt
    first (f ∷ es) h = h

but-turned : (es fs : List Item) → AreHeldBut (length es) es → AreHeld fs → AreHeldBut (length es) (es ++ fs)
unfolding AreHeld AreHeldBut
but-turned [] fs but held = held
but-turned (e ∷ es) fs but held = (first es but.0, but-turned es fs but.1 held)
  where
    first : (es : List Item) → IsHeldBut (length es) e es → IsHeldBut (length es) e (es ++ fs)
    first [] h = tt
    first (f ∷ es) h = h

-- the last item
pub ends : (es : List Item) (n : ℕ) (x : Item) → n + 1 ≡ length es → x ≡ get_or es n x → (front : List Item) × (es ≡ front ++ x ∷ [])
ends [] n x long at = absurd (omega arith)
ends (y ∷ []) zero x long at = ([], ap (λ (z : Item). z ∷ []) (sym at))
ends (y ∷ []) (suc n) x long at = absurd (omega arith)
ends (y ∷ z ∷ zs) zero x long at = absurd (omega arith)
ends (y ∷ z ∷ zs) (suc n) x long at = (let more = ends (z ∷ zs) n x (omega arith) at in (y ∷ more.0, ap (λ (ws : List Item). y ∷ ws) more.1))

pub last-read : (xs : List Item) (x y : Item) (n : ℕ) → n ≡ length xs → y ≡ get_or (xs ++ x ∷ []) n y → y ≡ x
last-read [] x y zero long at = at
last-read [] x y (suc n) long at = absurd (omega arith)
last-read (z ∷ zs) x y zero long at = absurd (omega arith)
last-read (z ∷ zs) x y (suc n) long at = last-read zs x y n (omega arith) at

-- items with the same events stand in the same order, and are as many
pub same-order : (es fs : List Item) → placed es ≡ placed fs → Ascends item_key fs → Ascends item_key es
same-order es fs same up = Ascends-mapped placed_key placed_of es (subst (Ascends placed_key) (sym same) (Ascends-map placed_key placed_of fs up))

pub same-long : (es fs : List Item) → placed es ≡ placed fs → length es ≡ length fs
same-long es fs same = sym (length-map es placed_of) ∙ ap length same ∙ length-map fs placed_of

pub turned-long : (n : ℕ) (es : List Item) → n ≤ length es → length (turned_back n es) ≡ length es
turned-long n es within =
    let parts = length-append (drop n es) (take n es) in
    let back = length-drop n es in
    let front = length-take n es in
    omega arith

pub each-placed : (P : Key → Type 0) (es : List Item) → Each (λ (i : Item). P (item_key i)) es → Each (λ (p : Placed). P (placed_key p)) (placed es)
each-placed P [] all = tt
each-placed P (e ∷ es) all = (all.0, each-placed P es all.1)

-- an event comes between those before it and those behind it
insert-between : (p : Placed) (ps qs : List Placed) → Each (λ (q : Placed). key_lt (placed_key q) (placed_key p) ≡ true) ps → Each (λ (q : Placed). key_lt (placed_key p) (placed_key q) ≡ true) qs → insert placed_key p (ps ++ qs) ≡ ps ++ p ∷ qs
unfolding insert
insert-between p [] qs low high = insert-first placed_key p qs high
insert-between p (q ∷ ps) qs low high =
    ap (λ b. cond b (p ∷ q ∷ (ps ++ qs)) (q ∷ insert placed_key p (ps ++ qs))) (key_lt-turned (placed_key q) (placed_key p) low.0)
    ∙ ap (λ (rs : List Placed). q ∷ rs) (insert-between p ps qs low.1 high)

-- none has found its place yet
pub start-turned : (es : List Item) → Ascends item_key es → AreHeld es → IsTurned 0 es
unfolding AreHeld
start-turned es up held = record {
  within = omega arith;
  ordered = subst (Ascends item_key) (sym (append-nil es)) up;
  held = tt;
  but = but-start es held;
}

-- they are turned back
pub turned-but : (n r : ℕ) (es : List Item) → IsTurned n es → r ≡ length (drop n es) → AreHeldBut r (turned_back n es)
turned-but n r es t long =
    let B : ℕ → Type 0 = λ m. AreHeldBut m (turned_back n es) in
    subst B (sym long) (but-turned (drop n es) (take n es) t.but t.held)

-- the last of the others goes to the front
module _ (n : ℕ) (key : Key) (es xs zs : List Item) (x put : Item) (is : es ≡ xs ++ x ∷ []) (put_is : zs ≡ put ∷ xs) (within : n ≤ length xs) (same : placed_of put ≡ placed_of x) where
  next : suc n ≡ n + 1
  next = omega arith

  front : take n es ≡ take n xs
  front = ap (take n) is ∙ take-append-le n xs (x ∷ []) within

  back : drop n es ≡ drop n xs ++ x ∷ []
  back = ap (drop n) is ∙ drop-append-le n xs (x ∷ []) within

  moved : placed (turned_back (suc n) (put ∷ xs)) ≡ placed (turned_back n es)
  moved =
      map-append placed_of (drop n xs) (put ∷ take n xs)
      ∙ ap (λ (p : Placed). placed (drop n xs) ++ p ∷ placed (take n xs)) same
      ∙ sym (map-append placed_of (drop n xs) (x ∷ take n xs))
      ∙ ap placed (sym (append_assoc (drop n xs) (x ∷ []) (take n xs)))
      ∙ (λ i. placed (sym back i ++ sym front i))

  pub turned-same : placed (turned_back (n + 1) zs) ≡ placed (turned_back n es)
  turned-same = (λ i. placed (turned_back (sym next i) (put_is i))) ∙ moved

  pub turned-more : IsTurned n es → IsHeld put (take n xs) → IsTurned (n + 1) zs
  unfolding AreHeld
  turned-more t held =
      let T : ℕ → Type 0 = λ m. IsTurned m (put ∷ xs) in
      let B : List Item → Type 0 = λ rest. AreHeldBut (length rest) rest in
      subst (IsTurned (n + 1)) (sym put_is)
      (subst T next (record {
        within = omega arith;
        ordered = same-order (turned_back (suc n) (put ∷ xs)) (turned_back n es) moved t.ordered;
        held = (held, subst AreHeld front t.held);
        but = but-shorter (drop n xs) x (subst B back t.but);
      }))

  new-last : times placed_key key (placed (turned_back n es)) ≡ 0 → key ≢ item_key x
  new-last new =
      let parts : placed (turned_back n es) ≡ placed (drop n xs) ++ placed_of x ∷ placed (take n xs) =
      sym moved ∙ map-append placed_of (drop n xs) (put ∷ take n xs) ∙ ap (λ (p : Placed). placed (drop n xs) ++ p ∷ placed (take n xs)) same in
      later-new key (placed (drop n xs)) (placed_of x) (placed (take n xs)) (ap (times placed_key key) (sym parts) ∙ new)

  pub turned-after : AreAfter key n es → times placed_key key (placed (turned_back n es)) ≡ 0 → key_lt (item_key x) key ≡ false → AreAfter key (n + 1) zs
  turned-after after new late =
      let lt : key_lt key (item_key x) ≡ true = key_lt-other (item_key x) key (λ alike. new-last new (sym alike)) late in
      let A : ℕ → Type 0 = λ m. AreAfter key m (put ∷ xs) in
      let P : Item → Type 0 = λ i. key_lt key (item_key i) ≡ true in
      subst (AreAfter key (n + 1)) (sym put_is) (subst A next (ap (λ (p : Placed). key_lt key (placed_key p)) same ∙ lt, subst (Each P) front after))

-- the last of the others comes before a key, and so do all
pub others-before : (n : ℕ) (key : Key) (es xs : List Item) (x : Item) → es ≡ xs ++ x ∷ [] → n ≤ length xs → IsTurned n es → key_lt (item_key x) key ≡ true → Each (λ (i : Item). key_lt (item_key i) key ≡ true) (drop n es)
others-before n key es xs x is within t lt =
    let P : Item → Type 0 = λ i. key_lt (item_key i) key ≡ true in
    let back : drop n es ≡ drop n xs ++ x ∷ [] = ap (drop n) is ∙ drop-append-le n xs (x ∷ []) within in
    let low = Ascends-before item_key (drop n xs) x [] (subst (Ascends item_key) back (Ascends-prefix item_key (drop n es) (take n es) t.ordered)) in
    let all = Each-map (λ (i : Item). key_lt (item_key i) (item_key x) ≡ true) P (drop n xs) (λ i below. key_lt-trans (item_key i) (item_key x) key below lt) low in
    subst (Each P) (sym back) (Each-append P (drop n xs) (x ∷ []) all (lt, tt))

-- an event comes to the front
module _ (n : ℕ) (es zs : List Item) (put : Item) (p : Placed) (put_is : zs ≡ put ∷ es) (same : placed_of put ≡ p) (others : Each (λ (i : Item). key_lt (item_key i) (placed_key p) ≡ true) (drop n es)) (after : AreAfter (placed_key p) n es) where
  next-one : suc n ≡ n + 1
  next-one = omega arith

  put-in : placed (turned_back (suc n) (put ∷ es)) ≡ insert placed_key p (placed (turned_back n es))
  put-in =
      map-append placed_of (drop n es) (put ∷ take n es)
      ∙ ap (λ (q : Placed). placed (drop n es) ++ q ∷ placed (take n es)) same
      ∙ sym (insert-between p (placed (drop n es)) (placed (take n es)) (each-placed (λ k. key_lt k (placed_key p) ≡ true) (drop n es) others) (each-placed (λ k. key_lt (placed_key p) k ≡ true) (take n es) after))
      ∙ ap (insert placed_key p) (sym (map-append placed_of (drop n es) (take n es)))

  pub joined-items : placed (turned_back (n + 1) zs) ≡ insert placed_key p (placed (turned_back n es))
  joined-items = (λ i. placed (turned_back (sym next-one i) (put_is i))) ∙ put-in

  pub joined-turned : IsTurned n es → IsHeld put (take n es) → times placed_key (placed_key p) (placed (turned_back n es)) ≡ 0 → IsTurned (n + 1) zs
  unfolding AreHeld
  joined-turned t held fresh =
      let T : ℕ → Type 0 = λ m. IsTurned m (put ∷ es) in
      let within = t.within in
      let up = insert-ascends placed_key p (placed (turned_back n es)) fresh (Ascends-map placed_key placed_of (turned_back n es) t.ordered) in
      subst (IsTurned (n + 1)) (sym put_is)
      (subst T next-one (record {
        within = omega arith;
        ordered = Ascends-mapped placed_key placed_of (turned_back (suc n) (put ∷ es)) (subst (Ascends placed_key) (sym put-in) up);
        held = (held, t.held);
        but = t.but;
      }))

  pub joined-after : (k : Key) → key_lt k (placed_key p) ≡ true → AreAfter k (n + 1) zs
  joined-after k lt =
      let A : ℕ → Type 0 = λ m. AreAfter k m (put ∷ es) in
      let P : Item → Type 0 = λ i. key_lt k (item_key i) ≡ true in
      subst (AreAfter k (n + 1)) (sym put_is)
      (subst A next-one (
        ap (λ (q : Placed). key_lt k (placed_key q)) same ∙ lt,
        Each-map (λ (i : Item). key_lt (placed_key p) (item_key i) ≡ true) P (take n es) (λ i above. key_lt-trans k (placed_key p) (item_key i) lt above) after,
      ))

-- the last of the news that are left comes before the one that left
pub before-last : (all now own xs ds : List Done) (d e : Done) → Ascends done_key all → all ≡ now ++ own → now ≡ xs ++ d ∷ [] → xs ≡ ds ++ e ∷ [] → key_lt e.event.key d.event.key ≡ true
before-last all now own xs ds d e up split last next =
    let P : Done → Type 0 = λ x. key_lt x.event.key d.event.key ≡ true in
    let low = Ascends-prefix done_key now own (subst (Ascends done_key) split up) in
    let below = Ascends-before done_key xs d [] (subst (Ascends done_key) last low) in
    (Each-back P ds (e ∷ []) (subst (Each P) next below)).0

-- with the same events, and no less room
pub can-same : (places : List ℕ) (v : NewsView) (c c' : CarriedView) (cells : ℕ) → CanCarry places v c cells → c'.items ≡ c.items → c.room ≤ c'.room → CanCarry places v c' cells
can-same places v c c' cells can items_are room =
    let was = can.room in
    record {
      ordered = subst (Ascends placed_key) (sym (ap (merged v.done places) items_are)) can.ordered;
      long = can.long;
      room = omega arith;
      few = can.few;
      cells_are = can.cells_are;
    }

-- the last of processed events, whose key is read
pub last-done : (ds : List Done) (n : ℕ) (key : Key) → n + 1 ≡ length ds → slice_get (keys_of ds) n ≡ Some key → (front : List Done) × (d : Done) × (ds ≡ front ++ d ∷ []) × (key ≡ d.event.key)
last-done [] n key long at = absurd (omega arith)
last-done (d ∷ []) zero key long at = ([], d, refl, same_Some key d.event.key (sym at))
last-done (d ∷ []) (suc n) key long at = absurd (omega arith)
last-done (d ∷ e ∷ ds) zero key long at = absurd (omega arith)
last-done (d ∷ e ∷ ds) (suc n) key long at =
    let more = last-done (e ∷ ds) n key (omega arith) at in
    (d ∷ more.0, more.1, ap (λ (xs : List Done). d ∷ xs) more.2, more.3)

-- a list has one last event
pub same-last : (xs ys : List Done) (d e : Done) → xs ++ d ∷ [] ≡ ys ++ e ∷ [] → d ≡ e
same-last xs ys d e same =
    let long = ap length same in
    let one = length-append xs (d ∷ []) in
    let two = length-append ys (e ∷ []) in
    same_Some d e (sym (seam xs d) ∙ ap (λ (ds : List Done). slice_get ds (length xs)) same ∙ ap (slice_get (ys ++ e ∷ [])) (omega arith) ∙ seam ys e)
  where
    seam : (zs : List Done) (x : Done) → slice_get (zs ++ x ∷ []) (length zs) ≡ Some x
    seam [] x = refl
    seam (z ∷ zs) x = seam zs x
