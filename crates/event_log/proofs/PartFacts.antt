-- Carried events while those of an object leave, and while all get new places.
use Rattle.std.proofs.Common.{◌≡◌, ℕ, ◌+◌, ◌<◌, ◌≤◌, Bool, true, false, not, cond, List, [], ◌∷◌, ◌++◌, length, map, take, refl, sym, ap, ◌∙◌, subst, arith, length-append, append_assoc}
use Rattle.std.proofs.lemmas.List.{append-nil, length-map, map-append, nil_from_length, take_at}
use Rattle.std.proofs.lemmas.List.Elements.{filter-append}
use Rattle.std.specs.Prelude.{filter}
use Rattle.std.specs.List.{AllByRecursion as Each}
use Rattle.event_key.specs.Keys.{key_lt}
use Rattle.key_order.specs.Ascending.{Ascends}
use Rattle.key_order.specs.Keys.{times}
use Rattle.key_order.proofs.AscendingLemmas.{Ascends-before, Ascends-mapped, Ascends-prefix}
use Rattle.key_order.proofs.EachLemmas.{Each-back}
use Rattle.key_order.proofs.FilterLemmas.{filter-map}
use Rattle.object_log.specs.Carrying.{Placed, placed_key}
use Rattle.object_log.specs.EventLogs.{is_of}
use Rattle.object_log.specs.Weave.{insert, weave}
use Rattle.object_log.proofs.WeaveLemmas.{insert-fresh, weave-below, weave-last}
use Rattle.event_log.specs.Items.{AreHeld, IsHeld, Item, item_key, placed, placed_of}
use Rattle.event_log.specs.Moves.{alone, other_items, own_items, shifted}
use Rattle.event_log.specs.Turning.{turned_back}
use Rattle.event_log.proofs.PopFacts.{same-ends}

abbrev pub stays_here : ℕ → Item → Bool
stays_here object i = not (is_of object i.done)

-- some are done: those of the object are in their own list, and the others came behind those that are left
pub record IsParted (object counter : ℕ) (all now own : List Item) : Type 0 where
  pub done : List Item
  pub left : List Item
  pub split : all ≡ done ++ left
  pub counted : length done ≡ counter
  pub now_is : now ≡ left ++ filter (stays_here object) done
  pub own_is : placed own ≡ own_items object (placed done)

pub none-parted : (object : ℕ) (all own : List Item) → own ≡ [] → IsParted object 0 all all own
none-parted object all own none = record { done = []; left = all; split = refl; counted = refl; now_is = sym (append-nil all); own_is = ap placed none }

-- the own ones among more
own-more : (object : ℕ) (ps : List Placed) (p : Placed) → own_items object (ps ++ p ∷ []) ≡ own_items object ps ++ own_items object (p ∷ [])
own-more object ps p = ap (map alone) (filter-append (λ (q : Placed). is_of object q.done) ps (p ∷ [])) ∙ map-append alone (filter (λ (q : Placed). is_of object q.done) ps) (filter (λ (q : Placed). is_of object q.done) (p ∷ []))

module _ (object counter : ℕ) (all now own : List Item) (x : Item) (rest : List Item) (h : IsParted object counter all now own) (more : counter < length all) (is : now ≡ x ∷ rest) where
  first-left : (left : List Item) → all ≡ h.done ++ left → now ≡ left ++ filter (stays_here object) h.done → (tail : List Item) × (left ≡ x ∷ tail) × (rest ≡ tail ++ filter (stays_here object) h.done)
  first-left [] split now_is = (let long = ap length split in let parts = length-append h.done [] in let counted = h.counted in absurd (omega arith))
  first-left (y ∷ ys) split now_is = (let same : x ∷ rest ≡ y ∷ (ys ++ filter (stays_here object) h.done) = sym is ∙ now_is in let one : y ≡ x = cc in let two : rest ≡ ys ++ filter (stays_here object) h.done = cc in (ys, ap (λ (z : Item). z ∷ ys) one, two))

  abbrev first : (tail : List Item) × (h.left ≡ x ∷ tail) × (rest ≡ tail ++ filter (stays_here object) h.done)
  first = first-left h.left h.split h.now_is

  split' : all ≡ (h.done ++ x ∷ []) ++ first.0
  split' = h.split ∙ ap (λ (es : List Item). h.done ++ es) first.1 ∙ sym (append_assoc h.done (x ∷ []) first.0)

  counted' : length (h.done ++ x ∷ []) ≡ counter + 1
  counted' = let parts = length-append h.done (x ∷ []) in let counted = h.counted in omega arith

  placed' : placed (h.done ++ x ∷ []) ≡ placed h.done ++ placed_of x ∷ []
  placed' = map-append placed_of h.done (x ∷ [])

  -- it is one of the object's
  pub parted-own : (put : Item) (own' : List Item) → is_of object x.done ≡ true → own' ≡ own ++ put ∷ [] → placed_of put ≡ alone (placed_of x) → IsParted object (counter + 1) all rest own'
  parted-own put own' here own_is same = record {
    done = h.done ++ x ∷ [];
    left = first.0;
    split = split';
    counted = counted';
    now_is = first.2 ∙ ap (λ (es : List Item). first.0 ++ es)
        (sym (append-nil (filter (stays_here object) h.done))
        ∙ ap (λ b. filter (stays_here object) h.done ++ cond (not b) (x ∷ []) []) (sym here)
        ∙ sym (filter-append (stays_here object) h.done (x ∷ [])));
    own_is =
        ap placed own_is ∙ map-append placed_of own (put ∷ [])
        ∙ (λ i. h.own_is i ++ same i ∷ [])
        ∙ ap (λ b. own_items object (placed h.done) ++ map alone (cond b (placed_of x ∷ []) [])) (sym here)
        ∙ sym (own-more object (placed h.done) (placed_of x))
        ∙ ap (own_items object) (sym placed');
  }

  -- or it stays
  pub parted-other : (now' : List Item) → is_of object x.done ≡ false → now' ≡ rest ++ x ∷ [] → IsParted object (counter + 1) all now' own
  parted-other now' there now_is = record {
    done = h.done ++ x ∷ [];
    left = first.0;
    split = split';
    counted = counted';
    now_is = now_is ∙ ap (λ (es : List Item). es ++ x ∷ []) first.2 ∙ append_assoc first.0 (filter (stays_here object) h.done) (x ∷ [])
        ∙ ap (λ (es : List Item). first.0 ++ es)
        (ap (λ b. filter (stays_here object) h.done ++ cond (not b) (x ∷ []) []) (sym there)
        ∙ sym (filter-append (stays_here object) h.done (x ∷ [])));
    own_is =
        h.own_is ∙ sym (append-nil (own_items object (placed h.done)))
        ∙ ap (λ b. own_items object (placed h.done) ++ map alone (cond b (placed_of x ∷ []) [])) (sym there)
        ∙ sym (own-more object (placed h.done) (placed_of x))
        ∙ ap (own_items object) (sym placed');
  }

  -- there is room for one more of the object's
  pub parted-room : is_of object x.done ≡ true → length own + 1 ≤ length (own_items object (placed all))
  parted-room here =
      let whole = ap (λ (es : List Item). own_items object (placed es)) (h.split ∙ ap (λ (es : List Item). h.done ++ es) first.1) in
      let parts : own_items object (placed (h.done ++ x ∷ first.0)) ≡ own_items object (placed h.done) ++ (alone (placed_of x) ∷ own_items object (placed first.0)) =
      ap (own_items object) (map-append placed_of h.done (x ∷ first.0))
      ∙ ap (map alone) (filter-append (λ (q : Placed). is_of object q.done) (placed h.done) (placed (x ∷ first.0)))
      ∙ map-append alone (filter (λ (q : Placed). is_of object q.done) (placed h.done)) (filter (λ (q : Placed). is_of object q.done) (placed (x ∷ first.0)))
      ∙ ap (λ b. own_items object (placed h.done) ++ map alone (cond b (placed_of x ∷ filter (λ (q : Placed). is_of object q.done) (placed first.0)) (filter (λ (q : Placed). is_of object q.done) (placed first.0)))) here in
      let one = length-map own placed_of in
      let two = ap length h.own_is in
      let three = ap length (whole ∙ parts) in
      let four = length-append (own_items object (placed h.done)) (alone (placed_of x) ∷ own_items object (placed first.0)) in
      omega arith

-- all are done
module _ (object counter : ℕ) (all now own : List Item) (h : IsParted object counter all now own) (end : length all ≤ counter) where
  none-left : h.left ≡ []
  none-left = let long = ap length h.split in let parts = length-append h.done h.left in let counted = h.counted in nil_from_length h.left (omega arith)

  done-all : h.done ≡ all
  done-all = sym (h.split ∙ ap (λ (es : List Item). h.done ++ es) none-left ∙ append-nil h.done)

  pub parted-items : placed now ≡ other_items object (placed all)
  parted-items =
      ap placed (h.now_is ∙ ap (λ (es : List Item). es ++ filter (stays_here object) h.done) none-left ∙ ap (filter (stays_here object)) done-all)
      ∙ sym (filter-map placed_of (λ (p : Placed). not (is_of object p.done)) all)

  pub parted-own_items : placed own ≡ own_items object (placed all)
  parted-own_items = h.own_is ∙ ap (λ (es : List Item). own_items object (placed es)) done-all

-- a list that isn't empty has a last one
last-of : (x : Item) (xs : List Item) → (front : List Item) × (last : Item) × (x ∷ xs ≡ front ++ last ∷ [])
last-of x [] = ([], x, refl)
last-of x (y ∷ ys) = (let more = last-of y ys in (x ∷ more.0, more.1, ap (λ (es : List Item). x ∷ es) more.2))

ends-with : (fs ls rest : List Item) (x : Item) → 0 < length ls → fs ++ ls ≡ rest ++ x ∷ [] → (tail : List Item) × (ls ≡ tail ++ x ∷ []) × (rest ≡ fs ++ tail)
ends-with fs [] rest x some is = absurd (omega arith)
ends-with fs (y ∷ ys) rest x some is =
    let l = last-of y ys in
    let both = same-ends (fs ++ l.0) rest (l.1 ∷ []) (x ∷ []) refl (append_assoc fs l.0 (l.1 ∷ []) ∙ ap (λ (es : List Item). fs ++ es) (sym l.2) ∙ is) in
    (l.0, l.2 ∙ ap (λ (es : List Item). l.0 ++ es) both.1, sym both.0)

-- some stand in front again, each with its new place and what it holds
pub record IsSettled (from to counter : ℕ) (all now : List Item) : Type 0 where
  pub left : List Item
  pub gone : List Item
  pub front : List Item
  pub split : all ≡ left ++ gone
  pub counted : length front ≡ counter
  pub now_is : now ≡ front ++ left
  pub placed_are : placed front ≡ map (shifted from to) (placed gone)
  pub held : AreHeld front

pub none-settled : (from to : ℕ) (all : List Item) → IsSettled from to 0 all all
unfolding AreHeld
none-settled from to all = record { left = all; gone = []; front = []; split = sym (append-nil all); counted = refl; now_is = refl; placed_are = refl; held = tt }

module _ (from to counter : ℕ) (all now : List Item) (h : IsSettled from to counter all now) where
  front-long : length h.gone ≡ length h.front
  front-long =
      let one = length-map h.front placed_of in
      let two = ap length h.placed_are in
      let three = length-map (placed h.gone) (shifted from to) in
      let four = length-map h.gone placed_of in
      omega arith

  pub settled-within : counter ≤ length now
  settled-within = let parts = length-append h.front h.left in let long = ap length h.now_is in let counted = h.counted in omega arith

  pub settled-all : length all ≤ counter → (placed now ≡ map (shifted from to) (placed all)) × AreHeld now
  settled-all end =
      let long = ap length h.split in
      let parts = length-append h.left h.gone in
      let counted = h.counted in
      let same = front-long in
      let none : h.left ≡ [] = nil_from_length h.left (omega arith) in
      let now_is : now ≡ h.front = h.now_is ∙ ap (λ (es : List Item). h.front ++ es) none ∙ append-nil h.front in
      let all_is : h.gone ≡ all = sym (h.split ∙ ap (λ (es : List Item). es ++ h.gone) none) in
      (ap placed now_is ∙ h.placed_are ∙ ap (λ (es : List Item). map (shifted from to) (placed es)) all_is, subst AreHeld (sym now_is) h.held)

  module _ (rest now' : List Item) (x put : Item) (more : counter < length all) (popped : now ≡ rest ++ x ∷ []) (put_is : now' ≡ put ∷ rest) (same : placed_of put ≡ shifted from to (placed_of x)) (held : IsHeld put (take counter rest)) where
    some-left : 0 < length h.left
    some-left =
        let long = ap length h.split in
        let parts = length-append h.left h.gone in
        let counted = h.counted in
        let same = front-long in
        omega arith

    abbrev last : (tail : List Item) × (h.left ≡ tail ++ x ∷ []) × (rest ≡ h.front ++ tail)
    last = ends-with h.front h.left rest x some-left (sym h.now_is ∙ popped)

    in-front : take counter rest ≡ h.front
    in-front = ap (take counter) last.2 ∙ take_at h.front last.0 counter h.counted

    pub settled-more : IsSettled from to (counter + 1) all now'
    unfolding AreHeld
    settled-more = record {
      left = last.0;
      gone = x ∷ h.gone;
      front = put ∷ h.front;
      split = h.split ∙ ap (λ (es : List Item). es ++ h.gone) last.1 ∙ append_assoc last.0 (x ∷ []) h.gone;
      counted = (let counted = h.counted in omega arith);
      now_is = put_is ∙ ap (λ (es : List Item). put ∷ es) last.2;
      placed_are = (λ i. same i ∷ h.placed_are i);
      held = (let H : List Item → Type 0 = λ es. IsHeld put es in subst H in-front held, h.held);
    }

-- the last of the others joins
pub joined-start : (es : List Item) (ps : List Placed) → Ascends placed_key (weave placed_key ps (placed es)) → Ascends placed_key (weave placed_key ps (placed (turned_back 0 es)))
joined-start es ps up = let A : List Item → Type 0 = λ fs. Ascends placed_key (weave placed_key ps (placed fs)) in subst A (sym (append-nil es)) up

woven-last : (all xs : List Item) (x : Item) (now : List Placed) → all ≡ xs ++ x ∷ [] → weave placed_key (placed all) now ≡ weave placed_key (placed xs) (insert placed_key (placed_of x) now)
woven-last all xs x now is =
    ap (λ (ps : List Placed). weave placed_key ps now) (ap placed is ∙ map-append placed_of xs (x ∷ []))
    ∙ weave-last placed_key (placed xs) now (placed_of x)

pub joins-fresh : (all xs : List Item) (x : Item) (now : List Placed) → all ≡ xs ++ x ∷ [] → Ascends placed_key (weave placed_key (placed all) now) → times placed_key (item_key x) now ≡ 0
joins-fresh all xs x now is up =
    insert-fresh placed_key (placed_of x) now (weave-below placed_key (placed xs) (insert placed_key (placed_of x) now) (subst (Ascends placed_key) (woven-last all xs x now is) up))

pub joins-same : (all xs : List Item) (x : Item) (now then : List Placed) → all ≡ xs ++ x ∷ [] → then ≡ insert placed_key (placed_of x) now → weave placed_key (placed xs) then ≡ weave placed_key (placed all) now
joins-same all xs x now then is then_is = ap (weave placed_key (placed xs)) then_is ∙ sym (woven-last all xs x now is)

-- what is left comes before what left
pub before-end : (all now own xs es : List Item) (x e : Item) → Ascends placed_key (placed all) → all ≡ now ++ own → now ≡ xs ++ x ∷ [] → xs ≡ es ++ e ∷ [] → key_lt (item_key e) (item_key x) ≡ true
before-end all now own xs es x e up split is last =
    let items_up = Ascends-mapped placed_key placed_of all up in
    let now_up = Ascends-prefix item_key now own (subst (Ascends item_key) split items_up) in
    let low = Ascends-before item_key xs x [] (subst (Ascends item_key) is now_up) in
    let P : Item → Type 0 = λ i. key_lt (item_key i) (item_key x) ≡ true in
    (Each-back P es (e ∷ []) (subst (Each P) last low)).0

pub joins-end : (others : List Item) (now : List Placed) → others ≡ [] → now ≡ weave placed_key (placed others) now
unfolding weave
joins-end others now none = (λ i. weave placed_key (placed (sym none i)) now)
