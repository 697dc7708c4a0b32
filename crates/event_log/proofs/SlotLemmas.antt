-- Entries whose events lie in slots.
use Rattle.std.proofs.Common.{◌≡◌, ◌≢◌, ℕ, zero, suc, ◌+◌, ◌<◌, ◌≤◌, cond, List, [], ◌∷◌, ◌++◌, length, min, take, drop, get_or, set, slice_get, refl, sym, ap, ◌∙◌, subst, inl, inr, arith, length-append, eq-eqb}
use Rattle.std.proofs.lemmas.Bool.{cases_eq, eqb-true, false_from_ne_true}
use Rattle.std.proofs.lemmas.List.{length-map, length-set}
use Rattle.std.proofs.lemmas.Option.{same_Some, slice_get_read}
use Rattle.std.specs.Prelude.{Some, None, ◌==◌}
use Rattle.std.specs.List.{AllByRecursion as Each, remove}
use Rattle.key_order.proofs.EachLemmas.{Each-append, Each-back, Each-front, Each-map}
use Rattle.object_log.specs.Dones.{Done}
use Rattle.object_log.proofs.CarriedLemmas.{map-removed}
use Rattle.event_log.specs.declared.contents.Contents.{Contents}
use Rattle.event_log.specs.declared.entry.Entry.{Entry}
use Rattle.event_log.specs.Items.{Item, ItemsView, item_least}
use Rattle.event_log.specs.Keeping.{IsKept, done_in}
use Rattle.event_log.specs.Slots.{AreInSlots, HasLaid, HasOpened, LiesIn, TellsOf, done_or, entries_of, frees_of, item_in, items_in, items_view}

-- what an entry tells
pub tells-of : (slots : List Contents) (e : Entry) → LiesIn slots e → TellsOf (item_in slots e) e
tells-of slots e l =
    let here : done_or e.key (slice_get slots e.slot) ≡ done_in l.contents = ap (done_or e.key) l.there in
    record {
      key_is = l.key_is ∙ ap (λ (d : Done). d.event.key) (sym here);
      place_is = refl;
      least_is = l.least_is ∙ l.kept.least_is ∙ ap (λ (d : Done). item_least (record { done = d; place = e.place; held = e.held })) (sym here);
      held_is = refl;
    }

-- no entry
pub no-slots : (slots : List Contents) (free : List ℕ) (es : List Entry) → slots ≡ [] → free ≡ [] → es ≡ [] → AreInSlots slots free es
unfolding entries_of frees_of
no-slots slots free es empty unfree none =
    let A : List Entry → Type 0 = λ fs. AreInSlots slots free fs in
    let B : List ℕ → Type 0 = λ ss. AreInSlots slots ss [] in
    let C : List Contents → Type 0 = λ cs. AreInSlots cs [] [] in
    subst A (sym none) (subst B (sym unfree) (subst C (sym empty) (record { lie = tt; within = tt; apart = λ slot. omega arith; as_many = refl })))

-- there is an entry for each event that is seen
pub entry-within : (slots : List Contents) (es : List Entry) (items : List Item) (n : ℕ) → items_in slots es ≡ items → n < length items → n < length es
entry-within slots es items n same within =
    let H : ℕ → Type 0 = λ long. n < long in
    subst H (sym (ap length same) ∙ length-map es (item_in slots)) within

-- a list at one of its places
pub split-entry : {X : Type 0} (n : ℕ) (xs : List X) (x : X) → n < length xs → x ≡ get_or xs n x → xs ≡ take n xs ++ x ∷ drop (suc n) xs
split-entry n [] x within at = absurd (omega arith)
split-entry zero (y ∷ ys) x within at = ap (λ z. z ∷ ys) (sym at)
split-entry (suc n) (y ∷ ys) x within at = ap (λ zs. y ∷ zs) (split-entry n ys x (omega arith) at)

pub drop-last : {X : Type 0} (n : ℕ) (xs : List X) → n + 1 ≡ length xs → (x : X) × (drop n xs ≡ x ∷ [])
drop-last n [] long = absurd (omega arith)
drop-last zero (x ∷ []) long = (x, refl)
drop-last zero (x ∷ y ∷ ys) long = absurd (omega arith)
drop-last (suc n) (x ∷ xs) long = drop-last n xs (omega arith)

none-there : {X : Type 0} {x : X} → None ≡ Some x → ⊥
none-there none = cc

-- what is read where a value was put, elsewhere, and before what was appended
read-set : {X : Type 0} (n : ℕ) (xs : List X) (x : X) → n < length xs → slice_get (set xs n x) n ≡ Some x
read-set n [] x within = absurd (omega arith)
read-set zero (y ∷ xs) x within = refl
read-set (suc n) (y ∷ xs) x within = read-set n xs x (omega arith)

read-other : {X : Type 0} (n m : ℕ) (xs : List X) (x : X) → m ≢ n → slice_get (set xs n x) m ≡ slice_get xs m
read-other n m [] x other = refl
read-other zero zero (y ∷ xs) x other = absurd (other refl)
read-other zero (suc m) (y ∷ xs) x other = refl
read-other (suc n) zero (y ∷ xs) x other = refl
read-other (suc n) (suc m) (y ∷ xs) x other = read-other n m xs x (λ same. other (ap suc same))

read-front : {X : Type 0} (m : ℕ) (xs ys : List X) → m < length xs → slice_get (xs ++ ys) m ≡ slice_get xs m
read-front m [] ys within = absurd (omega arith)
read-front zero (x ∷ xs) ys within = refl
read-front (suc m) (x ∷ xs) ys within = read-front m xs ys (omega arith)

read-within : {X : Type 0} (m : ℕ) (xs : List X) (x : X) → slice_get xs m ≡ Some x → m < length xs
read-within m [] x there = absurd (none-there there)
read-within zero (y ∷ xs) x there = omega arith
read-within (suc m) (y ∷ xs) x there = let less = read-within m xs x there in omega arith

-- how many entries are of a slot
of-own : (slot : ℕ) (e : Entry) (es : List Entry) → e.slot ≡ slot → entries_of slot (e ∷ es) ≡ suc (entries_of slot es)
unfolding entries_of
of-own slot e es own = ap (λ b. cond b (suc (entries_of slot es)) (entries_of slot es)) (eq-eqb e.slot slot own)

of-other : (slot : ℕ) (e : Entry) (es : List Entry) → e.slot ≢ slot → entries_of slot (e ∷ es) ≡ entries_of slot es
unfolding entries_of
of-other slot e es other = ap (λ b. cond b (suc (entries_of slot es)) (entries_of slot es)) (false_from_ne_true (e.slot == slot) (λ yes. other (eqb-true e.slot slot yes)))

of-none : (slot : ℕ) → entries_of slot [] ≡ 0
unfolding entries_of
of-none slot = refl

of-append : (slot : ℕ) (xs ys : List Entry) → entries_of slot (xs ++ ys) ≡ entries_of slot xs + entries_of slot ys
of-append slot [] ys = let none = of-none slot in omega arith
of-append slot (e ∷ xs) ys =
    let more = of-append slot xs ys in
    elim (cases_eq e.slot slot) [
      | inl own ↦ (let one = of-own slot e (xs ++ ys) own in let two = of-own slot e xs own in omega arith)
      | inr other ↦ (let one = of-other slot e (xs ++ ys) other in let two = of-other slot e xs other in omega arith)
    ]

-- none is of a slot
not-first : (slot : ℕ) (e : Entry) (es : List Entry) → entries_of slot (e ∷ es) ≡ 0 → (e.slot ≢ slot) × (entries_of slot es ≡ 0)
not-first slot e es none =
    elim (cases_eq e.slot slot) [
      | inl own ↦ (let one = of-own slot e es own in absurd (omega arith))
      | inr other ↦ (other, sym (of-other slot e es other) ∙ none)
    ]

-- how often a slot is free
free-own : (slot s : ℕ) (ss : List ℕ) → s ≡ slot → frees_of slot (s ∷ ss) ≡ suc (frees_of slot ss)
unfolding frees_of
free-own slot s ss own = ap (λ b. cond b (suc (frees_of slot ss)) (frees_of slot ss)) (eq-eqb s slot own)

free-other : (slot s : ℕ) (ss : List ℕ) → s ≢ slot → frees_of slot (s ∷ ss) ≡ frees_of slot ss
unfolding frees_of
free-other slot s ss other = ap (λ b. cond b (suc (frees_of slot ss)) (frees_of slot ss)) (false_from_ne_true (s == slot) (λ yes. other (eqb-true s slot yes)))

free-none : (slot : ℕ) → frees_of slot [] ≡ 0
unfolding frees_of
free-none slot = refl

free-more : (slot s : ℕ) (ss : List ℕ) → frees_of slot (ss ++ s ∷ []) ≡ frees_of slot ss + frees_of slot (s ∷ [])
free-more slot s [] = let none = free-none slot in omega arith
free-more slot s (r ∷ ss) =
    let more = free-more slot s ss in
    elim (cases_eq r slot) [
      | inl own ↦ (let one = free-own slot r (ss ++ s ∷ []) own in let two = free-own slot r ss own in omega arith)
      | inr other ↦ (let one = free-other slot r (ss ++ s ∷ []) other in let two = free-other slot r ss other in omega arith)
    ]

one-free : (slot s : ℕ) → s ≡ slot → frees_of slot (s ∷ []) ≡ 1
one-free slot s own = free-own slot s [] own ∙ ap suc (free-none slot)

other-free : (slot s : ℕ) → s ≢ slot → frees_of slot (s ∷ []) ≡ 0
other-free slot s other = free-other slot s [] other ∙ free-none slot

-- what other slots hold stays
module _ (old new : List Contents) (slot : ℕ) (others : (other : ℕ) → other ≢ slot → slice_get new other ≡ slice_get old other) where
  items-stay : (es : List Entry) → entries_of slot es ≡ 0 → items_in new es ≡ items_in old es
  items-stay [] none = refl
  items-stay (e ∷ es) none =
      let is = not-first slot e es none in
      let same : item_in new e ≡ item_in old e = ap (λ o. record { done = done_or e.key o; place = e.place; held = e.held }) (others e.slot is.0) in
      (λ i. same i ∷ items-stay es is.1 i)

  all-lie : (es : List Entry) → entries_of slot es ≡ 0 → Each (LiesIn old) es → Each (LiesIn new) es
  all-lie [] none lie = tt
  all-lie (e ∷ es) none lie =
      let is = not-first slot e es none in
      let l = lie.0 in
      (record { contents = l.contents; there = others e.slot is.0 ∙ l.there; kept = l.kept; key_is = l.key_is; least_is = l.least_is }, all-lie es is.1 lie.1)

-- a slot more behind the others changes none
module _ (old : List Contents) (c : Contents) where
  lies-more : (es : List Entry) → Each (LiesIn old) es → Each (LiesIn (old ++ c ∷ [])) es
  lies-more es lie = Each-map (LiesIn old) (LiesIn (old ++ c ∷ [])) es (λ e l. record {
    contents = l.contents;
    there = read-front e.slot old (c ∷ []) (read-within e.slot old l.contents l.there) ∙ l.there;
    kept = l.kept;
    key_is = l.key_is;
    least_is = l.least_is;
  }) lie

  items-more : (es : List Entry) → Each (LiesIn old) es → items_in (old ++ c ∷ []) es ≡ items_in old es
  items-more [] lie = refl
  items-more (e ∷ es) lie =
      let l = lie.0 in
      let read = read-front e.slot old (c ∷ []) (read-within e.slot old l.contents l.there) in
      let same : item_in (old ++ c ∷ []) e ≡ item_in old e = ap (λ o. record { done = done_or e.key o; place = e.place; held = e.held }) read in
      (λ i. same i ∷ items-more es lie.1 i)

  none-behind : (es : List Entry) → Each (LiesIn old) es → entries_of (length old) es ≡ 0
  none-behind [] lie = of-none (length old)
  none-behind (e ∷ es) lie =
      let less = read-within e.slot old lie.0.contents lie.0.there in
      of-other (length old) e es (λ same. (omega arith)) ∙ none-behind es lie.1

-- entries in another order
pub turned-slots : (slots : List Contents) (free : List ℕ) (xs ys : List Entry) → AreInSlots slots free (xs ++ ys) → AreInSlots slots free (ys ++ xs)
turned-slots slots free xs ys h = record {
  lie = Each-append (LiesIn slots) ys xs (Each-back (LiesIn slots) xs ys h.lie) (Each-front (LiesIn slots) xs ys h.lie);
  within = h.within;
  apart = λ slot. (let most = h.apart slot in let one = of-append slot xs ys in let two = of-append slot ys xs in omega arith);
  as_many = (let many = h.as_many in let one = length-append xs ys in let two = length-append ys xs in omega arith);
}

-- a slot is open: it is none of an entry, and not free any more
pub record IsOpen (slots : List Contents) (free : List ℕ) (es : List Entry) (slot : ℕ) : Type 0 where
  pub lie : Each (LiesIn slots) es
  pub within : Each (λ s. s < length slots) free
  pub here : slot < length slots
  pub apart : (other : ℕ) → entries_of other es + frees_of other free ≤ 1
  pub none : entries_of slot es ≡ 0
  pub unfree : frees_of slot free ≡ 0
  pub as_many : length slots ≡ length es + length free + 1

pub opened : (slots slots' : List Contents) (free free' : List ℕ) (es : List Entry) (slot : ℕ) → AreInSlots slots free es → HasOpened slots free slots' free' slot → IsOpen slots' free' es slot × (items_in slots' es ≡ items_in slots es)
opened slots slots' free free' es slot h (inl was) =
    let A : List Contents → Type 0 = λ cs. IsOpen cs free' es slot × (items_in cs es ≡ items_in slots es) in
    let g = subst (λ ss. AreInSlots slots ss es) was.0 h in
    let own = one-free slot slot refl in
    let more = free-more slot slot free' in
    let most = g.apart slot in
    subst A (sym was.1) (
      record {
        lie = g.lie;
        within = Each-front (λ s. s < length slots) free' (slot ∷ []) g.within;
        here = (Each-back (λ s. s < length slots) free' (slot ∷ []) g.within).0;
        apart = λ other. (let less = g.apart other in let split = free-more other slot free' in omega arith);
        none = omega arith;
        unfree = omega arith;
        as_many = (let many = g.as_many in let long = length-append free' (slot ∷ []) in omega arith);
      },
      refl,
    )
opened slots slots' free free' es slot h (inr new) =
    let c = new.3 in
    let A : List Contents → Type 0 = λ cs. IsOpen cs free' es slot × (items_in cs es ≡ items_in slots es) in
    let B : ℕ → Type 0 = λ at. IsOpen (slots ++ c ∷ []) free' es at × (items_in (slots ++ c ∷ []) es ≡ items_in slots es) in
    let C : List ℕ → Type 0 = λ ss. IsOpen (slots ++ c ∷ []) ss es (length slots) × (items_in (slots ++ c ∷ []) es ≡ items_in slots es) in
    let long = length-append slots (c ∷ []) in
    let unfree = free-none (length slots) in
    subst A (sym new.4) (subst B (sym new.2) (subst C (sym new.1) (
      record {
        lie = lies-more slots c es h.lie;
        within = tt;
        here = omega arith;
        apart = λ other. (let less = h.apart other in let none = free-none other in omega arith);
        none = none-behind slots c es h.lie;
        unfree = unfree;
        as_many = (let many = h.as_many in let none = ap length new.0 in omega arith);
      },
      items-more slots c es h.lie,
    )))

-- an event is put into an open slot
module _ (slots : List Contents) (free : List ℕ) (e : Entry) (c : Contents) (es : List Entry) (h : IsOpen slots free es e.slot) where
  others-stay : (other : ℕ) → other ≢ e.slot → slice_get (set slots e.slot c) other ≡ slice_get slots other
  others-stay other away = read-other e.slot other slots c away

  pub put-slots : IsKept c → e.key ≡ c.event.key → e.least ≡ c.least → AreInSlots (set slots e.slot c) free (e ∷ es)
  put-slots kept key least =
      let long = length-set slots e.slot c in
      record {
        lie = (record { contents = c; there = read-set e.slot slots c h.here; kept = kept; key_is = key; least_is = least }, all-lie slots (set slots e.slot c) e.slot others-stay es h.none h.lie);
        within = Each-map (λ s. s < length slots) (λ s. s < length (set slots e.slot c)) free (λ s less. omega arith) h.within;
        apart = λ slot. elim (cases_eq e.slot slot) [
          | inl own ↦ (let one = of-own slot e es own in let none = ap (λ s. entries_of s es) (sym own) ∙ h.none in let unfree = ap (λ s. frees_of s free) (sym own) ∙ h.unfree in omega arith)
          | inr other ↦ (let one = of-other slot e es other in let most = h.apart slot in omega arith)
        ];
        as_many = (let many = h.as_many in omega arith);
      }

  pub put-stay : items_in (set slots e.slot c) es ≡ items_in slots es
  put-stay = items-stay slots (set slots e.slot c) e.slot others-stay es h.none

  pub put-item : item_in (set slots e.slot c) e ≡ record { done = done_in c; place = e.place; held = e.held }
  put-item = ap (λ o. record { done = done_or e.key o; place = e.place; held = e.held }) (read-set e.slot slots c h.here)

-- an event leaves its slot, whatever stays there
module _ (slots : List Contents) (free : List ℕ) (xs ys : List Entry) (e : Entry) (c : Contents) (h : AreInSlots slots free (xs ++ e ∷ ys)) where
  none-else : entries_of e.slot (xs ++ ys) ≡ 0
  none-else =
      let most = h.apart e.slot in
      let one = of-append e.slot xs (e ∷ ys) in
      let two = of-own e.slot e ys refl in
      let three = of-append e.slot xs ys in
      omega arith

  left-lie : Each (LiesIn slots) (xs ++ ys)
  left-lie = Each-append (LiesIn slots) xs ys (Each-front (LiesIn slots) xs (e ∷ ys) h.lie) (Each-back (LiesIn slots) xs (e ∷ ys) h.lie).1

  apart-left : (slot : ℕ) → entries_of slot (xs ++ ys) + frees_of slot (free ++ e.slot ∷ []) ≤ 1
  apart-left slot =
      let most = h.apart slot in
      let one = of-append slot xs (e ∷ ys) in
      let two = of-append slot xs ys in
      let three = free-more slot e.slot free in
      elim (cases_eq e.slot slot) [
        | inl own ↦ (let four = of-own slot e ys own in let five = one-free slot e.slot own in omega arith)
        | inr other ↦ (let four = of-other slot e ys other in let five = other-free slot e.slot other in omega arith)
      ]

  pub own-lies : LiesIn slots e
  own-lies = (Each-back (LiesIn slots) xs (e ∷ ys) h.lie).0

  pub left-slots : AreInSlots (set slots e.slot c) (free ++ e.slot ∷ []) (xs ++ ys)
  left-slots =
      let long = length-set slots e.slot c in
      let here = read-within e.slot slots own-lies.contents own-lies.there in
      record {
        lie = all-lie slots (set slots e.slot c) e.slot (λ other away. read-other e.slot other slots c away) (xs ++ ys) none-else left-lie;
        within = Each-append (λ s. s < length (set slots e.slot c)) free (e.slot ∷ [])
            (Each-map (λ s. s < length slots) (λ s. s < length (set slots e.slot c)) free (λ s less. omega arith) h.within)
            ((omega arith), tt);
        apart = apart-left;
        as_many = (let were = h.as_many in let one = length-append xs (e ∷ ys) in let two = length-append xs ys in let three = length-append free (e.slot ∷ []) in omega arith);
      }

  pub left-stay : items_in (set slots e.slot c) (xs ++ ys) ≡ items_in slots (xs ++ ys)
  left-stay = items-stay slots (set slots e.slot c) e.slot (λ other away. read-other e.slot other slots c away) (xs ++ ys) none-else

-- there is room for the slot that was opened
pub opened-long : (slots slots' : List Contents) (free free' : List ℕ) (es : List Entry) (slot room : ℕ) → AreInSlots slots free es → HasOpened slots free slots' free' slot → length slots ≤ room → length es < room → length slots' ≤ room
opened-long slots slots' free free' es slot room h (inl was) fits more = let same = ap length was.1 in omega arith
opened-long slots slots' free free' es slot room h (inr new) fits more =
    let many = h.as_many in
    let none = ap length new.0 in
    let long = ap length new.4 in
    let both = length-append slots (new.3 ∷ []) in
    omega arith

-- an event is laid into a slot that was opened
pub laid-in : (old slots : List Contents) (unfree free : List ℕ) (e : Entry) (c : Contents) → HasOpened old unfree slots free e.slot → IsKept c → e.key ≡ c.event.key
    → e.least ≡ c.least → HasLaid old unfree (set slots e.slot c) free e (record { done = done_in c; place = e.place; held = e.held })
laid-in old slots unfree free e c opens kept key least es room h fits more =
    let o = opened old slots unfree free es e.slot h opens in
    let long = opened-long old slots unfree free es e.slot room h opens fits more in
    let same = length-set slots e.slot c in
    record {
      slots_are = put-slots slots free e c es o.0 kept key least;
      stay = put-stay slots free e c es o.0 ∙ o.1;
      own = put-item slots free e c es o.0;
      fits = omega arith;
    }

-- with an item that is the same
pub laid-same : {slots slots' : List Contents} {free free' : List ℕ} {e : Entry} {item item' : Item} → item ≡ item' → HasLaid slots free slots' free' e item → HasLaid slots free slots' free' e item'
laid-same {slots} {slots'} {free} {free'} {e} same laid = subst (HasLaid slots free slots' free' e) same laid

-- there is room for a slot more, as contracts see it
pub room-more : (slots : List Contents) (es : List Entry) (entries places frees : ℕ) (v : ItemsView) → items_view slots es (min entries (min places frees)) ≡ v → length v.items < v.capacity → length es < frees
room-more slots es entries places frees v view room =
    let counted = length-map es (item_in slots) in
    let seen = ap (λ (w : ItemsView). length w.items) view in
    let capacity = ap (λ (w : ItemsView). w.capacity) view in
    omega arith

-- an entry gets another place and another least stamp
pub lies-at : (slots : List Contents) (n : ℕ) (es : List Entry) (e : Entry) → n < length es → e ≡ get_or es n e → Each (LiesIn slots) es → LiesIn slots e
lies-at slots n [] e within at lie = absurd (omega arith)
lies-at slots zero (f ∷ es) e within at lie = subst (LiesIn slots) (sym at) lie.0
lies-at slots (suc n) (f ∷ es) e within at lie = lies-at slots n es e (omega arith) at lie.1

pub item-at : (slots : List Contents) (n : ℕ) (es : List Entry) (e : Entry) → n < length es → e ≡ get_or es n e → item_in slots e ≡ get_or (items_in slots es) n (item_in slots e)
item-at slots n [] e within at = absurd (omega arith)
item-at slots zero (f ∷ es) e within at = ap (item_in slots) at
item-at slots (suc n) (f ∷ es) e within at = item-at slots n es e (omega arith) at

module _ (slots : List Contents) (e f : Entry) (slot_is : f.slot ≡ e.slot) (key_is : f.key ≡ e.key) (least_is : f.least ≡ e.least) where
  set-lie : (n : ℕ) (es : List Entry) → n < length es → e ≡ get_or es n e → Each (LiesIn slots) es → Each (LiesIn slots) (set es n f)
  set-lie n [] within at lie = tt
  set-lie zero (g ∷ es) within at lie =
      let l = subst (LiesIn slots) (sym at) lie.0 in
      (record { contents = l.contents; there = ap (slice_get slots) slot_is ∙ l.there; kept = l.kept; key_is = key_is ∙ l.key_is; least_is = least_is ∙ l.least_is }, lie.1)
  set-lie (suc n) (g ∷ es) within at lie = (lie.0, set-lie n es (omega arith) at lie.1)

  set-of : (slot n : ℕ) (es : List Entry) → n < length es → e ≡ get_or es n e → entries_of slot (set es n f) ≡ entries_of slot es
  unfolding entries_of
  set-of slot n [] within at = absurd (omega arith)
  set-of slot zero (g ∷ es) within at = ap (λ s. cond (s == slot) (suc (entries_of slot es)) (entries_of slot es)) (slot_is ∙ ap (λ (x : Entry). x.slot) at)
  set-of slot (suc n) (g ∷ es) within at = ap (λ m. cond (g.slot == slot) (suc m) m) (set-of slot n es (omega arith) at)

  pub set-slots : (free : List ℕ) (n : ℕ) (es : List Entry) → n < length es → e ≡ get_or es n e → AreInSlots slots free es → AreInSlots slots free (set es n f)
  set-slots free n es within at h = record {
    lie = set-lie n es within at h.lie;
    within = h.within;
    apart = λ slot. (let most = h.apart slot in let same = set-of slot n es within at in omega arith);
    as_many = (let many = h.as_many in let long = length-set es n f in omega arith);
  }

  pub set-items : (n : ℕ) (es : List Entry) → items_in slots (set es n f) ≡ set (items_in slots es) n (item_in slots f)
  set-items n [] = refl
  set-items zero (g ∷ es) = refl
  set-items (suc n) (g ∷ es) = ap (λ is. item_in slots g ∷ is) (set-items n es)

  pub set-item : item_in slots f ≡ record { done = (item_in slots e).done; place = f.place; held = f.held }
  set-item = (λ i. record { done = done_or (key_is i) (slice_get slots (slot_is i)); place = f.place; held = f.held })

-- what lies in the slot of the entry at a place
pub at-slot : (slots : List Contents) (free : List ℕ) (es : List Entry) (n : ℕ) (e : Entry) (x : Contents) → n < length es → e ≡ get_or es n e → AreInSlots slots free es → x ≡ get_or slots e.slot x → IsKept x × ((item_in slots e).done ≡ done_in x)
at-slot slots free es n e x within at h seen =
    let l = lies-at slots n es e within at h.lie in
    let read = slice_get_read slots (length slots) e.slot x refl (read-within e.slot slots l.contents l.there) seen in
    (subst IsKept (same_Some l.contents x (sym l.there ∙ read)) l.kept, ap (done_or e.key) read)

-- the entry at a place leaves
pub left-at : (slots : List Contents) (free free' : List ℕ) (es es' : List Entry) (n : ℕ) (e : Entry) (c : Contents) → n < length es → e ≡ get_or es n e → AreInSlots slots free es → es' ≡ remove es n → free' ≡ free ++ e.slot ∷ []
    → AreInSlots (set slots e.slot c) free' es' × (items_in (set slots e.slot c) es' ≡ remove (items_in slots es) n)
left-at slots free free' es es' n e c within at h gone freed =
    let xs = take n es in
    let ys = drop (suc n) es in
    let g = subst (AreInSlots slots free) (split-entry n es e within at) h in
    let A : List Entry → Type 0 = AreInSlots (set slots e.slot c) (free ++ e.slot ∷ []) in
    let B : List ℕ → Type 0 = λ ss. AreInSlots (set slots e.slot c) ss es' in (
      subst B (sym freed) (subst A (sym gone) (left-slots slots free xs ys e c g)),
      ap (items_in (set slots e.slot c)) gone ∙ left-stay slots free xs ys e c g ∙ map-removed (item_in slots) es n,
    )

-- an entry stands at a place of a list, of which contracts see the events
pub record StandsIn (slots : List Contents) (free : List ℕ) (es : List Entry) (items : List Item) (n : ℕ) (e : Entry) : Type 0 where
  pub all : AreInSlots slots free es
  pub seen : items_in slots es ≡ items
  pub within : n < length es
  pub at : e ≡ get_or es n e

pub stands-in : (slots : List Contents) (free : List ℕ) (es : List Entry) (room n : ℕ) (e : Entry) (v : ItemsView) → items_view slots es room ≡ v
    → AreInSlots slots free es → n < length v.items → e ≡ get_or es n e → StandsIn slots free es v.items n e
stands-in slots free es room n e v view all within at =
    let seen = ap (λ (w : ItemsView). w.items) view in
    record { all = all; seen = seen; within = entry-within slots es v.items n seen within; at = at }

module _ {slots : List Contents} {free : List ℕ} {es : List Entry} {items : List Item} {n : ℕ} {e : Entry} (s : StandsIn slots free es items n e) where
  -- the event is seen there
  pub seen-there : item_in slots e ≡ get_or items n (item_in slots e)
  seen-there = item-at slots n es e s.within s.at ∙ ap (λ is. get_or is n (item_in slots e)) s.seen

  pub there-lies : LiesIn slots e
  there-lies = lies-at slots n es e s.within s.at s.all.lie

  -- and lies in the entry's slot
  pub in-slot : (c : Contents) → c ≡ get_or slots e.slot c → IsKept c × ((item_in slots e).done ≡ done_in c)
  in-slot c read = at-slot slots free es n e c s.within s.at s.all read

  -- it leaves
  pub has-left : (free' : List ℕ) (es' : List Entry) (c : Contents) → es' ≡ remove es n → free' ≡ free ++ e.slot ∷ []
      → AreInSlots (set slots e.slot c) free' es' × (items_in (set slots e.slot c) es' ≡ remove items n)
  has-left free' es' c gone freed =
      let left = left-at slots free free' es es' n e c s.within s.at s.all gone freed in
      (left.0, left.1 ∙ ap (λ is. remove is n) s.seen)

-- what lies in the slot of the last entry
pub end-slot : (slots : List Contents) (free : List ℕ) (xs : List Entry) (e : Entry) (x : Contents) → AreInSlots slots free (xs ++ e ∷ []) → x ≡ get_or slots e.slot x → (item_in slots e).done ≡ done_in x
end-slot slots free xs e x h seen =
    let l = (Each-back (LiesIn slots) xs (e ∷ []) h.lie).0 in
    ap (done_or e.key) (slice_get_read slots (length slots) e.slot x refl (read-within e.slot slots l.contents l.there) seen)
