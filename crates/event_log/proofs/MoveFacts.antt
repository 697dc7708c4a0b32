-- An object leaves a log, and comes to another.
use Rattle.std.proofs.Common.{◌≡◌, ◌≢◌, ℕ, zero, suc, ◌+◌, ◌-◌, ◌<◌, Bool, true, false, not, cond, Some, None, List, [], ◌∷◌, length, map, take, get_or, eqb-true, ltb, ltb-true, refl, sym, ap, ◌∙◌, subst, arith}
use Rattle.std.proofs.lemmas.Bool.{eqb-false, false_from_ne_true, ltb-false}
use Rattle.std.proofs.lemmas.List.{length-map}
use Rattle.std.proofs.lemmas.List.Sorted.{IsPermutation-map, IsPermutation-swap_remove, length_permutation}
use Rattle.std.proofs.lemmas.Option.{slice_get_within}
use Rattle.std.specs.Prelude.{filter, slice_get, slice_set, slice_index_or, swap_remove, IsPermutation, ◌==◌}
use Rattle.std.specs.List.{AllByRecursion as Each}
use Rattle.key_order.proofs.AscendingLemmas.{Ascends-filter, Ascends-map}
use Rattle.key_order.proofs.EachLemmas.{Each-both, Each-filter, Each-map}
use Rattle.key_order.proofs.FilterLemmas.{filter-all, filter-map, filter-passes, length-filter_le}
use Rattle.key_order.proofs.MemberLemmas.{Each-permutation}
use Rattle.object_log.specs.Carrying.{Placed, placed_key}
use Rattle.object_log.specs.Dones.{Done}
use Rattle.object_log.specs.EventLogs.{EventLogView, ObjectView, dones_at, is_of, or_else, slot_in, slot_of, state_in}
use Rattle.object_log.specs.Keeping.{Keeps}
use Rattle.object_log.specs.Objects.{AreApart, IsPlaced, KeptObject, state_of}
use Rattle.object_log.specs.Whole.{IsEventLog, StandsAt, dones_in, log_view, object_view}
use Rattle.object_log.proofs.EventLogLemmas.{each-read, placed-dest, placed-state, placed-within, read-get, set-here, set-there}
use Rattle.object_log.proofs.OwnLemmas.{is_here, is_there}
use Rattle.object_log.proofs.UndoLemmas.{get-map}
use Rattle.event_log.specs.Moves.{alone, other_items, own_items, place_after, shifted}
use Rattle.event_log.proofs.PermuteFacts.{apart-first, apart-permutation, not-here, state-permutation}

pub each-of-map : {X Y : Type 0} (f : X → Y) (P : Y → Type 0) (xs : List X) → Each (λ (x : X). P (f x)) xs → Each P (map f xs)
each-of-map f P [] all = tt
each-of-map f P (x ∷ xs) all = (all.0, each-of-map f P xs all.1)

-- places hold nothing that the keys tell
pub shifted-dones : (from to : ℕ) (ps : List Placed) → dones_in (map (shifted from to) ps) ≡ dones_in ps
shifted-dones from to [] = refl
shifted-dones from to (p ∷ ps) = ap (λ (ds : List Done). p.done ∷ ds) (shifted-dones from to ps)

alone-dones : (ps : List Placed) → dones_in (map alone ps) ≡ dones_in ps
alone-dones [] = refl
alone-dones (p ∷ ps) = ap (λ (ds : List Done). p.done ∷ ds) (alone-dones ps)

pub own-dones : (object : ℕ) (items : List Placed) → dones_in (own_items object items) ≡ dones_at object (dones_in items)
own-dones object items = alone-dones (filter (λ (p : Placed). is_of object p.done) items) ∙ sym (filter-map (λ (p : Placed). p.done) (is_of object) items)

pub other-dones : (object : ℕ) (items : List Placed) → dones_in (other_items object items) ≡ filter (λ (d : Done). not (is_of object d)) (dones_in items)
other-dones object items = sym (filter-map (λ (p : Placed). p.done) (λ (d : Done). not (is_of object d)) items)

-- what others have processed stays
others-stay : (object other : ℕ) (ds : List Done) → other ≢ object → dones_at other (filter (λ (d : Done). not (is_of object d)) ds) ≡ dones_at other ds
others-stay object other [] there = refl
others-stay object other (d ∷ ds) there = by_test (is_of object d) refl (others-stay object other ds there)
  where
    by_test : (b : Bool) → is_of object d ≡ b → dones_at other (filter (λ (e : Done). not (is_of object e)) ds) ≡ dones_at other ds
        → dones_at other (cond (not b) (d ∷ filter (λ (e : Done). not (is_of object e)) ds) (filter (λ (e : Done). not (is_of object e)) ds)) ≡ cond (is_of other d) (d ∷ dones_at other ds) (dones_at other ds)
    by_test false h more = ap (λ (es : List Done). cond (is_of other d) (d ∷ es) es) more
    by_test true h more =
        let away : is_of other d ≡ false = is_there d other (λ here. there (sym here ∙ eqb-true d.event.key.dest object h)) in
        more ∙ ap (λ b. cond b (d ∷ dones_at other ds) (dones_at other ds)) (sym away)

-- an element of a prefix
get-take : {X : Type 0} (n k : ℕ) (xs : List X) (x : X) → slice_get xs k ≡ Some x → k < n → slice_get (take n xs) k ≡ Some x
get-take zero k xs x found lt = absurd (omega arith)
get-take (suc n) k [] x found lt = absurd (cc)
get-take (suc n) zero (y ∷ ys) x found lt = found
get-take (suc n) (suc k) (y ∷ ys) x found lt = get-take n k ys x found (omega arith)

index-read : {X : Type 0} (xs : List X) (i : ℕ) (d x : X) → slice_get xs i ≡ Some x → slice_index_or xs i d ≡ x
index-read [] i d x found = absurd (cc)
index-read (y ∷ ys) zero d x found = cc
index-read (y ∷ ys) (suc i) d x found = index-read ys i d x found

not-last : (k n : ℕ) → k ≢ n - 1 → k < n → k < n - 1
not-last k n apart lt = by_test (ltb k (n - 1)) refl
  where
    by_test : (b : Bool) → ltb k (n - 1) ≡ b → k < n - 1
    by_test true h = ltb-true k (n - 1) h
    by_test false h = (let ge = ltb-false k (n - 1) h in absurd (apart (omega arith)))

-- an object leaves its place, and the last one comes there
module _ (objects : List KeptObject) (items : List Placed) (place : ℕ) (o : KeptObject) (log : IsEventLog objects items) (within : place < length objects) (at : o ≡ get_or objects place o) where
  abbrev pub left : List KeptObject
  left = swap_remove objects place o

  moves : IsPermutation objects (o ∷ left)
  moves = IsPermutation-swap_remove objects place o within at

  views : IsPermutation (map object_view objects) (object_view o ∷ map object_view left)
  views = IsPermutation-map object_view objects (o ∷ left) moves

  both-apart : Each (λ (v : ObjectView). v.object ≢ o.object) (map object_view left) × AreApart (map object_view left)
  both-apart = apart-first (object_view o) (map object_view left) (apart-permutation (map object_view objects) (object_view o ∷ map object_view left) log.apart views)

  pub left-long : length left + 1 ≡ length objects
  left-long = let long = length_permutation objects (o ∷ left) moves in omega arith

  pub left-gone : state_in (map object_view left) o.object ≡ None
  left-gone = not-here (map object_view left) o.object both-apart.0

  pub left-others : (other : ℕ) → other ≢ o.object → state_in (map object_view left) other ≡ state_in (map object_view objects) other
  unfolding state_in
  left-others other there =
      ap (λ b. or_else b (state_of o) (state_in (map object_view left) other)) (sym (false_from_ne_true (o.object == other) (λ yes. there (sym (eqb-true o.object other yes)))))
      ∙ state-permutation (map object_view objects) (object_view o ∷ map object_view left) other log.apart views

  -- the others stand where they stood, or the last one at the place of the one that left
  pub left-stands : (pl other : ℕ) → other ≢ o.object → StandsAt objects pl other → StandsAt left (place_after (length left) place pl) other
  left-stands pl other there s = by_place (pl == length left) refl
    where
      inside : pl < length objects
      inside = slice_get_within objects pl s.0 s.1

      long : length left + 1 ≡ length objects
      long = left-long

      last : length objects - 1 ≡ length left
      last = omega (arith, long)

      apart : pl ≢ place
      apart same = there (sym s.2 ∙ ap (λ (k : KeptObject). k.object) (sym (read-get objects place o s.0 at (ap (slice_get objects) (sym same) ∙ s.1))))

      lt-last : (k : ℕ) → k ≢ length objects - 1 → k < length objects → k < length objects - 1
      lt-last k apart lt = not-last k (length objects) apart lt

      by_place : (b : Bool) → (pl == length left) ≡ b → StandsAt left (cond b place pl) other
      by_place true h =
          let is = eqb-true pl (length left) h in
          let end : slice_index_or objects (length objects - 1) o ≡ s.0 = index-read objects (length objects - 1) o s.0 (ap (slice_get objects) (last ∙ sym is) ∙ s.1) in
          let found = set-here objects place (slice_index_or objects (length objects - 1) o) within in
          let low : place < length objects - 1 = lt-last place (λ same. apart (is ∙ sym last ∙ sym same)) within in
          (s.0, get-take (length objects - 1) place (slice_set objects place (slice_index_or objects (length objects - 1) o)) s.0 (found ∙ ap Some end) low, s.2)
      by_place false h =
          let other_place = eqb-false pl (length left) h in
          let low : pl < length objects - 1 = lt-last pl (λ same. other_place (same ∙ last)) inside in
          (s.0, get-take (length objects - 1) pl (slice_set objects place (slice_index_or objects (length objects - 1) o)) s.0 (set-there objects place pl (slice_index_or objects (length objects - 1) o) apart ∙ s.1) low, s.2)

  abbrev pub left_items : List Placed
  left_items = map (shifted (length left) place) (other_items o.object items)

  pub left-dones : dones_in left_items ≡ filter (λ (d : Done). not (is_of o.object d)) (dones_in items)
  left-dones = shifted-dones (length left) place (other_items o.object items) ∙ other-dones o.object items

  pub left-log : IsEventLog left left_items
  left-log =
      let few = log.few in
      let one = length-map (other_items o.object items) (shifted (length left) place) in
      let two = length-filter_le (λ (p : Placed). not (is_of o.object p.done)) items in
      let P : KeptObject → Type 0 = λ k. Keeps k.cells k.sent (dones_at k.object (dones_in items)) in
      let Q : KeptObject → Type 0 = λ k. Keeps k.cells k.sent (dones_at k.object (dones_in left_items)) in
      record {
        apart = both-apart.1;
        keeps = Each-both (λ (k : KeptObject). k.object ≢ o.object) P Q left
            (λ k there keeps. (let K : List Done → Type 0 = Keeps k.cells k.sent in
            subst K (sym (ap (dones_at k.object) left-dones ∙ others-stay o.object k.object (dones_in items) there)) keeps))
            (each-viewed (λ (n : ℕ). n ≢ o.object) left both-apart.0) (Each-permutation P objects (o ∷ left) moves log.keeps).1;
        places = each-of-map (shifted (length left) place) (λ (p : Placed). StandsAt left p.place p.done.event.key.dest) (other_items o.object items)
            (Each-both (λ (p : Placed). not (is_of o.object p.done) ≡ true) (λ (p : Placed). StandsAt objects p.place p.done.event.key.dest) (λ (p : Placed). StandsAt left (place_after (length left) place p.place) p.done.event.key.dest) (other_items o.object items)
            (λ p stays s. left-stands p.place p.done.event.key.dest (stays-other p stays) s)
            (filter-passes (λ (p : Placed). not (is_of o.object p.done)) items)
            (Each-filter (λ (p : Placed). StandsAt objects p.place p.done.event.key.dest) (λ (p : Placed). not (is_of o.object p.done)) items log.places));
        ordered = Ascends-map placed_key (shifted (length left) place) (other_items o.object items) (Ascends-filter placed_key (λ (p : Placed). not (is_of o.object p.done)) items log.ordered);
        few = omega arith;
      }
    where
      each-viewed : (P : ℕ → Type 0) (ks : List KeptObject) → Each (λ (v : ObjectView). P v.object) (map object_view ks) → Each (λ (k : KeptObject). P k.object) ks
      each-viewed P [] all = tt
      each-viewed P (k ∷ ks) all = (all.0, each-viewed P ks all.1)

      stays-other : (p : Placed) → not (is_of o.object p.done) ≡ true → p.done.event.key.dest ≢ o.object
      stays-other p stays here = let own = is_here p.done o.object here in let no = ap not own in absurd (cc)

  -- it is a log of its own
  pub gone-log : IsEventLog (o ∷ []) (own_items o.object items)
  unfolding AreApart
  gone-log =
      let few = log.few in
      let own = filter (λ (p : Placed). is_of o.object p.done) items in
      let one = length-map own alone in
      let two = length-filter_le (λ (p : Placed). is_of o.object p.done) items in
      let K : List Done → Type 0 = Keeps o.cells o.sent in
      let here = filter-passes (is_of o.object) (dones_in items) in
      record {
        apart = (tt, tt);
        keeps = (
          subst K (sym (ap (dones_at o.object) (own-dones o.object items) ∙ filter-all (is_of o.object) (dones_at o.object (dones_in items)) here))
              (each-read (λ (k : KeptObject). Keeps k.cells k.sent (dones_at k.object (dones_in items))) objects place o within at log.keeps),
          tt,
        );
        places = each-of-map alone (λ (p : Placed). StandsAt (o ∷ []) p.place p.done.event.key.dest) own
            (Each-map (λ (p : Placed). is_of o.object p.done ≡ true) (λ (p : Placed). StandsAt (o ∷ []) 0 p.done.event.key.dest) own
            (λ p here. (o, refl, sym (eqb-true p.done.event.key.dest o.object here))) (filter-passes (λ (p : Placed). is_of o.object p.done) items));
        ordered = Ascends-map placed_key alone own (Ascends-filter placed_key (λ (p : Placed). is_of o.object p.done) items log.ordered);
        few = omega arith;
      }

unviewed : (objects : List KeptObject) (pl : ℕ) (v : ObjectView) (other : ℕ) → slice_get (map object_view objects) pl ≡ Some v → v.object ≡ other → StandsAt objects pl other
unviewed [] pl v other found is = absurd (cc)
unviewed (k ∷ ks) zero v other found is = (let same : object_view k ≡ v = cc in (k, refl, ap (λ (w : ObjectView). w.object) same ∙ is))
unviewed (k ∷ ks) (suc pl) v other found is = unviewed ks pl v other found is

-- what leaves is as long as what a caller sees
pub own-room : (objects : List KeptObject) (items : List Placed) (old : EventLogView) (object : ℕ) → log_view objects items ≡ old → length (own_items object items) ≡ length (dones_at object old.done)
own-room objects items old object view =
    sym (length-map (own_items object items) (λ (p : Placed). p.done))
    ∙ ap length (own-dones object items)
    ∙ ap (λ (v : EventLogView). length (dones_at object v.done)) view

-- what a caller says of an object that leaves
module _ (objects : List KeptObject) (items : List Placed) (old : EventLogView) (place object : ℕ) (o : KeptObject) (view : log_view objects items ≡ old) (log : IsEventLog objects items) (placed : IsPlaced old place object) (at : o ≡ get_or objects place o) where
  abbrev pub within : place < length objects
  within = placed-within objects items old place object view placed

  dest : object ≡ o.object
  dest = placed-dest objects items old place object view placed o at

  pub taken-log : IsEventLog (left objects items place o log within at) (map (shifted (length (left objects items place o log within at)) place) (other_items object items))
  taken-log = let L : ℕ → Type 0 = λ n. IsEventLog (left objects items place o log within at) (map (shifted (length (left objects items place o log within at)) place) (other_items n items)) in subst L (sym dest) (left-log objects items place o log within at)

  pub taken-moved : IsEventLog (o ∷ []) (own_items object items)
  taken-moved = let L : ℕ → Type 0 = λ n. IsEventLog (o ∷ []) (own_items n items) in subst L (sym dest) (gone-log objects items place o log within at)

  pub taken-slot : slot_in old object ≡ Some (record { object = o.object; state = state_of o; done = dones_in (own_items object items) })
  taken-slot =
      ap (slot_of old.done object) (placed-state objects items old place object view placed o at log.apart)
      ∙ (λ i. Some (record { object = dest i; state = state_of o; done = (ap (λ (v : EventLogView). dones_at object v.done) (sym view) ∙ sym (own-dones object items)) i }))

  pub taken-gone : state_in (map object_view (left objects items place o log within at)) object ≡ None
  taken-gone = ap (state_in (map object_view (left objects items place o log within at))) dest ∙ left-gone objects items place o log within at

  pub taken-others : (other : ℕ) → other ≢ object → state_in (map object_view (left objects items place o log within at)) other ≡ state_in old.objects other
  taken-others other there = left-others objects items place o log within at other (λ same. there (same ∙ sym dest)) ∙ ap (λ (v : EventLogView). state_in v.objects other) view

  pub taken-long : length (left objects items place o log within at) + 1 ≡ length old.objects
  taken-long =
      let long = left-long objects items place o log within at in
      let same = length-map objects object_view in
      let seen = ap (λ (v : EventLogView). length v.objects) view in
      omega arith

  pub taken-places : (pl other : ℕ) → other ≢ object → IsPlaced old pl other → IsPlaced (log_view (left objects items place o log within at) items) (place_after (length (map object_view (left objects items place o log within at))) place pl) other
  taken-places pl other there p =
      let kept = left objects items place o log within at in
      let s = left-stands objects items place o log within at pl other (λ same. there (same ∙ sym dest)) (placed-stands pl other p) in
      let P : ℕ → Type 0 = λ n. IsPlaced (log_view kept items) (place_after n place pl) other in
      subst P (sym (length-map kept object_view)) (object_view s.0, get-map object_view kept (place_after (length kept) place pl) s.0 s.1, s.2)
    where
      placed-stands : (pl other : ℕ) → IsPlaced old pl other → StandsAt objects pl other
      placed-stands pl other p =
          let V : EventLogView → Type 0 = λ v. slice_get v.objects pl ≡ Some p.0 in
          unviewed objects pl p.0 other (subst V (sym view) p.1) p.2

-- an object was taken out, and the others are left
pub record IsTaken (old : EventLogView) (place object : ℕ) (o : KeptObject) (rest : List KeptObject) (others own : List Placed) : Type 0 where
  pub log : IsEventLog rest others
  pub moved : IsEventLog (o ∷ []) own
  pub slot : slot_in old object ≡ Some (record { object = o.object; state = state_of o; done = dones_in own })
  pub gone : state_in (map object_view rest) object ≡ None
  pub states : (other : ℕ) → other ≢ object → state_in (map object_view rest) other ≡ state_in old.objects other
  pub done : dones_in others ≡ filter (λ (d : Done). not (is_of object d)) old.done
  pub places : (pl other : ℕ) → other ≢ object → IsPlaced old pl other → IsPlaced (log_view rest others) (place_after (length (map object_view rest)) place pl) other
  pub count : length (map object_view rest) + 1 ≡ length old.objects

pub taken : (objects : List KeptObject) (items carried : List Placed) (old : EventLogView) (place object last : ℕ) (o : KeptObject) (rest : List KeptObject) (others own : List Placed)
    → log_view objects items ≡ old → IsEventLog objects items → IsPlaced old place object → o ≡ get_or objects place o → rest ≡ swap_remove objects place o → carried ≡ items → last + 1 ≡ length objects
    → others ≡ map (shifted last place) (other_items object carried) → own ≡ own_items object carried → IsTaken old place object o rest others own
taken objects items carried old place object last o rest others own view log placed at rest_is same last_is others_is own_is =
    let within = placed-within objects items old place object view placed in
    let kept = left objects items place o log within at in
    let long = left-long objects items place o log within at in
    let end : last ≡ length kept = omega arith in
    let now : others ≡ map (shifted (length kept) place) (other_items object items) = others_is ∙ (λ i. map (shifted (end i) place) (other_items object (same i))) in
    let own_now : own ≡ own_items object items = own_is ∙ ap (own_items object) same in
    let R : List KeptObject → Type 0 = λ ks. IsTaken old place object o ks others own in
    let O : List Placed → Type 0 = λ ps. IsTaken old place object o kept ps own in
    let W : List Placed → Type 0 = λ ps. IsTaken old place object o kept (map (shifted (length kept) place) (other_items object items)) ps in
    subst R (sym rest_is) (subst O (sym now) (subst W (sym own_now) (record {
      log = taken-log objects items old place object o view log placed at;
      moved = taken-moved objects items old place object o view log placed at;
      slot = taken-slot objects items old place object o view log placed at;
      gone = taken-gone objects items old place object o view log placed at;
      states = taken-others objects items old place object o view log placed at;
      done = shifted-dones (length kept) place (other_items object items) ∙ other-dones object items ∙ ap (λ (v : EventLogView). filter (λ (d : Done). not (is_of object d)) v.done) view;
      places = taken-places objects items old place object o view log placed at;
      count = (let many = taken-long objects items old place object o view log placed at in let seen = length-map kept object_view in omega arith);
    })))
