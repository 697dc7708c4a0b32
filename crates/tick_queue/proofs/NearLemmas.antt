-- Events at hand, of which the first ones are done.
use Rattle.std.proofs.Common.{◌≡◌, ◌≢◌, ℕ, zero, suc, ◌+◌, ◌-◌, ◌<◌, ◌≤◌, Bool, true, false, List, [], ◌∷◌, ◌++◌, length, take, drop, get_or, sym, refl, ap, ◌∙◌, subst, arith}
use Rattle.std.specs.Prelude.{◌↔◌, IsTrue, insert, nat_eq}
use Rattle.std.specs.Bool.{OnTrue, OnFalse}
use Rattle.std.proofs.lemmas.Bool.Decides.{nat_tests}
use Rattle.std.specs.List.{AllByRecursion as Each}
use Rattle.std.proofs.lemmas.List.{drop_all, drop_more, length-drop, length-map, length_push, get_or-drop, get_or_append_left, get_or_default, get_or_push, take-append-drop}
use Rattle.std.proofs.lemmas.List.Edits.{length-insert}
use Rattle.event_key.specs.declared.key.Key.{Key}
use Rattle.event_key.specs.Keys.{key_lt}
use Rattle.event_key.proofs.Order.{key_lt-trans}
use Rattle.model_core.specs.declared.event.Event.{Event}
use Rattle.key_order.specs.Ascending.{AllAfter, Ascends, IsAscending, key_of}
use Rattle.key_order.specs.Keys.{IsNewKey}
use Rattle.key_order.specs.Pending.{enqueue}
use Rattle.key_order.proofs.EnqueueLemmas.{enqueue-first, enqueue-behind}
use Rattle.key_order.proofs.KeyLemmas.{key_lt-other, new-head, new-tail}
use Rattle.key_order.proofs.EachLemmas.{Each-map}
use Rattle.tick_queue.specs.Near.{ArePlaced, StartsWith, LosesFirst, AllBefore, HasLater}
use Rattle.tick_queue.specs.Order.{no_event, event_at, shown, AreInside}

-- what is left begins at a place
pub starts : (es : List Event) (i : ℕ) (e : Event) → i < length es → e ≡ get_or es i e → StartsWith (drop i es) e
starts es i e lt read = (drop (i + 1) es, drop_more es i e lt ∙ ap (λ x. x ∷ drop (i + 1) es) (sym read))

pub loses : (es : List Event) (i : ℕ) → i < length es → LosesFirst (drop i es) (drop (i + 1) es)
loses [] i lt = absurd (omega arith)
loses (e ∷ es) zero lt = (e, refl)
loses (e ∷ es) (suc i) lt =
    let next : suc (i + 1) ≡ suc i + 1 = omega arith in
    let P : ℕ → Type 0 = λ n. LosesFirst (drop i es) (drop n (e ∷ es)) in
    subst P next (loses es i (omega arith))

pub has_some : (es : List Event) (i : ℕ) → 0 < length (drop i es) → i < length es
has_some es i some = let long = length-drop i es in omega (arith, long)

pub none_left : (es : List Event) (i : ℕ) → i ≤ length es → drop i es ≡ [] → i ≡ length es
none_left es i le none = let long = length-drop i es in let no = ap length none in omega (arith, long, no)

-- events in order whose last one comes before a key
pub all_before : (key : Key) (es : List Event) (k : ℕ) (d : Event) → IsAscending es → length es ≡ k + 1 → key_lt (get_or es k d).key key ≡ true → AllBefore key es
unfolding Ascends
all_before key [] k d up long last = absurd (omega arith)
all_before key (e ∷ []) zero d up long last = (last, tt)
all_before key (e ∷ []) (suc k) d up long last = absurd (omega arith)
all_before key (e ∷ f ∷ es) zero d up long last = absurd (omega arith)
all_before key (e ∷ f ∷ es) (suc k) d up long last =
    let rest : AllBefore key (f ∷ es) = all_before key (f ∷ es) k d up.1 (omega arith) last in
    (key_lt-trans e.key f.key key up.0.0 rest.0, rest)

-- an event goes between those that come before it and those that come after it
between : (e : Event) (xs ys : List Event) → AllBefore e.key xs → AllAfter e.key ys → enqueue e (xs ++ ys) ≡ xs ++ e ∷ ys
between e [] ys before after = enqueue-first e ys after
between e (x ∷ xs) ys before after = enqueue-behind e x (xs ++ ys) before.0 ∙ ap (λ w. x ∷ w) (between e xs ys before.1 after)

-- those ahead of a place from which it doesn't come before
before_place : (e : Event) (es : List Event) (k : ℕ) (d : Event) → IsAscending es → IsNewKey e.key es → k < length es → key_lt e.key (get_or es k d).key ≡ false → AllBefore e.key (take (k + 1) es)
unfolding Ascends
before_place e [] k d up new lt none = absurd (omega arith)
before_place e (x ∷ xs) zero d up new lt none = (key_lt-other e.key x.key (new-head key_of e.key x xs new) none, tt)
before_place e (x ∷ []) (suc k) d up new lt none = absurd (omega arith)
before_place e (x ∷ y ∷ ys) (suc k) d up new lt none =
    let rest : AllBefore e.key (take (k + 1) (y ∷ ys)) = before_place e (y ∷ ys) k d up.1 (new-tail key_of e.key x (y ∷ ys) new) (omega arith) none in
    let first = first_before k rest in
    let P : ℕ → Type 0 = λ n. AllBefore e.key (take n (x ∷ y ∷ ys)) in
    let next : suc (k + 1) ≡ suc k + 1 = omega arith in
    subst P next (key_lt-trans x.key y.key e.key up.0.0 first, rest)
  where
    first_before : (k : ℕ) → AllBefore e.key (take (k + 1) (y ∷ ys)) → key_lt y.key e.key ≡ true
    first_before zero all = all.0
    first_before (suc k) all =
        let next : suc k + 1 ≡ suc (k + 1) = omega arith in
        let P : ℕ → Type 0 = λ n. AllBefore e.key (take n (y ∷ ys)) in
        (subst P next all).0

-- a place in what is left
pub record IsPlace (e : Event) (es : List Event) (at place : ℕ) : Type 0 where
  pub from : at ≤ place
  pub upto : place ≤ length es
  pub after : AllAfter e.key (drop place es)

pub place-last : (e : Event) (es : List Event) (at place : ℕ) → at ≤ length es → place ≡ length es → IsPlace e es at place
place-last e es at place le is = record {
  from = omega arith;
  upto = omega arith;
  after = let P : List Event → Type 0 = AllAfter e.key in subst P (sym (drop_all place es (omega arith))) tt;
}

pub place-earlier : (e : Event) (es : List Event) (at place : ℕ) (x : Event) → IsPlace e es at place → at < place → x ≡ get_or es (place - 1) x → key_lt e.key x.key ≡ true → IsPlace e es at (place - 1)
place-earlier e es at place x h some read lt =
    let upto = h.upto in
    let P : List Event → Type 0 = AllAfter e.key in
    let next : place - 1 + 1 ≡ place = omega arith in
    let Q : ℕ → Type 0 = λ n. AllAfter e.key (x ∷ drop n es) in
    let is : drop (place - 1) es ≡ x ∷ drop (place - 1 + 1) es = drop_more es (place - 1) x (omega arith) ∙ ap (λ y. y ∷ drop (place - 1 + 1) es) (sym read) in
    record {
      from = omega arith;
      upto = omega arith;
      after = subst P (sym is) (subst Q (sym next) (lt, h.after));
    }

-- the list with an event at its place
dropped_insert : (es : List Event) (at place : ℕ) (e : Event) → at ≤ place → place ≤ length es → drop at (insert es place e) ≡ take (place - at) (drop at es) ++ e ∷ drop (place - at) (drop at es)
dropped_insert es zero place e from upto = let none : place - 0 ≡ place = omega arith in rw none refl
dropped_insert [] (suc at) place e from upto = absurd (omega arith)
dropped_insert (x ∷ es) (suc at) zero e from upto = absurd (omega arith)
dropped_insert (x ∷ es) (suc at) (suc place) e from upto =
    let less : suc place - suc at ≡ place - at = omega arith in
    rw less (dropped_insert es at place e (omega arith) (omega arith))

dropped_twice : (es : List Event) (at place : ℕ) → at ≤ place → drop (place - at) (drop at es) ≡ drop place es
dropped_twice es zero place le = let none : place - 0 ≡ place = omega arith in rw none refl
dropped_twice [] (suc at) zero le = absurd (omega arith)
dropped_twice [] (suc at) (suc place) le = drop_all (suc place - suc at) [] (omega arith)
dropped_twice (x ∷ es) (suc at) zero le = absurd (omega arith)
dropped_twice (x ∷ es) (suc at) (suc place) le =
    let less : suc place - suc at ≡ place - at = omega arith in
    rw less (dropped_twice es at place (omega arith))

in_place : (es : List Event) (at place : ℕ) (e : Event) → IsPlace e es at place → AllBefore e.key (take (place - at) (drop at es)) → drop at (insert es place e) ≡ enqueue e (drop at es)
in_place es at place e h before =
    let k : ℕ = place - at in
    let left : List Event = drop at es in
    let P : List Event → Type 0 = AllAfter e.key in
    let after : AllAfter e.key (drop k left) = subst P (sym (dropped_twice es at place h.from)) h.after in
    dropped_insert es at place e h.from h.upto ∙ sym (ap (enqueue e) (sym (take-append-drop k left)) ∙ between e (take k left) (drop k left) before after)

-- it comes first of all that are left
pub inserted-first : (es : List Event) (at place : ℕ) (e : Event) → IsPlace e es at place → place ≤ at → drop at (insert es place e) ≡ enqueue e (drop at es)
inserted-first es at place e h le =
    let from = h.from in
    let none : place - at ≡ 0 = omega arith in
    let P : ℕ → Type 0 = λ n. AllBefore e.key (take n (drop at es)) in
    in_place es at place e h (subst P (sym none) tt)

-- what is read behind the first ones
read_behind : (es : List Event) (at i : ℕ) (x : Event) → at ≤ i → x ≡ get_or es i x → get_or (drop at es) (i - at) x ≡ x
read_behind es at i x le read =
    let there : at + (i - at) ≡ i = omega arith in
    get_or-drop at es (i - at) x ∙ ap (λ n. get_or es n x) there ∙ sym read

-- or it doesn't come before the one ahead of its place
pub inserted : (es : List Event) (at place : ℕ) (e x : Event) → IsPlace e es at place → at < place → x ≡ get_or es (place - 1) x → key_lt e.key x.key ≡ false
    → IsAscending (drop at es) → IsNewKey e.key (drop at es) → drop at (insert es place e) ≡ enqueue e (drop at es)
inserted es at place e x h some read none up new =
    let upto = h.upto in
    let k : ℕ = place - 1 - at in
    let long = length-drop at es in
    let is = read_behind es at (place - 1) x (omega arith) read in
    let Q : Event → Type 0 = λ y. key_lt e.key y.key ≡ false in
    let P : ℕ → Type 0 = λ n. AllBefore e.key (take n (drop at es)) in
    let next : k + 1 ≡ place - at = omega arith in
    in_place es at place e h (subst P next (before_place e (drop at es) k x up new (omega (arith, long)) (subst Q (sym is) none)))

-- the last event decides
decides : (key : Key) (es : List Event) (k : ℕ) (x : Event) (r : Bool) → k + 1 ≡ length es → get_or es k x ≡ x → r ≡ key_lt x.key key → IsAscending es → OnTrue r (AllBefore key es) × OnFalse r (HasLater key es)
decides key es k x true last read test up =
    let Q : Event → Type 0 = λ y. key_lt y.key key ≡ true in
    (all_before key es k x up (sym last) (subst Q (sym read) (sym test)), tt)
decides key es k x false last read test up = (tt, (x, (k, omega arith, read), sym test))

-- the events at places, of which there are as many
pub length-shown : (es : List Event) (places : List ℕ) → length (shown es places) ≡ length places
length-shown es places = length-map places (event_at es)

-- one event more, and its place among the others
shown_more : (es : List Event) (places : List ℕ) (e : Event) → AreInside es places → shown (es ++ e ∷ []) places ≡ shown es places
shown_more es [] e inside = refl
shown_more es (p ∷ ps) e inside = (λ i. get_or_append_left es (e ∷ []) no_event p inside.0 i ∷ shown_more es ps e inside.1 i)

shown_insert : (es : List Event) (places : List ℕ) (i p : ℕ) → shown es (insert places i p) ≡ insert (shown es places) i (event_at es p)
shown_insert es [] zero p = refl
shown_insert es [] (suc i) p = refl
shown_insert es (x ∷ xs) zero p = refl
shown_insert es (x ∷ xs) (suc i) p = ap (λ w. event_at es x ∷ w) (shown_insert es xs i p)

each_insert : (P : ℕ → Type 0) (ps : List ℕ) (i p : ℕ) → Each P ps → P p → Each P (insert ps i p)
each_insert P [] zero p all here = (here, tt)
each_insert P [] (suc i) p all here = (here, tt)
each_insert P (x ∷ xs) zero p all here = (here, all)
each_insert P (x ∷ xs) (suc i) p all here = (all.0, each_insert P xs i p all.1 here)

inside_more : (es : List Event) (places : List ℕ) (e : Event) → AreInside es places → AreInside (es ++ e ∷ []) places
inside_more es places e inside =
    Each-map (λ (p : ℕ). p < length es) (λ (p : ℕ). p < length (es ++ e ∷ [])) places (λ p lt. let long = length_push es e in omega (arith, long)) inside

-- an event was pushed, and its place put among the others
pub record Inserted (es : List Event) (places : List ℕ) (i : ℕ) (e : Event) (es2 : List Event) (places2 : List ℕ) : Type 0 where
  pub pushed : es2 ≡ es ++ e ∷ []
  pub put : places2 ≡ insert places i (length es)

pub as_inserted : {es room es2 : List Event} {places places2 : List ℕ} {i n : ℕ} {e : Event} → room ≡ es → es2 ≡ room ++ e ∷ [] → n ≡ length es → places2 ≡ insert places i n → Inserted es places i e es2 places2
as_inserted {places = places} {i = i} {e = e} same pushed many put = record {
  pushed = pushed ∙ ap (λ w. w ++ e ∷ []) same;
  put = put ∙ ap (insert places i) many;
}

pub placed_insert : {done stop i : ℕ} {es es2 : List Event} {places places2 : List ℕ} {e : Event} → ArePlaced done stop es places → Inserted es places i e es2 places2 → i ≤ length places → ArePlaced done stop es2 places2
placed_insert {i = i} {es} {places = places} {e = e} h at le =
    let few = h.few in
    let more = length-insert places i (length es) le in
    let long = length_push es e in
    rw (at.pushed, at.put) record {
      few = omega (arith, few, more);
      upto = (let upto = h.upto in omega (arith, more, upto));
      inside = each_insert (λ (p : ℕ). p < length (es ++ e ∷ [])) places i (length es) (inside_more es places e h.inside) (omega (arith, long));
    }

pub shown_inserted : {done stop i : ℕ} {es es2 : List Event} {places places2 : List ℕ} {e : Event} → ArePlaced done stop es places → Inserted es places i e es2 places2 → shown es2 places2 ≡ insert (shown es places) i e
shown_inserted {i = i} {es} {places = places} {e = e} h at =
    rw (at.pushed, at.put) (shown_insert (es ++ e ∷ []) places i (length es) ∙ (λ j. insert (shown_more es places e h.inside j) i (get_or_push es e no_event (length es) refl j)))

pub placed_none : (es : List Event) (places : List ℕ) → places ≡ [] → ArePlaced 0 0 es places
placed_none es places none =
    let P : List ℕ → Type 0 = ArePlaced 0 0 es in
    subst P (sym none) record { few = omega arith; upto = omega arith; inside = tt }

pub shown_none : (es : List Event) (places : List ℕ) → places ≡ [] → shown es places ≡ []
shown_none es places none = ap (shown es) none

pub placed_next : (done stop : ℕ) (es : List Event) (places : List ℕ) → ArePlaced done stop es places → 0 < length (drop done (shown es places)) → ArePlaced (done + 1) stop es places
placed_next done stop es places h some =
    let lt = has_some (shown es places) done some in
    let long = length-shown es places in
    record { few = omega (arith, lt, long); upto = h.upto; inside = h.inside }

-- what is read at a place, whatever stands where there is none
pub read_as : (es : List Event) (i : ℕ) (e : Event) → i < length es → e ≡ event_at es i → e ≡ get_or es i e
read_as es i e lt read = read ∙ get_or_default es i no_event e lt

pub empty_test : (es : List Event) (at n : ℕ) → n ≡ length es → at ≤ length es → IsTrue (nat_eq at n) ↔ (drop at es ≡ [])
empty_test es at n is le = (
  (λ yes. let same : at ≡ n = grind (arith, nat_tests) in drop_all at es (omega arith)),
  (λ none. let same : at ≡ length es = none_left es at le none in grind (arith, nat_tests)),
)

-- the last event that is left decides whether all come before a key
pub last_decides : {done stop : ℕ} {es : List Event} {places : List ℕ} {seen : List Event} (key : Key) (m n : ℕ) (x : Event) (r : Bool) → ArePlaced done stop es places → drop done (shown es places) ≡ seen
    → m ≡ length places → n ≡ length places → done ≢ m → x ≡ event_at (shown es places) (n - 1) → r ≡ key_lt x.key key → IsAscending seen → OnTrue r (AllBefore key seen) × OnFalse r (HasLater key seen)
last_decides {done} {es = es} {places = places} key m n x r are view m_is n_is some read test up =
    let long = length-shown es places in
    let few = are.few in
    let left = length-drop done (shown es places) in
    let is = read_behind (shown es places) done (n - 1) x (omega arith) (read_as (shown es places) (n - 1) x (omega arith) read) in
    let D : List Event → Type 0 = λ xs. OnTrue r (AllBefore key xs) × OnFalse r (HasLater key xs) in
    let A : List Event → Type 0 = IsAscending in
    subst D view (decides key (drop done (shown es places)) (n - 1 - done) x r (omega arith) is test (subst A (sym view) up))
