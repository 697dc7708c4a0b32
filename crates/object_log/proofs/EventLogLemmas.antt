-- One object of a log of many changes, and an event comes to its place.
use Rattle.std.proofs.Common.{◌≡◌, ◌≢◌, ℕ, zero, suc, ◌+◌, ◌<◌, ◌^◌, Bool, true, false, cond, Some, None, List, [], ◌∷◌, ◌++◌, length, map, get_or, eqb, eqb-true, lit<, refl, sym, ap, ◌∙◌, subst, arith}
use Rattle.std.proofs.lemmas.Bool.{eqb-false}
use Rattle.std.proofs.lemmas.List.{length-map, map-set, get_or-map, get_or_read}
use Rattle.std.proofs.lemmas.List.Sorted.{length_permutation}
use Rattle.std.proofs.lemmas.Option.{slice_get_within}
use Rattle.std.proofs.Math.Seq.{map-set_same}
use Rattle.std.specs.Prelude.{Option, IfSome, slice_get, slice_set}
use Rattle.std.specs.List.{AllByRecursion as Each}
use Rattle.event_key.specs.Keys.{key_lt}
use Rattle.model_core.specs.declared.event.Event.{Event}
use Rattle.model_core.specs.Meaning.{Meaning}
use Rattle.sim_spec.specs.Firing.{ObjectState, fire}
use Rattle.key_order.specs.Ascending.{Ascends}
use Rattle.key_order.specs.Keys.{times}
use Rattle.key_order.proofs.AscendingLemmas.{Ascends-map}
use Rattle.key_order.proofs.EachLemmas.{Each-map}
use Rattle.event_key.specs.declared.stamp.TheConstants.{NO_STAMP}
use Rattle.key_order.specs.Stamps.{least_stamp}
use Rattle.object_log.specs.Carrying.{Placed, placed_key}
use Rattle.object_log.specs.Dones.{Done}
use Rattle.object_log.specs.EventCalls.{ChangesAt, HasProcessed}
use Rattle.object_log.specs.EventLogs.{EventLogView, ObjectView, done_key, dones_at, state_in}
use Rattle.object_log.specs.Keeping.{Keeps}
use Rattle.object_log.specs.Logs.{fault_of, keys_of}
use Rattle.object_log.specs.Objects.{AreApart, CanFollow, HasFired, IsPlaced, IsSameObject, KeptObject, state_of}
use Rattle.object_log.specs.Replays.{IsTold}
use Rattle.object_log.specs.Weave.{insert}
use Rattle.object_log.specs.Whole.{IsEventLog, StandsAt, dones_in, log_view, object_view}
use Rattle.object_log.proofs.CarriedLemmas.{map-insert, read-map, times-map}
use Rattle.object_log.proofs.JoinLemmas.{insert-other, insert-own, new-key}
use Rattle.object_log.proofs.KeepingLemmas.{keeps-more}
use Rattle.object_log.proofs.ObjectLemmas.{apart-set, state-at, state-other, state-set}
use Rattle.object_log.proofs.WeaveLemmas.{Each-insert, insert-ascends, insert-permutation}

pub each-read : {X : Type 0} (P : X → Type 0) (xs : List X) (i : ℕ) (x : X) → i < length xs → x ≡ get_or xs i x → Each P xs → P x
each-read P [] i x within at all = absurd (omega arith)
each-read P (y ∷ ys) zero x within at all = subst P (sym at) all.0
each-read P (y ∷ ys) (suc i) x within at all = each-read P ys i x (omega arith) at all.1

-- what stands at a place once it is written
pub set-here : {X : Type 0} (xs : List X) (i : ℕ) (v : X) → i < length xs → slice_get (slice_set xs i v) i ≡ Some v
set-here [] i v within = absurd (omega arith)
set-here (x ∷ xs) zero v within = refl
set-here (x ∷ xs) (suc i) v within = set-here xs i v (omega arith)

pub set-there : {X : Type 0} (xs : List X) (i k : ℕ) (v : X) → k ≢ i → slice_get (slice_set xs i v) k ≡ slice_get xs k
set-there [] i k v apart = refl
set-there (x ∷ xs) zero zero v apart = absurd (apart refl)
set-there (x ∷ xs) zero (suc k) v apart = refl
set-there (x ∷ xs) (suc i) zero v apart = refl
set-there (x ∷ xs) (suc i) (suc k) v apart = set-there xs i k v (λ same. apart (ap suc same))

pub read-get : {X : Type 0} (xs : List X) (i : ℕ) (x y : X) → x ≡ get_or xs i x → slice_get xs i ≡ Some y → x ≡ y
read-get [] i x y at is = absurd (cc)
read-get (z ∷ zs) zero x y at is = (let same : z ≡ y = cc in at ∙ same)
read-get (z ∷ zs) (suc i) x y at is = read-get zs i x y at is

each-at : (P : ObjectView → Type 0) (os : List KeptObject) (i : ℕ) (x : KeptObject) → i < length os → Each P (map object_view os) → P (object_view (get_or os i x))
each-at P [] i x within all = absurd (omega arith)
each-at P (o ∷ os) zero x within all = all.0
each-at P (o ∷ os) (suc i) x within all = each-at P os i x (omega arith) all.1

-- what is true of each object stays true of those with other numbers
pub each-but : (P Q : KeptObject → Type 0) (os : List KeptObject) (i : ℕ) (x : KeptObject) → i < length os → (get_or os i x).object ≡ x.object → AreApart (map object_view os)
    → ((y : KeptObject) → y.object ≢ x.object → P y → Q y) → Q x → Each P os → Each Q (slice_set os i x)
unfolding AreApart
each-but P Q [] i x within is apart stay one all = absurd (omega arith)
each-but P Q (o ∷ os) zero x within is apart stay one all = (one, keep os apart.0 all.1)
  where
    keep : (ps : List KeptObject) → Each (λ (p : ObjectView). p.object ≢ o.object) (map object_view ps) → Each P ps → Each Q ps
    keep [] apart all = tt
    keep (p ∷ ps) apart all = (stay p (λ same. apart.0 (same ∙ sym is)) all.0, keep ps apart.1 all.1)
each-but P Q (o ∷ os) (suc i) x within is apart stay one all =
    let there = each-at (λ (p : ObjectView). p.object ≢ o.object) os i x (omega arith) apart.0 in
    (stay o (λ same. there (is ∙ sym same)) all.0, each-but P Q os i x (omega arith) is apart.1 stay one all.1)

-- an object that changes at its place
pub record IsChanged (objects : List KeptObject) (place : ℕ) (o later : KeptObject) : Type 0 where
  pub apart : AreApart (map object_view objects)
  pub within : place < length objects
  pub at : o ≡ get_or objects place o
  pub same : later.object ≡ o.object

module _ (objects : List KeptObject) (place : ℕ) (o later : KeptObject) (is : IsChanged objects place o later) where
  abbrev olds : List ObjectView
  olds = map object_view objects

  abbrev news : List ObjectView
  news = map object_view (slice_set objects place later)

  sets : news ≡ slice_set olds place (object_view later)
  sets = map-set object_view objects place later

  inside : place < length olds
  inside = let long = length-map objects object_view in let within = is.within in omega arith

  pub later-at : get_or objects place later ≡ o
  later-at = sym (get_or_read objects place o is.within is.at later)

  here : get_or olds place (object_view later) ≡ object_view o
  here = get_or-map object_view objects place later (object_view later) is.within ∙ ap object_view later-at

  number : (get_or olds place (object_view later)).object ≡ later.object
  number = ap (λ (v : ObjectView). v.object) here ∙ sym is.same

  pub state-was : state_in olds o.object ≡ Some (state_of o)
  state-was =
      ap (λ (v : ObjectView). state_in olds v.object) (sym here)
      ∙ state-at olds place (object_view later) is.apart inside
      ∙ ap (λ (v : ObjectView). Some v.state) here

  pub state-becomes : state_in news o.object ≡ Some (state_of later)
  state-becomes =
      ap (λ n. state_in news n) (sym is.same)
      ∙ ap (λ os. state_in os later.object) sets
      ∙ state-set olds place (object_view later) is.apart inside number

  pub state-others : (other : ℕ) → other ≢ o.object → state_in news other ≡ state_in olds other
  state-others other there =
      ap (λ os. state_in os other) sets
      ∙ state-other olds place (object_view later) other inside number (λ same. there (same ∙ is.same))

  pub still-apart : AreApart news
  still-apart = subst AreApart (sym sets) (apart-set olds place (object_view later) inside number is.apart)

  pub numbers-stay : map (λ (v : ObjectView). v.object) news ≡ map (λ (v : ObjectView). v.object) olds
  numbers-stay =
      ap (map (λ (v : ObjectView). v.object)) sets
      ∙ map-set_same (λ (v : ObjectView). v.object) olds place (object_view later) (object_view later) (sym number)

  pub object-there : (get_or objects place later).object ≡ later.object
  object-there = ap (λ (k : KeptObject). k.object) later-at ∙ sym is.same

  pub stands-still : (pl object : ℕ) → StandsAt objects pl object → StandsAt (slice_set objects place later) pl object
  stands-still pl object s = by_place (eqb pl place) refl
    where
      by_place : (b : Bool) → eqb pl place ≡ b → StandsAt (slice_set objects place later) pl object
      by_place true h =
          let P : ℕ → Type 0 = λ k. slice_get (slice_set objects place later) k ≡ Some later in
          let Q : ℕ → Type 0 = λ k. slice_get objects k ≡ Some s.0 in
          let equal = eqb-true pl place h in
          let was = read-get objects place o s.0 is.at (subst Q equal s.1) in
          (later, subst P (sym equal) (set-here objects place later is.within), is.same ∙ ap (λ (k : KeptObject). k.object) was ∙ s.2)
      by_place false h = (s.0, set-there objects place pl later (eqb-false pl place h) ∙ s.1, s.2)

  pub stands-here : StandsAt (slice_set objects place later) place o.object
  stands-here = (later, set-here objects place later is.within, is.same)

-- an event fires at an object in its place
pub record IsFiring (m : Meaning) (objects : List KeptObject) (items : List Placed) (place : ℕ) (o later : KeptObject) (event : Event) (d : Done) : Type 0 where
  pub log : IsEventLog objects items
  pub within : place < length objects
  pub at : o ≡ get_or objects place o
  pub dest : event.key.dest ≡ o.object
  pub fired : HasFired m o later event d
  pub above : Each (λ k. key_lt k event.key ≡ true) (keys_of (dones_at event.key.dest (dones_in items)))
  pub went : fault_of (dones_at event.key.dest (dones_in items)) ≡ None
  pub few : length (dones_in items) + 1 < 2 ^ 60

module _ (m : Meaning) (objects : List KeptObject) (items : List Placed) (place : ℕ) (o later : KeptObject) (event : Event) (d : Done) (f : IsFiring m objects items place o later event d) where
  abbrev p : Placed
  p = record { done = d; place = place }

  abbrev ds : List Done
  ds = dones_in items

  abbrev own : List Done
  own = dones_at o.object ds

  abbrev more : List Placed
  more = insert placed_key p items

  abbrev after : List KeptObject
  after = slice_set objects place later

  changed : IsChanged objects place o later
  changed = record { apart = f.log.apart; within = f.within; at = f.at; same = f.fired.object }

  key-is : d.event.key ≡ event.key
  key-is = ap (λ (e : Event). e.key) f.fired.event_is

  dest-is : d.event.key.dest ≡ o.object
  dest-is = ap (λ k. k.dest) key-is ∙ f.dest

  ordered : Ascends done_key ds
  ordered = Ascends-map done_key (λ (q : Placed). q.done) items f.log.ordered

  keys-above : (xs : List Done) → Each (λ k. key_lt k event.key ≡ true) (keys_of xs) → Each (λ (x : Done). key_lt x.event.key d.event.key ≡ true) xs
  keys-above [] all = tt
  keys-above (x ∷ xs) all = (ap (key_lt x.event.key) key-is ∙ all.0, keys-above xs all.1)

  above-own : Each (λ (x : Done). key_lt x.event.key d.event.key ≡ true) own
  above-own = keys-above own (let P : ℕ → Type 0 = λ n. Each (λ k. key_lt k event.key ≡ true) (keys_of (dones_at n ds)) in subst P f.dest f.above)

  above-dest : Each (λ (x : Done). key_lt x.event.key d.event.key ≡ true) (dones_at d.event.key.dest ds)
  above-dest = let P : ℕ → Type 0 = λ n. Each (λ (x : Done). key_lt x.event.key d.event.key ≡ true) (dones_at n ds) in subst P (sym dest-is) above-own

  -- no other event has its key
  pub fresh : times placed_key d.event.key items ≡ 0
  fresh = times-map (λ (q : Placed). q.done) done_key d.event.key items ∙ new-key d ds above-dest

  dones-are : dones_in more ≡ insert done_key d ds
  dones-are = map-insert (λ (q : Placed). q.done) done_key p items

  own-are : dones_at o.object (dones_in more) ≡ own ++ d ∷ []
  own-are = ap (dones_at o.object) dones-are ∙ insert-own o.object d ds dest-is ordered above-own

  others-are : (other : ℕ) → other ≢ o.object → dones_at other (dones_in more) ≡ dones_at other ds
  others-are other there = ap (dones_at other) dones-are ∙ insert-other other d ds (λ same. there (sym same ∙ dest-is)) ordered

  can : CanFollow own d
  can =
      let F : ℕ → Type 0 = λ n. fault_of (dones_at n ds) ≡ None in
      record { above = keys-of-own own above-own; went = subst F f.dest f.went; few = few-own }
    where
      keys-of-own : (xs : List Done) → Each (λ (x : Done). key_lt x.event.key d.event.key ≡ true) xs → Each (λ k. key_lt k d.event.key ≡ true) (keys_of xs)
      keys-of-own [] all = tt
      keys-of-own (x ∷ xs) all = (all.0, keys-of-own xs all.1)

      few-own : length own + 1 < 2 ^ 60
      few-own = let le = length-own ds in let few = f.few in omega arith
        where
          length-own : (xs : List Done) → length (dones_at o.object xs) < length xs + 1
          length-own [] = omega arith
          length-own (x ∷ xs) = by_test (eqb x.event.key.dest o.object) (length-own xs)
            where
              by_test : (b : Bool) → length (dones_at o.object xs) < length xs + 1 → length (cond b (x ∷ dones_at o.object xs) (dones_at o.object xs)) < length (x ∷ xs) + 1
              by_test true rest = omega arith
              by_test false rest = omega arith

  -- the log with the event is a log
  pub still-log : IsEventLog after more
  still-log =
      let P : KeptObject → Type 0 = λ k. Keeps k.cells k.sent (dones_at k.object ds) in
      let Q : KeptObject → Type 0 = λ k. Keeps k.cells k.sent (dones_at k.object (dones_in more)) in
      let here = each-read P objects place o f.within f.at f.log.keeps in
      let R : List Done → Type 0 = Keeps later.cells later.sent in
      let now : Q later = subst R (sym (ap (λ n. dones_at n (dones_in more)) f.fired.object ∙ own-are)) (f.fired.keeps own can here) in
      let long = length_permutation (p ∷ items) more (insert-permutation placed_key p items) in
      let same = length-map items (λ (q : Placed). q.done) in
      let few = f.few in
      let D : ℕ → Type 0 = StandsAt after place in
      record {
        apart = still-apart objects place o later changed;
        keeps = each-but P Q objects place later f.within (object-there objects place o later changed) f.log.apart
            (λ y there k. (let S : List Done → Type 0 = Keeps y.cells y.sent in subst S (sym (others-are y.object (λ is. there (is ∙ sym f.fired.object)))) k)) now f.log.keeps;
        places = Each-insert placed_key (λ (q : Placed). StandsAt after q.place q.done.event.key.dest) p items (subst D (sym dest-is) (stands-here objects place o later changed))
            (Each-map (λ (q : Placed). StandsAt objects q.place q.done.event.key.dest) (λ (q : Placed). StandsAt after q.place q.done.event.key.dest) items
            (λ q s. stands-still objects place o later changed q.place q.done.event.key.dest s) f.log.places);
        ordered = insert-ascends placed_key p items fresh f.log.ordered;
        few = omega arith;
      }

  -- one event more
  pub processed-one : (least : ℕ) → least ≡ least_stamp NO_STAMP d.sends → HasProcessed m (log_view objects items) (log_view after more) event least
  processed-one least least_is =
      let C : ℕ → Type 0 = λ n. ChangesAt n (log_view objects items) (log_view after more) (state_of o) (state_of later) in
      let T : ℕ → Type 0 = λ n. IsTold (fire m n (state_of o) event) (state_of o) (state_of later) d d.verdict in
      let D : ℕ → Type 0 = λ n. dones_at n (dones_in more) ≡ dones_at n ds ++ d ∷ [] in
      record {
        was = state_of o;
        now = state_of later;
        changes = subst C (sym f.dest) (record {
          before = state-was objects place o later changed;
          after = state-becomes objects place o later changed;
          states = state-others objects place o later changed;
          numbers = numbers-stay objects place o later changed;
          dones = others-are;
        });
        more = record {
          entry = d;
          done = subst D (sym f.dest) own-are;
          event_is = f.fired.event_is;
          told_of = subst T (sym f.dest) f.fired.told_of;
          undoes = f.fired.undoes;
          object = refl;
          least_is = least_is;
        };
        place = dones-are;
      }

-- an object that is as it was, with no less room
module _ (objects : List KeptObject) (items : List Placed) (place : ℕ) (o later : KeptObject) (log : IsEventLog objects items) (within : place < length objects) (at : o ≡ get_or objects place o) (same : IsSameObject o later) where
  unchanged : IsChanged objects place o later
  unchanged = record { apart = log.apart; within = within; at = at; same = same.object }

  pub same-view : log_view (slice_set objects place later) items ≡ log_view objects items
  same-view =
      let view : object_view later ≡ object_view o = λ i. record { object = same.object i; state = record { cells = same.contents i; sent = same.sent i } } in
      let objects_are = map-set_same object_view objects place later later (view ∙ ap object_view (sym (later-at objects place o later unchanged))) in
      λ i. record { objects = objects_are i; done = dones_in items }

  pub same-log : IsEventLog (slice_set objects place later) items
  same-log =
      let ds = dones_in items in
      let P : KeptObject → Type 0 = λ k. Keeps k.cells k.sent (dones_at k.object ds) in
      let here = each-read P objects place o within at log.keeps in
      let S : ℕ → Type 0 = λ n. Keeps later.cells n (dones_at later.object ds) in
      let N : ℕ → Type 0 = λ n. Keeps later.cells o.sent (dones_at n ds) in
      let now : P later = subst S (sym same.sent) (subst N (sym same.object) (keeps-more o.cells later.cells o.sent (dones_at o.object ds) (dones_at o.object ds) same.contents same.none_fell refl here)) in
      record {
        apart = still-apart objects place o later unchanged;
        keeps = each-but P P objects place later within (object-there objects place o later unchanged) log.apart (λ y there k. k) now log.keeps;
        places = Each-map (λ (q : Placed). StandsAt objects q.place q.done.event.key.dest) (λ (q : Placed). StandsAt (slice_set objects place later) q.place q.done.event.key.dest) items
            (λ q s. stands-still objects place o later unchanged q.place q.done.event.key.dest s) log.places;
        ordered = log.ordered;
        few = log.few;
      }

-- what a caller says of an object that stands at a place
module _ (objects : List KeptObject) (items : List Placed) (old : EventLogView) (place object : ℕ) (view : log_view objects items ≡ old) (placed : IsPlaced old place object) where
  pub placed-within : place < length objects
  placed-within =
      let lt = slice_get_within old.objects place placed.0 placed.1 in
      let long = ap (λ (v : EventLogView). length v.objects) view in
      let same = length-map objects object_view in
      omega arith

  pub placed-dest : (o : KeptObject) → o ≡ get_or objects place o → object ≡ o.object
  placed-dest o at =
      let P : EventLogView → Type 0 = λ v. slice_get v.objects place ≡ Some placed.0 in
      let found = subst P (sym view) placed.1 in
      let is = read-map object_view objects place o placed-within at in
      let both : Some placed.0 ≡ Some (object_view o) = sym found ∙ is in
      let same : placed.0 ≡ object_view o = cc in
      sym placed.2 ∙ ap (λ (v : ObjectView). v.object) same

  pub placed-state : (o : KeptObject) → o ≡ get_or objects place o → AreApart (map object_view objects) → state_in old.objects object ≡ Some (state_of o)
  placed-state o at apart =
      ap (λ (v : EventLogView). state_in v.objects object) (sym view)
      ∙ ap (state_in (map object_view objects)) (placed-dest o at)
      ∙ state-was objects place o o (record { apart = apart; within = placed-within; at = at; same = refl })

pub if-state : (found : Option ObjectState) (s : ObjectState) (P : ObjectState → Type 0) → found ≡ Some s → IfSome found P → P s
if-state found s P is holds = let Q : Option ObjectState → Type 0 = λ x. IfSome x P in subst Q is holds

-- a log of nothing
pub no-log : IsEventLog [] []
unfolding AreApart Ascends
no-log = record { apart = tt; keeps = tt; places = tt; ordered = tt; few = lit< tt }

-- an event fires as a caller of the log asks for it
pub firing : (m : Meaning) (objects : List KeptObject) (items : List Placed) (old : EventLogView) (place : ℕ) (o later : KeptObject) (event : Event) (d : Done) → log_view objects items ≡ old → IsEventLog objects items
    → IsPlaced old place event.key.dest → o ≡ get_or objects place o → HasFired m o later event d
    → Each (λ k. key_lt k event.key ≡ true) (keys_of (dones_at event.key.dest old.done)) → fault_of (dones_at event.key.dest old.done) ≡ None → length old.done + 1 < 2 ^ 60
    → IsFiring m objects items place o later event d
firing m objects items old place o later event d view log placed at fired above went few =
    let A : EventLogView → Type 0 = λ v. Each (λ k. key_lt k event.key ≡ true) (keys_of (dones_at event.key.dest v.done)) in
    let W : EventLogView → Type 0 = λ v. fault_of (dones_at event.key.dest v.done) ≡ None in
    let F : EventLogView → Type 0 = λ v. length v.done + 1 < 2 ^ 60 in
    record {
      log = log;
      within = placed-within objects items old place event.key.dest view placed;
      at = at;
      dest = placed-dest objects items old place event.key.dest view placed o at;
      fired = fired;
      above = subst A (sym view) above;
      went = subst W (sym view) went;
      few = subst F (sym view) few;
    }
