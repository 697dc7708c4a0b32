-- The events of an object that don't come before a key are undone, the last one first, wherever they stand among others.
use Rattle.std.proofs.Common.{◌≡◌, ◌≢◌, ℕ, zero, suc, ◌+◌, ◌-◌, ◌<◌, ◌≤◌, ◌^◌, Bool, true, false, not, ◌&&◌, cond, Some, List, [], ◌∷◌, ◌++◌, length, map, take, drop, refl, sym, ap, ◌∙◌, subst, arith, append_assoc}
use Rattle.std.proofs.lemmas.List.{append-nil, length-drop, length-map, take-append-drop}
use Rattle.std.proofs.lemmas.Option.{slice_get_within}
use Rattle.std.proofs.lemmas.List.Elements.{filter-append}
use Rattle.std.specs.Prelude.{Option, None, is_some, slice_get}
use Rattle.std.specs.List.{AllByRecursion as Each}
use Rattle.event_key.specs.declared.key.Key.{Key}
use Rattle.event_key.specs.Keys.{key_lt}
use Rattle.event_key.proofs.Order.{key_lt-trans}
use Rattle.model_core.specs.declared.event.Event.{Event}
use Rattle.sim_spec.specs.Firing.{ObjectState}
use Rattle.key_order.specs.Ascending.{Ascends}
use Rattle.key_order.proofs.AscendingLemmas.{Ascends-before}
use Rattle.key_order.proofs.EachLemmas.{Each-append, Each-filter, Each-map}
use Rattle.key_order.proofs.FilterLemmas.{filter-all, filter-none, length-filter_le}
use Rattle.object_log.specs.Dones.{Done}
use Rattle.object_log.specs.EventCalls.{ChangesAt, HasGoneBack}
use Rattle.object_log.specs.EventLogs.{EventLogView, ObjectView, done_key, dones_at, is_of, rolled_back, state_in, stays}
use Rattle.object_log.specs.Logs.{before, events_of, keys_of, undone}
use Rattle.object_log.specs.Parts.{from_key}
use Rattle.object_log.specs.Undoings.{HasUndoneAt, IsNewestAt}
use Rattle.object_log.proofs.OwnLemmas.{is_here, is_there, rolled-other, rolled-own}
use Rattle.object_log.proofs.UndoLemmas.{same-found, split-at}

-- so far: what stands before the index is as it was, and behind it the events of the object are gone
pub record IsBackTo (object : ℕ) (key : Key) (old now : EventLogView) (index : ℕ) (into : List Event) (count : ℕ) (was : ObjectState) : Type 0 where
  pub within : index ≤ length old.done
  pub late : Each (λ (d : Done). key_lt d.event.key key ≡ false) (drop index old.done)
  pub kept : now.done ≡ take index old.done ++ rolled_back object key (drop index old.done)
  pub before : state_in old.objects object ≡ Some was
  pub after : state_in now.objects object ≡ Some (undone was (dones_at object (drop index old.done)))
  pub states : (other : ℕ) → other ≢ object → state_in now.objects other ≡ state_in old.objects other
  pub numbers : map (λ (o : ObjectView). o.object) now.objects ≡ map (λ (o : ObjectView). o.object) old.objects
  pub events : into ≡ events_of (dones_at object (drop index old.done))
  pub count_is : count ≡ length into

drop-all : {X : Type 0} (xs : List X) → drop (length xs) xs ≡ []
drop-all [] = refl
drop-all (x ∷ xs) = drop-all xs

take-whole : {X : Type 0} (xs : List X) → take (length xs) xs ≡ xs
take-whole [] = refl
take-whole (x ∷ xs) = ap (λ zs. x ∷ zs) (take-whole xs)

take-suc-at : {X : Type 0} (xs : List X) (i : ℕ) (x : X) → slice_get xs i ≡ Some x → take (suc i) xs ≡ take i xs ++ x ∷ []
take-suc-at [] i x at = absurd (cc)
take-suc-at (y ∷ ys) zero x at = (let same : y ≡ x = cc in ap (λ z. z ∷ []) same)
take-suc-at (y ∷ ys) (suc i) x at = ap (λ zs. y ∷ zs) (take-suc-at ys i x at)

pub drop-at : {X : Type 0} (xs : List X) (i : ℕ) (x : X) → slice_get xs i ≡ Some x → drop i xs ≡ x ∷ drop (suc i) xs
drop-at [] i x at = absurd (cc)
drop-at (y ∷ ys) zero x at = (let same : y ≡ x = cc in ap (λ z. z ∷ ys) same)
drop-at (y ∷ ys) (suc i) x at = drop-at ys i x at

-- what stands at a place of the front stands there in the whole
get-front : {X : Type 0} (xs ys : List X) (i : ℕ) (n : ℕ) → i < n → n ≤ length xs → slice_get (take n xs ++ ys) i ≡ slice_get xs i
get-front [] ys i n lt le = absurd (omega arith)
get-front (x ∷ xs) ys i zero lt le = absurd (omega arith)
get-front (x ∷ xs) ys zero (suc n) lt le = refl
get-front (x ∷ xs) ys (suc i) (suc n) lt le = get-front xs ys i n (omega arith) (omega arith)

take-front : {X : Type 0} (xs ys : List X) (i n : ℕ) → i ≤ n → n ≤ length xs → take i (take n xs ++ ys) ≡ take i xs
take-front xs ys zero n lt le = refl
take-front [] ys (suc i) n lt le = absurd (omega arith)
take-front (x ∷ xs) ys (suc i) zero lt le = absurd (omega arith)
take-front (x ∷ xs) ys (suc i) (suc n) lt le = ap (λ zs. x ∷ zs) (take-front xs ys i n (omega arith) (omega arith))

drop-front : {X : Type 0} (xs ys : List X) (n : ℕ) → n ≤ length xs → drop n (take n xs ++ ys) ≡ ys
drop-front xs ys zero le = refl
drop-front [] ys (suc n) le = absurd (omega arith)
drop-front (x ∷ xs) ys (suc n) le = drop-front xs ys n (omega arith)

pub back-to-start : (object : ℕ) (key : Key) (old : EventLogView) (into : List Event) (was : ObjectState) (index : ℕ) → index ≡ length old.done → state_in old.objects object ≡ Some was → into ≡ [] → IsBackTo object key old old index into 0 was
unfolding undone
back-to-start object key old into was index is here none =
    let nothing : drop index old.done ≡ [] = ap (λ n. drop n old.done) is ∙ drop-all old.done in
    let L : List Done → Type 0 = Each (λ (d : Done). key_lt d.event.key key ≡ false) in
    record {
      within = omega arith;
      late = subst L (sym nothing) tt;
      kept = sym ((λ i. take (is i) old.done ++ rolled_back object key (nothing i)) ∙ append-nil (take (length old.done) old.done) ∙ take-whole old.done);
      before = here;
      after = here ∙ sym (ap (λ ds. Some (undone was (dones_at object ds))) nothing);
      states = λ other apart. refl;
      numbers = refl;
      events = none ∙ sym (ap (λ ds. events_of (dones_at object ds)) nothing);
      count_is = sym (ap length none);
    }

-- none of the object's is left behind the index
rolled-none : (object : ℕ) (key : Key) (ds : List Done) → Each (λ (d : Done). key_lt d.event.key key ≡ false) ds → dones_at object (rolled_back object key ds) ≡ []
rolled-none object key ds late =
    rolled-own object key ds
    ∙ filter-none (λ (d : Done). key_lt d.event.key key) (dones_at object ds) (Each-filter (λ (d : Done). key_lt d.event.key key ≡ false) (is_of object) ds late)

module _ (object : ℕ) (key : Key) (old now : EventLogView) (index : ℕ) (into : List Event) (count : ℕ) (was : ObjectState) (b : IsBackTo object key old now (suc index) into count was) (d : Done) (found : slice_get now.done index ≡ Some d) where
  abbrev rest : List Done
  rest = rolled_back object key (drop (suc index) old.done)

  was-found : slice_get old.done index ≡ Some d
  was-found = sym (get-front old.done rest index (suc index) (omega arith) b.within) ∙ ap (λ ds. slice_get ds index) (sym b.kept) ∙ found

  behind-now : drop (suc index) now.done ≡ rest
  behind-now = ap (drop (suc index)) b.kept ∙ drop-front old.done rest (suc index) b.within

  before-now : take index now.done ≡ take index old.done
  before-now = ap (take index) b.kept ∙ take-front old.done rest index (suc index) (omega arith) b.within

  -- an event of the object is its newest
  pub back-newest : d.event.key.dest ≡ object → IsNewestAt index now
  back-newest here = record {
    newest = d;
    found = found;
    last = ap (dones_at d.event.key.dest) behind-now ∙ ap (λ n. dones_at n rest) here ∙ rolled-none object key (drop (suc index) old.done) b.late;
  }

  dropped : drop index old.done ≡ d ∷ drop (suc index) old.done
  dropped = drop-at old.done index d was-found

  -- another's stays
  pub back-over : (d.event.key.dest ≡ object → ⊥) → key_lt d.event.key key ≡ false → IsBackTo object key old now index into count was
  back-over there late =
      let away : is_of object d ≡ false = is_there d object there in
      let own : dones_at object (drop index old.done) ≡ dones_at object (drop (suc index) old.done) =
      ap (dones_at object) dropped ∙ ap (λ x. cond x (d ∷ dones_at object (drop (suc index) old.done)) (dones_at object (drop (suc index) old.done))) away in
      let rolled : rolled_back object key (drop index old.done) ≡ d ∷ rest =
      ap (rolled_back object key) dropped ∙ ap (λ x. cond (not (x && not (key_lt d.event.key key))) (d ∷ rest) rest) away in
      let L : List Done → Type 0 = Each (λ (x : Done). key_lt x.event.key key ≡ false) in
      let le = b.within in
      record {
        within = omega arith;
        late = subst L (sym dropped) (late, b.late);
        kept = b.kept ∙ ap (λ ds. ds ++ rest) (take-suc-at old.done index d was-found) ∙ append_assoc (take index old.done) (d ∷ []) rest ∙ ap (λ ds. take index old.done ++ ds) (sym rolled);
        before = b.before;
        after = b.after ∙ ap (λ ds. Some (undone was ds)) (sym own);
        states = b.states;
        numbers = b.numbers;
        events = b.events ∙ ap events_of (sym own);
        count_is = b.count_is;
      }

  -- one of the object is undone
  pub back-undo : (next : EventLogView) (event : Event) (more : List Event) → d.event.key.dest ≡ object → key_lt d.event.key key ≡ false → (one : HasUndoneAt index now next event) → more ≡ event ∷ into
      → IsBackTo object key old next index more (count + 1) was
  unfolding undone
  back-undo next event more here late one pushed =
      let mine : is_of object d ≡ true = is_here d object here in
      let same = same-found now.done index one.newest d one.found found in
      let own : dones_at object (drop index old.done) ≡ d ∷ dones_at object (drop (suc index) old.done) =
      ap (dones_at object) dropped ∙ ap (λ x. cond x (d ∷ dones_at object (drop (suc index) old.done)) (dones_at object (drop (suc index) old.done))) mine in
      let rolled : rolled_back object key (drop index old.done) ≡ rest =
      ap (rolled_back object key) dropped ∙ ap (λ x. cond (not (x && not (key_lt d.event.key key))) (d ∷ rest) rest) mine ∙ ap (λ x. cond (not (not x)) (d ∷ rest) rest) late in
      let L : List Done → Type 0 = Each (λ (x : Done). key_lt x.event.key key ≡ false) in
      let C : ℕ → Type 0 = λ n. ChangesAt n now next one.was (before one.was one.newest) in
      let changes = subst C (ap (λ (x : Done). x.event.key.dest) same ∙ here) one.changes in
      let both : Some one.was ≡ Some (undone was (dones_at object (drop (suc index) old.done))) = sym changes.before ∙ b.after in
      let state : one.was ≡ undone was (dones_at object (drop (suc index) old.done)) = cc in
      let le = b.within in
      let counted = b.count_is in
      let longer = ap length pushed in
      record {
        within = omega arith;
        late = subst L (sym dropped) (late, b.late);
        kept = one.done ∙ (λ i. before-now i ++ behind-now i) ∙ ap (λ ds. take index old.done ++ ds) (sym rolled);
        before = b.before;
        after = changes.after ∙ (λ i. Some (before (state i) (same i))) ∙ ap (λ ds. Some (undone was ds)) (sym own);
        states = λ other apart. changes.states other apart ∙ b.states other apart;
        numbers = changes.numbers ∙ b.numbers;
        events = pushed ∙ (λ i. (one.event_is ∙ ap (λ (x : Done). x.event) same) i ∷ b.events i) ∙ ap events_of (sym own);
        count_is = omega arith;
      }

-- where all before the index come before the key, the log has gone back
pub back-to-end : (object : ℕ) (key : Key) (old now : EventLogView) (index : ℕ) (into : List Event) (count : ℕ) (was : ObjectState) → IsBackTo object key old now index into count was
    → Each (λ (d : Done). key_lt d.event.key key ≡ true) (take index old.done) → HasGoneBack object key old now into
back-to-end object key old now index into count was b early =
    let front = take index old.done in
    let back = drop index old.done in
    let whole : old.done ≡ front ++ back = sym (take-append-drop index old.done) in
    let kept : rolled_back object key front ≡ front =
    filter-all (stays object key) front (Each-map (λ (d : Done). key_lt d.event.key key ≡ true) (λ (d : Done). stays object key d ≡ true) front (λ d lt. ap (λ x. not (is_of object d && not x)) lt ∙ never (is_of object d)) early) in
    let done : now.done ≡ rolled_back object key old.done =
    b.kept ∙ ap (λ ds. ds ++ rolled_back object key back) (sym kept) ∙ sym (filter-append (stays object key) front back) ∙ ap (rolled_back object key) (sym whole) in
    let late : from_key key (dones_at object old.done) ≡ dones_at object back =
    ap (λ ds. from_key key (dones_at object ds)) whole ∙ ap (from_key key) (filter-append (is_of object) front back) ∙ filter-append (λ (d : Done). not (key_lt d.event.key key)) (dones_at object front) (dones_at object back)
    ∙ (λ i. none-early i ++ all-late i) in
    record {
      was = was;
      done = done;
      changes = record {
        before = b.before;
        after = b.after ∙ ap (λ ds. Some (undone was ds)) (sym late);
        states = b.states;
        numbers = b.numbers;
        dones = λ other apart. ap (dones_at other) done ∙ rolled-other object other key old.done apart;
      };
      events = b.events ∙ ap events_of (sym late);
    }
  where
    never : (x : Bool) → not (x && not true) ≡ true
    never true = refl
    never false = refl

    none-early : from_key key (dones_at object (take index old.done)) ≡ []
    none-early =
        filter-none (λ (d : Done). not (key_lt d.event.key key)) (dones_at object (take index old.done))
        (Each-map (λ (d : Done). key_lt d.event.key key ≡ true) (λ (d : Done). not (key_lt d.event.key key) ≡ false) (dones_at object (take index old.done)) (λ d lt. ap not lt)
        (Each-filter (λ (d : Done). key_lt d.event.key key ≡ true) (is_of object) (take index old.done) early))

    all-late : from_key key (dones_at object (drop index old.done)) ≡ dones_at object (drop index old.done)
    all-late =
        filter-all (λ (d : Done). not (key_lt d.event.key key)) (dones_at object (drop index old.done))
        (Each-map (λ (d : Done). key_lt d.event.key key ≡ false) (λ (d : Done). not (key_lt d.event.key key) ≡ true) (dones_at object (drop index old.done)) (λ d ge. ap not ge)
        (Each-filter (λ (d : Done). key_lt d.event.key key ≡ false) (is_of object) (drop index old.done) b.late))

-- what stands before an event that comes before the key comes before it
pub early-before : (key : Key) (ds : List Done) (i : ℕ) (d : Done) → Ascends done_key ds → slice_get ds i ≡ Some d → key_lt d.event.key key ≡ true → Each (λ (x : Done). key_lt x.event.key key ≡ true) (take (suc i) ds)
early-before key ds i d up found lt =
    let P : List Done → Type 0 = Ascends done_key in
    let L : List Done → Type 0 = Each (λ (x : Done). key_lt x.event.key key ≡ true) in
    let below = Ascends-before done_key (take i ds) d (drop (suc i) ds) (subst P (split-at ds i d found) up) in
    let B : Done → Type 0 = λ x. key_lt x.event.key key ≡ true in
    subst L (sym (take-suc-at ds i d found))
    (Each-append B (take i ds) (d ∷ []) (Each-map (λ (x : Done). key_lt x.event.key d.event.key ≡ true) B (take i ds) (λ x less. key_lt-trans x.event.key d.event.key key less lt) below) (lt, tt))

-- what the call knows of the event before the index
pub record IsLooking (object : ℕ) (key : Key) (old now : EventLogView) (index : ℕ) (into : List Event) (count : ℕ) (was : ObjectState) (at : Key) : Type 0 where
  pub back : IsBackTo object key old now index into count was
  pub some : 0 < index
  pub found : slice_get (keys_of now.done) (index - 1) ≡ Some at

get-key : (ds : List Done) (i : ℕ) (k : Key) → slice_get (keys_of ds) i ≡ Some k → (d : Done) × (slice_get ds i ≡ Some d) × (d.event.key ≡ k)
get-key [] i k found = absurd (cc)
get-key (d ∷ ds) zero k found = (let same : d.event.key ≡ k = cc in (d, refl, same))
get-key (d ∷ ds) (suc i) k found = get-key ds i k found

module _ (object : ℕ) (key : Key) (old now : EventLogView) (index : ℕ) (into : List Event) (count : ℕ) (was : ObjectState) (at : Key) (l : IsLooking object key old now index into count was at) where
  event-there : (d : Done) × (slice_get now.done (index - 1) ≡ Some d) × (d.event.key ≡ at)
  event-there = get-key now.done (index - 1) at l.found

  backs : IsBackTo object key old now (suc (index - 1)) into count was
  backs =
      let P : ℕ → Type 0 = λ n. IsBackTo object key old now n into count was in
      let some = l.some in
      let same : index ≡ suc (index - 1) = omega arith in
      subst P same l.back

  pub look-newest : at.dest ≡ object → IsNewestAt (index - 1) now
  look-newest here =
      let e = event-there in
      back-newest object key old now (index - 1) into count was backs e.0 e.1 (ap (λ (k : Key). k.dest) e.2 ∙ here)

  pub look-over : (at.dest ≡ object → ⊥) → key_lt at key ≡ false → IsBackTo object key old now (index - 1) into count was
  look-over there late =
      let e = event-there in
      back-over object key old now (index - 1) into count was backs e.0 e.1 (λ here. there (sym (ap (λ (k : Key). k.dest) e.2) ∙ here)) (ap (λ k. key_lt k key) e.2 ∙ late)

  pub look-undo : (next : EventLogView) (event : Event) (more : List Event) → at.dest ≡ object → key_lt at key ≡ false → HasUndoneAt (index - 1) now next event → more ≡ event ∷ into
      → IsBackTo object key old next (index - 1) more (count + 1) was
  look-undo next event more here late one pushed =
      let e = event-there in
      back-undo object key old now (index - 1) into count was backs e.0 e.1 next event more (ap (λ (k : Key). k.dest) e.2 ∙ here) (ap (λ k. key_lt k key) e.2 ∙ late) one pushed

  pub look-ends : Ascends done_key old.done → key_lt at key ≡ true → HasGoneBack object key old now into
  look-ends up lt =
      let e = event-there in
      let B = backs in
      back-to-end object key old now (suc (index - 1)) into count was B
      (early-before key old.done (index - 1) e.0 up (was-found object key old now (index - 1) into count was B e.0 e.1) (ap (λ k. key_lt k key) e.2 ∙ lt))

  pub look-room : length old.done < 2 ^ 60 → (index - 1 < length now.done) × (length into + 1 < 2 ^ 60) × (count + 1 < 2 ^ 60)
  look-room few =
      let e = event-there in
      let inside = slice_get_within now.done (index - 1) e.0 e.1 in
      let counted = l.back.count_is in
      let some = l.some in
      let within = l.back.within in
      let events = ap length l.back.events ∙ length-map (dones_at object (drop index old.done)) (λ (d : Done). d.event) in
      let less = length-filter_le (is_of object) (drop index old.done) in
      let left = length-drop index old.done in
      (inside, omega arith, omega arith)

pub back-to-first : (object : ℕ) (key : Key) (old now : EventLogView) (index : ℕ) (into : List Event) (count : ℕ) (was : ObjectState) → IsBackTo object key old now index into count was → index ≤ 0 → HasGoneBack object key old now into
back-to-first object key old now zero into count was b none = back-to-end object key old now zero into count was b tt
back-to-first object key old now (suc index) into count was b none = absurd (omega arith)

pub the-state : (found : Option ObjectState) → is_some found ≡ true → (s : ObjectState) × (found ≡ Some s)
the-state None here = absurd (cc)
the-state (Some s) here = (s, refl)
