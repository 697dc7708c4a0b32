-- An object comes to a log with all that it has processed.
use Rattle.std.proofs.Common.{◌≡◌, ◌≢◌, ℕ, zero, suc, ◌+◌, ◌<◌, ◌^◌, false, Some, None, List, [], ◌∷◌, ◌++◌, length, map, eq-eqb, eqb-true, refl, sym, ap, ◌∙◌, subst, arith, length-append}
use Rattle.std.proofs.lemmas.Bool.{false_from_ne_true}
use Rattle.std.proofs.lemmas.List.{append-nil, length-map, map-append}
use Rattle.std.proofs.lemmas.List.Sorted.{length_permutation, sum_by-IsPermutation}
use Rattle.std.specs.Prelude.{slice_get, ◌==◌}
use Rattle.std.specs.List.{AllByRecursion as Each}
use Rattle.event_key.specs.declared.key.Key.{Key}
use Rattle.key_order.specs.Ascending.{Ascends}
use Rattle.key_order.specs.Keys.{at_key, times}
use Rattle.key_order.proofs.AscendingLemmas.{Ascends-map}
use Rattle.key_order.proofs.EachLemmas.{Each-append, Each-both, Each-map}
use Rattle.key_order.proofs.FilterLemmas.{filter-none}
use Rattle.key_order.proofs.KeyLemmas.{After-new, new-append, new-cons}
use Rattle.object_log.specs.Carrying.{Placed, placed_key}
use Rattle.object_log.specs.Dones.{Done}
use Rattle.object_log.specs.EventLogs.{EventLogView, ObjectView, done_key, dones_at, is_of, or_else, slot_in, slot_of, state_in}
use Rattle.object_log.specs.Keeping.{Keeps, OnlyLastFailed}
use Rattle.object_log.specs.Objects.{KeptObject, state_of}
use Rattle.object_log.specs.Weave.{weave}
use Rattle.object_log.specs.Whole.{IsEventLog, StandsAt, dones_in, log_view, object_view}
use Rattle.object_log.proofs.AddLemmas.{one-more-object}
use Rattle.object_log.proofs.OwnLemmas.{is_there, only-own, own-ascends}
use Rattle.object_log.proofs.WeaveLemmas.{insert-ascends, weave-apart, weave-filter, weave-permutation}
use Rattle.event_log.specs.Moves.{MovedLogView, moved_view, place_after, shifted}
use Rattle.event_log.proofs.MoveFacts.{each-of-map, shifted-dones}
use Rattle.event_log.proofs.PermuteFacts.{none-here}
use Rattle.event_log.proofs.ReadingFacts.{each-woven, map-woven}

-- lists in order of which no element of one has a key of the other
module _ {X : Type 0} (key : X → Key) where
  pub woven-ascends : (xs ys : List X) → Ascends key xs → Ascends key ys → Each (λ (x : X). times key (key x) ys ≡ 0) xs → Ascends key (weave key xs ys)
  unfolding Ascends weave
  woven-ascends [] ys up low new = low
  woven-ascends (x ∷ xs) ys up low new =
      let both = new-append key (key x) xs ys (After-new key (key x) xs up.0) new.0 in
      let moved = sum_by-IsPermutation (at_key key (key x)) (xs ++ ys) (weave key xs ys) (weave-permutation key xs ys) in
      insert-ascends key x (weave key xs ys) (moved ∙ both) (woven-ascends xs ys up.1 low new.1)

  pub woven-none : (xs : List X) → Ascends key xs → weave key xs [] ≡ xs
  woven-none xs up = weave-apart key xs [] (subst (Ascends key) (sym (append-nil xs)) up) ∙ append-nil xs

none-new : (k : Key) (object : ℕ) (ps : List Placed) → k.dest ≢ object → Each (λ (p : Placed). p.done.event.key.dest ≡ object) ps → times placed_key k ps ≡ 0
none-new k object [] there all = refl
none-new k object (p ∷ ps) there all = new-cons placed_key k p ps (λ same. there (ap (λ (j : Key). j.dest) same ∙ all.0)) (none-new k object ps there all.1)

get-last : {X : Type 0} (xs : List X) (x : X) → slice_get (xs ++ x ∷ []) (length xs) ≡ Some x
get-last [] x = refl
get-last (y ∷ xs) x = get-last xs x

-- where one object stands, all events are at it, and stand at place 0
alone-at : (o : KeptObject) (pl n : ℕ) → StandsAt (o ∷ []) pl n → (pl ≡ 0) × (n ≡ o.object)
alone-at o zero n s = (let is : o ≡ s.0 = cc in (refl, sym (ap (λ (k : KeptObject). k.object) is ∙ s.2)))
alone-at o (suc pl) n s = absurd (cc)

each-away : (P : ℕ → Type 0) (ks : List KeptObject) → Each (λ (v : ObjectView). P v.object) (map object_view ks) → Each (λ (k : KeptObject). P k.object) ks
each-away P [] all = tt
each-away P (k ∷ ks) all = (all.0, each-away P ks all.1)

state-last : (os : List ObjectView) (v : ObjectView) → Each (λ (p : ObjectView). p.object ≢ v.object) os → state_in (os ++ v ∷ []) v.object ≡ Some v.state
unfolding state_in
state-last [] v away = ap (λ b. or_else b v.state None) (eq-eqb v.object v.object refl)
state-last (o ∷ os) v away =
    ap (λ b. or_else b o.state (state_in (os ++ v ∷ []) v.object)) (false_from_ne_true (o.object == v.object) (λ yes. away.0 (eqb-true o.object v.object yes)))
    ∙ state-last os v away.1

-- all that has left with an object is its own
module _ (o : KeptObject) (own : List Placed) (moved : IsEventLog (o ∷ []) own) where
  pub moved-dest : Each (λ (p : Placed). p.done.event.key.dest ≡ o.object) own
  moved-dest = Each-map (λ (p : Placed). StandsAt (o ∷ []) p.place p.done.event.key.dest) (λ (p : Placed). p.done.event.key.dest ≡ o.object) own (λ p s. (alone-at o p.place p.done.event.key.dest s).1) moved.places

  pub moved-own : dones_at o.object (dones_in own) ≡ dones_in own
  moved-own = only-own o.object (dones_in own) (each-of-map (λ (p : Placed). p.done) (λ (d : Done). d.event.key.dest ≡ o.object) own moved-dest)

  pub moved-last : OnlyLastFailed (dones_in own)
  moved-last = subst OnlyLastFailed moved-own moved.keeps.0.last

module _ (objects : List KeptObject) (items own : List Placed) (o : KeptObject) (log : IsEventLog objects items) (moved : IsEventLog (o ∷ []) own) (away : state_in (map object_view objects) o.object ≡ None) where
  abbrev pub come : List Placed
  come = map (shifted 0 (length objects)) own

  abbrev pub woven : List Placed
  woven = weave placed_key items come

  come-dest : Each (λ (p : Placed). p.done.event.key.dest ≡ o.object) come
  come-dest = each-of-map (shifted 0 (length objects)) (λ (p : Placed). p.done.event.key.dest ≡ o.object) own (moved-dest o own moved)

  come-dones : dones_in come ≡ dones_in own
  come-dones = shifted-dones 0 (length objects) own

  come-up : Ascends placed_key come
  come-up = Ascends-map placed_key (shifted 0 (length objects)) own moved.ordered

  others-away : Each (λ (p : Placed). p.done.event.key.dest ≢ o.object) items
  others-away = Each-map (λ (p : Placed). StandsAt objects p.place p.done.event.key.dest) (λ (p : Placed). p.done.event.key.dest ≢ o.object) items
      (λ p s same. stands-away s.0 p.place s.1 (s.2 ∙ same)) log.places
    where
      stands-away : (k : KeptObject) (pl : ℕ) → slice_get objects pl ≡ Some k → k.object ≢ o.object
      stands-away k pl found = each-found (λ (n : KeptObject). n.object ≢ o.object) objects pl k found (each-away (λ n. n ≢ o.object) objects (none-here (map object_view objects) o.object away))
        where
          each-found : (P : KeptObject → Type 0) (ks : List KeptObject) (i : ℕ) (k : KeptObject) → slice_get ks i ≡ Some k → Each P ks → P k
          each-found P [] i k found all = absurd (cc)
          each-found P (y ∷ ys) zero k found all = (let is : y ≡ k = cc in subst P is all.0)
          each-found P (y ∷ ys) (suc i) k found all = each-found P ys i k found all.1

  none-own : dones_at o.object (dones_in items) ≡ []
  none-own = filter-none (is_of o.object) (dones_in items) (each-of-map (λ (p : Placed). p.done) (λ (d : Done). is_of o.object d ≡ false) items
      (Each-map (λ (p : Placed). p.done.event.key.dest ≢ o.object) (λ (p : Placed). is_of o.object p.done ≡ false) items (λ p there. is_there p.done o.object there) others-away))

  pub woven-up : Ascends placed_key woven
  woven-up = woven-ascends placed_key items come log.ordered come-up
      (Each-map (λ (p : Placed). p.done.event.key.dest ≢ o.object) (λ (p : Placed). times placed_key (placed_key p) come ≡ 0) items (λ p there. none-new (placed_key p) o.object come there come-dest) others-away)

  dones-woven : (n : ℕ) → dones_at n (dones_in woven) ≡ weave done_key (dones_at n (dones_in items)) (dones_at n (dones_in own))
  dones-woven n =
      let up : Ascends done_key (weave done_key (dones_in items) (dones_in come)) = subst (Ascends done_key) (map-woven (λ (p : Placed). p.done) done_key items come) (Ascends-map done_key (λ (p : Placed). p.done) woven woven-up) in
      ap (dones_at n) (map-woven (λ (p : Placed). p.done) done_key items come)
      ∙ weave-filter done_key (is_of n) (dones_in items) (dones_in come) up
      ∙ ap (λ (ds : List Done). weave done_key (dones_at n (dones_in items)) (dones_at n ds)) come-dones

  pub put-own : dones_at o.object (dones_in woven) ≡ dones_in own
  unfolding weave
  put-own = dones-woven o.object ∙ ap (λ (ds : List Done). weave done_key ds (dones_at o.object (dones_in own))) none-own ∙ moved-own o own moved

  pub put-others : (other : ℕ) → other ≢ o.object → dones_at other (dones_in woven) ≡ dones_at other (dones_in items)
  put-others other there =
      let none = filter-none (is_of other) (dones_in own) (each-of-map (λ (p : Placed). p.done) (λ (d : Done). is_of other d ≡ false) own
      (Each-map (λ (p : Placed). p.done.event.key.dest ≡ o.object) (λ (p : Placed). is_of other p.done ≡ false) own (λ p here. is_there p.done other (λ same. there (sym same ∙ here))) (moved-dest o own moved))) in
      let up = own-ascends other (dones_in items) (Ascends-map done_key (λ (p : Placed). p.done) items log.ordered) in
      dones-woven other ∙ ap (weave done_key (dones_at other (dones_in items))) none ∙ woven-none done_key (dones_at other (dones_in items)) up

  pub put-long : length woven ≡ length items + length own
  put-long =
      let all = length_permutation (items ++ come) woven (weave-permutation placed_key items come) in
      let parts = length-append items come in
      let same = length-map own (shifted 0 (length objects)) in
      omega arith

  pub put-log : length items + length own < 2 ^ 60 → IsEventLog (objects ++ o ∷ []) woven
  put-log few =
      let more = one-more-object objects items o log away in
      let long = put-long in
      let P : KeptObject → Type 0 = λ k. Keeps k.cells k.sent (dones_at k.object (dones_in items)) in
      let Q : KeptObject → Type 0 = λ k. Keeps k.cells k.sent (dones_at k.object (dones_in woven)) in
      let S : Placed → Type 0 = λ p. StandsAt (objects ++ o ∷ []) p.place p.done.event.key.dest in
      let K : List Done → Type 0 = Keeps o.cells o.sent in
      record {
        apart = more.apart;
        keeps = Each-append Q objects (o ∷ [])
            (Each-both (λ (k : KeptObject). k.object ≢ o.object) P Q objects
            (λ k there keeps. (let L : List Done → Type 0 = Keeps k.cells k.sent in subst L (sym (put-others k.object there)) keeps))
            (each-away (λ n. n ≢ o.object) objects (none-here (map object_view objects) o.object away)) log.keeps)
            (subst K (sym put-own) (subst K (moved-own o own moved) moved.keeps.0), tt);
        places = each-woven placed_key S items come more.places
            (each-of-map (shifted 0 (length objects)) S own
            (Each-map (λ (p : Placed). StandsAt (o ∷ []) p.place p.done.event.key.dest) (λ (p : Placed). S (shifted 0 (length objects) p)) own (λ p s. come-stands p s) moved.places));
        ordered = woven-up;
        few = omega arith;
      }
    where
      come-stands : (p : Placed) → StandsAt (o ∷ []) p.place p.done.event.key.dest → StandsAt (objects ++ o ∷ []) (place_after 0 (length objects) p.place) p.done.event.key.dest
      come-stands p s =
          let is = alone-at o p.place p.done.event.key.dest s in
          let at : place_after 0 (length objects) p.place ≡ length objects = ap (place_after 0 (length objects)) is.0 in
          (o, ap (slice_get (objects ++ o ∷ [])) at ∙ get-last objects o, sym is.1)

  pub put-views : map object_view (objects ++ o ∷ []) ≡ map object_view objects ++ object_view o ∷ []
  put-views = map-append object_view objects (o ∷ [])

  pub put-slot : slot_in (log_view (objects ++ o ∷ []) woven) o.object ≡ Some (record { object = o.object; state = state_of o; done = dones_in own })
  put-slot =
      ap (slot_of (dones_in woven) o.object) (ap (λ (vs : List ObjectView). state_in vs o.object) put-views ∙ state-last (map object_view objects) (object_view o) (none-here (map object_view objects) o.object away))
      ∙ ap (λ (ds : List Done). Some (record { object = o.object; state = state_of o; done = ds })) put-own

-- the object stands behind the others, with all that it has processed
pub record HasPut (old : EventLogView) (moved : MovedLogView) (objects : List KeptObject) (items : List Placed) : Type 0 where
  pub log : IsEventLog objects items
  pub slot : slot_in (log_view objects items) moved.log.object ≡ Some moved.log
  pub views : map object_view objects ≡ old.objects ++ (record { object = moved.log.object; state = moved.log.state }) ∷ []
  pub others : (other : ℕ) → other ≢ moved.log.object → dones_at other (dones_in items) ≡ dones_at other old.done
  pub count : length (dones_in items) ≡ length old.done + length moved.log.done

module _ (objects : List KeptObject) (items carried own : List Placed) (old : EventLogView) (o : KeptObject) (place room places : ℕ) (moved : MovedLogView)
    (view : log_view objects items ≡ old) (log : IsEventLog objects items) (own_log : IsEventLog (o ∷ []) own) (moved_is : moved ≡ moved_view o own room places)
    (away : state_in old.objects moved.log.object ≡ None) (same : carried ≡ items) (at : place ≡ length objects) where
  away-there : state_in (map object_view objects) o.object ≡ None
  away-there = ap (λ (v : EventLogView). state_in v.objects o.object) view ∙ ap (λ (m : MovedLogView). state_in old.objects m.log.object) (sym moved_is) ∙ away

  come-is : weave placed_key carried (map (shifted 0 place) own) ≡ woven objects items own o log own_log away-there
  come-is = λ i. weave placed_key (same i) (map (shifted 0 (at i)) own)

  put-ordered : Ascends placed_key (weave placed_key carried (map (shifted 0 place) own))
  put-ordered = subst (Ascends placed_key) (sym come-is) (woven-up objects items own o log own_log away-there)

  old-long : length carried ≡ length old.done
  old-long = ap length same ∙ sym (length-map items (λ (p : Placed). p.done)) ∙ ap (λ (v : EventLogView). length v.done) view

  own-long : length own ≡ length moved.log.done
  own-long = sym (length-map own (λ (p : Placed). p.done)) ∙ ap (λ (m : MovedLogView). length m.log.done) (sym moved_is)

  -- both can be woven into one
  pub can-put : Ascends placed_key (weave placed_key carried (map (shifted 0 place) own)) × (length carried ≡ length old.done) × (length own ≡ length moved.log.done)
  can-put = (put-ordered, old-long, own-long)

  pub put-all : (objects' : List KeptObject) (items' : List Placed) → length old.done + length moved.log.done < 2 ^ 60 → objects' ≡ objects ++ o ∷ [] → items' ≡ weave placed_key carried (map (shifted 0 place) own) → HasPut old moved objects' items'
  put-all objects' items' few objects_is items_is =
      let one = old-long in
      let two = own-long in
      let first = ap length same in
      let all = woven objects items own o log own_log away-there in
      let long = put-long objects items own o log own_log away-there in
      let M : MovedLogView → Type 0 = λ m. HasPut old m objects' items' in
      let O : List KeptObject → Type 0 = λ os. HasPut old (moved_view o own room places) os items' in
      let I : List Placed → Type 0 = λ ps. HasPut old (moved_view o own room places) (objects ++ o ∷ []) ps in
      let counted = length-map all (λ (p : Placed). p.done) in
      let own_counted = length-map own (λ (p : Placed). p.done) in
      subst M (sym moved_is) (subst O (sym objects_is) (subst I (sym (items_is ∙ come-is)) (record {
        log = put-log objects items own o log own_log away-there (omega arith);
        slot = put-slot objects items own o log own_log away-there;
        views = put-views objects items own o log own_log away-there ∙ ap (λ (v : EventLogView). v.objects ++ object_view o ∷ []) view;
        others = λ other there. put-others objects items own o log own_log away-there other there ∙ ap (λ (v : EventLogView). dones_at other v.done) view;
        count = omega arith;
      })))
