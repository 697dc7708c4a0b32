-- All events from a horizon on are undone, the last one first.
use Rattle.std.proofs.Common.{◌≡◌, ℕ, zero, suc, ◌+◌, ◌-◌, ◌<◌, ◌^◌, Bool, true, false, not, cond, Option, Some, None, List, [], ◌∷◌, ◌++◌, length, take, drop, eqb, eqb-true, refl, sym, ap, ◌∙◌, subst, arith, append_assoc, length-append, length-take}
use Rattle.std.proofs.lemmas.Bool.{eqb-false}
use Rattle.std.proofs.lemmas.List.{append-nil, length-map}
use Rattle.std.specs.Prelude.{filter, nat_lt, slice_get, ◌==◌}
use Rattle.std.specs.List.{AllByRecursion as Each}
use Rattle.model_core.specs.declared.event.Event.{Event}
use Rattle.sim_spec.specs.Firing.{ObjectState}
use Rattle.key_order.specs.Ascending.{Ascends}
use Rattle.key_order.proofs.EachLemmas.{Each-map}
use Rattle.key_order.proofs.FilterLemmas.{filter-all, filter-none, filter-swap}
use Rattle.std.proofs.lemmas.List.Elements.{filter-append}
use Rattle.object_log.specs.Dones.{Done}
use Rattle.object_log.specs.EventCalls.{HasUndoneFrom, undone_or}
use Rattle.object_log.specs.EventLogs.{EventLogView, done_key, dones_at, state_in}
use Rattle.object_log.specs.Logs.{before, events_of, undone}
use Rattle.object_log.specs.Undoings.{HasUndoneAt, IsNewestAt, LastIsFrom}
use Rattle.object_log.proofs.FrontLemmas.{down-stamp}
use Rattle.object_log.proofs.OwnLemmas.{is_here, is_there}
use Rattle.object_log.proofs.UndoLemmas.{same-found, split-at}

-- the state of an object once these events of it are undone
abbrev pub undone_in : List Done → Option ObjectState → Option ObjectState
undone_in ds None = None
undone_in ds (Some s) = Some (undone s ds)

-- so far these are gone, none of which is below the horizon
pub record IsBackFrom (horizon : ℕ) (old now : EventLogView) (into : List Event) (count : ℕ) : Type 0 where
  pub gone : List Done
  pub split : old.done ≡ now.done ++ gone
  pub high : Each (λ (d : Done). nat_lt d.event.key.stamp horizon ≡ false) gone
  pub states : (object : ℕ) → state_in now.objects object ≡ undone_in (dones_at object gone) (state_in old.objects object)
  pub events : into ≡ events_of gone
  pub count_is : count ≡ length into

nothing-undone : (x : Option ObjectState) → x ≡ undone_in [] x
unfolding undone
nothing-undone None = refl
nothing-undone (Some s) = refl

one-undone : (x : Option ObjectState) (d : Done) (ds : List Done) (s : ObjectState) → undone_in ds x ≡ Some s → Some (before s d) ≡ undone_in (d ∷ ds) x
unfolding undone
one-undone None d ds s is = absurd (cc)
one-undone (Some t) d ds s is = (let same : undone t ds ≡ s = cc in ap (λ (o : ObjectState). Some (before o d)) (sym same))

pub from-start : (horizon : ℕ) (old : EventLogView) (into : List Event) → into ≡ [] → IsBackFrom horizon old old into 0
from-start horizon old into none = record {
  gone = [];
  split = sym (append-nil old.done);
  high = tt;
  states = λ object. nothing-undone (state_in old.objects object);
  events = none;
  count_is = sym (ap length none);
}

none-behind : {X : Type 0} (xs : List X) (n : ℕ) → n ≡ length xs → drop n xs ≡ []
none-behind [] zero is = refl
none-behind [] (suc n) is = refl
none-behind (x ∷ xs) zero is = absurd (omega arith)
none-behind (x ∷ xs) (suc n) is = none-behind xs n (omega arith)

pub from-step : (horizon : ℕ) (old now next : EventLogView) (into more : List Event) (count index : ℕ) (event : Event) → IsBackFrom horizon old now into count → (one : HasUndoneAt index now next event)
    → suc index ≡ length now.done → nat_lt one.newest.event.key.stamp horizon ≡ false → more ≡ event ∷ into → IsBackFrom horizon old next more (count + 1)
from-step horizon old now next into more count index event so_far one last high is =
    let d = one.newest in
    let none = none-behind now.done (suc index) last in
    let left : next.done ≡ take index now.done = one.done ∙ ap (λ zs. take index now.done ++ zs) none ∙ append-nil (take index now.done) in
    let whole : now.done ≡ next.done ++ d ∷ [] = split-at now.done index d one.found ∙ (λ i. sym left i ++ d ∷ none i) in
    let counted = so_far.count_is in
    let longer = ap length is in
    record {
      gone = d ∷ so_far.gone;
      split = so_far.split ∙ ap (λ ds. ds ++ so_far.gone) whole ∙ append_assoc next.done (d ∷ []) so_far.gone;
      high = (high, so_far.high);
      states = λ object. by_object object (eqb object d.event.key.dest) refl;
      events = is ∙ (λ i. one.event_is i ∷ so_far.events i);
      count_is = omega arith;
    }
  where
    by_object : (object : ℕ) → (b : Bool) → eqb object one.newest.event.key.dest ≡ b → state_in next.objects object ≡ undone_in (dones_at object (one.newest ∷ so_far.gone)) (state_in old.objects object)
    by_object object true h =
        let d = one.newest in
        let dest = d.event.key.dest in
        let same = eqb-true object dest h in
        let P : ℕ → Type 0 = λ o. state_in next.objects o ≡ undone_in (dones_at o (d ∷ so_far.gone)) (state_in old.objects o) in
        let was : undone_in (dones_at dest so_far.gone) (state_in old.objects dest) ≡ Some one.was = sym (so_far.states dest) ∙ one.changes.before in
        subst P (sym same)
        (one.changes.after ∙ one-undone (state_in old.objects dest) d (dones_at dest so_far.gone) one.was was
        ∙ ap (λ b. undone_in (cond b (d ∷ dones_at dest so_far.gone) (dones_at dest so_far.gone)) (state_in old.objects dest)) (sym (is_here d dest refl)))
    by_object object false h =
        let d = one.newest in
        let apart = eqb-false object d.event.key.dest h in
        one.changes.states object apart ∙ so_far.states object
        ∙ ap (λ b. undone_in (cond b (d ∷ dones_at object so_far.gone) (dones_at object so_far.gone)) (state_in old.objects object)) (sym (is_there d object (λ same. apart (sym same))))

state-undone : (horizon : ℕ) (ds gone : List Done) (x : Option ObjectState) → gone ≡ filter (λ d. not (nat_lt d.event.key.stamp horizon)) ds → undone_in gone x ≡ undone_or horizon ds x
state-undone horizon ds gone None is = refl
state-undone horizon ds gone (Some s) is = ap (λ zs. Some (undone s zs)) is

-- what is left is below the horizon
pub from-end : (horizon : ℕ) (old now : EventLogView) (into : List Event) (count : ℕ) → (b : IsBackFrom horizon old now into count) → Each (λ (d : Done). nat_lt d.event.key.stamp horizon ≡ true) now.done → HasUndoneFrom horizon old now into
from-end horizon old now into count b low =
    let p = λ (d : Done). nat_lt d.event.key.stamp horizon in
    let q = λ (d : Done). not (p d) in
    let none = filter-none p b.gone b.high in
    let all = filter-all p now.done low in
    let left : filter p old.done ≡ now.done = ap (filter p) b.split ∙ filter-append p now.done b.gone ∙ (λ i. all i ++ none i) ∙ append-nil now.done in
    let fewer = filter-none q now.done (Each-map (λ (d : Done). p d ≡ true) (λ (d : Done). q d ≡ false) now.done (λ d is. ap not is) low) in
    let more = filter-all q b.gone (Each-map (λ (d : Done). p d ≡ false) (λ (d : Done). q d ≡ true) b.gone (λ d is. ap not is) b.high) in
    let gone : filter q old.done ≡ b.gone = ap (filter q) b.split ∙ filter-append q now.done b.gone ∙ (λ i. fewer i ++ more i) in
    record {
      done = sym left;
      states = λ object. b.states object ∙ state-undone horizon (dones_at object old.done) (dones_at object b.gone) (state_in old.objects object)
          (ap (dones_at object) (sym gone) ∙ filter-swap (λ (d : Done). d.event.key.dest == object) q old.done);
      events = b.events ∙ ap events_of (sym gone);
    }

-- where the last event is below a horizon, all are
pub below-last : (horizon : ℕ) (ds : List Done) (n : ℕ) (d : Done) → Ascends done_key ds → n + 1 ≡ length ds → slice_get ds n ≡ Some d → nat_lt d.event.key.stamp horizon ≡ true
    → Each (λ (x : Done). nat_lt x.event.key.stamp horizon ≡ true) ds
unfolding Ascends
below-last horizon [] n d up long found low = tt
below-last horizon (x ∷ []) zero d up long found low = (let same : x ≡ d = cc in (ap (λ (y : Done). nat_lt y.event.key.stamp horizon) same ∙ low, tt))
below-last horizon (x ∷ []) (suc n) d up long found low = absurd (omega arith)
below-last horizon (x ∷ y ∷ ds) zero d up long found low = absurd (omega arith)
below-last horizon (x ∷ y ∷ ds) (suc n) d up long found low =
    let more = below-last horizon (y ∷ ds) n d up.1 (omega arith) found low in
    (down-stamp horizon x.event.key y.event.key up.0.0 more.0, more)

pub none-below : (horizon : ℕ) (ds : List Done) → length ds ≡ 0 → Each (λ (x : Done). nat_lt x.event.key.stamp horizon ≡ true) ds
none-below horizon [] none = tt
none-below horizon (d ∷ ds) none = absurd (omega arith)

-- the last event is the newest of its object
pub newest-last : (horizon : ℕ) (log : EventLogView) (index : ℕ) → LastIsFrom horizon log.done → index ≡ length log.done - 1 → IsNewestAt index log
newest-last horizon log index l is =
    let P : ℕ → Type 0 = λ n. slice_get log.done n ≡ Some l.last in
    let some = l.some in
    record {
      newest = l.last;
      found = subst P (sym is) l.found;
      last = ap (dones_at l.last.event.key.dest) (none-behind log.done (suc index) (omega arith));
    }

pub from-next : (horizon : ℕ) (old now next : EventLogView) (into more : List Event) (count index : ℕ) (event : Event) → IsBackFrom horizon old now into count → HasUndoneAt index now next event
    → LastIsFrom horizon now.done → index ≡ length now.done - 1 → more ≡ event ∷ into → IsBackFrom horizon old next more (count + 1)
from-next horizon old now next into more count index event so_far one l is pushed =
    let P : ℕ → Type 0 = λ n. slice_get now.done n ≡ Some l.last in
    let same = same-found now.done index one.newest l.last one.found (subst P (sym is) l.found) in
    let some = l.some in
    from-step horizon old now next into more count index event so_far one (omega arith) (ap (λ (d : Done). nat_lt d.event.key.stamp horizon) same ∙ l.from) pushed

pub from-room : (horizon : ℕ) (old now : EventLogView) (into : List Event) (count : ℕ) → IsBackFrom horizon old now into count → LastIsFrom horizon now.done → length old.done < 2 ^ 60 → (length into + 1 < 2 ^ 60) × (count + 1 < 2 ^ 60)
from-room horizon old now into count b l few =
    let some = l.some in
    let long = ap length b.split ∙ length-append now.done b.gone in
    let events = ap length b.events ∙ length-map b.gone (λ (d : Done). d.event) in
    let counted = b.count_is in
    (omega arith, omega arith)

pub from-less : (horizon : ℕ) (now next : EventLogView) (index : ℕ) (event : Event) → HasUndoneAt index now next event → LastIsFrom horizon now.done → index ≡ length now.done - 1 → length next.done < length now.done
from-less horizon now next index event one l is =
    let some = l.some in
    let none = none-behind now.done (suc index) (omega arith) in
    let left = ap length (one.done ∙ ap (λ zs. take index now.done ++ zs) none ∙ append-nil (take index now.done)) in
    let most = length-take index now.done in
    omega (arith, left, most)
