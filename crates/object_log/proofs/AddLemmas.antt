-- A log of many objects with an object more.
use Rattle.std.proofs.Common.{◌≡◌, ◌≢◌, ℕ, zero, suc, Bool, true, false, cond, Some, None, List, [], ◌∷◌, ◌++◌, map, eq-eqb, refl, sym, ap, ◌∙◌, subst}
use Rattle.std.proofs.lemmas.List.{map-append}
use Rattle.std.specs.Prelude.{◌==◌, slice_get}
use Rattle.std.specs.List.{AllByRecursion as Each}
use Rattle.key_order.proofs.EachLemmas.{Each-append, Each-map}
use Rattle.object_log.specs.Carrying.{Placed}
use Rattle.object_log.specs.EventLogs.{ObjectView, dones_at, is_of, or_else, state_in}
use Rattle.object_log.specs.Keeping.{Keeps}
use Rattle.object_log.specs.Objects.{AreApart, KeptObject}
use Rattle.object_log.specs.Whole.{IsEventLog, StandsAt, dones_in, object_view}
use Rattle.object_log.proofs.KeepingLemmas.{keeps-none}
use Rattle.object_log.proofs.OwnLemmas.{is_there}

-- an object that isn't found is none of these
not-found : (o : ObjectView) (os : List ObjectView) (n : ℕ) → state_in (o ∷ os) n ≡ None → (o.object ≡ n → ⊥) × (state_in os n ≡ None)
unfolding state_in
not-found o os n none = by_test (o.object == n) refl none
  where
    by_test : (b : Bool) → (o.object == n) ≡ b → or_else b o.state (state_in os n) ≡ None → (o.object ≡ n → ⊥) × (state_in os n ≡ None)
    by_test true h none = absurd (cc)
    by_test false h none = ((λ same. let yes = eq-eqb o.object n same in absurd (cc)), none)

apart-push : (os : List ObjectView) (v : ObjectView) → AreApart os → state_in os v.object ≡ None → AreApart (os ++ v ∷ [])
unfolding AreApart
apart-push [] v apart none = (tt, tt)
apart-push (o ∷ os) v apart none =
    let away = not-found o os v.object none in
    (Each-append (λ (p : ObjectView). p.object ≢ o.object) os (v ∷ []) apart.0 ((λ same. away.0 (sym same)), tt), apart-push os v apart.1 away.1)

not-there : (objects : List KeptObject) (n pl : ℕ) (o : KeptObject) → state_in (map object_view objects) n ≡ None → slice_get objects pl ≡ Some o → o.object ≡ n → ⊥
not-there [] n pl o none found = λ same. absurd (cc)
not-there (x ∷ xs) n zero o none found = λ same. (let is : x ≡ o = cc in (not-found (object_view x) (map object_view xs) n none).0 (ap (λ (k : KeptObject). k.object) is ∙ same))
not-there (x ∷ xs) n (suc pl) o none found = not-there xs n pl o (not-found (object_view x) (map object_view xs) n none).1 found

get-left : {X : Type 0} (xs ys : List X) (i : ℕ) (x : X) → slice_get xs i ≡ Some x → slice_get (xs ++ ys) i ≡ Some x
get-left [] ys i x found = absurd (cc)
get-left (y ∷ xs) ys zero x found = found
get-left (y ∷ xs) ys (suc i) x found = get-left xs ys i x found

dones-none : (objects : List KeptObject) (items : List Placed) (n : ℕ) → state_in (map object_view objects) n ≡ None → Each (λ (p : Placed). StandsAt objects p.place p.done.event.key.dest) items → dones_at n (dones_in items) ≡ []
dones-none objects [] n none all = refl
dones-none objects (p ∷ ps) n none all =
    let away : is_of n p.done ≡ false = is_there p.done n (λ same. not-there objects n p.place all.0.0 none all.0.1 (all.0.2 ∙ same)) in
    ap (λ b. cond b (p.done ∷ dones_at n (dones_in ps)) (dones_at n (dones_in ps))) away ∙ dones-none objects ps n none all.1

pub one-more-object : (objects : List KeptObject) (items : List Placed) (o : KeptObject) → IsEventLog objects items → state_in (map object_view objects) o.object ≡ None → IsEventLog (objects ++ o ∷ []) items
one-more-object objects items o log none =
    let P : KeptObject → Type 0 = λ k. Keeps k.cells k.sent (dones_at k.object (dones_in items)) in
    record {
      apart = subst AreApart (sym (map-append object_view objects (o ∷ []))) (apart-push (map object_view objects) (object_view o) log.apart none);
      keeps = Each-append P objects (o ∷ []) log.keeps (keeps-none o.cells o.sent (dones_at o.object (dones_in items)) (dones-none objects items o.object none log.places), tt);
      places = Each-map (λ (p : Placed). StandsAt objects p.place p.done.event.key.dest) (λ (p : Placed). StandsAt (objects ++ o ∷ []) p.place p.done.event.key.dest) items
          (λ p s. (s.0, get-left objects (o ∷ []) p.place s.0 s.1, s.2)) log.places;
      ordered = log.ordered;
      few = log.few;
    }
