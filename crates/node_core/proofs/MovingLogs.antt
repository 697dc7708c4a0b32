-- Objects keep their places where one of them leaves, or another one comes.
use Rattle.std.proofs.Common.{◌≡◌, ◌≢◌, ℕ, zero, suc, ◌+◌, ◌<◌, ◌≤◌, Bool, true, false, List, [], ◌∷◌, ◌++◌, length, eqb, eq-eqb, eqb-true, ne_eqb, Some, None, is_some, cond, refl, sym, ap, subst, ◌∙◌, arith}
use Rattle.std.proofs.lemmas.Bool.{eqb-false}
use Rattle.std.proofs.lemmas.List.{get_or-set_same, get_or-set_other, length-set}
use Rattle.std.specs.Prelude.{slice_get, slice_index_or, slice_set, ◌==◌}
use Rattle.std.specs.List.{AllByRecursion as Each}
use Rattle.object_log.specs.EventLogs.{EventLogView, ObjectView, or_else, state_in}
use Rattle.object_log.specs.Objects.{AreApart, IsPlaced}
use Rattle.event_log.specs.Moves.{place_after}
use Rattle.event_log.specs.NodeLogs.{IsCarried, NodeLogView}
use Rattle.event_log.specs.Processing.{AreHomed}
use Rattle.node_core.specs.Homes.{HomesView}
use Rattle.node_core.specs.Logged.{AreLogged}
use Rattle.node_core.proofs.PlaceLemmas.{apart-few}

-- what stands at a place is there, and is one object
pub placed-here : (os : List ObjectView) (place object : ℕ) → (o : ObjectView) × (slice_get os place ≡ Some o) × (o.object ≡ object) → is_some (state_in os object) ≡ true
unfolding state_in
placed-here [] place object at = (let is = at.1 in absurd (cc))
placed-here (o ∷ os) zero object at =
    let is : Some o ≡ Some at.0 = at.1 in
    let first : o ≡ at.0 = cc in
    let yes = eq-eqb o.object object (ap (λ (v : ObjectView). v.object) first ∙ at.2) in
    ap (λ b. is_some (or_else b o.state (state_in os object))) yes
placed-here (o ∷ os) (suc place) object at = by_test (o.object == object) (placed-here os place object at)
  where
    by_test : (b : Bool) → is_some (state_in os object) ≡ true → is_some (or_else b o.state (state_in os object)) ≡ true
    by_test true more = refl
    by_test false more = more

pub placed-one : (log : EventLogView) (place one other : ℕ) → IsPlaced log place one → IsPlaced log place other → one ≡ other
placed-one log place one other x y =
    let same : Some x.0 ≡ Some y.0 = sym x.1 ∙ y.1 in
    let is : x.0 ≡ y.0 = cc in
    sym x.2 ∙ ap (λ (v : ObjectView). v.object) is ∙ y.2

pub placed-within : (os : List ObjectView) (place : ℕ) (o : ObjectView) → slice_get os place ≡ Some o → place < length os
placed-within [] place o at = absurd (cc)
placed-within (x ∷ xs) zero o at = omega arith
placed-within (x ∷ xs) (suc place) o at = let more = placed-within xs place o at in omega arith

pub placed-at : (os : List ObjectView) (place : ℕ) → place < length os → (o : ObjectView) × (slice_get os place ≡ Some o)
placed-at [] place lt = absurd (omega arith)
placed-at (x ∷ xs) zero lt = (x, refl)
placed-at (x ∷ xs) (suc place) lt = placed-at xs place (omega arith)

module _ (object place : ℕ) (old new : NodeLogView) (places : List ℕ) (homes after : HomesView) (are : AreLogged homes old places)
    (gone : state_in new.log.objects object ≡ None) (others : (other : ℕ) → other ≢ object → state_in new.log.objects other ≡ state_in old.log.objects other)
    (moves : (at other : ℕ) → other ≢ object → IsPlaced old.log at other → IsPlaced new.log (place_after (length new.log.objects) place at) other)
    (carried : IsCarried new) (nodes : new.nodes ≡ old.nodes) (same_nodes : after.nodes ≡ homes.nodes) (same_objects : length after.homes ≡ length homes.homes) where
  apart : (other : ℕ) → is_some (state_in new.log.objects other) ≡ true → other ≢ object
  apart other here same = let none = ap (λ o. is_some (state_in new.log.objects o)) same ∙ ap is_some gone in absurd (let yes = here in cc)

  was : (other : ℕ) → is_some (state_in new.log.objects other) ≡ true → is_some (state_in old.log.objects other) ≡ true
  was other here = ap is_some (sym (others other (apart other here))) ∙ here

  pub number-known : (number : ℕ) → IsPlaced new.log place number → number < length places
  number-known number at =
      let here = placed-here new.log.objects place number at in
      let lt = are.inside number (was number here) in let long = are.long in omega arith

  homed : AreHomed after.homes new.chained
  homed = (let H = λ (ms : _). AreHomed after.homes ms in subst H (sym carried.chained) refl)

  -- where an object stands now
  stands : (other : ℕ) → is_some (state_in new.log.objects other) ≡ true → IsPlaced new.log (place_after (length new.log.objects) place (slice_index_or places other 0)) other
  stands other here = moves (slice_index_or places other 0) other (apart other here) (are.placed other (was other here))

  pub left-last : length new.log.objects ≤ place → AreLogged after new places
  left-last last = record {
    long = are.long ∙ sym same_objects;
    nodes = nodes ∙ are.nodes ∙ sym same_nodes;
    homed = homed;
    inside = λ other here. let lt = are.inside other (was other here) in omega arith;
    placed = λ other here. by_test other here (eqb (slice_index_or places other 0) (length new.log.objects)) refl;
  }
    where
      by_test : (other : ℕ) → is_some (state_in new.log.objects other) ≡ true → (b : Bool) → eqb (slice_index_or places other 0) (length new.log.objects) ≡ b → IsPlaced new.log (slice_index_or places other 0) other
      by_test other here true h =
          let P = λ (b : Bool). IsPlaced new.log (cond b place (slice_index_or places other 0)) other in
          let at : IsPlaced new.log place other = subst P h (stands other here) in
          absurd (let lt = placed-within new.log.objects place at.0 at.1 in omega arith)
      by_test other here false h =
          let P = λ (b : Bool). IsPlaced new.log (cond b place (slice_index_or places other 0)) other in
          subst P h (stands other here)

  pub left-moved : (number : ℕ) → IsPlaced new.log place number → AreLogged after new (slice_set places number place)
  left-moved number at = record {
    long = length-set places number place ∙ are.long ∙ sym same_objects;
    nodes = nodes ∙ are.nodes ∙ sym same_nodes;
    homed = homed;
    inside = λ other here. let lt = are.inside other (was other here) in omega arith;
    placed = λ other here. by_number other here (eqb other number) refl;
  }
    where
      now : List ℕ
      now = slice_set places number place

      by_test : (other : ℕ) → is_some (state_in new.log.objects other) ≡ true → other ≢ number → (b : Bool) → eqb (slice_index_or places other 0) (length new.log.objects) ≡ b → IsPlaced new.log (slice_index_or places other 0) other
      by_test other here away true h =
          let P = λ (b : Bool). IsPlaced new.log (cond b place (slice_index_or places other 0)) other in
          absurd (away (placed-one new.log place other number (subst P h (stands other here)) at))
      by_test other here away false h =
          let P = λ (b : Bool). IsPlaced new.log (cond b place (slice_index_or places other 0)) other in
          subst P h (stands other here)

      by_number : (other : ℕ) → is_some (state_in new.log.objects other) ≡ true → (b : Bool) → eqb other number ≡ b → IsPlaced new.log (slice_index_or (slice_set places number place) other 0) other
      by_number other here true h =
          let same : other ≡ number = eqb-true other number h in
          let P = λ (p : ℕ). IsPlaced new.log p other in
          let Q = λ (o : ℕ). IsPlaced new.log place o in
          subst P (sym (ap (λ o. slice_index_or (slice_set places number place) o 0) same ∙ get_or-set_same places number place 0 (number-known number at))) (subst Q (sym same) at)
      by_number other here false h =
          let away = eqb-false other number h in
          let P = λ (p : ℕ). IsPlaced new.log p other in
          subst P (sym (get_or-set_other places number other place 0 away)) (by_test other here away (eqb (slice_index_or places other 0) (length new.log.objects)) refl)

-- an object that isn't among others
none-apart : (os : List ObjectView) (object : ℕ) → state_in os object ≡ None → Each (λ (p : ObjectView). p.object ≢ object) os
unfolding state_in
none-apart [] object away = tt
none-apart (o ∷ os) object away = by_test (eqb o.object object) refl away (none-apart os object)
  where
    by_test : (b : Bool) → eqb o.object object ≡ b → or_else b o.state (state_in os object) ≡ None → (state_in os object ≡ None → Each (λ (p : ObjectView). p.object ≢ object) os)
        → Each (λ (p : ObjectView). p.object ≢ object) (o ∷ os)
    by_test true h none more = absurd (cc)
    by_test false h none more = (eqb-false o.object object h, more none)

each-get : (P : ObjectView → Type 0) (os : List ObjectView) → ((place : ℕ) (o : ObjectView) → slice_get os place ≡ Some o → P o) → Each P os
each-get P [] all = tt
each-get P (o ∷ os) all = (all 0 o refl, each-get P os (λ place p at. all (suc place) p at))

-- it finds a place behind them
pub come-few : (os : List ObjectView) (x : ObjectView) (n : ℕ) → AreApart os → state_in os x.object ≡ None → x.object < n → ((object : ℕ) → is_some (state_in os object) ≡ true → object < n) → length os + 1 ≤ n
unfolding AreApart
come-few os x n apart away lt inside =
    let below = each-get (λ (o : ObjectView). o.object < n) os (λ place o at. inside o.object (placed-here os place o.object (o, at, refl))) in
    let few = apart-few n (x ∷ os) (none-apart os x.object away, apart) (lt, below) in omega arith

state-more : (os : List ObjectView) (x : ObjectView) (other : ℕ) → other ≢ x.object → state_in (os ++ x ∷ []) other ≡ state_in os other
unfolding state_in
state-more [] x other away = ap (λ b. or_else b x.state None) (ne_eqb x.object other (λ same. away (sym same)))
state-more (o ∷ os) x other away = ap (or_else (o.object == other) o.state) (state-more os x other away)

state-last : (os : List ObjectView) (x : ObjectView) → state_in os x.object ≡ None → state_in (os ++ x ∷ []) x.object ≡ Some x.state
unfolding state_in
state-last [] x away = ap (λ b. or_else b x.state None) (eq-eqb x.object x.object refl)
state-last (o ∷ os) x away = by_test (o.object == x.object) away (state-last os x)
  where
    by_test : (b : Bool) → or_else b o.state (state_in os x.object) ≡ None → (state_in os x.object ≡ None → state_in (os ++ x ∷ []) x.object ≡ Some x.state) → or_else b o.state (state_in (os ++ x ∷ []) x.object) ≡ Some x.state
    by_test true none more = absurd (cc)
    by_test false none more = more none

get-more : (os : List ObjectView) (x : ObjectView) (place : ℕ) (o : ObjectView) → slice_get os place ≡ Some o → slice_get (os ++ x ∷ []) place ≡ Some o
get-more [] x place o at = absurd (cc)
get-more (y ∷ ys) x zero o at = at
get-more (y ∷ ys) x (suc place) o at = get-more ys x place o at

get-last : (os : List ObjectView) (x : ObjectView) → slice_get (os ++ x ∷ []) (length os) ≡ Some x
get-last [] x = refl
get-last (o ∷ os) x = get-last os x

module _ (old new : NodeLogView) (x : ObjectView) (places : List ℕ) (homes after : HomesView) (are : AreLogged homes old places)
    (away : state_in old.log.objects x.object ≡ None) (inside : x.object < length homes.homes) (objects : new.log.objects ≡ old.log.objects ++ x ∷ [])
    (carried : IsCarried new) (nodes : new.nodes ≡ old.nodes) (same_nodes : after.nodes ≡ homes.nodes) (same_objects : length after.homes ≡ length homes.homes) where
  pub come-others : (other : ℕ) → other ≢ x.object → state_in new.log.objects other ≡ state_in old.log.objects other
  come-others other apart = ap (λ os. state_in os other) objects ∙ state-more old.log.objects x other apart

  pub come-logged : AreLogged after new (slice_set places x.object (length old.log.objects))
  come-logged = record {
    long = length-set places x.object (length old.log.objects) ∙ are.long ∙ sym same_objects;
    nodes = nodes ∙ are.nodes ∙ sym same_nodes;
    homed = (let H = λ (ms : _). AreHomed after.homes ms in subst H (sym carried.chained) refl);
    inside = λ other here. by_inside other here (eqb other x.object) refl;
    placed = λ other here. by_number other here (eqb other x.object) refl;
  }
    where
      by_inside : (other : ℕ) → is_some (state_in new.log.objects other) ≡ true → (b : Bool) → eqb other x.object ≡ b → other < length after.homes
      by_inside other here true h = (let same = eqb-true other x.object h in omega arith)
      by_inside other here false h = (let lt = are.inside other (sym (ap is_some (come-others other (eqb-false other x.object h))) ∙ here) in omega arith)

      stands : (os : List ObjectView) → os ≡ old.log.objects ++ x ∷ [] → (place object : ℕ) → (o : ObjectView) × (slice_get (old.log.objects ++ x ∷ []) place ≡ Some o) × (o.object ≡ object)
          → (o : ObjectView) × (slice_get os place ≡ Some o) × (o.object ≡ object)
      stands os is place object at = (at.0, ap (λ ps. slice_get ps place) is ∙ at.1, at.2)

      by_number : (other : ℕ) → is_some (state_in new.log.objects other) ≡ true → (b : Bool) → eqb other x.object ≡ b → IsPlaced new.log (slice_index_or (slice_set places x.object (length old.log.objects)) other 0) other
      by_number other here true h =
          let same : other ≡ x.object = eqb-true other x.object h in
          let P = λ (p : ℕ). IsPlaced new.log p other in
          let within : x.object < length places = (let long = are.long in omega arith) in
          let at : IsPlaced new.log (length old.log.objects) other = stands new.log.objects objects (length old.log.objects) other (x, get-last old.log.objects x, sym same) in
          subst P (sym (ap (λ o. slice_index_or (slice_set places x.object (length old.log.objects)) o 0) same ∙ get_or-set_same places x.object (length old.log.objects) 0 within)) at
      by_number other here false h =
          let apart = eqb-false other x.object h in
          let was = sym (ap is_some (come-others other apart)) ∙ here in
          let P = λ (p : ℕ). IsPlaced new.log p other in
          let old-at = are.placed other was in
          let at : IsPlaced new.log (slice_index_or places other 0) other = stands new.log.objects objects (slice_index_or places other 0) other (old-at.0, get-more old.log.objects x (slice_index_or places other 0) old-at.0 old-at.1, old-at.2) in
          subst P (sym (get_or-set_other places x.object other (length old.log.objects) 0 apart)) at
