-- What is true of the log of a node, as contracts see it.
use Rattle.std.proofs.Common.{◌≡◌, ℕ, zero, suc, Bool, true, false, List, [], ◌∷◌, map, eqb-true, eq-eqb, Some, is_some, refl, sym, ap, ◌∙◌, subst, arith}
use Rattle.std.proofs.lemmas.List.{length-map}
use Rattle.std.specs.Prelude.{slice_get, ◌==◌}
use Rattle.std.specs.List.{AllByRecursion as Each}
use Rattle.key_order.proofs.AscendingLemmas.{Ascends-map}
use Rattle.key_order.proofs.EachLemmas.{Each-map}
use Rattle.key_order.proofs.FilterLemmas.{filter-none}
use Rattle.object_log.specs.Carrying.{Placed}
use Rattle.object_log.specs.Dones.{Done}
use Rattle.object_log.specs.EventLogs.{done_key, dones_at, is_of, or_else, state_in}
use Rattle.object_log.specs.Keeping.{Keeps, OnlyLastFailed}
use Rattle.object_log.specs.Objects.{AreSound, KeptObject, state_of}
use Rattle.object_log.specs.Whole.{IsEventLog, StandsAt, dones_in, log_view, object_view}
use Rattle.object_log.proofs.OwnLemmas.{is_there}

-- an object that stands somewhere is found
found-at : (objects : List KeptObject) (place : ℕ) (o : KeptObject) → slice_get objects place ≡ Some o → is_some (state_in (map object_view objects) o.object) ≡ true
unfolding state_in
found-at [] place o at = absurd (cc)
found-at (x ∷ xs) zero o at =
    let is : x ≡ o = cc in
    ap (λ b. is_some (or_else b (state_of x) (state_in (map object_view xs) o.object))) (eq-eqb x.object o.object (ap (λ (k : KeptObject). k.object) is))
found-at (x ∷ xs) (suc place) o at = by_test (x.object == o.object) (found-at xs place o at)
  where
    by_test : (b : Bool) → is_some (state_in (map object_view xs) o.object) ≡ true → is_some (or_else b (state_of x) (state_in (map object_view xs) o.object)) ≡ true
    by_test true more = refl
    by_test false more = more

-- what is true of the number of each object is true of one that is found
of-found : (P : ℕ → Type 0) (objects : List KeptObject) (object : ℕ) → Each (λ (o : KeptObject). P o.object) objects → is_some (state_in (map object_view objects) object) ≡ true → P object
unfolding state_in
of-found P [] object all found = absurd (cc)
of-found P (o ∷ os) object all found = by_test (o.object == object) refl found (λ more. of-found P os object all.1 more)
  where
    by_test : (b : Bool) → (o.object == object) ≡ b → is_some (or_else b (state_of o) (state_in (map object_view os) object)) ≡ true
        → (is_some (state_in (map object_view os) object) ≡ true → P object) → P object
    by_test true h found rest = subst P (eqb-true o.object object h) all.0
    by_test false h found rest = rest found

module _ (objects : List KeptObject) (items : List Placed) (log : IsEventLog objects items) where
  abbrev ds : List Done
  ds = dones_in items

  stand : (ps : List Placed) → Each (λ (p : Placed). StandsAt objects p.place p.done.event.key.dest) ps → Each (λ (d : Done). is_some (state_in (map object_view objects) d.event.key.dest) ≡ true) (dones_in ps)
  stand [] all = tt
  stand (p ∷ ps) all = (ap (λ n. is_some (state_in (map object_view objects) n)) (sym all.0.2) ∙ found-at objects p.place all.0.0 all.0.1, stand ps all.1)

  none-away : (object : ℕ) → is_some (state_in (map object_view objects) object) ≡ false → dones_at object ds ≡ []
  none-away object away =
      filter-none (is_of object) ds
      (Each-map (λ (d : Done). is_some (state_in (map object_view objects) d.event.key.dest) ≡ true) (λ (d : Done). is_of object d ≡ false) ds
      (λ d here. is_there d object (λ same. let moved = ap (λ n. is_some (state_in (map object_view objects) n)) same in cc)) (stand items log.places))

  only-last : (object : ℕ) → OnlyLastFailed (dones_at object ds)
  unfolding OnlyLastFailed
  only-last object = by_test (is_some (state_in (map object_view objects) object)) refl
    where
      by_test : (b : Bool) → is_some (state_in (map object_view objects) object) ≡ b → OnlyLastFailed (dones_at object ds)
      by_test true h =
          of-found (λ n. OnlyLastFailed (dones_at n ds)) objects object
          (Each-map (λ (o : KeptObject). Keeps o.cells o.sent (dones_at o.object ds)) (λ (o : KeptObject). OnlyLastFailed (dones_at o.object ds)) objects (λ o k. k.last) log.keeps) h
      by_test false h = subst OnlyLastFailed (sym (none-away object h)) tt

  pub sound-log : AreSound (log_view objects items)
  sound-log = record {
    apart = log.apart;
    ordered = Ascends-map done_key (λ (p : Placed). p.done) items log.ordered;
    here = stand items log.places;
    last = only-last;
    few = (let long = length-map items (λ (p : Placed). p.done) in let few = log.few in omega arith);
  }
