-- The objects of the node are put into its log one by one.
use Rattle.std.proofs.Common.{◌≡◌, ℕ, ◌+◌, ◌<◌, List, [], ◌∷◌, ◌++◌, sym, refl, ap, subst, ◌∙◌, arith}
use Rattle.model_core.specs.Meaning.{Meaning}
use Rattle.object_log.specs.EventLogs.{ObjectView}
use Rattle.event_log.specs.NodeLogs.{NodeLogView}
use Rattle.node_core.specs.Homes.{HomesView}
use Rattle.node_core.specs.NewLogs.{AreFirst}
use Rattle.node_core.proofs.FirstLogFacts.{first-away, first-here, next-new}
use Rattle.node_core.proofs.beginning.put_first.Goals.{then-home-number+in_ok-put_object, else-home-number}
use Rattle.node_core.proofs.beginning.put_first.Goals as goal

pub home-requires : goal.home-requires
home-requires g c =
    let W : ℕ → Type 0 = λ n. c.loop-object.object < n in
    subst W (c.objects-object-end.ensures ∙ sym c.requires.known) c.loop-object-test.true

pub put_object-requires-clause-object : goal.put_object-requires-clause-object
put_object-requires-clause-object g c κs lives =
    let W : ℕ → Type 0 = λ n. c.loop-object.object < n in
    subst W c.objects-object-end.ensures c.loop-object-test.true

pub put_object-requires-clause-away : goal.put_object-requires-clause-away
put_object-requires-clause-away g c κs lives = next-new (g.M.Model.meaning c.args.model.now) c.args.homes.now c.args.number c.loop-object.object c.loop-object.log c.loop-object.places.items c.loop-object.here c.loop-object.invariant

pub loop-object-init : goal.loop-object-init
loop-object-init g c = c.requires.none

pub loop-object-preserved : goal.loop-object-preserved
loop-object-preserved g c =
    let m : Meaning = g.M.Model.meaning c.args.model.now in
    let homes : HomesView = c.args.homes.now in
    let number = c.args.number in
    let n = c.loop-object.object in
    let log : NodeLogView = c.loop-object.log in
    let places = c.loop-object.places.items in
    let here = c.loop-object.here in
    let P : List ℕ → Type 0 = λ places. AreFirst m homes number (n + 1) c.if-home-number.log places c.if-home-number.here in
    let Q : NodeLogView → Type 0 = λ log. AreFirst m homes number (n + 1) log (places ++ here ∷ []) c.if-home-number.here in
    let R : NodeLogView → ℕ → Type 0 = λ log count. AreFirst m homes number (n + 1) log (places ++ here ∷ []) count in
    subst P {x = places ++ here ∷ []} (sym c.in_ok-push.ensures.items) (elim c.if-home-number.branch [
      | then-home-number+in_ok-put_object w ↦
          let more : NodeLogView = w.put_object.new.log in
          let same = w.put_object.ensures.same in
          let o : ObjectView = record { object = n; state = record { cells = m.first n; sent = 0 } } in
          subst Q {x = more} (sym w.log-is) (subst (R more) {x = here + 1} (sym w.here-is)
          (first-here m homes number n log places here c.loop-object.invariant more o refl w.in_ok-put_object.ensures.put (ap (λ (v : NodeLogView). v.log.done) same)
          (sym c.home.ensures.home ∙ w.if-home-number.true) refl (ap (λ (v : NodeLogView). v.chained) same) (ap (λ (v : NodeLogView). v.nodes) same)))
      | else-home-number w ↦
          subst Q {x = log} (sym w.log-is) (subst (R log) {x = here} (sym w.here-is)
          (first-away m homes number n log places here c.loop-object.invariant (λ home. w.if-home-number.false (c.home.ensures.home ∙ home))))
    ])

pub returns : goal.returns
returns g c =
    let m : Meaning = g.M.Model.meaning c.args.model.now in
    let homes : HomesView = c.args.homes.now in
    let log : NodeLogView = c.loop-object.log in
    let places = c.loop-object.places.items in
    let all : c.loop-object.object ≡ m.objects = omega arith in
    let A : ℕ → Type 0 = λ n. AreFirst m homes c.args.number n log places c.loop-object.here in
    let B : ℕ → Type 0 = λ here. AreFirst m homes c.args.number m.objects log places here in
    let are = subst A all c.loop-object.invariant in
    subst B are.here_is are
