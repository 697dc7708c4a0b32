-- Move by move the world stands for the same state.
use Rattle.std.proofs.Common.{◌≡◌, [], ℕ, List, refl, sym, ap, ◌∙◌, subst, arith}
use Rattle.std.specs.Arc.{arc_value}
use Rattle.std.proofs.lemmas.List.{nil_from_length, with_items_is}
use Rattle.sim_spec.specs.State.{State}
use Rattle.node_core.specs.Homes.{HomesView}
use Rattle.node_core.specs.Nodes.{NodeView}
use Rattle.cycle_core.specs.Moving.{processed_in}
use Rattle.cycle_core.specs.Worlds.{AreNodesOf, StandsAt, WorldView}
use Rattle.object_moves.specs.declared.step.Step.{Step}
use Rattle.object_moves.specs.Moves.{homes_after}
use Rattle.object_moves.specs.Steps.{AreSteps, IsStep}
use Rattle.object_moves.proofs.PreparingLemmas.{at-same, steps-first, steps-last}
use Rattle.object_moves.proofs.moving.move_objects.Given.{Over}
use Rattle.object_moves.proofs.moving.move_objects.Goals as goal
use Rattle.object_moves.proofs.moving.move_objects.Goals.{In-Some}

-- the step that is taken, and those that are left
taken : (g : Over) (c : In-Some g) → IsStep (processed_in c.args.world.now.nodes) c.loop-step.world.homes c.in-Some.step
    × AreSteps (processed_in c.args.world.now.nodes) c.in-Some.step.copies.homes c.next.new.self.rest.items (homes_after c.args.world.now.homes c.args.moves.now)
taken g c =
    let all = processed_in c.args.world.now.nodes in
    let end = homes_after c.args.world.now.homes c.args.moves.now in
    let A : List Step → Type 0 = λ ps. AreSteps all c.loop-step.world.homes ps end in
    steps-first all c.loop-step.world.homes end c.in-Some.step c.next.new.self.rest.items (subst A c.in-Some.ensures.steps.0 c.loop-step.invariant.steps)

pub make-requires-after_bounds : goal.make-requires-after_bounds
make-requires-after_bounds g c κs within =
    let first = taken g (goal.at.make-requires-after_bounds g c).In-Some in
    let world = c.args.world.now in
    let inv = c.loop-step.invariant in
    let homes = c.loop-step.world.homes in
    let slice = c.as_mut_slice.result.now in
    let S : List (NodeView g.row.M.Denot) → Type 0 = λ ns. StandsAt (g.M.Model.meaning world.model) (record world { nodes = ns; homes = homes }) c.requires.stands.0 in
    let I : ℕ → Type 0 = λ n. IsStep n homes c.in-Some.step in
    record {
      world = record world { nodes = slice; homes = homes };
      state = c.requires.stands.0;
      nodes_are = refl;
      stands = subst S (sym c.as_mut_slice.ensures.value) (inv.stands c.requires.stands.0 c.requires.stands.1);
      step = subst I (sym inv.processed ∙ ap processed_in (sym c.as_mut_slice.ensures.value)) first.0;
    }

pub set_homes-requires-clause-nodes : goal.set_homes-requires-clause-nodes
set_homes-requires-clause-nodes g c κs within = ap (λ (h : HomesView). h.nodes) (c.make.ensures.homes ∙ (taken g (goal.at.set_homes-requires-clause-nodes g c).In-Some).0.after)

pub loop-step-preserved : goal.loop-step-preserved
loop-step-preserved g c =
    let first = taken g (goal.at.loop-step-preserved g c).In-Some in
    let world = c.args.world.now in
    let inv = c.loop-step.invariant in
    let homes = c.loop-step.world.homes in
    let p = c.in-Some.step in
    let slice = c.as_mut_slice.result.now in
    let news = c.make.new.nodes in
    let S : List (NodeView g.row.M.Denot) → State → Type 0 = λ ns s. StandsAt (g.M.Model.meaning world.model) (record world { nodes = ns; homes = homes }) s in
    let I : ℕ → Type 0 = λ n. IsStep n homes p in
    let step = subst I (sym inv.processed ∙ ap processed_in (sym c.as_mut_slice.ensures.value)) first.0 in
    let before : WorldView g.row.M.Denot = record world { nodes = slice; homes = homes } in
    let kept = λ (s : State) (there : StandsAt (g.M.Model.meaning world.model) world s).
    c.make.ensures.stands before s refl step (subst (λ ns. S ns s) (sym c.as_mut_slice.ensures.value) (inv.stands s there)) in
    let some = kept c.requires.stands.0 c.requires.stands.1 in
    let was = inv.stands c.requires.stands.0 c.requires.stands.1 in
    let one = some.has.nodes.many in let two = was.has.nodes.many in let three = ap (λ (h : HomesView). h.nodes) first.0.after in
    let four = c.loop-step.nodes.ok.0 in
    let whole = with_items_is c.loop-step.nodes news (omega arith) in
    let at : c.set_homes.new.self.homes ≡ p.copies.homes = ap (λ (v : WorldView g.row.M.Denot). v.homes) c.set_homes.ensures ∙ c.make.ensures.homes in
    let R : HomesView → Type 0 = λ h. AreSteps (processed_in world.nodes) h c.next.new.self.rest.items (homes_after world.homes c.args.moves.now) in
    record {
      world = c.set_homes.ensures ∙ ap (λ (v : WorldView g.row.M.Denot). record v { homes = arc_value c.make.result }) inv.world
          ∙ ap (λ (h : HomesView). record world { nodes = []; homes = h }) (ap (λ (v : WorldView g.row.M.Denot). v.homes) (sym c.set_homes.ensures));
      nodes = ap (λ (h : HomesView). h.nodes) (at ∙ first.0.after) ∙ inv.nodes;
      stands = λ s there.
          let H : HomesView → Type 0 = λ h. StandsAt (g.M.Model.meaning world.model) (record world { nodes = news; homes = h }) s in
          let N : List (NodeView g.row.M.Denot) → Type 0 = λ ns. StandsAt (g.M.Model.meaning world.model) (record world { nodes = ns; homes = c.set_homes.new.self.homes }) s in
          subst N (sym whole) (subst H (sym at) (kept s there));
      steps = subst R (sym at) first.1;
      processed = ap processed_in whole ∙ c.make.ensures.processed ∙ ap processed_in c.as_mut_slice.ensures.value ∙ inv.processed;
    }

pub put_nodes-requires-clause-nodes : goal.put_nodes-requires-clause-nodes
put_nodes-requires-clause-nodes g c κs within =
    let inv = c.loop-step.invariant in
    let P : WorldView g.row.M.Denot → Type 0 = λ v. AreNodesOf v.model v.terms c.loop-step.world.homes c.loop-step.nodes.items in
    subst P (sym inv.world) (inv.stands c.requires.stands.0 c.requires.stands.1).has.nodes

pub returns-clause-at : goal.returns-clause-at
returns-clause-at g c =
    let world = c.args.world.now in
    let inv = c.loop-step.invariant in
    let new = c.put_nodes.new.self in
    let is : new ≡ record world { nodes = c.loop-step.nodes.items; homes = c.loop-step.world.homes } =
    c.put_nodes.ensures.world ∙ ap (λ (v : WorldView g.row.M.Denot). record v { nodes = c.loop-step.nodes.items }) inv.world in
    at-same g.M.Model.meaning world new (ap (λ (v : WorldView g.row.M.Denot). v.fault) is) (ap (λ (v : WorldView g.row.M.Denot). v.is_spent) is)
    (λ s there. let P : WorldView g.row.M.Denot → Type 0 = λ v. StandsAt (g.M.Model.meaning v.model) v s in subst P (sym is) (inv.stands s there))

pub returns-clause-homes : goal.returns-clause-homes
returns-clause-homes g c =
    let world = c.args.world.now in
    let all = processed_in world.nodes in
    let end = homes_after world.homes c.args.moves.now in
    ap (λ (v : WorldView g.row.M.Denot). v.homes) c.put_nodes.ensures.world
    ∙ steps-last all c.loop-step.world.homes end c.loop-step.step-iterator.rest.items
    (nil_from_length c.loop-step.step-iterator.rest.items (let none = c.in-None.ensures.steps.0 in let long = c.loop-step.step-iterator.rest.ok.0 in omega arith)) c.loop-step.invariant.steps

pub loop-step-init : goal.loop-step-init
loop-step-init g c =
    let world = c.args.world.now in
    let taken = c.take_nodes-nodes.ensures.world in
    let items = c.take_nodes-nodes.ensures.nodes in
    let homes = ap (λ (v : WorldView g.row.M.Denot). v.homes) taken in
    let bare : HomesView → WorldView g.row.M.Denot = λ h. record world { nodes = []; homes = h } in
    let R : HomesView → Type 0 = λ h. AreSteps (processed_in world.nodes) h c.in_ok-steps.steps.items (homes_after world.homes c.args.moves.now) in
    let L : List Step → Type 0 = λ l. AreSteps (processed_in world.nodes) c.take_nodes-nodes.new.self.homes l (homes_after world.homes c.args.moves.now) in
    record {
      world = taken ∙ ap bare (sym homes);
      nodes = ap (λ (h : HomesView). h.nodes) homes;
      stands = λ s there.
          let N : List (NodeView g.row.M.Denot) → Type 0 = λ ns. StandsAt (g.M.Model.meaning world.model) (record world { nodes = ns; homes = c.take_nodes-nodes.new.self.homes }) s in
          let H : HomesView → Type 0 = λ h. StandsAt (g.M.Model.meaning world.model) (record world { nodes = world.nodes; homes = h }) s in
          subst N (sym items) (subst H (sym homes) there);
      steps = subst L (sym c.into_iter-step-iterator.ensures.into_iter_gives.0) (subst R (sym homes) c.in_ok-steps.ensures);
      processed = ap processed_in items;
    }

pub set_homes-requires-clause-taken : goal.set_homes-requires-clause-taken
set_homes-requires-clause-taken g c κs within = ap (λ (v : WorldView g.row.M.Denot). v.nodes) c.loop-step.invariant.world

pub put_nodes-requires-clause-none : goal.put_nodes-requires-clause-none
put_nodes-requires-clause-none g c κs within = ap (λ (v : WorldView g.row.M.Denot). v.nodes) c.loop-step.invariant.world

pub returns-clause-stands : goal.returns-clause-stands
returns-clause-stands g c s there =
    let world = c.args.world.now in
    let inv = c.loop-step.invariant in
    let is : c.put_nodes.new.self ≡ record world { nodes = c.loop-step.nodes.items; homes = c.loop-step.world.homes } =
    c.put_nodes.ensures.world ∙ ap (λ (v : WorldView g.row.M.Denot). record v { nodes = c.loop-step.nodes.items }) inv.world in
    let P : WorldView g.row.M.Denot → Type 0 = λ v. StandsAt (g.M.Model.meaning v.model) v s in
    subst P (sym is) (inv.stands s there)

pub returns-clause-same : goal.returns-clause-same
returns-clause-same g c =
    let world = c.args.world.now in
    let inv = c.loop-step.invariant in
    let is : c.put_nodes.new.self ≡ record world { nodes = c.loop-step.nodes.items; homes = c.loop-step.world.homes } =
    c.put_nodes.ensures.world ∙ ap (λ (v : WorldView g.row.M.Denot). record v { nodes = c.loop-step.nodes.items }) inv.world in
    record {
      model = ap (λ (v : WorldView g.row.M.Denot). v.model) is;
      terms = ap (λ (v : WorldView g.row.M.Denot). v.terms) is;
      nodes = ap (λ (v : WorldView g.row.M.Denot). v.homes.nodes) is ∙ inv.nodes;
      count = ap (λ (v : WorldView g.row.M.Denot). v.count) is;
      fault = ap (λ (v : WorldView g.row.M.Denot). v.fault) is;
      is_spent = ap (λ (v : WorldView g.row.M.Denot). v.is_spent) is;
    }
