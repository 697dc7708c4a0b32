-- The lists are those that were put in, or new ones, and no view shows them.
use Rattle.std.proofs.Common.{ap, sym, subst, ◌∙◌}
use Rattle.std.specs.Prelude.{IfOk, IfSome}
use Rattle.cycle_core.specs.Blank.{AreBlankLists}
use Rattle.cycle_core.proofs.world.World.take_lists.Goals.{in-Some, in-None}
use Rattle.cycle_core.proofs.world.World.take_lists.Goals as goal

pub returns-clause-blank : goal.returns-clause-blank
returns-clause-blank g c =
    let nodes = c.args.self.now.homes.nodes in
    elim c.match-take.branch [
      | in-Some w ↦
          let kept = subst (λ l. IfSome l (λ lists. AreBlankLists c.self.inside.homes.value.nodes lists.value)) (sym c.take.ensures.value ∙ w.in-Some.is) c.self.invariant.0 in
          subst (λ r. IfOk r (λ lists. AreBlankLists nodes lists.value)) (sym w.result-is) (subst (λ v. AreBlankLists v.homes.nodes w.in-Some.lists.value) c.self.view_is kept)
      | in-None w ↦
          let same = w.nodes.ensures.value ∙ ap (λ h. h.nodes) w.deref.ensures ∙ ap (λ v. v.homes.nodes) c.self.view_is in
          subst (λ r. IfOk r (λ lists. AreBlankLists nodes lists.value)) (sym w.result-is) (subst (λ n. IfOk w.boxed.result (λ lists. AreBlankLists n lists.value)) same w.boxed.ensures)
    ]

pub returns-clause-same : goal.returns-clause-same
returns-clause-same g c = c.self.view_is
