use Rattle.std.proofs.Common.{sym, ◌∙◌, subst}
use Rattle.cycle_core.specs.Standings.{GoesOn}
use Rattle.world_tests.proofs.tests.worlds.world_run.WorldRun.next.Goals as goal

pub cycle-requires-after_bounds : goal.cycle-requires-after_bounds
cycle-requires-after_bounds g c lifetimes outlives =
    let at = c.self.invariant.0 in
    let there = c.self.invariant.1 in
    subst (GoesOn (g.M.Model.meaning)) c.self.view_is (record { at = at; stands = there; more = sym (c.ended.ensures at there) ∙ c.in-None.is })
