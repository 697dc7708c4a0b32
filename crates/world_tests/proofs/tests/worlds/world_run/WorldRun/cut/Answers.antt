use Rattle.std.proofs.Common.{sym, ◌∙◌}
use Rattle.cycle_core.proofs.WhereWorldStands.{state-of, stands-for}
use Rattle.world_tests.proofs.tests.worlds.world_run.WorldRun.cut.Goals as goal

pub close_cycle-requires-after_bounds : goal.close_cycle-requires-after_bounds
close_cycle-requires-after_bounds g c lifetimes outlives = state-of (g.M.Model.meaning) c.self.inside.world (sym c.is_spent.ensures ∙ c.if-is_spent.false) c.self.invariant

pub invariant_of-self : goal.invariant_of-self
invariant_of-self g c =
    let s = state-of (g.M.Model.meaning) c.self.inside.world (sym c.is_spent.ensures ∙ c.if-is_spent.false) c.self.invariant in
    stands-for (g.M.Model.meaning) c.close_cycle.new.self s.0 (c.close_cycle.ensures.stands s.0 s.1)

pub commit_cut-requires-after_bounds : goal.commit_cut-requires-after_bounds
commit_cut-requires-after_bounds g c lifetimes outlives =
    let s = state-of (g.M.Model.meaning) c.self.inside.world (sym c.is_spent.ensures ∙ c.if-is_spent.false) c.self.invariant in
    (c.close_cycle.ensures.stands s.0 s.1).has

pub invariant_of-self-2 : goal.invariant_of-self-2
invariant_of-self-2 g c =
    let s = state-of (g.M.Model.meaning) c.self.inside.world (sym c.is_spent.ensures ∙ c.if-is_spent.false) c.self.invariant in
    stands-for (g.M.Model.meaning) c.close_cycle.new.self s.0 (c.close_cycle.ensures.stands s.0 s.1)
