use Rattle.std.proofs.Common.{ℕ, List, sym, subst}
use Rattle.cycle_core.specs.Busy.{NamesBusy}
use Rattle.node_team.proofs.ending.end_world.Goals as goal

pub end_cycle-requires-clause-busy : goal.end_cycle-requires-clause-busy
end_cycle-requires-clause-busy g c lifetimes outlives =
    let B : List ℕ → Type 0 = NamesBusy c.args.world.now.nodes in
    subst B (sym c.as_slice.ensures.value) c.requires.busy
