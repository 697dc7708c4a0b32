use Rattle.std.proofs.Common.{ℕ, List, sym, subst}
use Rattle.cycle_core.specs.Busy.{NamesBusy}
use Rattle.cycle_core.proofs.world.World.commit_cut.Goals as goal

pub commit_cut_among-requires-clause-busy : goal.commit_cut_among-requires-clause-busy
commit_cut_among-requires-clause-busy g c lifetimes outlives =
    let B : List ℕ → Type 0 = NamesBusy c.args.self.now.nodes in
    subst B (sym c.as_slice.ensures.value) c.in_ok-busy.ensures
