-- The nodes stand at the state after the first cycles, and that is what is taken out of them.
use Rattle.std.proofs.Common.{Ok}
use Rattle.sim_spec.specs.Cycles.{cycles_for}
use Rattle.sim_spec.specs.State.{initial_state}
use Rattle.cycle_core.specs.Standings.{WorldStandsAt}
use Rattle.sim_io.proofs.TransferLemmas.{all_prefix}
use Rattle.model_program.proofs.HandedLemmas.{saved_before, saved_short, saved_so}
use Rattle.model_program.proofs.run.saving.save_first.Goals as goal

pub returns-in_err-simulate_first : goal.returns-in_err-simulate_first
returns-in_err-simulate_first g c =
    saved_short _ _ _ _ _ _ _ _ c.from_residual.ensures.1
    (c.in_err-simulate_first.ensures.written (initial_state (g.M.Model.meaning c.args.model.now)) (record { lawful = c.law_initial.ensures; stands = c.requires.begins }))

pub snapshot-requires-after_bounds : goal.snapshot-requires-after_bounds
unfolding WorldStandsAt
snapshot-requires-after_bounds g c κs outlives =
    let m = g.M.Model.meaning c.args.model.now in
    let stands = c.in_ok-simulate_first.ensures.state (initial_state m) (record { lawful = c.law_initial.ensures; stands = c.requires.begins }) in
    ((cycles_for c.args.cycles m c.args.terms.now (initial_state m)).last, stands.1.0.0)

pub returns-in_err-snapshot : goal.returns-in_err-snapshot
returns-in_err-snapshot g c =
    let all = c.in_ok-simulate_first.ensures.written (initial_state (g.M.Model.meaning c.args.model.now)) (record { lawful = c.law_initial.ensures; stands = c.requires.begins }) in
    saved_before _ _ _ _ _ _ _ c.from_residual-in_err-snapshot.ensures.1 (all_prefix _ _ _ all.text.whole) all.faults.quiet

pub returns : goal.returns
unfolding WorldStandsAt
returns g c =
    let start = initial_state (g.M.Model.meaning c.args.model.now) in
    let all = c.in_ok-simulate_first.ensures.written start (record { lawful = c.law_initial.ensures; stands = c.requires.begins }) in
    let stands = c.in_ok-simulate_first.ensures.state start (record { lawful = c.law_initial.ensures; stands = c.requires.begins }) in
    saved_so _ _ _ _ _ _ tt _ all (c.in_ok-snapshot.ensures.state _ stands.1.0.0)
