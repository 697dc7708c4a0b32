-- The run stands at the start of the model that was given; nothing was written before it was there.
use Rattle.std.proofs.Common.{◌≡◌, None, refl, sym, subst, ◌∙◌}
use Rattle.sim_spec.specs.Standing.{stands}
use Rattle.sim_spec.specs.State.{initial_state}
use Rattle.sim_text.specs.Written.{HasSimulated}
use Rattle.sim_text.proofs.WrittenLemmas.{no_prefix, simulated_before}
use Rattle.model_program.specs.RunStandings.{OneStandsAt}
use Rattle.model_program.proofs.run.running.run_one_thread.Goals as goal

pub returns-in_err-begun : goal.returns-in_err-begun
returns-in_err-begun g c = simulated_before _ _ _ _ _ _ _ _ _ c.from_residual.ensures.1 (no_prefix _ _) refl

pub tell_one_thread-requires-clause-begins : goal.tell_one_thread-requires-clause-begins
tell_one_thread-requires-clause-begins g c lifetimes outlives =
    let same : c.deref.result.now ≡ c.args.model = c.deref.ensures ∙ c.in_ok-begun.ensures.named in
    let Begins : g.row.M.Denot → Type 0 = λ x. OneStandsAt g.M.Model.meaning c.in_ok-begun.begun.run (stands (initial_state (g.M.Model.meaning x)) None) in
    subst Begins (sym same) c.in_ok-begun.ensures.begins

pub returns : goal.returns
returns g c =
    let same : c.deref.result.now ≡ c.args.model = c.deref.ensures ∙ c.in_ok-begun.ensures.named in
    let Tells : g.row.M.Denot → Type 0 =
    λ x. HasSimulated g.K.Sink c.args.out.now c.tell_one_thread.new.out c.tell_one_thread.result (g.M.Model.meaning x) c.args.terms (g.L.Tally.lines x c.args.terms) c.args.telling (initial_state (g.M.Model.meaning x)) in
    subst Tells same c.tell_one_thread.ensures
