-- The nodes stand at the start of the model that was given; nothing was written before they were there.
use Rattle.std.proofs.Common.{◌≡◌, None, refl, sym, subst, ◌∙◌}
use Rattle.sim_spec.specs.Standing.{stands}
use Rattle.sim_spec.specs.State.{initial_state, Lawful}
use Rattle.sim_text.specs.Written.{HasSimulated}
use Rattle.sim_text.proofs.WrittenLemmas.{no_prefix, simulated_before}
use Rattle.model_program.specs.RunStandings.{TeamStandsAt}
use Rattle.model_program.proofs.run.running.run_on_nodes.Goals as goal

pub returns-in_err-begun : goal.returns-in_err-begun
returns-in_err-begun g c = simulated_before _ _ _ _ _ _ _ _ _ c.from_residual.ensures.1 (no_prefix _ _) refl

pub tell_nodes-requires-clause-begins : goal.tell_nodes-requires-clause-begins
tell_nodes-requires-clause-begins g c lifetimes outlives =
    let one = c.deref.result.now in
    let same : one ≡ c.args.model = c.deref.ensures ∙ c.in_ok-begun.ensures.named in
    let Begins : g.row.M.Denot → Type 0 = λ x. TeamStandsAt g.M.Model.meaning c.in_ok-begun.begun.run (stands (initial_state (g.M.Model.meaning x)) None) in
    let IsLawful : g.row.M.Denot → Type 0 = λ x. Lawful (g.M.Model.meaning x) c.args.terms (initial_state (g.M.Model.meaning x)) in
    (initial_state (g.M.Model.meaning one), record { lawful = subst IsLawful (sym same) c.in_ok-begun.ensures.lawful; stands = subst Begins (sym same) c.in_ok-begun.ensures.begins }, λ is. refl)

pub returns : goal.returns
returns g c =
    let one = c.deref.result.now in
    let same : one ≡ c.args.model = c.deref.ensures ∙ c.in_ok-begun.ensures.named in
    let Begins : g.row.M.Denot → Type 0 = λ x. TeamStandsAt g.M.Model.meaning c.in_ok-begun.begun.run (stands (initial_state (g.M.Model.meaning x)) None) in
    let IsLawful : g.row.M.Denot → Type 0 = λ x. Lawful (g.M.Model.meaning x) c.args.terms (initial_state (g.M.Model.meaning x)) in
    let Tells : g.row.M.Denot → Type 0 =
    λ x. HasSimulated g.K.Sink c.args.out.now c.tell_nodes.new.out c.tell_nodes.result (g.M.Model.meaning x) c.args.terms (g.L.Tally.lines x c.args.terms) c.args.telling (initial_state (g.M.Model.meaning x)) in
    subst Tells same
    (c.tell_nodes.ensures (initial_state (g.M.Model.meaning one))
    (record { lawful = subst IsLawful (sym same) c.in_ok-begun.ensures.lawful; stands = subst Begins (sym same) c.in_ok-begun.ensures.begins }) (λ is. refl))
