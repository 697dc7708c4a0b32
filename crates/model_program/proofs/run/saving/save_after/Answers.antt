-- The nodes stand at the start of the model that was given; nothing was written before they were there.
use Rattle.std.proofs.Common.{◌≡◌, None, refl, sym, subst, ◌∙◌}
use Rattle.sim_spec.specs.Standing.{stands}
use Rattle.sim_spec.specs.State.{initial_state}
use Rattle.sim_text.proofs.WrittenLemmas.{no_prefix}
use Rattle.model_program.specs.RunStandings.{TeamStandsAt}
use Rattle.model_program.specs.Saved.{HasSaved}
use Rattle.model_program.proofs.HandedLemmas.{saved_before}
use Rattle.model_program.proofs.run.saving.save_after.Goals as goal

pub returns-in_err-begun : goal.returns-in_err-begun
returns-in_err-begun g c = saved_before _ _ _ _ _ _ _ c.from_residual.ensures.1 (no_prefix _ _) refl

pub save_first-requires-clause-begins : goal.save_first-requires-clause-begins
save_first-requires-clause-begins g c lifetimes outlives =
    let same : c.deref.result.now ≡ c.args.model = c.deref.ensures ∙ c.in_ok-begun.ensures.named in
    let Begins : g.row.M.Denot → Type 0 = λ x. TeamStandsAt g.M.Model.meaning c.in_ok-begun.begun.run (stands (initial_state (g.M.Model.meaning x)) None) in
    subst Begins (sym same) c.in_ok-begun.ensures.begins

pub returns : goal.returns
returns g c =
    let same : c.deref.result.now ≡ c.args.model = c.deref.ensures ∙ c.in_ok-begun.ensures.named in
    let Saves : g.row.M.Denot → Type 0 = λ x. HasSaved g.K.Sink c.args.out.now c.save_first.new.out c.save_first.result (g.M.Model.meaning x) c.args.terms c.args.cycles in
    subst Saves same c.save_first.ensures
