-- The nodes stand at the state that was given; nothing was written before they were there.
use Rattle.std.proofs.Common.{◌≡◌, false, refl, sym, subst, ◌∙◌}
use Rattle.sim_spec.specs.State.{Lawful}
use Rattle.run_tally.specs.Tallies.{no_totals}
use Rattle.sim_text.specs.declared.telling.Telling.TheVariants.{Lines}
use Rattle.sim_text.specs.Written.{HasSimulated}
use Rattle.sim_text.proofs.WrittenLemmas.{no_prefix, simulated_before}
use Rattle.model_program.proofs.run.saving.resume_at.Goals as goal

pub returns-in_err-begun : goal.returns-in_err-begun
returns-in_err-begun g c = simulated_before _ _ _ _ _ _ _ _ _ c.from_residual.ensures.1 (no_prefix _ _) refl

pub tell_nodes-requires-clause-begins : goal.tell_nodes-requires-clause-begins
tell_nodes-requires-clause-begins g c lifetimes outlives =
    let same : c.deref.result.now ≡ c.args.model = c.deref.ensures ∙ c.in_ok-begun.ensures.named in
    let IsLawful : g.row.M.Denot → Type 0 = λ x. Lawful (g.M.Model.meaning x) c.args.terms c.args.state in
    (c.args.state, record { lawful = subst IsLawful (sym same) c.requires.lawful; stands = c.in_ok-begun.ensures.begins }, λ is. absurd (let clash : ⊥ = cc in clash))

pub returns : goal.returns
returns g c =
    let same : c.deref.result.now ≡ c.args.model = c.deref.ensures ∙ c.in_ok-begun.ensures.named in
    let IsLawful : g.row.M.Denot → Type 0 = λ x. Lawful (g.M.Model.meaning x) c.args.terms c.args.state in
    let Tells : g.row.M.Denot → Type 0 = λ x. HasSimulated g.K.Sink c.args.out.now c.tell_nodes.new.out c.tell_nodes.result (g.M.Model.meaning x) c.args.terms no_totals (Lines false) c.args.state in
    subst Tells same (c.tell_nodes.ensures c.args.state (record { lawful = subst IsLawful (sym same) c.requires.lawful; stands = c.in_ok-begun.ensures.begins }) (λ is. absurd (let clash : ⊥ = cc in clash)))
