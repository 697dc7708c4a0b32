-- The summary of the ring.
use Rattle.std.proofs.Common.{ap, ◌∙◌, subst}
use Rattle.model_core.specs.Meaning.{Meaning}
use Rattle.model_reader.specs.Readings.{ModelOf}
use Rattle.model_text.specs.ModelTexts.{model_with}
use Rattle.queue_models.specs.Meaning.{network_meaning}
use Rattle.queue_models.specs.Rings.{ring_parts}
use Rattle.sim_spec.specs.declared.terms.Terms.{Terms}
use Rattle.sim_spec.specs.State.{initial_state}
use Rattle.sim_text.specs.declared.telling.Telling.{Telling}
use Rattle.model_program.specs.Answer.{answer_from}
use Rattle.program_answers.specs.Answered.{EndsModel}
use Rattle.program_answers.proofs.EndingLemmas.{no_memory_left}
use Rattle.model_program.proofs.EndingLemmas.{run_ends}
use Rattle.btb_program.proofs.running.run_demo.Goals as goal

pub returns-in-Ok : goal.returns-in-Ok
returns-in-Ok g c =
    let with_meaning : Meaning → ModelOf = λ m. model_with m c.in-Ok.terms in
    let with_terms : Terms → ModelOf = λ t. model_with (network_meaning (ring_parts c.args.n)) t in
    let Told : ModelOf → Type 0 = λ model. EndsModel g.K.Sink c.args.out.now c.run_model.new.out c.ending_of.result (answer_from (Telling.Demo c.args.n) model (initial_state model.meaning)) in
    let asked = ap (λ n. network_meaning (ring_parts n)) c.grow_stack.ensures in
    subst Told (ap with_meaning (c.in-Ok.ensures.network ∙ asked) ∙ ap with_terms c.in-Ok.ensures.terms)
    (run_ends _ _ _ _ _ _ _ _ _ _ _ c.run_model.ensures.simulated c.run_model.ensures.handed c.ending_of.ensures c.telling_of.ensures)

pub returns-in-Err : goal.returns-in-Err
returns-in-Err g c = no_memory_left _ _ _
