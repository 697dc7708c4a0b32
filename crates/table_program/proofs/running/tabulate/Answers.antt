-- The table of the model that was read.
use Rattle.std.proofs.Common.{◌≤◌, ◌<◌, ◌^◌, ℕ, arith, sym, ap, subst}
use Rattle.program_answers.specs.declared.ending.Ending.{Ending}
use Rattle.program_answers.specs.declared.status.TheConstants.{EVENT_LIMIT}
use Rattle.program_answers.specs.Answered.{EndsModel}
use Rattle.program_answers.specs.Endings.{status_of_ending, ending_of}
use Rattle.replications.specs.Studies.{StudyOf}
use Rattle.table_program.specs.Families.{family_read}
use Rattle.table_program.specs.TableAnswers.{answer_to_study, study_asked}
use Rattle.table_program.proofs.AnswerLemmas.{first_seed-below, known_outcome, table_ends}
use Rattle.table_program.proofs.running.tabulate.Goals as goal

pub write_table-outcome-requires-clause-first_seed : goal.write_table-outcome-requires-clause-first_seed
write_table-outcome-requires-clause-first_seed g c κs within =
    subst (λ n. n < 2 ^ 63) (sym c.unwrap_or.ensures)
    (first_seed-below c.args.asked.first_seed c.args.family.seed c.requires.bounds.first_seed c.requires.seed)

pub write_table-outcome-requires-clause-count : goal.write_table-outcome-requires-clause-count
write_table-outcome-requires-clause-count g c κs within = omega (arith, c.requires.bounds.count.1)

pub returns-clause-ends : goal.returns-clause-ends
returns-clause-ends g c =
    let told = c.write_table-outcome.ensures in
    let family = family_read g.T.Models.Seeds.seeded g.T.Models.Seeds.rows c.args.family in
    let study : ℕ → StudyOf = λ first_seed. record (study_asked c.args.head.now c.args.asked family) { first_seed = first_seed } in
    let Ends : ℕ → Type 0 =
    λ first_seed. EndsModel g.K.Sink c.args.out.now c.write_table-outcome.new.out (ending_of c.write_table-outcome.result)
    (answer_to_study (study first_seed) c.args.asked.count) in
    subst (λ (e : Ending). EndsModel g.K.Sink c.args.out.now c.write_table-outcome.new.out e (answer_to_study (study_asked c.args.head.now c.args.asked family) c.args.asked.count)) (sym c.ending_of.ensures)
    (subst Ends c.unwrap_or.ensures
    (table_ends _ _ _ _ _ c.write_table-outcome.result told.text.whole told.handed told.handed_so_far told.stops told.text.prefix told.faults.fault told.faults.quiet
    told.faults.no_memory))

pub returns-clause-known : goal.returns-clause-known
returns-clause-known g c =
    subst (λ (e : Ending). status_of_ending e ≤ EVENT_LIMIT) (sym c.ending_of.ensures) (known_outcome c.write_table-outcome.result)
