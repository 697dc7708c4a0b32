-- Jobs keep their births, and are as old as is told.
use Rattle.subject_laws.proofs.JobLemmas.BirthsLaw.{births_law, ages_law, due_law}
use Rattle.subject_laws.proofs.births.law_births.Goals as goal

pub returns-clause-kept : goal.returns-clause-kept
returns-clause-kept c = births_law

pub returns-clause-ages : goal.returns-clause-ages
returns-clause-ages c = ages_law

pub returns-clause-due : goal.returns-clause-due
returns-clause-due c = due_law
