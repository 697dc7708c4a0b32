-- First come, first served.
use Rattle.subject_laws.proofs.QueueLemmas.OrderLaw.{first_come_first_served}
use Rattle.subject_laws.proofs.order.law_first_come_first_served.Goals as goal

pub returns : goal.returns
returns c = first_come_first_served
