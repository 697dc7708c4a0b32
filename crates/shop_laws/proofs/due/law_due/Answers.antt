-- Jobs are as old as is told.
use Rattle.shop_laws.proofs.DueLaw.{ages_are_told, late_is_told}
use Rattle.shop_laws.proofs.due.law_due.Goals as goal

pub returns : goal.returns
returns c = record { ages = ages_are_told; late = late_is_told }
