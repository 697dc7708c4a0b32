use Rattle.std.proofs.Common.{refl}
use Rattle.own_laws.proofs.laws.law_numbers.Goals as goal

pub returns : goal.returns
returns c = record { token = refl; holds = refl; late = refl }
