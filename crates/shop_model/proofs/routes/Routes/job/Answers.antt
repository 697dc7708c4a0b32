use Rattle.std.proofs.Common.{arith}
use Rattle.std.proofs.lemmas.Bool.Decides.{nat_tests}
use Rattle.shop_model.specs.Routes.{is_job}
use Rattle.shop_model.proofs.routes.Routes.job.Goals as goal

pub returns-clause-there : goal.returns-clause-there
unfolding is_job
returns-clause-there c =
    record { class = grind (arith, nat_tests); step = grind (arith, nat_tests); id = omega arith }
