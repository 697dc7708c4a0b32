use Rattle.std.proofs.Common.{◌≡◌, true}
use Rattle.std.proofs.lemmas.Grind.{common_steps}
use Rattle.std.proofs.Common.{arith}
use Rattle.sim_io.specs.Words.{is_number}
use Rattle.sim_io.proofs.NumberLemmas.{parsed}
use Rattle.sim_io.proofs.words.values.number_within.Goals as goal

-- `parse` reads each number of nineteen digits at most
pub returns-in_default-3-clause-value : goal.returns-in_default-3-clause-value
returns-in_default-3-clause-value c =
    let is : is_number c.args.word.now ≡ true = grind (arith, common_steps, c.is_number.ensures, c.if-not-is_number.false) in
    absurd (c.in_default.ensures.value.0 (parsed c.args.word.now is))
