use Rattle.std.proofs.Common.{arith}
use Rattle.std.proofs.lemmas.Bool.Decides.{nat_tests}
use Rattle.circuit_model.specs.Ones.{list_all-is_one, list_any-is_one}
use Rattle.circuit_model.specs.Gates.{value_of}
use Rattle.circuit_model.proofs.gate.LogicKind.value.Goals as goal

pub returns-in-And : goal.returns-in-And
unfolding value_of
returns-in-And c levels bits size ones = grind (arith, nat_tests, list_all-is_one levels, c.from.ensures, c.in-And.is)

pub returns-in-Or : goal.returns-in-Or
unfolding value_of
returns-in-Or c levels bits size ones = grind (arith, nat_tests, list_any-is_one levels, c.from-in-Or.ensures, c.in-Or.is)

pub returns-in-Nand : goal.returns-in-Nand
unfolding value_of
returns-in-Nand c levels bits size ones = grind (arith, nat_tests, list_all-is_one levels, c.from-in-Nand.ensures, c.in-Nand.is)

pub returns-in-Nor : goal.returns-in-Nor
unfolding value_of
returns-in-Nor c levels bits size ones = grind (arith, nat_tests, list_any-is_one levels, c.from-in-Nor.ensures, c.in-Nor.is)
