-- Both sides compute to the same.
use Rattle.std.proofs.Common.{refl}
use Rattle.circuit_model.specs.Gates.{value_of}
use Rattle.subject_laws.proofs.circuit_examples.each_kind_has_its_truth_table.Goals as goal

pub returns-clause-buf : goal.returns-clause-buf
unfolding value_of
returns-clause-buf c = refl

pub returns-clause-not : goal.returns-clause-not
unfolding value_of
returns-clause-not c = refl

pub returns-clause-and : goal.returns-clause-and
unfolding value_of
returns-clause-and c = refl

pub returns-clause-or : goal.returns-clause-or
unfolding value_of
returns-clause-or c = refl

pub returns-clause-xor : goal.returns-clause-xor
unfolding value_of
returns-clause-xor c = refl

pub returns-clause-nand : goal.returns-clause-nand
unfolding value_of
returns-clause-nand c = refl

pub returns-clause-nor : goal.returns-clause-nor
unfolding value_of
returns-clause-nor c = refl
