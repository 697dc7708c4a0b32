-- How many pins a gate has.
use Rattle.std.proofs.Common.{ℕ, ◌≤◌, arith}
use Rattle.circuit_model.specs.declared.gate.LogicKind.{LogicKind}
use Rattle.circuit_model.specs.declared.gate.LogicKind.TheVariants.{Input, Buf, Not, And, Or, Xor, Nand, Nor, Dff}
use Rattle.circuit_model.specs.Gates.{HasPins}

pub few_pins : (kind : LogicKind) (pins : ℕ) → HasPins kind pins → pins ≤ 8
few_pins Input pins has = omega arith
few_pins Buf pins has = omega arith
few_pins Not pins has = omega arith
few_pins And pins has = has.1
few_pins Or pins has = has.1
few_pins Xor pins has = has.1
few_pins Nand pins has = has.1
few_pins Nor pins has = has.1
few_pins Dff pins has = omega arith
