-- That gates make a circuit has one proof at most.
use Rattle.std.specs.Prelude.{ℕ, List}
use Rattle.circuit_model.specs.declared.gate.LogicGate.{LogicGate}
use Rattle.circuit_model.specs.declared.gate.LogicKind.{LogicKind}
use Rattle.circuit_model.specs.declared.gate.LogicKind.TheVariants.{Input, Buf, Not, And, Or, Xor, Nand, Nor, Dff}
use Rattle.circuit_model.specs.Gates.{HasPins}
use Rattle.circuit_model.specs.Parts.{HasFlips, IsCircuit}
use denote.Struct.Props.{props}

HasPins-prop : (kind : LogicKind) (pins : ℕ) → IsProp (HasPins kind pins)
HasPins-prop Input pins = hlevel props
HasPins-prop Buf pins = hlevel props
HasPins-prop Not pins = hlevel props
HasPins-prop And pins = hlevel props
HasPins-prop Or pins = hlevel props
HasPins-prop Xor pins = hlevel props
HasPins-prop Nand pins = hlevel props
HasPins-prop Nor pins = hlevel props
HasPins-prop Dff pins = hlevel props

HasFlips-prop : (kind : LogicKind) (flips : List ℕ) → IsProp (HasFlips kind flips)
HasFlips-prop Input flips = hlevel props
HasFlips-prop Buf flips = hlevel props
HasFlips-prop Not flips = hlevel props
HasFlips-prop And flips = hlevel props
HasFlips-prop Or flips = hlevel props
HasFlips-prop Xor flips = hlevel props
HasFlips-prop Nand flips = hlevel props
HasFlips-prop Nor flips = hlevel props
HasFlips-prop Dff flips = hlevel props

pub IsCircuit-prop : (gates : List LogicGate) → IsProp (IsCircuit gates)
IsCircuit-prop gates = hlevel (props, HasPins-prop, HasFlips-prop)
