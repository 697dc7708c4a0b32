-- Gates, and the values that they compute.
use Rattle.std.specs.Prelude.{◌≡◌, ℕ, ◌-◌, ◌≤◌, ◌%◌, ◌==◌, Bool, true, false, if◌then◌else◌, List, [], length, slice_index, slice_index_or, All}
use Rattle.std.specs.List.{filter, list_all, list_any}
use Rattle.circuit_model.specs.declared.limits.TheConstants.{MOST_PINS}
use Rattle.circuit_model.specs.declared.gate.LogicGate.{LogicGate}
use Rattle.circuit_model.specs.declared.gate.LogicKind.{LogicKind}
use Rattle.circuit_model.specs.declared.gate.LogicKind.TheVariants.{Input, Buf, Not, And, Or, Xor, Nand, Nor, Dff}

abbrev pub is_input : LogicKind → Bool
is_input Input = true
is_input Buf = false
is_input Not = false
is_input And = false
is_input Or = false
is_input Xor = false
is_input Nand = false
is_input Nor = false
is_input Dff = false

abbrev pub is_flip_flop : LogicKind → Bool
is_flip_flop Input = false
is_flip_flop Buf = false
is_flip_flop Not = false
is_flip_flop And = false
is_flip_flop Or = false
is_flip_flop Xor = false
is_flip_flop Nand = false
is_flip_flop Nor = false
is_flip_flop Dff = true

-- levels are 0 or 1
abbrev pub AreBits : List ℕ → Type 0
AreBits levels = All (λ level. level ≤ 1) levels

abbrev pub bit : Bool → ℕ
bit b = if b then 1 else 0

abbrev pub is_one : ℕ → Bool
is_one level = level == 1

abbrev pub ones_in : List ℕ → ℕ
ones_in levels = length (filter is_one levels)

-- the output that the pins give: an input and a flip-flop keep the one that they hold
unfoldable pub value_of : LogicKind → List ℕ → ℕ → ℕ
value_of Input pins held = held
value_of Buf pins held = slice_index pins 0
value_of Not pins held = 1 - slice_index pins 0
value_of And pins held = bit (list_all is_one pins)
value_of Or pins held = bit (list_any is_one pins)
value_of Xor pins held = ones_in pins % 2
value_of Nand pins held = 1 - bit (list_all is_one pins)
value_of Nor pins held = 1 - bit (list_any is_one pins)
value_of Dff pins held = held

-- the output after a turn, which turns inputs alone
abbrev pub toggled : LogicKind → ℕ → ℕ
toggled kind held = if is_input kind then 1 - held else held

-- an output takes the gate's delay to the pins that it feeds, and that of an input no time
abbrev pub delay_of : LogicGate → ℕ
delay_of gate = if is_input gate.kind then 0 else gate.delay

-- how many pins a kind may have
abbrev pub HasPins : LogicKind → ℕ → Type 0
HasPins Input pins = pins ≡ 0
HasPins Buf pins = pins ≡ 1
HasPins Not pins = pins ≡ 1
HasPins And pins = (1 ≤ pins) × (pins ≤ MOST_PINS)
HasPins Or pins = (1 ≤ pins) × (pins ≤ MOST_PINS)
HasPins Xor pins = (1 ≤ pins) × (pins ≤ MOST_PINS)
HasPins Nand pins = (1 ≤ pins) × (pins ≤ MOST_PINS)
HasPins Nor pins = (1 ≤ pins) × (pins ≤ MOST_PINS)
HasPins Dff pins = pins ≡ 2

-- what stands for a gate where there is none
abbrev pub no_gate : LogicGate
no_gate = record { name = []; kind = Input; delay = 0; from = []; flips = []; probe = false }

-- gates are numbered from 0 on, in their order
abbrev pub gate_at : List LogicGate → ℕ → LogicGate
gate_at gates number = slice_index_or gates number no_gate
