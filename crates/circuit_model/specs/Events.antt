-- What an event does at a gate. Its kind says what it is: 5 brings a level to a pin, 6 lets a gate compute its output,
-- and 7 turns an input.
use Rattle.std.specs.Prelude.{ℕ, ◌+◌, ◌%◌, ◌==◌, ◌&&◌, nat_lt, nat_le, Bool, if◌then◌else◌, List, [], ◌∷◌, ◌++◌, length, map, slice_index, slice_set, drop}
use Rattle.std.specs.List.{list_all}
use Rattle.delta_exchange.specs.declared.change.Change.{Change}
use Rattle.delta_exchange.specs.declared.change.Change.TheVariants.{Set}
use Rattle.delta_exchange.specs.Changes.{CellData}
use Rattle.model_core.specs.declared.effect.Effect.{Effect}
use Rattle.model_core.specs.declared.event.Event.{Event}
use Rattle.model_core.specs.declared.event.Send.{Send}
use Rattle.model_core.specs.declared.note.Part.{Part}
use Rattle.model_core.specs.declared.words.TheConstants.{LEVEL_WORD}
use Rattle.circuit_model.specs.declared.gate.LogicGate.{LogicGate}
use Rattle.circuit_model.specs.declared.gate.LogicKind.{LogicKind}
use Rattle.circuit_model.specs.declared.wiring.Pin.{Pin}
use Rattle.circuit_model.specs.Gates.{gate_at, is_flip_flop, value_of, toggled, delay_of}
use Rattle.circuit_model.specs.Wiring.{fed_by}

-- word 0 is always 0, word 1 is the output, and the pins follow in their order
abbrev pub output_of : CellData → ℕ
output_of cells = slice_index cells.words 1

abbrev pub levels_of : CellData → List ℕ
levels_of cells = drop 2 cells.words

abbrev pub is_bit : ℕ → Bool
is_bit level = nat_le level 1

abbrev pub is_gate_cells : LogicGate → CellData → Bool
is_gate_cells gate cells =
    length cells.words == length gate.from + 2 && length cells.lines == 0
    && slice_index cells.words 0 == 0 && list_all is_bit (drop 1 cells.words)

-- the event brings a level to a pin that there is
abbrev pub is_level : LogicGate → Event → Bool
is_level gate event = event.kind == 5 && nat_lt event.a (length gate.from)

-- whether a pin is the clock of a flip-flop, and rises from the level before to this one
abbrev pub rises : LogicKind → ℕ → ℕ → ℕ → Bool
rises kind place before level = is_flip_flop kind && place == 1 && before == 0 && level == 1

-- the output once a pin has taken a level: a flip-flop takes its pin 0 when its clock rises
unfoldable pub output_on : LogicKind → List ℕ → ℕ → ℕ → ℕ → ℕ
output_on kind levels held place level =
    if rises kind place (slice_index levels place) level then slice_index levels 0 else value_of kind (slice_set levels place level) held

-- the output that an event leaves
unfoldable pub output_after : LogicGate → CellData → Event → ℕ
output_after gate cells event =
    if event.kind == 7 then toggled gate.kind (output_of cells)
    else if event.kind == 6 then value_of gate.kind (levels_of cells) (output_of cells)
    else if is_level gate event then output_on gate.kind (levels_of cells) (output_of cells) event.a (event.b % 2)
    else output_of cells

-- a pin takes the last bit of the level that comes
abbrev pub pin_changes : LogicGate → Event → List Change
pin_changes gate event = if is_level gate event then Set (event.a + 2) (event.b % 2) ∷ [] else []

-- an output on its way to a pin
abbrev pub level_to : ℕ → ℕ → Pin → Send
level_to delay output p = record { dest = p.gate; delay = delay; kind = 5; a = p.place; b = output; rank = 0 }

-- a gate with a probe tells its output
abbrev pub told : LogicGate → ℕ → List Part
told gate output = if gate.probe then record { word = LEVEL_WORD; a = output; b = 0 } ∷ [] else []

-- what an event does at a gate that feeds these pins: an output that differs is kept, sent to each of them, and told
abbrev pub effect_of : LogicGate → List Pin → CellData → Event → Effect
effect_of gate pins cells event =
    let output = output_after gate cells event in
    if output == output_of cells then record { changes = pin_changes gate event; sends = []; note = [] }
    else record {
      changes = pin_changes gate event ++ Set 1 output ∷ [];
      sends = map (level_to (delay_of gate) output) pins;
      note = told gate output;
    }

unfoldable pub gate_effect : List LogicGate → ℕ → CellData → Event → Effect
gate_effect gates number cells event = effect_of (gate_at gates number) (fed_by gates number) cells event
