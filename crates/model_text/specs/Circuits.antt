-- The check of the body of a circuit: its array, and then two passes.
use Rattle.std.specs.Prelude.{ℕ, ◌+◌, nat_lt, Bool, List, [], length, Ok, codes, if◌then◌else◌}
use Rattle.toml.specs.Data.{Data, array, Items, Members, no_items}
use Rattle.circuit_model.specs.Gates.{is_input}
use Rattle.circuit_model.specs.Meaning.{circuit_meaning}
use Rattle.circuit_model.specs.Wiring.{fed_by}
use Rattle.circuit_model.specs.declared.gate.LogicGate.{LogicGate}
use Rattle.circuit_model.specs.declared.gate.LogicKind.{LogicKind}
use Rattle.circuit_model.specs.declared.limits.TheConstants.{MOST_FED}
use Rattle.model_core.specs.Meaning.{Meaning}
use Rattle.model_core.specs.declared.limits.TheConstants.{MOST_OBJECTS}
use Rattle.model_text.specs.declared.named.NamedGate.{NamedGate}
use Rattle.text_fields.specs.declared.refusal.Cause.TheVariants.{Limit}
use Rattle.text_fields.specs.Checks.{Checked, refusal_where, ◌>>=◌}
use Rattle.text_fields.specs.Fields.{text, table_of, array_of, required, optional, each_after, each_of, all_of}
use Rattle.model_text.specs.GateFields.{logic_kind, input, fed_gate}
use Rattle.text_fields.specs.Links.{links}
use Rattle.model_text.specs.NamedGates.{flip_count, gate_place_in}
use Rattle.text_fields.specs.Names.{Finder, new_name}

abbrev pub gate_fields : LogicKind → ℕ → ℕ → List ℕ → Members → Checked NamedGate
gate_fields kind before at name ms = if is_input kind then input before at name ms else fed_gate kind at name ms

-- a gate, where the names before it are found so, and the gates before it turn so often
unfoldable pub gate : Finder → ℕ → ℕ → Data → Checked NamedGate
gate find before at d = do
  ms ← table_of at d
  name ← required at (codes "name") ms >>= new_name find at
  kind ← required at (codes "kind") ms >>= text at >>= logic_kind at
  gate_fields kind before at name ms

-- the next gate after some, whose item is the number of those before it and 1
abbrev pub next_gate : List NamedGate → Data → Checked NamedGate
next_gate before d = gate (gate_place_in before) (flip_count before) (length before + 1) d

-- pass one
abbrev pub gates : Items → Checked (List NamedGate)
gates ds = each_after next_gate [] ds

unfoldable pub linked_gate : Finder → ℕ → NamedGate → Checked LogicGate
linked_gate find at gate =
    links find at gate.from >>= (λ from.
    Ok (record { name = gate.name; kind = gate.kind; delay = gate.delay; from = from; flips = gate.flips; probe = gate.probe }))

-- pass two
abbrev pub linked_gates : Finder → List NamedGate → Checked (List LogicGate)
linked_gates find gates = each_of (linked_gate find) 1 gates

-- whether a gate feeds too many pins
abbrev pub is_overloaded : List LogicGate → ℕ → Bool
is_overloaded gates number = nat_lt MOST_FED (length (fed_by gates number))

-- at last no gate, numbered from 0 on, feeds too many pins
abbrev pub fan_out : List LogicGate → Checked (Unit {0})
fan_out gates = all_of (λ number gate. refusal_where (is_overloaded gates number) Limit (number + 1)) 0 gates

-- pass two, after pass one
unfoldable pub linked_circuit : List NamedGate → Checked Meaning
linked_circuit named = do
  gates ← linked_gates (gate_place_in named) named
  few ← fan_out gates
  Ok (circuit_meaning gates)

unfoldable pub circuit : Members → Checked Meaning
circuit ms = do
  tables ← array_of 0 MOST_OBJECTS (optional (array no_items) (codes "gate") ms)
  named ← gates tables
  linked_circuit named
