-- The numbers of a gate that was read lie within their bounds.
use Rattle.std.specs.Prelude.{ℕ, ◌^◌, ◌≤◌, true, List, length, sum_by}
use Rattle.circuit_model.specs.Gates.{HasPins}
use Rattle.circuit_model.specs.Parts.{HasFlips}
use Rattle.text_fields.specs.declared.directory.Place.{Place}
use Rattle.model_text.specs.declared.named.NamedGate.{NamedGate}
use Rattle.text_fields.specs.Names.{Finder, place_from}

pub record IsNamedGate (gate : NamedGate) : Type 0 where
  pub delay : gate.delay ≤ 2 ^ 40
  pub pins : HasPins gate.kind (length gate.from)
  pub flips : HasFlips gate.kind gate.flips

-- how often gates turn in all
abbrev pub flip_count : List NamedGate → ℕ
flip_count gates = sum_by (λ gate. length gate.flips) gates

-- each gate has a place, and gates may name it
abbrev pub gate_place : ℕ → NamedGate → Place
gate_place number gate = record { number = number; takes_links = true }

-- gates are numbered from 0 on, in their order
abbrev pub gate_place_in : List NamedGate → Finder
gate_place_in gates = place_from (λ gate. gate.name) gate_place 0 gates
