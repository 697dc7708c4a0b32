use Rattle.std.proofs.Common.{◌≡◌, ◌≤◌, drop, length}
use Rattle.std.specs.Prelude.{All}
use Rattle.toml.specs.View.{items_view}
use Rattle.model_text.specs.Circuits.{next_gate, gates}
use Rattle.text_fields.specs.Directories.{finder}
use Rattle.text_fields.specs.Fields.{each_after}
use Rattle.model_text.specs.NamedGates.{IsNamedGate, flip_count, gate_place_in}
use Rattle.model_text.proofs.gates.gates.Given as goal

abbrev pub invariant-loop-value : goal.invariant-loop-value
invariant-loop-value l =
    record {
      count : length l.gates.items ≡ l.value-index;
      found : finder l.directory ≡ gate_place_in l.gates.items;
      in_range : All IsNamedGate l.gates.items;
      flips : l.flips ≡ flip_count l.gates.items;
      few_flips : l.flips ≤ 300000;
      so_far : each_after next_gate l.gates.items (items_view (drop l.value-index l.values)) ≡ gates (items_view l.values);
    }
