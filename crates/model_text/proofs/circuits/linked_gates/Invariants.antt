use Rattle.std.proofs.Common.{◌≡◌, ◌+◌, drop, length}
use Rattle.model_text.specs.Circuits.{linked_gate, linked_gates}
use Rattle.text_fields.specs.Directories.{finder}
use Rattle.text_fields.specs.Fields.{each_of}
use Rattle.text_fields.proofs.Each.{with_front}
use Rattle.model_text.proofs.circuits.linked_gates.Given as goal

abbrev pub invariant-loop-gate : goal.invariant-loop-gate
invariant-loop-gate l =
    record {
      count : length l.linked.items ≡ length l.yielded;
      so_far : with_front l.linked.items (each_of (linked_gate (finder l.directory)) (length l.yielded + 1) (drop (length l.yielded) l.fn.gates.items))
          ≡ linked_gates (finder l.directory) l.fn.gates.items;
    }
