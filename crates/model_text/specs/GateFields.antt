-- The kinds of gates, each with its fields in their order, and then unknown keys.
use Rattle.std.specs.Prelude.{ℕ, pos, ◌-◌, ◌==◌, nat_le, ◌&&◌, Bool, true, not, List, [], ◌∷◌, Ok, codes, if◌then◌else◌}
use Rattle.std.specs.Str.{bytes_eq}
use Rattle.toml.specs.Data.{Data, integer, boolean, array, Members, no_items}
use Rattle.circuit_model.specs.declared.gate.LogicKind.{LogicKind}
use Rattle.circuit_model.specs.declared.gate.LogicKind.TheVariants.{Input, Buf, Not, And, Or, Xor, Nand, Nor, Dff}
use Rattle.circuit_model.specs.declared.limits.TheConstants.{MOST_DELAY, MOST_FLIPS, MOST_PINS}
use Rattle.event_key.specs.declared.stamp.TheConstants.{LAST_TICK}
use Rattle.model_text.specs.declared.named.NamedGate.{NamedGate}
use Rattle.text_fields.specs.declared.refusal.Cause.TheVariants.{BadValue}
use Rattle.text_fields.specs.Checks.{Checked, refusal, refusal_where, ◌>>=◌}
use Rattle.text_fields.specs.Fields.{number, text, truth, item_count, entries_of, array_of, required, optional, only, each}

abbrev pub logic_kind : ℕ → List ℕ → Checked LogicKind
logic_kind at word =
    if bytes_eq word (codes "input") then Ok Input
    else if bytes_eq word (codes "buf") then Ok Buf
    else if bytes_eq word (codes "not") then Ok Not
    else if bytes_eq word (codes "and") then Ok And
    else if bytes_eq word (codes "or") then Ok Or
    else if bytes_eq word (codes "xor") then Ok Xor
    else if bytes_eq word (codes "nand") then Ok Nand
    else if bytes_eq word (codes "nor") then Ok Nor
    else if bytes_eq word (codes "dff") then Ok Dff
    else refusal BadValue at

-- the kind that a table gives
abbrev pub required_kind : ℕ → Members → Checked LogicKind
required_kind at ms = required at (codes "kind") ms >>= text at >>= logic_kind at

-- how many pins a kind may have: 1 to 8, but for these four
abbrev pub takes : LogicKind → ℕ → Bool
takes Input pins = pins == 0
takes Buf pins = pins == 1
takes Not pins = pins == 1
takes And pins = nat_le 1 pins && nat_le pins MOST_PINS
takes Or pins = nat_le 1 pins && nat_le pins MOST_PINS
takes Xor pins = nat_le 1 pins && nat_le pins MOST_PINS
takes Nand pins = nat_le 1 pins && nat_le pins MOST_PINS
takes Nor pins = nat_le 1 pins && nat_le pins MOST_PINS
takes Dff pins = pins == 2

-- when an input turns, where the gates before it turn so often
unfoldable pub flips : ℕ → ℕ → Members → Checked (List ℕ)
flips before at ms = do
  ds ← array_of at (MOST_FLIPS - before) (optional (array no_items) (codes "flips") ms)
  each (number at 0 LAST_TICK) ds

-- the names of the gates that feed the pins of one of this kind
unfoldable pub feeders : LogicKind → ℕ → Data → Checked (List (List ℕ))
feeders kind at d = do
  ds ← entries_of at d
  fit ← refusal_where (not (takes kind (item_count ds))) BadValue at
  each (text at) ds

-- whether the changes of a gate are told, whose table may have no other keys than these
abbrev pub probe : ℕ → List (List ℕ) → Members → Checked Bool
probe at keys ms = truth at (optional (boolean true) (codes "probe") ms) >>= (λ probe. only at keys ms >>= (λ known. Ok probe))

unfoldable pub input : ℕ → ℕ → List ℕ → Members → Checked NamedGate
input before at name ms = do
  flips ← flips before at ms
  probe ← probe at (codes "name" ∷ codes "kind" ∷ codes "flips" ∷ codes "probe" ∷ []) ms
  Ok (record { name = name; kind = Input; delay = 0; from = []; flips = flips; probe = probe })

-- a gate that is no input
unfoldable pub fed_gate : LogicKind → ℕ → List ℕ → Members → Checked NamedGate
fed_gate kind at name ms = do
  delay ← number at 0 MOST_DELAY (optional (integer (pos 1)) (codes "delay") ms)
  from ← required at (codes "from") ms >>= feeders kind at
  probe ← probe at (codes "name" ∷ codes "kind" ∷ codes "delay" ∷ codes "from" ∷ codes "probe" ∷ []) ms
  Ok (record { name = name; kind = kind; delay = delay; from = from; flips = []; probe = probe })
