-- What an event leaves of a gate's cells.
use Rattle.std.proofs.Common.{◌≡◌, ◌≢◌, ℕ, ◌+◌, ◌<◌, ◌%◌, Bool, true, false, List, [], ◌∷◌, ◌++◌, length, map, drop, refl, sym, ap, ◌∙◌, subst, arith, get_or-set_other, get_or-set_same}
use Rattle.std.specs.Prelude.{◌==◌, ◌&&◌, nat_lt, if◌then◌else◌, slice_index, slice_set}
use Rattle.std.proofs.Math.ListN.{length-set}
use Rattle.std.proofs.lemmas.Bool.Decides.{nat_tests}
use Rattle.std.proofs.lemmas.List.{drop-set-add, drop-set-lt}
use Rattle.delta_exchange.specs.declared.change.Change.TheVariants.{Set}
use Rattle.delta_exchange.specs.Changes.{CellData, cells_after_all}
use Rattle.delta_exchange.proofs.Lists.{cells_after_all_append}
use Rattle.model_core.specs.declared.effect.Effect.{Effect}
use Rattle.model_core.specs.declared.event.Event.{Event}
use Rattle.model_core.specs.declared.event.Send.{Send}
use Rattle.circuit_model.specs.declared.gate.LogicGate.{LogicGate}
use Rattle.circuit_model.specs.declared.gate.LogicKind.{LogicKind}
use Rattle.circuit_model.specs.declared.gate.LogicKind.TheVariants.{Input, Buf, Not, And, Or, Xor, Nand, Nor, Dff}
use Rattle.circuit_model.specs.Events.{output_of, levels_of, is_level, output_on, output_after, pin_changes, level_to, told, gate_effect}
use Rattle.circuit_model.specs.Gates.{gate_at, value_of, toggled, delay_of}
use Rattle.circuit_model.specs.LawfulCells.{AreGateCells, length-levels_of}
use Rattle.circuit_model.specs.Wiring.{fed_by}
use Rattle.subject_laws.specs.Settled.{is_for}

-- the pins after an event
abbrev pub levels_after : LogicGate → CellData → Event → List ℕ
levels_after gate cells event = if is_level gate event then slice_set (levels_of cells) event.a (event.b % 2) else levels_of cells

-- the cells have this output and these pins
pub record Leaves (cells : CellData) (out : ℕ) (pins : List ℕ) : Type 0 where
  pub output : output_of cells ≡ out
  pub levels : levels_of cells ≡ pins

pin_leaves : (gate : LogicGate) (cells : CellData) (event : Event) → Leaves (cells_after_all (pin_changes gate event) cells) (output_of cells) (levels_after gate cells event)
unfolding cells_after_all
pin_leaves gate cells event = by (is_level gate event)
  where
    by : (takes : Bool) → Leaves (cells_after_all (if takes then Set (event.a + 2) (event.b % 2) ∷ [] else []) cells) (output_of cells)
        (if takes then slice_set (levels_of cells) event.a (event.b % 2) else levels_of cells)
    by true =
        let turned : event.a + 2 ≡ 2 + event.a = omega arith in record {
          output = get_or-set_other cells.words (event.a + 2) 1 (event.b % 2) 0 (omega arith);
          levels = ap (λ n. drop 2 (slice_set cells.words n (event.b % 2))) turned ∙ drop-set-add 2 cells.words event.a (event.b % 2);
        }
    by false = record { output = refl; levels = refl }

length-words : (gate : LogicGate) (cells : CellData) (event : Event) → length (cells_after_all (pin_changes gate event) cells).words ≡ length cells.words
unfolding cells_after_all
length-words gate cells event = by (is_level gate event)
  where
    by : (takes : Bool) → length (cells_after_all (if takes then Set (event.a + 2) (event.b % 2) ∷ [] else []) cells).words ≡ length cells.words
    by true = length-set _ _ _
    by false = refl

output_leaves : (cells : CellData) (output held : ℕ) (levels : List ℕ) → 1 < length cells.words → Leaves cells held levels
    → Leaves (cells_after_all (Set 1 output ∷ []) cells) output levels
unfolding cells_after_all
output_leaves cells output held levels room here = record {
  output = get_or-set_same cells.words 1 output 0 room;
  levels = drop-set-lt 2 cells.words 1 output (omega arith) ∙ here.levels;
}

-- what an event does at a gate whose output it leaves, or makes another
abbrev effect_by : List LogicGate → ℕ → CellData → Event → Bool → Effect
effect_by gates number cells event same =
    let gate = gate_at gates number in
    let output = output_after gate cells event in
    if same then record { changes = pin_changes gate event; sends = []; note = [] }
    else record {
      changes = pin_changes gate event ++ Set 1 output ∷ [];
      sends = map (level_to (delay_of gate) output) (fed_by gates number);
      note = told gate output;
    }

-- an event leaves the output and the pins that it is said to leave
pub gate_leaves : (gates : List LogicGate) (number : ℕ) (cells : CellData) (event : Event) → AreGateCells (length (gate_at gates number).from) cells
    → Leaves (cells_after_all (gate_effect gates number cells event).changes cells) (output_after (gate_at gates number) cells event) (levels_after (gate_at gates number) cells event)
unfolding gate_effect
gate_leaves gates number cells event are = by (output == output_of cells) refl
  where
    gate : LogicGate
    gate = gate_at gates number

    output : ℕ
    output = output_after gate cells event

    by : (same : Bool) → (output == output_of cells) ≡ same → Leaves (cells_after_all (effect_by gates number cells event same).changes cells) output (levels_after gate cells event)
    by true is =
        let held : output ≡ output_of cells = grind (arith, nat_tests) in
        let here = pin_leaves gate cells event in
        record { output = here.output ∙ sym held; levels = here.levels }
    by false is =
        let middle = cells_after_all (pin_changes gate event) cells in
        let room : 1 < length middle.words = omega (arith, length-words gate cells event, are.size) in
        subst (λ c. Leaves c output (levels_after gate cells event)) (sym (cells_after_all_append (pin_changes gate event) (Set 1 output ∷ []) cells))
        (output_leaves middle output (output_of cells) (levels_after gate cells event) room (pin_leaves gate cells event))

-- what an event sends: nothing where the output stays, and else the output to each pin that the gate feeds
pub gate_sends : (P : List Send → Type 0) (gates : List LogicGate) (number : ℕ) (cells : CellData) (event : Event)
    → (output_after (gate_at gates number) cells event ≡ output_of cells → P [])
    → P (map (level_to (delay_of (gate_at gates number)) (output_after (gate_at gates number) cells event)) (fed_by gates number))
    → P (gate_effect gates number cells event).sends
unfolding gate_effect
gate_sends P gates number cells event stays differs = by (output == output_of cells) refl
  where
    output : ℕ
    output = output_after (gate_at gates number) cells event

    by : (same : Bool) → (output == output_of cells) ≡ same → P (effect_by gates number cells event same).sends
    by true is = stays (grind (arith, nat_tests))
    by false is = differs

-- a pin takes the level that is for it, and no other
pub level_after : (gate : LogicGate) (number : ℕ) (cells : CellData) (event : Event) (place : ℕ) → AreGateCells (length gate.from) cells → place < length gate.from
    → event.key.dest ≡ number
    → (if is_for number place event then event.b % 2 else slice_index (levels_of cells) place) ≡ slice_index (levels_after gate cells event) place
level_after gate number cells event place are within here =
    by (event.kind == 5) (event.key.dest == number) refl (event.a == place) refl (nat_lt event.a (length gate.from)) refl
  where
    levels : List ℕ
    levels = levels_of cells

    room : place < length (levels_of cells)
    room = omega (arith, length-levels_of (length gate.from) cells are)

    by : (level there : Bool) → (event.key.dest == number) ≡ there → (same : Bool) → (event.a == place) ≡ same → (exists : Bool) → nat_lt event.a (length gate.from) ≡ exists
        → (if level && there && same then event.b % 2 else slice_index (levels_of cells) place)
        ≡ slice_index (if level && exists then slice_set (levels_of cells) event.a (event.b % 2) else levels_of cells) place
    by false there there_is same same_is exists exists_is = refl
    by true false there_is same same_is exists exists_is = absurd (grind (arith, nat_tests))
    by true true there_is true same_is false exists_is = absurd (grind (arith, nat_tests))
    by true true there_is false same_is false exists_is = refl
    by true true there_is false same_is true exists_is =
        let apart : place ≢ event.a = grind (arith, nat_tests) in
        sym (get_or-set_other (levels_of cells) event.a place (event.b % 2) 0 apart)
    by true true there_is true same_is true exists_is =
        let same : place ≡ event.a = grind (arith, nat_tests) in
        let inside : event.a < length (levels_of cells) = omega (arith, room, same) in
        sym (ap (λ n. slice_index (slice_set (levels_of cells) event.a (event.b % 2)) n) same ∙ get_or-set_same (levels_of cells) event.a (event.b % 2) 0 inside)

-- a value is computed again to the same
value_of-again : (kind : LogicKind) (levels : List ℕ) (held : ℕ) → value_of kind levels held ≡ value_of kind levels (value_of kind levels held)
unfolding value_of
value_of-again Input levels held = refl
value_of-again Buf levels held = refl
value_of-again Not levels held = refl
value_of-again And levels held = refl
value_of-again Or levels held = refl
value_of-again Xor levels held = refl
value_of-again Nand levels held = refl
value_of-again Nor levels held = refl
value_of-again Dff levels held = refl

output_on-computed : (kind : LogicKind) (levels : List ℕ) (held place level : ℕ)
    → output_on kind levels held place level ≡ value_of kind (slice_set levels place level) (output_on kind levels held place level)
unfolding output_on value_of
output_on-computed Input levels held place level = refl
output_on-computed Buf levels held place level = refl
output_on-computed Not levels held place level = refl
output_on-computed And levels held place level = refl
output_on-computed Or levels held place level = refl
output_on-computed Xor levels held place level = refl
output_on-computed Nand levels held place level = refl
output_on-computed Nor levels held place level = refl
output_on-computed Dff levels held place level = refl

toggled-computed : (kind : LogicKind) (levels : List ℕ) (held : ℕ) → held ≡ value_of kind levels held → toggled kind held ≡ value_of kind levels (toggled kind held)
unfolding value_of
toggled-computed Input levels held is = refl
toggled-computed Buf levels held is = is
toggled-computed Not levels held is = is
toggled-computed And levels held is = is
toggled-computed Or levels held is = is
toggled-computed Xor levels held is = is
toggled-computed Nand levels held is = is
toggled-computed Nor levels held is = is
toggled-computed Dff levels held is = is

-- a gate that puts out the value of its pins does so after every event, and any gate does after it has computed
pub output_after-computed : (gate : LogicGate) (cells : CellData) (event : Event) → (event.kind ≢ 6 → output_of cells ≡ value_of gate.kind (levels_of cells) (output_of cells))
    → output_after gate cells event ≡ value_of gate.kind (levels_after gate cells event) (output_after gate cells event)
unfolding output_after
output_after-computed gate cells event computed = by (event.kind == 7) refl (event.kind == 6) refl (event.kind == 5) refl (nat_lt event.a (length gate.from))
  where
    levels : List ℕ
    levels = levels_of cells

    held : ℕ
    held = output_of cells

    Says : Bool → Bool → Bool → Type 0
    Says turns computes takes =
        let output : ℕ =
        if turns then toggled gate.kind (output_of cells)
        else if computes then value_of gate.kind (levels_of cells) (output_of cells)
        else if takes then output_on gate.kind (levels_of cells) (output_of cells) event.a (event.b % 2)
        else output_of cells
        in
        output ≡ value_of gate.kind (if takes then slice_set (levels_of cells) event.a (event.b % 2) else levels_of cells) output

    by : (turns : Bool) → (event.kind == 7) ≡ turns → (computes : Bool) → (event.kind == 6) ≡ computes → (level : Bool) → (event.kind == 5) ≡ level → (here : Bool)
        → Says turns computes (level && here)
    by true is7 computes is6 false is5 here = toggled-computed gate.kind levels held (computed (grind (arith, nat_tests)))
    by true is7 computes is6 true is5 here = absurd (grind (arith, nat_tests))
    by false is7 true is6 false is5 here = value_of-again gate.kind levels held
    by false is7 true is6 true is5 here = absurd (grind (arith, nat_tests))
    by false is7 false is6 true is5 true = output_on-computed gate.kind levels held event.a (event.b % 2)
    by false is7 false is6 true is5 false = computed (grind (arith, nat_tests))
    by false is7 false is6 false is5 here = computed (grind (arith, nat_tests))
