-- A circuit keeps the laws of models.
use Rattle.std.proofs.Common.{◌≡◌, ℕ, zero, suc, ◌+◌, ◌-◌, ◌<◌, ◌≤◌, ◌^◌, ◌%◌, Bool, true, false, refl, List, [], ◌∷◌, ◌++◌, length, map, replicate, drop, get_or, sym, ap, subst, ◌∙◌, arith, get_or-set_other}
use Rattle.std.specs.Prelude.{IsTrue, All, if◌then◌else◌, ◌==◌, slice_index, slice_set}
use Rattle.std.specs.List.{filter, range_with_len}
use Rattle.std.proofs.Math.ListN.{length-set}
use Rattle.std.proofs.lemmas.Bool.Decides.{nat_tests}
use Rattle.std.proofs.lemmas.List.{length-map, length-replicate, get_or-replicate, get_or-drop, length-drop, drop-set-add, length-append}
use Rattle.std.proofs.lemmas.List.Elements.{All-nil, All-append, All-filter, All-map}
use Rattle.std.proofs.lemmas.List.FromFn.{length-range_with_len}
use Rattle.std.proofs.lemmas.List.Sums.{length-filter, count_by-le-length}
use Rattle.delta_exchange.specs.declared.change.Change.{Change}
use Rattle.delta_exchange.specs.declared.change.Change.TheVariants.{Set}
use Rattle.delta_exchange.specs.Changes.{CellData, AllFit, cells_after, cells_after_all}
use Rattle.model_core.specs.declared.event.Event.{Event}
use Rattle.model_core.specs.Meaning.{MeaningLaws, EffectLaws, SendsInRange, StartLaws}
use Rattle.circuit_model.specs.declared.gate.LogicGate.{LogicGate}
use Rattle.circuit_model.specs.declared.gate.LogicKind.{LogicKind}
use Rattle.circuit_model.specs.declared.gate.LogicKind.TheVariants.{Input, Buf, Not, And, Or, Xor, Nand, Nor, Dff}
use Rattle.circuit_model.specs.declared.wiring.Pin.{Pin}
use Rattle.circuit_model.specs.Events.{is_gate_cells, is_level, levels_of, output_of, rises, output_on, output_after, pin_changes, level_to, told, gate_effect}
use Rattle.circuit_model.specs.Gates.{AreBits, bit, is_input, value_of, delay_of, gate_at}
use Rattle.circuit_model.specs.Meaning.{circuit_meaning, first_gate_cells}
use Rattle.circuit_model.specs.Parts.{IsGate, HasFlips, IsCircuit}
use Rattle.circuit_model.specs.Starts.{compute_start, computes, computes_below, all_flips, starts_of}
use Rattle.circuit_model.specs.Wiring.{pin, pins_of, pins_below, all_pins, fed_among, fed_by, feeder}
use Rattle.circuit_model.specs.LawfulCells.{AreGateCells, AreGateCells-from_lawful, lawful-from_AreGateCells, AreBits-levels_of, output_of-bit}
use Rattle.circuit_model.specs.Ones.{AreBits-set}
use Rattle.circuit_model.specs.StartLists.{All-starts_of}
use Rattle.circuit_model.specs.Wired.{pins_below-more}

bit-≤ : (b : Bool) → bit b ≤ 1
bit-≤ true = omega arith
bit-≤ false = omega arith

first_level-bit : (levels : List ℕ) → AreBits levels → slice_index levels 0 ≤ 1
first_level-bit [] bits = omega arith
first_level-bit (level ∷ levels) bits = bits 0 0 (omega arith)

-- what is computed of bits is a bit
value_of-bit : (kind : LogicKind) (levels : List ℕ) (held : ℕ) → AreBits levels → held ≤ 1 → value_of kind levels held ≤ 1
unfolding value_of
value_of-bit Input levels held bits small = small
value_of-bit Buf levels held bits small = first_level-bit levels bits
value_of-bit Not levels held bits small = omega arith
value_of-bit And levels held bits small = bit-≤ _
value_of-bit Or levels held bits small = bit-≤ _
value_of-bit Xor levels held bits small = omega arith
value_of-bit Nand levels held bits small = omega arith
value_of-bit Nor levels held bits small = omega arith
value_of-bit Dff levels held bits small = small

output_on-bit : (kind : LogicKind) (levels : List ℕ) (held place level : ℕ) → AreBits levels → held ≤ 1 → level ≤ 1 → output_on kind levels held place level ≤ 1
unfolding output_on
output_on-bit kind levels held place level bits small one = by (rises kind place (slice_index levels place) level)
  where
    by : (up : Bool) → (if up then slice_index levels 0 else value_of kind (slice_set levels place level) held) ≤ 1
    by true = first_level-bit levels bits
    by false = value_of-bit kind (slice_set levels place level) held (AreBits-set levels place level bits one) small

pub output_after-bit : (gate : LogicGate) (cells : CellData) (event : Event) → AreGateCells (length gate.from) cells → output_after gate cells event ≤ 1
unfolding output_after
output_after-bit gate cells event are = by (event.kind == 7) (is_input gate.kind) (event.kind == 6) (is_level gate event)
  where
    held : ℕ
    held = output_of cells

    small : output_of cells ≤ 1
    small = output_of-bit _ cells are

    by : (turns input computes takes : Bool)
        → (if turns then (if input then 1 - output_of cells else output_of cells)
        else if computes then value_of gate.kind (levels_of cells) (output_of cells)
        else if takes then output_on gate.kind (levels_of cells) (output_of cells) event.a (event.b % 2)
        else output_of cells) ≤ 1
    by true true computes takes = omega arith
    by true false computes takes = small
    by false input true takes = value_of-bit gate.kind (levels_of cells) (output_of cells) (AreBits-levels_of _ cells are) small
    by false input false true =
        output_on-bit gate.kind (levels_of cells) (output_of cells) event.a (event.b % 2) (AreBits-levels_of _ cells are) small (omega arith)
    by false input false false = small

-- a bit at a word past the first leaves lawful cells
pub AreGateCells-set : (pins : ℕ) (cells : CellData) (word level : ℕ) → AreGateCells pins cells → 1 ≤ word → level ≤ 1
    → AreGateCells pins (cells_after (Set word level) cells)
AreGateCells-set pins cells word level are past small =
    let at : word ≡ 1 + (word - 1) = omega arith in
    let size : length (slice_set cells.words word level) ≡ length cells.words = length-set _ _ _ in
    let dropped : drop 1 (slice_set cells.words word level) ≡ slice_set (drop 1 cells.words) (word - 1) level =
    ap (λ n. drop 1 (slice_set cells.words n level)) at ∙ drop-set-add 1 cells.words (word - 1) level
    in
    record {
      size = size ∙ are.size;
      lines = are.lines;
      first = get_or-set_other cells.words word 0 level 0 (omega arith) ∙ are.first;
      bits = subst AreBits (sym dropped) (AreBits-set (drop 1 cells.words) (word - 1) level are.bits small);
    }

-- the changes of an event are few, fit, and leave lawful cells
record Changes (pins : ℕ) (changes : List Change) (cells : CellData) : Type 0 where
  few : length changes ≤ 2
  fits : AllFit changes cells
  after : AreGateCells pins (cells_after_all changes cells)

pin_changes-fine : (gate : LogicGate) (cells : CellData) (event : Event) → AreGateCells (length gate.from) cells → Changes (length gate.from) (pin_changes gate event) cells
unfolding AllFit cells_after_all
pin_changes-fine gate cells event are = by (is_level gate event) refl
  where
    by : (takes : Bool) → is_level gate event ≡ takes → Changes (length gate.from) (if takes then Set (event.a + 2) (event.b % 2) ∷ [] else []) cells
    by true is =
        let within : event.a < length gate.from = grind (arith, nat_tests) in
        let exists : event.a + 2 < length cells.words = omega (arith, are.size) in record {
          few = omega arith;
          fits = (exists, tt);
          after = AreGateCells-set (length gate.from) cells (event.a + 2) (event.b % 2) are (omega arith) (omega arith);
        }
    by false is = record { few = omega arith; fits = tt; after = are }

output_changes-fine : (gate : LogicGate) (cells : CellData) (event : Event) (output : ℕ) → AreGateCells (length gate.from) cells → output ≤ 1
    → Changes (length gate.from) (pin_changes gate event ++ Set 1 output ∷ []) cells
unfolding AllFit cells_after_all
output_changes-fine gate cells event output are small = by (is_level gate event) refl
  where
    here : 1 < length cells.words
    here = omega (arith, are.size)

    by : (takes : Bool) → is_level gate event ≡ takes
        → Changes (length gate.from) ((if takes then Set (event.a + 2) (event.b % 2) ∷ [] else []) ++ Set 1 output ∷ []) cells
    by true is =
        let within : event.a < length gate.from = grind (arith, nat_tests) in
        let exists : event.a + 2 < length cells.words = omega (arith, are.size) in
        let taken = AreGateCells-set (length gate.from) cells (event.a + 2) (event.b % 2) are (omega arith) (omega arith) in
        record {
          few = omega arith;
          fits = (exists, (omega (arith, taken.size), tt));
          after = AreGateCells-set (length gate.from) (cells_after (Set (event.a + 2) (event.b % 2)) cells) 1 output taken (omega arith) small;
        }
    by false is = record { few = omega arith; fits = (here, tt); after = AreGateCells-set (length gate.from) cells 1 output are (omega arith) small }

pins_of-within : (gates : List LogicGate) (number count : ℕ) → number < count → All (λ (p : Pin). p.gate < count) (pins_of gates number)
pins_of-within gates number count within =
    All-map (λ (p : Pin). p.gate < count) (pin number) (range_with_len 0 (length (gate_at gates number).from)) (λ i d here. within)

pins_below-within : (gates : List LogicGate) (count all : ℕ) → count ≤ all → All (λ (p : Pin). p.gate < all) (pins_below gates count)
unfolding pins_below
pins_below-within gates zero all few = All-nil (λ (p : Pin). p.gate < all)
pins_below-within gates (suc count) all few =
    let next : count + 1 ≡ suc count = omega arith in
    subst (λ n. All (λ (p : Pin). p.gate < all) (pins_below gates n)) next
    (subst (All (λ (p : Pin). p.gate < all)) (sym (pins_below-more gates count))
    (All-append (λ (p : Pin). p.gate < all) (pins_below gates count) (pins_of gates count)
    (pins_below-within gates count all (omega arith)) (pins_of-within gates count all (omega arith))))

-- the pins that a gate feeds are pins of gates
pub fed_by-within : (gates : List LogicGate) (number : ℕ) → All (λ (p : Pin). p.gate < length gates) (fed_by gates number)
unfolding fed_among
fed_by-within gates number =
    All-filter (λ p. feeder gates p == number) (λ (p : Pin). p.gate < length gates) (all_pins gates)
    (pins_below-within gates (length gates) (length gates) (omega arith))

sends_in_range : (objects delay output : ℕ) (pins : List Pin) → delay ≤ 2 ^ 40 → All (λ (p : Pin). p.gate < objects) pins
    → SendsInRange objects (map (level_to delay output) pins)
sends_in_range objects delay output [] short within = tt
sends_in_range objects delay output (p ∷ pins) short within =
    (within 0 p (omega arith), short, omega arith, sends_in_range objects delay output pins short (λ i d here. within (suc i) d (omega arith)))

delay_of-≤ : (gates : List LogicGate) (gate : LogicGate) → IsGate gates gate → delay_of gate ≤ 2 ^ 40
delay_of-≤ gates gate fine = by (is_input gate.kind)
  where
    by : (input : Bool) → (if input then 0 else gate.delay) ≤ 2 ^ 40
    by true = omega arith
    by false = fine.delay

effect_laws : (gates : List LogicGate) → IsCircuit gates → (number : ℕ) (cells : CellData) (event : Event) → number < length gates
    → IsTrue (is_gate_cells (gate_at gates number) cells) → EffectLaws (circuit_meaning gates) number cells (gate_effect gates number cells event)
unfolding circuit_meaning gate_effect
effect_laws gates fine number cells event exists lawful = by (output_after gate cells event == output_of cells)
  where
    gate : LogicGate
    gate = gate_at gates number

    output : ℕ
    output = output_after gate cells event

    are : AreGateCells (length gate.from) cells
    are = AreGateCells-from_lawful gate cells lawful

    by : (same : Bool) → EffectLaws (circuit_meaning gates) number cells
        (if same then record { changes = pin_changes gate event; sends = []; note = [] }
        else record {
          changes = pin_changes gate event ++ Set 1 output ∷ [];
          sends = map (level_to (delay_of gate) output) (fed_by gates number);
          note = told gate output;
        })
    by true =
        let changes = pin_changes-fine gate cells event are in record {
          few_changes = omega (arith, changes.few);
          few_sends = omega arith;
          fits = changes.fits;
          lawful = lawful-from_AreGateCells gate _ changes.after;
          sends = tt;
        }
    by false =
        let changes = output_changes-fine gate cells event output are (output_after-bit gate cells event are) in record {
          few_changes = omega (arith, changes.few);
          few_sends = omega (arith, length-map (fed_by gates number) (level_to (delay_of gate) output), fine.fan_out number exists);
          fits = changes.fits;
          lawful = lawful-from_AreGateCells gate _ changes.after;
          sends = sends_in_range (length gates) (delay_of gate) output (fed_by gates number)
              (delay_of-≤ gates gate (fine.linked.each number _ exists)) (fed_by-within gates number);
        }

first_lawful : (gate : LogicGate) → IsTrue (is_gate_cells gate (first_gate_cells gate))
first_lawful gate = lawful-from_AreGateCells gate (first_gate_cells gate) (record {
  size = length-replicate words 0;
  lines = refl;
  first = get_or-replicate words 0 0 0 (omega arith);
  bits = λ i d within.
      let here : 1 + i < words = omega (arith, length-drop {A = ℕ} 1 (replicate words 0), length-replicate {A = ℕ} words 0) in
      let zero_there : get_or (drop 1 (replicate words 0)) i d ≡ 0 = get_or-drop 1 (replicate words 0) i d ∙ get_or-replicate words (1 + i) 0 d here in
      omega (arith, zero_there);
})
  where
    words : ℕ
    words = length gate.from + 2

flips_in_range : (kind : LogicKind) (flips : List ℕ) → HasFlips kind flips → All (λ time. time < 2 ^ 46) flips
flips_in_range Input flips has = has
flips_in_range Buf flips has = subst (All (λ time. time < 2 ^ 46)) (sym has) (All-nil _)
flips_in_range Not flips has = subst (All (λ time. time < 2 ^ 46)) (sym has) (All-nil _)
flips_in_range And flips has = subst (All (λ time. time < 2 ^ 46)) (sym has) (All-nil _)
flips_in_range Or flips has = subst (All (λ time. time < 2 ^ 46)) (sym has) (All-nil _)
flips_in_range Xor flips has = subst (All (λ time. time < 2 ^ 46)) (sym has) (All-nil _)
flips_in_range Nand flips has = subst (All (λ time. time < 2 ^ 46)) (sym has) (All-nil _)
flips_in_range Nor flips has = subst (All (λ time. time < 2 ^ 46)) (sym has) (All-nil _)
flips_in_range Dff flips has = subst (All (λ time. time < 2 ^ 46)) (sym has) (All-nil _)

start_laws : (gates : List LogicGate) → IsCircuit gates → All (StartLaws (circuit_meaning gates)) (starts_of gates)
unfolding circuit_meaning
start_laws gates fine =
    All-starts_of (StartLaws (circuit_meaning gates)) gates
    (λ number exists. record { dest = exists; time = omega arith; rank = omega arith })
    (λ number exists i d within.
    let gate = gate_at gates number in
    let times = flips_in_range gate.kind gate.flips (fine.linked.each number _ exists).flips in
    record { dest = exists; time = times i d within; rank = omega arith })

pub length-computes_below : (gates : List LogicGate) (count : ℕ) → length (computes_below gates count) ≤ count
unfolding computes_below
length-computes_below gates count =
    let numbers = range_with_len 0 count in
    omega (
      arith,
      length-map (filter (computes gates) numbers) compute_start,
      length-filter (computes gates) numbers,
      count_by-le-length (computes gates) numbers,
      length-range_with_len 0 count,
    )

pub length-starts_of : (gates : List LogicGate) → IsCircuit gates → length (starts_of gates) ≤ 400000
unfolding starts_of
length-starts_of gates fine =
    omega (
      arith,
      length-append (computes_below gates (length gates)) (all_flips gates),
      length-computes_below gates (length gates),
      fine.linked.few_gates,
      fine.few_flips,
    )

pub circuit_laws : (gates : List LogicGate) → IsCircuit gates → MeaningLaws (circuit_meaning gates)
unfolding circuit_meaning
circuit_laws gates fine = record {
  objects = fine.linked.few_gates;
  starts = length-starts_of gates fine;
  first = λ number exists. first_lawful (gate_at gates number);
  outcome = λ number cells event exists lawful. effect_laws gates fine number cells event exists lawful;
  start = λ i exists. start_laws gates fine i _ exists;
}
