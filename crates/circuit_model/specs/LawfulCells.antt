-- What lawful cells of a gate are.
use Rattle.std.proofs.Common.{◌≡◌, ℕ, zero, suc, ◌+◌, ◌≤◌, true, List, [], ◌∷◌, length, drop, get_or, refl, sym, ap, ◌∙◌, arith}
use Rattle.std.specs.Prelude.{◌==◌, ◌&&◌, IsTrue, slice_index}
use Rattle.std.specs.List.{list_all}
use Rattle.std.proofs.lemmas.Bool.{and_parts}
use Rattle.std.proofs.lemmas.Bool.Decides.{nat_tests}
use Rattle.std.proofs.lemmas.List.{length-drop, get_or-drop}
use Rattle.delta_exchange.specs.Changes.{CellData}
use Rattle.circuit_model.specs.declared.gate.LogicGate.{LogicGate}
use Rattle.circuit_model.specs.Events.{is_bit, is_gate_cells, levels_of, output_of}
use Rattle.circuit_model.specs.Gates.{AreBits}
use Rattle.circuit_model.specs.Ones.{AreBits-tail}

-- a gate with so many pins may have these cells
pub record AreGateCells (pins : ℕ) (cells : CellData) : Type 0 where
  pub size : length cells.words ≡ pins + 2
  pub lines : length cells.lines ≡ 0
  pub first : slice_index cells.words 0 ≡ 0
  pub bits : AreBits (drop 1 cells.words)

AreBits-from_list_all : (levels : List ℕ) → list_all is_bit levels ≡ true → AreBits levels
AreBits-from_list_all [] all i d within = absurd (omega arith)
AreBits-from_list_all (x ∷ levels) all zero d within = let head = (and_parts (is_bit x) (list_all is_bit levels) all).0 in grind (arith, nat_tests)
AreBits-from_list_all (x ∷ levels) all (suc i) d within =
    AreBits-from_list_all levels (and_parts (is_bit x) (list_all is_bit levels) all).1 i d (omega arith)

list_all-from_AreBits : (levels : List ℕ) → AreBits levels → list_all is_bit levels ≡ true
list_all-from_AreBits [] bits = refl
list_all-from_AreBits (x ∷ levels) bits =
    let head : x ≤ 1 = bits 0 0 (omega arith) in
    let first : is_bit x ≡ true = grind (arith, nat_tests) in
    ap (λ b. b && list_all is_bit levels) first ∙ list_all-from_AreBits levels (AreBits-tail x levels bits)

pub AreGateCells-from_lawful : (gate : LogicGate) (cells : CellData) → IsTrue (is_gate_cells gate cells) → AreGateCells (length gate.from) cells
AreGateCells-from_lawful gate cells lawful =
    let last = and_parts (length cells.words == length gate.from + 2 && length cells.lines == 0 && slice_index cells.words 0 == 0) (list_all is_bit (drop 1 cells.words)) lawful in
    let third = and_parts (length cells.words == length gate.from + 2 && length cells.lines == 0) (slice_index cells.words 0 == 0) last.0 in
    let second = and_parts (length cells.words == length gate.from + 2) (length cells.lines == 0) third.0 in
    record {
      size = grind (arith, nat_tests, second.0);
      lines = grind (arith, nat_tests, second.1);
      first = grind (arith, nat_tests, third.1);
      bits = AreBits-from_list_all (drop 1 cells.words) last.1;
    }

pub lawful-from_AreGateCells : (gate : LogicGate) (cells : CellData) → AreGateCells (length gate.from) cells → IsTrue (is_gate_cells gate cells)
lawful-from_AreGateCells gate cells are =
    let bits = list_all-from_AreBits (drop 1 cells.words) are.bits in grind (arith, nat_tests, are.size, are.lines, are.first, bits)

pub length-levels_of : (pins : ℕ) (cells : CellData) → AreGateCells pins cells → length (levels_of cells) ≡ pins
length-levels_of pins cells are = omega (arith, length-drop 2 cells.words, are.size)

pub AreBits-levels_of : (pins : ℕ) (cells : CellData) → AreGateCells pins cells → AreBits (levels_of cells)
AreBits-levels_of pins cells are i d within =
    let size = length-levels_of pins cells are in
    let rest = are.bits (suc i) d (omega (arith, length-drop 1 cells.words, are.size)) in
    let past : 2 + i ≡ 1 + suc i = omega arith in
    let same : get_or (levels_of cells) i d ≡ get_or (drop 1 cells.words) (suc i) d =
    get_or-drop 2 cells.words i d ∙ ap (λ n. get_or cells.words n d) past ∙ sym (get_or-drop 1 cells.words (suc i) d)
    in
    omega (arith, same, rest)

pub output_of-bit : (pins : ℕ) (cells : CellData) → AreGateCells pins cells → output_of cells ≤ 1
output_of-bit pins cells are =
    let bit = are.bits 0 0 (omega (arith, length-drop 1 cells.words, are.size)) in
    let past : 1 ≡ 1 + 0 = omega arith in
    let same : output_of cells ≡ get_or (drop 1 cells.words) 0 0 = ap (λ n. get_or cells.words n 0) past ∙ sym (get_or-drop 1 cells.words 0 0) in
    omega (arith, same, bit)

-- a pin's level is the word that stands for it
pub level-is_word : (cells : CellData) (place : ℕ) → slice_index (levels_of cells) place ≡ slice_index cells.words (2 + place)
level-is_word cells place = get_or-drop 2 cells.words place 0
