use Rattle.std.proofs.Common.{◌≡◌, ◌+◌, ◌-◌, ◌<◌, false, length, ap, sym, ◌∙◌, arith}
use Rattle.std.specs.Prelude.{slice_index, slice_set, if◌then◌else◌}
use Rattle.std.proofs.Math.ListN.{length-set}
use Rattle.circuit_model.specs.Events.{levels_of, output_of, output_on, rises}
use Rattle.circuit_model.specs.Gates.{ones_in, value_of}
use Rattle.circuit_model.specs.LawfulCells.{AreGateCells-from_lawful, length-levels_of, AreBits-levels_of, level-is_word}
use Rattle.circuit_model.specs.Ones.{AreBits-set, ones_in-≤, ones_in-set}
use Rattle.circuit_model.proofs.PinCounts.{few_pins}
use Rattle.circuit_model.specs.Hot.{bare}
use Rattle.circuit_model.proofs.hot.HotGate.output_on.Goals as goal

pub overflow_sub-ones : goal.overflow_sub-ones
overflow_sub-ones c =
    let cells = c.args.cells.now.contents in
    let are = AreGateCells-from_lawful (bare c.args.self.now) cells c.requires.lawful in
    let within : c.args.place < length (levels_of cells) = omega (arith, length-levels_of _ cells are, c.requires.exists) in
    omega (
      arith,
      ones_in-set (levels_of cells) c.args.place 0 (AreBits-levels_of _ cells are) within (omega arith),
      c.ones.ensures,
      c.word-before.ensures,
      level-is_word cells c.args.place,
    )

pub overflow_add-ones : goal.overflow_add-ones
overflow_add-ones c =
    let cells = c.args.cells.now.contents in
    let are = AreGateCells-from_lawful (bare c.args.self.now) cells c.requires.lawful in
    omega (
      arith,
      ones_in-≤ (levels_of cells),
      length-levels_of _ cells are,
      few_pins c.args.self.now.kind _ c.requires.pins,
      c.ones.ensures,
      c.requires.level,
    )

pub value-requires-clause-ones : goal.value-requires-clause-ones
value-requires-clause-ones c =
    let cells = c.args.cells.now.contents in
    let are = AreGateCells-from_lawful (bare c.args.self.now) cells c.requires.lawful in
    let within : c.args.place < length (levels_of cells) = omega (arith, length-levels_of _ cells are, c.requires.exists) in
    let after = slice_set (levels_of cells) c.args.place c.args.level in
    let size : length after ≡ length (levels_of cells) = length-set _ _ _ in
    omega (
      arith,
      ones_in-set (levels_of cells) c.args.place c.args.level (AreBits-levels_of _ cells are) within c.requires.level,
      ones_in-≤ after,
      size,
      length-levels_of _ cells are,
      c.ones.ensures,
      c.pins.ensures,
      c.word-before.ensures,
      level-is_word cells c.args.place,
    )

pub returns : goal.returns
unfolding output_on
returns c =
    let cells = c.args.cells.now.contents in
    let are = AreGateCells-from_lawful (bare c.args.self.now) cells c.requires.lawful in
    let within : c.args.place < length (levels_of cells) = omega (arith, length-levels_of _ cells are, c.requires.exists) in
    let after = slice_set (levels_of cells) c.args.place c.args.level in
    let before : c.word-before.result ≡ slice_index (levels_of cells) c.args.place = c.word-before.ensures ∙ sym (level-is_word cells c.args.place) in
    let size : length after ≡ length (levels_of cells) = length-set _ _ _ in
    let ones : ones_in after ≡ c.ones.result - c.word-before.result + c.args.level = omega (
      arith,
      ones_in-set (levels_of cells) c.args.place c.args.level (AreBits-levels_of _ cells are) within c.requires.level,
      ones_in-set (levels_of cells) c.args.place 0 (AreBits-levels_of _ cells are) within (omega arith),
      c.ones.ensures,
      before,
    ) in
    let bits = AreBits-set (levels_of cells) c.args.place c.args.level (AreBits-levels_of _ cells are) c.requires.level in
    let full : length after ≡ c.pins.result = omega (arith, size, length-levels_of _ cells are, c.pins.ensures) in
    let stays : rises c.args.self.now.kind c.args.place (slice_index (levels_of cells) c.args.place) c.args.level ≡ false =
    ap (λ n. rises c.args.self.now.kind c.args.place n c.args.level) (sym before) ∙ sym c.rises.ensures ∙ c.if-rises.false
    in
    c.value.ensures after bits full ones
    ∙ ap (value_of c.args.self.now.kind after) c.word-2.ensures
    ∙ sym (ap (λ b. if b then slice_index (levels_of cells) 0 else value_of c.args.self.now.kind after (output_of cells)) stays)
