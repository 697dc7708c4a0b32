use Rattle.std.proofs.Common.{◌+◌, ◌<◌, length, take, arith}
use Rattle.std.proofs.lemmas.List.{length-take}
use Rattle.circuit_model.specs.Events.{levels_of}
use Rattle.circuit_model.specs.LawfulCells.{AreGateCells-from_lawful, length-levels_of, AreBits-levels_of, level-is_word}
use Rattle.circuit_model.specs.Ones.{ones_in-≤, ones_in-take}
use Rattle.circuit_model.specs.Hot.{bare}
use Rattle.circuit_model.proofs.hot.HotGate.ones.Goals as goal

pub overflow_add-ones : goal.overflow_add-ones
overflow_add-ones c =
    let cells = c.args.cells.now.contents in
    let are = AreGateCells-from_lawful (bare c.args.self.now) cells c.requires.lawful in
    let within : c.loop-place.place < length (levels_of cells) = omega (arith, length-levels_of _ cells are, c.pins-place-end.ensures, c.loop-place-test.true) in
    omega (
      arith,
      c.loop-place.invariant,
      ones_in-take (levels_of cells) c.loop-place.place (AreBits-levels_of _ cells are) within,
      ones_in-≤ (take (c.loop-place.place + 1) (levels_of cells)),
      length-take (c.loop-place.place + 1) (levels_of cells),
      c.word-ones.ensures,
      level-is_word cells c.loop-place.place,
    )

pub loop-place-preserved : goal.loop-place-preserved
loop-place-preserved c =
    let cells = c.args.cells.now.contents in
    let are = AreGateCells-from_lawful (bare c.args.self.now) cells c.requires.lawful in
    let within : c.loop-place.place < length (levels_of cells) = omega (arith, length-levels_of _ cells are, c.pins-place-end.ensures, c.loop-place-test.true) in
    omega (
      arith,
      c.loop-place.invariant,
      ones_in-take (levels_of cells) c.loop-place.place (AreBits-levels_of _ cells are) within,
      c.word-ones.ensures,
      level-is_word cells c.loop-place.place,
    )
