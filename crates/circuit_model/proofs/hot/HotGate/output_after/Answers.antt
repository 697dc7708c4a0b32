use Rattle.std.proofs.Common.{◌≡◌, ℕ, ◌%◌, true, false, length, ap, sym, ◌∙◌, arith}
use Rattle.std.specs.Prelude.{◌==◌, if◌then◌else◌}
use Rattle.std.proofs.lemmas.Bool.Decides.{nat_tests}
use Rattle.circuit_model.specs.Events.{levels_of, output_of, output_after, output_on, is_level}
use Rattle.circuit_model.specs.Gates.{value_of, toggled}
use Rattle.circuit_model.specs.LawfulCells.{AreGateCells-from_lawful, length-levels_of, AreBits-levels_of}
use Rattle.circuit_model.specs.Ones.{ones_in-≤}
use Rattle.circuit_model.specs.Hot.{bare}
use Rattle.circuit_model.proofs.hot.HotGate.output_after.Goals as goal

pub value-requires-clause-ones : goal.value-requires-clause-ones
value-requires-clause-ones c =
    let cells = c.args.cells.now.contents in
    let are = AreGateCells-from_lawful (bare c.args.self.now) cells c.requires.lawful in
    omega (arith, ones_in-≤ (levels_of cells), length-levels_of _ cells are, c.ones-ones.ensures, c.pins.ensures)

pub returns-then-event-eq-COMPUTE : goal.returns-then-event-eq-COMPUTE
unfolding output_after
returns-then-event-eq-COMPUTE c =
    let cells = c.args.cells.now.contents in
    let are = AreGateCells-from_lawful (bare c.args.self.now) cells c.requires.lawful in
    let held = output_of cells in
    let kind = c.args.self.now.kind in
    let event = c.args.event.now in
    let full : length (levels_of cells) ≡ c.pins.result = omega (arith, length-levels_of _ cells are, c.pins.ensures) in
    let turns : (event.kind == 7) ≡ false = grind (arith, nat_tests, c.if-event-eq-TURN.false) in
    let computes : (event.kind == 6) ≡ true = grind (arith, nat_tests, c.if-event-eq-COMPUTE.true) in
    let value : ℕ = value_of kind (levels_of cells) held in
    let other : ℕ = if is_level (bare c.args.self.now) event then output_on kind (levels_of cells) held event.a (event.b % 2) else held in
    c.value.ensures (levels_of cells) (AreBits-levels_of _ cells are) full (sym c.ones-ones.ensures)
    ∙ ap (value_of kind (levels_of cells)) c.word-held.ensures
    ∙ sym (ap (λ b. if b then toggled kind held else if event.kind == 6 then value else other) turns ∙ ap (λ b. if b then value else other) computes)
