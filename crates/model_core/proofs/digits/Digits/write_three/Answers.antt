-- The chunk of the number holds its digits.
use Rattle.std.proofs.Common.{ℕ, List, subst}
use Rattle.model_core.specs.DigitTables.{HoldsThree}
use Rattle.model_core.specs.Writing.{WritesAt}
use Rattle.model_core.proofs.DigitLemmas.{chunk-of}
use Rattle.model_core.proofs.digits.Digits.write_three.Goals as goal

pub returns : goal.returns
returns c =
    let tables = c.args.self.now.made in
    let W : List ℕ → Type 0 = λ text. WritesAt c.args.into.now c.write_first.new.into c.args.at c.write_first.result text in
    let chunk = chunk-of HoldsThree c.args.self.now.three.items c.args.number c.index.result.now tables.three_size c.requires.few (tables.threes c.args.number c.requires.few) c.index.ensures in
    subst W chunk.digits c.write_first.ensures
