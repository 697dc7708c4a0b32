-- The chunk of the number holds its digits, and how many there are.
use Rattle.std.proofs.Common.{◌≡◌, ℕ, ◌+◌, ◌<◌, ◌≤◌, List, take, ◌∙◌, subst, arith}
use Rattle.model_core.specs.DigitTables.{HoldsDigits}
use Rattle.model_core.specs.Writing.{WritesAt}
use Rattle.model_core.proofs.DigitLemmas.{chunk-of}
use Rattle.model_core.proofs.digits.Digits.write_short.Goals as goal

at-most : (end at long : ℕ) → end ≡ at + long → long < 4 → end ≤ at + 3
at-most end at long is few = omega arith

pub returns : goal.returns
returns c =
    let tables = c.args.self.now.made in
    let number = c.args.number in
    let chunk = chunk-of HoldsDigits c.args.self.now.short.items number c.index.result.now tables.short_size c.requires.few (tables.shorts number c.requires.few) c.index.ensures in
    let W : List ℕ → Type 0 = λ text. WritesAt c.args.into.now c.write_first.new.into c.args.at c.write_first.result text in
    let T : ℕ → Type 0 = λ n. W (take n c.index.result.now) in
    let text = subst W chunk.digits (subst T (c.from.ensures ∙ chunk.count) c.write_first.ensures) in
    record { text = text; short = at-most _ _ _ text.ends chunk.few }
