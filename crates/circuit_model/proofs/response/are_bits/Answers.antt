use Rattle.std.proofs.Common.{◌≡◌, ◌+◌, ◌-◌, ◌<◌, true, length, take, drop, get_or, ap, ◌∙◌, sym, arith}
use Rattle.std.specs.Prelude.{◌&&◌}
use Rattle.std.specs.List.{list_all}
use Rattle.std.proofs.lemmas.Bool.Decides.{nat_tests}
use Rattle.std.proofs.lemmas.List.{length-drop, get_or-drop}
use Rattle.std.proofs.lemmas.List.Folds.{list_all_more}
use Rattle.circuit_model.specs.Events.{is_bit}
use Rattle.circuit_model.proofs.response.are_bits.Goals as goal

pub loop-word-preserved : goal.loop-word-preserved
loop-word-preserved c =
    let words = c.args.cells.now.contents.words in
    let word = c.loop-word.word in
    let place : word + 1 - 1 ≡ word - 1 + 1 = omega arith in
    let at : 1 + (word - 1) ≡ word = omega arith in
    let within : word - 1 < length (drop 1 words) = omega (arith, length-drop 1 words, c.words-word-end.ensures, c.loop-word-test.true) in
    let read : get_or (drop 1 words) (word - 1) 0 ≡ c.word.result = get_or-drop 1 words (word - 1) 0 ∙ ap (λ n. get_or words n 0) at ∙ sym c.word.ensures in
    let bit : is_bit (get_or (drop 1 words) (word - 1) 0) ≡ true = grind (arith, nat_tests, read, c.if-word-gt1.false) in (
      omega arith,
      ap (λ n. list_all is_bit (take n (drop 1 words))) place
          ∙ list_all_more is_bit (drop 1 words) (word - 1) 0 within
          ∙ ap (λ b. b && is_bit (get_or (drop 1 words) (word - 1) 0)) c.loop-word.invariant.1 ∙ bit,
    )
