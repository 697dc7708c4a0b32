use Rattle.std.proofs.Common.{◌≡◌, refl, ap, ap₂, slice_index, ◌∙◌, arith, add-one}
use Rattle.rand_chacha.specs.Block.{add32, column_round, diagonal_round, double_rounds, initial_state, block_word}
use Rattle.random_streams.proofs.block.block.Goals as goal

pub loop-round-init : goal.loop-round-init
unfolding double_rounds
loop-round-init c = refl

pub loop-round-preserved : goal.loop-round-preserved
unfolding double_rounds
loop-round-preserved c =
    rw add-one (c.diagonal_round-rows.ensures
    ∙ ap diagonal_round (c.column_round.ensures ∙ ap column_round c.loop-round.invariant))

pub returns : goal.returns
unfolding block_word
returns c k within =
    let done : c.loop-round._round ≡ 10 = omega arith in
    let first = c.initial_rows-first.ensures ∙ ap (λ key. initial_state key c.args.number c.args.object) c.key.ensures in
    c.sums.ensures k within
    ∙ ap₂ add32
    (ap (λ x. slice_index x k) (c.loop-round.invariant ∙ ap₂ double_rounds done first))
    (ap (λ x. slice_index x k) first)
