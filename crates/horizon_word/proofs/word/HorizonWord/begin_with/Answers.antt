use Rattle.std.proofs.Common.{arith}
use Rattle.horizon_word.proofs.Moves.{opens, splits}
use Rattle.horizon_word.proofs.word.HorizonWord.begin_with.Goals as goal

pub of_words-requires : goal.of_words-requires
of_words-requires c = opens record { floor = c.args.floor; start = c.args.start } c.requires.start

pub split_seat-seat-requires : goal.split_seat-seat-requires
split_seat-seat-requires c =
    let loop = c.loop.invariant in
    let first = c.loop.first in
    let one = loop.one_word in
    (loop.first_held, omega arith, splits c.in_ok-table.table.shared.key first.id first.me.0 loop.first_new)
