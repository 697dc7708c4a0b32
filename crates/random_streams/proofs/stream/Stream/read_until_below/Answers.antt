use Rattle.std.proofs.Common.{◌≡◌, ◌+◌, ◌-◌, arith}
use Rattle.random_streams.proofs.RowLemmas.{AreWords-from}
use Rattle.random_streams.proofs.stream.Stream.read_until_below.Goals as goal

pub returns-then-misses-count-clause-misses : goal.returns-then-misses-count-clause-misses
returns-then-misses-count-clause-misses c k h =
    let inside = c.self.inside in
    let word = AreWords-from inside.seed inside.object inside.place c.load.new.self.words c.load.ensures k (omega arith) in
    rw (← c.self.view_is) (omega (arith, word, c.misses-misses.ensures.before k (omega arith)))

pub returns-then-misses-count-clause-below : goal.returns-then-misses-count-clause-below
returns-then-misses-count-clause-below c =
    let inside = c.self.inside in
    let misses = c.misses-misses.result in
    let word = AreWords-from inside.seed inside.object inside.place c.load.new.self.words c.load.ensures misses (omega arith) in
    let last : misses + 1 - 1 ≡ misses = omega arith in
    rw (← c.self.view_is, last) (omega (arith, word, c.misses-misses.ensures.at (omega arith)))

pub returns-clause-misses : goal.returns-clause-misses
returns-clause-misses c k h =
    let inside = c.self.inside in
    let word = AreWords-from inside.seed inside.object inside.place c.load.new.self.words c.load.ensures k (omega arith) in
    rw (← c.self.view_is) (omega (arith, word, c.misses-misses.ensures.before k (omega arith)))

pub returns-clause-missed : goal.returns-clause-missed
returns-clause-missed c =
    let inside = c.self.inside in
    let word = AreWords-from inside.seed inside.object inside.place c.load.new.self.words c.load.ensures (c.min-count.result - 1) (omega arith) in
    rw (← c.self.view_is) (omega (arith, word, c.misses-misses.ensures.before (c.min-count.result - 1) (omega arith)))
