-- Whatever the law, its value is at most 2 ^ 40.
use Rattle.std.proofs.Common.{arith}
use Rattle.random_streams.specs.Delays.{is_delay_law}
use Rattle.random_streams.proofs.Bounds.{greatest_value-le, is_drawable-delay}
use Rattle.random_streams.proofs.DelayBounds.{draw_delay-le}
use Rattle.random_streams.proofs.stream.Stream.draw_delay.Goals as goal

pub returns-in-Plain-clause-bounded : goal.returns-in-Plain-clause-bounded
unfolding is_delay_law
returns-in-Plain-clause-bounded c =
    let fine = rw c.in-Plain.is at c.requires in
    omega (arith, c.draw_prepared.ensures.within, greatest_value-le c.in-Plain.law (is_drawable-delay c.in-Plain.law fine))

pub returns-in-Spread-clause-bounded : goal.returns-in-Spread-clause-bounded
returns-in-Spread-clause-bounded c =
    let s = c.args.self.now in
    let le = rw c.in-Spread.is at (draw_delay-le s.seed s.object s.place c.args.law.now c.requires) in
    omega (arith, c.spread.ensures.value, le)

pub returns-in-Table-clause-bounded : goal.returns-in-Table-clause-bounded
returns-in-Table-clause-bounded c =
    let s = c.args.self.now in
    let le = rw c.in-Table.is at (draw_delay-le s.seed s.object s.place c.args.law.now c.requires) in
    omega (arith, c.entry.ensures.value, le)

pub returns-in-Steps-clause-bounded : goal.returns-in-Steps-clause-bounded
returns-in-Steps-clause-bounded c =
    let s = c.args.self.now in
    let le = rw c.in-Steps.is at (draw_delay-le s.seed s.object s.place c.args.law.now c.requires) in
    omega (arith, c.between.ensures.value, le)
