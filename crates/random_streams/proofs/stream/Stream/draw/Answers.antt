use Rattle.std.proofs.Common.{◌≡◌, ◌+◌, arith}
use Rattle.std.proofs.lemmas.Grind.{common_steps}
use Rattle.random_streams.specs.Laws.{drawn_value, greatest_value}
use Rattle.random_streams.specs.Words.{words_from}
use Rattle.random_streams.proofs.Bounds.{drawn_value-le}
use Rattle.random_streams.proofs.stream.Stream.draw.Goals as goal

pub returns-in-Geometric-clause-within : goal.returns-in-Geometric-clause-within
unfolding greatest_value drawn_value
returns-in-Geometric-clause-within c =
    let within = drawn_value-le c.args.law.now (words_from c.args.self.now.seed c.args.self.now.object c.args.self.now.place) c.requires in
    rw c.in-Geometric.is (let h = rw c.in-Geometric.is at within in omega arith)

pub returns-in-Choice-clause-within : goal.returns-in-Choice-clause-within
unfolding greatest_value drawn_value
returns-in-Choice-clause-within c =
    let within = drawn_value-le c.args.law.now (words_from c.args.self.now.seed c.args.self.now.object c.args.self.now.place) c.requires in
    let first : c.args.self.now.place + 0 ≡ c.args.self.now.place = omega arith in
    rw c.in-Choice.is (let h = rw (c.in-Choice.is, first) at within in grind (arith, common_steps))
