use Rattle.std.proofs.Common.{◌≡◌, ◌+◌, arith}
use Rattle.std.proofs.lemmas.Grind.{common_steps}
use Rattle.random_streams.specs.Laws.{drawn_value, greatest_value, is_choice, is_drawable}
use Rattle.random_streams.specs.Words.{words_from}
use Rattle.random_streams.specs.declared.law.Law.TheVariants.{Choice}
use Rattle.random_streams.proofs.Bounds.{drawn_value-le}
use Rattle.random_streams.proofs.stream.Stream.choose.Goals as goal

pub returns-clause-within : goal.returns-clause-within
unfolding greatest_value drawn_value is_drawable is_choice
returns-clause-within c =
    let weights = c.args.weights.now in
    let within = drawn_value-le (Choice weights) (words_from c.args.self.now.seed c.args.self.now.object c.args.self.now.place) c.requires in
    let first : c.args.self.now.place + 0 ≡ c.args.self.now.place = omega arith in
    let h = rw first at within in grind (arith, common_steps)
