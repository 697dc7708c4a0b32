-- The word after those of the trials.
use Rattle.std.proofs.Common.{◌≡◌, refl, ◌∙◌}
use Rattle.random_streams.specs.Words.{words_from}
use Rattle.random_streams.specs.Laws.{draw, drawn_value, words_read}
use Rattle.random_streams.specs.declared.law.Law.TheVariants.{Geometric}
use Rattle.random_streams.specs.Delays.{delay_drawn, draw_delay}
use Rattle.random_streams.proofs.Places.{word_of-moved}
use Rattle.random_streams.proofs.DelayBounds.{first_trial_ge}
use Rattle.random_streams.proofs.stream.Stream.spread.Goals as goal

pub overflow_sub-result : goal.overflow_sub-result
unfolding draw drawn_value
overflow_sub-result c =
    let s = c.args.self.now in
    rw c.draw-trial.ensures.value (first_trial_ge c.args.p c.args.cap (words_from s.seed s.object s.place))

pub returns-clause-value : goal.returns-clause-value
unfolding draw_delay delay_drawn draw drawn_value
returns-clause-value c =
    let s = c.args.self.now in
    let words = words_from s.seed s.object s.place in
    let last = words_read (Geometric c.args.p c.args.cap) words in
    let next : c.word.result ≡ words last = c.word.ensures.word ∙ word_of-moved s c.draw-trial.new.self last c.draw-trial.ensures.place in
    rw (c.remainder.ensures, next, c.get.ensures.divisor, c.draw-trial.ensures.value) refl
