-- The bounds rise, and the second word is the next one.
use Rattle.std.proofs.Common.{◌≡◌, ◌+◌, ◌<◌, ◌≤◌, ◌^◌, IsTrue, length, get_or, refl, ◌∙◌, arith}
use Rattle.std.proofs.lemmas.Bool.Decides.{nat_tests}
use Rattle.random_streams.specs.Words.{words_from}
use Rattle.random_streams.specs.Delays.{are_values, do_rise, is_delay_law, delay_drawn, draw_delay}
use Rattle.random_streams.proofs.Places.{word_of-moved}
use Rattle.random_streams.proofs.Rising.{rise_at}
use Rattle.random_streams.proofs.DelayBounds.{value_le}
use Rattle.random_streams.proofs.stream.Stream.between.Goals as goal
use Rattle.random_streams.proofs.stream.Stream.between.Goals.{After-from}

rises : (c : After-from) → (get_or c.as_slice-bounds.result.now c.place_by-place.result 0 < get_or c.as_slice-bounds.result.now (c.place_by-place.result + 1) 0)
    × (get_or c.as_slice-bounds.result.now (c.place_by-place.result + 1) 0 ≤ 2 ^ 40)
unfolding is_delay_law
rises c =
    let fine : IsTrue (do_rise c.args.bounds.now) = grind (arith, nat_tests, c.requires) in
    let small : IsTrue (are_values c.args.bounds.now) = grind (arith, nat_tests, c.requires) in
    let long : length c.args.bounds.now ≡ length c.args.weights.now + 1 = grind (arith, nat_tests, c.requires) in
    let within : c.place_by-place.result + 1 < length c.args.bounds.now = omega (arith, c.place_by-place.ensures.within) in
    rw c.as_slice-bounds.ensures
    ((rise_at c.args.bounds.now c.place_by-place.result fine within).0, value_le c.args.bounds.now (c.place_by-place.result + 1) small)

pub overflow_sub-result : goal.overflow_sub-result
overflow_sub-result c = omega (arith, (rises c).0)

pub nonzero_rem-result : goal.nonzero_rem-result
nonzero_rem-result c = omega (arith, (rises c).0)

pub overflow_add-result : goal.overflow_add-result
overflow_add-result c = omega (arith, (rises c).0, (rises c).1)

pub returns-clause-value : goal.returns-clause-value
unfolding draw_delay delay_drawn
returns-clause-value c =
    let s = c.args.self.now in
    let first : s.place + 0 ≡ s.place = omega arith in
    let next : c.word-2.result ≡ words_from s.seed s.object s.place 1 = c.word-2.ensures.word ∙ word_of-moved s c.word.new.self 1 c.word.ensures.place in
    rw (c.as_slice-bounds.ensures, c.from.ensures, next, c.place_by-place.ensures.place, c.word.ensures.word, first) refl
