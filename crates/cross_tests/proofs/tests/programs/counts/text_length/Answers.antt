-- What held of no bytes holds of those that were taken.
use Rattle.std.proofs.Common.{[], refl, ◌∙◌}
use Rattle.cross_tests.proofs.tests.programs.counts.text_length.Goals as goal

pub returns : goal.returns
returns g c = λ bytes input done. c.out.view_is ∙ ((c.btb-status.ensures.answers.answer bytes input).output done).holds [] refl
