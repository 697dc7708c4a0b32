use Rattle.std.proofs.Common.{refl}
use Rattle.shop_text.specs.StepTexts.{visit}
use Rattle.shop_text.proofs.steps.wait.Goals as goal

pub returns-clause-read : goal.returns-clause-read
unfolding visit
returns-clause-read c = λ service. rw (c.in_ok-patience.ensures.read, c.in_ok-names.ensures, c.in_ok-only.ensures) refl
