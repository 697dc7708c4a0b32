use Rattle.std.proofs.Common.{refl}
use Rattle.shop_text.specs.ClassTexts.{class_named}
use Rattle.shop_text.proofs.classes.class_named.Goals as goal

pub returns-clause-read : goal.returns-clause-read
unfolding class_named
returns-clause-read c = rw (c.in_ok-class.ensures.read, c.in_ok-route.ensures.read) refl

pub returns-clause-in_range : goal.returns-clause-in_range
returns-clause-in_range c = record { fields = c.in_ok-class.ensures.in_range; route = c.in_ok-route.ensures.in_range }
