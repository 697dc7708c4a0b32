-- What comes to a station, class by class.
use Rattle.shop_draw_laws.proofs.ClassLaw.{class_flow}
use Rattle.shop_draw_laws.proofs.classes.law_classes.Goals as goal

pub returns : goal.returns
returns c = class_flow
