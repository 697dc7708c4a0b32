use Rattle.std.proofs.Common.{◌≡◌}
use Rattle.shop_model.specs.Views.{parts_of}
use Rattle.shop_totals.proofs.VisitorLemmas.{visitors}
use Rattle.shop_totals.proofs.visits.classes_at.Given as goal

abbrev pub invariant-loop-class : goal.invariant-loop-class
invariant-loop-class l = l.found.items ≡ visitors (parts_of l.shop) l.station l.class
