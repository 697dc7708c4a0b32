-- The first one holds the least of all.
use Rattle.std.proofs.Common.{map, ap, ◌∙◌}
use Rattle.event_key.specs.declared.stamp.TheConstants.{NO_STAMP}
use Rattle.key_order.specs.Stamps.{least_stamp}
use Rattle.object_log.specs.Carrying.{Placed}
use Rattle.event_log.specs.Items.{CarriedView}
use Rattle.object_log.specs.Logs.{held_of}
use Rattle.event_log.proofs.ItemLemmas.{held-is}
use Rattle.event_log.proofs.carried.Carried.held_least.Goals as goal

pub returns : goal.returns
returns c =
    c.held_from.ensures ∙ held-is c.self.inside.items.items c.self.invariant.1
    ∙ ap (λ (v : CarriedView). least_stamp NO_STAMP (held_of (map (λ (p : Placed). p.done) v.items))) c.self.view_is
