-- It holds the least of what it and those behind it send.
use Rattle.std.proofs.Common.{min, refl, ap}
use Rattle.event_key.specs.declared.stamp.TheConstants.{NO_STAMP}
use Rattle.key_order.specs.Stamps.{least_stamp}
use Rattle.event_log.specs.Items.{item_before}
use Rattle.event_log.proofs.turning.put_last.Goals as goal

pub returns-clause-put : goal.returns-clause-put
returns-clause-put c =
    let put = c.push_last.ensures.put in
    record { put = item_before put.0 c.args.place c.held_in_front-held.result; popped = put.1; new_is = put.2; place_is = refl; held = ap (min (least_stamp NO_STAMP put.0.sends)) c.held_in_front-held.ensures }
