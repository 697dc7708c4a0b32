use Rattle.std.proofs.Common.{List, ◌++◌, ap, sym, ◌∙◌, arith}
use Rattle.model_core.specs.declared.event.Start.{Start}
use Rattle.shop_model.specs.StartLaws.{starts_more-station}
use Rattle.shop_model.specs.Starts.{station_starts, starts_below}
use Rattle.shop_model.proofs.starts.station_starts.Goals as goal

pub loop-number-init : goal.loop-number-init
unfolding starts_below
loop-number-init c classes = c.new-starts.ensures.items

pub loop-number-preserved : goal.loop-number-preserved
loop-number-preserved c classes =
    let station = c.index-stations-number.result in
    let more = starts_more-station c.args.stations.now classes c.loop-number.number station (omega arith) c.index-stations-number.is in
    c.in_ok-add_starts.ensures
    ∙ ap (λ (starts : List Start). starts ++ station_starts c.loop-number.number station) (c.loop-number.invariant classes)
    ∙ sym more
