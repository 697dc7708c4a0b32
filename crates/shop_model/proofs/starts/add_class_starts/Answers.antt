use Rattle.std.proofs.Common.{◌+◌, List, ◌++◌, length, ap, sym, ◌∙◌, arith}
use Rattle.model_core.specs.declared.event.Start.{Start}
use Rattle.shop_model.specs.StartLaws.{starts_more-class}
use Rattle.shop_model.specs.Starts.{class_starts}
use Rattle.shop_model.proofs.starts.add_class_starts.Goals as goal

pub loop-place-preserved : goal.loop-place-preserved
loop-place-preserved c =
    let class = c.index-classes-place.result in
    let more = starts_more-class c.args.stations.now c.args.classes.now c.loop-place.place class (omega arith) c.index-classes-place.is in
    c.in_ok-add_starts.ensures
    ∙ ap (λ (starts : List Start). starts ++ class_starts (length c.args.stations.now + c.loop-place.place) class) c.loop-place.invariant
    ∙ sym more
