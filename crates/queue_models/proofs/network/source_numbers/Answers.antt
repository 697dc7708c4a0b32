use Rattle.std.proofs.Common.{◌≡◌, ◌∙◌, ap, sym, length, arith}
use Rattle.queue_models.specs.Objects.{sources_below}
use Rattle.queue_models.specs.Starts.{sources_below-more_source, sources_below-more_other}
use Rattle.queue_models.proofs.network.source_numbers.Goals as goal
use Rattle.queue_models.proofs.network.source_numbers.Goals.{then-is_source+in_ok-push, else-is_source}

pub loop-number-init : goal.loop-number-init
unfolding sources_below
loop-number-init c = c.new-numbers.ensures.items

pub loop-number-preserved : goal.loop-number-preserved
loop-number-preserved c =
    let objects = c.args.objects.now in
    let within = c.loop-number-test.true in
    let read = c.index-objects-number.is in
    elim c.if-is_source.branch [
      | then-is_source+in_ok-push w ↦ let more = sources_below-more_source objects c.loop-number.number _ within read (sym c.is_source.ensures ∙ w.if-is_source.true) in cc (more, c.loop-number.invariant, w.numbers-is, w.in_ok-push.ensures.items)
      | else-is_source w ↦ let more = sources_below-more_other objects c.loop-number.number _ within read (sym c.is_source.ensures ∙ w.if-is_source.false) in cc (more, c.loop-number.invariant, w.numbers-is)
    ]

pub returns : goal.returns
returns c =
    let all : c.loop-number.number ≡ length c.args.objects.now = omega arith in
    c.loop-number.invariant ∙ ap (sources_below c.args.objects.now) all
