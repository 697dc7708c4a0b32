use Rattle.std.proofs.Common.{◌≡◌, map, ap, ◌∙◌, arith}
use Rattle.std.specs.List.{range_with_len}
use Rattle.std.proofs.lemmas.List.Elements.{All-push}
use Rattle.release_lanes.specs.Rings.{outline, IsNew}
use Rattle.release_lanes.proofs.Rows.{mapped_more}
use Rattle.release_lanes.proofs.Weaving.{bare, woven_none}
use Rattle.release_lanes.proofs.rings.bare_ends.Goals as goal

pub loop-number-preserved : goal.loop-number-preserved
loop-number-preserved c = (
  ap (map outline) c.in_ok-push.ensures.items
      ∙ mapped_more outline bare c.loop-number.ends.items c.in_ok-new.field-0 c.loop-number.number c.loop-number.invariant.0 c.in_ok-new.ensures.outline,
  rw c.in_ok-push.ensures.items (All-push IsNew c.loop-number.ends.items c.in_ok-new.field-0 c.loop-number.invariant.1 c.in_ok-new.ensures.new),
)

pub returns-clause-woven : goal.returns-clause-woven
returns-clause-woven c =
    let all : c.loop-number.number ≡ c.args.nodes = omega arith in
    woven_none c.args.nodes (map outline c.loop-number.ends.items) (c.loop-number.invariant.0 ∙ ap (λ n. map bare (range_with_len 0 n)) all)
