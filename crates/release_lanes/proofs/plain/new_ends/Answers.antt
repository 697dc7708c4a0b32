use Rattle.std.proofs.Common.{ℕ, map, ap, ◌∙◌}
use Rattle.std.proofs.lemmas.List.Elements.{All-push}
use Rattle.release_lanes.specs.Plain.{outline, AreEmpty}
use Rattle.release_lanes.proofs.Rows.{mapped_more}
use Rattle.release_lanes.proofs.plain.new_ends.Goals as goal

pub loop-number-preserved : goal.loop-number-preserved
loop-number-preserved c = (
  ap (map outline) c.in_ok-push.ensures.items
      ∙ mapped_more outline (λ (k : ℕ). (k, c.args.nodes)) c.loop-number.ends.items c.in_ok-new.field-0 c.loop-number.number c.loop-number.invariant.0 c.in_ok-new.ensures.outline,
  rw c.in_ok-push.ensures.items (All-push AreEmpty c.loop-number.ends.items c.in_ok-new.field-0 c.loop-number.invariant.1 c.in_ok-new.ensures.empty),
)
