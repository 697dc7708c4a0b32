-- The checks in their order, each of which gives something.
use Rattle.std.proofs.Common.{◌≡◌, Ok, refl}
use Rattle.toml.specs.View.{table_view}
use Rattle.text_fields.specs.Fields.{only}
use Rattle.model_text.specs.Objects.{common_fields, known_keys}
use Rattle.model_text.proofs.objects.common_fields.Goals as goal

pub returns-clause-read : goal.returns-clause-read
unfolding common_fields
returns-clause-read c =
    let known : only c.args.item (known_keys c.args.format c.args.kind.now) (table_view c.args.table.now) ≡ Ok tt = rw c.known_keys.ensures at c.in_ok-only.ensures in
    rw (c.in_ok-rank.ensures.read, c.in_ok-quiet.ensures, c.in_ok-trace.ensures.read, known) refl

pub returns-clause-traced : goal.returns-clause-traced
returns-clause-traced c = c.in_ok-trace.ensures.in_range
