use Rattle.std.proofs.Common.{◌∙◌}
use Rattle.text_fields.proofs.Keys.{has_only-keys}
use Rattle.text_fields.proofs.fields.has_only.Goals as goal

pub returns : goal.returns
returns c = c.has_known_keys.ensures ∙ has_only-keys c.args.known.now c.args.table.now.entries
