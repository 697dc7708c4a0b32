use Rattle.text_fields.proofs.Each.{item_count-items}
use Rattle.text_fields.proofs.fields.item_count.Goals as goal

pub returns-clause-count : goal.returns-clause-count
returns-clause-count c = item_count-items c.args.values.now
