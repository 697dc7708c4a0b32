use mathlib.Core.Path.{fun_ext}
use Rattle.text_fields.proofs.ByteKeys.{bytes-updated}
use Rattle.text_fields.proofs.directory.Directory.add.Goals as goal

pub returns-clause-taken_in : goal.returns-clause-taken_in
returns-clause-taken_in c = fun_ext (bytes-updated (λ key. key.now) c.args.name.now c.args.self.now.places c.insert.new.self _ c.in_ok-insert.ensures.updates)
