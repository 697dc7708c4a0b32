use Rattle.std.proofs.Common.{Some, None}
use Rattle.std.proofs.lemmas.Bool.{false≢true}
use Rattle.toml.specs.View.{table_view}
use Rattle.text_fields.proofs.Trees.{tree-no_text, tree-text}
use Rattle.text_fields.proofs.documents.tree.Goals as goal

pub returns-in-Err : goal.returns-in-Err
returns-in-Err c = rw c.at.ensures (tree-no_text c.args.bytes.now c.in-Err.ensures.cases.0)

pub returns-in-Ok-table_from_str : goal.returns-in-Ok-table_from_str
returns-in-Ok-table_from_str c =
    tree-text c.args.bytes.now c.in-Ok.text.now (Some (table_view c.in-Ok-table_from_str.table)) c.in-Ok.ensures.cases c.in-Ok-table_from_str.ensures.ok

pub returns-else-is_memory : goal.returns-else-is_memory
returns-else-is_memory c =
    rw c.at-else-is_memory.ensures (tree-text c.args.bytes.now c.in-Ok.text.now None c.in-Ok.ensures.cases (c.in-Err-table_from_str.ensures.refused (λ m. false≢true (c.if-is_memory.ensures.1 m))))
