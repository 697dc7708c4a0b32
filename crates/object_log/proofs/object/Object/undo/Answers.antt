-- The newest event is undone, by what is kept of it.
use Rattle.std.proofs.Common.{length, ap, ◌∙◌}
use Rattle.object_log.specs.Dones.{Done}
use Rattle.object_log.proofs.object.Object.undo.Goals as goal

pub take_back-requires : goal.take_back-requires
take_back-requires c =
    let same = c.event.view_is ∙ c.take_out.ensures.value in
    (c.args.done, c.requires, c.as_mut_slice.ensures.value ∙ ap (λ (x : Done). x.undo) same, c.len.ensures ∙ ap (λ (x : Done). length x.sends) same)

pub returns-clause-undone : goal.returns-clause-undone
returns-clause-undone c =
    let same = c.event.view_is ∙ c.take_out.ensures.value in
    c.take_back.ensures c.args.done (c.as_mut_slice.ensures.value ∙ ap (λ (x : Done). x.undo) same) (c.len.ensures ∙ ap (λ (x : Done). length x.sends) same)
