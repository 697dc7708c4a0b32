-- A pile upside down.
use Rattle.std.proofs.Common.{List, sym, ap, ◌∙◌}
use Rattle.std.specs.Prelude.{reverse}
use Rattle.object_log.specs.declared.entry.Entry.{Entry}
use Rattle.object_log.specs.Rows.{PileView, dones_of}
use Rattle.object_log.proofs.PileLemmas.{dones, dones-reverse}
use Rattle.object_log.proofs.pile.Pile.turn.Goals as goal

pub returns : goal.returns
returns c =
    c.tell_held.ensures.same
    ∙ ap (λ (es : List Entry). dones es) c.reverse.ensures.items
    ∙ dones-reverse c.in-Some.entries.items
    ∙ ap (λ entries. reverse (dones_of entries)) (sym c.in-Some.is)
    ∙ ap (λ (v : PileView). reverse v.done) c.self.view_is
