-- The new one knows the least of all.
use Rattle.std.proofs.Common.{sym, ap, ◌∙◌, subst}
use Rattle.event_key.specs.declared.stamp.TheConstants.{NO_STAMP}
use Rattle.key_order.specs.Stamps.{least_stamp}
use Rattle.object_log.specs.Logs.{held_of}
use Rattle.object_log.specs.Rows.{PileView, TellHeld, HaveTold, dones_of}
use Rattle.object_log.proofs.PileLemmas.{least-top, told-push}
use Rattle.object_log.proofs.pile.Pile.push.Goals as goal

pub invariant_of-self : goal.invariant_of-self
invariant_of-self c =
    let es = c.in-Some.entries.items in
    let below =
    c.held_least.ensures
    ∙ ap (λ (v : PileView). least_stamp NO_STAMP (held_of v.done)) (sym c.self.view_is)
    ∙ ap (λ entries. least_stamp NO_STAMP (held_of (dones_of entries))) c.in-Some.is in
    let now = c.min-held.ensures ∙ least-top es _ c.held_least.result below c.requires.least in
    subst (TellHeld NO_STAMP) (sym c.push_reserved.ensures.items) (told-push NO_STAMP es _ (subst HaveTold c.in-Some.is c.self.invariant) now)
