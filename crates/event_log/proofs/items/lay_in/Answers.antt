-- It lies in the slot that was opened.
use Rattle.std.proofs.Common.{sym, ap, ◌∙◌}
use Rattle.event_key.specs.declared.stamp.TheConstants.{NO_STAMP}
use Rattle.key_order.specs.Stamps.{least_stamp}
use Rattle.object_log.specs.Dones.{Done}
use Rattle.event_log.specs.declared.entry.Entry.{Entry}
use Rattle.event_log.proofs.SlotLemmas.{laid-in, laid-same}
use Rattle.event_log.proofs.items.lay_in.Goals as goal

pub returns-clause-laid : goal.returns-clause-laid
returns-clause-laid c =
    let contents = c.into_contents.ensures in
    let e : Entry = record { key = c.key-key.result; place = c.args.place; slot = c.open_slot-slot.result; least = c.least-least.result; held = c.args.held } in
    let key = c.key-key.ensures ∙ ap (λ (d : Done). d.event.key) (sym contents.done) in
    let least = c.least-least.ensures ∙ ap (λ (d : Done). least_stamp NO_STAMP d.sends) (sym contents.done) ∙ sym contents.kept.least_is in
    let laid = laid-in _ _ _ _ e c.into_contents.result c.open_slot-slot.ensures.opened contents.kept key least in
    laid-same (ap (λ (d : Done). record { done = d; place = c.args.place; held = c.args.held }) contents.done) laid
