-- The top one knows the least of all.
use Rattle.std.proofs.Common.{◌-◌, List, length, sym, ap, ◌∙◌, subst, arith}
use Rattle.std.proofs.lemmas.List.{nil_from_length}
use Rattle.std.proofs.lemmas.Option.{slice_get_within}
use Rattle.event_key.specs.declared.stamp.TheConstants.{NO_STAMP}
use Rattle.key_order.specs.Stamps.{least_stamp}
use Rattle.object_log.specs.declared.entry.Entry.{Entry}
use Rattle.object_log.specs.Logs.{held_of}
use Rattle.object_log.specs.Rows.{TellHeld}
use Rattle.object_log.proofs.PartLemmas.{last_split, last_none}
use Rattle.object_log.proofs.PileLemmas.{dones, told-top, least-nothing}
use Rattle.object_log.proofs.pile.last_held.Goals as goal

pub returns-in-Some : goal.returns-in-Some
returns-in-Some c =
    let top = c.in-Some.top.now in
    let at = sym c.in-Some.ensures.value in
    let within = slice_get_within c.args.entries.now (length c.args.entries.now - 1) top at in
    let split = last_split c.args.entries.now (length c.args.entries.now - 1) top (omega arith) at in
    told-top NO_STAMP split.0 top (subst (TellHeld NO_STAMP) split.1 c.requires)
    ∙ ap (λ (es : List Entry). least_stamp NO_STAMP (held_of (dones es))) (sym split.1)

pub returns-in-None : goal.returns-in-None
returns-in-None c = least-nothing c.args.entries.now (nil_from_length c.args.entries.now (last_none c.args.entries.now (sym c.in-None.ensures.value)))
