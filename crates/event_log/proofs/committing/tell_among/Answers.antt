-- The record is told behind those that come before it.
use Rattle.std.proofs.Common.{List, take, drop, sym, ap, subst, arith}
use Rattle.std.proofs.lemmas.List.{take-append-drop}
use Rattle.std.proofs.lemmas.List.Sums.{sum_by-append}
use Rattle.event_key.specs.declared.key.Key.{Key}
use Rattle.key_order.specs.Ascending.{Ascends}
use Rattle.key_order.specs.Keys.{at_key, times}
use Rattle.key_order.proofs.AscendingLemmas.{Ascends-back}
use Rattle.model_core.specs.declared.note.Note.{Note}
use Rattle.event_log.specs.Committing.{TellsAmong, told_key}
use Rattle.event_log.proofs.TellFacts.{tells-among}
use Rattle.event_log.proofs.committing.tell_among.Goals as goal

pub returns-clause-told : goal.returns-clause-told
returns-clause-told c =
    let records = take c.args.count c.args.news.now.items in
    let key = c.args.key.now in
    let t : Key × Note = (key, c.args.note.now) in
    let from = c.args.from in
    let next = c.tell_before-next.result in
    let up = Ascends-back told_key (take from records) (drop from records) (subst (Ascends told_key) (sym (take-append-drop from records)) c.requires.ordered) in
    let parts = sum_by-append (at_key told_key key) (take next records) (drop next records) in
    let whole = ap (times told_key key) (take-append-drop next records) in
    let none = c.requires.apart in
    let P : List (Key × Note) → Type 0 = λ told. TellsAmong t (drop from records) (drop next records) c.args.told.now.items told in
    subst P (sym c.push_reserved.ensures.items)
    (tells-among t (drop from records) (drop next records) c.args.told.now.items c.tell_before-next.new.told.items up (omega arith) c.tell_before-next.ensures.told)
