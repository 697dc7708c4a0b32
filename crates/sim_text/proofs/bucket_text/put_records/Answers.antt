-- The lines so far, and those of the records that are left.
use Rattle.std.proofs.Common.{◌++◌, sym, ap, ◌∙◌, append_assoc, append-nil, arith}
use Rattle.std.proofs.lemmas.Option.{get_or_from_slice_get}
use Rattle.event_key.specs.declared.key.Key.{Key}
use Rattle.model_core.specs.declared.note.Note.{Note}
use Rattle.sim_text.proofs.RecordLemmas.{record_lines-drop, record_lines-past}
use Rattle.sim_text.proofs.bucket_text.put_records.Goals as goal

pub loop-i-preserved : goal.loop-i-preserved
loop-i-preserved g c =
    let m = g.M.Model.meaning c.args.model.now in
    let records = c.args.records.now.items in
    let told : Key × Note = (c.at.result.0.now, c.at.result.1.now) in
    let is = sym (get_or_from_slice_get records c.loop-i.i told told c.at.ensures.told) in
    rw (c.in_ok-put_done.ensures.ok, append_assoc, ← record_lines-drop m records c.loop-i.i told (omega arith) is) c.loop-i.invariant

pub returns : goal.returns
returns g c =
    let m = g.M.Model.meaning c.args.model.now in
    sym (append-nil c.loop-i.into.items)
    ∙ ap (λ text. c.loop-i.into.items ++ text) (sym (record_lines-past m c.args.records.now.items c.loop-i.i (omega arith)))
    ∙ c.loop-i.invariant
