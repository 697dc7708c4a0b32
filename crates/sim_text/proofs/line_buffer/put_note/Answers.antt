-- The lines so far, and those of the parts that are left.
use Rattle.std.proofs.Common.{◌++◌, sym, ap, ◌∙◌, append-nil, arith}
use Rattle.std.proofs.lemmas.Option.{get_or_from_slice_get}
use Rattle.sim_io.proofs.TextLemmas.{event_lines-past}
use Rattle.sim_text.proofs.RecordLemmas.{event_lines-put}
use Rattle.sim_text.proofs.line_buffer.put_note.Goals as goal

pub loop-i-preserved : goal.loop-i-preserved
loop-i-preserved g c =
    let m = g.M.Model.meaning c.args.model.now in
    let parts = c.args.note.now in
    let i = c.loop-i.i in
    let part = c.at.result in
    let is = sym (get_or_from_slice_get parts i part part c.at.ensures) in
    event_lines-put m c.args.key.now parts i part c.loop-i.into.items c.put_line.new.into.items _
    (omega arith) is c.in_ok-put_line.ensures.ok c.loop-i.invariant

pub returns : goal.returns
returns g c =
    let m = g.M.Model.meaning c.args.model.now in
    sym (append-nil c.loop-i.into.items)
    ∙ ap (λ text. c.loop-i.into.items ++ text) (sym (event_lines-past m c.args.key.now c.args.note.now c.loop-i.i (omega arith)))
    ∙ c.loop-i.invariant
