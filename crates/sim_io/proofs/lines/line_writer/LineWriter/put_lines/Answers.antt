-- The lines so far, and those of the parts that are left.
use Rattle.std.proofs.Common.{◌+◌, ◌++◌, drop, sym, ap, ◌∙◌, append_assoc, append-nil, arith}
use Rattle.std.proofs.Transfers.{starts_with_trans}
use Rattle.sim_io.specs.Texts.{event_lines}
use Rattle.sim_io.proofs.TextLemmas.{event_lines-drop, event_lines-past}
use Rattle.sim_io.proofs.lines.line_writer.LineWriter.put_lines.Goals as goal

pub loop-part-preserved : goal.loop-part-preserved
loop-part-preserved g c =
    let m = g.M.Model.meaning c.args.model.now in
    let i = c.loop-part.part-index in
    let parts = c.args.parts.now in
    let rest = event_lines m c.args.key.now (drop (i + 1) parts) in
    record {
      lines = ap (λ text. text ++ rest) c.in_ok-put_line.ensures.ok
          ∙ append_assoc c.loop-part.into.items _ rest
          ∙ ap (λ text. c.loop-part.into.items ++ text) (sym (event_lines-drop m c.args.key.now parts i _ c.loop-part-test.true))
          ∙ c.loop-part.invariant.lines;
      prefix = starts_with_trans _ _ _ c.in_ok-put_line.ensures.prefix c.loop-part.invariant.prefix;
    }

pub returns-clause-ok : goal.returns-clause-ok
returns-clause-ok g c =
    let m = g.M.Model.meaning c.args.model.now in
    sym (append-nil c.loop-part.into.items)
    ∙ ap (λ text. c.loop-part.into.items ++ text) (sym (event_lines-past m c.args.key.now c.args.parts.now c.loop-part.part-index (omega arith)))
    ∙ c.loop-part.invariant.lines
