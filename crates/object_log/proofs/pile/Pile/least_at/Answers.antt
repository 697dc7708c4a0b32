-- An entry knows the least that it sends.
use Rattle.std.proofs.Common.{length, map, sym, ap, ◌∙◌, arith}
use Rattle.std.specs.Prelude.{slice_get}
use Rattle.std.proofs.lemmas.List.{length-map}
use Rattle.object_log.specs.declared.entry.Entry.{Entry}
use Rattle.object_log.specs.Rows.{PileView, dones_of}
use Rattle.object_log.specs.Sends.{least_of}
use Rattle.object_log.proofs.PileLemmas.{least-row}
use Rattle.object_log.proofs.pile.Pile.least_at.Goals as goal

pub returns : goal.returns
returns c =
    let es = c.in-Some.entries.items in
    let is = sym (ap (λ (v : PileView). v.done) c.self.view_is) ∙ ap dones_of c.in-Some.is in
    let long = ap length is in
    let same = length-map es (λ (e : Entry). e.done) in
    ap (λ ds. slice_get (map least_of ds) c.args.place) is ∙ least-row es c.args.place c.index.result.now (omega (arith, c.requires)) c.index.ensures
