use Rattle.std.proofs.Common.{◌≡◌, ◌∙◌, ℕ, ◌++◌, ap, ◌+◌, get_or, length, arith}
use Rattle.std.proofs.Math.ListN.{set}
use Rattle.event_key.specs.declared.key.Key.{Key}
use Rattle.model_core.specs.declared.note.Note.{Note}
use Rattle.sim_stats.specs.Sums.{sums_of}
use Rattle.sim_stats.specs.Totals.{Summed, totals_of}
use Rattle.sim_stats.specs.Words.{words_told, words_at}
use Rattle.sim_stats.proofs.TotalsLemmas.{totals_of-more, totals_of-at, totals_of-length}
use Rattle.sim_stats.proofs.totals.Totals.add.Goals as goal

pub returns-clause-totals : goal.returns-clause-totals
returns-clause-totals c objects records summed =
    let told : Key × Note = (c.args.key.now, c.args.parts.now) in
    let dest = c.args.key.now.dest in
    let new = c.add.new.self in
    let whole = c.self.view_is ∙ summed in
    let many = ap (λ (s : Summed). length s.objects) summed ∙ totals_of-length objects records in
    let object : c.index_mut-sums.result.now ≡ sums_of (words_told dest records) =
    c.index_mut-sums.ensures.value ∙ ap (λ (s : Summed). get_or s.objects dest c.index_mut-sums.result.now) whole
    ∙ totals_of-at objects records dest c.index_mut-sums.result.now (omega (arith, many)) in
    let added =
    c.add.ensures.sums (words_told dest records) object
    ∙ ap (λ time. sums_of (words_told dest records ++ words_at time c.args.parts.now)) c.time_of-time.ensures in
    let with_new : ℕ → Summed → Summed = λ time s. record { objects = set s.objects dest new; records = s.records + 1; last = time } in
    ap (with_new c.time_of-time.result) whole ∙ ap (λ time. with_new time (totals_of objects records)) c.time_of-time.ensures
    ∙ totals_of-more objects records told new added
