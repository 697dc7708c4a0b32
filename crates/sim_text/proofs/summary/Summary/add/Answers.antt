use Rattle.std.proofs.Common.{ℕ, ◌+◌, sym, ap, ◌∙◌}
use Rattle.std.specs.Int.{from_bool}
use Rattle.sim_text.specs.declared.summary.Summary.{Summary}
use Rattle.sim_text.specs.WholeTexts.{is_whole, last_stamp}
use Rattle.sim_text.proofs.SummaryLemmas.{summary_of-more}
use Rattle.sim_text.proofs.summary.Summary.add.Goals as goal

pub returns : goal.returns
returns c n bs summed =
    let old = c.args.self.now in
    let b = c.args.bucket.now in
    let with_counts : ℕ → ℕ → Summary = λ cycles last. record { n = old.n; cycles = cycles; last = last } in
    ap (λ cycles. with_counts cycles c.last_stamp-self.result) (ap (λ more. old.cycles + more) (c.from.ensures ∙ ap from_bool c.is_whole.ensures))
    ∙ ap (with_counts (old.cycles + from_bool (is_whole b))) c.last_stamp-self.ensures
    ∙ ap (λ (s : Summary). record { n = s.n; cycles = s.cycles + from_bool (is_whole b); last = last_stamp s.last b.done }) summed
    ∙ sym (summary_of-more n bs b)
