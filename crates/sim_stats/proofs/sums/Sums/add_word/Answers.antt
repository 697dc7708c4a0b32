use Rattle.std.proofs.Common.{ap, ◌∙◌, ◌+◌, ◌*◌, ◌-◌}
use Rattle.std.specs.Int.{from_bool}
use Rattle.sim_stats.specs.Words.{TimedWord}
use Rattle.sim_stats.proofs.SumsLemmas.{adds_word}
use Rattle.sim_stats.proofs.sums.Sums.add_word.Goals as goal

pub returns-clause-sums : goal.returns-clause-sums
returns-clause-sums c told summed =
    let old = c.args.self.now in
    let one : TimedWord = record { time = c.args.time; word = c.args.word } in
    adds_word old told one _ _ _ _ _ _
    (ap (λ n. old.arrivals + n) (c.from-3.ensures ∙ ap from_bool c.is_arrival.ensures))
    (ap (λ n. old.served + n) (c.from-4.ensures ∙ ap from_bool c.is_service.ensures))
    (ap (λ n. old.lost + n) c.from-5.ensures)
    (ap (λ n. old.busy_ticks + n) (ap (λ n. n * c.from.result) c.from-ticks.ensures ∙ ap (λ n. (c.args.time - old.last) * n) c.from.ensures))
    (ap (λ n. old.waiting_ticks + n) (ap (λ n. n * c.from-2.result) c.from-ticks.ensures ∙ ap (λ n. (c.args.time - old.last) * n) c.from-2.ensures))
    c.after-self.ensures
    summed
