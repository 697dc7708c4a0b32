use Rattle.std.proofs.Common.{ℕ, ◌+◌, ◌<◌, ◌≤◌, subst, sym, ap, ◌∙◌, arith, get_or, length}
use Rattle.delta_exchange.specs.declared.change.Change.TheVariants.{Set}
use Rattle.queue_models.specs.Sites.{told}
use Rattle.queue_models.proofs.LoadLemmas.{load_is, load_next, load_end, waiting_after-le}
use Rattle.queue_models.proofs.telling.load_after.Goals as goal

pub loop-change-preserved : goal.loop-change-preserved
loop-change-preserved c =
    let at = c.loop-change.change-index in
    let lt : at < length c.args.changes.now = omega arith in
    let le : c.waiting_after-waiting.result ≤ c.loop-change.waiting + 1 =
    subst (λ n. n ≤ c.loop-change.waiting + 1) (sym c.waiting_after-waiting.ensures) (waiting_after-le (get_or c.args.changes.now at (Set 0 0)) c.loop-change.waiting) in
    record {
      counted = rw (c.busy_after-busy.ensures, c.waiting_after-waiting.ensures)
          (load_next c.args.changes.now at c.loop-change.busy c.loop-change.waiting (Set 0 0) lt ∙ c.loop-change.invariant.counted);
      few = omega (arith, le, c.loop-change.invariant.few);
    }

pub returns : goal.returns
returns c =
    let done : length c.args.changes.now ≤ c.loop-change.change-index = omega arith in
    ap (λ (pair : ℕ × ℕ). told 10 pair.0 pair.1)
    (sym (load_end c.args.changes.now c.loop-change.change-index c.loop-change.busy c.loop-change.waiting done)
    ∙ c.loop-change.invariant.counted
    ∙ load_is c.args.changes.now c.args.cells.now.contents c.requires.words c.requires.lines)
