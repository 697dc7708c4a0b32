use Rattle.std.proofs.Common.{◌-◌, ◌+◌, ◌<◌, ◌≤◌, ◌∙◌, ℕ, arith}
use Rattle.random_streams.specs.Words.{words_from}
use Rattle.random_streams.proofs.Firsts.{first_trial_is}
use Rattle.random_streams.proofs.Places.{moved-more, words_from-moved, later_missed, missed_to_last}
use Rattle.random_streams.proofs.stream.Stream.trials.Goals as goal

pub returns-then-is_below-clause-trial : goal.returns-then-is_below-clause-trial
returns-then-is_below-clause-trial c =
    let now = c.args.self.now in
    let words = words_from now.seed now.object now.place in
    let read = c.read_until_below-more in
    let last = c.loop-read.read + (read.result.0 - 1) in
    let below = rw c.if-is_below.true at read.ensures.below in
    let hit : words last < c.args.p
    = omega (arith, words_from-moved now c.loop-read.self c.loop-read.read (read.result.0 - 1) c.loop-read.invariant.moved, below) in
    let missed : (k : ℕ) → k < last → c.args.p ≤ words k = later_missed now c.loop-read.self c.args.p c.loop-read.read (read.result.0 - 1)
    c.loop-read.invariant.moved c.loop-read.invariant.misses (λ k h. read.ensures.misses k (omega arith)) in
    let first = first_trial_is c.args.p c.args.cap words last (omega arith) missed (λ _. hit) in
    omega arith

pub loop-read-preserved : goal.loop-read-preserved
loop-read-preserved c =
    let now = c.args.self.now in
    let read = c.read_until_below-more in
    let last = rw c.if-is_below.false at read.ensures.missed in
    record {
      moved = read.ensures.place ∙ moved-more now c.loop-read.self c.loop-read.read read.result.0 c.loop-read.invariant.moved;
      within = omega arith;
      misses = later_missed now c.loop-read.self c.args.p c.loop-read.read read.result.0 c.loop-read.invariant.moved c.loop-read.invariant.misses
          (missed_to_last c.loop-read.self c.args.p read.result.0 read.ensures.misses last);
    }

pub returns-clause-trial : goal.returns-clause-trial
returns-clause-trial c =
    let now = c.args.self.now in
    let words = words_from now.seed now.object now.place in
    let first = first_trial_is c.args.p c.args.cap words (c.args.cap - 1) (omega arith)
    (λ k h. c.loop-read.invariant.misses k (omega arith)) (λ h. absurd (omega arith)) in
    omega arith
