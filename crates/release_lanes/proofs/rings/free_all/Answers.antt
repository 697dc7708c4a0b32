use Rattle.std.proofs.Common.{◌≡◌, ℕ, map, length, ap, sym, subst, ⊎_elim, ◌∙◌, arith}
use Rattle.std.proofs.lemmas.Bool.{cases_eq}
use Rattle.release_lanes.specs.Lanes.{lane_at}
use Rattle.release_lanes.specs.Rings.{outline, AreConnected}
use Rattle.release_lanes.proofs.Rows.{same_length}
use Rattle.release_lanes.proofs.RingEnds.{connected_like}
use Rattle.release_lanes.proofs.rings.free_all.Goals as goal

pub free-requires-clause-connected : goal.free-requires-clause-connected
free-requires-clause-connected c =
    let inv = c.loop-from.invariant in
    let P : ℕ → Type 0 = λ n. AreConnected n (map outline c.loop-from.ends) in
    subst P (sym (same_length outline c.loop-from.ends c.args.ends.now inv.outlines)) (connected_like (length c.args.ends.now) c.args.ends.now c.loop-from.ends c.requires.connected inv.outlines)

pub free-requires-clause-rested : goal.free-requires-clause-rested
free-requires-clause-rested c = λ to less.
    let inv = c.loop-from.invariant in
    let from = c.loop-from.from in
    let long = same_length outline c.loop-from.ends c.args.ends.now inv.outlines in
    ap (λ rows. lane_at rows to from) inv.received_same ∙ c.requires.rested from to (omega arith) (omega arith) ∙ sym (ap (λ rows. lane_at rows from to) inv.sent_same)

pub loop-from-preserved : goal.loop-from-preserved
loop-from-preserved c =
    let inv = c.loop-from.invariant in
    let says = c.free.ensures in
    let from = c.loop-from.from in
    let long = same_length outline c.loop-from.ends c.args.ends.now inv.outlines in record {
      outlines = says.outlines ∙ inv.outlines;
      sent_same = says.sent ∙ inv.sent_same;
      received_same = says.received ∙ inv.received_same;
      free = λ i to below less.
          ⊎_elim
          (λ (here : i ≡ from). rw here (says.free to (omega arith)))
          (λ (there : i ≡ from → ⊥). let had = inv.free i to (omega arith) less in let same = says.others i to there in omega arith)
          (cases_eq i from);
    }
