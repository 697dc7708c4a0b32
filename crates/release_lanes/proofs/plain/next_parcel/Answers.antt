use Rattle.std.proofs.Common.{◌≡◌, ℕ, ◌≤◌, [], map, set, ap, sym, ◌∙◌, arith, below_more}
use lib.Seq.{map-set_same}
use Rattle.std.proofs.lemmas.List.{map-set}
use Rattle.release_lanes.specs.Lanes.{list_at}
use Rattle.release_lanes.specs.Plain.{outline, posted, standing}
use Rattle.release_lanes.proofs.Rows.{same_at, same_length, row_at}
use Rattle.release_lanes.proofs.plain.next_parcel.Goals as goal

pub take-requires : goal.take-requires
take-requires c =
    let same = same_at outline c.loop-from.ends c.args.ends.now c.loop-from.from c.index-ends-from.result c.loop-from.invariant.outlines in
    let slots = ap (λ (o : ℕ × ℕ). o.1) same in
    let long = same_length outline c.loop-from.ends c.args.ends.now c.loop-from.invariant.outlines in
    let enough = c.requires c.loop-from.from c.index-ends-from.result (omega arith) in
    omega arith

pub returns-in-Some-clause-outlines : goal.returns-in-Some-clause-outlines
returns-in-Some-clause-outlines c =
    map-set_same outline c.loop-from.ends c.loop-from.from c.take.new.self c.index-ends-from.result c.in-Some.ensures.outline ∙ c.loop-from.invariant.outlines

pub returns-in-Some-clause-some : goal.returns-in-Some-clause-some
returns-in-Some-clause-some c =
    let long = same_length outline c.loop-from.ends c.args.ends.now c.loop-from.invariant.outlines in
    let row = row_at posted c.loop-from.ends (map posted c.args.ends.now) c.loop-from.from c.index-ends-from.result (omega arith) c.loop-from.invariant.posted_same in record {
      within = omega arith;
      held = ap (λ r. list_at r c.args.to) row ∙ c.in-Some.ensures.some;
      none_before = c.loop-from.invariant.none_before;
      emptied =
          map-set posted c.loop-from.ends c.loop-from.from c.take.new.self
          ∙ ap (λ m. set m c.loop-from.from (posted c.take.new.self)) c.loop-from.invariant.posted_same
          ∙ ap (λ r. set (map posted c.args.ends.now) c.loop-from.from r) (c.in-Some.ensures.emptied ∙ ap (λ r. set r c.args.to []) (sym row));
    }

pub loop-from-preserved : goal.loop-from-preserved
loop-from-preserved c =
    let long = same_length outline c.loop-from.ends c.args.ends.now c.loop-from.invariant.outlines in
    let row = row_at posted c.loop-from.ends (map posted c.args.ends.now) c.loop-from.from c.index-ends-from.result (omega arith) c.loop-from.invariant.posted_same in record {
      outlines = map-set_same outline c.loop-from.ends c.loop-from.from c.take.new.self c.index-ends-from.result c.in_default.ensures.outline ∙ c.loop-from.invariant.outlines;
      posted_same = map-set_same posted c.loop-from.ends c.loop-from.from c.take.new.self c.index-ends-from.result c.in_default.ensures.none.1 ∙ c.loop-from.invariant.posted_same;
      none_before = λ k low high.
          below_more (λ j. c.args.first ≤ j → standing c.args.ends.now j c.args.to ≡ []) c.loop-from.from (λ j below above. c.loop-from.invariant.none_before j above below)
          (λ above. ap (λ r. list_at r c.args.to) row ∙ c.in_default.ensures.none.0) k high low;
    }
