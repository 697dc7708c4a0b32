use Rattle.std.proofs.Common.{◌≡◌, ◌<◌, List, [], map, length, ap, sym, ◌∙◌, arith, rules, below_more}
use lib.Seq.{map-set_same}
use Rattle.rtrb.specs.Ring.{received, known_items}
use Rattle.release_lanes.specs.Lanes.{list_at}
use Rattle.release_lanes.specs.Rings.{Ring, ring_out, received_row, known_row}
use Rattle.release_lanes.specs.RingLaws.{same_nodes}
use Rattle.release_lanes.proofs.RingLemmas.{one_pushed, nothing, with_ins, other_row, this_row}
use Rattle.release_lanes.proofs.rings.RingEndNodeEnd.early.Goals as goal

pub returns-in-Ok-clause-end : goal.returns-in-Ok-clause-end
returns-in-Ok-clause-end c =
    let end = c.loop-from.self in
    ap (λ (l : List Ring). record { number = end.number; outs = map ring_out end.outs.items; ins = l })
    (with_ins end c.loop-from.from c.pop.new.self c.index_mut.result.now c.in-Ok.ensures.ring c.index_mut.ensures.value)
    ∙ c.loop-from.invariant.same

pub returns-in-Ok-clause-some : goal.returns-in-Ok-clause-some
returns-in-Ok-clause-some c =
    let end = c.loop-from.self in
    let long = same_nodes c.args.self.now end c.loop-from.invariant.same in
    let count = c.len-from-end.ensures in
    let ok = c.args.self.now.ins.ok.0 in
    record {
      from = c.loop-from.from;
      within = omega arith;
      last =
          one_pushed received end.ins.items (received_row c.args.self.now) c.loop-from.from c.pop.new.self c.index_mut.result.now c.in-Ok.parcel
          c.loop-from.invariant.received_same (omega arith) c.index_mut.ensures.value c.in-Ok.ensures.ok.0;
    }

pub loop-from-preserved : goal.loop-from-preserved
loop-from-preserved c =
    let inv = c.loop-from.invariant in
    let end = c.loop-from.self in
    let from = c.loop-from.from in
    let old = c.index_mut.result.now in
    let new = c.pop.new.self in
    let long = same_nodes c.args.self.now end inv.same in
    let count = c.len-from-end.ensures in
    let ok = c.args.self.now.ins.ok.0 in
    let within : from < length end.ins.items = omega arith in record {
      same = ap (λ (l : List Ring). record { number = end.number; outs = map ring_out end.outs.items; ins = l })
          (with_ins end from new old c.in_default.ensures.ring c.index_mut.ensures.value) ∙ inv.same;
      received_same = map-set_same received end.ins.items from new old (c.in_default.ensures.empty.0 ∙ ap received c.index_mut.ensures.value) ∙ inv.received_same;
      outs_same = inv.outs_same;
      none_known = below_more (λ k. list_at (known_row c.args.self.now) k ≡ []) from inv.none_known
          (sym (inv.later_same from (omega arith)) ∙ this_row known_items end.ins.items from old within c.index_mut.ensures.value
          ∙ nothing (known_items old) (λ full. let e = c.in_default.ensures.succeeds full in search rules));
      later_same = λ k above. other_row known_items end.ins.items from k new (λ e. absurd (omega arith)) ∙ inv.later_same k (omega arith);
    }
