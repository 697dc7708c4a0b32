use Rattle.std.proofs.Common.{◌≡◌, ◌<◌, List, [], ◌∷◌, map, ap, sym, length, ◌∙◌, arith, below_more}
use Rattle.std.proofs.lemmas.List.{nil_from_length}
use Rattle.rtrb.specs.Ring.{received, known_items}
use Rattle.release_lanes.specs.Lanes.{list_at}
use Rattle.release_lanes.specs.Rings.{Ring, ring_out, outline, received_row, known_row}
use Rattle.release_lanes.proofs.RingLemmas.{with_ins, one_pushed, other_row, this_row, set_row}
use Rattle.release_lanes.proofs.rings.RingEnd.next_parcel.Goals as goal

pub returns-then-cached_slots-gt0-clause-outline : goal.returns-then-cached_slots-gt0-clause-outline
returns-then-cached_slots-gt0-clause-outline c =
    let end = c.loop-from.self in
    ap (λ (l : List Ring). record { number = end.number; outs = map ring_out end.outs.items; ins = l })
    (with_ins end c.loop-from.from c.pop_known.new.self c.index_mut.result.now c.pop_known.ensures.ring c.index_mut.ensures.value)
    ∙ ap outline c.loop-from.invariant.0

pub returns-then-cached_slots-gt0-clause-some : goal.returns-then-cached_slots-gt0-clause-some
returns-then-cached_slots-gt0-clause-some c =
    let end = c.loop-from.self in
    let same = c.loop-from.invariant.0 in
    let from = c.loop-from.from in
    let new = c.pop_known.new.self in
    let old = c.index_mut.result.now in
    let at = c.index_mut.ensures.value in
    let long = ap (λ e. length e.ins.items) same in
    let count = c.len-from-end.ensures in
    let ok = c.args.self.now.ins.ok.0 in
    let within : from < length end.ins.items = omega arith in record {
      within = omega arith;
      none_before = c.loop-from.invariant.1;
      first = ap (λ e. list_at (known_row e) from) (sym same) ∙ this_row known_items end.ins.items from old within at ∙ c.pop_known.ensures.received.1
          ∙ ap (λ l. c.pop_known.result ∷ l) (sym (set_row known_items end.ins.items from new within));
      last = one_pushed received end.ins.items (received_row c.args.self.now) from new old c.pop_known.result (ap received_row same) within at c.pop_known.ensures.received.0;
      others = λ other ne. other_row known_items end.ins.items from other new ne ∙ ap (λ e. list_at (known_row e) other) same;
    }

pub loop-from-preserved : goal.loop-from-preserved
loop-from-preserved c =
    let end = c.loop-from.self in
    let same = c.loop-from.invariant.0 in
    let from = c.loop-from.from in
    let long = ap (λ e. length e.ins.items) same in
    let count = c.len-from-end.ensures in
    let ok = c.args.self.now.ins.ok.0 in
    let within : from < length end.ins.items = omega arith in
    let counted = c.cached_slots.ensures in
    let none : length (known_items c.index.result.now) ≡ 0 = omega arith in (
      same,
      below_more (λ k. list_at (known_row c.args.self.now) k ≡ []) from c.loop-from.invariant.1
          (ap (λ e. list_at (known_row e) from) (sym same) ∙ this_row known_items end.ins.items from c.index.result.now within c.index.ensures ∙ nil_from_length (known_items c.index.result.now) none),
    )
