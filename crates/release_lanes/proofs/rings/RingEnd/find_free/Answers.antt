use Rattle.std.proofs.Common.{List, length, map, ap, sym, ◌∙◌, arith}
use lib.Seq.{map-set_same}
use Rattle.rtrb.specs.Ring.{received, known_items}
use Rattle.release_lanes.specs.Rings.{Ring, ring_out}
use Rattle.release_lanes.proofs.RingLemmas.{with_ins, other_row, this_row, ring_at}
use Rattle.release_lanes.proofs.rings.RingEnd.find_free.Goals as goal

pub slots_beside-requires : goal.slots_beside-requires
slots_beside-requires c =
    let same = ring_at c.args.self.now.ins.items c.args.from c.index_mut.result.now (ring_out c.args.sender.now) c.requires.within c.index_mut.ensures.value c.requires.pair in
    (ap (λ (x : Ring). x.0) same, ap (λ (x : Ring). x.1) same, ap (λ (x : Ring). x.2) same, ap (λ (x : Ring). x.3) same)

pub returns-clause-outline : goal.returns-clause-outline
returns-clause-outline c =
    let end = c.args.self.now in
    ap (λ (l : List Ring). record { number = end.number; outs = map ring_out end.outs.items; ins = l })
    (with_ins end c.args.from c.slots_beside.new.consumer c.index_mut.result.now c.slots_beside.ensures.consumer.0 c.index_mut.ensures.value)

pub returns-clause-received : goal.returns-clause-received
returns-clause-received c =
    map-set_same received c.args.self.now.ins.items c.args.from c.slots_beside.new.consumer c.index_mut.result.now (c.slots_beside.ensures.consumer.1 ∙ ap received c.index_mut.ensures.value)

pub returns-clause-known : goal.returns-clause-known
returns-clause-known c = λ other ne. other_row known_items c.args.self.now.ins.items c.args.from other c.slots_beside.new.consumer ne

pub returns-clause-free : goal.returns-clause-free
returns-clause-free c = λ rested.
    let old = c.index_mut.result.now in
    let says = c.slots_beside.ensures in
    let row = this_row received c.args.self.now.ins.items c.args.from old c.requires.within c.index_mut.ensures.value in
    let counts = says.all_free in
    let pushed = ap (λ l. length l) says.looked.1 in
    let popped = ap (λ l. length l) (says.consumer.1 ∙ sym row ∙ rested) in
    let capacity = says.looked.0.1 ∙ c.args.sender.now.writes.2 in
    let free = says.value in
    let slot = c.requires.slot in
    omega arith
