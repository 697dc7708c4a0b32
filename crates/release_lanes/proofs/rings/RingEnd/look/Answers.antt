use Rattle.std.proofs.Common.{◌<◌, List, map, length, get_or, ap, sym, slice_set, ◌++◌, ◌∙◌, arith}
use lib.Seq.{map-set_same}
use Rattle.rtrb.specs.Ring.{received, known_items}
use Rattle.release_lanes.specs.Lanes.{list_at}
use Rattle.release_lanes.specs.Rings.{Ring, ring_out}
use Rattle.release_lanes.specs.Woven.{Outline}
use Rattle.release_lanes.specs.RingLaws.{same_nodes}
use Rattle.release_lanes.proofs.RingLemmas.{with_ins, other_row, set_row, ring_at}
use Rattle.release_lanes.proofs.rings.RingEnd.look.Goals as goal

pub slots_beside-requires : goal.slots_beside-requires
slots_beside-requires c =
    let found = c.find_free.ensures in
    let end = c.find_free.new.self in
    let wide = same_nodes c.args.self.now end found.outline in
    let within = c.requires.within in
    let rings = ap (λ (o : Outline Ring). o.ins) found.outline in
    let same = ring_at end.ins.items c.args.from c.index_mut.result.now (ring_out c.find_free.new.sender) (omega arith) c.index_mut.ensures.value
    (λ r. found.sender.0 ∙ c.requires.pair r ∙ ap (λ l. get_or l c.args.from r) (sym rings)) in
    (ap (λ (x : Ring). x.0) same, ap (λ (x : Ring). x.1) same, ap (λ (x : Ring). x.2) same, ap (λ (x : Ring). x.3) same)

pub returns-clause-outline : goal.returns-clause-outline
returns-clause-outline c =
    let end = c.find_free.new.self in
    ap (λ (l : List Ring). record { number = end.number; outs = map ring_out end.outs.items; ins = l })
    (with_ins end c.args.from c.slots_beside.new.self c.index_mut.result.now c.slots_beside.ensures.looked.0 c.index_mut.ensures.value)
    ∙ c.find_free.ensures.outline

pub returns-clause-received : goal.returns-clause-received
returns-clause-received c =
    map-set_same received c.find_free.new.self.ins.items c.args.from c.slots_beside.new.self c.index_mut.result.now (c.slots_beside.ensures.looked.1 ∙ ap received c.index_mut.ensures.value)
    ∙ c.find_free.ensures.received

pub returns-clause-known : goal.returns-clause-known
returns-clause-known c = λ other ne. other_row known_items c.find_free.new.self.ins.items c.args.from other c.slots_beside.new.self ne ∙ c.find_free.ensures.known other ne

pub returns-clause-met : goal.returns-clause-met
returns-clause-met c =
    let ins = c.find_free.new.self.ins.items in
    let new = c.slots_beside.new.self in
    let wide = same_nodes c.args.self.now c.find_free.new.self c.find_free.ensures.outline in
    let inside = c.requires.within in
    let within : c.args.from < length ins = omega arith in
    ap (λ l. l ++ list_at (map known_items (slice_set ins c.args.from new)) c.args.from) (set_row received ins c.args.from new within)
    ∙ ap (λ l. received new ++ l) (set_row known_items ins c.args.from new within)
    ∙ c.slots_beside.ensures.fifo ∙ c.slots_beside.ensures.producer.1 ∙ c.find_free.ensures.sender.1

pub returns-clause-free : goal.returns-clause-free
returns-clause-free c = λ rested.
    let free = c.find_free.ensures.free rested in
    let more = c.slots_beside.ensures.producer.2 in
    omega arith
