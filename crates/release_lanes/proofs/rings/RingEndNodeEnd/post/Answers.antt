use Rattle.std.proofs.Common.{List, ap, map, get_or, arith, ◌∙◌, refl}
use lib.Seq.{map-set_same}
use Rattle.std.proofs.lemmas.List.{map-set, get_or-set_other, length-map}
use Rattle.rtrb.specs.Ring.{sent, known_free}
use Rattle.release_lanes.specs.Rings.{Ring, ring_in, ring_out, sent_row, free_row}
use Rattle.release_lanes.proofs.RingLemmas.{out_stays, one_pushed, within_from_free}
use Rattle.release_lanes.proofs.rings.RingEndNodeEnd.post.Goals as goal

pub returns-clause-end : goal.returns-clause-end
returns-clause-end c =
    let end = c.args.self.now in
    let old = c.index_mut.result.now in
    let new = c.push_reserved.new.self in
    ap (λ (l : List Ring). record { number = end.number; outs = l; ins = map ring_in end.ins.items })
    (map-set_same ring_out end.outs.items c.args.to new old (out_stays old new c.push_reserved.ensures.ring ∙ ap ring_out c.index_mut.ensures.value))

pub returns-clause-sent : goal.returns-clause-sent
returns-clause-sent c =
    let end = c.args.self.now in
    let within = within_from_free (free_row end) c.args.to c.requires.free in
    one_pushed sent end.outs.items (sent_row end) c.args.to c.push_reserved.new.self c.index_mut.result.now c.args.parcel refl
    (omega (arith, length-map end.outs.items known_free)) c.index_mut.ensures.value c.push_reserved.ensures.sent.0

pub returns-clause-free : goal.returns-clause-free
returns-clause-free c = λ other ne free.
    let end = c.args.self.now in
    let same = ap (λ l. get_or l other 0) (map-set known_free end.outs.items c.args.to c.push_reserved.new.self)
    ∙ get_or-set_other (map known_free end.outs.items) c.args.to other (known_free c.push_reserved.new.self) 0 ne in
    omega arith
