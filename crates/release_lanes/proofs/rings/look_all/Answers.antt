use Rattle.std.proofs.Common.{◌≡◌, ◌<◌, ◌++◌, [], length, map, get_or, slice_index, set, sym, ap, subst, ⊎_elim, ◌∙◌, arith}
use lib.Seq.{map-set_same}
use Rattle.std.proofs.lemmas.Bool.{cases_eq}
use Rattle.std.proofs.lemmas.List.{map-set, length-map, get_or-map, get_or-set_same, get_or-set_other, get_or_default}
use Rattle.rtrb.specs.Ring.{sent, known_free}
use Rattle.release_lanes.specs.Lanes.{list_at, lane_at}
use Rattle.release_lanes.specs.Woven.{Outline}
use Rattle.release_lanes.specs.Rings.{Ring, HasSlot, ring_out, outline, outs_of, received_row, known_row, received_on, rest_on}
use Rattle.release_lanes.specs.RingLaws.{same_nodes}
use Rattle.release_lanes.proofs.Rows.{same_at, same_length}
use Rattle.release_lanes.proofs.RingEnds.{this_lane, set_lane, other_lane, kept_lane}
use Rattle.release_lanes.proofs.rings.look_all.Goals as goal

pub look-requires-clause-within : goal.look-requires-clause-within
look-requires-clause-within c =
    let ends = c.loop-to.ends in
    let was = c.args.ends.now in
    let to = c.loop-to.to in
    let e = c.index-ends-to.result in
    let wide = same_nodes (get_or was to e) (get_or ends to e) (same_at outline ends was to e c.loop-to.invariant.outlines) in
    let long = same_length outline ends was c.loop-to.invariant.outlines in
    let inside = c.requires.within to e (omega arith) in
    omega arith

pub look-requires-clause-pair : goal.look-requires-clause-pair
look-requires-clause-pair c = λ r.
    let ends = c.loop-to.ends in
    let was = c.args.ends.now in
    let to = c.loop-to.to in
    let e = c.index-ends-to.result in
    let count = c.requires.count in
    let long = same_length outline ends was c.loop-to.invariant.outlines in
    let many = same_length ring_out c.loop-to.senders c.args.senders.now c.loop-to.invariant.rings in
    sym (get_or-map ring_out c.loop-to.senders to c.index-senders-to.result r (omega arith))
    ∙ ap (λ l. get_or l to r) c.loop-to.invariant.rings
    ∙ c.requires.pairs to e r (omega arith)
    ∙ sym (ap (λ (o : Outline Ring). get_or o.ins c.args.from r) (same_at outline ends was to e c.loop-to.invariant.outlines))

pub look-requires-clause-slot : goal.look-requires-clause-slot
look-requires-clause-slot c =
    let senders = c.loop-to.senders in
    let to = c.loop-to.to in
    let s = get_or senders to c.index-senders-to.result in
    let count = c.requires.count in
    let long = same_length outline c.loop-to.ends c.args.ends.now c.loop-to.invariant.outlines in
    let many = same_length ring_out senders c.args.senders.now c.loop-to.invariant.rings in
    let same = ap (λ l. get_or l to (ring_out s)) (sym c.loop-to.invariant.rings) ∙ get_or-map ring_out senders to s (ring_out s) (omega arith) ∙ ap ring_out (get_or_default senders to s c.index-senders-to.result (omega arith)) in
    let slot = c.requires.slots to (ring_out s) (omega (arith, length-map c.args.senders.now ring_out)) in
    subst HasSlot same slot

pub loop-to-preserved : goal.loop-to-preserved
loop-to-preserved c =
    let ends = c.loop-to.ends in
    let senders = c.loop-to.senders in
    let from = c.args.from in
    let to = c.loop-to.to in
    let inv = c.loop-to.invariant in
    let e = get_or ends to c.index-ends-to.result in
    let new = c.look.new.self in
    let says = c.look.ensures in
    let count = c.requires.count in
    let many = same_length ring_out senders c.args.senders.now inv.rings in
    let long = same_length outline ends c.args.ends.now inv.outlines in
    let within : to < length ends = omega arith in
    let at : e ≡ get_or ends to e = get_or_default ends to c.index-ends-to.result e within in
    let later = set ends to new in record {
      outlines = map-set_same outline ends to new c.index-ends-to.result says.outline ∙ inv.outlines;
      outs_same = map-set_same outs_of ends to new c.index-ends-to.result says.outs ∙ inv.outs_same;
      received_same = map-set_same received_row ends to new c.index-ends-to.result says.received ∙ inv.received_same;
      rings = map-set_same ring_out senders to c.look.new.sender c.index-senders-to.result says.sender.0 ∙ inv.rings;
      senders_sent = map-set_same sent senders to c.look.new.sender c.index-senders-to.result says.sender.1 ∙ inv.senders_sent;
      known = λ i t ne. kept_lane known_row ends to t i e new within at (says.known i ne) ∙ inv.known i t ne;
      met = λ t less.
          ⊎_elim
          (λ (here : t ≡ to).
          ap (λ k. received_on later from k ++ rest_on later from k) here
          ∙ ap (λ l. l ++ rest_on later from to) (set_lane received_row ends to from new within)
          ∙ ap (λ l. list_at (received_row new) from ++ l) (set_lane known_row ends to from new within)
          ∙ says.met ∙ sym (get_or-map sent senders to c.index-senders-to.result [] (omega arith))
          ∙ ap (λ l. list_at l to) inv.senders_sent ∙ ap (λ k. list_at (map sent c.args.senders.now) k) (sym here))
          (λ (there : t ≡ to → ⊥).
          ap (λ l. l ++ rest_on later from t) (other_lane received_row ends to t from new there)
          ∙ ap (λ l. received_on ends from t ++ l) (other_lane known_row ends to t from new there) ∙ inv.met t (omega arith))
          (cases_eq t to);
      free = λ t less rested.
          let frees = map-set known_free senders to c.look.new.sender in
          ⊎_elim
          (λ (here : t ≡ to).
          let was : list_at (received_row (get_or ends to c.index-ends-to.result)) from ≡ sent (get_or senders to c.index-senders-to.result) =
          sym (this_lane received_row ends to from (get_or ends to c.index-ends-to.result) within (get_or_default ends to c.index-ends-to.result (get_or ends to c.index-ends-to.result) within))
          ∙ ap (λ rows. lane_at rows to from) inv.received_same
          ∙ ap (λ k. received_on c.args.ends.now from k) (sym here) ∙ rested ∙ ap (λ k. list_at (map sent c.args.senders.now) k) here
          ∙ ap (λ l. list_at l to) (sym inv.senders_sent) ∙ get_or-map sent senders to c.index-senders-to.result [] (omega arith) in
          let free = says.free was in
          let now : slice_index (map known_free (set senders to c.look.new.sender)) to ≡ known_free c.look.new.sender =
          ap (λ l. slice_index l to) frees ∙ get_or-set_same (map known_free senders) to (known_free c.look.new.sender) 0 (omega (arith, length-map senders known_free)) in
          rw here (omega arith))
          (λ (there : t ≡ to → ⊥).
          let had = inv.free t (omega arith) rested in
          let now : slice_index (map known_free (set senders to c.look.new.sender)) t ≡ slice_index (map known_free senders) t =
          ap (λ l. slice_index l t) frees ∙ get_or-set_other (map known_free senders) to t (known_free c.look.new.sender) 0 there in
          omega arith)
          (cases_eq t to);
    }
