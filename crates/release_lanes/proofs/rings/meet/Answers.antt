use Rattle.std.proofs.Common.{◌≡◌, ◌<◌, ◌++◌, length, map, get_or, slice_index, set, sym, ap, subst, refl, All, [], List, ◌∙◌, arith}
use lib.Seq.{map-set_same}
use Rattle.std.proofs.lemmas.List.{map-set, length-map, get_or_default, get_or-set_same, get_or-set_other, length-set, with_items_is}
use Rattle.std.specs.Vec.{with_items}
use Rattle.std.proofs.lemmas.List.Elements.{All-set}
use Rattle.rtrb.specs.Ring.{sent, known_free}
use Rattle.release_lanes.specs.declared.rings.RingEnd.{RingEnd}
use Rattle.release_lanes.specs.Lanes.{list_at, lane_at}
use Rattle.release_lanes.specs.Woven.{Outline, with_outs}
use Rattle.release_lanes.specs.Rings.{Ring, Sender, HasSlot, free_row, ring_out, ring_in, outline, sent_row, received_row, known_row, received_on, rest_on}
use Rattle.release_lanes.proofs.Rows.{same_at, same_length}
use Rattle.release_lanes.proofs.RingEnds.{woven_ins, woven_outs, woven_pairs, outs_show, slots_at, put_back, this_lane}
use Rattle.release_lanes.proofs.rings.meet.Goals as goal
use Rattle.release_lanes.proofs.rings.meet.Goals.{After-drop-ends}

pub look_all-requires-clause-count : goal.look_all-requires-clause-count
look_all-requires-clause-count c =
    let ends = c.args.ends.now in
    let from = c.args.from in
    let senders = ap (λ v. length v.items) c.replace-senders.ensures.value in
    let slice = ap length c.as_mut_slice.ensures.value in
    let wide = woven_outs (length ends) ends from c.index-ends-from.result c.requires.connected.woven c.requires.within in
    omega (arith, length-set {A = RingEnd})

pub look_all-requires-clause-within : goal.look_all-requires-clause-within
look_all-requires-clause-within c =
    let ends = c.args.ends.now in
    let from = c.args.from in
    let inside = c.requires.within in
    let P : RingEnd → Type 0 = λ end. from < length end.ins.items in
    All-set P ends from _
    (let wide = woven_ins (length ends) ends from c.index-ends-from.result c.requires.connected.woven inside in omega arith)
    (λ k d within. let wide = woven_ins (length ends) ends k d c.requires.connected.woven within in omega arith)

pub look_all-requires-clause-pairs : goal.look_all-requires-clause-pairs
look_all-requires-clause-pairs c = λ to d r less.
    let ends = c.args.ends.now in
    let from = c.args.from in
    let e = get_or ends from c.index-ends-from.result in
    let out : RingEnd = record { number = e.number; outs = c.replace-senders.new.dest; ins = e.ins } in
    let inside : to < length ends = omega (arith, length-set {A = RingEnd}) in
    ap (λ l. get_or (map ring_out l) to r) (c.as_mut_slice.ensures.value ∙ ap (λ v. v.items) c.replace-senders.ensures.value)
    ∙ woven_pairs (length ends) ends from to c.index-ends-from.result d r c.requires.connected.woven c.requires.within inside
    ∙ sym (ap (λ v. get_or (map ring_in v.items) from r)
    (same_at (λ (x : RingEnd). x.ins) (set ends from out) ends to d (map-set_same (λ (x : RingEnd). x.ins) ends from out c.index-ends-from.result refl)))

pub look_all-requires-clause-slots : goal.look_all-requires-clause-slots
look_all-requires-clause-slots c =
    let P : List Sender → Type 0 = λ senders. All HasSlot (map ring_out senders) in
    subst P (sym (c.as_mut_slice.ensures.value ∙ ap (λ v. v.items) c.replace-senders.ensures.value))
    (slots_at (length c.args.ends.now) c.args.ends.now c.args.from c.index-ends-from.result c.requires.connected c.requires.within)

-- the senders as they were taken out
taken_out : (c : After-drop-ends) → c.as_mut_slice.result.now ≡ (get_or c.args.ends.now c.args.from c.index-ends-from.result).outs.items
taken_out c = c.as_mut_slice.ensures.value ∙ ap (λ v. v.items) c.replace-senders.ensures.value

-- the end at the place, and the same while what it sends on is out
abbrev held : After-drop-ends → RingEnd
held c = get_or c.args.ends.now c.args.from c.index-ends-from.result

abbrev bare : After-drop-ends → RingEnd
bare c = record { number = (held c).number; outs = c.replace-senders.new.dest; ins = (held c).ins }

-- the end as it is found again, and with what it sends on put back
abbrev found : After-drop-ends → RingEnd
found c = get_or c.look_all.new.ends c.args.from c.index-ends-from-2.result

abbrev back : After-drop-ends → RingEnd
back c = record { number = (found c).number; outs = with_items c.replace-senders.result c.look_all.new.senders; ins = (found c).ins }

is_held : (c : After-drop-ends) → held c ≡ get_or c.args.ends.now c.args.from (held c)
is_held c = get_or_default c.args.ends.now c.args.from c.index-ends-from.result (held c) c.requires.within

-- the senders as they are put back
are_whole : (c : After-drop-ends) → (with_items c.replace-senders.result c.look_all.new.senders).items ≡ c.look_all.new.senders
are_whole c =
    let long = same_length sent c.look_all.new.senders c.as_mut_slice.result.now c.look_all.ensures.senders.1 in
    let had = ap length c.as_mut_slice.ensures.value in
    let ok = c.replace-senders.result.ok.0 in
    with_items_is c.replace-senders.result c.look_all.new.senders (omega arith)

pub returns-clause-outlines : goal.returns-clause-outlines
returns-clause-outlines c =
    let rings = ap (map ring_out) (are_whole c) ∙ c.look_all.ensures.senders.0 ∙ ap (map ring_out) (taken_out c) in
    let same = same_at outline c.look_all.new.ends (set c.args.ends.now c.args.from (bare c)) c.args.from c.index-ends-from-2.result c.look_all.ensures.outlines
    ∙ ap outline (get_or-set_same c.args.ends.now c.args.from (bare c) c.index-ends-from-2.result c.requires.within) in
    put_back outline c.args.ends.now c.look_all.new.ends c.args.from (held c) (bare c) (back c) c.requires.within (is_held c) c.look_all.ensures.outlines
    (ap (λ (o : Outline Ring). with_outs o (map ring_out (with_items c.replace-senders.result c.look_all.new.senders).items)) same ∙ ap (λ l. with_outs (outline (held c)) l) rings)

sent_back : goal.returns-clause-sent
sent_back c =
    put_back sent_row c.args.ends.now c.look_all.new.ends c.args.from (held c) (bare c) (back c) c.requires.within (is_held c) (outs_show (λ v. map sent v.items) c.look_all.new.ends (set c.args.ends.now c.args.from (bare c)) c.look_all.ensures.outs)
    (ap (map sent) (are_whole c) ∙ c.look_all.ensures.senders.1 ∙ ap (map sent) (taken_out c))

pub returns-clause-sent : goal.returns-clause-sent
returns-clause-sent c = sent_back c

pub returns-clause-received : goal.returns-clause-received
returns-clause-received c =
    map-set_same received_row c.look_all.new.ends c.args.from _ c.index-ends-from-2.result refl
    ∙ c.look_all.ensures.received
    ∙ map-set_same received_row c.args.ends.now c.args.from _ c.index-ends-from.result refl

pub returns-clause-known : goal.returns-clause-known
returns-clause-known c = λ i to ne.
    ap (λ rows. lane_at rows to i) (map-set_same known_row c.look_all.new.ends c.args.from _ c.index-ends-from-2.result refl)
    ∙ c.look_all.ensures.known i to ne
    ∙ ap (λ rows. lane_at rows to i) (map-set_same known_row c.args.ends.now c.args.from _ c.index-ends-from.result refl)

pub returns-clause-met : goal.returns-clause-met
returns-clause-met c = λ to less.
    ap (λ rows. lane_at rows to c.args.from ++ rest_on (set c.look_all.new.ends c.args.from (back c)) c.args.from to) (map-set_same received_row c.look_all.new.ends c.args.from (back c) c.index-ends-from-2.result refl)
    ∙ ap (λ rows. received_on c.look_all.new.ends c.args.from to ++ lane_at rows to c.args.from) (map-set_same known_row c.look_all.new.ends c.args.from (back c) c.index-ends-from-2.result refl)
    ∙ c.look_all.ensures.met to (omega (arith, length-set {A = RingEnd}))
    ∙ ap (λ l. list_at (map sent l) to) (taken_out c)
    ∙ sym (this_lane sent_row c.args.ends.now c.args.from to (held c) c.requires.within (is_held c))
    ∙ sym (ap (λ rows. lane_at rows c.args.from to) (sent_back c))

pub returns-clause-others : goal.returns-clause-others
returns-clause-others c = λ i to ne.
    ap (λ r. slice_index r to)
    (ap (λ rows. get_or rows i []) (map-set free_row c.look_all.new.ends c.args.from (back c)) ∙ get_or-set_other (map free_row c.look_all.new.ends) c.args.from i (free_row (back c)) [] ne
    ∙ ap (λ rows. get_or rows i []) (outs_show (λ v. map known_free v.items) c.look_all.new.ends (set c.args.ends.now c.args.from (bare c)) c.look_all.ensures.outs)
    ∙ ap (λ rows. get_or rows i []) (map-set free_row c.args.ends.now c.args.from (bare c)) ∙ get_or-set_other (map free_row c.args.ends.now) c.args.from i (free_row (bare c)) [] ne)

pub returns-clause-free : goal.returns-clause-free
returns-clause-free c = λ to less rested.
    let rests : received_on (set c.args.ends.now c.args.from (bare c)) c.args.from to ≡ list_at (map sent c.as_mut_slice.result.now) to =
    ap (λ rows. lane_at rows to c.args.from) (map-set_same received_row c.args.ends.now c.args.from (bare c) c.index-ends-from.result refl)
    ∙ rested ∙ this_lane sent_row c.args.ends.now c.args.from to (held c) c.requires.within (is_held c) ∙ ap (λ l. list_at (map sent l) to) (sym (taken_out c)) in
    let free = c.look_all.ensures.free to (omega (arith, length-set {A = RingEnd})) rests in
    let long = same_length outline c.look_all.new.ends (set c.args.ends.now c.args.from (bare c)) c.look_all.ensures.outlines in
    let inside = c.requires.within in
    let within : c.args.from < length (map free_row c.look_all.new.ends) = omega (arith, length-map c.look_all.new.ends free_row, length-set {A = RingEnd}) in
    let row = ap (λ rows. get_or rows c.args.from []) (map-set free_row c.look_all.new.ends c.args.from (back c)) ∙ get_or-set_same (map free_row c.look_all.new.ends) c.args.from (free_row (back c)) [] within ∙ ap (map known_free) (are_whole c) in
    let now = ap (λ r. slice_index r to) row in
    omega arith
