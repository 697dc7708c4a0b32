-- The ends of rings of all nodes: new ones, and what a change of one leaves.
use Rattle.std.proofs.Common.{◌≡◌, ◌≢◌, ⊎_elim, ℕ, zero, suc, ◌<◌, List, [], ◌∷◌, ◌++◌, map, length, get_or, set, sym, subst, ap, ◌∙◌, refl, arith, append_assoc}
use Rattle.std.specs.Prelude.{All, Vec}
use Rattle.std.specs.declared.alloc.Global.{Global}
use Rattle.std.specs.List.{range_with_len}
use mathlib.Core.List.{map-map}
use lib.Seq.{map-set_same}
use Rattle.std.proofs.lemmas.Bool.{cases_eq}
use Rattle.std.proofs.lemmas.List.{append-nil, map-set, map-id, get_or-map, get_or-set_same, get_or-set_other, length-map, set-set, set-get_or}
use Rattle.std.proofs.lemmas.Option.{slice_get_within, get_or_from_slice_get}
use Rattle.std.proofs.lemmas.List.FromFn.{fill_by_all}
use Rattle.std.proofs.lemmas.List.Elements.{All-head, All-tail, All-map, All-weaker}
use Rattle.rtrb.specs.Ring.{sent, received, known_items}
use Rattle.release_lanes.specs.declared.parcel.Parcel.{Parcel}
use Rattle.release_lanes.specs.declared.rings.RingEnd.{RingEnd}
use Rattle.release_lanes.specs.Lanes.{TakesRest, Meets, NothingRests, AllReceived, list_at, lane_at}
use Rattle.release_lanes.specs.Woven.{Outline, IsWoven}
use Rattle.release_lanes.specs.Rings.{Ring, Sender, ring_out, ring_in, outline, outs_of, sent_row, received_row, known_row, HasSlot, IsNewSender, IsNewReceiver, IsNew, sent_on, received_on, rest_on, TakesKnown, AreConnected, AreBack}
use Rattle.release_lanes.proofs.Weaving.{bare}

-- ends that are woven

pub woven_length : (nodes done : ℕ) (ends : List RingEnd) → IsWoven nodes done (map outline ends) → length ends ≡ nodes
woven_length nodes done ends woven = sym (length-map ends outline) ∙ woven.count

outline_at : (ends : List RingEnd) (k : ℕ) (d : RingEnd) → k < length ends → get_or (map outline ends) k (outline d) ≡ outline (get_or ends k d)
outline_at ends k d within = get_or-map outline ends k d (outline d) within

pub woven_number : (nodes : ℕ) (ends : List RingEnd) (k : ℕ) (d : RingEnd) → IsWoven nodes nodes (map outline ends) → k < length ends → (get_or ends k d).number ≡ k
woven_number nodes ends k d woven within =
    let long = woven_length nodes nodes ends woven in
    sym (ap (λ (o : Outline Ring). o.number) (outline_at ends k d within)) ∙ woven.numbers k (outline d) (omega arith)

pub woven_numbers : (nodes : ℕ) (ends : List RingEnd) → IsWoven nodes nodes (map outline ends) → map (λ (e : RingEnd). e.number) ends ≡ range_with_len 0 nodes
woven_numbers nodes ends woven =
    let os = map outline ends in
    let number : Outline Ring → ℕ = λ o. o.number in
    sym (map-map number outline ends)
    ∙ fill_by_all (λ (k : ℕ). k) (map number os) nodes 0 (length-map os number ∙ woven.count)
    (λ k less. get_or-map number os k (bare 0) 0 (omega (arith, woven.count)) ∙ woven.numbers k (bare 0) less)
    ∙ map-id (range_with_len 0 nodes)

pub woven_ins : (nodes : ℕ) (ends : List RingEnd) (k : ℕ) (d : RingEnd) → IsWoven nodes nodes (map outline ends) → k < length ends → length (get_or ends k d).ins.items ≡ nodes
woven_ins nodes ends k d woven within =
    let long = woven_length nodes nodes ends woven in
    sym (length-map (get_or ends k d).ins.items ring_in) ∙ sym (ap (λ (o : Outline Ring). length o.ins) (outline_at ends k d within)) ∙ woven.ins k (outline d) (omega arith)

pub woven_outs : (nodes : ℕ) (ends : List RingEnd) (k : ℕ) (d : RingEnd) → IsWoven nodes nodes (map outline ends) → k < length ends → length (get_or ends k d).outs.items ≡ nodes
woven_outs nodes ends k d woven within =
    let long = woven_length nodes nodes ends woven in
    sym (length-map (get_or ends k d).outs.items ring_out) ∙ sym (ap (λ (o : Outline Ring). length o.outs) (outline_at ends k d within)) ∙ woven.outs k (outline d) (omega arith)

pub woven_pairs : (nodes : ℕ) (ends : List RingEnd) (i j : ℕ) (d e : RingEnd) (r : Ring) → IsWoven nodes nodes (map outline ends) → i < length ends → j < length ends
    → get_or (map ring_out (get_or ends i d).outs.items) j r ≡ get_or (map ring_in (get_or ends j e).ins.items) i r
woven_pairs nodes ends i j d e r woven first second =
    let long = woven_length nodes nodes ends woven in
    let os = map outline ends in
    let here : get_or os i (outline d) ≡ outline (get_or ends i d) = outline_at ends i d first in
    let there : get_or os j (outline d) ≡ outline (get_or ends j e) = get_or-map outline ends j e (outline d) second in
    sym (ap (λ (o : Outline Ring). get_or o.outs j r) here) ∙ woven.pairs i j (outline d) r (omega arith) (omega arith) ∙ ap (λ (o : Outline Ring). get_or o.ins i r) there

-- new rings

all_empty : {T : Type 0} (rows : List (List T)) → All (λ row. row ≡ []) rows → (k : ℕ) → list_at rows k ≡ []
all_empty [] empty k = refl
all_empty (r ∷ rows) empty zero = All-head (λ row. row ≡ []) r rows empty
all_empty (r ∷ rows) empty (suc k) = all_empty rows (All-tail (λ row. row ≡ []) r rows empty) k

pub new_sent : (end : RingEnd) → IsNew end → (to : ℕ) → list_at (sent_row end) to ≡ []
new_sent end new to = all_empty (sent_row end) (All-map (λ row. row ≡ []) sent end.outs.items (All-weaker IsNewSender (λ s. sent s ≡ []) (λ s h. h.0) end.outs.items new.0)) to

pub new_received : (end : RingEnd) → IsNew end → (from : ℕ) → list_at (received_row end) from ≡ []
new_received end new from = all_empty (received_row end) (All-map (λ row. row ≡ []) received end.ins.items (All-weaker IsNewReceiver (λ s. received s ≡ []) (λ s h. h.0) end.ins.items new.1)) from

pub new_known : (end : RingEnd) → IsNew end → (from : ℕ) → list_at (known_row end) from ≡ []
new_known end new from = all_empty (known_row end) (All-map (λ row. row ≡ []) known_items end.ins.items (All-weaker IsNewReceiver (λ s. known_items s ≡ []) (λ s h. h.1) end.ins.items new.1)) from

new_lanes : (f : RingEnd → List (List Parcel)) → ((e : RingEnd) → IsNew e → (k : ℕ) → list_at (f e) k ≡ []) → (ends : List RingEnd) → All IsNew ends → (i j : ℕ) → lane_at (map f ends) i j ≡ []
new_lanes f none [] new i j = refl
new_lanes f none (e ∷ ends) new zero j = none e (All-head IsNew e ends new) j
new_lanes f none (e ∷ ends) new (suc i) j = new_lanes f none ends (All-tail IsNew e ends new) i j

pub new_rest : (ends : List RingEnd) → All IsNew ends → (from to : ℕ) → rest_on ends from to ≡ []
new_rest ends new from to = new_lanes known_row new_known ends new to from

new_slots : (ends : List RingEnd) → All IsNew ends → All (λ end. All HasSlot end.outs) (map outline ends)
new_slots ends new =
    All-map (λ (o : Outline Ring). All HasSlot o.outs) outline ends
    (All-weaker IsNew (λ e. All HasSlot (map ring_out e.outs.items))
    (λ e h. All-map HasSlot ring_out e.outs.items (All-weaker IsNewSender (λ s. HasSlot (ring_out s)) (λ s now. now.1) e.outs.items h.0)) ends new)

pub back_new : (nodes : ℕ) (ends : List RingEnd) → IsWoven nodes nodes (map outline ends) → All IsNew ends → AreBack nodes 0 0 ends
back_new nodes ends woven new = record {
  connected = record { woven = woven; slots = new_slots ends new };
  meets = λ from to _ _.
      ap (λ l. l ++ rest_on ends from to) (new_lanes received_row new_received ends new to from)
      ∙ new_rest ends new from to ∙ sym (new_lanes sent_row new_sent ends new from to);
  taken = λ from _. new_rest ends new from 0;
}

pub back_met : (nodes served : ℕ) (ends : List RingEnd) → AreConnected nodes (map outline ends) → Meets (length ends) (received_on ends) (rest_on ends) (sent_on ends)
    → AreBack nodes served 0 ends
back_met nodes served ends connected met =
    let long = woven_length nodes nodes ends connected.woven in record {
      connected = connected;
      meets = λ from to first second. met from to (omega arith) (omega arith);
      taken = λ from less. absurd (omega arith);
    }

-- where nothing rests, all was received
pub back_rested : (nodes served next : ℕ) (ends : List RingEnd) → AreBack nodes served next ends → NothingRests nodes (rest_on ends)
    → (i j : ℕ) → i < nodes → j < nodes → received_on ends i j ≡ sent_on ends i j
back_rested nodes served next ends back none i j first second =
    sym (append-nil (received_on ends i j)) ∙ ap (λ l. received_on ends i j ++ l) (sym (none i j first second)) ∙ back.meets i j first second

-- one end changes

module _ {T : Type 0} (f : RingEnd → List (List T)) (ends : List RingEnd) (t : ℕ) where
  pub this_lane : (i : ℕ) (e : RingEnd) → t < length ends → e ≡ get_or ends t e → lane_at (map f ends) t i ≡ list_at (f e) i
  this_lane i e within at = ap (λ r. list_at r i) (get_or-map f ends t e [] within ∙ ap f (sym at))

  pub set_lane : (i : ℕ) (new : RingEnd) → t < length ends → lane_at (map f (set ends t new)) t i ≡ list_at (f new) i
  set_lane i new within = ap (λ r. list_at r i) (ap (λ l. get_or l t []) (map-set f ends t new) ∙ get_or-set_same (map f ends) t (f new) [] (omega (arith, length-map ends f)))

  pub other_lane : (j i : ℕ) (new : RingEnd) → j ≢ t → lane_at (map f (set ends t new)) j i ≡ lane_at (map f ends) j i
  other_lane j i new ne = ap (λ r. list_at r i) (ap (λ l. get_or l j []) (map-set f ends t new) ∙ get_or-set_other (map f ends) t j (f new) [] ne)

  pub kept_lane : (j i : ℕ) (e new : RingEnd) → t < length ends → e ≡ get_or ends t e → list_at (f new) i ≡ list_at (f e) i → lane_at (map f (set ends t new)) j i ≡ lane_at (map f ends) j i
  kept_lane j i e new within at same =
      ⊎_elim
      (λ (here : j ≡ t).
      ap (λ k. lane_at (map f (set ends t new)) k i) here ∙ set_lane i new within ∙ same ∙ sym (this_lane i e within at) ∙ ap (λ k. lane_at (map f ends) k i) (sym here))
      (λ (there : j ≡ t → ⊥). other_lane j i new there)
      (cases_eq j t)

-- a parcel moves from what is known to what was received
pub row_meets : (e new : RingEnd) (from : ℕ) (parcel : Parcel) → TakesKnown e new from parcel
    → (i : ℕ) → list_at (received_row new) i ++ list_at (known_row new) i ≡ list_at (received_row e) i ++ list_at (known_row e) i
row_meets e new from parcel takes i =
    ⊎_elim
    (λ (here : i ≡ from).
    let moved : list_at (received_row new) from ++ list_at (known_row new) from ≡ list_at (received_row e) from ++ list_at (known_row e) from =
    ap (λ l. l ++ list_at (known_row new) from) takes.last.0 ∙ append_assoc (list_at (received_row e) from) (parcel ∷ []) (list_at (known_row new) from)
    ∙ ap (λ l. list_at (received_row e) from ++ l) (sym takes.first) in
    rw here moved)
    (λ (there : i ≡ from → ⊥).
    ap (λ l. l ++ list_at (known_row new) i) (takes.last.1 i there) ∙ ap (λ l. list_at (received_row e) i ++ l) (takes.others i there))
    (cases_eq i from)

-- the ends after a search for one node up to `next`
pub back_after : (nodes served first next : ℕ) (ends : List RingEnd) (e new : RingEnd) → AreBack nodes served first ends → served < nodes → e ≡ get_or ends served e
    → outline new ≡ outline e
    → sent_row new ≡ sent_row e
    → ((i : ℕ) → list_at (received_row new) i ++ list_at (known_row new) i ≡ list_at (received_row e) i ++ list_at (known_row e) i)
    → ((i : ℕ) → i < next → list_at (known_row new) i ≡ [])
    → AreBack nodes served next (set ends served new)
back_after nodes served first next ends e new back less at same sents moves none =
    let long = woven_length nodes nodes ends back.connected.woven in
    let within : served < length ends = omega arith in
    let C : List (Outline Ring) → Type 0 = λ os. AreConnected nodes os in record {
      connected = subst C (sym (map-set_same outline ends served new e (same ∙ ap outline at))) back.connected;
      meets = λ i j first second.
          let sent_same = ap (λ rows. lane_at rows i j) (map-set_same sent_row ends served new e (sents ∙ ap sent_row at)) in
          ⊎_elim
          (λ (here : j ≡ served).
          let now = ap (λ l. l ++ lane_at (map known_row (set ends served new)) served i) (set_lane received_row ends served i new within)
          ∙ ap (λ l. list_at (received_row new) i ++ l) (set_lane known_row ends served i new within)
          ∙ moves i
          ∙ ap (λ l. l ++ list_at (known_row e) i) (sym (this_lane received_row ends served i e within at))
          ∙ ap (λ l. lane_at (map received_row ends) served i ++ l) (sym (this_lane known_row ends served i e within at)) in
          ap (λ k. received_on (set ends served new) i k ++ rest_on (set ends served new) i k) here ∙ now
          ∙ ap (λ k. received_on ends i k ++ rest_on ends i k) (sym here) ∙ back.meets i j first second ∙ sym sent_same)
          (λ (there : j ≡ served → ⊥).
          ap (λ l. l ++ rest_on (set ends served new) i j) (other_lane received_row ends served j i new there)
          ∙ ap (λ l. received_on ends i j ++ l) (other_lane known_row ends served j i new there) ∙ back.meets i j first second ∙ sym sent_same)
          (cases_eq j served);
      taken = λ i below. set_lane known_row ends served i new within ∙ none i below;
    }

-- what taking a parcel leaves of the lanes
pub takes_one : (nodes to from : ℕ) (ends : List RingEnd) (e new : RingEnd) (parcel : Parcel) → IsWoven nodes nodes (map outline ends) → to < nodes → e ≡ get_or ends to e → TakesKnown e new from parcel
    → TakesRest nodes (rest_on ends) (rest_on (set ends to new)) (received_on ends) (received_on (set ends to new)) to parcel
takes_one nodes to from ends e new parcel woven less at takes =
    let long = woven_length nodes nodes ends woven in
    let within : to < length ends = omega arith in
    let wide : length e.ins.items ≡ nodes = ap (λ (x : RingEnd). length x.ins.items) at ∙ woven_ins nodes ends to e woven within in
    let inside = takes.within in record {
      from = from;
      within = omega arith;
      first = this_lane known_row ends to from e within at ∙ takes.first ∙ ap (λ l. parcel ∷ l) (sym (set_lane known_row ends to from new within));
      last = (
        set_lane received_row ends to from new within ∙ takes.last.0 ∙ ap (λ l. l ++ parcel ∷ []) (sym (this_lane received_row ends to from e within at)),
        (λ i j other. kept_lane received_row ends to j i e new within at (takes.last.1 i other)),
        (λ i j other. other_lane received_row ends to j i new other),
      );
    }

-- an element is taken out of a list, and put back after a change that a function doesn't see
pub put_back : {A B : Type 0} (f : A → B) (xs mid : List A) (k : ℕ) (e out back : A) → k < length xs → e ≡ get_or xs k e → map f mid ≡ map f (set xs k out) → f back ≡ f e
    → map f (set mid k back) ≡ map f xs
put_back f xs mid k e out back within at same is =
    map-set f mid k back ∙ ap (λ l. set l k (f back)) (same ∙ map-set f xs k out) ∙ set-set (map f xs) k (f out) (f back)
    ∙ ap (λ b. set (map f xs) k b) (is ∙ ap f at ∙ sym (get_or-map f xs k e (f e) within)) ∙ set-get_or (map f xs) k (f e)

pub connected_like : (nodes : ℕ) (ends later : List RingEnd) → AreConnected nodes (map outline ends) → map outline later ≡ map outline ends → AreConnected nodes (map outline later)
connected_like nodes ends later connected same = let P : List (Outline Ring) → Type 0 = λ os. AreConnected nodes os in subst P (sym same) connected

-- what the ends' outgoing rings show
pub outs_show : {B : Type 0} (f : Vec Sender Global → B) (xs ys : List RingEnd) → map outs_of xs ≡ map outs_of ys → map (λ (e : RingEnd). f e.outs) xs ≡ map (λ (e : RingEnd). f e.outs) ys
outs_show f xs ys same = sym (map-map f outs_of xs) ∙ ap (map f) same ∙ map-map f outs_of ys

-- one node's rings have slots
pub slots_at : (nodes : ℕ) (ends : List RingEnd) (k : ℕ) (d : RingEnd) → AreConnected nodes (map outline ends) → k < length ends → All HasSlot (map ring_out (get_or ends k d).outs.items)
slots_at nodes ends k d connected within =
    let P : Outline Ring → Type 0 = λ o. All HasSlot o.outs in
    subst P (outline_at ends k d within) (connected.slots k (outline d) (omega (arith, length-map ends outline)))

-- all was received: each end says so of each other
pub rested_ends : (nodes : ℕ) (ends later : List RingEnd) → length later ≡ nodes → map sent_row later ≡ map sent_row ends → map received_row later ≡ map received_row ends
    → ((i j : ℕ) → i < nodes → j < nodes → received_on ends i j ≡ sent_on ends i j)
    → AllReceived (λ end to. list_at (sent_row end) to) (λ end from. list_at (received_row end) from) later
rested_ends nodes ends later long sents receiveds rested from to sender receiver first second =
    let inside = slice_get_within later from sender first in
    let within = slice_get_within later to receiver second in
    sym (this_lane received_row later to from receiver within (sym (get_or_from_slice_get later to receiver receiver second)))
    ∙ ap (λ rows. lane_at rows to from) receiveds ∙ rested from to (omega arith) (omega arith) ∙ sym (ap (λ rows. lane_at rows from to) sents)
    ∙ this_lane sent_row later from to sender inside (sym (get_or_from_slice_get later from sender sender first))
