-- Plain slots: new ones, and what is left of them as parcels are taken.
use Rattle.std.proofs.Common.{◌≡◌, ◌⊎◌, inl, inr, ⊎_elim, ℕ, zero, suc, ◌-◌, ◌<◌, ◌≤◌, List, [], ◌∷◌, ◌++◌, map, length, take, drop, get_or, set, sym, ap, subst, ◌∙◌, refl, arith}
use Rattle.std.specs.Prelude.{Option, None, Some, All, option_to_list, slice_get}
use Rattle.std.specs.List.{range_with_len}
use mathlib.Core.List.{map-map}
use Rattle.std.proofs.lemmas.Bool.{cases_lt}
use Rattle.std.proofs.lemmas.List.{map-id, get_or-map, length-map}
use Rattle.std.proofs.lemmas.List.FromFn.{length-map-range_with_len, get_or-map-range_with_len}
use Rattle.std.proofs.lemmas.List.Elements.{All-head, All-tail}
use Rattle.std.proofs.lemmas.Option.{slice_get-get_or}
use Rattle.release_lanes.specs.declared.parcel.Parcel.{Parcel}
use Rattle.release_lanes.specs.declared.plain.PlainEnd.{PlainEnd}
use Rattle.release_lanes.specs.Lanes.{AddsOneOn, TakesRest, list_at, lane_at}
use Rattle.release_lanes.specs.Plain.{outline, posted, standing, delivered, TakesFirst, IsTeam, AreEmpty, AreBack}
use Rattle.release_lanes.proofs.Rows.{lent_whole, lane_at_other_row, lane_at_other_place, lane_at_emptied, emptied_falls}

pub team_length : (nodes : ℕ) (ends : List PlainEnd) → IsTeam nodes ends → length ends ≡ nodes
team_length nodes ends team = sym (length-map ends outline) ∙ ap length team ∙ length-map-range_with_len (λ (k : ℕ). (k, nodes)) 0 nodes

pub team_at : (nodes : ℕ) (ends : List PlainEnd) (k : ℕ) (d : PlainEnd) → IsTeam nodes ends → k < length ends → outline (get_or ends k d) ≡ (k, nodes)
team_at nodes ends k d team within =
    let long = team_length nodes ends team in
    sym (get_or-map outline ends k d (outline d) within) ∙ ap (λ l. get_or l k (outline d)) team
    ∙ get_or-map-range_with_len (λ (j : ℕ). (j, nodes)) 0 nodes k k (outline d) (omega arith) (omega arith)

pub team_numbers : (nodes : ℕ) (ends : List PlainEnd) → IsTeam nodes ends → map (λ (e : PlainEnd). e.number) ends ≡ range_with_len 0 nodes
team_numbers nodes ends team =
    sym (map-map (λ (o : ℕ × ℕ). o.0) outline ends) ∙ ap (map (λ (o : ℕ × ℕ). o.0)) team
    ∙ map-map (λ (o : ℕ × ℕ). o.0) (λ (k : ℕ). (k, nodes)) (range_with_len 0 nodes) ∙ map-id (range_with_len 0 nodes)

pub team_width : (nodes : ℕ) (ends : List PlainEnd) (k : ℕ) (d : PlainEnd) → IsTeam nodes ends → k < length ends → length (get_or ends k d).slots.items ≡ nodes
team_width nodes ends k d team within = ap (λ (o : ℕ × ℕ). o.1) (team_at nodes ends k d team within)

pub team_back : (nodes served : ℕ) (ends : List PlainEnd) → IsTeam nodes ends → AreBack nodes served 0 ends ends
team_back nodes served ends team = record { team = team; left = λ from to. inr refl; taken = λ from less. absurd (omega arith) }

-- empty slots

none_posted : {T : Type 0} (slots : List (Option T)) → All (λ slot. slot ≡ None) slots → (to : ℕ) → list_at (map option_to_list slots) to ≡ []
none_posted [] empty to = refl
none_posted (x ∷ slots) empty zero = ap option_to_list (All-head (λ slot. slot ≡ None) x slots empty)
none_posted (x ∷ slots) empty (suc to) = none_posted slots (All-tail (λ slot. slot ≡ None) x slots empty) to

pub empty_posted : (end : PlainEnd) → AreEmpty end → (to : ℕ) → list_at (posted end) to ≡ []
empty_posted end empty to = none_posted end.slots.items empty to

pub empty_standing : (ends : List PlainEnd) → All AreEmpty ends → (from to : ℕ) → standing ends from to ≡ []
empty_standing [] empty from to = refl
empty_standing (e ∷ ends) empty zero to = empty_posted e (All-head AreEmpty e ends empty) to
empty_standing (e ∷ ends) empty (suc from) to = empty_standing ends (All-tail AreEmpty e ends empty) from to

-- slots at rest

none_held : {T : Type 0} (slot : Option T) → option_to_list slot ≡ [] → slot ≡ None
none_held None e = refl
none_held (Some x) e = absurd cc

pub standing_at : (ends : List PlainEnd) (k to : ℕ) (d : PlainEnd) → k < length ends → standing ends k to ≡ list_at (posted (get_or ends k d)) to
standing_at ends k to d within = ap (λ r. list_at r to) (get_or-map posted ends k d [] within)

pub free_slot : (end : PlainEnd) (to : ℕ) → to < length end.slots.items → list_at (posted end) to ≡ [] → slice_get end.slots.items to ≡ Some None
free_slot end to within none =
    slice_get-get_or end.slots.items to None within ∙ ap Some (none_held (get_or end.slots.items to None) (sym (get_or-map option_to_list end.slots.items to None [] within) ∙ none))

-- what was delivered

pub delivered_more : {T : Type 0} (sent rest less : List T) (x : T) → (rest ≡ []) ⊎ (rest ≡ sent) → rest ≡ x ∷ [] → less ≡ []
    → take (length sent - length less) sent ≡ take (length sent - length rest) sent ++ x ∷ []
delivered_more sent rest less x (inl none) one gone = cc
delivered_more sent rest less x (inr all) one gone = let is : sent ≡ x ∷ [] = sym all ∙ one in rw (is, one, gone)

-- parcels are taken

empty_stays : {T : Type 0} (later now : List T) → (later ≡ []) ⊎ (later ≡ now) → now ≡ [] → later ≡ []
empty_stays later now (inl gone) none = gone
empty_stays later now (inr same) none = same ∙ none

still_left : {T : Type 0} (sent now later : List T) → (later ≡ []) ⊎ (later ≡ now) → (now ≡ []) ⊎ (now ≡ sent) → (later ≡ []) ⊎ (later ≡ sent)
still_left sent now later (inl gone) left = inl gone
still_left sent now later (inr same) (inl none) = inl (same ∙ none)
still_left sent now later (inr same) (inr all) = inr (same ∙ all)

-- the ends after a search for one node from `first` up to `next`, which leaves each slot or empties it
pub back_after : (nodes served first next : ℕ) (sent ends later : List PlainEnd) → AreBack nodes served first sent ends → map outline later ≡ map outline ends
    → ((i j : ℕ) → (standing later i j ≡ []) ⊎ (standing later i j ≡ standing ends i j))
    → ((i : ℕ) → first ≤ i → i < next → standing ends i served ≡ [])
    → AreBack nodes served next sent later
back_after nodes served first next sent ends later back outlines falls searched = record {
  team = outlines ∙ back.team;
  left = λ i j. still_left (standing sent i j) (standing ends i j) (standing later i j) (falls i j) (back.left i j);
  taken = λ i less.
      ⊎_elim
      (λ (below : i < first). empty_stays (standing later i served) (standing ends i served) (falls i served) (back.taken i below))
      (λ (above : first ≤ i). empty_stays (standing later i served) (standing ends i served) (falls i served) (searched i above less))
      (cases_lt i first);
}

pub same_delivered : (sent ends later : List PlainEnd) (i j : ℕ) → standing later i j ≡ standing ends i j → delivered sent later i j ≡ delivered sent ends i j
same_delivered sent ends later i j e = ap (λ l. take (length (standing sent i j) - length l) (standing sent i j)) e

-- one parcel was taken
pub one_taken : (sent ends later : List PlainEnd) (from to : ℕ) (x : Parcel) → (standing ends from to ≡ []) ⊎ (standing ends from to ≡ standing sent from to)
    → standing ends from to ≡ x ∷ []
    → map posted later ≡ set (map posted ends) from (set (get_or (map posted ends) from []) to [])
    → (standing ends from to ≡ x ∷ standing later from to) × AddsOneOn (delivered sent ends) (delivered sent later) from to x
one_taken sent ends later from to x left one taken =
    let gone = ap (λ r. lane_at r from to) taken ∙ lane_at_emptied (map posted ends) from to in (
      one ∙ ap (λ l. x ∷ l) (sym gone),
      (
        delivered_more (standing sent from to) (standing ends from to) (standing later from to) x left one gone,
        (λ i j other. same_delivered sent ends later i j (ap (λ r. lane_at r i j) taken ∙ lane_at_other_row (map posted ends) _ from i j other)),
        (λ i j other. same_delivered sent ends later i j (ap (λ r. lane_at r i j) taken ∙ lane_at_other_place (map posted ends) [] from to i j other)),
      ),
    )

-- what the search for a parcel leaves of the lanes
pub search_takes : (nodes served first from : ℕ) (sent ends mid : List PlainEnd) (parcel : Parcel) → AreBack nodes served first sent ends
    → map outline mid ≡ map outline ends
    → TakesFirst ends mid served first from parcel
    → AreBack nodes served from sent mid × TakesRest nodes (standing ends) (standing mid) (delivered sent ends) (delivered sent mid) served parcel
search_takes nodes served first from sent ends mid parcel back outlines found =
    let one = one_taken sent ends mid from served parcel (back.left from served) found.held found.emptied in
    let long = team_length nodes ends back.team in
    let within = found.within in (
      back_after nodes served first from sent ends mid back outlines
          (λ i j.
          let lane = ap (λ r. lane_at r i j) found.emptied in
          ⊎_elim (λ gone. inl (lane ∙ gone)) (λ stays. inr (lane ∙ stays)) (emptied_falls (map posted ends) from served i j))
          found.none_before,
      record { from = from; within = omega arith; first = one.0; last = one.1 },
    )

-- the same of ends that a search was lent, and that is given back whole
pub search_gives : (nodes served first from count : ℕ) (sent ends mid lent : List PlainEnd) (parcel : Parcel) → AreBack nodes served first sent ends → lent ≡ ends → count ≡ length ends
    → map outline mid ≡ map outline lent → TakesFirst lent mid served first from parcel
    → (take count (mid ++ drop (length mid) ends) ≡ mid) × AreBack nodes served from sent mid × TakesRest nodes (standing ends) (standing mid) (delivered sent ends) (delivered sent mid) served parcel
search_gives nodes served first from count sent ends mid lent parcel back is long same found =
    let outlines : map outline mid ≡ map outline ends = same ∙ ap (map outline) is in
    let F : List PlainEnd → Type 0 = λ l. TakesFirst l mid served first from parcel in
    let takes = search_takes nodes served first from sent ends mid parcel back outlines (subst F is found) in
    (lent_whole outline ends mid count long outlines, takes.0, takes.1)
