-- What comes to a node in a cycle is what was handed out to it.
use Rattle.std.proofs.Common.{◌≡◌, inl, inr, ℕ, ◌<◌, List, [], ◌++◌, map, length, sym, ap, subst, ◌∙◌, arith, append_assoc}
use Rattle.std.specs.Prelude.{All, Some, slice_get, slice_index_or, IsPermutation}
use Rattle.std.specs.List.{range_with_len}
use Rattle.std.proofs.lemmas.List.{append_cancel_left}
use Rattle.std.proofs.lemmas.List.Concat.{flat_map-append}
use Rattle.std.proofs.lemmas.List.Sorted.{IsPermutation-trans, IsPermutation-append_left}
use Rattle.std.proofs.lemmas.Option.{slice_get_cases, slice_get_within, get_or_from_slice_get}
use Rattle.model_core.specs.declared.event.Event.{Event}
use Rattle.release_lanes.specs.declared.parcel.Parcel.{Parcel}
use Rattle.release_lanes.specs.Lanes.{AllReceived, Meets}
use Rattle.release_lanes.proofs.Numbers.{numbered_length, numbered_at}
use Rattle.parcel_exchange.specs.declared.inbox.Inbox.{Inbox}
use Rattle.parcel_exchange.specs.Mail.{events_in, parcels_of, from_each}
use Rattle.parcel_exchange.specs.Inboxes.{coming}
use Rattle.parcel_exchange.specs.Team.{HaveExchanged, handed_to}
use Rattle.parcel_exchange.proofs.Gathering.{same_permutes, events_in-parcels_of, from_each-both, from_each-listed}

-- an element within a list
pub found_at : {A : Type 0} (xs : List A) (k : ℕ) → k < length xs → (x : A) × (slice_get xs k ≡ Some x)
found_at xs k within =
    elim (slice_get_cases xs k).1 [
      | inl here ↦ (here.0, here.2)
      | inr past ↦ let less = past.0 in absurd (omega arith)
    ]

-- what was taken of a lane and what rests are the parcels that were posted on it
lane_carries : (from : ℕ) (before took rest received sent : List Parcel) (events : List Event) → received ≡ before ++ took → sent ≡ before ++ parcels_of from events → received ++ rest ≡ sent
    → events_in took ++ events_in rest ≡ events
lane_carries from before took rest received sent events taken posted met =
    sym (flat_map-append (λ (p : Parcel). p.events) took rest)
    ∙ ap events_in (append_cancel_left before (took ++ rest) (parcels_of from events) (sym (append_assoc before took rest) ∙ ap (λ l. l ++ rest) (sym taken) ∙ met ∙ posted))
    ∙ events_in-parcels_of from events

module _ {E C : Type 0} (number : E → ℕ) (sent received : E → ℕ → List Parcel) (out_of : C → List (List Event)) where
  -- what one end says of the lanes, all say
  said : {B : Type 0} (says : ℕ → E → B) (told : E → B) (ends : List E) (nodes k : ℕ) (end : E) → map number ends ≡ range_with_len 0 nodes → slice_get ends k ≡ Some end
      → All (λ e. says (number e) e ≡ told e) ends → says k end ≡ told end
  said says told ends nodes k end numbers at all =
      let P : E → Type 0 = λ e. says (number e) e ≡ told e in
      let within = slice_get_within ends k end at in
      let long = numbered_length number ends nodes numbers in
      let is = get_or_from_slice_get ends k end end at in
      ap (λ j. says j end) (sym (ap number (sym is) ∙ numbered_at number ends nodes k end numbers (omega arith))) ∙ subst P is (all k end within)

  -- the ends were even, then each has exchanged, and then they were given back
  pub all_come : (handed : List C) (inboxes : List Inbox) (old new : List E) (sent_on received_on rest_on : ℕ → ℕ → List Parcel)
      → length old ≡ length inboxes → map number new ≡ range_with_len 0 (length inboxes)
      → AllReceived sent received old
      → HaveExchanged sent received out_of handed inboxes old new
      → All (λ end. (to : ℕ) → sent_on (number end) to ≡ sent end to) new
      → All (λ end. (from : ℕ) → received_on from (number end) ≡ received end from) new
      → Meets (length inboxes) received_on rest_on sent_on
      → (to : ℕ) (inbox : Inbox) → slice_get inboxes to ≡ Some inbox → inbox.arrived ≡ []
      → IsPermutation (handed_to out_of to handed) (coming (length inboxes) (λ from. rest_on from to) inbox)
  all_come handed inboxes old new sent_on received_on rest_on many numbers even exchanged gave_sent gave_received met to inbox at none =
      let n = length inboxes in
      let as_many = exchanged.many in
      let long_new = numbered_length number new n numbers in
      let within = slice_get_within inboxes to inbox at in
      let c_to = found_at handed to (omega arith) in
      let x_to = found_at old to (omega arith) in
      let y_to = found_at new to (omega arith) in
      let mine = (exchanged.each to c_to.0 inbox x_to.0 y_to.0 c_to.1 at x_to.1 y_to.1).taken in
      let rest : ℕ → List Event = λ from. events_in (rest_on from to) in
      let took : ℕ → List Event = λ from. events_in (mine.took from) in
      let lane : (k : ℕ) (c : C) → slice_get handed k ≡ Some c → took k ++ rest k ≡ slice_index_or (out_of c) to [] =
      λ k c here.
      let inside = slice_get_within handed k c here in
      let less : k < n = omega arith in
      let x = found_at old k (omega arith) in
      let y = found_at new k (omega arith) in
      let box = found_at inboxes k less in
      let one = exchanged.each k c box.0 x.0 y.0 here box.1 x.1 y.1 in
      let had : received_on k to ≡ received y_to.0 k =
      said (λ j _. received_on k j) (λ e. received e k) new n to y_to.0 numbers y_to.1 (λ j d low. gave_received j d low k) in
      let gave : sent_on k to ≡ sent y.0 to =
      said (λ j _. sent_on j to) (λ e. sent e to) new n k y.0 numbers y.1 (λ j d low. gave_sent j d low to) in
      lane_carries k (sent x.0 to) (mine.took k) (rest_on k to) (received_on k to) (sent_on k to) (slice_index_or (out_of c) to [])
      (had ∙ mine.received k less ∙ ap (λ l. l ++ mine.took k) (even k to x.0 x_to.0 x.1 x_to.1))
      (gave ∙ one.posted to within)
      (met k to less within) in
      let all : from_each n (λ k. took k ++ rest k) ≡ handed_to out_of to handed =
      ap (λ m. from_each m (λ k. took k ++ rest k)) (sym as_many) ∙ from_each-listed (λ c. slice_index_or (out_of c) to []) (λ k. took k ++ rest k) handed lane in
      let early = events_in inbox.early.items in
      rw none
      (IsPermutation-trans _ _ _ (same_permutes _ _ (sym all))
      (IsPermutation-trans _ _ _ (from_each-both n took rest) (IsPermutation-append_left (from_each n rest) (from_each n took) early mine.all)))
