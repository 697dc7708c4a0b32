-- What rests is taken.
use Rattle.std.proofs.Common.{◌≡◌, ◌≢◌, ℕ, ◌+◌, ◌<◌, List, ◌++◌, length, sym, ap, subst, ◌∙◌, arith, append_assoc}
use Rattle.std.specs.Prelude.{IsPermutation}
use Rattle.std.proofs.lemmas.List.{length-append}
use Rattle.std.proofs.lemmas.List.Sorted.{IsPermutation-sym, IsPermutation-trans, IsPermutation-append_right, IsPermutation-append_comm, length_permutation}
use Rattle.model_core.specs.declared.event.Event.{Event}
use Rattle.release_lanes.specs.declared.parcel.Parcel.{Parcel}
use Rattle.release_lanes.specs.Lanes.{SameLanes, Meets, TakesRest}
use Rattle.release_lanes.proofs.Numbers.{rest_kept}
use Rattle.parcel_exchange.specs.declared.inbox.Inbox.{Inbox}
use Rattle.parcel_exchange.specs.Mail.{events_in, from_each}
use Rattle.parcel_exchange.specs.Inboxes.{coming, HasArrived}
use Rattle.parcel_exchange.proofs.Gathering.{rests_less, from_each-same}

-- what a fetch leaves of the lanes
pub record Fetched (nodes to : ℕ) (rest rest' : ℕ → ℕ → List Parcel) (parcel : Parcel) : Type 0 where
  pub others : (i j : ℕ) → i < nodes → j < nodes → j ≢ to → rest' i j ≡ rest i j
  pub events : IsPermutation (from_each nodes (λ k. events_in (rest' k to)) ++ parcel.events) (from_each nodes (λ k. events_in (rest k to)))
  pub fewer : length (from_each nodes (λ k. rest k to)) ≡ length (from_each nodes (λ k. rest' k to)) + 1

pub fetched : (nodes many to : ℕ) (received rest sent received' rest' sent' : ℕ → ℕ → List Parcel) (parcel : Parcel) → many ≡ nodes → to < nodes
    → Meets nodes received rest sent → Meets nodes received' rest' sent' → SameLanes sent sent'
    → TakesRest many rest rest' received received' to parcel
    → Fetched nodes to rest rest' parcel
fetched nodes many to received rest sent received' rest' sent' parcel alike within met met' same takes =
    let from = takes.from in
    let inside = takes.within in
    let kept : (i j : ℕ) → i < nodes → j < nodes → received' i j ≡ received i j → rest' i j ≡ rest i j =
    λ i j first second e. rest_kept (received i j) (sent i j) (rest i j) (received' i j) (sent' i j) (rest' i j) e (same i j) (met i j first second) (met' i j first second) in
    let less = rests_less nodes from (λ k. rest k to) (λ k. rest' k to) parcel (omega arith) takes.first (λ k low ne. sym (kept k to low within (takes.last.1 k to ne))) in record {
      others = λ i j first second ne. kept i j first second (takes.last.2 i j ne);
      events = less.0;
      fewer = less.1;
    }

-- what was fetched arrives
pub arrives : (first arrived rested rests last : List Event) → IsPermutation first (arrived ++ rested) → IsPermutation (rests ++ last) rested → IsPermutation first ((arrived ++ last) ++ rests)
arrives first arrived rested rests last moved takes =
    rw (append_assoc arrived last rests)
    (IsPermutation-trans _ _ _ moved
    (IsPermutation-append_right arrived rested (last ++ rests) (IsPermutation-trans _ _ _ (IsPermutation-sym _ _ takes) (IsPermutation-append_comm rests last))))

-- and is few
pub few_arrive : (first arrived rested rests last : List Event) (limit : ℕ) → IsPermutation first (arrived ++ rested) → IsPermutation (rests ++ last) rested → length first < limit
    → length arrived + length last < limit
few_arrive first arrived rested rests last limit moved takes few =
    let all = length_permutation _ _ moved in
    let parts = length-append arrived rested in
    let rested_count = length_permutation _ _ takes in
    let split = length-append rests last in
    omega arith

-- where the same rests, the same comes
pub coming_like : (nodes many : ℕ) (rest rest' : ℕ → List Parcel) (inbox : Inbox) → many ≡ nodes → ((k : ℕ) → k < nodes → rest' k ≡ rest k) → coming many rest' inbox ≡ coming nodes rest inbox
coming_like nodes many rest rest' inbox alike same =
    ap (λ l. inbox.arrived ++ events_in inbox.early.items ++ l)
    (ap (λ n. from_each n (λ k. events_in (rest' k))) alike ∙ from_each-same nodes (λ k. events_in (rest' k)) (λ k. events_in (rest k)) (λ k less. ap events_in (same k less)))

pub arrived_like : (nodes many : ℕ) (rest rest' : ℕ → List Parcel) (old new : Inbox) → many ≡ nodes → ((k : ℕ) → k < nodes → rest' k ≡ rest k) → HasArrived many rest' old new → HasArrived nodes rest old new
arrived_like nodes many rest rest' old new alike same arrived =
    let P : List Event → Type 0 = λ l. IsPermutation l new.arrived in
    record { all = subst P (coming_like nodes many rest rest' old alike same) arrived.all; emptied = arrived.emptied }

pub few_like : (nodes many : ℕ) (rest rest' : ℕ → List Parcel) (inbox : Inbox) (limit : ℕ) → many ≡ nodes → ((k : ℕ) → k < nodes → rest' k ≡ rest k)
    → length (coming nodes rest inbox) < limit → length (coming many rest' inbox) < limit
few_like nodes many rest rest' inbox limit alike same few = let P : List Event → Type 0 = λ l. length l < limit in subst P (sym (coming_like nodes many rest rest' inbox alike same)) few
