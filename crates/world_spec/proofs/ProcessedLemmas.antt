-- The first pending events are committed and their messages received: what was processed behind them stays so, up to
-- the first event that does not come before each message.
use Rattle.std.proofs.Common.{List, ap, arith, drop, length, length-take, min, subst, sym, take, true, ℕ, ◌++◌, ◌+◌, ◌-◌, ◌<◌, ◌∙◌, ◌≡◌, ◌≤◌}
use Rattle.std.proofs.Math.Seq.{drop-append_seam}
use Rattle.std.proofs.lemmas.List.{length-append, take-take, take_all}
use Rattle.std.specs.List.{AllByRecursion as Each}
use Rattle.event_key.specs.Stamps.{end_stamp}
use Rattle.model_core.specs.Meaning.{Meaning}
use Rattle.model_core.specs.declared.event.Event.{Event}
use Rattle.sim_spec.specs.Cut.{emissions_of, events_of, objects_after, state_with_done}
use Rattle.sim_spec.specs.Firing.{Firing, ObjectState}
use Rattle.key_order.specs.Ascending.{IsAscending}
use Rattle.key_order.specs.Pending.{enqueue_all}
use Rattle.sim_spec.specs.Replay.{Replay, done_at, early_replay, events_at, replay, taken, replay_after}
use Rattle.sim_spec.specs.State.{State, object_at}
use Rattle.sim_spec.specs.declared.terms.Terms.{Terms}
use Rattle.key_order.proofs.EachLemmas.{Each-back, Each-take}
use Rattle.sim_spec.proofs.InTurnLemmas.{drop-front}
use Rattle.sim_spec.proofs.ObjectReplay.{GoFirst, early-events, early-split, in-turn-replay, whole_replay}
use Rattle.sim_spec.proofs.PartLemmas.{events_at-enqueue_all, events_at-events_of, length-events_of}
use Rattle.world_spec.specs.Early.{IsEarly, early_events, is_before_all, kept, leading}
use Rattle.world_spec.proofs.FrontLemmas.{front-enqueue_all, leading-le, leading-pass}
use Rattle.sim_spec.proofs.TakenLemmas.{taken-le, taken-rest, taken-take}

-- the first pending events went in turn, and an object has processed its part of them
pub record IsProcessed (m : Meaning) (t : Terms) (s : State) (done : List (Event × Firing)) (rest : List Event) (object n : ℕ) : Type 0 where
  pub goes_first : GoFirst m s done rest
  pub inside : object < length s.objects
  pub early : IsEarly m t s object n
  pub upto : length (done_at object done) ≤ n

module _ (m : Meaning) (t : Terms) (s : State) (done : List (Event × Firing)) (rest : List Event) (object n : ℕ) where
  -- what it has processed behind them
  abbrev pub further_events : List Event
  further_events = take (n - length (done_at object done)) (events_at object rest)

  abbrev pub own_events : List Event
  own_events = events_at object (events_of done)

  abbrev end : ObjectState
  end = object_at (objects_after s.objects done) object

  length_own : length own_events ≡ length (done_at object done)
  length_own = ap length (events_at-events_of object done) ∙ length-events_of (done_at object done)

  pub events-split : IsProcessed m t s done rest object n → early_events s object n ≡ own_events ++ further_events
  events-split p =
      let upto : length (done_at object done) ≤ n = p.upto in
      let long = length_own in
      early-events m s done rest p.goes_first object p.inside n ∙ ap (λ es. es ++ further_events) (take_all n own_events (omega arith))

  pub further-is : IsProcessed m t s done rest object n → drop (length (done_at object done)) (early_events s object n) ≡ further_events
  further-is p =
      ap (λ k. drop k (early_events s object n)) (sym length_own)
      ∙ ap (drop (length own_events)) (events-split p)
      ∙ drop-append_seam own_events further_events

  -- what it holds is what was done there, and the replay of the rest from the state that is left
  pub replay-split : IsProcessed m t s done rest object n → early_replay m s object n ≡ replay_after (done_at object done) (replay m object end further_events)
  replay-split p = early-split m s done rest p.goes_first object p.inside n p.upto

  own_replay : IsProcessed m t s done rest object n → replay m object (object_at s.objects object) own_events ≡ whole_replay (done_at object done) end
  own_replay p = in-turn-replay m object s.objects done p.inside p.goes_first.turn

  all_taken : IsProcessed m t s done rest object n
      → (taken (replay m object (object_at s.objects object) (own_events ++ further_events)) ≡ length (own_events ++ further_events)) × (n ≡ length (own_events ++ further_events))
  unfolding early_replay
  all_taken p =
      let start = object_at s.objects object in
      let split = events-split p in
      let whole : taken (replay m object start (early_events s object n)) ≡ n = p.early.whole in
      let few : length (early_events s object n) ≡ min n (length (events_at object s.pending)) = length-take n (events_at object s.pending) in
      let le : taken (replay m object start (early_events s object n)) ≤ length (early_events s object n) = taken-le m object start (early_events s object n) in
      let same : n ≡ length (early_events s object n) = omega arith in
      (ap (λ es. taken (replay m object start es)) (sym split) ∙ whole ∙ same ∙ ap length split, same ∙ ap length split)

  pub length-further : IsProcessed m t s done rest object n → length further_events ≡ n - length (done_at object done)
  length-further p =
      let is_n : n ≡ length (own_events ++ further_events) = (all_taken p).1 in
      let long : length (own_events ++ further_events) ≡ length own_events + length further_events = length-append own_events further_events in
      let one = length_own in
      omega arith

  taken_further : IsProcessed m t s done rest object n → taken (replay m object end further_events) ≡ length further_events
  taken_further p =
      let one = own_replay p in
      let P : ObjectState → Type 0 = λ x. taken (replay m object x further_events) ≡ length further_events in
      subst P (ap (λ (r : Replay). r.state) one) (taken-rest m object (object_at s.objects object) own_events further_events (ap (λ (r : Replay). r.fault) one) (all_taken p).0)

  below_further : IsProcessed m t s done rest object n → Each (λ (e : Event). e.key.stamp < end_stamp t.end) further_events
  below_further p =
      let P : List Event → Type 0 = Each (λ (e : Event). e.key.stamp < end_stamp t.end) in
      Each-back (λ (e : Event). e.key.stamp < end_stamp t.end) own_events further_events (subst P (events-split p) p.early.below)

  drop_done : IsProcessed m t s done rest object n → drop (length done) s.pending ≡ rest
  drop_done p = ap (drop (length done)) p.goes_first.pending ∙ drop-front done rest

  -- the pending events of the object afterwards
  events_after : IsProcessed m t s done rest object n → IsAscending (state_with_done s done).pending
      → events_at object (state_with_done s done).pending ≡ enqueue_all (events_at object (emissions_of done)) (events_at object rest)
  unfolding state_with_done
  events_after p up =
      events_at-enqueue_all object (emissions_of done) (drop (length done) s.pending) up
      ∙ ap (λ es. enqueue_all (events_at object (emissions_of done)) (events_at object es)) (drop_done p)

  -- what stays processed is a front of them
  pub front-stays : IsProcessed m t s done rest object n → IsAscending (state_with_done s done).pending → (j : ℕ) → j ≤ length further_events
      → Each (λ (e : Event). is_before_all (events_at object (emissions_of done)) e ≡ true) (take j further_events) → early_events (state_with_done s done) object j ≡ take j further_events
  front-stays p up j few before =
      let q = n - length (done_at object done) in
      let long : length further_events ≡ q = length-further p in
      let short : length further_events ≡ min q (length (events_at object rest)) = length-take q (events_at object rest) in
      let front : take j further_events ≡ take j (events_at object rest) = take-take j q (events_at object rest) (omega arith) in
      let P : List Event → Type 0 = Each (λ (e : Event). is_before_all (events_at object (emissions_of done)) e ≡ true) in
      ap (take j) (events_after p up)
      ∙ (front-enqueue_all j (events_at object (emissions_of done)) (events_at object rest) (omega arith) (subst P front before)).0
      ∙ sym front

  stays_early : IsProcessed m t s done rest object n → IsAscending (state_with_done s done).pending → (j : ℕ) → j ≤ length further_events
      → Each (λ (e : Event). is_before_all (events_at object (emissions_of done)) e ≡ true) (take j further_events) → IsEarly m t (state_with_done s done) object j
  unfolding early_replay state_with_done
  stays_early p up j few before =
      let front = front-stays p up j few before in
      let whole : taken (replay m object end (take j further_events)) ≡ length (take j further_events) = taken-take m object j end further_events (taken_further p) in
      let long : length (take j further_events) ≡ min j (length further_events) = length-take j further_events in
      let same : length (take j further_events) ≡ j = omega arith in
      let P : List Event → Type 0 = Each (λ (e : Event). e.key.stamp < end_stamp t.end) in
      record {
        whole = ap (λ es. taken (replay m object end es)) front ∙ whole ∙ same;
        below = subst P (sym front) (Each-take (λ (e : Event). e.key.stamp < end_stamp t.end) j further_events (below_further p));
      }

  -- after the commit and the receipts the object has run ahead of the new state
  pub kept-early : (ahead : ℕ → ℕ) → n ≡ ahead object → IsProcessed m t s done rest object n → IsAscending (state_with_done s done).pending → IsEarly m t (state_with_done s done) object (kept s done ahead object)
  unfolding kept
  kept-early ahead same p up =
      let passes = is_before_all (events_at object (emissions_of done)) in
      let P : List Event → Type 0 = λ es. IsEarly m t (state_with_done s done) object (leading passes es) in
      let Q : ℕ → Type 0 = λ k. P (drop (length (done_at object done)) (early_events s object k)) in
      subst Q same (subst P (sym (further-is p)) (stays_early p up (leading passes further_events) (leading-le passes further_events) (leading-pass passes further_events)))
