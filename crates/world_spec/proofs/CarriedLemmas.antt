-- What stays processed over the end of a cycle, and how much is undone at an object.
use Rattle.std.proofs.Common.{Bool, List, [], ap, arith, cond, drop, false, inl, inr, length, not, refl, subst, suc, sym, true, ℕ, ◌+◌, ◌-◌, ◌∙◌, ◌∷◌, ◌≡◌, ◌≤◌}
use Rattle.std.proofs.lemmas.Bool.{false_from_ne_true}
use Rattle.std.proofs.lemmas.List.Elements.{Contains-append_cases}
use Rattle.std.specs.List.{AllByRecursion as Each}
use Rattle.std.specs.Prelude.{Contains, filter}
use Rattle.event_key.specs.Keys.{key_lt}
use Rattle.model_core.specs.Meaning.{Meaning}
use Rattle.model_core.specs.declared.event.Event.{Event}
use Rattle.sim_spec.specs.Cut.{after, emissions_of, events_of, state_with_done}
use Rattle.sim_spec.specs.Firing.{Firing}
use Rattle.key_order.specs.Ascending.{IsAscending, key_of, Ascends}
use Rattle.sim_spec.specs.Replay.{done_at, events_at}
use Rattle.sim_spec.specs.State.{State}
use Rattle.sim_spec.specs.declared.terms.Terms.{Terms}
use Rattle.key_order.proofs.AscendingLemmas.{Ascends-back, Ascends-take}
use Rattle.sim_spec.proofs.PartLemmas.{IsAscending-events_at}
use Rattle.world_spec.specs.Early.{early_events, is_before_all, kept, leading}
use Rattle.key_order.proofs.FilterLemmas.{length-filter_take}
use Rattle.world_spec.proofs.FrontLemmas.{before_all-trans, leading-keeps, leading-le, leading-pass}
use Rattle.world_spec.proofs.ProcessedLemmas.{IsProcessed, events-split, front-stays, further-is, further_events, length-further, own_events}

-- the event doesn't come before each of these messages
abbrev comes_late : List Event → Event → Bool
comes_late messages e = not (is_before_all messages e)

late_behind : (ms : List Event) (y : Event) (ys : List Event) → is_before_all ms y ≡ false → Each (λ (e : Event). key_lt y.key e.key ≡ true) ys → length ys ≡ length (filter (comes_late ms) ys)
late_behind ms y [] late after = refl
late_behind ms y (x ∷ xs) late after =
    let fails : is_before_all ms x ≡ false = false_from_ne_true (is_before_all ms x) (λ yes. let no = before_all-trans ms y x after.0 yes in cc) in
    ap suc (late_behind ms y xs late after.1) ∙ sym (ap (λ b. length (cond (not b) (x ∷ filter (comes_late ms) xs) (filter (comes_late ms) xs))) fails)

late_rest : (ms xs : List Event) → IsAscending xs → length xs - leading (is_before_all ms) xs ≤ length (filter (comes_late ms) xs)
unfolding leading Ascends
late_rest ms [] up = omega arith
late_rest ms (y ∷ ys) up = by_test (is_before_all ms y) refl (late_rest ms ys up.1)
  where
    by_test : (b : Bool) → is_before_all ms y ≡ b → length ys - leading (is_before_all ms) ys ≤ length (filter (comes_late ms) ys)
        → suc (length ys) - cond b (1 + leading (is_before_all ms) ys) 0 ≤ length (cond (not b) (y ∷ filter (comes_late ms) ys) (filter (comes_late ms) ys))
    by_test true h more = omega arith
    by_test false h more = let same = late_behind ms y ys h up.0 in omega arith

-- what was processed, is not done, and comes before each message to its object stands processed afterwards
pub carried : (m : Meaning) (t : Terms) (s : State) (done : List (Event × Firing)) (rest : List Event) (ahead : ℕ → ℕ) (object : ℕ) (x : Event)
    → IsProcessed m t s done rest object (ahead object) → IsAscending s.pending → IsAscending (state_with_done s done).pending
    → Contains (early_events s object (ahead object)) x → (Contains (events_at object (events_of done)) x → ⊥) → is_before_all (events_at object (emissions_of done)) x ≡ true
    → Contains (early_events (state_with_done s done) object (kept s done ahead object)) x
unfolding kept
carried m t s done rest ahead object x p up after was undone before =
    let xs = further_events m t s done rest object (ahead object) in
    let ms = events_at object (emissions_of done) in
    let P : List Event → Type 0 = λ es. Contains es x in
    let in_rest : Contains xs x =
    elim (Contains-append_cases (own_events m t s done rest object (ahead object)) xs x (subst P (events-split m t s done rest object (ahead object) p) was)) [
      | inl here ↦ absurd (undone here)
      | inr there ↦ there
    ] in
    let U : List Event → Type 0 = IsAscending in
    let up_rest : IsAscending rest = Ascends-back key_of (events_of done) rest (subst U p.goes_first.pending up) in
    let up_xs : IsAscending xs = Ascends-take key_of _ (events_at object rest) (IsAscending-events_at object rest up_rest) in
    let Q : List Event → Type 0 = λ es. Contains (early_events (state_with_done s done) object (leading (is_before_all ms) es)) x in
    let front = front-stays m t s done rest object (ahead object) p after (leading (is_before_all ms) xs) (leading-le (is_before_all ms) xs) (leading-pass (is_before_all ms) xs) in
    subst Q (sym (further-is m t s done rest object (ahead object) p)) (subst P (sym front) (leading-keeps ms xs x up_xs in_rest before))

-- no more events are undone at an object than wait there behind some message to it
pub undone-le : (m : Meaning) (t : Terms) (s : State) (done : List (Event × Firing)) (rest : List Event) (ahead : ℕ → ℕ) (object : ℕ)
    → IsProcessed m t s done rest object (ahead object) → IsAscending s.pending
    → (ahead object - length (done_at object done)) - kept s done ahead object ≤ length (filter (comes_late (events_at object (emissions_of done))) (events_at object rest))
unfolding kept
undone-le m t s done rest ahead object p up =
    let xs = further_events m t s done rest object (ahead object) in
    let ms = events_at object (emissions_of done) in
    let q = ahead object - length (done_at object done) in
    let U : List Event → Type 0 = IsAscending in
    let up_rest : IsAscending rest = Ascends-back key_of (events_of done) rest (subst U p.goes_first.pending up) in
    let up_xs : IsAscending xs = Ascends-take key_of _ (events_at object rest) (IsAscending-events_at object rest up_rest) in
    let long : length xs ≡ q = length-further m t s done rest object (ahead object) p in
    let same : leading (is_before_all ms) (drop (length (done_at object done)) (early_events s object (ahead object))) ≡ leading (is_before_all ms) xs =
    ap (leading (is_before_all ms)) (further-is m t s done rest object (ahead object) p) in
    let one : length xs - leading (is_before_all ms) xs ≤ length (filter (comes_late ms) xs) = late_rest ms xs up_xs in
    let two : length (filter (comes_late ms) xs) ≤ length (filter (comes_late ms) (events_at object rest)) = length-filter_take (comes_late ms) q (events_at object rest) in
    omega arith
