-- Where something is left to fire, a bucket has an event or a fault.
use Rattle.std.proofs.Common.{◌≡◌, ◌≢◌, ◌⊎◌, ℕ, suc, ◌-◌, ◌<◌, ◌≤◌, min, Bool, true, false, cond, ◌||◌, ◌&&◌, List, [], ◌∷◌, length, take, drop, sym, refl, ap, ◌∙◌, subst, inl, inr, arith, eqb, ltb, ltb-true, ltb-false, eqb-true, length-take}
use Rattle.std.proofs.lemmas.List.{length-map}
use Rattle.std.specs.Prelude.{is_some, IsSome, Option, Some, None}
use Rattle.std.specs.List.{AllByRecursion as Each}
use Rattle.event_key.specs.declared.key.Key.{Key}
use Rattle.event_key.specs.Stamps.{end_stamp}
use Rattle.model_core.specs.declared.event.Event.{Event}
use Rattle.model_core.specs.Meaning.{Meaning}
use Rattle.sim_spec.specs.declared.stop.Stop.TheVariants.{End, Limit}
use Rattle.sim_spec.specs.declared.terms.Terms.{Terms}
use Rattle.sim_spec.specs.Firing.{Firing}
use Rattle.sim_spec.specs.State.{State, Lawful}
use Rattle.sim_spec.specs.Run.{next, stops}
use Rattle.sim_spec.specs.Horizon.{HorizonBucket, horizon_bucket}
use Rattle.sim_spec.specs.Cut.{is_limited, committed_events, cut}
use Rattle.sim_spec.specs.Replay.{EmitsFrom}
use Rattle.sim_spec.specs.HorizonLaws.{IsPast, IsBelowHorizon, MovesLaw}
use Rattle.sim_spec.proofs.RunLemmas.{next-none, next-late, next-full}
use Rattle.sim_spec.proofs.HorizonLaw.{horizon_law}

-- a fault stays where an event may still happen
fault_stays : (left : ℕ) (b : HorizonBucket) → 0 < left → length b.done ≡ 0 → IsSome b.fault → IsSome (cond (is_limited left b) None b.fault)
unfolding is_limited
fault_stays left b some none fault = by_tests (ltb left (length b.done)) (eqb left (length b.done)) refl refl
  where
    by_tests : (p q : Bool) → ltb left (length b.done) ≡ p → eqb left (length b.done) ≡ q → IsSome (cond (p || (q && is_some b.fault)) None b.fault)
    by_tests true q is_p is_q = absurd (let lt = ltb-true left (length b.done) is_p in omega arith)
    by_tests false true is_p is_q = absurd (let same = eqb-true left (length b.done) is_q in omega arith)
    by_tests false false is_p is_q = fault

-- a pending event that is due and not in the bucket is past the bucket's end, so the bucket ends at a fault
fault_before : (h : ℕ) (fault : Option (Key × ℕ)) (key : Key) → key.stamp < h → IsPast h fault key → IsSome fault
fault_before h (Some fault) key early past = refl
fault_before h None key early past = absurd (omega arith)

module _ (m : Meaning) (t : Terms) (s : State) (lawful : Lawful m t s) (e : Event) (rest : List Event) (is_pending : s.pending ≡ e ∷ rest) (due : e.key.stamp < end_stamp t.end) (room : s.count < t.limit) where
  abbrev b : HorizonBucket
  b = horizon_bucket m t s

  law : IsBelowHorizon m t s b
  law = horizon_law m t s lawful

  moves_by : (ds : List (Event × Firing)) → b.done ≡ ds → (0 < length (cut m t s).done) ⊎ IsSome (cut m t s).fault
  unfolding cut committed_events
  moves_by (d ∷ ds) is_done =
      let few : length (take (t.limit - s.count) b.done) ≡ min (t.limit - s.count) (length b.done) = length-take (t.limit - s.count) b.done in
      let long : length (cut m t s).done ≡ length (take (t.limit - s.count) b.done) = length-map _ _ in
      let some : length b.done ≡ suc (length ds) = ap length is_done in
      inl (omega arith)
  moves_by [] is_done =
      let P : List Event → Type 0 = Each (λ (x : Event). IsPast b.horizon b.fault x.key) in
      let past : P (e ∷ rest) = subst P (ap (λ (ds : List (Event × Firing)). drop (length ds) s.pending) is_done ∙ is_pending) law.past in
      let E : List (Event × Firing) → Type 0 = EmitsFrom (end_stamp t.end) in
      let far : end_stamp t.end ≤ b.horizon = law.greatest (end_stamp t.end) (omega arith) (subst E (sym is_done) tt) in
      inr (fault_stays (t.limit - s.count) b (omega arith) (ap length is_done) (fault_before b.horizon b.fault e.key (omega arith) past.0))

  moves : (0 < length (cut m t s).done) ⊎ IsSome (cut m t s).fault
  moves = moves_by b.done refl

moves_at : (m : Meaning) (t : Terms) (s : State) (pending : List Event) → s.pending ≡ pending → Lawful m t s → next m t s ≢ stops End → next m t s ≢ stops Limit
    → (0 < length (cut m t s).done) ⊎ IsSome (cut m t s).fault
moves_at m t s [] is_pending lawful not_end not_limit = absurd (not_end (next-none m t s is_pending))
moves_at m t s (e ∷ rest) is_pending lawful not_end not_limit =
    let early : e.key.stamp < end_stamp t.end = due (ltb e.key.stamp (end_stamp t.end)) refl in
    let free : s.count ≢ t.limit = λ full. not_limit (next-full m t s e rest is_pending early full) in
    let upto : s.count ≤ t.limit = lawful.count in
    moves m t s lawful e rest is_pending early (omega arith)
  where
    due : (c : Bool) → ltb e.key.stamp (end_stamp t.end) ≡ c → e.key.stamp < end_stamp t.end
    due true is_c = ltb-true e.key.stamp (end_stamp t.end) is_c
    due false is_c = absurd (not_end (next-late m t s e rest is_pending (ltb-false e.key.stamp (end_stamp t.end) is_c)))

pub moves_law : (m : Meaning) (t : Terms) → MovesLaw m t
moves_law m t s lawful not_end not_limit = moves_at m t s s.pending refl lawful not_end not_limit
