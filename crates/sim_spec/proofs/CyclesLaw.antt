-- Bucket by bucket or event by event, the same happens, and cycles end.
use Rattle.std.proofs.Common.{◌≡◌, ◌≢◌, ℕ, zero, suc, ◌+◌, ◌-◌, ◌<◌, ◌≤◌, Bool, true, false, length, sym, refl, ap, ◌∙◌, subst, inl, inr, arith}
use Rattle.std.proofs.lemmas.List.{length-map}
use Rattle.std.specs.Prelude.{is_some, Option, Some, None}
use Rattle.event_key.specs.declared.key.Key.{Key}
use Rattle.model_core.specs.Meaning.{Meaning, MeaningLaws}
use Rattle.sim_spec.specs.declared.stop.Stop.TheVariants.{End, Limit, Fault}
use Rattle.sim_spec.specs.declared.terms.Terms.{Terms}
use Rattle.sim_spec.specs.State.{State, Lawful}
use Rattle.sim_spec.specs.Run.{Next, stops, does, next, Run, run, after_records}
use Rattle.sim_spec.specs.Cut.{records_of, state_with_done, committed_events, cut, after}
use Rattle.sim_spec.specs.Cycles.{Cycles, after_bucket, cycles_behind, cycles_with, cycles_on, cycles_for, cycles, records_of_buckets, run_of}
use Rattle.sim_spec.specs.HorizonLaws.{IsNextOfRun, CyclesLaw, EndsLaw}
use Rattle.sim_spec.proofs.RunEndsLemma.{run-ends}
use Rattle.sim_spec.proofs.RunLemmas.{run-stops}
use Rattle.sim_spec.proofs.BucketLaw.{bucket_law}
use Rattle.sim_spec.proofs.MovesLaw.{moves_law}

pub after-count : (m : Meaning) (t : Terms) (s : State) → (after m t s).count ≡ s.count + length (cut m t s).done
unfolding after state_with_done cut
after-count m t s = let told : length (records_of (committed_events m t s)) ≡ length (committed_events m t s) = length-map _ _ in omega arith

-- a bucket that isn't limited and has no fault takes the count nearer to the limit
nearer : (m : Meaning) (t : Terms) (s : State) → MeaningLaws m → Lawful m t s → next m t s ≢ stops End → next m t s ≢ stops Limit → (cut m t s).fault ≡ None
    → t.limit - (after m t s).count < t.limit - s.count
nearer m t s laws lawful not_end not_limit no_fault =
    let counts = after-count m t s in
    let upto : (after m t s).count ≤ t.limit = (bucket_law m t laws s lawful).lawful.count in
    elim (moves_law m t s lawful not_end not_limit) [
      | inl some ↦ (omega arith)
      | inr fault ↦ absurd (let none : is_some (cut m t s).fault ≡ false = ap is_some no_fault in cc)
    ]

module _ (m : Meaning) (t : Terms) (laws : MeaningLaws m) where
  -- where two ways to go on agree on all states nearer to the limit, so do cycles
  Agree : State → (State → Cycles) → (State → Cycles) → Type 0
  Agree s more others = (later : State) → Lawful m t later → t.limit - later.count < t.limit - s.count → more later ≡ others later

  behind_agree : (s : State) → Lawful m t s → next m t s ≢ stops End → next m t s ≢ stops Limit → (more others : State → Cycles) → Agree s more others
      → (fault : Option (Key × ℕ)) → (cut m t s).fault ≡ fault → (limited : Bool) → cycles_behind (after m t s) more fault limited ≡ cycles_behind (after m t s) others fault limited
  unfolding cycles_behind Agree
  behind_agree s lawful not_end not_limit more others agree (Some fault) is_fault limited = refl
  behind_agree s lawful not_end not_limit more others agree None is_fault true = refl
  behind_agree s lawful not_end not_limit more others agree None is_fault false =
      agree (after m t s) (bucket_law m t laws s lawful).lawful (nearer m t s laws lawful not_end not_limit is_fault)

  on_agree : (s : State) → Lawful m t s → (more others : State → Cycles) → Agree s more others → (n : Next) → next m t s ≡ n
      → cycles_on s (cut m t s) (after m t s) more n ≡ cycles_on s (cut m t s) (after m t s) others n
  unfolding cycles_on
  on_agree s lawful more others agree (stops End) is_next = refl
  on_agree s lawful more others agree (stops Limit) is_next = refl
  on_agree s lawful more others agree (stops (Fault key code)) is_next =
      ap (after_bucket (cut m t s)) (behind_agree s lawful (λ e. cc) (λ e. cc) more others agree (cut m t s).fault refl (cut m t s).limited)
  on_agree s lawful more others agree (does told mid) is_next =
      ap (after_bucket (cut m t s)) (behind_agree s lawful (λ e. cc) (λ e. cc) more others agree (cut m t s).fault refl (cut m t s).limited)

  -- so what counts the buckets doesn't matter, once it is large enough
  fuel_agree : (n k : ℕ) (s : State) → Lawful m t s → t.limit - s.count < n → t.limit - s.count < k → cycles_for n m t s ≡ cycles_for k m t s
  unfolding cycles_for Agree
  fuel_agree zero k s lawful enough large = absurd (omega arith)
  fuel_agree (suc n) zero s lawful enough large = absurd (omega arith)
  fuel_agree (suc n) (suc k) s lawful enough large =
      on_agree s lawful (cycles_for n m t) (cycles_for k m t) (λ later good near. fuel_agree n k later good (omega arith) (omega arith)) (next m t s) refl

  pub cycles-unfold : (s : State) → Lawful m t s → cycles m t s ≡ cycles_on s (cut m t s) (after m t s) (cycles m t) (next m t s)
  unfolding cycles cycles_for Agree
  cycles-unfold s lawful =
      on_agree s lawful (cycles_for (t.limit - s.count) m t) (cycles m t)
      (λ later good near. fuel_agree (t.limit - s.count) (suc (t.limit - later.count)) later good near (omega arith)) (next m t s) refl

  -- what comes after a bucket is what the run does after it
  behind_same : (s : State) → IsNextOfRun m t s → ((cut m t s).fault ≡ None → run_of (cycles m t (after m t s)) ≡ run m t (after m t s))
      → (fault : Option (Key × ℕ)) → (cut m t s).fault ≡ fault → (limited : Bool) → (cut m t s).limited ≡ limited
      → run_of (cycles_behind (after m t s) (cycles m t) fault limited) ≡ run m t (after m t s)
  unfolding cycles_behind records_of_buckets
  behind_same s law more (Some fault) is_fault limited is_limited = sym (run-stops m t (after m t s) (Fault fault.0 fault.1) (law.fault fault is_fault))
  behind_same s law more None is_fault true is_limited = sym (run-stops m t (after m t s) Limit (law.limited is_limited))
  behind_same s law more None is_fault false is_limited = more is_fault

  with_same : (s : State) → IsNextOfRun m t s → ((cut m t s).fault ≡ None → run_of (cycles m t (after m t s)) ≡ run m t (after m t s))
      → run_of (cycles_with (cut m t s) (after m t s) (cycles m t)) ≡ run m t s
  unfolding records_of_buckets
  with_same s law more =
      ap (after_records (cut m t s).done) (behind_same s law more (cut m t s).fault refl (cut m t s).limited refl) ∙ sym law.run

  on_same : (s : State) → Lawful m t s → (n : Next) → next m t s ≡ n
      → (next m t s ≢ stops End → next m t s ≢ stops Limit → (cut m t s).fault ≡ None → run_of (cycles m t (after m t s)) ≡ run m t (after m t s))
      → run_of (cycles_on s (cut m t s) (after m t s) (cycles m t) n) ≡ run m t s
  unfolding cycles_on records_of_buckets
  on_same s lawful (stops End) is_next more = sym (run-stops m t s End is_next)
  on_same s lawful (stops Limit) is_next more = sym (run-stops m t s Limit is_next)
  on_same s lawful (stops (Fault key code)) is_next more = with_same s (bucket_law m t laws s lawful) (more (λ e. cc) (λ e. cc))
  on_same s lawful (does told mid) is_next more = with_same s (bucket_law m t laws s lawful) (more (λ e. cc) (λ e. cc))

  same_within : (n : ℕ) (s : State) → Lawful m t s → t.limit - s.count < n → run_of (cycles m t s) ≡ run m t s
  same_within zero s lawful near = absurd (omega arith)
  same_within (suc n) s lawful near =
      ap run_of (cycles-unfold s lawful)
      ∙ on_same s lawful (next m t s) refl (λ not_end not_limit no_fault.
      let closer = nearer m t s laws lawful not_end not_limit no_fault in
      same_within n (after m t s) (bucket_law m t laws s lawful).lawful (omega arith))

pub cycles_law : (m : Meaning) (t : Terms) → MeaningLaws m → CyclesLaw m t
cycles_law m t laws s lawful = same_within m t laws (suc (t.limit - s.count)) s lawful (omega arith)

pub ends_law : (m : Meaning) (t : Terms) → MeaningLaws m → EndsLaw m t
ends_law m t laws s lawful =
    let P : Run → Type 0 = λ r. next m t r.last ≡ stops r.stop in
    let room : s.count ≤ t.limit = lawful.count in
    record {
      unfolds = cycles-unfold m t laws s lawful;
      stop = subst P (sym (cycles_law m t laws s lawful)) (run-ends m t s room).stop;
    }
