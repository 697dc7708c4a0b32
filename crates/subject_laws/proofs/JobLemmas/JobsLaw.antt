-- No job is lost or doubled.
use Rattle.std.proofs.Common.{◌≡◌, ℕ, suc, ◌+◌, Bool, true, cond, List, [], ◌∷◌, length, refl, sym, ap, ◌∙◌, subst, arith}
use Rattle.std.specs.Prelude.{sum_by, count_by}
use Rattle.std.specs.List.{range_with_len}
use Rattle.std.proofs.lemmas.List.Sums.{sum_by-cons}
use Rattle.event_key.specs.declared.key.Key.{Key}
use Rattle.model_core.specs.declared.note.Note.{Note}
use Rattle.sim_spec.specs.declared.terms.Terms.{Terms}
use Rattle.sim_spec.specs.State.{State}
use Rattle.sim_spec.specs.Run.{Next, stops, does, next}
use Rattle.queue_models.specs.Kinds.{is_source}
use Rattle.queue_models.specs.Meaning.{plain_meaning}
use Rattle.queue_models.specs.Objects.{NetworkParts, object_at}
use Rattle.queue_models.specs.Parts.{IsNetwork}
use Rattle.queue_models.specs.Sources.{made_of}
use Rattle.run_laws.specs.Reached.{after_events}
use Rattle.run_laws.proofs.Induction.{after_events-does, after_events-stops, each_number}
use Rattle.subject_laws.specs.Stations.{cells_at}
use Rattle.subject_laws.proofs.QueueLemmas.NetworkSteps.{IsNetworkStep, network_step}
use Rattle.subject_laws.specs.Places.{Place, at_event, in_line, has_left, was_lost}
use Rattle.subject_laws.specs.JobLaws.{numbers_from, is_left, is_lost, AreAllThere, NoneLostOrDoubled}
use Rattle.subject_laws.specs.Jobs.{Job, listed, made_by, is_in_system, places_after, whereabouts, held, in_the_system}
use Rattle.subject_laws.proofs.JobLemmas.NamesLaw.{listed_on, made_on, listed_first, made_first}
use Rattle.subject_laws.proofs.JobLemmas.Permuted.{same_counts}
use Rattle.subject_laws.proofs.JobLemmas.PlacesLaw.{Agree, agree_on, agree_first}
use Rattle.subject_laws.proofs.JobLemmas.SamePlace.{same_at, same_at-true, same_at-same}
use Rattle.subject_laws.proofs.JobLemmas.Weights.{inside, job_weight, sum-held}
use Rattle.subject_laws.proofs.QueueLemmas.PlainRuns.{same_after}

-- one event more
pub whereabouts-next : (p : NetworkParts) (t : Terms) (n : ℕ) (x : Next) → next (plain_meaning p) t (after_events n (plain_meaning p) t) ≡ x
    → whereabouts p t (suc n) ≡ places_after p (after_events n (plain_meaning p) t) (whereabouts p t n) x
unfolding whereabouts
whereabouts-next p t n x is_next = ap (places_after p (after_events n (plain_meaning p) t) (whereabouts p t n)) is_next

-- the jobs have their names, and hold the places of the state
record AreThere (p : NetworkParts) (s : State) (jobs : List (Job × Place)) : Type 0 where
  pub put_in : numbers_from listed jobs ≡ range_with_len 1 (length p.jobs)
  pub made : (i : ℕ) → is_source (object_at p.objects i).kind ≡ true → numbers_from (made_by i) jobs ≡ range_with_len 1 (made_of (cells_at s i))
  pub agree : Agree p s jobs

there_on : (p : NetworkParts) (t : Terms) (s : State) (told : Key × Note) (after : State) (jobs : List (Job × Place)) → IsNetwork p → IsNetworkStep p t s told after
    → AreThere p s jobs → AreThere p after (places_after p s jobs (does told after))
there_on p t s told after jobs fine n before = record {
  put_in = listed_on p t s told after jobs n ∙ before.put_in;
  made = λ i is. made_on p t s told after jobs n i is (before.made i is);
  agree = agree_on p t s told after jobs fine n before.agree;
}

there : (p : NetworkParts) (t : Terms) → IsNetwork p → (n : ℕ) → AreThere p (after_events n (plain_meaning p) t) (whereabouts p t n)
unfolding whereabouts after_events
there p t fine =
    let m = plain_meaning p in
    each_number m t (λ n. AreThere p (after_events n m t) (whereabouts p t n))
    (record { put_in = listed_first p; made = made_first p; agree = agree_first p fine })
    (λ n stop is_next before.
    let W : List (Job × Place) → Type 0 = λ jobs. AreThere p (after_events (suc n) m t) jobs in
    let S : State → Type 0 = λ s. AreThere p s (whereabouts p t n) in
    subst W (sym (whereabouts-next p t n (stops stop) is_next)) (subst S (sym (after_events-stops m t n stop is_next)) before))
    (λ n told after is_next before.
    let s : State = after_events n m t in
    let W : List (Job × Place) → Type 0 = λ jobs. AreThere p (after_events (suc n) m t) jobs in
    let S : State → Type 0 = λ s. AreThere p s (places_after p (after_events n m t) (whereabouts p t n) (does told after)) in
    subst W (sym (whereabouts-next p t n (does told after) is_next))
    (subst S (sym (after_events-does m t n told after is_next))
    (there_on p t s told after (whereabouts p t n) fine (network_step p t s told after fine (n, refl) is_next) before)))

pub places_agree : (p : NetworkParts) (t : Terms) → IsNetwork p → (n : ℕ) → Agree p (after_events n (plain_meaning p) t) (whereabouts p t n)
places_agree p t fine n = (there p t fine n).agree

-- each job has left, was lost, or is in the system
all_somewhere : (jobs : List (Job × Place))
    → length jobs ≡ count_by (λ (job : Job × Place). is_left job.1) jobs + count_by (λ (job : Job × Place). is_lost job.1) jobs + sum_by (job_weight (inside (λ at. 1))) jobs
all_somewhere [] = refl
all_somewhere (job ∷ jobs) =
    let left : Job × Place → Bool = λ job. is_left job.1 in
    let lost : Job × Place → Bool = λ job. is_lost job.1 in
    let one : ℕ × Place → ℕ = λ at. 1 in
    by job.1 (count_by left jobs) (count_by left (job ∷ jobs)) (count_by lost jobs) (count_by lost (job ∷ jobs)) (sum_by (job_weight (inside one)) jobs) (sum_by (job_weight (inside one)) (job ∷ jobs))
    (sum_by-cons (λ (job : Job × Place). cond (is_left job.1) 1 0) job jobs)
    (sum_by-cons (λ (job : Job × Place). cond (is_lost job.1) 1 0) job jobs)
    (sum_by-cons (job_weight (inside one)) job jobs)
    (all_somewhere jobs)
  where
    by : (place : Place) (l m o q h r : ℕ) → m ≡ cond (is_left place) 1 0 + l → q ≡ cond (is_lost place) 1 0 + o → r ≡ cond (is_in_system place) 1 0 + h
        → length jobs ≡ l + o + h → suc (length jobs) ≡ m + q + r
    by (at_event k) l m o q h r a b c d = omega arith
    by (in_line i k) l m o q h r a b c d = omega arith
    by has_left l m o q h r a b c d = omega arith
    by was_lost l m o q h r a b c d = omega arith

sum-ones : {X : Type 0} (xs : List X) → sum_by (λ x. 1) xs ≡ length xs
sum-ones [] = refl
sum-ones (x ∷ xs) = omega (arith, sum_by-cons (λ x. 1) x xs, sum-ones xs)

-- the law over the plain meaning
plain_jobs : (p : NetworkParts) (t : Terms) (n : ℕ) → IsNetwork p → AreAllThere p t n (after_events n (plain_meaning p) t)
plain_jobs p t n fine =
    let s : State = after_events n (plain_meaning p) t in
    let jobs : List (Job × Place) = whereabouts p t n in
    let are : AreThere p s jobs = there p t fine n in
    let one : ℕ × Place → ℕ = λ at. 1 in
    let in_it : sum_by (job_weight (inside one)) jobs ≡ length (in_the_system p s) =
    sym (sum-held one jobs) ∙ are.agree one ∙ sum-ones (in_the_system p s) in
    record {
      put_in = are.put_in;
      made = are.made;
      places = same_counts same_at same_at-true same_at-same (held jobs) (in_the_system p s) (λ x. are.agree (λ y. cond (same_at x y) 1 0));
      count = all_somewhere jobs ∙ ap (λ k. count_by (λ (job : Job × Place). is_left job.1) jobs + count_by (λ (job : Job × Place). is_lost job.1) jobs + k) in_it;
    }

pub jobs_law : NoneLostOrDoubled
jobs_law p t n fine = subst (AreAllThere p t n) (sym (same_after p t n)) (plain_jobs p t n fine)
