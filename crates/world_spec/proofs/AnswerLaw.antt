-- What a cycle puts together is the bucket of its state.
use Rattle.std.proofs.Common.{Bool, List, [], ap, arith, cond, drop, eqb, false, length, ltb, map, refl, subst, sym, true, ℕ, ◌&&◌, ◌-◌, ◌<◌, ◌||◌, ◌∙◌, ◌∷◌, ◌≡◌}
use Rattle.std.proofs.lemmas.List.{drop-map, length-map}
use Rattle.std.specs.Prelude.{None, Option, Some, is_some}
use Rattle.event_key.proofs.Order.{key_lt-apart}
use Rattle.event_key.specs.declared.key.Key.{Key}
use Rattle.model_core.specs.Meaning.{Meaning}
use Rattle.model_core.specs.declared.event.Event.{Event}
use Rattle.sim_spec.specs.Cut.{committed_events, cut, events_of, is_limited, records_of}
use Rattle.sim_spec.specs.Firing.{Firing}
use Rattle.sim_spec.specs.Horizon.{horizon_bucket}
use Rattle.sim_spec.specs.Replay.{early_replay}
use Rattle.sim_spec.specs.State.{State}
use Rattle.sim_spec.specs.declared.terms.Terms.{Terms}
use Rattle.world_spec.specs.Answer.{AnswerLaw, CutData, answer_of, cut_below, cut_of, first_of, keys_of}
use Rattle.world_spec.specs.Closed.{IsLeastFault, cut_key, fault_key, first_key}
use Rattle.world_spec.proofs.BucketKeys.{bucket-keys}
use Rattle.world_spec.proofs.ClosedLaw.{horizon_is, least_fault}

-- where a bucket is cut
pub cut-is : (m : Meaning) (t : Terms) (s : State) → cut_of (t.limit - s.count) (map (λ d. d.0.key) (horizon_bucket m t s).done) (horizon_bucket m t s).fault ≡ record { below = cut_key m t s; fault = (cut m t s).fault; limited = (cut m t s).limited }
unfolding cut_of cut cut_key is_limited
cut-is m t s =
    let b = horizon_bucket m t s in
    let left = t.limit - s.count in
    let long : length (map (λ d. d.0.key) b.done) ≡ length b.done = length-map _ _ in
    let first = below_is left b.done b.fault in
    λ i. record {
      below = first i;
      fault = cond (ltb left (long i) || (eqb left (long i) && is_some b.fault)) None b.fault;
      limited = ltb left (long i) || (eqb left (long i) && is_some b.fault);
    }
  where
    first_is : (ds : List (Event × Firing)) (key : Option Key) → first_of (map (λ d. d.0.key) ds) key ≡ first_key ds key
    first_is [] key = refl
    first_is (d ∷ ds) key = refl

    below_is : (k : ℕ) (ds : List (Event × Firing)) (fault : Option (Key × ℕ)) → first_of (drop k (map (λ d. d.0.key) ds)) (fault_key fault) ≡ first_key (drop k ds) (fault_key fault)
    below_is k ds fault = ap (λ ks. first_of ks (fault_key fault)) (drop-map (λ (d : Event × Firing). d.0.key) k ds) ∙ first_is (drop k ds) (fault_key fault)

-- there is one least fault
pub least-fault_unique : (m : Meaning) (s : State) (ahead : ℕ → ℕ) (bound : ℕ) (a b : Option (Key × ℕ)) → IsLeastFault m s ahead bound a → IsLeastFault m s ahead bound b → a ≡ b
least-fault_unique m s ahead bound None None h k = refl
least-fault_unique m s ahead bound None (Some b) h k = absurd (let late = h b.0.dest k.0 b k.1 in let low : b.0.stamp < bound = k.2 in omega arith)
least-fault_unique m s ahead bound (Some a) None h k = absurd (let late = k a.0.dest h.0 a h.1 in let low : a.0.stamp < bound = h.2 in omega arith)
least-fault_unique m s ahead bound (Some a) (Some b) h k =
    let one = h.3 b.0.dest k.0 b k.1 in
    let two = k.3 a.0.dest h.0 a h.1 in
    let same : a.0 ≡ b.0 = key_lt-apart a.0 b.0 two one in
    let P : ℕ → Type 0 = λ o. (early_replay m s o (ahead o)).fault ≡ Some b in
    let there : (early_replay m s a.0.dest (ahead a.0.dest)).fault ≡ Some b = subst P (sym (ap (λ (k : Key). k.dest) same)) k.1 in
    sym h.1 ∙ there

keys_map : (ds : List (Event × Firing)) → keys_of (events_of ds) ≡ map (λ d. d.0.key) ds
keys_map [] = refl
keys_map (d ∷ ds) = ap (λ ks. d.0.key ∷ ks) (keys_map ds)

horizon_of : (limited : Bool) (fault : Option (Key × ℕ)) (bound h : ℕ) → (fault ≡ None → bound ≡ h) → cond limited 0 (cond (is_some (cond limited None fault)) 0 bound) ≡ cond limited 0 (cond (is_some fault) 0 h)
horizon_of true fault bound h same = refl
horizon_of false None bound h same = same refl
horizon_of false (Some f) bound h same = refl

pub answer_law : (m : Meaning) (t : Terms) → AnswerLaw m t
unfolding cut
answer_law m t s ahead bound keys fault lawful runs closed below least =
    let b = horizon_bucket m t s in
    let left = t.limit - s.count in
    let same : fault ≡ b.fault = least-fault_unique m s ahead bound fault b.fault least (least_fault m t s ahead bound lawful runs closed b.fault refl) in
    let all : cut_below left keys fault ≡ record { below = cut_key m t s; fault = (cut m t s).fault; limited = (cut m t s).limited } =
    ap (cut_below left keys) same
    ∙ ap (λ ks. cut_of left ks b.fault) (bucket-keys m t s ahead bound keys lawful runs closed below ∙ keys_map b.done)
    ∙ cut-is m t s in
    let limited = is_limited left b in
    let horizon = horizon_of limited b.fault bound b.horizon (horizon_is m t s ahead bound lawful runs closed) in
    record {
      below = ap (λ (c : CutData). c.below) all;
      bucket = (λ i. answer_of bound (all i) (records_of (committed_events m t s)))
          ∙ (λ i. record { done = records_of (committed_events m t s); horizon = horizon i; fault = cond limited None b.fault; limited = limited });
    }
