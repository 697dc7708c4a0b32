-- A run stops of itself: its fuel is never used up.
use Rattle.std.proofs.Common.{◌≡◌, ◌≢◌, ℕ, zero, suc, ◌+◌, ◌-◌, ◌≤◌, sym, refl, subst, arith}
use Rattle.model_core.specs.Meaning.{Meaning}
use Rattle.sim_spec.specs.declared.terms.Terms.{Terms}
use Rattle.sim_spec.specs.State.{State}
use Rattle.sim_spec.specs.Run.{Next, stops, does, next, Run, run, Leads}
use Rattle.sim_spec.specs.Laws.{IsWholeRun}
use Rattle.sim_spec.proofs.RunLemmas.{run-does, run-stops, next-count}

-- what comes before a run
record Ends (m : Meaning) (t : Terms) (s : State) (r : Run) : Type 0 where
  leads : Leads m t s r.records r.last
  stop : next m t r.last ≡ stops r.stop

ends_by : (m : Meaning) (t : Terms) (s : State) (x : Next) → s.count ≤ t.limit → next m t s ≡ x
    → ((after : State) → after.count ≡ s.count + 1 → s.count ≢ t.limit → Ends m t after (run m t after)) → Ends m t s (run m t s)
unfolding Leads
ends_by m t s (stops stop) room is_next more =
    let P : Run → Type 0 = Ends m t s in
    subst P (sym (run-stops m t s stop is_next)) (record { leads = refl; stop = is_next })
ends_by m t s (does told after) room is_next more =
    let counts = next-count m t s told after is_next in
    let ends = more after counts.0 counts.1 in
    let P : Run → Type 0 = Ends m t s in
    subst P (sym (run-does m t s told after room is_next)) (record { leads = (after, is_next, ends.leads); stop = ends.stop })

ends_within : (m : Meaning) (t : Terms) (n : ℕ) (s : State) → s.count ≤ t.limit → t.limit - s.count ≤ n → Ends m t s (run m t s)
ends_within m t zero s room near =
    ends_by m t s (next m t s) room refl (λ after one free. absurd (omega arith))
ends_within m t (suc n) s room near =
    ends_by m t s (next m t s) room refl (λ after one free. ends_within m t n after (omega arith) (omega arith))

pub run-ends : (m : Meaning) (t : Terms) (s : State) → s.count ≤ t.limit → IsWholeRun m t s
run-ends m t s room =
    let ends = ends_within m t (t.limit - s.count) s room (omega arith) in
    record { leads = ends.leads; stop = ends.stop }
