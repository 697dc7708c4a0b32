-- A longer run begins with the shorter one.
use Rattle.std.proofs.Common.{◌≡◌, ◌≢◌, ◌+◌, ◌<◌, ◌≤◌, List, [], ◌∷◌, refl, sym, ap, ◌∙◌, arith}
use Rattle.event_key.specs.declared.key.Key.{Key}
use Rattle.event_key.specs.Stamps.{end_stamp}
use Rattle.model_core.specs.declared.event.Event.{Event}
use Rattle.model_core.specs.declared.note.Note.{Note}
use Rattle.model_core.specs.Meaning.{Meaning}
use Rattle.sim_spec.specs.declared.terms.Terms.{Terms}
use Rattle.sim_spec.specs.State.{State, initial_state}
use Rattle.sim_spec.specs.Run.{does, next, next_fired, run, Leads}
use Rattle.sim_spec.proofs.RunEndsLemma.{run-ends}
use Rattle.sim_spec.proofs.RunLemmas.{next-count, next-fires, run-leads, state_after}
use Rattle.run_laws.specs.RunLaws.{LongerRunGoesOn}
use Rattle.run_laws.proofs.Steps.{IsStep, is_step, step_fires}

-- an event that happens under the one terms happens under the wider ones
same_next : (m : Meaning) (t u : Terms) (s : State) (told : Key × Note) (after : State) → t.end ≤ u.end → t.limit ≤ u.limit → s.count ≤ t.limit
    → next m t s ≡ does told after → next m u s ≡ does told after
unfolding next_fired
same_next m t u s told after longer more room is_next =
    let step : IsStep m t s told after = is_step m t s told after is_next in
    let e : Event = step.event in
    let free : s.count ≢ t.limit = (next-count m t s told after is_next).1 in
    let due : e.key.stamp < end_stamp u.end = (let early : e.key.stamp < end_stamp t.end = step.due in omega arith) in
    let still_free : s.count ≢ u.limit = λ full. absurd (free (omega arith)) in
    next-fires m u s e step.rest step.pending due still_free
    ∙ ap (next_fired s e step.rest) (step_fires m t s told after step)
    ∙ ap (λ (r : Key × Note). does r (state_after s e step.rest step.effect)) (sym step.tells)
    ∙ ap (does told) (sym step.leaves)

leads-longer : (m : Meaning) (t u : Terms) (records : List (Key × Note)) (s last : State) → t.end ≤ u.end → t.limit ≤ u.limit → s.count ≤ t.limit
    → Leads m t s records last → Leads m u s records last
unfolding Leads
leads-longer m t u [] s last longer more room leads = leads
leads-longer m t u (told ∷ records) s last longer more room leads =
    let counts = next-count m t s told leads.0 leads.1 in
    let one : leads.0.count ≡ s.count + 1 = counts.0 in
    let free : s.count ≢ t.limit = counts.1 in
    (leads.0, same_next m t u s told leads.0 longer more room leads.1, leads-longer m t u records leads.0 last longer more (omega arith) leads.2)

start_count : (m : Meaning) → (initial_state m).count ≡ 0
unfolding initial_state
start_count m = refl

pub longer_run_goes_on : (m : Meaning) → LongerRunGoesOn m
longer_run_goes_on m t u longer more =
    let s : State = initial_state m in
    let none : s.count ≡ 0 = start_count m in
    let room : s.count ≤ t.limit = omega arith in
    run-leads m u (run m t s).records s (run m t s).last (omega arith)
    (leads-longer m t u (run m t s).records s (run m t s).last longer more room (run-ends m t s room).leads)
