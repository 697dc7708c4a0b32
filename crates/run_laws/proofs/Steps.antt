-- What is known of an event that happens.
use Rattle.std.proofs.Common.{◌≡◌, ◌≢◌, ℕ, ◌+◌, ◌<◌, Bool, true, false, cond, List, [], ◌∷◌, length, refl, ap, ◌∙◌, eqb, ltb, ltb-true, get_or-set_same, get_or-set_other}
use Rattle.std.specs.Prelude.{sum_by}
use Rattle.std.proofs.lemmas.List.Sums.{sum_by-cons}
use Rattle.event_key.specs.declared.key.Key.{Key}
use Rattle.event_key.specs.Stamps.{end_stamp}
use Rattle.model_core.specs.declared.event.Event.{Event}
use Rattle.model_core.specs.declared.effect.Effect.{Effect}
use Rattle.model_core.specs.declared.effect.Outcome.{Outcome}
use Rattle.model_core.specs.declared.effect.Outcome.TheVariants.{Goes, Fails}
use Rattle.model_core.specs.declared.note.Note.{Note}
use Rattle.model_core.specs.Meaning.{Meaning}
use Rattle.sim_spec.specs.declared.terms.Terms.{Terms}
use Rattle.sim_spec.specs.declared.stop.Stop.TheVariants.{End, Limit}
use Rattle.sim_spec.specs.Firing.{Firing, firing_of, goes, fails, fire, fired_by, has_endless_chain}
use Rattle.sim_spec.specs.State.{State, object_at, no_object}
use Rattle.sim_spec.specs.Run.{stops, does, next, next_of, next_fired}
use Rattle.sim_spec.proofs.RunLemmas.{state_after}
use Rattle.run_laws.proofs.EnqueueSums.{sum_by-enqueue_all}
use Rattle.run_laws.specs.Sent.{sent_by, sent_by_first, sent_next}

-- the first pending event goes by an effect of the model's, and leaves this state
pub record IsStep (m : Meaning) (t : Terms) (s : State) (told : Key × Note) (after : State) : Type 0 where
  pub event : Event
  pub rest : List Event
  pub effect : Effect
  pub pending : s.pending ≡ event ∷ rest
  pub due : event.key.stamp < end_stamp t.end
  pub outcome : m.effect event.key.dest (object_at s.objects event.key.dest).cells event ≡ Goes effect
  pub no_chain : has_endless_chain event.key.stamp effect.sends ≡ false
  pub tells : told ≡ (event.key, effect.note)
  pub leaves : after ≡ state_after s event rest effect

-- what the first pending event of a state leaves, sends and tells, by this effect
abbrev pub first_firing : State → Event → Effect → Firing
first_firing s e x = firing_of e.key.dest (object_at s.objects e.key.dest) e x

step_goes : (m : Meaning) (t : Terms) (s : State) (told : Key × Note) (after : State) (e : Event) (rest : List Event) → s.pending ≡ e ∷ rest → e.key.stamp < end_stamp t.end
    → (o : Outcome) → m.effect e.key.dest (object_at s.objects e.key.dest).cells e ≡ o
    → next_fired s e rest (fired_by e.key.dest (object_at s.objects e.key.dest) e o) ≡ does told after → IsStep m t s told after
unfolding fired_by next_fired
step_goes m t s told after e rest is_pending due (Fails code) is_outcome is_next = absurd (cc)
step_goes m t s told after e rest is_pending due (Goes x) is_outcome is_next = by_chain (has_endless_chain e.key.stamp x.sends) refl is_next
  where
    does_told : (a b : Key × Note) (u v : State) → does a u ≡ does b v → b ≡ a
    does_told a b u v h = cc

    does_after : (a b : Key × Note) (u v : State) → does a u ≡ does b v → v ≡ u
    does_after a b u v h = cc

    by_chain : (b : Bool) → has_endless_chain e.key.stamp x.sends ≡ b → next_fired s e rest (cond b (fails 1) (goes (first_firing s e x))) ≡ does told after → IsStep m t s told after
    by_chain true chain is_next = absurd (cc)
    by_chain false chain is_next = record {
      event = e;
      rest = rest;
      effect = x;
      pending = is_pending;
      due = due;
      outcome = is_outcome;
      no_chain = chain;
      tells = does_told (e.key, x.note) told (state_after s e rest x) after is_next;
      leaves = does_after (e.key, x.note) told (state_after s e rest x) after is_next;
    }

step_of : (m : Meaning) (t : Terms) (s : State) (told : Key × Note) (after : State) (pending : List Event) → s.pending ≡ pending → next_of m t s pending ≡ does told after
    → IsStep m t s told after
unfolding next_of fire
step_of m t s told after [] is_pending is_next = absurd (cc)
step_of m t s told after (e ∷ rest) is_pending is_next =
    by_due (ltb e.key.stamp (end_stamp t.end)) refl (eqb s.count t.limit) is_next
  where
    by_due : (b : Bool) → ltb e.key.stamp (end_stamp t.end) ≡ b → (c : Bool)
        → cond b (cond c (stops Limit) (next_fired s e rest (fire m e.key.dest (object_at s.objects e.key.dest) e))) (stops End) ≡ does told after → IsStep m t s told after
    by_due false due c is_next = absurd (cc)
    by_due true due true is_next = absurd (cc)
    by_due true due false is_next =
        step_goes m t s told after e rest is_pending (ltb-true _ _ due) (m.effect e.key.dest (object_at s.objects e.key.dest).cells e) refl is_next

-- each event that happens is such a step
pub is_step : (m : Meaning) (t : Terms) (s : State) (told : Key × Note) (after : State) → next m t s ≡ does told after → IsStep m t s told after
unfolding next
is_step m t s told after is_next = step_of m t s told after s.pending refl is_next

pub step_fires : (m : Meaning) (t : Terms) (s : State) (told : Key × Note) (after : State) (step : IsStep m t s told after)
    → fire m step.event.key.dest (object_at s.objects step.event.key.dest) step.event ≡ goes (first_firing s step.event step.effect)
unfolding fire fired_by
step_fires m t s told after step =
    let e : Event = step.event in
    ap (fired_by e.key.dest (object_at s.objects e.key.dest) e) step.outcome
    ∙ ap (λ b. cond b (fails 1) (goes (first_firing s e step.effect))) step.no_chain

-- they are what the next event of the state sends
pub sent_next-step : (m : Meaning) (t : Terms) (s : State) (told : Key × Note) (after : State) (step : IsStep m t s told after)
    → sent_next m s ≡ (first_firing s step.event step.effect).events
unfolding sent_next
sent_next-step m t s told after step =
    ap (sent_by_first m s) step.pending ∙ ap sent_by (step_fires m t s told after step)

-- the object of the event has another state, and each other object keeps its own
pub object_here : (m : Meaning) (t : Terms) (s : State) (told : Key × Note) (after : State) (step : IsStep m t s told after) → step.event.key.dest < length s.objects
    → object_at after.objects step.event.key.dest ≡ (first_firing s step.event step.effect).state
object_here m t s told after step inside =
    ap (λ (s : State). object_at s.objects step.event.key.dest) step.leaves
    ∙ get_or-set_same s.objects step.event.key.dest (first_firing s step.event step.effect).state no_object inside

pub object_elsewhere : (m : Meaning) (t : Terms) (s : State) (told : Key × Note) (after : State) (step : IsStep m t s told after) (i : ℕ) → i ≢ step.event.key.dest → object_at after.objects i ≡ object_at s.objects i
object_elsewhere m t s told after step i apart =
    ap (λ (s : State). object_at s.objects i) step.leaves
    ∙ get_or-set_other s.objects step.event.key.dest i (first_firing s step.event step.effect).state no_object apart

-- a sum over what is pending: the event is taken off, and what it sends comes in
pub pending_before : (m : Meaning) (t : Terms) (s : State) (told : Key × Note) (after : State) (step : IsStep m t s told after) (f : Event → ℕ) → sum_by f s.pending ≡ f step.event + sum_by f step.rest
pending_before m t s told after step f = ap (sum_by f) step.pending ∙ sum_by-cons f step.event step.rest

pub pending_after : (m : Meaning) (t : Terms) (s : State) (told : Key × Note) (after : State) (step : IsStep m t s told after) (f : Event → ℕ)
    → sum_by f after.pending ≡ sum_by f (first_firing s step.event step.effect).events + sum_by f step.rest
pending_after m t s told after step f =
    ap (λ (s : State). sum_by f s.pending) step.leaves ∙ sum_by-enqueue_all f (first_firing s step.event step.effect).events step.rest
