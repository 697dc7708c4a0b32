-- Levels come to a pin in the order in which they were sent: none is behind one that is sent now.
use Rattle.std.proofs.Common.{◌≡◌, ℕ, ◌+◌, ◌*◌, ◌≤◌, Bool, true, false, List, ◌∷◌, map, refl, sym, subst, arith}
use Rattle.std.specs.Prelude.{◌==◌, if◌then◌else◌}
use Rattle.std.specs.List.{AllByRecursion as Each}
use Rattle.std.proofs.lemmas.Bool.Decides.{nat_tests}
use Rattle.event_key.specs.declared.key.Key.{Key}
use Rattle.event_key.specs.Keys.{key_lt}
use Rattle.event_key.specs.Stamps.{next_stamp, time_part}
use Rattle.event_key.proofs.Order.{stamp-le}
use Rattle.key_order.specs.Ascending.{IsAscending, Ascends}
use Rattle.key_order.proofs.EachLemmas.{Each-both}
use Rattle.key_order.proofs.EnqueueLemmas.{Each-enqueue_all}
use Rattle.model_core.specs.declared.event.Event.{Event}
use Rattle.model_core.specs.declared.note.Note.{Note}
use Rattle.sim_spec.specs.declared.terms.Terms.{Terms}
use Rattle.sim_spec.specs.Firing.{emissions}
use Rattle.sim_spec.specs.State.{State, object_at}
use Rattle.circuit_model.specs.declared.gate.LogicGate.{LogicGate}
use Rattle.circuit_model.specs.Events.{level_to, output_after}
use Rattle.circuit_model.specs.Gates.{gate_at, delay_of}
use Rattle.circuit_model.specs.Wiring.{pin, feeder, fed_by}
use Rattle.subject_laws.specs.Settled.{cells_at}
use Rattle.subject_laws.proofs.CircuitLemmas.CircuitSteps.{IsCircuitStep, pending_after}
use Rattle.subject_laws.proofs.CircuitLemmas.Leaves.{gate_sends}
use Rattle.subject_laws.proofs.CircuitLemmas.Sends.{Each-level_events, fed_by-feeds}

pub next_stamp-grows : (a b delay : ℕ) → a ≤ b → next_stamp a delay ≤ next_stamp b delay
unfolding next_stamp
next_stamp-grows a b delay le = by (delay == 0)
  where
    by : (none : Bool) → (if none then a + 1 else (time_part a + delay) * 65536) ≤ (if none then b + 1 else (time_part b + delay) * 65536)
    by true = omega arith
    by false = omega arith

next_stamp-past : (a delay : ℕ) → a ≤ next_stamp a delay
unfolding next_stamp
next_stamp-past a delay = by (delay == 0) refl
  where
    by : (none : Bool) → (delay == 0) ≡ none → a ≤ (if none then a + 1 else (time_part a + delay) * 65536)
    by true is = omega arith
    by false is = (let some : 1 ≤ delay = grind (arith, nat_tests) in omega arith)

-- a level on its way comes from the gate that feeds the pin, and no later than one that is sent now
pub record IsOnItsWay (gates : List LogicGate) (now : ℕ) (e : Event) : Type 0 where
  pub rank : e.key.rank ≡ 0
  pub src : e.key.src ≡ feeder gates (pin e.key.dest e.a)
  pub stamp : e.key.stamp ≤ next_stamp now (delay_of (gate_at gates e.key.src))

-- an event that is pending now
abbrev pub IsTimely : List LogicGate → ℕ → Event → Type 0
IsTimely gates now e = (now ≤ e.key.stamp) × (e.kind ≡ 5 → IsOnItsWay gates now e)

timely_later : (gates : List LogicGate) (now later : ℕ) (e : Event) → now ≤ later → later ≤ e.key.stamp → IsTimely gates now e → IsTimely gates later e
timely_later gates now later e le below timely = (
  below,
  λ is_level.
      let way = timely.1 is_level in
      record { rank = way.rank; src = way.src; stamp = omega (arith, way.stamp, next_stamp-grows now later (delay_of (gate_at gates e.key.src)) le) },
)

sends_timely : (gates : List LogicGate) (number stamp serial output : ℕ)
    → Each (IsTimely gates stamp) (emissions stamp number serial (map (level_to (delay_of (gate_at gates number)) output) (fed_by gates number)))
sends_timely gates number stamp serial output =
    Each-level_events (IsTimely gates stamp) (λ p. feeder gates p ≡ number) stamp number serial serial (delay_of (gate_at gates number)) output (fed_by gates number) (omega arith)
    (λ p k from fed. (
      next_stamp-past stamp (delay_of (gate_at gates number)),
      λ _. record { rank = refl; src = sym fed; stamp = omega arith },
    ))
    (fed_by-feeds gates number)

-- what is pending after an event is timely at its stamp
pub timely-kept : (gates : List LogicGate) (t : Terms) (s : State) (told : Key × Note) (after : State) (n : IsCircuitStep gates t s told after) (now : ℕ)
    → Each (IsTimely gates now) s.pending → Each (IsTimely gates n.step.event.key.stamp) after.pending
unfolding Ascends emissions
timely-kept gates t s told after n now timely =
    let e : Event = n.step.event in
    let serial : ℕ = (object_at s.objects e.key.dest).sent in
    let all : Each (IsTimely gates now) (e ∷ n.step.rest) = subst (Each (IsTimely gates now)) n.step.pending timely in
    let up : IsAscending (e ∷ n.step.rest) = subst IsAscending n.step.pending n.lawful.ordered in
    let rest : Each (IsTimely gates e.key.stamp) n.step.rest =
    Each-both (λ (x : Event). key_lt e.key x.key ≡ true) (IsTimely gates now) (IsTimely gates e.key.stamp) n.step.rest
    (λ x lt here. timely_later gates now e.key.stamp x all.0.0 (stamp-le e.key x.key lt) here) up.0 all.1
    in
    let sent = gate_sends (λ sends. Each (IsTimely gates e.key.stamp) (emissions e.key.stamp e.key.dest serial sends)) gates e.key.dest (cells_at s e.key.dest) e
    (λ stays. tt) (sends_timely gates e.key.dest e.key.stamp serial (output_after (gate_at gates e.key.dest) (cells_at s e.key.dest) e))
    in
    subst (Each (IsTimely gates e.key.stamp)) (sym (pending_after gates t s told after n))
    (Each-enqueue_all (IsTimely gates e.key.stamp) _ n.step.rest sent rest)
