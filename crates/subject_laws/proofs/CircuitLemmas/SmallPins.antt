-- The gates in line, computed: `a` turns at 2, `n` is what it isn't, a tick later, and `z` is both.
use Rattle.std.proofs.lemmas.List.Elements.{All-nil, All-cons}
use Rattle.std.proofs.Common.{◌≡◌, ℕ, false, refl, List, [], ◌∷◌, map}
use Rattle.model_core.specs.declared.event.Event.{Event}
use Rattle.event_key.specs.Stamps.{stamp_at}
use Rattle.sim_spec.specs.State.{State}
use Rattle.circuit_model.specs.Meaning.{circuit_meaning}
use Rattle.run_laws.specs.Reached.{after_events, Reaches}
use Rattle.subject_laws.proofs.Computing.{circuit_run}
use Rattle.subject_laws.specs.CircuitExamples.{gates_in_line, to_five}
use Rattle.subject_laws.specs.CircuitFunctions.{computed}
use Rattle.subject_laws.specs.Settled.{level_at, output_at, arriving, NoneOnItsWay, is_for}

-- six events are done: `n` puts out 0 since 2.1, and that is on its way to `z`
half_way : State
half_way = after_events 6 (circuit_meaning gates_in_line) to_five

half_way_reached : Reaches (circuit_meaning gates_in_line) to_five half_way
unfolding half_way
half_way_reached = (6, refl)

-- one level is on its way, to the second pin of `z`
to_z : Event
to_z = record { key = record { stamp = stamp_at 3 0; rank = 0; dest = 2; src = 1; serial = 1 }; kind = 5; a = 1; b = 0 }

on_its_way : half_way.pending ≡ to_z ∷ []
unfolding half_way to_z gates_in_line to_five circuit_run
on_its_way = refl

-- none is to its first pin, nor to the pin of `n`
still : NoneOnItsWay half_way 2 0 × NoneOnItsWay half_way 1 0
unfolding half_way to_z gates_in_line to_five circuit_run
still = (none 2 0 refl, none 1 0 refl)
  where
    none : (number place : ℕ) → is_for number place to_z ≡ false → NoneOnItsWay half_way number place
    none number place other = let R : Event → Type 0 = λ e. is_for number place e ≡ false in All-cons R to_z [] other (All-nil R)

-- the still pins are what `a` puts out, and the other one is not yet what `n` puts out
pins_seen : ◌≡◌ {A = List ℕ × List ℕ} (
  level_at half_way 1 0 ∷ level_at half_way 2 0 ∷ level_at half_way 2 1 ∷ [],
  output_at half_way 0 ∷ output_at half_way 0 ∷ output_at half_way 1 ∷ [],
)
    (1 ∷ 1 ∷ 1 ∷ [], 1 ∷ 1 ∷ 0 ∷ [])
unfolding half_way gates_in_line to_five circuit_run
pins_seen = refl

-- but the level that is on its way makes it that
arrives : ◌≡◌ {A = ℕ × ℕ} (level_at half_way 2 1, arriving 2 1 (level_at half_way 2 1) half_way.pending) (1, output_at half_way 1)
unfolding half_way to_five gates_in_line arriving circuit_run
arrives = refl

-- with the seventh event the circuit has settled: what it puts out is its function of the input
settled : State
settled = after_events 7 (circuit_meaning gates_in_line) to_five

settled_reached : Reaches (circuit_meaning gates_in_line) to_five settled
unfolding settled
settled_reached = (7, refl)

nothing_is_pending : settled.pending ≡ []
unfolding settled gates_in_line to_five circuit_run
nothing_is_pending = refl

function_seen : ◌≡◌ {A = List ℕ × List ℕ} (
  map (output_at settled) (0 ∷ 1 ∷ 2 ∷ []),
  map (computed 2 gates_in_line (output_at settled)) (0 ∷ 1 ∷ 2 ∷ []),
)
    (1 ∷ 0 ∷ 0 ∷ [], 1 ∷ 0 ∷ 0 ∷ [])
unfolding settled gates_in_line to_five computed circuit_run
function_seen = refl
