-- Small circuits, and what is told of them.
use Rattle.std.specs.Prelude.{ℕ, true, List, [], ◌∷◌, map, flat_map, codes, replicate}
use Rattle.std.proofs.Common.{lit<, lit≤}
use Rattle.event_key.specs.declared.key.Key.{Key}
use Rattle.event_key.specs.Stamps.{stamp_at}
use Rattle.model_core.specs.declared.event.Event.{Event}
use Rattle.model_core.specs.declared.note.Note.{Note}
use Rattle.model_core.specs.declared.note.Part.{Part}
use Rattle.sim_spec.specs.declared.stop.Stop.{Stop}
use Rattle.sim_spec.specs.declared.terms.Terms.{Terms}
use Rattle.sim_spec.specs.Firing.{ObjectState, Fired, fire}
use Rattle.sim_spec.specs.State.{initial_state}
use Rattle.sim_spec.specs.Run.{Run, run}
use Rattle.circuit_model.specs.declared.gate.LogicGate.{LogicGate}
use Rattle.circuit_model.specs.declared.gate.LogicKind.{LogicKind}
use Rattle.circuit_model.specs.declared.gate.LogicKind.TheVariants.{Input, Buf, Not, And, Dff}
use Rattle.circuit_model.specs.Gates.{value_of}
use Rattle.circuit_model.specs.Meaning.{circuit_meaning}

-- what a gate puts out at 00, 01, 10 and 11
abbrev pub outputs : LogicKind → List ℕ
outputs kind = map (λ levels. value_of kind levels 0) ((0 ∷ 0 ∷ []) ∷ (0 ∷ 1 ∷ []) ∷ (1 ∷ 0 ∷ []) ∷ (1 ∷ 1 ∷ []) ∷ [])

abbrev pub input : List ℕ → List ℕ → LogicGate
input name flips = record { name = name; kind = Input; delay = 0; from = []; flips = flips; probe = true }

abbrev pub gate : List ℕ → LogicKind → ℕ → List ℕ → LogicGate
gate name kind delay from = record { name = name; kind = kind; delay = delay; from = from; flips = []; probe = true }

-- that a gate puts out a level from a step of a tick on
pub record Told : Type 0 where
  pub stamp : ℕ
  pub number : ℕ
  pub level : ℕ

abbrev pub told : ℕ → ℕ → ℕ → ℕ → Told
told time step number level = record { stamp = stamp_at time step; number = number; level = level }

abbrev pub told_of : Key × Note → List Told
told_of r = map (λ (part : Part). record { stamp = r.0.stamp; number = r.0.dest; level = part.a }) r.1

abbrev pub summary_of : Run → List Told × Stop × ℕ
summary_of r = (flat_map told_of r.records, r.stop, r.last.count)

-- what is told of the run of a circuit, why it stops, and how many events there are
abbrev pub summary : List LogicGate → Terms → List Told × Stop × ℕ
summary gates t = summary_of (run (circuit_meaning gates) t (initial_state (circuit_meaning gates)))

unfoldable pub to_five : Terms
to_five = record { end = 5; limit = 10000000; end_in_range = lit< tt; some_event = lit≤ tt; limit_in_range = lit≤ tt }

unfoldable pub to_nine : Terms
to_nine = record { end = 9; limit = 10000000; end_in_range = lit< tt; some_event = lit≤ tt; limit_in_range = lit≤ tt }

unfoldable pub to_three_events : Terms
to_three_events = record { end = 5; limit = 3; end_in_range = lit< tt; some_event = lit≤ tt; limit_in_range = lit≤ tt }

unfoldable pub gates_in_line : List LogicGate
gates_in_line = input (codes "a") (2 ∷ []) ∷ gate (codes "n") Not 1 (0 ∷ []) ∷ gate (codes "z") And 0 (0 ∷ 1 ∷ []) ∷ []

unfoldable pub line_told : List Told
line_told = told 0 0 1 1 ∷ told 2 0 0 1 ∷ told 2 1 1 0 ∷ told 2 1 2 1 ∷ told 3 0 2 0 ∷ []

-- data, a clock, and a flip-flop
unfoldable pub flip_flop : List LogicGate
flip_flop = input (codes "d") (1 ∷ 5 ∷ []) ∷ input (codes "c") (2 ∷ 4 ∷ 6 ∷ []) ∷ gate (codes "f") Dff 1 (0 ∷ 1 ∷ []) ∷ []

unfoldable pub flip_flop_told : List Told
flip_flop_told = told 1 0 0 1 ∷ told 2 0 1 1 ∷ told 2 1 2 1 ∷ told 4 0 1 0 ∷ told 5 0 0 0 ∷ told 6 0 1 1 ∷ told 6 1 2 0 ∷ []

unfoldable pub ring : List LogicGate
ring = gate (codes "n") Not 0 (0 ∷ []) ∷ []

unfoldable pub ring_told : List Told
ring_told = told 0 0 0 1 ∷ told 0 1 0 0 ∷ told 0 2 0 1 ∷ []

-- the ring's gate, which puts out 0, is told so at the last step of tick 0
unfoldable pub fires_last : Fired
fires_last =
    let object : ObjectState = record { cells = record { words = 0 ∷ 0 ∷ 1 ∷ []; lines = [] }; sent = 65535 } in
    let event : Event = record { key = record { stamp = stamp_at 0 65535; rank = 0; dest = 0; src = 0; serial = 65534 }; kind = 5; a = 0; b = 0 } in
    fire (circuit_meaning ring) 0 object event

-- an input that feeds nine gates
unfoldable pub nine_fed : List LogicGate
nine_fed = input (codes "a") [] ∷ replicate 9 (gate (codes "b") Buf 1 (0 ∷ []))
