-- Where a circuit begins.
use Rattle.std.proofs.Common.{◌≡◌, ◌≢◌, ◌⊎◌, ℕ, zero, suc, ◌+◌, ◌<◌, ◌≤◌, false, List, [], length, map, replicate, refl, sym, ap, ◌∙◌, inl, inr, arith}
use Rattle.std.specs.Prelude.{slice_index, All, Contains}
use Rattle.std.specs.List.{range_with_len, AllByRecursion as Each}
use Rattle.std.proofs.lemmas.List.{get_or-drop, get_or-replicate, get_or_default}
use Rattle.std.proofs.lemmas.List.FromFn.{length-map-range_with_len, get_or-map-range_with_len}
use Rattle.std.proofs.lemmas.List.Sorted.{Contains-permutation}
use Rattle.key_order.specs.Pending.{enqueue_all}
use Rattle.key_order.proofs.EachLemmas.{Each-map}
use Rattle.key_order.proofs.EnqueueLemmas.{Each-enqueue_all}
use Rattle.key_order.proofs.InOrder.{in_order-permutation}
use Rattle.model_core.specs.declared.event.Event.{Event}
use Rattle.model_core.specs.declared.event.Start.{Start}
use Rattle.model_core.specs.Meaning.{Meaning}
use Rattle.sim_spec.specs.Firing.{ObjectState}
use Rattle.sim_spec.specs.State.{State, initial_state, first_object, start_event, no_object}
use Rattle.circuit_model.specs.declared.gate.LogicGate.{LogicGate}
use Rattle.circuit_model.specs.declared.gate.LogicKind.{LogicKind}
use Rattle.circuit_model.specs.declared.gate.LogicKind.TheVariants.{Input, Buf, Not, And, Or, Xor, Nand, Nor, Dff}
use Rattle.circuit_model.specs.Events.{levels_of, output_of}
use Rattle.circuit_model.specs.Gates.{gate_at, is_input, value_of}
use Rattle.circuit_model.specs.Meaning.{circuit_meaning, first_gate_cells}
use Rattle.circuit_model.specs.Parts.{IsCircuit}
use Rattle.circuit_model.specs.StartLists.{All-starts_of, starts_of-compute}
use Rattle.circuit_model.specs.Starts.{compute_start, starts_of}
use Rattle.circuit_model.specs.Wiring.{pin, feeder}
use Rattle.subject_laws.specs.Settled.{cells_at, output_at, level_at, IsComputed, is_for, arriving, WillCompute}
use Rattle.subject_laws.proofs.CircuitLemmas.Arriving.{arriving-others}
use Rattle.subject_laws.proofs.CircuitLemmas.Pins.{is_for-not}
use Rattle.subject_laws.proofs.CircuitLemmas.Timely.{IsTimely}

-- each gate begins with its first cells
first_cells : (gates : List LogicGate) (number : ℕ) → number < length gates → cells_at (initial_state (circuit_meaning gates)) number ≡ first_gate_cells (gate_at gates number)
unfolding initial_state circuit_meaning
first_cells gates number exists =
    ap (λ (o : ObjectState). o.cells) (get_or-map-range_with_len (first_object (circuit_meaning gates)) 0 (length gates) number number no_object exists (omega arith))

-- puts out 0
first_output : (gates : List LogicGate) (number : ℕ) → number < length gates → output_at (initial_state (circuit_meaning gates)) number ≡ 0
first_output gates number exists =
    ap output_of (first_cells gates number exists) ∙ get_or-replicate (length (gate_at gates number).from + 2) 1 0 0 (omega arith)

-- and has pins that are 0
first_level : (gates : List LogicGate) (number place : ℕ) → number < length gates → place < length (gate_at gates number).from
    → level_at (initial_state (circuit_meaning gates)) number place ≡ 0
first_level gates number place exists within =
    let words : ℕ = length (gate_at gates number).from + 2 in
    ap (λ cells. slice_index (levels_of cells) place) (first_cells gates number exists)
    ∙ get_or-drop 2 (replicate words 0) place 0 ∙ get_or-replicate words (2 + place) 0 0 (omega arith)

-- no level is on its way
starts_are_no_levels : (gates : List LogicGate) → All (λ (start : Start). start.kind ≢ 5) (starts_of gates)
starts_are_no_levels gates =
    All-starts_of (λ (start : Start). start.kind ≢ 5) gates (λ number exists is. absurd (omega (arith, is))) (λ number exists i d within is. absurd (omega (arith, is)))

start_events : (P : Event → Type 0) (gates : List LogicGate) → ((i : ℕ) → i < length (starts_of gates) → P (start_event (circuit_meaning gates) i))
    → Each P (initial_state (circuit_meaning gates)).pending
unfolding initial_state circuit_meaning
start_events P gates holds =
    Each-enqueue_all P (map (start_event (circuit_meaning gates)) (range_with_len 0 (length (starts_of gates)))) []
    (each 0 (length (starts_of gates)) (λ i from below. holds i (omega arith))) tt
  where
    each : (a n : ℕ) → ((i : ℕ) → a ≤ i → i < a + n → P (start_event (circuit_meaning gates) i)) → Each P (map (start_event (circuit_meaning gates)) (range_with_len a n))
    each a zero holds = tt
    each a (suc n) holds = (holds a (omega arith) (omega arith), each (a + 1) n (λ i from below. holds i (omega arith) (omega arith)))

start_is_no_level : (gates : List LogicGate) (i : ℕ) → i < length (starts_of gates) → (start_event (circuit_meaning gates) i).kind ≢ 5
unfolding circuit_meaning
start_is_no_level gates i below = starts_are_no_levels gates i _ below

pub first_timely : (gates : List LogicGate) → Each (IsTimely gates 0) (initial_state (circuit_meaning gates)).pending
first_timely gates =
    start_events (IsTimely gates 0) gates (λ i below. (omega arith, λ is. absurd (start_is_no_level gates i below is)))

pub first_pins : (gates : List LogicGate) (number place : ℕ) → IsCircuit gates → number < length gates → place < length (gate_at gates number).from
    → arriving number place (level_at (initial_state (circuit_meaning gates)) number place) (initial_state (circuit_meaning gates)).pending
    ≡ output_at (initial_state (circuit_meaning gates)) (feeder gates (pin number place))
first_pins gates number place fine exists within =
    let s : State = initial_state (circuit_meaning gates) in
    let source : feeder gates (pin number place) < length gates = (fine.linked.each number _ exists).from place 0 within in
    nothing_comes s.pending (start_events (λ e. e.kind ≢ 5) gates (start_is_no_level gates))
    ∙ first_level gates number place exists within ∙ sym (first_output gates (feeder gates (pin number place)) source)
  where
    nothing_comes : (es : List Event) → Each (λ (e : Event). e.kind ≢ 5) es
        → arriving number place (level_at (initial_state (circuit_meaning gates)) number place) es ≡ level_at (initial_state (circuit_meaning gates)) number place
    nothing_comes es none =
        arriving-others number place _ es
        (Each-map (λ (e : Event). e.kind ≢ 5) (λ e. is_for number place e ≡ false) es (λ e other. is_for-not number place e (λ for. other for.kind)) none)

input_or_other : (kind : LogicKind) → (kind ≡ Input) ⊎ (is_input kind ≡ false)
input_or_other Input = inl refl
input_or_other Buf = inr refl
input_or_other Not = inr refl
input_or_other And = inr refl
input_or_other Or = inr refl
input_or_other Xor = inr refl
input_or_other Nand = inr refl
input_or_other Nor = inr refl
input_or_other Dff = inr refl

-- a gate that is no input computes at the start
will_compute : (gates : List LogicGate) (number : ℕ) → number < length gates → is_input (gate_at gates number).kind ≡ false
    → WillCompute number (initial_state (circuit_meaning gates)).pending
unfolding initial_state circuit_meaning
will_compute gates number exists is =
    let m : Meaning = circuit_meaning gates in
    let found = starts_of-compute gates number exists is in
    let i : ℕ = found.0 in
    let below : i < length (starts_of gates) = found.1 in
    let start : m.start_at i ≡ compute_start number = get_or_default (starts_of gates) i (compute_start 0) (compute_start number) below ∙ found.2 in
    let events : List Event = map (start_event m) (range_with_len 0 (length (starts_of gates))) in
    let all : length events ≡ length (starts_of gates) = length-map-range_with_len (start_event m) 0 (length (starts_of gates)) in
    let listed : Contains events (start_event m i) = (
      i,
      omega arith,
      get_or-map-range_with_len (start_event m) 0 (length (starts_of gates)) i i (start_event m i) below (omega arith),
    ) in (
      start_event m i,
      Contains-permutation events (enqueue_all events []) (start_event m i) (in_order-permutation events) listed,
      record { kind = ap (λ (s : Start). s.kind) start; dest = ap (λ (s : Start). s.dest) start },
    )

pub first_values : (gates : List LogicGate) (number : ℕ) → number < length gates
    → IsComputed gates (initial_state (circuit_meaning gates)) number ⊎ WillCompute number (initial_state (circuit_meaning gates)).pending
unfolding value_of
first_values gates number exists =
    let s : State = initial_state (circuit_meaning gates) in
    elim (input_or_other (gate_at gates number).kind) [
      | inl input ↦ inl (sym (ap (λ kind. value_of kind (levels_of (cells_at s number)) (output_at s number)) input))
      | inr other ↦ inr (will_compute gates number exists other)
    ]
