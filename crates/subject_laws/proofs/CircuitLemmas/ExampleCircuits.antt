-- The examples are circuits.
use Rattle.std.proofs.Common.{◌≡◌, ℕ, zero, suc, ◌<◌, ◌≤◌, ◌^◌, false, List, [], ◌∷◌, length, map, refl, lit<, lit≤, arith}
use Rattle.std.proofs.lemmas.List.Elements.{All-nil, All-cons}
use Rattle.std.specs.Prelude.{All, codes}
use Rattle.circuit_model.specs.declared.gate.LogicKind.TheVariants.{Not, And}
use Rattle.circuit_model.specs.Gates.{gate_at, is_flip_flop, value_of}
use Rattle.circuit_model.specs.Parts.{IsGate, IsCircuit}
use Rattle.circuit_model.specs.Starts.{flips_below}
use Rattle.circuit_model.specs.Wiring.{pin, feeder, pins_below, fed_among, fed_by}
use Rattle.subject_laws.specs.CircuitFunctions.{computed, IsAcyclic}
use Rattle.subject_laws.specs.CircuitExamples.{input, gate, gates_in_line, ring}

All-one : {X : Type 0} (P : X → Type 0) (a : X) → P a → All P (a ∷ [])
All-one P a here = All-cons P a [] here (All-nil P)

pub ring-circuit : IsCircuit ring
unfolding ring flips_below pins_below fed_among
ring-circuit = record {
  linked = record {
    few_gates = lit≤ tt;
    each = All-one (IsGate ring) _ (record { delay = lit≤ tt; pins = refl; from = All-one (λ number. number < 1) 0 (lit< tt); flips = refl });
  };
  few_flips = lit≤ tt;
  fan_out = λ number exists. fan_out number exists;
}
  where
    fan_out : (number : ℕ) → number < 1 → length (fed_by ring number) ≤ 8
    fan_out zero exists = lit≤ tt
    fan_out (suc number) exists = absurd (omega arith)

pub gates_in_line-circuit : IsCircuit gates_in_line
unfolding gates_in_line flips_below pins_below fed_among
gates_in_line-circuit = record {
  linked = record {
    few_gates = lit≤ tt;
    each = All-cons (IsGate gates_in_line) _ (gate (codes "n") Not 1 (0 ∷ []) ∷ gate (codes "z") And 0 (0 ∷ 1 ∷ []) ∷ []) a
        (All-cons (IsGate gates_in_line) _ (gate (codes "z") And 0 (0 ∷ 1 ∷ []) ∷ []) n (All-one (IsGate gates_in_line) _ z));
  };
  few_flips = lit≤ tt;
  fan_out = λ number exists. fan_out number exists;
}
  where
    a : IsGate gates_in_line (input (codes "a") (2 ∷ []))
    a = record { delay = lit≤ tt; pins = refl; from = All-nil (λ number. number < 3); flips = All-one (λ time. time < 2 ^ 46) 2 (lit< tt) }

    n : IsGate gates_in_line (gate (codes "n") Not 1 (0 ∷ []))
    n = record { delay = lit≤ tt; pins = refl; from = All-one (λ number. number < 3) 0 (lit< tt); flips = refl }

    z : IsGate gates_in_line (gate (codes "z") And 0 (0 ∷ 1 ∷ []))
    z = record {
      delay = lit≤ tt;
      pins = (lit≤ tt, lit≤ tt);
      from = All-cons (λ number. number < 3) 0 (1 ∷ []) (lit< tt) (All-one (λ number. number < 3) 1 (lit< tt));
      flips = refl;
    }

    fan_out : (number : ℕ) → number < 3 → length (fed_by gates_in_line number) ≤ 8
    fan_out zero exists = lit≤ tt
    fan_out (suc zero) exists = lit≤ tt
    fan_out (suc (suc zero)) exists = lit≤ tt
    fan_out (suc (suc (suc number))) exists = absurd (omega arith)

-- the gates in line are fed by those before them, and compute the input, what it isn't, and both: so never 1
line-acyclic : IsAcyclic gates_in_line (λ number. number)
unfolding gates_in_line
line-acyclic = record { lower = λ number place exists within. lower number place exists within; no_flip_flop = λ number exists. no_flip_flop number exists }
  where
    lower : (number place : ℕ) → number < 3 → place < length (gate_at gates_in_line number).from → feeder gates_in_line (pin number place) < number
    lower zero place exists within = absurd (omega arith)
    lower (suc zero) zero exists within = lit< tt
    lower (suc zero) (suc place) exists within = absurd (omega arith)
    lower (suc (suc zero)) zero exists within = lit< tt
    lower (suc (suc zero)) (suc zero) exists within = lit< tt
    lower (suc (suc zero)) (suc (suc place)) exists within = absurd (omega arith)
    lower (suc (suc (suc number))) place exists within = absurd (omega arith)

    no_flip_flop : (number : ℕ) → number < 3 → is_flip_flop (gate_at gates_in_line number).kind ≡ false
    no_flip_flop zero exists = refl
    no_flip_flop (suc zero) exists = refl
    no_flip_flop (suc (suc zero)) exists = refl
    no_flip_flop (suc (suc (suc number))) exists = absurd (omega arith)

line_computes : ◌≡◌ {A = List ℕ × List ℕ}
    (map (computed 2 gates_in_line (λ input. 0)) (0 ∷ 1 ∷ 2 ∷ []), map (computed 2 gates_in_line (λ input. 1)) (0 ∷ 1 ∷ 2 ∷ []))
    (0 ∷ 1 ∷ 0 ∷ [], 1 ∷ 0 ∷ 0 ∷ [])
unfolding gates_in_line computed value_of
line_computes = refl
