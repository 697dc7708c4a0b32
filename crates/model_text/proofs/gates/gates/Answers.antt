use Rattle.std.proofs.Common.{◌≡◌, ℕ, List, ◌+◌, ◌++◌, ◌∷◌, [], length, arith, refl, ap, subst, ◌∙◌}
use Rattle.std.proofs.lemmas.List.{length_push}
use Rattle.std.proofs.lemmas.List.Sums.{sum_by_push}
use Rattle.std.proofs.lemmas.Result.{err_from_is_err_and}
use Rattle.std.proofs.lemmas.List.Elements.{All-nil, All-push}
use Rattle.toml.specs.Data.{Data}
use Rattle.toml.specs.View.{view}
use Rattle.model_text.specs.declared.named.NamedGate.{NamedGate}
use Rattle.text_fields.specs.Checks.{Fails}
use Rattle.model_text.specs.Circuits.{gate, next_gate}
use Rattle.text_fields.specs.Directories.{finder}
use Rattle.model_text.specs.NamedGates.{IsNamedGate, flip_count, gate_place, gate_place_in}
use Rattle.text_fields.specs.Names.{Finder, TakesIn}
use Rattle.text_fields.proofs.Each.{after_goes_on, after_ends}
use Rattle.text_fields.proofs.Places.{finder-more}
use Rattle.model_text.proofs.gates.gates.Goals as goal

pub loop-value-init : goal.loop-value-init
loop-value-init c =
    rw c.new-gates.ensures.items
    (record { count = refl; found = c.new-directory.ensures; in_range = All-nil IsNamedGate; flips = refl; few_flips = omega arith; so_far = refl })

-- the check of the next gate is that of the code
same_check : (before : List NamedGate) (find : Finder) (flips number : ℕ) (d : Data) → find ≡ gate_place_in before → flips ≡ flip_count before → number ≡ length before
    → next_gate before d ≡ gate find flips (number + 1) d
same_check before find flips number d finds count at = rw (finds, count, at) refl

pub returns-in_err-gate-clause-read : goal.returns-in_err-gate-clause-read
returns-in_err-gate-clause-read c =
    let refused = err_from_is_err_and c.from_residual.result c.from_residual.ensures.1 in
    let before = c.loop-value.gates.items in
    let e = c.in_err-gate.field-0.0 in
    let number : c.len-number.result ≡ length before = omega arith in
    let same = same_check before (finder c.loop-value.directory) c.loop-value.flips c.len-number.result (view c.value-item.result) c.loop-value.invariant.found c.loop-value.invariant.flips number in
    let fails : Fails e (next_gate before (view c.value-item.result)) = rw same c.in_err-gate.ensures.read in
    rw (refused.1, refused.2)
    (after_ends next_gate before e c.loop-value.value-index c.args.values.now c.value-item.result _ c.loop-value-test.true c.value-item.is fails c.loop-value.invariant.so_far)

pub loop-value-preserved : goal.loop-value-preserved
loop-value-preserved c =
    let before = c.loop-value.gates.items in
    let g = c.in_ok-gate.gate in
    let directory = c.loop-value.directory in
    let more = finder c.gate.new.directory in
    let pushed : c.push.new.self.items ≡ before ++ g ∷ [] = c.in_ok-push.ensures.items in
    let number : c.len-number.result ≡ length before = omega arith in
    let same = same_check before (finder directory) c.loop-value.flips c.len-number.result (view c.value-item.result) c.loop-value.invariant.found c.loop-value.invariant.flips number in
    let turns : length c.as_slice.result.now ≡ length g.flips = ap length c.as_slice.ensures in
    record {
      count = rw pushed (omega (arith, length_push before g));
      found = rw pushed (finder-more (λ (gate : NamedGate). gate.name) gate_place (finder directory) more before g c.loop-value.invariant.found c.in_ok-gate.ensures.new
          (subst (λ n. TakesIn (finder directory) more g.name (gate_place n g)) number c.in_ok-gate.ensures.taken_in));
      in_range = rw pushed (All-push IsNamedGate before g c.loop-value.invariant.in_range c.in_ok-gate.ensures.in_range);
      flips = rw pushed (omega (arith, turns, sum_by_push (λ (gate : NamedGate). length gate.flips) before g, c.loop-value.invariant.flips));
      few_flips = omega (arith, turns, c.in_ok-gate.ensures.few);
      so_far = rw pushed (after_goes_on next_gate before c.loop-value.value-index c.args.values.now c.value-item.result g _
          c.loop-value-test.true c.value-item.is (same ∙ c.in_ok-gate.ensures.read) c.loop-value.invariant.so_far);
    }
