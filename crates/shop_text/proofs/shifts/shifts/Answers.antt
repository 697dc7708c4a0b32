use Rattle.std.proofs.Common.{◌≡◌, ◌+◌, ◌<◌, ◌≤◌, ◌++◌, ◌∷◌, [], arith, refl}
use Rattle.std.specs.Prelude.{All}
use Rattle.std.proofs.lemmas.List.{length_push}
use Rattle.std.proofs.lemmas.Result.{err_from_is_err_and}
use Rattle.std.proofs.lemmas.List.Elements.{All-nil, All-push, All-get_or, All-weaker}
use Rattle.std.proofs.lemmas.List.Quantifiers.{all_pairs_push}
use Rattle.shop_model.specs.declared.station.Shift.{Shift}
use Rattle.text_fields.proofs.Known.{known_begins, known_goes_on, known_ends}
use Rattle.shop_text.specs.Ranges.{IsShift}
use Rattle.shop_text.specs.StationTexts.{shift}
use Rattle.shop_text.proofs.shifts.shifts.Goals as goal

pub loop-value-init : goal.loop-value-init
loop-value-init c =
    rw c.new-shifts.ensures.items
    (record {
      count = refl;
      in_range = All-nil IsShift;
      rising = λ i j d before within. absurd (omega arith);
      before = All-nil (λ (s : Shift). s.at < 0);
      so_far = known_begins _;
    })

pub returns-in_err-shift-clause-read : goal.returns-in_err-shift-clause-read
returns-in_err-shift-clause-read c =
    let refused = err_from_is_err_and c.from_residual.result c.from_residual.ensures.1 in
    rw (refused.1, refused.2)
    (known_ends (λ k. shift c.args.item) c.loop-value.shifts.items c.in_err-shift.field-0.0 c.loop-value.value-index c.loop-value.value-index c.loop-value.next c.args.values.now c.value-item.result _
    c.loop-value-test.true c.value-item.is c.in_err-shift.ensures.read c.loop-value.invariant.so_far)

pub loop-value-preserved : goal.loop-value-preserved
loop-value-preserved c =
    let before = c.loop-value.shifts.items in
    let s = c.in_ok-shift.shift in
    let later = c.in_ok-shift.later in
    let pushed : c.push.new.self.items ≡ before ++ s ∷ [] = c.in_ok-push.ensures.items in
    let next : later ≡ s.at + 1 = c.in_ok-shift.ensures.next in
    let not_before : c.loop-value.next ≤ s.at = c.in_ok-shift.ensures.later in
    let earlier : All (λ (t : Shift). t.at < later) before =
    All-weaker (λ (t : Shift). t.at < c.loop-value.next) (λ (t : Shift). t.at < later) (λ t lt. omega (arith, next, not_before, lt)) before c.loop-value.invariant.before in
    record {
      count = rw pushed (omega (arith, length_push before s, c.loop-value.invariant.count));
      in_range = rw pushed (All-push IsShift before s c.loop-value.invariant.in_range c.in_ok-shift.ensures.in_range);
      rising = rw pushed (all_pairs_push (λ (a b : Shift). a.at < b.at) before s c.loop-value.invariant.rising
          (λ k d within. omega (arith, not_before, All-get_or (λ (t : Shift). t.at < c.loop-value.next) before k d within c.loop-value.invariant.before)));
      before = rw pushed (All-push (λ (t : Shift). t.at < later) before s earlier (omega (arith, next)));
      so_far = rw pushed (known_goes_on (λ k. shift c.args.item) before c.loop-value.value-index c.loop-value.value-index c.loop-value.next c.args.values.now c.value-item.result s later _
          c.loop-value-test.true c.value-item.is c.in_ok-shift.ensures.read c.loop-value.invariant.so_far);
    }
