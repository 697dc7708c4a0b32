use Rattle.std.proofs.Common.{◌≡◌, ◌+◌, ◌++◌, ◌∷◌, [], length, arith, Ok, refl, sym, ap, subst, ◌∙◌}
use Rattle.std.proofs.lemmas.List.{length_push}
use Rattle.std.proofs.lemmas.Result.{err_from_is_err_and}
use Rattle.std.proofs.lemmas.List.Elements.{All-nil, All-push}
use Rattle.toml.specs.View.{view, items_view}
use Rattle.text_fields.specs.Checks.{Fails}
use Rattle.text_fields.specs.Directories.{finder}
use Rattle.text_fields.specs.Fields.{each_with, item_count}
use Rattle.text_fields.specs.Names.{Finder}
use Rattle.text_fields.proofs.Known.{with_known, known_begins, known_goes_on, known_ends}
use Rattle.shop_text.specs.Ranges.{IsNamedStep, LinksBelow}
use Rattle.shop_text.specs.StepTexts.{step, route_ends, steps}
use Rattle.shop_text.proofs.LabelLemmas.{ends-below, step-below}
use Rattle.shop_text.proofs.routes.steps.Goals as goal

pub loop-value-init : goal.loop-value-init
loop-value-init c =
    let values = c.args.values.now in
    let labels = finder c.in_ok-labels.labels in
    let long : c.item_count.result ≡ length values = c.item_count.ensures.length in
    let ends : labels ≡ route_ends (length values) = c.in_ok-labels.ensures ∙ ap route_ends long in
    let count : length values ≡ item_count (items_view values) = sym long ∙ c.item_count.ensures.count in
    let read : Finder → Type 0 = λ find. with_known [] (each_with (step c.args.item) 0 find (items_view values)) ≡ steps c.args.item (items_view values) in
    let below : LinksBelow (length values + 2) labels = subst (λ (find : Finder). LinksBelow (length values + 2) find) (sym ends) (ends-below (length values)) in
    let so_far : read labels = subst read (sym (ends ∙ ap route_ends count)) (known_begins (steps c.args.item (items_view values))) in
    rw c.new-steps.ensures.items (record { count = refl; in_range = All-nil IsNamedStep; links = below; so_far = so_far })

pub returns-in_err-step-clause-read : goal.returns-in_err-step-clause-read
returns-in_err-step-clause-read c =
    let refused = err_from_is_err_and c.from_residual-in_err-step.result c.from_residual-in_err-step.ensures.1 in
    let e = c.in_err-step.field-0.0 in
    let number : c.len-number.result ≡ c.loop-value.value-index = omega (arith, c.loop-value.invariant.count) in
    let fails : Fails e (step c.args.item c.loop-value.value-index (finder c.loop-value.labels) (view c.value-item.result)) =
    subst (λ n. Fails e (step c.args.item n (finder c.loop-value.labels) (view c.value-item.result))) number c.in_err-step.ensures.read in
    rw (refused.1, refused.2)
    (known_ends (step c.args.item) c.loop-value.steps.items e c.loop-value.value-index c.loop-value.value-index (finder c.loop-value.labels) c.args.values.now c.value-item.result _
    c.loop-value-test.true c.value-item.is fails c.loop-value.invariant.so_far)

pub loop-value-preserved : goal.loop-value-preserved
loop-value-preserved c =
    let before = c.loop-value.steps.items in
    let s = c.in_ok-step.field-0 in
    let find = finder c.loop-value.labels in
    let more = finder c.step.new.labels in
    let pushed : c.push.new.self.items ≡ before ++ s ∷ [] = c.in_ok-push.ensures.items in
    let number : c.len-number.result ≡ c.loop-value.value-index = omega (arith, c.loop-value.invariant.count) in
    let read = subst (λ n. step c.args.item n find (view c.value-item.result) ≡ Ok (s, more)) number c.in_ok-step.ensures.read in
    record {
      count = rw pushed (omega (arith, length_push before s, c.loop-value.invariant.count));
      in_range = rw pushed (All-push IsNamedStep before s c.loop-value.invariant.in_range c.in_ok-step.ensures.in_range);
      links = step-below c.args.item c.loop-value.value-index (length c.args.values.now + 2) find more (view c.value-item.result) s read (omega (arith, c.loop-value-test.true)) c.loop-value.invariant.links;
      so_far = rw pushed (known_goes_on (step c.args.item) before c.loop-value.value-index c.loop-value.value-index find c.args.values.now c.value-item.result s more _
          c.loop-value-test.true c.value-item.is read c.loop-value.invariant.so_far);
    }
