use Rattle.std.proofs.Common.{◌≡◌, ℕ, ◌+◌, ◌++◌, ◌∷◌, [], length, ap, ◌∙◌}
use Rattle.std.proofs.lemmas.List.{length_push}
use Rattle.std.proofs.lemmas.Result.{err_from_is_err_and}
use Rattle.std.proofs.lemmas.Iterator.Adapters.{YieldsList-from_vec}
use Rattle.std.proofs.lemmas.Iterator.Consumers.{YieldsList-turn}
use Rattle.text_fields.specs.Directories.{finder}
use Rattle.text_fields.proofs.Each.{list_goes_on}
use Rattle.shop_text.specs.LinkedRoutes.{linked_step}
use Rattle.shop_text.proofs.ListEnds.{list_ends}
use Rattle.shop_text.proofs.links.linked_steps.Goals as goal

pub returns-in_err-linked_step : goal.returns-in_err-linked_step
returns-in_err-linked_step c =
    let refused = err_from_is_err_and c.from_residual-in_err-linked_step.result c.from_residual-in_err-linked_step.ensures.1 in
    let gives = c.into_iter-step-iterator.ensures.into_iter_gives in
    let all = c.args.route.items in
    let turn = YieldsList-turn (YieldsList-from_vec {s = c.into_iter-step-iterator.result} all gives.0 (gives.1 ∙ c.args.route.ok.0)) c.loop-step.yielded c.loop-step.step-iterator c.loop-step.yielded_by c.next.result c.next.new.self c.in-Some.step c.in-Some.is c.next.ensures.steps in
    let read = λ (k : ℕ). linked_step (finder c.args.stations.now) (finder c.args.labels.now) c.args.item in
    rw (refused.1, refused.2)
    (list_ends read c.loop-step.steps.items c.in_err-linked_step.field-0.0 (length c.loop-step.yielded) (length c.loop-step.yielded) all c.in-Some.step _
    turn.0 turn.1 c.in_err-linked_step.ensures c.loop-step.invariant.so_far)

pub loop-step-preserved : goal.loop-step-preserved
loop-step-preserved c =
    let gives = c.into_iter-step-iterator.ensures.into_iter_gives in
    let all = c.args.route.items in
    let before = c.loop-step.steps.items in
    let step = c.in_ok-linked_step.field-0 in
    let turn = YieldsList-turn (YieldsList-from_vec {s = c.into_iter-step-iterator.result} all gives.0 (gives.1 ∙ c.args.route.ok.0)) c.loop-step.yielded c.loop-step.step-iterator c.loop-step.yielded_by c.next.result c.next.new.self c.in-Some.step c.in-Some.is c.next.ensures.steps in
    let pushed : c.push.new.self.items ≡ before ++ step ∷ [] = c.in_ok-push.ensures.items in
    let longer : length (c.loop-step.yielded ++ c.in-Some.step ∷ []) ≡ length c.loop-step.yielded + 1 = length_push c.loop-step.yielded c.in-Some.step in
    let read = λ (k : ℕ). linked_step (finder c.args.stations.now) (finder c.args.labels.now) c.args.item in
    let goes_on = list_goes_on read before (length c.loop-step.yielded) (length c.loop-step.yielded) all c.in-Some.step step _
    turn.0 turn.1 c.in_ok-linked_step.ensures c.loop-step.invariant.so_far in
    record {
      count = rw (pushed, longer) (length_push before step ∙ ap (λ (n : ℕ). n + 1) c.loop-step.invariant.count);
      so_far = rw (pushed, longer) goes_on;
    }
