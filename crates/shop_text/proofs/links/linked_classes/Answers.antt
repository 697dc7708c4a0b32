use Rattle.std.proofs.Common.{◌≡◌, ◌+◌, ◌++◌, ◌∷◌, [], length, drop, Ok, arith, sym, ap, subst, ◌∙◌}
use Rattle.std.proofs.lemmas.List.{length_push}
use Rattle.std.proofs.lemmas.Result.{err_from_is_err_and}
use Rattle.std.proofs.lemmas.Iterator.Adapters.{YieldsList-from_vec}
use Rattle.std.proofs.lemmas.Iterator.Consumers.{YieldsList-turn}
use Rattle.text_fields.specs.Checks.{Fails}
use Rattle.text_fields.specs.Directories.{finder}
use Rattle.text_fields.proofs.Each.{list_goes_on, with_front}
use Rattle.shop_text.specs.declared.named.NamedClass.{NamedClass}
use Rattle.shop_text.specs.LinkedRoutes.{linked_class}
use Rattle.shop_text.specs.Views.{class_text, linked_named}
use Rattle.shop_text.proofs.ListEnds.{list_ends}
use Rattle.shop_text.proofs.links.linked_classes.Goals as goal

pub returns-in_err-linked_class : goal.returns-in_err-linked_class
returns-in_err-linked_class c =
    let refused = err_from_is_err_and c.from_residual-in_err-linked_class.result c.from_residual-in_err-linked_class.ensures.1 in
    let gives = c.into_iter-class-iterator.ensures.into_iter_gives in
    let all = c.args.classes.items in
    let find = finder c.args.stations.now in
    let e = c.in_err-linked_class.field-0.0 in
    let turn = YieldsList-turn (YieldsList-from_vec {s = c.into_iter-class-iterator.result} all gives.0 (gives.1 ∙ c.args.classes.ok.0)) c.loop-class.yielded c.loop-class.class-iterator c.loop-class.yielded_by c.next.result c.next.new.self c.in-Some.class c.in-Some.is c.next.ensures.steps in
    let item : c.args.first + c.len-in-loop-class.result ≡ c.args.first + length c.loop-class.yielded = omega arith in
    let fails : Fails e (linked_class find (c.args.first + length c.loop-class.yielded) (class_text c.in-Some.class)) =
    subst (λ n. Fails e (linked_class find n (class_text c.in-Some.class))) item c.in_err-linked_class.ensures in
    rw (refused.1, refused.2)
    (list_ends (λ at (class : NamedClass). linked_class find at (class_text class)) c.loop-class.linked.items e (c.args.first + length c.loop-class.yielded) (length c.loop-class.yielded) all c.in-Some.class _
    turn.0 turn.1 fails c.loop-class.invariant.so_far)

pub loop-class-preserved : goal.loop-class-preserved
loop-class-preserved c =
    let gives = c.into_iter-class-iterator.ensures.into_iter_gives in
    let all = c.args.classes.items in
    let before = c.loop-class.linked.items in
    let find = finder c.args.stations.now in
    let turn = YieldsList-turn (YieldsList-from_vec {s = c.into_iter-class-iterator.result} all gives.0 (gives.1 ∙ c.args.classes.ok.0)) c.loop-class.yielded c.loop-class.class-iterator c.loop-class.yielded_by c.next.result c.next.new.self c.in-Some.class c.in-Some.is c.next.ensures.steps in
    let pushed : c.push.new.self.items ≡ before ++ c.in_ok-linked_class.field-0 ∷ [] = c.in_ok-push.ensures.items in
    let longer : length (c.loop-class.yielded ++ c.in-Some.class ∷ []) ≡ length c.loop-class.yielded + 1 = length_push c.loop-class.yielded c.in-Some.class in
    let item : c.args.first + c.len-in-loop-class.result ≡ c.args.first + length c.loop-class.yielded = omega arith in
    let read : linked_class find (c.args.first + length c.loop-class.yielded) (class_text c.in-Some.class) ≡ Ok c.in_ok-linked_class.field-0 =
    ap (λ n. linked_class find n (class_text c.in-Some.class)) (sym item) ∙ c.in_ok-linked_class.ensures in
    let goes_on = list_goes_on (λ at (class : NamedClass). linked_class find at (class_text class)) before (c.args.first + length c.loop-class.yielded) (length c.loop-class.yielded) all c.in-Some.class c.in_ok-linked_class.field-0 _
    turn.0 turn.1 read c.loop-class.invariant.so_far in
    let next : c.args.first + length c.loop-class.yielded + 1 ≡ c.args.first + (length c.loop-class.yielded + 1) = omega arith in
    let so_far = subst (λ k. with_front (before ++ c.in_ok-linked_class.field-0 ∷ []) (linked_named find k (drop (length c.loop-class.yielded + 1) all)) ≡ linked_named find c.args.first all) next goes_on in
    record {
      count = rw (pushed, longer) (omega (arith, length_push before c.in_ok-linked_class.field-0));
      so_far = rw (pushed, longer) so_far;
    }
