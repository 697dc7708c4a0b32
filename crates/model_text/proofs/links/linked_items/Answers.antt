use Rattle.std.proofs.Common.{◌≡◌, ◌+◌, ◌++◌, ◌∷◌, [], Ok, length, arith, sym, ap, ◌∙◌}
use Rattle.std.proofs.lemmas.List.{length_push}
use Rattle.std.proofs.lemmas.Iterator.Adapters.{YieldsList-from_vec}
use Rattle.std.proofs.lemmas.Iterator.Consumers.{YieldsList-turn}
use Rattle.model_text.specs.Objects.{linked_item}
use Rattle.text_fields.specs.Directories.{finder}
use Rattle.text_fields.proofs.Each.{list_goes_on}
use Rattle.model_text.proofs.links.linked_items.Goals as goal

pub loop-object-preserved : goal.loop-object-preserved
loop-object-preserved c =
    let gives = c.into_iter-object-iterator.ensures.into_iter_gives in
    let all = c.args.objects.items in
    let before = c.loop-object.items.items in
    let turn = YieldsList-turn (YieldsList-from_vec {s = c.into_iter-object-iterator.result} all gives.0 (gives.1 ∙ c.args.objects.ok.0)) c.loop-object.yielded c.loop-object.object-iterator c.loop-object.yielded_by c.next.result c.next.new.self c.in-Some.object c.in-Some.is c.next.ensures.steps in
    let pushed : c.push.new.self.items ≡ before ++ c.in_ok-linked_item.field-0 ∷ [] = c.in_ok-push.ensures.items in
    let longer : length (c.loop-object.yielded ++ c.in-Some.object ∷ []) ≡ length c.loop-object.yielded + 1 = length_push c.loop-object.yielded c.in-Some.object in
    let item : c.len-in-loop-object.result + 1 ≡ length c.loop-object.yielded + 1 = omega arith in
    let read : linked_item (finder c.args.directory.now) (length c.loop-object.yielded + 1) c.in-Some.object ≡ Ok c.in_ok-linked_item.field-0 =
    ap (λ n. linked_item (finder c.args.directory.now) n c.in-Some.object) (sym item) ∙ c.in_ok-linked_item.ensures in
    record {
      count = rw (pushed, longer) (omega (arith, length_push before c.in_ok-linked_item.field-0));
      so_far = rw (pushed, longer)
          (list_goes_on (linked_item (finder c.args.directory.now)) before (length c.loop-object.yielded + 1) (length c.loop-object.yielded) all c.in-Some.object c.in_ok-linked_item.field-0 _
          turn.0 turn.1 read c.loop-object.invariant.so_far);
    }
