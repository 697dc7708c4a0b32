use Rattle.std.proofs.Common.{◌≡◌, ◌≢◌, ◌+◌, ◌++◌, ◌∷◌, [], length, arith, refl, sym, ap, subst, ◌∙◌}
use Rattle.std.proofs.lemmas.List.{length_push}
use Rattle.std.proofs.lemmas.Result.{err_from_is_err_and}
use Rattle.std.proofs.lemmas.List.Elements.{All-nil, All-push}
use Rattle.std.proofs.lemmas.List.Quantifiers.{all_pairs_push}
use Rattle.text_fields.specs.Directories.{finder}
use Rattle.model_text.specs.NamedItems.{IsNamedItem}
use Rattle.text_fields.specs.Names.{TakesIn}
use Rattle.model_text.specs.Names.{NamedItem, place_of}
use Rattle.text_fields.proofs.Places.{finder-more, names-new}
use Rattle.model_text.proofs.Reading.{objects_go_on, objects_end}
use Rattle.model_text.proofs.objects.objects.Goals as goal

pub returns-in_err-object-clause-read : goal.returns-in_err-object-clause-read
returns-in_err-object-clause-read c =
    let refused = err_from_is_err_and c.from_residual.result c.from_residual.ensures.1 in
    let number : c.len-number.result ≡ length c.loop-value.objects.items = omega arith in
    rw (refused.1, refused.2)
    (objects_end c.args.format c.loop-value.objects.items (finder c.loop-value.directory) c.in_err-object.field-0.0 (c.len-number.result + 1) c.loop-value.value-index c.args.values.now c.value-item.result _
    c.loop-value-test.true c.value-item.is c.loop-value.invariant.found (ap (λ n. n + 1) number) c.in_err-object.ensures.read c.loop-value.invariant.so_far)

pub loop-value-preserved : goal.loop-value-preserved
loop-value-preserved c =
    let before = c.loop-value.objects.items in
    let o = c.in_ok-object.object in
    let find = finder c.loop-value.directory in
    let more = finder c.object.new.directory in
    let pushed : c.push.new.self.items ≡ before ++ o ∷ [] = c.in_ok-push.ensures.items in
    let number : c.len-number.result ≡ length before = omega arith in
    let absent = c.in_ok-object.ensures.new in
    record {
      count = rw pushed (omega (arith, length_push before o));
      found = rw pushed (finder-more (λ (object : NamedItem). object.name) place_of find more before o c.loop-value.invariant.found absent
          (subst (λ n. TakesIn find more o.name (place_of n o)) number c.in_ok-object.ensures.taken_in));
      in_range = rw pushed (All-push IsNamedItem before o c.loop-value.invariant.in_range c.in_ok-object.ensures.in_range);
      names_differ = rw pushed (all_pairs_push (λ (a b : NamedItem). a.name ≢ b.name) before o c.loop-value.invariant.names_differ
          (names-new (λ (object : NamedItem). object.name) place_of before 0 o.name (sym (ap (λ f. f o.name) c.loop-value.invariant.found) ∙ absent)));
      so_far = rw pushed (objects_go_on c.args.format before find (c.len-number.result + 1) c.loop-value.value-index c.args.values.now c.value-item.result o _
          c.loop-value-test.true c.value-item.is c.loop-value.invariant.found (ap (λ n. n + 1) number) c.in_ok-object.ensures.read c.loop-value.invariant.so_far);
    }

pub loop-value-init : goal.loop-value-init
loop-value-init c =
    rw c.new-objects.ensures.items
    (record { count = refl; found = c.new-directory.ensures; in_range = All-nil IsNamedItem; names_differ = λ i j d before within. absurd (omega arith); so_far = refl })
