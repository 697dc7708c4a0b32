use Rattle.std.proofs.Common.{◌≡◌, ℕ, ◌+◌, ◌++◌, ◌∷◌, List, [], length, drop, arith, Ok, refl, sym, ap, subst}
use Rattle.std.proofs.lemmas.List.{length_push}
use Rattle.std.proofs.lemmas.List.Sums.{sum_by_push}
use Rattle.std.proofs.lemmas.Result.{err_from_is_err_and}
use Rattle.std.proofs.lemmas.List.Elements.{All-nil, All-push}
use Rattle.toml.specs.View.{view, items_view}
use Rattle.text_fields.specs.Checks.{Fails}
use Rattle.text_fields.specs.Directories.{finder}
use Rattle.text_fields.specs.Fields.{each_with}
use Rattle.text_fields.proofs.Known.{with_known, known_begins, known_goes_on, known_ends}
use Rattle.shop_text.specs.declared.named.NamedClass.{NamedClass}
use Rattle.shop_text.specs.ClassTexts.{ClassText, Known, class, classes}
use Rattle.shop_text.specs.Ranges.{IsClassText}
use Rattle.shop_text.specs.Views.{class_text, class_texts}
use Rattle.shop_text.proofs.ClassLemmas.{texts-push}
use Rattle.shop_text.proofs.classes.classes.Goals as goal

pub loop-value-init : goal.loop-value-init
loop-value-init c =
    let values = c.args.values.now in
    let known : Known = record { find = finder c.args.directory.now; times = 0 } in
    let total = classes c.args.first (finder c.args.directory.now) (items_view values) in
    let start : c.args.first ≡ c.args.first + 0 = omega arith in
    let so_far = subst (λ k. with_known [] (each_with class k known (items_view values)) ≡ total) start (known_begins total) in
    rw c.new-classes.ensures.items
    (record {
      count = refl;
      in_range = All-nil (λ (named : NamedClass). IsClassText (class_text named));
      times = refl;
      few_times = omega arith;
      links = λ most below. below;
      so_far = so_far;
    })

pub returns-in_err-class-clause-read : goal.returns-in_err-class-clause-read
returns-in_err-class-clause-read c =
    let refused = err_from_is_err_and c.from_residual.result c.from_residual.ensures.1 in
    let e = c.in_err-class.field-0.0 in
    let find = finder c.loop-value.directory in
    let known : Known = record { find = find; times = c.loop-value.times } in
    let item : c.args.first + c.len.result ≡ c.args.first + c.loop-value.value-index = omega (arith, c.loop-value.invariant.count) in
    let fails : Fails e (class (c.args.first + c.loop-value.value-index) known (view c.value-item.result)) =
    subst (λ n. Fails e (class n known (view c.value-item.result))) item c.in_err-class.ensures.read in
    rw (refused.1, refused.2)
    (known_ends class (class_texts c.loop-value.classes.items) e (c.args.first + c.loop-value.value-index) c.loop-value.value-index known c.args.values.now c.value-item.result _
    c.loop-value-test.true c.value-item.is fails c.loop-value.invariant.so_far)

pub loop-value-preserved : goal.loop-value-preserved
loop-value-preserved c =
    let before = c.loop-value.classes.items in
    let n = c.in_ok-class.class in
    let find = finder c.loop-value.directory in
    let more = finder c.class.new.directory in
    let known : Known = record { find = find; times = c.loop-value.times } in
    let count = length n.class.times in
    let after : Known = record { find = more; times = c.loop-value.times + count } in
    let index = c.loop-value.value-index in
    let pushed : c.push.new.self.items ≡ before ++ n ∷ [] = c.in_ok-push.ensures.items in
    let turns : length c.as_slice.result.now ≡ length n.class.times = ap length c.as_slice.ensures in
    let item : c.args.first + c.len.result ≡ c.args.first + index = omega (arith, c.loop-value.invariant.count) in
    let read = subst (λ k. class k known (view c.value-item.result) ≡ Ok (class_text n, after)) item c.in_ok-class.ensures.read in
    let goes_on = known_goes_on class (class_texts before) (c.args.first + index) index known c.args.values.now c.value-item.result (class_text n) after _
    c.loop-value-test.true c.value-item.is read c.loop-value.invariant.so_far in
    let next : c.args.first + index + 1 ≡ c.args.first + (index + 1) = omega arith in
    let total = classes c.args.first (finder c.args.directory.now) (items_view c.args.values.now) in
    let rest : List ClassText → ℕ → ℕ → Type 0 =
    λ front k t. with_known front (each_with class k (record { find = more; times = t }) (items_view (drop (index + 1) c.args.values.now))) ≡ total in
    let named : rest (class_texts (before ++ n ∷ [])) (c.args.first + index + 1) (c.loop-value.times + count) =
    subst (λ front. rest front (c.args.first + index + 1) (c.loop-value.times + count)) (sym (texts-push before n)) goes_on in
    let counted : rest (class_texts (before ++ n ∷ [])) (c.args.first + (index + 1)) (c.loop-value.times + count) =
    subst (λ k. rest (class_texts (before ++ n ∷ [])) k (c.loop-value.times + count)) next named in
    record {
      count = rw pushed (omega (arith, length_push before n, c.loop-value.invariant.count));
      in_range = rw pushed (All-push (λ (class : NamedClass). IsClassText (class_text class)) before n c.loop-value.invariant.in_range c.in_ok-class.ensures.in_range);
      times = rw pushed (omega (arith, turns, sum_by_push (λ (named : NamedClass). length named.class.times) before n, c.loop-value.invariant.times));
      few_times = omega (arith, turns, c.in_ok-class.ensures.few);
      links = λ most below. c.in_ok-class.ensures.links most (c.loop-value.invariant.links most below);
      so_far = rw pushed (subst (λ t. rest (class_texts (before ++ n ∷ [])) (c.args.first + (index + 1)) t) (omega (arith, turns)) counted);
    }
