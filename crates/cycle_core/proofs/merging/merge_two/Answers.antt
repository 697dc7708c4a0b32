use Rattle.std.proofs.Common.{◌++◌, append-nil, ap, eqb-true, subst, sym, ◌∙◌}
use Rattle.std.specs.Prelude.{IsPermutation}
use Rattle.key_order.proofs.KeyLemmas.{Differ-permutation}
use Rattle.model_core.specs.Sorted.{AreSorted}
use Rattle.cycle_core.specs.Records.{AreInOrder, record_key}
use Rattle.cycle_core.proofs.MergeLemmas.{in-order-sorted, sorted-in-order}
use Rattle.cycle_core.proofs.ValueLemmas.{both-done}
use Rattle.std.proofs.lemmas.List.{nil_from_length}
use Rattle.cycle_core.proofs.CyclingLemmas.{permutes-same}
use Rattle.cycle_core.proofs.merging.merge_two.Goals as goal

pub merge-requires-clause-left : goal.merge-requires-clause-left
merge-requires-clause-left c = sorted-in-order c.args.left.now.items c.requires.left

pub merge-requires-clause-right : goal.merge-requires-clause-right
merge-requires-clause-right c = sorted-in-order c.args.right.now.items c.requires.right

pub returns-clause-ordered : goal.returns-clause-ordered
returns-clause-ordered c =
    let all = c.args.left.now.items ++ c.args.right.now.items in
    let merged = c.merge.new.self.items in
    both-done (AreSorted record_key merged) (IsPermutation all merged) (AreInOrder merged) c.merge.result c.merge.ensures.ordered c.merge.ensures.permutes
    (λ sorted moves. in-order-sorted merged sorted (Differ-permutation record_key all merged moves c.requires.differ))

pub returns-then-is_empty-clause-permutes : goal.returns-then-is_empty-clause-permutes
returns-then-is_empty-clause-permutes c =
    let none = nil_from_length c.args.right.now.items (eqb-true _ 0 (sym c.is_empty.ensures ∙ c.if-is_empty.true)) in
    permutes-same _ _ (ap (λ v. v.items) c.swap.ensures.y_after ∙ sym (append-nil c.args.left.now.items) ∙ ap (λ l. c.args.left.now.items ++ l) (sym none))

pub returns-then-is_empty-clause-ordered : goal.returns-then-is_empty-clause-ordered
returns-then-is_empty-clause-ordered c = subst AreInOrder (sym (ap (λ v. v.items) c.swap.ensures.y_after)) c.requires.left

pub returns-then-is_empty-clause-left : goal.returns-then-is_empty-clause-left
returns-then-is_empty-clause-left c = ap (λ v. v.items) c.swap.ensures.x_after ∙ c.requires.empty

pub returns-then-is_empty-clause-right : goal.returns-then-is_empty-clause-right
returns-then-is_empty-clause-right c = nil_from_length c.args.right.now.items (eqb-true _ 0 (sym c.is_empty.ensures ∙ c.if-is_empty.true))

pub returns-then-is_empty-2-clause-permutes : goal.returns-then-is_empty-2-clause-permutes
returns-then-is_empty-2-clause-permutes c =
    let none = nil_from_length c.args.left.now.items (eqb-true _ 0 (sym c.is_empty-2.ensures ∙ c.if-is_empty-2.true)) in
    permutes-same _ _ (ap (λ v. v.items) c.swap-then-is_empty-2.ensures.y_after ∙ ap (λ l. l ++ c.args.right.now.items) (sym none))

pub returns-then-is_empty-2-clause-ordered : goal.returns-then-is_empty-2-clause-ordered
returns-then-is_empty-2-clause-ordered c = subst AreInOrder (sym (ap (λ v. v.items) c.swap-then-is_empty-2.ensures.y_after)) c.requires.right

pub returns-then-is_empty-2-clause-left : goal.returns-then-is_empty-2-clause-left
returns-then-is_empty-2-clause-left c = nil_from_length c.args.left.now.items (eqb-true _ 0 (sym c.is_empty-2.ensures ∙ c.if-is_empty-2.true))

pub returns-then-is_empty-2-clause-right : goal.returns-then-is_empty-2-clause-right
returns-then-is_empty-2-clause-right c = ap (λ v. v.items) c.swap-then-is_empty-2.ensures.x_after ∙ c.requires.empty

pub returns-clause-permutes : goal.returns-clause-permutes
returns-clause-permutes c = c.merge.ensures.permutes

pub returns-clause-left : goal.returns-clause-left
returns-clause-left c = c.merge.ensures.left

pub returns-clause-right : goal.returns-clause-right
returns-clause-right c = c.merge.ensures.right
