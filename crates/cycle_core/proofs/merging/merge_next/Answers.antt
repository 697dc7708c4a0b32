use Rattle.std.proofs.Common.{◌++◌, ◌∙◌, append-nil, ap, eqb-true, subst, sym}
use Rattle.std.specs.Prelude.{IsPermutation}
use Rattle.std.proofs.lemmas.List.{nil_from_length}
use Rattle.cycle_core.specs.Records.{AreInOrder}
use Rattle.cycle_core.proofs.CyclingLemmas.{permutes-same}
use Rattle.cycle_core.proofs.merging.merge_next.Goals as goal

pub returns-then-is_empty-clause-permutes : goal.returns-then-is_empty-clause-permutes
returns-then-is_empty-clause-permutes c =
    let none = nil_from_length c.args.commit.now.done.items (eqb-true _ 0 (sym c.is_empty.ensures ∙ c.if-is_empty.true)) in
    permutes-same _ _ (sym (append-nil c.args.merged.now.items) ∙ ap (λ l. c.args.merged.now.items ++ l) (sym none))

pub returns-then-is_empty-clause-emptied : goal.returns-then-is_empty-clause-emptied
returns-then-is_empty-clause-emptied c = nil_from_length c.args.commit.now.done.items (eqb-true _ 0 (sym c.is_empty.ensures ∙ c.if-is_empty.true))

pub returns-clause-permutes : goal.returns-clause-permutes
returns-clause-permutes c =
    let all = c.args.merged.now.items ++ c.args.commit.now.done.items in
    subst (IsPermutation all) (ap (λ v. v.items) (sym c.swap.ensures.x_after)) c.in_ok-merge_two.ensures.permutes

pub returns-clause-ordered : goal.returns-clause-ordered
returns-clause-ordered c = subst AreInOrder (ap (λ v. v.items) (sym c.swap.ensures.x_after)) c.in_ok-merge_two.ensures.ordered

pub returns-clause-spare : goal.returns-clause-spare
returns-clause-spare c = ap (λ v. v.items) c.swap.ensures.y_after ∙ c.in_ok-merge_two.ensures.left
