use Rattle.std.proofs.Common.{◌++◌, List, slice_set, refl, sym, subst, rules, get_or}
use Rattle.std.specs.List.{AllByRecursion}
use Rattle.std.proofs.lemmas.List.Sorted.{IsPermutation-trans}
use Rattle.std.proofs.lemmas.Option.{slice_get-get_or}
use Rattle.std.proofs.lemmas.Result.{on_ok_weaker}
use Rattle.key_order.proofs.EachLemmas.{Each-front, Each-back}
use Rattle.node_core.specs.declared.committed.Committed.{Committed}
use Rattle.cycle_core.specs.Ends.{told_by}
use Rattle.cycle_core.specs.Records.{AreInOrder, HaveGiven}
use Rattle.cycle_core.proofs.GivenLemmas.{given-both, merged-differ, merged-moves, told-front, told-back}
use Rattle.cycle_core.proofs.ValueLemmas.{both-done}
use Rattle.cycle_core.proofs.merging.merge_halves.Goals as goal

pub merge_all-requires-clause-differ : goal.merge_all-requires-clause-differ
merge_all-requires-clause-differ c =
    let split = c.split_at_mut-front in told-front c.args.committed.now split.result.0.now split.result.1.now split.ensures.value c.requires.differ

pub merge_all-requires-2-clause-differ : goal.merge_all-requires-2-clause-differ
merge_all-requires-2-clause-differ c =
    let split = c.split_at_mut-front in told-back c.args.committed.now split.result.0.now split.result.1.now split.ensures.value c.requires.differ

pub merge_two-requires-clause-differ : goal.merge_two-requires-clause-differ
merge_two-requires-clause-differ c =
    let split = c.split_at_mut-front in
    let front = c.merge_all.new.parts in
    let back = c.merge_all-2.new.parts in
    merged-differ c.args.committed.now split.result.0.now split.result.1.now front back (get_or front 0 c.index-front-0.result) (get_or back 0 c.index-back-0.result) split.ensures.value
    c.in_ok-merge_all.ensures.merged c.in_ok-merge_all-2.ensures.merged (slice_get-get_or front 0 c.index-front-0.result (search rules)) (slice_get-get_or back 0 c.index-back-0.result (search rules)) c.requires.differ

pub returns-clause-permutes : goal.returns-clause-permutes
returns-clause-permutes c =
    let split = c.split_at_mut-front in
    let all = c.args.committed.now in
    let front = c.merge_all.new.parts in
    let back = c.merge_all-2.new.parts in
    let x = get_or front 0 c.index-front-0.result in
    let y = get_or back 0 c.index-back-0.result in
    let moves = merged-moves all split.result.0.now split.result.1.now front back x y split.ensures.value c.in_ok-merge_all.ensures.merged c.in_ok-merge_all-2.ensures.merged
    (slice_get-get_or front 0 c.index-front-0.result (search rules)) (slice_get-get_or back 0 c.index-back-0.result (search rules)) in
    on_ok_weaker c.merge_two.result (λ permutes. IsPermutation-trans (told_by all) (x.done.items ++ y.done.items) c.merge_two.new.merged.items moves permutes) c.merge_two.ensures.permutes

pub returns-clause-ordered : goal.returns-clause-ordered
returns-clause-ordered c = c.merge_two.ensures.ordered

pub returns-clause-spare : goal.returns-clause-spare
returns-clause-spare c = on_ok_weaker c.merge_two.result (λ left. c.in_ok-merge_all-2.ensures.spare) c.merge_two.ensures.left

pub returns-clause-given : goal.returns-clause-given
returns-clause-given c =
    let split = c.split_at_mut-front in
    let front = c.merge_all.new.parts in
    let back = c.merge_all-2.new.parts in
    let x = get_or front 0 c.index-front-0.result in
    let y = get_or back 0 c.index-back-0.result in
    let u : Committed = record x { done = c.merge_two.new.left } in
    let v : Committed = record y { done = c.merge_two.new.right } in
    let P : List Committed → Type 0 = λ all. HaveGiven all (slice_set front 0 u ++ slice_set back 0 v) in
    both-done _ _ (P c.args.committed.now) c.merge_two.result c.merge_two.ensures.left c.merge_two.ensures.right
    (λ left right. subst P (sym split.ensures.value)
    (given-both split.result.0.now split.result.1.now x y u v refl refl front back c.in_ok-merge_all.ensures.merged c.in_ok-merge_all-2.ensures.merged
    (slice_get-get_or front 0 c.index-front-0.result (search rules)) (slice_get-get_or back 0 c.index-back-0.result (search rules)) left right))

pub merge_all-requires-clause-ordered : goal.merge_all-requires-clause-ordered
merge_all-requires-clause-ordered c =
    let split = c.split_at_mut-front in Each-front _ split.result.0.now split.result.1.now (subst (AllByRecursion (λ commit. AreInOrder commit.done.items)) split.ensures.value c.requires.ordered)

pub merge_all-requires-clause-spare : goal.merge_all-requires-clause-spare
merge_all-requires-clause-spare c = c.requires.spare

pub merge_all-requires-2-clause-ordered : goal.merge_all-requires-2-clause-ordered
merge_all-requires-2-clause-ordered c =
    let split = c.split_at_mut-front in Each-back _ split.result.0.now split.result.1.now (subst (AllByRecursion (λ commit. AreInOrder commit.done.items)) split.ensures.value c.requires.ordered)

pub merge_all-requires-2-clause-spare : goal.merge_all-requires-2-clause-spare
merge_all-requires-2-clause-spare c = c.in_ok-merge_all.ensures.spare

pub merge_two-requires-clause-left : goal.merge_two-requires-clause-left
merge_two-requires-clause-left c =
    let front = c.merge_all.new.parts in (c.in_ok-merge_all.ensures.merged.first (get_or front 0 c.index-front-0.result) (slice_get-get_or front 0 c.index-front-0.result (search rules))).1

pub merge_two-requires-clause-right : goal.merge_two-requires-clause-right
merge_two-requires-clause-right c =
    let back = c.merge_all-2.new.parts in (c.in_ok-merge_all-2.ensures.merged.first (get_or back 0 c.index-back-0.result) (slice_get-get_or back 0 c.index-back-0.result (search rules))).1

pub merge_two-requires-clause-empty : goal.merge_two-requires-clause-empty
merge_two-requires-clause-empty c = c.requires.empty
