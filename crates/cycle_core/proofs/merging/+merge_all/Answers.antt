use Rattle.std.proofs.Common.{◌++◌, List, slice_set, sym, subst, rules, get_or}
use Rattle.std.specs.List.{AllByRecursion}
use Rattle.std.proofs.lemmas.Option.{slice_get-get_or}
use Rattle.key_order.proofs.EachLemmas.{Each-front, Each-back}
use Rattle.node_core.specs.declared.committed.Committed.{Committed}
use Rattle.cycle_core.specs.Records.{AreInOrder, HaveMerged, MergesInto}
use Rattle.cycle_core.proofs.ValueLemmas.{both-done}
use Rattle.cycle_core.proofs.GivenLemmas.{merged-one, merged-both, merged-differ, told-front, told-back}
use Rattle.cycle_core.proofs.merging.+merge_all.Goals as goal

pub returns-then-count-eq1-clause-merged : goal.returns-then-count-eq1-clause-merged
returns-then-count-eq1-clause-merged t c = merged-one c.args.parts.now c.if-count-eq1.true c.requires.ordered

pub merge_all-requires : goal.merge_all-requires
merge_all-requires t c =
    let split = c.split_at_mut-front in
    let value = split.ensures.value in
    let each = Each-front _ split.result.0.now split.result.1.now (subst (AllByRecursion (λ commit. AreInOrder commit.done.items)) value c.requires.ordered) in
    (search rules, (search rules, (each, (told-front c.args.parts.now split.result.0.now split.result.1.now value c.requires.differ, c.requires.spare))))

pub merge_all-requires-2 : goal.merge_all-requires-2
merge_all-requires-2 t c =
    let split = c.split_at_mut-front in
    let value = split.ensures.value in
    let each = Each-back _ split.result.0.now split.result.1.now (subst (AllByRecursion (λ commit. AreInOrder commit.done.items)) value c.requires.ordered) in
    (search rules, (search rules, (each, (told-back c.args.parts.now split.result.0.now split.result.1.now value c.requires.differ, c.in_ok-merge_all.ensures.spare))))

pub merge_into-requires-clause-differ : goal.merge_into-requires-clause-differ
merge_into-requires-clause-differ t c =
    let split = c.split_at_mut-front in
    let front = c.merge_all.new.parts in
    let back = c.merge_all-2.new.parts in
    merged-differ c.args.parts.now split.result.0.now split.result.1.now front back (get_or front 0 c.index-front-0.result) (get_or back 0 c.index-back-0.result) split.ensures.value
    c.in_ok-merge_all.ensures.merged c.in_ok-merge_all-2.ensures.merged (slice_get-get_or front 0 c.index-front-0.result (search rules)) (slice_get-get_or back 0 c.index-back-0.result (search rules)) c.requires.differ

pub returns-clause-merged : goal.returns-clause-merged
returns-clause-merged t c =
    let split = c.split_at_mut-front in
    let front = c.merge_all.new.parts in
    let back = c.merge_all-2.new.parts in
    let x = get_or front 0 c.index-front-0.result in
    let y = get_or back 0 c.index-back-0.result in
    let u = c.merge_into.new.first in
    let v = c.merge_into.new.second in
    let P : List Committed → Type 0 = λ all. HaveMerged all (slice_set front 0 u ++ slice_set back 0 v) in
    both-done (MergesInto x y u v) _ (P c.args.parts.now) c.merge_into.result c.merge_into.ensures.merged c.merge_into.ensures.spare
    (λ into spare. subst P (sym split.ensures.value)
    (merged-both split.result.0.now split.result.1.now x y u v into.first_out into.second_out front back c.in_ok-merge_all.ensures.merged c.in_ok-merge_all-2.ensures.merged
    (slice_get-get_or front 0 c.index-front-0.result (search rules)) (slice_get-get_or back 0 c.index-back-0.result (search rules)) into.permutes into.ordered into.emptied))

pub merge_into-requires-clause-spare : goal.merge_into-requires-clause-spare
merge_into-requires-clause-spare t c = c.in_ok-merge_all-2.ensures.spare

pub merge_into-requires-clause-first : goal.merge_into-requires-clause-first
merge_into-requires-clause-first t c =
    let front = c.merge_all.new.parts in (c.in_ok-merge_all.ensures.merged.first (get_or front 0 c.index-front-0.result) (slice_get-get_or front 0 c.index-front-0.result (search rules))).1

pub merge_into-requires-clause-second : goal.merge_into-requires-clause-second
merge_into-requires-clause-second t c =
    let back = c.merge_all-2.new.parts in (c.in_ok-merge_all-2.ensures.merged.first (get_or back 0 c.index-back-0.result) (slice_get-get_or back 0 c.index-back-0.result (search rules))).1

pub returns-clause-spare : goal.returns-clause-spare
returns-clause-spare t c = c.merge_into.ensures.spare

pub returns-then-count-eq1-clause-spare : goal.returns-then-count-eq1-clause-spare
returns-then-count-eq1-clause-spare t c = c.requires.spare
