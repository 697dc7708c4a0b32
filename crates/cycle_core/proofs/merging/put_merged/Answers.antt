use Rattle.std.proofs.Common.{◌<◌, ◌∙◌, length, ap, refl, sym, subst, get_or}
use Rattle.std.proofs.lemmas.Option.{slice_get-get_or}
use Rattle.std.specs.Prelude.{IfNone, IfSome}
use Rattle.cycle_core.specs.Records.{AreInOrder, IsOnlyTold}
use Rattle.cycle_core.proofs.CyclingLemmas.{permutes-same}
use Rattle.cycle_core.proofs.GivenLemmas.{each-get, given-only, told-only}
use Rattle.cycle_core.proofs.merging.put_merged.Goals as goal

pub bounds-committed-only : goal.bounds-committed-only
bounds-committed-only c = (subst (λ o. IfSome o (IsOnlyTold c.args.committed.now)) c.in-Some.is c.requires.only).within

pub merge_halves-requires-clause-some : goal.merge_halves-requires-clause-some
merge_halves-requires-clause-some c = subst (λ o. IfNone o (1 < length c.args.committed.now)) c.in-None.is c.requires.some

pub returns-in-Some-clause-permutes : goal.returns-in-Some-clause-permutes
returns-in-Some-clause-permutes c =
    let all = c.args.committed.now in
    let only = c.in-Some.only in
    let is = subst (λ o. IfSome o (IsOnlyTold all)) c.in-Some.is c.requires.only in
    let one = get_or all only c.index-committed-only.result in
    let at = slice_get-get_or all only c.index-committed-only.result is.within in
    permutes-same _ _ (ap (λ v. v.items) c.swap.ensures.y_after ∙ sym (told-only all only one at is.others))

pub returns-in-Some-clause-ordered : goal.returns-in-Some-clause-ordered
returns-in-Some-clause-ordered c =
    let all = c.args.committed.now in
    let only = c.in-Some.only in
    let is = subst (λ o. IfSome o (IsOnlyTold all)) c.in-Some.is c.requires.only in
    let one = get_or all only c.index-committed-only.result in
    let at = slice_get-get_or all only c.index-committed-only.result is.within in
    subst AreInOrder (ap (λ v. v.items) (sym c.swap.ensures.y_after)) (each-get (λ commit. AreInOrder commit.done.items) all c.requires.ordered only one at)

pub returns-in-Some-clause-given : goal.returns-in-Some-clause-given
returns-in-Some-clause-given c =
    let all = c.args.committed.now in
    let only = c.in-Some.only in
    let is = subst (λ o. IfSome o (IsOnlyTold all)) c.in-Some.is c.requires.only in
    let one = get_or all only c.index-committed-only.result in
    let at = slice_get-get_or all only c.index-committed-only.result is.within in
    given-only all only one (record one { done = c.swap.new.x }) at is.others refl (ap (λ v. v.items) c.swap.ensures.x_after ∙ c.requires.empty)
