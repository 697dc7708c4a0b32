use Rattle.std.proofs.Common.{◌∙◌, sym, subst, eqb-true, get_or, arith}
use Rattle.std.proofs.lemmas.List.{nil_from_length}
use Rattle.std.proofs.lemmas.Option.{slice_get-get_or}
use Rattle.cycle_core.proofs.GivenLemmas.{IsOnlyUpto, only-none, only-more, only-told, only-all}
use Rattle.cycle_core.proofs.merging.only_told.Goals as goal

pub loop-i-init : goal.loop-i-init
loop-i-init c = only-none c.args.committed.now c.requires

pub loop-i-preserved-then-is_empty : goal.loop-i-preserved-then-is_empty
loop-i-preserved-then-is_empty c =
    let all = c.args.committed.now in
    let place = c.loop-i.i in
    let x = get_or all place c.index-committed-i.result in
    let none = eqb-true _ 0 (sym c.is_empty.ensures ∙ c.if-is_empty.true) in
    only-more all place c.loop-i.only c.loop-i.told x c.loop-i.invariant (slice_get-get_or all place c.index-committed-i.result c.loop-i-test.true) (nil_from_length x.done.items none)

pub loop-i-preserved : goal.loop-i-preserved
loop-i-preserved c =
    let all = c.args.committed.now in
    only-told all c.loop-i.i c.loop-i.only (subst (λ told. IsOnlyUpto all c.loop-i.i c.loop-i.only told) c.if-told.false c.loop-i.invariant) c.loop-i-test.true

pub returns-clause-some : goal.returns-clause-some
returns-clause-some c = only-all c.args.committed.now c.loop-i.i c.loop-i.only c.loop-i.told c.loop-i.invariant c.loop-i-test.false

pub returns-then-told-clause-none : goal.returns-then-told-clause-none
returns-then-told-clause-none c =
    let seen = c.loop-i.invariant.seen c.if-told.true in
    let inside = c.loop-i-test.true in
    omega arith
