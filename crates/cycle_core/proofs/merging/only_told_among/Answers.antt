use Rattle.std.proofs.Common.{◌∙◌, true, ℕ, suc, length, sym, subst, eqb-true, get_or, arith, add-one, rules}
use Rattle.std.proofs.lemmas.List.{nil_from_length}
use Rattle.std.proofs.lemmas.Option.{slice_get-get_or}
use Rattle.cycle_core.specs.Records.{TellsNothing}
use Rattle.cycle_core.proofs.BusyLemmas.{pass-at, pass-end}
use Rattle.cycle_core.proofs.GivenLemmas.{IsOnlyUpto, only-none, only-told, only-all, only-over}
use Rattle.cycle_core.proofs.PassLemmas.{next-place}
use Rattle.cycle_core.proofs.merging.only_told_among.Goals as goal

pub loop-k-init : goal.loop-k-init
loop-k-init c = record { from = 0; left = c.requires.busy; done = only-none c.args.committed.now c.requires.some }

pub bounds-committed-place : goal.bounds-committed-place
bounds-committed-place c =
    let all = c.args.committed.now in
    let busy = c.args.busy.now in
    let O : ℕ → Type 0 = λ place. IsOnlyUpto all place c.loop-k.only c.loop-k.told in
    (pass-at TellsNothing all O (only-over all c.loop-k.only c.loop-k.told) busy c.loop-k.k (get_or busy c.loop-k.k 0) (length all) (omega arith) (slice_get-get_or busy c.loop-k.k 0 (omega arith)) c.loop-k.invariant).within

pub offset_bounds-committed-place : goal.offset_bounds-committed-place
offset_bounds-committed-place c =
    let all = c.args.committed.now in
    let busy = c.args.busy.now in
    let O : ℕ → Type 0 = λ place. IsOnlyUpto all place c.loop-k.only c.loop-k.told in
    let within = (pass-at TellsNothing all O (only-over all c.loop-k.only c.loop-k.told) busy c.loop-k.k (get_or busy c.loop-k.k 0) (length all) (omega arith) (slice_get-get_or busy c.loop-k.k 0 (omega arith)) c.loop-k.invariant).within in
    search rules

pub loop-k-preserved-then-is_empty : goal.loop-k-preserved-then-is_empty
loop-k-preserved-then-is_empty c =
    let all = c.args.committed.now in
    let busy = c.args.busy.now in
    let place = get_or busy c.loop-k.k 0 in
    let O : ℕ → Type 0 = λ place. IsOnlyUpto all place c.loop-k.only c.loop-k.told in
    let here = pass-at TellsNothing all O (only-over all c.loop-k.only c.loop-k.told) busy c.loop-k.k place (length all) (omega arith) (slice_get-get_or busy c.loop-k.k 0 (omega arith)) c.loop-k.invariant in
    let x = get_or all place c.index-committed-place.result in
    let none = eqb-true _ 0 (sym c.is_empty.ensures ∙ c.if-is_empty.true) in
    let more = only-over all c.loop-k.only c.loop-k.told place x (slice_get-get_or all place c.index-committed-place.result here.within) (nil_from_length x.done.items none) here.done in
    rw add-one (record { from = suc place; left = here.left; done = more })

pub loop-k-preserved : goal.loop-k-preserved
loop-k-preserved c =
    let all = c.args.committed.now in
    let busy = c.args.busy.now in
    let place = get_or busy c.loop-k.k 0 in
    let O : ℕ → Type 0 = λ place. IsOnlyUpto all place c.loop-k.only c.loop-k.told in
    let here = pass-at TellsNothing all O (only-over all c.loop-k.only c.loop-k.told) busy c.loop-k.k place (length all) (omega arith) (slice_get-get_or busy c.loop-k.k 0 (omega arith)) c.loop-k.invariant in
    let more = only-told all place c.loop-k.only (subst (λ told. IsOnlyUpto all place c.loop-k.only told) c.if-told.false here.done) here.within in
    rw add-one (record { from = suc place; left = here.left; done = next-place (λ k. IsOnlyUpto all k place true) place more })

pub returns-clause-some : goal.returns-clause-some
returns-clause-some c =
    let all = c.args.committed.now in
    let busy = c.args.busy.now in
    let O : ℕ → Type 0 = λ place. IsOnlyUpto all place c.loop-k.only c.loop-k.told in
    let end = pass-end TellsNothing all O (only-over all c.loop-k.only c.loop-k.told) busy c.loop-k.k (length all) (omega arith) (omega arith) c.loop-k.invariant in
    only-all all (length all) c.loop-k.only c.loop-k.told end (omega arith)

pub returns-then-told-clause-none : goal.returns-then-told-clause-none
returns-then-told-clause-none c =
    let all = c.args.committed.now in
    let busy = c.args.busy.now in
    let O : ℕ → Type 0 = λ place. IsOnlyUpto all place c.loop-k.only c.loop-k.told in
    let here = pass-at TellsNothing all O (only-over all c.loop-k.only c.loop-k.told) busy c.loop-k.k (get_or busy c.loop-k.k 0) (length all) (omega arith) (slice_get-get_or busy c.loop-k.k 0 (omega arith)) c.loop-k.invariant in
    let seen = here.done.seen c.if-told.true in
    let inside = here.within in
    omega arith
