-- What stands at a place is known to.
use Rattle.std.proofs.Common.{ℕ, Option, ap, subst, arith}
use Rattle.std.specs.Prelude.{IfSome, slice_set}
use Rattle.object_log.specs.Objects.{IsPlaced}
use Rattle.node_core.proofs.MovingLogs.{placed-one, placed-within}
use Rattle.node_core.proofs.logs.moving.note_place.Goals as goal

pub index_mut-requires : goal.index_mut-requires
index_mut-requires c =
    let P : Option ℕ → Type 0 = λ o. IfSome o (IsPlaced c.args.log.now.log c.args.place) in
    let at = subst P c.in-Some.is c.number_at.ensures.some in let lt = c.requires c.in-Some.number at in omega arith

pub returns-in-Some-clause-none : goal.returns-in-Some-clause-none
returns-in-Some-clause-none c last =
    let P : Option ℕ → Type 0 = λ o. IfSome o (IsPlaced c.args.log.now.log c.args.place) in
    let at = subst P c.in-Some.is c.number_at.ensures.some in
    absurd (let lt = placed-within c.args.log.now.log.objects c.args.place at.0 at.1 in omega arith)

pub returns-in-Some-clause-some : goal.returns-in-Some-clause-some
returns-in-Some-clause-some c number other =
    let P : Option ℕ → Type 0 = λ o. IfSome o (IsPlaced c.args.log.now.log c.args.place) in
    let at = subst P c.in-Some.is c.number_at.ensures.some in
    ap (λ n. slice_set c.args.places.now.items n c.args.place) (placed-one c.args.log.now.log c.args.place c.in-Some.number number at other)

pub returns-in_default-clause-some : goal.returns-in_default-clause-some
returns-in_default-clause-some c number at =
    absurd (let lt = placed-within c.args.log.now.log.objects c.args.place at.0 at.1 in let ge = c.in_default.ensures.none in omega arith)
