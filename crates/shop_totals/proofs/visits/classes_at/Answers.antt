use Rattle.std.proofs.Common.{◌≡◌, ◌∙◌, ◌++◌, ◌∷◌, [], cond, List, ℕ, length, ap, sym, arith}
use Rattle.shop_model.specs.declared.class.Class.{Class}
use Rattle.shop_model.specs.Views.{parts_of}
use Rattle.shop_totals.specs.Visits.{has_visit, classes_at}
use Rattle.shop_totals.proofs.VisitorLemmas.{visitors, visitors-more}
use Rattle.shop_totals.proofs.visits.classes_at.Goals as goal

pub loop-class-preserved : goal.loop-class-preserved
loop-class-preserved c =
    let i = c.loop-class.class in
    let class = c.index-classes-class.result in
    c.in_ok-list_visitor.ensures
    ∙ ap (λ (found : List ℕ). found ++ cond (has_visit c.args.station class) (i ∷ []) []) c.loop-class.invariant
    ∙ sym (visitors-more (parts_of c.args.shop.now) c.args.station i c.classes-classes.result.now class c.classes-classes.ensures c.loop-class-test.true c.index-classes-class.is)

pub returns : goal.returns
unfolding classes_at
returns c =
    let many : c.loop-class.class ≡ length c.args.shop.now.routes.classes =
    omega (arith, c.loop-class-test.false, c.loop-class.auto.class-end, ap (λ (classes : List Class). length classes) c.classes-classes.ensures) in
    c.loop-class.invariant ∙ ap (λ n. visitors (parts_of c.args.shop.now) c.args.station n) many
