use Rattle.std.proofs.Common.{◌∙◌, ap, sym, refl}
use Rattle.cycle_core.proofs.SpentCycles.{spent-cycled}
use Rattle.cycle_core.proofs.StandingLemmas.{cycled-done}
use Rattle.node_team.proofs.cycling.cycle.Goals as goal

pub returns-then-is_spent-clause-cycled : goal.returns-then-is_spent-clause-cycled
returns-then-is_spent-clause-cycled g c =
    spent-cycled (g.M.Model.meaning) c.args.world.now c.args.world.now refl refl _ (sym c.is_spent.ensures ∙ c.if-is_spent.true)

pub returns-in-Ok-clause-cycled : goal.returns-in-Ok-clause-cycled
returns-in-Ok-clause-cycled g c =
    cycled-done (g.M.Model.meaning) c.args.world.now c.run_cycle.new.world c.in-Ok.ensures.made c.in-Ok.bucket (sym c.is_spent.ensures ∙ c.if-is_spent.false) c.in-Ok.ensures.fault
    (λ s at. c.in-Ok.ensures.bucket s at) (λ s at. c.in-Ok.ensures.stands s at)

pub returns-in-Err-clause-cycled : goal.returns-in-Err-clause-cycled
returns-in-Err-clause-cycled g c =
    let made = c.in-Err.ensures.made in
    let spent = c.spend.ensures in
    spent-cycled (g.M.Model.meaning) c.args.world.now c.spend.new.self (ap (λ v. v.model) spent ∙ made.model) (ap (λ v. v.terms) spent ∙ made.terms) c.in-Err.refused (ap (λ v. v.is_spent) spent)

pub run_cycle-requires-clause-ready : goal.run_cycle-requires-clause-ready
run_cycle-requires-clause-ready g c lifetimes outlives = c.requires.ready (sym c.is_spent.ensures ∙ c.if-is_spent.false)

pub returns-in-Err-clause-made : goal.returns-in-Err-clause-made
returns-in-Err-clause-made g c =
    let made = c.in-Err.ensures.made in
    let spent = c.spend.ensures in
    record { model = ap (λ v. v.model) spent ∙ made.model; terms = ap (λ v. v.terms) spent ∙ made.terms; homes = ap (λ v. v.homes) spent ∙ made.homes }
