use Rattle.std.proofs.Common.{◌≡◌, ◌∙◌, ap, false, inl, inr, sym, refl}
use Rattle.std.proofs.lemmas.Bool.{false≢true}
use Rattle.cycle_core.proofs.SpentCycles.{spent-cycled}
use Rattle.cycle_core.proofs.StandingLemmas.{cycled-done}
use Rattle.cycle_core.proofs.world.World.cycle_alone.Goals as goal

pub returns-then-self-clause-cycled : goal.returns-then-self-clause-cycled
returns-then-self-clause-cycled g c =
    spent-cycled (g.M.Model.meaning) c.args.self.now c.args.self.now refl refl _ (sym (ap (λ v. v.is_spent) c.self.view_is) ∙ c.if-self.true)

pub returns-in-Ok-clause-cycled : goal.returns-in-Ok-clause-cycled
returns-in-Ok-clause-cycled g c =
    cycled-done (g.M.Model.meaning) c.args.self.now c.run_cycle.new.self c.in-Ok.ensures.made c.in-Ok.bucket (sym (ap (λ v. v.is_spent) c.self.view_is) ∙ c.if-self.false) c.in-Ok.ensures.fault
    (λ s at. c.in-Ok.ensures.bucket s at) (λ s at. c.in-Ok.ensures.stands s at)

pub returns-in-Err-clause-cycled : goal.returns-in-Err-clause-cycled
returns-in-Err-clause-cycled g c =
    let made = c.in-Err.ensures.made in
    spent-cycled (g.M.Model.meaning) c.args.self.now _ (ap (λ v. v.model) c.self-2.view_is ∙ made.model) (ap (λ v. v.terms) c.self-2.view_is ∙ made.terms) c.in-Err.refused refl

pub run_cycle-requires-after_bounds : goal.run_cycle-requires-after_bounds
run_cycle-requires-after_bounds g c lifetimes outlives =
    let awake : c.args.self.now.is_spent ≡ false = sym (ap (λ v. v.is_spent) c.self.view_is) ∙ c.if-self.false in
    elim (c.requires) [ inl spent ↦ absurd (false≢true (sym awake ∙ spent)) | inr there ↦ (there.0, there.1) ]

pub returns-then-self-clause-spent : goal.returns-then-self-clause-spent
returns-then-self-clause-spent g c = sym (ap (λ v. v.is_spent) c.self.view_is) ∙ c.if-self.true

pub returns-then-self-clause-made : goal.returns-then-self-clause-made
returns-then-self-clause-made g c = record { model = refl; terms = refl; homes = refl }

pub returns-in-Ok-clause-bucket : goal.returns-in-Ok-clause-bucket
returns-in-Ok-clause-bucket g c s at = c.in-Ok.ensures.bucket s at

pub returns-in-Ok-clause-stands : goal.returns-in-Ok-clause-stands
returns-in-Ok-clause-stands g c s at = c.in-Ok.ensures.stands s at

pub returns-in-Ok-clause-carried : goal.returns-in-Ok-clause-carried
returns-in-Ok-clause-carried g c s at = c.in-Ok.ensures.carried s at

pub returns-in-Ok-clause-fault : goal.returns-in-Ok-clause-fault
returns-in-Ok-clause-fault g c = c.in-Ok.ensures.fault

pub returns-in-Ok-clause-made : goal.returns-in-Ok-clause-made
returns-in-Ok-clause-made g c = c.in-Ok.ensures.made

pub returns-in-Err-clause-spent : goal.returns-in-Err-clause-spent
returns-in-Err-clause-spent g c = refl

pub returns-in-Err-clause-made : goal.returns-in-Err-clause-made
returns-in-Err-clause-made g c =
    let made = c.in-Err.ensures.made in
    record { model = ap (λ v. v.model) c.self-2.view_is ∙ made.model; terms = ap (λ v. v.terms) c.self-2.view_is ∙ made.terms; homes = ap (λ v. v.homes) c.self-2.view_is ∙ made.homes }
