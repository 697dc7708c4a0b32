-- What an event comes to is what the definition fires.
use Rattle.std.proofs.Common.{◌≡◌, ◌+◌, length, sym, ap, ◌∙◌, subst, refl}
use Rattle.delta_exchange.specs.Changes.{cells_after_all}
use Rattle.model_core.specs.declared.effect.Ending.{Ending}
use Rattle.model_core.specs.Effects.{outcome_by}
use Rattle.sim_spec.specs.Firing.{ObjectState, firing_of}
use Rattle.event_firing.specs.Reactions.{IsReaction}
use Rattle.event_firing.specs.Settling.{settled}
use Rattle.event_firing.proofs.ReactionLemmas.{settled-fails, settled-goes, settled-laws, fire-goes}
use Rattle.event_firing.proofs.object.Object.fire.Goals as goal

pub returns-in_default-clause-ok : goal.returns-in_default-clause-ok
returns-in_default-clause-ok g c =
    let m = g.M.Model.meaning c.args.model.now in
    let e = c.args.event.now in
    let o = c.args.self.now in
    let P : Ending → Type 0 = λ ending. IsReaction m o e c.settle.new.sheet ending c.settle.new.self in
    let O : Ending → Type 0 = λ ending. outcome_by ending c.settle.new.sheet ≡ settled e.key.stamp (m.effect e.key.dest o.cells e) in
    subst P (sym c.in_default.is) (
      settled-fails m e.key.dest o e c.in_default.field-0 (subst O c.in_default.is c.in_ok-ending.ensures.outcome),
      c.in_ok-ending.ensures.same,
    )

pub returns-in_ok-take_effect-clause-ok : goal.returns-in_ok-take_effect-clause-ok
returns-in_ok-take_effect-clause-ok g c =
    let m = g.M.Model.meaning c.args.model.now in
    let e = c.args.event.now in
    let o = c.args.self.now in
    let x = c.settle.new.sheet in
    let O : Ending → Type 0 = λ ending. outcome_by ending x ≡ settled e.key.stamp (m.effect e.key.dest o.cells e) in
    let is_settled = subst O c.in-Goes.is c.in_ok-ending.ensures.outcome in
    let laws = settled-laws m e.key.dest o.cells e x c.keeps_laws.ensures c.requires.object c.requires.lawful is_settled in
    let P : Ending → Type 0 = λ ending. IsReaction m o e x ending c.take_effect.new.self in
    subst P (sym c.in-Goes.is) (record {
      firing = firing_of e.key.dest o e x;
      fires = fire-goes m e.key.dest o e x is_settled;
      state = c.in_ok-take_effect.ensures.ok
          ∙ ap (λ (s : ObjectState). record { cells = cells_after_all c.as_slice-in-Goes.result.now s.cells; sent = s.sent + length c.as_slice.result.now }) c.in_ok-ending.ensures.same
          ∙ (λ i. record { cells = cells_after_all (c.as_slice-in-Goes.ensures i) o.cells; sent = o.sent + length (c.as_slice.ensures i) });
      note = refl;
      events = refl;
      stepping = (settled-goes e.key.stamp (m.effect e.key.dest o.cells e) x is_settled).1;
      ranged = laws.sends;
      few = laws.few_sends;
    })
