-- An object leaves the logs.
use Rattle.std.proofs.Common.{◌≡◌, ◌≤◌, ℕ, Bool, true, false, List, length, ltb, ltb-true, ltb-false, refl, sym, ap, subst, ◌∙◌}
use Rattle.std.specs.Arc.{arc_value}
use Rattle.std.specs.Prelude.{Some, filter, not}
use Rattle.object_log.specs.EventLogs.{dones_at, is_of, slot_in, state_in}
use Rattle.object_log.specs.Objects.{IsPlaced}
use Rattle.node_core.specs.Logged.{AreLogged, LogsView}
use Rattle.node_core.proofs.MovingLogs.{left-last, left-moved, number-known, placed-at}
use Rattle.node_core.proofs.logs.Logs.take.Goals as goal

pub note_place-requires : goal.note_place-requires
note_place-requires c =
    let t = c.take-moved.ensures in
    let i = c.self.inside in
    number-known c.args.object c.index-place.result.now i.log c.take-moved.new.self i.places.items (arc_value i.homes) (arc_value c.args.homes) c.self.invariant t.gone t.others t.places t.carried t.nodes
    (c.requires.nodes ∙ sym (ap (λ (v : LogsView). v.homes.nodes) c.self.view_is)) (c.requires.objects ∙ sym (ap (λ (v : LogsView). length v.homes.homes) c.self.view_is))

pub invariant_of-self : goal.invariant_of-self
invariant_of-self c =
    let i = c.self.inside in
    let t = c.take-moved.ensures in
    let new = c.take-moved.new.self in
    let place = c.index-place.result.now in
    let nodes = c.requires.nodes ∙ sym (ap (λ (v : LogsView). v.homes.nodes) c.self.view_is) in
    let objects = c.requires.objects ∙ sym (ap (λ (v : LogsView). length v.homes.homes) c.self.view_is) in
    let L : List ℕ → Type 0 = AreLogged (arc_value c.args.homes) new in
    let by_test : (b : Bool) → ltb place (length new.log.objects) ≡ b → AreLogged (arc_value c.args.homes) new c.note_place.new.places.items = λ b. elim b as (λ k. ltb place (length new.log.objects) ≡ k → AreLogged (arc_value c.args.homes) new c.note_place.new.places.items) [
      | true ↦ λ h.
          let at = placed-at new.log.objects place (ltb-true place (length new.log.objects) h) in
          let is : IsPlaced new.log place at.0.object = (at.0, at.1, refl) in
          subst L (sym (c.note_place.ensures.some at.0.object is))
          (left-moved c.args.object place i.log new i.places.items (arc_value i.homes) (arc_value c.args.homes) c.self.invariant t.gone t.others t.places t.carried t.nodes nodes objects at.0.object is)
      | false ↦ λ h.
          let ge = ltb-false place (length new.log.objects) h in
          subst L (sym (c.note_place.ensures.none ge))
          (left-last c.args.object place i.log new i.places.items (arc_value i.homes) (arc_value c.args.homes) c.self.invariant t.gone t.others t.places t.carried t.nodes nodes objects ge)
    ] in
    by_test (ltb place (length new.log.objects)) refl

pub take-moved-requires-clause-room : goal.take-moved-requires-clause-room
take-moved-requires-clause-room c =
    let F : LogsView → Type 0 = λ l. length (dones_at c.args.object l.log.done) ≤ c.args.room.events in
    subst F (sym c.self.view_is) c.requires.room

pub returns-clause-log : goal.returns-clause-log
returns-clause-log c =
    let S : LogsView → Type 0 = λ l. slot_in l.log c.args.object ≡ Some c.take-moved.result.log in
    subst S c.self.view_is c.take-moved.ensures.log

pub returns-clause-gone : goal.returns-clause-gone
returns-clause-gone c = c.take-moved.ensures.gone

pub returns-clause-others : goal.returns-clause-others
returns-clause-others c other apart =
    let S : LogsView → Type 0 = λ l. state_in c.take-moved.new.self.log.objects other ≡ state_in l.log.objects other in
    subst S c.self.view_is (c.take-moved.ensures.others other apart)

pub returns-clause-done : goal.returns-clause-done
returns-clause-done c =
    let S : LogsView → Type 0 = λ l. c.take-moved.new.self.log.done ≡ filter (λ d. not (is_of c.args.object d)) l.log.done in
    subst S c.self.view_is c.take-moved.ensures.done

pub returns-clause-room : goal.returns-clause-room
returns-clause-room c = c.take-moved.ensures.room

pub returns-clause-places : goal.returns-clause-places
returns-clause-places c = c.take-moved.ensures.places_room
