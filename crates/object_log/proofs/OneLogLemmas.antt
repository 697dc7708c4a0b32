-- The log of one object goes back as the log of many does.
use Rattle.std.proofs.Common.{◌≡◌, ℕ, List, [], ◌∷◌, map, slice_get, Some, None, eq-eqb, refl, sym, ap, ◌∙◌, subst}
use Rattle.std.specs.List.{AllByRecursion as Each}
use Rattle.event_key.specs.declared.key.Key.{Key}
use Rattle.model_core.specs.declared.event.Event.{Event}
use Rattle.sim_spec.specs.Firing.{ObjectState}
use Rattle.key_order.proofs.EachLemmas.{Each-filter}
use Rattle.object_log.specs.Dones.{Done}
use Rattle.object_log.specs.Logs.{events_of, undone}
use Rattle.object_log.specs.Parts.{before_key, from_key}
use Rattle.object_log.specs.EventCalls.{HasGoneBack}
use Rattle.object_log.specs.EventLogs.{EventLogView, ObjectView, dones_at, stays, state_in, or_else}
use Rattle.object_log.specs.Objects.{IsPlaced}
use Rattle.object_log.specs.OneLogs.{IsOnly, only_state}
use Rattle.object_log.proofs.OwnLemmas.{only-own, rolled-own}

pub only-placed : (object : ℕ) (log : EventLogView) → IsOnly object log → IsPlaced log 0 object
only-placed object log only = (record { object = object; state = only.state }, ap (λ os. slice_get os 0) only.objects, refl)

found : (o : ObjectView) → state_in (o ∷ []) o.object ≡ Some o.state
unfolding state_in
found o = ap (λ b. or_else b o.state None) (eq-eqb o.object o.object refl)

inside : (s t : ObjectState) → Some s ≡ Some t → s ≡ t
inside s t is = cc

single : (os : List ObjectView) (object : ℕ) → map (λ (o : ObjectView). o.object) os ≡ object ∷ [] → os ≡ (record { object = object; state = only_state os }) ∷ []
single [] object is = absurd (cc)
single (o ∷ []) object is = (let same : o.object ≡ object = cc in λ i. (record { object = same i; state = o.state }) ∷ [])
single (o ∷ p ∷ os) object is = absurd (cc)

module _ (object : ℕ) (key : Key) (old new : EventLogView) (into : List Event) (only : IsOnly object old) (back : HasGoneBack object key old new into) where
  own-is : dones_at object old.done ≡ old.done
  own-is = only-own object old.done only.own

  new-own : Each (λ (d : Done). d.event.key.dest ≡ object) new.done
  new-own = let P : List Done → Type 0 = Each (λ (d : Done). d.event.key.dest ≡ object) in subst P (sym back.done) (Each-filter (λ (d : Done). d.event.key.dest ≡ object) (stays object key) old.done only.own)

  pub one-left : new.done ≡ before_key key old.done
  one-left = sym (only-own object new.done new-own) ∙ ap (dones_at object) back.done ∙ rolled-own object key old.done ∙ ap (before_key key) own-is

  pub one-events : into ≡ events_of (from_key key old.done)
  one-events = back.events ∙ ap (λ ds. events_of (from_key key ds)) own-is

  new-single : new.objects ≡ (record { object = object; state = only_state new.objects }) ∷ []
  new-single = single new.objects object (back.changes.numbers ∙ ap (map (λ (o : ObjectView). o.object)) only.objects)

  pub one-only : IsOnly object new
  one-only = record { state = only_state new.objects; objects = new-single; own = new-own }

  pub one-state : only_state new.objects ≡ undone (only_state old.objects) (from_key key old.done)
  one-state =
      let was : back.was ≡ only_state old.objects =
      inside back.was (only_state old.objects) (sym back.changes.before ∙ ap (λ os. state_in os object) only.objects ∙ found (record { object = object; state = only.state }) ∙ ap (λ os. Some (only_state os)) (sym only.objects)) in
      let now : only_state new.objects ≡ undone back.was (from_key key (dones_at object old.done)) =
      inside (only_state new.objects) _ (sym (found (record { object = object; state = only_state new.objects })) ∙ ap (λ os. state_in os object) (sym new-single) ∙ back.changes.after) in
      now ∙ (λ i. undone (was i) (from_key key (own-is i)))
