-- What comes of an event at its object, as an engine has it.
use Rattle.std.specs.Prelude.{◌≡◌, ◌≤◌, false, length}
use Rattle.model_core.specs.declared.effect.Effect.{Effect}
use Rattle.model_core.specs.declared.effect.Ending.{Ending}
use Rattle.model_core.specs.declared.effect.Ending.TheVariants.{Goes, Fails}
use Rattle.model_core.specs.declared.event.Event.{Event}
use Rattle.model_core.specs.Meaning.{Meaning, SendsInRange}
use Rattle.sim_spec.specs.Firing.{ObjectState, Firing, goes, fails, fire, has_endless_chain, emissions}

-- the event goes as its firing says: what is sent are the firing's events, which the model's laws bound
pub record IsSending (m : Meaning) (old : ObjectState) (e : Event) (sheet : Effect) (new : ObjectState) : Type 0 where
  pub firing : Firing
  pub fires : fire m e.key.dest old e ≡ goes firing
  pub state : new ≡ firing.state
  pub note : sheet.note ≡ firing.note
  pub events : firing.events ≡ emissions e.key.stamp e.key.dest old.sent sheet.sends
  pub stepping : has_endless_chain e.key.stamp sheet.sends ≡ false
  pub ranged : SendsInRange m.objects sheet.sends
  pub few : length sheet.sends ≤ 8

-- the event goes, or fails and leaves its object as it was
abbrev pub IsReaction : Meaning → ObjectState → Event → Effect → Ending → ObjectState → Type 0
IsReaction m old e sheet Goes new = IsSending m old e sheet new
IsReaction m old e sheet (Fails code) new = (fire m e.key.dest old e ≡ fails code) × (new ≡ old)
