-- An event that an object fired into flat lists.
use Rattle.std.specs.Prelude.{◌≡◌, ◌≤◌, ℕ, false, List, [], ◌++◌, length}
use Rattle.delta_exchange.specs.declared.change.Change.{Change}
use Rattle.model_core.specs.declared.effect.Effect.{Effect}
use Rattle.model_core.specs.declared.effect.Ending.{Ending}
use Rattle.model_core.specs.declared.effect.Ending.TheVariants.{Goes, Fails}
use Rattle.model_core.specs.declared.event.Event.{Event}
use Rattle.model_core.specs.Meaning.{Meaning, SendsInRange}
use Rattle.sim_spec.specs.Firing.{emissions, has_endless_chain}
use Rattle.object_log.specs.Dones.{Done}
use Rattle.object_log.specs.declared.done.Verdict.TheVariants.{Noted, Failed}
use Rattle.object_log.specs.Objects.{HasFired, KeptObject}

-- what is kept of an event that went, by its sheet and what undoes it
abbrev pub went_of : Event → ℕ → Effect → List Change → Done
went_of e serial sheet undo = record { event = e; undo = undo; sends = emissions e.key.stamp e.key.dest serial sheet.sends; verdict = Noted sheet.note }

-- and of one that failed
abbrev pub failed_of : Event → ℕ → Done
failed_of e code = record { event = e; undo = []; sends = []; verdict = Failed code }

-- it went: what undoes it was put behind the list, and the model's laws bound what it sends
pub record HasGone (m : Meaning) (old new : KeptObject) (e : Event) (sheet : Effect) (was now : List Change) : Type 0 where
  pub undo : List Change
  pub added : now ≡ was ++ undo
  pub fired : HasFired m old new e (went_of e old.sent sheet undo)
  pub few_changes : length undo ≤ 16
  pub few_sends : length sheet.sends ≤ 8
  pub stepping : has_endless_chain e.key.stamp sheet.sends ≡ false
  pub ranged : SendsInRange m.objects sheet.sends

abbrev pub HasFiredInto : Meaning → KeptObject → KeptObject → Event → Ending → Effect → List Change → List Change → Type 0
HasFiredInto m old new e Goes sheet was now = HasGone m old new e sheet was now
HasFiredInto m old new e (Fails code) sheet was now = (now ≡ was) × HasFired m old new e (failed_of e code)
