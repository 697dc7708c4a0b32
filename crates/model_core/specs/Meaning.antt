-- What a model means, and the laws that each model keeps.
use Rattle.std.specs.Prelude.{ℕ, ◌^◌, ◌<◌, ◌≤◌, Bool, IsTrue, List, [], ◌∷◌, length, Option}
use Rattle.delta_exchange.specs.Changes.{CellData, AllFit, cells_after_all}
use Rattle.event_key.specs.declared.key.TheConstants.{MOST_RANK}
use Rattle.model_core.specs.declared.event.Event.{Event}
use Rattle.model_core.specs.declared.event.Send.{Send}
use Rattle.model_core.specs.declared.event.Start.{Start}
use Rattle.model_core.specs.declared.effect.Effect.{Effect}
use Rattle.model_core.specs.declared.effect.Outcome.{Outcome}
use Rattle.model_core.specs.declared.effect.Outcome.TheVariants.{Goes, Fails}
use Rattle.model_core.specs.declared.limits.TheConstants.{MOST_OBJECTS}

-- how many objects there are, which cells an object may have, what an event does at an object,
-- the cells of each object at the start, the initial events, the names that are printed, and the words of what events
-- tell and of faults: a number without a word is printed as such
pub record Meaning : Type 0 where
  pub objects : ℕ
  pub lawful : ℕ → CellData → Bool
  pub effect : ℕ → CellData → Event → Outcome
  pub first : ℕ → CellData
  pub starts : ℕ
  pub start_at : ℕ → Start
  pub label : ℕ → List ℕ
  pub word : ℕ → Option (List ℕ)
  pub fault : ℕ → Option (List ℕ)

-- what is sent has a destination, no long delay and a small rank
abbrev pub SendsInRange : ℕ → List Send → Type 0
SendsInRange objects [] = Unit {0}
SendsInRange objects (s ∷ rest) = (s.dest < objects) × (s.delay ≤ 2 ^ 40) × (s.rank ≤ MOST_RANK) × SendsInRange objects rest

-- an effect on lawful cells is small, fits them and leaves lawful ones
pub record EffectLaws (m : Meaning) (object : ℕ) (cells : CellData) (x : Effect) : Type 0 where
  pub few_changes : length x.changes ≤ 16
  pub few_sends : length x.sends ≤ 8
  pub fits : AllFit x.changes cells
  pub lawful : IsTrue (m.lawful object (cells_after_all x.changes cells))
  pub sends : SendsInRange m.objects x.sends

-- the codes 0 and 1 are no model's
abbrev pub OutcomeLaws : Meaning → ℕ → CellData → Outcome → Type 0
OutcomeLaws m object cells (Goes x) = EffectLaws m object cells x
OutcomeLaws m object cells (Fails code) = 2 ≤ code

-- an initial event has a destination, a time and a small rank
pub record StartLaws (m : Meaning) (start : Start) : Type 0 where
  pub dest : start.dest < m.objects
  pub time : start.time < 2 ^ 46
  pub rank : start.rank ≤ MOST_RANK

pub record MeaningLaws (m : Meaning) : Type 0 where
  pub objects : m.objects ≤ MOST_OBJECTS
  pub starts : m.starts ≤ 400000
  pub first : (object : ℕ) → object < m.objects → IsTrue (m.lawful object (m.first object))
  pub outcome : (object : ℕ) (cells : CellData) (event : Event) → object < m.objects → IsTrue (m.lawful object cells) → OutcomeLaws m object cells (m.effect object cells event)
  pub start : (i : ℕ) → i < m.starts → StartLaws m (m.start_at i)
