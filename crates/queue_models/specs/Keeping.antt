-- What the laws of models ask of the effects at one object, and lemmas that serve several kinds of objects.
use Rattle.std.proofs.Common.{◌≡◌, ℕ, ◌<◌, ◌≤◌, Bool, List, [], ◌∷◌, length, arith}
use Rattle.std.specs.Prelude.{IsTrue}
use Rattle.delta_exchange.specs.declared.change.Change.{Change}
use Rattle.delta_exchange.specs.Changes.{CellData, AllFit, cells_after_all}
use Rattle.event_key.specs.declared.key.TheConstants.{MOST_RANK}
use Rattle.model_core.specs.declared.effect.Effect.{Effect}
use Rattle.model_core.specs.declared.effect.Outcome.{Outcome}
use Rattle.model_core.specs.declared.effect.Outcome.TheVariants.{Goes, Fails}
use Rattle.model_core.specs.Meaning.{Meaning, OutcomeLaws, SendsInRange}
use Rattle.queue_models.specs.declared.site.Site.{Site}

-- the changes fit the cells, and leave lawful ones
pub record Keeps (lawful : CellData → Bool) (changes : List Change) (cells : CellData) : Type 0 where
  pub few : length changes ≤ 16
  pub fits : AllFit changes cells
  pub after : IsTrue (lawful (cells_after_all changes cells))

pub record EffectKeeps (objects : ℕ) (lawful : CellData → Bool) (cells : CellData) (effect : Effect) : Type 0 where
  pub changes : Keeps lawful effect.changes cells
  pub few_sends : length effect.sends ≤ 8
  pub one_part : length effect.note ≡ 1
  pub sends : SendsInRange objects effect.sends

abbrev pub OutcomeKeeps : ℕ → (CellData → Bool) → CellData → Outcome → Type 0
OutcomeKeeps objects lawful cells (Goes effect) = EffectKeeps objects lawful cells effect
OutcomeKeeps objects lawful cells (Fails code) = 2 ≤ code

pub outcome_laws : (m : Meaning) (object : ℕ) (cells : CellData) (outcome : Outcome) → OutcomeKeeps m.objects (m.lawful object) cells outcome → OutcomeLaws m object cells outcome
outcome_laws m object cells (Goes effect) keeps = record {
  few_changes = keeps.changes.few;
  few_sends = keeps.few_sends;
  fits = keeps.changes.fits;
  lawful = keeps.changes.after;
  sends = keeps.sends;
}
outcome_laws m object cells (Fails code) keeps = keeps

-- the site is at an object of the network
pub record IsSite (objects : ℕ) (site : Site) : Type 0 where
  pub object : site.object < objects
  pub rank : site.rank ≤ MOST_RANK

pub one_element : {X : Type 0} (P : List X → Type 0) (xs : List X) → length xs ≡ 1 → ((a : X) → P (a ∷ [])) → P xs
one_element P [] e h = absurd (omega arith)
one_element P (a ∷ []) e h = h a
one_element P (a ∷ b ∷ xs) e h = absurd (omega arith)

pub two_elements : {X : Type 0} (P : List X → Type 0) (xs : List X) → length xs ≡ 2 → ((a b : X) → P (a ∷ b ∷ [])) → P xs
two_elements P [] e h = absurd (omega arith)
two_elements P (a ∷ []) e h = absurd (omega arith)
two_elements P (a ∷ b ∷ []) e h = h a b
two_elements P (a ∷ b ∷ c ∷ xs) e h = absurd (omega arith)

pub three_elements : {X : Type 0} (P : List X → Type 0) (xs : List X) → length xs ≡ 3 → ((a b c : X) → P (a ∷ b ∷ c ∷ [])) → P xs
three_elements P [] e h = absurd (omega arith)
three_elements P (a ∷ []) e h = absurd (omega arith)
three_elements P (a ∷ b ∷ []) e h = absurd (omega arith)
three_elements P (a ∷ b ∷ c ∷ []) e h = h a b c
three_elements P (a ∷ b ∷ c ∷ d ∷ xs) e h = absurd (omega arith)
