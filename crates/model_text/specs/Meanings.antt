-- What a model means, with its own seed and with any other.
use Rattle.std.specs.Prelude.{◌≡◌, ℕ, ◌<◌, ◌^◌, refl}
use Rattle.delta_exchange.specs.Changes.{CellData}
use Rattle.circuit_model.specs.Meaning.{circuit_meaning}
use Rattle.circuit_model.specs.ModelLaws.{circuit_laws}
use Rattle.circuit_model.specs.Views.{gates_of}
use Rattle.model_core.specs.Meaning.{Meaning, MeaningLaws}
use Rattle.phold_model.specs.Meaning.{phold_meaning, starts_of}
use Rattle.phold_model.specs.ModelLaws.{is_phold_under, phold_laws}
use Rattle.phold_model.specs.Parts.{phold_under}
use Rattle.phold_model.specs.Views.{parts_of}
use Rattle.queue_models.specs.Meaning.{network_meaning, start_of}
use Rattle.queue_models.specs.ModelLaws.{is_network_under, network_laws}
use Rattle.queue_models.specs.Objects.{network_under}
use Rattle.queue_models.specs.Views.{parts_of as network_parts_of}
use Rattle.model_text.specs.declared.described.ReadModel.{ReadModel}
use Rattle.model_text.specs.declared.model.AnyModel.{AnyModel}
use Rattle.model_text.specs.declared.model.AnyModel.TheVariants.{Phold, Network, Circuit}
use Rattle.model_text.specs.ModelTexts.{FamilyOf}

abbrev pub meaning_of : AnyModel → Meaning
meaning_of (Phold model) = phold_meaning (parts_of model)
meaning_of (Network model) = network_meaning (network_parts_of model)
meaning_of (Circuit model) = circuit_meaning (gates_of model)

pub meaning_laws : (model : AnyModel) → MeaningLaws (meaning_of model)
meaning_laws (Phold model) = phold_laws (parts_of model) model.in_range
meaning_laws (Network model) = network_laws (network_parts_of model) model.in_range
meaning_laws (Circuit model) = circuit_laws (gates_of model) model.in_range

-- with a seed in place of its own: the same parts, and a circuit draws nothing
abbrev pub meaning_under : ℕ → AnyModel → Meaning
meaning_under seed (Phold model) = phold_meaning (phold_under seed (parts_of model))
meaning_under seed (Network model) = network_meaning (network_under seed (network_parts_of model))
meaning_under seed (Circuit model) = circuit_meaning (gates_of model)

pub laws_under : (seed : ℕ) → seed < 2 ^ 63 → (model : AnyModel) → MeaningLaws (meaning_under seed model)
laws_under seed below (Phold model) = phold_laws (phold_under seed (parts_of model)) (is_phold_under seed below (parts_of model) model.in_range)
laws_under seed below (Network model) =
    network_laws (network_under seed (network_parts_of model)) (is_network_under seed below (network_parts_of model) model.in_range)
laws_under seed below (Circuit model) = circuit_laws (gates_of model) model.in_range

-- what was read of a text, as it is described
abbrev pub family_read : ReadModel → FamilyOf
family_read read = record { under = λ seed. meaning_under seed read.model; seed = read.seed; terms = read.terms }

-- two meanings that differ in what events do alone
pub record AreAlike (one other : Meaning) : Type 0 where
  pub objects : one.objects ≡ other.objects
  pub lawful : (object : ℕ) (cells : CellData) → one.lawful object cells ≡ other.lawful object cells
  pub first : (object : ℕ) → one.first object ≡ other.first object
  pub starts : one.starts ≡ other.starts
  pub start_at : (i : ℕ) → one.start_at i ≡ other.start_at i
  pub label : (object : ℕ) → one.label object ≡ other.label object
  pub word : (number : ℕ) → one.word number ≡ other.word number
  pub fault : (code : ℕ) → one.fault code ≡ other.fault code

-- a seed plays a part in what events do alone
pub alike_under : (seed : ℕ) (model : AnyModel) → AreAlike (meaning_under seed model) (meaning_of model)
unfolding phold_meaning starts_of network_meaning start_of
alike_under seed (Phold model) =
    record { objects = refl; lawful = λ object cells. refl; first = λ object. refl; starts = refl; start_at = λ i. refl; label = λ object. refl; word = λ n. refl; fault = λ n. refl }
alike_under seed (Network model) =
    record { objects = refl; lawful = λ object cells. refl; first = λ object. refl; starts = refl; start_at = λ i. refl; label = λ object. refl; word = λ n. refl; fault = λ n. refl }
alike_under seed (Circuit model) =
    record { objects = refl; lawful = λ object cells. refl; first = λ object. refl; starts = refl; start_at = λ i. refl; label = λ object. refl; word = λ n. refl; fault = λ n. refl }
