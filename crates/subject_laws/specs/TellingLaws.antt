-- Being quiet or traced changes what is told, and nothing else.
use Rattle.std.specs.Prelude.{◌≡◌, ◌↔◌, ℕ, false, List, [], ◌∷◌, map}
use Rattle.event_key.specs.declared.key.Key.{Key}
use Rattle.model_core.specs.Meaning.{Meaning}
use Rattle.sim_spec.specs.declared.stop.Stop.{Stop}
use Rattle.sim_spec.specs.declared.terms.Terms.{Terms}
use Rattle.sim_spec.specs.State.{State}
use Rattle.sim_spec.specs.Run.{Next, stops, does, next}
use Rattle.queue_models.specs.Meaning.{plain_meaning, network_meaning}
use Rattle.queue_models.specs.Objects.{Item, NetworkParts}
use Rattle.run_laws.specs.Reached.{after_events, gathered}

abbrev pub key_told : State → Next → List Key
key_told s (stops stop) = []
key_told s (does told after) = told.0 ∷ []

-- which events the first n are
abbrev pub first_keys : ℕ → Meaning → Terms → List Key
first_keys = gathered key_told

-- two runs are the same but for their notes: the same events leave the same state, and they stop alike
pub record DifferInNotes (m o : Meaning) (t : Terms) (n : ℕ) : Type 0 where
  pub events : first_keys n m t ≡ first_keys n o t
  pub state : after_events n m t ≡ after_events n o t
  pub stop : (stop : Stop) → (next m t (after_events n m t) ≡ stops stop) ↔ (next o t (after_events n o t) ≡ stops stop)

-- as if no object were quiet or traced
abbrev pub PlainRunsDifferInNotes : Type 0
PlainRunsDifferInNotes = (p : NetworkParts) (t : Terms) (n : ℕ) → DifferInNotes (network_meaning p) (plain_meaning p) t n

-- an object that is neither quiet nor traced
abbrev pub plain_object : Item → Item
plain_object object = record { name = object.name; kind = object.kind; rank = object.rank; quiet = false; trace = false }

-- two networks are the same, but that objects may be quiet or traced in one of them alone
pub record DifferInTelling (p q : NetworkParts) : Type 0 where
  pub seed : p.seed ≡ q.seed
  pub objects : map plain_object p.objects ≡ map plain_object q.objects
  pub jobs : p.jobs ≡ q.jobs

abbrev pub TellingChangesNotesAlone : Type 0
TellingChangesNotesAlone = (p q : NetworkParts) (t : Terms) (n : ℕ) → DifferInTelling p q → DifferInNotes (network_meaning p) (network_meaning q) t n
