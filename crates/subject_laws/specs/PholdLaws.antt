-- What holds of every run of PHOLD.
use Rattle.std.specs.Prelude.{◌≡◌, ◌+◌, ◌*◌, ℕ, length}
use Rattle.sim_spec.specs.declared.terms.Terms.{Terms}
use Rattle.sim_spec.specs.State.{State}
use Rattle.phold_model.specs.Meaning.{phold_meaning}
use Rattle.phold_model.specs.Parts.{PholdParts}
use Rattle.run_laws.specs.Reached.{Reaches}

-- how many events a model begins with: as many as each object has at time 0, and the further ones
abbrev pub population : PholdParts → ℕ
population p = p.objects * p.each + length p.start

-- in every reached state this many events are pending
abbrev pub PopulationStays : Type 0
PopulationStays = (p : PholdParts) (t : Terms) (s : State) → Reaches (phold_meaning p) t s → length s.pending ≡ population p
