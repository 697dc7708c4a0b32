-- A cycle behind moves.
use Rattle.std.proofs.Common.{◌≡◌, ap, ◌∙◌, subst}
use Rattle.std.specs.Prelude.{Result}
use Rattle.delta_exchange.specs.declared.memory.OutOfMemory.{OutOfMemory}
use Rattle.model_core.specs.Meaning.{Meaning}
use Rattle.sim_spec.specs.declared.bucket.Bucket.{Bucket}
use Rattle.sim_spec.specs.declared.terms.Terms.{Terms}
use Rattle.sim_spec.specs.Standing.{CycleGives, Standing, ended}
use Rattle.cycle_core.specs.Standings.{HasCycled, WorldStandsAt}
use Rattle.cycle_core.specs.Worlds.{WorldView}

module _ {M : Type 0} (meaning_of : M → Meaning) (old new : WorldView M) (model : new.model ≡ old.model) (terms : new.terms ≡ old.terms)
    (keeps : (at : Standing) → WorldStandsAt meaning_of old at → WorldStandsAt meaning_of new at) where
  same-ended : (at : Standing) → ended (meaning_of new.model) new.terms at ≡ ended (meaning_of old.model) old.terms at
  same-ended at = ap (λ (v : M). ended (meaning_of v) new.terms at) model ∙ ap (λ (t : Terms). ended (meaning_of old.model) t at) terms

  -- the cycle of a world that stands where another one stood is one of that other world
  pub cycled-from : (last : WorldView M) (answer : Result Bucket OutOfMemory) → HasCycled meaning_of new answer last → HasCycled meaning_of old answer last
  cycled-from last answer cycled at there more =
      let done = cycled at (keeps at there) (same-ended at ∙ more) in
      let G : M → Type 0 = λ v. CycleGives (meaning_of v) new.terms at answer done.left in
      let T : Terms → Type 0 = λ t. CycleGives (meaning_of old.model) t at answer done.left in
      record {
        left = done.left;
        stands = done.stands;
        gives = subst T terms (subst G model done.gives);
        same_meaning = done.same_meaning ∙ ap meaning_of model;
        same_terms = done.same_terms ∙ terms;
      }
