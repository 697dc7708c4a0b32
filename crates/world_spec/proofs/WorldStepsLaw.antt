-- Steps below a bound that has since fallen do no harm.
use Rattle.std.proofs.Common.{Bool, ap, arith, false, lt-ltb, ltb, ltb-true, refl, subst, sym, true, ℕ, ◌<◌, ◌∙◌, ◌≡◌, ◌≤◌}
use Rattle.model_core.specs.Meaning.{Meaning, MeaningLaws}
use Rattle.sim_spec.specs.declared.terms.Terms.{Terms}
use Rattle.world_spec.specs.NodeLaws.{StandsOn}
use Rattle.world_spec.specs.Share.{IsHome, StandsFor}
use Rattle.world_spec.specs.World.{IsMadeFor, Setting, WorldStands}
use Rattle.world_spec.specs.WorldLaws.{WorldStepsLaw}
use Rattle.world_spec.proofs.NextWorld.{world_law}
use Rattle.world_spec.proofs.NodeFacts.{stands-same}
use Rattle.world_spec.proofs.StepsLaw.{steps_law}

-- the nodes of a world take any number of steps
pub steps_unharmed : (m : Meaning) (t : Terms) → MeaningLaws m → WorldStepsLaw m t
steps_unharmed m t laws home nodes s shares ahead old new stands steps =
    record {
      ahead_now = now;
      further = λ object below. far_further (home object) (ltb (home object) nodes) refl object;
      stands = new_stands;
      cycle = λ bound closed. world_law m t laws home nodes s shares now new bound new_stands closed;
    }
  where
    on : (node : ℕ) → node < nodes → StandsOn m t home node (shares node) ahead (new.node node)
    on node inside = steps_law m t home node (steps.bounds node) (shares node) ahead (old.node node) (new.node node) (steps.within node inside) (steps.steps node inside) (stands.stands node inside)

    far : (node : ℕ) → (inside : Bool) → ltb node nodes ≡ inside → ℕ → ℕ
    far node true is_inside = (on node (ltb-true node nodes is_inside)).ahead_now
    far node false is_outside = ahead

    far_further : (node : ℕ) → (inside : Bool) → (is : ltb node nodes ≡ inside) → (object : ℕ) → ahead object ≤ far node inside is object
    far_further node true is_inside object = (on node (ltb-true node nodes is_inside)).further object
    far_further node false is_outside object = omega arith

    far_stands : (node : ℕ) → (inside : Bool) → (is : ltb node nodes ≡ inside) → inside ≡ true → StandsFor m t home node (shares node) (far node inside is) (new.node node)
    far_stands node true is_inside so = (on node (ltb-true node nodes is_inside)).stands
    far_stands node false is_outside so = absurd (cc)

    -- an object is as far ahead as at its own node
    now : ℕ → ℕ
    now object = far (home object) (ltb (home object) nodes) refl object

    now_is : (node object : ℕ) → IsHome m home node object → far node (ltb node nodes) refl object ≡ now object
    now_is node object at = ap (λ k. far k (ltb k nodes) refl object) (sym at.1)

    new_stands : WorldStands m t home nodes s shares now new
    new_stands = record {
      lawful = stands.lawful;
      homes = stands.homes;
      made = λ node inside. let P : Setting → Type 0 = IsMadeFor m t home nodes in subst P (sym (steps.made node inside)) (stands.made node inside);
      shares_of = stands.shares_of;
      stands = λ node inside. stands-same m t home node (shares node) (far node (ltb node nodes) refl) now (new.node node) (now_is node)
          (far_stands node (ltb node nodes) refl (lt-ltb node nodes inside));
      count = steps.count ∙ stands.count;
      fault = λ fault is_fault. stands.fault fault (sym steps.fault ∙ is_fault);
    }
