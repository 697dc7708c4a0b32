-- What an effect leaves where its event goes.
use Rattle.std.proofs.Common.{◌≡◌, ℕ, Bool, true, false, cond}
use Rattle.model_core.specs.declared.event.Event.{Event}
use Rattle.model_core.specs.declared.effect.Effect.{Effect}
use Rattle.model_core.specs.declared.effect.Outcome.TheVariants.{Goes}
use Rattle.sim_spec.specs.Firing.{ObjectState, Firing, goes, fails, fired_by, firing_of, has_endless_chain}

-- effects that go are the same where their outcomes are
pub goes-effect : (x y : Effect) → Goes x ≡ Goes y → x ≡ y
goes-effect x y is = cc

pub goes-firing : (object : ℕ) (state : ObjectState) (e : Event) (y : Effect) (x : Firing) → fired_by object state e (Goes y) ≡ goes x → firing_of object state e y ≡ x
unfolding fired_by
goes-firing object state e y x is_x = by_chain (has_endless_chain e.key.stamp y.sends) is_x
  where
    goes_is : (x y : Firing) → goes x ≡ goes y → x ≡ y
    goes_is x y h = cc

    by_chain : (b : Bool) → cond b (fails 1) (goes (firing_of object state e y)) ≡ goes x → firing_of object state e y ≡ x
    by_chain true h = absurd (cc)
    by_chain false h = goes_is (firing_of object state e y) x h
