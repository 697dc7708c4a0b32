-- One cycle of a team.
use Rattle.std.specs.Prelude.{◌≡◌, true, Result, IfOk, OnOk, OnErr}
use Rattle.delta_exchange.specs.declared.memory.OutOfMemory.{OutOfMemory}
use Rattle.model_core.specs.Meaning.{Meaning}
use Rattle.sim_spec.specs.declared.bucket.Bucket.{Bucket}
use Rattle.cycle_core.specs.Cycled.{CarriesOn, IsBucketOf, StandsAfter}
use Rattle.cycle_core.specs.Standings.{HasCycled}
use Rattle.cycle_core.specs.Worlds.{IsSameWorld}
use Rattle.node_team.specs.Rises.{AllRise}
use Rattle.node_team.specs.Teams.{TeamView}

module _ {M : Type 0} (meaning_of : M → Meaning) where
  -- it answers the bucket that comes next, and leaves a team that stands for the state after it, whose nodes carry on what
  -- that bucket leaves them and have worked ahead; after a refusal its world is spent
  pub record HasDoneCycle (old : TeamView M) (result : Result Bucket OutOfMemory) (new : TeamView M) : Type 0 where
    pub bucket : IfOk result (IsBucketOf meaning_of old.world)
    pub stands : OnOk result (StandsAfter meaning_of old.world new.world)
    pub carried : OnOk result (CarriesOn meaning_of old.world new.world)
    pub work : OnOk result (AllRise meaning_of old.ahead old.world.nodes new.world.nodes)
    pub fault : IfOk result (λ bucket. new.world.fault ≡ bucket.fault)
    pub spent : OnErr result (new.world.is_spent ≡ true)
    pub made : IsSameWorld old.world new.world
    pub ahead : new.ahead ≡ old.ahead
    pub cycled : HasCycled meaning_of old.world result new.world
