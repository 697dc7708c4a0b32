-- A loss and two faults, computed: in a shop without a waiting line the second job finds the one server busy; and a sink whose
-- due is 4 ticks fails at the first job, which is 5 ticks old.
use Rattle.std.proofs.Common.{◌≡◌, Bool, true, false, refl, [], ◌∷◌}
use Rattle.std.specs.Prelude.{ℕ, Option, Some, None}
use Rattle.random_streams.specs.declared.law.Law.TheVariants.{Fixed}
use Rattle.sim_spec.specs.declared.stop.Stop.TheVariants.{Fault}
use Rattle.sim_spec.specs.Run.{Next, stops, next}
use Rattle.queue_models.specs.declared.kind.KindOver.TheVariants.{Source, Station, Sink}
use Rattle.queue_models.specs.Meaning.{plain_meaning, network_meaning}
use Rattle.queue_models.specs.Objects.{NetworkParts}
use Rattle.run_laws.specs.Reached.{after_events}
use Rattle.subject_laws.specs.LossLaws.{IsToldBy}
use Rattle.subject_laws.proofs.QueueLemmas.SmallShop.{to_fifty, key_at, told_at}
use Rattle.subject_laws.proofs.Computing.{network_run}

small_shop : Bool → Option ℕ → NetworkParts
small_shop strict due = record {
  seed = 7;
  objects = record { name = 112 ∷ []; kind = Source (record { first = 1; every = (Fixed 2); count = 4; next = 1 }); rank = 0; quiet = false; trace = false }
      ∷ record { name = 113 ∷ []; kind = Station (record { servers = 1; service = Fixed 5; line = 0; strict = strict; next = 2 }); rank = 0; quiet = false; trace = false }
      ∷ record { name = 114 ∷ []; kind = Sink (record { due = due }); rank = 0; quiet = false; trace = false }
      ∷ [];
  jobs = [];
}

-- the fourth event is the arrival of the second job
second_is_lost : IsToldBy (plain_meaning (small_shop false None)) to_fifty (after_events 3 (plain_meaning (small_shop false None)) to_fifty) 5
unfolding small_shop to_fifty network_run
second_is_lost = record {
  told = told_at (key_at 3 1 1 0 2) 5 2 0;
  after = after_events 4 (plain_meaning (small_shop false None)) to_fifty;
  goes = refl;
  tells = refl;
}

a_strict_station_fails : ◌≡◌ {A = Next} (next (network_meaning (small_shop true None)) to_fifty (after_events 3 (network_meaning (small_shop true None)) to_fifty)) (stops (Fault (key_at 3 1 1 0 2) 2))
unfolding small_shop to_fifty network_run
a_strict_station_fails = refl

a_sink_fails : ◌≡◌ {A = Next} (next (network_meaning (small_shop false (Some 4))) to_fifty (after_events 7 (network_meaning (small_shop false (Some 4))) to_fifty)) (stops (Fault (key_at 6 1 2 1 1) 3))
unfolding small_shop to_fifty network_run
a_sink_fails = refl
