-- The small shop beside one that tells otherwise: its source is quiet, and its counter is traced.
use Rattle.std.proofs.Common.{◌≡◌, true, false, refl, [], ◌∷◌}
use Rattle.std.specs.Prelude.{None}
use Rattle.event_key.specs.declared.key.TheConstants.{INITIAL}
use Rattle.random_streams.specs.declared.law.Law.TheVariants.{Fixed}
use Rattle.sim_spec.specs.State.{State}
use Rattle.queue_models.specs.declared.kind.KindOver.TheVariants.{Source, Station, Sink}
use Rattle.queue_models.specs.Meaning.{network_meaning}
use Rattle.queue_models.specs.Objects.{NetworkParts}
use Rattle.run_laws.specs.Reached.{after_events, first_records}
use Rattle.subject_laws.proofs.Computing.{network_run}
use Rattle.subject_laws.proofs.QueueLemmas.SmallShop.{counter, shop, to_fifty, key_at}
use Rattle.subject_laws.specs.TellingLaws.{first_keys, DifferInTelling}

telling_shop : NetworkParts
unfolding counter
telling_shop = record {
  seed = 7;
  objects = record { name = 112 ∷ []; kind = Source (record { first = 1; every = Fixed 2; count = 4; next = 1 }); rank = 0; quiet = true; trace = false }
      ∷ record { name = 113 ∷ []; kind = Station counter; rank = 0; quiet = false; trace = true }
      ∷ record { name = 114 ∷ []; kind = Sink (record { due = None }); rank = 0; quiet = false; trace = false }
      ∷ [];
  jobs = [];
}

differ : DifferInTelling shop telling_shop
unfolding shop telling_shop
differ = record { seed = refl; objects = refl; jobs = refl }

-- the same four events come first ..
keys_seen : first_keys 4 (network_meaning telling_shop) to_fifty ≡ key_at 1 0 0 INITIAL 0 ∷ key_at 1 1 1 0 0 ∷ key_at 3 0 0 0 1 ∷ key_at 3 1 1 0 2 ∷ []
unfolding telling_shop to_fifty network_run
keys_seen = refl

-- .. and leave the same state ..
states_seen : ◌≡◌ {A = State} (after_events 4 (network_meaning telling_shop) to_fifty) (after_events 4 (network_meaning shop) to_fifty)
unfolding shop telling_shop to_fifty network_run
states_seen = refl

-- .. but nothing is told of the two that the source makes, and the load of the counter besides what it does
notes_seen : first_records 4 (network_meaning telling_shop) to_fifty ≡
    (key_at 1 0 0 INITIAL 0, [])
    ∷ (key_at 1 1 1 0 0, record { word = 3; a = 1; b = 0 } ∷ record { word = 10; a = 1; b = 0 } ∷ [])
    ∷ (key_at 3 0 0 0 1, [])
    ∷ (key_at 3 1 1 0 2, record { word = 4; a = 2; b = 1 } ∷ record { word = 10; a = 1; b = 1 } ∷ [])
    ∷ []
unfolding telling_shop to_fifty network_run
notes_seen = refl
