-- Ways, computed with random words: a delay of three to nine ticks holds two jobs, of 0 and of 1, and a router sends each to
-- one of two sinks.
use Rattle.std.proofs.Common.{lit<, ◌≡◌, false, refl, [], ◌∷◌}
use Rattle.std.specs.Prelude.{None}
use Rattle.event_key.specs.declared.key.TheConstants.{INITIAL}
use Rattle.random_streams.specs.declared.law.Law.TheVariants.{Uniform}
use Rattle.model_core.specs.declared.event.Event.{Event}
use Rattle.sim_spec.specs.Run.{next}
use Rattle.queue_models.specs.declared.kind.KindOver.TheVariants.{Delay, Router, Sink}
use Rattle.queue_models.specs.Meaning.{plain_meaning, network_meaning}
use Rattle.queue_models.specs.Objects.{NetworkParts, object_at}
use Rattle.run_laws.specs.Reached.{after_events, first_records}
use Rattle.subject_laws.proofs.Computing.{network_run}
use Rattle.subject_laws.proofs.QueueLemmas.SmallShop.{to_fifty, key_at, told_at}
use Rattle.subject_laws.specs.Draws.{draws_next}
use Rattle.subject_laws.specs.WayLaws.{GoesOn}

fork : NetworkParts
fork = record {
  seed = 7;
  objects = record { name = 97 ∷ []; kind = Delay (record { delay = Uniform 3 9; next = 1 }); rank = 0; quiet = false; trace = false }
      ∷ record { name = 98 ∷ []; kind = Router (record { next = 2 ∷ 3 ∷ []; weights = 1 ∷ 1 ∷ [] }); rank = 0; quiet = false; trace = false }
      ∷ record { name = 99 ∷ []; kind = Sink (record { due = None }); rank = 0; quiet = false; trace = false }
      ∷ record { name = 100 ∷ []; kind = Sink (record { due = None }); rank = 0; quiet = false; trace = false }
      ∷ [];
  jobs = record { time = 0; at = 0; rank = 0 } ∷ record { time = 1; at = 0; rank = 0 } ∷ [];
}

-- the delay draws 3 and 5, and the router the second sink, twice
four_ways : first_records 4 (network_meaning fork) to_fifty ≡
    told_at (key_at 0 0 0 INITIAL 0) 7 1 3
    ∷ told_at (key_at 1 0 0 INITIAL 1) 7 2 5
    ∷ told_at (key_at 3 0 1 0 0) 8 1 3
    ∷ told_at (key_at 3 1 3 1 0) 9 1 3
    ∷ []
unfolding fork to_fifty network_run
four_ways = refl

-- the second job is on its way to the router, and comes there at 1 + 5
to_router : Event
to_router = record { key = key_at 6 0 1 0 1; kind = 3; a = 2; b = 1 }

held_for_five : GoesOn (object_at fork.objects 0).kind (told_at (key_at 1 0 0 INITIAL 1) 7 2 5)
    (draws_next (plain_meaning fork) (object_at fork.objects 0).kind 0 (after_events 1 (plain_meaning fork) to_fifty) (next (plain_meaning fork) to_fifty (after_events 1 (plain_meaning fork) to_fifty)))
    to_router
unfolding fork to_fifty to_router network_run
held_for_five = record { job = refl; way = (0, lit< tt, refl); chosen = λ router. absurd (cc); time = refl }

-- the first job goes on to the second of the two, at the next step
to_sink : Event
to_sink = record { key = key_at 3 1 3 1 0; kind = 3; a = 1; b = 0 }

chosen_at_once : GoesOn (object_at fork.objects 1).kind (told_at (key_at 3 0 1 0 0) 8 1 3)
    (draws_next (plain_meaning fork) (object_at fork.objects 1).kind 1 (after_events 2 (plain_meaning fork) to_fifty) (next (plain_meaning fork) to_fifty (after_events 2 (plain_meaning fork) to_fifty)))
    to_sink
unfolding fork to_fifty to_sink network_run
chosen_at_once = record { job = refl; way = (1, lit< tt, refl); chosen = λ router. refl; time = refl }
