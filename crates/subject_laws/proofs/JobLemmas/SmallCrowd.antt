-- A small network with a job of its own, computed: at 0 the job of the list comes to a station with one server, which
-- serves each for five ticks, and one may wait; a source makes two jobs, at 1 and at 3; a sink takes jobs out.
use Rattle.std.proofs.Common.{lit<, ◌≡◌, ℕ, false, refl, [], ◌∷◌}
use Rattle.std.specs.Prelude.{None}
use Rattle.random_streams.specs.declared.law.Law.TheVariants.{Fixed}
use Rattle.sim_spec.specs.Run.{Next, does, next}
use Rattle.subject_laws.proofs.QueueLemmas.SmallShop.{to_fifty, key_at, told_at}
use Rattle.queue_models.specs.declared.kind.KindOver.TheVariants.{Source, Station, Sink}
use Rattle.queue_models.specs.Meaning.{plain_meaning, network_meaning}
use Rattle.queue_models.specs.Objects.{NetworkParts}
use Rattle.run_laws.specs.Reached.{after_events}
use Rattle.subject_laws.specs.Places.{at_event, in_line, has_left, was_lost}
use Rattle.subject_laws.specs.Births.{births, AreKept}
use Rattle.subject_laws.specs.Jobs.{Job, listed, made_by, whereabouts, held, in_the_system}
use Rattle.subject_laws.proofs.Computing.{network_run}

crowd : NetworkParts
crowd = record {
  seed = 7;
  objects = record { name = 112 ∷ []; kind = Source (record { first = 1; every = (Fixed 2); count = 2; next = 1 }); rank = 0; quiet = false; trace = false }
      ∷ record { name = 113 ∷ []; kind = Station (record { servers = 1; service = (Fixed 5); line = 1; strict = false; next = 2 }); rank = 0; quiet = false; trace = false }
      ∷ record { name = 114 ∷ []; kind = Sink (record { due = None }); rank = 0; quiet = false; trace = false }
      ∷ [];
  jobs = record { time = 0; at = 1; rank = 0 } ∷ [];
}

from_list : Job
from_list = record { origin = listed; number = 1 }

made : ℕ → Job
made number = record { origin = made_by 0; number = number }

-- after three events the job of the list is served, and the source's first one, of the same number, waits
after_three : whereabouts crowd to_fifty 3 ≡ (from_list, at_event (key_at 5 0 1 1 0)) ∷ (made 1, in_line 1 0) ∷ []
unfolding crowd to_fifty from_list made network_run
after_three = refl

-- after seven the first has left, the second is served, and the source's second job was lost: it found the line full
after_seven : whereabouts crowd to_fifty 7 ≡ (from_list, has_left) ∷ (made 1, at_event (key_at 10 0 1 1 2)) ∷ (made 2, was_lost) ∷ []
unfolding crowd to_fifty from_list made network_run
after_seven = refl

-- one place is left in the system, and that job holds it
one_place : in_the_system crowd (after_events 7 (network_meaning crowd) to_fifty) ≡ (1, at_event (key_at 10 0 1 1 2)) ∷ []
unfolding crowd to_fifty network_run
one_place = refl

one_holds_it : held (whereabouts crowd to_fifty 7) ≡ (1, at_event (key_at 10 0 1 1 2)) ∷ []
unfolding crowd to_fifty from_list made network_run
one_holds_it = refl

-- the births are those of the list and of the source, and the first job is told to be 5 ticks old when it leaves at 5
born_seen : births crowd to_fifty 7 ≡ 0 ∷ 1 ∷ 3 ∷ []
unfolding crowd to_fifty network_run
born_seen = refl

age_seen : ◌≡◌ {A = Next} (next (plain_meaning crowd) to_fifty (after_events 6 (plain_meaning crowd) to_fifty)) (does (told_at (key_at 5 1 2 1 1) 9 1 5) (after_events 7 (plain_meaning crowd) to_fifty))
unfolding crowd to_fifty network_run
age_seen = refl

-- after three events the births are kept where the jobs stand: 0 at the end of the service, and 1 in the line
births_kept : AreKept crowd (after_events 3 (network_meaning crowd) to_fifty) (whereabouts crowd to_fifty 3) (births crowd to_fifty 3)
unfolding crowd to_fifty network_run
births_kept = ((record { key = key_at 5 0 1 1 0; kind = 2; a = 1; b = 0 }, (1, lit< tt, refl), refl, refl, refl), ((lit< tt, refl), tt))
