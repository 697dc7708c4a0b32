-- A shop, computed: a source makes four jobs, one every two ticks from tick 1 on; a station with one server serves each
-- for five ticks, and two may wait; a sink takes them out.
use Rattle.std.proofs.Common.{lit<, lit≤, ◌≡◌, ℕ, false, refl, List, [], ◌∷◌, length, map}
use Rattle.std.specs.Prelude.{None, Contains}
use Rattle.event_key.specs.declared.key.Key.{Key}
use Rattle.event_key.specs.declared.key.TheConstants.{INITIAL}
use Rattle.event_key.specs.Stamps.{stamp_at}
use Rattle.random_streams.specs.declared.law.Law.TheVariants.{Fixed}
use Rattle.model_core.specs.declared.event.Event.{Event}
use Rattle.model_core.specs.declared.note.Note.{Note}
use Rattle.sim_spec.specs.declared.terms.Terms.{Terms}
use Rattle.sim_spec.specs.State.{State, initial_state}
use Rattle.sim_spec.specs.Run.{next, run}
use Rattle.queue_models.specs.declared.station.Station.{Station as StationOver}
use Rattle.queue_models.specs.declared.kind.KindOver.TheVariants.{Source, Station, Sink}
use Rattle.queue_models.specs.Meaning.{plain_meaning, network_meaning}
use Rattle.queue_models.specs.Objects.{NetworkParts, object_at}
use Rattle.run_laws.specs.Reached.{after_events, Reaches, first_records}
use Rattle.run_laws.specs.RunLaws.{IsCause, Happens}
use Rattle.run_laws.specs.Sent.{sent_next, happened, all_sent, initial_events}
use Rattle.subject_laws.specs.Draws.{draws_next}
use Rattle.subject_laws.specs.WayLaws.{GoesOn}
use Rattle.subject_laws.specs.OrderLaws.{IsFirstComeFirstServed}
use Rattle.subject_laws.specs.Orders.{arrived_at, begun_at, done_at, numbers_of}
use Rattle.subject_laws.specs.ServerLaws.{AreServing}
use Rattle.subject_laws.specs.Stations.{IsStationAt, busy_at, waiting_at, in_service_at}
use Rattle.subject_laws.proofs.Computing.{network_run}

unfoldable pub counter : StationOver ℕ
counter = record { servers = 1; service = Fixed 5; line = 2; strict = false; next = 2 }

-- the shop, if its source makes a job every so many ticks
abbrev pub shop_every : ℕ → NetworkParts
shop_every ticks = record {
  seed = 7;
  objects = record { name = 112 ∷ []; kind = Source (record { first = 1; every = (Fixed ticks); count = 4; next = 1 }); rank = 0; quiet = false; trace = false }
      ∷ record { name = 113 ∷ []; kind = Station counter; rank = 0; quiet = false; trace = false }
      ∷ record { name = 114 ∷ []; kind = Sink (record { due = None }); rank = 0; quiet = false; trace = false }
      ∷ [];
  jobs = [];
}

unfoldable pub shop : NetworkParts
unfolding counter
shop = shop_every 2

unfoldable pub to_fifty : Terms
to_fifty = record { end = 50; limit = 100; end_in_range = lit< tt; some_event = lit≤ tt; limit_in_range = lit≤ tt }

-- a key of rank 0, and a record of one part
abbrev pub key_at : ℕ → ℕ → ℕ → ℕ → ℕ → Key
key_at time step dest src serial = record { stamp = stamp_at time step; rank = 0; dest = dest; src = src; serial = serial }

abbrev pub told_at : Key → ℕ → ℕ → ℕ → Key × Note
told_at key word a b = (key, record { word = word; a = a; b = b } ∷ [])

-- two jobs are made; the first is taken, and the second waits
four_records : first_records 4 (network_meaning shop) to_fifty ≡
    told_at (key_at 1 0 0 INITIAL 0) 2 1 3
    ∷ told_at (key_at 1 1 1 0 0) 3 1 0
    ∷ told_at (key_at 3 0 0 0 1) 2 2 2
    ∷ told_at (key_at 3 1 1 0 2) 4 2 1
    ∷ []
unfolding shop to_fifty network_run
four_records = refl

-- the third of them sent the event of the fourth, one step later
third_event : Event
third_event = record { key = key_at 3 0 0 0 1; kind = 1; a = 0; b = 0 }

second_arrival : Event
second_arrival = record { key = key_at 3 1 1 0 2; kind = 3; a = 2; b = 3 }

cause_of_fourth : IsCause (network_meaning shop) to_fifty 2 second_arrival
unfolding third_event second_arrival shop to_fifty network_run
cause_of_fourth = record {
  cause = third_event;
  happens = record {
    rest = record { key = key_at 6 0 1 1 0; kind = 2; a = 1; b = 1 } ∷ [];
    told = told_at (key_at 3 0 0 0 1) 2 2 2;
    after = after_events 3 (network_meaning shop) to_fifty;
    pending = refl;
    goes = refl;
  };
  sent = (0, lit< tt, refl);
  earlier = lit< tt;
}

-- it is pending once the third is done, and happens as the fourth
is_pending : Contains (after_events 3 (network_meaning shop) to_fifty).pending second_arrival
unfolding second_arrival shop to_fifty network_run
is_pending = (0, lit< tt, refl)

happens_fourth : Happens (network_meaning shop) to_fifty 3 second_arrival
unfolding second_arrival shop to_fifty network_run
happens_fourth = record {
  rest = _;
  told = told_at (key_at 3 1 1 0 2) 4 2 1;
  after = after_events 4 (network_meaning shop) to_fifty;
  pending = refl;
  goes = refl;
}

-- the run to tick 3 has these four records alone
to_three : Terms
to_three = record { end = 3; limit = 100; end_in_range = lit< tt; some_event = lit≤ tt; limit_in_range = lit≤ tt }

short_run : (run (network_meaning shop) to_three (initial_state (network_meaning shop))).records ≡
    told_at (key_at 1 0 0 INITIAL 0) 2 1 3
    ∷ told_at (key_at 1 1 1 0 0) 3 1 0
    ∷ told_at (key_at 3 0 0 0 1) 2 2 2
    ∷ told_at (key_at 3 1 1 0 2) 4 2 1
    ∷ []
unfolding to_three shop to_fifty network_run
short_run = refl

-- that event is the second job, which goes to the counter at the next step
second_goes_on : GoesOn (object_at shop.objects 0).kind (told_at (key_at 3 0 0 0 1) 2 2 2)
    (draws_next (plain_meaning shop) (object_at shop.objects 0).kind 0 (after_events 2 (plain_meaning shop) to_fifty) (next (plain_meaning shop) to_fifty (after_events 2 (plain_meaning shop) to_fifty)))
    second_arrival
unfolding second_arrival shop to_fifty network_run
second_goes_on = record { job = refl; way = (0, lit< tt, refl); chosen = λ router. absurd (cc); time = refl }

-- and what it sends besides, the source's next turn, comes to the source
next_turn : Event
next_turn = record { key = key_at 5 0 0 0 3; kind = 1; a = 0; b = 0 }

turns_again : Contains (sent_next (plain_meaning shop) (after_events 2 (plain_meaning shop) to_fifty)) next_turn
unfolding next_turn shop to_fifty network_run
turns_again = (1, lit< tt, refl)

-- by then four events have happened and two are pending: the initial one, and five that were sent
events_seen : ◌≡◌ {A = ℕ × ℕ × ℕ × ℕ} (
  length (happened 4 (network_meaning shop) to_fifty),
  length (after_events 4 (network_meaning shop) to_fifty).pending,
  length (initial_events (network_meaning shop)),
  length (all_sent 4 (network_meaning shop) to_fifty),
)
    (4, 2, 1, 5)
unfolding shop to_fifty network_run
events_seen = refl

-- six events are done: three jobs were made; the first is served, the others wait
pub three_here : State
three_here = after_events 6 (network_meaning shop) to_fifty

three_here_reached : Reaches (network_meaning shop) to_fifty three_here
unfolding three_here
three_here_reached = (6, refl)

is_counter : IsStationAt shop 1 counter
unfolding shop
is_counter = refl

who_waits : ◌≡◌ {A = ℕ × List ℕ × List ℕ} (busy_at three_here 1, waiting_at three_here 1, map (λ e. e.a) (in_service_at three_here 1)) (1, 2 ∷ 3 ∷ [], 1 ∷ [])
unfolding three_here shop to_fifty network_run
who_waits = refl

-- so the law of servers says of the counter what can be seen
servers_there : AreServing three_here 1 counter
unfolding three_here shop to_fifty network_run
servers_there = record { no_more = lit≤ tt; under_way = refl; none_idle = λ waiting. refl; line = lit≤ tt }

-- after eleven events all four jobs came in; three services began, and two of them have ended
eleven : State
eleven = after_events 11 (network_meaning shop) to_fifty

in_turn : ◌≡◌ {A = List ℕ × List ℕ × List ℕ × List ℕ × List ℕ}
    (arrived_at shop to_fifty 1 11, begun_at shop to_fifty 1 11, done_at shop to_fifty 1 11, waiting_at eleven 1, numbers_of (in_service_at eleven 1))
    (1 ∷ 2 ∷ 3 ∷ 4 ∷ [], 1 ∷ 2 ∷ 3 ∷ [], 1 ∷ 2 ∷ [], 4 ∷ [], 3 ∷ [])
unfolding eleven shop to_fifty network_run
in_turn = refl

served_in_turn : IsFirstComeFirstServed shop to_fifty 1 counter 11 eleven
unfolding eleven shop to_fifty network_run
served_in_turn = record { begun = refl; done = λ one. refl }
