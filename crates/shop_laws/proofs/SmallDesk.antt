-- A desk with one server, computed: three callers come at ticks 0, 1 and 2, each is served for four ticks, and who has waited
-- for three goes away. Who leaves older than three ticks is late.
use Rattle.std.proofs.Common.{lit<, lit≤, ◌≡◌, ℕ, refl, List, [], ◌∷◌, map}
use Rattle.std.specs.Prelude.{None, Some}
use Rattle.event_key.specs.declared.key.Key.{Key}
use Rattle.event_key.specs.Keys.{key_lt, key_cmp, same_key}
use Rattle.event_key.specs.Stamps.{stamp_at, time_part, next_stamp, has_no_step}
use Rattle.delta_exchange.specs.Changes.{line_of, cells_after_all, inverses_of, flipped}
use Rattle.key_order.specs.Pending.{enqueue, enqueue_all}
use Rattle.model_core.specs.declared.event.Event.{Event}
use Rattle.model_core.specs.declared.note.Note.{Note}
use Rattle.model_core.specs.Places.{place_changes}
use Rattle.random_streams.specs.declared.delay_law.DelayLaw.TheVariants.{Plain}
use Rattle.random_streams.specs.declared.law.Law.TheVariants.{Fixed}
use Rattle.random_streams.specs.Delays.{draw_delay, delay_drawn, delay_words}
use Rattle.random_streams.specs.Laws.{drawn_value, words_read}
use Rattle.run_laws.specs.Reached.{left_by, after_events, gathered}
use Rattle.sim_spec.specs.declared.terms.Terms.{Terms}
use Rattle.sim_spec.specs.Firing.{has_endless_chain, emissions, fired_by, fire}
use Rattle.sim_spec.specs.State.{State, initial_state}
use Rattle.sim_spec.specs.Run.{does, next, next_of, next_fired}
use Rattle.shop_model.specs.declared.class.Class.{Class}
use Rattle.shop_model.specs.declared.station.Order.TheVariants.{First}
use Rattle.shop_model.specs.declared.station.Station.{Station}
use Rattle.shop_model.specs.declared.step.Step.TheVariants.{Visit}
use Rattle.shop_model.specs.Beginnings.{begin_changes, begin_sent, counts_begun}
use Rattle.shop_model.specs.Classes.{jobs_inside, arrival_of, one_made, make_effect, stay_effect, go_effect, leave_effect}
use Rattle.shop_model.specs.Kinds.{rank_of}
use Rattle.shop_model.specs.Meaning.{job_here, station_effect, class_effect, effect_at, first_at, shop_meaning}
use Rattle.shop_model.specs.Routes.{is_job, job_of, object_at, visit_at, moved}
use Rattle.shop_model.specs.ShopParts.{ShopParts}
use Rattle.shop_model.specs.Starts.{starts_at, starts_below}
use Rattle.shop_model.specs.StationEffects.{free_effect, take_effect, wait_effect, lose_effect, arrive_effect, first_level, begin_effect, pass_effect, entry_effect, call_effect, end_effect, done_effect, renege_effect, tires, tire_effect, shift_sent, shift_effect, still_effect, works_effect}
use Rattle.shop_model.specs.Stations.{counts_of, spare_of, call_sent, first_station_cells}
use Rattle.shop_totals.specs.Flows.{flow_of}
use Rattle.shop_totals.specs.Kept.{number_after, ticks_of}
use Rattle.shop_totals.specs.Records.{told_at}
use Rattle.shop_totals.specs.Sums.{after_busy, after_waiting, after_inside}
use Rattle.shop_laws.specs.AgeLaws.{ages_told, age_by}
use Rattle.shop_laws.specs.FlowLaws.{told_of}
use Rattle.shop_laws.specs.Places.{in_shop, made_jobs, gone_jobs, this_job}
use Rattle.shop_laws.specs.ServerLaws.{free_at, busy_at}
use Rattle.shop_laws.specs.TimeLaws.{waits_so_far, waits_told, begin_ticks, end_ticks}
use Rattle.shop_laws.specs.Told.{cells_at}
use Rattle.shop_laws.specs.Waiting.{sum_waiting}

unfoldable pub desk : Station
desk = record { name = 100 ∷ []; servers = 1; most = 1; line = 10; order = First; levels = 1; shifts = []; period = None; breakdowns = None }

unfoldable pub callers : Class
callers = record {
  name = 99 ∷ [];
  every = None;
  first = 0;
  until = 0;
  times = 0 ∷ 1 ∷ 2 ∷ [];
  batch = None;
  count = 9;
  priority = 0;
  due = Some 3;
  route = Visit (record { station = 0; service = Some (Plain (Fixed 4)); patience = Some (Plain (Fixed 3)); away = 2; full = 2 }) ∷ [];
}

unfoldable pub shop : ShopParts
unfolding desk callers
shop = record { seed = 7; stations = desk ∷ []; classes = callers ∷ [] }

unfoldable pub to_fifty : Terms
to_fifty = record { end = 50; limit = 100; end_in_range = lit< tt; some_event = lit≤ tt; limit_in_range = lit≤ tt }

-- what the run computes with
unfoldable pub desk_run : Unit {0}
unfolding key_lt key_cmp same_key next_stamp has_no_step cells_after_all inverses_of flipped enqueue enqueue_all place_changes
    draw_delay delay_drawn delay_words drawn_value words_read
    has_endless_chain emissions fired_by fire initial_state next next_of next_fired left_by after_events gathered
    shop_meaning effect_at first_at job_here station_effect class_effect is_job job_of object_at visit_at moved rank_of starts_at starts_below
    first_station_cells spare_of call_sent begin_changes begin_sent counts_begun
    free_effect take_effect wait_effect lose_effect arrive_effect first_level begin_effect pass_effect entry_effect call_effect end_effect done_effect
    renege_effect tires tire_effect shift_sent shift_effect still_effect works_effect
    arrival_of one_made make_effect stay_effect go_effect leave_effect
    told_at flow_of number_after ticks_of sum_waiting
desk_run = tt

-- six events are done: the first caller is served, and two wait
six : State
six = after_events 6 (shop_meaning shop) to_fifty

servers_seen : ◌≡◌ {A = List ℕ × ℕ × ℕ} (free_at six 0, busy_at six 0 desk, (counts_of (cells_at six 0)).waiting) ([], 1, 2)
unfolding six shop desk callers to_fifty desk_run
servers_seen = refl

-- ten events are done: one has left, one went away, and one waits, who was made at tick 2
ten : State
ten = after_events 10 (shop_meaning shop) to_fifty

jobs_seen : ◌≡◌ {A = List (ℕ × ℕ) × List (ℕ × ℕ) × ℕ × ℕ}
    (made_jobs shop to_fifty 10, gone_jobs shop to_fifty 10, in_shop shop (this_job 3 2) ten, jobs_inside (cells_at ten 1))
    ((1, 0) ∷ (2, 1) ∷ (3, 2) ∷ [], (1, 0) ∷ (2, 1) ∷ [], 1, 1)
unfolding ten shop desk callers to_fifty desk_run
jobs_seen = refl

-- three came, one began and was done, and one reneged
flow_seen : flow_of (told_of shop to_fifty 10 0) ≡ record { came = 3; begun = 1; done = 1; lost = 0; reneged = 1 }
unfolding shop desk callers to_fifty desk_run
flow_seen = refl

numbers_seen : ◌≡◌ {A = ℕ × ℕ} (number_after after_busy 0 (told_of shop to_fifty 6 0), number_after after_waiting 0 (told_of shop to_fifty 6 0)) (1, 2)
unfolding shop desk callers to_fifty desk_run
numbers_seen = refl

-- the ninth event tells that the first caller leaves at the age of four, one tick late
ninth : Key × Note
ninth = (
  record { stamp = stamp_at 4 1; rank = 8; dest = 1; src = 0; serial = 3 },
  record { word = 9; a = 1; b = 4 } ∷ record { word = 15; a = 1; b = 1 } ∷ [],
)

late_seen : next (shop_meaning shop) to_fifty (after_events 8 (shop_meaning shop) to_fifty) ≡ does ninth (after_events 9 (shop_meaning shop) to_fifty)
unfolding ninth shop desk callers to_fifty desk_run
late_seen = refl

-- by tick 5 after ten events the second caller has waited for three ticks, as is told, and the third for three, so far; and
-- the server was busy for four
waits_seen : ◌≡◌ {A = ℕ × ℕ × ℕ × ℕ} (
  ticks_of after_waiting 0 0 (told_of shop to_fifty 10 0) 5,
  waits_told (told_of shop to_fifty 10 0),
  waits_so_far desk (cells_at ten 0) 5,
  ticks_of after_busy 0 0 (told_of shop to_fifty 10 0) 5,
)
    (6, 3, 3, 4)
unfolding ten shop desk callers to_fifty desk_run
waits_seen = refl

-- the jobs that went were four and three ticks old, as is told, and the third is three ticks old by tick 5
ages_seen : ◌≡◌ {A = ℕ × ℕ × ℕ} (
  ticks_of after_inside 0 0 (told_of shop to_fifty 10 1) 5,
  ages_told (told_of shop to_fifty 10 1),
  in_shop shop (age_by 0 5) ten,
)
    (10, 7, 3)
unfolding ten shop desk callers to_fifty desk_run
ages_seen = refl

-- it was begun with at tick 0, and done with at tick 4
work_seen : ◌≡◌ {A = ℕ × ℕ} (begin_ticks (told_of shop to_fifty 10 0), end_ticks (told_of shop to_fifty 10 0)) (0, 4)
unfolding shop desk callers to_fifty desk_run
work_seen = refl

-- then one waits, the server is spare, and a call is pending, at the tick of the last event
idle_seen : ◌≡◌ {A = ℕ × ℕ × List (ℕ × ℕ)} (
  (counts_of (cells_at ten 0)).waiting,
  spare_of 1 (counts_of (cells_at ten 0)),
  map (λ (e : Event). (e.kind, time_part e.key.stamp)) ten.pending,
)
    (1, 1, (4, 4) ∷ (5, 5) ∷ [])
unfolding ten shop desk callers to_fifty desk_run
idle_seen = refl

-- before it who went away left an empty place, and behind that stands the third caller, who joined a tick later
line_seen : ◌≡◌ {A = List ℕ × List ℕ} (line_of (cells_at ten 0) 1, line_of (cells_at ten 0) 3) (18446744073709551613 ∷ 3 ∷ [], 1 ∷ 2 ∷ [])
unfolding ten shop desk callers to_fifty desk_run
line_seen = refl

-- the call passes that place, and the next one, the twelfth event, is the third caller's, who has waited for two ticks
twelfth : Key × Note
twelfth = (record { stamp = stamp_at 4 2; rank = 16; dest = 0; src = 0; serial = 6 }, record { word = 16; a = 3; b = 2 } ∷ [])

call_seen : next (shop_meaning shop) to_fifty (after_events 11 (shop_meaning shop) to_fifty) ≡ does twelfth (after_events 12 (shop_meaning shop) to_fifty)
unfolding twelfth shop desk callers to_fifty desk_run
call_seen = refl
