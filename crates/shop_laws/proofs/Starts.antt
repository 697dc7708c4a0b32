-- At the start no job is anywhere.
use Rattle.std.proofs.Common.{◌≢◌, ℕ, zero, suc, ◌+◌, ◌<◌, Bool, true, false, List, [], ◌∷◌, length, map, arith}
use Rattle.std.specs.Prelude.{All, if◌then◌else◌, nat_le, slice_index_or, Option, None, Some}
use Rattle.std.specs.List.{range_with_len, AllByRecursion as Each}
use Rattle.std.proofs.lemmas.List.Elements.{All-append, All-nil, All-cons, All-map}
use Rattle.key_order.proofs.EnqueueLemmas.{Each-enqueue_all}
use Rattle.model_core.specs.declared.event.Event.{Event}
use Rattle.model_core.specs.declared.event.Start.{Start}
use Rattle.model_core.specs.Meaning.{Meaning}
use Rattle.random_streams.specs.declared.delay_law.DelayLaw.{DelayLaw}
use Rattle.sim_spec.specs.State.{initial_state, start_event}
use Rattle.shop_model.specs.declared.class.Class.{Class}
use Rattle.shop_model.specs.declared.kinds.TheConstants.{MAKE, COME, DONE, CALL, SHIFT, MEND}
use Rattle.shop_model.specs.declared.station.Breakdowns.{Breakdowns}
use Rattle.shop_model.specs.declared.station.Shift.{Shift}
use Rattle.shop_model.specs.Meaning.{shop_meaning}
use Rattle.shop_model.specs.Routes.{no_class}
use Rattle.shop_model.specs.ShopParts.{ShopParts, station_at}
use Rattle.shop_model.specs.StartLaws.{All-starts_of}
use Rattle.shop_model.specs.Starts.{start_at, first_shift, first_work, first_arrival, class_starts}

-- no job comes by it, no service ends, and none is called
abbrev NoJob : Start → Type 0
NoJob start = (start.kind ≢ COME) × (start.kind ≢ DONE) × (start.kind ≢ CALL)

shift_starts : (object : ℕ) (shifts : List Shift) → All NoJob (first_shift object shifts)
shift_starts object [] = All-nil NoJob
shift_starts object (shift ∷ rest) = All-cons NoJob (start_at object shift.at SHIFT 0) [] ((λ e. absurd (omega arith)), (λ e. absurd (omega arith)), (λ e. absurd (omega arith))) (All-nil NoJob)

work_starts : (object : ℕ) (breakdowns : Option Breakdowns) → All NoJob (first_work object breakdowns)
work_starts object None = All-nil NoJob
work_starts object (Some breakdowns) = All-cons NoJob (start_at object 0 MEND 0) [] ((λ e. absurd (omega arith)), (λ e. absurd (omega arith)), (λ e. absurd (omega arith))) (All-nil NoJob)

arrival_starts : (object : ℕ) (every : Option DelayLaw) (first until : ℕ) → All NoJob (first_arrival object every first until)
arrival_starts object None first until = All-nil NoJob
arrival_starts object (Some every) first until = by (nat_le first until)
  where
    by : (early : Bool) → All NoJob (if early then start_at object first MAKE 1 ∷ [] else [])
    by true = All-cons NoJob (start_at object first MAKE 1) [] ((λ e. absurd (omega arith)), (λ e. absurd (omega arith)), (λ e. absurd (omega arith))) (All-nil NoJob)
    by false = All-nil NoJob

class_no_job : (object : ℕ) (class : Class) → All NoJob (class_starts object class)
class_no_job object class =
    All-append NoJob (first_arrival object class.every class.first class.until) (map (λ time. start_at object time MAKE 0) class.times)
    (arrival_starts object class.every class.first class.until)
    (All-map NoJob (λ time. start_at object time MAKE 0) class.times (λ k d within. ((λ e. absurd (omega arith)), (λ e. absurd (omega arith)), (λ e. absurd (omega arith)))))

start_no_job : (p : ShopParts) (k : ℕ) → k < (shop_meaning p).starts → ((start_event (shop_meaning p) k).kind ≢ COME) × ((start_event (shop_meaning p) k).kind ≢ DONE)
    × ((start_event (shop_meaning p) k).kind ≢ CALL)
unfolding shop_meaning
start_no_job p k below =
    All-starts_of NoJob p.stations p.classes
    (λ object there. All-append NoJob (first_shift object (station_at p.stations object).shifts) (first_work object (station_at p.stations object).breakdowns)
    (shift_starts object (station_at p.stations object).shifts) (work_starts object (station_at p.stations object).breakdowns))
    (λ n there. class_no_job (length p.stations + n) (slice_index_or p.classes n no_class))
    k (start_at 0 0 0 0) below

each_start : (m : Meaning) (P : Event → Type 0) (a n : ℕ) → ((k : ℕ) → k < a + n → P (start_event m k)) → Each P (map (start_event m) (range_with_len a n))
each_start m P a zero all = tt
each_start m P a (suc n) all = (all a (omega arith), each_start m P (a + 1) n (λ k below. all k (omega arith)))

-- what holds of each event that is no job's and no call holds of all that is pending
pub pending_first : (p : ShopParts) (P : Event → Type 0) → ((e : Event) → e.kind ≢ COME → e.kind ≢ DONE → e.kind ≢ CALL → P e)
    → Each P (initial_state (shop_meaning p)).pending
unfolding initial_state
pending_first p P gives =
    let m : Meaning = shop_meaning p in
    Each-enqueue_all P (map (start_event m) (range_with_len 0 m.starts)) []
    (each_start m P 0 m.starts (λ k below. let no = start_no_job p k (omega arith) in gives (start_event m k) no.0 no.1 no.2)) tt

pub pending_start : (p : ShopParts) (P : Event → Type 0) → ((e : Event) → e.kind ≢ COME → e.kind ≢ DONE → P e) → Each P (initial_state (shop_meaning p)).pending
pending_start p P gives = pending_first p P (λ e no_come no_done no_call. gives e no_come no_done)
