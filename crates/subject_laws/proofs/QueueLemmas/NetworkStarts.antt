-- Where a network begins.
use Rattle.std.proofs.Common.{◌≡◌, ℕ, zero, suc, ◌+◌, ◌-◌, ◌<◌, ◌≤◌, Bool, true, false, [], length, map, refl, ap, ◌∙◌, subst, arith, ltb, ltb-true, ltb-false}
use Rattle.std.specs.Prelude.{sum_by, nat_lt, slice_index, if◌then◌else◌}
use Rattle.std.specs.List.{range_with_len}
use Rattle.std.proofs.lemmas.List.{get_or_past}
use Rattle.std.proofs.lemmas.List.FromFn.{get_or-map-range_with_len}
use Rattle.std.proofs.lemmas.List.Sums.{sum_by-cons}
use Rattle.model_core.specs.declared.event.Event.{Event}
use Rattle.model_core.specs.Meaning.{Meaning}
use Rattle.sim_spec.specs.Firing.{ObjectState}
use Rattle.sim_spec.specs.State.{initial_state, start_event, event_of_start, first_object, no_object as no_state}
use Rattle.queue_models.specs.declared.kind.KindOver.TheVariants.{Station}
use Rattle.queue_models.specs.declared.station.Station.{Station as StationOver}
use Rattle.queue_models.specs.Meaning.{plain_meaning, network_meaning, source_start, job_start, start_of}
use Rattle.queue_models.specs.Kinds.{first_cells_of, is_source}
use Rattle.queue_models.specs.Objects.{Item, NetworkParts, object_at, no_object, source_numbers}
use Rattle.queue_models.specs.Stations.{first_station_cells}
use Rattle.run_laws.proofs.EnqueueSums.{sum_by-enqueue_all}
use Rattle.subject_laws.specs.Stations.{IsStationAt, cells_at}

-- a number without an object is a sink's
exists_as : (p : NetworkParts) (i : ℕ) (P : Item → Type 0) → P (object_at p.objects i) → (P no_object → ⊥) → i < length p.objects
exists_as p i P is no_sink = by (ltb i (length p.objects)) refl
  where
    by : (inside : Bool) → ltb i (length p.objects) ≡ inside → i < length p.objects
    by true inside = ltb-true i (length p.objects) inside
    by false inside = absurd (
        let none : object_at p.objects i ≡ no_object = get_or_past p.objects i no_object (ltb-false i (length p.objects) inside) in
        no_sink (subst P none is)
        )

pub station_exists : (p : NetworkParts) (i : ℕ) (station : StationOver ℕ) → IsStationAt p i station → i < length p.objects
station_exists p i station is = exists_as p i (λ o. o.kind ≡ Station station) is (λ sink. cc)

pub source_exists : (p : NetworkParts) (i : ℕ) → is_source (object_at p.objects i).kind ≡ true → i < length p.objects
source_exists p i is = exists_as p i (λ o. is_source o.kind ≡ true) is (λ sink. cc)

pub cells_at_start : (p : NetworkParts) (i : ℕ) → i < length p.objects → cells_at (initial_state (plain_meaning p)) i ≡ first_cells_of (object_at p.objects i).kind
unfolding initial_state plain_meaning network_meaning
cells_at_start p i exists =
    ap (λ (o : ObjectState). o.cells) (get_or-map-range_with_len (first_object (plain_meaning p)) 0 (length p.objects) i i no_state exists (omega arith))

pub station_at_start : (p : NetworkParts) (i : ℕ) (station : StationOver ℕ) → IsStationAt p i station → cells_at (initial_state (plain_meaning p)) i ≡ first_station_cells
station_at_start p i station is = cells_at_start p i (station_exists p i station is) ∙ ap first_cells_of is

-- an initial event makes the first job of a source, or is the arrival of a job
pub start_cases : (P : Event → Type 0) (p : NetworkParts) (k : ℕ)
    → (k < length (source_numbers p.objects) → P (event_of_start k (source_start p (slice_index (source_numbers p.objects) k))))
    → (length (source_numbers p.objects) ≤ k → P (event_of_start k (job_start p (k - length (source_numbers p.objects)))))
    → P (start_event (plain_meaning p) k)
unfolding plain_meaning network_meaning start_of
start_cases P p k source job = by (nat_lt k (length (source_numbers p.objects))) refl
  where
    by : (early : Bool) → nat_lt k (length (source_numbers p.objects)) ≡ early
        → P (event_of_start k (if early then source_start p (slice_index (source_numbers p.objects) k) else job_start p (k - length (source_numbers p.objects))))
    by true early = source (ltb-true k _ early)
    by false early = job (ltb-false k _ early)

-- a sum over what is pending at the start
pub sum_at_start : (f : Event → ℕ) (m : Meaning) → sum_by f (initial_state m).pending ≡ sum_by f (map (start_event m) (range_with_len 0 m.starts))
unfolding initial_state
sum_at_start f m = omega (arith, sum_by-enqueue_all f (map (start_event m) (range_with_len 0 m.starts)) [])

-- what has no weight alone has none together
pub starts_none : (f : Event → ℕ) (m : Meaning) (a n : ℕ) → ((k : ℕ) → f (start_event m k) ≡ 0) → sum_by f (map (start_event m) (range_with_len a n)) ≡ 0
starts_none f m a zero none = refl
starts_none f m a (suc n) none =
    omega (arith, sum_by-cons f (start_event m a) (map (start_event m) (range_with_len (a + 1) n)), none a, starts_none f m (a + 1) n none)
