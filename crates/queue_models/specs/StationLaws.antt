-- A station keeps the laws of models.
use Rattle.std.proofs.Common.{◌≡◌, ℕ, ◌+◌, ◌-◌, ◌<◌, ◌≤◌, ◌^◌, Bool, true, false, refl, List, [], ◌∷◌, ◌++◌, length, length-append, arith}
use Rattle.std.specs.Prelude.{IsTrue, if◌then◌else◌, ◌==◌, nat_lt}
use Rattle.std.proofs.lemmas.Bool.Decides.{nat_tests}
use Rattle.delta_exchange.specs.declared.change.Change.TheVariants.{Set, Push, Pop}
use Rattle.delta_exchange.specs.Changes.{CellData, AllFit, cells_after_all}
use Rattle.model_core.specs.declared.effect.Outcome.TheVariants.{Goes, Fails}
use Rattle.model_core.specs.declared.event.Event.{Event}
use Rattle.random_streams.proofs.Bounds.{draw-le, is_drawable-delay}
use Rattle.queue_models.specs.declared.site.Site.{Site}
use Rattle.queue_models.specs.declared.station.Station.{Station}
use Rattle.model_core.specs.Places.{place_changes, place_cases}
use Rattle.queue_models.specs.Sites.{place_of, drawn_at}
use Rattle.queue_models.specs.Stations.{busy_servers, waiting_jobs, is_station_cells, take_effect, wait_effect, lose_effect, arrival_outcome, serve_effect, free_effect, done_effect, station_effect, IsStation}
use Rattle.queue_models.specs.Objects.{Item}
use Rattle.queue_models.specs.Parts.{IsLink}
use Rattle.queue_models.specs.Keeping.{Keeps, EffectKeeps, OutcomeKeeps, IsSite, two_elements}

-- a station's cells: its place, how many servers are busy, and who waits
abbrev pub station_cells : ℕ → ℕ → List ℕ → List ℕ → CellData
station_cells place busy jobs births = record { words = place ∷ busy ∷ []; lines = jobs ∷ births ∷ [] }

-- what holds of all such cells holds of all lawful ones
cells_cases : (P : CellData → Type 0) (station : Station ℕ) (cells : CellData) → IsTrue (is_station_cells station.servers station.line cells)
    → ((place busy : ℕ) (jobs births : List ℕ) → P (station_cells place busy jobs births)) → P cells
cells_cases P station cells lawful h =
    two_elements (λ words. P (record { words = words; lines = cells.lines })) cells.words (grind (arith, nat_tests))
    (λ place busy. two_elements (λ lines. P (record { words = place ∷ busy ∷ []; lines = lines })) cells.lines (grind (arith, nat_tests))
    (λ jobs births. h place busy jobs births))

take_changes : (station : Station ℕ) (next : ℕ) (cells : CellData) → IsTrue (is_station_cells station.servers station.line cells) → busy_servers cells < station.servers
    → Keeps (is_station_cells station.servers station.line) (place_changes (place_of cells) next ++ Set 1 (busy_servers cells + 1) ∷ []) cells
unfolding AllFit cells_after_all
take_changes station next cells lawful = cells_cases
    (λ cells. IsTrue (is_station_cells station.servers station.line cells) → busy_servers cells < station.servers
    → Keeps (is_station_cells station.servers station.line) (place_changes (place_of cells) next ++ Set 1 (busy_servers cells + 1) ∷ []) cells)
    station cells lawful by lawful
  where
    by : (place busy : ℕ) (jobs births : List ℕ) → IsTrue (is_station_cells station.servers station.line (station_cells place busy jobs births)) → busy < station.servers
        → Keeps (is_station_cells station.servers station.line) (place_changes place next ++ Set 1 (busy + 1) ∷ []) (station_cells place busy jobs births)
    by place busy jobs births lawful free =
        let after : IsTrue (is_station_cells station.servers station.line (station_cells place (busy + 1) jobs births)) = grind (arith, nat_tests) in
        place_cases
        (λ changes. Keeps (is_station_cells station.servers station.line) (changes ++ Set 1 (busy + 1) ∷ []) (station_cells place busy jobs births)) place next
        (record { few = omega arith; fits = (omega arith, tt); after = after })
        (record { few = omega arith; fits = (omega arith, (omega arith, tt)); after = after })

wait_changes : (station : Station ℕ) (job birth : ℕ) (cells : CellData) → IsTrue (is_station_cells station.servers station.line cells) → waiting_jobs cells < station.line
    → Keeps (is_station_cells station.servers station.line) (Push 0 job ∷ Push 1 birth ∷ []) cells
unfolding AllFit cells_after_all
wait_changes station job birth cells lawful = cells_cases
    (λ cells. IsTrue (is_station_cells station.servers station.line cells) → waiting_jobs cells < station.line
    → Keeps (is_station_cells station.servers station.line) (Push 0 job ∷ Push 1 birth ∷ []) cells)
    station cells lawful by lawful
  where
    by : (place busy : ℕ) (jobs births : List ℕ) → IsTrue (is_station_cells station.servers station.line (station_cells place busy jobs births)) → length jobs < station.line
        → Keeps (is_station_cells station.servers station.line) (Push 0 job ∷ Push 1 birth ∷ []) (station_cells place busy jobs births)
    by place busy jobs births lawful room =
        let after : IsTrue (is_station_cells station.servers station.line (station_cells place busy (jobs ++ job ∷ []) (births ++ birth ∷ []))) =
        grind (arith, nat_tests, length-append jobs (job ∷ []), length-append births (birth ∷ [])) in
        record { few = omega arith; fits = (omega arith, (omega arith, tt)); after = after }

serve_changes : (station : Station ℕ) (next : ℕ) (cells : CellData) → IsTrue (is_station_cells station.servers station.line cells) → 0 < waiting_jobs cells
    → Keeps (is_station_cells station.servers station.line) (place_changes (place_of cells) next ++ Pop 0 ∷ Pop 1 ∷ []) cells
unfolding AllFit cells_after_all
serve_changes station next cells lawful = cells_cases
    (λ cells. IsTrue (is_station_cells station.servers station.line cells) → 0 < waiting_jobs cells
    → Keeps (is_station_cells station.servers station.line) (place_changes (place_of cells) next ++ Pop 0 ∷ Pop 1 ∷ []) cells)
    station cells lawful by lawful
  where
    by : (place busy : ℕ) (jobs births : List ℕ) → IsTrue (is_station_cells station.servers station.line (station_cells place busy jobs births)) → 0 < length jobs
        → Keeps (is_station_cells station.servers station.line) (place_changes place next ++ Pop 0 ∷ Pop 1 ∷ []) (station_cells place busy jobs births)
    by place busy [] births lawful some = absurd (omega arith)
    by place busy (job ∷ jobs) [] lawful some = absurd (grind (arith, nat_tests))
    by place busy (job ∷ jobs) (birth ∷ births) lawful some =
        let after : IsTrue (is_station_cells station.servers station.line (station_cells place busy jobs births)) = grind (arith, nat_tests) in
        place_cases
        (λ changes. Keeps (is_station_cells station.servers station.line) (changes ++ Pop 0 ∷ Pop 1 ∷ []) (station_cells place busy (job ∷ jobs) (birth ∷ births))) place next
        (record { few = omega arith; fits = ((omega arith, omega arith), ((omega arith, omega arith), tt)); after = after })
        (record { few = omega arith; fits = (omega arith, ((omega arith, omega arith), ((omega arith, omega arith), tt))); after = after })

free_changes : (station : Station ℕ) (cells : CellData) → IsTrue (is_station_cells station.servers station.line cells)
    → Keeps (is_station_cells station.servers station.line) (if busy_servers cells == 0 then [] else Set 1 (busy_servers cells - 1) ∷ []) cells
unfolding AllFit cells_after_all
free_changes station cells lawful = cells_cases
    (λ cells. IsTrue (is_station_cells station.servers station.line cells)
    → Keeps (is_station_cells station.servers station.line) (if busy_servers cells == 0 then [] else Set 1 (busy_servers cells - 1) ∷ []) cells)
    station cells lawful by lawful
  where
    by : (place busy : ℕ) (jobs births : List ℕ) → IsTrue (is_station_cells station.servers station.line (station_cells place busy jobs births))
        → Keeps (is_station_cells station.servers station.line) (if busy == 0 then [] else Set 1 (busy - 1) ∷ []) (station_cells place busy jobs births)
    by place busy jobs births lawful = by_none (busy == 0)
      where
        after : IsTrue (is_station_cells station.servers station.line (station_cells place (busy - 1) jobs births))
        after = grind (arith, nat_tests)

        by_none : (none : Bool) → Keeps (is_station_cells station.servers station.line) (if none then [] else Set 1 (busy - 1) ∷ []) (station_cells place busy jobs births)
        by_none true = record { few = omega arith; fits = tt; after = lawful }
        by_none false = record { few = omega arith; fits = (omega arith, tt); after = after }

service_delay : (objects : List Item) (site : Site) (station : Station ℕ) (cells : CellData) → IsStation station → (drawn_at site cells station.service).0 ≤ 2 ^ 40
service_delay objects site station cells fine = draw-le site.seed site.object (place_of cells) station.service (is_drawable-delay station.service fine.law)

take_keeps : (objects : List Item) (site : Site) (station : Station ℕ) (cells : CellData) (event : Event) → IsStation station → IsSite (length objects) site
    → IsTrue (is_station_cells station.servers station.line cells) → busy_servers cells < station.servers
    → EffectKeeps (length objects) (is_station_cells station.servers station.line) cells (take_effect site station cells event)
unfolding take_effect
take_keeps objects site station cells event fine here lawful free = record {
  changes = take_changes station (drawn_at site cells station.service).1 cells lawful free;
  few_sends = omega arith;
  one_part = refl;
  sends = (here.object, service_delay objects site station cells fine, here.rank, tt);
}

wait_keeps : (objects : List Item) (station : Station ℕ) (cells : CellData) (event : Event) → IsTrue (is_station_cells station.servers station.line cells) → waiting_jobs cells < station.line
    → EffectKeeps (length objects) (is_station_cells station.servers station.line) cells (wait_effect cells event)
unfolding wait_effect
wait_keeps objects station cells event lawful room =
    record { changes = wait_changes station event.a event.b cells lawful room; few_sends = omega arith; one_part = refl; sends = tt }

lose_keeps : (objects : List Item) (station : Station ℕ) (cells : CellData) (event : Event) → IsTrue (is_station_cells station.servers station.line cells)
    → EffectKeeps (length objects) (is_station_cells station.servers station.line) cells (lose_effect cells event)
unfolding lose_effect AllFit cells_after_all
lose_keeps objects station cells event lawful =
    record { changes = record { few = omega arith; fits = tt; after = lawful }; few_sends = omega arith; one_part = refl; sends = tt }

serve_keeps : (objects : List Item) (site : Site) (station : Station ℕ) (cells : CellData) (event : Event) → IsStation station → IsLink objects station.next → IsSite (length objects) site
    → IsTrue (is_station_cells station.servers station.line cells) → 0 < waiting_jobs cells
    → EffectKeeps (length objects) (is_station_cells station.servers station.line) cells (serve_effect site station cells event)
unfolding serve_effect
serve_keeps objects site station cells event fine link here lawful some = record {
  changes = serve_changes station (drawn_at site cells station.service).1 cells lawful some;
  few_sends = omega arith;
  one_part = refl;
  sends = (link.exists, omega arith, here.rank, (here.object, service_delay objects site station cells fine, here.rank, tt));
}

free_keeps : (objects : List Item) (site : Site) (station : Station ℕ) (cells : CellData) (event : Event) → IsStation station → IsLink objects station.next → IsSite (length objects) site
    → IsTrue (is_station_cells station.servers station.line cells) → EffectKeeps (length objects) (is_station_cells station.servers station.line) cells (free_effect site station cells event)
unfolding free_effect
free_keeps objects site station cells event fine link here lawful =
    record { changes = free_changes station cells lawful; few_sends = omega arith; one_part = refl; sends = (link.exists, omega arith, here.rank, tt) }

arrival_keeps : (objects : List Item) (site : Site) (station : Station ℕ) (cells : CellData) (event : Event) → IsStation station → IsSite (length objects) site
    → IsTrue (is_station_cells station.servers station.line cells) → OutcomeKeeps (length objects) (is_station_cells station.servers station.line) cells (arrival_outcome site station cells event)
unfolding arrival_outcome
arrival_keeps objects site station cells event fine here lawful =
    by (nat_lt (busy_servers cells) station.servers) (nat_lt (waiting_jobs cells) station.line) station.strict refl refl
  where
    by : (free room strict : Bool) → nat_lt (busy_servers cells) station.servers ≡ free → nat_lt (waiting_jobs cells) station.line ≡ room
        → OutcomeKeeps (length objects) (is_station_cells station.servers station.line) cells
        (if free then Goes (take_effect site station cells event)
        else if room then Goes (wait_effect cells event) else if strict then Fails 2 else Goes (lose_effect cells event))
    by true room strict free_is room_is = take_keeps objects site station cells event fine here lawful (grind (arith, nat_tests))
    by false true strict free_is room_is = wait_keeps objects station cells event lawful (grind (arith, nat_tests))
    by false false true free_is room_is = omega arith
    by false false false free_is room_is = lose_keeps objects station cells event lawful

done_keeps : (objects : List Item) (site : Site) (station : Station ℕ) (cells : CellData) (event : Event) → IsStation station → IsLink objects station.next → IsSite (length objects) site
    → IsTrue (is_station_cells station.servers station.line cells) → EffectKeeps (length objects) (is_station_cells station.servers station.line) cells (done_effect site station cells event)
unfolding done_effect
done_keeps objects site station cells event fine link here lawful = by (nat_lt 0 (waiting_jobs cells)) refl
  where
    by : (some : Bool) → nat_lt 0 (waiting_jobs cells) ≡ some
        → EffectKeeps (length objects) (is_station_cells station.servers station.line) cells
        (if some then serve_effect site station cells event else free_effect site station cells event)
    by true some_is = serve_keeps objects site station cells event fine link here lawful (grind (arith, nat_tests))
    by false some_is = free_keeps objects site station cells event fine link here lawful

pub station_keeps : (objects : List Item) (site : Site) (station : Station ℕ) (cells : CellData) (event : Event) → IsStation station → IsLink objects station.next → IsSite (length objects) site
    → IsTrue (is_station_cells station.servers station.line cells) → OutcomeKeeps (length objects) (is_station_cells station.servers station.line) cells (station_effect site station cells event)
unfolding station_effect
station_keeps objects site station cells event fine link here lawful = by (event.kind == 2)
  where
    by : (done : Bool) → OutcomeKeeps (length objects) (is_station_cells station.servers station.line) cells
        (if done then Goes (done_effect site station cells event) else arrival_outcome site station cells event)
    by true = done_keeps objects site station cells event fine link here lawful
    by false = arrival_keeps objects site station cells event fine here lawful
