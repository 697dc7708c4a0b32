-- What a station does: it serves jobs in order of arrival.
use Rattle.std.specs.Prelude.{ℕ, ◌+◌, ◌-◌, ◌≤◌, ◌==◌, ◌&&◌, IsTrue, nat_lt, nat_le, Bool, if◌then◌else◌, [], ◌∷◌, ◌++◌, length, slice_index}
use Rattle.delta_exchange.specs.declared.change.Change.TheVariants.{Set, Push, Pop}
use Rattle.delta_exchange.specs.Changes.{CellData, line_of}
use Rattle.model_core.specs.declared.effect.Effect.{Effect}
use Rattle.model_core.specs.declared.effect.Outcome.{Outcome}
use Rattle.model_core.specs.declared.effect.Outcome.TheVariants.{Goes, Fails}
use Rattle.model_core.specs.declared.event.Event.{Event}
use Rattle.model_core.specs.declared.event.Send.{Send}
use Rattle.model_core.specs.declared.words.TheConstants.{TAKEN_WORD, WAITING_WORD, LOST_WORD, DONE_WORD, LINE_FULL}
use Rattle.random_streams.specs.Laws.{is_delay}
use Rattle.queue_models.specs.declared.site.Site.{Site}
use Rattle.queue_models.specs.declared.station.Station.{Station}
use Rattle.queue_models.specs.declared.station.TheConstants.{MOST_SERVERS, MOST_WAITING}
use Rattle.model_core.specs.Places.{place_changes}
use Rattle.queue_models.specs.Sites.{place_of, drawn_at, job_to, told}

-- its numbers lie within their bounds
pub record IsStation {L : Type 0} (station : Station L) : Type 0 where
  pub some : 1 ≤ station.servers
  pub few : station.servers ≤ MOST_SERVERS
  pub law : IsTrue (is_delay station.service)
  pub short : station.line ≤ MOST_WAITING

-- word 1 is the number of busy servers; line 0 holds the waiting jobs, and line 1 when each was born
abbrev pub busy_servers : CellData → ℕ
busy_servers cells = slice_index cells.words 1

abbrev pub waiting_jobs : CellData → ℕ
waiting_jobs cells = length (line_of cells 0)

abbrev pub is_station_cells : ℕ → ℕ → CellData → Bool
is_station_cells servers line cells =
    length cells.words == 2 && length cells.lines == 2
    && waiting_jobs cells == length (line_of cells 1)
    && nat_le (waiting_jobs cells) line && nat_le (busy_servers cells) servers

abbrev pub first_station_cells : CellData
first_station_cells = record { words = 0 ∷ 0 ∷ []; lines = [] ∷ [] ∷ [] }

-- a job's service ends after a delay, by an event at the station itself
abbrev pub done_after : Site → ℕ → ℕ → ℕ → Send
done_after site service job birth = record { dest = site.object; delay = service; kind = 2; a = job; b = birth; rank = site.rank }

-- a free server takes the job
unfoldable pub take_effect : Site → Station ℕ → CellData → Event → Effect
take_effect site station cells event =
    let service = drawn_at site cells station.service in
    record {
      changes = place_changes (place_of cells) service.1 ++ Set 1 (busy_servers cells + 1) ∷ [];
      sends = done_after site service.0 event.a event.b ∷ [];
      note = told TAKEN_WORD event.a (waiting_jobs cells);
    }

-- the job goes to the end of the line
unfoldable pub wait_effect : CellData → Event → Effect
wait_effect cells event = record {
  changes = Push 0 event.a ∷ Push 1 event.b ∷ [];
  sends = [];
  note = told WAITING_WORD event.a (waiting_jobs cells + 1);
}

-- the job is turned away
unfoldable pub lose_effect : CellData → Event → Effect
lose_effect cells event = record { changes = []; sends = []; note = told LOST_WORD event.a (waiting_jobs cells) }

-- a job arrives: where no server is free and the line is full, a strict station fails
unfoldable pub arrival_outcome : Site → Station ℕ → CellData → Event → Outcome
arrival_outcome site station cells event =
    if nat_lt (busy_servers cells) station.servers then Goes (take_effect site station cells event)
    else if nat_lt (waiting_jobs cells) station.line then Goes (wait_effect cells event)
    else if station.strict then Fails LINE_FULL
    else Goes (lose_effect cells event)

-- a job is done, and its server goes on with the job that has waited longest
unfoldable pub serve_effect : Site → Station ℕ → CellData → Event → Effect
serve_effect site station cells event =
    let job = slice_index (line_of cells 0) 0 in
    let birth = slice_index (line_of cells 1) 0 in
    let service = drawn_at site cells station.service in
    record {
      changes = place_changes (place_of cells) service.1 ++ Pop 0 ∷ Pop 1 ∷ [];
      sends = job_to site station.next 0 event.a event.b ∷ done_after site service.0 job birth ∷ [];
      note = told DONE_WORD event.a (waiting_jobs cells - 1);
    }

-- a job is done while nobody waits, and its server is free
unfoldable pub free_effect : Site → Station ℕ → CellData → Event → Effect
free_effect site station cells event = record {
  changes = if busy_servers cells == 0 then [] else Set 1 (busy_servers cells - 1) ∷ [];
  sends = job_to site station.next 0 event.a event.b ∷ [];
  note = told DONE_WORD event.a 0;
}

unfoldable pub done_effect : Site → Station ℕ → CellData → Event → Effect
done_effect site station cells event =
    if nat_lt 0 (waiting_jobs cells) then serve_effect site station cells event else free_effect site station cells event

-- an event of kind 2 is the end of a service, and one of any other kind is an arrival
unfoldable pub station_effect : Site → Station ℕ → CellData → Event → Outcome
station_effect site station cells event =
    if event.kind == 2 then Goes (done_effect site station cells event) else arrival_outcome site station cells event
