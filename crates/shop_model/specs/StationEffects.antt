-- What a station does: jobs come to it, servers call and end, patience ends, shifts change, and it breaks down.
use Rattle.std.specs.Prelude.{ℕ, ◌+◌, ◌-◌, ◌%◌, ◌^◌, min, Bool, ◌&&◌, ◌==◌, if◌then◌else◌, List, [], ◌∷◌, ◌++◌, length, nat_lt, nat_le, slice_index}
use Rattle.std.specs.Prelude.{slice_index_or, Option, None, Some}
use Rattle.std.specs.List.{position_or_len, range_with_len}
use Rattle.delta_exchange.specs.declared.change.Change.{Change}
use Rattle.delta_exchange.specs.declared.change.Change.TheVariants.{Set, Push, Pop, Unpush, Flip}
use Rattle.delta_exchange.specs.Changes.{CellData, line_of}
use Rattle.model_core.specs.declared.effect.Effect.{Effect}
use Rattle.model_core.specs.declared.event.Event.{Event}
use Rattle.model_core.specs.declared.event.Send.{Send}
use Rattle.model_core.specs.declared.words.TheConstants.{TAKEN_WORD, WAITING_WORD, LOST_WORD, FREED_WORD, CALLED_WORD, DONE_WORD, RENEGED_WORD}
use Rattle.model_core.specs.declared.words.TheConstants.{OPENED_WORD, DOWN_WORD, UP_WORD}
use Rattle.model_core.specs.Effects.{blank}
use Rattle.model_core.specs.Places.{place_changes}
use Rattle.random_streams.specs.declared.delay_law.DelayLaw.{DelayLaw}
use Rattle.shop_model.specs.declared.done.TheConstants.{LONGEST}
use Rattle.shop_model.specs.declared.job.Job.{Job}
use Rattle.shop_model.specs.declared.kinds.TheConstants.{CALL, DONE, TIRE, SHIFT, BREAK, MEND}
use Rattle.shop_model.specs.declared.levels.TheConstants.{EMPTY, NEVER}
use Rattle.shop_model.specs.declared.routes.Routes.{Routes}
use Rattle.shop_model.specs.declared.site.Site.{Site}
use Rattle.shop_model.specs.declared.station.Breakdowns.{Breakdowns}
use Rattle.shop_model.specs.declared.station.Order.{Order}
use Rattle.shop_model.specs.declared.station.Order.TheVariants.{First, Last, Priority}
use Rattle.shop_model.specs.declared.station.Shift.{Shift as AShift}
use Rattle.shop_model.specs.declared.station.Station.{Station}
use Rattle.shop_model.specs.declared.station.TheConstants.{OPEN, HELD, WAITING, DOWN, LAG, FREE_SERVERS}
use Rattle.shop_model.specs.declared.step.Step.{Step}
use Rattle.shop_model.specs.declared.step.Step.TheVariants.{Visit, Free, Delay, Go}
use Rattle.shop_model.specs.declared.step.Visit.{Visit as AVisit}
use Rattle.shop_model.specs.Beginnings.{service_drawn, begin_changes, begin_sent, counts_begun}
use Rattle.shop_model.specs.Jobs.{job_at, birth_of, server_of}
use Rattle.shop_model.specs.Routes.{class_at, step_at, job_of, moved}
use Rattle.shop_model.specs.Sites.{to_self, place_of, words_at, drawn_at, drawn_or, told}
use Rattle.shop_model.specs.Stations.{gone_word, mark_word, jobs_line, births_line, since_line, until_line, level_of, counts_of, busy_of, spare_of}
use Rattle.shop_model.specs.Stations.{call_sent}

-- a job gives a server back, if one is held, and goes on
unfoldable pub free_effect : Site → Routes → Station → Job → CellData → Event → Effect
free_effect site routes station job cells event =
    let counts = counts_of cells in
    let onward = moved routes job event.b (job.step + 1) 0 in
    if counts.held == 0 then record { changes = []; sends = onward ∷ []; note = [] }
    else record {
      changes = Set HELD (counts.held - 1) ∷ [];
      sends = onward ∷ call_sent station.most site (record counts { held = counts.held - 1 });
      note = told FREED_WORD job.id counts.waiting;
    }

-- a job that comes is begun at once
unfoldable pub take_effect : Site → Routes → Station → AVisit → Job → CellData → Event → Effect
take_effect site routes station visit job cells event =
    let drawn = service_drawn site cells visit in
    let counts = counts_of cells in
    record {
      changes = place_changes (place_of cells) drawn.1 ++ begin_changes station cells visit counts;
      sends = begin_sent site routes cells visit drawn.0 job (birth_of event.b) ∷ [];
      note = told TAKEN_WORD job.id (busy_of station.most (counts_begun visit counts));
    }

-- until when a job waits at most
abbrev pub until_of : Site → CellData → Option DelayLaw → ℕ
until_of site cells None = NEVER
until_of site cells (Some law) = site.tick + (drawn_at site (place_of cells) law).0

-- its patience ends by an event that names the entry, counted from the first that the level ever had
abbrev pub tire_sent : Site → CellData → ℕ → Option DelayLaw → List Send
tire_sent site cells level None = []
tire_sent site cells level (Some law) =
    let entries = length (line_of cells (jobs_line level)) in
    to_self site (drawn_at site (place_of cells) law).0 TIRE ((slice_index cells.words (gone_word level) + entries) % 2 ^ 64) level ∷ []

-- a job that comes goes to the end of its level
unfoldable pub wait_effect : Site → AVisit → ℕ → Job → CellData → Event → Effect
wait_effect site visit level job cells event =
    let waiting = (counts_of cells).waiting + 1 in
    record {
      changes = place_changes (place_of cells) (drawn_or 0 (words_at site (place_of cells)) visit.patience).1
          ++ Set WAITING waiting
          ∷ Push (jobs_line level) (job_at job.step job.id) ∷ Push (births_line level) (birth_of event.b)
          ∷ Push (since_line level) site.tick ∷ Push (until_line level) (until_of site cells visit.patience) ∷ [];
      sends = tire_sent site cells level visit.patience;
      note = told WAITING_WORD job.id waiting;
    }

-- a job finds no place
unfoldable pub lose_effect : Routes → AVisit → Job → CellData → Event → Effect
lose_effect routes visit job cells event = record {
  changes = [];
  sends = moved routes job event.b visit.full 0 ∷ [];
  note = told LOST_WORD job.id (counts_of cells).waiting;
}

unfoldable pub arrive_effect : Site → Routes → Station → AVisit → Job → CellData → Event → Effect
arrive_effect site routes station visit job cells event =
    let counts = counts_of cells in
    let spare = spare_of station.most counts in
    if counts.waiting == 0 && nat_lt 0 spare then take_effect site routes station visit job cells event
    else if nat_lt counts.waiting (station.line + spare) then
    wait_effect site visit (level_of station.order (class_at routes job.class).priority) job cells event
    else lose_effect routes visit job cells event

abbrev pub come_effect : Site → Routes → Station → Option Step → Job → CellData → Event → Effect
come_effect site routes station (Some (Visit visit)) job cells event = arrive_effect site routes station visit job cells event
come_effect site routes station (Some (Free other)) job cells event = free_effect site routes station job cells event
come_effect site routes station (Some (Delay law)) job cells event = blank
come_effect site routes station (Some (Go branch)) job cells event = blank
come_effect site routes station None job cells event = blank

-- the first level that has an entry, or the last one
unfoldable pub first_level : Station → CellData → ℕ
first_level station cells =
    position_or_len (λ level. nat_lt 0 (length (line_of cells (jobs_line level)))) (range_with_len 0 (station.levels - 1))

-- of so many entries the last one is called, or the first one
abbrev pub called_place : Order → ℕ → ℕ
called_place Last entries = entries - 1
called_place First entries = 0
called_place Priority entries = 0

-- the entry that is called goes out
abbrev pub out_changes : Order → CellData → ℕ → List Change
out_changes Last cells level =
    Unpush (jobs_line level) ∷ Unpush (births_line level) ∷ Unpush (since_line level) ∷ Unpush (until_line level) ∷ []
out_changes First cells level =
    Pop (jobs_line level) ∷ Pop (births_line level) ∷ Pop (since_line level) ∷ Pop (until_line level)
    ∷ Set (gone_word level) ((slice_index cells.words (gone_word level) + 1) % 2 ^ 64) ∷ []
out_changes Priority cells level =
    Pop (jobs_line level) ∷ Pop (births_line level) ∷ Pop (since_line level) ∷ Pop (until_line level)
    ∷ Set (gone_word level) ((slice_index cells.words (gone_word level) + 1) % 2 ^ 64) ∷ []

-- a server begins the job of an entry
unfoldable pub begin_effect : Site → Routes → Station → ℕ → ℕ → AVisit → Job → CellData → Effect
begin_effect site routes station level place visit job cells =
    let drawn = service_drawn site cells visit in
    let counts = record (counts_of cells) { waiting = (counts_of cells).waiting - 1 } in
    record {
      changes = place_changes (place_of cells) drawn.1
          ++ (Set WAITING counts.waiting ∷ out_changes station.order cells level) ++ begin_changes station cells visit counts;
      sends = begin_sent site routes cells visit drawn.0 job (slice_index (line_of cells (births_line level)) place)
          ∷ call_sent station.most site (counts_begun visit counts);
      note = told CALLED_WORD job.id (site.tick - slice_index (line_of cells (since_line level)) place);
    }

abbrev pub begin_step : Site → Routes → Station → ℕ → ℕ → Job → CellData → Option Step → Effect
begin_step site routes station level place job cells (Some (Visit visit)) = begin_effect site routes station level place visit job cells
begin_step site routes station level place job cells (Some (Free other)) = blank
begin_step site routes station level place job cells (Some (Delay law)) = blank
begin_step site routes station level place job cells (Some (Go branch)) = blank
begin_step site routes station level place job cells None = blank

abbrev pub begin_job : Site → Routes → Station → ℕ → ℕ → CellData → Option Job → Effect
begin_job site routes station level place cells None = blank
begin_job site routes station level place cells (Some job) =
    begin_step site routes station level place job cells (step_at routes job.class job.step)

-- the place of a job that lost its patience goes out, and a server calls again
unfoldable pub pass_effect : Site → Station → ℕ → CellData → Effect
pass_effect site station level cells =
    record { changes = out_changes station.order cells level; sends = to_self site 0 CALL 0 0 ∷ []; note = [] }

-- the entry that is called of a level
unfoldable pub entry_effect : Site → Routes → Station → ℕ → CellData → Effect
entry_effect site routes station level cells =
    let jobs = line_of cells (jobs_line level) in
    let place = called_place station.order (length jobs) in
    if length jobs == 0 then blank
    else if nat_le EMPTY (slice_index jobs place) then pass_effect site station level cells
    else begin_job site routes station level place cells (job_of routes (slice_index jobs place))

unfoldable pub call_effect : Site → Routes → Station → CellData → Effect
call_effect site routes station cells =
    let counts = counts_of cells in
    if nat_lt 0 counts.waiting && nat_lt 0 (spare_of station.most counts)
    then entry_effect site routes station (first_level station cells) cells else blank

-- a server is free, and its job goes on
unfoldable pub end_effect : Site → Routes → Station → Job → ℕ → CellData → Event → Effect
end_effect site routes station job server cells event =
    let counts = counts_of cells in
    if nat_lt counts.free station.most then record {
      changes = Push FREE_SERVERS server ∷ [];
      sends = moved routes job event.b (job.step + 1) 0 ∷ call_sent station.most site (record counts { free = counts.free + 1 });
      note = told DONE_WORD job.id counts.waiting;
    }
    else blank

-- a service ends, or is put off by as many ticks as the station stood still
unfoldable pub done_effect : Site → Routes → Station → Job → CellData → Event → Effect
done_effect site routes station job cells event =
    let server = server_of event.b in
    let word = mark_word station server in
    let mark = slice_index cells.words word in
    let late = (slice_index cells.words LAG + 2 ^ 64 - mark) % 2 ^ 64 in
    if nat_le station.most server then blank
    else if late == 0 then end_effect site routes station job server cells event
    else record {
      changes = Set word ((mark + min late LONGEST) % 2 ^ 64) ∷ [];
      sends = to_self site (min late LONGEST) DONE event.a event.b ∷ [];
      note = [];
    }

-- a job that waits goes away, and leaves its place empty
unfoldable pub renege_effect : Site → Routes → ℕ → ℕ → AVisit → Job → CellData → Effect
renege_effect site routes level place visit job cells = record {
  changes = Set WAITING ((counts_of cells).waiting - 1) ∷ Flip (jobs_line level) place ∷ [];
  sends = moved routes job (slice_index (line_of cells (births_line level)) place) visit.away 0 ∷ [];
  note = told RENEGED_WORD job.id (site.tick - slice_index (line_of cells (since_line level)) place);
}

abbrev pub renege_step : Site → Routes → ℕ → ℕ → Job → CellData → Option Step → Effect
renege_step site routes level place job cells (Some (Visit visit)) = renege_effect site routes level place visit job cells
renege_step site routes level place job cells (Some (Free other)) = blank
renege_step site routes level place job cells (Some (Delay law)) = blank
renege_step site routes level place job cells (Some (Go branch)) = blank
renege_step site routes level place job cells None = blank

abbrev pub renege_job : Site → Routes → ℕ → ℕ → CellData → Option Job → Effect
renege_job site routes level place cells None = blank
renege_job site routes level place cells (Some job) = renege_step site routes level place job cells (step_at routes job.class job.step)

-- whether the job at a place of a level waits until now at most
unfoldable pub tires : Site → CellData → ℕ → ℕ → Bool
tires site cells level place =
    nat_lt place (length (line_of cells (jobs_line level)))
    && nat_lt (slice_index (line_of cells (jobs_line level)) place) EMPTY
    && slice_index (line_of cells (until_line level)) place == site.tick

unfoldable pub tire_effect : Site → Routes → Station → CellData → Event → Effect
tire_effect site routes station cells event =
    let gone = slice_index cells.words (gone_word event.b) in
    let place = event.a - gone in
    if nat_lt event.b station.levels && nat_le gone event.a && tires site cells event.b place
    then renege_job site routes event.b place cells (job_of routes (slice_index (line_of cells (jobs_line event.b)) place))
    else blank

-- a shift, or one of no server
abbrev pub shift_at : Station → ℕ → AShift
shift_at station number = slice_index_or station.shifts number (record { at = 0; servers = 0 })

-- the next shift begins as many ticks later as it lies; after the last one the first, where they come again
abbrev pub shift_again : Site → Station → ℕ → Option ℕ → List Send
shift_again site station number None = []
shift_again site station number (Some period) =
    to_self site (period + (shift_at station 0).at - (shift_at station number).at) SHIFT 0 0 ∷ []

unfoldable pub shift_sent : Site → Station → ℕ → List Send
shift_sent site station number =
    if nat_lt (number + 1) (length station.shifts)
    then to_self site ((shift_at station (number + 1)).at - (shift_at station number).at) SHIFT (number + 1) 0 ∷ []
    else shift_again site station number station.period

unfoldable pub shift_effect : Site → Station → CellData → Event → Effect
shift_effect site station cells event =
    let servers = (shift_at station event.a).servers in
    let counts = record (counts_of cells) { opened = servers } in
    if nat_lt event.a (length station.shifts) then record {
      changes = Set OPEN servers ∷ [];
      sends = shift_sent site station event.a ++ call_sent station.most site counts;
      note = told OPENED_WORD servers (busy_of station.most counts);
    }
    else blank

-- a station stands still
unfoldable pub still_effect : Site → Station → DelayLaw → CellData → Effect
still_effect site station law cells =
    let drawn = drawn_at site (place_of cells) law in
    record {
      changes = place_changes (place_of cells) drawn.1 ++ Set DOWN 1 ∷ Set LAG ((slice_index cells.words LAG + drawn.0) % 2 ^ 64) ∷ [];
      sends = to_self site drawn.0 MEND 0 0 ∷ [];
      note = told DOWN_WORD drawn.0 (busy_of station.most (counts_of cells));
    }

abbrev pub break_effect : Site → Station → CellData → Option Breakdowns → Effect
break_effect site station cells None = blank
break_effect site station cells (Some breakdowns) =
    if (counts_of cells).down == 0 then still_effect site station breakdowns.down cells else blank

-- a station works
unfoldable pub works_effect : Site → Station → DelayLaw → CellData → Effect
works_effect site station law cells =
    let drawn = drawn_at site (place_of cells) law in
    let counts = record (counts_of cells) { down = 0 } in
    record {
      changes = place_changes (place_of cells) drawn.1 ++ Set DOWN 0 ∷ [];
      sends = to_self site drawn.0 BREAK 0 0 ∷ call_sent station.most site counts;
      note = told UP_WORD counts.waiting (busy_of station.most counts);
    }

abbrev pub mend_effect : Site → Station → CellData → Option Breakdowns → Effect
mend_effect site station cells None = blank
mend_effect site station cells (Some breakdowns) = works_effect site station breakdowns.up cells
