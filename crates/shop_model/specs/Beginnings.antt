-- A server begins a job: it serves it, or the job takes it along.
use Rattle.std.specs.Prelude.{ℕ, ◌+◌, ◌-◌, if◌then◌else◌, List, [], ◌∷◌, length, slice_index, is_none}
use Rattle.delta_exchange.specs.declared.change.Change.{Change}
use Rattle.delta_exchange.specs.declared.change.Change.TheVariants.{Set, Unpush}
use Rattle.delta_exchange.specs.Changes.{CellData, line_of}
use Rattle.model_core.specs.declared.event.Send.{Send}
use Rattle.shop_model.specs.declared.counts.Counts.{Counts}
use Rattle.shop_model.specs.declared.job.Job.{Job}
use Rattle.shop_model.specs.declared.kinds.TheConstants.{DONE}
use Rattle.shop_model.specs.declared.routes.Routes.{Routes}
use Rattle.shop_model.specs.declared.site.Site.{Site}
use Rattle.shop_model.specs.declared.station.Station.{Station}
use Rattle.shop_model.specs.declared.station.TheConstants.{HELD, LAG, FREE_SERVERS}
use Rattle.shop_model.specs.declared.step.Visit.{Visit}
use Rattle.shop_model.specs.Jobs.{job_at, served_by}
use Rattle.shop_model.specs.Routes.{moved}
use Rattle.shop_model.specs.Sites.{to_self, place_of, words_at, drawn_or}
use Rattle.shop_model.specs.Stations.{mark_word}

-- the server that became free last
abbrev pub next_server : CellData → ℕ
next_server cells = slice_index (line_of cells FREE_SERVERS) (length (line_of cells FREE_SERVERS) - 1)

-- how long the service takes, and the random place after it
abbrev pub service_drawn : Site → CellData → Visit → ℕ × ℕ
service_drawn site cells visit = drawn_or 0 (words_at site (place_of cells)) visit.service

-- it is kept up to which lag the service was put off
unfoldable pub begin_changes : Station → CellData → Visit → Counts → List Change
begin_changes station cells visit counts =
    if is_none visit.service then Set HELD (counts.held + 1) ∷ []
    else Unpush FREE_SERVERS ∷ Set (mark_word station (next_server cells)) (slice_index cells.words LAG) ∷ []

unfoldable pub begin_sent : Site → Routes → CellData → Visit → ℕ → Job → ℕ → Send
begin_sent site routes cells visit service job birth =
    if is_none visit.service then moved routes job birth (job.step + 1) 0
    else to_self site service DONE (job_at job.step job.id) (served_by (next_server cells) birth)

unfoldable pub counts_begun : Visit → Counts → Counts
counts_begun visit counts =
    if is_none visit.service then record counts { held = counts.held + 1 } else record counts { free = counts.free - 1 }
