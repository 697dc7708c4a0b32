-- What an object tells of an event: it may be quiet, or traced.
use Rattle.std.specs.Prelude.{Bool, true, false, List, [], ◌++◌}
use Rattle.delta_exchange.specs.Changes.{CellData, cells_after_all}
use Rattle.model_core.specs.declared.effect.Effect.{Effect}
use Rattle.model_core.specs.declared.effect.Outcome.{Outcome}
use Rattle.model_core.specs.declared.effect.Outcome.TheVariants.{Goes, Fails}
use Rattle.model_core.specs.declared.note.Part.{Part}
use Rattle.model_core.specs.declared.words.TheConstants.{LOAD_WORD}
use Rattle.queue_models.specs.Objects.{Item}
use Rattle.queue_models.specs.Sites.{told}
use Rattle.queue_models.specs.Stations.{busy_servers, waiting_jobs}

-- how many servers of a station are busy, and how many jobs wait there
abbrev pub load : CellData → List Part
load cells = told LOAD_WORD (busy_servers cells) (waiting_jobs cells)

-- a traced station tells its load besides, as the event leaves it
abbrev pub with_load : Bool → CellData → Effect → List Part
with_load false cells x = x.note
with_load true cells x = x.note ++ load (cells_after_all x.changes cells)

-- a quiet object tells nothing
abbrev pub note_told : Bool → Bool → CellData → Effect → List Part
note_told true trace cells x = []
note_told false trace cells x = with_load trace cells x

-- an event as its object tells of it: what it changes and sends stays
abbrev pub as_told : Item → CellData → Outcome → Outcome
as_told object cells (Goes x) = Goes (record { changes = x.changes; sends = x.sends; note = note_told object.quiet object.trace cells x })
as_told object cells (Fails code) = Fails code
