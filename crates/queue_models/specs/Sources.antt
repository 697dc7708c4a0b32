-- What a source does: it makes a number of jobs, one after another.
use Rattle.std.specs.Prelude.{ℕ, ◌+◌, ◌-◌, ◌^◌, ◌<◌, ◌≤◌, ◌==◌, ◌&&◌, Bool, IsTrue, if◌then◌else◌, [], ◌∷◌, ◌++◌, length, slice_index}
use Rattle.delta_exchange.specs.declared.change.Change.TheVariants.{Set}
use Rattle.delta_exchange.specs.Changes.{CellData}
use Rattle.event_key.specs.Stamps.{time_part}
use Rattle.model_core.specs.declared.effect.Effect.{Effect}
use Rattle.model_core.specs.declared.effect.Outcome.{Outcome}
use Rattle.model_core.specs.declared.effect.Outcome.TheVariants.{Goes}
use Rattle.model_core.specs.declared.event.Event.{Event}
use Rattle.model_core.specs.declared.words.TheConstants.{MADE_WORD}
use Rattle.random_streams.specs.Laws.{is_delay}
use Rattle.queue_models.specs.declared.site.Site.{Site}
use Rattle.queue_models.specs.declared.source.Source.{Source}
use Rattle.queue_models.specs.declared.source.TheConstants.{MOST_JOBS}
use Rattle.model_core.specs.Places.{place_changes}
use Rattle.queue_models.specs.Sites.{place_of, drawn_at, job_to, told}

-- its numbers lie within their bounds
pub record IsSource {L : Type 0} (source : Source L) : Type 0 where
  pub starts : source.first < 2 ^ 46
  pub law : IsTrue (is_delay source.every)
  pub some : 1 ≤ source.count
  pub few : source.count ≤ MOST_JOBS

-- word 1 is the number of jobs that are made, and word 2 the number of those that are left
abbrev pub made_of : CellData → ℕ
made_of cells = slice_index cells.words 1

abbrev pub left_of : CellData → ℕ
left_of cells = slice_index cells.words 2

abbrev pub is_source_cells : ℕ → CellData → Bool
is_source_cells count cells = length cells.words == 3 && length cells.lines == 0 && made_of cells + left_of cells == count

abbrev pub first_source_cells : ℕ → CellData
first_source_cells count = record { words = 0 ∷ 0 ∷ count ∷ []; lines = [] }

-- no job is left
unfoldable pub idle_effect : CellData → Effect
idle_effect cells = record { changes = []; sends = []; note = told MADE_WORD (made_of cells) 0 }

-- the last job is made, born now
unfoldable pub last_effect : Site → Source ℕ → CellData → ℕ → Effect
last_effect site source cells time =
    let job = made_of cells + 1 in
    record {
      changes = Set 1 job ∷ Set 2 0 ∷ [];
      sends = job_to site source.next 0 job time ∷ [];
      note = told MADE_WORD job 0;
    }

-- a job is made, born now, and the source makes the next one after a drawn delay
unfoldable pub make_effect : Site → Source ℕ → CellData → ℕ → Effect
make_effect site source cells time =
    let job = made_of cells + 1 in
    let left = left_of cells - 1 in
    let every = drawn_at site cells source.every in
    record {
      changes = place_changes (place_of cells) every.1 ++ Set 1 job ∷ Set 2 left ∷ [];
      sends = job_to site source.next 0 job time ∷ record { dest = site.object; delay = every.0; kind = 1; a = 0; b = 0; rank = site.rank } ∷ [];
      note = told MADE_WORD job left;
    }

-- what an event does at a source, whatever its kind
unfoldable pub source_effect : Site → Source ℕ → CellData → Event → Outcome
source_effect site source cells event =
    let time = time_part event.key.stamp in
    if left_of cells == 0 then Goes (idle_effect cells)
    else if left_of cells == 1 then Goes (last_effect site source cells time)
    else Goes (make_effect site source cells time)
