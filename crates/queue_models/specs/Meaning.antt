-- What a network means.
use Rattle.std.specs.Prelude.{ℕ, ◌+◌, ◌-◌, nat_lt, if◌then◌else◌, length, slice_index, slice_index_or}
use Rattle.model_core.specs.declared.entry.Entry.{Entry}
use Rattle.model_core.specs.declared.event.Start.{Start}
use Rattle.model_core.specs.Meaning.{Meaning}
use Rattle.model_core.specs.Words.{record_word, fault_word}
use Rattle.queue_models.specs.declared.site.Site.{Site}
use Rattle.queue_models.specs.Kinds.{is_lawful, effect_at, first_cells_of, first_time_of}
use Rattle.queue_models.specs.Objects.{NetworkParts, object_at, source_numbers}
use Rattle.queue_models.specs.Telling.{as_told}

-- where the events of an object happen
abbrev pub site_of : NetworkParts → ℕ → Site
site_of p object = record { seed = p.seed; object = object; rank = (object_at p.objects object).rank }

-- a source makes its first job
abbrev pub source_start : NetworkParts → ℕ → Start
source_start p number =
    let source = object_at p.objects number in
    record { time = first_time_of source.kind; dest = number; kind = 1; a = 0; b = 0; rank = source.rank }

-- a job arrives that was not made by a source; these are numbered from 1 on
abbrev pub job_start : NetworkParts → ℕ → Start
job_start p i =
    let no_job : Entry = record { time = 0; at = 0; rank = 0 } in
    let job = slice_index_or p.jobs i no_job in
    record { time = job.time; dest = job.at; kind = 3; a = i + 1; b = job.time; rank = job.rank }

-- the initial events: each source's in the order of the objects, then each job's
unfoldable pub start_of : NetworkParts → ℕ → Start
start_of p i =
    let sources = source_numbers p.objects in
    if nat_lt i (length sources) then source_start p (slice_index sources i) else job_start p (i - length sources)

unfoldable pub network_meaning : NetworkParts → Meaning
network_meaning p = record {
  objects = length p.objects;
  lawful = λ object cells. is_lawful (object_at p.objects object).kind cells;
  effect = λ object cells event.
      as_told (object_at p.objects object) cells (effect_at (site_of p object) (object_at p.objects object).kind cells event);
  first = λ object. first_cells_of (object_at p.objects object).kind;
  starts = length (source_numbers p.objects) + length p.jobs;
  start_at = λ i. start_of p i;
  label = λ object. (object_at p.objects object).name;
  word = record_word;
  fault = fault_word;
}

-- what it would mean if no object were quiet or traced
unfoldable pub plain_meaning : NetworkParts → Meaning
plain_meaning p = record (network_meaning p) { effect = λ object cells event. effect_at (site_of p object) (object_at p.objects object).kind cells event }
