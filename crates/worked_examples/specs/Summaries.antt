-- What is compared of cycles that are computed: the buckets, the stop, and how many events happened.
use Rattle.std.specs.Prelude.{ℕ, false, List, [], ◌∷◌, Option, None}
use Rattle.event_key.specs.Stamps.{stamp_at}
use Rattle.event_key.specs.declared.key.Key.{Key}
use Rattle.model_core.specs.declared.entry.Entry.{Entry}
use Rattle.model_core.specs.declared.note.Note.{Note}
use Rattle.model_core.specs.declared.note.Part.{Part}
use Rattle.model_core.specs.Meaning.{Meaning}
use Rattle.sim_spec.specs.declared.bucket.Bucket.{Bucket}
use Rattle.sim_spec.specs.declared.stop.Stop.{Stop}
use Rattle.sim_spec.specs.declared.terms.Terms.{Terms}
use Rattle.sim_spec.specs.Cycles.{Cycles, cycles}
use Rattle.sim_spec.specs.State.{initial_state}
use Rattle.sim_spec.specs.Cut.{records_of}
use Rattle.sim_spec.specs.Replay.{Replay}
use Rattle.queue_models.specs.declared.kind.KindOver.{KindOver}
use Rattle.queue_models.specs.Objects.{Item}

abbrev pub summary_of : Cycles → List Bucket × Stop × ℕ
summary_of c = (c.buckets, c.stop, c.last.count)

-- the cycles of a model from its start
abbrev pub summary : Meaning → Terms → List Bucket × Stop × ℕ
summary m t = summary_of (cycles m t (initial_state m))

-- what is told of a replay, and its fault
abbrev pub shown_of : Replay → List (Key × Note) × Option (Key × ℕ)
shown_of r = (records_of r.done, r.fault)

-- a key, by time and step, destination, source and serial
abbrev pub key_at : ℕ → ℕ → ℕ → ℕ → ℕ → Key
key_at time step dest src serial = record { stamp = stamp_at time step; rank = 0; dest = dest; src = src; serial = serial }

-- an event that tells one part
abbrev pub told_at : Key → Part → Key × Note
told_at key part = (key, part ∷ [])

-- a bucket that met neither a fault nor the limit
abbrev pub whole_bucket : ℕ → List (Key × Note) → Bucket
whole_bucket horizon done = record { done = done; horizon = horizon; fault = None; limited = false }

-- an initial event of a model, by time and object
abbrev pub entry_at : ℕ → ℕ → Entry
entry_at time object = record { time = time; at = object; rank = 0 }

-- an object of a network, by its name and kind
abbrev pub item_of : List ℕ → KindOver ℕ → Item
item_of name kind = record { name = name; kind = kind; rank = 0; quiet = false; trace = false }
