-- Where the jobs of a shop are: each is a job by its id and the tick of its make, its birth.
use Rattle.std.specs.Prelude.{ℕ, ◌+◌, ◌==◌, ◌&&◌, ◌||◌, if◌then◌else◌, List, [], ◌∷◌, length, map, sum_by}
use Rattle.std.specs.Int.{from_bool}
use Rattle.std.specs.List.{range_with_len}
use Rattle.delta_exchange.specs.Changes.{line_of}
use Rattle.event_key.specs.Stamps.{time_part}
use Rattle.model_core.specs.declared.event.Event.{Event}
use Rattle.model_core.specs.declared.words.TheConstants.{MADE_WORD, LEFT_WORD, DROPPED_WORD}
use Rattle.run_laws.specs.Reached.{gathered}
use Rattle.run_laws.specs.Sent.{first_of}
use Rattle.shop_model.specs.declared.kinds.TheConstants.{COME, DONE}
use Rattle.shop_model.specs.Jobs.{id_of, birth_of}
use Rattle.shop_model.specs.Meaning.{shop_meaning}
use Rattle.shop_model.specs.ShopParts.{ShopParts, station_at}
use Rattle.sim_spec.specs.declared.terms.Terms.{Terms}
use Rattle.sim_spec.specs.Run.{Next, stops, does}
use Rattle.sim_spec.specs.State.{State}
use Rattle.shop_laws.specs.Told.{word_told, first_told, cells_at}
use Rattle.shop_laws.specs.Waiting.{sum_in_line}

-- what a pending event weighs: a job that comes somewhere, or whose service ends, weighs by its id and its birth
abbrev pub at_event : (ℕ → ℕ → ℕ) → Event → ℕ
at_event weight e = if e.kind == COME || e.kind == DONE then weight (id_of e.a) (birth_of e.b) else 0

-- what a job that waits weighs
abbrev pub in_line : (ℕ → ℕ → ℕ) → ℕ → ℕ → ℕ → ℕ
in_line weight a birth since = weight (id_of a) birth

-- what the jobs in all lines weigh
abbrev pub in_lines : ShopParts → (ℕ → ℕ → ℕ) → State → ℕ
in_lines p weight s =
    sum_by (λ i. sum_in_line (in_line weight) (λ k. line_of (cells_at s i) k) (station_at p.stations i).levels) (range_with_len 0 (length p.stations))

-- what the jobs in the shop weigh: a job is at a pending event or in a line
abbrev pub in_shop : ShopParts → (ℕ → ℕ → ℕ) → State → ℕ
in_shop p weight s = sum_by (at_event weight) s.pending + in_lines p weight s

-- the job that is made next: `make` tells its id, at the tick of its birth
abbrev pub made_next : State → Next → List (ℕ × ℕ)
made_next s (stops stop) = []
made_next s (does told after) = if word_told told.1 == MADE_WORD then (first_told told.1, time_part told.0.stamp) ∷ [] else []

-- the job that leaves next, or is given up, with its birth as it stands at its event
abbrev pub gone_next : State → Next → List (ℕ × ℕ)
gone_next s (stops stop) = []
gone_next s (does told after) =
    if word_told told.1 == LEFT_WORD || word_told told.1 == DROPPED_WORD then map (λ (e : Event). (id_of e.a, birth_of e.b)) (first_of s.pending) else []

-- the jobs that were made within the first n events, and those that left or were given up
abbrev pub made_jobs : ShopParts → Terms → ℕ → List (ℕ × ℕ)
made_jobs p t n = gathered made_next n (shop_meaning p) t

abbrev pub gone_jobs : ShopParts → Terms → ℕ → List (ℕ × ℕ)
gone_jobs p t n = gathered gone_next n (shop_meaning p) t

-- a job with this id and this birth weighs 1, and others nothing
abbrev pub this_job : ℕ → ℕ → ℕ → ℕ → ℕ
this_job id birth other born = from_bool (other == id && born == birth)

-- each job of a class weighs 1
abbrev pub weight_of : (ℕ → ℕ → ℕ) → ℕ × ℕ → ℕ
weight_of weight job = weight job.0 job.1
