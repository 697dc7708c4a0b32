-- The parts of which a PHOLD model is made.
use Rattle.std.specs.Prelude.{ℕ, ◌^◌, ◌<◌, ◌≤◌, Bool, IsTrue, List, length, max, All}
use Rattle.event_key.specs.declared.key.TheConstants.{MOST_RANK}
use Rattle.model_core.specs.declared.entry.Entry.{Entry}
use Rattle.model_core.specs.declared.limits.TheConstants.{MOST_ENTRIES, MOST_OBJECTS}
use Rattle.random_streams.specs.declared.law.Law.{Law}
use Rattle.random_streams.specs.Laws.{is_delay}

-- a seed, how many objects there are, the law of the delay, whether the destination is drawn evenly, how many events
-- each object has at time 0, further initial events, and the rank of all others
pub record PholdParts : Type 0 where
  pub seed : ℕ
  pub objects : ℕ
  pub delay : Law
  pub uniform : Bool
  pub each : ℕ
  pub start : List Entry
  pub rank : ℕ

abbrev pub phold_parts : ℕ → ℕ → Law → Bool → ℕ → List Entry → ℕ → PholdParts
phold_parts seed objects delay uniform each start rank =
    record { seed = seed; objects = objects; delay = delay; uniform = uniform; each = each; start = start; rank = rank }

-- the same parts with another seed
abbrev pub phold_under : ℕ → PholdParts → PholdParts
phold_under seed p = phold_parts seed p.objects p.delay p.uniform p.each p.start p.rank

-- by what the word of a destination is divided: the number of objects, and 1 where there is none and so no event
unfoldable pub divisor_of : ℕ → ℕ
divisor_of objects = max objects 1

-- an initial event at an object that there is
pub record IsEntry (objects : ℕ) (entry : Entry) : Type 0 where
  pub time : entry.time < 2 ^ 46
  pub at : entry.at < objects
  pub rank : entry.rank ≤ MOST_RANK

-- the parts lie within their bounds
pub record IsPhold (p : PholdParts) : Type 0 where
  pub seed : p.seed < 2 ^ 63
  pub objects : p.objects ≤ MOST_OBJECTS
  pub delay : IsTrue (is_delay p.delay)
  pub each : p.each ≤ 4
  pub few_entries : length p.start ≤ MOST_ENTRIES
  pub entries : All (IsEntry p.objects) p.start
  pub rank : p.rank ≤ MOST_RANK
