-- Laws over the definitions alone.
use Rattle.std.specs.Prelude.{◌≡◌, Bool, nat_lt, ◌≤◌}
use Rattle.event_key.specs.declared.key.Key.{Key}
use Rattle.event_key.specs.Keys.{key_lt, lt_then}
use Rattle.model_core.specs.declared.note.Note.{Note}
use Rattle.model_core.specs.Meaning.{Meaning}
use Rattle.sim_spec.specs.declared.terms.Terms.{Terms}
use Rattle.sim_spec.specs.State.{State, Lawful}
use Rattle.sim_spec.specs.Run.{stops, does, next, run, Leads}

-- by stamp, then destination, then source, then serial
abbrev pub lt_without_rank : Key → Key → Bool
lt_without_rank a b = lt_then a.stamp b.stamp (lt_then a.dest b.dest (lt_then a.src b.src (nat_lt a.serial b.serial)))

abbrev pub OldOrder : Type 0
OldOrder = (a b : Key) → a.rank ≡ 0 → b.rank ≡ 0 → key_lt a b ≡ lt_without_rank a b

-- an event leaves a lawful state
abbrev pub NextLawful : Meaning → Terms → Type 0
NextLawful m t = (s : State) (told : Key × Note) (after : State) → Lawful m t s → next m t s ≡ does told after → Lawful m t after

-- a run is its events one after another, up to its stop
pub record IsWholeRun (m : Meaning) (t : Terms) (s : State) : Type 0 where
  pub leads : Leads m t s (run m t s).records (run m t s).last
  pub stop : next m t (run m t s).last ≡ stops (run m t s).stop

abbrev pub RunEnds : Meaning → Terms → Type 0
RunEnds m t = (s : State) → s.count ≤ t.limit → IsWholeRun m t s
