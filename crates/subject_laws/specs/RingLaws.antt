-- A demo: jobs go round a ring of stations and delays.
use Rattle.std.specs.Prelude.{◌≡◌, ℕ, ◌<◌, ◌≤◌}
use Rattle.model_core.specs.declared.limits.TheConstants.{MOST_DEMO_STATIONS}
use Rattle.model_core.specs.declared.words.TheConstants.{LOST_WORD}
use Rattle.sim_spec.specs.declared.stop.Stop.TheVariants.{End}
use Rattle.sim_spec.specs.State.{State, initial_state}
use Rattle.sim_spec.specs.Run.{Run, run}
use Rattle.queue_models.specs.Meaning.{plain_meaning, network_meaning}
use Rattle.queue_models.specs.Rings.{ring_parts, ring_terms}
use Rattle.run_laws.specs.Reached.{Reaches}
use Rattle.subject_laws.specs.LossLaws.{IsToldBy}

-- the run of a demo
abbrev pub ring_run : ℕ → Run
ring_run n = run (network_meaning (ring_parts n)) ring_terms (initial_state (network_meaning (ring_parts n)))

-- it stops at its end, after few events, and no job is lost on the way
pub record RunsToItsEnd (n : ℕ) : Type 0 where
  pub stop : (ring_run n).stop ≡ End
  pub few : (ring_run n).last.count < 400000
  pub none_lost : (s : State) → Reaches (network_meaning (ring_parts n)) ring_terms s
      → IsToldBy (plain_meaning (ring_parts n)) ring_terms s LOST_WORD → ⊥

abbrev pub RingsRunToTheirEnd : Type 0
RingsRunToTheirEnd = (n : ℕ) → 1 ≤ n → n ≤ MOST_DEMO_STATIONS → RunsToItsEnd n
