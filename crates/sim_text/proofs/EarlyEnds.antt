-- A simulation that ends before its time.
use Rattle.std.proofs.Common.{◌≡◌, List, Result}
use Rattle.std.specs.Prelude.{IsErrAnd}
use Rattle.sim_io.specs.Taken.{Appends}
use Rattle.model_core.specs.Meaning.{Meaning}
use Rattle.sim_spec.specs.declared.bucket.Bucket.{Bucket}
use Rattle.sim_spec.specs.declared.stop.Stop.{Stop}
use Rattle.sim_spec.specs.declared.terms.Terms.{Terms}
use Rattle.sim_spec.specs.Standing.{Standing}
use Rattle.sim_spec.specs.State.{State}
use Rattle.run_tally.specs.Tallies.{TotalsOf}
use Rattle.sim_io.specs.declared.streams.sink.Sink.{Ghosts as Sink}
use Rattle.sim_text.specs.declared.telling.Telling.{Telling}
use Rattle.sim_text.specs.declared.unfinished.Unfinished.{Unfinished}
use Rattle.sim_text.specs.declared.unfinished.Unfinished.TheVariants.{OutOfMemory}
use Rattle.sim_text.specs.SoFar.{lines_so_far}
use Rattle.sim_text.specs.Written.{HasSimulated}
use Rattle.sim_text.proofs.Told.{told-prefix}
use Rattle.sim_text.proofs.UnderWay.{RunsOn}
use Rattle.sim_text.proofs.WrittenLemmas.{simulated_before}

-- no memory was left, once the buckets so far were told
pub simulated_early : {K : Type 0} (sink : Sink K) (old new : K) (m : Meaning) (t : Terms) (totals : TotalsOf) (telling : Telling) (from : State)
    {E : Type 0} (StandsIn : E → Standing → Type 0) (engine : E)
    (so_far : List Bucket) (result : Result Stop Unfinished) → RunsOn m t StandsIn engine so_far from → IsErrAnd result (λ e. e ≡ OutOfMemory)
    → Appends (sink.told old) (sink.told new) (lines_so_far m telling so_far) → sink.faults new ≡ sink.faults old
    → HasSimulated sink old new result m t totals telling from
simulated_early sink old new m t totals telling from StandsIn engine so_far result r lacks told same =
    simulated_before sink old new m t totals telling from result lacks
    (told-prefix m t totals from telling (sink.told old) (sink.told new) so_far told _ r.way.buckets) same
