-- What was handed on of a text.
use Rattle.std.specs.Prelude.{Result, OnOk, IsErrOf}
use Rattle.sim_io.specs.Taken.{Keeps}
use Rattle.sim_io.specs.declared.streams.sink.Sink.{Ghosts as Sink}
use Rattle.sim_text.specs.declared.unfinished.Unfinished.{Unfinished}
use Rattle.sim_text.specs.declared.unfinished.Unfinished.TheVariants.{OutOfMemory}

-- unless a write failed, all that was taken is handed on
pub record HandsOn {K T : Type 0} (sink : Sink K) (new : K) (result : Result T Unfinished) : Type 0 where
  pub whole : OnOk result (Keeps (sink.told new) (sink.handed new))
  pub no_memory : IsErrOf result OutOfMemory → Keeps (sink.told new) (sink.handed new)
