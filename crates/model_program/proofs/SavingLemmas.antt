-- What was written whole was written in part.
use Rattle.std.proofs.Common.{ℕ, List, Result, Ok, Err}
use Rattle.std.specs.Prelude.{OnOk, OnErr}
use Rattle.sim_io.specs.Taken.{Taken, Appends, Keeps}
use Rattle.sim_io.proofs.TakenLemmas.{Appends-kept}
use Rattle.sim_io.specs.Transfers.{AppendsPrefix}
use Rattle.sim_io.proofs.TransferLemmas.{all_prefix}

-- what was written, with either outcome
pub either_prefix : {T E : Type 0} (r : Result T E) (old new : Taken) (bytes : List ℕ) → OnOk r (Appends old new bytes) → OnErr r (AppendsPrefix old new bytes) → AppendsPrefix old new bytes
either_prefix (Ok x) old new bytes whole part = all_prefix old new bytes whole
either_prefix (Err e) old new bytes whole part = part

-- and a hand-on that keeps what was taken changes nothing of that
pub prefix_kept : (old mid new : Taken) (bytes : List ℕ) → AppendsPrefix old mid bytes → Keeps mid new → AppendsPrefix old new bytes
prefix_kept old mid new bytes part kept = (part.0, part.1, part.2, Appends-kept old mid new part.0 part.3 kept)
