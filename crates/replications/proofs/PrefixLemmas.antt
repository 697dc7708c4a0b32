-- What was written of a text where there is no result.
use Rattle.std.proofs.Common.{ℕ, List, Result, Ok, Err}
use Rattle.std.specs.Prelude.{IsErrAnd}
use Rattle.sim_io.specs.declared.streams.sink.Sink.{Ghosts as Sink}
use Rattle.sim_io.specs.Taken.{Keeps}
use Rattle.sim_io.specs.Transfers.{AppendsPrefix}
use Rattle.sim_io.proofs.TakenLemmas.{Appends-kept}
use Rattle.sim_io.proofs.TransferLemmas.{all_prefix}
use Rattle.sim_text.specs.declared.unfinished.Unfinished.{Unfinished}
use Rattle.sim_text.specs.Written.{WritesText}

-- a prefix of it
pub cut_short : {K T : Type 0} (P : Unfinished → Type 0) (sink : Sink K) (old new : K) (r : Result T Unfinished) (text : List ℕ) → IsErrAnd r P
    → AppendsPrefix (sink.told old) (sink.told new) text → WritesText sink old new r text
cut_short P sink old new (Ok value) text is part = absurd is
cut_short P sink old new (Err e) text is part = record { whole = tt; prefix = part }

-- nor more of it once a sink could hand on no more
module _ {K T : Type 0} (sink : Sink K) (before old new : K) (text : List ℕ) (kept : Keeps (sink.told old) (sink.told new)) where
  kept_prefix : (outcome : Result T Unfinished) → WritesText sink before old outcome text → AppendsPrefix (sink.told before) (sink.told new) text
  kept_prefix (Ok value) written = all_prefix _ _ _ (Appends-kept _ _ _ _ written.whole kept)
  kept_prefix (Err e) written =
      let part = written.prefix in
      (part.0, part.1, part.2, Appends-kept _ _ _ _ part.3 kept)

  pub cut_back : (P : Unfinished → Type 0) (outcome r : Result T Unfinished) → IsErrAnd r P → WritesText sink before old outcome text → WritesText sink before new r text
  cut_back P outcome r is written = cut_short P sink before new r text is (kept_prefix outcome written)
