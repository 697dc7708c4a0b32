-- What a sink that gathers has taken, once some of that is handed on.
use Rattle.std.proofs.Common.{◌≡◌, ℕ, List, [], ◌∷◌, ◌++◌, length, take, Result, Ok, Err, IsErrAnd, refl, sym, ap, ◌∙◌, subst, append_assoc, append-nil}
use Rattle.std.proofs.KnownBytes.{Keeps-trans as known-trans, append_known-kept, append_known-moved, append_known-grown, append_known-passed}
use Rattle.std.specs.Io.KnownBytes.{Appends as AppendsKnown, append_known}
use Rattle.sim_io.specs.Taken.{Taken, Appends, Keeps, WriteAppends, append_taken}
use Rattle.sim_io.specs.Transfers.{AppendsSome}

-- the front of what was gathered was handed on, and the rest is gathered still
pub handed_on : (old new : Taken) (before rest : List ℕ) → AppendsSome old new before rest → Keeps (append_taken old before) (append_taken new rest)
handed_on old new before rest some = record {
  known = append_known-moved old.known new.known some.0 rest before some.1.known some.2;
  holds = λ all held. (held.0 ++ some.0, some.1.holds held.0 held.1, held.2 ∙ ap (λ l. held.0 ++ l) some.2 ∙ sym (append_assoc held.0 some.0 rest));
}

-- what stays as it was, and is kept after that
pub kept_on : (old mid new : Taken) (rest : List ℕ) → Keeps old (append_taken mid rest) → Keeps mid new → Keeps old (append_taken new rest)
kept_on old mid new rest one two = record {
  known = known-trans old.known (append_taken mid rest).known (append_taken new rest).known one.known (append_known-kept mid.known new.known rest two.known);
  holds = λ all held. let was = one.holds all held in (was.0, two.holds was.0 was.1, was.2);
}

-- these bytes were gathered
pub gathers : (old mid : Taken) (before bytes after : List ℕ) → Keeps old (append_taken mid before) → after ≡ before ++ bytes → Appends old (append_taken mid after) bytes
gathers old mid before bytes after kept is = record {
  known = append_known-grown old.known mid.known before after bytes kept.known is;
  holds = λ all held. let was = kept.holds all held in (was.0, was.1, ap (λ l. l ++ bytes) was.2 ∙ append_assoc was.0 before bytes ∙ ap (λ l. was.0 ++ l) (sym is));
}

-- nothing was gathered any more, and the sink behind took these bytes
pub passes_on : (old mid new : Taken) (rest bytes : List ℕ) → Keeps old (append_taken mid rest) → rest ≡ [] → Appends mid new bytes → Appends old (append_taken new rest) bytes
passes_on old mid new rest bytes kept none took = record {
  known = subst (AppendsKnown old.known (append_known new.known rest)) (append-nil bytes)
      (append_known-passed old.known mid.known new.known rest rest bytes [] kept.known none took.known (sym (append-nil rest)));
  holds = λ all held. let was = kept.holds all held in (
    was.0 ++ bytes,
    took.holds was.0 was.1,
    ap (λ l. l ++ bytes) (was.2 ∙ ap (λ l. was.0 ++ l) none ∙ append-nil was.0) ∙ sym (append-nil (was.0 ++ bytes)) ∙ ap (λ l. (was.0 ++ bytes) ++ l) (sym none),
  );
}

-- so it is with a write, which may take some bytes
pub passes_write : {E : Type 0} (old mid new : Taken) (rest bytes : List ℕ) (r : Result ℕ E) → Keeps old (append_taken mid rest) → rest ≡ [] → WriteAppends mid new r bytes
    → WriteAppends old (append_taken new rest) r bytes
passes_write old mid new rest bytes (Ok n) kept none took = passes_on old mid new rest (take n bytes) kept none took
passes_write old mid new rest bytes (Err e) kept none took = kept_on old mid new rest kept took

-- a failed write takes nothing
pub failed_write : {E : Type 0} (old new : Taken) (bytes : List ℕ) (r : Result ℕ E) (Q : E → Type 0) → IsErrAnd r Q → Keeps old new → WriteAppends old new r bytes
failed_write old new bytes (Ok n) Q is kept = absurd is
failed_write old new bytes (Err e) Q is kept = kept

pub is_empty : (xs : List ℕ) → length xs ≡ 0 → xs ≡ []
is_empty [] none = refl
is_empty (x ∷ xs) none = absurd (let clash : ⊥ = cc in clash)
