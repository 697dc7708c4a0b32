-- What contracts see of a sink that gathers what it takes.
use Rattle.std.specs.Prelude.{◌≡◌, ℕ, List, [], ◌++◌, None, Some, Option, refl}
use Rattle.std.proofs.Common.{sym, subst, append_assoc, append-nil}
use Rattle.std.specs.Io.KnownBytes.{Appends as AppendsKnown, append_known}
use Rattle.std.proofs.KnownBytes.{Appends-nil, Appends-trans}
use Rattle.sim_io.specs.Taken.{Taken, append_taken}
use Rattle.sim_io.specs.Transfers.{KeepsBackSome}

-- the sink behind it, and the bytes that it keeps back
pub record Gathering (K : Type 0) : Type 0 where
  pub inner : K
  pub gathered : List ℕ

-- a sink that has handed on all that it took keeps nothing back
pub nothing_back : (taken : Taken) → KeepsBackSome taken taken
nothing_back taken = (
  [],
  record {
    known = Appends-nil taken.known;
    holds = λ bytes held. subst taken.holds (sym (append-nil bytes)) held;
  },
)

appends_known : (told : Option (List ℕ)) (gathered : List ℕ) → AppendsKnown told (append_known told gathered) gathered
appends_known None gathered = tt
appends_known (Some bytes) gathered = refl

-- what is gathered comes behind what the sink behind it keeps back
pub gathered_last : (told handed : Taken) (gathered : List ℕ) → KeepsBackSome told handed → KeepsBackSome (append_taken told gathered) handed
gathered_last told handed gathered back = (
  back.0 ++ gathered,
  record {
    known = Appends-trans handed.known told.known (append_known told.known gathered) back.0 gathered back.1.known (appends_known told.known gathered);
    holds = λ bytes held. (bytes ++ back.0, back.1.holds bytes held, sym (append_assoc bytes back.0 gathered));
  },
)
