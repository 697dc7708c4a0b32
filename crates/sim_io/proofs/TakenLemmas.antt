-- What is known of bytes that are taken one piece after the other.
use Rattle.std.specs.Prelude.{◌≡◌, ℕ, List, [], ◌++◌, refl}
use Rattle.std.proofs.Common.{sym, ap, ◌∙◌, subst, append_assoc, append-nil}
use Rattle.std.proofs.KnownBytes.{Appends-nil as known-nil, Appends-trans as known-trans, Appends-kept as known-kept, Keeps-refl as known-refl}
use Rattle.sim_io.specs.Taken.{Taken, Appends, Keeps}

-- no bytes were added
pub Appends-nil : (taken : Taken) → Appends taken taken []
Appends-nil taken = record {
  known = known-nil taken.known;
  holds = λ bytes held. subst taken.holds (sym (append-nil bytes)) held;
}

-- some bytes were added, and then some more
pub Appends-trans : (old mid new : Taken) (bytes more : List ℕ) → Appends old mid bytes → Appends mid new more → Appends old new (bytes ++ more)
Appends-trans old mid new bytes more one two = record {
  known = known-trans old.known mid.known new.known bytes more one.known two.known;
  holds = λ all held. subst new.holds (append_assoc all bytes more) (two.holds (all ++ bytes) (one.holds all held));
}

-- some bytes were added, and then none
pub Appends-kept : (old mid new : Taken) (bytes : List ℕ) → Appends old mid bytes → Keeps mid new → Appends old new bytes
Appends-kept old mid new bytes one kept = record {
  known = known-kept old.known mid.known new.known bytes one.known kept.known;
  holds = λ all held. kept.holds (all ++ bytes) (one.holds all held);
}

pub Keeps-refl : (taken : Taken) → Keeps taken taken
Keeps-refl taken = record { known = known-refl taken.known; holds = λ bytes held. held }
