-- A demo runs to its end.
use Rattle.subject_laws.proofs.RingLemmas.RingLaw.{ring_law}
use Rattle.subject_laws.proofs.ring.law_ring.Goals as goal

pub returns : goal.returns
returns c = ring_law
