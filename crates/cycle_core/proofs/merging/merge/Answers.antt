use Rattle.std.proofs.Common.{◌∙◌, eqb-true, sym}
use Rattle.cycle_core.proofs.CyclingLemmas.{permutes-same}
use Rattle.cycle_core.proofs.GivenLemmas.{given-none}
use Rattle.cycle_core.proofs.MergeLemmas.{in-order-none}
use Rattle.cycle_core.proofs.SentLemmas.{told_by-none}
use Rattle.cycle_core.proofs.merging.merge.Goals as goal

pub returns-then-is_empty-clause-permutes : goal.returns-then-is_empty-clause-permutes
returns-then-is_empty-clause-permutes c = permutes-same _ _ (c.clear.ensures ∙ sym (told_by-none c.args.committed.now (eqb-true _ 0 (sym c.is_empty.ensures ∙ c.if-is_empty.true))))

pub returns-then-is_empty-clause-ordered : goal.returns-then-is_empty-clause-ordered
returns-then-is_empty-clause-ordered c = in-order-none _ c.clear.ensures

pub returns-then-is_empty-clause-given : goal.returns-then-is_empty-clause-given
returns-then-is_empty-clause-given c = given-none c.args.committed.now (eqb-true _ 0 (sym c.is_empty.ensures ∙ c.if-is_empty.true))
