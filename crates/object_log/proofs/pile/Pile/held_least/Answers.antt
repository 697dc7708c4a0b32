-- Where there is none, nothing is held.
use Rattle.std.proofs.Common.{sym, ap, ◌∙◌}
use Rattle.object_log.specs.Rows.{PileView, dones_of}
use Rattle.object_log.proofs.HeldLemmas.{least-idle}
use Rattle.object_log.proofs.pile.Pile.held_least.Goals as goal

pub returns-in-None : goal.returns-in-None
returns-in-None c = least-idle c.args.self.now.done (sym (ap (λ (v : PileView). v.done) c.self.view_is) ∙ ap dones_of c.in-None.is)
