-- What a node stands for after each thing that it does.
use Rattle.world_spec.proofs.CommitLaw.{commit_law}
use Rattle.world_spec.proofs.ReceiptLaw.{receipt_law, receipts_law}
use Rattle.world_spec.proofs.RollbackLaw.{rollback_law}
use Rattle.world_spec.proofs.StepsLaw.{advance_law, steps_law}
use Rattle.world_spec.proofs.laws.law_node.Goals as goal

pub returns-clause-steps : goal.returns-clause-steps
returns-clause-steps g c = steps_law (g.M.Model.meaning c.args.model.now) c.args.terms.now

pub returns-clause-commit : goal.returns-clause-commit
returns-clause-commit g c = commit_law (g.M.Model.meaning c.args.model.now) c.args.terms.now c.keeps_laws.ensures

pub returns-clause-receipt : goal.returns-clause-receipt
returns-clause-receipt g c = receipt_law (g.M.Model.meaning c.args.model.now) c.args.terms.now

pub returns-clause-receipts : goal.returns-clause-receipts
returns-clause-receipts g c = receipts_law

pub returns-clause-rollback : goal.returns-clause-rollback
returns-clause-rollback g c = rollback_law (g.M.Model.meaning c.args.model.now) c.args.terms.now

pub returns-clause-advance : goal.returns-clause-advance
returns-clause-advance g c = advance_law (g.M.Model.meaning c.args.model.now) c.args.terms.now
