use Rattle.std.proofs.Common.{◌∙◌, ap, sym, arith}
use Rattle.model_core.specs.declared.entry.Entry.{Entry}
use Rattle.phold_model.specs.Meaning.{phold_meaning, hop_start}
use Rattle.phold_model.specs.Starts.{length-starts_of, starts_of-early, starts_of-late}
use Rattle.phold_model.specs.Views.{parts_of}
use Rattle.phold_model.proofs.phold.PholdSimulationModel.start.Goals as goal

pub returns-then-i-early : goal.returns-then-i-early
unfolding phold_meaning
returns-then-i-early c = c.hop_start.ensures ∙ sym (starts_of-early (parts_of c.args.self.now) c.args.i _ c.if-i-early.true)

pub index-entry-requires : goal.index-entry-requires
unfolding phold_meaning
index-entry-requires c = omega (arith, length-starts_of (parts_of c.args.self.now), c.requires)

pub returns : goal.returns
unfolding phold_meaning
returns c =
    c.hop_start-2.ensures ∙ ap (λ (entry : Entry). hop_start entry.time entry.at entry.rank) c.index-entry.ensures
    ∙ sym (starts_of-late (parts_of c.args.self.now) c.args.i _ _ c.if-i-early.false c.requires)
