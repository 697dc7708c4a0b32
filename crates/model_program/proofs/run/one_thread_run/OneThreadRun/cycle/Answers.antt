-- A cycle of the engine is one of the run, which tells where it stands then.
use Rattle.std.proofs.Common.{refl, ap, ◌∙◌, subst}
use Rattle.one_thread.specs.Engines.{EngineView}
use Rattle.sim_spec.specs.Standing.{CycleGives}
use Rattle.model_program.proofs.RunLemmas.{tells}
use Rattle.model_program.proofs.run.one_thread_run.OneThreadRun.cycle.Goals as goal

pub returns : goal.returns
returns g c = λ at standing more.
    let old = c.args.self.now.engine in
    let new = c.bucket-bucket.new.self in
    let same = c.reuse_room.ensures in
    let P : EngineView g.row.M.Denot → _ = λ e. CycleGives (g.M.Model.meaning e.model) e.terms e.standing c.bucket-bucket.result new.standing in
    let gives = subst P same c.bucket-bucket.ensures.gives in
    record {
      left = new.standing;
      stands = (refl, tells _ _ new.standing _ c.new.result _ _ refl c.new.ensures.ended c.ended.ensures c.new.ensures.count c.count.ensures.standing);
      gives = subst (λ s. CycleGives (g.M.Model.meaning old.model) old.terms s c.bucket-bucket.result new.standing) standing.0 gives;
      same_meaning = ap g.M.Model.meaning (c.bucket-bucket.ensures.model ∙ ap (λ (e : EngineView g.row.M.Denot). e.model) same);
      same_terms = c.bucket-bucket.ensures.terms ∙ ap (λ (e : EngineView g.row.M.Denot). e.terms) same;
    }
