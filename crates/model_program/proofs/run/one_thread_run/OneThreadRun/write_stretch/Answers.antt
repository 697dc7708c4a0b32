-- A stretch of the engine that is told in lines is one of the run, which tells where it stands then.
use Rattle.std.proofs.Common.{◌<◌, [], refl, sym, ap, subst, rules}
use Rattle.run_recorder.specs.Stretches.{IsStretch}
use Rattle.sim_spec.specs.Standing.{Standing}
use Rattle.model_program.proofs.RunLemmas.{tells, no_lines, lines_more}
use Rattle.model_program.proofs.run.one_thread_run.OneThreadRun.write_stretch.Goals as goal

pub tell_stretch-requires-clause-may : goal.tell_stretch-requires-clause-may
tell_stretch-requires-clause-may g c lifetimes outlives = λ t model key note same below.
    let P : g.row.M.Denot → Type 0 = λ x. key.now.dest < (g.M.Model.meaning x).objects in
    (subst P (sym same) below, (search rules, search rules))

pub tell_stretch-requires-clause-does : goal.tell_stretch-requires-clause-does
tell_stretch-requires-clause-does g c lifetimes outlives = λ t model key note r f same post before holds.
    lines_more r (g.M.Model.meaning c.args.self.now.engine.model) (g.M.Model.meaning model.now) before key.now note.now t.now f.now (ap g.M.Model.meaning same) holds (search rules)

pub returns : goal.returns
returns g c =
    let old = c.args.self.now.engine in
    let new = c.tell_stretch.new.self in
    let told = c.in_ok-tell_stretch.ensures.told in
    let P : Standing → Type 0 = λ s. IsStretch (g.M.Model.meaning old.model) old.terms s told.done new.standing in
    record {
      done = told.done;
      does = λ at standing more. record {
        left = new.standing;
        stands = (refl, tells _ _ new.standing _ _ _ _ refl refl c.ended-self.ensures refl c.count-self.ensures.standing);
        stretch = subst P standing.0 told.stretch;
        same_meaning = ap g.M.Model.meaning c.tell_stretch.ensures.model;
        same_terms = c.tell_stretch.ensures.terms;
      };
      told = told.told [] (no_lines (g.M.Model.meaning old.model) c.args.lines.now c.requires.empty);
    }
