-- What is told is the lines of the events, or what a simulation cycle by cycle tells.
use Rattle.std.proofs.Common.{◌≡◌, refl, rules, sym, ap, subst, ◌∙◌}
use Rattle.sim_spec.specs.State.{initial_state}
use Rattle.sim_text.specs.declared.telling.Telling.{Telling}
use Rattle.sim_text.specs.declared.telling.Telling.TheVariants.{Lines}
use Rattle.sim_text.specs.Written.{HasSimulated}
use Rattle.model_program.proofs.run.running.tell_one_thread.Goals as goal

pub tell_lines-requires-clause-begins : goal.tell_lines-requires-clause-begins
tell_lines-requires-clause-begins g c lifetimes outlives = record { lawful = c.law_initial.ensures; stands = c.requires.begins }

pub returns-in-Lines-false : goal.returns-in-Lines-false
returns-in-Lines-false g c =
    let m = g.M.Model.meaning c.args.model.now in
    let lines = g.L.Tally.lines c.args.model.now c.args.terms.now in
    let P : Telling → Type 0 = λ x. HasSimulated g.K.Sink c.args.out.now c.tell_lines.new.out c.tell_lines.result m c.args.terms.now lines x (initial_state m) in
    subst P (sym (c.in-Lines-false.is ∙ ap Lines c.in-Lines-false.cycles-test)) (c.tell_lines.ensures lines)

pub returns : goal.returns
returns g c =
    let m = g.M.Model.meaning c.args.model.now in
    let lines = g.L.Tally.lines c.args.model.now c.args.terms.now in
    let same : c.match-telling.telling ≡ c.args.telling = search rules in
    let P : Telling → Type 0 = λ x. HasSimulated g.K.Sink c.args.out.now c.simulate.new.sink c.simulate.result m c.args.terms.now lines x (initial_state m) in
    subst P same (c.simulate.ensures (initial_state m) (record { lawful = c.law_initial.ensures; stands = c.requires.begins }) (λ is. refl))
