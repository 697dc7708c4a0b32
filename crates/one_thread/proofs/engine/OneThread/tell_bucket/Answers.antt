-- A cycle of the engine is a bucket of its simulation, of which all is told.
use Rattle.std.proofs.Common.{ℕ, ◌<◌, Option, ap, subst, sym, ◌∙◌}
use Rattle.std.specs.Arc.{arc_value}
use Rattle.event_key.specs.declared.key.Key.{Key}
use Rattle.sim_spec.specs.Standing.{IsLawfulStanding, stands}
use Rattle.one_thread.specs.Ends.{HasTold}
use Rattle.one_thread.specs.Engines.{Course, EngineView, IsReady, standing_of, state_of}
use Rattle.one_thread.specs.Telling.{TellsOne}
use Rattle.one_thread.proofs.EngineLemmas.{told_given, lawful_at, spent_lawful, stands_lawful}
use Rattle.one_thread.proofs.engine.OneThread.tell_bucket.Goals as goal

pub returns-in_default-clause-refused : goal.returns-in_default-clause-refused
returns-in_default-clause-refused g c = ap (λ place. standing_of place c.self.inside.fault) c.in_default.is

pub fire_bucket-requires-clause-lawful : goal.fire_bucket-requires-clause-lawful
fire_bucket-requires-clause-lawful g c lives lasts =
    lawful_at (g.M.Model.meaning (arc_value c.self.inside.model)) _ c.self.inside.terms c.self.inside.course c.self.inside.fault c.in-Some.course c.self.invariant.0 c.in-Some.is (ap g.M.Model.meaning c.deref.ensures)

pub fire_bucket-requires-clause-may : goal.fire_bucket-requires-clause-may
fire_bucket-requires-clause-may g c lives lasts = λ t key note below.
    let same = c.deref.ensures ∙ ap (λ (v : EngineView g.row.M.Denot). v.model) c.self.view_is in
    let P : g.row.M.Denot → Type 0 = λ x. key.now.dest < (g.M.Model.meaning x).objects in
    c.requires.may t _ key note same (subst P same below)

pub fire_bucket-requires-clause-does : goal.fire_bucket-requires-clause-does
fire_bucket-requires-clause-does g c lives lasts = λ t key note r f post.
    let same = c.deref.ensures ∙ ap (λ (v : EngineView g.row.M.Denot). v.model) c.self.view_is in
    let P : g.row.M.Denot → Type 0 = λ x. TellsOne (g.T.Recorder.holds (g.M.Model.meaning x)) t.now key.now note.now r f.now in
    subst P (sym same) (c.requires.does t _ key note r f same post)

pub invariant_of-self-in-Ok : goal.invariant_of-self-in-Ok
invariant_of-self-in-Ok g c = (
  stands_lawful (g.M.Model.meaning (arc_value c.self.inside.model)) _ c.self.inside.terms (state_of c.fire_bucket.new.course) c.fault-self-inside.result (ap g.M.Model.meaning c.deref.ensures) c.in-Ok.ensures.lawful,
  c.in-Ok.ensures.settled,
)

pub invariant_of-self-in-Err : goal.invariant_of-self-in-Err
invariant_of-self-in-Err g c =
    let meaning = g.M.Model.meaning (arc_value c.self.inside.model) in
    let P : Option Course → Type 0 = λ place. IsLawfulStanding meaning c.self.inside.terms (standing_of place c.self.inside.fault) in
    (subst P (sym c.spend.ensures) (spent_lawful meaning c.self.inside.terms), subst IsReady (sym c.spend.ensures) tt)

pub returns-in-Ok-clause-told : goal.returns-in-Ok-clause-told
returns-in-Ok-clause-told g c =
    let meaning = g.M.Model.meaning c.args.self.now.model in
    let P : Option (Key × ℕ) → Type 0 = λ fault. HasTold (g.T.Recorder.holds meaning) meaning c.args.self.now.terms c.args.self.now.standing c.args.into.now c.in-Ok.end c.fire_bucket.new.into
    (stands (state_of c.fire_bucket.new.course) fault) in
    subst P (sym c.fault-self-inside.ensures)
    (told_given g.M.Model.meaning g.T.Recorder.holds c.args.self.now (arc_value c.self.inside.model) c.deref.result.now c.self.inside.terms c.self.inside.course c.self.inside.fault c.in-Some.course c.fire_bucket.new.course
    c.args.into.now c.fire_bucket.new.into c.in-Ok.end c.self.view_is c.in-Some.is c.deref.ensures c.requires.goes_on c.in-Ok.ensures.end c.in-Ok.ensures.told c.in-Ok.ensures.after)

pub returns-in-Err-clause-refused : goal.returns-in-Err-clause-refused
returns-in-Err-clause-refused g c = ap (λ place. standing_of place c.self.inside.fault) c.spend.ensures
