-- The bucket grows event by event, and ends as the definition ends it.
use Rattle.std.proofs.Common.{◌++◌, ◌∷◌, List, [], refl, ap, subst, arith}
use Rattle.event_key.specs.declared.key.Key.{Key}
use Rattle.model_core.specs.declared.note.Note.{Note}
use Rattle.sim_spec.specs.declared.bucket.Bucket.{Bucket}
use Rattle.sim_spec.specs.State.{State}
use Rattle.one_thread.specs.Ends.{bucket_of}
use Rattle.one_thread.specs.Engines.{state_of}
use Rattle.one_thread.specs.Telling.{TellsAll}
use Rattle.one_thread.specs.Turns.{IsTurn}
use Rattle.one_thread.specs.declared.turn.Turn.{Turn}
use Rattle.one_thread.specs.declared.turn.Turn.TheVariants.{Does, Ends}
use Rattle.one_thread.proofs.FireLemmas.{done_below}
use Rattle.one_thread.proofs.TellingLemmas.{tells_none, tells_more}
use Rattle.one_thread.proofs.UnderWay.{UnderWay, HasEnded, has_ended, cut_ended, begins, stays, lawful_in, goes}
use Rattle.one_thread.proofs.bucket.fire_bucket.Given.{Over}
use Rattle.one_thread.proofs.bucket.fire_bucket.Goals as goal
use Rattle.one_thread.proofs.bucket.fire_bucket.Goals.{After-turn, In-Ends}

pub loop-course-init : goal.loop-course-init
loop-course-init g c =
    let m = g.M.Model.meaning c.args.model.now in
    record {
      so_far = [];
      way = begins m c.args.terms.now (state_of c.args.course.now) [] c.merge.new.self refl c.merge.ensures.state c.merge.ensures.fresh c.requires.lawful;
      told = tells_none (g.T.Recorder.holds m) c.args.into.now;
    }

-- the course, once it is settled, is under way
settled : (g : Over) (c : After-turn g) → UnderWay (g.M.Model.meaning c.args.model.now) c.args.terms.now (state_of c.args.course.now) c.loop-course.invariant.so_far c.settle.new.self
settled g c =
    let i = c.loop-course.invariant in
    stays (g.M.Model.meaning c.args.model.now) c.args.terms.now (state_of c.args.course.now) i.so_far c.loop-course.course c.settle.new.self i.way c.in_ok-settle.ensures.state c.in_ok-settle.ensures.fresh

pub turn-requires-clause-lawful : goal.turn-requires-clause-lawful
turn-requires-clause-lawful g c lives lasts =
    let m = g.M.Model.meaning c.args.model.now in
    let i = c.loop-course.invariant in
    let here = stays m c.args.terms.now (state_of c.args.course.now) i.so_far c.loop-course.course c.settle.new.self i.way c.in_ok-settle.ensures.state c.in_ok-settle.ensures.fresh in
    lawful_in m c.args.terms.now (state_of c.args.course.now) i.so_far c.settle.new.self here

pub tell-requires : goal.tell-requires
tell-requires g c =
    let m = g.M.Model.meaning c.args.model.now in
    let here = settled g (goal.at.tell-requires g c).After-turn in
    let P : Turn → Type 0 = λ turn. IsTurn m c.args.terms.now c.settle.new.self turn c.turn.new.sheet.note c.turn.new.self in
    let done : P (Does c.in-Does.key) = subst P c.in-Does.is c.in_ok-key.ensures in
    let lawful = lawful_in m c.args.terms.now (state_of c.args.course.now) c.loop-course.invariant.so_far c.settle.new.self here in
    c.requires.may _ _ _ (done_below m c.args.terms.now c.settle.new.self c.in-Does.key c.turn.new.sheet.note c.turn.new.self c.keeps_laws.ensures lawful done)

pub loop-course-preserved : goal.loop-course-preserved
loop-course-preserved g c =
    let m = g.M.Model.meaning c.args.model.now in
    let i = c.loop-course.invariant in
    let here = settled g (goal.at.loop-course-preserved g c).After-turn in
    let P : Turn → Type 0 = λ turn. IsTurn m c.args.terms.now c.settle.new.self turn c.turn.new.sheet.note c.turn.new.self in
    let done : P (Does c.in-Does.key) = subst P c.in-Does.is c.in_ok-key.ensures in
    let now : List (Key × Note) = i.so_far ++ (c.in-Does.key, c.turn.new.sheet.note) ∷ [] in
    record {
      so_far = now;
      way = goes m c.args.terms.now (state_of c.args.course.now) i.so_far now c.settle.new.self c.turn.new.self c.in-Does.key c.turn.new.sheet.note c.keeps_laws.ensures here done refl;
      told = tells_more (g.T.Recorder.holds m) c.args.into.now c.loop-course.into c.tell.new.arg2 i.so_far c.in-Does.key c.turn.new.sheet.note c.tell.result i.told (c.requires.does _ _ _ _ _ c.tell.ensures) c.in_ok-tell-in-Does.was;
    }

pub loop-course-smaller : goal.loop-course-smaller
loop-course-smaller g c =
    let m = g.M.Model.meaning c.args.model.now in
    let P : Turn → Type 0 = λ turn. IsTurn m c.args.terms.now c.settle.new.self turn c.turn.new.sheet.note c.turn.new.self in
    let done : P (Does c.in-Does.key) = subst P c.in-Does.is c.in_ok-key.ensures in
    let same = ap (λ (s : State). s.count) c.in_ok-settle.ensures.state in
    let count = done.count in
    let free = done.went.free in
    omega (arith, same, count, free)

-- the bucket as it ends
ended : (g : Over) (c : In-Ends g) → HasEnded (g.M.Model.meaning c.args.model.now) c.args.terms.now (state_of c.args.course.now) (bucket_of c.loop-course.invariant.so_far c.in-Ends.end) c.turn.new.self
ended g c =
    let m = g.M.Model.meaning c.args.model.now in
    let here = settled g (goal.at.In-Ends g c).After-turn in
    let P : Turn → Type 0 = λ turn. IsTurn m c.args.terms.now c.settle.new.self turn c.turn.new.sheet.note c.turn.new.self in
    let turn : P (Ends c.in-Ends.end) = subst P c.in-Ends.is c.in_ok-key.ensures in
    has_ended m c.args.terms.now (state_of c.args.course.now) c.loop-course.invariant.so_far c.settle.new.self c.turn.new.self c.in-Ends.end here c.in_ok-settle.ensures.settled turn.0 turn.1

pub returns-in-Ends-clause-end : goal.returns-in-Ends-clause-end
returns-in-Ends-clause-end g c = cut_ended _ _ _ _ c.in-Ends.end _ (ended g (goal.at.returns-in-Ends-clause-end g c).In-Ends)

pub returns-in-Ends-clause-told : goal.returns-in-Ends-clause-told
returns-in-Ends-clause-told g c =
    subst (λ (b : Bucket). TellsAll (g.T.Recorder.holds (g.M.Model.meaning c.args.model.now)) c.args.into.now b.done c.loop-course.into) (ended g (goal.at.returns-in-Ends-clause-told g c).In-Ends).leaves.is_cut c.loop-course.invariant.told

pub returns-in-Ends-clause-after : goal.returns-in-Ends-clause-after
returns-in-Ends-clause-after g c = (ended g (goal.at.returns-in-Ends-clause-after g c).In-Ends).leaves.is_after

pub returns-in-Ends-clause-lawful : goal.returns-in-Ends-clause-lawful
returns-in-Ends-clause-lawful g c = (ended g (goal.at.returns-in-Ends-clause-lawful g c).In-Ends).leaves.lawful

pub returns-in-Ends-clause-settled : goal.returns-in-Ends-clause-settled
returns-in-Ends-clause-settled g c = (ended g (goal.at.returns-in-Ends-clause-settled g c).In-Ends).settled
