-- Each event of a stretch is the next one of the run.
use Rattle.std.proofs.Common.{◌≡◌, ℕ, ◌++◌, ◌∷◌, List, [], Option, None, length, length-append, refl, subst, sym, ap, arith}
use Rattle.event_key.specs.declared.key.Key.{Key}
use Rattle.model_core.specs.declared.note.Note.{Note}
use Rattle.run_recorder.proofs.StretchLemmas.{leads-more}
use Rattle.sim_spec.specs.Run.{Leads}
use Rattle.sim_spec.specs.State.{State, Lawful}
use Rattle.sim_spec.proofs.LawfulLemmas.{leads-lawful}
use Rattle.sim_spec.specs.Standing.{stands}
use Rattle.one_thread.specs.Ends.{HasToldStretch}
use Rattle.one_thread.specs.Engines.{state_of}
use Rattle.one_thread.specs.Telling.{TellsAll}
use Rattle.one_thread.specs.Turns.{IsTurn}
use Rattle.one_thread.specs.declared.turn.Turn.{Turn}
use Rattle.one_thread.specs.declared.turn.Turn.TheVariants.{Does, Ends}
use Rattle.one_thread.proofs.FireLemmas.{done_below}
use Rattle.one_thread.proofs.TellingLemmas.{tells_none, tells_more}
use Rattle.one_thread.proofs.StretchLemmas.{next_done, stretch_ends, stretch_ends_so}
use Rattle.one_thread.proofs.stretch.fire_stretch.Given.{Over}
use Rattle.one_thread.proofs.stretch.fire_stretch.Goals as goal
use Rattle.one_thread.proofs.stretch.fire_stretch.Goals.{After-settle}

pub loop-key-init : goal.loop-key-init
unfolding Leads
loop-key-init g c =
    let m = g.M.Model.meaning c.args.model.now in
    record {
      so_far = [];
      leads = sym c.begin_next.ensures.state;
      told = tells_none (g.T.Recorder.holds m) c.args.into.now;
      lawful = let P : State → Type 0 = Lawful m c.args.terms.now in subst P (sym c.begin_next.ensures.state) c.requires.lawful;
      settled = c.begin_next.ensures.settled;
      begun = λ none. c.begin_next.ensures.due;
    }

pub tell-requires : goal.tell-requires
tell-requires g c =
    let m = g.M.Model.meaning c.args.model.now in
    let P : Turn → Type 0 = λ turn. IsTurn m c.args.terms.now c.loop-key.course turn c.turn.new.sheet.note c.turn.new.self in
    let done : P (Does c.in-Does.key) = subst P c.in-Does.is c.in_ok-key.ensures in
    c.requires.may _ _ _ (done_below m c.args.terms.now c.loop-key.course c.in-Does.key c.turn.new.sheet.note c.turn.new.self c.keeps_laws.ensures c.loop-key.invariant.lawful done)

pub returns-in-Ends-clause-told : goal.returns-in-Ends-clause-told
returns-in-Ends-clause-told g c =
    let m = g.M.Model.meaning c.args.model.now in
    let t = c.args.terms.now in
    let i = c.loop-key.invariant in
    let P : Turn → Type 0 = λ turn. IsTurn m t c.loop-key.course turn c.turn.new.sheet.note c.turn.new.self in
    let turn : P (Ends c.in-Ends.end) = subst P c.in-Ends.is c.in_ok-key.ensures in
    let Q : Option (Key × ℕ) → Type 0 = λ fault. HasToldStretch (g.T.Recorder.holds m) m t (stands (state_of c.args.course.now) None) c.args.into.now c.loop-key.into (stands (state_of c.turn.new.self) fault) in
    subst Q (sym c.fault.ensures) (stretch_ends_so (g.T.Recorder.holds m) m t (state_of c.args.course.now) c.loop-key.course c.turn.new.self i.so_far c.args.into.now c.loop-key.into c.in-Ends.end i.leads turn.1 i.told turn.0 i.begun)

-- the events with the one that was done
led : (g : Over) (c : After-settle g) (last : State) → last ≡ state_of c.turn.new.self → Leads (g.M.Model.meaning c.args.model.now) c.args.terms.now (state_of c.args.course.now) (c.loop-key.invariant.so_far ++ (c.in-Does.key, c.turn.new.sheet.note) ∷ []) last
led g c last same =
    let m = g.M.Model.meaning c.args.model.now in
    let t = c.args.terms.now in
    let i = c.loop-key.invariant in
    let P : Turn → Type 0 = λ turn. IsTurn m t c.loop-key.course turn c.turn.new.sheet.note c.turn.new.self in
    let done : P (Does c.in-Does.key) = subst P c.in-Does.is c.in_ok-key.ensures in
    let told : Key × Note = (c.in-Does.key, c.turn.new.sheet.note) in
    let is_next = next_done m t c.loop-key.course c.in-Does.key c.turn.new.sheet.note c.turn.new.self done in
    let L : State → Type 0 = Leads m t (state_of c.args.course.now) (i.so_far ++ told ∷ []) in
    subst L (sym same) (leads-more m t i.so_far (state_of c.args.course.now) (state_of c.loop-key.course) (state_of c.turn.new.self) told i.leads is_next)

-- are all told
all_told : (g : Over) (c : After-settle g) → TellsAll (g.T.Recorder.holds (g.M.Model.meaning c.args.model.now)) c.args.into.now (c.loop-key.invariant.so_far ++ (c.in-Does.key, c.turn.new.sheet.note) ∷ []) c.tell.new.arg2
all_told g c =
    let i = c.loop-key.invariant in
    tells_more (g.T.Recorder.holds (g.M.Model.meaning c.args.model.now)) c.args.into.now c.loop-key.into c.tell.new.arg2 i.so_far c.in-Does.key c.turn.new.sheet.note c.tell.result i.told (c.requires.does _ _ _ _ _ c.tell.ensures) c.in_ok-tell-in-Does.was

pub returns-then-count-upto-clause-told : goal.returns-then-count-upto-clause-told
returns-then-count-upto-clause-told g c =
    let m = g.M.Model.meaning c.args.model.now in
    let t = c.args.terms.now in
    let here = (goal.at.returns-then-count-upto-clause-told g c).After-settle in
    let done : List (Key × Note) = c.loop-key.invariant.so_far ++ (c.in-Does.key, c.turn.new.sheet.note) ∷ [] in
    let long = length-append c.loop-key.invariant.so_far ((c.in-Does.key, c.turn.new.sheet.note) ∷ []) in
    stretch_ends (g.T.Recorder.holds m) m t (state_of c.args.course.now) (state_of c.settle.new.self) (state_of c.settle.new.self) done c.args.into.now c.tell.new.arg2 None
    (led g here (state_of c.settle.new.self) c.in_ok-settle.ensures.state) refl (all_told g here) (λ f is. cc) (λ goes. omega (arith, long))

pub returns-then-count-upto-clause-lawful : goal.returns-then-count-upto-clause-lawful
returns-then-count-upto-clause-lawful g c =
    let here = (goal.at.returns-then-count-upto-clause-lawful g c).After-settle in
    leads-lawful (g.M.Model.meaning c.args.model.now) c.args.terms.now (c.loop-key.invariant.so_far ++ (c.in-Does.key, c.turn.new.sheet.note) ∷ []) (state_of c.args.course.now) (state_of c.settle.new.self) c.keeps_laws.ensures c.requires.lawful (led g here (state_of c.settle.new.self) c.in_ok-settle.ensures.state)

pub loop-key-preserved : goal.loop-key-preserved
loop-key-preserved g c =
    let here = (goal.at.loop-key-preserved g c).After-settle in
    let told : Key × Note = (c.in-Does.key, c.turn.new.sheet.note) in
    record {
      so_far = c.loop-key.invariant.so_far ++ told ∷ [];
      leads = led g here (state_of c.settle.new.self) c.in_ok-settle.ensures.state;
      told = all_told g here;
      lawful = leads-lawful (g.M.Model.meaning c.args.model.now) c.args.terms.now _ (state_of c.args.course.now) (state_of c.settle.new.self) c.keeps_laws.ensures c.requires.lawful (led g here (state_of c.settle.new.self) c.in_ok-settle.ensures.state);
      settled = c.in_ok-settle.ensures.settled;
      begun = λ none. let long = ap length none in let more = length-append c.loop-key.invariant.so_far (told ∷ []) in absurd (omega (arith, long, more));
    }

pub loop-key-smaller : goal.loop-key-smaller
loop-key-smaller g c =
    let m = g.M.Model.meaning c.args.model.now in
    let P : Turn → Type 0 = λ turn. IsTurn m c.args.terms.now c.loop-key.course turn c.turn.new.sheet.note c.turn.new.self in
    let done : P (Does c.in-Does.key) = subst P c.in-Does.is c.in_ok-key.ensures in
    let same = ap (λ (s : State). s.count) c.in_ok-settle.ensures.state in
    let count = done.count in
    let free = done.went.free in
    omega (arith, same, count, free)
