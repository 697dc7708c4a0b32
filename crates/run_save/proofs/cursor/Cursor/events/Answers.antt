-- What was read, and what is still read.
use Rattle.std.proofs.Common.{◌≡◌, ◌++◌, ◌∷◌, ◌-◌, [], List, Option, None, Ok, length, ap, subst, ◌∙◌}
use Rattle.std.specs.Prelude.{slice_get, option_copied}
use Rattle.std.proofs.lemmas.Result.{err_from_is_err_and}
use Rattle.model_core.specs.declared.event.Event.{Event}
use Rattle.run_save.specs.Lines.{event}
use Rattle.run_save.specs.Checks.{Fails}
use Rattle.run_save.specs.Rests.{in_turn}
use Rattle.run_save.specs.Views.{rest_of}
use Rattle.run_save.proofs.InTurnLemmas.{last_of, goes_on, ends, is_done}
use Rattle.run_save.proofs.cursor.Cursor.events.Goals as goal

pub returns-in_err-event : goal.returns-in_err-event
returns-in_err-event c =
    let last : option_copied c.last.result ≡ last_of c.loop.events.items = c.last.ensures.value ∙ ap (λ (es : List Event). slice_get es (length es - 1)) c.deref.ensures.value in
    let failed = err_from_is_err_and c.from_residual-in_err-event.result c.from_residual-in_err-event.ensures.1 in
    rw (failed.1, failed.2) (ends event c.in_err-event.field-0.0 c.loop.events.items c.args.count c.loop.counter (rest_of c.loop.self) (in_turn event None c.args.count (rest_of c.args.self.now)) c.loop-test.true (subst (λ (b : Option Event). Fails c.in_err-event.field-0.0 (event b (rest_of c.loop.self))) last c.in_err-event.ensures) c.loop.invariant)

pub loop-preserved : goal.loop-preserved
loop-preserved c =
    let last : option_copied c.last.result ≡ last_of c.loop.events.items = c.last.ensures.value ∙ ap (λ (es : List Event). slice_get es (length es - 1)) c.deref.ensures.value in
    let grown : c.push.new.self.items ≡ c.loop.events.items ++ c.in_ok-event.event ∷ [] = c.in_ok-push.ensures.items in
    rw grown (goes_on event c.loop.events.items c.args.count c.loop.counter (rest_of c.loop.self) c.in_ok-event.event (rest_of c.event.new.self) (in_turn event None c.args.count (rest_of c.args.self.now)) c.loop-test.true (subst (λ (b : Option Event). event b (rest_of c.loop.self) ≡ Ok (c.in_ok-event.event, rest_of c.event.new.self)) last c.in_ok-event.ensures) c.loop.invariant)

pub returns : goal.returns
returns c = is_done event c.loop.events.items c.args.count c.loop.counter (rest_of c.loop.self) (in_turn event None c.args.count (rest_of c.args.self.now)) c.loop-test.false c.loop.invariant
