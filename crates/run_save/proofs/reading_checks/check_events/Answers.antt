-- Up to the first event that isn't sound.
use Rattle.std.proofs.Common.{◌≡◌, ◌+◌, length, sym, ap, ◌∙◌, arith}
use Rattle.run_save.specs.declared.refusal.StateCause.TheVariants.{Unlawful}
use Rattle.run_save.specs.Checks.{refusal}
use Rattle.run_save.specs.LawfulChecks.{events_check}
use Rattle.run_save.proofs.LawfulLoops.{events_go_on, events_end, events_done}
use Rattle.run_save.proofs.reading_checks.check_events.Goals as goal

pub returns-then-not-is_sound : goal.returns-then-not-is_sound
returns-then-not-is_sound g c =
    let m = g.M.Model.meaning c.args.model.now in
    let objects = c.args.objects.now in
    let at : length objects + c.loop-i.i + 5 ≡ (c.events_line.result + 1) + c.loop-i.i = omega (arith, c.events_line.ensures) in
    rw c.at.ensures (events_end m objects c.loop-i.i c.args.events.now _ (events_check m objects 0 c.args.events.now) c.loop-i-test.true (sym c.if-not-is_sound.ensures) c.loop-i.invariant
    ∙ ap (λ n. refusal Unlawful n) at)

pub loop-i-preserved : goal.loop-i-preserved
loop-i-preserved g c =
    let m = g.M.Model.meaning c.args.model.now in
    let objects = c.args.objects.now in
    events_go_on m objects c.loop-i.i c.args.events.now _ (events_check m objects 0 c.args.events.now) c.loop-i-test.true (sym c.if-not-is_sound.ensures) c.loop-i.invariant

pub returns : goal.returns
returns g c =
    let m = g.M.Model.meaning c.args.model.now in
    let objects = c.args.objects.now in
    events_done m objects c.loop-i.i c.args.events.now (events_check m objects 0 c.args.events.now) c.loop-i-test.false c.loop-i.invariant
