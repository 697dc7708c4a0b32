use Rattle.std.proofs.Common.{◌≡◌, drop}
use Rattle.run_save.specs.LawfulChecks.{events_check}
use Rattle.run_save.proofs.reading_checks.check_events.Given as goal

abbrev pub invariant-loop-i : goal.invariant-loop-i
invariant-loop-i g l =
    let m = g.M.Model.meaning l.model in
    events_check m l.objects l.i (drop l.i l.events) ≡ events_check m l.objects 0 l.events
