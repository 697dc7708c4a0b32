use Rattle.std.proofs.Common.{◌≡◌, drop}
use Rattle.run_save.specs.LawfulChecks.{objects_check}
use Rattle.run_save.proofs.reading_checks.check_objects.Given as goal

abbrev pub invariant-loop-i : goal.invariant-loop-i
invariant-loop-i g l =
    let m = g.M.Model.meaning l.model in
    objects_check m l.count l.i (drop l.i l.objects) ≡ objects_check m l.count 0 l.objects
