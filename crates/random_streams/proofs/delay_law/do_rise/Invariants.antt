use Rattle.std.proofs.Common.{◌≡◌, ◌-◌, ◌≤◌, drop}
use Rattle.random_streams.specs.Delays.{do_rise}
use Rattle.random_streams.proofs.delay_law.do_rise.Given as goal

abbrev pub invariant-loop-at : goal.invariant-loop-at
invariant-loop-at l = record { some : 1 ≤ l.at; rest : do_rise (drop (l.at - 1) l.bounds) ≡ do_rise l.bounds }
