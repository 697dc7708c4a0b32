use Rattle.std.proofs.Common.{◌≡◌, All, None, length}
use Rattle.release_lanes.proofs.plain.PlainEnd.new.Given as goal

abbrev pub invariant-loop : goal.invariant-loop
invariant-loop l = (length l.slots.items ≡ l.counter) × All (λ slot. slot ≡ None) l.slots.items
