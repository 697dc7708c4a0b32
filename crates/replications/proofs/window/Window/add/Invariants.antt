use Rattle.std.proofs.Common.{◌≡◌, ℕ, ◌+◌, ◌++◌, List, take}
use Rattle.replications.specs.Parts.{TimedPart, parts_at}
use Rattle.replications.specs.Windows.{window_of, IsWithin}
use Rattle.replications.proofs.window.Window.add.Given as goal

abbrev pub invariant-loop-part : goal.invariant-loop-part
invariant-loop-part l = record {
  sums : (told : List TimedPart) → l.fn.self ≡ window_of l.first_tick told → l.self ≡ window_of l.first_tick (told ++ parts_at l.time (take l.part-index l.parts));
  within : (parts : ℕ) → IsWithin parts l.fn.self → IsWithin (parts + l.part-index) l.self;
}
