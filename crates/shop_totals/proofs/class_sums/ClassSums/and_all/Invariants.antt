use Rattle.std.proofs.Common.{◌≡◌, ℕ, ◌+◌, ◌++◌, List, take}
use Rattle.shop_totals.specs.Records.{parts_at}
use Rattle.shop_totals.specs.Summed.{SumsUpClass}
use Rattle.shop_totals.specs.Sums.{IsClassWithin}
use Rattle.shop_totals.specs.Told.{TimedPart}
use Rattle.shop_totals.proofs.class_sums.ClassSums.and_all.Given as goal

abbrev pub invariant-loop-part : goal.invariant-loop-part
invariant-loop-part l = record {
  clock : l.sums.clock ≡ l.time;
  within : (most : ℕ) → IsClassWithin most l.fn.self → IsClassWithin (most + l.part-index) l.sums;
  sums : (first : ℕ) (told : List TimedPart) (most : ℕ) → SumsUpClass first told most l.fn.self
      → SumsUpClass first (told ++ parts_at l.time (take l.part-index l.parts)) (most + l.part-index) l.sums;
}
