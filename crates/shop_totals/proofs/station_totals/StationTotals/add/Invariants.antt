use Rattle.std.proofs.Common.{◌≡◌, ℕ, ◌+◌, ◌++◌, List, take}
use Rattle.shop_totals.specs.Records.{parts_at}
use Rattle.shop_totals.specs.Summed.{SumsUpStation}
use Rattle.shop_totals.specs.Told.{TimedPart}
use Rattle.shop_totals.proofs.station_totals.StationTotals.add.Given as goal

abbrev pub invariant-loop-part : goal.invariant-loop-part
invariant-loop-part l = record {
  clock : l.self.sums.clock ≡ l.time;
  sums : (first servers : ℕ) (classes : List ℕ) (told : List TimedPart) (most : ℕ) → SumsUpStation first servers classes told most l.fn.self
      → SumsUpStation first servers classes (told ++ parts_at l.time (take l.part-index l.parts)) (most + l.part-index) l.self;
}
