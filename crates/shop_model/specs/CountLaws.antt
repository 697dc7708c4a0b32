-- The counts of a station with a spare server.
use Rattle.std.proofs.Common.{ℕ, ◌-◌, ◌<◌, ◌≤◌, Bool, true, false, ◌==◌, arith}
use Rattle.std.specs.Prelude.{if◌then◌else◌}
use Rattle.shop_model.specs.declared.counts.Counts.{Counts}
use Rattle.shop_model.specs.HasStation.{AreCounts}
use Rattle.shop_model.specs.Stations.{busy_of, spare_of}

-- some server is free and not held
pub spare_frees : (most : ℕ) (counts : Counts) → AreCounts most counts → counts.opened ≤ most → 0 < spare_of most counts → counts.held < counts.free
unfolding spare_of
spare_frees most counts are opened spare = by (counts.down == 0) spare
  where
    by : (works : Bool) → 0 < (if works then counts.opened - busy_of most counts else 0) → counts.held < counts.free
    by true some = omega (arith, are.free, are.held)
    by false some = absurd (omega arith)

-- no more servers are spare than are ever open
pub spare-le : (most : ℕ) (counts : Counts) → counts.opened ≤ most → spare_of most counts ≤ most
unfolding spare_of
spare-le most counts opened = by (counts.down == 0)
  where
    by : (works : Bool) → (if works then counts.opened - busy_of most counts else 0) ≤ most
    by true = omega arith
    by false = omega arith
