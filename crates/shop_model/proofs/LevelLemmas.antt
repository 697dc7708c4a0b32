-- The first level that has an entry.
use Rattle.std.proofs.Common.{◌≡◌, ℕ, ◌-◌, ◌<◌, ◌≤◌, length, nat_lt, arith}
use Rattle.std.proofs.lemmas.Bool.Decides.{nat_tests}
use Rattle.delta_exchange.specs.Changes.{CellData, line_of}
use Rattle.shop_model.specs.declared.station.Station.{Station}
use Rattle.shop_model.specs.Stations.{jobs_line}
use Rattle.shop_model.specs.StationEffects.{first_level}
use Rattle.random_streams.proofs.Firsts.{first_below}

pub first_level_is : (station : Station) (cells : CellData) (i : ℕ) → i ≤ station.levels - 1
    → ((k : ℕ) → k < i → length (line_of cells (jobs_line k)) ≡ 0) → (i < station.levels - 1 → 0 < length (line_of cells (jobs_line i)))
    → first_level station cells ≡ i
unfolding first_level
first_level_is station cells i within before here =
    first_below (λ level. nat_lt 0 (length (line_of cells (jobs_line level)))) (station.levels - 1) i within
    (λ k h. let none : length (line_of cells (jobs_line k)) ≡ 0 = before k h in grind (arith, nat_tests))
    (λ h. let some : 0 < length (line_of cells (jobs_line i)) = here h in grind (arith, nat_tests))
