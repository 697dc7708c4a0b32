-- What is lawful of a station's cells, fact by fact.
use Rattle.std.proofs.Common.{◌≡◌, ℕ, ◌+◌, ◌*◌, ◌^◌, ◌<◌, ◌≤◌, Bool, true, false, List, length, get_or, ap, sym, ◌∙◌, subst, arith}
use Rattle.std.specs.Prelude.{IsTrue, All, nat_lt, sum_by}
use Rattle.std.specs.List.{list_all, range_with_len}
use Rattle.std.proofs.lemmas.Bool.{and_parts, and_from, leb-true, le-leb, eqb-true, eq-eqb}
use Rattle.std.proofs.lemmas.List.Folds.{list_all_at}
use Rattle.std.proofs.lemmas.List.FromFn.{get_or-range_with_len, length-range_with_len}
use Rattle.std.proofs.lemmas.List.Sums.{AllPass-from_list_all, list_all-from_AllPass}
use Rattle.delta_exchange.specs.Changes.{CellData, line_of}
use Rattle.shop_model.specs.declared.routes.Routes.{Routes}
use Rattle.shop_model.specs.declared.station.Station.{Station}
use Rattle.shop_model.specs.declared.station.TheConstants.{FREE_SERVERS, GONE}
use Rattle.shop_model.specs.Stations.{jobs_line, births_line, since_line, until_line, counts_of, is_entry, is_level, waiting_at, has_servers}
use Rattle.shop_model.specs.Stations.{is_station_cells}

-- the four lines of a level are as long as one another, and hold jobs that wait at the object
pub record IsLevelOf (object : ℕ) (routes : Routes) (cells : CellData) (level : ℕ) : Type 0 where
  pub births : length (line_of cells (births_line level)) ≡ length (line_of cells (jobs_line level))
  pub since : length (line_of cells (since_line level)) ≡ length (line_of cells (jobs_line level))
  pub until : length (line_of cells (until_line level)) ≡ length (line_of cells (jobs_line level))
  pub entries : All (λ a. is_entry object routes a ≡ true) (line_of cells (jobs_line level))
  pub early : All (λ birth. nat_lt birth (2 ^ 48) ≡ true) (line_of cells (births_line level))

-- a level whose lines are these
pub level_of_lists : (object : ℕ) (routes : Routes) (cells : CellData) (level : ℕ) (jobs births since until : List ℕ)
    → line_of cells (jobs_line level) ≡ jobs → line_of cells (births_line level) ≡ births → line_of cells (since_line level) ≡ since
    → line_of cells (until_line level) ≡ until
    → length births ≡ length jobs → length since ≡ length jobs → length until ≡ length jobs
    → All (λ a. is_entry object routes a ≡ true) jobs → All (λ birth. nat_lt birth (2 ^ 48) ≡ true) births → IsLevelOf object routes cells level
level_of_lists object routes cells level jobs births since until jobs_are births_are since_are until_are as_births as_since as_until entries
    early = record {
      births = ap length births_are ∙ as_births ∙ sym (ap length jobs_are);
      since = ap length since_are ∙ as_since ∙ sym (ap length jobs_are);
      until = ap length until_are ∙ as_until ∙ sym (ap length jobs_are);
      entries = subst (λ xs. All (λ a. is_entry object routes a ≡ true) xs) (sym jobs_are) entries;
      early = subst (λ xs. All (λ birth. nat_lt birth (2 ^ 48) ≡ true) xs) (sym births_are) early;
    }

-- how many jobs wait at all levels
abbrev pub waiting_in : CellData → ℕ → ℕ
waiting_in cells levels = sum_by (λ level. waiting_at cells level) (range_with_len 0 levels)

pub record IsLawful (object : ℕ) (routes : Routes) (station : Station) (cells : CellData) : Type 0 where
  pub words : length cells.words ≡ GONE + station.levels + station.most
  pub lines : length cells.lines ≡ 1 + 4 * station.levels
  pub levels : (level : ℕ) → level < station.levels → IsLevelOf object routes cells level
  pub opened : (counts_of cells).opened ≤ station.most
  pub held : (counts_of cells).held ≤ (counts_of cells).free
  pub free : (counts_of cells).free ≤ station.most
  pub servers : All (λ server. nat_lt server station.most ≡ true) (line_of cells FREE_SERVERS)
  pub down : (counts_of cells).down ≤ 1
  pub waiting : (counts_of cells).waiting ≡ waiting_in cells station.levels
  pub few : (counts_of cells).waiting ≤ station.line + station.most

-- what passes at each number below n
pub list_all_below : (test : ℕ → Bool) (n : ℕ) → list_all test (range_with_len 0 n) ≡ true → (k : ℕ) → k < n → test k ≡ true
list_all_below test n all k below =
    let at : get_or (range_with_len 0 n) k 0 ≡ k = omega (arith, get_or-range_with_len 0 n k 0 below) in
    sym (ap test at) ∙ AllPass-from_list_all test (range_with_len 0 n) all k 0 (omega (arith, length-range_with_len 0 n))

pub below_list_all : (test : ℕ → Bool) (n : ℕ) → ((k : ℕ) → k < n → test k ≡ true) → list_all test (range_with_len 0 n) ≡ true
below_list_all test n each = list_all-from_AllPass test (range_with_len 0 n) passes
  where
    passes : All (λ k. test k ≡ true) (range_with_len 0 n)
    passes k d within =
        let below : k < n = omega (arith, length-range_with_len 0 n) in
        let at : get_or (range_with_len 0 n) k d ≡ k = omega (arith, get_or-range_with_len 0 n k d below) in
        ap test at ∙ each k below

pub not_all_below : (test : ℕ → Bool) (n k : ℕ) → k < n → test k ≡ false → list_all test (range_with_len 0 n) ≡ false
not_all_below test n k below fails =
    let at : get_or (range_with_len 0 n) k 0 ≡ k = omega (arith, get_or-range_with_len 0 n k 0 below) in
    list_all_at test (range_with_len 0 n) k 0 (omega (arith, length-range_with_len 0 n)) (ap test at ∙ fails)

pub level_from : (object : ℕ) (routes : Routes) (cells : CellData) (level : ℕ) → is_level object routes cells level ≡ true
    → IsLevelOf object routes cells level
unfolding is_level
level_from object routes cells level h =
    let p5 = and_parts _ _ h in
    let p4 = and_parts _ _ p5.0 in
    let p3 = and_parts _ _ p4.0 in
    let p2 = and_parts _ _ p3.0 in
    record {
      births = eqb-true _ _ p2.0;
      since = eqb-true _ _ p2.1;
      until = eqb-true _ _ p3.1;
      entries = AllPass-from_list_all _ _ p4.1;
      early = AllPass-from_list_all _ _ p5.1;
    }

pub from_level : (object : ℕ) (routes : Routes) (cells : CellData) (level : ℕ) → IsLevelOf object routes cells level
    → is_level object routes cells level ≡ true
unfolding is_level
from_level object routes cells level is =
    and_from _ _
    (and_from _ _
    (and_from _ _
    (and_from _ _ (eq-eqb _ _ is.births) (eq-eqb _ _ is.since))
    (eq-eqb _ _ is.until))
    (list_all-from_AllPass _ _ is.entries))
    (list_all-from_AllPass _ _ is.early)

pub lawful_from : (object : ℕ) (routes : Routes) (station : Station) (cells : CellData) → IsTrue (is_station_cells object routes station cells)
    → IsLawful object routes station cells
unfolding is_station_cells has_servers
lawful_from object routes station cells h =
    let p6 = and_parts _ _ h in
    let p5 = and_parts _ _ p6.0 in
    let p4 = and_parts _ _ p5.0 in
    let p3 = and_parts _ _ p4.0 in
    let p2 = and_parts _ _ p3.0 in
    let p1 = and_parts _ _ p2.0 in
    let s3 = and_parts _ _ p3.1 in
    let s2 = and_parts _ _ s3.0 in
    let s1 = and_parts _ _ s2.0 in
    let waiting : (counts_of cells).waiting ≡ waiting_in cells station.levels = eqb-true _ _ p5.1 in
    let few : waiting_in cells station.levels ≤ station.line + station.most = leb-true _ _ p6.1 in
    record {
      words = eqb-true _ _ p1.0;
      lines = eqb-true _ _ p1.1;
      levels =
          λ level below. level_from object routes cells level (list_all_below (λ l. is_level object routes cells l) station.levels p2.1 level below);
      opened = leb-true _ _ s1.0;
      held = leb-true _ _ s1.1;
      free = leb-true _ _ s2.1;
      servers = AllPass-from_list_all _ _ s3.1;
      down = leb-true _ _ p4.1;
      waiting = waiting;
      few = omega arith;
    }

pub from_lawful : (object : ℕ) (routes : Routes) (station : Station) (cells : CellData) → IsLawful object routes station cells
    → IsTrue (is_station_cells object routes station cells)
unfolding is_station_cells has_servers
from_lawful object routes station cells is =
    let few : waiting_in cells station.levels ≤ station.line + station.most = omega (arith, is.waiting, is.few) in
    and_from _ _
    (and_from _ _
    (and_from _ _
    (and_from _ _
    (and_from _ _
    (and_from _ _ (eq-eqb _ _ is.words) (eq-eqb _ _ is.lines))
    (below_list_all (λ l. is_level object routes cells l) station.levels
    (λ level below. from_level object routes cells level (is.levels level below))))
    (and_from _ _
    (and_from _ _ (and_from _ _ (le-leb _ _ is.opened) (le-leb _ _ is.held)) (le-leb _ _ is.free))
    (list_all-from_AllPass _ _ is.servers)))
    (le-leb _ _ is.down))
    (eq-eqb _ _ is.waiting))
    (le-leb _ _ few)
