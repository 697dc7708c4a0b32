-- Changes of a level of a station's line that keep what is lawful: an entry goes in, goes out, or loses its job.
use Rattle.std.proofs.Common.{◌≡◌, ◌≢◌, ℕ, ◌+◌, ◌^◌, ◌<◌, ◌≤◌, true, List, length, refl, ap, sym, ◌∙◌, subst, ⊎_elim, arith}
use Rattle.std.specs.Prelude.{All, count_by, nat_lt, slice_index, sum_by}
use Rattle.std.specs.List.{range_with_len}
use Rattle.std.proofs.lemmas.Bool.{cases_eq}
use Rattle.delta_exchange.specs.Changes.{CellData, line_of}
use Rattle.shop_model.specs.declared.levels.TheConstants.{EMPTY}
use Rattle.shop_model.specs.declared.routes.Routes.{Routes}
use Rattle.shop_model.specs.declared.station.Station.{Station}
use Rattle.shop_model.specs.declared.station.TheConstants.{OPEN, HELD, WAITING, DOWN, FREE_SERVERS}
use Rattle.shop_model.specs.Stations.{is_entry, waiting_at, jobs_line, births_line, since_line, until_line}
use Rattle.shop_model.specs.LevelSums.{sum_changed}
use Rattle.shop_model.specs.Lawful.{IsLevelOf, level_of_lists}
use Rattle.shop_model.specs.StationSteps.{Stands}

-- how many of these entries are jobs
abbrev pub jobs_in : List ℕ → ℕ
jobs_in entries = count_by (λ a. nat_lt a EMPTY) entries

-- later words of which none but that of the waiting jobs may differ
pub record WordsAs (words later : List ℕ) : Type 0 where
  pub as_long : length later ≡ length words
  pub opened : slice_index later OPEN ≡ slice_index words OPEN
  pub held : slice_index later HELD ≡ slice_index words HELD
  pub down : slice_index later DOWN ≡ slice_index words DOWN

-- later cells that have these lines at one level, and the same ones elsewhere
pub record LevelAs (cells later : CellData) (level : ℕ) (waiting made from till : List ℕ) : Type 0 where
  pub lines : length later.lines ≡ length cells.lines
  pub jobs : line_of later (jobs_line level) ≡ waiting
  pub births : line_of later (births_line level) ≡ made
  pub since : line_of later (since_line level) ≡ from
  pub until : line_of later (until_line level) ≡ till
  pub others : (line : ℕ) → line ≢ jobs_line level → line ≢ births_line level → line ≢ since_line level → line ≢ until_line level
      → line_of later line ≡ line_of cells line

-- these lines may be those of a level
pub record AreLines (object : ℕ) (routes : Routes) (jobs made from till : List ℕ) : Type 0 where
  pub births : length made ≡ length jobs
  pub since : length from ≡ length jobs
  pub until : length till ≡ length jobs
  pub entries : All (λ a. is_entry object routes a ≡ true) jobs
  pub early : All (λ birth. nat_lt birth (2 ^ 48) ≡ true) made

other_level : (object : ℕ) (routes : Routes) (cells later : CellData) (level at : ℕ) (jobs births since until : List ℕ)
    → LevelAs cells later level jobs births since until → at ≢ level → IsLevelOf object routes cells at → IsLevelOf object routes later at
other_level object routes cells later level at jobs births since until like other is =
    level_of_lists object routes later at
    (line_of cells (jobs_line at)) (line_of cells (births_line at)) (line_of cells (since_line at)) (line_of cells (until_line at))
    (like.others (jobs_line at) (λ e. other (omega arith)) (λ e. absurd (omega arith)) (λ e. absurd (omega arith)) (λ e. absurd (omega arith)))
    (like.others (births_line at) (λ e. absurd (omega arith)) (λ e. other (omega arith)) (λ e. absurd (omega arith)) (λ e. absurd (omega arith)))
    (like.others (since_line at) (λ e. absurd (omega arith)) (λ e. absurd (omega arith)) (λ e. other (omega arith)) (λ e. absurd (omega arith)))
    (like.others (until_line at) (λ e. absurd (omega arith)) (λ e. absurd (omega arith)) (λ e. absurd (omega arith)) (λ e. other (omega arith)))
    is.births is.since is.until is.entries is.early

this_level : (object : ℕ) (routes : Routes) (cells later : CellData) (level : ℕ) (jobs births since until : List ℕ)
    → LevelAs cells later level jobs births since until → AreLines object routes jobs births since until → IsLevelOf object routes later level
this_level object routes cells later level jobs births since until like are =
    level_of_lists object routes later level jobs births since until like.jobs like.births like.since like.until are.births are.since are.until
    are.entries are.early

other_waiting : (cells later : CellData) (level at : ℕ) (jobs births since until : List ℕ) → LevelAs cells later level jobs births since until
    → at ≢ level
    → waiting_at later at ≡ waiting_at cells at
unfolding waiting_at
other_waiting cells later level at jobs births since until like other =
    ap jobs_in (like.others (jobs_line at) (λ e. other (omega arith)) (λ e. absurd (omega arith)) (λ e. absurd (omega arith))
    (λ e. absurd (omega arith)))

this_waiting : (cells later : CellData) (level : ℕ) (jobs births since until : List ℕ) → LevelAs cells later level jobs births since until
    → waiting_at later level ≡ jobs_in jobs
unfolding waiting_at
this_waiting cells later level jobs births since until like = ap jobs_in like.jobs

was_waiting : (cells : CellData) (level : ℕ) → waiting_at cells level ≡ jobs_in (line_of cells (jobs_line level))
unfolding waiting_at
was_waiting cells level = refl

-- one level changes, and the count of the waiting jobs with it
pub level_changed : (object : ℕ) (routes : Routes) (station : Station) (held : ℕ) (servers : List ℕ) (cells later : CellData) (level : ℕ)
    (jobs births since until : List ℕ)
    → Stands object routes station held servers cells → level < station.levels → WordsAs cells.words later.words
    → LevelAs cells later level jobs births since until → AreLines object routes jobs births since until
    → slice_index later.words WAITING + jobs_in (line_of cells (jobs_line level)) ≡ slice_index cells.words WAITING + jobs_in jobs
    → slice_index later.words WAITING ≤ station.line + station.most
    → Stands object routes station held servers later
level_changed object routes station held servers cells later level jobs births since until is below words like are counted few =
    let free : line_of later FREE_SERVERS ≡ line_of cells FREE_SERVERS =
    like.others FREE_SERVERS (λ e. absurd (omega arith)) (λ e. absurd (omega arith)) (λ e. absurd (omega arith)) (λ e. absurd (omega arith)) in
    let sums : sum_by (λ k. waiting_at later k) (range_with_len 0 station.levels) + waiting_at cells level
    ≡ sum_by (λ k. waiting_at cells k) (range_with_len 0 station.levels) + waiting_at later level =
    sum_changed (λ k. waiting_at cells k) (λ k. waiting_at later k) station.levels level below
    (λ k other. other_waiting cells later level k jobs births since until like other) in
    record {
      lawful = record {
        words = words.as_long ∙ is.lawful.words;
        lines = like.lines ∙ is.lawful.lines;
        levels = λ at within. ⊎_elim
            (λ (e : at ≡ level). subst (λ k. IsLevelOf object routes later k) (sym e)
            (this_level object routes cells later level jobs births since until like are))
            (λ other. other_level object routes cells later level at jobs births since until like other (is.lawful.levels at within))
            (cases_eq at level);
        opened = omega (arith, words.opened, is.lawful.opened);
        held = omega (arith, words.held, is.lawful.held, ap length free);
        free = omega (arith, is.lawful.free, ap length free);
        servers = subst (λ xs. All (λ server. nat_lt server station.most ≡ true) xs) (sym free) is.lawful.servers;
        down = omega (arith, words.down, is.lawful.down);
        waiting =
            omega (arith, sums, counted, is.lawful.waiting, was_waiting cells level, this_waiting cells later level jobs births since until like);
        few = few;
      };
      held = words.held ∙ is.held;
      servers = free ∙ is.servers;
    }
