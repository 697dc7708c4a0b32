-- The sums of a station, of a class at a station and of a class, over what is told of them.
use Rattle.std.specs.Prelude.{ℕ, ◌+◌, ◌-◌, ◌*◌, ◌^◌, ◌≤◌, ◌==◌, ◌||◌, if◌then◌else◌, List, sum_by}
use Rattle.model_core.specs.declared.note.Part.{Part}
use Rattle.model_core.specs.declared.words.TheConstants.{MADE_WORD, TAKEN_WORD, WAITING_WORD, DONE_WORD, LEFT_WORD, DROPPED_WORD, OVERDUE_WORD, CALLED_WORD, FREED_WORD, RENEGED_WORD, OPENED_WORD, DOWN_WORD, UP_WORD}
use Rattle.shop_totals.specs.declared.class_sums.ClassSums.{ClassSums}
use Rattle.shop_totals.specs.declared.station_sums.StationSums.{StationSums}
use Rattle.shop_totals.specs.declared.visit_sums.VisitSums.{VisitSums}
use Rattle.shop_totals.specs.Flows.{count_told, flow_of, IsFlowWithin}
use Rattle.shop_totals.specs.Kept.{kept_of}
use Rattle.shop_totals.specs.Told.{TimedPart, told_from}

-- busy servers go up by `take` and `call`, and down by `done` and `free`
abbrev pub after_busy : ℕ → Part → ℕ
after_busy busy part =
    if part.word == TAKEN_WORD || part.word == CALLED_WORD then busy + 1
    else if part.word == DONE_WORD || part.word == FREED_WORD then busy - 1
    else busy

-- waiting jobs go up by `wait`, and down by `call` and `renege`
abbrev pub after_waiting : ℕ → Part → ℕ
after_waiting waiting part =
    if part.word == WAITING_WORD then waiting + 1
    else if part.word == CALLED_WORD || part.word == RENEGED_WORD then waiting - 1
    else waiting

-- so many servers are open as `open` says
abbrev pub after_open : ℕ → Part → ℕ
after_open opened part = if part.word == OPENED_WORD then part.a else opened

-- a station stands still from `down` to `up`
abbrev pub after_down : ℕ → Part → ℕ
after_down down part = if part.word == DOWN_WORD then 1 else if part.word == UP_WORD then 0 else down

-- jobs are inside from `make` to `leave` or `drop`
abbrev pub after_inside : ℕ → Part → ℕ
after_inside inside part =
    if part.word == MADE_WORD then inside + 1
    else if part.word == LEFT_WORD || part.word == DROPPED_WORD then inside - 1
    else inside

-- counts are over what is told from the first tick on, and ticks are those from then on and before the clock
unfoldable pub station_sums_of : ℕ → ℕ → List TimedPart → ℕ → StationSums
station_sums_of first servers told clock = record {
  first = first;
  clock = clock;
  flow = flow_of (told_from first told);
  busy = kept_of after_busy 0 first told clock;
  waiting = kept_of after_waiting 0 first told clock;
  opened = kept_of after_open servers first told clock;
  down = kept_of after_down 0 first told clock;
}

-- `call` and `renege` tell for how many ticks a job waited
abbrev pub ticks_waited : Part → ℕ
ticks_waited part = if part.word == CALLED_WORD || part.word == RENEGED_WORD then part.b else 0

-- `leave` tells how old a job is
abbrev pub age_told : Part → ℕ
age_told part = if part.word == LEFT_WORD then part.b else 0

unfoldable pub visit_sums_of : List TimedPart → VisitSums
visit_sums_of told = record { flow = flow_of told; waited = sum_by (λ (one : TimedPart). ticks_waited one.part) told }

unfoldable pub class_sums_of : ℕ → List TimedPart → ℕ → ClassSums
class_sums_of first told clock = record {
  first = first;
  clock = clock;
  made = count_told (λ word. word == MADE_WORD) (told_from first told);
  left = count_told (λ word. word == LEFT_WORD) (told_from first told);
  dropped = count_told (λ word. word == DROPPED_WORD) (told_from first told);
  late = count_told (λ word. word == OVERDUE_WORD) (told_from first told);
  ages = sum_by (λ (one : TimedPart). age_told one.part) (told_from first told);
  inside = kept_of after_inside 0 first told clock;
}

-- sums over so many parts at most, that are told before the clock or now
pub record IsWithin (parts : ℕ) (sums : StationSums) : Type 0 where
  pub flow : IsFlowWithin parts sums.flow
  pub busy : sums.busy.number ≤ parts
  pub waiting : sums.waiting.number ≤ parts
  pub busy_ticks : sums.busy.ticks ≤ 2 ^ 64 * sums.clock
  pub waiting_ticks : sums.waiting.ticks ≤ 2 ^ 64 * sums.clock
  pub open_ticks : sums.opened.ticks ≤ 2 ^ 64 * sums.clock
  pub down_ticks : sums.down.ticks ≤ 2 ^ 64 * sums.clock

pub record IsVisitWithin (parts : ℕ) (sums : VisitSums) : Type 0 where
  pub flow : IsFlowWithin parts sums.flow
  pub waited : sums.waited ≤ 2 ^ 64 * parts

pub record IsClassWithin (parts : ℕ) (sums : ClassSums) : Type 0 where
  pub made : sums.made ≤ parts
  pub left : sums.left ≤ parts
  pub dropped : sums.dropped ≤ parts
  pub late : sums.late ≤ parts
  pub ages : sums.ages ≤ 2 ^ 64 * parts
  pub inside : sums.inside.number ≤ parts
  pub inside_ticks : sums.inside.ticks ≤ 2 ^ 64 * sums.clock
