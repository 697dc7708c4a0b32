-- Entries of a station's line go in, go out, or lose their jobs, and the count of the waiting jobs goes along.
use Rattle.std.proofs.Common.{◌≡◌, ◌≢◌, ℕ, ◌+◌, ◌-◌, ◌^◌, ◌<◌, ◌≤◌, true, cond, List, [], ◌∷◌, ◌++◌, length, get_or, take, drop, refl, ap, sym, ◌∙◌}
use Rattle.std.proofs.Common.{length-append, length-drop, get_or-set_same, get_or-set_other, arith}
use Rattle.std.specs.Prelude.{All, if◌then◌else◌, is_some, min, nat_lt, slice_set, slice_index}
use Rattle.std.specs.List.{range_with_len}
use Rattle.std.proofs.lemmas.Bool.{lt-ltb, le-ltb}
use Rattle.std.proofs.lemmas.Bool.Decides.{nat_tests}
use Rattle.std.proofs.lemmas.List.{length-set, length-take-le, take_all}
use Rattle.std.proofs.lemmas.List.Elements.{All-push, All-take, All-drop, All-set}
use Rattle.std.proofs.lemmas.List.FromFn.{get_or-range_with_len, length-range_with_len}
use Rattle.std.proofs.lemmas.List.Sums.{sum_by_push, sum_by_more, sum_by-drop_more, sum_by-set, get_or-le-sum_by}
use Rattle.delta_exchange.specs.declared.change.Change.{Change}
use Rattle.delta_exchange.specs.declared.change.Change.TheVariants.{Set, Push, Pop, Unpush, Flip}
use Rattle.delta_exchange.specs.Changes.{CellData, line_of, with_line, flipped, with_flipped, AllFit, cells_after_all}
use Rattle.shop_model.specs.declared.levels.TheConstants.{EMPTY}
use Rattle.shop_model.specs.declared.routes.Routes.{Routes}
use Rattle.shop_model.specs.declared.station.Order.{Order}
use Rattle.shop_model.specs.declared.station.Order.TheVariants.{First, Last, Priority}
use Rattle.shop_model.specs.declared.station.Station.{Station}
use Rattle.shop_model.specs.declared.station.TheConstants.{OPEN, HELD, WAITING, DOWN}
use Rattle.shop_model.specs.StationEffects.{called_place, out_changes}
use Rattle.shop_model.specs.Routes.{visit_at}
use Rattle.shop_model.specs.Stations.{counts_of, gone_word, is_entry, waiting_at, jobs_line, births_line, since_line, until_line}
use Rattle.shop_model.specs.Keeping.{Keeps, keeps_then}
use Rattle.shop_model.specs.Lawful.{IsLawful, waiting_in}
use Rattle.shop_model.specs.LevelSteps.{WordsAs, LevelAs, jobs_in, level_changed}
use Rattle.shop_model.specs.StationSteps.{Stands, set_other}

-- one line becomes another
abbrev pub mapped : (List ℕ → List ℕ) → ℕ → CellData → CellData
mapped change line cells = with_line cells line (change (line_of cells line))

mapped_long : (change : List ℕ → List ℕ) (line : ℕ) (cells : CellData) → length (mapped change line cells).lines ≡ length cells.lines
mapped_long change line cells = length-set cells.lines line (change (line_of cells line))

mapped_here : (change : List ℕ → List ℕ) (line : ℕ) (cells : CellData) → line < length cells.lines
    → line_of (mapped change line cells) line ≡ change (line_of cells line)
mapped_here change line cells there = get_or-set_same cells.lines line (change (line_of cells line)) [] there

mapped_other : (change : List ℕ → List ℕ) (line other : ℕ) (cells : CellData) → other ≢ line
    → line_of (mapped change line cells) other ≡ line_of cells other
mapped_other change line other cells differs = get_or-set_other cells.lines line other (change (line_of cells line)) [] differs

-- the four lines of a level become others, beside other words
abbrev one_mapped : (List ℕ → List ℕ) → ℕ → CellData → CellData
one_mapped f level cells = mapped f (jobs_line level) cells

abbrev two_mapped : (List ℕ → List ℕ) → (List ℕ → List ℕ) → ℕ → CellData → CellData
two_mapped f g level cells = mapped g (births_line level) (one_mapped f level cells)

abbrev three_mapped : (List ℕ → List ℕ) → (List ℕ → List ℕ) → (List ℕ → List ℕ) → ℕ → CellData → CellData
three_mapped f g h level cells = mapped h (since_line level) (two_mapped f g level cells)

abbrev pub four_mapped : (List ℕ → List ℕ) → (List ℕ → List ℕ) → (List ℕ → List ℕ) → (List ℕ → List ℕ) → ℕ → CellData → CellData
four_mapped f g h i level cells = mapped i (until_line level) (three_mapped f g h level cells)

-- each of the lines is there, where the ones before it are others already, and has these values
record FourRead (f g h : List ℕ → List ℕ) (level : ℕ) (cells : CellData) : Type 0 where
  jobs : jobs_line level < length cells.lines
  births : births_line level < length (one_mapped f level cells).lines
  since : since_line level < length (two_mapped f g level cells).lines
  until : until_line level < length (three_mapped f g h level cells).lines
  births_are : line_of (one_mapped f level cells) (births_line level) ≡ line_of cells (births_line level)
  since_are : line_of (two_mapped f g level cells) (since_line level) ≡ line_of cells (since_line level)
  until_are : line_of (three_mapped f g h level cells) (until_line level) ≡ line_of cells (until_line level)

four_read : (f g h : List ℕ → List ℕ) (level : ℕ) (cells : CellData) → until_line level < length cells.lines → FourRead f g h level cells
four_read f g h level cells there =
    let one = mapped_long f (jobs_line level) cells in
    let two = mapped_long g (births_line level) (one_mapped f level cells) in
    let three = mapped_long h (since_line level) (two_mapped f g level cells) in
    record {
      jobs = omega arith;
      births = omega (arith, one);
      since = omega (arith, one, two);
      until = omega (arith, one, two, three);
      births_are = mapped_other f (jobs_line level) (births_line level) cells (λ e. absurd (omega arith));
      since_are = mapped_other g (births_line level) (since_line level) (one_mapped f level cells) (λ e. absurd (omega arith))
          ∙ mapped_other f (jobs_line level) (since_line level) cells (λ e. absurd (omega arith));
      until_are = mapped_other h (since_line level) (until_line level) (two_mapped f g level cells) (λ e. absurd (omega arith))
          ∙ mapped_other g (births_line level) (until_line level) (one_mapped f level cells) (λ e. absurd (omega arith))
          ∙ mapped_other f (jobs_line level) (until_line level) cells (λ e. absurd (omega arith));
    }

four_as : (f g h i : List ℕ → List ℕ) (level : ℕ) (cells : CellData) (words : List ℕ) → until_line level < length cells.lines
    → LevelAs cells (four_mapped f g h i level (record cells { words = words })) level
    (f (line_of cells (jobs_line level))) (g (line_of cells (births_line level))) (h (line_of cells (since_line level)))
    (i (line_of cells (until_line level)))
four_as f g h i level cells words there =
    let base : CellData = record cells { words = words } in
    let c1 : CellData = one_mapped f level base in
    let c2 : CellData = two_mapped f g level base in
    let c3 : CellData = three_mapped f g h level base in
    let read : FourRead f g h level base = four_read f g h level base there in
    record {
      lines = mapped_long i (until_line level) c3 ∙ mapped_long h (since_line level) c2 ∙ mapped_long g (births_line level) c1
          ∙ mapped_long f (jobs_line level) base;
      jobs = mapped_other i (until_line level) (jobs_line level) c3 (λ e. absurd (omega arith))
          ∙ mapped_other h (since_line level) (jobs_line level) c2 (λ e. absurd (omega arith))
          ∙ mapped_other g (births_line level) (jobs_line level) c1 (λ e. absurd (omega arith))
          ∙ mapped_here f (jobs_line level) base read.jobs;
      births = mapped_other i (until_line level) (births_line level) c3 (λ e. absurd (omega arith))
          ∙ mapped_other h (since_line level) (births_line level) c2 (λ e. absurd (omega arith))
          ∙ mapped_here g (births_line level) c1 read.births
          ∙ ap g read.births_are;
      since = mapped_other i (until_line level) (since_line level) c3 (λ e. absurd (omega arith))
          ∙ mapped_here h (since_line level) c2 read.since
          ∙ ap h read.since_are;
      until = mapped_here i (until_line level) c3 read.until ∙ ap i read.until_are;
      others = λ line no_jobs no_births no_since no_until. mapped_other i (until_line level) line c3 no_until
          ∙ mapped_other h (since_line level) line c2 no_since
          ∙ mapped_other g (births_line level) line c1 no_births
          ∙ mapped_other f (jobs_line level) line base no_jobs;
    }

-- the count of the waiting jobs is set
set_waiting : (words : List ℕ) (value : ℕ) → WordsAs words (slice_set words WAITING value)
set_waiting words value = record {
  as_long = length-set words WAITING value;
  opened = get_or-set_other words WAITING OPEN value 0 (λ e. absurd (omega arith));
  held = get_or-set_other words WAITING HELD value 0 (λ e. absurd (omega arith));
  down = get_or-set_other words WAITING DOWN value 0 (λ e. absurd (omega arith));
}

same_words : (words : List ℕ) → WordsAs words words
same_words words = record { as_long = refl; opened = refl; held = refl; down = refl }

-- an entry counts as one if it is a job
abbrev counted : ℕ → ℕ
counted a = cond (nat_lt a EMPTY) 1 0

job_counts : (a : ℕ) → a < EMPTY → counted a ≡ 1
job_counts a job = ap (λ b. cond b 1 0) (lt-ltb a EMPTY job)

empty_counts : (a : ℕ) → EMPTY ≤ a → counted a ≡ 0
empty_counts a empty = ap (λ b. cond b 1 0) (le-ltb a EMPTY empty)

-- the entry that is called goes out
abbrev pub out_of : Order → List ℕ → List ℕ
out_of Last entries = take (length entries - 1) entries
out_of First entries = drop 1 entries
out_of Priority entries = drop 1 entries

front_counts : (entries : List ℕ) → 0 < length entries → jobs_in entries ≡ jobs_in (drop 1 entries) + counted (slice_index entries 0)
front_counts entries some =
    let sum : jobs_in entries ≡ counted (slice_index entries 0) + jobs_in (drop 1 entries) = sum_by-drop_more counted entries 0 0 some in
    omega (arith, sum)

end_counts : (entries : List ℕ) → 0 < length entries
    → jobs_in entries ≡ jobs_in (take (length entries - 1) entries) + counted (slice_index entries (length entries - 1))
end_counts entries some =
    let all : take (length entries - 1 + 1) entries ≡ entries = take_all (length entries - 1 + 1) entries (omega arith) in
    ap jobs_in (sym all) ∙ sum_by_more counted entries (length entries - 1) 0 (omega arith)

out_counts : (order : Order) (entries : List ℕ) → 0 < length entries
    → jobs_in entries ≡ jobs_in (out_of order entries) + counted (slice_index entries (called_place order (length entries)))
out_counts Last entries some = end_counts entries some
out_counts First entries some = front_counts entries some
out_counts Priority entries some = front_counts entries some

out_long : (order : Order) (entries : List ℕ) → length (out_of order entries) ≡ length entries - 1
out_long Last entries = length-take-le (length entries - 1) entries (omega arith)
out_long First entries = length-drop 1 entries
out_long Priority entries = length-drop 1 entries

out_all : (P : ℕ → Type 0) (order : Order) (entries : List ℕ) → All P entries → All P (out_of order entries)
out_all P Last entries all = All-take P (length entries - 1) entries all
out_all P First entries all = All-drop P 1 entries all
out_all P Priority entries all = All-drop P 1 entries all

-- a job waits more
pub wait_keeps : (object : ℕ) (routes : Routes) (station : Station) (held : ℕ) (servers : List ℕ) (level waiting a birth since until : ℕ)
    (cells : CellData)
    → Stands object routes station held servers cells → level < station.levels → is_entry object routes a ≡ true → a < EMPTY → birth < 2 ^ 48
    → waiting ≡ (counts_of cells).waiting + 1 → waiting ≤ station.line + station.most
    → Keeps (Stands object routes station held servers)
    (Set WAITING waiting ∷ Push (jobs_line level) a ∷ Push (births_line level) birth ∷ Push (since_line level) since
    ∷ Push (until_line level) until ∷ []) cells
unfolding AllFit cells_after_all
wait_keeps object routes station held servers level waiting a birth since until cells is below entry job early one few =
    let push = λ (value : ℕ) (xs : List ℕ). xs ++ value ∷ [] in
    let words = slice_set cells.words WAITING waiting in
    let there : until_line level < length cells.lines = omega (arith, is.lawful.lines) in
    let read : FourRead (push a) (push birth) (push since) level (record cells { words = words }) =
    four_read (push a) (push birth) (push since) level (record cells { words = words }) there in
    let long : 3 < length cells.words = omega (arith, is.lawful.words) in
    let at = is.lawful.levels level below in
    let jobs = line_of cells (jobs_line level) in
    let set : slice_index words WAITING ≡ waiting = get_or-set_same cells.words WAITING waiting 0 long in
    record {
      fits = (long, (read.jobs, (read.births, (read.since, (read.until, tt)))));
      after = level_changed object routes station held servers cells
          (four_mapped (push a) (push birth) (push since) (push until) level (record cells { words = words })) level
          (jobs ++ a ∷ []) (line_of cells (births_line level) ++ birth ∷ []) (line_of cells (since_line level) ++ since ∷ [])
          (line_of cells (until_line level) ++ until ∷ [])
          is below (set_waiting cells.words waiting)
          (four_as (push a) (push birth) (push since) (push until) level cells words there)
          (record {
            births = omega (arith, at.births, length-append (line_of cells (births_line level)) (birth ∷ []), length-append jobs (a ∷ []));
            since = omega (arith, at.since, length-append (line_of cells (since_line level)) (since ∷ []), length-append jobs (a ∷ []));
            until = omega (arith, at.until, length-append (line_of cells (until_line level)) (until ∷ []), length-append jobs (a ∷ []));
            entries = All-push (λ a. is_entry object routes a ≡ true) jobs a at.entries entry;
            early = All-push (λ birth. nat_lt birth (2 ^ 48) ≡ true) (line_of cells (births_line level)) birth at.early (lt-ltb birth (2 ^ 48) early);
          })
          (omega (arith, set, one, sum_by_push counted jobs a, job_counts a job))
          (omega (arith, set, few));
    }

-- an entry goes out, and the count of the waiting jobs is as before or one less
out_stands : (object : ℕ) (routes : Routes) (station : Station) (held : ℕ) (servers : List ℕ) (level : ℕ) (order : Order) (cells : CellData)
    (words : List ℕ)
    → Stands object routes station held servers cells → level < station.levels → 0 < length (line_of cells (jobs_line level))
    → WordsAs cells.words words
    → slice_index words WAITING + counted (slice_index (line_of cells (jobs_line level))
    (called_place order (length (line_of cells (jobs_line level))))) ≡ (counts_of cells).waiting
    → Stands object routes station held servers
    (four_mapped (out_of order) (out_of order) (out_of order) (out_of order) level (record cells { words = words }))
out_stands object routes station held servers level order cells words is below some like count =
    let out = out_of order in
    let there : until_line level < length cells.lines = omega (arith, is.lawful.lines) in
    let at = is.lawful.levels level below in
    let jobs = line_of cells (jobs_line level) in
    let births = line_of cells (births_line level) in
    let since = line_of cells (since_line level) in
    let until = line_of cells (until_line level) in
    level_changed object routes station held servers cells (four_mapped out out out out level (record cells { words = words })) level
    (out jobs) (out births) (out since) (out until) is below like (four_as out out out out level cells words there)
    (record {
      births = omega (arith, at.births, out_long order births, out_long order jobs);
      since = omega (arith, at.since, out_long order since, out_long order jobs);
      until = omega (arith, at.until, out_long order until, out_long order jobs);
      entries = out_all (λ a. is_entry object routes a ≡ true) order jobs at.entries;
      early = out_all (λ birth. nat_lt birth (2 ^ 48) ≡ true) order births at.early;
    })
    (omega (arith, count, out_counts order jobs some))
    (omega (arith, count, is.lawful.few))

-- the lines of a level hold an entry, each where the ones before it lost theirs
pops_fit : (level : ℕ) (cells : CellData) → until_line level < length cells.lines → 0 < length (line_of cells (jobs_line level))
    → length (line_of cells (births_line level)) ≡ length (line_of cells (jobs_line level))
    → length (line_of cells (since_line level)) ≡ length (line_of cells (jobs_line level))
    → length (line_of cells (until_line level)) ≡ length (line_of cells (jobs_line level))
    → AllFit (Pop (jobs_line level) ∷ Pop (births_line level) ∷ Pop (since_line level) ∷ Pop (until_line level) ∷ []) cells
unfolding AllFit
pops_fit level cells there some births since until =
    let read : FourRead (drop 1) (drop 1) (drop 1) level cells = four_read (drop 1) (drop 1) (drop 1) level cells there in (
      (read.jobs, some),
      (
        (read.births, omega (arith, ap length read.births_are)),
        ((read.since, omega (arith, ap length read.since_are)), ((read.until, omega (arith, ap length read.until_are)), tt)),
      ),
    )

unpushes_fit : (level : ℕ) (cells : CellData) → until_line level < length cells.lines → 0 < length (line_of cells (jobs_line level))
    → length (line_of cells (births_line level)) ≡ length (line_of cells (jobs_line level))
    → length (line_of cells (since_line level)) ≡ length (line_of cells (jobs_line level))
    → length (line_of cells (until_line level)) ≡ length (line_of cells (jobs_line level))
    → AllFit (Unpush (jobs_line level) ∷ Unpush (births_line level) ∷ Unpush (since_line level) ∷ Unpush (until_line level) ∷ []) cells
unfolding AllFit
unpushes_fit level cells there some births since until =
    let out = λ (xs : List ℕ). take (length xs - 1) xs in
    let read : FourRead out out out level cells = four_read out out out level cells there in (
      (read.jobs, some),
      (
        (read.births, omega (arith, ap length read.births_are)),
        ((read.since, omega (arith, ap length read.since_are)), ((read.until, omega (arith, ap length read.until_are)), tt)),
      ),
    )

abbrev pops : ℕ → List Change
pops level = Pop (jobs_line level) ∷ Pop (births_line level) ∷ Pop (since_line level) ∷ Pop (until_line level) ∷ []

abbrev unpushes : ℕ → List Change
unpushes level = Unpush (jobs_line level) ∷ Unpush (births_line level) ∷ Unpush (since_line level) ∷ Unpush (until_line level) ∷ []

-- how many entries went out at the front is counted
gone_keeps : (object : ℕ) (routes : Routes) (station : Station) (held : ℕ) (servers : List ℕ) (level value : ℕ) (cells : CellData)
    → Stands object routes station held servers cells → level < station.levels
    → Keeps (Stands object routes station held servers) (Set (gone_word level) value ∷ []) cells
gone_keeps object routes station held servers level value cells is below =
    set_other object routes station held servers (gone_word level) value cells is (omega (arith, is.lawful.words))
    (λ e. absurd (omega arith)) (λ e. absurd (omega arith)) (λ e. absurd (omega arith)) (λ e. absurd (omega arith))

-- the entry that is called goes out, and was a job
pub called_keeps : (object : ℕ) (routes : Routes) (station : Station) (held : ℕ) (servers : List ℕ) (level waiting : ℕ) (from cells : CellData)
    (order : Order)
    → Stands object routes station held servers cells → level < station.levels → 0 < length (line_of cells (jobs_line level))
    → slice_index (line_of cells (jobs_line level)) (called_place order (length (line_of cells (jobs_line level)))) < EMPTY
    → waiting + 1 ≡ (counts_of cells).waiting
    → Keeps (Stands object routes station held servers) (Set WAITING waiting ∷ out_changes order from level) cells
unfolding AllFit cells_after_all
called_keeps object routes station held servers level waiting from cells order is below some job one = by order job
  where
    words : List ℕ
    words = slice_set cells.words WAITING waiting

    base : CellData
    base = record cells { words = words }

    long : 3 < length cells.words
    long = omega (arith, is.lawful.words)

    there : until_line level < length cells.lines
    there = omega (arith, is.lawful.lines)

    set : slice_index words WAITING ≡ waiting
    set = get_or-set_same cells.words WAITING waiting 0 long

    stands : (order : Order) → slice_index (line_of cells (jobs_line level)) (called_place order (length (line_of cells (jobs_line level)))) < EMPTY
        → Stands object routes station held servers (four_mapped (out_of order) (out_of order) (out_of order) (out_of order) level base)
    stands order job =
        out_stands object routes station held servers level order cells words is below some (set_waiting cells.words waiting)
        (omega (arith, set, one, job_counts _ job))

    front : slice_index (line_of cells (jobs_line level)) 0 < EMPTY
        → Keeps (Stands object routes station held servers) (Set WAITING waiting ∷ pops level) cells
    front job = record {
      fits = (
        long,
        pops_fit level base there some (is.lawful.levels level below).births (is.lawful.levels level below).since
            (is.lawful.levels level below).until,
      );
      after = stands First job;
    }

    by : (order : Order) → slice_index (line_of cells (jobs_line level)) (called_place order (length (line_of cells (jobs_line level)))) < EMPTY
        → Keeps (Stands object routes station held servers) (Set WAITING waiting ∷ out_changes order from level) cells
    by Last job = record {
      fits = (
        long,
        unpushes_fit level base there some (is.lawful.levels level below).births (is.lawful.levels level below).since
            (is.lawful.levels level below).until,
      );
      after = stands Last job;
    }
    by First job =
        keeps_then (Stands object routes station held servers) (Stands object routes station held servers) (Set WAITING waiting ∷ pops level)
        (Set (gone_word level) _ ∷ []) cells (front job)
        (λ c stood. gone_keeps object routes station held servers level _ c stood below)
    by Priority job =
        keeps_then (Stands object routes station held servers) (Stands object routes station held servers) (Set WAITING waiting ∷ pops level)
        (Set (gone_word level) _ ∷ []) cells (front job)
        (λ c stood. gone_keeps object routes station held servers level _ c stood below)

-- the entry that is called goes out, and was the place of a job that lost its patience
pub passed_keeps : (object : ℕ) (routes : Routes) (station : Station) (held : ℕ) (servers : List ℕ) (level : ℕ) (from cells : CellData)
    (order : Order)
    → Stands object routes station held servers cells → level < station.levels → 0 < length (line_of cells (jobs_line level))
    → EMPTY ≤ slice_index (line_of cells (jobs_line level)) (called_place order (length (line_of cells (jobs_line level))))
    → Keeps (Stands object routes station held servers) (out_changes order from level) cells
unfolding AllFit cells_after_all
passed_keeps object routes station held servers level from cells order is below some empty = by order empty
  where
    there : until_line level < length cells.lines
    there = omega (arith, is.lawful.lines)

    stands : (order : Order) → EMPTY ≤ slice_index (line_of cells (jobs_line level)) (called_place order (length (line_of cells (jobs_line level))))
        → Stands object routes station held servers (four_mapped (out_of order) (out_of order) (out_of order) (out_of order) level cells)
    stands order empty =
        out_stands object routes station held servers level order cells cells.words is below some (same_words cells.words)
        (omega (arith, empty_counts _ empty))

    front : EMPTY ≤ slice_index (line_of cells (jobs_line level)) 0 → Keeps (Stands object routes station held servers) (pops level) cells
    front empty = record {
      fits = pops_fit level cells there some (is.lawful.levels level below).births (is.lawful.levels level below).since
          (is.lawful.levels level below).until;
      after = stands First empty;
    }

    by : (order : Order) → EMPTY ≤ slice_index (line_of cells (jobs_line level)) (called_place order (length (line_of cells (jobs_line level))))
        → Keeps (Stands object routes station held servers) (out_changes order from level) cells
    by Last empty = record {
      fits = unpushes_fit level cells there some (is.lawful.levels level below).births (is.lawful.levels level below).since
          (is.lawful.levels level below).until;
      after = stands Last empty;
    }
    by First empty =
        keeps_then (Stands object routes station held servers) (Stands object routes station held servers) (pops level)
        (Set (gone_word level) _ ∷ []) cells (front empty)
        (λ c stood. gone_keeps object routes station held servers level _ c stood below)
    by Priority empty =
        keeps_then (Stands object routes station held servers) (Stands object routes station held servers) (pops level)
        (Set (gone_word level) _ ∷ []) cells (front empty)
        (λ c stood. gone_keeps object routes station held servers level _ c stood below)

-- a job that waits is an entry still when each of its bits is turned
flipped_entry : (object : ℕ) (routes : Routes) (a : ℕ) → a < EMPTY → is_entry object routes a ≡ true → is_entry object routes (flipped a) ≡ true
unfolding is_entry flipped
flipped_entry object routes a job entry =
    let turned : flipped a ≡ 2 ^ 64 - 1 - a = ap (λ b. if b then 2 ^ 64 - 1 - a else a) (lt-ltb a (2 ^ 64) (omega arith)) in
    let same : min (flipped a) (2 ^ 64 - 1 - flipped a) ≡ min a (2 ^ 64 - 1 - a) = omega (arith, turned) in
    ap (λ n. is_some (visit_at routes object n)) same ∙ entry

-- no fewer jobs wait than at one level
level_waiting : (object : ℕ) (routes : Routes) (station : Station) (cells : CellData) (level : ℕ) → IsLawful object routes station cells
    → level < station.levels
    → waiting_at cells level ≤ (counts_of cells).waiting
level_waiting object routes station cells level is below =
    let at : get_or (range_with_len 0 station.levels) level 0 ≡ level = omega (arith, get_or-range_with_len 0 station.levels level 0 below) in
    let sum : waiting_at cells (get_or (range_with_len 0 station.levels) level 0) ≤ waiting_in cells station.levels =
    get_or-le-sum_by (λ l. waiting_at cells l) (range_with_len 0 station.levels) level 0 (omega (arith, length-range_with_len 0 station.levels)) in
    omega (arith, is.waiting, ap (λ l. waiting_at cells l) at, sum)

-- a job that waits goes away, and leaves its place empty
pub renege_keeps : (object : ℕ) (routes : Routes) (station : Station) (held : ℕ) (servers : List ℕ) (level place : ℕ) (cells : CellData)
    → Stands object routes station held servers cells → level < station.levels → place < length (line_of cells (jobs_line level))
    → slice_index (line_of cells (jobs_line level)) place < EMPTY
    → Keeps (Stands object routes station held servers) (Set WAITING ((counts_of cells).waiting - 1) ∷ Flip (jobs_line level) place ∷ []) cells
unfolding AllFit cells_after_all waiting_at flipped
renege_keeps object routes station held servers level place cells is below within job =
    let waiting = (counts_of cells).waiting - 1 in
    let words = slice_set cells.words WAITING waiting in
    let base : CellData = record cells { words = words } in
    let there : jobs_line level < length cells.lines = omega (arith, is.lawful.lines) in
    let long : 3 < length cells.words = omega (arith, is.lawful.words) in
    let at = is.lawful.levels level below in
    let jobs = line_of cells (jobs_line level) in
    let turn = λ (xs : List ℕ). with_flipped xs place in
    let a = slice_index jobs place in
    let set : slice_index words WAITING ≡ waiting = get_or-set_same cells.words WAITING waiting 0 long in
    let big : EMPTY ≤ flipped a = grind (arith, nat_tests) in
    let sum : jobs_in (with_flipped jobs place) + counted a ≡ jobs_in jobs + counted (flipped a) =
    sum_by-set counted jobs place (flipped a) 0 within in
    let some : waiting_at cells level ≤ (counts_of cells).waiting = level_waiting object routes station cells level is.lawful below in
    let one : 1 ≤ jobs_in jobs = omega (arith, get_or-le-sum_by counted jobs place 0 within, job_counts a job) in
    record {
      fits = (long, ((there, within), tt));
      after = level_changed object routes station held servers cells (mapped turn (jobs_line level) base) level
          (with_flipped jobs place) (line_of cells (births_line level)) (line_of cells (since_line level)) (line_of cells (until_line level)) is below
          (set_waiting cells.words waiting)
          (record {
            lines = mapped_long turn (jobs_line level) base;
            jobs = mapped_here turn (jobs_line level) base there;
            births = mapped_other turn (jobs_line level) (births_line level) base (λ e. absurd (omega arith));
            since = mapped_other turn (jobs_line level) (since_line level) base (λ e. absurd (omega arith));
            until = mapped_other turn (jobs_line level) (until_line level) base (λ e. absurd (omega arith));
            others = λ line no_jobs no_births no_since no_until. mapped_other turn (jobs_line level) line base no_jobs;
          })
          (record {
            births = at.births ∙ sym (length-set jobs place (flipped a));
            since = at.since ∙ sym (length-set jobs place (flipped a));
            until = at.until ∙ sym (length-set jobs place (flipped a));
            entries = All-set (λ a. is_entry object routes a ≡ true) jobs place (flipped a)
                (flipped_entry object routes a job (at.entries place 0 within)) at.entries;
            early = at.early;
          })
          (omega (arith, set, sum, job_counts a job, empty_counts (flipped a) big, one, some))
          (omega (arith, set, is.lawful.few));
    }
