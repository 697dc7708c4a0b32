-- What is read of the cells of a station after changes, one change after another.
use Rattle.std.proofs.Common.{◌≡◌, ◌≢◌, ℕ, ◌+◌, ◌-◌, ◌%◌, ◌^◌, ◌<◌, ◌≤◌, Bool, true, false, List, [], ◌∷◌, ◌++◌, length, take, ⊎_elim, refl, sym, ap, ◌∙◌, subst, arith, get_or-set_same, get_or-set_other, eq-eqb, ne_eqb}
use Rattle.std.specs.Prelude.{if◌then◌else◌, ◌==◌, is_none, slice_set, slice_index}
use Rattle.std.proofs.lemmas.Bool.{cases_eq}
use Rattle.std.proofs.lemmas.List.{length-set}
use Rattle.delta_exchange.specs.declared.change.Change.{Change}
use Rattle.delta_exchange.specs.declared.change.Change.TheVariants.{Set, Unpush}
use Rattle.delta_exchange.specs.Changes.{CellData, line_of, with_line, cells_after_all}
use Rattle.model_core.specs.Places.{place_changes, place_cases}
use Rattle.shop_model.specs.declared.counts.Counts.{Counts}
use Rattle.shop_model.specs.declared.station.Order.{Order}
use Rattle.shop_model.specs.declared.station.Order.TheVariants.{First, Last, Priority}
use Rattle.shop_model.specs.declared.station.Station.{Station}
use Rattle.shop_model.specs.declared.station.TheConstants.{OPEN, HELD, WAITING, DOWN, LAG, FREE_SERVERS}
use Rattle.shop_model.specs.declared.step.Visit.{Visit as AVisit}
use Rattle.shop_model.specs.Beginnings.{next_server, begin_changes}
use Rattle.shop_model.specs.EntrySteps.{out_of}
use Rattle.shop_model.specs.StationEffects.{out_changes}
use Rattle.shop_model.specs.Stations.{gone_word, mark_word, jobs_line, births_line, since_line, until_line}

-- what the laws read of a station: who serves nobody, the other lines, the words that count, and how many words and lines there are
pub record Readings : Type 0 where
  pub idle : List ℕ
  pub line : ℕ → List ℕ
  pub opened : ℕ
  pub held : ℕ
  pub waiting : ℕ
  pub down : ℕ
  pub lag : ℕ
  pub words : ℕ
  pub lines : ℕ

pub record Reads (cells : CellData) (r : Readings) : Type 0 where
  pub idle : line_of cells FREE_SERVERS ≡ r.idle
  pub line : (k : ℕ) → k ≢ FREE_SERVERS → line_of cells k ≡ r.line k
  pub opened : slice_index cells.words OPEN ≡ r.opened
  pub held : slice_index cells.words HELD ≡ r.held
  pub waiting : slice_index cells.words WAITING ≡ r.waiting
  pub down : slice_index cells.words DOWN ≡ r.down
  pub lag : slice_index cells.words LAG ≡ r.lag
  pub words : length cells.words ≡ r.words
  pub lines : length cells.lines ≡ r.lines
  pub long : LAG < r.words
  pub wide : FREE_SERVERS < r.lines

-- those of cells
abbrev pub readings_of : CellData → Readings
readings_of cells = record {
  idle = line_of cells FREE_SERVERS;
  line = λ k. line_of cells k;
  opened = slice_index cells.words OPEN;
  held = slice_index cells.words HELD;
  waiting = slice_index cells.words WAITING;
  down = slice_index cells.words DOWN;
  lag = slice_index cells.words LAG;
  words = length cells.words;
  lines = length cells.lines;
}

pub reads_itself : (cells : CellData) → LAG < length cells.words → FREE_SERVERS < length cells.lines → Reads cells (readings_of cells)
reads_itself cells long wide = record {
  idle = refl;
  line = λ k other. refl;
  opened = refl;
  held = refl;
  waiting = refl;
  down = refl;
  lag = refl;
  words = refl;
  lines = refl;
  long = long;
  wide = wide;
}

-- one line becomes another
abbrev pub put : ℕ → List ℕ → (ℕ → List ℕ) → ℕ → List ℕ
put k values line at = if at == k then values else line at

pub put_same : (k : ℕ) (values : List ℕ) (line : ℕ → List ℕ) → put k values line k ≡ values
put_same k values line = ap (λ b. if b then values else line k) (eq-eqb k k refl)

pub put_other : (k at : ℕ) (values : List ℕ) (line : ℕ → List ℕ) → at ≢ k → put k values line at ≡ line at
put_other k at values line other = ap (λ b. if b then values else line at) (ne_eqb at k other)

-- a word is set that no law reads here
pub reads_word : (r : Readings) (word value : ℕ) (cells : CellData) → word ≢ OPEN → word ≢ HELD → word ≢ WAITING → word ≢ DOWN → word ≢ LAG
    → Reads cells r → Reads (record cells { words = slice_set cells.words word value }) r
reads_word r word value cells no_open no_held no_waiting no_down no_lag is = record {
  idle = is.idle;
  line = is.line;
  opened = get_or-set_other cells.words word OPEN value 0 (λ e. no_open (sym e)) ∙ is.opened;
  held = get_or-set_other cells.words word HELD value 0 (λ e. no_held (sym e)) ∙ is.held;
  waiting = get_or-set_other cells.words word WAITING value 0 (λ e. no_waiting (sym e)) ∙ is.waiting;
  down = get_or-set_other cells.words word DOWN value 0 (λ e. no_down (sym e)) ∙ is.down;
  lag = get_or-set_other cells.words word LAG value 0 (λ e. no_lag (sym e)) ∙ is.lag;
  words = length-set cells.words word value ∙ is.words;
  lines = is.lines;
  long = is.long;
  wide = is.wide;
}

-- one of the words that the laws read is set
abbrev pub set_word : ℕ → ℕ → Readings → Readings
set_word word value r = record r {
  opened = if OPEN == word then value else r.opened;
  held = if HELD == word then value else r.held;
  waiting = if WAITING == word then value else r.waiting;
  down = if DOWN == word then value else r.down;
  lag = if LAG == word then value else r.lag;
}

word_after : (words : List ℕ) (word value k was : ℕ) → word < length words → slice_index words k ≡ was → slice_index (slice_set words word value) k ≡ (if k == word then value else was)
word_after words word value k was there is = ⊎_elim
    (λ (same : k ≡ word). ap (λ j. slice_index (slice_set words word value) j) same ∙ get_or-set_same words word value 0 there ∙ sym (ap (λ b. if b then value else was) (eq-eqb k word same)))
    (λ (apart : k ≢ word). get_or-set_other words word k value 0 apart ∙ is ∙ sym (ap (λ b. if b then value else was) (ne_eqb k word apart)))
    (cases_eq k word)

reads_set : (r : Readings) (word value : ℕ) (cells : CellData) → word ≤ LAG → Reads cells r → Reads (record cells { words = slice_set cells.words word value }) (set_word word value r)
reads_set r word value cells low is =
    let there : word < length cells.words = omega (arith, is.words, is.long) in
    record {
      idle = is.idle;
      line = is.line;
      opened = word_after cells.words word value OPEN r.opened there is.opened;
      held = word_after cells.words word value HELD r.held there is.held;
      waiting = word_after cells.words word value WAITING r.waiting there is.waiting;
      down = word_after cells.words word value DOWN r.down there is.down;
      lag = word_after cells.words word value LAG r.lag there is.lag;
      words = length-set cells.words word value ∙ is.words;
      lines = is.lines;
      long = is.long;
      wide = is.wide;
    }

pub reads_open : (r : Readings) (value : ℕ) (cells : CellData) → Reads cells r → Reads (record cells { words = slice_set cells.words OPEN value }) (record r { opened = value })
reads_open r value cells is = reads_set r OPEN value cells (omega arith) is

pub reads_held : (r : Readings) (value : ℕ) (cells : CellData) → Reads cells r → Reads (record cells { words = slice_set cells.words HELD value }) (record r { held = value })
reads_held r value cells is = reads_set r HELD value cells (omega arith) is

pub reads_waiting : (r : Readings) (value : ℕ) (cells : CellData) → Reads cells r → Reads (record cells { words = slice_set cells.words WAITING value }) (record r { waiting = value })
reads_waiting r value cells is = reads_set r WAITING value cells (omega arith) is

pub reads_down : (r : Readings) (value : ℕ) (cells : CellData) → Reads cells r → Reads (record cells { words = slice_set cells.words DOWN value }) (record r { down = value })
reads_down r value cells is = reads_set r DOWN value cells (omega arith) is

pub reads_lag : (r : Readings) (value : ℕ) (cells : CellData) → Reads cells r → Reads (record cells { words = slice_set cells.words LAG value }) (record r { lag = value })
reads_lag r value cells is = reads_set r LAG value cells (omega arith) is

-- the servers that serve nobody become others
pub reads_idle : (r : Readings) (servers : List ℕ) (cells : CellData) → Reads cells r → Reads (with_line cells FREE_SERVERS servers) (record r { idle = servers })
reads_idle r servers cells is = record {
  idle = get_or-set_same cells.lines FREE_SERVERS servers [] (omega (arith, is.lines, is.wide));
  line = λ k other. get_or-set_other cells.lines FREE_SERVERS k servers [] other ∙ is.line k other;
  opened = is.opened;
  held = is.held;
  waiting = is.waiting;
  down = is.down;
  lag = is.lag;
  words = is.words;
  lines = length-set cells.lines FREE_SERVERS servers ∙ is.lines;
  long = is.long;
  wide = is.wide;
}

-- another line becomes what a function makes of it
pub reads_line : (r : Readings) (change : List ℕ → List ℕ) (at : ℕ) (cells : CellData) → at ≢ FREE_SERVERS → at < r.lines → Reads cells r
    → Reads (with_line cells at (change (line_of cells at))) (record r { line = put at (change (r.line at)) r.line })
reads_line r change at cells other there is = record {
  idle = get_or-set_other cells.lines at FREE_SERVERS (change (line_of cells at)) [] (λ e. other (sym e)) ∙ is.idle;
  line = λ k differs. ⊎_elim
      (λ (same : k ≡ at). subst (λ j. line_of (with_line cells at (change (line_of cells at))) j ≡ put at (change (r.line at)) r.line j) (sym same)
      (get_or-set_same cells.lines at (change (line_of cells at)) [] (omega (arith, is.lines)) ∙ ap change (is.line at other) ∙ sym (put_same at (change (r.line at)) r.line)))
      (λ (apart : k ≢ at). get_or-set_other cells.lines at k (change (line_of cells at)) [] apart ∙ is.line k differs ∙ sym (put_other at k (change (r.line at)) r.line apart))
      (cases_eq k at);
  opened = is.opened;
  held = is.held;
  waiting = is.waiting;
  down = is.down;
  lag = is.lag;
  words = is.words;
  lines = length-set cells.lines at (change (line_of cells at)) ∙ is.lines;
  long = is.long;
  wide = is.wide;
}

-- the four lines of a level become what functions make of them
abbrev pub four_put : (List ℕ → List ℕ) → (List ℕ → List ℕ) → (List ℕ → List ℕ) → (List ℕ → List ℕ) → ℕ → (ℕ → List ℕ) → ℕ → List ℕ
four_put f g h i level line =
    let one = put (jobs_line level) (f (line (jobs_line level))) line in
    let two = put (births_line level) (g (one (births_line level))) one in
    let three = put (since_line level) (h (two (since_line level))) two in
    put (until_line level) (i (three (until_line level))) three

abbrev pub four_lines : (List ℕ → List ℕ) → (List ℕ → List ℕ) → (List ℕ → List ℕ) → (List ℕ → List ℕ) → ℕ → CellData → CellData
four_lines f g h i level cells =
    let one = with_line cells (jobs_line level) (f (line_of cells (jobs_line level))) in
    let two = with_line one (births_line level) (g (line_of one (births_line level))) in
    let three = with_line two (since_line level) (h (line_of two (since_line level))) in
    with_line three (until_line level) (i (line_of three (until_line level)))

pub reads_level : (r : Readings) (f g h i : List ℕ → List ℕ) (level : ℕ) (cells : CellData) → until_line level < r.lines → Reads cells r
    → Reads (four_lines f g h i level cells) (record r { line = four_put f g h i level r.line })
reads_level r f g h i level cells there is =
    let c1 = with_line cells (jobs_line level) (f (line_of cells (jobs_line level))) in
    let r1 : Readings = record r { line = put (jobs_line level) (f (r.line (jobs_line level))) r.line } in
    let is1 : Reads c1 r1 = reads_line r f (jobs_line level) cells (λ e. absurd (omega arith)) (omega arith) is in
    let c2 = with_line c1 (births_line level) (g (line_of c1 (births_line level))) in
    let r2 : Readings = record r { line = put (births_line level) (g (r1.line (births_line level))) r1.line } in
    let is2 : Reads c2 r2 = reads_line r1 g (births_line level) c1 (λ e. absurd (omega arith)) (omega arith) is1 in
    let c3 = with_line c2 (since_line level) (h (line_of c2 (since_line level))) in
    let r3 : Readings = record r { line = put (since_line level) (h (r2.line (since_line level))) r2.line } in
    let is3 : Reads c3 r3 = reads_line r2 h (since_line level) c2 (λ e. absurd (omega arith)) (omega arith) is2 in
    reads_line r3 i (until_line level) c3 (λ e. absurd (omega arith)) (omega arith) is3

-- where the random place moves on first
pub reads_placed : (r : Readings) (place next : ℕ) (rest : List Change) (cells : CellData) (Q : CellData → Type 0) → Reads cells r
    → ((c : CellData) → Reads c r → Q (cells_after_all rest c)) → Q (cells_after_all (place_changes place next ++ rest) cells)
unfolding cells_after_all
reads_placed r place next rest cells Q is follows =
    place_cases (λ drawn. Q (cells_after_all (drawn ++ rest) cells)) place next (follows cells is)
    (follows (record cells { words = slice_set cells.words 0 next })
    (reads_word r 0 next cells (λ e. absurd (omega arith)) (λ e. absurd (omega arith)) (λ e. absurd (omega arith)) (λ e. absurd (omega arith)) (λ e. absurd (omega arith)) is))

-- an entry goes out of a level
abbrev pub went_out : Order → ℕ → Readings → Readings
went_out order level r = record r { line = four_put (out_of order) (out_of order) (out_of order) (out_of order) level r.line }

reads_gone : (r : Readings) (order : Order) (gone level : ℕ) (cells : CellData) → until_line level < r.lines → Reads cells r
    → (let c : CellData = four_lines (out_of order) (out_of order) (out_of order) (out_of order) level cells in Reads (record c { words = slice_set c.words (gone_word level) gone }) (went_out order level r))
reads_gone r order gone level cells there is =
    let out = out_of order in
    reads_word (went_out order level r) (gone_word level) gone (four_lines out out out out level cells)
    (λ e. absurd (omega arith)) (λ e. absurd (omega arith)) (λ e. absurd (omega arith)) (λ e. absurd (omega arith)) (λ e. absurd (omega arith))
    (reads_level r out out out out level cells there is)

pub reads_out : (r : Readings) (order : Order) (from : CellData) (level : ℕ) (rest : List Change) (cells : CellData) (Q : CellData → Type 0) → until_line level < r.lines → Reads cells r
    → ((c : CellData) → Reads c (went_out order level r) → Q (cells_after_all rest c)) → Q (cells_after_all (out_changes order from level ++ rest) cells)
unfolding cells_after_all
reads_out r Last from level rest cells Q there is follows = follows _ (reads_level r (out_of Last) (out_of Last) (out_of Last) (out_of Last) level cells there is)
reads_out r First from level rest cells Q there is follows = follows _ (reads_gone r First ((slice_index from.words (gone_word level) + 1) % 2 ^ 64) level cells there is)
reads_out r Priority from level rest cells Q there is follows = follows _ (reads_gone r Priority ((slice_index from.words (gone_word level) + 1) % 2 ^ 64) level cells there is)

-- a server begins a job
abbrev pub began : AVisit → Counts → Readings → Readings
began visit counts r = if is_none visit.service then record r { held = counts.held + 1 } else record r { idle = take (length r.idle - 1) r.idle }

pub reads_began : (r : Readings) (station : Station) (from : CellData) (visit : AVisit) (counts : Counts) (cells : CellData) → Reads cells r
    → Reads (cells_after_all (begin_changes station from visit counts) cells) (began visit counts r)
unfolding begin_changes cells_after_all
reads_began r station from visit counts cells is = by (is_none visit.service)
  where
    by : (takes : Bool) → Reads
        (cells_after_all (if takes then Set HELD (counts.held + 1) ∷ [] else Unpush FREE_SERVERS ∷ Set (mark_word station (next_server from)) (slice_index from.words LAG) ∷ []) cells)
        (if takes then record r { held = counts.held + 1 } else record r { idle = take (length r.idle - 1) r.idle })
    by true = reads_held r (counts.held + 1) cells is
    by false =
        let servers = line_of cells FREE_SERVERS in
        let c : CellData = with_line cells FREE_SERVERS (take (length servers - 1) servers) in
        let idle : Reads c (record r { idle = take (length servers - 1) servers }) = reads_idle r (take (length servers - 1) servers) cells is in
        reads_word (record r { idle = take (length r.idle - 1) r.idle }) (mark_word station (next_server from)) (slice_index from.words LAG) c
        (λ e. absurd (omega arith)) (λ e. absurd (omega arith)) (λ e. absurd (omega arith)) (λ e. absurd (omega arith)) (λ e. absurd (omega arith))
        (subst (λ xs. Reads c (record r { idle = take (length xs - 1) xs })) is.idle idle)

-- what is read otherwise stays where a server begins
pub began_keeps : {A : Type 0} (f : Readings → A) (visit : AVisit) (counts : Counts) (r : Readings) → ((held : ℕ) → f (record r { held = held }) ≡ f r)
    → ((idle : List ℕ) → f (record r { idle = idle }) ≡ f r) → f (began visit counts r) ≡ f r
began_keeps f visit counts r held idle = by (is_none visit.service)
  where
    by : (takes : Bool) → f (if takes then record r { held = counts.held + 1 } else record r { idle = take (length r.idle - 1) r.idle }) ≡ f r
    by true = held (counts.held + 1)
    by false = idle (take (length r.idle - 1) r.idle)

pub began_line : (visit : AVisit) (counts : Counts) (r : Readings) → (began visit counts r).line ≡ r.line
began_line visit counts r = began_keeps (λ r. r.line) visit counts r (λ held. refl) (λ idle. refl)

pub began_lag : (visit : AVisit) (counts : Counts) (r : Readings) → (began visit counts r).lag ≡ r.lag
began_lag visit counts r = began_keeps (λ r. r.lag) visit counts r (λ held. refl) (λ idle. refl)

pub began_waiting : (visit : AVisit) (counts : Counts) (r : Readings) → (began visit counts r).waiting ≡ r.waiting
began_waiting visit counts r = began_keeps (λ r. r.waiting) visit counts r (λ held. refl) (λ idle. refl)

pub began_down : (visit : AVisit) (counts : Counts) (r : Readings) → (began visit counts r).down ≡ r.down
began_down visit counts r = began_keeps (λ r. r.down) visit counts r (λ held. refl) (λ idle. refl)
