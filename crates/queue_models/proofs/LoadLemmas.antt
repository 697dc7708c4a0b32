-- The load of a station is counted change by change.
use Rattle.std.proofs.Common.{◌≡◌, ◌≢◌, ℕ, ◌+◌, ◌-◌, ◌<◌, ◌≤◌, Bool, true, false, List, [], ◌∷◌, ◌++◌, length, take, drop, refl, sym, ap, ◌∙◌, arith, eqb-true, eq-eqb, get_or, get_or-set_same, get_or-set_other, length-append}
use Rattle.std.specs.Prelude.{◌==◌, if◌then◌else◌, slice_set, slice_index}
use Rattle.std.proofs.lemmas.List.{length-drop, length-take-le, drop_more, drop_all}
use Rattle.std.proofs.Math.ListN.{length-set}
use Rattle.delta_exchange.specs.declared.change.Change.{Change}
use Rattle.delta_exchange.specs.declared.change.Change.TheVariants.{Set, Push, Pop, Unpush, Unpop, Flip}
use Rattle.delta_exchange.specs.Changes.{CellData, line_of, with_line, with_flipped, cells_after, cells_after_all}
use Rattle.queue_models.specs.Loads.{busy_after, waiting_after, load_after_all}
use Rattle.queue_models.specs.Stations.{busy_servers, waiting_jobs}

-- a word and a line of a station
record HasCells (cells : CellData) : Type 0 where
  words : 1 < length cells.words
  lines : 0 < length cells.lines

still_cells : (change : Change) (cells : CellData) → HasCells cells → HasCells (cells_after change cells)
still_cells (Set word value) cells has = record { words = rw length-set has.words; lines = has.lines }
still_cells (Push line value) cells has = record { words = has.words; lines = rw length-set has.lines }
still_cells (Pop line) cells has = record { words = has.words; lines = rw length-set has.lines }
still_cells (Unpush line) cells has = record { words = has.words; lines = rw length-set has.lines }
still_cells (Unpop line value) cells has = record { words = has.words; lines = rw length-set has.lines }
still_cells (Flip line place) cells has = record { words = has.words; lines = rw length-set has.lines }

-- word 1, after a word is set
set_word : (words : List ℕ) (word value : ℕ) → 1 < length words → slice_index (slice_set words word value) 1 ≡ (if word == 1 then value else slice_index words 1)
set_word words word value within = by (word == 1) refl
  where
    by : (same : Bool) → (word == 1) ≡ same → slice_index (slice_set words word value) 1 ≡ (if same then value else slice_index words 1)
    by true same =
        let at : word ≡ 1 = eqb-true word 1 same in
        rw at (get_or-set_same words 1 value 0 within)
    by false apart =
        let other : 1 ≢ word = λ one. let yes : (word == 1) ≡ true = eq-eqb word 1 (sym one) in cc in
        get_or-set_other words word 1 value 0 other

-- the length of line 0, after a line is set
set_line : (cells : CellData) (line : ℕ) (values : List ℕ) → 0 < length cells.lines → waiting_jobs (with_line cells line values) ≡ (if line == 0 then length values else waiting_jobs cells)
set_line cells line values within = by (line == 0) refl
  where
    by : (same : Bool) → (line == 0) ≡ same → waiting_jobs (with_line cells line values) ≡ (if same then length values else waiting_jobs cells)
    by true same =
        let at : line ≡ 0 = eqb-true line 0 same in
        rw at (ap length (get_or-set_same cells.lines 0 values [] within))
    by false apart =
        let other : 0 ≢ line = λ none. let yes : (line == 0) ≡ true = eq-eqb line 0 (sym none) in cc in
        ap length (get_or-set_other cells.lines line 0 values [] other)

busy_is : (change : Change) (cells : CellData) → HasCells cells → busy_servers (cells_after change cells) ≡ busy_after change (busy_servers cells)
busy_is (Set word value) cells has = set_word cells.words word value has.words
busy_is (Push line value) cells has = refl
busy_is (Pop line) cells has = refl
busy_is (Unpush line) cells has = refl
busy_is (Unpop line value) cells has = refl
busy_is (Flip line place) cells has = refl

-- where line 0 gets so many values
line_gets : (cells : CellData) (line n : ℕ) (values : List ℕ) → 0 < length cells.lines → ((line ≡ 0) → length values ≡ n)
    → waiting_jobs (with_line cells line values) ≡ (if line == 0 then n else waiting_jobs cells)
line_gets cells line n values within long = set_line cells line values within ∙ by (line == 0) refl
  where
    by : (same : Bool) → (line == 0) ≡ same → (if same then length values else waiting_jobs cells) ≡ (if same then n else waiting_jobs cells)
    by true same = long (eqb-true line 0 same)
    by false apart = refl

waiting_is : (change : Change) (cells : CellData) → HasCells cells → waiting_jobs (cells_after change cells) ≡ waiting_after change (waiting_jobs cells)
waiting_is (Set word value) cells has = refl
waiting_is (Push line value) cells has =
    line_gets cells line (waiting_jobs cells + 1) (line_of cells line ++ value ∷ []) has.lines
    (λ first. length-append (line_of cells line) (value ∷ []) ∙ ap (λ k. length (line_of cells k) + 1) first)
waiting_is (Pop line) cells has =
    line_gets cells line (waiting_jobs cells - 1) (drop 1 (line_of cells line)) has.lines
    (λ first. length-drop 1 (line_of cells line) ∙ ap (λ k. length (line_of cells k) - 1) first)
waiting_is (Unpush line) cells has =
    line_gets cells line (waiting_jobs cells - 1) (take (length (line_of cells line) - 1) (line_of cells line)) has.lines
    (λ first. length-take-le (length (line_of cells line) - 1) (line_of cells line) (omega arith) ∙ ap (λ k. length (line_of cells k) - 1) first)
waiting_is (Unpop line value) cells has =
    line_gets cells line (waiting_jobs cells + 1) (value ∷ line_of cells line) has.lines
    (λ first. ap (λ k. length (value ∷ line_of cells k)) first ∙ omega arith)
waiting_is (Flip line place) cells has =
    line_gets cells line (waiting_jobs cells) (with_flipped (line_of cells line) place) has.lines
    (λ first. length-set (line_of cells line) place _ ∙ ap (λ k. length (line_of cells k)) first)
    ∙ by (line == 0)
  where
    by : (first : Bool) → (if first then waiting_jobs cells else waiting_jobs cells) ≡ waiting_jobs cells
    by true = refl
    by false = refl

-- after all of them, what was counted is the load
pub load_is : (changes : List Change) (cells : CellData) → 1 < length cells.words → 0 < length cells.lines
    → load_after_all changes (busy_servers cells) (waiting_jobs cells) ≡ (busy_servers (cells_after_all changes cells), waiting_jobs (cells_after_all changes cells))
unfolding load_after_all cells_after_all
load_is [] cells words lines = refl
load_is (change ∷ rest) cells words lines =
    let has : HasCells cells = record { words = words; lines = lines } in
    let still : HasCells (cells_after change cells) = still_cells change cells has in
    ap (λ busy. load_after_all rest busy (waiting_after change (waiting_jobs cells))) (sym (busy_is change cells has))
    ∙ ap (λ waiting. load_after_all rest (busy_servers (cells_after change cells)) waiting) (sym (waiting_is change cells has))
    ∙ load_is rest (cells_after change cells) still.words still.lines

-- one change after another, as a loop does
pub load_next : (changes : List Change) (at busy waiting : ℕ) (d : Change) → at < length changes
    → load_after_all (drop (at + 1) changes) (busy_after (get_or changes at d) busy) (waiting_after (get_or changes at d) waiting) ≡ load_after_all (drop at changes) busy waiting
unfolding load_after_all
load_next changes at busy waiting d lt = rw (drop_more changes at d lt) refl

pub load_end : (changes : List Change) (at busy waiting : ℕ) → length changes ≤ at → load_after_all (drop at changes) busy waiting ≡ (busy, waiting)
unfolding load_after_all
load_end changes at busy waiting le = rw (drop_all at changes le) refl

-- a change takes in one job at most
pub waiting_after-le : (change : Change) (waiting : ℕ) → waiting_after change waiting ≤ waiting + 1
waiting_after-le (Set word value) waiting = omega arith
waiting_after-le (Push line value) waiting = by (line == 0)
  where
    by : (first : Bool) → (if first then waiting + 1 else waiting) ≤ waiting + 1
    by true = omega arith
    by false = omega arith
waiting_after-le (Pop line) waiting = by (line == 0)
  where
    by : (first : Bool) → (if first then waiting - 1 else waiting) ≤ waiting + 1
    by true = omega arith
    by false = omega arith
waiting_after-le (Unpush line) waiting = by (line == 0)
  where
    by : (first : Bool) → (if first then waiting - 1 else waiting) ≤ waiting + 1
    by true = omega arith
    by false = omega arith
waiting_after-le (Unpop line value) waiting = by (line == 0)
  where
    by : (first : Bool) → (if first then waiting + 1 else waiting) ≤ waiting + 1
    by true = omega arith
    by false = omega arith
waiting_after-le (Flip line place) waiting = omega arith
