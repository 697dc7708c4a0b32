-- A word of a station's cells after changes that leave it as it is, and the random place.
use Rattle.std.proofs.Common.{◌≡◌, ◌≢◌, ℕ, ◌+◌, ◌<◌, Bool, true, false, List, [], ◌∷◌, ◌++◌, length, refl, sym, ap, ◌∙◌, append-nil, get_or-set_same, get_or-set_other}
use Rattle.std.specs.Prelude.{if◌then◌else◌, ◌==◌, is_none, slice_index, slice_set}
use Rattle.std.specs.List.{AllByRecursion as Each}
use Rattle.std.proofs.lemmas.Bool.{eqb-true}
use Rattle.std.proofs.lemmas.List.{length-set}
use Rattle.delta_exchange.specs.declared.change.Change.{Change}
use Rattle.delta_exchange.specs.declared.change.Change.TheVariants.{Set, Push, Pop, Unpush, Unpop, Flip}
use Rattle.delta_exchange.specs.Changes.{CellData, cells_after, cells_after_all}
use Rattle.model_core.specs.Places.{place_changes, place_cases}
use Rattle.shop_model.specs.declared.counts.Counts.{Counts}
use Rattle.shop_model.specs.declared.station.Order.{Order}
use Rattle.shop_model.specs.declared.station.Order.TheVariants.{First, Last, Priority}
use Rattle.shop_model.specs.declared.station.Station.{Station}
use Rattle.shop_model.specs.declared.station.TheConstants.{HELD, LAG, FREE_SERVERS}
use Rattle.shop_model.specs.declared.step.Visit.{Visit as AVisit}
use Rattle.shop_model.specs.Beginnings.{next_server, begin_changes}
use Rattle.shop_model.specs.Sites.{place_of}
use Rattle.shop_model.specs.StationEffects.{out_changes}
use Rattle.shop_model.specs.Stations.{gone_word, mark_word}

-- a change that leaves a word as it is
abbrev pub Leaves : ℕ → Change → Type 0
Leaves word (Set other value) = other ≢ word
Leaves word (Push line value) = Unit {0}
Leaves word (Pop line) = Unit {0}
Leaves word (Unpush line) = Unit {0}
Leaves word (Unpop line value) = Unit {0}
Leaves word (Flip line place) = Unit {0}

one_stays : (word : ℕ) (change : Change) (cells : CellData) → Leaves word change → slice_index (cells_after change cells).words word ≡ slice_index cells.words word
one_stays word (Set other value) cells apart = get_or-set_other cells.words other word value 0 (λ e. apart (sym e))
one_stays word (Push line value) cells apart = refl
one_stays word (Pop line) cells apart = refl
one_stays word (Unpush line) cells apart = refl
one_stays word (Unpop line value) cells apart = refl
one_stays word (Flip line place) cells apart = refl

pub word_stays : (word : ℕ) (changes : List Change) (cells : CellData) → Each (Leaves word) changes
    → slice_index (cells_after_all changes cells).words word ≡ slice_index cells.words word
unfolding cells_after_all
word_stays word [] cells all = refl
word_stays word (change ∷ rest) cells all = word_stays word rest (cells_after change cells) all.1 ∙ one_stays word change cells all.0

one_long : (change : Change) (cells : CellData) → length (cells_after change cells).words ≡ length cells.words
one_long (Set other value) cells = length-set cells.words other value
one_long (Push line value) cells = refl
one_long (Pop line) cells = refl
one_long (Unpush line) cells = refl
one_long (Unpop line value) cells = refl
one_long (Flip line place) cells = refl

-- there are as many words
pub words_long : (changes : List Change) (cells : CellData) → length (cells_after_all changes cells).words ≡ length cells.words
unfolding cells_after_all
words_long [] cells = refl
words_long (change ∷ rest) cells = words_long rest (cells_after change cells) ∙ one_long change cells

-- words were drawn first
pub place_goes : (next : ℕ) (rest : List Change) (cells : CellData) → 0 < length cells.words → Each (Leaves 0) rest
    → place_of (cells_after_all (place_changes (place_of cells) next ++ rest) cells) ≡ next
unfolding place_changes cells_after_all
place_goes next rest cells some all = by (next == place_of cells) refl
  where
    by : (same : Bool) → (next == place_of cells) ≡ same → place_of (cells_after_all ((if same then [] else Set 0 next ∷ []) ++ rest) cells) ≡ next
    by true is = word_stays 0 rest cells all ∙ sym (eqb-true _ _ is)
    by false is = word_stays 0 rest (record cells { words = slice_set cells.words 0 next }) all ∙ get_or-set_same cells.words 0 next 0 some

pub place_only : (next : ℕ) (cells : CellData) → 0 < length cells.words → place_of (cells_after_all (place_changes (place_of cells) next) cells) ≡ next
place_only next cells some =
    ap (λ (cs : List Change). place_of (cells_after_all cs cells)) (sym (append-nil (place_changes (place_of cells) next))) ∙ place_goes next [] cells some tt

-- other words stay where words are drawn
pub placed_leaves : (word place next : ℕ) → word ≢ 0 → Each (Leaves word) (place_changes place next)
placed_leaves word place next other = place_cases (λ (cs : List Change). Each (Leaves word) cs) place next tt ((λ e. absurd (other (sym e))), tt)

-- an entry that goes out
pub out_leaves : (word : ℕ) (order : Order) (cells : CellData) (level : ℕ) (rest : List Change) → gone_word level ≢ word → Each (Leaves word) rest
    → Each (Leaves word) (out_changes order cells level ++ rest)
out_leaves word Last cells level rest other all = (tt, (tt, (tt, (tt, all))))
out_leaves word First cells level rest other all = (tt, (tt, (tt, (tt, (other, all)))))
out_leaves word Priority cells level rest other all = (tt, (tt, (tt, (tt, (other, all)))))

-- a job that begins
pub begin_leaves : (word : ℕ) (station : Station) (cells : CellData) (visit : AVisit) (counts : Counts) → HELD ≢ word
    → (is_none visit.service ≡ false → mark_word station (next_server cells) ≢ word) → Each (Leaves word) (begin_changes station cells visit counts)
unfolding begin_changes
begin_leaves word station cells visit counts no_held no_mark = by (is_none visit.service) no_mark
  where
    by : (takes_it : Bool) → (takes_it ≡ false → mark_word station (next_server cells) ≢ word) → Each (Leaves word)
        (if takes_it then Set HELD (counts.held + 1) ∷ []
        else Unpush FREE_SERVERS ∷ Set (mark_word station (next_server cells)) (slice_index cells.words LAG) ∷ [])
    by true other = (no_held, tt)
    by false other = (tt, (other refl, tt))
