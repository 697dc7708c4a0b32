-- The cells that an event leaves.
use Rattle.queue_models.specs.declared.station.Station.{Station}
use Rattle.queue_models.specs.StationLaws.{station_cells}
use Rattle.std.proofs.Common.{◌≡◌, ℕ, ◌+◌, ◌-◌, Bool, true, false, List, [], ◌∷◌, ◌++◌, length, drop, refl, sym, ap, ◌∙◌, arith, eqb-true, get_or, append-nil}
use Rattle.std.specs.Prelude.{IsTrue, ◌==◌, if◌then◌else◌}
use Rattle.std.proofs.lemmas.Bool.Decides.{nat_tests}
use Rattle.delta_exchange.specs.declared.change.Change.{Change}
use Rattle.delta_exchange.specs.declared.change.Change.TheVariants.{Set, Push, Pop}
use Rattle.delta_exchange.specs.Changes.{CellData, line_of, cells_after_all}
use Rattle.model_core.specs.declared.event.Event.{Event}
use Rattle.queue_models.specs.declared.site.Site.{Site}
use Rattle.queue_models.specs.declared.source.Source.{Source}
use Rattle.queue_models.specs.Keeping.{two_elements, three_elements, one_element}
use Rattle.model_core.specs.Places.{place_changes}
use Rattle.queue_models.specs.Sites.{place_of, drawn_at, is_plain_cells}
use Rattle.queue_models.specs.Sources.{made_of, left_of, is_source_cells, last_effect, make_effect}
use Rattle.queue_models.specs.Stations.{busy_servers, is_station_cells, take_effect, wait_effect, serve_effect, free_effect}

-- a source's: its place, how many jobs are made, and how many are left
abbrev pub source_cells : ℕ → ℕ → ℕ → CellData
source_cells place made left = record { words = place ∷ made ∷ left ∷ []; lines = [] }

-- those of an object that keeps its place alone
abbrev pub place_cells : ℕ → CellData
place_cells place = record { words = place ∷ []; lines = [] }

pub record HasStationCells (cells : CellData) : Type 0 where
  pub are : cells ≡ station_cells (place_of cells) (busy_servers cells) (line_of cells 0) (line_of cells 1)
  pub births : length (line_of cells 0) ≡ length (line_of cells 1)

pub station_shape : (servers line : ℕ) (cells : CellData) → IsTrue (is_station_cells servers line cells) → HasStationCells cells
station_shape servers line cells lawful =
    two_elements (λ words. (length cells.lines ≡ 2) → (length (line_of cells 0) ≡ length (line_of cells 1)) → HasStationCells (record { words = words; lines = cells.lines })) cells.words (grind (arith, nat_tests))
    (λ place busy. λ two same. two_elements (λ lines. (length (line_of (record { words = place ∷ busy ∷ []; lines = lines }) 0) ≡ length (line_of (record { words = place ∷ busy ∷ []; lines = lines }) 1)) → HasStationCells (record { words = place ∷ busy ∷ []; lines = lines })) cells.lines two
    (λ jobs births same. record { are = refl; births = same }) same)
    (grind (arith, nat_tests)) (grind (arith, nat_tests))

no_lines : (lines : List (List ℕ)) → length lines ≡ 0 → lines ≡ []
no_lines [] none = refl
no_lines (line ∷ lines) none = absurd (omega arith)

pub source_shape : (count : ℕ) (cells : CellData) → IsTrue (is_source_cells count cells) → cells ≡ source_cells (place_of cells) (made_of cells) (left_of cells)
source_shape count cells lawful =
    three_elements (λ words. (length cells.lines ≡ 0) → record { words = words; lines = cells.lines } ≡ source_cells (get_or words 0 0) (get_or words 1 0) (get_or words 2 0)) cells.words (grind (arith, nat_tests))
    (λ place made left none. ap (λ (lines : List (List ℕ)). record { words = place ∷ made ∷ left ∷ []; lines = lines }) (no_lines cells.lines none))
    (grind (arith, nat_tests))

pub plain_shape : (cells : CellData) → IsTrue (is_plain_cells cells) → cells ≡ place_cells (place_of cells)
plain_shape cells lawful =
    one_element (λ words. (length cells.lines ≡ 0) → record { words = words; lines = cells.lines } ≡ place_cells (get_or words 0 0)) cells.words (grind (arith, nat_tests))
    (λ place none. ap (λ (lines : List (List ℕ)). record { words = place ∷ []; lines = lines }) (no_lines cells.lines none))
    (grind (arith, nat_tests))

-- the place is the next one, whether or not words were read
place_moves : (place next : ℕ) (words : List ℕ) (lines : List (List ℕ)) (more : List Change)
    → cells_after_all (place_changes place next ++ more) (record { words = place ∷ words; lines = lines }) ≡ cells_after_all more (record { words = next ∷ words; lines = lines })
unfolding place_changes cells_after_all
place_moves place next words lines more = by (next == place) refl
  where
    by : (stays : Bool) → (next == place) ≡ stays
        → cells_after_all ((if stays then [] else Set 0 next ∷ []) ++ more) (record { words = place ∷ words; lines = lines }) ≡ cells_after_all more (record { words = next ∷ words; lines = lines })
    by true stays_is = ap (λ (at : ℕ). cells_after_all more (record { words = at ∷ words; lines = lines })) (sym (eqb-true next place stays_is))
    by false stays_is = refl

pub take_leaves : (site : Site) (station : Station ℕ) (cells : CellData) (e : Event) → HasStationCells cells
    → cells_after_all (take_effect site station cells e).changes cells ≡ station_cells (drawn_at site cells station.service).1 (busy_servers cells + 1) (line_of cells 0) (line_of cells 1)
unfolding take_effect cells_after_all
take_leaves site station cells e has =
    let next = (drawn_at site cells station.service).1 in
    ap (cells_after_all (place_changes (place_of cells) next ++ Set 1 (busy_servers cells + 1) ∷ [])) has.are
    ∙ place_moves (place_of cells) next (busy_servers cells ∷ []) (line_of cells 0 ∷ line_of cells 1 ∷ []) (Set 1 (busy_servers cells + 1) ∷ [])

pub wait_leaves : (cells : CellData) (e : Event) → HasStationCells cells
    → cells_after_all (wait_effect cells e).changes cells ≡ station_cells (place_of cells) (busy_servers cells) (line_of cells 0 ++ e.a ∷ []) (line_of cells 1 ++ e.b ∷ [])
unfolding wait_effect cells_after_all
wait_leaves cells e has = ap (cells_after_all (Push 0 e.a ∷ Push 1 e.b ∷ [])) has.are

pub serve_leaves : (site : Site) (station : Station ℕ) (cells : CellData) (e : Event) → HasStationCells cells
    → cells_after_all (serve_effect site station cells e).changes cells ≡ station_cells (drawn_at site cells station.service).1 (busy_servers cells) (drop 1 (line_of cells 0)) (drop 1 (line_of cells 1))
unfolding serve_effect cells_after_all
serve_leaves site station cells e has =
    let next = (drawn_at site cells station.service).1 in
    ap (cells_after_all (place_changes (place_of cells) next ++ Pop 0 ∷ Pop 1 ∷ [])) has.are
    ∙ place_moves (place_of cells) next (busy_servers cells ∷ []) (line_of cells 0 ∷ line_of cells 1 ∷ []) (Pop 0 ∷ Pop 1 ∷ [])

pub free_leaves : (site : Site) (station : Station ℕ) (cells : CellData) (e : Event) → HasStationCells cells
    → cells_after_all (free_effect site station cells e).changes cells ≡ station_cells (place_of cells) (busy_servers cells - 1) (line_of cells 0) (line_of cells 1)
unfolding free_effect cells_after_all
free_leaves site station cells e has = by (busy_servers cells == 0) refl
  where
    by : (none : Bool) → (busy_servers cells == 0) ≡ none
        → cells_after_all (if none then [] else Set 1 (busy_servers cells - 1) ∷ []) cells ≡ station_cells (place_of cells) (busy_servers cells - 1) (line_of cells 0) (line_of cells 1)
    by true none_is =
        let same : busy_servers cells ≡ busy_servers cells - 1 = grind (arith, nat_tests) in
        has.are ∙ ap (λ busy. station_cells (place_of cells) busy (line_of cells 0) (line_of cells 1)) same
    by false none_is = ap (cells_after_all (Set 1 (busy_servers cells - 1) ∷ [])) has.are

pub last_leaves : (site : Site) (source : Source ℕ) (cells : CellData) (time : ℕ) → cells ≡ source_cells (place_of cells) (made_of cells) (left_of cells)
    → cells_after_all (last_effect site source cells time).changes cells ≡ source_cells (place_of cells) (made_of cells + 1) 0
unfolding last_effect cells_after_all
last_leaves site source cells time are = ap (cells_after_all (Set 1 (made_of cells + 1) ∷ Set 2 0 ∷ [])) are

pub make_leaves : (site : Site) (source : Source ℕ) (cells : CellData) (time : ℕ) → cells ≡ source_cells (place_of cells) (made_of cells) (left_of cells)
    → cells_after_all (make_effect site source cells time).changes cells ≡ source_cells (drawn_at site cells source.every).1 (made_of cells + 1) (left_of cells - 1)
unfolding make_effect cells_after_all
make_leaves site source cells time are =
    let next = (drawn_at site cells source.every).1 in
    ap (cells_after_all (place_changes (place_of cells) next ++ Set 1 (made_of cells + 1) ∷ Set 2 (left_of cells - 1) ∷ [])) are
    ∙ place_moves (place_of cells) next (made_of cells ∷ left_of cells ∷ []) [] (Set 1 (made_of cells + 1) ∷ Set 2 (left_of cells - 1) ∷ [])

-- an object that keeps its place alone
pub plain_leaves : (cells : CellData) (next : ℕ) → cells ≡ place_cells (place_of cells) → cells_after_all (place_changes (place_of cells) next) cells ≡ place_cells next
unfolding cells_after_all
plain_leaves cells next are =
    ap (λ (changes : List Change). cells_after_all changes cells) (sym (append-nil (place_changes (place_of cells) next)))
    ∙ ap (cells_after_all (place_changes (place_of cells) next ++ [])) are
    ∙ place_moves (place_of cells) next [] [] []

-- no change leaves the cells
pub no_change_leaves : (cells : CellData) → cells_after_all [] cells ≡ cells
unfolding cells_after_all
no_change_leaves cells = refl
