-- A source keeps the laws of models.
use Rattle.std.proofs.Common.{◌≡◌, ℕ, ◌+◌, ◌-◌, ◌≤◌, ◌^◌, Bool, true, false, refl, List, [], ◌∷◌, ◌++◌, length, subst, arith}
use Rattle.std.specs.Prelude.{IsTrue, if◌then◌else◌, ◌==◌, slice_index}
use Rattle.std.proofs.lemmas.Bool.Decides.{nat_tests}
use Rattle.delta_exchange.specs.declared.change.Change.{Change}
use Rattle.delta_exchange.specs.declared.change.Change.TheVariants.{Set}
use Rattle.delta_exchange.specs.Changes.{CellData, AllFit, cells_after_all}
use Rattle.event_key.specs.Stamps.{time_part}
use Rattle.model_core.specs.declared.effect.Outcome.TheVariants.{Goes}
use Rattle.model_core.specs.declared.event.Event.{Event}
use Rattle.random_streams.proofs.Bounds.{draw-le, is_drawable-delay}
use Rattle.random_streams.specs.Laws.{is_delay}
use Rattle.queue_models.specs.declared.site.Site.{Site}
use Rattle.queue_models.specs.declared.source.Source.{Source}
use Rattle.model_core.specs.Places.{place_changes, place_cases}
use Rattle.queue_models.specs.Sites.{place_of, drawn_at}
use Rattle.queue_models.specs.Sources.{left_of, made_of, is_source_cells, idle_effect, last_effect, make_effect, source_effect, IsSource}
use Rattle.queue_models.specs.Objects.{Item}
use Rattle.queue_models.specs.Parts.{IsLink}
use Rattle.queue_models.specs.Keeping.{Keeps, EffectKeeps, OutcomeKeeps, IsSite, three_elements}

-- a job goes from those that are left to those that are made
abbrev counted : CellData → List Change
counted cells = Set 1 (made_of cells + 1) ∷ Set 2 (left_of cells - 1) ∷ []

abbrev with_words : CellData → List ℕ → CellData
with_words cells words = record cells { words = words }

counts : (count : ℕ) (cells : CellData) (next : ℕ) → IsTrue (is_source_cells count cells) → 1 ≤ left_of cells
    → Keeps (is_source_cells count) (place_changes (place_of cells) next ++ counted cells) cells
    × Keeps (is_source_cells count) (counted cells) cells
unfolding AllFit cells_after_all
counts count cells next lawful some =
    three_elements
    (λ words. IsTrue (is_source_cells count (with_words cells words)) → 1 ≤ slice_index words 2
    → Keeps (is_source_cells count) (place_changes (slice_index words 0) next ++ counted (with_words cells words)) (with_words cells words)
    × Keeps (is_source_cells count) (counted (with_words cells words)) (with_words cells words))
    cells.words three by lawful some
  where
    three : length cells.words ≡ 3
    three = grind (arith, nat_tests)

    by : (place made left : ℕ) → IsTrue (is_source_cells count (with_words cells (place ∷ made ∷ left ∷ []))) → 1 ≤ left
        → Keeps (is_source_cells count) (place_changes place next ++ counted (with_words cells (place ∷ made ∷ left ∷ []))) (with_words cells (place ∷ made ∷ left ∷ []))
        × Keeps (is_source_cells count) (counted (with_words cells (place ∷ made ∷ left ∷ []))) (with_words cells (place ∷ made ∷ left ∷ []))
    by place made left lawful some =
        let all : IsTrue (length cells.lines == 0) × (made + left ≡ count) = grind (arith, nat_tests) in
        let still : made + 1 + (left - 1) ≡ count = omega arith in
        let after : IsTrue (is_source_cells count (with_words cells (place ∷ (made + 1) ∷ (left - 1) ∷ []))) = grind (arith, nat_tests) in
        let stays : Keeps (is_source_cells count) (counted (with_words cells (place ∷ made ∷ left ∷ []))) (with_words cells (place ∷ made ∷ left ∷ [])) =
        record { few = omega arith; fits = (omega arith, (omega arith, tt)); after = after } in (
          place_cases
              (λ changes. Keeps (is_source_cells count) (changes ++ counted (with_words cells (place ∷ made ∷ left ∷ []))) (with_words cells (place ∷ made ∷ left ∷ [])))
              place next stays
              (record { few = omega arith; fits = (omega arith, (omega arith, (omega arith, tt))); after = after }),
          stays,
        )

every_delay : (site : Site) (source : Source ℕ) (cells : CellData) → IsTrue (is_delay source.every) → (drawn_at site cells source.every).0 ≤ 2 ^ 40
every_delay site source cells delay = draw-le site.seed site.object (place_of cells) source.every (is_drawable-delay source.every delay)

idle_keeps : (objects : List Item) (count : ℕ) (cells : CellData) → IsTrue (is_source_cells count cells)
    → EffectKeeps (length objects) (is_source_cells count) cells (idle_effect cells)
unfolding idle_effect AllFit cells_after_all
idle_keeps objects count cells lawful = record {
  changes = record { few = omega arith; fits = tt; after = lawful };
  few_sends = omega arith;
  one_part = refl;
  sends = tt;
}

last_keeps : (objects : List Item) (site : Site) (source : Source ℕ) (cells : CellData) (time : ℕ) → IsLink objects source.next → IsSite (length objects) site
    → IsTrue (is_source_cells source.count cells) → left_of cells ≡ 1 → EffectKeeps (length objects) (is_source_cells source.count) cells (last_effect site source cells time)
unfolding last_effect
last_keeps objects site source cells time link here lawful last =
    let none : left_of cells - 1 ≡ 0 = omega arith in
    record {
      changes = subst (λ left. Keeps (is_source_cells source.count) (Set 1 (made_of cells + 1) ∷ Set 2 left ∷ []) cells) none (counts source.count cells 0 lawful (omega arith)).1;
      few_sends = omega arith;
      one_part = refl;
      sends = (link.exists, omega arith, here.rank, tt);
    }

make_keeps : (objects : List Item) (site : Site) (source : Source ℕ) (cells : CellData) (time : ℕ) → IsTrue (is_delay source.every) → IsLink objects source.next → IsSite (length objects) site
    → IsTrue (is_source_cells source.count cells) → 1 ≤ left_of cells → EffectKeeps (length objects) (is_source_cells source.count) cells (make_effect site source cells time)
unfolding make_effect
make_keeps objects site source cells time delay link here lawful some = record {
  changes = (counts source.count cells (drawn_at site cells source.every).1 lawful some).0;
  few_sends = omega arith;
  one_part = refl;
  sends = (link.exists, omega arith, here.rank, (here.object, every_delay site source cells delay, here.rank, tt));
}

pub source_keeps : (objects : List Item) (site : Site) (source : Source ℕ) (cells : CellData) (event : Event)
    → IsSource source → IsLink objects source.next → IsSite (length objects) site
    → IsTrue (is_source_cells source.count cells) → OutcomeKeeps (length objects) (is_source_cells source.count) cells (source_effect site source cells event)
unfolding source_effect
source_keeps objects site source cells event fine link here lawful = by (left_of cells == 0) (left_of cells == 1) refl refl
  where
    time : ℕ
    time = time_part event.key.stamp

    by : (none one : Bool) → left_of cells == 0 ≡ none → left_of cells == 1 ≡ one
        → OutcomeKeeps (length objects) (is_source_cells source.count) cells
        (if none then Goes (idle_effect cells) else if one then Goes (last_effect site source cells time) else Goes (make_effect site source cells time))
    by true one none_is one_is = idle_keeps objects source.count cells lawful
    by false true none_is one_is = last_keeps objects site source cells time link here lawful (grind (arith, nat_tests))
    by false false none_is one_is = make_keeps objects site source cells time fine.law link here lawful (grind (arith, nat_tests))
