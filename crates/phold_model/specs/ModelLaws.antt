-- The model keeps the laws of models.
use Rattle.std.proofs.Common.{ℕ, ◌+◌, ◌<◌, ◌≤◌, ◌^◌, ◌%◌, Bool, true, false, refl, [], ◌∷◌, length, arith}
use Rattle.std.specs.Prelude.{IsTrue, All, if◌then◌else◌, ◌==◌}
use Rattle.std.proofs.Math.ListN.{length-set}
use Rattle.std.proofs.Math.Nat.{mul-le-mul_left}
use Rattle.std.proofs.lemmas.Bool.Decides.{nat_tests}
use Rattle.std.proofs.lemmas.List.Elements.{All-weaker}
use Rattle.delta_exchange.specs.declared.change.Change.TheVariants.{Set}
use Rattle.delta_exchange.specs.Changes.{CellData, AllFit, cells_after_all}
use Rattle.model_core.specs.Meaning.{MeaningLaws, StartLaws}
use Rattle.random_streams.proofs.Bounds.{draw-le, is_drawable-delay}
use Rattle.random_streams.specs.Laws.{draw}
use Rattle.random_streams.specs.Words.{word_of}
use Rattle.phold_model.specs.Parts.{PholdParts, IsEntry, IsPhold, phold_under}
use Rattle.model_core.specs.Places.{place_changes}
use Rattle.phold_model.specs.Meaning.{phold_meaning, hop_effect, hop_delay, hop_dest, is_hop_cells, starts_of, hop_start}
use Rattle.phold_model.specs.Starts.{length-starts_of, All-starts_of}

-- the parts lie within their bounds under any other seed too
pub is_phold_under : (seed : ℕ) → seed < 2 ^ 63 → (p : PholdParts) → IsPhold p → IsPhold (phold_under seed p)
is_phold_under seed below p fine = record {
  seed = below;
  objects = fine.objects;
  delay = fine.delay;
  each = fine.each;
  few_entries = fine.few_entries;
  entries = fine.entries;
  rank = fine.rank;
}

few_place_changes : (place next : ℕ) → length (place_changes place next) ≤ 16
unfolding place_changes
few_place_changes place next = by (next == place)
  where
    by : (stays : Bool) → length (if stays then [] else Set 0 next ∷ []) ≤ 16
    by true = omega arith
    by false = omega arith

place_changes_fit : (place next : ℕ) (cells : CellData) → IsTrue (is_hop_cells cells) → AllFit (place_changes place next) cells
unfolding place_changes AllFit
place_changes_fit place next cells lawful = by (next == place)
  where
    word : 0 < length cells.words
    word = grind (arith, nat_tests)

    by : (stays : Bool) → AllFit (if stays then [] else Set 0 next ∷ []) cells
    by true = tt
    by false = (word, tt)

place_changes_lawful : (place next : ℕ) (cells : CellData) → IsTrue (is_hop_cells cells) → IsTrue (is_hop_cells (cells_after_all (place_changes place next) cells))
unfolding place_changes cells_after_all
place_changes_lawful place next cells lawful = by (next == place)
  where
    by : (stays : Bool) → IsTrue (is_hop_cells (cells_after_all (if stays then [] else Set 0 next ∷ []) cells))
    by true = lawful
    by false = rw length-set lawful

hop_delay-le : (p : PholdParts) → IsPhold p → (object place : ℕ) → hop_delay p object place ≤ 2 ^ 40
unfolding hop_delay
hop_delay-le p fine object place = draw-le p.seed object place p.delay (is_drawable-delay p.delay fine.delay)

hop_dest-lt : (p : PholdParts) (object place : ℕ) → object < p.objects → hop_dest p object place < p.objects
unfolding hop_dest
hop_dest-lt p object place exists = by p.uniform
  where
    word : ℕ
    word = word_of p.seed object (draw p.seed object place p.delay).1

    by : (uniform : Bool) → (if uniform then word % p.objects else (object + 1) % p.objects) < p.objects
    by true = omega arith
    by false = omega arith

start_laws : (p : PholdParts) → IsPhold p → All (StartLaws (phold_meaning p)) (starts_of p)
unfolding phold_meaning
start_laws p fine =
    All-starts_of (StartLaws (phold_meaning p)) p
    (λ object exists. record { dest = exists; time = omega arith; rank = fine.rank })
    (All-weaker (IsEntry p.objects) (λ entry. StartLaws (phold_meaning p) (hop_start entry.time entry.at entry.rank))
    (λ entry is. record { dest = is.at; time = is.time; rank = is.rank }) p.start fine.entries)

pub phold_laws : (p : PholdParts) → IsPhold p → MeaningLaws (phold_meaning p)
unfolding phold_meaning hop_effect
phold_laws p fine = record {
  objects = fine.objects;
  starts = omega (arith, length-starts_of p, mul-le-mul_left p.objects fine.each, fine.objects, fine.few_entries);
  first = λ object below. refl;
  outcome = λ object cells event below lawful. record {
    few_changes = few_place_changes _ _;
    few_sends = omega arith;
    fits = place_changes_fit _ _ cells lawful;
    lawful = place_changes_lawful _ _ cells lawful;
    sends = (hop_dest-lt p object _ below, hop_delay-le p fine object _, fine.rank, tt);
  };
  start = λ i exists. start_laws p fine i _ exists;
}
