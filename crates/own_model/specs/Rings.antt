-- What a token ring means, and that it keeps the laws of models.
use Rattle.std.proofs.Common.{arith, refl}
use Rattle.std.proofs.Math.ListN.{length-set}
use Rattle.std.specs.Prelude.{ℕ, ◌+◌, ◌-◌, ◌%◌, ◌<◌, ◌≤◌, Bool, true, false, IsTrue, ◌&&◌, ◌==◌, nat_lt, if◌then◌else◌, [], ◌∷◌, ◌++◌, length, slice_index, Some, None, codes, decimal}
use Rattle.std.proofs.lemmas.Bool.Decides.{nat_tests}
use Rattle.delta_exchange.specs.Changes.{CellData, AllFit, cells_after_all}
use Rattle.delta_exchange.specs.declared.change.Change.TheVariants.{Set}
use Rattle.event_key.specs.Stamps.{time_part}
use Rattle.model_core.specs.declared.effect.Effect.{Effect}
use Rattle.model_core.specs.declared.effect.Outcome.TheVariants.{Goes, Fails}
use Rattle.model_core.specs.declared.limits.TheConstants.{MOST_OBJECTS}
use Rattle.model_core.specs.Meaning.{Meaning, MeaningLaws, OutcomeLaws}
use Rattle.random_streams.proofs.Bounds.{draw-le}
use Rattle.random_streams.specs.declared.law.Law.{Law}
use Rattle.random_streams.specs.Laws.{draw, is_drawable}
use Rattle.own_model.specs.declared.ring.TheConstants.{TOKEN, HOLDS, LATE}

-- the parts lie within their bounds
pub record IsRing (stations : ℕ) (hold : Law) : Type 0 where
  pub some : 1 ≤ stations
  pub few : stations ≤ MOST_OBJECTS
  pub drawable : IsTrue (is_drawable hold)

-- two words: the random place, and when the token came last
abbrev pub is_station : CellData → Bool
is_station cells = length cells.words == 2 && length cells.lines == 0

module _ (seed stations : ℕ) (hold : Law) (patience : ℕ) where
  -- the token comes to a station in time: it draws how long it holds the token, and then hands it on to the next one
  abbrev pub hold_effect : ℕ → CellData → ℕ → Effect
  hold_effect object cells now =
      let drawn = draw seed object (slice_index cells.words 0) hold in record {
        changes = Set 0 drawn.1 ∷ Set 1 now ∷ [];
        sends = record { dest = (object + 1) % stations; delay = drawn.0; kind = TOKEN; a = 0; b = 0; rank = 0 } ∷ [];
        note = record { word = HOLDS; a = drawn.0; b = now - slice_index cells.words 1 } ∷ [];
      }

  unfoldable pub ring_meaning : Meaning
  ring_meaning = record {
    objects = stations;
    lawful = λ object. is_station;
    effect = λ object cells event.
        let now = time_part event.key.stamp in
        if nat_lt patience (now - slice_index cells.words 1) then Fails LATE else Goes (hold_effect object cells now);
    first = λ object. record { words = 0 ∷ 0 ∷ []; lines = [] };
    starts = 1;
    start_at = λ i. record { time = 0; dest = 0; kind = TOKEN; a = 0; b = 0; rank = 0 };
    label = λ object. codes "s" ++ decimal object;
    word = λ number. if number == HOLDS then Some (codes "hold") else None;
    fault = λ code. if code == LATE then Some (codes "late") else None;
  }

  outcome_laws : IsRing stations hold → (object : ℕ) (cells : CellData) (now : ℕ) → object < stations → IsTrue (is_station cells) → (late : Bool)
      → OutcomeLaws ring_meaning object cells (if late then Fails LATE else Goes (hold_effect object cells now))
  unfolding ring_meaning AllFit cells_after_all
  outcome_laws fine object cells now below lawful true = omega arith
  outcome_laws fine object cells now below lawful false = record {
    few_changes = omega arith;
    few_sends = omega arith;
    fits = (grind (arith, nat_tests), (rw length-set (grind (arith, nat_tests)), tt));
    lawful = rw (length-set, length-set) lawful;
    sends = (omega arith, draw-le seed object _ hold fine.drawable, omega arith, tt);
  }

  pub ring_laws : IsRing stations hold → MeaningLaws ring_meaning
  unfolding ring_meaning
  ring_laws fine = record {
    objects = fine.few;
    starts = omega arith;
    first = λ object below. refl;
    outcome = λ object cells event below lawful. outcome_laws fine object cells _ below lawful _;
    start = λ i below. record { dest = fine.some; time = omega arith; rank = omega arith };
  }
