-- What is written is read.
use Rattle.std.proofs.Common.{◌≡◌, ℕ, ◌+◌, ◌-◌, ◌^◌, ◌<◌, ◌≤◌, List, ◌++◌, length, None, Ok, refl, ap, arith}
use Rattle.std.specs.Prelude.{codes, nat_le, nat_lt, ◌&&◌, ◌==◌}
use Rattle.std.specs.List.{flat_map}
use Rattle.std.proofs.lemmas.Bool.{and_from, le-leb, lt-ltb, eq-eqb}
use Rattle.model_core.specs.declared.limits.TheConstants.{MOST_OBJECTS, MOST_TEXT_BYTES}
use Rattle.model_reader.specs.Checks as models
use Rattle.model_reader.specs.Readings.{ModelOf}
use Rattle.sim_spec.specs.State.{State}
use Rattle.run_save.specs.declared.reading.TheConstants.{MOST_STATE_BYTES}
use Rattle.run_save.specs.declared.refusal.StateCause.TheVariants.{TooLong}
use Rattle.run_save.specs.Checks.{wanted}
use Rattle.run_save.specs.LawfulChecks.{lawful_check}
use Rattle.run_save.specs.Lines.{named, object, event, model_bytes, whole_text}
use Rattle.run_save.specs.Rests.{formed, after, next_line, in_turn, each}
use Rattle.run_save.specs.SavedLaws.{FitsObject, IsSavable, WrittenIsRead}
use Rattle.run_save.specs.SavedStates.{read_at, judged, state_of}
use Rattle.run_save.specs.StateTexts.{named_text, object_text, event_text, state_text}
use Rattle.run_save.proofs.CheckLemmas.{joined, passed}
use Rattle.run_save.proofs.InTurnLemmas.{turn_from_each, IsRead, in_turn-reads}
use Rattle.run_save.proofs.LawfulLemmas.{lawful_passes, times_told}
use Rattle.run_save.proofs.LineLemmas.{named-reads, object-reads, object_text-IsPlain, event_text-IsPlain}
use Rattle.run_save.proofs.OrderLemmas.{Follows, event-read, first_turn, tellable}
use Rattle.run_save.proofs.RestLemmas.{at, after-reads, next_line-reads}

object-read : IsRead (λ _. object) object_text (λ _. FitsObject)
object-read before o more line fits plain = object-reads o more line fits

model-reads : (model : List ℕ) (line : ℕ) → 0 < length model → length model ≤ MOST_TEXT_BYTES → model_bytes (at (named_text (codes "model") (length model) ++ model) line) ≡ Ok model
unfolding model_bytes
model-reads model line some few =
    joined (named (codes "model") MOST_TEXT_BYTES (at (named_text (codes "model") (length model) ++ model) line)) _ (length model, at model (line + 1)) _
    (named-reads (codes "model") MOST_TEXT_BYTES (length model) model line few (omega arith))
    (joined (formed (nat_lt 0 (length model) && length model == length model) (at (named_text (codes "model") (length model) ++ model) line)) _ tt _
    (passed _ _ _ (and_from _ _ (lt-ltb _ _ some) (eq-eqb _ _ refl))) refl)

module _ (model_of : List ℕ → models.Checked ModelOf) where
  -- the draft of what was written, at some line of its model
  text-reads : (s : State) (model : List ℕ) (read : ModelOf) → IsSavable model_of s model read
      → (line : ℕ) × (whole_text (at (state_text s model) 1) ≡ Ok (record { state = s; model = model; line = line }))
  unfolding whole_text state_text named_text
  text-reads s model read savable =
      let tail : List ℕ = named_text (codes "model") (length model) ++ model in
      let pending : List ℕ = flat_map event_text s.pending ++ tail in
      let waiting : List ℕ = named_text (codes "events") (length s.pending) ++ pending in
      let objects : List ℕ = flat_map object_text s.objects ++ waiting in
      let many : List ℕ = named_text (codes "objects") (length s.objects) ++ objects in
      let count : List ℕ = named_text (codes "count") s.count ++ many in
      let fits_count = savable.fits.count in
      let fits_many = savable.fits.many in
      let few_objects = savable.few_objects in
      let told = tellable s.pending (times_told read.meaning s.objects s.pending savable.lawful.sound) savable.fits.pending in
      let read_objects = in_turn-reads (λ _. object) object_text (λ _. FitsObject) object-read object_text-IsPlain s.objects None waiting 4 (turn_from_each FitsObject None s.objects savable.fits.objects) refl in
      let read_pending = in_turn-reads event event_text Follows event-read event_text-IsPlain s.pending None tail (read_objects.0 + 1) (first_turn s.pending savable.lawful.ordered told) refl in (
        read_pending.0,
        joined (after (codes "state 1") (at (codes "state 1" ++ (codes "\n" ++ count)) 1)) _ (at (codes "\n" ++ count) 1) _ (after-reads (codes "state 1") (codes "\n" ++ count) 1)
            (joined (next_line (at (codes "\n" ++ count) 1)) _ (at count 2) _ (next_line-reads count 1)
            (joined (named (codes "count") (2 ^ 64 - 1) (at count 2)) _ (s.count, at many 3) _ (named-reads (codes "count") (2 ^ 64 - 1) s.count many 2 (omega arith) fits_count)
            (joined (named (codes "objects") MOST_OBJECTS (at many 3)) _ (length s.objects, at objects 4) _ (named-reads (codes "objects") MOST_OBJECTS (length s.objects) objects 3 few_objects (omega arith))
            (joined (each object (length s.objects) (at objects 4)) _ (s.objects, at waiting read_objects.0) _ read_objects.1
            (joined (named (codes "events") (2 ^ 64 - 1) (at waiting read_objects.0)) _ (length s.pending, at pending (read_objects.0 + 1)) _ (named-reads (codes "events") (2 ^ 64 - 1) (length s.pending) pending read_objects.0 (omega arith) fits_many)
            (joined (in_turn event None (length s.pending) (at pending (read_objects.0 + 1))) _ (s.pending, at tail read_pending.0) _ read_pending.1
            (joined (model_bytes (at tail read_pending.0)) _ model _ (model-reads model read_pending.0 savable.some_bytes savable.few_bytes) refl))))))),
      )

  pub written_is_read : WrittenIsRead model_of
  unfolding state_of judged
  written_is_read s model read savable =
      let draft = text-reads s model read savable in
      joined (wanted (nat_le (length (state_text s model)) MOST_STATE_BYTES) TooLong 0) _ tt _ (passed _ _ _ (le-leb _ _ savable.short))
      (joined (whole_text (at (state_text s model) 1)) _ (record { state = s; model = model; line = draft.0 }) _ draft.1
      (joined (read_at draft.0 (model_of model)) _ read _ (ap (read_at draft.0) savable.reads)
      (joined (lawful_check read.meaning read.terms s) _ tt _ (lawful_passes read.meaning read.terms s savable.lawful) refl)))
