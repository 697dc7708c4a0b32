-- What is read was written so.
use Rattle.std.proofs.Common.{◌≡◌, ℕ, ◌-◌, ◌^◌, ◌<◌, ◌≤◌, List, ◌++◌, length, None, Ok, Err, refl, sym, ap, subst, ◌∙◌, arith}
use Rattle.std.specs.Prelude.{codes, nat_le, nat_lt, ◌&&◌, ◌==◌}
use Rattle.std.specs.List.{AllByRecursion, flat_map}
use Rattle.std.proofs.lemmas.Bool.{and_parts, leb-true, ltb-true, eqb-true}
use Rattle.model_core.specs.declared.limits.TheConstants.{MOST_OBJECTS, MOST_TEXT_BYTES}
use Rattle.model_reader.specs.Checks as models
use Rattle.model_reader.specs.Readings.{ModelOf}
use Rattle.run_save.specs.declared.reading.TheConstants.{MOST_STATE_BYTES}
use Rattle.run_save.specs.declared.refusal.StateCause.TheVariants.{TooLong}
use Rattle.run_save.specs.Checks.{Checked, wanted, ◌>>=◌}
use Rattle.run_save.specs.LawfulChecks.{lawful_check}
use Rattle.run_save.specs.Lines.{Draft, named, object, event, model_bytes, whole_text}
use Rattle.run_save.specs.Rests.{Rest, formed, after, next_line, in_turn, each}
use Rattle.run_save.specs.SavedLaws.{FitsObject, FitsTypes, IsTextOf, ReadIsWritten, saved_with}
use Rattle.run_save.specs.SavedStates.{SavedState, read_at, judged, state_of}
use Rattle.run_save.specs.StateTexts.{named_text, object_text, event_text, state_text}
use Rattle.run_save.proofs.CheckLemmas.{bound, passes, same_given}
use Rattle.run_save.proofs.InTurnLemmas.{FitInTurn, each_from_turn, IsTaken, in_turn-takes}
use Rattle.run_save.proofs.LawfulLemmas.{check_is_lawful}
use Rattle.run_save.proofs.LineLemmas.{named-takes, object-takes}
use Rattle.run_save.proofs.OrderLemmas.{Follows, event-taken, turn_ascends, told_times, told_fits}
use Rattle.run_save.proofs.RestLemmas.{at, after-takes, next_line-takes}

object-taken : IsTaken (λ _. object) object_text (λ _. FitsObject)
object-taken before rest x reads = object-takes rest x reads

-- the bytes of a model, some and not too many
record IsModelText (rest : Rest) (model : List ℕ) : Type 0 where
  text : rest.bytes ≡ named_text (codes "model") (length model) ++ model
  some : 0 < length model
  few : length model ≤ MOST_TEXT_BYTES

model-takes : (rest : Rest) (model : List ℕ) → model_bytes rest ≡ Ok model → IsModelText rest model
unfolding model_bytes
model-takes rest model reads =
    let size = bound (named (codes "model") MOST_TEXT_BYTES rest) _ model reads in
    let whole = bound (formed (nat_lt 0 size.0.0 && size.0.0 == length size.0.1.bytes) rest) _ model size.2 in
    let own = named-takes (codes "model") MOST_TEXT_BYTES rest size.0 (omega arith) size.1 in
    let holds = and_parts _ _ (passes _ _ _ _ whole.1) in
    let some : 0 < size.0.0 = ltb-true _ _ holds.0 in
    let all : size.0.0 ≡ length size.0.1.bytes = eqb-true _ _ holds.1 in
    let made : IsModelText rest size.0.1.bytes = record {
      text = own.0 ∙ ap (λ k. named_text (codes "model") k ++ size.0.1.bytes) all;
      some = omega (arith, some, all);
      few = omega (arith, own.1, all);
    } in
    subst (λ (bytes : List ℕ). IsModelText rest bytes) (same_given size.0.1.bytes model whole.2) made

-- the lines from the objects on
abbrev body : ℕ → ℕ → Rest → Checked Draft
body count many rest = do
  objects ← each object many rest
  waiting ← named (codes "events") (2 ^ 64 - 1) objects.1
  pending ← in_turn event None waiting.0 waiting.1
  model ← model_bytes pending.1
  Ok (record { state = record { objects = objects.0; pending = pending.0; count = count }; model = model; line = pending.1.line })

-- a draft whose lines from the objects on were written so
record IsBodyOf (count many : ℕ) (rest : Rest) (draft : Draft) : Type 0 where
  text : rest.bytes ≡ flat_map object_text draft.state.objects ++ (named_text (codes "events") (length draft.state.pending)
      ++ (flat_map event_text draft.state.pending ++ (named_text (codes "model") (length draft.model) ++ draft.model)))
  counted : count ≡ draft.state.count
  numbered : many ≡ length draft.state.objects
  some : 0 < length draft.model
  few : length draft.model ≤ MOST_TEXT_BYTES
  objects : AllByRecursion FitsObject draft.state.objects
  waiting : length draft.state.pending < 2 ^ 64
  turn : FitInTurn Follows None draft.state.pending

body-takes : (count many : ℕ) (rest : Rest) (draft : Draft) → body count many rest ≡ Ok draft → IsBodyOf count many rest draft
body-takes count many rest draft reads =
    let objects = bound (each object many rest) _ draft reads in
    let waiting = bound (named (codes "events") (2 ^ 64 - 1) objects.0.1) _ draft objects.2 in
    let pending = bound (in_turn event None waiting.0.0 waiting.0.1) _ draft waiting.2 in
    let model = bound (model_bytes pending.0.1) _ draft pending.2 in
    let own_objects = in_turn-takes (λ _. object) object_text (λ _. FitsObject) object-taken many None rest objects.0 objects.1 in
    let own_waiting = named-takes (codes "events") (2 ^ 64 - 1) objects.0.1 waiting.0 (omega arith) waiting.1 in
    let own_pending = in_turn-takes event event_text Follows event-taken waiting.0.0 None waiting.0.1 pending.0 pending.1 in
    let own_model = model-takes pending.0.1 model.0 model.1 in
    let made : Draft = record { state = record { objects = objects.0.0; pending = pending.0.0; count = count }; model = model.0; line = pending.0.1.line } in
    let whole : IsBodyOf count many rest made = record {
      text = own_objects.0 ∙ ap (λ (t : List ℕ). flat_map object_text objects.0.0 ++ t) (own_waiting.0
          ∙ ap (λ (t : List ℕ). named_text (codes "events") waiting.0.0 ++ t) (own_pending.0 ∙ ap (λ (t : List ℕ). flat_map event_text pending.0.0 ++ t) own_model.text)
          ∙ ap (λ k. named_text (codes "events") k ++ (flat_map event_text pending.0.0 ++ (named_text (codes "model") (length model.0) ++ model.0))) (sym own_pending.1));
      counted = refl;
      numbered = sym own_objects.1;
      some = own_model.some;
      few = own_model.few;
      objects = each_from_turn FitsObject None objects.0.0 own_objects.2;
      waiting = omega (arith, own_waiting.1, own_pending.1);
      turn = own_pending.2;
    } in
    subst (λ (d : Draft). IsBodyOf count many rest d) (same_given made draft model.2) whole

-- a draft that was written so
record IsWrittenAs (bytes : List ℕ) (draft : Draft) : Type 0 where
  text : bytes ≡ state_text draft.state draft.model
  some : 0 < length draft.model
  few : length draft.model ≤ MOST_TEXT_BYTES
  few_objects : length draft.state.objects ≤ MOST_OBJECTS
  fits : FitsTypes draft.state
  turn : FitInTurn Follows None draft.state.pending

text-takes : (rest : Rest) (draft : Draft) → whole_text rest ≡ Ok draft → IsWrittenAs rest.bytes draft
unfolding whole_text state_text
text-takes rest draft reads =
    let head = bound (after (codes "state 1") rest) _ draft reads in
    let second = bound (next_line head.0) _ draft head.2 in
    let count = bound (named (codes "count") (2 ^ 64 - 1) second.0) _ draft second.2 in
    let many = bound (named (codes "objects") MOST_OBJECTS count.0.1) _ draft count.2 in
    let own_count = named-takes (codes "count") (2 ^ 64 - 1) second.0 count.0 (omega arith) count.1 in
    let own_many = named-takes (codes "objects") MOST_OBJECTS count.0.1 many.0 (omega arith) many.1 in
    let own = body-takes count.0.0 many.0.0 many.0.1 draft many.2 in
    let lines : List ℕ = flat_map object_text draft.state.objects ++ (named_text (codes "events") (length draft.state.pending)
    ++ (flat_map event_text draft.state.pending ++ (named_text (codes "model") (length draft.model) ++ draft.model))) in
    record {
      text = after-takes (codes "state 1") rest head.0 head.1 ∙ ap (λ (t : List ℕ). codes "state 1" ++ t) (next_line-takes head.0 second.0 second.1
          ∙ ap (λ (t : List ℕ). codes "\n" ++ t) (own_count.0
          ∙ ap (λ (t : List ℕ). named_text (codes "count") count.0.0 ++ t) (own_many.0 ∙ ap (λ (t : List ℕ). named_text (codes "objects") many.0.0 ++ t) own.text
          ∙ ap (λ k. named_text (codes "objects") k ++ lines) own.numbered)
          ∙ ap (λ k. named_text (codes "count") k ++ (named_text (codes "objects") (length draft.state.objects) ++ lines)) own.counted));
      some = own.some;
      few = own.few;
      few_objects = omega (arith, own_many.1, own.numbered);
      fits = record {
        count = omega (arith, own_count.1, own.counted);
        objects = own.objects;
        many = own.waiting;
        pending = told_fits None draft.state.pending own.turn;
      };
      turn = own.turn;
    }

-- a model that is read at a line is read
read_at-read : (line : ℕ) (check : models.Checked ModelOf) (read : ModelOf) → read_at line check ≡ Ok read → check ≡ Ok read
read_at-read line (Ok model) read reads = ap (λ (m : ModelOf). Ok m) (same_given model read reads)
read_at-read line (Err refused) read reads = absurd cc

module _ (model_of : List ℕ → models.Checked ModelOf) where
  pub read_is_written : ReadIsWritten model_of
  unfolding state_of judged
  read_is_written bytes saved reads =
      let short = bound (wanted (nat_le (length bytes) MOST_STATE_BYTES) TooLong 0) _ saved reads in
      let draft = bound (whole_text (at bytes 1)) _ saved short.2 in
      let read = bound (read_at draft.0.line (model_of draft.0.model)) _ saved draft.2 in
      let lawful = bound (lawful_check read.0.meaning read.0.terms draft.0.state) _ saved read.2 in
      let written = text-takes (at bytes 1) draft.0 draft.1 in
      let within : length bytes ≤ MOST_STATE_BYTES = leb-true _ _ (passes _ _ _ _ short.1) in
      let made : IsTextOf model_of bytes (saved_with read.0 draft.0.state) = record {
        model = draft.0.model;
        text = written.text;
        savable = record {
          reads = read_at-read draft.0.line (model_of draft.0.model) read.0 read.1;
          some_bytes = written.some;
          few_bytes = written.few;
          few_objects = written.few_objects;
          lawful = check_is_lawful read.0.meaning read.0.terms draft.0.state lawful.0 (told_times None draft.0.state.pending written.turn) (turn_ascends None draft.0.state.pending written.turn) lawful.1;
          fits = written.fits;
          short = omega (arith, within, ap (λ (t : List ℕ). length t) written.text);
        };
      } in
      subst (λ (s : SavedState). IsTextOf model_of bytes s) (same_given (saved_with read.0 draft.0.state) saved lawful.2) made
