-- A simulation goes on from the state after its first cycles.
use Rattle.std.proofs.Common.{◌≡◌, ℕ, zero, suc, Bool, true, false, List, ◌++◌, Option, Some, None, refl, sym, ap, ◌∙◌, append_assoc}
use Rattle.event_key.specs.declared.key.Key.{Key}
use Rattle.model_core.specs.declared.note.Note.{Note}
use Rattle.model_core.specs.Meaning.{Meaning}
use Rattle.sim_spec.specs.declared.bucket.Bucket.{Bucket}
use Rattle.sim_spec.specs.declared.stop.Stop.{Stop}
use Rattle.sim_spec.specs.declared.stop.Stop.TheVariants.{End, Limit, Fault}
use Rattle.sim_spec.specs.declared.terms.Terms.{Terms}
use Rattle.sim_spec.specs.State.{State, Lawful}
use Rattle.sim_spec.specs.Run.{Run, Next, stops, does, next, run, after_records}
use Rattle.sim_spec.specs.Cut.{cut, after}
use Rattle.sim_spec.specs.Cycles.{Cycles, no_cycles, after_bucket, cycles_behind, cycles_with, cycles_on, cycles_for, records_of_buckets}
use Rattle.sim_spec.specs.HorizonLaws.{BucketLaw, CyclesLaw}
use Rattle.sim_io.specs.Texts.{record_lines, run_text, text_of_run, stop_line}
use Rattle.sim_io.proofs.TextLemmas.{record_lines-append}
use Rattle.sim_io.proofs.CycleTextLemmas.{plain_text}
use Rattle.sim_text.specs.WholeTexts.{first_lines, GoesOnAfterCycles}

-- cycles from a state are the first ones of its run, which goes on from their last state
record AreFirstOf (m : Meaning) (t : Terms) (s : State) (c : Cycles) : Type 0 where
  lawful : Lawful m t c.last
  run : run m t s ≡ after_records (records_of_buckets c.buckets) (run m t c.last)

none-first : (m : Meaning) (t : Terms) (s : State) (stop : Stop) → Lawful m t s → AreFirstOf m t s (no_cycles s stop)
unfolding records_of_buckets
none-first m t s stop lawful = record { lawful = lawful; run = refl }

-- a bucket, and the first cycles behind it
bucket-first : (m : Meaning) (t : Terms) (s : State) (b : Bucket) (later : State) (c : Cycles) → run m t s ≡ after_records b.done (run m t later)
    → AreFirstOf m t later c
    → AreFirstOf m t s (after_bucket b c)
unfolding records_of_buckets
bucket-first m t s b later c one rest = record {
  lawful = rest.lawful;
  run = one ∙ ap (after_records b.done) rest.run
      ∙ ap (λ (records : List (Key × Note)). record (run m t c.last) { records = records })
      (sym (append_assoc b.done (records_of_buckets c.buckets) (run m t c.last).records));
}

behind-first : (m : Meaning) (t : Terms) (later : State) (more : State → Cycles) (fault : Option (Key × ℕ)) (limited : Bool) → Lawful m t later
    → AreFirstOf m t later (more later)
    → AreFirstOf m t later (cycles_behind later more fault limited)
unfolding cycles_behind
behind-first m t later more (Some f) limited lawful rest = none-first m t later (Fault f.0 f.1) lawful
behind-first m t later more None true lawful rest = none-first m t later Limit lawful
behind-first m t later more None false lawful rest = rest

module _ (m : Meaning) (t : Terms) (buckets : BucketLaw m t) (whole : CyclesLaw m t) where
  with-cycle : (n : ℕ) (s : State) → Lawful m t s → ((s : State) → Lawful m t s → AreFirstOf m t s (cycles_for n m t s))
      → AreFirstOf m t s (cycles_with (cut m t s) (after m t s) (cycles_for n m t))
  with-cycle n s lawful later =
      let law = buckets s lawful in
      bucket-first m t s (cut m t s) (after m t s) _ law.run
      (behind-first m t (after m t s) (cycles_for n m t) (cut m t s).fault (cut m t s).limited law.lawful (later (after m t s) law.lawful))

  behind-cycle : (n : ℕ) (s : State) → Lawful m t s → ((s : State) → Lawful m t s → AreFirstOf m t s (cycles_for n m t s)) → (what : Next)
      → AreFirstOf m t s (cycles_on s (cut m t s) (after m t s) (cycles_for n m t) what)
  unfolding cycles_on
  behind-cycle n s lawful later (stops End) = none-first m t s End lawful
  behind-cycle n s lawful later (stops Limit) = none-first m t s Limit lawful
  behind-cycle n s lawful later (stops (Fault key code)) = with-cycle n s lawful later
  behind-cycle n s lawful later (does told then) = with-cycle n s lawful later

  cycles-first : (n : ℕ) (s : State) → Lawful m t s → AreFirstOf m t s (cycles_for n m t s)
  unfolding cycles_for
  cycles-first zero s lawful = none-first m t s Limit lawful
  cycles-first (suc n) s lawful = behind-cycle n s lawful (cycles-first n) (next m t s)

  -- the text of a run whose first records are these
  text-first : (records : List (Key × Note)) (r rest : Run) → r ≡ after_records records rest
      → text_of_run m t r ≡ record_lines m records ++ text_of_run m t rest
  unfolding text_of_run
  text-first records r rest is =
      ap (text_of_run m t) is
      ∙ ap (λ lines. lines ++ stop_line m t rest.last.count rest.stop) (record_lines-append m records rest.records)
      ∙ append_assoc (record_lines m records) (record_lines m rest.records) (stop_line m t rest.last.count rest.stop)

  pub goes_on : GoesOnAfterCycles m t
  unfolding run_text first_lines
  goes_on most s lawful =
      let first = cycles-first most s lawful in
      let last = (cycles_for most m t s).last in
      let records = records_of_buckets (cycles_for most m t s).buckets in
      record {
        lawful = first.lawful;
        text = plain_text m t whole s lawful
            ∙ text-first records (run m t s) (run m t last) first.run
            ∙ ap (λ text. record_lines m records ++ text) (sym (plain_text m t whole last first.lawful));
        stop = ap (λ (r : Run). r.stop) first.run;
      }
