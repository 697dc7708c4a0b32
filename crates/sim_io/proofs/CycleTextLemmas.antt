-- The text of cycles, by their buckets.
use Rattle.std.proofs.Common.{◌≡◌, ℕ, ◌+◌, Bool, true, false, List, [], ◌∷◌, ◌++◌, Option, Some, None, refl, sym, ap, ◌∙◌, append-nil}
use Rattle.event_key.specs.declared.key.Key.{Key}
use Rattle.model_core.specs.Meaning.{Meaning}
use Rattle.sim_spec.specs.declared.bucket.Bucket.{Bucket}
use Rattle.sim_spec.specs.declared.terms.Terms.{Terms}
use Rattle.sim_spec.specs.Run.{Run, run}
use Rattle.sim_spec.specs.Cycles.{cycles, records_of_buckets}
use Rattle.sim_spec.specs.HorizonLaws.{CyclesLaw}
use Rattle.sim_io.specs.Texts.{record_lines, text_of_run, run_text, stop_line}
use Rattle.sim_io.specs.CycleTexts.{told_cycle, bucket_lines, lines_of_buckets, text, PlainText}
use Rattle.sim_io.proofs.TextLemmas.{record_lines-append}

-- no cycle is told where none is asked for
untold : (number : ℕ) (b : Bucket) (fault : Option (Key × ℕ)) (limited : Bool) → told_cycle false number b fault limited ≡ []
unfolding told_cycle
untold number b (Some fault) true = refl
untold number b (Some fault) false = refl
untold number b None true = refl
untold number b None false = refl

-- buckets without their cycles are their records
lines_of_buckets-plain : (m : Meaning) (number : ℕ) (bs : List Bucket) → lines_of_buckets m false number bs ≡ record_lines m (records_of_buckets bs)
unfolding lines_of_buckets bucket_lines records_of_buckets record_lines
lines_of_buckets-plain m number [] = refl
lines_of_buckets-plain m number (b ∷ bs) =
    ap (λ line. (record_lines m b.done ++ line) ++ lines_of_buckets m false (number + 1) bs) (untold number b b.fault b.limited)
    ∙ ap (λ text. text ++ lines_of_buckets m false (number + 1) bs) (append-nil (record_lines m b.done))
    ∙ ap (λ text. record_lines m b.done ++ text) (lines_of_buckets-plain m (number + 1) bs)
    ∙ sym (record_lines-append m b.done (records_of_buckets bs))

pub plain_text : (m : Meaning) (t : Terms) → CyclesLaw m t → PlainText m t
unfolding text run_text text_of_run
plain_text m t whole s lawful =
    ap (λ lines. lines ++ stop_line m t (run m t s).last.count (run m t s).stop)
    (lines_of_buckets-plain m 1 (cycles m t s).buckets ∙ ap (λ (r : Run). record_lines m r.records) (whole s lawful))
