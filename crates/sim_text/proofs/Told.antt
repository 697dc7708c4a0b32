-- What was told of the buckets so far, and what is told in the end, are the text.
use Rattle.std.proofs.Common.{◌≡◌, ℕ, ◌+◌, Bool, List, [], ◌∷◌, ◌++◌, length, refl, sym, ap, ◌∙◌, subst, arith, append-nil, append_assoc}
use Rattle.sim_io.proofs.TakenLemmas.{Appends-trans}
use Rattle.sim_io.specs.Taken.{Taken, Appends}
use Rattle.event_key.specs.declared.key.Key.{Key}
use Rattle.model_core.specs.declared.note.Note.{Note}
use Rattle.model_core.specs.Meaning.{Meaning}
use Rattle.sim_spec.specs.declared.bucket.Bucket.{Bucket}
use Rattle.sim_spec.specs.declared.stop.Stop.{Stop}
use Rattle.sim_spec.specs.declared.terms.Terms.{Terms}
use Rattle.sim_spec.specs.State.{State}
use Rattle.sim_spec.specs.Run.{run}
use Rattle.sim_spec.specs.Cycles.{cycles, records_of_buckets}
use Rattle.run_tally.specs.Tallies.{TotalsOf}
use Rattle.sim_io.specs.Texts.{stop_line}
use Rattle.sim_io.specs.CycleTexts.{bucket_lines, lines_of_buckets, demo_line, text}
use Rattle.sim_io.specs.Transfers.{AppendsPrefix, AppendsSome}
use Rattle.sim_text.specs.declared.telling.Telling.{Telling}
use Rattle.sim_text.specs.Reports.{told_at_once, told_in_the_end}
use Rattle.sim_text.specs.SoFar.{lines_so_far}
use Rattle.sim_text.specs.WholeTexts.{whole_cycles, last_stamp, text_from}
use Rattle.sim_text.proofs.WritingLemmas.{writes_last, writes_prefix}

pub none_so_far : (m : Meaning) (telling : Telling) → lines_so_far m telling [] ≡ []
unfolding lines_so_far lines_of_buckets
none_so_far m (Telling.Lines cycles) = refl
none_so_far m Telling.Totals = refl
none_so_far m (Telling.Demo n) = refl

lines_of_buckets-append : (m : Meaning) (told : Bool) (number : ℕ) (bs more : List Bucket)
    → lines_of_buckets m told number (bs ++ more) ≡ lines_of_buckets m told number bs ++ lines_of_buckets m told (number + length bs) more
unfolding lines_of_buckets
lines_of_buckets-append m told number [] more = ap (λ n. lines_of_buckets m told n more) (omega arith)
lines_of_buckets-append m told number (b ∷ bs) more =
    ap (λ lines. bucket_lines m told number b ++ lines)
    (lines_of_buckets-append m told (number + 1) bs more ∙ ap (λ n. lines_of_buckets m told (number + 1) bs ++ lines_of_buckets m told n more) (omega arith))
    ∙ sym (append_assoc (bucket_lines m told number b) (lines_of_buckets m told (number + 1) bs) (lines_of_buckets m told (number + length (b ∷ bs)) more))

lines_of_buckets-more : (m : Meaning) (told : Bool) (bs : List Bucket) (b : Bucket) (number : ℕ) → number ≡ length bs + 1
    → lines_of_buckets m told 1 (bs ++ b ∷ []) ≡ lines_of_buckets m told 1 bs ++ bucket_lines m told number b
unfolding lines_of_buckets
lines_of_buckets-more m told bs b number is =
    lines_of_buckets-append m told 1 bs (b ∷ [])
    ∙ ap (λ lines. lines_of_buckets m told 1 bs ++ lines)
    (append-nil (bucket_lines m told (1 + length bs) b) ∙ ap (λ n. bucket_lines m told n b) (omega arith))

-- the lines with a bucket more
pub lines_so_far-more : (m : Meaning) (telling : Telling) (bs : List Bucket) (b : Bucket) (number : ℕ) → number ≡ length bs + 1
    → lines_so_far m telling (bs ++ b ∷ []) ≡ lines_so_far m telling bs ++ told_at_once m telling number b
unfolding lines_so_far
lines_so_far-more m (Telling.Lines cycles) bs b number is = lines_of_buckets-more m cycles bs b number is
lines_so_far-more m Telling.Totals bs b number is = refl
lines_so_far-more m (Telling.Demo n) bs b number is = refl

-- the text begins with what was told of the first buckets
pub text-begins : (m : Meaning) (t : Terms) (totals : TotalsOf) (from : State) (telling : Telling) (bs more : List Bucket)
    → (cycles m t from).buckets ≡ bs ++ more
    → (behind : List ℕ) × (text_from m t totals telling from ≡ lines_so_far m telling bs ++ behind)
unfolding text_from lines_so_far text
text-begins m t totals from (Telling.Lines told) bs more all = (
  lines_of_buckets m told (1 + length bs) more ++ stop_line m t (run m t from).last.count (run m t from).stop,
  ap (λ lines. lines ++ stop_line m t (run m t from).last.count (run m t from).stop)
      (ap (lines_of_buckets m told 1) all ∙ lines_of_buckets-append m told 1 bs more)
      ∙ append_assoc (lines_of_buckets m told 1 bs) _ _,
)
text-begins m t totals from Telling.Totals bs more all = (text_from m t totals Telling.Totals from, refl)
text-begins m t totals from (Telling.Demo n) bs more all = (text_from m t totals (Telling.Demo n) from, refl)

-- a run with these buckets ends after so many events, at this stop
pub record EndsSo (m : Meaning) (t : Terms) (from : State) (bs : List Bucket) (count : ℕ) (stop : Stop) : Type 0 where
  pub buckets : (cycles m t from).buckets ≡ bs
  pub records : (run m t from).records ≡ records_of_buckets bs
  pub counted : (run m t from).last.count ≡ count
  pub stops_at : (run m t from).stop ≡ stop

last_line : (m : Meaning) (t : Terms) (from : State) (bs : List Bucket) (count : ℕ) (stop : Stop) → EndsSo m t from bs count stop
    → stop_line m t (run m t from).last.count (run m t from).stop ≡ stop_line m t count stop
last_line m t from bs count stop ends =
    ap (λ count. stop_line m t count (run m t from).stop) ends.counted ∙ ap (λ (stop : Stop). stop_line m t count stop) ends.stops_at

-- the text is what was told so far, what is told in the end, and the stop line
pub text-ends : (m : Meaning) (t : Terms) (totals : TotalsOf) (from : State) (telling : Telling) (bs : List Bucket) (count : ℕ) (stop : Stop)
    → EndsSo m t from bs count stop
    → text_from m t totals telling from ≡ lines_so_far m telling bs ++ (told_in_the_end totals telling bs count stop ++ stop_line m t count stop)
unfolding text_from lines_so_far text
text-ends m t totals from (Telling.Lines told) bs count stop ends =
    ap (λ (bs : List Bucket). lines_of_buckets m told 1 bs ++ stop_line m t (run m t from).last.count (run m t from).stop) ends.buckets
    ∙ ap (λ line. lines_of_buckets m told 1 bs ++ line) (last_line m t from bs count stop ends)
text-ends m t totals from Telling.Totals bs count stop ends =
    ap (λ (records : List (Key × Note)). totals records (run m t from).stop ++ stop_line m t (run m t from).last.count (run m t from).stop) ends.records
    ∙ ap (λ (stop : Stop). totals (records_of_buckets bs) stop ++ stop_line m t (run m t from).last.count (run m t from).stop) ends.stops_at
    ∙ ap (λ line. totals (records_of_buckets bs) stop ++ line) (last_line m t from bs count stop ends)
text-ends m t totals from (Telling.Demo n) bs count stop ends =
    ap (λ (bs : List Bucket). demo_line n (run m t from).last.count (whole_cycles bs) (last_stamp 0 (run m t from).records)
    ++ stop_line m t (run m t from).last.count (run m t from).stop) ends.buckets
    ∙ ap (λ (records : List (Key × Note)). demo_line n (run m t from).last.count (whole_cycles bs) (last_stamp 0 records)
    ++ stop_line m t (run m t from).last.count (run m t from).stop) ends.records
    ∙ ap (λ count. demo_line n count (whole_cycles bs) (last_stamp 0 (records_of_buckets bs)) ++ stop_line m t (run m t from).last.count (run m t from).stop) ends.counted
    ∙ ap (λ line. demo_line n count (whole_cycles bs) (last_stamp 0 (records_of_buckets bs)) ++ line) (last_line m t from bs count stop ends)

module _ (m : Meaning) (t : Terms) (totals : TotalsOf) (from : State) (telling : Telling) (start now : Taken) (bs : List Bucket) (told : Appends start now (lines_so_far m telling bs)) where
  -- what was told so far is a prefix of the text
  pub told-prefix : (more : List Bucket) → (cycles m t from).buckets ≡ bs ++ more → AppendsPrefix start now (text_from m t totals telling from)
  told-prefix more all =
      let begins = text-begins m t totals from telling bs more all in
      (lines_so_far m telling bs, begins.0, begins.1, told)

  -- so it is where a bucket is told in part
  pub bucket-prefix : (b : Bucket) (number : ℕ) (more : List Bucket) (later : Taken) → number ≡ length bs + 1
      → (cycles m t from).buckets ≡ (bs ++ b ∷ []) ++ more
      → AppendsPrefix now later (told_at_once m telling number b) → AppendsPrefix start later (text_from m t totals telling from)
  bucket-prefix b number more later is all part =
      let begins = text-begins m t totals from telling (bs ++ b ∷ []) more all in
      let next : List ℕ = told_at_once m telling number b in
      let whole : text_from m t totals telling from ≡ lines_so_far m telling bs ++ (next ++ begins.0) =
      begins.1 ∙ ap (λ lines. lines ++ begins.0) (lines_so_far-more m telling bs b number is)
      ∙ append_assoc (lines_so_far m telling bs) next begins.0 in
      writes_prefix start now later (text_from m t totals telling from) (next ++ begins.0) next begins.0
      (lines_so_far m telling bs, told, whole) refl part

  pub bucket-told : (b : Bucket) (number : ℕ) (later : Taken) → number ≡ length bs + 1 → Appends now later (told_at_once m telling number b)
      → Appends start later (lines_so_far m telling (bs ++ b ∷ []))
  bucket-told b number later is written =
      subst (Appends start later) (sym (lines_so_far-more m telling bs b number is))
      (Appends-trans start now later (lines_so_far m telling bs) (told_at_once m telling number b) told written)

  module _ (count : ℕ) (stop : Stop) (ends : EndsSo m t from bs count stop) where
    so_ends : AppendsSome start now (text_from m t totals telling from) (told_in_the_end totals telling bs count stop ++ stop_line m t count stop)
    so_ends = (lines_so_far m telling bs, told, text-ends m t totals from telling bs count stop ends)

    -- and where the end is told in part
    pub end-prefix : (later : Taken) → AppendsPrefix now later (told_in_the_end totals telling bs count stop ++ stop_line m t count stop)
        → AppendsPrefix start later (text_from m t totals telling from)
    end-prefix later part =
        writes_prefix start now later (text_from m t totals telling from) _
        (told_in_the_end totals telling bs count stop ++ stop_line m t count stop) [] so_ends (sym (append-nil _)) part

    pub end-told : (later : Taken) → Appends now later (told_in_the_end totals telling bs count stop ++ stop_line m t count stop)
        → Appends start later (text_from m t totals telling from)
    end-told later written = writes_last start now later (text_from m t totals telling from) _ so_ends written
