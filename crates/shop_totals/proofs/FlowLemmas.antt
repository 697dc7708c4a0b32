-- Counts with a part more.
use Rattle.std.proofs.Common.{◌≡◌, ℕ, ◌+◌, ◌<◌, ◌≤◌, Bool, true, false, cond, List, [], ◌∷◌, ◌++◌, ap, sym, ◌∙◌, append-nil, arith}
use Rattle.std.specs.Prelude.{nat_le}
use Rattle.std.specs.Int.{from_bool}
use Rattle.std.proofs.lemmas.Bool.{le-leb, lt-leb}
use Rattle.std.proofs.lemmas.List.Elements.{filter-append}
use Rattle.std.proofs.lemmas.List.Sums.{sum_by_push}
use Rattle.shop_totals.specs.declared.flow.Flow.{Flow}
use Rattle.shop_totals.specs.Flows.{is_coming, is_beginning, is_end, is_loss, is_reneging, count_told, flow_of, flow_more}
use Rattle.shop_totals.specs.Told.{TimedPart, told_from}

pub count_more : (is_one : ℕ → Bool) (told : List TimedPart) (one : TimedPart)
    → count_told is_one (told ++ one ∷ []) ≡ count_told is_one told + from_bool (is_one one.part.word)
count_more is_one told one = sum_by_push (λ (one : TimedPart). cond (is_one one.part.word) 1 0) told one ∙ by (is_one one.part.word)
  where
    by : (b : Bool) → count_told is_one told + cond b 1 0 ≡ count_told is_one told + from_bool b
    by true = omega arith
    by false = omega arith

pub flow_of-more : (told : List TimedPart) (one : TimedPart) → flow_of (told ++ one ∷ []) ≡ flow_more (flow_of told) one.part.word
unfolding flow_of
flow_of-more told one =
    let came = count_more is_coming told one in
    let begun = count_more is_beginning told one in
    let done = count_more is_end told one in
    let lost = count_more is_loss told one in
    let reneged = count_more is_reneging told one in
    cc

-- a part more counts if it is told from the first tick on
pub told_from-counts : (first : ℕ) (told : List TimedPart) (one : TimedPart) → first ≤ one.time
    → told_from first (told ++ one ∷ []) ≡ told_from first told ++ one ∷ []
told_from-counts first told one counts =
    filter-append (λ (one : TimedPart). nat_le first one.time) told (one ∷ [])
    ∙ ap (λ b. told_from first told ++ cond b (one ∷ []) []) (le-leb first one.time counts)

pub told_from-passes : (first : ℕ) (told : List TimedPart) (one : TimedPart) → one.time < first
    → told_from first (told ++ one ∷ []) ≡ told_from first told
told_from-passes first told one early =
    filter-append (λ (one : TimedPart). nat_le first one.time) told (one ∷ [])
    ∙ ap (λ b. told_from first told ++ cond b (one ∷ []) []) (lt-leb first one.time early)
    ∙ append-nil (told_from first told)

pub flow_counts : (first : ℕ) (told : List TimedPart) (one : TimedPart) (flow after : Flow) → first ≤ one.time → flow ≡ flow_of (told_from first told)
    → after ≡ flow_more flow one.part.word → after ≡ flow_of (told_from first (told ++ one ∷ []))
flow_counts first told one flow after counts is more =
    more ∙ ap (λ (f : Flow). flow_more f one.part.word) is ∙ sym (flow_of-more (told_from first told) one)
    ∙ ap (λ told. flow_of told) (sym (told_from-counts first told one counts))

pub flow_passes : (first : ℕ) (told : List TimedPart) (one : TimedPart) (flow : Flow) → one.time < first → flow ≡ flow_of (told_from first told)
    → flow ≡ flow_of (told_from first (told ++ one ∷ []))
flow_passes first told one flow early is = is ∙ ap (λ told. flow_of told) (sym (told_from-passes first told one early))
