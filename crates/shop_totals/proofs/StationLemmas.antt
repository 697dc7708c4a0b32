-- The totals of a station as time goes on, and with a part more.
use Rattle.std.proofs.Common.{◌≡◌, ◌∙◌, ℕ, ◌+◌, ◌≤◌, List, [], ◌∷◌, ◌++◌, map, ap, sym, subst, arith}
use Rattle.std.specs.Prelude.{All}
use Rattle.std.proofs.lemmas.List.Elements.{All-push, All-weaker}
use Rattle.model_core.specs.declared.note.Part.{Part}
use Rattle.shop_totals.specs.declared.station_sums.StationSums.{StationSums}
use Rattle.shop_totals.specs.declared.station_totals.StationTotals.{StationTotals}
use Rattle.shop_totals.specs.Summed.{SumsUpStation, visit_of}
use Rattle.shop_totals.specs.Sums.{station_sums_of, IsWithin, IsVisitWithin}
use Rattle.shop_totals.specs.Told.{TimedPart, AreBy}

pub by-later : (clock later : ℕ) (told : List TimedPart) → clock ≤ later → AreBy clock told → AreBy later told
by-later clock later told le are =
    All-weaker (λ (one : TimedPart). one.time ≤ clock) (λ (one : TimedPart). one.time ≤ later) (λ one by. omega (arith, by)) told are

pub by-more : (clock later : ℕ) (told : List TimedPart) (one : TimedPart) → clock ≤ later → one.time ≤ later → AreBy clock told
    → AreBy later (told ++ one ∷ [])
by-more clock later told one le by are = All-push (λ (one : TimedPart). one.time ≤ later) told one (by-later clock later told le are) by

-- the sums from the first tick of these totals on are those from that tick on
own-sums : (first servers : ℕ) (classes : List ℕ) (told : List TimedPart) (parts : ℕ) (totals : StationTotals)
    → SumsUpStation first servers classes told parts totals
    → totals.sums ≡ station_sums_of totals.sums.first servers told totals.sums.clock
own-sums first servers classes told parts totals is =
    is.sums ∙ ap (λ first. station_sums_of first servers told totals.sums.clock) (sym is.since)

pub sums_up-pass : (first servers : ℕ) (classes : List ℕ) (told : List TimedPart) (parts time : ℕ) (totals new : StationTotals)
    → SumsUpStation first servers classes told parts totals → totals.sums.clock ≤ time → new.sums.clock ≡ time → new.sums.first ≡ totals.sums.first
    → ((servers : ℕ) (told : List TimedPart) → AreBy totals.sums.clock told → totals.sums ≡ station_sums_of totals.sums.first servers told totals.sums.clock
    → new.sums ≡ station_sums_of totals.sums.first servers told time)
    → ((parts : ℕ) → IsWithin parts totals.sums → IsWithin parts new.sums)
    → new.classes.items ≡ totals.classes.items → new.visits.items ≡ totals.visits.items
    → SumsUpStation first servers classes told parts new
sums_up-pass first servers classes told parts time totals new is le clock since passes within visitors visits = record {
  since = since ∙ is.since;
  by = by-later totals.sums.clock new.sums.clock told (omega (arith, clock)) is.by;
  sums = passes servers told is.by (own-sums first servers classes told parts totals is)
      ∙ ap (λ first. station_sums_of first servers told time) is.since ∙ ap (λ clock. station_sums_of first servers told clock) (sym clock);
  within = within parts is.within;
  visitors = visitors ∙ is.visitors;
  rising = is.rising;
  visits = visits ∙ is.visits;
  visits_within = subst (All (IsVisitWithin parts)) (sym visits) is.visits_within;
}

pub sums_up-part : (first servers : ℕ) (classes : List ℕ) (told : List TimedPart) (parts : ℕ) (part : Part) (totals new : StationTotals)
    → SumsUpStation first servers classes told parts totals → new.sums.clock ≡ totals.sums.clock → new.sums.first ≡ totals.sums.first
    → ((servers : ℕ) (told : List TimedPart) → AreBy totals.sums.clock told → totals.sums ≡ station_sums_of totals.sums.first servers told totals.sums.clock
    → new.sums ≡ station_sums_of totals.sums.first servers (told ++ record { time = totals.sums.clock; part = part } ∷ []) totals.sums.clock)
    → ((parts : ℕ) → IsWithin parts totals.sums → IsWithin (parts + 1) new.sums)
    → new.classes.items ≡ totals.classes.items
    → new.visits.items ≡ map (visit_of first (told ++ record { time = totals.sums.clock; part = part } ∷ [])) classes
    → All (IsVisitWithin (parts + 1)) new.visits.items
    → SumsUpStation first servers classes (told ++ record { time = totals.sums.clock; part = part } ∷ []) (parts + 1) new
sums_up-part first servers classes told parts part totals new is clock since more within visitors visits visits_within =
    let one : TimedPart = record { time = totals.sums.clock; part = part } in
    record {
      since = since ∙ is.since;
      by = by-more totals.sums.clock new.sums.clock told one (omega (arith, clock)) (omega (arith, clock)) is.by;
      sums = more servers told is.by (own-sums first servers classes told parts totals is)
          ∙ ap (λ first. station_sums_of first servers (told ++ one ∷ []) totals.sums.clock) is.since
          ∙ ap (λ clock. station_sums_of first servers (told ++ one ∷ []) clock) (sym clock);
      within = within parts is.within;
      visitors = visitors ∙ is.visitors;
      rising = is.rising;
      visits = visits;
      visits_within = visits_within;
    }

-- the same parts, told as another list
pub sums_up-told : (first servers : ℕ) (classes : List ℕ) (told same : List TimedPart) (parts : ℕ) (totals : StationTotals) → told ≡ same
    → SumsUpStation first servers classes told parts totals → SumsUpStation first servers classes same parts totals
sums_up-told first servers classes told same parts totals are is =
    let P : List TimedPart → Type 0 = λ told. SumsUpStation first servers classes told parts totals in
    subst P are is

-- the sums when the clock stops
pub passed-sums : (first servers : ℕ) (classes : List ℕ) (told : List TimedPart) (parts clock : ℕ) (totals : StationTotals) (passed : StationSums)
    → SumsUpStation first servers classes told parts totals
    → ((servers : ℕ) (told : List TimedPart) → AreBy totals.sums.clock told → totals.sums ≡ station_sums_of totals.sums.first servers told totals.sums.clock
    → passed ≡ station_sums_of totals.sums.first servers told clock)
    → passed ≡ station_sums_of first servers told clock
passed-sums first servers classes told parts clock totals passed is passes =
    passes servers told is.by (own-sums first servers classes told parts totals is) ∙ ap (λ first. station_sums_of first servers told clock) is.since
