-- The sums of a class as time goes on, and with a part more.
use Rattle.std.proofs.Common.{◌≡◌, ◌∙◌, ℕ, ◌+◌, ◌≤◌, List, [], ◌∷◌, ◌++◌, ap, sym, subst, arith}
use Rattle.model_core.specs.declared.note.Part.{Part}
use Rattle.shop_totals.specs.declared.class_sums.ClassSums.{ClassSums}
use Rattle.shop_totals.specs.Summed.{SumsUpClass}
use Rattle.shop_totals.specs.Sums.{class_sums_of, IsClassWithin}
use Rattle.shop_totals.specs.Told.{TimedPart, AreBy}
use Rattle.shop_totals.proofs.StationLemmas.{by-later, by-more}

own-sums : (first : ℕ) (told : List TimedPart) (parts : ℕ) (totals : ClassSums) → SumsUpClass first told parts totals
    → totals ≡ class_sums_of totals.first told totals.clock
own-sums first told parts totals is = is.sums ∙ ap (λ first. class_sums_of first told totals.clock) (sym is.since)

pub class_sums_up-pass : (first : ℕ) (told : List TimedPart) (parts time : ℕ) (totals new : ClassSums) → SumsUpClass first told parts totals
    → totals.clock ≤ time
    → new.clock ≡ time → new.first ≡ totals.first
    → ((told : List TimedPart) → AreBy totals.clock told → totals ≡ class_sums_of totals.first told totals.clock → new ≡ class_sums_of totals.first told time)
    → ((parts : ℕ) → IsClassWithin parts totals → IsClassWithin parts new) → SumsUpClass first told parts new
class_sums_up-pass first told parts time totals new is le clock since passes within = record {
  since = since ∙ is.since;
  by = by-later totals.clock new.clock told (omega (arith, clock)) is.by;
  sums = passes told is.by (own-sums first told parts totals is)
      ∙ ap (λ first. class_sums_of first told time) is.since ∙ ap (λ clock. class_sums_of first told clock) (sym clock);
  within = within parts is.within;
}

pub class_sums_up-part : (first : ℕ) (told : List TimedPart) (parts time : ℕ) (part : Part) (totals new : ClassSums)
    → SumsUpClass first told parts totals → totals.clock ≡ time
    → new.clock ≡ totals.clock → new.first ≡ totals.first
    → ((told : List TimedPart) → AreBy totals.clock told → totals ≡ class_sums_of totals.first told totals.clock
    → new ≡ class_sums_of totals.first (told ++ record { time = totals.clock; part = part } ∷ []) totals.clock)
    → ((parts : ℕ) → IsClassWithin parts totals → IsClassWithin (parts + 1) new)
    → SumsUpClass first (told ++ record { time = time; part = part } ∷ []) (parts + 1) new
class_sums_up-part first told parts time part totals new is at clock since more within =
    let one : ℕ → TimedPart = λ time. record { time = time; part = part } in
    record {
      since = since ∙ is.since;
      by = by-more totals.clock new.clock told (one time) (omega (arith, clock)) (omega (arith, clock, at)) is.by;
      sums = more told is.by (own-sums first told parts totals is)
          ∙ ap (λ time. class_sums_of totals.first (told ++ one time ∷ []) totals.clock) at
          ∙ ap (λ first. class_sums_of first (told ++ one time ∷ []) totals.clock) is.since
          ∙ ap (λ clock. class_sums_of first (told ++ one time ∷ []) clock) (sym clock);
      within = within parts is.within;
    }

-- the same parts, told as another list
pub class_sums_up-told : (first : ℕ) (told same : List TimedPart) (parts : ℕ) (totals : ClassSums) → told ≡ same → SumsUpClass first told parts totals
    → SumsUpClass first same parts totals
class_sums_up-told first told same parts totals are is =
    let P : List TimedPart → Type 0 = λ told. SumsUpClass first told parts totals in
    subst P are is

-- the sums when the clock stops
pub passed-class : (first : ℕ) (told : List TimedPart) (parts clock : ℕ) (totals passed : ClassSums) → SumsUpClass first told parts totals
    → ((told : List TimedPart) → AreBy totals.clock told → totals ≡ class_sums_of totals.first told totals.clock → passed ≡ class_sums_of totals.first told clock)
    → passed ≡ class_sums_of first told clock
passed-class first told parts clock totals passed is passes =
    passes told is.by (own-sums first told parts totals is) ∙ ap (λ first. class_sums_of first told clock) is.since
