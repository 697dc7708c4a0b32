-- For how many ticks jobs are inside, exactly.
use Rattle.std.specs.Prelude.{◌≡◌, ℕ, ◌+◌, ◌-◌, ◌/◌, ◌<◌, ◌==◌, ◌||◌, if◌then◌else◌, List, length, sum_by}
use Rattle.model_core.specs.declared.words.TheConstants.{LEFT_WORD, DROPPED_WORD}
use Rattle.run_laws.specs.Reached.{after_events}
use Rattle.shop_model.specs.declared.job.TheConstants.{JOBS_A_CLASS}
use Rattle.shop_model.specs.Meaning.{shop_meaning}
use Rattle.shop_model.specs.ShopParts.{ShopParts, IsShop}
use Rattle.shop_totals.specs.Kept.{ticks_of}
use Rattle.shop_totals.specs.Sums.{after_inside}
use Rattle.shop_totals.specs.Told.{TimedPart}
use Rattle.sim_spec.specs.declared.terms.Terms.{Terms}
use Rattle.shop_laws.specs.FlowLaws.{told_of}
use Rattle.shop_laws.specs.Places.{in_shop}
use Rattle.shop_laws.specs.TimeLaws.{IsClock}

-- the ages that `leave` and `drop` tell
abbrev pub ages_told : List TimedPart → ℕ
ages_told told = sum_by (λ (one : TimedPart). if one.part.word == LEFT_WORD || one.part.word == DROPPED_WORD then one.part.b else 0) told

-- how old a job of a class is by a clock; other jobs weigh nothing
abbrev pub age_by : ℕ → ℕ → ℕ → ℕ → ℕ
age_by class clock id birth = if id / JOBS_A_CLASS == class then clock - birth else 0

-- jobs of a class inside times ticks are the ages at which they left or were given up, and those of the jobs that stand in the shop (Little 1961)
abbrev pub AgesAddUp : Type 0
AgesAddUp =
    (p : ShopParts) (t : Terms) (n class clock : ℕ) → IsShop p → class < length p.classes → IsClock p t n clock
    → ticks_of after_inside 0 0 (told_of p t n (length p.stations + class)) clock
    ≡ ages_told (told_of p t n (length p.stations + class)) + in_shop p (age_by class clock) (after_events n (shop_meaning p) t)
