-- The check of a law of delays: the laws that all texts share, and those with units and tables.
use Rattle.std.specs.Prelude.{ℕ, ◌+◌, ◌-◌, ◌==◌, nat_lt, nat_le, List, [], ◌∷◌, length, Option, Some, None, Ok, codes, if◌then◌else◌}
use Rattle.std.specs.Str.{bytes_eq}
use Rattle.toml.specs.Data.{Data, Members, get_member}
use Rattle.random_streams.specs.declared.delay_law.DelayLaw.{DelayLaw}
use Rattle.random_streams.specs.declared.delay_law.DelayLaw.TheVariants.{Plain, Spread, Table, Steps}
use Rattle.random_streams.specs.declared.delay_law.TheConstants.{MOST_UNIT}
use Rattle.random_streams.specs.declared.law.Law.{Law}
use Rattle.random_streams.specs.declared.law.Law.TheVariants.{Geometric}
use Rattle.random_streams.specs.declared.law.TheConstants.{MOST_TRIALS, MOST_VALUE}
use Rattle.random_streams.specs.declared.shares.TheConstants.{MOST_SHARES}
use Rattle.text_fields.specs.declared.refusal.Cause.TheVariants.{BadValue, Limit}
use Rattle.text_fields.specs.Checks.{Checked, refusal, refusal_where, ◌>>=◌}
use Rattle.text_fields.specs.Fields.{number, number_or, text, table_of, item_count, array_of, required, only, each}
use Rattle.text_fields.specs.LawTexts.{fixed_law, uniform_law}
use Rattle.text_fields.specs.Weights.{weights_or_ones}

-- a law without a unit counts in ticks
abbrev pub geometric_by : ℕ → ℕ → ℕ → DelayLaw
geometric_by p cap unit = if unit == 1 then Plain (Geometric p cap) else Spread p cap unit

unfoldable pub geometric_law : ℕ → Members → Checked DelayLaw
geometric_law at ms = do
  p ← required at (codes "p") ms >>= number at 1 4294967295
  cap ← required at (codes "cap") ms >>= number at 1 MOST_TRIALS
  unit ← number_or at 1 1 MOST_UNIT (get_member (codes "unit") ms)
  known ← only at (codes "law" ∷ codes "p" ∷ codes "cap" ∷ codes "unit" ∷ []) ms
  Ok (geometric_by p cap unit)

-- so many values of a law
unfoldable pub amounts : ℕ → ℕ → ℕ → Data → Checked (List ℕ)
amounts at least most d = do
  ds ← array_of at most d
  some ← refusal_where (nat_lt (item_count ds) least) BadValue at
  each (number at 0 MOST_VALUE) ds

unfoldable pub table_law : ℕ → Members → Checked DelayLaw
table_law at ms = do
  values ← required at (codes "values") ms >>= amounts at 1 MOST_SHARES
  weights ← weights_or_ones at (length values) (get_member (codes "weights") ms)
  known ← only at (codes "law" ∷ codes "values" ∷ codes "weights" ∷ []) ms
  Ok (Table values weights)

-- each bound is above the one before, by at most 2 ^ 32
abbrev pub rising : ℕ → List ℕ → Checked (Unit {0})
rising at [] = Ok tt
rising at (bound ∷ []) = Ok tt
rising at (bound ∷ next ∷ rest) =
    refusal_where (nat_le next bound) BadValue at >>= (λ above.
    refusal_where (nat_lt 4294967296 (next - bound)) Limit at >>= (λ near. rising at (next ∷ rest)))

unfoldable pub steps_law : ℕ → Members → Checked DelayLaw
steps_law at ms = do
  bounds ← required at (codes "bounds") ms >>= amounts at 2 (MOST_SHARES + 1)
  rise ← rising at bounds
  weights ← weights_or_ones at (length bounds - 1) (get_member (codes "weights") ms)
  known ← only at (codes "law" ∷ codes "bounds" ∷ codes "weights" ∷ []) ms
  Ok (Steps bounds weights)

abbrev pub plain : Checked Law → Checked DelayLaw
plain check = check >>= (λ law. Ok (Plain law))

abbrev pub named_law : ℕ → Members → List ℕ → Checked DelayLaw
named_law at ms name =
    if bytes_eq name (codes "fixed") then plain (fixed_law at ms)
    else if bytes_eq name (codes "uniform") then plain (uniform_law at ms)
    else if bytes_eq name (codes "geometric") then geometric_law at ms
    else if bytes_eq name (codes "table") then table_law at ms
    else if bytes_eq name (codes "steps") then steps_law at ms
    else refusal BadValue at

unfoldable pub delay_law : ℕ → Data → Checked DelayLaw
delay_law at d = do
  ms ← table_of at d
  name ← required at (codes "law") ms >>= text at
  named_law at ms name

-- the law at a key that has to be there
abbrev pub required_law : ℕ → List ℕ → Members → Checked DelayLaw
required_law at key ms = required at key ms >>= delay_law at

-- no law where the key is absent
abbrev pub optional_law : ℕ → Option Data → Checked (Option DelayLaw)
optional_law at None = Ok None
optional_law at (Some d) = delay_law at d >>= (λ law. Ok (Some law))
