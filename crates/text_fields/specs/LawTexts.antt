-- The check of a law: its fields in their order, what binds them, and then unknown keys.
use Rattle.std.specs.Prelude.{ℕ, ◌-◌, List, [], ◌∷◌, Ok, codes, nat_lt, if◌then◌else◌}
use Rattle.std.specs.Str.{bytes_eq}
use Rattle.toml.specs.Data.{Data, Members}
use Rattle.random_streams.specs.declared.law.Law.{Law}
use Rattle.random_streams.specs.declared.law.TheConstants.{MOST_TRIALS, MOST_VALUE}
use Rattle.random_streams.specs.declared.law.Law.TheVariants.{Fixed, Uniform, Geometric}
use Rattle.text_fields.specs.declared.refusal.Cause.TheVariants.{BadValue, Limit}
use Rattle.text_fields.specs.Checks.{Checked, refusal, refusal_where, ◌>>=◌}
use Rattle.text_fields.specs.Fields.{number, text, table_of, required, only}

unfoldable pub fixed_law : ℕ → Members → Checked Law
fixed_law at ms = do
  value ← required at (codes "value") ms >>= number at 0 MOST_VALUE
  known ← only at (codes "law" ∷ codes "value" ∷ []) ms
  Ok (Fixed value)

unfoldable pub uniform_law : ℕ → Members → Checked Law
uniform_law at ms = do
  low ← required at (codes "low") ms >>= number at 0 MOST_VALUE
  high ← required at (codes "high") ms >>= number at 0 MOST_VALUE
  ordered ← refusal_where (nat_lt high low) BadValue at
  narrow ← refusal_where (nat_lt 4294967295 (high - low)) Limit at
  known ← only at (codes "law" ∷ codes "low" ∷ codes "high" ∷ []) ms
  Ok (Uniform low high)

unfoldable pub geometric_law : ℕ → Members → Checked Law
geometric_law at ms = do
  p ← required at (codes "p") ms >>= number at 1 4294967295
  cap ← required at (codes "cap") ms >>= number at 1 MOST_TRIALS
  known ← only at (codes "law" ∷ codes "p" ∷ codes "cap" ∷ []) ms
  Ok (Geometric p cap)

abbrev pub named_law : ℕ → Members → List ℕ → Checked Law
named_law at ms name =
    if bytes_eq name (codes "fixed") then fixed_law at ms
    else if bytes_eq name (codes "uniform") then uniform_law at ms
    else if bytes_eq name (codes "geometric") then geometric_law at ms
    else refusal BadValue at

unfoldable pub law : ℕ → Data → Checked Law
law at d = do
  ms ← table_of at d
  name ← required at (codes "law") ms >>= text at
  named_law at ms name

-- a law at a key that has to be there
abbrev pub required_law : ℕ → List ℕ → Members → Checked Law
required_law at key ms = required at key ms >>= law at
