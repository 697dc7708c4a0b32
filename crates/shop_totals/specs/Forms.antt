-- How sums are printed: what stands before a name, and what is printed behind it.
use Rattle.std.specs.Prelude.{ℕ, List, [], ◌++◌}
use Rattle.shop_model.specs.Meaning.{name_at}
use Rattle.shop_model.specs.ShopParts.{ShopParts}
use Rattle.shop_totals.specs.declared.line.Line.{Line}
use Rattle.shop_totals.specs.Lines.{line_text}

pub record Form : Type 0 where
  pub before : List ℕ
  pub line : Line → List ℕ

-- the lines of totals
abbrev pub total_lines : Form
total_lines = record { before = []; line = line_text }

-- the name of a station or a class with which a line begins
abbrev pub named : Form → ShopParts → ℕ → List ℕ
named form p object = form.before ++ name_at p object

-- its line
abbrev pub named_line : Form → ShopParts → ℕ → Line → List ℕ
named_line form p object line = named form p object ++ form.line line
