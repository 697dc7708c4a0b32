-- The steps that the seats take may be taken, whatever the other seats did.
use Rattle.std.proofs.Common.{◌≡◌, ℕ, ◌≤◌, min, List, [], ◌∷◌, ◌++◌, sym, refl, subst, arith}
use mathlib.Core.Option.{some}
use lib.ListN.{get_elem?}
use Rattle.atomic_table.specs.Table.{Me, keeps, Allows, Splits, opening}
use Rattle.atomic_table.proofs.Lists.{set_again}
use Rattle.horizon_word.specs.declared.note.Note.{Note}
use Rattle.horizon_word.specs.declared.note.Opening.{Opening}
use Rattle.horizon_word.specs.Rule.{WordState, WordRule, HasNote, CanFind, Finds, word_of, first_note, note_after_lower, note_after_read}
use Rattle.horizon_word.specs.Steps.{with_seat, all_progress}
use Rattle.horizon_word.proofs.Keeps.{opening_keeps, split_keeps, lower_keeps, read_keeps}

-- the word is one that each seat can find
can_find : (o : Opening) (s : WordState) (seat : ℕ) (note : Note) → WordRule o s → HasNote s seat note → CanFind note (word_of s)
can_find o s seat note rule at = let same = rule.floors seat note at in let low = rule.above_floor in (omega arith, rule.below_offers seat note at, rule.below_answers seat note at)

module _ (o : Opening) (slots seat : ℕ) (me : Me (Unit {0}) Note) where
  pub reads : Allows (WordRule o) slots seat me 0 (λ n. n) (λ found after. Finds me.0 found (note_after_read me.0 found) after.0)
  reads s rule deep at bound = let word : ℕ = word_of s in let known = all_progress s seat me.0 word in
      (note_after_read me.0 word known, keeps, tt, read_keeps o s seat me.0 rule at, (can_find o s seat me.0 rule at, (known, refl)))

  pub lowers : (stamp : ℕ) → me.0.floor ≤ stamp → Allows (WordRule o) slots seat me 0 (λ n. min n stamp) (λ found after. Finds me.0 found (note_after_lower me.0 stamp (min found stamp)) after.0)
  lowers stamp high s rule deep at bound = let word : ℕ = min (word_of s) stamp in let known = all_progress s seat me.0 word in let same = rule.floors seat me.0 at in
      (note_after_lower me.0 stamp word known, keeps, tt, lower_keeps o s seat me.0 stamp rule at (omega arith), (can_find o s seat me.0 rule at, (known, refl)))

pub splits : (o : Opening) (seat : ℕ) (note : Note) → note ≡ first_note o → Splits (WordRule o) seat note note note
splits o seat note first s rule at =
    let fresh : HasNote s seat (first_note o) = subst (λ (u : Note). get_elem? s.views seat ≡ some u) first at in
    let kept : WordRule o (with_seat s note) = subst (λ (u : Note). WordRule o (with_seat s u)) (sym first) (split_keeps o s seat rule fresh) in
    subst (λ (notes : List Note). WordRule o record { words = s.words; homes = s.homes; views = notes ++ note ∷ [] }) (sym (set_again s.views seat note at)) kept

pub opens : (o : Opening) → o.floor ≤ o.start → WordRule o (opening (o.start ∷ []) [] (first_note o))
opens o high = opening_keeps o high
