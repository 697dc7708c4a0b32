-- What any step under the rule of the word tells, whatever code takes it.
use Rattle.std.proofs.Common.{◌≡◌, ◌≢◌, ℕ, ◌≤◌, min, sym, ap, ◌∙◌, inl, inr, ◌⊎◌, arith, get_or-set_same}
use native.Mathlib.Decide.{ℕ_discrete}
use mathlib.Core.Logic.{dite}
use Rattle.atomic_table.proofs.Lists.{set_here, set_else}
use Rattle.horizon_word.specs.declared.note.Note.{Note}
use Rattle.horizon_word.specs.declared.note.Opening.{Opening}
use Rattle.horizon_word.specs.declared.note.Progress.{Progress}
use Rattle.horizon_word.specs.Rule.{WordState, WordRule, HasNote, known_progress, word_of}
use Rattle.horizon_word.specs.Steps.{AnswersItsWord, KeepsItsAnswer, FallsToOffer, after_step}
use Rattle.horizon_word.proofs.Keeps.{in_row, one_note}

module _ (o : Opening) (s : WordState) (seat word : ℕ) (before after : Note) (rule : WordRule o s) (at : HasNote s seat before) (next : WordRule o (after_step s seat word after)) where
  stands : word_of (after_step s seat word after) ≡ word
  stands = let one = rule.one_word in get_or-set_same s.words 0 word 0 (omega arith)

  here : HasNote (after_step s seat word after) seat after
  here = set_here s.views seat after (in_row s.views seat before at)

  -- a seat other than the one that stepped has the note that it had
  as_before : (i : ℕ) (u : Note) → i ≢ seat → HasNote (after_step s seat word after) i u → HasNote s i u
  as_before i u apart there = sym (set_else s.views seat i after apart) ∙ there

  -- the seat that took the last step is the one that stepped; or it knows how far that one has come
  pub told : (after.own.seen ≡ word) ⊎ ((before.own.taken ≡ after.own.taken → before.own ≡ after.own) × (after.own.taken ≤ before.own.taken))
  told = let t = next.last_step in dite (ℕ_discrete t.0 seat)
      (λ same. inl (ap (λ (u : Note). u.own.seen) (one_note (after_step s seat word after).views seat t.0 after t.1 (sym same) here t.2) ∙ t.3.0 ∙ stands))
      (λ apart. let knows : known_progress o t.1 seat ≡ after.own = t.3.1 seat after here in
      let past = rule.past t.0 t.1 (as_before t.0 t.1 apart t.2) seat before at in
      let taken : (known_progress o t.1 seat).taken ≡ after.own.taken = ap (λ (p : Progress). p.taken) knows in
      inr ((λ (e : before.own.taken ≡ after.own.taken). sym (past.1 (taken ∙ sym e)) ∙ knows), omega arith))

pub answers_its_word : AnswersItsWord
answers_its_word o s seat word before after rule at next more = elim (told o s seat word before after rule at next) [ inl e ↦ e | inr t ↦ absurd (omega arith) ]

pub keeps_its_answer : KeepsItsAnswer
keeps_its_answer o s seat word before after rule at next same = elim (told o s seat word before after rule at next) [ inl e ↦ inr e | inr t ↦ inl (ap (λ (p : Progress). p.seen) (sym (t.0 same))) ]

module _ (o : Opening) (s : WordState) (seat word stamp : ℕ) (before after : Note) (rule : WordRule o s) (at : HasNote s seat before)
    (next : WordRule o (after_step s seat word after)) (offer : after.least ≡ min before.least stamp) where
  -- the word falls as far as the offer
  far : word ≤ min (word_of s) stamp
  far = let e = stands o s seat word before after rule at next in let own = next.below_offers seat after (here o s seat word before after rule at next) in let t = rule.offered in
      dite (ℕ_discrete t.0 seat)
      (λ same. let l = ap (λ (u : Note). u.least) (one_note s.views seat t.0 before t.1 (sym same) at t.2) ∙ t.3 in omega arith)
      (λ apart. let other = next.below_offers t.0 t.1 (set_else s.views seat t.0 after apart ∙ t.2) in let l = t.3 in omega arith)

  -- and no further
  no_further : min (word_of s) stamp ≤ word
  no_further = let e = stands o s seat word before after rule at next in let own = rule.below_offers seat before at in let t = next.offered in
      dite (ℕ_discrete t.0 seat)
      (λ same. let l = ap (λ (u : Note). u.least) (one_note (after_step s seat word after).views seat t.0 after t.1 (sym same) (here o s seat word before after rule at next) t.2) ∙ t.3 in omega arith)
      (λ apart. let other = rule.below_offers t.0 t.1 (as_before o s seat word before after rule at next t.0 t.1 apart t.2) in let l = t.3 in omega arith)

pub falls_to_offer : FallsToOffer
falls_to_offer o s seat word stamp before after rule at next offer =
    let a = far o s seat word stamp before after rule at next offer in let b = no_further o s seat word stamp before after rule at next offer in omega arith
