-- What was written so far, and what is still to come.
use Rattle.std.proofs.Common.{◌≡◌, ℕ, List, ◌++◌, sym, ap, ◌∙◌, subst, append_assoc}
use Rattle.sim_io.proofs.TakenLemmas.{Appends-trans}
use Rattle.sim_io.specs.Taken.{Taken, Appends}
use Rattle.sim_io.specs.Transfers.{AppendsPrefix, AppendsSome}

module _ (a b c : Taken) (whole : List ℕ) where
  -- all that is left is written
  pub writes_last : (rest : List ℕ) → AppendsSome a b whole rest → Appends b c rest → Appends a c whole
  writes_last rest some written =
      let P : List ℕ → Type 0 = Appends a c in
      subst P (sym some.2) (Appends-trans a b c some.0 rest some.1 written)

  -- what comes next is written in part
  pub writes_prefix : (rest next after : List ℕ) → AppendsSome a b whole rest → rest ≡ next ++ after → AppendsPrefix b c next
      → AppendsPrefix a c whole
  writes_prefix rest next after some is_rest part = (
    some.0 ++ part.0,
    part.1 ++ after,
    some.2 ∙ ap (λ xs. some.0 ++ xs) (is_rest ∙ ap (λ xs. xs ++ after) part.2 ∙ append_assoc part.0 part.1 after)
        ∙ sym (append_assoc some.0 part.0 (part.1 ++ after)),
    Appends-trans a b c some.0 part.0 some.1 part.3,
  )
