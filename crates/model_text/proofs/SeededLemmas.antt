-- A model under another seed is alike but for what events do.
use Rattle.std.proofs.Common.{◌≡◌, ℕ, sym, subst}
use Rattle.model_text.specs.declared.model.AnyModel.{AnyModel}
use Rattle.model_text.specs.Meanings.{meaning_of, meaning_under, AreAlike, alike_under}

pub alike : (seed : ℕ) (model inner : AnyModel) → inner ≡ model → AreAlike (meaning_under seed model) (meaning_of inner)
alike seed model inner is = subst (λ (m : AnyModel). AreAlike (meaning_under seed model) (meaning_of m)) (sym is) (alike_under seed model)
