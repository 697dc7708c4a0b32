-- What words ask for that begin with `replicate`.
use Rattle.std.proofs.Common.{◌≡◌, ℕ, Bool, true, false, List, [], ◌∷◌, Some, None, Option, Err, refl, sym, ap, ◌∙◌, subst, cond}
use Rattle.std.specs.Prelude.{codes}
use Rattle.std.specs.Str.{bytes_eq}
use Rattle.std.proofs.lemmas.Slice.Eq.{bytes_eq-Decides}
use Rattle.sim_io.specs.declared.words.WordFault.TheVariants.{UnknownCommand}
use Rattle.sim_io.specs.Words.{model_settings}
use Rattle.shop_program.specs.Answer.{after_replicate}

-- to programs over a reader of models it is an unknown command
pub no_model_command : (words rest : List (List ℕ)) → after_replicate words ≡ Some rest → model_settings words ≡ Err UnknownCommand
unfolding after_replicate model_settings
no_model_command [] rest is = absurd (cc)
no_model_command (word ∷ words) rest is = by (bytes_eq word (codes "replicate")) refl is
  where
    by : (b : Bool) → bytes_eq word (codes "replicate") ≡ b → cond b (Some words) None ≡ Some rest
        → model_settings (word ∷ words) ≡ Err UnknownCommand
    by true here is =
        let same : word ≡ codes "replicate" = (bytes_eq-Decides word (codes "replicate")).0 here in
        ap (λ (word : List ℕ). model_settings (word ∷ words)) same
    by false here is = absurd (cc)
