-- A program that has no demos is asked for none.
use Rattle.std.proofs.Common.{◌≡◌, ◌≢◌, ℕ, List, [], ◌∷◌, Option, Some, None, Result, Ok, Err, subst}
use Rattle.std.specs.Prelude.{IfOk}
use Rattle.sim_io.specs.declared.words.commands.Command.{Command}
use Rattle.sim_io.specs.declared.words.Settings.{Settings}
use Rattle.sim_io.specs.declared.words.WordFault.{WordFault}
use Rattle.sim_io.specs.Words.{and_then, but_demo, command_named, model_settings, settings_if}

abbrev NoDemo : Result Settings WordFault → Type 0
NoDemo said = IfOk said (λ settings. (n : ℕ) → settings ≢ Settings.Demo n)

-- what is made of what was read is no demo
made-no_demo : {T : Type 0} (r : Result T WordFault) (made : T → Settings) → ((x : T) (n : ℕ) → made x ≢ Settings.Demo n) → NoDemo (and_then r (λ x. Ok (made x)))
made-no_demo (Ok x) made never = never x
made-no_demo (Err fault) made never = tt

command-no_demo : (command : Option Command) (words : List (List ℕ)) → NoDemo (settings_if (but_demo command) words)
command-no_demo None words = tt
command-no_demo (Some Command.Run) words = made-no_demo _ _ (λ x n is. cc)
command-no_demo (Some Command.One) words = made-no_demo _ _ (λ x n is. cc)
command-no_demo (Some Command.Totals) words = made-no_demo _ _ (λ x n is. cc)
command-no_demo (Some Command.Demo) words = tt
command-no_demo (Some Command.Save) words = made-no_demo _ _ (λ x n is. cc)
command-no_demo (Some Command.Resume) words = made-no_demo _ _ (λ x n is. cc)

pub no_demo : (words : List (List ℕ)) → NoDemo (model_settings words)
unfolding model_settings
no_demo [] = tt
no_demo (word ∷ rest) = command-no_demo (command_named word) rest
