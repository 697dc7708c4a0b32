use Rattle.std.proofs.Common.{◌≡◌, drop}
use Rattle.sim_io.specs.Words.{AreGivenInBounds, no_options, options_read, texts_of}
use Rattle.sim_io.proofs.words.options.read_options.Given as goal

-- what is left says with what is given what all words say
abbrev pub invariant-loop-word : goal.invariant-loop-word
invariant-loop-word l =
    (options_read l.command l.given (texts_of (drop l.word-index l.words)) ≡ options_read l.command no_options (texts_of l.words)) × AreGivenInBounds l.given
