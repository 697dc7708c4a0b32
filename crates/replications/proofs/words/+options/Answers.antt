use Rattle.std.proofs.Common.{◌-◌, List, String, length, sym, ap, ◌∙◌, drop, arith, length-drop}
use Rattle.std.specs.declared.alloc.Global.{Global}
use Rattle.std.proofs.lemmas.List.{take_all}
use Rattle.sim_io.specs.Words.{texts_of}
use Rattle.replications.specs.ReplicateWords.{chosen, given_with, walked}
use Rattle.replications.proofs.WalkLemmas.{two_words, walks}
use Rattle.replications.proofs.words.+options.Goals as goal

pub returns-in_ok-next-in-len2-up : goal.returns-in_ok-next-in-len2-up
returns-in_ok-next-in-len2-up t c =
    let given = c.args.given in
    let choice = c.in_ok-choice-in-len2-up.choice in
    let is_chosen = sym (c.choose-in-len2-up.ensures ∙ ap (chosen c.args.start given) c.as_str-in-len2-up.ensures.value) ∙ c.in_ok-choice-in-len2-up.was in
    let is_given = sym (c.take.ensures ∙ ap (given_with given choice) c.as_str-in-len2-up-2.ensures.value) ∙ c.in_ok-next-in-len2-up.was in
    let words = c.args.words.now in
    let rest = take_all (length words - 2) (drop 2 words) (omega (arith, length-drop 2 words)) in
    c.options.ensures
    ∙ ap (λ (rest : List (String Global)). walked c.args.start c.in_ok-next-in-len2-up.next (texts_of rest)) rest
    ∙ sym (ap (walked c.args.start given) (two_words c.args.words.now c.word-item-2.result c.value-item.result c.in-len2-up.len_at_least c.word-item-2.is c.value-item.is)
    ∙ walks c.args.start given _ choice _ _ (texts_of (drop 2 c.args.words.now)) is_chosen is_given)
