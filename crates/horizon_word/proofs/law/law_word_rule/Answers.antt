use Rattle.horizon_word.proofs.Keeps.{opening_keeps, split_keeps, lower_keeps, read_keeps, others_stay}
use Rattle.horizon_word.proofs.Tells.{answers_its_word, keeps_its_answer, falls_to_offer}
use Rattle.horizon_word.proofs.law.law_word_rule.Goals as goal

pub returns-clause-opening : goal.returns-clause-opening
returns-clause-opening c = opening_keeps

pub returns-clause-split : goal.returns-clause-split
returns-clause-split c = split_keeps

pub returns-clause-lower : goal.returns-clause-lower
returns-clause-lower c = lower_keeps

pub returns-clause-read : goal.returns-clause-read
returns-clause-read c = read_keeps

pub returns-clause-others : goal.returns-clause-others
returns-clause-others c = others_stay

pub returns-clause-answers : goal.returns-clause-answers
returns-clause-answers c = answers_its_word

pub returns-clause-stays : goal.returns-clause-stays
returns-clause-stays c = keeps_its_answer

pub returns-clause-falls : goal.returns-clause-falls
returns-clause-falls c = falls_to_offer
