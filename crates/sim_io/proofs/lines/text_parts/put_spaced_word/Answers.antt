-- What is there after each text that was appended.
use Rattle.std.proofs.Transfers.{starts_with_of_append, starts_with_of_eq}
use Rattle.sim_io.proofs.AppendLemmas.{appended, first_unchanged, no_result, still_first}
use Rattle.sim_io.proofs.lines.text_parts.put_spaced_word.Goals as goal

pub returns-in_err-push-clause-ok : goal.returns-in_err-push-clause-ok
returns-in_err-push-clause-ok g c = no_result c.from_residual.result _ _ c.from_residual.ensures.1

pub returns-in_err-push-clause-prefix : goal.returns-in_err-push-clause-prefix
returns-in_err-push-clause-prefix g c = starts_with_of_eq _ _ c.in_err-push.ensures.items

pub returns-in_err-put_word-clause-ok : goal.returns-in_err-put_word-clause-ok
returns-in_err-put_word-clause-ok g c = no_result c.from_residual-in_err-put_word.result _ _ c.from_residual-in_err-put_word.ensures.1

pub returns-in_err-put_word-clause-prefix : goal.returns-in_err-put_word-clause-prefix
returns-in_err-put_word-clause-prefix g c = still_first _ _ _ _ c.in_ok-push.ensures.items c.in_err-put_word.ensures.prefix

pub returns-in_err-push-2-clause-ok : goal.returns-in_err-push-2-clause-ok
returns-in_err-push-2-clause-ok g c = no_result c.from_residual-in_err-push-2.result _ _ c.from_residual-in_err-push-2.ensures.1

pub returns-in_err-push-2-clause-prefix : goal.returns-in_err-push-2-clause-prefix
returns-in_err-push-2-clause-prefix g c = first_unchanged _ _ _ _ (appended c.args.into.now.items _ _ _ _ c.in_ok-push.ensures.items c.in_ok-put_word.ensures.ok) c.in_err-push-2.ensures.items

pub returns-clause-ok : goal.returns-clause-ok
returns-clause-ok g c = appended c.args.into.now.items _ _ _ _ c.in_ok-push.ensures.items (appended c.push.new.self.items _ _ _ _ c.in_ok-put_word.ensures.ok c.in_ok-push-2.ensures.items)

pub returns-clause-prefix : goal.returns-clause-prefix
returns-clause-prefix g c = starts_with_of_append _ _ _ (appended c.args.into.now.items _ _ _ _ (appended c.args.into.now.items _ _ _ _ c.in_ok-push.ensures.items c.in_ok-put_word.ensures.ok) c.in_ok-push-2.ensures.items)
