-- What is there after each text that was appended.
use Rattle.std.proofs.Common.{◌≡◌, ◌++◌, ◌∙◌, ap, decimal, length}
use Rattle.std.proofs.Transfers.{starts_with_of_append, starts_with_of_eq}
use Rattle.sim_io.specs.CycleTexts.{cycle_line}
use Rattle.sim_io.proofs.AppendLemmas.{appended, first_unchanged, no_result, still_first}
use Rattle.sim_io.proofs.lines.put_summary.Goals as goal

pub returns-in_err-extend_from_slice-clause-ok : goal.returns-in_err-extend_from_slice-clause-ok
returns-in_err-extend_from_slice-clause-ok c = no_result c.from_residual.result _ _ c.from_residual.ensures.1

pub returns-in_err-extend_from_slice-clause-prefix : goal.returns-in_err-extend_from_slice-clause-prefix
returns-in_err-extend_from_slice-clause-prefix c = starts_with_of_eq _ _ c.in_err-extend_from_slice.ensures.items

pub returns-in_err-put_number-clause-ok : goal.returns-in_err-put_number-clause-ok
returns-in_err-put_number-clause-ok c = no_result c.from_residual-in_err-put_number.result _ _ c.from_residual-in_err-put_number.ensures.1

pub returns-in_err-put_number-clause-prefix : goal.returns-in_err-put_number-clause-prefix
returns-in_err-put_number-clause-prefix c = still_first _ _ _ _ c.in_ok-extend_from_slice.ensures.items c.in_err-put_number.ensures.prefix

pub returns-in_err-extend_from_slice-2-clause-ok : goal.returns-in_err-extend_from_slice-2-clause-ok
returns-in_err-extend_from_slice-2-clause-ok c = no_result c.from_residual-in_err-extend_from_slice-2.result _ _ c.from_residual-in_err-extend_from_slice-2.ensures.1

pub returns-in_err-extend_from_slice-2-clause-prefix : goal.returns-in_err-extend_from_slice-2-clause-prefix
returns-in_err-extend_from_slice-2-clause-prefix c = first_unchanged _ _ _ _ (appended c.args.into.now.items _ _ _ _ c.in_ok-extend_from_slice.ensures.items c.in_ok-put_number.ensures.ok) c.in_err-extend_from_slice-2.ensures.items

pub returns-in_err-put_stamp-clause-ok : goal.returns-in_err-put_stamp-clause-ok
returns-in_err-put_stamp-clause-ok c = no_result c.from_residual-in_err-put_stamp.result _ _ c.from_residual-in_err-put_stamp.ensures.1

pub returns-in_err-put_stamp-clause-prefix : goal.returns-in_err-put_stamp-clause-prefix
returns-in_err-put_stamp-clause-prefix c = still_first _ _ _ _ (appended c.args.into.now.items _ _ _ _ (appended c.args.into.now.items _ _ _ _ c.in_ok-extend_from_slice.ensures.items c.in_ok-put_number.ensures.ok) c.in_ok-extend_from_slice-2.ensures.items) c.in_err-put_stamp.ensures.prefix

pub returns-in_err-extend_from_slice-3-clause-ok : goal.returns-in_err-extend_from_slice-3-clause-ok
returns-in_err-extend_from_slice-3-clause-ok c = no_result c.from_residual-in_err-extend_from_slice-3.result _ _ c.from_residual-in_err-extend_from_slice-3.ensures.1

pub returns-in_err-extend_from_slice-3-clause-prefix : goal.returns-in_err-extend_from_slice-3-clause-prefix
returns-in_err-extend_from_slice-3-clause-prefix c = first_unchanged _ _ _ _ (appended c.args.into.now.items _ _ _ _ (appended c.args.into.now.items _ _ _ _ (appended c.args.into.now.items _ _ _ _ c.in_ok-extend_from_slice.ensures.items c.in_ok-put_number.ensures.ok) c.in_ok-extend_from_slice-2.ensures.items) c.in_ok-put_stamp.ensures.ok) c.in_err-extend_from_slice-3.ensures.items

pub returns-in_err-put_number-2-clause-ok : goal.returns-in_err-put_number-2-clause-ok
returns-in_err-put_number-2-clause-ok c = no_result c.from_residual-in_err-put_number-2.result _ _ c.from_residual-in_err-put_number-2.ensures.1

pub returns-in_err-put_number-2-clause-prefix : goal.returns-in_err-put_number-2-clause-prefix
returns-in_err-put_number-2-clause-prefix c = still_first _ _ _ _ (appended c.args.into.now.items _ _ _ _ (appended c.args.into.now.items _ _ _ _ (appended c.args.into.now.items _ _ _ _ (appended c.args.into.now.items _ _ _ _ c.in_ok-extend_from_slice.ensures.items c.in_ok-put_number.ensures.ok) c.in_ok-extend_from_slice-2.ensures.items) c.in_ok-put_stamp.ensures.ok) c.in_ok-extend_from_slice-3.ensures.items) c.in_err-put_number-2.ensures.prefix

pub returns-in_err-push-clause-ok : goal.returns-in_err-push-clause-ok
returns-in_err-push-clause-ok c = no_result c.from_residual-in_err-push.result _ _ c.from_residual-in_err-push.ensures.1

pub returns-in_err-push-clause-prefix : goal.returns-in_err-push-clause-prefix
returns-in_err-push-clause-prefix c = first_unchanged _ _ _ _ (appended c.args.into.now.items _ _ _ _ (appended c.args.into.now.items _ _ _ _ (appended c.args.into.now.items _ _ _ _ (appended c.args.into.now.items _ _ _ _ (appended c.args.into.now.items _ _ _ _ c.in_ok-extend_from_slice.ensures.items c.in_ok-put_number.ensures.ok) c.in_ok-extend_from_slice-2.ensures.items) c.in_ok-put_stamp.ensures.ok) c.in_ok-extend_from_slice-3.ensures.items) c.in_ok-put_number-2.ensures.ok) c.in_err-push.ensures.items

pub returns-clause-ok : goal.returns-clause-ok
unfolding cycle_line
returns-clause-ok c =
    let many : c.len.result ≡ length c.args.bucket.now.done = cc in
    appended c.args.into.now.items _ _ _ _ c.in_ok-extend_from_slice.ensures.items (appended c.extend_from_slice.new.self.items _ _ _ _ c.in_ok-put_number.ensures.ok (appended c.put_number.new.into.items _ _ _ _ c.in_ok-extend_from_slice-2.ensures.items (appended c.extend_from_slice-2.new.self.items _ _ _ _ c.in_ok-put_stamp.ensures.ok (appended c.put_stamp.new.into.items _ _ _ _ c.in_ok-extend_from_slice-3.ensures.items (appended c.extend_from_slice-3.new.self.items _ _ _ _ (c.in_ok-put_number-2.ensures.ok ∙ ap (λ n. c.extend_from_slice-3.new.self.items ++ decimal n) many) c.in_ok-push.ensures.items)))))

pub returns-clause-prefix : goal.returns-clause-prefix
returns-clause-prefix c = starts_with_of_append _ _ _ (appended c.args.into.now.items _ _ _ _ (appended c.args.into.now.items _ _ _ _ (appended c.args.into.now.items _ _ _ _ (appended c.args.into.now.items _ _ _ _ (appended c.args.into.now.items _ _ _ _ (appended c.args.into.now.items _ _ _ _ c.in_ok-extend_from_slice.ensures.items c.in_ok-put_number.ensures.ok) c.in_ok-extend_from_slice-2.ensures.items) c.in_ok-put_stamp.ensures.ok) c.in_ok-extend_from_slice-3.ensures.items) c.in_ok-put_number-2.ensures.ok) c.in_ok-push.ensures.items)
