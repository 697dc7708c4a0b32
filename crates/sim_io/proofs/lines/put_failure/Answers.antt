-- What is there after each text that was appended.
use Rattle.std.proofs.Transfers.{starts_with_of_append, starts_with_of_eq}
use Rattle.sim_io.proofs.AppendLemmas.{appended, first_unchanged, no_result, still_first}
use Rattle.sim_io.proofs.lines.put_failure.Goals as goal

pub returns-in_err-extend_from_slice-clause-ok : goal.returns-in_err-extend_from_slice-clause-ok
returns-in_err-extend_from_slice-clause-ok g c = no_result c.from_residual.result _ _ c.from_residual.ensures.1

pub returns-in_err-extend_from_slice-clause-prefix : goal.returns-in_err-extend_from_slice-clause-prefix
returns-in_err-extend_from_slice-clause-prefix g c = starts_with_of_eq _ _ c.in_err-extend_from_slice.ensures.items

pub returns-in_err-put_place-clause-ok : goal.returns-in_err-put_place-clause-ok
returns-in_err-put_place-clause-ok g c = no_result c.from_residual-in_err-put_place.result _ _ c.from_residual-in_err-put_place.ensures.1

pub returns-in_err-put_place-clause-prefix : goal.returns-in_err-put_place-clause-prefix
returns-in_err-put_place-clause-prefix g c = still_first _ _ _ _ c.in_ok-extend_from_slice.ensures.items c.in_err-put_place.ensures.prefix

pub returns-in_err-push-clause-ok : goal.returns-in_err-push-clause-ok
returns-in_err-push-clause-ok g c = no_result c.from_residual-in_err-push.result _ _ c.from_residual-in_err-push.ensures.1

pub returns-in_err-push-clause-prefix : goal.returns-in_err-push-clause-prefix
returns-in_err-push-clause-prefix g c = first_unchanged _ _ _ _ (appended c.args.into.now.items _ _ _ _ c.in_ok-extend_from_slice.ensures.items c.in_ok-put_place.ensures.ok) c.in_err-push.ensures.items

pub returns-in_err-put_fault-clause-ok : goal.returns-in_err-put_fault-clause-ok
returns-in_err-put_fault-clause-ok g c = no_result c.from_residual-in_err-put_fault.result _ _ c.from_residual-in_err-put_fault.ensures.1

pub returns-in_err-put_fault-clause-prefix : goal.returns-in_err-put_fault-clause-prefix
returns-in_err-put_fault-clause-prefix g c = still_first _ _ _ _ (appended c.args.into.now.items _ _ _ _ (appended c.args.into.now.items _ _ _ _ c.in_ok-extend_from_slice.ensures.items c.in_ok-put_place.ensures.ok) c.in_ok-push.ensures.items) c.in_err-put_fault.ensures.prefix

pub returns-in_err-push-2-clause-ok : goal.returns-in_err-push-2-clause-ok
returns-in_err-push-2-clause-ok g c = no_result c.from_residual-in_err-push-2.result _ _ c.from_residual-in_err-push-2.ensures.1

pub returns-in_err-push-2-clause-prefix : goal.returns-in_err-push-2-clause-prefix
returns-in_err-push-2-clause-prefix g c = first_unchanged _ _ _ _ (appended c.args.into.now.items _ _ _ _ (appended c.args.into.now.items _ _ _ _ (appended c.args.into.now.items _ _ _ _ c.in_ok-extend_from_slice.ensures.items c.in_ok-put_place.ensures.ok) c.in_ok-push.ensures.items) c.in_ok-put_fault.ensures.ok) c.in_err-push-2.ensures.items

pub returns-clause-ok : goal.returns-clause-ok
returns-clause-ok g c = appended c.args.into.now.items _ _ _ _ c.in_ok-extend_from_slice.ensures.items (appended c.extend_from_slice.new.self.items _ _ _ _ c.in_ok-put_place.ensures.ok (appended c.put_place.new.into.items _ _ _ _ c.in_ok-push.ensures.items (appended c.push.new.self.items _ _ _ _ c.in_ok-put_fault.ensures.ok c.in_ok-push-2.ensures.items)))

pub returns-clause-prefix : goal.returns-clause-prefix
returns-clause-prefix g c = starts_with_of_append _ _ _ (appended c.args.into.now.items _ _ _ _ (appended c.args.into.now.items _ _ _ _ (appended c.args.into.now.items _ _ _ _ (appended c.args.into.now.items _ _ _ _ c.in_ok-extend_from_slice.ensures.items c.in_ok-put_place.ensures.ok) c.in_ok-push.ensures.items) c.in_ok-put_fault.ensures.ok) c.in_ok-push-2.ensures.items)
