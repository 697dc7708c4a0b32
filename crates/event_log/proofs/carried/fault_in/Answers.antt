-- The next one failed, or it went.
use Rattle.std.proofs.Common.{sym, ap, ◌∙◌, arith}
use Rattle.event_key.specs.declared.key.Key.{Key}
use Rattle.event_log.specs.Items.{item_key}
use Rattle.object_log.proofs.CarriedLemmas.{same-read}
use Rattle.event_log.proofs.FaultFacts.{at_code, fault-end, fault-goes}
use Rattle.event_log.proofs.carried.fault_in.Goals as goal

pub loop-place-preserved : goal.loop-place-preserved
loop-place-preserved c =
    let v = c.in-Noted.ensures in
    sym (fault-goes c.args.items.now.items c.loop-place.place v.0 (omega arith) v.1 _ v.2) ∙ c.loop-place.invariant

pub returns-in-Failed : goal.returns-in-Failed
returns-in-Failed c =
    let es = c.args.items.now.items in
    let v = c.in-Failed.ensures in
    let a = c.at.ensures in
    ap (λ (k : Key). at_code k c.in-Failed.code) (a.2.key_is ∙ ap item_key (same-read es c.loop-place.place a.0 v.0 (omega arith) a.1 v.1))
    ∙ sym (fault-goes es c.loop-place.place v.0 (omega arith) v.1 _ v.2) ∙ c.loop-place.invariant

pub returns : goal.returns
returns c = fault-end c.args.items.now.items c.loop-place.place (omega arith) ∙ c.loop-place.invariant
