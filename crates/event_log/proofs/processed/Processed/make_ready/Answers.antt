-- Nothing stands before it.
use Rattle.std.proofs.Common.{◌≡◌, true, List, [], length, refl, sym, ap, ◌∙◌, subst, arith}
use Rattle.std.specs.List.{AllByRecursion as Each}
use Rattle.event_key.specs.Keys.{key_lt}
use Rattle.object_log.specs.Dones.{Done}
use Rattle.object_log.specs.Logs.{fault_of}
use Rattle.object_log.proofs.FaultLemmas.{fault-none}
use Rattle.event_log.proofs.processed.Processed.make_ready.Goals as goal

pub returns-then-not-takes-clause-can : goal.returns-then-not-takes-clause-can
returns-then-not-takes-clause-can c =
    let none = c.carry_all.ensures.news in
    let long = ap length none in
    let silent = ap length c.carry_all.ensures.chained in
    let E : List Done → Type 0 = Each (λ (d : Done). key_lt d.event.key c.args.key.now ≡ true) in
    record {
      above = subst E (sym none) tt;
      went = ap fault_of none ∙ fault-none [] refl;
      few = omega arith;
      few_sent = omega arith;
    }
