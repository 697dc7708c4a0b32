-- Past the table there is no bound.
use Rattle.std.proofs.Common.{◌≤◌, ◌%◌, ℕ, length, sym, ap, subst, arith}
use Rattle.std.proofs.lemmas.List.{get_or_past}
use Rattle.event_key.specs.declared.stamp.TheConstants.{NO_STAMP}
use Rattle.event_log.proofs.latest.Latest.raise.Goals as goal

pub returns-else-place-len-clause-reached : goal.returns-else-place-len-clause-reached
returns-else-place-len-clause-reached c =
    let past = c.if-place-len.false in
    let counted = c.len.ensures in
    let none = get_or_past c.args.self.now (c.args.key.now.dest % 1021) NO_STAMP (omega (arith, c.self.inside.bounds.ok.0, ap length c.self.view_is)) in
    let S : ℕ → Type 0 = λ n. c.args.key.now.stamp ≤ n in
    subst S (sym none) search arith
