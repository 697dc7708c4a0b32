use Rattle.replications.proofs.WindowLemmas.{closes, has_no_tick}
use Rattle.replications.proofs.window.Window.close.Goals as goal

pub returns-then-span : goal.returns-then-span
returns-then-span c told summed = has_no_tick c.args.span.first_tick c.args.span.last_tick told c.none.result c.if-span.true c.none.ensures

pub returns : goal.returns
returns c told summed = closes c.args.span.first_tick c.args.span.last_tick told c.args.self.now c.pass.new.self c.max.result c.if-span.false summed c.pass.ensures.passed c.max.ensures
