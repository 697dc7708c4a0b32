-- The first one knows what they send.
use Rattle.std.proofs.Common.{take, sym, ap, ◌∙◌, arith}
use Rattle.event_log.specs.Items.{first_held}
use Rattle.event_log.proofs.TurnLemmas.{front-held}
use Rattle.event_log.proofs.turning.held_in_front.Goals as goal

pub returns-then-turned-eq0 : goal.returns-then-turned-eq0
returns-then-turned-eq0 c = ap (λ n. first_held (take n c.args.items.now.items)) (sym c.if-turned-eq0.true)

pub returns : goal.returns
returns c =
    let some = c.if-turned-eq0.false in
    let within = c.requires in
    c.at.ensures.2.held_is ∙ front-held c.args.turned c.args.items.now.items c.at.ensures.0 (omega arith) within c.at.ensures.1
