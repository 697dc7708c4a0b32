-- The newest key is the greatest.
use Rattle.std.proofs.Common.{◌≡◌, ◌-◌, arith, true}
use Rattle.event_key.specs.Keys.{key_lt}
use Rattle.object_log.proofs.PartLemmas.{keys_below, no_keys}
use Rattle.node_tests.proofs.tests.logs.assert_above.Goals as goal

pub returns-then-len-eq0 : goal.returns-then-len-eq0
returns-then-len-eq0 g c = no_keys _ c.args.log.now.done (omega (arith, c.len-len.ensures))

pub returns : goal.returns
returns g c =
    let before : key_lt c.key_at-newest.result c.args.key.now ≡ true = cc (c.is_before.ensures) in
    keys_below c.args.key.now c.key_at-newest.result c.args.log.now.done (c.len-len.result - 1) c.tells.ensures.ordered (omega (arith, c.len-len.ensures)) c.key_at-newest.ensures before
