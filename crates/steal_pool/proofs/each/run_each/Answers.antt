use Rattle.steal_pool.proofs.EachLemmas.{jobs-ready, items-changed}
use Rattle.steal_pool.proofs.each.run_each.Goals as goal

pub run_turns-requires-clause-ready : goal.run_turns-requires-clause-ready
run_turns-requires-clause-ready g c lifetimes outlives =
    jobs-ready g.F.Fn c.args.work.now c.in_ok-jobs.jobs.items c.args.items.items c.in_ok-jobs.ensures.items c.in_ok-jobs.ensures.work c.requires.accepts

pub returns : goal.returns
returns g c =
    items-changed g.F.Fn c.args.work.now c.in_ok-jobs.jobs.items c.in_ok-done.done.items c.args.items.items c.items_of.result c.in_ok-jobs.ensures.items c.in_ok-jobs.ensures.work c.in_ok-done.ensures
    c.items_of.ensures
