-- What the cycle says of the world, once it has taken out the names of the nodes that have events.
use Rattle.std.proofs.Common.{◌∙◌, ap, subst, sym}
use Rattle.std.proofs.lemmas.Result.{IfOk-weaker, on_ok_weaker}
use Rattle.cycle_core.specs.Busy.{NamesBusy}
use Rattle.cycle_core.specs.Cycled.{CarriesOn, IsBucketOf, StandsAfter}
use Rattle.cycle_core.specs.Worlds.{IsSameWorld, StandsAt, WorldView}
use Rattle.node_team.specs.Readiness.{IsReady}
use Rattle.node_team.specs.Releases.{AreClear}
use Rattle.node_team.specs.Rises.{AllRise}
use Rattle.node_team.proofs.cycling.run_cycle.Goals as goal

pub find_busy-requires-after_bounds : goal.find_busy-requires-after_bounds
find_busy-requires-after_bounds g c lifetimes outlives = c.requires.stands.1.has

pub run_busy-requires-clause-stands : goal.run_busy-requires-clause-stands
run_busy-requires-clause-stands g c lifetimes outlives =
    let S : WorldView _ → Type 0 = λ v. StandsAt (g.M.Model.meaning v.model) v c.requires.stands.0 in
    (c.requires.stands.0, subst S (sym c.find_busy.ensures.same) c.requires.stands.1)

pub run_busy-requires-clause-busy : goal.run_busy-requires-clause-busy
run_busy-requires-clause-busy g c lifetimes outlives =
    let B : WorldView _ → Type 0 = λ v. NamesBusy v.nodes c.find_busy.new.busy.items in
    subst B (sym c.find_busy.ensures.same) c.in_ok-find_busy.ensures.busy

pub run_busy-requires-clause-ready : goal.run_busy-requires-clause-ready
run_busy-requires-clause-ready g c lifetimes outlives =
    let ready = c.requires.ready in
    let many = ap (λ v. v.homes.nodes) (sym c.find_busy.ensures.same) in
    record { wide = ready.wide ∙ many; rest = ready.rest; clear = subst (λ n. AreClear n c.args.kept.now.inboxes.items) many ready.clear }

pub returns-clause-bucket : goal.returns-clause-bucket
returns-clause-bucket g c = IfOk-weaker c.run_busy.result _ _ (λ bucket is. (let B : WorldView _ → Type 0 = λ v. IsBucketOf g.M.Model.meaning v bucket in subst B c.find_busy.ensures.same is)) c.run_busy.ensures.bucket

pub returns-clause-stands : goal.returns-clause-stands
returns-clause-stands g c = on_ok_weaker c.run_busy.result (let S : WorldView _ → Type 0 = λ v. StandsAfter g.M.Model.meaning v c.run_busy.new.world in λ is. subst S c.find_busy.ensures.same is) c.run_busy.ensures.stands

pub returns-clause-carried : goal.returns-clause-carried
returns-clause-carried g c = on_ok_weaker c.run_busy.result (let S : WorldView _ → Type 0 = λ v. CarriesOn g.M.Model.meaning v c.run_busy.new.world in λ is. subst S c.find_busy.ensures.same is) c.run_busy.ensures.carried

pub returns-clause-work : goal.returns-clause-work
returns-clause-work g c =
    on_ok_weaker c.run_busy.result (let S : WorldView _ → Type 0 = λ v. AllRise g.M.Model.meaning c.args.setting.now.ahead v.nodes c.run_busy.new.world.nodes in λ is. subst S c.find_busy.ensures.same is) c.run_busy.ensures.work

pub returns-clause-ready : goal.returns-clause-ready
returns-clause-ready g c =
    on_ok_weaker c.run_busy.result (let S : WorldView _ → Type 0 = λ v. IsReady g.L.Lanes.nodes g.L.Lanes.are_at_rest v.homes.nodes c.run_busy.new.kept in λ is. subst S c.find_busy.ensures.same is) c.run_busy.ensures.ready

pub returns-in_err-find_busy-clause-made : goal.returns-in_err-find_busy-clause-made
returns-in_err-find_busy-clause-made g c =
    let same = c.find_busy.ensures.same in
    record { model = ap (λ v. v.model) same; terms = ap (λ v. v.terms) same; homes = ap (λ v. v.homes) same }

pub returns-clause-made : goal.returns-clause-made
returns-clause-made g c =
    let I : WorldView _ → Type 0 = λ v. IsSameWorld v c.run_busy.new.world in
    subst I c.find_busy.ensures.same c.run_busy.ensures.made

pub returns-clause-fault : goal.returns-clause-fault
returns-clause-fault g c = c.run_busy.ensures.fault
