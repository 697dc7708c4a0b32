use Rattle.std.proofs.Common.{◌≡◌, ◌+◌, ◌≤◌, length, refl, sym, ◌∙◌, subst, ap}
use Rattle.sim_spec.specs.Cut.{after}
use Rattle.cycle_core.specs.Worlds.{StandsAt}
use Rattle.cycle_core.proofs.ChangedNodes.{same-made, same-then}
use Rattle.cycle_core.proofs.CycleFacts.{all-carry}
use Rattle.cycle_core.proofs.WholeCycle.{closed-cycle}
use Rattle.cycle_core.proofs.world.World.end_closed.Goals as goal

pub commit_cut_among-requires-clause-nodes : goal.commit_cut_among-requires-clause-nodes
commit_cut_among-requires-clause-nodes g c lifetimes outlives = c.requires.stands.1.has

pub end_cycle-requires-clause-cut : goal.end_cycle-requires-clause-cut
end_cycle-requires-clause-cut g c lifetimes outlives = c.in_ok-cut.ensures

pub finish-requires-clause-nodes : goal.finish-requires-clause-nodes
finish-requires-clause-nodes g c lifetimes outlives =
    (closed-cycle (g.M.Model.meaning) c.args.self.now c.end_cycle.new.self c.args.bound c.in_ok-cut.cut c.in_ok-done.done.items c.requires.closed
    c.in_ok-cut.ensures c.end_cycle.ensures.laws (λ place x at. c.in_ok-done.ensures.known place x at) c.end_cycle.ensures.world c.in_ok-done.ensures.ended c.requires.stands.0 c.requires.stands.1).has

pub finish-requires-clause-count : goal.finish-requires-clause-count
finish-requires-clause-count g c lifetimes outlives =
    let done = closed-cycle (g.M.Model.meaning) c.args.self.now c.end_cycle.new.self c.args.bound c.in_ok-cut.cut c.in_ok-done.done.items c.requires.closed
    c.in_ok-cut.ensures c.end_cycle.ensures.laws (λ place x at. c.in_ok-done.ensures.known place x at) c.end_cycle.ensures.world c.in_ok-done.ensures.ended c.requires.stands.0 c.requires.stands.1 in
    subst (λ n. c.end_cycle.new.self.count + n ≤ c.end_cycle.new.self.terms.limit) (sym c.len.ensures) done.fits

pub returns-clause-bucket : goal.returns-clause-bucket
returns-clause-bucket g c s stands =
    c.bucket_of.ensures
    ∙ (closed-cycle (g.M.Model.meaning) c.args.self.now c.end_cycle.new.self c.args.bound c.in_ok-cut.cut c.in_ok-done.done.items c.requires.closed
    c.in_ok-cut.ensures c.end_cycle.ensures.laws (λ place x at. c.in_ok-done.ensures.known place x at) c.end_cycle.ensures.world c.in_ok-done.ensures.ended s stands).bucket

pub returns-clause-stands : goal.returns-clause-stands
returns-clause-stands g c s stands =
    let done = closed-cycle (g.M.Model.meaning) c.args.self.now c.end_cycle.new.self c.args.bound c.in_ok-cut.cut c.in_ok-done.done.items c.requires.closed
    c.in_ok-cut.ensures c.end_cycle.ensures.laws (λ place x at. c.in_ok-done.ensures.known place x at) c.end_cycle.ensures.world c.in_ok-done.ensures.ended s stands in
    let long : c.len.result ≡ length c.in_ok-done.done.items = c.len.ensures in
    let m = g.M.Model.meaning c.args.self.now.model in
    rw c.finish.ensures
    (subst (λ n. StandsAt m (record c.end_cycle.new.self { count = c.end_cycle.new.self.count + n; fault = c.in_ok-cut.cut.fault }) (after m c.args.self.now.terms s)) (sym long) done.stands)

pub returns-clause-carried : goal.returns-clause-carried
returns-clause-carried g c firsts works s stands =
    rw c.finish.ensures
    (all-carry (g.M.Model.meaning) c.args.self.now c.end_cycle.ensures.laws s stands c.args.bound c.requires.closed (λ place x at. c.in_ok-done.ensures.known place x at) c.in_ok-cut.cut c.in_ok-cut.ensures
    c.end_cycle.new.self.nodes c.in_ok-done.done.items c.in_ok-done.ensures.ended firsts works (λ place x at. c.in_ok-done.ensures.known_now place x at))

pub returns-in_err-done-clause-made : goal.returns-in_err-done-clause-made
returns-in_err-done-clause-made g c = same-made c.args.self.now c.end_cycle.new.self _ c.end_cycle.ensures.world

pub returns-clause-made : goal.returns-clause-made
returns-clause-made g c =
    let ended = c.end_cycle.new.self in
    let done = c.finish.ensures in
    same-then c.args.self.now ended c.finish.new.self (same-made c.args.self.now ended _ c.end_cycle.ensures.world)
    (record { model = ap (λ w. w.model) done; terms = ap (λ w. w.terms) done; homes = ap (λ w. w.homes) done })

pub returns-clause-fault : goal.returns-clause-fault
returns-clause-fault g c = ap (λ w. w.fault) c.finish.ensures ∙ sym (ap (λ b. b.fault) c.bucket_of.ensures)

pub commit_cut_among-requires-clause-busy : goal.commit_cut_among-requires-clause-busy
commit_cut_among-requires-clause-busy g c lifetimes outlives = c.requires.busy

pub end_cycle-requires-clause-busy : goal.end_cycle-requires-clause-busy
end_cycle-requires-clause-busy g c lifetimes outlives = c.requires.busy

pub end_cycle-requires-clause-closed : goal.end_cycle-requires-clause-closed
end_cycle-requires-clause-closed g c lifetimes outlives = c.requires.closed

pub end_cycle-requires-clause-stands : goal.end_cycle-requires-clause-stands
end_cycle-requires-clause-stands g c lifetimes outlives = c.requires.stands

pub returns-in_err-cut-clause-made : goal.returns-in_err-cut-clause-made
returns-in_err-cut-clause-made g c = record { model = refl; terms = refl; homes = refl }
