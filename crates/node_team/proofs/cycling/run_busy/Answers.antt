use Rattle.std.proofs.Common.{◌≡◌, ◌+◌, ◌≤◌, ℕ, List, ap, length, sym, ◌∙◌, subst}
use Rattle.sim_spec.specs.Cut.{after}
use Rattle.cycle_core.specs.Busy.{NamesBusy}
use Rattle.cycle_core.specs.Worlds.{StandsAt}
use Rattle.cycle_core.proofs.ChangedNodes.{same-then}
use Rattle.node_team.specs.Releases.{AreClear}
use Rattle.node_team.proofs.CycleLemmas.{closed-cycle, closed-here, still-busy}
use Rattle.node_team.proofs.RiseLemmas.{all-rise}
use Rattle.node_team.proofs.cycling.run_busy.Goals as goal

pub commit_cut_among-requires-clause-nodes : goal.commit_cut_among-requires-clause-nodes
commit_cut_among-requires-clause-nodes g c lifetimes outlives = (c.in_ok-bound.ensures.closed.stands c.requires.stands.0 c.requires.stands.1).has

pub close_world-requires-clause-busy : goal.close_world-requires-clause-busy
close_world-requires-clause-busy g c lifetimes outlives =
    let B : List ℕ → Type 0 = NamesBusy c.args.world.now.nodes in
    subst B (sym c.as_slice-2.ensures.value) c.requires.busy

pub commit_cut_among-requires-clause-busy : goal.commit_cut_among-requires-clause-busy
commit_cut_among-requires-clause-busy g c lifetimes outlives =
    let B : List ℕ → Type 0 = NamesBusy c.close_world.new.world.nodes in
    subst B (sym c.as_slice-3.ensures.value)
    (still-busy g.M.Model.meaning c.args.setting.now.ahead c.args.world.now c.close_world.new.world c.in_ok-bound.bound c.in_ok-bound.ensures.closed c.args.kept.now.busy.items c.requires.busy)

pub processed_by-before-requires-clause-nodes : goal.processed_by-before-requires-clause-nodes
processed_by-before-requires-clause-nodes g c lifetimes outlives = c.requires.stands.1.has

pub processed_by-before-requires-clause-busy : goal.processed_by-before-requires-clause-busy
processed_by-before-requires-clause-busy g c lifetimes outlives =
    let B : List ℕ → Type 0 = NamesBusy c.args.world.now.nodes in
    subst B (sym c.as_slice.ensures.value) c.requires.busy

pub processed_by-requires-clause-nodes : goal.processed_by-requires-clause-nodes
processed_by-requires-clause-nodes g c lifetimes outlives = (c.in_ok-bound.ensures.closed.stands c.requires.stands.0 c.requires.stands.1).has

pub processed_by-requires-clause-busy : goal.processed_by-requires-clause-busy
processed_by-requires-clause-busy g c lifetimes outlives =
    let B : List ℕ → Type 0 = NamesBusy c.close_world.new.world.nodes in
    subst B (sym c.as_slice-4.ensures.value)
    (still-busy g.M.Model.meaning c.args.setting.now.ahead c.args.world.now c.close_world.new.world c.in_ok-bound.bound c.in_ok-bound.ensures.closed c.args.kept.now.busy.items c.requires.busy)

pub end_world-requires-clause-busy : goal.end_world-requires-clause-busy
end_world-requires-clause-busy g c lifetimes outlives =
    still-busy g.M.Model.meaning c.args.setting.now.ahead c.args.world.now c.close_world.new.world c.in_ok-bound.bound c.in_ok-bound.ensures.closed c.args.kept.now.busy.items c.requires.busy

pub end_world-requires-clause-stands : goal.end_world-requires-clause-stands
end_world-requires-clause-stands g c lifetimes outlives = (c.requires.stands.0, c.in_ok-bound.ensures.closed.stands c.requires.stands.0 c.requires.stands.1)

pub end_world-requires-clause-closed : goal.end_world-requires-clause-closed
end_world-requires-clause-closed g c lifetimes outlives = closed-here g.M.Model.meaning c.args.setting.now.ahead c.args.world.now c.close_world.new.world c.in_ok-bound.bound c.in_ok-bound.ensures.closed

pub finish-requires-clause-nodes : goal.finish-requires-clause-nodes
finish-requires-clause-nodes g c lifetimes outlives =
    let closed = c.in_ok-bound.ensures.closed in
    let cycled = closed-cycle g.M.Model.meaning c.args.setting.now.ahead c.args.world.now c.close_world.new.world c.in_ok-bound.bound closed c.end_world.ensures.laws (λ place x at. c.in_ok-records.ensures.known place x at)
    c.in_ok-cut.cut c.in_ok-cut.ensures c.end_world.new.world c.in_ok-records.records.items (λ place x at. c.in_ok-records.ensures.known_now place x at) c.in_ok-records.ensures.world c.in_ok-records.ensures.ended c.requires.stands.0 c.requires.stands.1 in
    cycled.has

pub finish-requires-clause-count : goal.finish-requires-clause-count
finish-requires-clause-count g c lifetimes outlives =
    let closed = c.in_ok-bound.ensures.closed in
    let cycled = closed-cycle g.M.Model.meaning c.args.setting.now.ahead c.args.world.now c.close_world.new.world c.in_ok-bound.bound closed c.end_world.ensures.laws (λ place x at. c.in_ok-records.ensures.known place x at)
    c.in_ok-cut.cut c.in_ok-cut.ensures c.end_world.new.world c.in_ok-records.records.items (λ place x at. c.in_ok-records.ensures.known_now place x at) c.in_ok-records.ensures.world c.in_ok-records.ensures.ended c.requires.stands.0 c.requires.stands.1 in
    subst (λ n. c.end_world.new.world.count + n ≤ c.end_world.new.world.terms.limit) (sym c.len-committed.ensures) cycled.fits

pub returns-clause-bucket : goal.returns-clause-bucket
returns-clause-bucket g c s stands =
    let closed = c.in_ok-bound.ensures.closed in
    let cycled = closed-cycle g.M.Model.meaning c.args.setting.now.ahead c.args.world.now c.close_world.new.world c.in_ok-bound.bound closed c.end_world.ensures.laws (λ place x at. c.in_ok-records.ensures.known place x at)
    c.in_ok-cut.cut c.in_ok-cut.ensures c.end_world.new.world c.in_ok-records.records.items (λ place x at. c.in_ok-records.ensures.known_now place x at) c.in_ok-records.ensures.world c.in_ok-records.ensures.ended s stands in
    c.bucket_of.ensures ∙ cycled.bucket

pub returns-clause-stands : goal.returns-clause-stands
returns-clause-stands g c s stands =
    let closed = c.in_ok-bound.ensures.closed in
    let cycled = closed-cycle g.M.Model.meaning c.args.setting.now.ahead c.args.world.now c.close_world.new.world c.in_ok-bound.bound closed c.end_world.ensures.laws (λ place x at. c.in_ok-records.ensures.known place x at)
    c.in_ok-cut.cut c.in_ok-cut.ensures c.end_world.new.world c.in_ok-records.records.items (λ place x at. c.in_ok-records.ensures.known_now place x at) c.in_ok-records.ensures.world c.in_ok-records.ensures.ended s stands in
    let w4 = c.end_world.new.world in
    let long : c.len-committed.result ≡ length c.in_ok-records.records.items = c.len-committed.ensures in
    let m = g.M.Model.meaning c.args.world.now.model in
    let S : ℕ → Type 0 = λ n. StandsAt m (record w4 { count = w4.count + n; fault = c.in_ok-cut.cut.fault }) (after m c.args.world.now.terms s) in
    rw c.finish.ensures (subst S (sym long) cycled.stands)

pub returns-clause-carried : goal.returns-clause-carried
returns-clause-carried g c s stands =
    let closed = c.in_ok-bound.ensures.closed in
    let cycled = closed-cycle g.M.Model.meaning c.args.setting.now.ahead c.args.world.now c.close_world.new.world c.in_ok-bound.bound closed c.end_world.ensures.laws (λ place x at. c.in_ok-records.ensures.known place x at)
    c.in_ok-cut.cut c.in_ok-cut.ensures c.end_world.new.world c.in_ok-records.records.items (λ place x at. c.in_ok-records.ensures.known_now place x at) c.in_ok-records.ensures.world c.in_ok-records.ensures.ended s stands in
    rw c.finish.ensures cycled.carried

pub returns-clause-work : goal.returns-clause-work
returns-clause-work g c =
    let closed = c.in_ok-bound.ensures.closed in
    rw c.finish.ensures
    (all-rise g.M.Model.meaning c.args.setting.now.ahead c.in_ok-bound.bound c.in_ok-cut.cut.below c.args.world.now.nodes closed.mids c.close_world.new.world.nodes c.end_world.new.world.nodes c.in_ok-records.records.items closed.run closed.works
    c.in_ok-records.ensures.ended)

pub returns-in_err-records-clause-made : goal.returns-in_err-records-clause-made
returns-in_err-records-clause-made g c = same-then c.args.world.now c.close_world.new.world c.end_world.new.world c.close_world.ensures.made c.end_world.ensures.made

pub returns-clause-made : goal.returns-clause-made
returns-clause-made g c =
    let done = c.finish.ensures in
    same-then c.args.world.now c.end_world.new.world _ (same-then c.args.world.now c.close_world.new.world c.end_world.new.world c.close_world.ensures.made c.end_world.ensures.made)
    (record { model = ap (λ w. w.model) done; terms = ap (λ w. w.terms) done; homes = ap (λ w. w.homes) done })

pub returns-clause-fault : goal.returns-clause-fault
returns-clause-fault g c = ap (λ w. w.fault) c.finish.ensures ∙ sym (ap (λ b. b.fault) c.bucket_of.ensures)

pub end_world-requires-clause-ready : goal.end_world-requires-clause-ready
end_world-requires-clause-ready g c lifetimes outlives =
    let ready = c.requires.ready in
    let many = ap (λ h. h.nodes) (sym c.close_world.ensures.made.homes) in
    record { wide = ready.wide ∙ many; rest = ready.rest; clear = subst (λ n. AreClear n c.args.kept.now.inboxes.items) many ready.clear }

pub returns-clause-ready : goal.returns-clause-ready
returns-clause-ready g c =
    let ready = c.in_ok-records.ensures.ready in
    let many = ap (λ h. h.nodes) c.close_world.ensures.made.homes in
    record { wide = ready.wide ∙ many; rest = ready.rest; clear = subst (λ n. AreClear n c.end_world.new.kept.inboxes.items) many ready.clear }
