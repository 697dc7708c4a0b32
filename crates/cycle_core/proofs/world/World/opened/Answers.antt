-- The nodes receive what is pending, and make a world.
use Rattle.std.proofs.Common.{◌≡◌, ◌∙◌, List, [], length, sym, ap, subst}
use Rattle.std.specs.Prelude.{None}
use Rattle.std.proofs.lemmas.List.{with_items_is}
use Rattle.sim_spec.specs.Standing.{stands}
use Rattle.node_core.specs.Nodes.{NodeView}
use Rattle.cycle_core.specs.Ends.{AllCanReceive, ReceiveUpto}
use Rattle.cycle_core.specs.Places.{AtEach}
use Rattle.cycle_core.specs.Standings.{WorldStandsAt}
use Rattle.cycle_core.specs.Starts.{world_with}
use Rattle.cycle_core.proofs.StartLemmas.{can-start, start-processed, start-standing}
use Rattle.cycle_core.proofs.world.World.opened.Goals as goal

pub receive_all-requires-clause-can : goal.receive_all-requires-clause-can
receive_all-requires-clause-can g c lifetimes outlives =
    let of = g.M.Model.meaning in
    let w = world_with c.args.basis.model.value c.args.basis.terms c.args.basis.homes.value c.args.nodes.items c.args.count in
    let can = can-start of w c.args.parcels.items c.requires.0 c.requires.1 in
    let slices = subst (λ ns. AllCanReceive of c.args.parcels.items ns) (sym c.as_mut_slice.ensures.value) (λ number n es at at_es. can number n es at at_es) in
    subst (λ ps. AllCanReceive of ps c.as_mut_slice.result.now) (sym c.as_mut_slice-2.ensures.value) slices

pub receive_all-requires-clause-many : goal.receive_all-requires-clause-many
receive_all-requires-clause-many g c lifetimes outlives =
    ap length c.as_mut_slice-2.ensures.value ∙ c.requires.1.parts.many ∙ sym c.requires.1.nodes.many ∙ sym (ap length c.as_mut_slice.ensures.value)

pub returns-clause-stands : goal.returns-clause-stands
returns-clause-stands g c s can =
    let of = g.M.Model.meaning in
    let now = c.receive_all.new.nodes in
    let w = world_with c.args.basis.model.value c.args.basis.terms c.args.basis.homes.value c.args.nodes.items c.args.count in
    let got = subst (λ ns. ReceiveUpto of (length ns) c.as_mut_slice-2.result.now ns now) c.as_mut_slice.ensures.value c.in_ok-receive_all.ensures.received in
    let receives = subst (λ ps. ReceiveUpto of (length w.nodes) ps w.nodes now) c.as_mut_slice-2.ensures.value got in
    let P : List (NodeView _) → Type 0 = λ ns. WorldStandsAt of (record w { nodes = ns }) (stands s None) in
    subst P (sym (with_items_is c.args.nodes now (receives.many ∙ sym c.args.nodes.ok.0)))
    (start-standing of w c.args.parcels.items s can now receives)

pub returns-clause-new : goal.returns-clause-new
returns-clause-new g c =
    let of = g.M.Model.meaning in
    let now = c.receive_all.new.nodes in
    let w = world_with c.args.basis.model.value c.args.basis.terms c.args.basis.homes.value c.args.nodes.items c.args.count in
    let got = subst (λ ns. ReceiveUpto of (length ns) c.as_mut_slice-2.result.now ns now) c.as_mut_slice.ensures.value c.in_ok-receive_all.ensures.received in
    let receives = subst (λ ps. ReceiveUpto of (length w.nodes) ps w.nodes now) c.as_mut_slice-2.ensures.value got in
    subst (AtEach (λ number n. n.processed ≡ [])) (sym (with_items_is c.args.nodes now (receives.many ∙ sym c.args.nodes.ok.0)))
    (λ number n at. start-processed of w c.args.parcels.items c.requires.0 c.requires.1 now receives number n at)
