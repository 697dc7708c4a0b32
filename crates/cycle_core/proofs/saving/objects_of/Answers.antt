-- Object by object its state is read at its home.
use Rattle.std.proofs.Common.{◌∙◌, arith, length, refl, sym, ap, ◌≡◌, subst}
use Rattle.std.specs.Prelude.{slice_get}
use Rattle.std.proofs.lemmas.Option.{slice_get_read}
use Rattle.sim_spec.specs.Firing.{ObjectState}
use Rattle.cycle_core.proofs.SettingLemmas.{home-of-node}
use Rattle.cycle_core.proofs.SnapshotLemmas.{home-inside, states-more}
use Rattle.cycle_core.specs.Snapshots.{AreStatesOf}
use Rattle.cycle_core.proofs.saving.objects_of.Goals as goal

pub home-home-requires : goal.home-home-requires
home-home-requires g c = let count = c.objects-count.ensures in home-inside c.args.homes.now c.loop-object.object (c.requires.homes c.loop-object.object (omega arith))

pub cells-requires-after_bounds : goal.cells-requires-after_bounds
cells-requires-after_bounds g c lifetimes outlives =
    let many = c.requires.nodes.1.many in
    let count = c.objects-count.ensures in
    let at = slice_get_read c.args.nodes.now (length c.args.nodes.now) c.home-home.result c.index-nodes-home.result refl (let lt = c.home-home.ensures.node in omega arith) c.index-nodes-home.is in
    home-of-node (g.M.Model.meaning) c.args.model.now c.requires.nodes.0 c.args.homes.now c.home-home.result c.index-nodes-home.result (c.requires.nodes.1.each c.home-home.result c.index-nodes-home.result at)
    c.loop-object.object (omega arith) c.home-home.ensures.home

pub sent-requires-after_bounds : goal.sent-requires-after_bounds
sent-requires-after_bounds g c lifetimes outlives =
    let many = c.requires.nodes.1.many in
    let count = c.objects-count.ensures in
    let at = slice_get_read c.args.nodes.now (length c.args.nodes.now) c.home-home.result c.index-nodes-home.result refl (let lt = c.home-home.ensures.node in omega arith) c.index-nodes-home.is in
    home-of-node (g.M.Model.meaning) c.args.model.now c.requires.nodes.0 c.args.homes.now c.home-home.result c.index-nodes-home.result (c.requires.nodes.1.each c.home-home.result c.index-nodes-home.result at)
    c.loop-object.object (omega arith) c.home-home.ensures.home

pub loop-object-preserved : goal.loop-object-preserved
loop-object-preserved g c =
    let many = c.requires.nodes.1.many in
    let at = slice_get_read c.args.nodes.now (length c.args.nodes.now) c.home-home.result c.index-nodes-home.result refl (let lt = c.home-home.ensures.node in omega arith) c.index-nodes-home.is in
    let state : ObjectState = record { cells = c.in_ok-cells.cells.contents; sent = c.sent.result } in
    states-more c.args.homes.now c.args.nodes.now c.loop-object.object c.loop-object.objects.items c.push.new.self.items state c.index-nodes-home.result c.loop-object.invariant
    (ap (slice_get c.args.nodes.now) (sym c.home-home.ensures.home) ∙ at)
    (λ i. record { cells = (c.in_ok-cells.ensures.contents ∙ c.cells.ensures) i; sent = c.sent.ensures i })
    c.in_ok-push.ensures.items

pub returns : goal.returns
returns g c =
    let m = g.M.Model.meaning c.args.model.now in
    let count = c.objects-count.ensures in
    let all : c.loop-object.object ≡ m.objects = omega arith in
    subst (λ n. AreStatesOf c.args.homes.now c.args.nodes.now n c.loop-object.objects.items) all c.loop-object.invariant
