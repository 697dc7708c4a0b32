-- New nodes, which are given the objects of a state.
use Rattle.std.proofs.Common.{◌≡◌, ◌∙◌, ◌<◌, List, length, refl, sym, ap, subst, arith}
use Rattle.std.specs.List.{AllByRecursion as Each}
use Rattle.std.proofs.lemmas.List.{with_items_is}
use Rattle.model_core.specs.declared.event.Event.{Event}
use Rattle.key_order.proofs.EachLemmas.{Each-map}
use Rattle.sim_spec.specs.State.{Lawful, State}
use Rattle.sim_spec.proofs.PartLemmas.{AllSound-dest}
use Rattle.node_core.specs.Nodes.{NodeView}
use Rattle.cycle_core.specs.Starts.{ArePartsOf, CanBegin, CanSet, HaveStatesFrom, world_with}
use Rattle.cycle_core.proofs.SettingLemmas.{begins-at, can-set}
use Rattle.cycle_core.proofs.beginning.nodes_of_state.Goals as goal

pub parcels_of-requires-clause-homes : goal.parcels_of-requires-clause-homes
parcels_of-requires-clause-homes g c =
    let of = g.M.Model.meaning in
    let model = c.args.model.now.value in
    let s : State = record { objects = c.state.inside.objects.items; pending = c.state.inside.pending.items; count = c.state.inside.count } in
    let lawful = subst (λ v. Lawful (of model) c.args.terms v) (sym c.state.view_is) c.requires.lawful in
    let long : length c.deref.result.now.homes ≡ (of model).objects = ap (λ h. length h.homes) c.deref.ensures ∙ c.requires.placed.objects in
    subst (Each (λ (e : Event). e.key.dest < length c.deref.result.now.homes)) (sym c.as_slice.ensures.value)
    (Each-map (λ (e : Event). e.key.dest < (of model).objects) (λ (e : Event). e.key.dest < length c.deref.result.now.homes) s.pending (λ e low. omega arith)
    (AllSound-dest (of model) s.objects s.pending lawful.sound))

pub set_objects-requires-after_bounds : goal.set_objects-requires-after_bounds
set_objects-requires-after_bounds g c lifetimes outlives =
    let of = g.M.Model.meaning in
    let model = c.args.model.now.value in
    let homes = c.args.homes.now.value in
    let s : State = record { objects = c.state.inside.objects.items; pending = c.state.inside.pending.items; count = c.state.inside.count } in
    let lawful = subst (λ v. Lawful (of model) c.args.terms v) (sym c.state.view_is) c.requires.lawful in
    let set = can-set of model c.args.terms homes s.objects c.in_ok-nodes.nodes.items c.in_ok-nodes.ensures c.requires.placed s lawful refl in
    let there = subst (λ h. CanSet of model c.args.terms h s.objects c.in_ok-nodes.nodes.items) (sym c.deref-2.ensures) set in
    (model, c.args.terms, subst (λ ns. CanSet of model c.args.terms c.deref-2.result.now s.objects ns) (sym c.as_mut_slice.ensures.value) there)

pub returns : goal.returns
returns g c =
    let of = g.M.Model.meaning in
    let model = c.args.model.now.value in
    let homes = c.args.homes.now.value in
    let s : State = record { objects = c.state.inside.objects.items; pending = c.state.inside.pending.items; count = c.state.inside.count } in
    let lawful = subst (λ v. Lawful (of model) c.args.terms v) (sym c.state.view_is) c.requires.lawful in
    let set = can-set of model c.args.terms homes s.objects c.in_ok-nodes.nodes.items c.in_ok-nodes.ensures c.requires.placed s lawful refl in
    let there = subst (λ h. CanSet of model c.args.terms h s.objects c.in_ok-nodes.nodes.items) (sym c.deref-2.ensures) set in
    let can = subst (λ ns. CanSet of model c.args.terms c.deref-2.result.now s.objects ns) (sym c.as_mut_slice.ensures.value) there in
    let now = c.set_objects.new.nodes in
    let states = subst (λ h. HaveStatesFrom of model c.args.terms h 0 s.objects now) c.deref-2.ensures (c.set_objects.ensures model c.args.terms can) in
    let over = with_items_is c.in_ok-nodes.nodes now (states.many ∙ sym c.in_ok-nodes.ensures.many ∙ sym c.in_ok-nodes.nodes.ok.0) in
    let homed = subst (λ h. ArePartsOf h c.as_slice.result.now c.in_ok-parcels.parcels.items) c.deref.ensures c.in_ok-parcels.ensures in
    let parts = subst (λ es. ArePartsOf homes es c.in_ok-parcels.parcels.items) c.as_slice.ensures.value homed in
    let B : List (NodeView _) → State → Type 0 = λ ns v. CanBegin of (world_with model c.args.terms homes ns v.count) c.in_ok-parcels.parcels.items v in
    let begins : B now s = begins-at of model c.args.terms homes c.requires.placed now c.in_ok-parcels.parcels.items s lawful states parts in
    subst (λ ns. B ns c.args.state) (sym over) (subst (B now) c.state.view_is begins)
