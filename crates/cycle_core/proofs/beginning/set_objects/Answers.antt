-- Object by object, from the last one on, its state is put in at its home.
use Rattle.std.proofs.Common.{◌≡◌, ◌∙◌, ◌-◌, ◌∷◌, ◌++◌, [], length, ap, sym, subst, arith}
use Rattle.std.proofs.lemmas.List.{length-append}
use Rattle.std.proofs.lemmas.Option.{slice_get-get_or}
use Rattle.cycle_core.specs.Starts.{HaveStatesFrom}
use Rattle.sim_spec.specs.Firing.{ObjectState}
use Rattle.cycle_core.proofs.SettingLemmas.{next-here, next-lawful, next-none, next-of, next-set, split-more}
use Rattle.cycle_core.proofs.beginning.set_objects.Goals as goal

pub set_object-requires-clause-here : goal.set_object-requires-clause-here
set_object-requires-clause-here g c lifetimes outlives =
    let of = g.M.Model.meaning in
    let model = c.requires.0 in
    let terms = c.requires.1 in
    let can = c.requires.2 in
    let rest = c.loop-state.invariant.rest in
    let state : ObjectState = record { cells = c.state.inside.cells.contents; sent = c.state.inside.sent } in
    let pops = c.in-Some.ensures.items ∙ ap (λ o. c.pop.new.self.items ++ o ∷ []) (sym c.state.view_is) in
    let so_far = c.loop-state.invariant.set model terms can in
    let many = so_far.many in
    let at = slice_get-get_or c.loop-state.nodes c.home-home.result c.index-nodes-home.result (let lt = c.home-home.ensures.node in omega arith) in
    let next = next-of of model terms c.args.homes.now c.args.objects.items c.loop-state.objects.items c.pop.new.self.items rest.0 state c.args.nodes.now c.loop-state.nodes c.loop-state.object c.home-home.result _
    rest.1 pops can c.loop-state.invariant.left so_far at c.home-home.ensures.home in
    next-here of model terms c.args.homes.now c.args.objects.items c.loop-state.nodes (c.loop-state.object - 1) c.home-home.result state _ next

pub set_object-requires-clause-none : goal.set_object-requires-clause-none
set_object-requires-clause-none g c lifetimes outlives =
    let of = g.M.Model.meaning in
    let model = c.requires.0 in
    let terms = c.requires.1 in
    let can = c.requires.2 in
    let rest = c.loop-state.invariant.rest in
    let state : ObjectState = record { cells = c.state.inside.cells.contents; sent = c.state.inside.sent } in
    let pops = c.in-Some.ensures.items ∙ ap (λ o. c.pop.new.self.items ++ o ∷ []) (sym c.state.view_is) in
    let so_far = c.loop-state.invariant.set model terms can in
    let many = so_far.many in
    let at = slice_get-get_or c.loop-state.nodes c.home-home.result c.index-nodes-home.result (let lt = c.home-home.ensures.node in omega arith) in
    let next = next-of of model terms c.args.homes.now c.args.objects.items c.loop-state.objects.items c.pop.new.self.items rest.0 state c.args.nodes.now c.loop-state.nodes c.loop-state.object c.home-home.result _
    rest.1 pops can c.loop-state.invariant.left so_far at c.home-home.ensures.home in
    next-none of model terms c.args.homes.now c.args.objects.items c.loop-state.nodes (c.loop-state.object - 1) c.home-home.result state _ next

pub set_object-requires-clause-lawful : goal.set_object-requires-clause-lawful
set_object-requires-clause-lawful g c lifetimes outlives =
    let of = g.M.Model.meaning in
    let model = c.requires.0 in
    let terms = c.requires.1 in
    let can = c.requires.2 in
    let rest = c.loop-state.invariant.rest in
    let state : ObjectState = record { cells = c.state.inside.cells.contents; sent = c.state.inside.sent } in
    let pops = c.in-Some.ensures.items ∙ ap (λ o. c.pop.new.self.items ++ o ∷ []) (sym c.state.view_is) in
    let so_far = c.loop-state.invariant.set model terms can in
    let many = so_far.many in
    let at = slice_get-get_or c.loop-state.nodes c.home-home.result c.index-nodes-home.result (let lt = c.home-home.ensures.node in omega arith) in
    let next = next-of of model terms c.args.homes.now c.args.objects.items c.loop-state.objects.items c.pop.new.self.items rest.0 state c.args.nodes.now c.loop-state.nodes c.loop-state.object c.home-home.result _
    rest.1 pops can c.loop-state.invariant.left so_far at c.home-home.ensures.home in
    next-lawful of model terms c.args.homes.now c.args.objects.items c.loop-state.nodes (c.loop-state.object - 1) c.home-home.result state _ next can.cells

pub loop-state-preserved : goal.loop-state-preserved
loop-state-preserved g c =
    let rest = c.loop-state.invariant.rest in
    let state : ObjectState = record { cells = c.state.inside.cells.contents; sent = c.state.inside.sent } in
    let pops = c.in-Some.ensures.items ∙ ap (λ o. c.pop.new.self.items ++ o ∷ []) (sym c.state.view_is) in
    record {
      set = λ model terms can.
          let of = g.M.Model.meaning in
          let so_far = c.loop-state.invariant.set model terms can in
          let many = so_far.many in
          let at = slice_get-get_or c.loop-state.nodes c.home-home.result c.index-nodes-home.result (let lt = c.home-home.ensures.node in omega arith) in
          let next = next-of of model terms c.args.homes.now c.args.objects.items c.loop-state.objects.items c.pop.new.self.items rest.0 state c.args.nodes.now c.loop-state.nodes c.loop-state.object c.home-home.result _
          rest.1 pops can c.loop-state.invariant.left so_far at c.home-home.ensures.home in
          next-set of model terms c.args.homes.now c.args.objects.items c.loop-state.nodes (c.loop-state.object - 1) c.home-home.result state _ next c.set_object.new.self c.set_object.ensures;
      left = (let counted = c.loop-state.invariant.left in let long = ap length c.in-Some.ensures.items ∙ length-append c.pop.new.self.items (c.in-Some.state ∷ []) in omega arith);
      rest = (state ∷ rest.0, split-more c.args.objects.items c.loop-state.objects.items c.pop.new.self.items rest.0 state rest.1 pops);
    }

pub returns : goal.returns
returns g c model terms can =
    let left = c.loop-state.invariant.left in
    let empty = c.in_default.ensures.cases.0 in
    let long = c.loop-state.objects.ok.0 in
    let none : c.loop-state.object ≡ 0 = omega arith in
    subst (λ k. HaveStatesFrom (g.M.Model.meaning) model terms c.args.homes.now k c.args.objects.items c.loop-state.nodes) none (c.loop-state.invariant.set model terms can)
