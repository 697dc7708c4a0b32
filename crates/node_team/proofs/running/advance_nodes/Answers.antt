use Rattle.std.proofs.Common.{◌≡◌, ◌≤◌, sym, ap, ◌∙◌, subst, length, map}
use Rattle.std.specs.Prelude.{IfOk, OnOk}
use Rattle.std.proofs.lemmas.Slice.Zip.{AllZip-long}
use Rattle.std.proofs.lemmas.List.{with_items_is}
use Rattle.node_team.specs.Forks.{AllHaveRun, CanAllRun}
use Rattle.node_team.specs.Turns.{node_in, AllAnswered, AllCanGo, HasGone}
use Rattle.node_team.proofs.SeatingLemmas.{all-can-go, unseated-run}
use Rattle.node_team.proofs.running.advance_nodes.Goals as goal

pub advance_all-requires-clause-can : goal.advance_all-requires-clause-can
advance_all-requires-clause-can g c lifetimes outlives =
    let can = c.requires.can in
    subst (AllCanGo (g.M.Model.meaning) c.args.word.now) (sym c.as_mut_slice-in-InParts.ensures.value)
    (all-can-go (g.M.Model.meaning) c.args.word.now c.args.nodes.items c.args.seats.now.items c.in_ok-all-in-InParts.all.items can c.in_ok-all-in-InParts.ensures.nodes (c.in_ok-all-in-InParts.ensures.seats can.seat can.alike))

pub returns-in_ok-all-in-InParts : goal.returns-in_ok-all-in-InParts
returns-in_ok-all-in-InParts g c =
    let new = c.advance_all.new.all in
    let gone = c.advance_all.ensures in
    let all = c.in_ok-all-in-InParts.all in
    let slice = c.as_mut_slice-in-InParts in
    let are : map node_in slice.result.now ≡ c.args.nodes.items = ap (map node_in) slice.ensures.value ∙ c.in_ok-all-in-InParts.ensures.nodes in
    let over = with_items_is all new (AllZip-long (HasGone (g.M.Model.meaning) c.args.word.now c.args.setting.now.ahead) slice.result.now new gone ∙ ap length slice.ensures.value ∙ sym all.ok.0) in
    unseated-run (g.M.Model.meaning) c.args.word.now c.args.setting.now.ahead c.args.nodes.items slice.result.now new c.unseat_all.result are gone
    (subst (λ ns. IfOk c.unseat_all.result (λ now. now.items ≡ map node_in ns)) over c.unseat_all.ensures.nodes)
    (subst (λ ns. OnOk c.unseat_all.result (AllAnswered ns)) over c.unseat_all.ensures.answers)

pub advance_by-requires-clause-can : goal.advance_by-requires-clause-can
advance_by-requires-clause-can g c lifetimes outlives =
    let can = c.requires.can in
    let all = c.in_ok-all-in-Stolen in
    all-can-go (g.M.Model.meaning) c.args.word.now c.args.nodes.items c.args.seats.now.items all.all.items can all.ensures.nodes (all.ensures.seats can.seat can.alike)

pub returns-in_ok-all-in-Stolen-2 : goal.returns-in_ok-all-in-Stolen-2
returns-in_ok-all-in-Stolen-2 g c =
    let before = c.in_ok-all-in-Stolen in
    let after = c.in_ok-all-in-Stolen-2 in
    unseated-run (g.M.Model.meaning) c.args.word.now c.args.setting.now.ahead c.args.nodes.items before.all.items after.all.items c.unseat_all-in-Stolen.result before.ensures.nodes after.ensures c.unseat_all-in-Stolen.ensures.nodes
    c.unseat_all-in-Stolen.ensures.answers

pub advance_in_turn-requires-clause-many : goal.advance_in_turn-requires-clause-many
advance_in_turn-requires-clause-many g c lifetimes outlives =
    subst (λ ns. length ns ≤ length c.args.seats.now.items) (sym c.as_mut_slice.ensures.value) c.requires.many

pub advance_in_turn-requires-clause-can : goal.advance_in_turn-requires-clause-can
advance_in_turn-requires-clause-can g c lifetimes outlives =
    subst (λ ns. CanAllRun g.M.Model.meaning c.args.word.now ns c.args.seats.now.items) (sym c.as_mut_slice.ensures.value) c.requires.can

pub returns-in_ok-advance_in_turn-in-InTurn : goal.returns-in_ok-advance_in_turn-in-InTurn
returns-in_ok-advance_in_turn-in-InTurn g c =
    let new = c.advance_in_turn.new.nodes in
    let slice = c.as_mut_slice.ensures.value in
    let over = with_items_is c.args.nodes new (c.advance_in_turn.auto.nodes ∙ ap length slice ∙ sym c.args.nodes.ok.0) in
    subst (λ ns. AllHaveRun g.M.Model.meaning c.args.setting.now.ahead c.args.nodes.items ns) (sym over)
    (subst (λ ns. AllHaveRun g.M.Model.meaning c.args.setting.now.ahead ns new) slice c.in_ok-advance_in_turn-in-InTurn.ensures)
