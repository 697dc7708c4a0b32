use Rattle.std.proofs.Common.{◌≡◌, ◌^◌, length, get_or, set, sym, ap, ⊎_elim, ◌∙◌, arith}
use Rattle.std.specs.Prelude.{Some, slice_get}
use Rattle.std.proofs.lemmas.Bool.{cases_eq}
use Rattle.std.proofs.lemmas.List.{get_or-set_same, length-set}
use Rattle.std.proofs.lemmas.Option.{slice_get-get_or, slice_get_within, same_Some}
use Rattle.release_lanes.proofs.Rows.{slice_get_set_other}
use Rattle.parcel_exchange.specs.declared.inbox.Inbox.{Inbox}
use Rattle.parcel_exchange.proofs.Fetching.{few_like, arrived_like}
use Rattle.parcel_exchange.proofs.inbox.receive_all.Goals as goal

pub receive-requires-clause-few : goal.receive-requires-clause-few
receive-requires-clause-few g c κs within =
    let inv = c.loop-to.invariant in
    let to = c.loop-to.to in
    let n = length c.args.inboxes.now in
    let less = c.loop-to-test.true in
    let long = c.loop-to.auto.inboxes in
    let inbox = get_or c.loop-to.inboxes to c.index-inboxes-to.result in
    few_like n (g.L.Lanes.nodes c.loop-to.lanes) (λ from. g.L.Lanes.rest c.args.lanes.now from to) (λ from. g.L.Lanes.rest c.loop-to.lanes from to) inbox (2 ^ 60)
    (inv.nodes ∙ c.requires.nodes) (λ k low. inv.rests k to low (omega arith) less)
    (c.requires.few to inbox (sym (inv.left to (omega arith)) ∙ slice_get-get_or c.loop-to.inboxes to c.index-inboxes-to.result (omega arith)))

pub loop-to-preserved : goal.loop-to-preserved
loop-to-preserved g c =
    let inv = c.loop-to.invariant in
    let says = c.receive.ensures in
    let to = c.loop-to.to in
    let n = length c.args.inboxes.now in
    let less = c.loop-to-test.true in
    let long = c.loop-to.auto.inboxes in
    let many = inv.nodes ∙ c.requires.nodes in
    let inbox = get_or c.loop-to.inboxes to c.index-inboxes-to.result in
    let new = c.receive.new.self in
    let had = slice_get-get_or c.loop-to.inboxes to c.index-inboxes-to.result (omega arith) in
    let has : slice_get (set c.loop-to.inboxes to new) to ≡ Some new =
    slice_get-get_or (set c.loop-to.inboxes to new) to new (omega (arith, length-set {A = Inbox})) ∙ ap Some (get_or-set_same c.loop-to.inboxes to new new (omega arith)) in
    let once = arrived_like n (g.L.Lanes.nodes c.loop-to.lanes) (λ from. g.L.Lanes.rest c.args.lanes.now from to) (λ from. g.L.Lanes.rest c.loop-to.lanes from to) inbox new many
    (λ k low. inv.rests k to low (omega arith) less) says.arrived in record {
      back = says.back;
      nodes = says.nodes ∙ inv.nodes;
      none = λ i j low below.
          ⊎_elim
          (λ (here : j ≡ to). ap (λ k. g.L.Lanes.rest c.receive.new.lanes i k) here ∙ says.rest i (omega arith))
          (λ (there : j ≡ to → ⊥). says.others i j (omega arith) (omega arith) there ∙ inv.none i j low (omega arith))
          (cases_eq j to);
      rests = λ i j low above high. says.others i j (omega arith) (omega arith) (λ e. absurd (omega arith)) ∙ inv.rests i j low (omega arith) high;
      arrived = λ k x y below first second.
          ⊎_elim
          (λ (here : k ≡ to).
          let is_x : inbox ≡ x = same_Some inbox x (sym had ∙ inv.left to (omega arith) ∙ ap (slice_get c.args.inboxes.now) (sym here) ∙ first) in
          let is_y : new ≡ y = same_Some new y (sym has ∙ ap (slice_get (set c.loop-to.inboxes to new)) (sym here) ∙ second) in
          rw (here, ← is_x, ← is_y) once)
          (λ (there : k ≡ to → ⊥). inv.arrived k x y (omega arith) first (sym (slice_get_set_other c.loop-to.inboxes to k new there) ∙ second))
          (cases_eq k to);
      left = λ k above. slice_get_set_other c.loop-to.inboxes to k new (λ e. absurd (omega arith)) ∙ inv.left k (omega arith);
    }

pub returns-clause-arrived : goal.returns-clause-arrived
returns-clause-arrived g c = λ to x y first second.
    let within = slice_get_within c.args.inboxes.now to x first in
    let done = c.loop-to-test.false in
    c.loop-to.invariant.arrived to x y (omega arith) first second
