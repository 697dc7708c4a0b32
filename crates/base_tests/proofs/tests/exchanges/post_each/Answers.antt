use Rattle.std.proofs.Common.{◌≡◌, ℕ, [], length, set, sym, ap, subst, refl, ⊎_elim, ◌∙◌, arith}
use Rattle.std.specs.Prelude.{Some, slice_get}
use Rattle.std.proofs.lemmas.Bool.{cases_eq}
use Rattle.std.proofs.lemmas.List.{get_or-set_same, get_or-set_other, get_or_default, length-set}
use Rattle.std.proofs.lemmas.List.Elements.{All-set}
use Rattle.std.proofs.lemmas.Option.{slice_get-get_or, slice_get_within, get_or_from_slice_get, same_Some}
use Rattle.release_lanes.proofs.Numbers.{AllZip-first, AllZip-set, numbered_at}
use Rattle.release_lanes.proofs.Rows.{slice_get_set_other}
use Rattle.parcel_exchange.specs.declared.inbox.Inbox.{Inbox}
use Rattle.parcel_exchange.specs.Exchange.{HasExchanged}
use Rattle.base_tests.proofs.tests.exchanges.post_each.Goals as goal

pub loop-k-init : goal.loop-k-init
loop-k-init g c =
    let met = g.met.E.NodeEnd g.world.𝓛 g.world.𝓜 g.world.𝓡 ((λ s x. x), (λ x. x), (λ x. x), λ x. x) in record {
      same = AllZip-first g.E.NodeEnd.is_same met.same_first c.args.ends.now;
      ends_left = λ k d above. refl;
      outs_left = λ k d above. refl;
      inboxes_left = λ k d above. refl;
      arrived = c.requires.arrived;
      done = λ k out inbox x y less. absurd (omega arith);
    }

pub exchange-requires-clause-empty : goal.exchange-requires-clause-empty
exchange-requires-clause-empty g c κs within =
    let k = c.loop-k.k in
    let less = c.loop-k-test.true in
    ap (λ (inbox : Inbox). inbox.early.items) (c.loop-k.invariant.inboxes_left k c.index-inboxes-k.result (omega arith)) ∙ c.requires.early k c.index-inboxes-k.result less

pub exchange-requires-clause-number : goal.exchange-requires-clause-number
exchange-requires-clause-number g c κs within =
    let k = c.loop-k.k in
    ap g.E.NodeEnd.number (c.loop-k.invariant.ends_left k c.index-ends-k.result (omega arith))
    ∙ numbered_at g.E.NodeEnd.number c.args.ends.now (length c.args.inboxes.now) k c.index-ends-k.result c.requires.numbers c.loop-k-test.true

pub exchange-requires-clause-nodes : goal.exchange-requires-clause-nodes
exchange-requires-clause-nodes g c κs within =
    let k = c.loop-k.k in
    let less = c.loop-k-test.true in
    let count = c.requires.ends in
    let many = c.requires.many in
    ap g.E.NodeEnd.nodes (c.loop-k.invariant.ends_left k c.index-ends-k.result (omega arith)) ∙ c.requires.count k c.index-ends-k.result (omega arith)
    ∙ sym (ap length c.as_mut_slice.ensures.value ∙ ap (λ v. length v.items) (c.loop-k.invariant.outs_left k c.index-outs-k.result (omega arith)) ∙ c.requires.long k c.index-outs-k.result (omega arith))

pub exchange-requires-clause-few : goal.exchange-requires-clause-few
exchange-requires-clause-few g c κs within =
    let k = c.loop-k.k in
    let less = c.loop-k-test.true in
    let many = c.requires.many in
    let long = ap length c.as_mut_slice.ensures.value ∙ ap (λ v. length v.items) (c.loop-k.invariant.outs_left k c.index-outs-k.result (omega arith)) ∙ c.requires.long k c.index-outs-k.result (omega arith) in
    let small = c.requires.small in
    omega arith

pub exchange-requires-clause-free : goal.exchange-requires-clause-free
exchange-requires-clause-free g c κs within = λ to low.
    let k = c.loop-k.k in
    let less = c.loop-k-test.true in
    let count = c.requires.ends in
    let many = c.requires.many in
    let long = ap length c.as_mut_slice.ensures.value ∙ ap (λ v. length v.items) (c.loop-k.invariant.outs_left k c.index-outs-k.result (omega arith)) ∙ c.requires.long k c.index-outs-k.result (omega arith) in
    let P : g.row.E.Denot → Type 0 = λ end. g.E.NodeEnd.is_free end to in
    subst P (sym (c.loop-k.invariant.ends_left k c.index-ends-k.result (omega arith))) (c.requires.free k c.index-ends-k.result (omega arith) to (omega arith))

pub loop-k-preserved : goal.loop-k-preserved
loop-k-preserved g c =
    let inv = c.loop-k.invariant in
    let says = c.exchange.ensures in
    let k = c.loop-k.k in
    let n = length c.args.inboxes.now in
    let less = c.loop-k-test.true in
    let count = c.requires.ends in
    let many = c.requires.many in
    let ends_long = c.loop-k.auto.ends in
    let inboxes_long = c.loop-k.auto.inboxes in
    let outs_long = c.loop-k.auto.outs in
    let ends = c.loop-k.ends in
    let inboxes = c.loop-k.inboxes in
    let end = c.exchange.new.end in
    let inbox_new = c.exchange.new.self in
    let has_end : slice_get (set ends k end) k ≡ Some end = slice_get-get_or (set ends k end) k end (omega (arith, length-set ends k end)) ∙ ap Some (get_or-set_same ends k end end (omega arith)) in
    let has_inbox : slice_get (set inboxes k inbox_new) k ≡ Some inbox_new =
    slice_get-get_or (set inboxes k inbox_new) k inbox_new (omega (arith, length-set inboxes k inbox_new)) ∙ ap Some (get_or-set_same inboxes k inbox_new inbox_new (omega arith)) in
    let S : g.row.E.Denot → Type 0 = λ x. g.E.NodeEnd.is_same x end in record {
      same = AllZip-set g.E.NodeEnd.is_same c.args.ends.now ends k end inv.same
          (subst S (inv.ends_left k c.index-ends-k.result (omega arith) ∙ get_or_default c.args.ends.now k c.index-ends-k.result end (omega arith)) says.end);
      ends_left = λ j d above. get_or-set_other ends k j end d (λ e. absurd (omega arith)) ∙ inv.ends_left j d (omega arith);
      outs_left = λ j d above. get_or-set_other c.loop-k.outs k j _ d (λ e. absurd (omega arith)) ∙ inv.outs_left j d (omega arith);
      inboxes_left = λ j d above. get_or-set_other inboxes k j inbox_new d (λ e. absurd (omega arith)) ∙ inv.inboxes_left j d (omega arith);
      arrived = All-set (λ inbox. inbox.arrived ≡ []) inboxes k inbox_new (says.arrived ∙ inv.arrived k c.index-inboxes-k.result (omega arith)) inv.arrived;
      done = λ j out inbox x y below first second third fourth.
          ⊎_elim
          (λ (here : j ≡ k).
          let out_is = c.as_mut_slice.ensures.value
          ∙ ap (λ v. v.items) (inv.outs_left k c.index-outs-k.result (omega arith) ∙ get_or_from_slice_get c.args.outs.now k out c.index-outs-k.result (ap (slice_get c.args.outs.now) (sym here) ∙ first)) in
          let long = ap length out_is ∙ sym (ap (λ v. length v.items) (get_or_from_slice_get c.args.outs.now k out out (ap (slice_get c.args.outs.now) (sym here) ∙ first))) ∙ c.requires.long k out (omega arith) in
          let inbox_is : inbox_new ≡ inbox = same_Some inbox_new inbox (sym has_inbox ∙ ap (slice_get (set inboxes k inbox_new)) (sym here) ∙ second) in
          let x_is = inv.ends_left k c.index-ends-k.result (omega arith) ∙ get_or_from_slice_get c.args.ends.now k x c.index-ends-k.result (ap (slice_get c.args.ends.now) (sym here) ∙ third) in
          let y_is : end ≡ y = same_Some end y (sym has_end ∙ ap (slice_get (set ends k end)) (sym here) ∙ fourth) in
          rw (here, ← long, ← out_is, ← inbox_is, ← x_is, ← y_is) says.exchanged)
          (λ (there : j ≡ k → ⊥).
          inv.done j out inbox x y (omega arith) first (sym (slice_get_set_other inboxes k j inbox_new there) ∙ second) third (sym (slice_get_set_other ends k j end there) ∙ fourth))
          (cases_eq j k);
    }

pub returns-clause-exchanged : goal.returns-clause-exchanged
returns-clause-exchanged g c =
    let same = c.loop-k.auto.inboxes in record {
      many = c.requires.many ∙ sym same;
      each = λ k out inbox x y first second third fourth.
          let within = slice_get_within c.loop-k.inboxes k inbox second in
          let done = c.loop-k-test.false in
          let N : ℕ → Type 0 = λ n. HasExchanged g.E.NodeEnd.sent g.E.NodeEnd.received n k out.items inbox.early.items x y in
          subst N (sym same) (c.loop-k.invariant.done k out inbox x y (omega arith) first second third fourth);
    }
