-- One more has left, or has come behind the others.
use Rattle.std.proofs.Common.{◌≡◌, ◌+◌, ◌<◌, true, false, subst, List, [], ◌∷◌, ◌++◌, length, take, drop, refl, sym, ap, ◌∙◌, arith, length-append}
use Rattle.event_key.specs.declared.key.Key.{Key}
use Rattle.object_log.specs.EventLogs.{is_of}
use Rattle.object_log.specs.Dones.{Done}
use Rattle.object_log.proofs.CarriedLemmas.{same-read}
use Rattle.object_log.proofs.OwnLemmas.{is_here, is_there}
use Rattle.event_log.specs.Items.{Item}
use Rattle.event_log.proofs.PartFacts.{IsParted, none-parted, parted-items, parted-other, parted-own}
use Rattle.event_log.proofs.SlotLemmas.{split-entry}
use Rattle.event_log.proofs.parting.part.Goals.{then-at-object, else-at-object}
use Rattle.event_log.proofs.parting.part.Goals as goal

pub loop-init : goal.loop-init
loop-init c = record {
  parted = none-parted c.args.object c.args.items.now.items c.args.own.now.items c.requires.empty;
  long = (let none = ap length c.requires.empty in omega arith);
  few = (let none = ap length c.requires.empty in omega arith);
  capacity = refl;
  own_capacity = refl;
}

pub loop-preserved : goal.loop-preserved
loop-preserved c =
    let l = c.loop in
    let all = c.args.items.now.items in
    let es = l.items.items in
    let a = c.at.ensures in
    let x : Item = a.0 in
    let rest = drop 1 es in
    let long = l.invariant.long in
    let few = l.invariant.few in
    let more : l.counter < length all = omega (arith, c.len-end.ensures, c.loop-test.true) in
    let some : 0 < length es = omega arith in
    let first : es ≡ x ∷ rest = split-entry 0 es x some a.1 in
    let shorter = ap length first in
    elim c.if-at-object.branch [
      | then-at-object w ↦
          (let dest : c.at.result.key.dest ≡ c.args.object = w.if-at-object.true in
          let here : is_of c.args.object x.done ≡ true = is_here x.done c.args.object (ap (λ (k : Key). k.dest) (sym a.2.key_is) ∙ dest) in
          let v = w.take_out.ensures.value in
          let items_now : c.if-at-object.items.items ≡ rest = (λ i. (w.items-is i).items) ∙ w.take_out.ensures.items in
          let own_same : c.if-at-object.own.items ≡ w.push_back.new.self.items = (λ i. (w.own-is i).items) in
          let own_now = own_same ∙ w.push_back.ensures.items in
          let one = ap length items_now in
          let two = ap length own_now in
          let parts = length-append l.own.items ((record { done = w.take_out.result; place = 0; held = 0 }) ∷ []) in
          let taken : w.take_out.result ≡ x.done = v.2 ∙ ap (λ (i : Item). i.done) (same-read es 0 v.0 x some v.1 a.1) in
          let P : List Item → Type 0 = λ is. IsParted c.args.object (l.counter + 1) all is c.if-at-object.own.items in
          record {
            parted = subst P (sym items_now) (parted-own c.args.object l.counter all es l.own.items x rest l.invariant.parted more first _ c.if-at-object.own.items here own_now (ap (λ (d : Done). record { done = d; place = 0 }) taken));
            long = omega arith;
            few = omega arith;
            capacity = (λ i. (w.items-is i).capacity) ∙ w.take_out.ensures.capacity ∙ l.invariant.capacity;
            own_capacity = (λ i. (w.own-is i).capacity) ∙ w.push_back.ensures.capacity ∙ l.invariant.own_capacity;
          })
      | else-at-object w ↦
          (let there : is_of c.args.object x.done ≡ false = is_there x.done c.args.object (λ same. let dest : c.at.result.key.dest ≡ c.args.object = ap (λ (k : Key). k.dest) a.2.key_is ∙ same in absurd (omega (arith, w.if-at-object.false))) in
          let items_now : c.if-at-object.items.items ≡ rest ++ x ∷ [] = (λ i. (w.items-is i).items) ∙ w.rotate_left.ensures.items ∙ ap (λ (is : List Item). rest ++ take 1 is) first in
          let own_now : c.if-at-object.own.items ≡ l.own.items = (λ i. (w.own-is i).items) in
          let one = ap length items_now in
          let two = ap length own_now in
          let parts = length-append rest (x ∷ []) in
          let P : List Item → Type 0 = λ is. IsParted c.args.object (l.counter + 1) all c.if-at-object.items.items is in
          record {
            parted = subst P (sym own_now) (parted-other c.args.object l.counter all es l.own.items x rest l.invariant.parted more first c.if-at-object.items.items there items_now);
            long = omega arith;
            few = omega arith;
            capacity = (λ i. (w.items-is i).capacity) ∙ w.rotate_left.ensures.capacity ∙ l.invariant.capacity;
            own_capacity = (λ i. (w.own-is i).capacity) ∙ l.invariant.own_capacity;
          })
    ]

pub returns-clause-items : goal.returns-clause-items
returns-clause-items c =
    let l = c.loop in
    parted-items c.args.object l.counter c.args.items.now.items l.items.items l.own.items l.invariant.parted (omega (arith, c.len-end.ensures))
