-- One more stands in front.
use Rattle.std.proofs.Common.{◌≡◌, ◌-◌, List, [], ◌∷◌, ◌++◌, length, get_or, refl, ap, ◌∙◌, subst, arith, length-append}
use Rattle.event_log.specs.Items.{Item}
use Rattle.event_log.specs.Moves.{place_after}
use Rattle.event_log.proofs.PartFacts.{none-settled, settled-all, settled-more}
use Rattle.event_log.proofs.TurnLemmas.{last-read}
use Rattle.event_log.proofs.parting.settle.Goals as goal

pub loop-settled-init : goal.loop-settled-init
loop-settled-init c = record { settled = none-settled c.args.from c.args.to c.args.items.now.items; long = refl; capacity = refl }

pub turn_last-requires : goal.turn_last-requires
turn_last-requires c =
    let same = c.loop-settled.invariant.long in
    let counted = c.len-len.ensures in
    omega arith

pub at-requires : goal.at-requires
at-requires c =
    let same = c.loop-settled.invariant.long in
    let counted = c.len-len.ensures in
    omega arith

pub loop-settled-preserved : goal.loop-settled-preserved
loop-settled-preserved c =
    let l = c.loop-settled in
    let all = c.args.items.now.items in
    let h = c.turn_last.ensures.items in
    let x : Item = h.last in
    let xs = h.front in
    let a = c.at.ensures in
    let popped : l.items.items ≡ xs ++ x ∷ [] = h.old_is in
    let long = ap length popped in
    let parts = length-append xs (x ∷ []) in
    let more = ap length h.new_is in
    let same = l.invariant.long in
    let counted = c.len-len.ensures in
    let R : List Item → Type 0 = λ es. a.0 ≡ get_or es (c.len-len.result - 1) a.0 in
    let seen : a.0 ≡ x = last-read xs x a.0 (c.len-len.result - 1) (omega arith) (subst R popped a.1) in
    let is = h.put_is ∙ ap (λ at. record { done = x.done; place = at }) (c.place_after-place.ensures ∙ ap (place_after c.args.from c.args.to) (a.2.place_is ∙ ap (λ (i : Item). i.place) seen)) in
    record {
      settled = settled-more c.args.from c.args.to l.settled all l.items.items l.invariant.settled xs c.turn_last.new.items.items x h.put (omega arith) popped h.new_is is h.held;
      long = omega arith;
      capacity = c.turn_last.ensures.capacity ∙ l.invariant.capacity;
    }

pub returns-clause-items : goal.returns-clause-items
returns-clause-items c =
    let l = c.loop-settled in
    (settled-all c.args.from c.args.to l.settled c.args.items.now.items l.items.items l.invariant.settled (omega arith)).0

pub returns-clause-held : goal.returns-clause-held
returns-clause-held c =
    let l = c.loop-settled in
    (settled-all c.args.from c.args.to l.settled c.args.items.now.items l.items.items l.invariant.settled (omega arith)).1
