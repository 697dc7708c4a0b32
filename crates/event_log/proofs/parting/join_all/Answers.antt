-- The last of the others goes over.
use Rattle.std.proofs.Common.{◌≡◌, List, [], ◌∷◌, ◌++◌, length, refl, sym, ap, ◌∙◌, subst, arith, length-append, append_assoc}
use Rattle.std.proofs.lemmas.List.{append-nil}
use Rattle.event_key.specs.Keys.{key_lt}
use Rattle.key_order.specs.Ascending.{Ascends}
use Rattle.key_order.specs.Keys.{times}
use Rattle.object_log.specs.Carrying.{placed_key}
use Rattle.object_log.specs.Dones.{Done}
use Rattle.object_log.specs.Weave.{insert, weave}
use Rattle.event_log.specs.Items.{Item, item_key, placed}
use Rattle.event_log.specs.Turning.{AreAfter, turned_back}
use Rattle.event_log.proofs.PartFacts.{before-end, joined-start, joins-end, joins-fresh, joins-same}
use Rattle.event_log.proofs.parting.join_all.Goals as goal

pub loop-done-init : goal.loop-done-init
loop-done-init c = record {
  turned = c.requires.turned;
  same = refl;
  after = λ es e is. tt;
  gone = ([], sym (append-nil c.args.others.now.items));
  room = c.requires.room;
  capacity = refl;
}

pub join-turned-requires-clause-after : goal.join-turned-requires-clause-after
join-turned-requires-clause-after c =
    let s = c.in-Some.ensures.some in
    let A : Done → Type 0 = λ d. AreAfter d.event.key c.loop-done.turned c.loop-done.items.items in
    subst A (sym s.2) (c.loop-done.invariant.after c.pop_back.new.self.items s.0 s.1)

pub join-turned-requires-clause-room : goal.join-turned-requires-clause-room
join-turned-requires-clause-room c =
    let s = c.in-Some.ensures.some in
    let long = ap length s.1 in
    let parts = length-append c.pop_back.new.self.items (s.0 ∷ []) in
    let room = c.loop-done.invariant.room in
    omega arith

pub join-turned-requires-clause-new : goal.join-turned-requires-clause-new
join-turned-requires-clause-new c =
    let l = c.loop-done in
    let s = c.in-Some.ensures.some in
    let now = placed (turned_back l.turned l.items.items) in
    ap (λ (d : Done). times placed_key d.event.key now) s.2
    ∙ joins-fresh l.others.items c.pop_back.new.self.items s.0 now s.1 (subst (Ascends placed_key) (sym l.invariant.same) (joined-start c.args.items.now.items (placed c.args.others.now.items) c.requires.ordered))

pub loop-done-preserved : goal.loop-done-preserved
loop-done-preserved c =
    let l = c.loop-done in
    let s = c.in-Some.ensures.some in
    let x : Item = s.0 in
    let xs = c.pop_back.new.self.items in
    let joined = c.join-turned.ensures in
    let now = placed (turned_back l.turned l.items.items) in
    let is : l.others.items ≡ xs ++ x ∷ [] = s.1 in
    let long = ap length is in
    let parts = length-append xs (x ∷ []) in
    let room = l.invariant.room in
    let more = joined.long in
    let capacity = joined.capacity in
    record {
      turned = joined.turned;
      same = joins-same l.others.items xs x now (placed (turned_back c.join-turned.result c.join-turned.new.items.items)) is (joined.items ∙ (λ i. insert placed_key (record { done = s.2 i; place = s.3 i }) now)) ∙ l.invariant.same;
      after = λ es e last. joined.after (item_key e) (ap (λ (d : Done). key_lt (item_key e) d.event.key) s.2 ∙ before-end c.args.others.now.items l.others.items l.invariant.gone.0 xs es x e c.requires.others l.invariant.gone.1 is last);
      gone = (x ∷ l.invariant.gone.0, l.invariant.gone.1 ∙ ap (λ (es : List Item). es ++ l.invariant.gone.0) is ∙ append_assoc xs (x ∷ []) l.invariant.gone.0);
      room = omega arith;
      capacity = joined.capacity ∙ l.invariant.capacity;
    }

pub returns-clause-items : goal.returns-clause-items
returns-clause-items c =
    let l = c.loop-done in
    let none : l.others.items ≡ [] = c.in_default.ensures.none in
    joins-end l.others.items (placed (turned_back l.turned l.items.items)) none
    ∙ l.invariant.same
    ∙ ap (λ (es : List Item). weave placed_key (placed c.args.others.now.items) (placed es)) (append-nil c.args.items.now.items)
