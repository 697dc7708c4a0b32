-- The last of the others goes over, or all of them come before the key.
use Rattle.std.proofs.Common.{◌≡◌, ◌-◌, ◌≤◌, true, false, List, [], ◌∷◌, ◌++◌, length, get_or, refl, sym, ap, ◌∙◌, subst, arith, length-append}
use Rattle.std.proofs.lemmas.List.{drop_all}
use Rattle.std.specs.List.{AllByRecursion as Each}
use Rattle.event_key.specs.declared.key.Key.{Key}
use Rattle.event_key.specs.Keys.{key_lt}
use Rattle.key_order.specs.Keys.{times}
use Rattle.object_log.specs.Carrying.{placed_key}
use Rattle.event_log.specs.Items.{Item, item_key, placed_of}
use Rattle.event_log.proofs.TurnLemmas.{ends, last-read, others-before, turned-after, turned-more, turned-same}
use Rattle.event_log.proofs.turning.turn_past.Goals as goal

pub loop-turned-init : goal.loop-turned-init
loop-turned-init c = record { turned = c.requires.turned; same = refl; after = c.requires.after; capacity = refl; long = refl; len = omega arith }

pub at-last-requires : goal.at-last-requires
at-last-requires c = omega (arith, c.loop-turned.invariant.len)

pub returns-then-is_before-clause-others : goal.returns-then-is_before-clause-others
returns-then-is_before-clause-others c =
    let l = c.loop-turned in
    let es = l.items.items in
    let a = c.at-last.ensures in
    let last : Item = a.0 in
    let some = c.loop-turned-test.true in
    let counted = l.invariant.len in
    let split = ends es (c.len-len.result - 1) last (omega arith) a.1 in
    let long = ap length split.1 in
    let parts = length-append split.0 (last ∷ []) in
    others-before l.turned c.args.key.now es split.0 last split.1 (omega arith) l.invariant.turned (ap (λ (j : Key). key_lt j c.args.key.now) (sym a.2.key_is) ∙ sym c.if-is_before.ensures)

pub loop-turned-preserved : goal.loop-turned-preserved
loop-turned-preserved c =
    let l = c.loop-turned in
    let es = l.items.items in
    let h = c.turn_last.ensures.items in
    let xs = h.front in
    let zs = c.turn_last.new.items.items in
    let x : Item = h.last in
    let a = c.at-last.ensures in
    let last : Item = a.0 in
    let key = c.args.key.now in
    let is : es ≡ xs ++ x ∷ [] = h.old_is in
    let long = ap length is in
    let parts = length-append xs (x ∷ []) in
    let more = ap length h.new_is in
    let some = c.loop-turned-test.true in
    let counted = l.invariant.len in
    let within : l.turned ≤ length xs = omega arith in
    let R : List Item → Type 0 = λ rs. last ≡ get_or rs (c.len-len.result - 1) last in
    let seen : last ≡ x = last-read xs x last (c.len-len.result - 1) (omega arith) (subst R is a.1) in
    let same : placed_of h.put ≡ placed_of x = h.put_is ∙ ap (λ at. record { done = x.done; place = at }) (a.2.place_is ∙ ap (λ (i : Item). i.place) seen) in
    let late : key_lt (item_key x) key ≡ false = ap (λ (i : Item). key_lt (item_key i) key) (sym seen) ∙ ap (λ (j : Key). key_lt j key) (sym a.2.key_is) ∙ sym c.if-is_before.ensures in
    record {
      turned = turned-more l.turned key es xs zs x h.put is h.new_is within same l.invariant.turned h.held;
      same = turned-same l.turned key es xs zs x h.put is h.new_is within same ∙ l.invariant.same;
      after = turned-after l.turned key es xs zs x h.put is h.new_is within same l.invariant.after (ap (times placed_key key) l.invariant.same ∙ c.requires.new) late;
      capacity = c.turn_last.ensures.capacity ∙ l.invariant.capacity;
      long = (let was = l.invariant.long in omega arith);
      len = omega arith;
    }

pub returns-clause-others : goal.returns-clause-others
returns-clause-others c =
    let l = c.loop-turned in
    let none = c.loop-turned-test.false in
    let counted = l.invariant.len in
    let P : List Item → Type 0 = Each (λ (i : Item). key_lt (item_key i) c.args.key.now ≡ true) in
    subst P (sym (drop_all l.turned l.items.items (omega arith))) tt
