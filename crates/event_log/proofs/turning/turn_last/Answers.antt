-- The last one stands before all, and holds the least of what it and those behind it send.
use Rattle.std.proofs.Common.{◌≡◌, ◌≤◌, min, List, [], ◌∷◌, length, take, get_or, set, sym, ap, ◌∙◌, arith, length-append}
use Rattle.std.proofs.lemmas.List.{take-append-le}
use Rattle.event_log.specs.Items.{Item, first_held, item_least}
use Rattle.event_log.proofs.turning.turn_last.Goals as goal

pub returns-clause-items : goal.returns-clause-items
returns-clause-items c =
    let n = c.args.turned in
    let r = c.rotate_right.ensures.items in
    let a = c.at.ensures in
    let s = c.set.ensures.items in
    let long = ap length r.2 in
    let parts = length-append r.0 (r.1 ∷ []) in
    let within : n ≤ length r.0 = omega (arith, c.requires) in
    let read : a.0 ≡ r.1 = a.1 ∙ ap (λ (es : List Item). get_or es 0 a.0) r.3 in
    let same : s.0 ≡ r.1 = s.1 ∙ ap (λ (es : List Item). get_or es 0 s.0) r.3 in
    let front : take n c.args.items.now.items ≡ take n r.0 = ap (take n) r.2 ∙ take-append-le n r.0 (r.1 ∷ []) within in
    record {
      front = r.0;
      last = r.1;
      put = record { done = s.0.done; place = c.args.place; held = c.min-held.result };
      old_is = r.2;
      new_is = s.2 ∙ ap (λ (es : List Item). set es 0 (record { done = s.0.done; place = c.args.place; held = c.min-held.result })) r.3;
      put_is = ap (λ (i : Item). record { done = i.done; place = c.args.place }) same;
      held = c.min-held.ensures ∙ (λ i. min ((a.2.least_is ∙ ap item_least (read ∙ sym same)) i) ((c.held_in_front-held.ensures ∙ ap first_held front) i));
    }
