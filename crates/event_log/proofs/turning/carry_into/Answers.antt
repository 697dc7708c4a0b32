-- The last of the news goes over.
use Rattle.std.proofs.Common.{◌≡◌, ℕ, ◌+◌, ◌-◌, true, List, [], ◌∷◌, ◌++◌, length, take, drop, subst, refl, sym, ap, ◌∙◌, arith, length-append, append_assoc}
use Rattle.std.proofs.lemmas.List.{append-nil, take_at}
use Rattle.std.specs.Prelude.{option_to_list}
use Rattle.model_core.specs.declared.event.Event.{Event}
use Rattle.std.specs.List.{AllByRecursion as Each}
use Rattle.event_key.specs.declared.key.Key.{Key}
use Rattle.event_key.specs.Keys.{key_lt}
use Rattle.key_order.specs.Keys.{times}
use Rattle.object_log.specs.Carrying.{Placed, placed_key}
use Rattle.object_log.specs.Weave.{insert}
use Rattle.object_log.specs.Dones.{Done}
use Rattle.event_log.specs.Items.{CarriedView, Item, item_key, placed, placed_of}
use Rattle.event_log.specs.News.{NewsView}
use Rattle.event_log.specs.Turning.{AreAfter, turned_back, turned_view}
use Rattle.event_log.proofs.ProcessedFacts.{carry-can, carry-fresh, carry-same}
use Rattle.event_log.proofs.TurnLemmas.{before-last, joined-after, joined-items, joined-turned, last-done, same-last}
use Rattle.event_log.proofs.turning.carry_into.Goals as goal

pub loop-news-init : goal.loop-news-init
loop-news-init c = record {
  turned = c.requires.turned;
  can = c.requires.can;
  same = refl;
  after = λ ds d is. tt;
  done = ([], sym (append-nil c.args.news.now.done));
  enough = c.requires.from;
  sent = ([], sym (append-nil c.args.news.now.sent));
  nodes = refl;
}

pub unwrap-place-requires : goal.unwrap-place-requires
unwrap-place-requires c =
    let counted = c.len.ensures in
    let some = c.loop-news-test.true in
    let long = c.loop-news.invariant.can.long in
    c.pop.ensures.variant.1 (omega (arith, c.loop-news.places.ok.0))

-- the last of the news, whose key is at hand
pub turn_past-past-requires-clause-after : goal.turn_past-past-requires-clause-after
turn_past-past-requires-clause-after c =
    let l = c.loop-news in
    let z = last-done l.news.done (c.len-in-loop-news.result - 1) c.key_at-key.result (omega (arith, c.len-in-loop-news.ensures, c.len.ensures, c.loop-news-test.true)) c.key_at-key.ensures in
    let A : Key → Type 0 = λ k. AreAfter k l.turned l.items.items in
    subst A (sym z.3) (l.invariant.after z.0 z.1 z.2)

pub turn_past-past-requires-clause-new : goal.turn_past-past-requires-clause-new
turn_past-past-requires-clause-new c =
    let l = c.loop-news in
    let z = last-done l.news.done (c.len-in-loop-news.result - 1) c.key_at-key.result (omega (arith, c.len-in-loop-news.ensures, c.len.ensures, c.loop-news-test.true)) c.key_at-key.ensures in
    let v : NewsView = l.news in
    let v' : NewsView = record v { done = z.0 } in
    let k : CarriedView = turned_view l.turned l.items.items l.items.capacity in
    let pops = c.pop.ensures.items ∙ ap (λ top. c.pop.new.self.items ++ option_to_list top) c.unwrap-place.ensures in
    ap (λ key. times placed_key key (placed (turned_back l.turned l.items.items))) z.3
    ∙ carry-fresh l.places.items c.pop.new.self.items c.unwrap-place.result v v' k k z.1 l.cells l.cells l.invariant.can pops z.2

pub put_last-requires-clause-within : goal.put_last-requires-clause-within
put_last-requires-clause-within c = c.turn_past-past.ensures.turned.within

pub put_last-requires-clause-room : goal.put_last-requires-clause-room
put_last-requires-clause-room c =
    let room = c.loop-news.invariant.can.room in
    omega (arith, c.len.ensures, c.loop-news-test.true, c.turn_past-past.ensures.long, c.turn_past-past.ensures.capacity)

pub put_last-requires-clause-some : goal.put_last-requires-clause-some
put_last-requires-clause-some c = omega (arith, c.len.ensures, c.loop-news-test.true)

pub put_last-requires-clause-small : goal.put_last-requires-clause-small
put_last-requires-clause-small c = c.loop-news.invariant.can.few

pub put_last-requires-clause-cells : goal.put_last-requires-clause-cells
put_last-requires-clause-cells c = c.loop-news.invariant.can.cells_are

pub overflow_add-turned : goal.overflow_add-turned
overflow_add-turned c =
    let within = c.turn_past-past.ensures.turned.within in
    let more = ap length c.put_last.ensures.put.new_is in
    let few = c.put_last.ensures.few in
    omega arith

pub loop-news-preserved : goal.loop-news-preserved
loop-news-preserved c =
    let l = c.loop-news in
    let v : NewsView = l.news in
    let v' : NewsView = c.put_last.new.news in
    let n = c.turn_past-past.result in
    let t = c.turn_past-past.ensures in
    let es = c.turn_past-past.new.items.items in
    let now = c.put_last.new.items in
    let put = c.put_last.ensures.put in
    let i : Item = put.put in
    let d : Done = i.done in
    let popped = put.popped in
    let p : Placed = record { done = d; place = c.unwrap-place.result } in
    let placed_is : placed_of i ≡ p = ap (λ at. record { done = d; place = at }) put.place_is in
    let z = last-done v.done (c.len-in-loop-news.result - 1) c.key_at-key.result (omega (arith, c.len-in-loop-news.ensures, c.len.ensures, c.loop-news-test.true)) c.key_at-key.ensures in
    let key : c.key_at-key.result ≡ d.event.key = z.3 ∙ ap (λ (x : Done). x.event.key) (same-last z.0 v'.done z.1 d (sym z.2 ∙ popped.done)) in
    let A : Key → Type 0 = λ k. AreAfter k n es in
    let O : Key → Type 0 = λ k. Each (λ (x : Item). key_lt (item_key x) k ≡ true) (drop n es) in
    let others = subst O key t.others in
    let after = subst A key t.after in
    let k : CarriedView = turned_view l.turned l.items.items l.items.capacity in
    let k' : CarriedView = turned_view (n + 1) now.items now.capacity in
    let pops = c.pop.ensures.items ∙ ap (λ top. c.pop.new.self.items ++ option_to_list top) c.unwrap-place.ensures in
    let fresh = carry-fresh l.places.items c.pop.new.self.items c.unwrap-place.result v v' k k d l.cells l.cells l.invariant.can pops popped.done in
    let items = joined-items n es now.items i p put.new_is placed_is others after ∙ ap (insert placed_key p) t.same in
    let one = ap length popped.done in
    let two = length-append v'.done (d ∷ []) in
    let more = ap length put.new_is in
    let capacity = c.put_last.ensures.capacity in
    let turned_capacity = t.capacity in
    let long = t.long in
    let enough = c.loop-news.invariant.enough in
    record {
      turned = joined-turned n es now.items i p put.new_is placed_is others after t.turned put.held (ap (times placed_key (placed_key p)) t.same ∙ fresh);
      can = carry-can l.places.items c.pop.new.self.items c.unwrap-place.result v v' k k' d l.cells c.put_last.new.cells l.invariant.can pops popped.done items (omega arith) c.put_last.ensures.cells;
      same = carry-same l.places.items c.pop.new.self.items c.unwrap-place.result v v' k k' d l.cells c.put_last.new.cells l.invariant.can pops popped.done items ∙ l.invariant.same;
      after = λ ds e is. joined-after n es now.items i p put.new_is placed_is others after e.event.key (before-last c.args.news.now.done v.done l.invariant.done.0 v'.done ds d e c.tells.ensures.ordered l.invariant.done.1 popped.done is);
      done = (
        d ∷ l.invariant.done.0,
        l.invariant.done.1 ∙ ap (λ (ds : List Done). ds ++ l.invariant.done.0) popped.done ∙ append_assoc v'.done (d ∷ []) l.invariant.done.0,
      );
      enough = omega (arith, c.len.ensures, c.loop-news-test.true);
      sent = (
        popped.messages.own ++ l.invariant.sent.0,
        l.invariant.sent.1 ∙ ap (λ (ss : List (ℕ × Event)). ss ++ l.invariant.sent.0) popped.messages.split ∙ append_assoc v'.sent popped.messages.own l.invariant.sent.0,
      );
      nodes = popped.nodes ∙ l.invariant.nodes;
    }

pub loop-news-smaller : goal.loop-news-smaller
loop-news-smaller c =
    let put = c.put_last.ensures.put in
    let one = ap length put.popped.done in
    let two = length-append c.put_last.new.news.done (put.put.done ∷ []) in
    omega arith

pub returns-clause-done : goal.returns-clause-done
returns-clause-done c =
    let l = c.loop-news in
    let counted = c.len.ensures in
    let none = c.loop-news-test.false in
    let enough = l.invariant.enough in
    let from : length l.news.done ≡ c.args.from = omega arith in
    sym (ap (take c.args.from) l.invariant.done.1 ∙ take_at l.news.done l.invariant.done.0 c.args.from from)
