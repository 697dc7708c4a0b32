-- The messages so far, and the next one.
use Rattle.std.proofs.Common.{◌≡◌, ℕ, ◌+◌, ◌<◌, ◌≤◌, ◌^◌, ◌++◌, ◌∷◌, [], List, length, get_or, drop, map, refl, sym, arith, ap, ◌∙◌, length-append, append_assoc, subst, Fits, w64}
use Rattle.std.proofs.lemmas.List.{append-nil, drop_more, map-append, length-map}
use Rattle.std.specs.Prelude.{slice_index}
use Rattle.event_key.specs.declared.stamp.TheConstants.{NO_STAMP}
use Rattle.key_order.specs.Stamps.{least_stamp}
use Rattle.model_core.specs.declared.event.Event.{Event}
use Rattle.model_core.specs.declared.event.Send.{Send}
use Rattle.model_core.specs.Meaning.{SendsInRange}
use Rattle.sim_spec.specs.Firing.{emissions}
use Rattle.event_firing.proofs.SendLemmas.{chain_at, ranged_more, sent_more, sent_all}
use Rattle.object_log.proofs.HeldLemmas.{least-push, least-start}
use Rattle.event_log.specs.News.{homed}
use Rattle.std.proofs.lemmas.List.Elements.{All-from_recursion}
use Rattle.event_log.proofs.sending.hold_all.Goals as goal

abbrev none : Send
none = record { dest = 0; delay = 0; kind = 0; a = 0; b = 0; rank = 0 }

-- what is known of the send at a place
ranged-at : (objects : ℕ) (ss : List Send) (i : ℕ) → i < length ss → SendsInRange objects (drop i ss) → ((get_or ss i none).dest < objects) × ((get_or ss i none).delay ≤ 2 ^ 40)
ranged-at objects ss i below h =
    let P : List Send → Type 0 = SendsInRange objects in
    let all = subst P (drop_more ss i none below) h in
    (all.0, all.1)

-- what is left is enough for one message more
one-cell : (now i was long : ℕ) → now + i ≡ was → long ≤ was → i < long → 1 ≤ now
one-cell now i was long used enough some = omega arith

one-place : (was now i long : ℕ) → was ≤ now + i → long ≤ was → i < long → 1 ≤ now
one-place was now i long left enough some = omega arith

few-more : (was sent : List (ℕ × Event)) (homes : List ℕ) (held : List Event) (i long : ℕ) → sent ≡ was ++ map (homed homes) held → length held ≡ i → i < long → length was + long < 2 ^ 60 → length sent + 1 < 2 ^ 60
few-more was sent homes held i long is long_is some few =
    let one = ap length is in
    let two = length-append was (map (homed homes) held) in
    let three = length-map held (homed homes) in
    omega arith

serial-fits : (next serial i long : ℕ) → next ≡ serial + i → i < long → serial + long < 2 ^ 64 → Fits w64 (next + 1)
serial-fits next serial i long is some few = omega arith

-- and so it is with that one
count-more : (next serial i : ℕ) → next ≡ serial + i → next + 1 ≡ serial + (i + 1)
count-more next serial i is = omega arith

cells-more : (left now i was : ℕ) → left + 1 ≡ now → now + i ≡ was → left + (i + 1) ≡ was
cells-more left now i was one used = omega arith

room-more : (was now i left : ℕ) → was ≤ now + i → left + 1 ≡ now → was ≤ left + (i + 1)
room-more was now i left enough one = omega arith

cells-used : (now i was long : ℕ) → now + i ≡ was → i ≤ long → long ≤ i → now + long ≡ was
cells-used now i was long used most least = omega arith

pub push-requires : goal.push-requires
push-requires c =
    let l = c.loop-send.invariant in
    let homes = c.args.homes.now in
    let i = c.loop-send.send-index in
    let dest = (get_or c.args.sends.now i none).dest in
    let within = (ranged-at (length homes) c.args.sends.now i c.loop-send-test.true l.ranged).0 in
    let H : ℕ → Type 0 = λ n. get_or homes dest 0 < n in
    record {
      home = subst H (sym l.nodes) (All-from_recursion (λ (h : ℕ). h < c.args.outbox.now.nodes) homes c.requires.homes dest 0 within);
      room = one-place _ _ _ _ l.room c.requires.room c.loop-send-test.true;
      few = few-more c.args.outbox.now.sent c.loop-send.outbox.sent homes l.held i _ l.sent l.long c.loop-send-test.true c.requires.few;
    }

pub fill-requires : goal.fill-requires
fill-requires c = one-cell _ _ _ _ c.loop-send.invariant.cells c.requires.cells c.loop-send-test.true

pub bounds-homes-send : goal.bounds-homes-send
bounds-homes-send c = (ranged-at (length c.args.homes.now) c.args.sends.now c.loop-send.send-index c.loop-send-test.true c.loop-send.invariant.ranged).0

pub overflow_add-next_serial : goal.overflow_add-next_serial
overflow_add-next_serial c = serial-fits _ _ _ _ c.loop-send.invariant.count c.loop-send-test.true c.requires.serials

pub loop-send-init : goal.loop-send-init
loop-send-init c = record {
  held = [];
  sent = sym (append-nil c.args.outbox.now.sent);
  whole = refl;
  long = refl;
  least_is = least-start [] refl;
  stepping = c.requires.stepping;
  ranged = c.requires.ranged;
  count = omega arith;
  cells = omega arith;
  room = omega arith;
  nodes = refl;
}

pub sent_event-event-requires-clause-delay : goal.sent_event-event-requires-clause-delay
sent_event-event-requires-clause-delay c = (ranged-at (length c.args.homes.now) c.args.sends.now c.loop-send.send-index c.loop-send-test.true c.loop-send.invariant.ranged).1

pub sent_event-event-requires-clause-stepping : goal.sent_event-event-requires-clause-stepping
sent_event-event-requires-clause-stepping c = (chain_at c.args.cause.now.stamp c.args.sends.now c.loop-send.send-index none c.loop-send-test.true c.loop-send.invariant.stepping).0

pub loop-send-preserved : goal.loop-send-preserved
loop-send-preserved c =
    let i = c.loop-send.send-index in
    let l = c.loop-send.invariant in
    let sends = c.args.sends.now in
    let cause = c.args.cause.now in
    let homes = c.args.homes.now in
    let below = c.loop-send-test.true in
    let was = c.args.outbox.now.sent in
    let e : Event = c.sent_event-event.result in
    let is = c.sent_event-event.ensures in
    let dest = ap (λ (x : Event). x.key.dest) (sym is) in
    let pushed : c.push.new.self.sent ≡ c.loop-send.outbox.sent ++ homed homes e ∷ [] = c.push.ensures.sent ∙ (λ j. c.loop-send.outbox.sent ++ (slice_index homes (dest j), c.fill.ensures.value j) ∷ []) in
    let more = length-append l.held (e ∷ []) in
    let long : length (l.held ++ e ∷ []) ≡ i + 1 = omega (arith, l.long) in
    record {
      held = l.held ++ e ∷ [];
      sent = pushed
          ∙ ap (λ (ss : List (ℕ × Event)). ss ++ homed homes e ∷ []) l.sent
          ∙ append_assoc was (map (homed homes) l.held) (homed homes e ∷ [])
          ∙ ap (λ (ss : List (ℕ × Event)). was ++ ss) (sym (map-append (homed homes) l.held (e ∷ [])));
      whole = sent_more cause.stamp cause.dest c.loop-send.next_serial sends i none l.held (l.held ++ e ∷ []) (emissions cause.stamp cause.dest c.args.serial sends) below (ap (λ x. l.held ++ x ∷ []) is) l.whole;
      long = long;
      least_is = c.min-least.ensures ∙ least-push NO_STAMP c.loop-send.least l.held (l.held ++ e ∷ []) e l.least_is refl;
      stepping = (chain_at cause.stamp sends i none below l.stepping).1;
      ranged = ranged_more (length homes) sends i below l.ranged;
      count = count-more _ _ _ l.count;
      cells = cells-more _ _ _ _ c.fill.ensures.spare l.cells;
      room = room-more _ _ _ _ l.room c.push.ensures.room;
      nodes = c.push.ensures.nodes ∙ l.nodes;
    }

pub returns : goal.returns
returns c =
    let l = c.loop-send.invariant in
    let cause = c.args.cause.now in
    let all = sent_all cause.stamp cause.dest c.loop-send.next_serial c.args.sends.now c.loop-send.send-index l.held (emissions cause.stamp cause.dest c.args.serial c.args.sends.now) c.loop-send-test.false l.whole in
    record {
      sent = l.sent ∙ ap (λ (es : List Event). c.args.outbox.now.sent ++ map (homed c.args.homes.now) es) all;
      nodes = c.loop-send.invariant.nodes;
      least = l.least_is ∙ ap (least_stamp NO_STAMP) all;
      cells = cells-used _ _ _ _ c.loop-send.invariant.cells c.loop-send.auto.send-index-end c.loop-send-test.false;
    }
