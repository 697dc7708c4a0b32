-- The object fires the event, which joins the news.
use Rattle.std.proofs.Common.{◌≡◌, ℕ, ◌+◌, ◌-◌, ◌<◌, ◌≤◌, ◌^◌, min, List, [], ◌∷◌, ◌++◌, length, map, refl, sym, ap, ◌∙◌, subst, arith, length-append, Fits, w32}
use Rattle.std.proofs.Math.Nat.{le_trans}
use Rattle.std.proofs.lemmas.List.{length-map}
use Rattle.std.specs.Prelude.{Option}
use Rattle.std.specs.List.{AllByRecursion as Each}
use Rattle.event_key.specs.declared.key.Key.{Key}
use Rattle.event_key.specs.Stamps.{time_part}
use Rattle.event_key.specs.declared.stamp.TheConstants.{NO_STAMP}
use Rattle.delta_exchange.specs.declared.change.Change.{Change}
use Rattle.key_order.specs.Stamps.{least_stamp}
use Rattle.model_core.specs.declared.effect.Effect.{Effect}
use Rattle.model_core.specs.declared.effect.Ending.{Ending}
use Rattle.model_core.specs.declared.effect.Ending.TheVariants.{Fails, Goes}
use Rattle.model_core.specs.declared.event.Event.{Event}
use Rattle.model_core.specs.declared.event.Send.{Send}
use Rattle.model_core.specs.declared.note.Note.{Note}
use Rattle.model_core.specs.Meaning.{Meaning, SendsInRange}
use Rattle.sim_spec.specs.Firing.{emissions, has_endless_chain}
use Rattle.sim_spec.proofs.SerialLemmas.{length-emissions}
use Rattle.object_log.specs.Dones.{Done}
use Rattle.object_log.specs.Objects.{HasFired, KeptObject}
use Rattle.object_log.specs.Fired.{HasFiredInto, HasGone, failed_of}
use Rattle.event_log.specs.declared.row.Row.{Row}
use Rattle.event_log.specs.News.{HoldsNews, NewsView, homed, least_after, news_view}
use Rattle.event_log.specs.Outboxes.{message}
use Rattle.object_log.proofs.FireFacts.{still}
use Rattle.event_log.proofs.ProcessFacts.{failed-in, none-lost, went-in}
use Rattle.event_log.proofs.news.News.process.Goals as goal

-- the serials of so few messages fit
serials-fit : (serial was sends : ℕ) → serial ≡ was → was < 2 ^ 60 → sends ≤ 8 → serial + sends < 2 ^ 64
serials-fit serial was sends serial_is before few = omega arith

-- the event's own cell comes to those that were made ready
cells-ready : (sends room full : ℕ) → sends ≤ 8 → 8 ≤ room → full ≡ min (room + 1) (2 ^ 60) → sends ≤ full
cells-ready sends room full few enough full_is = omega arith

-- so few messages more are few
still-few : (now was sends : ℕ) → now ≡ was → was + 8 < 2 ^ 60 → sends ≤ 8 → now + sends < 2 ^ 60
still-few now was sends now_is few few_sends = omega arith

few-changes : (to from now was added : ℕ) → to ≡ now → from ≡ was → now ≡ was + added → added ≤ 16 → Fits w32 (to - from)
few-changes to from now was added to_is from_is more few = omega arith

few-sends : (sends known : List Send) → sends ≡ known → length known ≤ 8 → length sends ≤ 8
few-sends sends known is few = subst (λ (ss : List Send). length ss ≤ 8) (sym is) few

word-few : (n : ℕ) → n ≤ 8 → Fits w32 n
word-few n few = omega arith

-- so many cells are left
cells-left : (old room full left was seen added sends : ℕ) → old ≤ room → full ≡ min (room + 1) (2 ^ 60) → left + sends ≡ full → added ≡ sends → was ≡ seen → min (old + 1) (2 ^ 60) + seen ≤ left + (was + added)
cells-left old room full left was seen added sends more full_is left_is added_is was_is = omega arith

-- no cell went, and one came
cells-stay : (old room full was seen : ℕ) → old ≤ room → full ≡ min (room + 1) (2 ^ 60) → was ≡ seen → min (old + 1) (2 ^ 60) + seen ≤ full + was
cells-stay old room full was seen more full_is same = omega arith

-- lists that stay hold the same news
stays : (news : List Done) (gone told told' : List (Key × Note)) (rows rows' : List Row) (undo undo' : List Change) (sent sent' : List (ℕ × Event)) (code : Option ℕ) → HoldsNews news gone told rows undo sent code
    → told' ≡ told → rows' ≡ rows → undo' ≡ undo → sent' ≡ sent → HoldsNews news gone told' rows' undo' sent' code
stays news gone told told' rows rows' undo undo' sent sent' code h told_is rows_is undo_is sent_is = record {
  rows_are = rows_is ∙ h.rows_are;
  told_are = told_is ∙ h.told_are;
  undo_are = undo_is ∙ h.undo_are;
  sent_are = ap (map message) sent_is ∙ h.sent_are;
  code_is = h.code_is;
  last = h.last;
  whole = h.whole;
  ordered = h.ordered;
}

pub invariant_of-self : goal.invariant_of-self
invariant_of-self g c =
    let n = c.self.inside in
    let h = c.self.invariant in
    let made = c.make_room-room.ensures in
    let room = c.make_room-room.new in
    (h.0, h.1, stays h.0 h.1 n.told.items room.told.items n.rows.items room.rows.items n.undo.items room.undo.items n.outbox.sent room.outbox.sent n.fault h.2 made.told made.rows made.undo made.sent)

pub returns-in_default : goal.returns-in_default
returns-in_default g c =
    let made = c.make_room-room.ensures in
    record {
      ok = tt;
      lawful = tt;
      err = (λ i. news_view (made.rows i) (made.told i) (made.undo i) (made.sent i) c.self.inside.fault (made.nodes i)) ∙ c.self.view_is;
      same = still c.args.object.now;
      back = refl;
      cells_kept = made.cells_kept;
      cells = tt;
    }

pub invariant_of-self-in_default-fired : goal.invariant_of-self-in_default-fired
invariant_of-self-in_default-fired g c =
    let n = c.self.inside in
    let h = c.self.invariant in
    let made = c.make_room-room.ensures in
    let room = c.make_room-room.new in
    let undo = c.in_default-fired.ensures.kept ∙ made.undo in
    (h.0, h.1, stays h.0 h.1 n.told.items room.told.items n.rows.items room.rows.items n.undo.items c.fire_into-fired.new.undo.items n.outbox.sent room.outbox.sent n.fault h.2 made.told made.rows undo made.sent)

pub returns-in_default-fired : goal.returns-in_default-fired
returns-in_default-fired g c =
    let made = c.make_room-room.ensures in
    let undo = c.in_default-fired.ensures.kept ∙ made.undo in
    record {
      ok = tt;
      lawful = tt;
      err = (λ i. news_view (made.rows i) (made.told i) (undo i) (made.sent i) c.self.inside.fault (made.nodes i)) ∙ c.self.view_is;
      same = c.in_default-fired.ensures.err;
      back = refl;
      cells_kept = made.cells_kept;
      cells = tt;
    }

-- what a caller knows of an event that went
gone : (m : Meaning) (old new : KeptObject) (e y : Event) (k : Ending) (x : Effect) (was now : List Change) → y ≡ e → k ≡ Goes → HasFiredInto m old new y k x was now → HasGone m old new e x was now
gone m old new e y k x was now y_is k_is fired =
    let K : Ending → Type 0 = λ k. HasFiredInto m old new y k x was now in
    let F : Event → Type 0 = λ y. HasGone m old new y x was now in
    subst F y_is (subst K k_is fired)

-- and of one that failed
went-wrong : (m : Meaning) (old new : KeptObject) (e y : Event) (k : Ending) (code : ℕ) (x : Effect) (was now : List Change) → y ≡ e → k ≡ Fails code → HasFiredInto m old new y k x was now → (now ≡ was) × HasFired m old new e (failed_of e code)
went-wrong m old new e y k code x was now y_is k_is fired =
    let K : Ending → Type 0 = λ k. HasFiredInto m old new y k x was now in
    let F : Event → Type 0 = λ y. HasFiredInto m old new y (Fails code) x was now in
    subst F y_is (subst K k_is fired)

pub hold_all-least-requires : goal.hold_all-least-requires
hold_all-least-requires g c =
    let fired = gone (g.M.Model.meaning c.args.model.now) c.args.object.now c.fire_into-fired.new.self c.args.event _ _ c.fire_into-fired.new.sheet _ _ c.get.ensures c.in-Goes.is c.in-Ok-fired.ensures.ok in
    let few = few-sends _ _ c.as_slice-sends.ensures fired.few_sends in
    let T : Event → Type 0 = λ e. time_part e.key.stamp < 2 ^ 46 in
    let R : List Send → Type 0 = λ ss. SendsInRange (length c.args.homes.now) ss in
    let O : ℕ → Type 0 = λ n. SendsInRange n c.fire_into-fired.new.sheet.sends in
    let H : ℕ → Type 0 = λ k. Each (λ (h : ℕ). h < k) c.args.homes.now in
    record {
      time = subst T (sym c.recycle-event.ensures.value) c.requires.fires.time;
      stepping = (λ i. has_endless_chain (c.recycle-event.ensures.value i).key.stamp (c.as_slice-sends.ensures i)) ∙ fired.stepping;
      ranged = subst R (sym c.as_slice-sends.ensures) (subst O (sym c.requires.fires.known) fired.ranged);
      homes = subst H (sym (c.make_room-room.ensures.nodes ∙ ap (λ (v : NewsView). v.nodes) c.self.view_is)) c.requires.fires.homes_in;
      serials = serials-fit _ _ _ c.sent-serial.ensures c.requires.fires.sent few;
      cells = cells-ready _ _ _ few c.in-Ok.ensures.cells c.recycle-event.ensures.spare;
      room = le_trans few c.in-Ok.ensures.sent_room;
      few = still-few _ _ _ (ap length c.make_room-room.ensures.sent ∙ ap (λ (v : NewsView). length v.sent) c.self.view_is) c.requires.takes.few_sent few;
    }

pub overflow_sub-changes : goal.overflow_sub-changes
overflow_sub-changes g c =
    let fired = gone (g.M.Model.meaning c.args.model.now) c.args.object.now c.fire_into-fired.new.self c.args.event _ _ c.fire_into-fired.new.sheet _ _ c.get.ensures c.in-Goes.is c.in-Ok-fired.ensures.ok in
    let before = c.make_room-room.new.undo in
    let added = ap length fired.added ∙ length-append before.items fired.undo in
    none-lost _ _ _ _ _ (c.len.ensures ∙ c.fire_into-fired.new.undo.ok.0) (c.len-from.ensures ∙ before.ok.0) added

pub overflow_cast-changes : goal.overflow_cast-changes
overflow_cast-changes g c =
    let fired = gone (g.M.Model.meaning c.args.model.now) c.args.object.now c.fire_into-fired.new.self c.args.event _ _ c.fire_into-fired.new.sheet _ _ c.get.ensures c.in-Goes.is c.in-Ok-fired.ensures.ok in
    let before = c.make_room-room.new.undo in
    let added = ap length fired.added ∙ length-append before.items fired.undo in
    few-changes _ _ _ _ _ (c.len.ensures ∙ c.fire_into-fired.new.undo.ok.0) (c.len-from.ensures ∙ before.ok.0) added fired.few_changes

pub overflow_cast-sends : goal.overflow_cast-sends
overflow_cast-sends g c =
    let fired = gone (g.M.Model.meaning c.args.model.now) c.args.object.now c.fire_into-fired.new.self c.args.event _ _ c.fire_into-fired.new.sheet _ _ c.get.ensures c.in-Goes.is c.in-Ok-fired.ensures.ok in
    word-few _ (few-sends _ _ c.as_slice-sends.ensures fired.few_sends)

pub invariant_of-self-in-Fails : goal.invariant_of-self-in-Fails
invariant_of-self-in-Fails g c =
    let n = c.self.inside in
    let made = c.make_room-room.ensures in
    let value = c.recycle-event.ensures.value in
    let before_is = c.least_in-before.ensures ∙ ap (least_after NO_STAMP) (c.deref.ensures.value ∙ made.rows) in
    let row_is : c.new-row.result ≡ record { event = c.args.event; least = least_after NO_STAMP n.rows.items; changes = 0; sends = 0 } = c.new-row.ensures ∙ (λ i. record { event = value i; least = before_is i; changes = 0; sends = 0 }) in
    let fired = went-wrong (g.M.Model.meaning c.args.model.now) c.args.object.now c.fire_into-fired.new.self c.args.event _ _ c.in-Fails.code c.fire_into-fired.new.sheet _ _ c.get.ensures c.in-Fails.is c.in-Ok-fired.ensures.ok in
    (failed-in c.args.self.now n.told.items n.rows.items n.undo.items n.outbox.sent n.fault n.outbox.nodes c.self.invariant c.self.view_is
    c.args.homes.now (g.M.Model.meaning c.args.model.now) c.args.object.now c.fire_into-fired.new.self c.args.event c.in-Fails.code c.fire_into-fired.new.undo.items c.make_room-room.new.told.items c.push_reserved.new.self.items c.make_room-room.new.outbox.sent c.make_room-room.new.outbox.nodes
    fired.1 (fired.0 ∙ made.undo) made.told made.sent made.nodes (c.push_reserved.ensures.items ∙ (λ i. made.rows i ++ row_is i ∷ []))
    c.requires.whole c.requires.takes.went c.requires.takes.above).0

pub returns-in-Fails : goal.returns-in-Fails
returns-in-Fails g c =
    let n = c.self.inside in
    let made = c.make_room-room.ensures in
    let value = c.recycle-event.ensures.value in
    let before_is = c.least_in-before.ensures ∙ ap (least_after NO_STAMP) (c.deref.ensures.value ∙ made.rows) in
    let row_is : c.new-row.result ≡ record { event = c.args.event; least = least_after NO_STAMP n.rows.items; changes = 0; sends = 0 } = c.new-row.ensures ∙ (λ i. record { event = value i; least = before_is i; changes = 0; sends = 0 }) in
    let fired = went-wrong (g.M.Model.meaning c.args.model.now) c.args.object.now c.fire_into-fired.new.self c.args.event _ _ c.in-Fails.code c.fire_into-fired.new.sheet _ _ c.get.ensures c.in-Fails.is c.in-Ok-fired.ensures.ok in
    let came = failed-in c.args.self.now n.told.items n.rows.items n.undo.items n.outbox.sent n.fault n.outbox.nodes c.self.invariant c.self.view_is
    c.args.homes.now (g.M.Model.meaning c.args.model.now) c.args.object.now c.fire_into-fired.new.self c.args.event c.in-Fails.code c.fire_into-fired.new.undo.items c.make_room-room.new.told.items c.push_reserved.new.self.items c.make_room-room.new.outbox.sent c.make_room-room.new.outbox.nodes
    fired.1 (fired.0 ∙ made.undo) made.told made.sent made.nodes (c.push_reserved.ensures.items ∙ (λ i. made.rows i ++ row_is i ∷ []))
    c.requires.whole c.requires.takes.went c.requires.takes.above in
    record {
      ok = came.1;
      lawful = c.in-Ok-fired.ensures.lawful;
      err = tt;
      same = tt;
      back = tt;
      cells_kept = tt;
      cells = cells-stay _ _ _ _ _ made.cells_kept c.recycle-event.ensures.spare (ap length made.sent ∙ ap (λ (v : NewsView). length v.sent) c.self.view_is);
    }

pub invariant_of-self-in-Goes : goal.invariant_of-self-in-Goes
invariant_of-self-in-Goes g c =
    let n = c.self.inside in
    let made = c.make_room-room.ensures in
    let value = c.recycle-event.ensures.value in
    let x : Effect = c.fire_into-fired.new.sheet in
    let changes = c.len.result - c.len-from.result in
    let low = c.min.ensures ∙ ap (λ k. min k c.hold_all-least.result) (c.least_in-before.ensures ∙ ap (least_after NO_STAMP) (c.deref.ensures.value ∙ made.rows)) in
    let row_is = c.new-row-in-Goes.ensures ∙ (λ i. record { event = value i; least = low i; changes = changes; sends = length (c.as_slice-sends.ensures i) }) in
    let U : List Change → Type 0 = λ us. HasGone (g.M.Model.meaning c.args.model.now) c.args.object.now c.fire_into-fired.new.self c.args.event x us c.fire_into-fired.new.undo.items in
    (went-in c.args.self.now n.told.items n.rows.items n.undo.items n.outbox.sent n.fault n.outbox.nodes c.self.invariant c.self.view_is
    c.args.homes.now (g.M.Model.meaning c.args.model.now) c.args.object.now c.fire_into-fired.new.self c.args.event x c.fire_into-fired.new.undo.items c.push_reserved-in-Goes.new.self.items c.push_reserved-in-Goes-2.new.self.items c.hold_all-least.new.outbox.sent
    c.hold_all-least.result c.len.result c.len-from.result c.hold_all-least.new.outbox.nodes
    (subst U made.undo (gone (g.M.Model.meaning c.args.model.now) c.args.object.now c.fire_into-fired.new.self c.args.event _ _ x _ _ c.get.ensures c.in-Goes.is c.in-Ok-fired.ensures.ok))
    (c.len.ensures ∙ c.fire_into-fired.new.undo.ok.0) (c.len-from.ensures ∙ c.make_room-room.new.undo.ok.0 ∙ ap length made.undo)
    (c.hold_all-least.ensures.least ∙ (λ i. least_stamp NO_STAMP (emissions (value i).key.stamp (value i).key.dest (c.sent-serial.ensures i) (c.as_slice-sends.ensures i))))
    (c.push_reserved-in-Goes-2.ensures.items ∙ (λ i. made.rows i ++ row_is i ∷ []))
    (c.push_reserved-in-Goes.ensures.items ∙ (λ i. made.told i ++ ((value i).key, x.note) ∷ []))
    (c.hold_all-least.ensures.sent ∙ (λ i. made.sent i ++ map (homed c.args.homes.now) (emissions (value i).key.stamp (value i).key.dest (c.sent-serial.ensures i) (c.as_slice-sends.ensures i))))
    (c.hold_all-least.ensures.nodes ∙ made.nodes) c.requires.whole c.requires.takes.went c.requires.takes.above).0

pub returns-in-Goes : goal.returns-in-Goes
returns-in-Goes g c =
    let n = c.self.inside in
    let made = c.make_room-room.ensures in
    let value = c.recycle-event.ensures.value in
    let x : Effect = c.fire_into-fired.new.sheet in
    let changes = c.len.result - c.len-from.result in
    let low = c.min.ensures ∙ ap (λ k. min k c.hold_all-least.result) (c.least_in-before.ensures ∙ ap (least_after NO_STAMP) (c.deref.ensures.value ∙ made.rows)) in
    let row_is = c.new-row-in-Goes.ensures ∙ (λ i. record { event = value i; least = low i; changes = changes; sends = length (c.as_slice-sends.ensures i) }) in
    let U : List Change → Type 0 = λ us. HasGone (g.M.Model.meaning c.args.model.now) c.args.object.now c.fire_into-fired.new.self c.args.event x us c.fire_into-fired.new.undo.items in
    let came = went-in c.args.self.now n.told.items n.rows.items n.undo.items n.outbox.sent n.fault n.outbox.nodes c.self.invariant c.self.view_is
    c.args.homes.now (g.M.Model.meaning c.args.model.now) c.args.object.now c.fire_into-fired.new.self c.args.event x c.fire_into-fired.new.undo.items c.push_reserved-in-Goes.new.self.items c.push_reserved-in-Goes-2.new.self.items c.hold_all-least.new.outbox.sent
    c.hold_all-least.result c.len.result c.len-from.result c.hold_all-least.new.outbox.nodes
    (subst U made.undo (gone (g.M.Model.meaning c.args.model.now) c.args.object.now c.fire_into-fired.new.self c.args.event _ _ x _ _ c.get.ensures c.in-Goes.is c.in-Ok-fired.ensures.ok))
    (c.len.ensures ∙ c.fire_into-fired.new.undo.ok.0) (c.len-from.ensures ∙ c.make_room-room.new.undo.ok.0 ∙ ap length made.undo)
    (c.hold_all-least.ensures.least ∙ (λ i. least_stamp NO_STAMP (emissions (value i).key.stamp (value i).key.dest (c.sent-serial.ensures i) (c.as_slice-sends.ensures i))))
    (c.push_reserved-in-Goes-2.ensures.items ∙ (λ i. made.rows i ++ row_is i ∷ []))
    (c.push_reserved-in-Goes.ensures.items ∙ (λ i. made.told i ++ ((value i).key, x.note) ∷ []))
    (c.hold_all-least.ensures.sent ∙ (λ i. made.sent i ++ map (homed c.args.homes.now) (emissions (value i).key.stamp (value i).key.dest (c.sent-serial.ensures i) (c.as_slice-sends.ensures i))))
    (c.hold_all-least.ensures.nodes ∙ made.nodes) c.requires.whole c.requires.takes.went c.requires.takes.above in
    let sends = c.as_slice-sends.result.now in
    let es = emissions c.recycle-event.result.key.stamp c.recycle-event.result.key.dest c.sent-serial.result sends in
    let sent = ap length c.hold_all-least.ensures.sent ∙ length-append c.make_room-room.new.outbox.sent (map (homed c.args.homes.now) es) in
    let long = length-map es (homed c.args.homes.now) ∙ length-emissions c.recycle-event.result.key.stamp c.recycle-event.result.key.dest c.sent-serial.result sends in
    let was = ap length made.sent ∙ ap (λ (v : NewsView). length v.sent) c.self.view_is in
    let L : ℕ → Type 0 = λ k. min (c.args.pool.now + 1) (2 ^ 60) + length c.args.self.now.sent ≤ c.hold_all-least.new.pool + k in
    record {
      ok = came.1;
      lawful = c.in-Ok-fired.ensures.lawful;
      err = tt;
      same = tt;
      back = tt;
      cells_kept = tt;
      cells = subst L (sym sent) (cells-left _ _ _ _ _ _ _ _ made.cells_kept c.recycle-event.ensures.spare c.hold_all-least.ensures.cells long was);
    }
