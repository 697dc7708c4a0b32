-- The horizon, and the event that is due below it.
use Rattle.std.proofs.Common.{◌≡◌, ℕ, ◌<◌, ◌≤◌, min, List, [], ◌∷◌, sym, refl, ap, ◌∙◌, subst, arith}
use Rattle.std.specs.Prelude.{Some, None}
use Rattle.event_key.specs.declared.stamp.TheConstants.{NO_STAMP}
use Rattle.event_key.specs.Stamps.{end_stamp}
use Rattle.model_core.specs.declared.event.Event.{Event}
use Rattle.sim_spec.specs.declared.terms.Terms.{Terms}
use Rattle.key_order.specs.Stamps.{least_stamp}
use Rattle.sim_spec.specs.Firing.{ObjectState}
use Rattle.key_order.specs.Keys.{first_key}
use Rattle.tick_queue.specs.Near.{StartsWith}
use Rattle.tick_queue.specs.Queues.{QueueView, IsSettled}
use Rattle.one_thread.specs.Engines.{Course}
use Rattle.one_thread.specs.Turns.{horizon_of, NoneDue, HasDue, IsFull}

least_stamp-min : (a b : ℕ) (es : List Event) → min (least_stamp a es) b ≡ least_stamp (min a b) es
unfolding least_stamp
least_stamp-min a b [] = refl
least_stamp-min a b (e ∷ es) =
    let same : min (min a e.key.stamp) b ≡ min (min a b) e.key.stamp = omega arith in
    least_stamp-min (min a e.key.stamp) b es ∙ ap (λ h. least_stamp h es) same

-- the least stamp and the end make the horizon
pub horizon_is : (t : Terms) (fresh : List Event) (least end h : ℕ) → h ≡ min least end → least ≡ least_stamp NO_STAMP fresh → end ≡ end_stamp t.end → h ≡ least_stamp (end_stamp t.end) fresh
horizon_is t fresh least end h is_h is_least is_end =
    let early = t.end_in_range in
    let below : min NO_STAMP (end_stamp t.end) ≡ end_stamp t.end = omega arith in
    is_h ∙ ap (λ a. min a end) is_least ∙ ap (min (least_stamp NO_STAMP fresh)) is_end ∙ least_stamp-min NO_STAMP (end_stamp t.end) fresh ∙ ap (λ h. least_stamp h fresh) below

pub nothing_due : (h : ℕ) (es : List Event) → es ≡ [] → NoneDue h es
nothing_due h es is = let P : List Event → Type 0 = NoneDue h in subst P (sym is) tt

pub late_due : (h : ℕ) (es : List Event) (e : Event) → StartsWith es e → h ≤ e.key.stamp → NoneDue h es
late_due h es e starts late = let P : List Event → Type 0 = NoneDue h in subst P (sym starts.1) late

pub is_due : (t : Terms) (c : Course) (h : ℕ) (e : Event) → h ≡ horizon_of t c → StartsWith c.queue.pending e → e.key.stamp < h → HasDue t c
is_due t c h e is_h starts early = (e, starts.0, record { first = starts.1; early = omega arith })

pub is_full : (t : Terms) (c : Course) → HasDue t c → c.count ≡ t.limit → IsFull t c
is_full t c due full = record { event = due.0; rest = due.1; due = due.2; full = full }

-- the horizon that is computed
pub horizon_read : (t : Terms) (value : Course) (objects : List ObjectState) (queue : QueueView) (count h least end : ℕ) → record { objects = objects; queue = queue; count = count } ≡ value
    → h ≡ min least end → least ≡ queue.fresh_least → end ≡ end_stamp t.end → h ≡ horizon_of t value
horizon_read t value objects queue count h least end is is_h is_least is_end =
    is_h ∙ (λ i. min (is_least i) (is_end i)) ∙ ap (horizon_of t) is

-- the first event of a simulation that is known by its parts
pub starts_read : (value : Course) (objects : List ObjectState) (queue : QueueView) (count : ℕ) (e : Event) → record { objects = objects; queue = queue; count = count } ≡ value → StartsWith queue.pending e
    → StartsWith value.queue.pending e
starts_read value objects queue count e is starts = let P : Course → Type 0 = λ v. StartsWith v.queue.pending e in subst P is starts

pub none_read : (value : Course) (objects : List ObjectState) (queue : QueueView) (count : ℕ) → record { objects = objects; queue = queue; count = count } ≡ value → queue.at_hand ≡ 0 → IsSettled value.queue
    → value.queue.pending ≡ []
none_read value objects queue count is none settled = settled (ap (λ (v : Course). v.queue.at_hand) (sym is) ∙ none)

-- the key of the first pending event
pub first_read : (value : Course) (objects : List ObjectState) (queue : QueueView) (count : ℕ) (e : Event) → record { objects = objects; queue = queue; count = count } ≡ value → StartsWith queue.pending e
    → Some e.key ≡ first_key value.queue.pending
first_read value objects queue count e is starts = sym (ap first_key starts.1) ∙ ap (λ (v : Course). first_key v.queue.pending) is

pub no_first : (value : Course) (objects : List ObjectState) (queue : QueueView) (count : ℕ) → record { objects = objects; queue = queue; count = count } ≡ value → queue.at_hand ≡ 0 → IsSettled value.queue
    → None ≡ first_key value.queue.pending
no_first value objects queue count is none settled = sym (ap first_key (none_read value objects queue count is none settled))
