-- A receipt leaves a node that stands for the share with what arrived.
use Rattle.std.proofs.Common.{Bool, List, ap, arith, drop, length, length-take, min, subst, sym, take, take-append-drop, true, ℕ, ◌&&◌, ◌++◌, ◌<◌, ◌∙◌, ◌≡◌, ◌≤◌}
use Rattle.std.proofs.lemmas.List.{drop-append-le, take-take}
use Rattle.std.specs.List.{AllByRecursion as Each}
use Rattle.event_key.specs.Stamps.{end_stamp}
use Rattle.model_core.specs.Meaning.{Meaning}
use Rattle.model_core.specs.declared.event.Event.{Event}
use Rattle.key_order.specs.Ascending.{IsAscending}
use Rattle.key_order.specs.Pending.{enqueue_all}
use Rattle.sim_spec.specs.Replay.{events_at, replay, taken}
use Rattle.sim_spec.specs.declared.terms.Terms.{Terms}
use Rattle.key_order.proofs.EachLemmas.{Each-take}
use Rattle.sim_spec.proofs.PartLemmas.{events_at-append, events_at-enqueue_all}
use Rattle.key_order.proofs.EnqueueLemmas.{enqueue_all-append}
use Rattle.world_spec.specs.Early.{is_before_all, leading}
use Rattle.world_spec.specs.Moves.{IsReceipt, received, received_ahead}
use Rattle.world_spec.specs.NodeLaws.{ReceiptLaw, ReceiptsLaw}
use Rattle.world_spec.specs.Share.{IsAhead, IsAtHome, IsHome, NodeData, Share, StandsFor, ahead_events, log_of}
use Rattle.world_spec.proofs.FrontLemmas.{before_all-append, front-enqueue_all, leading-both, leading-le, leading-pass}
use Rattle.sim_spec.proofs.TakenLemmas.{taken-le, taken-take}

-- the front of a log that was taken to its end
pub front-ahead : (m : Meaning) (t : Terms) (share : Share) (object n j : ℕ) (es : List Event) → IsAhead m t share object n → IsAscending (enqueue_all es share.pending) → j ≤ length (ahead_events share object n)
    → Each (λ (e : Event). is_before_all (events_at object es) e ≡ true) (take j (ahead_events share object n))
    → (ahead_events (received es share) object j ≡ ahead_events share object j) × (log_of m (received es share) object j ≡ log_of m share object j) × IsAhead m t (received es share) object j
    × (drop j (events_at object (received es share).pending) ≡ enqueue_all (events_at object es) (drop j (ahead_events share object n) ++ drop n (events_at object share.pending)))
unfolding log_of
front-ahead m t share object n j es ahead up few before =
    let evs = events_at object share.pending in
    let base = share.states object in
    let short : length (take n evs) ≡ min n (length evs) = length-take n evs in
    let cut : take j (take n evs) ≡ take j evs = take-take j n evs (omega arith) in
    let P : List Event → Type 0 = Each (λ (e : Event). is_before_all (events_at object es) e ≡ true) in
    let all : events_at object (enqueue_all es share.pending) ≡ enqueue_all (events_at object es) evs = events_at-enqueue_all object es share.pending up in
    let inside : j ≤ length evs = omega arith in
    let first : take j (events_at object (enqueue_all es share.pending)) ≡ take j evs = ap (take j) all ∙ (front-enqueue_all j (events_at object es) evs inside (subst P cut before)).0 in
    let last : drop j (events_at object (enqueue_all es share.pending)) ≡ enqueue_all (events_at object es) (drop j evs) = ap (drop j) all ∙ (front-enqueue_all j (events_at object es) evs inside (subst P cut before)).1 in
    let parts : drop j evs ≡ drop j (take n evs) ++ drop n evs =
    ap (drop j) (sym (take-append-drop n evs)) ∙ drop-append-le j (take n evs) (drop n evs) few in
    let whole : taken (replay m object base (take n evs)) ≡ n = ahead.whole in
    let le : taken (replay m object base (take n evs)) ≤ length (take n evs) = taken-le m object base (take n evs) in
    let full : taken (replay m object base (take n evs)) ≡ length (take n evs) = omega arith in
    let front : taken (replay m object base (take j (take n evs))) ≡ length (take j (take n evs)) = taken-take m object j base (take n evs) full in
    let long : length (take j (take n evs)) ≡ min j (length (take n evs)) = length-take j (take n evs) in
    let B : List Event → Type 0 = Each (λ (e : Event). e.key.stamp < end_stamp t.end) in (
      first,
      ap (replay m object base) first,
      record {
        whole = ap (λ xs. taken (replay m object base xs)) (first ∙ sym cut) ∙ front ∙ (let same : length (take j (take n evs)) ≡ j = omega arith in same);
        below = subst B (sym (first ∙ sym cut)) (Each-take (λ (e : Event). e.key.stamp < end_stamp t.end) j (take n evs) ahead.below);
      },
      last ∙ ap (enqueue_all (events_at object es)) parts,
    )

-- a node that receives events stands for the share with them
pub receipt-stands : (m : Meaning) (t : Terms) (home : ℕ → ℕ) (node : ℕ) (es : List Event) (share : Share) (ahead : ℕ → ℕ) (old new : NodeData)
    → StandsFor m t home node share ahead old → IsAscending (enqueue_all es share.pending) → Each (IsAtHome m home node) (enqueue_all es share.pending) → IsReceipt m home node es share ahead old new
    → StandsFor m t home node (received es share) (received_ahead es share ahead) new
unfolding received_ahead
receipt-stands m t home node es share ahead old new stands up homed receipt =
    let test : ℕ → Event → Bool = λ object. is_before_all (events_at object es) in
    let kept : ℕ → ℕ = λ object. leading (test object) (ahead_events share object (ahead object)) in
    let front = λ (object : ℕ) (at : IsHome m home node object). front-ahead m t share object (ahead object) (kept object) es (stands.early object at) up (leading-le (test object) (ahead_events share object (ahead object))) (leading-pass (test object) (ahead_events share object (ahead object))) in
    record {
      ordered = up;
      homed = homed;
      cells = stands.cells;
      early = λ object at. (front object at).2;
      logs = λ object at. receipt.logs object at ∙ sym (front object at).1;
      waiting_ordered = receipt.ordered;
      waiting_homed = receipt.homed;
      waiting = λ object at. receipt.waits object at
          ∙ ap (λ xs. enqueue_all (events_at object es) (drop (kept object) (ahead_events share object (ahead object)) ++ xs)) (stands.waiting object at)
          ∙ sym (front object at).3;
    }

received_ahead-append : (es fs : List Event) (share : Share) (ahead : ℕ → ℕ) (object : ℕ) → IsAscending (enqueue_all es share.pending) → ahead object ≤ length (events_at object share.pending)
    → received_ahead (es ++ fs) share ahead object ≡ received_ahead fs (received es share) (received_ahead es share ahead) object
unfolding received_ahead
received_ahead-append es fs share ahead object up few =
    let evs = events_at object share.pending in
    let xs = take (ahead object) evs in
    let p = is_before_all (events_at object es) in
    let q = is_before_all (events_at object fs) in
    let r = is_before_all (events_at object (es ++ fs)) in
    let same : (e : Event) → r e ≡ (p e && q e) = λ (e : Event). ap (λ ms. is_before_all ms e) (events_at-append object es fs) ∙ before_all-append (events_at object es) (events_at object fs) e in
    let short : length xs ≡ min (ahead object) (length evs) = length-take (ahead object) evs in
    let le : leading p xs ≤ length xs = leading-le p xs in
    let cut : take (leading p xs) xs ≡ take (leading p xs) evs = take-take (leading p xs) (ahead object) evs (omega arith) in
    let P : List Event → Type 0 = Each (λ (e : Event). p e ≡ true) in
    let front : take (leading p xs) (events_at object (enqueue_all es share.pending)) ≡ take (leading p xs) evs =
    ap (take (leading p xs)) (events_at-enqueue_all object es share.pending up)
    ∙ (front-enqueue_all (leading p xs) (events_at object es) evs (omega arith) (subst P cut (leading-pass p xs))).0 in
    leading-both p q r xs same ∙ ap (leading q) (cut ∙ sym front)

pub receipt_law : (m : Meaning) (t : Terms) → ReceiptLaw m t
receipt_law m t home node es share ahead old new stands up homed receipt = receipt-stands m t home node es share ahead old new stands up homed receipt

pub receipts_law : ReceiptsLaw
receipts_law es fs share ahead up = record {
  share_of = ap (λ xs. record share { pending = xs }) (enqueue_all-append es fs share.pending);
  ahead_of = λ object few. received_ahead-append es fs share ahead object up few;
}
