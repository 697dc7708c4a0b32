-- The serials of pending events, as events come and go.
use Rattle.std.proofs.Common.{◌≡◌, ℕ, ◌+◌, ◌<◌, List, [], ◌++◌, length, length-append, sym, ap, subst, arith}
use Rattle.std.proofs.lemmas.List.Sorted.{length_permutation}
use Rattle.model_core.specs.declared.event.Event.{Event}
use Rattle.key_order.specs.Keys.{IsNewKey}
use Rattle.key_order.specs.Pending.{enqueue}
use Rattle.key_order.specs.Serials.{SerialsBelow}
use Rattle.key_order.proofs.EachLemmas.{Each-back}
use Rattle.key_order.proofs.EnqueueLemmas.{Each-enqueue, length-enqueue}
use Rattle.key_order.proofs.MemberLemmas.{Each-permutation}
use Rattle.key_order.proofs.SerialLemmas.{SerialsBelow-le, new-serial}
use Rattle.tick_queue.specs.Levels.{HasLeft}
use Rattle.tick_queue.specs.Queues.{QueueView}
use Rattle.base_tests.specs.Serials.{HasSerialsBelow}

pub counted_none : (q : QueueView) → q.pending ≡ [] → HasSerialsBelow 0 q
counted_none q none =
    let P : List Event → Type 0 = SerialsBelow 0 0 in
    record { below = subst P (sym none) tt; few = let no = ap length none in omega (arith, no) }

pub counted_new : (serial : ℕ) (q : QueueView) (e : Event) → HasSerialsBelow serial q → e.key.src ≡ 0 → e.key.serial ≡ serial → IsNewKey e.key q.pending
counted_new serial q e h src is =
    let P : ℕ → Type 0 = λ o. SerialsBelow o e.key.serial q.pending in
    let Q : ℕ → Type 0 = λ n. SerialsBelow 0 n q.pending in
    new-serial e.key q.pending (subst P (sym src) (subst Q (sym is) h.below))

pub counted_pushed : (serial : ℕ) (old now : QueueView) (e : Event) → HasSerialsBelow serial old → e.key.serial ≡ serial → now.pending ≡ enqueue e old.pending → HasSerialsBelow (serial + 1) now
counted_pushed serial old now e h is pushed =
    let P : List Event → Type 0 = SerialsBelow 0 (serial + 1) in
    let long = length-enqueue e old.pending in
    let same = ap length pushed in
    let few = h.few in
    record {
      below = subst P (sym pushed) (Each-enqueue (λ (x : Event). x.key.src ≡ 0 → x.key.serial < serial + 1) e old.pending (λ _. omega arith) (SerialsBelow-le 0 serial (serial + 1) old.pending (omega arith) h.below));
      few = omega arith;
    }

pub counted_left : (serial : ℕ) (old now : QueueView) → HasSerialsBelow serial old → HasLeft old.pending now.pending → HasSerialsBelow serial now
counted_left serial old now h left =
    let long = length_permutation old.pending (left.0 ++ now.pending) left.1 in
    let both = length-append left.0 now.pending in
    let few = h.few in
    record {
      below = Each-back (λ (x : Event). x.key.src ≡ 0 → x.key.serial < serial) left.0 now.pending
          (Each-permutation (λ (x : Event). x.key.src ≡ 0 → x.key.serial < serial) old.pending (left.0 ++ now.pending) left.1 h.below);
      few = omega arith;
    }
