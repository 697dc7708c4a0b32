-- The events of a queue are read out, each taken and given back.
use Rattle.std.proofs.Common.{◌≡◌, ◌+◌, ◌≤◌, List, [], ◌∷◌, ◌++◌, length, append-nil, append_assoc, refl, sym, ap, ◌∙◌, subst, arith, length-append}
use Rattle.std.specs.Prelude.{All}
use Rattle.std.proofs.lemmas.List.Elements.{All-nil, All-cons}
use Rattle.std.proofs.lemmas.List.Sorted.{IsPermutation-append_comm}
use Rattle.model_core.specs.declared.event.Event.{Event}
use Rattle.key_order.specs.Ascending.{IsAscending, key_of}
use Rattle.key_order.specs.Keys.{IsNewKey}
use Rattle.key_order.specs.Pending.{enqueue_all}
use Rattle.key_order.proofs.ArrivalLemmas.{enqueue_all-ascending}
use Rattle.key_order.proofs.InOrder.{in_order-same}
use Rattle.key_order.proofs.KeyLemmas.{Differ-permutation}
use Rattle.speedes_queue.specs.Queues.{IsOrderly, QueueView, pending_of}

-- some events are in hand and read, and the others wait
pub record IsReading (old : QueueView) (into : List Event) (now : QueueView) (hand read : List Event) : Type 0 where
  pub pending : pending_of old ≡ hand ++ pending_of now
  pub read_is : read ≡ into ++ hand
  pub spare : old.spare ≤ now.spare

pub reading-start : (q : QueueView) (into hand read : List Event) → hand ≡ [] → read ≡ into → IsReading q into q hand read
reading-start q into hand read none same = record {
  pending = ap (λ es. es ++ pending_of q) (sym none);
  read_is = same ∙ sym (append-nil into) ∙ ap (λ es. into ++ es) (sym none);
  spare = omega arith;
}

pub reading-more : (old : QueueView) (into : List Event) (now next : QueueView) (hand more read longer : List Event) (e : Event) → IsReading old into now hand read
    → pending_of now ≡ e ∷ pending_of next → now.spare ≤ next.spare → more ≡ hand ++ e ∷ [] → longer ≡ read ++ e ∷ [] → IsReading old into next more longer
reading-more old into now next hand more read longer e so_far takes room hand_is read_is = record {
  pending = so_far.pending ∙ ap (λ es. hand ++ es) takes ∙ sym (append_assoc hand (e ∷ []) (pending_of next)) ∙ ap (λ es. es ++ pending_of next) (sym hand_is);
  read_is = read_is ∙ ap (λ es. es ++ e ∷ []) so_far.read_is ∙ append_assoc into hand (e ∷ []) ∙ ap (λ es. into ++ es) (sym hand_is);
  spare = (let before = so_far.spare in omega arith);
}

-- what is in hand is no longer than what waited
pub reading-few : (old : QueueView) (into : List Event) (now : QueueView) (hand read : List Event) → IsReading old into now hand read → length hand + length (pending_of now) ≡ length (pending_of old)
reading-few old into now hand read so_far = sym (ap length so_far.pending ∙ length-append hand (pending_of now))

pub pending-up : (q : QueueView) → IsOrderly q → IsAscending (pending_of q)
pending-up q orderly =
    enqueue_all-ascending q.fresh q.primary (Differ-permutation key_of (q.primary ++ q.fresh) (q.fresh ++ q.primary) (IsPermutation-append_comm q.primary q.fresh) orderly.distinct) orderly.ascending

new-of : (es : List Event) → All (λ e. IsNewKey e.key []) es
new-of [] = All-nil (λ (e : Event). IsNewKey e.key [])
new-of (e ∷ es) = All-cons (λ (e : Event). IsNewKey e.key []) e es refl (new-of es)

-- where nothing waits, each key is new
pub reading-new : (now : QueueView) (hand : List Event) → now.primary ≡ [] → now.fresh ≡ [] → All (λ e. IsNewKey e.key (now.primary ++ now.fresh)) hand
reading-new now hand primary fresh = subst (λ es. All (λ e. IsNewKey e.key es) hand) (λ i. sym primary i ++ sym fresh i) (new-of hand)

-- all are in hand
module _ (old : QueueView) (into : List Event) (now : QueueView) (hand read : List Event) (so_far : IsReading old into now hand read) (primary : now.primary ≡ []) (fresh : now.fresh ≡ []) where
  pub reading-all : hand ≡ pending_of old
  unfolding enqueue_all
  reading-all =
      let none : pending_of now ≡ [] = (λ i. enqueue_all (fresh i) (primary i)) in
      sym (so_far.pending ∙ ap (λ es. hand ++ es) none ∙ append-nil hand)

  pub reading-back : (new : QueueView) → IsAscending (pending_of old) → new.primary ≡ enqueue_all hand now.primary → new.fresh ≡ now.fresh → pending_of new ≡ pending_of old
  unfolding enqueue_all
  reading-back new up primary_is fresh_is =
      (λ i. enqueue_all ((fresh_is ∙ fresh) i) ((primary_is ∙ (λ j. enqueue_all (reading-all j) (primary j))) i)) ∙ in_order-same (pending_of old) up
