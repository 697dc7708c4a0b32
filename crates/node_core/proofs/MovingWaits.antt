-- The events that wait for one object, and those that wait for others.
use Rattle.std.proofs.Common.{◌≡◌, ◌≢◌, ℕ, ◌+◌, ◌≤◌, Bool, cond, not, List, [], ◌∷◌, ◌++◌, length, append-nil, append_assoc, eq-eqb, ne_eqb, sym, ap, ◌∙◌, subst, arith, length-append}
use Rattle.std.specs.Prelude.{filter, ◌==◌}
use Rattle.std.proofs.lemmas.List.Sorted.{IsPermutation-append_comm}
use Rattle.model_core.specs.declared.event.Event.{Event}
use Rattle.key_order.specs.Ascending.{IsAscending, key_of}
use Rattle.key_order.specs.Pending.{enqueue_all}
use Rattle.key_order.proofs.ArrivalLemmas.{enqueue_all-ascending}
use Rattle.key_order.proofs.AscendingLemmas.{Ascends-filter}
use Rattle.key_order.proofs.KeyLemmas.{Differ-permutation}
use Rattle.sim_spec.specs.Replay.{events_at}
use Rattle.sim_spec.proofs.PartLemmas.{events_at-first, events_at-other}
use Rattle.speedes_queue.specs.Queues.{QueueView, IsOrderly, IsEmpty, pending_of}
use Rattle.node_core.proofs.GiveBackFacts.{enqueue_all-front}

-- an event of another object
abbrev pub is_elsewhere : ℕ → Event → Bool
is_elsewhere object e = not (e.key.dest == object)

-- the events that were popped so far stand in one of two chains
pub record IsParting (object : ℕ) (old now : QueueView) (own others : List Event) : Type 0 where
  pub own_is : events_at object (pending_of old) ≡ own ++ events_at object (pending_of now)
  pub others_are : filter (is_elsewhere object) (pending_of old) ≡ others ++ filter (is_elsewhere object) (pending_of now)
  pub spare : old.spare ≤ now.spare
  pub count : length own + length others + length (pending_of now) ≡ length (pending_of old)

module _ {object : ℕ} {old now next : QueueView} {own others : List Event} {e : Event} (so_far : IsParting object old now own others)
    (first : pending_of now ≡ e ∷ pending_of next) (spare : now.spare ≤ next.spare) where
  pub part-own : (own' : List Event) → e.key.dest ≡ object → own' ≡ own ++ e ∷ [] → IsParting object old next own' others
  part-own own' at is =
      let ws = pending_of next in
      let one : events_at object (e ∷ ws) ≡ e ∷ events_at object ws = (let P : ℕ → Type 0 = λ o. events_at o (e ∷ ws) ≡ e ∷ events_at o ws in subst P at (events_at-first e ws)) in
      let none : filter (is_elsewhere object) (e ∷ ws) ≡ filter (is_elsewhere object) ws = ap (λ b. cond (not b) (e ∷ filter (is_elsewhere object) ws) (filter (is_elsewhere object) ws)) (eq-eqb e.key.dest object at) in
      let a = so_far.spare in let b = so_far.count in let c = ap length first in let d = ap length is ∙ length-append own (e ∷ []) in
      record {
        own_is = so_far.own_is ∙ ap (λ xs. own ++ events_at object xs) first ∙ ap (λ xs. own ++ xs) one ∙ sym (append_assoc own (e ∷ []) (events_at object ws)) ∙ ap (λ xs. xs ++ events_at object ws) (sym is);
        others_are = so_far.others_are ∙ ap (λ xs. others ++ filter (is_elsewhere object) xs) first ∙ ap (λ xs. others ++ xs) none;
        spare = omega arith;
        count = omega arith;
      }

  pub part-other : (others' : List Event) → e.key.dest ≢ object → others' ≡ others ++ e ∷ [] → IsParting object old next own others'
  part-other others' apart is =
      let ws = pending_of next in
      let none : events_at object (e ∷ ws) ≡ events_at object ws = events_at-other object e ws (λ same. apart (sym same)) in
      let one : filter (is_elsewhere object) (e ∷ ws) ≡ e ∷ filter (is_elsewhere object) ws =
      ap (λ b. cond (not b) (e ∷ filter (is_elsewhere object) ws) (filter (is_elsewhere object) ws)) (ne_eqb e.key.dest object apart) in
      let a = so_far.spare in let b = so_far.count in let c = ap length first in let d = ap length is ∙ length-append others (e ∷ []) in
      record {
        own_is = so_far.own_is ∙ ap (λ xs. own ++ events_at object xs) first ∙ ap (λ xs. own ++ xs) none;
        others_are = so_far.others_are ∙ ap (λ xs. others ++ filter (is_elsewhere object) xs) first ∙ ap (λ xs. others ++ xs) one
            ∙ sym (append_assoc others (e ∷ []) (filter (is_elsewhere object) ws)) ∙ ap (λ xs. xs ++ filter (is_elsewhere object) ws) (sym is);
        spare = omega arith;
        count = omega arith;
      }

pub pending-up : (q : QueueView) → IsOrderly q → IsAscending (pending_of q)
pending-up q orderly = enqueue_all-ascending q.fresh q.primary (Differ-permutation key_of (q.primary ++ q.fresh) (q.fresh ++ q.primary) (IsPermutation-append_comm q.primary q.fresh) orderly.distinct) orderly.ascending

pub nothing-left : (q : QueueView) → IsEmpty q → pending_of q ≡ []
unfolding enqueue_all
nothing-left q empty = λ i. enqueue_all (empty.1 i) (empty.0 i)

module _ {object : ℕ} {old now : QueueView} {own others : List Event} (so_far : IsParting object old now own others) (empty : IsEmpty now) where
  pub parted-own : own ≡ events_at object (pending_of old)
  unfolding events_at
  parted-own = sym (so_far.own_is ∙ ap (λ ws. own ++ events_at object ws) (nothing-left now empty) ∙ append-nil own)

  pub parted-others : others ≡ filter (is_elsewhere object) (pending_of old)
  parted-others = sym (so_far.others_are ∙ ap (λ ws. others ++ filter (is_elsewhere object) ws) (nothing-left now empty) ∙ append-nil others)

  pub parted-up : IsOrderly old → IsAscending others
  parted-up orderly = subst IsAscending (sym parted-others) (Ascends-filter key_of (is_elsewhere object) (pending_of old) (pending-up old orderly))

  pub parted-back : IsOrderly old → (left new : QueueView) → left ≡ now → new.primary ≡ enqueue_all others left.primary → new.fresh ≡ left.fresh → pending_of new ≡ filter (is_elsewhere object) (pending_of old)
  unfolding enqueue_all
  parted-back orderly left new same primary fresh =
      let up = parted-up orderly in
      let p : new.primary ≡ others = primary ∙ ap (enqueue_all others) (ap (λ (q : QueueView). q.primary) same ∙ empty.0) ∙ enqueue_all-front others [] (subst IsAscending (sym (append-nil others)) up) ∙ append-nil others in
      let f : new.fresh ≡ [] = fresh ∙ ap (λ (q : QueueView). q.fresh) same ∙ empty.1 in
      (λ i. enqueue_all (f i) (p i)) ∙ parted-others
