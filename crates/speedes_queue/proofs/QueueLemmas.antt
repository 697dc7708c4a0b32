-- What a queue keeps.
use Rattle.std.proofs.Common.{◌≡◌, ℕ, ◌+◌, ◌<◌, ◌^◌, List, [], ◌∷◌, ◌++◌, length, length-append, append_assoc, append-nil, sym, ap, ◌∙◌, subst, arith}
use Rattle.std.specs.Prelude.{All, IsPermutation}
use Rattle.std.proofs.lemmas.List.Elements.{All-head, All-tail}
use Rattle.std.proofs.lemmas.List.Sorted.{IsPermutation-sym, IsPermutation-trans, IsPermutation-append_left, IsPermutation-append_comm, IsPermutation-to_front, length_permutation}
use Rattle.model_core.specs.declared.event.Event.{Event}
use Rattle.key_order.specs.Ascending.{IsAscending, key_of, Ascends}
use Rattle.key_order.specs.Pending.{enqueue_all, in_order}
use Rattle.key_order.specs.Keys.{IsNewKey, KeysDiffer}
use Rattle.speedes_queue.specs.Queues.{QueueView, IsOrderly}
use Rattle.key_order.proofs.KeyLemmas.{Differ-permutation, Differ-prefix, Differ-back, Differ-none, Differ-cons, new-append, Differ-first, Ascends-differ}
use Rattle.key_order.proofs.ArrivalLemmas.{enqueue_all-permutation, enqueue_all-ascending, enqueue_all-is}
use Rattle.key_order.proofs.InOrder.{in_order-permutation, length-in_order, in_order-ascending}

abbrev pub view : List Event → List Event → ℕ → QueueView
view primary fresh spare = record { primary = primary; fresh = fresh; spare = spare }

pub orderly-none : (primary fresh : List Event) (spare : ℕ) → primary ≡ [] → fresh ≡ [] → IsOrderly (view primary fresh spare)
unfolding Ascends
orderly-none primary fresh spare no_primary no_fresh =
    let up : IsAscending [] = tt in
    let none : primary ++ fresh ≡ [] = ap (λ w. w ++ fresh) no_primary ∙ no_fresh in
    record {
      ascending = subst IsAscending (sym no_primary) up;
      distinct = subst KeysDiffer (sym none) (Differ-none key_of);
      few = (let a = ap length no_primary in let b = ap length no_fresh in omega arith);
    }

pub orderly-pushed : (primary fresh now : List Event) (spare left : ℕ) (e : Event) → IsOrderly (view primary fresh spare) → IsNewKey e.key (primary ++ fresh)
    → length primary + length fresh + 1 < 2 ^ 60 → now ≡ fresh ++ e ∷ [] → IsOrderly (view primary now left)
orderly-pushed primary fresh now spare left e h new room is =
    let all : List Event = primary ++ fresh in
    let at_front : KeysDiffer (e ∷ all) = Differ-cons key_of e all new h.distinct in
    let at_back : KeysDiffer (all ++ e ∷ []) = Differ-permutation key_of (e ∷ all) (all ++ e ∷ []) (IsPermutation-sym (all ++ e ∷ []) (e ∷ all) (IsPermutation-to_front all e)) at_front in
    record {
      ascending = h.ascending;
      distinct = (subst KeysDiffer (append_assoc primary fresh (e ∷ []) ∙ ap (λ w. primary ++ w) (sym is)) at_back);
      few = (let long = ap length is ∙ length-append fresh (e ∷ []) in omega arith);
    }

-- a sorted list of new events
differ-append : (es xs : List Event) → KeysDiffer es → KeysDiffer xs → All (λ e. IsNewKey e.key xs) es → KeysDiffer (es ++ xs)
differ-append [] xs differ more new = more
differ-append (e ∷ es) xs differ more new =
    let P : Event → Type 0 = λ e. IsNewKey e.key xs in
    Differ-cons key_of e (es ++ xs) (new-append key_of e.key es xs (Differ-first key_of e es differ) (All-head P e es new))
    (differ-append es xs (Differ-back key_of (e ∷ []) es differ) more (All-tail P e es new))

-- what is given to a queue
pub record Gives (run primary fresh : List Event) (spare : ℕ) : Type 0 where
  pub orderly : IsOrderly (view primary fresh spare)
  pub ascending : IsAscending run
  pub new_keys : All (λ e. IsNewKey e.key (primary ++ fresh)) run
  pub room : length run + length primary + length fresh < 2 ^ 60

-- what is given to a queue that is seen so
pub gives : (run primary fresh : List Event) (spare : ℕ) (q : QueueView) → view primary fresh spare ≡ q → IsOrderly (view primary fresh spare) → IsAscending run
    → All (λ e. IsNewKey e.key (q.primary ++ q.fresh)) run → length run + length q.primary + length q.fresh < 2 ^ 60 → Gives run primary fresh spare
gives run primary fresh spare q is orderly ascending new_keys room =
    let P : QueueView → Type 0 = λ q. All (λ (e : Event). IsNewKey e.key (q.primary ++ q.fresh)) run in
    let Q : QueueView → Type 0 = λ q. length run + length q.primary + length q.fresh < 2 ^ 60 in
    record { orderly = orderly; ascending = ascending; new_keys = subst P (sym is) new_keys; room = subst Q (sym is) room }

all_apart : (run primary fresh : List Event) (spare : ℕ) → Gives run primary fresh spare → KeysDiffer ((run ++ primary) ++ fresh)
all_apart run primary fresh spare g =
    subst KeysDiffer (sym (append_assoc run primary fresh))
    (differ-append run (primary ++ fresh) (Ascends-differ key_of run g.ascending) g.orderly.distinct g.new_keys)

pub given_differs : (run primary fresh : List Event) (spare : ℕ) → Gives run primary fresh spare → KeysDiffer (run ++ primary)
given_differs run primary fresh spare g = (Differ-prefix key_of (run ++ primary) fresh (all_apart run primary fresh spare g))

pub orderly-given : (run primary fresh now : List Event) (spare left : ℕ) → Gives run primary fresh spare → now ≡ enqueue_all run primary → IsOrderly (view now fresh left)
orderly-given run primary fresh now spare left g is =
    let h = all_apart run primary fresh spare g in
    let placed : List Event = enqueue_all run primary in
    let P : List Event → Type 0 = λ w. KeysDiffer (w ++ fresh) in
    record {
      ascending = subst IsAscending (sym is) (enqueue_all-ascending run primary (Differ-prefix key_of (run ++ primary) fresh h) g.orderly.ascending);
      distinct = (subst P (sym is)
          (Differ-permutation key_of ((run ++ primary) ++ fresh) (placed ++ fresh) (IsPermutation-append_left fresh (run ++ primary) placed (enqueue_all-permutation run primary)) h));
      few = (
          let long = ap length is ∙ length_permutation (run ++ primary) placed (enqueue_all-permutation run primary) ∙ length-append run primary in
          let room = g.room in omega arith);
    }

-- the fresh events go to their places
fresh_first : (primary fresh : List Event) (spare : ℕ) → IsOrderly (view primary fresh spare) → KeysDiffer (fresh ++ primary)
fresh_first primary fresh spare h = Differ-permutation key_of (primary ++ fresh) (fresh ++ primary) (IsPermutation-append_comm primary fresh) h.distinct

sorted_first : (primary fresh : List Event) → IsPermutation (fresh ++ primary) (in_order fresh ++ primary)
sorted_first primary fresh = IsPermutation-append_left primary fresh (in_order fresh) (in_order-permutation fresh)

pub fresh_differ : (primary fresh : List Event) (spare : ℕ) → IsOrderly (view primary fresh spare) → KeysDiffer fresh
fresh_differ primary fresh spare h = (Differ-back key_of primary fresh h.distinct)

pub run_ascending : (primary fresh run : List Event) (spare : ℕ) → IsOrderly (view primary fresh spare) → run ≡ in_order fresh → IsAscending run
run_ascending primary fresh run spare h is = subst IsAscending (sym is) (in_order-ascending fresh (Differ-back key_of primary fresh h.distinct))

pub run_differs : (primary fresh run : List Event) (spare : ℕ) → IsOrderly (view primary fresh spare) → run ≡ in_order fresh → KeysDiffer (run ++ primary)
run_differs primary fresh run spare h is =
    let P : List Event → Type 0 = λ w. KeysDiffer (w ++ primary) in
    subst P (sym is) (Differ-permutation key_of (fresh ++ primary) (in_order fresh ++ primary) (sorted_first primary fresh) (fresh_first primary fresh spare h))

pub run_room : (primary fresh run : List Event) (spare : ℕ) → IsOrderly (view primary fresh spare) → run ≡ in_order fresh → length run + length primary < 2 ^ 60
run_room primary fresh run spare h is = let long = ap length is ∙ length-in_order fresh in let few = h.few in omega arith

pub merged_is : (primary fresh run : List Event) (spare : ℕ) → IsOrderly (view primary fresh spare) → run ≡ in_order fresh → enqueue_all run primary ≡ enqueue_all fresh primary
merged_is primary fresh run spare h is =
    let first = fresh_first primary fresh spare h in
    ap (λ w. enqueue_all w primary) is
    ∙ enqueue_all-is (in_order fresh) primary (enqueue_all fresh primary)
    (Differ-permutation key_of (fresh ++ primary) (in_order fresh ++ primary) (sorted_first primary fresh) first) h.ascending
    (IsPermutation-trans (in_order fresh ++ primary) (fresh ++ primary) (enqueue_all fresh primary)
    (IsPermutation-sym (fresh ++ primary) (in_order fresh ++ primary) (sorted_first primary fresh)) (enqueue_all-permutation fresh primary))
    (enqueue_all-ascending fresh primary first h.ascending)

pub orderly-merged : (primary fresh now left : List Event) (spare more : ℕ) → IsOrderly (view primary fresh spare) → now ≡ enqueue_all fresh primary → left ≡ [] → IsOrderly (view now left more)
orderly-merged primary fresh now left spare more h is none =
    let first = fresh_first primary fresh spare h in
    let placed : List Event = enqueue_all fresh primary in
    let P : List Event → Type 0 = λ w. KeysDiffer w in
    let same : now ++ left ≡ placed = ap (λ w. w ++ left) is ∙ ap (λ w. placed ++ w) none ∙ append-nil placed in
    record {
      ascending = subst IsAscending (sym is) (enqueue_all-ascending fresh primary first h.ascending);
      distinct = subst KeysDiffer (sym same) (Differ-permutation key_of (fresh ++ primary) placed (enqueue_all-permutation fresh primary) first);
      few = (
          let long = ap length is ∙ length_permutation (fresh ++ primary) placed (enqueue_all-permutation fresh primary) ∙ length-append fresh primary in
          let short = ap length none in
          let few = h.few in omega arith);
    }
