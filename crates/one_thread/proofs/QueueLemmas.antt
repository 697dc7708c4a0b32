-- Events on their way to the queue: their keys, and what is left of what an event sends.
use Rattle.std.proofs.Common.{◌≡◌, ℕ, ◌+◌, ◌<◌, ◌≤◌, min, List, [], ◌∷◌, ◌++◌, length, drop, get_or, sym, ap, ◌∙◌, subst, arith}
use Rattle.std.proofs.lemmas.List.{drop_more, drop_all}
use Rattle.model_core.specs.declared.event.Event.{Event}
use Rattle.model_core.specs.declared.event.Send.{Send}
use Rattle.sim_spec.specs.Firing.{emission, emissions}
use Rattle.key_order.specs.Keys.{IsNewKey}
use Rattle.key_order.specs.Pending.{enqueue, enqueue_all, in_order}
use Rattle.key_order.specs.Serials.{SerialsBelow}
use Rattle.key_order.specs.Stamps.{least_stamp}
use Rattle.key_order.proofs.EnqueueLemmas.{Each-enqueue, enqueue_all-append}
use Rattle.key_order.proofs.SerialLemmas.{SerialsBelow-le, new-serial}

pub new_key : (e : Event) (object serial : ℕ) (es : List Event) → e.key.src ≡ object → e.key.serial ≡ serial → SerialsBelow object serial es → IsNewKey e.key es
new_key e object serial es is_src is_serial below =
    let Q : ℕ → Type 0 = λ o. SerialsBelow o serial es in
    let R : ℕ → Type 0 = λ n. SerialsBelow e.key.src n es in
    new-serial e.key es (subst R (sym is_serial) (subst Q (sym is_src) below))

-- an event of this serial leaves the next serial free
pub one_event_more : (object serial : ℕ) (e : Event) (old new : List Event) → new ≡ enqueue e old → e.key.serial ≡ serial → SerialsBelow object serial old → SerialsBelow object (serial + 1) new
one_event_more object serial e old new is_new is_serial below =
    let P : List Event → Type 0 = SerialsBelow object (serial + 1) in
    subst P (sym is_new) (Each-enqueue (λ (x : Event). x.key.src ≡ object → x.key.serial < serial + 1) e old (λ _. omega arith) (SerialsBelow-le object serial (serial + 1) old (omega arith) below))

pub none_below : (object n : ℕ) (es : List Event) → es ≡ [] → SerialsBelow object n es
none_below object n es is = let P : List Event → Type 0 = SerialsBelow object n in subst P (sym is) tt

-- one more in order
pub in_order_more : (es : List Event) (e : Event) (old new : List Event) → old ≡ in_order es → new ≡ enqueue e old → new ≡ in_order (es ++ e ∷ [])
unfolding enqueue_all
in_order_more es e old new is_old is_new = is_new ∙ ap (enqueue e) is_old ∙ sym (enqueue_all-append es (e ∷ []) [])

-- what is left of what is sent
pub sent_more : (stamp object serial : ℕ) (ss : List Send) (i : ℕ) (d : Send) (e : Event) (old new all : List Event) → i < length ss → e ≡ emission stamp object serial (get_or ss i d)
    → new ≡ enqueue e old → enqueue_all (emissions stamp object serial (drop i ss)) old ≡ all → enqueue_all (emissions stamp object (serial + 1) (drop (i + 1) ss)) new ≡ all
unfolding emissions enqueue_all
sent_more stamp object serial ss i d e old new all below is_e is_new is_all =
    let more : List Event = emissions stamp object (serial + 1) (drop (i + 1) ss) in
    ap (enqueue_all more) (is_new ∙ ap (λ x. enqueue x old) is_e) ∙ ap (λ ys. enqueue_all (emissions stamp object serial ys) old) (sym (drop_more ss i d below)) ∙ is_all

pub least_more : (stamp object serial : ℕ) (ss : List Send) (i : ℕ) (d : Send) (e : Event) (old new all : ℕ) → i < length ss → e ≡ emission stamp object serial (get_or ss i d)
    → new ≡ min old e.key.stamp → least_stamp old (emissions stamp object serial (drop i ss)) ≡ all → least_stamp new (emissions stamp object (serial + 1) (drop (i + 1) ss)) ≡ all
unfolding emissions least_stamp
least_more stamp object serial ss i d e old new all below is_e is_new is_all =
    let more : List Event = emissions stamp object (serial + 1) (drop (i + 1) ss) in
    ap (λ n. least_stamp n more) (is_new ∙ ap (λ (x : Event). min old x.key.stamp) is_e) ∙ ap (λ ys. least_stamp old (emissions stamp object serial ys)) (sym (drop_more ss i d below)) ∙ is_all

-- all is sent
pub sent_all : (stamp object serial : ℕ) (ss : List Send) (i : ℕ) (old all : List Event) → length ss ≤ i → enqueue_all (emissions stamp object serial (drop i ss)) old ≡ all → old ≡ all
unfolding emissions enqueue_all
sent_all stamp object serial ss i old all past is_all = ap (λ ys. enqueue_all (emissions stamp object serial ys) old) (sym (drop_all i ss past)) ∙ is_all

pub least_all : (stamp object serial : ℕ) (ss : List Send) (i : ℕ) (old all : ℕ) → length ss ≤ i → least_stamp old (emissions stamp object serial (drop i ss)) ≡ all → old ≡ all
unfolding emissions least_stamp
least_all stamp object serial ss i old all past is_all = ap (λ ys. least_stamp old (emissions stamp object serial ys)) (sym (drop_all i ss past)) ∙ is_all
