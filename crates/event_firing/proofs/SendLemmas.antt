-- The sends of an event, one after another.
use Rattle.std.proofs.lemmas.Bool.{or_parts}
use Rattle.std.proofs.Common.{◌≡◌, ℕ, ◌+◌, ◌<◌, ◌≤◌, false, List, [], ◌∷◌, ◌++◌, length, get_or, drop, sym, ◌∙◌, ap, subst, append_assoc}
use Rattle.std.proofs.lemmas.List.{drop_more, append-nil}
use Rattle.std.proofs.Math.ListN.{drop_of_length-le}
use Rattle.event_key.specs.Stamps.{has_no_step}
use Rattle.model_core.specs.declared.event.Event.{Event}
use Rattle.model_core.specs.declared.event.Send.{Send}
use Rattle.model_core.specs.Meaning.{SendsInRange}
use Rattle.sim_spec.specs.Firing.{has_endless_chain, emission, emissions}

chain-cons : (stamp : ℕ) (s : Send) (ss : List Send) → has_endless_chain stamp (s ∷ ss) ≡ false → (has_no_step stamp s.delay ≡ false) × (has_endless_chain stamp ss ≡ false)
unfolding has_endless_chain
chain-cons stamp s ss h = or_parts _ _ h

-- what is known of the send at a place, and of those behind it
pub chain_at : (stamp : ℕ) (ss : List Send) (i : ℕ) (d : Send) → i < length ss → has_endless_chain stamp (drop i ss) ≡ false → (has_no_step stamp (get_or ss i d).delay ≡ false) × (has_endless_chain stamp (drop (i + 1) ss) ≡ false)
chain_at stamp ss i d below h =
    let P : List Send → Type 0 = λ ys. has_endless_chain stamp ys ≡ false in
    chain-cons stamp (get_or ss i d) (drop (i + 1) ss) (subst P (drop_more ss i d below) h)

pub ranged_more : (objects : ℕ) (ss : List Send) (i : ℕ) → i < length ss → SendsInRange objects (drop i ss) → SendsInRange objects (drop (i + 1) ss)
ranged_more objects ss i below h =
    let d : Send = record { dest = 0; delay = 0; kind = 0; a = 0; b = 0; rank = 0 } in
    let P : List Send → Type 0 = SendsInRange objects in
    (subst P (drop_more ss i d below) h).3

-- one event more of those that are sent
pub sent_more : (stamp object serial : ℕ) (ss : List Send) (i : ℕ) (d : Send) (fresh now all : List Event) → i < length ss
    → now ≡ fresh ++ emission stamp object serial (get_or ss i d) ∷ [] → fresh ++ emissions stamp object serial (drop i ss) ≡ all
    → now ++ emissions stamp object (serial + 1) (drop (i + 1) ss) ≡ all
unfolding emissions
sent_more stamp object serial ss i d fresh now all below is_now is_all =
    let one : Event = emission stamp object serial (get_or ss i d) in
    let more : List Event = emissions stamp object (serial + 1) (drop (i + 1) ss) in
    ap (λ xs. xs ++ more) is_now ∙ append_assoc fresh (one ∷ []) more
    ∙ ap (λ ys. fresh ++ emissions stamp object serial ys) (sym (drop_more ss i d below)) ∙ is_all

-- all of them
pub sent_all : (stamp object serial : ℕ) (ss : List Send) (i : ℕ) (fresh all : List Event) → length ss ≤ i → fresh ++ emissions stamp object serial (drop i ss) ≡ all → fresh ≡ all
unfolding emissions
sent_all stamp object serial ss i fresh all past is_all =
    sym (append-nil fresh) ∙ ap (λ ys. fresh ++ emissions stamp object serial ys) (sym (drop_of_length-le ss past)) ∙ is_all
