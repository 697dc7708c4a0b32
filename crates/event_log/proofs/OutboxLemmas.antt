-- Messages that go into the chains of their homes, and come back.
use Rattle.std.proofs.Common.{◌≡◌, ℕ, zero, suc, ◌+◌, ◌<◌, ◌≤◌, Bool, true, false, cond, List, [], ◌∷◌, ◌++◌, length, map, reverse, take, get_or, eq-eqb, eqb, eqb-true, ne_eqb, refl, sym, ap, ◌∙◌, arith, length-append}
use Rattle.std.proofs.lemmas.Bool.{eqb-false}
use Rattle.std.proofs.lemmas.List.{get_or-set_same, get_or-set_other, length-map, same_from_push, take_all, take_more, length-reverse, map-append, reverse-append, reverse-reverse}
use Rattle.std.specs.Prelude.{filter, slice_set}
use Rattle.model_core.specs.declared.event.Event.{Event}
use Rattle.key_order.proofs.FilterLemmas.{length-filter_le}
use Rattle.object_log.specs.Dealing.{first_of, no_event, rest_of, without_first}
use Rattle.event_log.specs.Outboxes.{AreBlank, HoldsSent, OutboxView, chain_at, dealt, home, is_for, message, parcel, sent_of}

abbrev Sent : Type 0
Sent = ℕ × Event

abbrev lying : ℕ → List Sent → List Event
lying node ss = map message (filter (is_for node) ss)

lying-here : (s : Sent) (ss : List Sent) → lying s.0 (s ∷ ss) ≡ s.1 ∷ lying s.0 ss
lying-here s ss = ap (λ b. map message (cond b (s ∷ filter (is_for s.0) ss) (filter (is_for s.0) ss))) (eq-eqb s.0 s.0 refl)

lying-there : (node : ℕ) (s : Sent) (ss : List Sent) → (s.0 ≡ node → ⊥) → lying node (s ∷ ss) ≡ lying node ss
lying-there node s ss apart = ap (λ b. map message (cond b (s ∷ filter (is_for node) ss) (filter (is_for node) ss))) (ne_eqb s.0 node apart)

-- dealing gives them back
dealt-is : (ss : List Sent) (chains : ℕ → List Event) → ((node : ℕ) → chains node ≡ lying node ss) → dealt (map home ss) chains ≡ ss
unfolding dealt
dealt-is [] chains lie = refl
dealt-is (s ∷ ss) chains lie =
    let own : chains s.0 ≡ s.1 ∷ lying s.0 ss = lie s.0 ∙ lying-here s ss in
    let more = dealt-is ss (without_first s.0 chains) (λ node. by_node node (eqb node s.0) refl own) in
    (λ i. (s.0, first_of (own i)) ∷ more i)
  where
    by_node : (node : ℕ) → (b : Bool) → eqb node s.0 ≡ b → chains s.0 ≡ s.1 ∷ lying s.0 ss → cond b (rest_of (chains s.0)) (chains node) ≡ lying node ss
    by_node node true h own = ap rest_of own ∙ ap (λ n. lying n ss) (sym (eqb-true node s.0 h))
    by_node node false h own = lie node ∙ lying-there node s ss (λ same. eqb-false node s.0 h (sym same))

pub map-reverse : {X Y : Type 0} (f : X → Y) (xs : List X) → reverse (map f xs) ≡ map f (reverse xs)
map-reverse f [] = refl
map-reverse f (x ∷ xs) =
    reverse-append (f x ∷ []) (map f xs)
    ∙ ap (λ ys. ys ++ f x ∷ []) (map-reverse f xs)
    ∙ sym (map-append f (reverse xs) (x ∷ []))
    ∙ sym (ap (map f) (reverse-append (x ∷ []) xs))

-- so they are what contracts see
pub sent-is : (sent : List Sent) (homes : List ℕ) (chains : List (List Event)) → HoldsSent sent homes chains → sent_of homes chains ≡ sent
sent-is sent homes chains h =
    ap (λ ns. reverse (dealt (reverse ns) (chain_at chains))) h.homes_are
    ∙ ap (λ ns. reverse (dealt ns (chain_at chains))) (map-reverse home sent)
    ∙ ap reverse (dealt-is (reverse sent) (chain_at chains) h.chains_are)
    ∙ reverse-reverse sent

pub long-is : (sent : List Sent) (homes : List ℕ) (chains : List (List Event)) → HoldsSent sent homes chains → length homes ≡ length sent
long-is sent homes chains h = ap length h.homes_are ∙ length-map sent home

pub holds-none : (homes : List ℕ) (chains : List (List Event)) → homes ≡ [] → AreBlank chains → HoldsSent [] homes chains
holds-none homes chains none blank = record { homes_are = none; chains_are = blank }

-- a message more is the first of its chain
parcel-push : (node : ℕ) (ss : List Sent) (s : Sent) → parcel node (ss ++ s ∷ []) ≡ lying node (s ∷ reverse ss)
parcel-push node ss s = ap (lying node) (reverse-append ss (s ∷ []))

pub parcel-short : (node : ℕ) (ss : List Sent) → length (parcel node ss) ≤ length ss
parcel-short node ss =
    let one = length-map (filter (is_for node) (reverse ss)) message in
    let two = length-filter_le (is_for node) (reverse ss) in
    let three = length-reverse ss in
    omega arith

-- these are the messages that contracts see
pub sent-seen : {sent : List Sent} {homes : List ℕ} {chains : List (List Event)} → HoldsSent sent homes chains → (v : OutboxView) (room : ℕ)
    → ◌≡◌ {A = OutboxView} (record { sent = sent_of homes chains; nodes = length chains; room = room }) v → sent ≡ v.sent
sent-seen {sent} {homes} {chains} h v room is = sym (sent-is sent homes chains h) ∙ ap (λ (w : OutboxView). w.sent) is

pub holds-push : (sent : List Sent) (homes : List ℕ) (chains : List (List Event)) (node : ℕ) (e : Event) (chain : List Event) → HoldsSent sent homes chains → node < length chains
    → chain ≡ e ∷ chain_at chains node → HoldsSent (sent ++ (node, e) ∷ []) (homes ++ node ∷ []) (slice_set chains node chain)
holds-push sent homes chains node e chain h within is = record {
  homes_are = ap (λ ns. ns ++ node ∷ []) h.homes_are ∙ sym (map-append home sent ((node, e) ∷ []));
  chains_are = λ to. by_node to (eqb node to) refl;
}
  where
    by_node : (to : ℕ) (b : Bool) → eqb node to ≡ b → chain_at (slice_set chains node chain) to ≡ parcel to (sent ++ (node, e) ∷ [])
    by_node to true same =
        let is_to = eqb-true node to same in
        ap (λ n. chain_at (slice_set chains node chain) n) (sym is_to)
        ∙ get_or-set_same chains node chain [] within
        ∙ is
        ∙ ap (λ es. e ∷ es) (h.chains_are node)
        ∙ sym (lying-here (node, e) (reverse sent))
        ∙ sym (parcel-push node sent (node, e))
        ∙ ap (λ n. parcel n (sent ++ (node, e) ∷ [])) is_to
    by_node to false other =
        let apart = eqb-false node to other in
        get_or-set_other chains node to chain [] (λ same. apart (sym same))
        ∙ h.chains_are to
        ∙ sym (lying-there to (node, e) (reverse sent) apart)
        ∙ sym (parcel-push to sent (node, e))

-- and it comes back from there
pub record IsLast (sent : List Sent) (homes : List ℕ) (chains : List (List Event)) (front : List ℕ) (node : ℕ) : Type 0 where
  pub rest : List Sent
  pub e : Event
  pub is : sent ≡ rest ++ (node, e) ∷ []
  pub front_is : front ≡ map home rest
  pub first : chain_at chains node ≡ e ∷ parcel node rest
  pub within : node < length chains

split-last : {X : Type 0} (xs : List X) (n : ℕ) (d : X) → length xs ≡ n + 1 → xs ≡ take n xs ++ get_or xs n d ∷ []
split-last xs n d long = sym (take_all (n + 1) xs (omega arith)) ∙ take_more xs n d (omega arith)

inside : (chains : List (List Event)) (node : ℕ) (e : Event) (es : List Event) → chain_at chains node ≡ e ∷ es → node < length chains
inside [] node e es is = absurd (cc)
inside (c ∷ cs) zero e es is = omega arith
inside (c ∷ cs) (suc n) e es is = let more = inside cs n e es is in omega arith

pub last-is : (sent : List Sent) (homes : List ℕ) (chains : List (List Event)) (front : List ℕ) (node : ℕ) → HoldsSent sent homes chains → homes ≡ front ++ node ∷ [] → IsLast sent homes chains front node
last-is sent homes chains front node h pops =
    let n = length front in
    let none : Sent = (0, no_event) in
    let rest = take n sent in
    let s = get_or sent n none in
    let long = ap length h.homes_are in
    let mapped = length-map sent home in
    let popped = ap length pops in
    let pushed = length-append front (node ∷ []) in
    let split : sent ≡ rest ++ s ∷ [] = split-last sent n none (omega arith) in
    let homes_split : front ++ node ∷ [] ≡ map home rest ++ s.0 ∷ [] = sym pops ∙ h.homes_are ∙ ap (map home) split ∙ map-append home rest (s ∷ []) in
    let both = same_from_push front (map home rest) node s.0 homes_split in
    let is : sent ≡ rest ++ (node, s.1) ∷ [] = split ∙ ap (λ k. rest ++ (k, s.1) ∷ []) (sym both.1) in
    let first : chain_at chains node ≡ s.1 ∷ parcel node rest = h.chains_are node ∙ ap (parcel node) is ∙ parcel-push node rest (node, s.1) ∙ lying-here (node, s.1) (reverse rest) in
    record {
      rest = rest;
      e = s.1;
      is = is;
      front_is = both.0;
      first = first;
      within = inside chains node s.1 (parcel node rest) first;
    }

pub holds-pop : (sent : List Sent) (homes : List ℕ) (chains : List (List Event)) (front : List ℕ) (node : ℕ) (h : HoldsSent sent homes chains) (l : IsLast sent homes chains front node) (tail : List Event)
    → tail ≡ parcel node l.rest → HoldsSent l.rest front (slice_set chains node tail)
holds-pop sent homes chains front node h l tail is = record {
  homes_are = l.front_is;
  chains_are = λ to. by_node to (eqb node to) refl;
}
  where
    by_node : (to : ℕ) (b : Bool) → eqb node to ≡ b → chain_at (slice_set chains node tail) to ≡ parcel to l.rest
    by_node to true same =
        let is_to = eqb-true node to same in
        ap (λ n. chain_at (slice_set chains node tail) n) (sym is_to)
        ∙ get_or-set_same chains node tail [] l.within
        ∙ is
        ∙ ap (λ n. parcel n l.rest) is_to
    by_node to false other =
        let apart = eqb-false node to other in
        get_or-set_other chains node to tail [] (λ same. apart (sym same))
        ∙ h.chains_are to
        ∙ ap (parcel to) l.is
        ∙ parcel-push to l.rest (node, l.e)
        ∙ lying-there to (node, l.e) (reverse l.rest) apart

pub no-first : (e : Event) (es : List Event) → [] ≡ e ∷ es → ⊥
no-first e es is = cc

pub first-parts : (d e : Event) (ds es : List Event) → d ∷ ds ≡ e ∷ es → (d ≡ e) × (ds ≡ es)
first-parts d e ds es is = (cc, cc)
