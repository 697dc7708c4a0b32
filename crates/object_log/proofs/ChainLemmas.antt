-- Chains of messages by their homes, the newest message first.
use Rattle.std.proofs.Common.{◌≡◌, ◌≢◌, ℕ, Bool, true, false, cond, List, [], ◌∷◌, ◌++◌, reverse, eq-eqb, eqb-true, refl, sym, ap, ◌∙◌, subst, append_assoc}
use Rattle.std.proofs.lemmas.Bool.{false_from_ne_true}
use Rattle.std.proofs.lemmas.List.Elements.{filter-append}
use Rattle.std.proofs.lemmas.List.{append-nil, reverse-append}
use Rattle.std.proofs.lemmas.List.Sorted.{IsPermutation-append_comm, IsPermutation-append_left, IsPermutation-append_right, IsPermutation-refl, IsPermutation-sym, IsPermutation-trans}
use Rattle.std.specs.Prelude.{filter, IsPermutation}
use Rattle.event_key.specs.declared.key.Key.{Key}
use Rattle.event_key.specs.Keys.{key_lt}
use Rattle.model_core.specs.declared.event.Event.{Event}
use Rattle.object_log.specs.Dones.{Done}
use Rattle.object_log.specs.Logs.{held_of}
use Rattle.object_log.proofs.HeldLemmas.{held-append}
use Rattle.object_log.specs.EventLogs.{done_key}
use Rattle.object_log.specs.Flat.{chain_to, goes_to, spread}
use Rattle.object_log.specs.Weave.{insert, weave}

-- what was sent later lies in front
pub chain-append : (home : ℕ → ℕ) (to : ℕ) (xs ys : List Done) → chain_to home to (xs ++ ys) ≡ chain_to home to ys ++ chain_to home to xs
chain-append home to xs ys =
    ap (λ es. filter (goes_to home to) (reverse es)) (held-append xs ys)
    ∙ ap (filter (goes_to home to)) (reverse-append (held_of xs) (held_of ys))
    ∙ filter-append (goes_to home to) (reverse (held_of ys)) (reverse (held_of xs))

-- the messages of the last event are the first of their chains, and what is left is what the others sent
pub chain-push : (home : ℕ → ℕ) (to : ℕ) (xs : List Done) (d : Done) → chain_to home to (xs ++ d ∷ []) ≡ filter (goes_to home to) (reverse d.sends) ++ chain_to home to xs
unfolding held_of
chain-push home to xs d = chain-append home to xs (d ∷ []) ∙ ap (λ es. filter (goes_to home to) (reverse es) ++ chain_to home to xs) (append-nil d.sends)

-- the last message of all is the first of its chain, and of no other
pub last-own : (home : ℕ → ℕ) (es : List Event) (e : Event) → filter (goes_to home (home e.key.dest)) (reverse (es ++ e ∷ [])) ≡ e ∷ filter (goes_to home (home e.key.dest)) (reverse es)
last-own home es e =
    ap (filter (goes_to home (home e.key.dest))) (reverse-append es (e ∷ []))
    ∙ ap (λ b. cond b (e ∷ filter (goes_to home (home e.key.dest)) (reverse es)) (filter (goes_to home (home e.key.dest)) (reverse es))) (eq-eqb (home e.key.dest) (home e.key.dest) refl)

pub last-other : (home : ℕ → ℕ) (to : ℕ) (es : List Event) (e : Event) → home e.key.dest ≢ to → filter (goes_to home to) (reverse (es ++ e ∷ [])) ≡ filter (goes_to home to) (reverse es)
last-other home to es e apart =
    ap (filter (goes_to home to)) (reverse-append es (e ∷ []))
    ∙ ap (λ b. cond b (e ∷ filter (goes_to home to) (reverse es)) (filter (goes_to home to) (reverse es))) (false_from_ne_true (goes_to home to e) (λ yes. apart (eqb-true (home e.key.dest) to yes)))

-- a chain has what was sent to its home, turned
pub chain-turned : (p : Event → Bool) (es : List Event) → IsPermutation (filter p es) (filter p (reverse es))
chain-turned p [] = IsPermutation-refl []
chain-turned p (e ∷ es) =
    let one = filter p (e ∷ []) in
    let split : filter p (e ∷ es) ≡ one ++ filter p es = filter-append p (e ∷ []) es in
    let turned : filter p (reverse (e ∷ es)) ≡ filter p (reverse es) ++ one = ap (filter p) (reverse-append (e ∷ []) es) ∙ filter-append p (reverse es) (e ∷ []) in
    let P : List Event → Type 0 = λ zs. IsPermutation zs (filter p (reverse (e ∷ es))) in
    let Q : List Event → Type 0 = λ zs. IsPermutation (one ++ filter p es) zs in
    subst P (sym split) (subst Q (sym turned) (IsPermutation-trans (one ++ filter p es) (filter p es ++ one) (filter p (reverse es) ++ one) (IsPermutation-append_comm one (filter p es)) (IsPermutation-append_left one (filter p es) (filter p (reverse es)) (chain-turned p es))))

module _ {X Y : Type 0} (key : X → Key) (part : X → List Y) where
  front_swap : (xs ys zs : List Y) → IsPermutation (xs ++ (ys ++ zs)) (ys ++ (xs ++ zs))
  front_swap xs ys zs =
      let P : List Y → Type 0 = λ l. IsPermutation l (ys ++ (xs ++ zs)) in
      let Q : List Y → Type 0 = λ l. IsPermutation ((xs ++ ys) ++ zs) l in
      subst P (append_assoc xs ys zs) (subst Q (append_assoc ys xs zs) (IsPermutation-append_left zs (xs ++ ys) (ys ++ xs) (IsPermutation-append_comm xs ys)))

  pub insert-spread : (x : X) (ys : List X) → IsPermutation (part x ++ spread part ys) (spread part (insert key x ys))
  unfolding insert spread
  insert-spread x [] = IsPermutation-refl (part x ++ [])
  insert-spread x (y ∷ ys) =
      let more = insert-spread x ys in
      elim (key_lt (key x) (key y)) as (λ b. IsPermutation (part x ++ (part y ++ spread part ys)) (spread part (cond b (x ∷ y ∷ ys) (y ∷ insert key x ys)))) [
        | true ↦ IsPermutation-refl (part x ++ (part y ++ spread part ys))
        | false ↦ IsPermutation-trans (part x ++ (part y ++ spread part ys)) (part y ++ (part x ++ spread part ys)) (part y ++ spread part (insert key x ys))
            (front_swap (part x) (part y) (spread part ys)) (IsPermutation-append_right (part y) (part x ++ spread part ys) (spread part (insert key x ys)) more)
      ]

  -- what two lists hold is what they hold as one
  pub weave-spread : (xs ys : List X) → IsPermutation (spread part xs ++ spread part ys) (spread part (weave key xs ys))
  unfolding weave spread
  weave-spread [] ys = IsPermutation-refl (spread part ys)
  weave-spread (x ∷ xs) ys =
      let P : List Y → Type 0 = λ l. IsPermutation l (spread part (insert key x (weave key xs ys))) in
      subst P (sym (append_assoc (part x) (spread part xs) (spread part ys)))
      (IsPermutation-trans (part x ++ (spread part xs ++ spread part ys)) (part x ++ spread part (weave key xs ys)) (spread part (insert key x (weave key xs ys)))
      (IsPermutation-append_right (part x) (spread part xs ++ spread part ys) (spread part (weave key xs ys)) (weave-spread xs ys)) (insert-spread x (weave key xs ys)))

-- what goes to a home of all that is held
pub held-spread : (p : Event → Bool) (ds : List Done) → filter p (held_of ds) ≡ spread (λ (d : Done). filter p d.sends) ds
unfolding held_of spread
held-spread p [] = refl
held-spread p (d ∷ ds) = filter-append p d.sends (held_of ds) ∙ ap (λ es. filter p d.sends ++ es) (held-spread p ds)

-- what carried ones and news that are due sent to a home, in whatever order the chain has the carried ones, is what all that is due sent there
pub parcel-whole : (home : ℕ → ℕ) (to : ℕ) (cs ns : List Done) (chain : List Event) → IsPermutation (filter (goes_to home to) (held_of cs) ++ chain_to home to ns) chain
    → IsPermutation (filter (goes_to home to) (held_of (weave done_key cs ns))) chain
parcel-whole home to cs ns chain moves =
    let p = goes_to home to in
    let part : Done → List Event = λ d. filter p d.sends in
    let whole : IsPermutation (filter p (held_of (weave done_key cs ns))) (filter p (held_of cs) ++ filter p (held_of ns)) =
    IsPermutation-sym (filter p (held_of cs) ++ filter p (held_of ns)) (filter p (held_of (weave done_key cs ns)))
    (let P : List Event → Type 0 = λ l. IsPermutation (filter p (held_of cs) ++ filter p (held_of ns)) l in
    subst P (sym (held-spread p (weave done_key cs ns)))
    (let Q : List Event → Type 0 = λ l. IsPermutation l (spread part (weave done_key cs ns)) in
    subst Q (λ i. sym (held-spread p cs) i ++ sym (held-spread p ns) i) (weave-spread done_key part cs ns))) in
    IsPermutation-trans (filter p (held_of (weave done_key cs ns))) (filter p (held_of cs) ++ filter p (held_of ns)) chain whole
    (IsPermutation-trans (filter p (held_of cs) ++ filter p (held_of ns)) (filter p (held_of cs) ++ chain_to home to ns) chain
    (IsPermutation-append_right (filter p (held_of cs)) (filter p (held_of ns)) (chain_to home to ns) (chain-turned p (held_of ns))) moves)
