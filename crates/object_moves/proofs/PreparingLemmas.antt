-- Moves that are prepared one after another.
use Rattle.std.proofs.Common.{◌≡◌, ℕ, zero, suc, ◌+◌, ◌<◌, ◌≤◌, List, [], ◌∷◌, ◌++◌, length, drop, get_or, refl, sym, ap, ◌∙◌, subst, arith}
use Rattle.std.specs.Prelude.{slice_set}
use Rattle.std.specs.List.{AllByRecursion as Each}
use Rattle.std.proofs.lemmas.List.{length-set}
use Rattle.key_order.proofs.EachLemmas.{Each-map}
use Rattle.model_core.specs.Meaning.{Meaning}
use Rattle.sim_spec.specs.Standing.{Standing, stands, spent}
use Rattle.sim_spec.specs.State.{State}
use Rattle.node_core.specs.Homes.{HomesView, rehomed}
use Rattle.cycle_core.specs.Standings.{WorldStandsAt}
use Rattle.cycle_core.specs.Worlds.{StandsAt, WorldView}
use Rattle.object_moves.specs.declared.moves.Move.{Move}
use Rattle.object_moves.specs.declared.step.Step.{Step}
use Rattle.object_moves.specs.Moves.{Exists, homes_after}
use Rattle.object_moves.specs.Steps.{AreSteps, IsStep}

pub steps-none : (places : ℕ) (h : HomesView) → AreSteps places h [] h
unfolding AreSteps
steps-none places h = refl

pub steps-push : (places : ℕ) (h mid : HomesView) (ps : List Step) (p : Step) → AreSteps places h ps mid → IsStep places mid p → AreSteps places h (ps ++ p ∷ []) p.copies.homes
unfolding AreSteps
steps-push places h mid [] p are is = (let P : HomesView → Type 0 = λ x. IsStep places x p in subst P (sym are) is, refl)
steps-push places h mid (q ∷ ps) p are is = (are.0, steps-push places q.copies.homes mid ps p are.1 is)

pub steps-first : (places : ℕ) (h end : HomesView) (p : Step) (ps : List Step) → AreSteps places h (p ∷ ps) end → IsStep places h p × AreSteps places p.copies.homes ps end
unfolding AreSteps
steps-first places h end p ps are = are

pub steps-last : (places : ℕ) (h end : HomesView) (ps : List Step) → ps ≡ [] → AreSteps places h ps end → h ≡ end
unfolding AreSteps
steps-last places h end ps none are = let P : List Step → Type 0 = λ qs. AreSteps places h qs end in subst P none are

set-same : (xs : List ℕ) (i v d : ℕ) → i < length xs → get_or xs i d ≡ v → slice_set xs i v ≡ xs
set-same [] i v d below is = refl
set-same (x ∷ xs) zero v d below is = ap (λ y. y ∷ xs) (sym is)
set-same (x ∷ xs) (suc i) v d below is = ap (λ ys. x ∷ ys) (set-same xs i v d (omega arith) is)

pub exist-after : (h : HomesView) (object node : ℕ) (xs : List Move) → Each (Exists h) xs → Each (Exists (rehomed h object node)) xs
exist-after h object node xs all = Each-map (Exists h) (Exists (rehomed h object node)) xs (λ x e. (let long = length-set h.homes object node in let low = e.0 in omega arith, e.1)) all

pub after-next : (h : HomesView) (x : Move) (xs : List Move) → homes_after h (x ∷ xs) ≡ homes_after (rehomed h x.object x.node) xs
unfolding homes_after
after-next h x xs = refl

pub after-none : (h : HomesView) → homes_after h [] ≡ h
unfolding homes_after
after-none h = refl

pub drop-past : (xs : List Move) (i : ℕ) → length xs ≤ i → drop i xs ≡ []
drop-past [] zero past = refl
drop-past [] (suc i) past = refl
drop-past (x ∷ xs) zero past = absurd (omega arith)
drop-past (x ∷ xs) (suc i) past = drop-past xs i (omega arith)

next-move : (xs : List Move) (i : ℕ) (d : Move) → i < length xs → drop i xs ≡ get_or xs i d ∷ drop (i + 1) xs
next-move [] i d below = absurd (omega arith)
next-move (x ∷ xs) zero d below = refl
next-move (x ∷ xs) (suc i) d below = let same : suc (i + 1) ≡ suc i + 1 = omega arith in next-move xs i d (omega arith) ∙ ap (λ n. get_or xs i d ∷ drop n (x ∷ xs)) same

-- the next move can be made
pub next-exists : (h : HomesView) (moves : List Move) (i : ℕ) (d : Move) → i < length moves → Each (Exists h) (drop i moves) → Exists h (get_or moves i d)
next-exists h moves i d below exist = (subst (Each (Exists h)) (next-move moves i d below) exist).0

pub next-prepared : (all places : ℕ) (first h after end : HomesView) (moves : List Move) (i : ℕ) (d : Move) (old new : List Step) → i < length moves → places ≡ all
    → AreSteps all first old h → homes_after h (drop i moves) ≡ end → Each (Exists h) (drop i moves)
    → after ≡ rehomed h (get_or moves i d).object (get_or moves i d).node
    → ((start : HomesView) → AreSteps places start old h → AreSteps places start new (rehomed h (get_or moves i d).object (get_or moves i d).node))
    → AreSteps all first new after × (homes_after after (drop (i + 1) moves) ≡ end) × Each (Exists after) (drop (i + 1) moves)
next-prepared all places first h after end moves i d old new below places_are steps homes exist after_is more =
    let x = get_or moves i d in
    let rest = drop (i + 1) moves in
    let split = next-move moves i d below in
    let O : ℕ → Type 0 = λ n. AreSteps n first old h in
    let N : ℕ → Type 0 = λ n. AreSteps n first new (rehomed h x.object x.node) in
    let K : HomesView → Type 0 = λ k. AreSteps all first new k in
    let E : HomesView → Type 0 = λ k. Each (Exists k) rest in (
      subst K (sym after_is) (subst N places_are (more first (subst O (sym places_are) steps))),
      ap (λ k. homes_after k rest) after_is ∙ sym (after-next h x rest) ∙ ap (homes_after h) (sym split) ∙ homes,
      subst E (sym after_is) (exist-after h x.object x.node rest (subst (Each (Exists h)) split exist).1),
    )

-- where a world stands, after what keeps each state, its fault and whether it is spent
pub at-same : {M : Type 0} (meaning_of : M → Meaning) (old new : WorldView M) → new.fault ≡ old.fault → new.is_spent ≡ old.is_spent
    → ((s : State) → StandsAt (meaning_of old.model) old s → StandsAt (meaning_of new.model) new s) → (at : Standing) → WorldStandsAt meaning_of old at → WorldStandsAt meaning_of new at
unfolding WorldStandsAt
at-same meaning_of old new fault is_spent keeps (stands s met) there = (keeps s there.0, fault ∙ there.1)
at-same meaning_of old new fault is_spent keeps spent there = is_spent ∙ there
