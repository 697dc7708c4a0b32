-- Each object draws from its own stream.
use Rattle.std.specs.Prelude.{◌≡◌, ℕ, ◌<◌, List, length, map, slice_index}
use Rattle.std.specs.List.{range_with_len}
use Rattle.sim_spec.specs.declared.terms.Terms.{Terms}
use Rattle.queue_models.specs.declared.kind.KindOver.{KindOver}
use Rattle.queue_models.specs.Objects.{NetworkParts, object_at}
use Rattle.queue_models.specs.Parts.{IsNetwork}
use Rattle.subject_laws.specs.Draws.{nth_draw, law_of, as_shown, drawn_by}

-- the first draws of an object of this kind
abbrev pub first_draws : ℕ → ℕ → KindOver ℕ → ℕ → List ℕ
first_draws seed object kind count = map (λ k. as_shown kind (nth_draw seed object (law_of kind) k)) (range_with_len 0 count)

-- what an object draws in a run are its first draws
abbrev pub EachDrawsItsOwn : Type 0
EachDrawsItsOwn =
    (p : NetworkParts) (t : Terms) (i n : ℕ) → IsNetwork p → i < length p.objects
    → drawn_by p t i n ≡ first_draws p.seed i (object_at p.objects i).kind (length (drawn_by p t i n))

-- two networks with one seed and one object in common, at the same number: each of its draws that both runs come to is
-- the same, whatever the other objects, the jobs and the terms are
abbrev pub DrawsStay : Type 0
DrawsStay =
    (p q : NetworkParts) (t u : Terms) (i n m k : ℕ) → IsNetwork p → IsNetwork q → i < length p.objects → i < length q.objects
    → p.seed ≡ q.seed → (object_at p.objects i).kind ≡ (object_at q.objects i).kind
    → k < length (drawn_by p t i n) → k < length (drawn_by q u i m) → slice_index (drawn_by p t i n) k ≡ slice_index (drawn_by q u i m) k
