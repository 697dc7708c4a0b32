-- How the weight of a place moves with an event.
use Rattle.std.proofs.Common.{◌≡◌, ◌≢◌, ℕ, suc, ◌+◌, true, false, cond, not, List, [], ◌∷◌, ◌++◌, length, refl, ap, ◌∙◌, arith, eq-eqb}
use Rattle.std.specs.Prelude.{sum_by, ◌==◌, ◌&&◌, if◌then◌else◌}
use Rattle.std.proofs.lemmas.List.Sums.{sum_by-cons}
use Rattle.event_key.specs.declared.key.Key.{Key}
use Rattle.event_key.proofs.Order.{same_key-itself, same_key-other}
use Rattle.model_core.specs.declared.event.Event.{Event}
use Rattle.queue_models.specs.Kinds.{is_source}
use Rattle.queue_models.specs.Objects.{NetworkParts, object_at}
use Rattle.subject_laws.specs.Places.{Place, at_event, in_line, key_number, own_place, moved_up, place_after}
use Rattle.subject_laws.specs.Jobs.{is_of_job, places_in_line}
use Rattle.subject_laws.proofs.JobLemmas.Weights.{event_weight, line_weight}

-- the weight of where an event moves a job
abbrev pub moved_weight : (ℕ × Place → ℕ) → Key → ℕ → ℕ → List Event → ℕ × Place → ℕ
moved_weight w key word waiting sent at = w (at.0, place_after key word waiting sent at.1)

-- the event's own job moves, where it has one
pub own_moves : (p : NetworkParts) (w : ℕ × Place → ℕ) (e : Event) (word waiting : ℕ) (sent : List Event) → is_source (object_at p.objects e.key.dest).kind ≡ false
    → event_weight p (moved_weight w e.key word waiting sent) e ≡ w (e.a, own_place word e.key.dest waiting sent)
own_moves p w e word waiting sent no_source =
    ap (λ b. cond (not b) (moved_weight w e.key word waiting sent (e.a, at_event e.key)) 0) no_source
    ∙ ap (λ b. w (e.a, if b then own_place word e.key.dest waiting sent else at_event e.key)) (same_key-itself e.key)

-- an event at a source has none
pub no_job : (p : NetworkParts) (w : ℕ × Place → ℕ) (e : Event) → is_source (object_at p.objects e.key.dest).kind ≡ true → event_weight p w e ≡ 0
no_job p w e source = ap (λ b. cond (not b) (w (e.a, at_event e.key)) 0) source

pub has_job : (p : NetworkParts) (w : ℕ × Place → ℕ) (e : Event) → is_source (object_at p.objects e.key.dest).kind ≡ false → event_weight p w e ≡ w (e.a, at_event e.key)
has_job p w e no_source = ap (λ b. cond (not b) (w (e.a, at_event e.key)) 0) no_source

-- every other pending event's job stays
pub other_stays : (p : NetworkParts) (w : ℕ × Place → ℕ) (key : Key) (word waiting : ℕ) (sent : List Event) (e : Event) → e.key ≢ key
    → event_weight p (moved_weight w key word waiting sent) e ≡ event_weight p w e
other_stays p w key word waiting sent e apart =
    ap (λ b. cond (is_of_job p e) (w (e.a, if b then own_place word key.dest waiting sent else at_event e.key)) 0) (same_key-other e.key key apart)

-- a line stays where no service is done
pub line_stays : (w : ℕ × Place → ℕ) (key : Key) (word waiting : ℕ) (sent : List Event) (i k : ℕ) (line : List ℕ) → (word == 6 && i == key.dest) ≡ false
    → sum_by (moved_weight w key word waiting sent) (places_in_line i k line) ≡ sum_by w (places_in_line i k line)
line_stays w key word waiting sent i k [] other = refl
line_stays w key word waiting sent i k (number ∷ rest) other =
    let move = moved_weight w key word waiting sent in
    let one : move (number, in_line i k) ≡ w (number, in_line i k) = ap (λ b. w (number, if b then moved_up sent i k else in_line i k)) other in
    omega (
      arith,
      one,
      sum_by-cons move (number, in_line i k) (places_in_line i (k + 1) rest),
      sum_by-cons w (number, in_line i k) (places_in_line i (k + 1) rest),
      line_stays w key word waiting sent i (k + 1) rest other,
    )

-- where a service is done, those behind the first move up
pub line_moves_up : (w : ℕ × Place → ℕ) (key : Key) (waiting : ℕ) (sent : List Event) (k : ℕ) (line : List ℕ)
    → sum_by (moved_weight w key 6 waiting sent) (places_in_line key.dest (k + 1) line) ≡ sum_by w (places_in_line key.dest k line)
line_moves_up w key waiting sent k [] = refl
line_moves_up w key waiting sent k (number ∷ rest) =
    let move = moved_weight w key 6 waiting sent in
    let i : ℕ = key.dest in
    let behind : k + 1 ≡ suc k = omega arith in
    let one : move (number, in_line i (k + 1)) ≡ w (number, in_line i k) =
    ap (λ b. w (number, if b then moved_up sent i (k + 1) else in_line i (k + 1))) (eq-eqb i i refl) ∙ ap (λ j. w (number, moved_up sent i j)) behind in
    omega (
      arith,
      one,
      sum_by-cons move (number, in_line i (k + 1)) (places_in_line i (k + 1 + 1) rest),
      sum_by-cons w (number, in_line i k) (places_in_line i (k + 1) rest),
      line_moves_up w key waiting sent (k + 1) rest,
    )

-- the first of the line goes to the end of its service
pub line_served : (w : ℕ × Place → ℕ) (key : Key) (waiting : ℕ) (sent : List Event) (number : ℕ) (rest : List ℕ)
    → sum_by (moved_weight w key 6 waiting sent) (places_in_line key.dest 0 (number ∷ rest)) ≡ w (number, at_event (key_number sent 1)) + line_weight w key.dest rest
line_served w key waiting sent number rest =
    let move = moved_weight w key 6 waiting sent in
    let i : ℕ = key.dest in
    let one : move (number, in_line i 0) ≡ w (number, at_event (key_number sent 1)) =
    ap (λ b. w (number, if b then moved_up sent i 0 else in_line i 0)) (eq-eqb i i refl) in
    omega (arith, one, sum_by-cons move (number, in_line i 0) (places_in_line i 1 rest), line_moves_up w key waiting sent 0 rest)

-- one more waits
pub line_grows : (w : ℕ × Place → ℕ) (i k : ℕ) (line : List ℕ) (number : ℕ)
    → sum_by w (places_in_line i k (line ++ number ∷ [])) ≡ sum_by w (places_in_line i k line) + w (number, in_line i (k + length line))
line_grows w i k [] number =
    let at : k + 0 ≡ k = omega arith in
    let one : w (number, in_line i (k + 0)) ≡ w (number, in_line i k) = ap (λ j. w (number, in_line i j)) at in
    omega (arith, sum_by-cons w (number, in_line i k) [])
line_grows w i k (first ∷ rest) number =
    let at : k + 1 + length rest ≡ k + length (first ∷ rest) = omega arith in
    let one : w (number, in_line i (k + 1 + length rest)) ≡ w (number, in_line i (k + length (first ∷ rest))) = ap (λ j. w (number, in_line i j)) at in
    omega (
      arith,
      one,
      sum_by-cons w (first, in_line i k) (places_in_line i (k + 1) (rest ++ number ∷ [])),
      sum_by-cons w (first, in_line i k) (places_in_line i (k + 1) rest),
      line_grows w i (k + 1) rest number,
    )
