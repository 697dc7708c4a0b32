-- Sums over the places of a state, and over those that jobs hold.
use Rattle.std.proofs.Common.{◌≡◌, ◌≢◌, ℕ, zero, suc, ◌+◌, ◌<◌, ◌≤◌, Bool, true, false, cond, List, [], ◌∷◌, length, map, refl, ap, ◌∙◌, arith, eqb, eqb-true}
use Rattle.std.specs.Prelude.{filter, sum_by, flat_map}
use Rattle.std.specs.List.{range_with_len, AllByRecursion as Each}
use Rattle.std.proofs.lemmas.Bool.{eqb-false}
use Rattle.std.proofs.lemmas.List.Sums.{sum_by-cons, sum_by-append}
use Rattle.model_core.specs.declared.event.Event.{Event}
use Rattle.sim_spec.specs.State.{State}
use Rattle.queue_models.specs.Objects.{NetworkParts}
use Rattle.subject_laws.specs.Stations.{waiting_at}
use Rattle.subject_laws.specs.Places.{Place, at_event, in_line, has_left, was_lost}
use Rattle.subject_laws.specs.Jobs.{Job, held, is_in_system, is_of_job, places_in_line, in_the_system}

pub sum_by-map : {X Y : Type 0} (f : Y → ℕ) (g : X → Y) (xs : List X) → sum_by f (map g xs) ≡ sum_by (λ x. f (g x)) xs
sum_by-map f g [] = refl
sum_by-map f g (x ∷ xs) = omega (arith, sum_by-cons f (g x) (map g xs), sum_by-cons (λ x. f (g x)) x xs, sum_by-map f g xs)

pub sum_by-filter : {X : Type 0} (f : X → ℕ) (p : X → Bool) (xs : List X) → sum_by f (filter p xs) ≡ sum_by (λ x. cond (p x) (f x) 0) xs
sum_by-filter f p [] = refl
sum_by-filter f p (x ∷ xs) = by (p x) (sum_by-filter f p xs) (sum_by-cons (λ x. cond (p x) (f x) 0) x xs)
  where
    by : (b : Bool) → sum_by f (filter p xs) ≡ sum_by (λ x. cond (p x) (f x) 0) xs
        → sum_by (λ x. cond (p x) (f x) 0) (x ∷ xs) ≡ cond b (f x) 0 + sum_by (λ x. cond (p x) (f x) 0) xs
        → sum_by f (cond b (x ∷ filter p xs) (filter p xs)) ≡ sum_by (λ x. cond (p x) (f x) 0) (x ∷ xs)
    by true more one = omega (arith, sum_by-cons f x (filter p xs))
    by false more one = omega arith

pub sum_by-flat_map : {X Y : Type 0} (f : Y → ℕ) (g : X → List Y) (xs : List X) → sum_by f (flat_map g xs) ≡ sum_by (λ x. sum_by f (g x)) xs
sum_by-flat_map f g [] = refl
sum_by-flat_map f g (x ∷ xs) =
    omega (arith, sum_by-append f (g x) (flat_map g xs), sum_by-cons (λ x. sum_by f (g x)) x xs, sum_by-flat_map f g xs)

pub sum_by-same : {X : Type 0} (f g : X → ℕ) (xs : List X) → Each (λ x. f x ≡ g x) xs → sum_by f xs ≡ sum_by g xs
sum_by-same f g [] same = refl
sum_by-same f g (x ∷ xs) same = omega (arith, sum_by-cons f x xs, sum_by-cons g x xs, same.0, sum_by-same f g xs same.1)

-- sums over numbers from a on, where the two differ at most at d
range-same : (f g : ℕ → ℕ) (a n d : ℕ) → d < a → ((i : ℕ) → i ≢ d → f i ≡ g i) → sum_by f (range_with_len a n) ≡ sum_by g (range_with_len a n)
range-same f g a zero d past same = refl
range-same f g a (suc n) d past same =
    let here : f a ≡ g a = same a (λ eq. omega arith) in
    omega (arith, sum_by-cons f a (range_with_len (a + 1) n), sum_by-cons g a (range_with_len (a + 1) n), range-same f g (a + 1) n d (omega arith) same)

pub range-change : (f g : ℕ → ℕ) (a n d : ℕ) → a ≤ d → d < a + n → ((i : ℕ) → i ≢ d → f i ≡ g i)
    → sum_by f (range_with_len a n) + g d ≡ sum_by g (range_with_len a n) + f d
range-change f g a zero d from upto same = absurd (omega arith)
range-change f g a (suc n) d from upto same = by (eqb a d) refl (range-change f g (a + 1) n d)
  where
    by : (here : Bool) → eqb a d ≡ here
        → (a + 1 ≤ d → d < a + 1 + n → ((i : ℕ) → i ≢ d → f i ≡ g i) → sum_by f (range_with_len (a + 1) n) + g d ≡ sum_by g (range_with_len (a + 1) n) + f d)
        → sum_by f (range_with_len a (suc n)) + g d ≡ sum_by g (range_with_len a (suc n)) + f d
    by true here more =
        let eq : a ≡ d = eqb-true a d here in
        let fa : f a ≡ f d = ap f eq in
        let ga : g a ≡ g d = ap g eq in
        omega (arith, sum_by-cons f a (range_with_len (a + 1) n), sum_by-cons g a (range_with_len (a + 1) n), range-same f g (a + 1) n d (omega arith) same)
    by false apart more =
        let other : a ≢ d = eqb-false a d apart in
        let one : f a ≡ g a = same a other in
        omega (arith, sum_by-cons f a (range_with_len (a + 1) n), sum_by-cons g a (range_with_len (a + 1) n), more (omega arith) (omega arith) same)

pub sum_by-equal : {X : Type 0} (f g : X → ℕ) (xs : List X) → ((x : X) → f x ≡ g x) → sum_by f xs ≡ sum_by g xs
sum_by-equal f g [] same = refl
sum_by-equal f g (x ∷ xs) same = omega (arith, sum_by-cons f x xs, sum_by-cons g x xs, same x, sum_by-equal f g xs same)

-- who is out has no weight
pub record Live (w : ℕ × Place → ℕ) : Type 0 where
  pub left : (number : ℕ) → w (number, has_left) ≡ 0
  pub lost : (number : ℕ) → w (number, was_lost) ≡ 0

-- a weight for those in the system alone
abbrev pub inside : (ℕ × Place → ℕ) → ℕ × Place → ℕ
inside w at = cond (is_in_system at.1) (w at) 0

pub inside-live : (w : ℕ × Place → ℕ) → Live (inside w)
inside-live w = record { left = λ number. refl; lost = λ number. refl }

-- the weight of a job at its place
abbrev pub job_weight : (ℕ × Place → ℕ) → Job × Place → ℕ
job_weight w job = w (job.0.number, job.1)

pub sum-held : (w : ℕ × Place → ℕ) (jobs : List (Job × Place)) → sum_by w (held jobs) ≡ sum_by (job_weight (inside w)) jobs
sum-held w jobs =
    sum_by-filter w (λ at. is_in_system at.1) (map (λ (job : Job × Place). (job.0.number, job.1)) jobs)
    ∙ sum_by-map (inside w) (λ (job : Job × Place). (job.0.number, job.1)) jobs

-- the weight of a pending event, and that of the line of an object
abbrev pub event_weight : NetworkParts → (ℕ × Place → ℕ) → Event → ℕ
event_weight p w e = cond (is_of_job p e) (w (e.a, at_event e.key)) 0

abbrev pub line_weight : (ℕ × Place → ℕ) → ℕ → List ℕ → ℕ
line_weight w i line = sum_by w (places_in_line i 0 line)

pub sum-in_the_system : (p : NetworkParts) (s : State) (w : ℕ × Place → ℕ)
    → sum_by w (in_the_system p s) ≡ sum_by (event_weight p w) s.pending + sum_by (λ i. line_weight w i (waiting_at s i)) (range_with_len 0 (length p.objects))
unfolding in_the_system
sum-in_the_system p s w =
    let jobs : List Event = filter (is_of_job p) s.pending in
    let at : Event → ℕ × Place = λ e. (e.a, at_event e.key) in
    let lines : List (ℕ × Place) = flat_map (λ i. places_in_line i 0 (waiting_at s i)) (range_with_len 0 (length p.objects)) in
    omega (
      arith,
      sum_by-append w (map at jobs) lines,
      sum_by-map w at jobs,
      sum_by-filter (λ (e : Event). w (e.a, at_event e.key)) (is_of_job p) s.pending,
      sum_by-flat_map w (λ i. places_in_line i 0 (waiting_at s i)) (range_with_len 0 (length p.objects)),
    )

line_inside : (w : ℕ × Place → ℕ) (i k : ℕ) (line : List ℕ) → sum_by (inside w) (places_in_line i k line) ≡ sum_by w (places_in_line i k line)
line_inside w i k [] = refl
line_inside w i k (number ∷ rest) =
    omega (
      arith,
      sum_by-cons (inside w) (number, in_line i k) (places_in_line i (k + 1) rest),
      sum_by-cons w (number, in_line i k) (places_in_line i (k + 1) rest),
      line_inside w i (k + 1) rest,
    )

-- every place of a state is in the system
pub sum-inside : (p : NetworkParts) (s : State) (w : ℕ × Place → ℕ) → sum_by (inside w) (in_the_system p s) ≡ sum_by w (in_the_system p s)
sum-inside p s w =
    let all : List ℕ = range_with_len 0 (length p.objects) in
    omega (
      arith,
      sum-in_the_system p s (inside w),
      sum-in_the_system p s w,
      sum_by-equal (λ i. line_weight (inside w) i (waiting_at s i)) (λ i. line_weight w i (waiting_at s i)) all (λ i. line_inside w i 0 (waiting_at s i)),
    )
