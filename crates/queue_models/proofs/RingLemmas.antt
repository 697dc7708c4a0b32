-- The parts of the ring lie within their bounds.
use Rattle.std.proofs.Common.{◌≡◌, ◌≢◌, ℕ, ◌+◌, ◌*◌, ◌/◌, ◌%◌, ◌^◌, ◌<◌, ◌≤◌, Bool, true, false, List, [], ◌∷◌, length, drop, refl, sym, ap, ◌∙◌, subst, arith, eqb-true, eq-eqb, get_or, mod-lt, lit<}
use Rattle.std.specs.Prelude.{IsTrue, not, ◌||◌, ◌==◌, if◌then◌else◌, decimal}
use Rattle.std.specs.List.{list_all}
use Rattle.std.proofs.lemmas.Bool.Decides.{nat_tests}
use Rattle.std.proofs.lemmas.Fmt.{decimal_by_steps, decimal_injective, length-decimal-le}
use Rattle.std.proofs.lemmas.List.Folds.{list_all-append}
use Rattle.std.proofs.lemmas.List.FromFn.{get_or-map-range_with_len, length-map-range_with_len}
use Rattle.event_key.specs.declared.key.TheConstants.{MOST_RANK}
use Rattle.model_core.specs.declared.entry.Entry.{Entry}
use Rattle.random_streams.specs.declared.law.Law.TheVariants.{Uniform}
use Rattle.random_streams.specs.Laws.{is_delay, is_drawable}
use Rattle.queue_models.specs.Kinds.{is_source, is_station as is_station_kind, IsKind}
use Rattle.queue_models.specs.Objects.{Item, network_of}
use Rattle.queue_models.specs.Parts.{is_name_byte, IsName, IsLink, IsObject, IsJob, IsNetwork}
use Rattle.queue_models.specs.Rings.{ring_station, ring_delay, ring_object, ring_objects, ring_jobs, ring_parts}

-- the name, and what there is with a number of its parity, 0 for a station
object_for : ℕ → Bool → ℕ → Item
object_for n is_station i = if is_station then ring_station i else ring_delay n i

pub objects-length : (n : ℕ) → length (ring_objects n) ≡ 2 * n
objects-length n = length-map-range_with_len (ring_object n) 0 (2 * n)

objects-at : (n number : ℕ) (none : Item) → number < 2 * n → get_or (ring_objects n) number none ≡ object_for n (number % 2 == 0) (number / 2)
unfolding object_for
objects-at n number none exists = get_or-map-range_with_len (ring_object n) 0 (2 * n) number number none exists (omega arith)

-- none makes jobs
no_source : (n : ℕ) (is_station : Bool) (i : ℕ) → is_source (object_for n is_station i).kind ≡ false
unfolding object_for ring_station ring_delay
no_source n true i = refl
no_source n false i = refl

no_rank : (n : ℕ) (is_station : Bool) (i : ℕ) → (object_for n is_station i).rank ≤ MOST_RANK
unfolding object_for ring_station ring_delay
no_rank n true i = omega arith
no_rank n false i = omega arith

no_trace : (n : ℕ) (is_station : Bool) (i : ℕ) → IsTrue (not (object_for n is_station i).trace || is_station_kind (object_for n is_station i).kind)
unfolding object_for ring_station ring_delay
no_trace n true i = refl
no_trace n false i = refl

ring_link : (n number : ℕ) → number < 2 * n → IsLink (ring_objects n) number
ring_link n number exists = record {
  exists = omega (arith, objects-length n);
  takes = ap (λ (o : Item). is_source o.kind) (objects-at n number _ exists) ∙ no_source n (number % 2 == 0) (number / 2);
}

uniform_is_delay : (more : ℕ) → more < 100 → IsTrue (is_delay (Uniform 1 (1 + more)))
unfolding is_delay is_drawable
uniform_is_delay more few = grind (arith, nat_tests)

digits_are_name_bytes : (n : ℕ) → n < 2 ^ 64 → IsTrue (list_all is_name_byte (decimal n))
digits_are_name_bytes n fits =
    let P : ℕ → List ℕ → Type 0 = λ n ds. IsTrue (list_all is_name_byte ds) in
    decimal_by_steps P (λ n digit. grind (arith, nat_tests)) (λ n ds ten before. rw (list_all-append is_name_byte ds ((48 + n % 10) ∷ [])) (grind (arith, nat_tests, before, mod-lt n {m = 10} (lit< tt)))) n fits

is_name : (letter i : ℕ) → IsTrue (is_name_byte letter) → i < 256 → IsName (letter ∷ decimal i)
is_name letter i fine few =
    record {
      some = omega arith;
      short = omega (arith, length-decimal-le 3 i (lit< tt) (omega arith) (omega arith));
      bytes = grind (arith, nat_tests, fine, digits_are_name_bytes i (omega arith));
    }

is_kind : (n i : ℕ) (is_station : Bool) → i < n → n ≤ 256 → IsKind (IsLink (ring_objects n)) (object_for n is_station i).kind
unfolding object_for ring_station ring_delay
is_kind n i true within few = (
  record { some = omega arith; few = omega arith; law = uniform_is_delay (i % 7) (omega (arith, mod-lt i {m = 7} (lit< tt))); short = omega arith },
  ring_link n (2 * i + 1) (omega arith),
)
is_kind n i false within few =
    let next : (i + 1) % n < n = mod-lt (i + 1) (omega arith) in
    (uniform_is_delay (i % 11) (omega (arith, mod-lt i {m = 11} (lit< tt))), ring_link n (2 * ((i + 1) % n)) (omega arith))

has_name : (n i : ℕ) (is_station : Bool) → i < 256 → IsName (object_for n is_station i).name
unfolding object_for ring_station ring_delay
has_name n i true few = is_name 113 i refl few
has_name n i false few = is_name 100 i refl few

names_differ : (n i j : ℕ) (first second : Bool) → i < 256 → j < 256 → ((first ≡ second) → i ≢ j) → (object_for n first i).name ≢ (object_for n second j).name
unfolding object_for ring_station ring_delay
names_differ n i j true true few_i few_j apart same = apart refl (decimal_injective i j (omega arith) (omega arith) (ap (λ (name : List ℕ). drop 1 name) same))
names_differ n i j false false few_i few_j apart same = apart refl (decimal_injective i j (omega arith) (omega arith) (ap (λ (name : List ℕ). drop 1 name) same))
names_differ n i j true false few_i few_j apart same = let letters : ◌≡◌ {A = ℕ} 113 100 = ap (λ (name : List ℕ). get_or name 0 0) same in absurd (omega arith)
names_differ n i j false true few_i few_j apart same = let letters : ◌≡◌ {A = ℕ} 100 113 = ap (λ (name : List ℕ). get_or name 0 0) same in absurd (omega arith)

is_object : (n number : ℕ) → number < 2 * n → n ≤ 256 → IsObject (ring_objects n) (object_for n (number % 2 == 0) (number / 2))
is_object n number exists few = record {
  name = has_name n (number / 2) (number % 2 == 0) (omega arith);
  kind = is_kind n (number / 2) (number % 2 == 0) (omega arith) few;
  rank = no_rank n (number % 2 == 0) (number / 2);
  traced = no_trace n (number % 2 == 0) (number / 2);
}

job_at : ℕ → Entry
job_at i = record { time = 0; at = 2 * i; rank = 0 }

is_job : (n i : ℕ) → i < n → IsJob (ring_objects n) (job_at i)
unfolding job_at
is_job n i exists = record { time = omega arith; at = ring_link n (2 * i) (omega arith); rank = omega arith }

other_names : (n k l : ℕ) → k < l → l < 2 * n → n ≤ 256 → (object_for n (k % 2 == 0) (k / 2)).name ≢ (object_for n (l % 2 == 0) (l / 2)).name
other_names n k l before exists few = names_differ n (k / 2) (l / 2) (k % 2 == 0) (l % 2 == 0) (omega arith) (omega arith) (λ alike same. by (k % 2 == 0) (l % 2 == 0) refl refl alike same)
  where
    by : (a b : Bool) → (k % 2 == 0) ≡ a → (l % 2 == 0) ≡ b → a ≡ b → k / 2 ≡ l / 2 → ⊥
    by true true even_k even_l alike same = let k_is = eqb-true (k % 2) 0 even_k in let l_is = eqb-true (l % 2) 0 even_l in omega arith
    by false false odd_k odd_l alike same =
        let k_odd : k % 2 ≢ 0 = λ zero. let yes = eq-eqb (k % 2) 0 zero in cc in
        let l_odd : l % 2 ≢ 0 = λ zero. let yes = eq-eqb (l % 2) 0 zero in cc in
        omega arith
    by true false even_k odd_l alike same = cc
    by false true odd_k even_l alike same = cc

pub ring_is_network : (n : ℕ) → 1 ≤ n → n ≤ 256 → IsNetwork (ring_parts n)
unfolding job_at
ring_is_network n some few = record {
  seed = omega arith;
  few_objects = omega (arith, objects-length n);
  few_jobs = omega (arith, length-map-range_with_len job_at 0 n);
  names = λ k l none before within.
      let here : l < 2 * n = omega (arith, objects-length n) in
      λ same. other_names n k l before here few (ap (λ (o : Item). o.name) (sym (objects-at n k none (omega arith))) ∙ same ∙ ap (λ (o : Item). o.name) (objects-at n l none here));
  objects = λ k none within.
      let here : k < 2 * n = omega (arith, objects-length n) in
      subst (IsObject (ring_objects n)) (sym (objects-at n k none here)) (is_object n k here few);
  jobs = λ i none within.
      let here : i < n = omega (arith, length-map-range_with_len job_at 0 n) in
      subst (IsJob (ring_objects n)) (sym (get_or-map-range_with_len job_at 0 n i i none here (omega arith))) (is_job n i here);
}

-- parts that are those of the ring
pub are_ring_parts : (n seed : ℕ) (objects : List Item) (jobs : List Entry) → seed ≡ n → objects ≡ ring_objects n → jobs ≡ ring_jobs n → network_of seed objects jobs ≡ ring_parts n
are_ring_parts n seed objects jobs seed_is objects_are jobs_are =
    ap (λ seed. network_of seed objects jobs) seed_is ∙ ap (λ (objects : List Item). network_of n objects jobs) objects_are ∙ ap (λ (jobs : List Entry). network_of n (ring_objects n) jobs) jobs_are
