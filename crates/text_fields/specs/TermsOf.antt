-- Terms from two numbers.
use Rattle.std.specs.Prelude.{◌≡◌, ℕ, ◌-◌, ◌<◌, ◌≤◌, ◌^◌, min, max}
use Rattle.std.specs.Coded.{le_prop}
use Rattle.std.proofs.Common.{subst, ap, ◌∙◌, arith}
use Rattle.model_core.specs.declared.limits.TheConstants.{MOST_EVENTS}
use Rattle.sim_spec.specs.declared.terms.Terms.{Terms}

pub end_bound : (end : ℕ) → min end (2 ^ 46 - 1) < 2 ^ 46
end_bound end = omega arith

pub limit_least : (limit : ℕ) → 1 ≤ max 1 (min limit MOST_EVENTS)
limit_least limit = omega arith

pub limit_most : (limit : ℕ) → max 1 (min limit MOST_EVENTS) ≤ MOST_EVENTS
limit_most limit = omega arith

-- the terms with this end and limit, each brought into its range
unfoldable pub terms_of : ℕ → ℕ → Terms
terms_of end limit = record {
  end = min end (2 ^ 46 - 1);
  limit = max 1 (min limit MOST_EVENTS);
  end_in_range = end_bound end;
  some_event = limit_least limit;
  limit_in_range = limit_most limit;
}

abbrev terms : (end limit : ℕ) → end < 2 ^ 46 → 1 ≤ limit → limit ≤ MOST_EVENTS → Terms
terms end limit near some few = record { end = end; limit = limit; end_in_range = near; some_event = some; limit_in_range = few }

same_limit : (e l : ℕ) (near : e < 2 ^ 46) (some : 1 ≤ l) (few : l ≤ MOST_EVENTS) (k : ℕ) → l ≡ k → (some' : 1 ≤ k) (few' : k ≤ MOST_EVENTS) → terms e l near some few ≡ terms e k near some' few'
same_limit e l near some few k same =
    let P : ℕ → Type 0 = λ m. (some' : 1 ≤ m) (few' : m ≤ MOST_EVENTS) → terms e l near some few ≡ terms e m near some' few' in
    subst P same (λ some' few'. ap (λ h. terms e l near h few) (le_prop some some') ∙ ap (λ h. terms e l near some' h) (le_prop few few'))

same_end : (e l : ℕ) (near : e < 2 ^ 46) (some : 1 ≤ l) (few : l ≤ MOST_EVENTS) (d : ℕ) → e ≡ d → (near' : d < 2 ^ 46) → terms e l near some few ≡ terms d l near' some few
same_end e l near some few d same =
    let P : ℕ → Type 0 = λ m. (near' : m < 2 ^ 46) → terms e l near some few ≡ terms m l near' some few in
    subst P same (λ near'. ap (λ h. terms e l h some few) (le_prop near near'))

-- numbers in their ranges stay as they are
pub terms_of-terms : (t : Terms) → t ≡ terms_of t.end t.limit
unfolding terms_of
terms_of-terms t =
    let end : t.end ≡ min t.end (2 ^ 46 - 1) = omega (arith, t.end_in_range) in
    let limit : t.limit ≡ max 1 (min t.limit MOST_EVENTS) = omega (arith, t.some_event, t.limit_in_range) in
    same_end t.end t.limit t.end_in_range t.some_event t.limit_in_range _ end (end_bound t.end)
    ∙ same_limit _ t.limit (end_bound t.end) t.some_event t.limit_in_range _ limit (limit_least t.limit) (limit_most t.limit)
