-- A test of places.
use Rattle.std.proofs.lemmas.Bool.{and_from, and_parts}
use Rattle.std.proofs.Common.{◌≡◌, ℕ, Bool, true, false, refl, ap, ◌∙◌, eqb-true, eq-eqb}
use Rattle.std.specs.Prelude.{◌==◌, ◌&&◌}
use Rattle.event_key.specs.Keys.{same_key}
use Rattle.event_key.proofs.Order.{same_key-is, same_key-itself}
use Rattle.subject_laws.specs.Places.{Place, at_event, in_line, has_left, was_lost}

pub same_place : Place → Place → Bool
same_place (at_event j) (at_event k) = same_key j k
same_place (at_event j) (in_line i k) = false
same_place (at_event j) has_left = false
same_place (at_event j) was_lost = false
same_place (in_line h j) (at_event k) = false
same_place (in_line h j) (in_line i k) = h == i && j == k
same_place (in_line h j) has_left = false
same_place (in_line h j) was_lost = false
same_place has_left (at_event k) = false
same_place has_left (in_line i k) = false
same_place has_left has_left = true
same_place has_left was_lost = false
same_place was_lost (at_event k) = false
same_place was_lost (in_line i k) = false
same_place was_lost has_left = false
same_place was_lost was_lost = true

same_place-true : (a b : Place) → same_place a b ≡ true → a ≡ b
unfolding same_place
same_place-true (at_event j) (at_event k) h = ap at_event (same_key-is j k h)
same_place-true (at_event j) (in_line i k) h = absurd (cc)
same_place-true (at_event j) has_left h = absurd (cc)
same_place-true (at_event j) was_lost h = absurd (cc)
same_place-true (in_line g j) (at_event k) h = absurd (cc)
same_place-true (in_line g j) (in_line i k) h =
    ap (λ l. in_line l j) (eqb-true g i (and_parts (g == i) (j == k) h).0) ∙ ap (λ l. in_line i l) (eqb-true j k (and_parts (g == i) (j == k) h).1)
same_place-true (in_line g j) has_left h = absurd (cc)
same_place-true (in_line g j) was_lost h = absurd (cc)
same_place-true has_left (at_event k) h = absurd (cc)
same_place-true has_left (in_line i k) h = absurd (cc)
same_place-true has_left has_left h = refl
same_place-true has_left was_lost h = absurd (cc)
same_place-true was_lost (at_event k) h = absurd (cc)
same_place-true was_lost (in_line i k) h = absurd (cc)
same_place-true was_lost has_left h = absurd (cc)
same_place-true was_lost was_lost h = refl

same_place-same : (a : Place) → same_place a a ≡ true
unfolding same_place
same_place-same (at_event k) = same_key-itself k
same_place-same (in_line i k) = and_from (i == i) (k == k) (eq-eqb i i refl) (eq-eqb k k refl)
same_place-same has_left = refl
same_place-same was_lost = refl

abbrev pub same_at : ℕ × Place → ℕ × Place → Bool
same_at a b = a.0 == b.0 && same_place a.1 b.1

pub same_at-true : (a b : ℕ × Place) → same_at a b ≡ true → a ≡ b
same_at-true a b h =
    let number : a.0 ≡ b.0 = eqb-true a.0 b.0 (and_parts (a.0 == b.0) (same_place a.1 b.1) h).0 in
    let place : a.1 ≡ b.1 = same_place-true a.1 b.1 (and_parts (a.0 == b.0) (same_place a.1 b.1) h).1 in
    λ i. (number i, place i)

pub same_at-same : (a : ℕ × Place) → same_at a a ≡ true
same_at-same a = and_from (a.0 == a.0) (same_place a.1 a.1) (eq-eqb a.0 a.0 refl) (same_place-same a.1)
