-- Remainders by multiplication with a reciprocal.
use Rattle.std.proofs.Common.{◌≡◌, ℕ, ◌+◌, ◌*◌, ◌/◌, ◌%◌, ◌<◌, ◌≤◌, arith, mul-le-mul_left, mul-le-mul_right, mul-lt-mul_of_pos_right, le_of_mul-le-mul_right, lt_of_mul-lt-mul_right, ap, ◌∙◌}
use Rattle.std.proofs.lemmas.Nat.{div-add-mod', mod_below, mod-mul-add}

-- where w is m times d and less than d more, and x times m is q times w and less than w more, q is x divided by d or one less
near : (w d m r x q s : ℕ) → x < w → r < d → s < w → m * d + r ≡ w → q * w + s ≡ x * m → (q * d ≤ x) × (x < q * d + 2 * d)
near w d m r x q s below short rest whole part =
    let positive : 0 < w = omega arith in
    let some : 0 < d = omega arith in
    let product : x * (m * d + r) ≡ x * w = ap (λ k. x * k) whole in
    let least : q * w * d ≤ x * m * d = mul-le-mul_right d (omega arith) in
    let most : x * m * d < (q * w + w) * d = mul-lt-mul_of_pos_right (omega arith) some in
    let left : x * r ≤ x * d = mul-le-mul_left x (omega arith) in
    let small : x * d < w * d = mul-lt-mul_of_pos_right below some in
    (le_of_mul-le-mul_right {k = w} (omega arith) positive, lt_of_mul-lt-mul_right w (omega arith))

-- x times the reciprocal w / d, divided by w, is x divided by d or one less
pub quotient_by_reciprocal : (w d x : ℕ) → 0 < d → x < w → (x * (w / d) / w * d ≤ x) × (x < x * (w / d) / w * d + 2 * d)
quotient_by_reciprocal w d x some below =
    near w d (w / d) (w % d) x (x * (w / d) / w) (x * (w / d) % w) below (mod_below w d some) (mod_below (x * (w / d)) w (omega arith))
    (div-add-mod' w d) (div-add-mod' (x * (w / d)) w)

-- what is left of x above a multiple of d, where it is below d
pub remainder_is : (d x q l : ℕ) → x ≡ q * d + l → l < d → x % d ≡ l
remainder_is d x q l is below = ap (λ n. n % d) is ∙ mod-mul-add q d l below
