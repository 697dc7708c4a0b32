use Rattle.std.proofs.Common.{◌≡◌, ℕ, ◌+◌, ◌-◌, ◌*◌, ◌/◌, ◌^◌, ◌<◌, ◌≤◌, sym, arith}
use Rattle.random_streams.proofs.Reciprocals.{quotient_by_reciprocal, remainder_is}
use Rattle.random_streams.proofs.divisor.Divisor.remainder.Goals as goal

-- a word, and its quotient by a reciprocal r of d
near : (x d r : ℕ) → x < 2 ^ 32 → 0 < d → r ≡ 2 ^ 32 / d → (x * r / 4294967296 * d ≤ x) × (x < x * r / 4294967296 * d + 2 * d)
near x d r fits some is = rw is (quotient_by_reciprocal (2 ^ 32) d x some fits)

pub overflow_sub-left : goal.overflow_sub-left
overflow_sub-left c =
    (near c.from-word.result c.self.inside.divisor c.self.inside.reciprocal (omega arith) c.self.invariant.0 c.self.invariant.2).0

pub returns-then-left-self : goal.returns-then-left-self
returns-then-left-self c =
    let x = c.from-word.result in
    let d = c.self.inside.divisor in
    let q = x * c.self.inside.reciprocal / 4294967296 in
    let close = near x d c.self.inside.reciprocal (omega arith) c.self.invariant.0 c.self.invariant.2 in
    rw (← c.self.view_is, ← c.from-word.ensures) (sym (remainder_is d x q (x - q * d) (omega arith) c.if-left-self.true))

pub returns-else-left-self : goal.returns-else-left-self
returns-else-left-self c =
    let x = c.from-word.result in
    let d = c.self.inside.divisor in
    let q = x * c.self.inside.reciprocal / 4294967296 in
    let close = near x d c.self.inside.reciprocal (omega arith) c.self.invariant.0 c.self.invariant.2 in
    let above : d ≤ x - q * d = c.if-left-self.false in
    rw (← c.self.view_is, ← c.from-word.ensures) (sym (remainder_is d x (q + 1) (x - q * d - d) (omega arith) (omega arith)))
