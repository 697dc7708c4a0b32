-- Laws that are read can be drawn.
use Rattle.std.proofs.Common.{◌≡◌, ℕ, ◌≤◌, true, List, [], ◌∷◌, refl, arith}
use Rattle.std.specs.Prelude.{All, IsTrue, nat_le}
use Rattle.std.proofs.lemmas.Bool.Decides.{nat_tests}
use Rattle.std.proofs.lemmas.List.Elements.{All-head, All-tail}
use Rattle.random_streams.specs.Delays.{are_values}

pub values-small : (values : List ℕ) → All (λ n. n ≤ 1099511627776) values → IsTrue (are_values values)
unfolding are_values
values-small [] small = refl
values-small (value ∷ values) small =
    let low : value ≤ 1099511627776 = All-head (λ n. n ≤ 1099511627776) value values small in
    let here : nat_le value 1099511627776 ≡ true = grind (arith, nat_tests, low) in
    rw here (values-small values (All-tail (λ n. n ≤ 1099511627776) value values small))
