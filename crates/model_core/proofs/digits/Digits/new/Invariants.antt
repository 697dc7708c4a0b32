use Rattle.std.proofs.Common.{◌≡◌, ℕ, ◌<◌, ◌≤◌, [], length, get_or, vec_capacity}
use Rattle.model_core.specs.DigitTables.{HoldsDigits, HoldsThree}
use Rattle.model_core.proofs.digits.Digits.new.Given as goal

abbrev pub invariant-loop-number : goal.invariant-loop-number
invariant-loop-number l =
    record {
      short_room : 1000 ≤ vec_capacity l.short;
      three_room : 1000 ≤ vec_capacity l.three;
      short_size : length l.short.items ≡ l.number;
      three_size : length l.three.items ≡ l.number;
      shorts : (k : ℕ) → k < l.number → HoldsDigits k (get_or l.short.items k []);
      threes : (k : ℕ) → k < l.number → HoldsThree k (get_or l.three.items k []);
    }
