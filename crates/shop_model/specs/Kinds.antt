-- The ranks of the events that an object sends to itself.
use Rattle.std.specs.Prelude.{ℕ, ◌==◌, ◌||◌, if◌then◌else◌}
use Rattle.shop_model.specs.declared.kinds.TheConstants.{MAKE, CALL, TIRE, SHIFT, BREAK, MEND}

unfoldable pub rank_of : ℕ → ℕ
rank_of kind =
    if kind == MAKE then 4
    else if kind == CALL then 16
    else if kind == TIRE then 3
    else if kind == SHIFT then 2
    else if kind == BREAK || kind == MEND then 1
    else 0
