-- The numbers of token rings that definitions cite by their names.
use Rattle.std.specs.Prelude.{◌≡◌}
use Rattle.own_model.specs.declared.ring.TheConstants.{TOKEN, HOLDS, LATE}

pub record Numbers : Type 0 where
  pub token : TOKEN ≡ 1
  pub holds : HOLDS ≡ 1
  pub late : LATE ≡ 2
