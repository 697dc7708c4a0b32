-- The beginnings of lines.
use Rattle.std.specs.Prelude.{◌≡◌, ℕ, ◌≤◌, List, ◌++◌, codes, length, take}
use Rattle.sim_io.specs.Texts.{stamp_text}

-- the first ones of these bytes are the text of a stamp and a space
pub record IsHead (stamp : ℕ) (bytes : List ℕ) (count : ℕ) : Type 0 where
  pub text : take count bytes ≡ stamp_text stamp ++ codes " "
  pub size : length bytes ≡ 112
  pub few : count ≤ 22
