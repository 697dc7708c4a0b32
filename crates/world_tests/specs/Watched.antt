-- Lists of values, and of those in which they are.
use Rattle.std.specs.Prelude.{◌≡◌, ℕ, suc, ◌≤◌, List, [], ◌∷◌, Vec, length, map, refl, vec_capacity}
use Rattle.std.specs.List.{AllZip}
use Rattle.std.specs.declared.alloc.Global.{Global}
use Rattle.std.proofs.Common.{ap, sym, subst}

-- room for so many, and nothing in it
abbrev pub IsRoomFor : {E : Type 0} → ℕ → Vec E Global → Type 0
IsRoomFor count room = (room.items ≡ []) × (count ≤ vec_capacity room)

module _ {W E : Type 0} (inner : W → E) where
  -- what pairs are, the pairs of what is in them are, and there are as many
  pub zip_inner : (Q : E → E → Type 0) (old new : List W) → AllZip (λ x y. Q (inner x) (inner y)) old new
      → AllZip Q (map inner old) (map inner new) × (length new ≡ length old)
  zip_inner Q [] [] same = (tt, refl)
  zip_inner Q [] (y ∷ ys) same = absurd same
  zip_inner Q (x ∷ xs) [] same = absurd same
  zip_inner Q (x ∷ xs) (y ∷ ys) same = let rest = zip_inner Q xs ys same.1 in ((same.0, rest.0), ap suc rest.1)

pub same_room : {W E : Type 0} (room : Vec E Global) (old new : List W) → length new ≡ length old → IsRoomFor (length old) room → IsRoomFor (length new) room
same_room room old new same is = subst (λ count. IsRoomFor count room) (sym same) is
