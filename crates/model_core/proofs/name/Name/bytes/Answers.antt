use Rattle.std.proofs.Common.{◌≡◌, ◌≤◌, length, arith}
use Rattle.model_core.proofs.name.Name.bytes.Goals as goal

pub shared_ref_as_front-result : goal.shared_ref_as_front-result
shared_ref_as_front-result c =
    let counted : (c.in-InPlace.count ≤ 16) × (length c.in-InPlace.bytes ≡ 16) = rw c.in-InPlace.is at c.self.invariant in
    omega (arith, counted.0, c.from.ensures)
