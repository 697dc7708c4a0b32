-- As many words are in place as are counted.
use Rattle.std.proofs.Common.{◌≤◌, length, refl}
use Rattle.std.proofs.lemmas.List.{length-take-le}
use Rattle.delta_exchange.proofs.words.Words.len.Goals as goal

pub returns-in-InPlace : goal.returns-in-InPlace
returns-in-InPlace c =
    let counted : c.in-InPlace.count ≤ length c.in-InPlace.words = rw c.in-InPlace.is at c.self.invariant in
    rw (← c.self.view_is, c.in-InPlace.is, length-take-le _ _ counted) refl
