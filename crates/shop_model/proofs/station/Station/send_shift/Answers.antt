use Rattle.std.proofs.Common.{◌≡◌, ◌+◌, true, length, nat_lt, refl}
use Rattle.std.proofs.lemmas.Bool.{lt-ltb}
use Rattle.shop_model.specs.StationEffects.{shift_sent}
use Rattle.shop_model.proofs.station.Station.send_shift.Goals as goal

pub returns-then-number-as_slice-clause-sheet : goal.returns-then-number-as_slice-clause-sheet
unfolding shift_sent
returns-then-number-as_slice-clause-sheet c =
    let within : nat_lt (c.args.number + 1) (length c.args.self.now.shifts) ≡ true =
    lt-ltb _ _ (rw c.as_slice.ensures at c.if-number-as_slice.true) in
    rw (within, c.push.ensures, c.requires.sends, c.to_self.ensures, c.saturating_sub-delay.ensures, c.shift_at.ensures, c.shift_at-at.ensures) refl
