use Rattle.std.proofs.Common.{◌≡◌, true, length, nat_lt, refl}
use Rattle.std.proofs.lemmas.Bool.{lt-ltb}
use Rattle.shop_model.specs.StationEffects.{shift_effect}
use Rattle.shop_model.proofs.station_event.StationEvent.shift.Goals as goal

pub returns : goal.returns
unfolding shift_effect
returns c =
    let at = c.args.self.now in
    let within : nat_lt at.event.now.a (length at.station.now.shifts) ≡ true = lt-ltb _ _ (rw c.as_slice.ensures at c.if-number-as_slice.false) in
    rw (
      within,
      c.told-sheet.ensures,
      c.busy.ensures,
      c.call.ensures,
      c.send_shift.ensures.sheet,
      c.push.ensures,
      c.requires,
      c.from-opened.ensures,
      c.shift_at.ensures,
      c.of.ensures,
    )
    refl
