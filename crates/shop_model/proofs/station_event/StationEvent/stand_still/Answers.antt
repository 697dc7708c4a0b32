use Rattle.std.proofs.Common.{append_assoc, refl}
use Rattle.shop_model.specs.StationEffects.{still_effect}
use Rattle.shop_model.proofs.station_event.StationEvent.stand_still.Goals as goal

pub returns : goal.returns
unfolding still_effect
returns c =
    rw (
      c.told-sheet.ensures,
      c.busy-busy.ensures,
      c.of.ensures,
      c.push-3.ensures,
      c.to_self.ensures,
      c.push-2.ensures,
      c.push.ensures,
      c.draw-still.ensures.sheet,
      c.word.ensures,
      c.draw-still.ensures.value,
      append_assoc,
    )
    refl
