use Rattle.std.proofs.Common.{refl}
use Rattle.shop_model.proofs.PlaceLemmas.{place_changes-same}
use Rattle.shop_model.proofs.station_event.StationEvent.patience.Goals as goal

pub returns-in-None-clause-sheet : goal.returns-in-None-clause-sheet
returns-in-None-clause-sheet c = rw (c.in-None.is, place_changes-same, c.requires.blank) refl
