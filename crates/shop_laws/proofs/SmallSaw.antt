-- A saw that works for five ticks and stands still for three, in turn, computed: logs come at ticks 0 and 4, and each is sawn
-- for four.
use Rattle.std.proofs.Common.{◌≡◌, ℕ, refl, [], ◌∷◌}
use Rattle.std.specs.Prelude.{None, Some, count_by, slice_index}
use Rattle.random_streams.specs.declared.delay_law.DelayLaw.TheVariants.{Plain}
use Rattle.random_streams.specs.declared.law.Law.TheVariants.{Fixed}
use Rattle.run_laws.specs.Reached.{after_events}
use Rattle.sim_spec.specs.State.{State}
use Rattle.shop_model.specs.declared.class.Class.{Class}
use Rattle.shop_model.specs.declared.station.Order.TheVariants.{First}
use Rattle.shop_model.specs.declared.station.Station.{Station}
use Rattle.shop_model.specs.declared.station.TheConstants.{LAG}
use Rattle.shop_model.specs.declared.step.Step.TheVariants.{Visit}
use Rattle.shop_model.specs.Meaning.{shop_meaning}
use Rattle.shop_model.specs.ShopParts.{ShopParts}
use Rattle.shop_model.specs.Stations.{counts_of}
use Rattle.shop_totals.specs.Kept.{number_after}
use Rattle.shop_totals.specs.Sums.{after_down}
use Rattle.shop_laws.specs.FlowLaws.{told_of, standstills}
use Rattle.shop_laws.specs.Told.{cells_at}
use Rattle.shop_laws.specs.TurnLaws.{turns}
use Rattle.shop_laws.proofs.SmallDesk.{to_fifty, desk_run}

unfoldable pub saw : Station
saw = record {
  name = 115 ∷ [];
  servers = 1;
  most = 1;
  line = 10;
  order = First;
  levels = 1;
  shifts = [];
  period = None;
  breakdowns = Some (record { up = Plain (Fixed 5); down = Plain (Fixed 3) });
}

unfoldable pub logs : Class
logs = record {
  name = 108 ∷ [];
  every = None;
  first = 0;
  until = 0;
  times = 0 ∷ 4 ∷ [];
  batch = None;
  count = 9;
  priority = 0;
  due = None;
  route = Visit (record { station = 0; service = Some (Plain (Fixed 4)); patience = None; away = 2; full = 2 }) ∷ [];
}

unfoldable pub yard : ShopParts
unfolding saw logs
yard = record { seed = 7; stations = saw ∷ []; classes = logs ∷ [] }

-- eight events are done: the saw stands still from tick 5 on, and its repair is pending
eight : State
eight = after_events 8 (shop_meaning yard) to_fifty

turns_seen : ◌≡◌ {A = ℕ × ℕ × ℕ} (count_by (turns 0) eight.pending, (counts_of (cells_at eight 0)).down, number_after after_down 0 (told_of yard to_fifty 8 0)) (1, 1, 1)
unfolding eight yard saw logs to_fifty desk_run
turns_seen = refl

-- the lag is the standstill that was told
lag_seen : ◌≡◌ {A = ℕ × ℕ} (slice_index (cells_at eight 0).words LAG, standstills (told_of yard to_fifty 8 0)) (3, 3)
unfolding eight yard saw logs to_fifty desk_run
lag_seen = refl
