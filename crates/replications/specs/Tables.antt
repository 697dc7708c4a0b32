-- The sums of each object of a model within a window, in order.
use Rattle.std.specs.Prelude.{ℕ, ◌*◌, ◌^◌, ◌≤◌, All, List, length, map}
use Rattle.std.specs.List.{range_with_len}
use Rattle.event_key.specs.declared.key.Key.{Key}
use Rattle.model_core.specs.declared.limits.TheConstants.{MOST_EVENTS}
use Rattle.model_core.specs.declared.note.Note.{Note}
use Rattle.run_tally.specs.Tallies.{last_time}
use Rattle.replications.specs.declared.window.Window.{Window}
use Rattle.replications.specs.Parts.{parts_told}
use Rattle.replications.specs.Windows.{IsWithin, window_of}

-- what is known of each object, the first tick of the window, how many records were told, and the time of the last one
pub record WindowsView : Type 0 where
  pub objects : List Window
  pub first_tick : ℕ
  pub records : ℕ
  pub last_time : ℕ

-- few records, none of them late, and sums of each object over at most four parts of each record
pub record AreSmall (windows : List Window) (records last_time : ℕ) : Type 0 where
  pub few : records ≤ MOST_EVENTS
  pub early : last_time ≤ 2 ^ 48
  pub sums : All (λ (window : Window). IsWithin (4 * records) window) windows

unfoldable pub windows_of : ℕ → ℕ → List (Key × Note) → WindowsView
windows_of first_tick objects records = record {
  objects = map (λ object. window_of first_tick (parts_told object records)) (range_with_len 0 objects);
  first_tick = first_tick;
  records = length records;
  last_time = last_time 0 records;
}
