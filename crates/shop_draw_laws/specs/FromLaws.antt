-- What is told before a tick and what is told from it on are all that is told.
use Rattle.std.specs.Prelude.{◌≡◌, ℕ, ◌+◌, ◌≤◌, List, nat_lt}
use Rattle.std.specs.List.{filter}
use Rattle.model_core.specs.declared.note.Part.{Part}
use Rattle.shop_model.specs.ShopParts.{ShopParts}
use Rattle.shop_totals.specs.Flows.{flow_of}
use Rattle.shop_totals.specs.Kept.{ticks_of}
use Rattle.shop_totals.specs.Told.{TimedPart, told_from}
use Rattle.sim_spec.specs.declared.terms.Terms.{Terms}
use Rattle.shop_laws.specs.FlowLaws.{told_of}

-- what is told before a tick
abbrev pub told_before : ℕ → List TimedPart → List TimedPart
told_before time told = filter (λ (one : TimedPart). nat_lt one.time time) told

-- counts, and sums over the ticks of any number that is kept, up to a clock
pub record AddsUpFrom (told : List TimedPart) (first clock : ℕ) : Type 0 where
  pub came : (flow_of told).came ≡ (flow_of (told_before first told)).came + (flow_of (told_from first told)).came
  pub begun : (flow_of told).begun ≡ (flow_of (told_before first told)).begun + (flow_of (told_from first told)).begun
  pub done : (flow_of told).done ≡ (flow_of (told_before first told)).done + (flow_of (told_from first told)).done
  pub lost : (flow_of told).lost ≡ (flow_of (told_before first told)).lost + (flow_of (told_from first told)).lost
  pub reneged : (flow_of told).reneged ≡ (flow_of (told_before first told)).reneged + (flow_of (told_from first told)).reneged
  pub ticks : (after : ℕ → Part → ℕ) (now : ℕ) → ticks_of after now 0 told clock ≡ ticks_of after now 0 told first + ticks_of after now first told clock

-- at each object, after any number of events
abbrev pub TotalsFrom : Type 0
TotalsFrom = (p : ShopParts) (t : Terms) (n i first clock : ℕ) → first ≤ clock → AddsUpFrom (told_of p t n i) first clock
