-- What an event of a shop leaves, object by object.
use Rattle.std.proofs.Common.{◌≡◌, ◌≢◌, ℕ, ◌+◌, ◌<◌, ◌≤◌, true, List, ◌∷◌, length, sym, ap, ◌∙◌, subst, arith, get_or-set_same, get_or-set_other}
use Rattle.std.specs.Prelude.{IsTrue, if◌then◌else◌, sum_by}
use Rattle.std.proofs.lemmas.List.Elements.{recursion_from_All, All-weaker}
use Rattle.std.specs.List.{AllByRecursion as Each}
use Rattle.std.proofs.lemmas.Bool.{lt-ltb, le-ltb}
use Rattle.std.proofs.lemmas.Bool.Decides.{nat_tests}
use Rattle.std.proofs.lemmas.List.FromFn.{get_or-map-range_with_len}
use Rattle.std.proofs.lemmas.List.Sums.{sum_by-cons}
use Rattle.event_key.specs.declared.key.Key.{Key}
use Rattle.event_key.specs.Keys.{key_lt}
use Rattle.event_key.specs.Stamps.{time_part}
use Rattle.event_key.proofs.Order.{stamp-le}
use Rattle.delta_exchange.specs.Changes.{cells_after_all}
use Rattle.model_core.specs.declared.event.Event.{Event}
use Rattle.model_core.specs.declared.note.Note.{Note}
use Rattle.model_core.specs.Meaning.{Meaning}
use Rattle.sim_spec.specs.declared.terms.Terms.{Terms}
use Rattle.sim_spec.specs.Firing.{ObjectState}
use Rattle.sim_spec.specs.State.{State, Lawful, initial_state, first_object, no_object}
use Rattle.sim_spec.specs.Run.{does, next}
use Rattle.sim_spec.proofs.FiringLemmas.{goes-effect}
use Rattle.sim_spec.proofs.RunLemmas.{first_sound}
use Rattle.run_laws.specs.Reached.{Reaches, after_events, first_records}
use Rattle.run_laws.proofs.OrderLaw.{records_first}
use Rattle.run_laws.proofs.EnqueueSums.{sum_by-enqueue_all}
use Rattle.run_laws.proofs.ReachedLemmas.{reached-lawful}
use Rattle.run_laws.proofs.Steps.{IsStep, is_step, first_firing, object_here, object_elsewhere, pending_before, pending_after}
use Rattle.shop_model.specs.Classes.{is_class_cells, first_class_cells}
use Rattle.shop_model.specs.Lawful.{IsLawful, lawful_from}
use Rattle.shop_model.specs.Meaning.{class_of_object, lawful_at, effect_at, first_at, shop_meaning}
use Rattle.shop_model.specs.ModelLaws.{shop_laws, lawful_class}
use Rattle.shop_model.specs.ShopParts.{ShopParts, IsShop, routes_of, station_at}
use Rattle.shop_model.specs.Stations.{is_station_cells, first_station_cells}
use Rattle.shop_laws.specs.Told.{cells_at}

-- an event of a shop, at a lawful state
pub record IsShopStep (p : ShopParts) (t : Terms) (s : State) (told : Key × Note) (after : State) : Type 0 where
  pub step : IsStep (shop_meaning p) t s told after
  pub open step use {event, rest, effect, pending, due, outcome, no_chain, tells, leaves, event.{key.{dest}}}
  pub lawful : Lawful (shop_meaning p) t s
  pub exists : step.event.key.dest < length p.stations + length p.classes
  pub long : length s.objects ≡ length p.stations + length p.classes
  pub does_so : step.effect ≡ effect_at p step.event.key.dest (cells_at s step.event.key.dest) step.event

pub reached_lawful : (p : ShopParts) (t : Terms) (s : State) → IsShop p → Reaches (shop_meaning p) t s → Lawful (shop_meaning p) t s
reached_lawful p t s fine reached = reached-lawful (shop_meaning p) t s (shop_laws p fine) reached

pub shop_step : (p : ShopParts) (t : Terms) (s : State) (told : Key × Note) (after : State) → IsShop p → Reaches (shop_meaning p) t s
    → next (shop_meaning p) t s ≡ does told after → IsShopStep p t s told after
unfolding shop_meaning
shop_step p t s told after fine reached is_next =
    let step : IsStep (shop_meaning p) t s told after = is_step (shop_meaning p) t s told after is_next in
    let lawful : Lawful (shop_meaning p) t s = reached_lawful p t s fine reached in
    record {
      step = step;
      lawful = lawful;
      exists = (first_sound (shop_meaning p) t s step.event step.rest lawful step.pending).dest;
      long = lawful.objects;
      does_so = sym (goes-effect (effect_at p step.event.key.dest (cells_at s step.event.key.dest) step.event) step.effect step.outcome);
    }

-- the cells of a station in a lawful state
pub station_lawful : (p : ShopParts) (t : Terms) (s : State) (i : ℕ) → Lawful (shop_meaning p) t s → i < length p.stations
    → IsLawful i (routes_of p) (station_at p.stations i) (cells_at s i)
unfolding shop_meaning lawful_at
station_lawful p t s i lawful early =
    lawful_from i (routes_of p) (station_at p.stations i) (cells_at s i)
    (subst
    (λ b. IsTrue (if b then is_station_cells i (routes_of p) (station_at p.stations i) (cells_at s i) else is_class_cells (class_of_object p i).count (cells_at s i)))
    (lt-ltb i (length p.stations) early) (lawful.cells i (omega (arith, early))))

-- the object of the event has other cells, and each other object keeps its own
pub cells_here : (p : ShopParts) (t : Terms) (s : State) (told : Key × Note) (after : State) (n : IsShopStep p t s told after)
    → cells_at after n.event.key.dest ≡ cells_after_all n.effect.changes (cells_at s n.event.key.dest)
cells_here p t s told after n =
    ap (λ (o : ObjectState). o.cells) (object_here (shop_meaning p) t s told after n.step (omega (arith, n.exists, n.long)))

pub cells_elsewhere : (p : ShopParts) (t : Terms) (s : State) (told : Key × Note) (after : State) (n : IsShopStep p t s told after) (i : ℕ)
    → i ≢ n.event.key.dest → cells_at after i ≡ cells_at s i
cells_elsewhere p t s told after n i apart = ap (λ (o : ObjectState). o.cells) (object_elsewhere (shop_meaning p) t s told after n.step i apart)

-- a sum over what is pending: the event is taken off, and what it sends comes in
pub sum_before : (p : ShopParts) (t : Terms) (s : State) (told : Key × Note) (after : State) (n : IsShopStep p t s told after) (f : Event → ℕ)
    → sum_by f s.pending ≡ f n.event + sum_by f n.rest
sum_before p t s told after n f = pending_before (shop_meaning p) t s told after n.step f

pub sum_after : (p : ShopParts) (t : Terms) (s : State) (told : Key × Note) (after : State) (n : IsShopStep p t s told after) (f : Event → ℕ)
    → sum_by f after.pending ≡ sum_by f (first_firing s n.event n.effect).events + sum_by f n.rest
sum_after p t s told after n f = pending_after (shop_meaning p) t s told after n.step f

-- a station at the start
pub station_at_start : (p : ShopParts) (i : ℕ) → i < length p.stations → cells_at (initial_state (shop_meaning p)) i ≡ first_station_cells (station_at p.stations i)
unfolding initial_state shop_meaning first_at
station_at_start p i early =
    ap (λ (o : ObjectState). o.cells)
    (get_or-map-range_with_len (first_object (shop_meaning p)) 0 (length p.stations + length p.classes) i i no_object (omega (arith, early)) (omega arith))
    ∙ ap (λ b. if b then first_station_cells (station_at p.stations i) else first_class_cells) (lt-ltb i (length p.stations) early)

-- the cells of a class are three words
pub class_cells_lawful : (p : ShopParts) (t : Terms) (s : State) (i : ℕ) → Lawful (shop_meaning p) t s → length p.stations ≤ i → i < length p.stations + length p.classes
    → length (cells_at s i).words ≡ 3
unfolding shop_meaning
class_cells_lawful p t s i lawful past exists =
    let cells : IsTrue (is_class_cells (class_of_object p i).count (cells_at s i)) = lawful_class p i (cells_at s i) past (lawful.cells i exists) in
    grind (arith, nat_tests)

-- a class at the start
pub class_at_start : (p : ShopParts) (class : ℕ) → class < length p.classes → cells_at (initial_state (shop_meaning p)) (length p.stations + class) ≡ first_class_cells
unfolding initial_state shop_meaning first_at
class_at_start p class exists =
    let i : ℕ = length p.stations + class in
    ap (λ (o : ObjectState). o.cells)
    (get_or-map-range_with_len (first_object (shop_meaning p)) 0 (length p.stations + length p.classes) i i no_object (omega (arith, exists)) (omega arith))
    ∙ ap (λ b. if b then first_station_cells (station_at p.stations i) else first_class_cells) (le-ltb i (length p.stations) (omega arith))

-- no record is later than a clock
abbrev pub AllBy : ℕ → List (Key × Note) → Type 0
AllBy clock records = Each (λ (r : Key × Note). time_part r.0.stamp ≤ clock) records

-- the records before an event are no later than it
pub earlier : (p : ShopParts) (t : Terms) → IsShop p → (n : ℕ) (e : Event) (rest : List Event) → (after_events n (shop_meaning p) t).pending ≡ e ∷ rest
    → AllBy (time_part e.key.stamp) (first_records n (shop_meaning p) t)
earlier p t fine n e rest pending =
    let m : Meaning = shop_meaning p in
    recursion_from_All (λ (r : Key × Note). time_part r.0.stamp ≤ time_part e.key.stamp) (first_records n m t)
    (All-weaker (λ (r : Key × Note). Each (λ (e : Event). key_lt r.0 e.key ≡ true) (after_events n m t).pending) (λ (r : Key × Note). time_part r.0.stamp ≤ time_part e.key.stamp)
    (λ r later.
    let all : Each (λ (e : Event). key_lt r.0 e.key ≡ true) (e ∷ rest) = subst (λ (es : List Event). Each (λ (e : Event). key_lt r.0 e.key ≡ true) es) pending later in
    let stamps : r.0.stamp ≤ e.key.stamp = stamp-le r.0 e.key all.0 in
    omega arith)
    (first_records n m t) (records_first m t (shop_laws p fine) n))
