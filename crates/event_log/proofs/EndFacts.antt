-- Where the last events come before a key, all do, and nothing is undone from there on.
use Rattle.std.proofs.Common.{◌≡◌, ℕ, ◌+◌, ◌<◌, ◌≤◌, Bool, true, false, not, cond, eqb-true, Some, List, [], ◌∷◌, length, get_or, refl, sym, ap, ◌∙◌, subst, arith}
use Rattle.std.specs.List.{AllByRecursion as Each}
use Rattle.event_key.specs.declared.key.Key.{Key}
use Rattle.event_key.specs.Keys.{key_lt}
use Rattle.event_key.proofs.Order.{key_lt-stamp, key_lt-trans}
use Rattle.key_order.specs.Ascending.{Ascends}
use Rattle.key_order.proofs.AscendingLemmas.{Ascends-before}
use Rattle.key_order.proofs.EachLemmas.{Each-append, Each-map}
use Rattle.key_order.proofs.FilterLemmas.{filter-all, filter-none}
use Rattle.model_core.specs.declared.event.Event.{Event}
use Rattle.sim_spec.specs.Firing.{ObjectState}
use Rattle.object_log.specs.Carrying.{Placed, placed_key}
use Rattle.object_log.specs.Dones.{Done}
use Rattle.object_log.specs.EventCalls.{HasGoneBack}
use Rattle.object_log.specs.EventLogs.{EventLogView, dones_at, is_of, stays, state_in}
use Rattle.object_log.specs.Logs.{events_of, undone}
use Rattle.object_log.specs.Parts.{from_key}
use Rattle.object_log.specs.Whole.{dones_in}
use Rattle.event_log.specs.Items.{Item, item_key, placed}
use Rattle.event_log.specs.Latest.{AreBounded, bound_of}
use Rattle.event_log.specs.Processing.{merged, placed_all}
use Rattle.event_log.proofs.TurnLemmas.{each-placed, ends}
use Rattle.event_log.proofs.WovenFacts.{Each-weave}
use Rattle.std.specs.Prelude.{◌&&◌}

-- where the last item comes before a key, all do
pub items-before : (key : Key) (es : List Item) (n : ℕ) (x : Item) → Ascends item_key es → n + 1 ≡ length es → x ≡ get_or es n x → key_lt (item_key x) key ≡ true → Each (λ (p : Placed). key_lt (placed_key p) key ≡ true) (placed es)
items-before key es n x up long at lt =
    let P : Item → Type 0 = λ i. key_lt (item_key i) key ≡ true in
    let split = ends es n x long at in
    let low = Ascends-before item_key split.0 x [] (subst (Ascends item_key) split.1 up) in
    let front = Each-map (λ (i : Item). key_lt (item_key i) (item_key x) ≡ true) P split.0 (λ i below. key_lt-trans (item_key i) (item_key x) key below lt) low in
    each-placed (λ k. key_lt k key ≡ true) es (subst (Each P) (sym split.1) (Each-append P split.0 (x ∷ []) front (lt, tt)))

placed-before : (key : Key) (ds : List Done) (places : List ℕ) → Each (λ (d : Done). key_lt d.event.key key ≡ true) ds → Each (λ (p : Placed). key_lt (placed_key p) key ≡ true) (placed_all ds places)
unfolding placed_all
placed-before key [] places all = tt
placed-before key (d ∷ ds) [] all = tt
placed-before key (d ∷ ds) (place ∷ places) all = (all.0, placed-before key ds places all.1)

-- so it is of both parts together
pub merged-before : (key : Key) (ds : List Done) (places : List ℕ) (items : List Placed) → Each (λ (d : Done). key_lt d.event.key key ≡ true) ds → Each (λ (p : Placed). key_lt (placed_key p) key ≡ true) items
    → Each (λ (p : Placed). key_lt (placed_key p) key ≡ true) (merged ds places items)
merged-before key ds places items one other = Each-weave placed_key (λ (p : Placed). key_lt (placed_key p) key ≡ true) (placed_all ds places) items (placed-before key ds places one) other

pub dones-before : (key : Key) (items : List Placed) → Each (λ (p : Placed). key_lt (placed_key p) key ≡ true) items → Each (λ (d : Done). key_lt d.event.key key ≡ true) (dones_in items)
dones-before key [] all = tt
dones-before key (p ∷ ps) all = (all.0, dones-before key ps all.1)

-- nothing goes back to a key after all of the object's
module _ (object : ℕ) (key : Key) (log : EventLogView) (into : List Event) (was : ObjectState) (here : state_in log.objects object ≡ Some was) (empty : into ≡ []) where
  abbrev Comes : Done → Type 0
  Comes d = is_of object d ≡ true → key_lt d.event.key key ≡ true

  pub none-back : Each Comes log.done → HasGoneBack object key log log into
  unfolding undone
  none-back all =
      let none : from_key key (dones_at object log.done) ≡ [] = filter-none (λ (d : Done). not (key_lt d.event.key key)) (dones_at object log.done) (own log.done all) in
      record {
        was = was;
        done = sym (filter-all (stays object key) log.done (Each-map Comes (λ (d : Done). stays object key d ≡ true) log.done (λ d comes. stay d (is_of object d) refl comes) all));
        changes = record {
          before = here;
          after = here ∙ ap (λ (ds : List Done). Some (undone was ds)) (sym none);
          states = λ other apart. refl;
          numbers = refl;
          dones = λ other apart. refl;
        };
        events = empty ∙ ap events_of (sym none);
      }
    where
      stay : (d : Done) (b : Bool) → is_of object d ≡ b → Comes d → not (b && not (key_lt d.event.key key)) ≡ true
      stay d true is comes = ap (λ c. not (not c)) (comes is)
      stay d false is comes = refl

      own : (ds : List Done) → Each Comes ds → Each (λ (d : Done). not (key_lt d.event.key key) ≡ false) (dones_at object ds)
      own [] all = tt
      own (d ∷ ds) all = by_test (is_of object d) refl (own ds all.1)
        where
          by_test : (b : Bool) → is_of object d ≡ b → Each (λ (x : Done). not (key_lt x.event.key key) ≡ false) (dones_at object ds) → Each (λ (x : Done). not (key_lt x.event.key key) ≡ false) (cond b (d ∷ dones_at object ds) (dones_at object ds))
          by_test true is more = (ap not (all.0 is), more)
          by_test false is more = more

-- so it is where all come before the key
pub all-comes : (object : ℕ) (key : Key) (ds : List Done) → Each (λ (d : Done). key_lt d.event.key key ≡ true) ds → Each (λ (d : Done). is_of object d ≡ true → key_lt d.event.key key ≡ true) ds
all-comes object key [] all = tt
all-comes object key (d ∷ ds) all = ((λ is. all.0), all-comes object key ds all.1)

-- and where the bound of the object does
pub bounded-comes : (bounds : List ℕ) (object : ℕ) (key : Key) (ps : List Placed) → bound_of bounds object < key.stamp → AreBounded bounds ps → Each (λ (d : Done). is_of object d ≡ true → key_lt d.event.key key ≡ true) (dones_in ps)
bounded-comes bounds object key [] low all = tt
bounded-comes bounds object key (p ∷ ps) low all = (first, bounded-comes bounds object key ps low all.1)
  where
    first : is_of object p.done ≡ true → key_lt (placed_key p) key ≡ true
    first is =
        let same : (placed_key p).dest ≡ object = eqb-true (placed_key p).dest object is in
        let S : ℕ → Type 0 = λ n. (placed_key p).stamp ≤ bound_of bounds n in
        let le : (placed_key p).stamp ≤ bound_of bounds object = subst S same all.0 in
        key_lt-stamp (placed_key p) key (omega arith)
