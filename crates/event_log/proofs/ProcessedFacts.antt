-- The news among what is carried.
use Rattle.std.proofs.Common.{◌≡◌, ℕ, ◌+◌, ◌<◌, ◌≤◌, ◌^◌, min, Bool, true, false, cond, List, [], ◌∷◌, ◌++◌, length, map, refl, sym, ap, ◌∙◌, subst, arith, length-append}
use Rattle.std.proofs.lemmas.List.{map-append}
use Rattle.std.proofs.lemmas.List.Sorted.{length_permutation}
use Rattle.std.specs.List.{AllByRecursion as Each}
use Rattle.event_key.specs.Keys.{key_lt}
use Rattle.event_key.specs.declared.stamp.TheConstants.{NO_STAMP}
use Rattle.key_order.proofs.EachLemmas.{Each-append, Each-front}
use Rattle.key_order.specs.Ascending.{Ascends}
use Rattle.key_order.specs.Keys.{times}
use Rattle.key_order.specs.Stamps.{least_stamp}
use Rattle.key_order.proofs.StampLemmas.{least_stamp-le}
use Rattle.model_core.specs.declared.event.Event.{Event}
use Rattle.object_log.specs.Carrying.{Placed, placed_key}
use Rattle.object_log.specs.Dones.{Done}
use Rattle.object_log.specs.Flat.{zeros}
use Rattle.object_log.specs.Logs.{held_of}
use Rattle.object_log.specs.Weave.{insert, weave}
use Rattle.object_log.specs.Whole.{dones_in}
use Rattle.object_log.proofs.CellLemmas.{zeros-fired}
use Rattle.object_log.proofs.HeldLemmas.{least-join}
use Rattle.object_log.proofs.WeaveLemmas.{insert-ascends, insert-fresh, weave-below, weave-come, weave-last, weave-permutation}
use Rattle.event_log.specs.Items.{CarriedView}
use Rattle.event_log.specs.News.{NewsView, homed}
use Rattle.event_log.specs.Outboxes.{message}
use Rattle.event_log.specs.Processing.{AreHomed, CanCarry, IsProcessed, ProcessedView, merged, placed_all, processed_view}
use Rattle.event_log.proofs.ProcessFacts.{sent-more}

-- the news at the places of their objects
pub placed-push : (ds : List Done) (places : List ℕ) (d : Done) (place : ℕ) → length places ≡ length ds → placed_all (ds ++ d ∷ []) (places ++ place ∷ []) ≡ placed_all ds places ++ (record { done = d; place = place }) ∷ []
unfolding placed_all
placed-push [] [] d place long = refl
placed-push [] (x ∷ xs) d place long = absurd (omega arith)
placed-push (x ∷ ds) [] d place long = absurd (omega arith)
placed-push (x ∷ ds) (p ∷ places) d place long = ap (λ ps. (record { done = x; place = p }) ∷ ps) (placed-push ds places d place (omega arith))

pub placed-dones : (ds : List Done) (places : List ℕ) → length places ≡ length ds → dones_in (placed_all ds places) ≡ ds
unfolding placed_all
placed-dones [] places long = refl
placed-dones (d ∷ ds) [] long = absurd (omega arith)
placed-dones (d ∷ ds) (p ∷ places) long = ap (λ xs. d ∷ xs) (placed-dones ds places (omega arith))

placed-long : (ds : List Done) (places : List ℕ) → length places ≡ length ds → length (placed_all ds places) ≡ length ds
unfolding placed_all
placed-long [] places long = refl
placed-long (d ∷ ds) [] long = absurd (omega arith)
placed-long (d ∷ ds) (p ∷ places) long = (let more = placed-long ds places (omega arith) in omega arith)

pub merged-none : (ds : List Done) (places : List ℕ) (items : List Placed) → ds ≡ [] → merged ds places items ≡ items
unfolding placed_all weave
merged-none ds places items none = ap (λ xs. merged xs places items) none

pub merged-long : (ds : List Done) (places : List ℕ) (items : List Placed) → length places ≡ length ds → length (merged ds places items) ≡ length items + length ds
merged-long ds places items long =
    let moved = length_permutation (placed_all ds places ++ items) (merged ds places items) (weave-permutation placed_key (placed_all ds places) items) in
    let parts = length-append (placed_all ds places) items in
    let own = placed-long ds places long in
    omega arith

-- the least stamp that they send
abbrev held : List Placed → ℕ
held ps = least_stamp NO_STAMP (held_of (dones_in ps))

held-insert : (p : Placed) (ps : List Placed) → held (insert placed_key p ps) ≡ min (least_stamp NO_STAMP p.done.sends) (held ps)
unfolding insert held_of
held-insert p [] = least-join p.done.sends (held_of [])
held-insert p (q ∷ qs) = by_test (key_lt (placed_key p) (placed_key q)) (held-insert p qs)
  where
    by_test : (b : Bool) → held (insert placed_key p qs) ≡ min (least_stamp NO_STAMP p.done.sends) (held qs) → held (cond b (p ∷ q ∷ qs) (q ∷ insert placed_key p qs)) ≡ min (least_stamp NO_STAMP p.done.sends) (held (q ∷ qs))
    by_test true more = least-join p.done.sends (held_of (dones_in (q ∷ qs)))
    by_test false more =
        let one = least-join q.done.sends (held_of (dones_in (insert placed_key p qs))) in
        let other = least-join q.done.sends (held_of (dones_in qs)) in
        omega arith

held-weave : (ps qs : List Placed) → held (weave placed_key ps qs) ≡ min (held qs) (held ps)
unfolding weave held_of least_stamp
held-weave [] qs = (let le = least_stamp-le NO_STAMP (held_of (dones_in qs)) in omega arith)
held-weave (p ∷ ps) qs =
    let one = held-insert p (weave placed_key ps qs) in
    let more = held-weave ps qs in
    let first = least-join p.done.sends (held_of (dones_in ps)) in
    omega arith

pub merged-held : (ds : List Done) (places : List ℕ) (items : List Placed) → length places ≡ length ds → held (merged ds places items) ≡ min (least_stamp NO_STAMP (held_of (dones_in items))) (least_stamp NO_STAMP (held_of ds))
merged-held ds places items long =
    held-weave (placed_all ds places) items
    ∙ ap (λ xs. min (least_stamp NO_STAMP (held_of (dones_in items))) (least_stamp NO_STAMP (held_of xs))) (placed-dones ds places long)

-- the last of the news is carried
module _ (places places' : List ℕ) (place : ℕ) (v v' : NewsView) (c c' : CarriedView) (d : Done) (cells cells' : ℕ) (can : CanCarry places v c cells) (place_is : places ≡ places' ++ place ∷ []) (done_is : v.done ≡ v'.done ++ d ∷ []) where
  abbrev p : Placed
  p = record { done = d; place = place }

  shorter : length places' ≡ length v'.done
  shorter =
      let one = ap length place_is in
      let two = ap length done_is in
      let long = can.long in
      let three = length-append places' (place ∷ []) in
      let four = length-append v'.done (d ∷ []) in
      omega arith

  moved : merged v.done places c.items ≡ weave placed_key (placed_all v'.done places') (insert placed_key p c.items)
  moved =
      (λ i. merged (done_is i) (place_is i) c.items)
      ∙ ap (λ ps. weave placed_key ps c.items) (placed-push v'.done places' d place shorter)
      ∙ weave-last placed_key (placed_all v'.done places') c.items p

  pub carry-fresh : times placed_key d.event.key c.items ≡ 0
  carry-fresh = insert-fresh placed_key p c.items (weave-below placed_key (placed_all v'.done places') (insert placed_key p c.items) (subst (Ascends placed_key) moved can.ordered))

  pub carry-same : c'.items ≡ insert placed_key p c.items → merged v'.done places' c'.items ≡ merged v.done places c.items
  carry-same items_are = ap (λ is. merged v'.done places' is) items_are ∙ sym moved

  pub carry-can : c'.items ≡ insert placed_key p c.items → c.room ≤ c'.room + 1 → zeros v'.done ≤ cells' → CanCarry places' v' c' cells'
  carry-can items_are room cells_are =
      let F : Done → Type 0 = λ x. length x.undo ≤ 16 in
      let two = ap length done_is in
      let four = length-append v'.done (d ∷ []) in
      let was = can.room in
      record {
        ordered = subst (Ascends placed_key) (sym (carry-same items_are)) can.ordered;
        long = shorter;
        room = omega arith;
        few = Each-front F v'.done (d ∷ []) (subst (Each F) done_is can.few);
        cells_are = cells_are;
      }

-- an event comes behind the news
pub merged-come : (ds : List Done) (places : List ℕ) (items : List Placed) (d : Done) (place : ℕ) → length places ≡ length ds → Ascends placed_key (merged ds places items) → times placed_key d.event.key (merged ds places items) ≡ 0
    → merged (ds ++ d ∷ []) (places ++ place ∷ []) items ≡ insert placed_key (record { done = d; place = place }) (merged ds places items)
merged-come ds places items d place long up new =
    ap (λ ps. weave placed_key ps items) (placed-push ds places d place long)
    ∙ weave-come placed_key (placed_all ds places) items (record { done = d; place = place }) new up

-- an event comes behind the news, for which room was made
module _ (places : List ℕ) (place : ℕ) (v v' : NewsView) (c c' : CarriedView) (d : Done) (idle spare idle' cells : ℕ) (p : IsProcessed places v c idle spare) (done_is : v'.done ≡ v.done ++ d ∷ []) (fresh : times placed_key d.event.key (merged v.done places c.items) ≡ 0) (items_are : c'.items ≡ c.items) where
  pub joined-items : merged v'.done (places ++ place ∷ []) c'.items ≡ insert placed_key (record { done = d; place = place }) (merged v.done places c.items)
  joined-items =
      (λ i. merged (done_is i) (places ++ place ∷ []) (items_are i))
      ∙ merged-come v.done places c.items d place p.long p.ordered fresh

  pub still-processed : v'.gone ≡ v.gone → length d.undo ≤ 16 → length d.sends ≤ 8 → length v.done + 1 ≤ c'.room → length v.done + 8 < 2 ^ 60 → (room : ℕ) → idle + 8 ≤ room → min (room + 1) (2 ^ 60) ≤ cells + length d.sends
      → (0 < length d.sends → idle' ≡ idle) → (length d.sends ≡ 0 → idle' ≡ idle + 1) → IsProcessed (places ++ place ∷ []) v' c' idle' cells
  still-processed gone few_changes few_sends room few spares enough left some none =
      let most = p.idle_most in
      let z = zeros-fired v.done d (idle + 8) cells idle idle' p.zeros_are (omega arith) few_sends (omega arith) some none in
      let z_most = z.2 in
      let one = length-append places (place ∷ []) in
      let two = ap length done_is in
      let three = length-append v.done (d ∷ []) in
      let long = p.long in
      let F : Done → Type 0 = λ x. length x.undo ≤ 16 in
      let Z : List Done → Type 0 = λ ds. zeros ds ≤ idle' in
      record {
        ordered = subst (Ascends placed_key) (sym joined-items) (insert-ascends placed_key (record { done = d; place = place }) (merged v.done places c.items) fresh p.ordered);
        long = omega arith;
        room = omega arith;
        few = subst (Each F) (sym done_is) (Each-append F v.done (d ∷ []) p.few (few_changes, tt));
        zeros_are = subst Z (sym done_is) z.0;
        idle_most = omega arith;
        cells_are = z.1;
        whole = gone ∙ p.whole;
      }

-- so it is with more room
pub roomier : (places places' : List ℕ) (v : NewsView) (c c' : CarriedView) (idle cells cells' : ℕ) → IsProcessed places v c idle cells → places' ≡ places → c'.items ≡ c.items → c.room ≤ c'.room → cells ≤ cells' → IsProcessed places' v c' idle cells'
roomier places places' v c c' idle cells cells' p places_are items_are room more =
    let same : merged v.done places' c'.items ≡ merged v.done places c.items = λ i. merged v.done (places_are i) (items_are i) in
    let was = p.room in
    let kept = p.cells_are in
    record {
      ordered = subst (Ascends placed_key) (sym same) p.ordered;
      long = ap length places_are ∙ p.long;
      room = omega arith;
      few = p.few;
      zeros_are = p.zeros_are;
      idle_most = p.idle_most;
      cells_are = omega arith;
      whole = p.whole;
    }

-- the messages of one event more go to the homes of their destinations
pub homed-more : (homes : List ℕ) (sent sent' : List (ℕ × Event)) (es : List Event) → sent' ≡ sent ++ map (homed homes) es → AreHomed homes sent → AreHomed homes sent'
homed-more homes sent sent' es is homed_are =
    is
    ∙ ap (λ (ss : List (ℕ × Event)). ss ++ map (homed homes) es) homed_are
    ∙ sym (map-append (homed homes) (map message sent) es)
    ∙ ap (map (homed homes)) (sym (sent-more homes sent sent' es is))

-- what is read off where all is carried
pub all-carried : (places : List ℕ) (v : NewsView) (c : CarriedView) (view : ProcessedView) → processed_view places v c ≡ view → view.news ≡ [] → c.items ≡ view.items
all-carried places v c view is none = sym (merged-none v.done places c.items (ap (λ (w : ProcessedView). w.news) is ∙ none)) ∙ ap (λ (w : ProcessedView). w.items) is

-- so it is with other carried events
pub other-carried : (places : List ℕ) (v : NewsView) (c c' : CarriedView) (idle cells cells' : ℕ) → IsProcessed places v c idle cells → v.done ≡ [] → Ascends placed_key c'.items → IsProcessed places v c' idle cells'
other-carried places v c c' idle cells cells' p none up =
    let long = ap length none in
    let most = p.idle_most in
    record {
      ordered = subst (Ascends placed_key) (sym (merged-none v.done places c'.items none)) up;
      long = p.long;
      room = omega arith;
      few = p.few;
      zeros_are = p.zeros_are;
      idle_most = p.idle_most;
      cells_are = omega arith;
      whole = p.whole;
    }

-- and where nothing is idle
pub idle-carried : (places : List ℕ) (v : NewsView) (c : CarriedView) (cells cells' : ℕ) → CanCarry places v c cells → v.done ≡ [] → v.gone ≡ [] → IsProcessed places v c 0 cells'
unfolding zeros
idle-carried places v c cells cells' can none gone =
    let Z : List Done → Type 0 = λ ds. zeros ds ≤ 0 in
    record {
      ordered = can.ordered;
      long = can.long;
      room = can.room;
      few = can.few;
      zeros_are = subst Z (sym none) (omega arith);
      idle_most = omega arith;
      cells_are = omega arith;
      whole = gone;
    }

-- where all news are handed out
pub handed-processed : (places : List ℕ) (v : NewsView) (c : CarriedView) (cells : ℕ) → places ≡ [] → v.done ≡ [] → v.gone ≡ [] → Ascends placed_key c.items → IsProcessed places v c 0 cells
unfolding zeros
handed-processed places v c cells no_places none gone up =
    let Z : List Done → Type 0 = λ ds. zeros ds ≤ 0 in
    let F : List Done → Type 0 = Each (λ (x : Done). length x.undo ≤ 16) in
    let long = ap length none in
    record {
      ordered = subst (Ascends placed_key) (sym (merged-none v.done places c.items none)) up;
      long = ap length no_places ∙ sym long;
      room = omega arith;
      few = subst F (sym none) tt;
      zeros_are = subst Z (sym none) (omega arith);
      idle_most = omega arith;
      cells_are = omega arith;
      whole = gone;
    }

pub none-processed : (places : List ℕ) (v : NewsView) (c : CarriedView) (cells : ℕ) → places ≡ [] → v.done ≡ [] → v.gone ≡ [] → c.items ≡ [] → IsProcessed places v c 0 cells
unfolding Ascends
none-processed places v c cells no_places none gone no_items = handed-processed places v c cells no_places none gone (subst (Ascends placed_key) (sym no_items) tt)
