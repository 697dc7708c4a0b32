-- What is due leaves what is carried and the news.
use Rattle.std.proofs.Common.{◌≡◌, ℕ, ◌+◌, ◌<◌, ◌≤◌, ◌^◌, Bool, true, false, not, None, List, [], ◌∷◌, ◌++◌, length, map, reverse, take, drop, sym, ap, ◌∙◌, subst, arith, length-take}
use Rattle.std.proofs.lemmas.List.{append-nil, drop-map, drop_at, length-map, map-append, take-append-drop, take-map, take_at}
use Rattle.std.proofs.lemmas.List.Elements.{filter-append}
use Rattle.std.specs.List.{AllByRecursion as Each}
use Rattle.std.specs.Prelude.{IsPermutation, Option, filter, slice_index}
use Rattle.event_key.specs.declared.key.Key.{Key}
use Rattle.key_order.specs.Ascending.{Ascends}
use Rattle.key_order.specs.Due.{is_due}
use Rattle.key_order.specs.Keys.{Differ, times}
use Rattle.key_order.proofs.AscendingLemmas.{Ascends-filter, Ascends-map}
use Rattle.key_order.proofs.EachLemmas.{Each-map, Each-take}
use Rattle.key_order.proofs.FilterLemmas.{filter-all, filter-map, filter-none, filter-passes, length-filter_le}
use Rattle.model_core.specs.declared.event.Event.{Event}
use Rattle.model_core.specs.declared.note.Note.{Note}
use Rattle.object_log.specs.Carrying.{Placed, placed_key}
use Rattle.object_log.specs.Dones.{Done}
use Rattle.object_log.specs.EventLogs.{done_key}
use Rattle.object_log.specs.Flat.{goes_to}
use Rattle.object_log.specs.Logs.{fault_of, held_of}
use Rattle.object_log.specs.Parts.{due_of, left_of}
use Rattle.object_log.specs.Tellings.{told_all}
use Rattle.object_log.specs.Weave.{weave}
use Rattle.object_log.specs.Whole.{dones_in}
use Rattle.object_log.proofs.CarriedLemmas.{times-map}
use Rattle.object_log.proofs.PrefixLemmas.{due-front}
use Rattle.object_log.proofs.WeaveLemmas.{weave-below, weave-filter}
use Rattle.event_log.specs.Committing.{HasCommittedDue, told_key}
use Rattle.event_log.specs.News.{homed}
use Rattle.event_log.specs.Outboxes.{chain_at, is_for, message, parcel}
use Rattle.event_log.specs.Processing.{AreHomed, ProcessedView, merged, placed_all}
use Rattle.event_log.proofs.DueFacts.{Due}
use Rattle.event_log.proofs.OutboxLemmas.{map-reverse, parcel-short}
use Rattle.event_log.proofs.PopFacts.{same-ends}
use Rattle.event_log.proofs.ProcessFacts.{same-messages}
use Rattle.event_log.proofs.ProcessedFacts.{placed-dones}
use Rattle.event_log.proofs.WovenFacts.{Each-woven, Went, all-went, each-apart, each-held, each-image, held-each, held-woven, length-held-filter, length-held-woven, length-weave, map-weave, none-failed, record_of, told-went, told-woven, weave-differ, weave-nil}

placed-all : (P : Done → Type 0) (ds : List Done) (places : List ℕ) → Each P ds → Each (λ (p : Placed). P p.done) (placed_all ds places)
unfolding placed_all
placed-all P [] places all = tt
placed-all P (d ∷ ds) [] all = tt
placed-all P (d ∷ ds) (place ∷ places) all = (all.0, placed-all P ds places all.1)

module _ (horizon : ℕ) (cut : Option Key) where
  abbrev out : Done → Bool
  out d = is_due horizon cut d.event.key

  abbrev stays_in : Placed → Bool
  stays_in p = not (is_due horizon cut (placed_key p))

  pub dones-left : (ps : List Placed) → dones_in (filter stays_in ps) ≡ left_of horizon cut (dones_in ps)
  dones-left ps = sym (filter-map (λ (p : Placed). p.done) (λ (d : Done). not (is_due horizon cut d.event.key)) ps)

  -- so many carried ones are due, which are the first ones
  module _ (items : List Placed) (k : ℕ) (up : Ascends placed_key items) (count : length (due_of horizon cut (dones_in items)) ≡ k) where
    abbrev cs : List Done
    cs = dones_in items

    split : cs ≡ due_of horizon cut cs ++ left_of horizon cut cs
    split = due-front horizon cut cs (Ascends-map done_key (λ (p : Placed). p.done) items up)

    first-due : dones_in (take k items) ≡ due_of horizon cut cs
    first-due = sym (take-map (λ (p : Placed). p.done) k items) ∙ ap (take k) split ∙ take_at (due_of horizon cut cs) (left_of horizon cut cs) k count

    rest-left : dones_in (drop k items) ≡ left_of horizon cut cs
    rest-left = sym (drop-map (λ (p : Placed). p.done) k items) ∙ ap (drop k) split ∙ drop_at (due_of horizon cut cs) (left_of horizon cut cs) k count

    none-stay : filter stays_in (take k items) ≡ []
    none-stay =
        let due = each-image (λ (p : Placed). p.done) (Due horizon cut) (take k items) (subst (Each (Due horizon cut)) (sym first-due) (filter-passes out cs)) in
        filter-none stays_in (take k items) (Each-map (λ (p : Placed). Due horizon cut p.done) (λ (p : Placed). stays_in p ≡ false) (take k items) (λ p yes. ap not yes) due)

    all-stay : filter stays_in (drop k items) ≡ drop k items
    all-stay =
        let L : Done → Type 0 = λ d. not (is_due horizon cut d.event.key) ≡ true in
        filter-all stays_in (drop k items) (each-image (λ (p : Placed). p.done) L (drop k items) (subst (Each L) (sym rest-left) (filter-passes (λ (d : Done). not (is_due horizon cut d.event.key)) cs)))

    left-rest : filter stays_in items ≡ drop k items
    left-rest =
        ap (filter stays_in) (sym (take-append-drop k items))
        ∙ filter-append stays_in (take k items) (drop k items)
        ∙ (λ i. none-stay i ++ all-stay i)

    due-within : k ≤ length items
    due-within = (let most = length-filter_le out cs in let long = length-map items (λ (p : Placed). p.done) in omega arith)

  -- the news and what is carried, as one
  module _ (ds : List Done) (places : List ℕ) (items : List Placed) (long : length places ≡ length ds) (up : Ascends placed_key (merged ds places items)) where
    dones-merged : dones_in (merged ds places items) ≡ weave done_key ds (dones_in items)
    dones-merged = map-weave (λ (p : Placed). p.done) done_key (placed_all ds places) items ∙ ap (λ xs. weave done_key xs (dones_in items)) (placed-dones ds places long)

    dones-up : Ascends done_key (weave done_key ds (dones_in items))
    dones-up = subst (Ascends done_key) dones-merged (Ascends-map done_key (λ (p : Placed). p.done) (merged ds places items) up)

    due-merged : due_of horizon cut (dones_in (merged ds places items)) ≡ weave done_key (due_of horizon cut ds) (due_of horizon cut (dones_in items))
    due-merged = ap (due_of horizon cut) dones-merged ∙ weave-filter done_key out ds (dones_in items) dones-up

    left-merged : Each (Due horizon cut) ds → filter stays_in (merged ds places items) ≡ filter stays_in items
    unfolding weave
    left-merged due =
        let none = Each-map (λ (p : Placed). Due horizon cut p.done) (λ (p : Placed). stays_in p ≡ false) (placed_all ds places) (λ p yes. ap not yes) (placed-all (Due horizon cut) ds places due) in
        weave-filter placed_key stays_in (placed_all ds places) items up
        ∙ ap (λ qs. weave placed_key qs (filter stays_in items)) (filter-none stays_in (placed_all ds places) none)

  -- all is these news, which are due, and carried ones of which the first are
  pub record IsParted (whole : List Placed) (ds : List Done) (items : List Placed) (k : ℕ) : Type 0 where
    pub due : due_of horizon cut (dones_in whole) ≡ weave done_key ds (dones_in (take k items))
    pub left : filter stays_in whole ≡ drop k items
    pub within : k ≤ length items
    pub low : Ascends done_key ds
    pub differ : Differ done_key (ds ++ dones_in items)

  -- so it is once the news that aren't due are carried
  pub parted : (ns : List Done) (places : List ℕ) (carried : List Placed) (ds : List Done) (left : List ℕ) (items : List Placed) (k : ℕ) → length places ≡ length ns → length left ≡ length ds → Ascends placed_key (merged ns places carried)
      → merged ds left items ≡ merged ns places carried → ds ≡ due_of horizon cut ns → Ascends done_key ns → length (due_of horizon cut (dones_in carried)) ≡ k → IsParted (merged ns places carried) ds items k
  parted ns places carried ds left items k long' long up same is low count =
      let up' = subst (Ascends placed_key) (sym same) up in
      let due : Each (Due horizon cut) ds = subst (Each (Due horizon cut)) (sym is) (filter-passes out ns) in
      let cs = dones_in items in
      let whole : due_of horizon cut (dones_in (merged ns places carried)) ≡ weave done_key ds (due_of horizon cut cs) =
      ap (λ (ps : List Placed). due_of horizon cut (dones_in ps)) (sym same) ∙ due-merged ds left items long up' ∙ ap (λ xs. weave done_key xs (due_of horizon cut cs)) (filter-all out ds due) in
      let one = ap length (due-merged ns places carried long' up) in
      let two = length-weave done_key (due_of horizon cut ns) (due_of horizon cut (dones_in carried)) in
      let three = ap length whole in
      let four = length-weave done_key ds (due_of horizon cut cs) in
      let five = ap length is in
      let below = weave-below placed_key (placed_all ds left) items up' in
      let now : length (due_of horizon cut cs) ≡ k = omega arith in
      record {
        due = whole ∙ ap (weave done_key ds) (sym (first-due items k below now));
        left = ap (filter stays_in) (sym same) ∙ left-merged ds left items long up' due ∙ left-rest items k below now;
        within = due-within items k below now;
        low = subst (Ascends done_key) (sym is) (Ascends-filter done_key out ns low);
        differ = weave-differ done_key ds cs (dones-up ds left items long up');
      }

  module _ (whole : List Placed) (ds : List Done) (items : List Placed) (k : ℕ) (x : IsParted whole ds items k) where
    abbrev first : List Done
    first = dones_in (take k items)

    abbrev dues : List Done
    dues = due_of horizon cut (dones_in whole)

    both-went : fault_of dues ≡ None → Each Went ds × Each Went first
    both-went went = Each-woven done_key Went ds first (subst (Each Went) x.due (all-went dues went))

    pub news-went : fault_of dues ≡ None → fault_of ds ≡ None
    news-went went = none-failed ds (both-went went).0

    pub first-went : fault_of dues ≡ None → fault_of first ≡ None
    first-went went = none-failed first (both-went went).1

    pub told-whole : fault_of dues ≡ None → weave told_key (told_all ds) (told_all first) ≡ told_all dues
    told-whole went = (let both = both-went went in told-woven ds first both.0 both.1 ∙ ap told_all (sym x.due))

    pub told-long : fault_of dues ≡ None → length (told_all ds) ≡ length ds
    told-long went = ap length (told-went ds (both-went went).0) ∙ length-map ds record_of

    pub told-low : fault_of dues ≡ None → Ascends told_key (told_all ds)
    told-low went = subst (Ascends told_key) (sym (told-went ds (both-went went).0)) (Ascends-map told_key record_of ds x.low)

    pub told-apart : fault_of dues ≡ None → Each (λ (p : Placed). times told_key (placed_key p) (told_all ds) ≡ 0) (take k items)
    told-apart went =
        let same : (key : Key) → times told_key key (told_all ds) ≡ times done_key key ds = λ key. ap (times told_key key) (told-went ds (both-went went).0) ∙ sym (times-map record_of told_key key ds) in
        let apart = each-image (λ (p : Placed). p.done) (λ (d : Done). times done_key (done_key d) ds ≡ 0) items (each-apart done_key ds (dones_in items) x.differ) in
        Each-take (λ (p : Placed). times told_key (placed_key p) (told_all ds) ≡ 0) k items
        (Each-map (λ (p : Placed). times done_key (placed_key p) ds ≡ 0) (λ (p : Placed). times told_key (placed_key p) (told_all ds) ≡ 0) items (λ p none. same (placed_key p) ∙ none) apart)

    pub first-held : (P : Event → Type 0) → Each P (held_of dues) → Each P (held_of first)
    first-held P all = held-each P first (Each-woven done_key (λ (d : Done). Each P d.sends) ds first (subst (Each (λ (d : Done). Each P d.sends)) x.due (each-held P dues all))).1

    pub few-held : length (held_of (dones_in whole)) < 2 ^ 60 → length (held_of ds) + length (held_of first) < 2 ^ 60
    few-held few =
        let parts = length-held-woven ds first in
        let same = ap (λ (es : List Done). length (held_of es)) x.due in
        let most = length-held-filter out (dones_in whole) in
        omega arith

    pub held-whole : (p : Event → Bool) → IsPermutation (filter p (held_of dues)) (filter p (reverse (held_of ds)) ++ filter p (held_of first))
    held-whole p =
        let H : List Done → Type 0 = λ es. IsPermutation (filter p (held_of es)) (filter p (reverse (held_of ds)) ++ filter p (held_of first)) in
        subst H (sym x.due) (held-woven p ds first)

-- a first part of what lies at its homes
homed-front : (homes : List ℕ) (sent own : List (ℕ × Event)) → AreHomed homes (sent ++ own) → AreHomed homes sent
homed-front homes sent own all =
    let f = homed homes in
    let parts : map f (map message (sent ++ own)) ≡ map f (map message sent) ++ map f (map message own) = ap (map f) (map-append message sent own) ∙ map-append f (map message sent) (map message own) in
    let one = length-map own message in
    let two = length-map (map message own) f in
    (same-ends sent (map f (map message sent)) own (map f (map message own)) (omega arith) (all ∙ parts)).0

-- a chain has what goes to its home, the newest first
pub parcel-turned : (homes : List ℕ) (chained sent own : List (ℕ × Event)) (ds : List Done) (to : ℕ) → chained ≡ sent ++ own → AreHomed homes chained → map message sent ≡ held_of ds → parcel to sent ≡ filter (goes_to (slice_index homes) to) (reverse (held_of ds))
parcel-turned homes chained sent own ds to split all held =
    let f = homed homes in
    let es = held_of ds in
    let p = goes_to (slice_index homes) to in
    let at : sent ≡ map f es = homed-front homes sent own (subst (AreHomed homes) split all) ∙ ap (map f) held in
    ap (λ (ss : List (ℕ × Event)). map message (filter (is_for to) (reverse ss))) at
    ∙ ap (λ (ss : List (ℕ × Event)). map message (filter (is_for to) ss)) (map-reverse f es)
    ∙ ap (map message) (filter-map f (is_for to) (reverse es))
    ∙ same-messages homes (filter p (reverse es))

-- what is due has left the lists
module _ (homes : List ℕ) (horizon : ℕ) (cut : Option Key) (old new : ProcessedView) (ds : List Done) (items : List Placed) (k : ℕ) (sent own : List (ℕ × Event)) (x : IsParted horizon cut old.items ds items k) (went : fault_of (due_of horizon cut (dones_in old.items)) ≡ None)
    (split : old.chained ≡ sent ++ own) (all : AreHomed homes old.chained) (held : map message sent ≡ held_of ds) (left : new.items ≡ drop k items) (no_news : new.news ≡ []) (none_chained : new.chained ≡ []) where
  -- where carried ones are told of among the news
  pub commits-due : (told : List (Key × Note)) (out : List (List Event)) → told ≡ weave told_key (told_all ds) (told_all (dones_in (take k items)))
      → ((to : ℕ) → chain_at out to ≡ parcel to sent ++ filter (goes_to (slice_index homes) to) (held_of (dones_in (take k items)))) → HasCommittedDue homes horizon cut old new told out
  commits-due told out told_is sent_are = record {
    items = left ∙ sym x.left;
    told_is = told_is ∙ told-whole horizon cut old.items ds items k x went;
    parcels = λ to. (
        let p = goes_to (slice_index homes) to in
        let C : List Event → Type 0 = IsPermutation (filter p (held_of (due_of horizon cut (dones_in old.items)))) in
        subst C (sym (sent_are to ∙ ap (λ es. es ++ filter p (held_of (dones_in (take k items)))) (parcel-turned homes old.chained sent own ds to split all held)))
        (held-whole horizon cut old.items ds items k x p));
    news = no_news;
    chained = none_chained;
  }

  -- where no carried one is due
  pub commits-news : (told : List (Key × Note)) (out : List (List Event)) → k ≡ 0 → told ≡ told_all ds → ((to : ℕ) → chain_at out to ≡ parcel to sent) → HasCommittedDue homes horizon cut old new told out
  unfolding told_all held_of
  commits-news told out none told_is sent_are =
      let no_items : take k items ≡ [] = ap (λ n. take n items) none in
      commits-due told out
      (told_is ∙ sym (weave-nil told_key (told_all ds) (told-low horizon cut old.items ds items k x went)) ∙ ap (λ (ps : List Placed). weave told_key (told_all ds) (told_all (dones_in ps))) (sym no_items))
      (λ to. sent_are to ∙ sym (append-nil (parcel to sent)) ∙ ap (λ (ps : List Placed). parcel to sent ++ filter (goes_to (slice_index homes) to) (held_of (dones_in ps))) (sym no_items))

-- how many carried events are due
pub count-due : (horizon : ℕ) (cut : Option Key) (items : List Placed) (k : ℕ) → k ≤ length items → take k (dones_in items) ≡ due_of horizon cut (dones_in items) → length (due_of horizon cut (dones_in items)) ≡ k
count-due horizon cut items k within is =
    let long = length-map items (λ (p : Placed). p.done) in
    let some = length-take k (dones_in items) in
    let same = ap length is in
    omega arith

pub parcel-most : (to : ℕ) (sent : List (ℕ × Event)) (ds : List Done) → map message sent ≡ held_of ds → length (parcel to sent) ≤ length (held_of ds)
parcel-most to sent ds held =
    let short = parcel-short to sent in
    let long = length-map sent message in
    let same = ap length held in
    omega arith
