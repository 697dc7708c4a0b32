-- What is told of carried events and of the news, in the order of their keys.
use Rattle.std.proofs.Common.{◌≡◌, ℕ, zero, suc, ◌+◌, ◌<◌, ◌^◌, Bool, true, false, cond, Some, List, [], ◌∷◌, ◌++◌, length, take, drop, eqb, eqb-true, eq-eqb, ne_eqb, refl, sym, ap, ◌∙◌, subst, arith, append_assoc, length-append}
use Rattle.std.proofs.lemmas.Bool.{eqb-false}
use Rattle.std.proofs.lemmas.List.{append-nil, drop_at, get_or-set_other, get_or-set_same, length-set, map-append, take-append-drop, take_at}
use Rattle.std.proofs.lemmas.List.Elements.{filter-append}
use Rattle.std.specs.List.{AllByRecursion as Each, remove}
use Rattle.std.specs.Prelude.{filter, slice_get, slice_index, slice_set}
use Rattle.event_key.specs.declared.key.Key.{Key}
use Rattle.event_key.specs.Keys.{key_lt}
use Rattle.event_key.proofs.Order.{key_lt-trans}
use Rattle.key_order.specs.Ascending.{After, Ascends}
use Rattle.key_order.specs.Keys.{times}
use Rattle.key_order.proofs.AscendingLemmas.{After-trans, Ascends-back, Ascends-map, Ascends-take}
use Rattle.key_order.proofs.EachLemmas.{Each-back, Each-map}
use Rattle.key_order.proofs.FilterLemmas.{length-filter_le}
use Rattle.key_order.proofs.KeyLemmas.{new-later}
use Rattle.model_core.specs.declared.event.Event.{Event}
use Rattle.model_core.specs.declared.note.Note.{Note}
use Rattle.object_log.specs.Carrying.{Placed, placed_key}
use Rattle.object_log.specs.Dones.{Done}
use Rattle.object_log.specs.EventLogs.{done_key}
use Rattle.object_log.specs.Flat.{goes_to}
use Rattle.object_log.specs.Logs.{held_of}
use Rattle.object_log.specs.Tellings.{told_all, told_of}
use Rattle.object_log.specs.Weave.{weave}
use Rattle.object_log.specs.Whole.{dones_in}
use Rattle.object_log.proofs.HeldLemmas.{length_held-append}
use Rattle.object_log.proofs.PushLemmas.{held-push, told-push}
use Rattle.event_log.specs.Committing.{TellsAmong, TellsBefore, told_key}
use Rattle.event_log.specs.Outboxes.{chain_at}
use Rattle.event_log.proofs.WovenFacts.{Went, each-held, each-image, record_of, told-went, weave-front, weave-nil, weave-second}

abbrev Told : Type 0
Told = List (Key × Note)

-- the next one of the first ones of a list
pub next-of : {X : Type 0} (count i : ℕ) (xs : List X) (x : X) → i < count → slice_get xs i ≡ Some x → drop i (take count xs) ≡ x ∷ drop (suc i) (take count xs)
next-of zero i xs x below at = absurd (omega arith)
next-of (suc n) i [] x below at = absurd (cc)
next-of (suc n) zero (y ∷ ys) x below at = (let same : y ≡ x = cc in ap (λ z. z ∷ take n ys) same)
next-of (suc n) (suc i) (y ∷ ys) x below at = next-of n i ys x (omega arith) at

-- where the first one doesn't come before a key, none does
pub none-before : (key : Key) (t : Key × Note) (ts : Told) → Ascends told_key (t ∷ ts) → key_lt (told_key t) key ≡ false → Each (λ (x : Key × Note). key_lt (told_key x) key ≡ false) (t ∷ ts)
unfolding Ascends
none-before key t ts up late = (late, Each-map (λ (x : Key × Note). key_lt (told_key t) (told_key x) ≡ true) (λ (x : Key × Note). key_lt (told_key x) key ≡ false) ts (λ x later. by_test x later (key_lt (told_key x) key) refl) up.0)
  where
    by_test : (x : Key × Note) → key_lt (told_key t) (told_key x) ≡ true → (b : Bool) → key_lt (told_key x) key ≡ b → b ≡ false
    by_test x later false is = refl
    by_test x later true is = (let yes = key_lt-trans (told_key t) (told_key x) key later is in absurd (cc))

-- a record is told behind those that come before it
pub tells-among : (t : Key × Note) (records left told told' : Told) → Ascends told_key records → times told_key (told_key t) left ≡ 0 → TellsBefore (told_key t) records left told told' → TellsAmong t records left told (told' ++ t ∷ [])
unfolding Ascends
tells-among t records left told told' up apart h later up' =
    let us = h.before in
    let all = subst (Ascends told_key) h.split up in
    let after : After told_key (told_key t) left = new-later told_key (told_key t) left apart h.none_left in
    let first : Each (λ (u : Key × Note). After told_key (told_key u) (t ∷ later)) us =
    Each-map (λ (u : Key × Note). key_lt (told_key u) (told_key t) ≡ true) (λ (u : Key × Note). After told_key (told_key u) (t ∷ later)) us (λ u before. (before, After-trans told_key (told_key u) (told_key t) later before up'.0)) h.all_before in
    sym (ap (λ ts. told ++ weave told_key ts (t ∷ later)) h.split
    ∙ ap (λ ts. told ++ ts) (weave-front told_key us left (t ∷ later) all first ∙ ap (λ ts. us ++ ts) (weave-second told_key t later left after))
    ∙ sym (append_assoc told us (t ∷ weave told_key left later))
    ∙ ap (λ ts. ts ++ t ∷ weave told_key left later) (sym h.told_is)
    ∙ sym (append_assoc told' (t ∷ []) (weave told_key left later)))

-- so far these carried events are gone: what is told, and where their messages are
pub record IsAmong (homes : List ℕ) (records : Told) (old : List Placed) (told : Told) (out : List (List Event)) (count from : ℕ)
    (items : List Placed) (told' : Told) (out' : List (List Event)) : Type 0 where
  pub gone : List Placed
  pub split : old ≡ gone ++ items
  pub long : length gone ≡ count
  pub told_are : (later : Told) → Ascends told_key (told_all (dones_in gone) ++ later) → told' ++ weave told_key (drop from records) later ≡ told ++ weave told_key records (told_all (dones_in gone) ++ later)
  pub sent : (to : ℕ) → chain_at out' to ≡ chain_at out to ++ filter (goes_to (slice_index homes) to) (held_of (dones_in gone))
  pub homed : length out' ≡ length out

pub among-none : (homes : List ℕ) (records : Told) (old : List Placed) (told : Told) (out : List (List Event)) → IsAmong homes records old told out 0 0 old told out
unfolding told_all held_of
among-none homes records old told out = record {
  gone = [];
  split = refl;
  long = refl;
  told_are = λ later up. refl;
  sent = λ to. sym (append-nil (chain_at out to));
  homed = refl;
}

-- the next one
pub next-in : (gone items : List Placed) (due : ℕ) (p : Placed) → length gone < due → slice_get items 0 ≡ Some p → (more : List Placed) × (take due (gone ++ items) ≡ gone ++ p ∷ more)
next-in gone items zero p below at = absurd (omega arith)
next-in [] [] (suc n) p below at = absurd (cc)
next-in [] (q ∷ qs) (suc n) p below at = (let same : q ≡ p = cc in (take n qs, ap (λ z. z ∷ take n qs) same))
next-in (g ∷ gone) items (suc n) p below at = (let rest = next-in gone items n p (omega arith) at in (rest.0, ap (λ ps. g ∷ ps) rest.1))

first-out : (items : List Placed) (p : Placed) → slice_get items 0 ≡ Some p → items ≡ p ∷ remove items 0
first-out [] p at = absurd (cc)
first-out (q ∷ qs) p at = (let same : q ≡ p = cc in ap (λ z. z ∷ qs) same)

module _ {homes : List ℕ} {records : Told} {old : List Placed} {told : Told} {out : List (List Event)} {count from : ℕ} {items : List Placed} {told' : Told} {out' : List (List Event)}
    (h : IsAmong homes records old told out count from items told' out') where
  -- what is known of it
  module _ (due : ℕ) (p : Placed) (below : count < due) (at : slice_get items 0 ≡ Some p) where
    ahead : (more : List Placed) × (take due old ≡ h.gone ++ p ∷ more)
    ahead =
        let more = next-in h.gone items due p (let long = h.long in omega arith) at in
        (more.0, ap (take due) h.split ∙ more.1)

    pub next-each : (P : Placed → Type 0) → Each P (take due old) → P p
    next-each P all = (Each-back P h.gone (p ∷ ahead.0) (subst (Each P) ahead.1 all)).0

    pub next-held : (P : Event → Type 0) → Each P (held_of (dones_in (take due old))) → Each P p.done.sends
    next-held P all = next-each (λ (q : Placed). Each P q.done.sends) (each-image (λ (q : Placed). q.done) (λ (d : Done). Each P d.sends) (take due old) (each-held P (dones_in (take due old)) all))

    pub next-few : ((to : ℕ) → length (chain_at out to) + length (held_of (dones_in (take due old))) < 2 ^ 60) → (to : ℕ) → length (chain_at out' to) + length p.done.sends < 2 ^ 60
    unfolding held_of
    next-few few to =
        let room = few to in
        let q = goes_to (slice_index homes) to in
        let gone = held_of (dones_in h.gone) in
        let all = ap (λ (ps : List Placed). length (held_of (dones_in ps))) ahead.1 ∙ ap (λ (ds : List Done). length (held_of ds)) (map-append (λ (r : Placed). r.done) h.gone (p ∷ ahead.0)) in
        let parts = length_held-append (dones_in h.gone) (dones_in (p ∷ ahead.0)) in
        let own = length-append p.done.sends (held_of (dones_in ahead.0)) in
        let here = ap length (h.sent to) in
        let both = length-append (chain_at out to) (filter q gone) in
        let less = length-filter_le q gone in
        omega arith

  -- and once it is gone
  pub among-next : (p : Placed) (t : Key × Note) (next : ℕ) (items' : List Placed) (later : Told) (sent : List (List Event)) → slice_get items 0 ≡ Some p → items' ≡ remove items 0 → told_of p.done.event.key p.done.verdict ≡ t ∷ []
      → TellsAmong t (drop from records) (drop next records) told' later → ((to : ℕ) → chain_at sent to ≡ chain_at out' to ++ filter (goes_to (slice_index homes) to) p.done.sends) → length sent ≡ length out'
      → IsAmong homes records old told out (count + 1) next items' later sent
  among-next p t next items' later sent at left one tells sends same =
      let gone = dones_in h.gone in
      let grown : dones_in (h.gone ++ p ∷ []) ≡ gone ++ p.done ∷ [] = map-append (λ (r : Placed). r.done) h.gone (p ∷ []) in
      let told_now : told_all (dones_in (h.gone ++ p ∷ [])) ≡ told_all gone ++ t ∷ [] = ap told_all grown ∙ told-push gone p.done ∙ ap (λ ts. told_all gone ++ ts) one in
      let long = h.long in
      let more = length-append h.gone (p ∷ []) in
      record {
        gone = h.gone ++ p ∷ [];
        split = h.split ∙ ap (λ ps. h.gone ++ ps) (first-out items p at ∙ ap (λ ps. p ∷ ps) (sym left)) ∙ sym (append_assoc h.gone (p ∷ []) items');
        long = omega arith;
        told_are = λ others up. (
            let whole : told_all (dones_in (h.gone ++ p ∷ [])) ++ others ≡ told_all gone ++ (t ∷ others) = ap (λ ts. ts ++ others) told_now ∙ append_assoc (told_all gone) (t ∷ []) others in
            let up' = subst (Ascends told_key) whole up in
            tells others (Ascends-back told_key (told_all gone) (t ∷ others) up')
            ∙ h.told_are (t ∷ others) up'
            ∙ ap (λ ts. told ++ weave told_key records ts) (sym whole));
        sent = λ to. (
            let q = goes_to (slice_index homes) to in
            sends to
            ∙ ap (λ es. es ++ filter q p.done.sends) (h.sent to)
            ∙ append_assoc (chain_at out to) (filter q (held_of gone)) (filter q p.done.sends)
            ∙ ap (λ es. chain_at out to ++ es) (sym (filter-append q (held_of gone) p.done.sends) ∙ ap (filter q) (sym (held-push gone p.done) ∙ ap held_of (sym grown))));
        homed = same ∙ h.homed;
      }

  -- at the end
  module _ (due : ℕ) (end : count ≡ due) where
    gone-are : h.gone ≡ take due old
    gone-are = sym (ap (take due) h.split ∙ take_at h.gone items due (h.long ∙ end))

    pub rest-are : items ≡ drop due old
    rest-are = sym (ap (drop due) h.split ∙ drop_at h.gone items due (h.long ∙ end))

    pub told-end : (last : Told) → Ascends placed_key old → Ascends told_key records → Each Went (dones_in (take due old)) → last ≡ told' ++ drop from records → last ≡ told ++ weave told_key records (told_all (dones_in (take due old)))
    told-end last up low went is =
        let ds = dones_in (take due old) in
        let gone_is : told_all (dones_in h.gone) ++ [] ≡ told_all ds = append-nil (told_all (dones_in h.gone)) ∙ ap (λ (ps : List Placed). told_all (dones_in ps)) gone-are in
        let order : Ascends told_key (told_all ds) =
        subst (Ascends told_key) (sym (told-went ds went)) (Ascends-map told_key record_of ds (Ascends-map done_key (λ (p : Placed). p.done) (take due old) (Ascends-take placed_key due old up))) in
        let rest : Ascends told_key (drop from records) = Ascends-back told_key (take from records) (drop from records) (subst (Ascends told_key) (sym (take-append-drop from records)) low) in
        is
        ∙ ap (λ ts. told' ++ ts) (sym (weave-nil told_key (drop from records) rest))
        ∙ h.told_are [] (subst (Ascends told_key) (sym gone_is) order)
        ∙ ap (λ ts. told ++ weave told_key records ts) gone_is

    pub sent-end : (to : ℕ) → chain_at out' to ≡ chain_at out to ++ filter (goes_to (slice_index homes) to) (held_of (dones_in (take due old)))
    sent-end to = h.sent to ∙ ap (λ (ps : List Placed). chain_at out to ++ filter (goes_to (slice_index homes) to) (held_of (dones_in ps))) gone-are

-- messages on their way home
pub record AreLeft (homes : List ℕ) (messages : List Event) (out : List (List Event)) (left : List Event) (out' : List (List Event)) : Type 0 where
  pub long : length out' ≡ length out
  pub sent : (to : ℕ) → chain_at out' to ++ filter (goes_to (slice_index homes) to) left ≡ chain_at out to ++ filter (goes_to (slice_index homes) to) messages
  pub known : Each (λ (e : Event). e.key.dest < length homes) left

each-at : (P : ℕ → Type 0) (xs : List ℕ) (i : ℕ) → i < length xs → Each P xs → P (slice_index xs i)
each-at P [] i within all = absurd (omega arith)
each-at P (x ∷ xs) zero within all = all.0
each-at P (x ∷ xs) (suc i) within all = each-at P xs i (omega arith) all.1

pub home-within : {homes : List ℕ} {messages : List Event} {out : List (List Event)} {left : List Event} {out' : List (List Event)} {e : Event} {rest : List Event}
    → AreLeft homes messages out left out' → left ≡ e ∷ rest → Each (λ home. home < length out) homes → slice_index homes e.key.dest < length out'
home-within {homes} {messages} {out} {left} {out'} {e} {rest} l is within =
    let K : List Event → Type 0 = Each (λ (x : Event). x.key.dest < length homes) in
    let inside = each-at (λ home. home < length out) homes e.key.dest (subst K is l.known).0 within in
    let long = l.long in
    omega arith

module _ {homes : List ℕ} {messages : List Event} {out : List (List Event)} {left : List Event} {out' : List (List Event)} {e : Event} {rest : List Event} {home : ℕ} {chain : List Event}
    (l : AreLeft homes messages out left out') (is : left ≡ e ∷ rest) (at : home ≡ slice_index homes e.key.dest) (within : home < length out') (read : chain ≡ chain_at out' home) where
  abbrev to_home : ℕ → Event → Bool
  to_home to = goes_to (slice_index homes) to

  here : filter (to_home home) (e ∷ rest) ≡ e ∷ filter (to_home home) rest
  here = ap (λ b. cond b (e ∷ filter (to_home home) rest) (filter (to_home home) rest)) (eq-eqb (slice_index homes e.key.dest) home (sym at))

  away : (to : ℕ) → (home ≡ to → ⊥) → filter (to_home to) (e ∷ rest) ≡ filter (to_home to) rest
  away to apart = ap (λ b. cond b (e ∷ filter (to_home to) rest) (filter (to_home to) rest)) (ne_eqb (slice_index homes e.key.dest) to (λ same. apart (at ∙ same)))

  pub chain-room : ((to : ℕ) → length (chain_at out to) + length messages < 2 ^ 60) → length chain + 1 < 2 ^ 60
  chain-room few =
      let own = ap length read in
      let whole = ap length (ap (λ es. chain_at out' home ++ filter (to_home home) es) (sym is) ∙ l.sent home) in
      let first = ap length here in
      let one = length-append (chain_at out' home) (filter (to_home home) (e ∷ rest)) in
      let two = length-append (chain_at out home) (filter (to_home home) messages) in
      let less = length-filter_le (to_home home) messages in
      let room = few home in
      omega arith

  pub left-next : (next : List Event) → next ≡ chain ++ e ∷ [] → AreLeft homes messages out rest (slice_set out' home next)
  left-next next next_is =
      let K : List Event → Type 0 = Each (λ (x : Event). x.key.dest < length homes) in
      record {
        long = length-set out' home next ∙ l.long;
        sent = λ to. by_home to (eqb home to) refl ∙ ap (λ es. chain_at out' to ++ filter (to_home to) es) (sym is) ∙ l.sent to;
        known = (subst K is l.known).1;
      }
    where
      by_home : (to : ℕ) (b : Bool) → eqb home to ≡ b → chain_at (slice_set out' home next) to ++ filter (to_home to) rest ≡ chain_at out' to ++ filter (to_home to) (e ∷ rest)
      by_home to true same =
          let is_to = eqb-true home to same in
          let P : ℕ → Type 0 = λ n. chain_at (slice_set out' home next) n ++ filter (to_home n) rest ≡ chain_at out' n ++ filter (to_home n) (e ∷ rest) in
          subst P is_to
          (ap (λ es. es ++ filter (to_home home) rest) (get_or-set_same out' home next [] within ∙ next_is ∙ ap (λ es. es ++ e ∷ []) read)
          ∙ append_assoc (chain_at out' home) (e ∷ []) (filter (to_home home) rest)
          ∙ ap (λ es. chain_at out' home ++ es) (sym here))
      by_home to false other =
          let apart = eqb-false home to other in
          (λ i. get_or-set_other out' home to next [] (λ same. apart (sym same)) i ++ sym (away to apart) i)
