-- Nodes that release one after another, and receive one after another.
use Rattle.std.proofs.Common.{◌≡◌, ℕ, zero, suc, ◌+◌, ◌<◌, ◌≤◌, Bool, true, false, List, [], ◌∷◌, length, map, get_or, refl, sym, ap, ◌∙◌, subst, arith, eqb, eqb-true, slice_set}
use Rattle.std.proofs.lemmas.Bool.{eqb-false}
use Rattle.std.proofs.lemmas.List.{get_or-map, length-map, length-set}
use Rattle.std.proofs.lemmas.List.FromFn.{length-range_with_len, get_or-range_with_len}
use Rattle.std.proofs.lemmas.Option.{get_or_from_slice_get, slice_get_within}
use Rattle.std.specs.Prelude.{slice_get, Some}
use Rattle.std.specs.List.{AllZip}
use Rattle.release_lanes.specs.declared.lanes.NodeEnd.{Ghosts as NodeEnd}
use Rattle.release_lanes.specs.declared.parcel.Parcel.{Parcel}
use Rattle.parcel_exchange.specs.declared.inbox.Inbox.{Inbox}
use Rattle.parcel_exchange.specs.Exchange.{HasExchanged}
use Rattle.parcel_exchange.specs.Team.{HaveExchanged}
use Rattle.node_core.specs.declared.committed.Committed.{Committed}
use Rattle.cycle_core.specs.Ends.{sent_in}
use Rattle.cycle_core.specs.Places.{AtEach}
use Rattle.cycle_core.specs.Sendings.{HasSent, HaveSent}
use Rattle.cycle_core.proofs.PlaceLemmas.{at-set, at-other, at-some, same-some}
use Rattle.node_team.proofs.SeatingLemmas.{at-each-place}
use Rattle.node_team.specs.Releases.{arrived_in, AreFree, HasPosted, HavePosted}

module _ {E : Type 0} (lanes : NodeEnd E) where
  module _ (handed commits : List Committed) (befores inboxes : List Inbox) (old new : List E) (posted : HavePosted lanes handed commits befores inboxes old new)
      (as_many : length befores ≡ length handed) (as_wide : length old ≡ length handed) where
    one-posted : (number : ℕ) (c : Committed) (x y : E) → slice_get handed number ≡ Some c → slice_get old number ≡ Some x → slice_get new number ≡ Some y
        → (d : Committed) × (a : Inbox) × (b : Inbox) × (slice_get commits number ≡ Some d) × (slice_get befores number ≡ Some a) × (slice_get inboxes number ≡ Some b) × HasPosted lanes number c d a b x y
    one-posted number c x y at_c at_x at_y =
        let within = slice_get_within handed number c at_c in
        let many = posted.as_many_commits in
        let boxes = posted.as_many_inboxes in
        let d = at-some commits number (omega arith) in
        let a = at-some befores number (omega arith) in
        let b = at-some inboxes number (omega arith) in
        (d.0, a.0, b.0, d.1, a.1, b.1, posted.each number c d.0 a.0 b.0 x y at_c d.1 a.1 b.1 at_x at_y)

    -- what the parts of an exchange are called where nodes receive
    pub posted-exchanged : AtEach (λ number c. length c.out.items ≡ length handed) handed → HaveExchanged lanes.sent lanes.received sent_in handed inboxes old new
    posted-exchanged wide = record {
      many = sym (posted.as_many_inboxes ∙ as_many);
      each = λ number c inbox x y at_c at_inbox at_x at_y.
          let one = one-posted number c x y at_c at_x at_y in
          let is : one.2 ≡ inbox = same-some one.2 inbox (sym one.5 ∙ at_inbox) in
          let P : ℕ → Inbox → Type 0 = λ n b. HasExchanged lanes.sent lanes.received n number c.out.items b.early.items x y in
          subst (λ n. P n inbox) (wide number c at_c ∙ sym (posted.as_many_inboxes ∙ as_many)) (subst (λ b. P (length c.out.items) b) is one.6.exchanged);
    }

    pub posted-sent : HaveSent handed commits
    posted-sent = record {
      many = posted.as_many_commits;
      pairs = λ number c d at_c at_d.
          let within = slice_get_within handed number c at_c in
          let ends = posted.as_many_ends in
          let x = at-some old number (omega arith) in
          let y = at-some new number (omega arith) in
          let one = one-posted number c x.0 y.0 at_c x.1 y.1 in
          let P : Committed → Type 0 = λ e. HasSent c e in
          subst P (same-some one.0 d (sym one.3 ∙ at_d)) one.6.moved;
    }

    pub posted-arrived : AtEach (λ number inbox. inbox.arrived ≡ []) befores → AtEach (λ number inbox. inbox.arrived ≡ []) inboxes
    posted-arrived clear number inbox at =
        let within = slice_get_within inboxes number inbox at in
        let boxes = posted.as_many_inboxes in
        let ends = posted.as_many_ends in
        let c = at-some handed number (omega arith) in
        let x = at-some old number (omega arith) in
        let y = at-some new number (omega arith) in
        let one = one-posted number c.0 x.0 y.0 c.1 x.1 y.1 in
        let is : one.2 ≡ inbox = same-some one.2 inbox (sym one.5 ∙ at) in
        ap arrived_in (sym is) ∙ one.6.arrived ∙ clear number one.1 one.4

    pub posted-same : AllZip lanes.is_same old new
    posted-same = each-zip old new posted.as_many_ends (λ number x y at_x at_y.
        let within = slice_get_within old number x at_x in
        let c = at-some handed number (omega arith) in
        (one-posted number c.0 x y c.1 at_x at_y).6.same)
      where
        each-zip : (xs ys : List E) → length ys ≡ length xs → ((number : ℕ) (x y : E) → slice_get xs number ≡ Some x → slice_get ys number ≡ Some y → lanes.is_same x y) → AllZip lanes.is_same xs ys
        each-zip [] [] same each = tt
        each-zip [] (y ∷ ys) same each = absurd (omega arith)
        each-zip (x ∷ xs) [] same each = absurd (omega arith)
        each-zip (x ∷ xs) (y ∷ ys) same each = (each 0 x y refl refl, each-zip xs ys (omega arith) (λ number a b at_a at_b. each (suc number) a b at_a at_b))

-- the ends of so many nodes are as many
module _ {E : Type 0} (lanes : NodeEnd E) (nodes : ℕ) (ends : List E) (free : AreFree lanes nodes ends) where
  pub free-many : length ends ≡ nodes
  free-many = sym (length-map ends lanes.number) ∙ ap length free.numbers ∙ length-range_with_len 0 nodes

  pub free-number : (k : ℕ) (end : E) → slice_get ends k ≡ Some end → lanes.number end ≡ k
  free-number k end at =
      let within = slice_get_within ends k end at in
      let long = free-many in
      let plain : 0 + k ≡ k = omega arith in
      ap lanes.number (sym (get_or_from_slice_get ends k end end at)) ∙ sym (get_or-map lanes.number ends k end 0 within) ∙ ap (λ l. get_or l k 0) free.numbers ∙ get_or-range_with_len 0 nodes k 0 (omega arith) ∙ plain

  pub free-wide : (k : ℕ) (end : E) → slice_get ends k ≡ Some end → lanes.nodes end ≡ nodes
  free-wide = at-each-place (λ end. lanes.nodes end ≡ nodes) ends free.wide

  pub free-slots : (k : ℕ) (end : E) → slice_get ends k ≡ Some end → (to : ℕ) → to < nodes → lanes.is_free end to
  free-slots = at-each-place (λ end. (to : ℕ) → to < nodes → lanes.is_free end to) ends free.free

-- what has come to the first so many nodes was taken out
pub record AreTakenUpto (place : ℕ) (old new : List Inbox) : Type 0 where
  pub many : length new ≡ length old
  pub early : AtEach (λ number inbox. inbox.early.items ≡ []) new
  pub taken : (number : ℕ) (inbox : Inbox) → number < place → slice_get new number ≡ Some inbox → inbox.arrived ≡ []
  pub rest : (number : ℕ) → place ≤ number → slice_get new number ≡ slice_get old number

abbrev early_in : Inbox → List Parcel
early_in inbox = inbox.early.items

pub taken-none : (inboxes : List Inbox) → AtEach (λ number inbox. inbox.early.items ≡ []) inboxes → AreTakenUpto 0 inboxes inboxes
taken-none inboxes early = record { many = refl; early = early; taken = λ number inbox below at. absurd (omega arith); rest = λ number from. refl }

pub taken-more : (place : ℕ) (old new : List Inbox) (a b : Inbox) → AreTakenUpto place old new → slice_get new place ≡ Some a → b.early ≡ a.early → b.arrived ≡ [] → AreTakenUpto (place + 1) old (slice_set new place b)
taken-more place old new a b upto at same none = record {
  many = length-set new place b ∙ upto.many;
  early = λ number inbox there. by_place number inbox there (eqb number place) refl;
  taken = λ number inbox below there. by_turn number inbox below there (eqb number place) refl;
  rest = λ number from. at-other new place number b (λ same. omega arith) ∙ upto.rest number (omega arith);
}
  where
    is-b : (number : ℕ) (inbox : Inbox) → slice_get (slice_set new place b) number ≡ Some inbox → eqb number place ≡ true → b ≡ inbox
    is-b number inbox there h = same-some b inbox (sym (at-set new place b (slice_get_within new place a at)) ∙ ap (slice_get (slice_set new place b)) (sym (eqb-true number place h)) ∙ there)

    by_place : (number : ℕ) (inbox : Inbox) → slice_get (slice_set new place b) number ≡ Some inbox → (t : Bool) → eqb number place ≡ t → inbox.early.items ≡ []
    by_place number inbox there true h = ap early_in (sym (is-b number inbox there h)) ∙ ap (λ v. v.items) same ∙ upto.early place a at
    by_place number inbox there false h = upto.early number inbox (sym (at-other new place number b (eqb-false number place h)) ∙ there)

    by_turn : (number : ℕ) (inbox : Inbox) → number < place + 1 → slice_get (slice_set new place b) number ≡ Some inbox → (t : Bool) → eqb number place ≡ t → inbox.arrived ≡ []
    by_turn number inbox below there true h = ap arrived_in (sym (is-b number inbox there h)) ∙ none
    by_turn number inbox below there false h =
        let apart = eqb-false number place h in
        upto.taken number inbox (omega arith) (sym (at-other new place number b apart) ∙ there)

pub at-mapped : {A B : Type 0} (f : A → B) (xs : List A) (k : ℕ) (x : A) → slice_get xs k ≡ Some x → slice_get (map f xs) k ≡ Some (f x)
at-mapped f [] k x at = absurd (cc)
at-mapped f (y ∷ ys) zero x at = ap (λ z. Some (f z)) (same-some y x at)
at-mapped f (y ∷ ys) (suc k) x at = at-mapped f ys k x at
