-- Two rows of nodes that receive side by side are one that has received.
use Rattle.std.proofs.Common.{◌≡◌, ℕ, zero, suc, ◌+◌, ◌-◌, ◌<◌, ◌≤◌, Bool, true, false, List, [], ◌∷◌, ◌++◌, length, map, refl, sym, ap, ◌∙◌, subst, arith, ltb, ltb-true, ltb-false}
use Rattle.std.proofs.lemmas.List.{length-append, length-map, map-append}
use Rattle.std.proofs.lemmas.Option.{slice_get_past}
use Rattle.std.specs.Prelude.{slice_get, Some}
use Rattle.model_core.specs.declared.event.Event.{Event}
use Rattle.model_core.specs.Meaning.{Meaning}
use Rattle.object_log.proofs.RowLemmas.{behind-front}
use Rattle.parcel_exchange.specs.declared.inbox.Inbox.{Inbox}
use Rattle.node_core.specs.Nodes.{NodeView}
use Rattle.cycle_core.specs.Ends.{AllCanReceive, Receives, ReceiveUpto}
use Rattle.cycle_core.specs.Places.{AtEach}
use Rattle.cycle_core.proofs.PlaceLemmas.{same-some}
use Rattle.node_team.specs.Receipts.{CanReceiveAll, HaveReceivedAll}
use Rattle.node_team.specs.Releases.{AreClear, arrived_in}

module _ {A : Type 0} where
  front-at : (xs ys : List A) (k : ℕ) (x : A) → slice_get xs k ≡ Some x → slice_get (xs ++ ys) k ≡ Some x
  front-at [] ys k x at = absurd (cc)
  front-at (y ∷ xs) ys zero x at = at
  front-at (y ∷ xs) ys (suc k) x at = front-at xs ys k x at

  in-front : (xs ys : List A) (k : ℕ) (x : A) → k < length xs → slice_get (xs ++ ys) k ≡ Some x → slice_get xs k ≡ Some x
  in-front [] ys k x below at = absurd (omega arith)
  in-front (y ∷ xs) ys zero x below at = at
  in-front (y ∷ xs) ys (suc k) x below at = in-front xs ys k x (omega arith) at

  back-at : (front : ℕ) (xs ys : List A) (k : ℕ) (x : A) → length xs ≡ front → slice_get ys k ≡ Some x → slice_get (xs ++ ys) (front + k) ≡ Some x
  back-at front xs ys k x long at =
      let same : front + k - length xs ≡ k = omega arith in
      behind-front xs ys (front + k) (omega arith) ∙ ap (slice_get ys) same ∙ at

  in-back : (front : ℕ) (xs ys : List A) (k : ℕ) (x : A) → length xs ≡ front → front ≤ k → slice_get (xs ++ ys) k ≡ Some x → slice_get ys (k - front) ≡ Some x
  in-back front xs ys k x long from at = ap (λ n. slice_get ys (k - n)) (sym long) ∙ sym (behind-front xs ys k (omega arith)) ∙ at

  -- what is said of each is said of two lists as of one
  each-front : (P : A → Type 0) (xs ys : List A) → AtEach (λ k. P) (xs ++ ys) → AtEach (λ k. P) xs
  each-front P xs ys all k x at = all k x (front-at xs ys k x at)

  each-back : (P : A → Type 0) (xs ys : List A) → AtEach (λ k. P) (xs ++ ys) → AtEach (λ k. P) ys
  each-back P xs ys all k x at = all (length xs + k) x (back-at (length xs) xs ys k x refl at)

  each-whole : (P : A → Type 0) (xs ys : List A) → AtEach (λ k. P) xs → AtEach (λ k. P) ys → AtEach (λ k. P) (xs ++ ys)
  each-whole P [] ys first second k y at = second k y at
  each-whole P (x ∷ xs) ys first second zero y at = first zero y at
  each-whole P (x ∷ xs) ys first second (suc k) y at = each-whole P xs ys (λ j. first (suc j)) second k y at

  each-one : (P : A → Type 0) (x : A) → P x → AtEach (λ k. P) (x ∷ [])
  each-one P x one zero y at = subst P (same-some x y at) one
  each-one P x one (suc k) y at = absurd (cc)

module _ {M : Type 0} (meaning_of : M → Meaning) where
  -- what the first so many have received, all have where there are no more
  pub received-all : (place : ℕ) (parcels : List (List Event)) (old new : List (NodeView M)) → length old ≤ place → ReceiveUpto meaning_of place parcels old new → ReceiveUpto meaning_of (length old) parcels old new
  received-all place parcels old new far upto = record {
    many = upto.many;
    each = λ number x y es below. upto.each number x y es (omega arith);
    rest = λ number from. slice_get_past new number (let many = upto.many in omega arith) ∙ sym (slice_get_past old number from);
  }

  whole-received : (p₁ p₂ : List (List Event)) (n₁ n₂ m₁ m₂ : List (NodeView M)) → length p₁ ≡ length n₁ → ReceiveUpto meaning_of (length n₁) p₁ n₁ m₁ → ReceiveUpto meaning_of (length n₂) p₂ n₂ m₂
      → ReceiveUpto meaning_of (length (n₁ ++ n₂)) (p₁ ++ p₂) (n₁ ++ n₂) (m₁ ++ m₂)
  whole-received p₁ p₂ n₁ n₂ m₁ m₂ long first second = record {
    many = many;
    each = λ number x y es below at_x at_y at_es. by_half number x y es below at_x at_y at_es (ltb number (length n₁)) refl;
    rest = λ number from. slice_get_past (m₁ ++ m₂) number (let all = many in omega arith) ∙ sym (slice_get_past (n₁ ++ n₂) number from);
  }
    where
      many : length (m₁ ++ m₂) ≡ length (n₁ ++ n₂)
      many = (let old = length-append n₁ n₂ in let new = length-append m₁ m₂ in let a = first.many in let b = second.many in omega arith)

      by_half : (number : ℕ) (x y : NodeView M) (es : List Event) → number < length (n₁ ++ n₂) → slice_get (n₁ ++ n₂) number ≡ Some x → slice_get (m₁ ++ m₂) number ≡ Some y → slice_get (p₁ ++ p₂) number ≡ Some es
          → (t : Bool) → ltb number (length n₁) ≡ t → Receives meaning_of es x y
      by_half number x y es below at_x at_y at_es true h =
          let inside = ltb-true number (length n₁) h in
          let a = first.many in
          first.each number x y es inside (in-front n₁ n₂ number x inside at_x) (in-front m₁ m₂ number y (omega arith) at_y) (in-front p₁ p₂ number es (omega arith) at_es)
      by_half number x y es below at_x at_y at_es false h =
          let from = ltb-false number (length n₁) h in
          let all = length-append n₁ n₂ in
          second.each (number - length n₁) x y es (omega arith) (in-back (length n₁) n₁ n₂ number x refl from at_x) (in-back (length n₁) m₁ m₂ number y first.many from at_y) (in-back (length n₁) p₁ p₂ number es long from at_es)

  -- nodes and inboxes of two rows, one behind the other, of which the first has an inbox for each node
  pub record AreRows (nodes n₁ n₂ : List (NodeView M)) (inboxes i₁ i₂ : List Inbox) : Type 0 where
    pub all_nodes : nodes ≡ n₁ ++ n₂
    pub all_inboxes : inboxes ≡ i₁ ++ i₂
    pub many : length i₁ ≡ length n₁

  module _ (nodes n₁ n₂ : List (NodeView M)) (inboxes i₁ i₂ : List Inbox) (rows : AreRows nodes n₁ n₂ inboxes i₁ i₂) where
    parted : map arrived_in (i₁ ++ i₂) ≡ map arrived_in i₁ ++ map arrived_in i₂
    parted = map-append arrived_in i₁ i₂

    as-long : length (map arrived_in i₁) ≡ length n₁
    as-long = length-map i₁ arrived_in ∙ rows.many

    -- nodes that can all receive can do so in two rows
    pub both-can : CanReceiveAll meaning_of nodes inboxes → CanReceiveAll meaning_of n₁ i₁ × CanReceiveAll meaning_of n₂ i₂
    both-can before = (
      record {
        can = λ number n es at_n at_es. can number n es (front-at n₁ n₂ number n at_n) (front-at (map arrived_in i₁) (map arrived_in i₂) number es at_es);
        many = rows.many;
        early = each-front (λ inbox. inbox.early.items ≡ []) i₁ i₂ all.early;
      },
      record {
        can = λ number n es at_n at_es. can (length n₁ + number) n es (back-at (length n₁) n₁ n₂ number n refl at_n) (back-at (length n₁) (map arrived_in i₁) (map arrived_in i₂) number es as-long at_es);
        many = (let many = all.many in let a = length-append i₁ i₂ in let b = length-append n₁ n₂ in let c = rows.many in omega arith);
        early = each-back (λ inbox. inbox.early.items ≡ []) i₁ i₂ all.early;
      },
    )
      where
        all : CanReceiveAll meaning_of (n₁ ++ n₂) (i₁ ++ i₂)
        all = subst (CanReceiveAll meaning_of (n₁ ++ n₂)) rows.all_inboxes (subst (λ l. CanReceiveAll meaning_of l inboxes) rows.all_nodes before)

        can : AllCanReceive meaning_of (map arrived_in i₁ ++ map arrived_in i₂) (n₁ ++ n₂)
        can = subst (λ l. AllCanReceive meaning_of l (n₁ ++ n₂)) parted all.can

    -- what two rows have received all nodes have
    pub both-received : (m₁ m₂ : List (NodeView M)) (l₁ l₂ : List Inbox) → HaveReceivedAll meaning_of n₁ i₁ m₁ l₁ → HaveReceivedAll meaning_of n₂ i₂ m₂ l₂ → HaveReceivedAll meaning_of nodes inboxes (m₁ ++ m₂) (l₁ ++ l₂)
    both-received m₁ m₂ l₁ l₂ first second =
        let Q : List (NodeView M) → List Inbox → Type 0 = λ n i. HaveReceivedAll meaning_of n i (m₁ ++ m₂) (l₁ ++ l₂) in
        subst (λ l. Q nodes l) (sym rows.all_inboxes) (subst (λ l. Q l (i₁ ++ i₂)) (sym rows.all_nodes) (record {
          received = subst (λ l. ReceiveUpto meaning_of (length (n₁ ++ n₂)) l (n₁ ++ n₂) (m₁ ++ m₂)) (sym parted) (whole-received (map arrived_in i₁) (map arrived_in i₂) n₁ n₂ m₁ m₂ as-long first.received second.received);
          clear = record {
            many = (let a = length-append l₁ l₂ in let b = length-append n₁ n₂ in let c = first.clear.many in let d = second.clear.many in omega arith);
            early = each-whole (λ inbox. inbox.early.items ≡ []) l₁ l₂ first.clear.early second.clear.early;
            arrived = each-whole (λ inbox. inbox.arrived ≡ []) l₁ l₂ first.clear.arrived second.clear.arrived;
          };
        }))

-- one more inbox with nothing in it
pub clear-more : (many : ℕ) (inboxes : List Inbox) (inbox : Inbox) → AreClear many inboxes → inbox.early.items ≡ [] → inbox.arrived ≡ [] → AreClear (many + 1) (inboxes ++ inbox ∷ [])
clear-more many inboxes inbox clear early arrived = record {
  many = (let long = length-append inboxes (inbox ∷ []) in let was = clear.many in omega arith);
  early = each-whole (λ (x : Inbox). x.early.items ≡ []) inboxes (inbox ∷ []) clear.early (each-one (λ (x : Inbox). x.early.items ≡ []) inbox early);
  arrived = each-whole (λ (x : Inbox). x.arrived ≡ []) inboxes (inbox ∷ []) clear.arrived (each-one (λ (x : Inbox). x.arrived ≡ []) inbox arrived);
}
