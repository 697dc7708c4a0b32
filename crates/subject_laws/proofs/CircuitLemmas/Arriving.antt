-- What a pin will be once all that is pending has come.
use Rattle.std.proofs.Common.{◌≡◌, ◌⊎◌, ℕ, ◌%◌, Bool, true, false, cond, List, [], ◌∷◌, refl, ap, ◌∙◌, subst, inl, inr}
use Rattle.std.specs.Prelude.{if◌then◌else◌, Contains}
use Rattle.std.specs.List.{AllByRecursion as Each}
use Rattle.event_key.specs.Keys.{key_lt}
use Rattle.key_order.specs.Ascending.{IsAscending, Ascends, AllAfter}
use Rattle.key_order.specs.Pending.{enqueue, enqueue_all}
use Rattle.event_key.proofs.Order.{key_lt-turned}
use Rattle.key_order.proofs.EachLemmas.{Each-both}
use Rattle.key_order.proofs.MemberLemmas.{first-or-later, none-in}
use Rattle.model_core.specs.declared.event.Event.{Event}
use Rattle.subject_laws.specs.Settled.{is_for, arriving}

pub arriving-none : (number place level : ℕ) → arriving number place level [] ≡ level
unfolding arriving
arriving-none number place level = refl

pub arriving-first : (number place level next : ℕ) (e : Event) (es : List Event) → (if is_for number place e then e.b % 2 else level) ≡ next
    → arriving number place level (e ∷ es) ≡ arriving number place next es
unfolding arriving
arriving-first number place level next e es is = ap (λ l. arriving number place l es) is

-- an event that is for another pin plays no part
pub arriving-enqueue : (number place level : ℕ) (e : Event) (es : List Event) → is_for number place e ≡ false
    → arriving number place level (enqueue e es) ≡ arriving number place level es
unfolding arriving enqueue
arriving-enqueue number place level e [] other = ap (λ b. if b then e.b % 2 else level) other
arriving-enqueue number place level e (x ∷ xs) other =
    by (key_lt e.key x.key) (arriving-enqueue number place (if is_for number place x then x.b % 2 else level) e xs other)
  where
    by : (first : Bool) → arriving number place (if is_for number place x then x.b % 2 else level) (enqueue e xs) ≡ arriving number place (if is_for number place x then x.b % 2 else level) xs
        → arriving number place level (cond first (e ∷ x ∷ xs) (x ∷ enqueue e xs)) ≡ arriving number place (if is_for number place x then x.b % 2 else level) xs
    by true rest = ap (λ b. arriving number place (if b then e.b % 2 else level) (x ∷ xs)) other
    by false rest = rest

pub arriving-enqueue_all : (number place level : ℕ) (es xs : List Event) → Each (λ e. is_for number place e ≡ false) es
    → arriving number place level (enqueue_all es xs) ≡ arriving number place level xs
unfolding enqueue_all
arriving-enqueue_all number place level [] xs others = refl
arriving-enqueue_all number place level (e ∷ es) xs others =
    arriving-enqueue_all number place level es (enqueue e xs) others.1 ∙ arriving-enqueue number place level e xs others.0

-- where nothing comes the pin stays
pub arriving-others : (number place level : ℕ) (es : List Event) → Each (λ e. is_for number place e ≡ false) es → arriving number place level es ≡ level
unfolding arriving
arriving-others number place level [] others = refl
arriving-others number place level (e ∷ es) others =
    ap (λ b. arriving number place (if b then e.b % 2 else level) es) others.0 ∙ arriving-others number place level es others.1

-- where all that comes is of one level, the pin takes it
arriving-all : (number place level : ℕ) (es : List Event) → Each (λ e. is_for number place e ≡ true → e.b % 2 ≡ level) es → arriving number place level es ≡ level
unfolding arriving
arriving-all number place level [] all = refl
arriving-all number place level (e ∷ es) all = ap (λ l. arriving number place l es) (by (is_for number place e) all.0) ∙ arriving-all number place level es all.1
  where
    by : (for : Bool) → (for ≡ true → e.b % 2 ≡ level) → (if for then e.b % 2 else level) ≡ level
    by true is = is refl
    by false is = refl

pub arriving-last : (number place level held : ℕ) (f : Event) (es : List Event) → IsAscending es → Contains es f → is_for number place f ≡ true → f.b % 2 ≡ level
    → Each (λ e. is_for number place e ≡ true → (e.b % 2 ≡ level) ⊎ (key_lt e.key f.key ≡ true)) es → arriving number place held es ≡ level
unfolding Ascends arriving
arriving-last number place level held f [] up is_in for is all = none-in f is_in
arriving-last number place level held f (e ∷ es) up is_in for is all =
    by (first-or-later f e es is_in) (λ later. arriving-last number place level (if is_for number place e then e.b % 2 else held) f es up.1 later for is all.1)
  where
    next : ℕ
    next = if is_for number place e then e.b % 2 else held

    newer : (x : Event) → key_lt f.key x.key ≡ true → (is_for number place x ≡ true → (x.b % 2 ≡ level) ⊎ (key_lt x.key f.key ≡ true))
        → is_for number place x ≡ true → x.b % 2 ≡ level
    newer x after either x_for = elim (either x_for) [
      | inl same ↦ same
      | inr before ↦ absurd (let turned = key_lt-turned f.key x.key after in cc)
    ]

    by : (e ≡ f) ⊎ Contains es f → (Contains es f → arriving number place (if is_for number place e then e.b % 2 else held) es ≡ level)
        → arriving number place (if is_for number place e then e.b % 2 else held) es ≡ level
    by (inr later) more = more later
    by (inl same) more =
        let e_for : is_for number place e ≡ true = ap (is_for number place) same ∙ for in
        let e_is : e.b % 2 ≡ level = ap (λ (x : Event). x.b % 2) same ∙ is in
        let taken : next ≡ level = ap (λ b. if b then e.b % 2 else held) e_for ∙ e_is in
        let after : AllAfter f.key es = subst (λ (x : Event). AllAfter x.key es) same up.0 in
        ap (λ l. arriving number place l es) taken
        ∙ arriving-all number place level es
        (Each-both (λ x. key_lt f.key x.key ≡ true) (λ x. is_for number place x ≡ true → (x.b % 2 ≡ level) ⊎ (key_lt x.key f.key ≡ true))
        (λ x. is_for number place x ≡ true → x.b % 2 ≡ level) es newer after all.1)
