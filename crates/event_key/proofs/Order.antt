-- The order of keys is total and strict, and the stamp comes first.
use Rattle.std.proofs.Common.{◌≡◌, ◌≢◌, ◌∙◌, ℕ, ◌<◌, ◌≤◌, Bool, true, false, cond, ◌||◌, ◌&&◌, refl, ap, arith}
use Rattle.std.specs.Prelude.{nat_lt, ◌==◌}
use Rattle.std.proofs.lemmas.Bool.{false_from_ne_true}
use Rattle.std.specs.Cmp.{IsTotalOrder, tied_itself}
use Rattle.std.proofs.lemmas.Cmp.{nat_cmp_total, on_total, then_total, ranked, by_ranked}
use Rattle.std.specs.Ordering.{nat_cmp, ordering_then, ordering_reverse, is_lt, is_eq}
use Rattle.std.specs.declared.cmp.Ordering.{Ordering}
use Rattle.std.specs.declared.cmp.Ordering.TheVariants.{Less, Equal, Greater}
use Rattle.event_key.specs.declared.key.Key.{Key}
use Rattle.event_key.specs.Keys.{key_cmp, key_lt, same_key, lt_then}

pub key_total : IsTotalOrder key_cmp
unfolding key_cmp
key_total = then_total (on_total (λ k. k.stamp) nat_cmp_total)
    (then_total (on_total (λ k. k.rank) nat_cmp_total)
    (then_total (on_total (λ k. k.dest) nat_cmp_total)
    (then_total (on_total (λ k. k.src) nat_cmp_total) (on_total (λ k. k.serial) nat_cmp_total))))

less_is : (o : Ordering) → is_lt o ≡ true → o ≡ Less
less_is Less h = refl
less_is Equal h = cc
less_is Greater h = cc

then_equal : (o p : Ordering) → ordering_then o p ≡ Equal → (o ≡ Equal) × (p ≡ Equal)
then_equal Less p h = absurd (cc)
then_equal Equal p h = (refl, h)
then_equal Greater p h = absurd (cc)

nat_equal : (x y : ℕ) → nat_cmp x y ≡ Equal → x ≡ y
nat_equal x y h = by_ranked (x < y) (x ≡ y) (y < x) (nat_cmp x y) (ranked x y (nat_cmp x y) refl) (λ e _. absurd (cc)) (λ _ e. e) (λ e _. absurd (cc))

-- keys that compare alike are one
pub key_exact : (a b : Key) → key_cmp a b ≡ Equal → a ≡ b
unfolding key_cmp
key_exact a b h =
    let by_stamp = then_equal _ _ h in
    let by_rank = then_equal _ _ by_stamp.1 in
    let by_dest = then_equal _ _ by_rank.1 in
    let by_src = then_equal _ _ by_dest.1 in
    let stamp = nat_equal a.stamp b.stamp by_stamp.0 in
    let rank = nat_equal a.rank b.rank by_rank.0 in
    let dest = nat_equal a.dest b.dest by_dest.0 in
    let src = nat_equal a.src b.src by_src.0 in
    let serial = nat_equal a.serial b.serial by_src.1 in
    λ i. record { stamp = stamp i; rank = rank i; dest = dest i; src = src i; serial = serial i }

eq_is : (o : Ordering) → is_eq o ≡ true → o ≡ Equal
eq_is Less h = absurd (cc)
eq_is Equal h = refl
eq_is Greater h = absurd (cc)

-- keys that are the same are one
pub same_key-is : (a b : Key) → same_key a b ≡ true → a ≡ b
unfolding same_key
same_key-is a b h = key_exact a b (eq_is (key_cmp a b) h)

pub same_key-itself : (a : Key) → same_key a a ≡ true
unfolding same_key
same_key-itself a = ap is_eq (tied_itself key_total a)

pub same_key-other : (a b : Key) → a ≢ b → same_key a b ≡ false
same_key-other a b apart = by (same_key a b) refl
  where
    by : (same : Bool) → same_key a b ≡ same → same ≡ false
    by true h = absurd (apart (same_key-is a b h))
    by false h = refl

-- a key that comes before another isn't the same
pub same_key-lt : (a b : Key) → key_lt a b ≡ true → same_key a b ≡ false
unfolding same_key key_lt
same_key-lt a b h = by_order (key_cmp a b) h
  where
    by_order : (o : Ordering) → is_lt o ≡ true → is_eq o ≡ false
    by_order Less h = refl
    by_order Equal h = absurd (cc)
    by_order Greater h = refl

pub key_lt-irrefl : (a : Key) → key_lt a a ≡ false
unfolding key_lt
key_lt-irrefl a = ap is_lt (tied_itself key_total a)

pub key_lt-trans : (a b c : Key) → key_lt a b ≡ true → key_lt b c ≡ true → key_lt a c ≡ true
unfolding key_lt
key_lt-trans a b c h k = ap is_lt (key_total.trans a b c (less_is _ h) (less_is _ k))

-- of two keys that come one after the other, the second isn't the first
pub key_lt-turned : (a b : Key) → key_lt a b ≡ true → key_lt b a ≡ false
key_lt-turned a b lt = false_from_ne_true (key_lt b a) (λ back. let no = key_lt-irrefl a in let yes = key_lt-trans a b a lt back in cc)

turned : (o p : Ordering) → o ≡ ordering_reverse p → is_lt o ≡ false → is_lt p ≡ false → o ≡ Equal
turned Equal p e h k = refl
turned Less p e h k = absurd (cc)
turned Greater Less e h k = absurd (cc)
turned Greater Equal e h k = absurd (cc)
turned Greater Greater e h k = absurd (cc)

-- of two keys that differ, one comes first
pub key_lt-apart : (a b : Key) → key_lt a b ≡ false → key_lt b a ≡ false → a ≡ b
unfolding key_lt
key_lt-apart a b h k = key_exact a b (turned _ _ (key_total.antisymm a b) h k)

less_then : (o p : Ordering) → o ≡ Less → is_lt (ordering_then o p) ≡ true
less_then Less p e = refl
less_then Equal p e = absurd (cc)
less_then Greater p e = absurd (cc)

nat_less : (x y : ℕ) → x < y → nat_cmp x y ≡ Less
nat_less x y h = by_ranked (x < y) (x ≡ y) (y < x) (nat_cmp x y) (ranked x y (nat_cmp x y) refl) (λ e _. e) (λ _ e. absurd (omega arith)) (λ _ e. absurd (omega arith))

-- an earlier stamp comes first
pub key_lt-stamp : (a b : Key) → a.stamp < b.stamp → key_lt a b ≡ true
unfolding key_lt key_cmp
key_lt-stamp a b h = less_then _ _ (nat_less _ _ h)

not_greater : (o p : Ordering) → is_lt (ordering_then o p) ≡ true → o ≡ Greater → ⊥
not_greater Less p h e = cc
not_greater Equal p h e = cc
not_greater Greater p h e = cc

-- the key that comes first has no later stamp
pub stamp-le : (a b : Key) → key_lt a b ≡ true → a.stamp ≤ b.stamp
unfolding key_lt key_cmp
stamp-le a b h =
    by_ranked (a.stamp < b.stamp) (a.stamp ≡ b.stamp) (b.stamp < a.stamp) (nat_cmp a.stamp b.stamp) (ranked a.stamp b.stamp (nat_cmp a.stamp b.stamp) refl)
    (λ _ e. omega arith) (λ _ e. omega arith) (λ e _. absurd (not_greater _ _ h e))

-- the order as tests of one field after another
lt_cond : (p q : Bool) (o : Ordering) → is_lt (ordering_then (cond p Less (cond q Equal Greater)) o) ≡ (p || (q && is_lt o))
lt_cond true q o = refl
lt_cond false true o = refl
lt_cond false false o = refl

lt_last : (p q : Bool) → is_lt (cond p Less (cond q Equal Greater)) ≡ p
lt_last true q = refl
lt_last false true = refl
lt_last false false = refl

pub is_lt-then : (x y : ℕ) (o : Ordering) → is_lt (ordering_then (nat_cmp x y) o) ≡ lt_then x y (is_lt o)
is_lt-then x y o = lt_cond (nat_lt x y) (x == y) o

pub key_lt-tests : (a b : Key)
    → key_lt a b ≡ lt_then a.stamp b.stamp (lt_then a.rank b.rank (lt_then a.dest b.dest (lt_then a.src b.src (nat_lt a.serial b.serial))))
unfolding key_lt key_cmp
key_lt-tests a b =
    is_lt-then a.stamp b.stamp _
    ∙ ap (lt_then a.stamp b.stamp) (is_lt-then a.rank b.rank _
    ∙ ap (lt_then a.rank b.rank) (is_lt-then a.dest b.dest _
    ∙ ap (lt_then a.dest b.dest) (is_lt-then a.src b.src _
    ∙ ap (lt_then a.src b.src) (lt_last (nat_lt a.serial b.serial) (a.serial == b.serial)))))
