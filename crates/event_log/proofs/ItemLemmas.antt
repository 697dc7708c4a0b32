-- Carried events by their places, and the least stamps that they hold.
use Rattle.std.proofs.Common.{◌≡◌, ℕ, zero, suc, ◌-◌, ◌<◌, ◌≤◌, false, refl, List, [], ◌∷◌, length, map, drop, get_or, set, sym, ap, ◌∙◌, subst, arith}
use Rattle.std.proofs.lemmas.List.{drop_all}
use Rattle.std.specs.List.{remove}
use Rattle.event_key.specs.declared.stamp.TheConstants.{NO_STAMP}
use Rattle.key_order.specs.Ascending.{Ascends}
use Rattle.key_order.specs.Stamps.{least_stamp}
use Rattle.object_log.specs.Carrying.{Placed}
use Rattle.object_log.specs.Logs.{fault_of, held_of}
use Rattle.object_log.proofs.HeldLemmas.{least-join, least-none}
use Rattle.event_log.specs.Items.{AreHeld, AreHeldBut, IsHeld, IsHeldBut, Item, MayFail, first_held, item_key, placed, placed_of}

-- what the events hold
pub held-is : (es : List Item) → AreHeld es → first_held es ≡ least_stamp NO_STAMP (held_of (map (λ (p : Placed). p.done) (placed es)))
unfolding AreHeld held_of
held-is [] held = sym least-none
held-is (e ∷ es) held =
    let more = held-is es held.1 in
    let is = held.0 in
    let join = least-join e.done.sends (held_of (map (λ (p : Placed). p.done) (placed es))) in
    omega arith

-- what stands at a place holds what is held from there on
pub held-at : (n : ℕ) (es : List Item) (x : Item) → n < length es → x ≡ get_or es n x → x.held ≡ first_held (drop n es)
held-at n [] x within at = absurd (omega arith)
held-at zero (e ∷ es) x within at = ap (λ (i : Item). i.held) at
held-at (suc n) (e ∷ es) x within at = held-at n es x (omega arith) at

pub none-held : (n : ℕ) (es : List Item) → length es ≤ n → NO_STAMP ≡ first_held (drop n es)
none-held n es past = ap first_held (sym (drop_all n es past))

-- an item less
pub but-removed : (n : ℕ) (es : List Item) → AreHeld es → AreHeldBut n (remove es n)
unfolding AreHeld AreHeldBut
but-removed zero [] held = tt
but-removed zero (e ∷ es) held = held.1
but-removed (suc n) [] held = tt
but-removed (suc n) (e ∷ es) held = (still n es held.0, but-removed n es held.1)
  where
    still : (n : ℕ) (es : List Item) → IsHeld e es → IsHeldBut n e (remove es n)
    still zero es h = tt
    still (suc n) [] h = h
    still (suc n) (f ∷ es) h = h

-- an item is mended
but-set : (n : ℕ) (e : Item) (es : List Item) → AreHeldBut (suc n) es → n < length es → IsHeld e (drop (suc n) es) → AreHeldBut n (set es n e)
unfolding AreHeld AreHeldBut
but-set n e [] but some is = absurd (omega arith)
but-set zero e (f ∷ es) but some is = (is, but.1)
but-set (suc n) e (f ∷ es) but some is = (still n es but.0, but-set n e es but.1 (omega arith) is)
  where
    still : (n : ℕ) (es : List Item) → IsHeld f es → IsHeldBut n f (set es n e)
    still zero es h = tt
    still (suc n) [] h = h
    still (suc n) (g ∷ es) h = h

but-stays : (n : ℕ) (e : Item) (es : List Item) → AreHeldBut (suc n) es → n < length es → e ≡ get_or es n e → IsHeld e (drop (suc n) es) → AreHeld es
unfolding AreHeld AreHeldBut
but-stays n e [] but some at is = absurd (omega arith)
but-stays zero e (f ∷ es) but some at is = let P : Item → Type 0 = λ e. IsHeld e es in (subst P at is, but.1)
but-stays (suc n) e (f ∷ es) but some at is = (but.0, but-stays n e es but.1 (omega arith) at is)

pub placed-set : (n : ℕ) (e f : Item) (es : List Item) → f ≡ get_or es n f → placed_of e ≡ placed_of f → n < length es → placed (set es n e) ≡ placed es
placed-set n e f [] at is some = absurd (omega arith)
placed-set zero e f (g ∷ es) at is some = ap (λ p. p ∷ placed es) (is ∙ ap placed_of at)
placed-set (suc n) e f (g ∷ es) at is some = ap (λ ps. placed_of g ∷ ps) (placed-set n e f es at is (omega arith))

pub mend-goes : (place : ℕ) (e : Item) (es : List Item) → 0 < place → place ≤ length es → AreHeldBut place es → IsHeld e (drop place es) → AreHeldBut (place - 1) (set es (place - 1) e)
mend-goes zero e es some within but is = absurd (omega arith)
mend-goes (suc n) e es some within but is =
    let P : ℕ → Type 0 = λ m. AreHeldBut m (set es m e) in
    let at : suc n - 1 ≡ n = omega arith in
    subst P (sym at) (but-set n e es but (omega arith) is)

pub mend-stays : (place : ℕ) (e : Item) (es : List Item) → 0 < place → place ≤ length es → AreHeldBut place es → e ≡ get_or es (place - 1) e → IsHeld e (drop place es) → AreHeld es
mend-stays zero e es some within but at is = absurd (omega arith)
mend-stays (suc n) e es some within but at is =
    let P : ℕ → Type 0 = λ m. e ≡ get_or es m e in
    let back : suc n - 1 ≡ n = omega arith in
    but-stays n e es but (omega arith) (subst P back at) is

pub mend-ends : (place : ℕ) (es : List Item) → place ≤ 0 → AreHeldBut place es → AreHeld es
unfolding AreHeldBut
mend-ends zero es none but = but
mend-ends (suc n) es none but = absurd (omega arith)

pub none-carried : Ascends item_key [] × AreHeld [] × MayFail false []
unfolding Ascends AreHeld fault_of
none-carried = (tt, tt, (λ none. refl))

-- those behind the first hold what they held
pub held-behind : (is : List Item) → AreHeld is → AreHeld (remove is 0)
unfolding AreHeld
held-behind [] held = tt
held-behind (i ∷ is) held = held.1
