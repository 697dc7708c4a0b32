-- What stands at a name, after one more element.
use Rattle.std.proofs.Common.{◌≡◌, ◌≢◌, ℕ, zero, suc, ◌+◌, ◌<◌, Bool, true, false, cond, List, [], ◌∷◌, ◌++◌, length, get_or, Option, Some, None, refl, sym, ap, ◌∙◌, arith}
use Rattle.std.proofs.lemmas.Bool.{false≢true}
use Rattle.std.specs.Str.{bytes_eq}
use Rattle.std.specs.Cmp.Lexicographic.{bytes_decides, nat_list_eq_equiv}
use mathlib.Core.Path.{fun_ext}
use Rattle.text_fields.specs.declared.directory.Place.{Place}
use Rattle.text_fields.specs.Names.{Finder, TakesIn, place_from}

cond_none : (b : Bool) (p : Place) (o : Option Place) → cond b (Some p) o ≡ None → (b ≡ false) × (o ≡ None)
cond_none true p o h = cc
cond_none false p o h = (refl, h)

apart : (name other n : List ℕ) (d : Bool) → bytes_eq name other ≡ d → bytes_eq other n ≡ true → bytes_eq name n ≡ false → bytes_eq name other ≡ false
apart name other n false e same differs = e
apart name other n true e same differs =
    let joined : bytes_eq name n ≡ true = rw ((bytes_decides name other).0 e) same in
    absurd (false≢true (sym differs ∙ joined))

at_first : {A : Type 0} (name : A → List ℕ) (place : ℕ → A → Place) (new x : A) (other : List ℕ) (xs : List A) (k : ℕ) (b : Bool)
    → bytes_eq other (name x) ≡ b → bytes_eq (name new) (name x) ≡ false
    → place_from name place (k + 1) (xs ++ new ∷ []) other ≡ cond (bytes_eq (name new) other) (Some (place (k + 1 + length xs) new)) (place_from name place (k + 1) xs other)
    → place_from name place k ((x ∷ xs) ++ new ∷ []) other ≡ cond (bytes_eq (name new) other) (Some (place (k + length (x ∷ xs)) new)) (place_from name place k (x ∷ xs) other)
at_first name place new x other xs k true e differs more = rw (e, apart (name new) other (name x) (bytes_eq (name new) other) refl e differs)
at_first name place new x other xs k false e differs more =
    rw (e, more) (ap (λ m. cond (bytes_eq (name new) other) (Some (place m new)) (place_from name place (k + 1) xs other)) (omega arith))

place_from-push : {A : Type 0} (name : A → List ℕ) (place : ℕ → A → Place) (new : A) (other : List ℕ) (xs : List A) (k : ℕ) → place_from name place k xs (name new) ≡ None
    → place_from name place k (xs ++ new ∷ []) other ≡ cond (bytes_eq (name new) other) (Some (place (k + length xs) new)) (place_from name place k xs other)
place_from-push name place new other [] k absent =
    rw (nat_list_eq_equiv.symm (name new) other) (ap (λ m. cond (bytes_eq other (name new)) (Some (place m new)) None) (omega arith))
place_from-push name place new other (x ∷ xs) k absent =
    let parts = cond_none (bytes_eq (name new) (name x)) (place k x) (place_from name place (k + 1) xs (name new)) absent in
    at_first name place new x other xs k (bytes_eq other (name x)) refl parts.0 (place_from-push name place new other xs (k + 1) parts.1)

-- where one finder finds what stands at each name, so does one that has the next element besides
pub finder-more : {A : Type 0} (name : A → List ℕ) (place : ℕ → A → Place) (find more : Finder) (xs : List A) (x : A)
    → find ≡ place_from name place 0 xs → find (name x) ≡ None → TakesIn find more (name x) (place (length xs) x) → more ≡ place_from name place 0 (xs ++ x ∷ [])
finder-more name place find more xs x found none sets = fun_ext (λ other.
    let absent : place_from name place 0 xs (name x) ≡ None = sym (ap (λ f. f (name x)) found) ∙ none in
    sets other
    ∙ ap (λ n. cond (bytes_eq (name x) other) (Some (place n x)) (find other)) (omega arith)
    ∙ ap (λ f. cond (bytes_eq (name x) other) (Some (place (0 + length xs) x)) (f other)) found
    ∙ sym (place_from-push name place x other xs 0 absent))

-- no element has a name at which nothing stands
pub names-new : {A : Type 0} (name : A → List ℕ) (place : ℕ → A → Place) (xs : List A) (k : ℕ) (wanted : List ℕ) → place_from name place k xs wanted ≡ None
    → (i : ℕ) (d : A) → i < length xs → name (get_or xs i d) ≢ wanted
names-new name place [] k wanted none i d within = absurd (omega arith)
names-new name place (x ∷ xs) k wanted none zero d within = λ same.
    let parts = cond_none (bytes_eq wanted (name x)) (place k x) (place_from name place (k + 1) xs wanted) none in
    let equal : bytes_eq wanted (name x) ≡ true = (bytes_decides wanted (name x)).1 (sym same) in
    false≢true (sym parts.0 ∙ equal)
names-new name place (x ∷ xs) k wanted none (suc i) d within =
    let parts = cond_none (bytes_eq wanted (name x)) (place k x) (place_from name place (k + 1) xs wanted) none in
    names-new name place xs (k + 1) wanted parts.1 i d (omega arith)

-- what is found at a name stands for an element
abbrev FoundAt : {A : Type 0} → (ℕ → A → Place) → List A → ℕ → Place → A → Type 0
FoundAt place xs k p d = (i : ℕ) × (i < length xs) × (place (k + i) (get_or xs i d) ≡ p)

found_first : {A : Type 0} (place : ℕ → A → Place) (x : A) (xs : List A) (k : ℕ) (p : Place) (d : A) (others : Option Place) (same : Bool)
    → cond same (Some (place k x)) others ≡ Some p → (others ≡ Some p → FoundAt place xs (k + 1) p d) → FoundAt place (x ∷ xs) k p d
found_first place x xs k p d others true found later =
    let first : place k x ≡ p = cc in
    (0, omega arith, ap (λ n. place n x) (omega arith) ∙ first)
found_first place x xs k p d others false found later =
    let rest = later found in
    (suc rest.0, omega arith, ap (λ n. place n (get_or xs rest.0 d)) (omega arith) ∙ rest.2)

pub found_at : {A : Type 0} (name : A → List ℕ) (place : ℕ → A → Place) (xs : List A) (k : ℕ) (wanted : List ℕ) (p : Place) (d : A)
    → place_from name place k xs wanted ≡ Some p → (i : ℕ) × (i < length xs) × (place (k + i) (get_or xs i d) ≡ p)
found_at name place [] k wanted p d found = cc
found_at name place (x ∷ xs) k wanted p d found =
    found_first place x xs k p d (place_from name place (k + 1) xs wanted) (bytes_eq wanted (name x)) found (found_at name place xs (k + 1) wanted p d)
