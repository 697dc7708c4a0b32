-- One line of a list changed, seen through a part of each line.
use Rattle.std.proofs.Common.{◌≡◌, ℕ, ◌<◌, ◌≤◌, List, [], ◌∷◌, zero, suc, length, get_or, map, ap, sym, ◌∙◌, arith}
use Rattle.std.proofs.Math.ListN.{set}
use Rattle.std.proofs.Math.Seq.{map-set_same}
use Rattle.std.proofs.lemmas.List.{map-set, get_or-map, get_or-set_same, length-map, length-set}
use Rattle.delta_exchange.specs.Views.{LineView}
use Rattle.delta_exchange.specs.Spares.{NoneFell}

line_changed : {B : Type 0} (part : LineView → B) (lines : List LineView) (at : ℕ) (old new : LineView) (other : B) (change : B → B) → at < length lines → old ≡ get_or lines at old → part new ≡ change (part old)
    → map part (set lines at new) ≡ set (map part lines) at (change (get_or (map part lines) at other))
line_changed part lines at old new other change within is changed =
    map-set part lines at new ∙ ap (set (map part lines) at) (changed ∙ ap change (ap part is ∙ sym (get_or-map part lines at old other within)))

-- a line is there where its part is
pub within : {A B : Type 0} (f : A → B) (xs : List A) (at : ℕ) → at < length (map f xs) → at < length xs
within f xs at h = rw length-map at h

pub values_changed : (change : List ℕ → List ℕ) (lines : List LineView) (at : ℕ) (old new : LineView) → at < length (map (λ (line : LineView). line.values) lines) → old ≡ get_or lines at old → new.values ≡ change old.values
    → map (λ (line : LineView). line.values) (set lines at new) ≡ set (map (λ (line : LineView). line.values) lines) at (change (get_or (map (λ (line : LineView). line.values) lines) at []))
values_changed change lines at old new there is changed = line_changed (λ (line : LineView). line.values) lines at old new [] change (within _ lines at there) is changed

pub spare_changed : (change : ℕ → ℕ) (lines : List LineView) (at : ℕ) (old new : LineView) → at < length (map (λ (line : LineView). line.values) lines) → old ≡ get_or lines at old → new.spare ≡ change old.spare
    → map (λ (line : LineView). line.spare) (set lines at new) ≡ set (map (λ (line : LineView). line.spare) lines) at (change (get_or (map (λ (line : LineView). line.spare) lines) at 0))
spare_changed change lines at old new there is changed = line_changed (λ (line : LineView). line.spare) lines at old new 0 change (within _ lines at there) is changed

-- a line that keeps its values
pub same_values : (lines : List LineView) (at : ℕ) (old new : LineView) → old ≡ get_or lines at old → new.values ≡ old.values
    → map (λ (line : LineView). line.values) (set lines at new) ≡ map (λ (line : LineView). line.values) lines
same_values lines at old new is same = map-set_same (λ (line : LineView). line.values) lines at new old (same ∙ ap (λ (line : LineView). line.values) is)

-- one number that is no less
grown : (spare : List ℕ) (at places : ℕ) → get_or spare at 0 ≤ places → NoneFell spare (set spare at places)
grown spare at places le = record {
  as_many = length-set spare at places;
  no_less = no_less spare at places le;
}
  where
    no_less : (spare : List ℕ) (at places : ℕ) → get_or spare at 0 ≤ places → (line : ℕ) → get_or spare line 0 ≤ get_or (set spare at places) line 0
    no_less [] at places le line = omega arith
    no_less (x ∷ xs) zero places le zero = le
    no_less (x ∷ xs) zero places le (suc line) = omega arith
    no_less (x ∷ xs) (suc at) places le zero = omega arith
    no_less (x ∷ xs) (suc at) places le (suc line) = no_less xs at places le line

-- a line that loses no spare
pub no_less_spare : (lines : List LineView) (at : ℕ) (old new : LineView) → at < length lines → old ≡ get_or lines at old → old.spare ≤ new.spare
    → NoneFell (map (λ (line : LineView). line.spare) lines) (map (λ (line : LineView). line.spare) (set lines at new))
no_less_spare lines at old new within is le =
    let before : get_or (map (λ (line : LineView). line.spare) lines) at 0 ≡ old.spare = get_or-map (λ (line : LineView). line.spare) lines at old 0 within ∙ ap (λ (line : LineView). line.spare) (sym is) in
    rw (map-set (λ (line : LineView). line.spare) lines at new) (grown (map (λ (line : LineView). line.spare) lines) at new.spare (omega (arith, before, le)))

pub new_spare : (lines : List LineView) (at : ℕ) (new : LineView) → at < length lines → get_or (map (λ (line : LineView). line.spare) (set lines at new)) at 0 ≡ new.spare
new_spare lines at new within =
    rw (map-set (λ (line : LineView). line.spare) lines at new) (get_or-set_same _ at new.spare 0 (rw length-map within))

-- what is read of a line through its part
pub read_values : (lines : List LineView) (at : ℕ) (old : LineView) → at < length (map (λ (line : LineView). line.values) lines) → old ≡ get_or lines at old → get_or (map (λ (line : LineView). line.values) lines) at [] ≡ old.values
read_values lines at old there is = get_or-map (λ (line : LineView). line.values) lines at old [] (within _ lines at there) ∙ ap (λ (line : LineView). line.values) (sym is)

pub read_spare : (lines : List LineView) (at : ℕ) (old : LineView) → at < length (map (λ (line : LineView). line.values) lines) → old ≡ get_or lines at old → get_or (map (λ (line : LineView). line.spare) lines) at 0 ≡ old.spare
read_spare lines at old there is = get_or-map (λ (line : LineView). line.spare) lines at old 0 (within _ lines at there) ∙ ap (λ (line : LineView). line.spare) (sym is)

pub has_spares : (lines : List LineView) → length (map (λ (line : LineView). line.spare) lines) ≡ length (map (λ (line : LineView). line.values) lines)
has_spares lines = length-map lines (λ (line : LineView). line.spare) ∙ sym (length-map lines (λ (line : LineView). line.values))
