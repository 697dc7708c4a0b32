-- Lines that are appended one after another.
use Rattle.std.proofs.Common.{◌≡◌, ◌∙◌, ℕ, ◌+◌, ◌<◌, List, [], ◌∷◌, ◌++◌, length, take, get_or, ap, sym, append-nil, append_assoc}
use Rattle.std.specs.List.{flat_map, range_with_len}
use Rattle.std.proofs.lemmas.Grind.{flat_map-append}
use Rattle.std.proofs.lemmas.List.{take_more}
use Rattle.model_core.proofs.Numbers.{flat_map-numbers-more}
use Rattle.shop_model.specs.Meaning.{name_at}
use Rattle.shop_model.specs.ShopParts.{ShopParts}
use Rattle.shop_totals.specs.declared.line.Line.TheVariants.{Visit}
use Rattle.shop_totals.specs.declared.visit_sums.VisitSums.{VisitSums}
use Rattle.shop_totals.specs.Forms.{Form, named}
use Rattle.shop_totals.specs.ShopLines.{visit_line}
use Rattle.shop_totals.specs.Summed.{visit_of}
use Rattle.shop_totals.specs.Told.{TimedPart}

pub visit_line-put : (form : Form) (p : ShopParts) (first : ℕ) (told : List TimedPart) (station class : ℕ) (before begun parted both all : List ℕ)
    (sums : VisitSums) → begun ≡ before ++ named form p station → parted ≡ begun ++ 47 ∷ [] → both ≡ parted ++ name_at p (length p.stations + class)
    → all ≡ both ++ form.line (Visit sums) → sums ≡ visit_of first told class → all ≡ before ++ visit_line form p first told station class
unfolding visit_line
visit_line-put form p first told station class before begun parted both all sums names parts names_too ends is =
    let name = named form p station in
    let other = name_at p (length p.stations + class) in
    let text = form.line (Visit (visit_of first told class)) in
    ends
    ∙ ap (λ (xs : List ℕ). xs ++ form.line (Visit sums))
    (names_too ∙ ap (λ (xs : List ℕ). xs ++ other) (parts ∙ ap (λ (xs : List ℕ). xs ++ 47 ∷ []) names))
    ∙ ap (λ (s : VisitSums). (((before ++ name) ++ 47 ∷ []) ++ other) ++ form.line (Visit s)) is
    ∙ append_assoc ((before ++ name) ++ 47 ∷ []) other text
    ∙ append_assoc (before ++ name) (47 ∷ []) (other ++ text)
    ∙ append_assoc before name (47 ∷ [] ++ (other ++ text))

-- what is told of one more of a list, behind its head
pub lines-next : (f : ℕ → List ℕ) (numbers : List ℕ) (place : ℕ) (before head into new : List ℕ) → place < length numbers
    → into ≡ before ++ (head ++ flat_map f (take place numbers)) → new ≡ into ++ f (get_or numbers place 0)
    → new ≡ before ++ (head ++ flat_map f (take (place + 1) numbers))
lines-next f numbers place before head into new within are more =
    let so_far = flat_map f (take place numbers) in
    let line = f (get_or numbers place 0) in
    let lines : so_far ++ line ≡ flat_map f (take (place + 1) numbers) =
    ap (λ (xs : List ℕ). so_far ++ xs) (sym (append-nil line)) ∙ sym (flat_map-append f (take place numbers) (get_or numbers place 0 ∷ []))
    ∙ ap (λ (numbers : List ℕ). flat_map f numbers) (sym (take_more numbers place 0 within)) in
    more ∙ ap (λ (xs : List ℕ). xs ++ line) are ∙ append_assoc before (head ++ so_far) line
    ∙ ap (λ (xs : List ℕ). before ++ xs) (append_assoc head so_far line ∙ ap (λ (xs : List ℕ). head ++ xs) lines)

-- what is told of one more of the numbers from 0 on
pub numbered-next : (f : ℕ → List ℕ) (n : ℕ) (before into new : List ℕ) → into ≡ before ++ flat_map f (range_with_len 0 n) → new ≡ into ++ f n
    → new ≡ before ++ flat_map f (range_with_len 0 (n + 1))
numbered-next f n before into new are more =
    more ∙ ap (λ (lines : List ℕ). lines ++ f n) are
    ∙ append_assoc before (flat_map f (range_with_len 0 n)) (f n)
    ∙ ap (λ (lines : List ℕ). before ++ lines) (sym (flat_map-numbers-more f n))
