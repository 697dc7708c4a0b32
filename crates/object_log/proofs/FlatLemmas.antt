-- Flat lists, and where one event's part of them lies.
use Rattle.std.proofs.Common.{◌≡◌, ℕ, ◌+◌, List, [], ◌∷◌, ◌++◌, length, take, drop, refl, sym, ap, ◌∙◌, arith, append_assoc, length-append}
use Rattle.std.proofs.lemmas.List.{append-nil}
use Rattle.std.proofs.Math.Seq.{take-append_seam, drop-append_seam}
use Rattle.object_log.specs.Dones.{Done}
use Rattle.object_log.specs.Flat.{changes_of, ends_of}

abbrev undo_size : Done → ℕ
undo_size d = length d.undo

pub changes-append : (xs ys : List Done) → changes_of (xs ++ ys) ≡ changes_of xs ++ changes_of ys
unfolding changes_of
changes-append [] ys = refl
changes-append (x ∷ xs) ys = ap (λ cs. x.undo ++ cs) (changes-append xs ys) ∙ sym (append_assoc x.undo (changes_of xs) (changes_of ys))

pub changes-push : (xs : List Done) (d : Done) → changes_of (xs ++ d ∷ []) ≡ changes_of xs ++ d.undo
unfolding changes_of
changes-push xs d = changes-append xs (d ∷ []) ∙ ap (λ cs. changes_of xs ++ cs) (append-nil d.undo)

-- the last event's changes are what lies behind the others', and those are what is left
pub changes-last : (xs : List Done) (d : Done) → drop (length (changes_of xs)) (changes_of (xs ++ d ∷ [])) ≡ d.undo
changes-last xs d = ap (drop (length (changes_of xs))) (changes-push xs d) ∙ drop-append_seam (changes_of xs) d.undo

pub changes-front : (xs : List Done) (d : Done) → take (length (changes_of xs)) (changes_of (xs ++ d ∷ [])) ≡ changes_of xs
changes-front xs d = ap (take (length (changes_of xs))) (changes-push xs d) ∙ take-append_seam (changes_of xs) d.undo

-- the ends of one more
pub ends-push : (from : ℕ) (xs : List Done) (d : Done) → ends_of undo_size from (xs ++ d ∷ []) ≡ ends_of undo_size from xs ++ (from + length (changes_of (xs ++ d ∷ []))) ∷ []
unfolding ends_of changes_of
ends-push from [] d = let n : length (d.undo ++ []) ≡ undo_size d = ap length (append-nil d.undo) in ap (λ k. (from + k) ∷ []) (sym n)
ends-push from (x ∷ xs) d =
    let more = ends-push (from + undo_size x) xs d in
    let long = length-append x.undo (changes_of (xs ++ d ∷ [])) in
    let same : from + undo_size x + length (changes_of (xs ++ d ∷ [])) ≡ from + length (x.undo ++ changes_of (xs ++ d ∷ [])) = omega arith in
    ap (λ zs. (from + undo_size x) ∷ zs) (more ∙ ap (λ k. ends_of undo_size (from + undo_size x) xs ++ k ∷ []) same)
