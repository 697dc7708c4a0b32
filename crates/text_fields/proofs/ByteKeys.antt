-- A map whose keys are lists of bytes: what a change at some bytes leaves at any others.
use Rattle.std.proofs.Common.{◌≡◌, ℕ, Bool, true, false, cond, List, Option, sym, subst, ◌∙◌}
use Rattle.std.proofs.lemmas.Bool.{cases_Bool, cond-true, cond-false}
use Rattle.std.specs.Cmp.Lexicographic.{bytes_decides, nat_list_eq_equiv}
use Rattle.std.specs.HashMap.{HashMap, get_by, UpdatesBy}
use Rattle.std.specs.Map.{lookup, IsKeyTest, AreApart, KeepsOthers}
use Rattle.std.specs.Str.{bytes_eq}
use mathlib.Core.Logic.{⊎_elim}

apart : (bs cs ks : List ℕ) → bytes_eq bs cs ≡ false → bytes_eq bs ks ≡ true → bytes_eq cs ks ≡ false
apart bs cs ks differ same = nat_list_eq_equiv.symm cs ks ∙ sym (nat_list_eq_equiv.congr bs ks cs same) ∙ differ

others_stay : {K X : Type 0} (eq : K → K → Bool) (test : K → Bool) (old new : List (K × X)) → KeepsOthers eq test old new
    → (other : K → Bool) → IsKeyTest eq other → AreApart test other → lookup other new ≡ lookup other old
unfolding KeepsOthers
others_stay eq test old new keeps = keeps

pub bytes-updated : {K X S : Type 0} (bytes : K → List ℕ) (bs : List ℕ) (old new : HashMap K X S) (value : Option X)
    → UpdatesBy (λ x y. bytes_eq (bytes x) (bytes y)) (λ key. bytes_eq bs (bytes key)) old new value
    → (cs : List ℕ) → get_by (λ key. bytes_eq cs (bytes key)) new ≡ cond (bytes_eq bs cs) value (get_by (λ key. bytes_eq cs (bytes key)) old)
bytes-updated bytes bs old new value updates cs =
    ⊎_elim
    (λ same. subst (λ l. get_by (λ key. bytes_eq l (bytes key)) new ≡ value) ((bytes_decides bs cs).0 same) updates.1 ∙ sym (cond-true (bytes_eq bs cs) value _ same))
    (λ differ.
    others_stay _ _ _ _ updates.3 _ (λ x y. nat_list_eq_equiv.congr cs (bytes x) (bytes y)) (λ key. apart bs cs (bytes key) differ)
    ∙ sym (cond-false (bytes_eq bs cs) value _ differ))
    (cases_Bool (bytes_eq bs cs))
