-- Room for what a list of changes puts in at each line.
use Rattle.std.proofs.Common.{◌≡◌, ℕ, zero, suc, ◌+◌, ◌-◌, ◌<◌, ◌≤◌, Bool, true, false, cond, ◌==◌, List, [], ◌∷◌, take, length, get_or, refl, sym, ◌∙◌, arith}
use Rattle.std.proofs.Math.ListN.{set}
use Rattle.std.proofs.lemmas.List.{length-set, take_more}
use Rattle.std.proofs.lemmas.List.Sums.{sum_by-cons, sum_by_push}
use Rattle.std.proofs.lemmas.Bool.Decides.{nat_tests}
use Rattle.std.proofs.lemmas.Grind.{common_steps}
use Rattle.delta_exchange.specs.Changes.{CellData, Fits, cells_after, AllFit}
use Rattle.delta_exchange.specs.Spares.{FindsRoom, AllFindRoom, spare_after, spare_after_all, puts_in_at, room_for, HaveRoom, NamesLine, NoneFell}
use Rattle.delta_exchange.specs.Undoing.{RoomIsEnough, MoreSpareIsEnough, MoreSpareStays, FittingNamesLines}
use Rattle.delta_exchange.proofs.Lists.{length_lines_after}
use Rattle.delta_exchange.specs.declared.change.Change.{Change}
use Rattle.delta_exchange.specs.declared.change.Change.TheVariants.{Set, Push, Pop, Unpush, Unpop, Flip}

-- what is left to put in, where one place is taken at a line
falls : (rest : List Change) (spare : List ℕ) (at : ℕ) → ((line : ℕ) → cond (at == line) 1 0 + room_for rest line ≤ get_or spare line 0) → HaveRoom rest (set spare at (get_or spare at 0 - 1))
falls rest spare at h = λ line. grind (arith, nat_tests, common_steps, h line)

rises : (rest : List Change) (spare : List ℕ) (at : ℕ) → ((line : ℕ) → 0 + room_for rest line ≤ get_or spare line 0) → HaveRoom rest (set spare at (get_or spare at 0 + 1))
rises rest spare at h = λ line. grind (arith, nat_tests, common_steps, h line)

here : (rest : List Change) (spare : List ℕ) (at : ℕ) → ((line : ℕ) → cond (at == line) 1 0 + room_for rest line ≤ get_or spare line 0) → 0 < get_or spare at 0
here rest spare at h = grind (arith, nat_tests, h at)

-- one change more at the front
counted : (change : Change) (rest : List Change) (line : ℕ) → room_for (change ∷ rest) line ≡ cond (puts_in_at change line) 1 0 + room_for rest line
counted change rest line = sum_by-cons (λ x. cond (puts_in_at x line) 1 0) change rest

-- room for a change and the rest is room for the change, and after it for the rest
pub first_room : (change : Change) (rest : List Change) (spare : List ℕ) → HaveRoom (change ∷ rest) spare → FindsRoom change spare × HaveRoom rest (spare_after change spare)
first_room change rest spare h = by_change change (λ line. rw counted at (h line))
  where
    by_change : (change : Change) → ((line : ℕ) → cond (puts_in_at change line) 1 0 + room_for rest line ≤ get_or spare line 0) → FindsRoom change spare × HaveRoom rest (spare_after change spare)
    by_change (Set word value) h = (tt, λ line. omega (arith, h line))
    by_change (Push line value) h = (here rest spare line h, falls rest spare line h)
    by_change (Pop line) h = (tt, rises rest spare line h)
    by_change (Unpush line) h = (tt, rises rest spare line h)
    by_change (Unpop line value) h = (here rest spare line h, falls rest spare line h)
    by_change (Flip line place) h = (tt, λ line. omega (arith, h line))

pub room_is_enough : RoomIsEnough
unfolding AllFindRoom
room_is_enough [] spare h = tt
room_is_enough (change ∷ rest) spare h =
    let both = first_room change rest spare h in
    (both.0, room_is_enough rest (spare_after change spare) both.1)

pub none_fell_twice : (before between after : List ℕ) → NoneFell before between → NoneFell between after → NoneFell before after
none_fell_twice before between after one other = record {
  as_many = other.as_many ∙ one.as_many;
  no_less = λ line. omega (arith, one.no_less line, other.no_less line);
}

set_both : (before after : List ℕ) (at x y : ℕ) → NoneFell before after → x ≤ y → NoneFell (set before at x) (set after at y)
set_both before after at x y more le = record {
  as_many = length-set after at y ∙ more.as_many ∙ sym (length-set before at x);
  no_less = λ line. grind (arith, nat_tests, common_steps, more.no_less line, more.as_many);
}

finds_more : (change : Change) (before after : List ℕ) → NoneFell before after → FindsRoom change before → FindsRoom change after
finds_more (Set word value) before after more finds = tt
finds_more (Push line value) before after more finds = omega (arith, more.no_less line)
finds_more (Pop line) before after more finds = tt
finds_more (Unpush line) before after more finds = tt
finds_more (Unpop line value) before after more finds = omega (arith, more.no_less line)
finds_more (Flip line place) before after more finds = tt

still_more : (change : Change) (before after : List ℕ) → NoneFell before after → NoneFell (spare_after change before) (spare_after change after)
still_more (Set word value) before after more = more
still_more (Push line value) before after more = set_both before after line _ _ more (omega (arith, more.no_less line))
still_more (Pop line) before after more = set_both before after line _ _ more (omega (arith, more.no_less line))
still_more (Unpush line) before after more = set_both before after line _ _ more (omega (arith, more.no_less line))
still_more (Unpop line value) before after more = set_both before after line _ _ more (omega (arith, more.no_less line))
still_more (Flip line place) before after more = more

pub more_spare_is_enough : MoreSpareIsEnough
unfolding AllFindRoom
more_spare_is_enough [] before after more finds = tt
more_spare_is_enough (change ∷ rest) before after more finds =
    (finds_more change before after more finds.0, more_spare_is_enough rest _ _ (still_more change before after more) finds.1)

pub more_spare_stays : MoreSpareStays
unfolding spare_after_all
more_spare_stays [] before after more = more
more_spare_stays (change ∷ rest) before after more = more_spare_stays rest _ _ (still_more change before after more)

fit_names : (change : Change) (cells : CellData) → Fits change cells → NamesLine change cells
fit_names (Set word value) cells fits = tt
fit_names (Push line value) cells fits = fits
fit_names (Pop line) cells fits = fits.0
fit_names (Unpush line) cells fits = fits.0
fit_names (Unpop line value) cells fits = fits
fit_names (Flip line place) cells fits = fits.0

-- a line that is named stays there
names_as_many : (change : Change) (one other : CellData) → length one.lines ≡ length other.lines → NamesLine change one → NamesLine change other
names_as_many (Set word value) one other same names = tt
names_as_many (Push line value) one other same names = omega (arith, names)
names_as_many (Pop line) one other same names = omega (arith, names)
names_as_many (Unpush line) one other same names = omega (arith, names)
names_as_many (Unpop line value) one other same names = omega (arith, names)
names_as_many (Flip line place) one other same names = omega (arith, names)

fitting_at : (changes : List Change) (cells : CellData) → AllFit changes cells → (at : ℕ) (d : Change) → at < length changes → NamesLine (get_or changes at d) cells
unfolding AllFit
fitting_at [] cells fit at d lt = absurd (omega arith)
fitting_at (change ∷ rest) cells fit zero d lt = fit_names change cells fit.0
fitting_at (change ∷ rest) cells fit (suc at) d lt =
    names_as_many (get_or rest at d) (cells_after change cells) cells (length_lines_after change cells) (fitting_at rest (cells_after change cells) fit.1 at d (omega arith))

pub fitting_names_lines : FittingNamesLines
fitting_names_lines = fitting_at

-- one change more at the end
pub room_for_more : (changes : List Change) (at : ℕ) (d : Change) (line : ℕ) → at < length changes → room_for (take (at + 1) changes) line ≡ room_for (take at changes) line + cond (puts_in_at (get_or changes at d) line) 1 0
room_for_more changes at d line lt = rw (take_more changes at d lt) (sum_by_push (λ change. cond (puts_in_at change line) 1 0) (take at changes) (get_or changes at d))

-- room that was made before, or is made now
pub either : (before needed spare after : ℕ) (now : Bool) → 0 < before + cond now 1 0 → (0 < before → needed ≤ spare) → spare ≤ after → (now ≡ true → needed ≤ after) → needed ≤ after
either before needed spare after true some so_far grew here = here refl
either before needed spare after false some so_far grew here =
    let le : needed ≤ spare = so_far (omega arith) in
    omega arith
