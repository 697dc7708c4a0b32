-- A list filtered by object is that object's log.
use Rattle.std.proofs.Common.{◌≡◌, ◌≢◌, ℕ, Bool, true, false, not, ◌&&◌, cond, List, [], ◌∷◌, ◌++◌, refl, sym, ap, ◌∙◌, eq-eqb}
use Rattle.std.proofs.lemmas.List.Elements.{filter-append}
use Rattle.std.proofs.lemmas.List.{append-nil}
use Rattle.std.proofs.lemmas.Bool.{eqb-true, false_from_ne_true}
use Rattle.std.specs.List.{AllByRecursion as Each}
use Rattle.std.specs.Prelude.{filter, ◌==◌}
use Rattle.event_key.specs.declared.key.Key.{Key}
use Rattle.event_key.specs.Keys.{key_lt}
use Rattle.key_order.specs.Ascending.{Ascends}
use Rattle.key_order.proofs.AscendingLemmas.{Ascends-filter}
use Rattle.key_order.proofs.FilterLemmas.{filter-swap, filter-map}
use Rattle.object_log.specs.Dones.{Done}
use Rattle.object_log.specs.Logs.{keys_of}
use Rattle.object_log.specs.Parts.{before_key, due_of, left_of}
use Rattle.object_log.specs.EventLogs.{done_key, dones_at, is_of, rolled_back}

-- the keys of an object's log are the keys at the object
pub keys-at : (object : ℕ) (ds : List Done) → keys_of (dones_at object ds) ≡ filter (λ (k : Key). k.dest == object) (keys_of ds)
keys-at object ds = sym (filter-map done_key (λ (k : Key). k.dest == object) ds)

-- an object's log is in order where all is
pub own-ascends : (object : ℕ) (ds : List Done) → Ascends done_key ds → Ascends done_key (dones_at object ds)
own-ascends object ds up = Ascends-filter done_key (is_of object) ds up

-- commits go object by object
pub due-at : (object horizon : ℕ) (cut : _) (ds : List Done) → dones_at object (due_of horizon cut ds) ≡ due_of horizon cut (dones_at object ds)
due-at object horizon cut ds = filter-swap (is_of object) _ ds

pub left-at : (object horizon : ℕ) (cut : _) (ds : List Done) → dones_at object (left_of horizon cut ds) ≡ left_of horizon cut (dones_at object ds)
left-at object horizon cut ds = filter-swap (is_of object) _ ds

-- undoing from a horizon goes object by object
pub low-at : (object : ℕ) (p : Done → Bool) (ds : List Done) → dones_at object (filter p ds) ≡ filter p (dones_at object ds)
low-at object p ds = filter-swap (is_of object) p ds

pub is_here : (d : Done) (object : ℕ) → d.event.key.dest ≡ object → is_of object d ≡ true
is_here d object here = eq-eqb d.event.key.dest object here

pub is_there : (d : Done) (object : ℕ) → d.event.key.dest ≢ object → is_of object d ≡ false
is_there d object there = false_from_ne_true (is_of object d) (λ yes. there (eqb-true d.event.key.dest object yes))

-- the newest event of an object stands last in its log, wherever it stands in the list
pub middle-own : (object : ℕ) (xs ys : List Done) (d : Done) → d.event.key.dest ≡ object → dones_at object ys ≡ [] → dones_at object (xs ++ d ∷ ys) ≡ dones_at object (xs ++ ys) ++ d ∷ []
middle-own object xs ys d here newest =
    filter-append (is_of object) xs (d ∷ ys)
    ∙ ap (λ b. dones_at object xs ++ cond b (d ∷ dones_at object ys) (dones_at object ys)) (is_here d object here)
    ∙ ap (λ zs. dones_at object xs ++ d ∷ zs) newest
    ∙ ap (λ zs. zs ++ d ∷ []) (sym (append-nil (dones_at object xs)) ∙ ap (λ zs. dones_at object xs ++ zs) (sym newest) ∙ sym (filter-append (is_of object) xs ys))

-- and the logs of the others are the same without it
pub middle-other : (object : ℕ) (xs ys : List Done) (d : Done) → d.event.key.dest ≢ object → dones_at object (xs ++ d ∷ ys) ≡ dones_at object (xs ++ ys)
middle-other object xs ys d there =
    filter-append (is_of object) xs (d ∷ ys)
    ∙ ap (λ b. dones_at object xs ++ cond b (d ∷ dones_at object ys) (dones_at object ys)) (is_there d object there)
    ∙ sym (filter-append (is_of object) xs ys)

-- the oldest event of an object stands first in its log
pub first-own : (object : ℕ) (xs ys : List Done) (d : Done) → d.event.key.dest ≡ object → dones_at object xs ≡ [] → dones_at object (xs ++ d ∷ ys) ≡ d ∷ dones_at object (xs ++ ys)
first-own object xs ys d here oldest =
    filter-append (is_of object) xs (d ∷ ys)
    ∙ ap (λ b. dones_at object xs ++ cond b (d ∷ dones_at object ys) (dones_at object ys)) (is_here d object here)
    ∙ ap (λ zs. zs ++ d ∷ dones_at object ys) oldest
    ∙ ap (λ zs. d ∷ zs) (sym (ap (λ zs. zs ++ dones_at object ys) oldest) ∙ sym (filter-append (is_of object) xs ys))

-- a rollback to a key leaves of its object what comes before the key
pub rolled-own : (object : ℕ) (key : Key) (ds : List Done) → dones_at object (rolled_back object key ds) ≡ before_key key (dones_at object ds)
rolled-own object key [] = refl
rolled-own object key (d ∷ ds) = by_tests (is_of object d) (key_lt d.event.key key) refl refl (rolled-own object key ds)
  where
    by_tests : (a b : Bool) → is_of object d ≡ a → key_lt d.event.key key ≡ b → dones_at object (rolled_back object key ds) ≡ before_key key (dones_at object ds)
        → dones_at object (cond (not (a && not b)) (d ∷ rolled_back object key ds) (rolled_back object key ds)) ≡ before_key key (cond a (d ∷ dones_at object ds) (dones_at object ds))
    by_tests true true h k more =
        ap (λ c. cond c (d ∷ dones_at object (rolled_back object key ds)) (dones_at object (rolled_back object key ds))) h
        ∙ ap (λ zs. d ∷ zs) more
        ∙ sym (ap (λ c. cond c (d ∷ before_key key (dones_at object ds)) (before_key key (dones_at object ds))) k)
    by_tests true false h k more = more ∙ sym (ap (λ c. cond c (d ∷ before_key key (dones_at object ds)) (before_key key (dones_at object ds))) k)
    by_tests false true h k more = ap (λ c. cond c (d ∷ dones_at object (rolled_back object key ds)) (dones_at object (rolled_back object key ds))) h ∙ more
    by_tests false false h k more = ap (λ c. cond c (d ∷ dones_at object (rolled_back object key ds)) (dones_at object (rolled_back object key ds))) h ∙ more

-- and all of the others
pub rolled-other : (object other : ℕ) (key : Key) (ds : List Done) → other ≢ object → dones_at other (rolled_back object key ds) ≡ dones_at other ds
rolled-other object other key [] apart = refl
rolled-other object other key (d ∷ ds) apart = by_test (is_of object d) refl (rolled-other object other key ds apart)
  where
    by_test : (a : Bool) → is_of object d ≡ a → dones_at other (rolled_back object key ds) ≡ dones_at other ds
        → dones_at other (cond (not (a && not (key_lt d.event.key key))) (d ∷ rolled_back object key ds) (rolled_back object key ds)) ≡ cond (is_of other d) (d ∷ dones_at other ds) (dones_at other ds)
    by_test false h more = ap (λ zs. cond (is_of other d) (d ∷ zs) zs) more
    by_test true h more =
        let there : is_of other d ≡ false = is_there d other (λ here. apart (sym here ∙ eqb-true d.event.key.dest object h)) in
        unwoven (key_lt d.event.key key) there more
      where
        unwoven : (b : Bool) → is_of other d ≡ false → dones_at other (rolled_back object key ds) ≡ dones_at other ds
            → dones_at other (cond (not (not b)) (d ∷ rolled_back object key ds) (rolled_back object key ds)) ≡ cond (is_of other d) (d ∷ dones_at other ds) (dones_at other ds)
        unwoven true there more =
            ap (λ c. cond c (d ∷ dones_at other (rolled_back object key ds)) (dones_at other (rolled_back object key ds))) there
            ∙ more
            ∙ sym (ap (λ c. cond c (d ∷ dones_at other ds) (dones_at other ds)) there)
        unwoven false there more = more ∙ sym (ap (λ c. cond c (d ∷ dones_at other ds) (dones_at other ds)) there)

-- where all events are of one object, its log is the list
pub only-own : (object : ℕ) (ds : List Done) → Each (λ (d : Done). d.event.key.dest ≡ object) ds → dones_at object ds ≡ ds
only-own object [] all = refl
only-own object (d ∷ ds) all = ap (λ b. cond b (d ∷ dones_at object ds) (dones_at object ds)) (is_here d object all.0) ∙ ap (λ zs. d ∷ zs) (only-own object ds all.1)
