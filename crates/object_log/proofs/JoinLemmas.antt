-- A processed event joins the news.
use Rattle.std.proofs.Common.{◌≡◌, ◌≢◌, ℕ, Bool, true, false, cond, List, [], ◌∷◌, ◌++◌, refl, sym, ap, ◌∙◌, subst}
use Rattle.std.specs.List.{AllByRecursion as Each}
use Rattle.event_key.specs.declared.key.Key.{Key}
use Rattle.event_key.specs.Keys.{key_lt}
use Rattle.key_order.specs.Ascending.{Ascends}
use Rattle.key_order.specs.Keys.{times}
use Rattle.key_order.proofs.KeyLemmas.{key_lt-differs, new-cons}
use Rattle.object_log.specs.Dones.{Done}
use Rattle.object_log.specs.EventLogs.{done_key, dones_at, is_of}
use Rattle.object_log.specs.Weave.{insert, weave}
use Rattle.object_log.proofs.OwnLemmas.{is_here, is_there}
use Rattle.object_log.proofs.WeaveLemmas.{insert-ascends, insert-filter, insert-last, weave-push}

-- an event that comes after all of its object stands last in its log, and the others' logs stay
pub insert-own : (object : ℕ) (d : Done) (ds : List Done) → d.event.key.dest ≡ object → Ascends done_key ds → Each (λ (x : Done). key_lt x.event.key d.event.key ≡ true) (dones_at object ds)
    → dones_at object (insert done_key d ds) ≡ dones_at object ds ++ d ∷ []
insert-own object d ds here up above =
    insert-filter done_key (is_of object) d ds up
    ∙ ap (λ b. cond b (insert done_key d (dones_at object ds)) (dones_at object ds)) (is_here d object here)
    ∙ insert-last done_key d (dones_at object ds) above

pub insert-other : (object : ℕ) (d : Done) (ds : List Done) → d.event.key.dest ≢ object → Ascends done_key ds → dones_at object (insert done_key d ds) ≡ dones_at object ds
insert-other object d ds there up =
    insert-filter done_key (is_of object) d ds up
    ∙ ap (λ b. cond b (insert done_key d (dones_at object ds)) (dones_at object ds)) (is_there d object there)

-- a key above all of its object is new among all
pub new-key : (d : Done) (ds : List Done) → Each (λ (x : Done). key_lt x.event.key d.event.key ≡ true) (dones_at d.event.key.dest ds) → times done_key d.event.key ds ≡ 0
new-key d [] above = refl
new-key d (x ∷ xs) above = by_test (is_of d.event.key.dest x) refl above (λ all. new-key d xs all)
  where
    by_test : (b : Bool) → is_of d.event.key.dest x ≡ b → Each (λ (x : Done). key_lt x.event.key d.event.key ≡ true) (cond b (x ∷ dones_at d.event.key.dest xs) (dones_at d.event.key.dest xs))
        → (Each (λ (x : Done). key_lt x.event.key d.event.key ≡ true) (dones_at d.event.key.dest xs) → times done_key d.event.key xs ≡ 0) → times done_key d.event.key (x ∷ xs) ≡ 0
    by_test true h all more = new-cons done_key d.event.key x xs (λ same. key_lt-differs x.event.key d.event.key all.0 (sym same)) (more all.1)
    by_test false h all more =
        new-cons done_key d.event.key x xs (λ same. let yes = is_here x d.event.key.dest (ap (λ (k : Key). k.dest) (sym same)) in absurd (cc)) (more all)

-- the list with it, which its object's log ends with, and the others' logs as they were
pub record IsJoined (d : Done) (carried news done : List Done) : Type 0 where
  pub whole : weave done_key carried (news ++ d ∷ []) ≡ insert done_key d done
  pub ordered : Ascends done_key (insert done_key d done)
  pub own : dones_at d.event.key.dest (insert done_key d done) ≡ dones_at d.event.key.dest done ++ d ∷ []
  pub others : (other : ℕ) → other ≢ d.event.key.dest → dones_at other (insert done_key d done) ≡ dones_at other done

pub joins : (d : Done) (carried news done : List Done) → done ≡ weave done_key carried news → Ascends done_key done → Ascends done_key (news ++ d ∷ [])
    → Each (λ (x : Done). key_lt x.event.key d.event.key ≡ true) (dones_at d.event.key.dest done) → IsJoined d carried news done
joins d carried news done is up low above =
    let new = new-key d done above in
    let U : List Done → Type 0 = Ascends done_key in
    let T : List Done → Type 0 = λ ds. times done_key d.event.key ds ≡ 0 in
    record {
      whole = weave-push done_key carried news d (subst U is up) (subst T is new) low ∙ ap (insert done_key d) (sym is);
      ordered = insert-ascends done_key d done new up;
      own = insert-own d.event.key.dest d done refl up above;
      others = λ other apart. insert-other other d done (λ same. apart (sym same)) up;
    }
