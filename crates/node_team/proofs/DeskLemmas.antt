-- Nodes that release, each beside what it releases by.
use Rattle.std.proofs.Common.{◌≡◌, ℕ, zero, suc, ◌≤◌, List, [], ◌∷◌, ◌++◌, length, map, refl, sym, ap, ◌∙◌, subst, arith, slice_set}
use Rattle.std.proofs.lemmas.List.{length-append, length-map}
use Rattle.std.proofs.lemmas.Option.{slice_get_past, slice_get_within}
use Rattle.std.proofs.lemmas.Slice.Zip.{AllZip-long}
use Rattle.std.specs.Prelude.{slice_get, Some}
use Rattle.std.specs.List.{AllByRecursion, AllZip}
use Rattle.model_core.specs.Meaning.{Meaning}
use Rattle.key_order.proofs.EachLemmas.{Each-front, Each-back}
use Rattle.steal_pool.proofs.HalfLemmas.{zip-whole}
use Rattle.release_lanes.specs.declared.lanes.NodeEnd.{Ghosts as NodeEnd}
use Rattle.parcel_exchange.specs.declared.inbox.Inbox.{Inbox}
use Rattle.node_core.specs.declared.committed.Committed.{Committed}
use Rattle.node_core.specs.Blank.{IsBlank}
use Rattle.node_core.specs.Calls.{HasCommitted}
use Rattle.node_core.specs.Nodes.{NodeView}
use Rattle.cycle_core.proofs.PlaceLemmas.{IsUpto, at-some, each-of, same-some, upto-all}
use Rattle.node_team.specs.declared.releasing.Due.{Due}
use Rattle.node_team.specs.Desks.{Desk, Desks, desk_of, desks_of, zip_desks, desks_in, AreAsMany, CanRelease, HasReleased, CanServe, HaveServed, CanAllRelease, HaveReleased}
use Rattle.node_team.specs.Releases.{HasPosted}
use Rattle.node_team.proofs.ForkLemmas.{pairs-zip}
use Rattle.node_team.proofs.ReleaseLemmas.{at-mapped, free-many, free-number, free-slots, free-wide}

module _ {A B : Type 0} (f : A → B) where
  -- a value is what it is of the one at its place
  at-place : (ds : List A) (all : List B) → map f ds ≡ all → (k : ℕ) (d : A) (x : B) → slice_get ds k ≡ Some d → slice_get all k ≡ Some x → f d ≡ x
  at-place ds all are k d x at_d at_x = same-some (f d) x (sym (at-mapped f ds k d at_d) ∙ ap (λ l. slice_get l k) are ∙ at_x)

  at-all : (ds : List A) (all : List B) → map f ds ≡ all → (k : ℕ) (d : A) → slice_get ds k ≡ Some d → slice_get all k ≡ Some (f d)
  at-all ds all are k d at = ap (λ l. slice_get l k) (sym are) ∙ at-mapped f ds k d at

-- what is said of each value is said of the one at a place
pub each-at : {A : Type 0} (P : A → Type 0) (xs : List A) → AllByRecursion P xs → (k : ℕ) (x : A) → slice_get xs k ≡ Some x → P x
each-at P [] all k x at = absurd (cc)
each-at P (y ∷ ys) all zero x at = subst P (same-some y x at) all.0
each-at P (y ∷ ys) all (suc k) x at = each-at P ys all.1 k x at

module _ {M E : Type 0} where
  abbrev node_at : Desk M E → NodeView M
  node_at desk = desk.node

  abbrev end_at : Desk M E → E
  end_at desk = desk.end

  abbrev commit_at : Desk M E → Committed
  commit_at desk = desk.commit

  abbrev inbox_at : Desk M E → Inbox
  inbox_at desk = desk.inbox

  -- at these desks are these parts, each at its place
  record HaveParts (all : Desks M E) (desks : List (Desk M E)) : Type 0 where
    nodes : map node_at desks ≡ all.nodes
    ends : map end_at desks ≡ all.ends
    committed : map commit_at desks ≡ all.committed
    inboxes : map inbox_at desks ≡ all.inboxes

  zipped : (ns : List (NodeView M)) (es : List E) (cs : List Committed) (is : List Inbox) → length es ≡ length ns → length cs ≡ length ns → length is ≡ length ns
      → HaveParts (desks_of ns es cs is) (zip_desks ns es cs is)
  unfolding zip_desks
  zipped [] [] [] [] a b c = record { nodes = refl; ends = refl; committed = refl; inboxes = refl }
  zipped [] [] [] (i ∷ is) a b c = absurd (omega arith)
  zipped [] [] (x ∷ xs) is a b c = absurd (omega arith)
  zipped [] (e ∷ es) cs is a b c = absurd (omega arith)
  zipped (n ∷ ns) [] cs is a b c = absurd (omega arith)
  zipped (n ∷ ns) (e ∷ es) [] is a b c = absurd (omega arith)
  zipped (n ∷ ns) (e ∷ es) (x ∷ xs) [] a b c = absurd (omega arith)
  zipped (n ∷ ns) (e ∷ es) (x ∷ xs) (i ∷ is) a b c =
      let more = zipped ns es xs is (omega arith) (omega arith) (omega arith) in
      record { nodes = ap (λ l. n ∷ l) more.nodes; ends = ap (λ l. e ∷ l) more.ends; committed = ap (λ l. x ∷ l) more.committed; inboxes = ap (λ l. i ∷ l) more.inboxes }

  have-parts : (all : Desks M E) → AreAsMany all → HaveParts all (desks_in all)
  have-parts all many =
      let parts = zipped all.nodes all.ends all.committed all.inboxes many.ends many.committed many.inboxes in
      record { nodes = parts.nodes; ends = parts.ends; committed = parts.committed; inboxes = parts.inboxes }

  pub desks-many : (all : Desks M E) → AreAsMany all → length (desks_in all) ≡ length all.nodes
  desks-many all many = sym (length-map (desks_in all) node_at) ∙ ap length (have-parts all many).nodes

  zip-append : (n₁ n₂ : List (NodeView M)) (e₁ e₂ : List E) (c₁ c₂ : List Committed) (i₁ i₂ : List Inbox) → length e₁ ≡ length n₁ → length c₁ ≡ length n₁ → length i₁ ≡ length n₁
      → zip_desks (n₁ ++ n₂) (e₁ ++ e₂) (c₁ ++ c₂) (i₁ ++ i₂) ≡ zip_desks n₁ e₁ c₁ i₁ ++ zip_desks n₂ e₂ c₂ i₂
  unfolding zip_desks
  zip-append [] n₂ [] e₂ [] c₂ [] i₂ a b c = refl
  zip-append [] n₂ [] e₂ [] c₂ (i ∷ is) i₂ a b c = absurd (omega arith)
  zip-append [] n₂ [] e₂ (x ∷ xs) c₂ is i₂ a b c = absurd (omega arith)
  zip-append [] n₂ (e ∷ es) e₂ cs c₂ is i₂ a b c = absurd (omega arith)
  zip-append (n ∷ ns) n₂ [] e₂ cs c₂ is i₂ a b c = absurd (omega arith)
  zip-append (n ∷ ns) n₂ (e ∷ es) e₂ [] c₂ is i₂ a b c = absurd (omega arith)
  zip-append (n ∷ ns) n₂ (e ∷ es) e₂ (x ∷ xs) c₂ [] i₂ a b c = absurd (omega arith)
  zip-append (n ∷ ns) n₂ (e ∷ es) e₂ (x ∷ xs) c₂ (i ∷ is) i₂ a b c = ap (λ l. desk_of n e x i ∷ l) (zip-append ns n₂ es e₂ xs c₂ is i₂ (omega arith) (omega arith) (omega arith))

  pub zip-set : (ns : List (NodeView M)) (es : List E) (cs : List Committed) (is : List Inbox) → length es ≡ length ns → length cs ≡ length ns → length is ≡ length ns
      → (k : ℕ) (n : NodeView M) (e : E) (c : Committed) (i : Inbox)
      → zip_desks (slice_set ns k n) (slice_set es k e) (slice_set cs k c) (slice_set is k i) ≡ slice_set (zip_desks ns es cs is) k (desk_of n e c i)
  unfolding zip_desks
  zip-set [] [] [] [] a b d k n e c i = refl
  zip-set [] [] [] (y ∷ ys) a b d k n e c i = absurd (omega arith)
  zip-set [] [] (x ∷ xs) is a b d k n e c i = absurd (omega arith)
  zip-set [] (y ∷ ys) cs is a b d k n e c i = absurd (omega arith)
  zip-set (m ∷ ms) [] cs is a b d k n e c i = absurd (omega arith)
  zip-set (m ∷ ms) (f ∷ fs) [] is a b d k n e c i = absurd (omega arith)
  zip-set (m ∷ ms) (f ∷ fs) (x ∷ xs) [] a b d k n e c i = absurd (omega arith)
  zip-set (m ∷ ms) (f ∷ fs) (x ∷ xs) (y ∷ ys) a b d zero n e c i = refl
  zip-set (m ∷ ms) (f ∷ fs) (x ∷ xs) (y ∷ ys) a b d (suc k) n e c i = ap (λ l. desk_of m f x y ∷ l) (zip-set ms fs xs ys (omega arith) (omega arith) (omega arith) k n e c i)

  pub zip-at : (ns : List (NodeView M)) (es : List E) (cs : List Committed) (is : List Inbox) (k : ℕ) (n : NodeView M) (e : E) (c : Committed) (i : Inbox)
      → slice_get ns k ≡ Some n → slice_get es k ≡ Some e → slice_get cs k ≡ Some c → slice_get is k ≡ Some i → slice_get (zip_desks ns es cs is) k ≡ Some (desk_of n e c i)
  unfolding zip_desks
  zip-at [] es cs is k n e c i at_n at_e at_c at_i = absurd (cc)
  zip-at (m ∷ ms) [] cs is k n e c i at_n at_e at_c at_i = absurd (cc)
  zip-at (m ∷ ms) (f ∷ fs) [] is k n e c i at_n at_e at_c at_i = absurd (cc)
  zip-at (m ∷ ms) (f ∷ fs) (x ∷ xs) [] k n e c i at_n at_e at_c at_i = absurd (cc)
  zip-at (m ∷ ms) (f ∷ fs) (x ∷ xs) (y ∷ ys) zero n e c i at_n at_e at_c at_i = rw (same-some m n at_n, same-some f e at_e, same-some x c at_c, same-some y i at_i) refl
  zip-at (m ∷ ms) (f ∷ fs) (x ∷ xs) (y ∷ ys) (suc k) n e c i at_n at_e at_c at_i = zip-at ms fs xs ys k n e c i at_n at_e at_c at_i

  -- each list is two, one behind the other, of which the first are as long as each other
  pub record AreHalves (all front back : Desks M E) : Type 0 where
    pub nodes : all.nodes ≡ front.nodes ++ back.nodes
    pub ends : all.ends ≡ front.ends ++ back.ends
    pub committed : all.committed ≡ front.committed ++ back.committed
    pub inboxes : all.inboxes ≡ front.inboxes ++ back.inboxes
    pub many : AreAsMany front

  halves-zip : (all front back : Desks M E) → AreHalves all front back → desks_in all ≡ desks_in front ++ desks_in back
  halves-zip all front back halves =
      let lists : desks_in all ≡ zip_desks (front.nodes ++ back.nodes) (front.ends ++ back.ends) (front.committed ++ back.committed) (front.inboxes ++ back.inboxes) =
      λ k. zip_desks (halves.nodes k) (halves.ends k) (halves.committed k) (halves.inboxes k) in
      lists ∙ zip-append front.nodes back.nodes front.ends back.ends front.committed back.committed front.inboxes back.inboxes halves.many.ends halves.many.committed halves.many.inboxes

  whole-many : (g d : Desks M E) → AreAsMany g → AreAsMany d → AreAsMany (desks_of (g.nodes ++ d.nodes) (g.ends ++ d.ends) (g.committed ++ d.committed) (g.inboxes ++ d.inboxes))
  whole-many g d first second =
      let nodes = length-append g.nodes d.nodes in
      record {
        ends = (let a = first.ends in let b = second.ends in let long = length-append g.ends d.ends in omega arith);
        committed = (let a = first.committed in let b = second.committed in let long = length-append g.committed d.committed in omega arith);
        inboxes = (let a = first.inboxes in let b = second.inboxes in let long = length-append g.inboxes d.inboxes in omega arith);
      }

  back-many : (all front back : Desks M E) → AreHalves all front back → AreAsMany all → AreAsMany back
  back-many all front back halves many =
      let nodes = ap length halves.nodes ∙ length-append front.nodes back.nodes in
      record {
        ends = (let same = many.ends in let first = halves.many.ends in let long = ap length halves.ends ∙ length-append front.ends back.ends in omega arith);
        committed = (let same = many.committed in let first = halves.many.committed in let long = ap length halves.committed ∙ length-append front.committed back.committed in omega arith);
        inboxes = (let same = many.inboxes in let first = halves.many.inboxes in let long = ap length halves.inboxes ∙ length-append front.inboxes back.inboxes in omega arith);
      }

module _ {M E : Type 0} (lanes : NodeEnd E) (meaning_of : M → Meaning) (due : Due) where
  -- each node of a world can release
  pub can-serve : (all : Desks M E) → CanAllRelease lanes meaning_of due all → CanServe lanes meaning_of due all
  can-serve all can = record { many = many; each = each-of (CanRelease lanes meaning_of due) (desks_in all) one }
    where
      many : AreAsMany all
      many = record { ends = free-many lanes (length all.nodes) all.ends can.free; committed = can.blank.many; inboxes = can.clear.many }

      one : (k : ℕ) (t : Desk M E) → slice_get (desks_in all) k ≡ Some t → CanRelease lanes meaning_of due t
      one k t here =
          let have = have-parts all many in
          let at_node = at-all node_at (desks_in all) all.nodes have.nodes k t here in
          let at_end = at-all end_at (desks_in all) all.ends have.ends k t here in
          let wide : t.node.homes.nodes ≡ length all.nodes = can.can.wide k t.node at_node in
          let few = can.few in
          record {
            done = can.can.due k t.node at_node;
            few = can.can.few k t.node at_node;
            blank = subst (λ n. IsBlank n t.commit) (sym wide) (can.blank.each k t.commit (at-all commit_at (desks_in all) all.committed have.committed k t here));
            early = can.clear.early k t.inbox (at-all inbox_at (desks_in all) all.inboxes have.inboxes k t here);
            number = free-number lanes (length all.nodes) all.ends can.free k t.end at_end ∙ sym (can.numbered k t.node at_node);
            wide = free-wide lanes (length all.nodes) all.ends can.free k t.end at_end ∙ sym wide;
            narrow = omega arith;
            free = λ to within. free-slots lanes (length all.nodes) all.ends can.free k t.end at_end to (omega arith);
          }

  abbrev IsDone : Desk M E → Desk M E → Type 0
  IsDone = HasReleased lanes meaning_of due

  -- what each has handed out
  handed_of : (old new : List (Desk M E)) → AllZip IsDone old new → List Committed
  handed_of [] [] all = []
  handed_of [] (u ∷ us) all = absurd all
  handed_of (t ∷ ts) [] all = absurd all
  handed_of (t ∷ ts) (u ∷ us) all = all.0.handed ∷ handed_of ts us all.1

  record IsHanded (c : Committed) (t u : Desk M E) : Type 0 where
    commits : HasCommitted (meaning_of t.node.model) due.bound due.below t.node u.node c.done.items c.out.items
    posted : HasPosted lanes t.node.number c u.commit t.inbox u.inbox t.end u.end

  handed-long : (old new : List (Desk M E)) (all : AllZip IsDone old new) → length (handed_of old new all) ≡ length old
  unfolding handed_of
  handed-long [] [] all = refl
  handed-long [] (u ∷ us) all = absurd all
  handed-long (t ∷ ts) [] all = absurd all
  handed-long (t ∷ ts) (u ∷ us) all = ap suc (handed-long ts us all.1)

  handed-at : (old new : List (Desk M E)) (all : AllZip IsDone old new) (k : ℕ) (c : Committed) (t u : Desk M E) → slice_get (handed_of old new all) k ≡ Some c → slice_get old k ≡ Some t → slice_get new k ≡ Some u → IsHanded c t u
  unfolding handed_of
  handed-at [] new all k c t u at_c at_t at_u = absurd (cc)
  handed-at (x ∷ xs) [] all k c t u at_c at_t at_u = absurd all
  handed-at (x ∷ xs) (y ∷ ys) all zero c t u at_c at_t at_u =
      let P : Committed → Desk M E → Desk M E → Type 0 = IsHanded in
      subst (λ v. P c t v) (same-some y u at_u) (subst (λ v. P c v y) (same-some x t at_t) (subst (λ v. P v x y) (same-some all.0.handed c at_c) (record { commits = all.0.commits; posted = all.0.posted })))
  handed-at (x ∷ xs) (y ∷ ys) all (suc k) c t u at_c at_t at_u = handed-at xs ys all.1 k c t u at_c at_t at_u

  module _ (before after : Desks M E) (can : CanAllRelease lanes meaning_of due before) (served : HaveServed lanes meaning_of due before after) where
    now_many : AreAsMany after
    now_many = served.many

    all : AllZip IsDone (desks_in before) (desks_in after)
    all = served.each

    handed : List Committed
    handed = handed_of (desks_in before) (desks_in after) all

    as-many : length (desks_in after) ≡ length (desks_in before)
    as-many = AllZip-long IsDone (desks_in before) (desks_in after) all

    nodes-many : length before.nodes ≡ length (desks_in before)
    nodes-many = sym (desks-many before (can-serve before can).many)

    -- so the nodes of a world have released
    pub have-released : HaveReleased lanes meaning_of due before after
    unfolding handed
    have-released =
        let long = handed-long (desks_in before) (desks_in after) all in
        let had = have-parts before (can-serve before can).many in
        let have = have-parts after now_many in
        record {
          handed = handed;
          committed = record {
            many = sym (desks-many after now_many) ∙ as-many ∙ sym nodes-many;
            count = long ∙ sym nodes-many;
            each = λ number x y c below at_x at_y at_c.
                let many = nodes-many in
                let same = as-many in
                let t = at-some (desks_in before) number (omega arith) in
                let u = at-some (desks_in after) number (omega arith) in
                let P : NodeView M → NodeView M → Type 0 = λ v w. HasCommitted (meaning_of v.model) due.bound due.below v w c.done.items c.out.items in
                let is_x = at-place node_at (desks_in before) before.nodes had.nodes number t.0 x t.1 at_x in
                let is_y = at-place node_at (desks_in after) after.nodes have.nodes number u.0 y u.1 at_y in
                subst (λ w. P x w) is_y (subst (λ v. P v u.0.node) is_x (handed-at (desks_in before) (desks_in after) all number c t.0 u.0 at_c t.1 u.1).commits);
            rest = λ number from.
                slice_get_past after.nodes number (let n = desks-many after now_many in let many = nodes-many in let same = as-many in omega arith) ∙ sym (slice_get_past before.nodes number from);
          };
          posted = record {
            as_many_commits = now_many.committed ∙ sym (desks-many after now_many) ∙ as-many ∙ sym long;
            as_many_inboxes = now_many.inboxes ∙ sym (desks-many after now_many) ∙ as-many ∙ sym nodes-many ∙ sym (can-serve before can).many.inboxes;
            as_many_ends = now_many.ends ∙ sym (desks-many after now_many) ∙ as-many ∙ sym nodes-many ∙ sym (can-serve before can).many.ends;
            each = λ number c d a b x y at_c at_d at_a at_b at_x at_y.
                let within = slice_get_within handed number c at_c in
                let same = as-many in
                let t = at-some (desks_in before) number (omega arith) in
                let u = at-some (desks_in after) number (omega arith) in
                let is_d = at-place commit_at (desks_in after) after.committed have.committed number u.0 d u.1 at_d in
                let is_a = at-place inbox_at (desks_in before) before.inboxes had.inboxes number t.0 a t.1 at_a in
                let is_b = at-place inbox_at (desks_in after) after.inboxes have.inboxes number u.0 b u.1 at_b in
                let is_x = at-place end_at (desks_in before) before.ends had.ends number t.0 x t.1 at_x in
                let is_y = at-place end_at (desks_in after) after.ends have.ends number u.0 y u.1 at_y in
                let is_number : t.0.node.number ≡ number = can.numbered number t.0.node (at-all node_at (desks_in before) before.nodes had.nodes number t.0 t.1) in
                rw (← is_number, ← is_d, ← is_a, ← is_b, ← is_x, ← is_y) (handed-at (desks_in before) (desks_in after) all number c t.0 u.0 at_c t.1 u.1).posted;
          };
        }

  -- the first so many have released
  abbrev pub ServedUpto : ℕ → Desks M E → Desks M E → Type 0
  ServedUpto place old new = IsUpto (HasReleased lanes meaning_of due) place (desks_in old) (desks_in new)

  -- where all have, each has
  pub served-all : (place : ℕ) (old new : Desks M E) → AreAsMany old → AreAsMany new → length old.nodes ≤ place → ServedUpto place old new → HaveServed lanes meaning_of due old new
  served-all place old new many now_many far upto =
      let long = desks-many old many in
      record { many = now_many; each = pairs-zip IsDone (desks_in old) (desks_in new) (upto-all IsDone place (desks_in old) (desks_in new) (omega arith) upto) }

  -- what can be served as a whole can be served as two halves
  pub can-halves : (all front back : Desks M E) → AreHalves all front back → CanServe lanes meaning_of due all → CanServe lanes meaning_of due front × CanServe lanes meaning_of due back
  can-halves all front back halves can =
      let each = subst (AllByRecursion (CanRelease lanes meaning_of due)) (halves-zip all front back halves) can.each in (
        record { many = halves.many; each = Each-front (CanRelease lanes meaning_of due) (desks_in front) (desks_in back) each },
        record { many = back-many all front back halves can.many; each = Each-back (CanRelease lanes meaning_of due) (desks_in front) (desks_in back) each },
      )

  -- two halves that have been served are a whole that has
  pub both-served : (old f b g d : Desks M E) → AreHalves old f b → HaveServed lanes meaning_of due f g → HaveServed lanes meaning_of due b d
      → HaveServed lanes meaning_of due old (desks_of (g.nodes ++ d.nodes) (g.ends ++ d.ends) (g.committed ++ d.committed) (g.inboxes ++ d.inboxes))
  both-served old f b g d before first second =
      let new = desks_of (g.nodes ++ d.nodes) (g.ends ++ d.ends) (g.committed ++ d.committed) (g.inboxes ++ d.inboxes) in
      let after : AreHalves new g d = record { nodes = refl; ends = refl; committed = refl; inboxes = refl; many = first.many } in
      let P : List (Desk M E) → Type 0 = λ l. AllZip IsDone (desks_in old) l in
      record {
        many = whole-many g d first.many second.many;
        each = subst P (sym (halves-zip new g d after)) (zip-whole IsDone (desks_in old) (desks_in f) (desks_in b) (desks_in g) (desks_in d) (halves-zip old f b before) first.each second.each);
      }
