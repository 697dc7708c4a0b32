-- Jobs, and the values that they work on.
use Rattle.std.proofs.Common.{◌≡◌, suc, List, [], ◌∷◌, length, map, get_or, sym, ap, ◌∙◌, subst, arith}
use Rattle.std.proofs.lemmas.List.{get_or-map, length-map}
use Rattle.std.specs.Prelude.{All, Result, Ok, Err, IfOk, Vec}
use Rattle.std.specs.declared.alloc.Global.{Global}
use Rattle.std.specs.List.{AllZip}
use Rattle.delta_exchange.specs.declared.memory.OutOfMemory.{OutOfMemory}
use Rattle.steal_pool.specs.declared.each.Job.{Job}
use Rattle.steal_pool.specs.Works.{Accepts, AreWith, Changes, item_in}
use denote.Ref.{MutBor}
use denote.Param.Members.{Shared}

module _ {F T : Type 0} (g : Shared F (MutBor T × Unit {0}) (Unit {0} × (MutBor T × Unit {0}))) (work : F) where
  -- each job can be done
  pub jobs-ready : (jobs : List (Job T F)) (items : List T) → map item_in jobs ≡ items → AreWith work jobs → All (Accepts g work) items
      → All (λ job. Accepts g job.work.now job.item) jobs
  jobs-ready jobs items are with accepts k d below =
      let job = get_or jobs k d in
      let long : length items ≡ length jobs = sym (ap length are) ∙ length-map jobs item_in in
      let at : get_or items k d.item ≡ job.item = sym (ap (λ each. get_or each k d.item) are) ∙ get_or-map item_in jobs k d d.item below in
      let P : T → Type 0 = λ x. Accepts g work x in
      let here : P job.item = subst P at (accepts k d.item (omega arith)) in
      let Q : F → Type 0 = λ f. Accepts g f job.item in
      subst Q (sym (with k d below)) here

  jobs-changed : (jobs done : List (Job T F)) → AreWith work jobs → AllZip (λ old new. Changes g old.work.now old.item new.item) jobs done
      → AllZip (Changes g work) (map item_in jobs) (map item_in done)
  jobs-changed [] [] with all = tt
  jobs-changed [] (u ∷ us) with all = absurd all
  jobs-changed (t ∷ ts) [] with all = absurd all
  jobs-changed (t ∷ ts) (u ∷ us) with all =
      let P : F → Type 0 = λ f. Changes g f t.item u.item in
      (subst P (with 0 t (omega arith)) all.0, jobs-changed ts us (λ k d below. with (suc k) d (omega arith)) all.1)

  -- the values that they leave were changed
  pub items-changed : (jobs done : List (Job T F)) (items : List T) (left : Result (Vec T Global) OutOfMemory) → map item_in jobs ≡ items → AreWith work jobs
      → AllZip (λ old new. Changes g old.work.now old.item new.item) jobs done
      → IfOk left (λ now. now.items ≡ map item_in done) → IfOk left (λ now. AllZip (Changes g work) items now.items)
  items-changed jobs done items (Err refused) are with changed is = tt
  items-changed jobs done items (Ok now) are with changed is =
      let R : List T → List T → Type 0 = AllZip (Changes g work) in
      subst (λ each. R items each) (sym is) (subst (λ each. R each (map item_in done)) are (jobs-changed jobs done with changed))
