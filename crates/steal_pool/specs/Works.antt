-- The same work on each of many values.
use Rattle.std.specs.Prelude.{◌≡◌, All, List}
use Rattle.steal_pool.specs.declared.each.Job.{Job}
use denote.Ref.{MutBor}
use denote.Param.Members.{Shared}

module _ {F T : Type 0} (g : Shared F (MutBor T × Unit {0}) (Unit {0} × (MutBor T × Unit {0}))) (work : F) where
  -- the work may be done on a value
  abbrev pub Accepts : T → Type 0
  Accepts x = (argument : MutBor T) → argument.now ≡ x → g.pre work (argument, tt)

  -- done on a value it may leave another
  pub record Changes (x y : T) : Type 0 where
    pub argument : MutBor T
    pub argument_is : argument.now ≡ x
    pub after_call : MutBor T
    pub call : g.post work (argument, tt) (tt, (after_call, tt))
    pub left : after_call.now ≡ y

module _ {T F : Type 0} where
  abbrev pub item_in : Job T F → T
  item_in job = job.item

  -- all have this work
  abbrev pub AreWith : F → List (Job T F) → Type 0
  AreWith work = All (λ job. job.work.now ≡ work)
