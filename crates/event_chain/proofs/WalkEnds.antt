-- How a walk over a value's type and an allocator becomes the proof that its function meets its contract. Assumes `Logic`.
use seplogic.Ra.Ura.{Ura}
use mir.Syntax.{Fn, Callee}
use base.Logic.{ent}
use prog.Wp.{WpFn, Closed}
use prog.Model.{Model}
use types.Logic.{Logic}
use contract.Running.{Running, MachineTables, tables}
use denote.Triple.Carry.{grown, spared}
use denote.Triple.Clauses.{Ended, Clauses, closing}
use denote.Triple.Statement.{Triple}
use denote.Triple.Table.{run_framed}
use denote.Triple.Walked.{Stays, AllGo, walk_of}
use Rattle.std.proofs.raw_atomic.Walks.{proved_at}
use Rattle.std_alloc.proofs.BoxSteps.Form.{Bx}

module _ (E : Bx) {M : Type 1} {𝓤 : Ura M} (𝓛 : Logic 𝓤) (𝓜 : Model 𝓤 𝓛.H) (𝓡 : Running 𝓤 𝓛.H 𝓜) (T : Ended) (hs : Stays T.signature.params T.kept) (c : Clauses 𝓤 T) where
  abbrev 𝓣 : MachineTables 𝓤 𝓛.H 𝓜
  𝓣 = tables 𝓤 𝓛.H 𝓜 𝓡 𝓡.env

  -- the lifetimes of the two types go beside the function's own
  pub meets : AllGo 𝓛 T.signature.lifetimes T.signature.params T.kept hs → (k : Callee) (fn : Fn) → Closed 𝓤 𝓛.H 𝓣.C 𝓣.Λ k fn
      → ((y : (walk_of 𝓛 T hs c).Ghost) → ent 𝓤 ((walk_of 𝓛 T hs c).pre y) (WpFn 𝓤 𝓛.H 𝓣.C 𝓣.Λ fn ((walk_of 𝓛 T hs c).args y) ((walk_of 𝓛 T hs c).post y)))
      → Triple 𝓤 (𝓡.run (𝓡.env k)) (grown 𝓛 T.signature 2 (E.row.lives, (E.al.row.lives, tt)) (closing 𝓛 T c))
  meets go k fn closed walk =
      spared 𝓛 T.signature (𝓡.run (𝓡.env k)) (run_framed 𝓤 𝓛.H 𝓜 𝓡 (𝓡.env k)) 2 (E.row.lives, (E.al.row.lives, tt)) (closing 𝓛 T c)
      (proved_at 𝓛 T hs c 𝓜 𝓡 go k fn closed (λ y are. walk y))
