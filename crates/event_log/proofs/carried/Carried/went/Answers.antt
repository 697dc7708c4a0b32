-- None may have failed.
use Rattle.std.proofs.Common.{◌≡◌, Bool, true, false, not, None, map, refl, sym, subst}
use Rattle.std.specs.Prelude.{IsTrue}
use Rattle.object_log.specs.Carrying.{Placed}
use Rattle.object_log.specs.Logs.{fault_of}
use Rattle.event_log.specs.Items.{CarriedView}
use Rattle.event_log.proofs.carried.Carried.went.Goals as goal

none-may : (may : Bool) → IsTrue (not may) → may ≡ false
none-may true is = sym is
none-may false is = refl

pub returns : goal.returns
returns c = λ yes.
    let F : CarriedView → Type 0 = λ v. fault_of (map (λ (p : Placed). p.done) v.items) ≡ None in
    subst F c.self.view_is (c.self.invariant.2 (none-may c.self.inside.may_fail yes))
