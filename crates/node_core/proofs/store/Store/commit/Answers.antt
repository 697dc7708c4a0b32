-- All that is due is handed out.
use Rattle.std.proofs.Common.{subst, sym}
use Rattle.node_core.specs.Handed.{CanCommit, HasHandedOut}
use Rattle.node_core.specs.Stores.{StoreView}
use Rattle.node_core.proofs.CommitStore.{commits-few, commits-known, commits-went, handed-out, left-store}
use Rattle.node_core.proofs.StoreLemmas.{store_of}
use Rattle.node_core.proofs.store.Store.commit.Goals as goal
use Rattle.node_core.proofs.store.Store.commit.Goals.{After-self}

can : (c : After-self) → CanCommit c.self.inside.logs.homes c.args.horizon c.args.cut.now (store_of c.self.inside.logs c.self.inside.queue)
can c =
    let C : StoreView → Type 0 = λ s. CanCommit s.homes c.args.horizon c.args.cut.now s in
    subst C (sym c.self.view_is) c.requires.can

pub commit-requires-clause-went : goal.commit-requires-clause-went
commit-requires-clause-went c =
    commits-went c.self.inside.logs c.self.inside.queue c.tells.ensures.sound c.tells.ensures.inside c.args.horizon c.args.cut.now
    (can (goal.at.commit-requires-clause-went c).After-self)

pub commit-requires-clause-known : goal.commit-requires-clause-known
commit-requires-clause-known c =
    commits-known c.self.inside.logs c.self.inside.queue c.tells.ensures.sound c.tells.ensures.inside c.args.horizon c.args.cut.now
    (can (goal.at.commit-requires-clause-known c).After-self)

pub commit-requires-clause-few : goal.commit-requires-clause-few
commit-requires-clause-few c =
    commits-few c.self.inside.logs c.self.inside.queue c.tells.ensures.sound c.tells.ensures.inside c.args.horizon c.args.cut.now
    (can (goal.at.commit-requires-clause-few c).After-self)

pub invariant_of-self-2 : goal.invariant_of-self-2
invariant_of-self-2 c =
    left-store c.self.inside.logs c.self.inside.queue c.tells.ensures.sound c.tells.ensures.inside c.args.horizon c.args.cut.now
    (can (goal.at.invariant_of-self-2 c).After-self) c.commit.new.self.log c.commit.new.told.items c.commit.new.out.items c.in_ok-commit.ensures.ok
    c.commit.new.self.homes c.in_ok-commit.ensures.homes c.tells-2.ensures.sound c.self.invariant

pub returns-clause-ok : goal.returns-clause-ok
returns-clause-ok c =
    let i = c.self.inside in
    let new = c.commit.new in
    let told = new.told.items in
    let out = new.out.items in
    let R : StoreView → Type 0 = λ s. HasHandedOut s.homes c.args.horizon c.args.cut.now s (store_of new.self i.queue) told out in
    subst R c.self.view_is
    (handed-out i.logs i.queue c.tells.ensures.sound c.tells.ensures.inside c.args.horizon c.args.cut.now (can (goal.at.returns-clause-ok c).After-self)
    new.self.log told out c.in_ok-commit.ensures.ok new.self.homes c.in_ok-commit.ensures.homes)
