use Rattle.std.proofs.Common.{◌≡◌, ℕ, ◌∙◌, subst}
use Rattle.node_team.specs.Releases.{HasPosted}
use Rattle.node_team.proofs.releasing.release.Goals as goal

pub returns : goal.returns
returns g c =
    let done = c.in_ok-commit.ensures.ok in
    let number : c.number.result ≡ c.args.node.now.number = c.number.ensures ∙ done.same.number in
    let P : ℕ → Type 0 = λ k. HasPosted g.E.NodeEnd k c.commit.new.into c.post.new.commit c.args.inbox.now c.post.new.inbox c.args.end.now c.post.new.end in
    record { handed = c.commit.new.into; commits = done; posted = subst P number c.post.ensures }
