use Rattle.std.proofs.Common.{◌≡◌, ℕ, ◌<◌, ◌^◌, ◌∷◌, [], length, refl, sym, ap, subst, arith, length-append}
use Rattle.std.specs.Prelude.{All, None}
use Rattle.std.proofs.lemmas.List.Elements.{All-push}
use Rattle.replications.specs.declared.job.Job.{Job}
use Rattle.replications.specs.Studies.{seed_at, IsToDo, AreToDo}
use Rattle.replications.proofs.JobLemmas.{AreToDo-push}
use Rattle.replications.proofs.batch.Batch.jobs.Goals as goal

pub loop-number-init : goal.loop-number-init
unfolding AreToDo
loop-number-init c =
    let none = ap length c.new-jobs.ensures.items in
    record {
      jobs = subst (AreToDo c.args.first_seed c.args.self.begin) (sym c.new-jobs.ensures.items) tt;
      ready = λ k d within. absurd (omega (arith, none));
      many = omega (arith, none);
    }

pub loop-number-preserved : goal.loop-number-preserved
loop-number-preserved c =
    let number = c.loop-number.number in
    let jobs = c.loop-number.jobs.items in
    let i = c.loop-number.invariant in
    let job : Job = record { seed = c.seed_at.result; rows = c.new.result; stop = None } in
    let ToDo : ℕ → Type 0 = λ n. IsToDo (seed_at c.args.first_seed n) job in
    let ready : Job → Type 0 = λ job. (job.seed < 2 ^ 63) × (job.stop ≡ None) in
    record {
      jobs = subst (AreToDo c.args.first_seed c.args.self.begin) (sym c.in_ok-push.ensures.items)
          (AreToDo-push c.args.first_seed c.args.self.begin jobs job i.jobs (subst ToDo (sym i.many) (record { seed = c.seed_at.ensures.seed; rows = c.new.ensures.items; stop = refl })));
      ready = subst (All ready) (sym c.in_ok-push.ensures.items) (All-push ready jobs job i.ready (c.seed_at.ensures.below, refl));
      many = let longer = ap length c.in_ok-push.ensures.items in let one = length-append jobs (job ∷ []) in omega (arith, longer, one, i.many);
    }
