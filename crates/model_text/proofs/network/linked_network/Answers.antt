use Rattle.std.proofs.Common.{◌≡◌, ◌≤◌, ◌+◌, List, Ok, length, ap, sym, ◌∙◌, arith}
use Rattle.std.proofs.lemmas.Result.{err_from_is_err_and}
use Rattle.toml.specs.View.{items_view}
use Rattle.queue_models.specs.Meaning.{network_meaning}
use Rattle.queue_models.specs.Objects.{NetworkParts, network_under}
use Rattle.model_text.specs.Names.{NamedItem}
use Rattle.text_fields.specs.Directories.{finder}
use Rattle.model_text.proofs.Lawful.{network-lawful}
use Rattle.model_text.proofs.Passes.{links_fail, jobs_fail, jobs_done}
use Rattle.model_text.proofs.network.linked_network.Goals as goal

pub returns-in_err-items-clause-read : goal.returns-in_err-items-clause-read
returns-in_err-items-clause-read c =
    let refused = err_from_is_err_and c.from_residual.result c.from_residual.ensures.1 in
    rw (refused.1, refused.2)
    (links_fail c.args.format c.args.named.items (finder c.args.directory.now) (items_view c.args.entries.now) c.in_err-items.field-0.0 c.requires.found c.in_err-items.ensures)

pub returns-in_err-jobs-clause-read : goal.returns-in_err-jobs-clause-read
returns-in_err-jobs-clause-read c =
    let refused = err_from_is_err_and c.from_residual-in_err-jobs.result c.from_residual-in_err-jobs.ensures.1 in
    let at : c.first_job_item-first_job.result ≡ length c.args.named.items + 1 = c.first_job_item-first_job.ensures ∙ ap (λ (os : List NamedItem). length os + 1) c.deref.ensures.value in
    rw (refused.1, refused.2)
    (jobs_fail c.args.format c.args.named.items (finder c.args.directory.now) (items_view c.args.entries.now) c.in_ok-items.items.items _ c.in_err-jobs.field-0.0
    c.requires.found at c.in_ok-items.ensures c.in_err-jobs.ensures.read)

pub make-requires : goal.make-requires
make-requires c =
    let few : length c.in_ok-jobs.jobs.items ≤ 65536 = omega (arith, c.in_ok-jobs.ensures.count, c.requires.few_jobs) in
    network-lawful c.args.seed c.args.named.items (finder c.args.directory.now) c.in_ok-items.items.items c.in_ok-jobs.jobs.items
    c.requires.seed c.requires.few_objects few c.requires.found c.requires.in_range c.requires.names_differ c.in_ok-items.ensures c.in_ok-jobs.ensures.linked

pub returns-clause-read : goal.returns-clause-read
returns-clause-read c =
    let at : c.first_job_item-first_job.result ≡ length c.args.named.items + 1 = c.first_job_item-first_job.ensures ∙ ap (λ (os : List NamedItem). length os + 1) c.deref.ensures.value in
    jobs_done c.args.format c.args.named.items (finder c.args.directory.now) (items_view c.args.entries.now) c.in_ok-items.items.items _ c.in_ok-jobs.jobs.items
    c.requires.found at c.in_ok-items.ensures c.in_ok-jobs.ensures.read
    ∙ ap (λ (p : NetworkParts). Ok (λ seed. network_meaning (network_under seed p))) (sym c.in_ok-make.ensures.parts)

pub returns-clause-own : goal.returns-clause-own
returns-clause-own c = ap (λ (p : NetworkParts). p.seed) c.in_ok-make.ensures.parts
