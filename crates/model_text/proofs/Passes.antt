-- Passes two and three, one after the other.
use Rattle.std.proofs.Common.{◌≡◌, ℕ, ◌+◌, List, length, Ok, ap, sym, ◌∙◌}
use Rattle.toml.specs.Data.{Items}
use Rattle.model_core.specs.declared.entry.Entry.{Entry}
use Rattle.queue_models.specs.Meaning.{network_meaning}
use Rattle.queue_models.specs.Objects.{Item, network_of}
use Rattle.model_text.specs.declared.formats.Format.{Format}
use Rattle.text_fields.specs.Checks.{Checked, Fails, ◌>>=◌}
use Rattle.model_text.specs.Jobs.{jobs_from}
use Rattle.model_text.specs.Objects.{linked_from}
use Rattle.text_fields.specs.Names.{Finder}
use Rattle.model_text.specs.Names.{NamedItem, place_in}
use Rattle.model_text.specs.Networks.{linked_network}
use Rattle.model_reader.specs.declared.refusal.Refusal.{Refusal}
use Rattle.model_reader.specs.declared.refusal.Refusal.TheVariants.{At, OutOfMemory}

after_links : (format : Format) (named : List NamedItem) (find : Finder) (entries : Items) (objects : List Item) (first : ℕ) → find ≡ place_in named → first ≡ length named + 1
    → linked_from find 1 named ≡ Ok objects
    → linked_network format named entries ≡ (jobs_from format find first entries >>= (λ jobs. Ok (λ seed. network_meaning (network_of seed objects jobs))))
unfolding linked_network
after_links format named find entries objects first finds at linked =
    ap (λ (f : Finder). linked_from f 1 named >>= (λ linked. jobs_from format f (length named + 1) entries >>= (λ jobs. Ok (λ seed. network_meaning (network_of seed linked jobs))))) (sym finds)
    ∙ ap (λ (check : Checked (List Item)). check >>= (λ linked. jobs_from format find (length named + 1) entries >>= (λ jobs. Ok (λ seed. network_meaning (network_of seed linked jobs))))) linked
    ∙ ap (λ n. jobs_from format find n entries >>= (λ jobs. Ok (λ seed. network_meaning (network_of seed objects jobs)))) (sym at)

-- the first link that fails is the answer
pub links_fail : (format : Format) (named : List NamedItem) (find : Finder) (entries : Items) (e : Refusal) → find ≡ place_in named → Fails e (linked_from find 1 named) → Fails e (linked_network format named entries)
unfolding linked_network
links_fail format named find entries OutOfMemory finds fails = tt
links_fail format named find entries (At code item) finds fails =
    ap (λ (f : Finder). linked_from f 1 named >>= (λ linked. jobs_from format f (length named + 1) entries >>= (λ jobs. Ok (λ seed. network_meaning (network_of seed linked jobs))))) (sym finds)
    ∙ ap (λ (check : Checked (List Item)). check >>= (λ linked. jobs_from format find (length named + 1) entries >>= (λ jobs. Ok (λ seed. network_meaning (network_of seed linked jobs))))) fails

-- and after them the first job that fails
pub jobs_fail : (format : Format) (named : List NamedItem) (find : Finder) (entries : Items) (objects : List Item) (first : ℕ) (e : Refusal) → find ≡ place_in named → first ≡ length named + 1
    → linked_from find 1 named ≡ Ok objects → Fails e (jobs_from format find first entries) → Fails e (linked_network format named entries)
jobs_fail format named find entries objects first OutOfMemory finds at linked fails = tt
jobs_fail format named find entries objects first (At code item) finds at linked fails =
    after_links format named find entries objects first finds at linked
    ∙ ap (λ (check : Checked (List Entry)). check >>= (λ jobs. Ok (λ seed. network_meaning (network_of seed objects jobs)))) fails

pub jobs_done : (format : Format) (named : List NamedItem) (find : Finder) (entries : Items) (objects : List Item) (first : ℕ) (jobs : List Entry) → find ≡ place_in named → first ≡ length named + 1
    → linked_from find 1 named ≡ Ok objects → jobs_from format find first entries ≡ Ok jobs
    → linked_network format named entries ≡ Ok (λ seed. network_meaning (network_of seed objects jobs))
jobs_done format named find entries objects first jobs finds at linked done =
    after_links format named find entries objects first finds at linked
    ∙ ap (λ (check : Checked (List Entry)). check >>= (λ jobs. Ok (λ seed. network_meaning (network_of seed objects jobs)))) done
