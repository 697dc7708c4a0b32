-- No job of a shop is lost or doubled, and each keeps its birth.
use Rattle.std.specs.Prelude.{◌≡◌, ℕ, ◌+◌, ◌*◌, ◌/◌, ◌<◌, ◌==◌, List, length, map, filter, sum_by}
use Rattle.std.specs.Int.{from_bool}
use Rattle.std.specs.List.{range_with_len}
use Rattle.run_laws.specs.Reached.{after_events}
use Rattle.shop_model.specs.declared.job.TheConstants.{JOBS_A_CLASS}
use Rattle.shop_model.specs.Classes.{made_jobs as made_of, jobs_inside}
use Rattle.shop_model.specs.Meaning.{shop_meaning}
use Rattle.shop_model.specs.ShopParts.{ShopParts, IsShop}
use Rattle.sim_spec.specs.declared.terms.Terms.{Terms}
use Rattle.sim_spec.specs.State.{State}
use Rattle.shop_laws.specs.Places.{in_shop, made_jobs, gone_jobs, this_job, weight_of}
use Rattle.shop_laws.specs.Told.{cells_at}

-- a job of this class weighs 1, and others nothing
abbrev pub of_class : ℕ → ℕ → ℕ → ℕ
of_class class id birth = from_bool (id / JOBS_A_CLASS == class)

-- the ids of the jobs of a class, one after another
abbrev pub ids_of : ℕ → List (ℕ × ℕ) → List ℕ
ids_of class jobs = filter (λ id. id / JOBS_A_CLASS == class) (map (λ (job : ℕ × ℕ). job.0) jobs)

-- the jobs after n events, in the state then
pub record AreAllThere (p : ShopParts) (t : Terms) (n : ℕ) (s : State) : Type 0 where
  -- a job stands in the shop and has gone, together, as often as it was made, with its birth
  pub once : (id birth : ℕ) → in_shop p (this_job id birth) s + sum_by (weight_of (this_job id birth)) (gone_jobs p t n) ≡ sum_by (weight_of (this_job id birth)) (made_jobs p t n)
  -- the jobs of each class are made in the order of their numbers, from 1 on, each once
  pub named : (class : ℕ) → class < length p.classes
      → ids_of class (made_jobs p t n) ≡ range_with_len (class * JOBS_A_CLASS + 1) (made_of (cells_at s (length p.stations + class)))
  -- so many of them are inside as a class says
  pub inside : (class : ℕ) → class < length p.classes → in_shop p (of_class class) s ≡ jobs_inside (cells_at s (length p.stations + class))

abbrev pub EachJobOnce : Type 0
EachJobOnce = (p : ShopParts) (t : Terms) (n : ℕ) → IsShop p → AreAllThere p t n (after_events n (shop_meaning p) t)
