-- Sums over the jobs that wait, as an entry comes in, goes out or loses its job.
use Rattle.std.proofs.Common.{◌≡◌, ◌≢◌, ℕ, zero, suc, ◌+◌, ◌-◌, ◌<◌, List, [], ◌∷◌, ◌++◌, length, take, drop, sym, ap, ◌∙◌, arith}
use Rattle.std.specs.Prelude.{nat_lt, if◌then◌else◌, slice_index, slice_set}
use Rattle.std.proofs.lemmas.List.{take_more, take_all, length-take-le}
use Rattle.delta_exchange.specs.Changes.{CellData, line_of}
use Rattle.shop_model.specs.declared.levels.TheConstants.{EMPTY}
use Rattle.shop_model.specs.declared.station.Order.{Order}
use Rattle.shop_model.specs.declared.station.Order.TheVariants.{First, Last, Priority}
use Rattle.shop_model.specs.EntrySteps.{out_of}
use Rattle.shop_model.specs.LevelSums.{sum_same, sum_changed}
use Rattle.shop_model.specs.StationEffects.{called_place}
use Rattle.shop_model.specs.Stations.{jobs_line, births_line, since_line, until_line}
use Rattle.shop_laws.specs.Waiting.{sum_waiting, sum_in_line}
use Rattle.shop_laws.proofs.Readings.{Reads, Readings, put, put_same, put_other, four_put}

-- what one entry weighs
abbrev pub entry_weight : (ℕ → ℕ → ℕ → ℕ) → ℕ → ℕ → ℕ → ℕ
entry_weight w a birth time = if nat_lt a EMPTY then w a birth time else 0

pub pushed : (w : ℕ → ℕ → ℕ → ℕ) (jobs births since : List ℕ) (a b c : ℕ) → length births ≡ length jobs → length since ≡ length jobs
    → sum_waiting w (jobs ++ a ∷ []) (births ++ b ∷ []) (since ++ c ∷ []) ≡ sum_waiting w jobs births since + entry_weight w a b c
unfolding sum_waiting
pushed w [] [] [] a b c as_births as_since = omega arith
pushed w [] [] (y ∷ since) a b c as_births as_since = absurd (omega arith)
pushed w [] (x ∷ births) since a b c as_births as_since = absurd (omega arith)
pushed w (j ∷ jobs) [] since a b c as_births as_since = absurd (omega arith)
pushed w (j ∷ jobs) (x ∷ births) [] a b c as_births as_since = absurd (omega arith)
pushed w (j ∷ jobs) (x ∷ births) (y ∷ since) a b c as_births as_since = omega (arith, pushed w jobs births since a b c (omega arith) (omega arith))

front_out : (w : ℕ → ℕ → ℕ → ℕ) (jobs births since : List ℕ) → 0 < length jobs → length births ≡ length jobs → length since ≡ length jobs
    → sum_waiting w jobs births since
    ≡ sum_waiting w (drop 1 jobs) (drop 1 births) (drop 1 since) + entry_weight w (slice_index jobs 0) (slice_index births 0) (slice_index since 0)
unfolding sum_waiting
front_out w [] births since some as_births as_since = absurd (omega arith)
front_out w (j ∷ jobs) [] since some as_births as_since = absurd (omega arith)
front_out w (j ∷ jobs) (x ∷ births) [] some as_births as_since = absurd (omega arith)
front_out w (j ∷ jobs) (x ∷ births) (y ∷ since) some as_births as_since = omega arith

-- a list is what stands before its last element, and that
split_at_end : (xs : List ℕ) (n : ℕ) → length xs ≡ n + 1 → take n xs ++ slice_index xs n ∷ [] ≡ xs
split_at_end xs n long = sym (take_more xs n 0 (omega arith)) ∙ take_all (n + 1) xs (omega arith)

end_out : (w : ℕ → ℕ → ℕ → ℕ) (jobs births since : List ℕ) (n : ℕ) → length jobs ≡ n + 1 → length births ≡ n + 1 → length since ≡ n + 1
    → sum_waiting w jobs births since ≡ sum_waiting w (take n jobs) (take n births) (take n since) + entry_weight w (slice_index jobs n) (slice_index births n) (slice_index since n)
end_out w jobs births since n long as_births as_since =
    ap (λ xs. sum_waiting w xs births since) (sym (split_at_end jobs n long))
    ∙ ap (λ ys. sum_waiting w (take n jobs ++ slice_index jobs n ∷ []) ys since) (sym (split_at_end births n as_births))
    ∙ ap (λ zs. sum_waiting w (take n jobs ++ slice_index jobs n ∷ []) (take n births ++ slice_index births n ∷ []) zs) (sym (split_at_end since n as_since))
    ∙ pushed w (take n jobs) (take n births) (take n since) (slice_index jobs n) (slice_index births n) (slice_index since n)
    (length-take-le n births (omega arith) ∙ sym (length-take-le n jobs (omega arith)))
    (length-take-le n since (omega arith) ∙ sym (length-take-le n jobs (omega arith)))

-- the entry that is called goes out
pub went : (w : ℕ → ℕ → ℕ → ℕ) (order : Order) (jobs births since : List ℕ) → 0 < length jobs → length births ≡ length jobs → length since ≡ length jobs
    → sum_waiting w jobs births since
    ≡ sum_waiting w (out_of order jobs) (out_of order births) (out_of order since)
    + entry_weight w (slice_index jobs (called_place order (length jobs))) (slice_index births (called_place order (length jobs))) (slice_index since (called_place order (length jobs)))
went w First jobs births since some as_births as_since = front_out w jobs births since some as_births as_since
went w Priority jobs births since some as_births as_since = front_out w jobs births since some as_births as_since
went w Last jobs births since some as_births as_since =
    let n : ℕ = length jobs - 1 in
    let e : ℕ = entry_weight w (slice_index jobs n) (slice_index births n) (slice_index since n) in
    end_out w jobs births since n (omega arith) (omega arith) (omega arith)
    ∙ ap (λ k. sum_waiting w (take n jobs) (take (k - 1) births) (take n since) + e) (sym as_births)
    ∙ ap (λ k. sum_waiting w (take n jobs) (take (length births - 1) births) (take (k - 1) since) + e) (sym as_since)

-- an entry becomes another
pub turned : (w : ℕ → ℕ → ℕ → ℕ) (jobs births since : List ℕ) (place value : ℕ) → place < length jobs → length births ≡ length jobs → length since ≡ length jobs
    → sum_waiting w (slice_set jobs place value) births since + entry_weight w (slice_index jobs place) (slice_index births place) (slice_index since place)
    ≡ sum_waiting w jobs births since + entry_weight w value (slice_index births place) (slice_index since place)
unfolding sum_waiting
turned w [] births since place value within as_births as_since = absurd (omega arith)
turned w (j ∷ jobs) [] since place value within as_births as_since = absurd (omega arith)
turned w (j ∷ jobs) (x ∷ births) [] place value within as_births as_since = absurd (omega arith)
turned w (j ∷ jobs) (x ∷ births) (y ∷ since) zero value within as_births as_since = omega arith
turned w (j ∷ jobs) (x ∷ births) (y ∷ since) (suc place) value within as_births as_since =
    omega (arith, turned w jobs births since place value (omega arith) (omega arith) (omega arith))

-- the lines of a level that become others, and those of other levels
module _ (f g h i : List ℕ → List ℕ) (level : ℕ) (line : ℕ → List ℕ) where
  abbrev one : ℕ → List ℕ
  one = put (jobs_line level) (f (line (jobs_line level))) line

  abbrev two : ℕ → List ℕ
  two = put (births_line level) (g (one (births_line level))) one

  abbrev three : ℕ → List ℕ
  three = put (since_line level) (h (two (since_line level))) two

  pub four_jobs : four_put f g h i level line (jobs_line level) ≡ f (line (jobs_line level))
  four_jobs =
      put_other (until_line level) (jobs_line level) (i (three (until_line level))) three (λ e. absurd (omega arith))
      ∙ put_other (since_line level) (jobs_line level) (h (two (since_line level))) two (λ e. absurd (omega arith))
      ∙ put_other (births_line level) (jobs_line level) (g (one (births_line level))) one (λ e. absurd (omega arith))
      ∙ put_same (jobs_line level) (f (line (jobs_line level))) line

  pub four_births : four_put f g h i level line (births_line level) ≡ g (line (births_line level))
  four_births =
      put_other (until_line level) (births_line level) (i (three (until_line level))) three (λ e. absurd (omega arith))
      ∙ put_other (since_line level) (births_line level) (h (two (since_line level))) two (λ e. absurd (omega arith))
      ∙ put_same (births_line level) (g (one (births_line level))) one
      ∙ ap g (put_other (jobs_line level) (births_line level) (f (line (jobs_line level))) line (λ e. absurd (omega arith)))

  pub four_since : four_put f g h i level line (since_line level) ≡ h (line (since_line level))
  four_since =
      put_other (until_line level) (since_line level) (i (three (until_line level))) three (λ e. absurd (omega arith))
      ∙ put_same (since_line level) (h (two (since_line level))) two
      ∙ ap h (put_other (births_line level) (since_line level) (g (one (births_line level))) one (λ e. absurd (omega arith))
      ∙ put_other (jobs_line level) (since_line level) (f (line (jobs_line level))) line (λ e. absurd (omega arith)))

  pub four_elsewhere : (at : ℕ) → at ≢ jobs_line level → at ≢ births_line level → at ≢ since_line level → at ≢ until_line level
      → four_put f g h i level line at ≡ line at
  four_elsewhere at no_jobs no_births no_since no_until =
      put_other (until_line level) at (i (three (until_line level))) three no_until
      ∙ put_other (since_line level) at (h (two (since_line level))) two no_since
      ∙ put_other (births_line level) at (g (one (births_line level))) one no_births
      ∙ put_other (jobs_line level) at (f (line (jobs_line level))) line no_jobs

-- a sum over three lines that are others
pub three_as : (w : ℕ → ℕ → ℕ → ℕ) (jobs births since jobs2 births2 since2 : List ℕ) → jobs ≡ jobs2 → births ≡ births2 → since ≡ since2
    → sum_waiting w jobs births since ≡ sum_waiting w jobs2 births2 since2
three_as w jobs births since jobs2 births2 since2 a b c =
    ap (λ xs. sum_waiting w xs births since) a ∙ ap (λ ys. sum_waiting w jobs2 ys since) b ∙ ap (λ zs. sum_waiting w jobs2 births2 zs) c

-- the sum over all levels, where the lines of one level become others
pub level_put : (w : ℕ → ℕ → ℕ → ℕ) (f g h i : List ℕ → List ℕ) (level levels : ℕ) (line : ℕ → List ℕ) → level < levels
    → sum_in_line w (four_put f g h i level line) levels + sum_waiting w (line (jobs_line level)) (line (births_line level)) (line (since_line level))
    ≡ sum_in_line w line levels + sum_waiting w (f (line (jobs_line level))) (g (line (births_line level))) (h (line (since_line level)))
level_put w f g h i level levels line below =
    let before : ℕ → ℕ = λ k. sum_waiting w (line (jobs_line k)) (line (births_line k)) (line (since_line k)) in
    let later : ℕ → List ℕ = four_put f g h i level line in
    let after : ℕ → ℕ = λ k. sum_waiting w (later (jobs_line k)) (later (births_line k)) (later (since_line k)) in
    let others : (k : ℕ) → k ≢ level → after k ≡ before k =
    λ k other. three_as w (later (jobs_line k)) (later (births_line k)) (later (since_line k)) (line (jobs_line k)) (line (births_line k)) (line (since_line k))
    (four_elsewhere f g h i level line (jobs_line k) (λ e. other (omega arith)) (λ e. absurd (omega arith)) (λ e. absurd (omega arith)) (λ e. absurd (omega arith)))
    (four_elsewhere f g h i level line (births_line k) (λ e. absurd (omega arith)) (λ e. other (omega arith)) (λ e. absurd (omega arith)) (λ e. absurd (omega arith)))
    (four_elsewhere f g h i level line (since_line k) (λ e. absurd (omega arith)) (λ e. absurd (omega arith)) (λ e. other (omega arith)) (λ e. absurd (omega arith))) in
    let here : after level ≡ sum_waiting w (f (line (jobs_line level))) (g (line (births_line level))) (h (line (since_line level))) =
    three_as w (later (jobs_line level)) (later (births_line level)) (later (since_line level)) (f (line (jobs_line level))) (g (line (births_line level))) (h (line (since_line level)))
    (four_jobs f g h i level line) (four_births f g h i level line) (four_since f g h i level line) in
    sum_changed before after levels level below others ∙ ap (λ n. sum_in_line w line levels + n) here

-- where one line of jobs becomes another
pub jobs_put : (w : ℕ → ℕ → ℕ → ℕ) (jobs : List ℕ) (level levels : ℕ) (line : ℕ → List ℕ) → level < levels
    → sum_in_line w (put (jobs_line level) jobs line) levels + sum_waiting w (line (jobs_line level)) (line (births_line level)) (line (since_line level))
    ≡ sum_in_line w line levels + sum_waiting w jobs (line (births_line level)) (line (since_line level))
jobs_put w jobs level levels line below =
    let before : ℕ → ℕ = λ k. sum_waiting w (line (jobs_line k)) (line (births_line k)) (line (since_line k)) in
    let later : ℕ → List ℕ = put (jobs_line level) jobs line in
    let after : ℕ → ℕ = λ k. sum_waiting w (later (jobs_line k)) (later (births_line k)) (later (since_line k)) in
    let others : (k : ℕ) → k ≢ level → after k ≡ before k =
    λ k other. three_as w (later (jobs_line k)) (later (births_line k)) (later (since_line k)) (line (jobs_line k)) (line (births_line k)) (line (since_line k))
    (put_other (jobs_line level) (jobs_line k) jobs line (λ e. other (omega arith)))
    (put_other (jobs_line level) (births_line k) jobs line (λ e. absurd (omega arith)))
    (put_other (jobs_line level) (since_line k) jobs line (λ e. absurd (omega arith))) in
    let here : after level ≡ sum_waiting w jobs (line (births_line level)) (line (since_line level)) =
    three_as w (later (jobs_line level)) (later (births_line level)) (later (since_line level)) jobs (line (births_line level)) (line (since_line level))
    (put_same (jobs_line level) jobs line)
    (put_other (jobs_line level) (births_line level) jobs line (λ e. absurd (omega arith)))
    (put_other (jobs_line level) (since_line level) jobs line (λ e. absurd (omega arith))) in
    sum_changed before after levels level below others ∙ ap (λ n. sum_in_line w line levels + n) here

-- the sum over lines as they are read
pub reads_sum : (w : ℕ → ℕ → ℕ → ℕ) (levels : ℕ) (cells : CellData) (r : Readings) → Reads cells r
    → sum_in_line w (λ k. line_of cells k) levels ≡ sum_in_line w r.line levels
reads_sum w levels cells r is =
    sum_same
    (λ k. sum_waiting w (r.line (jobs_line k)) (r.line (births_line k)) (r.line (since_line k)))
    (λ k. sum_waiting w (line_of cells (jobs_line k)) (line_of cells (births_line k)) (line_of cells (since_line k)))
    levels
    (λ k. three_as w (line_of cells (jobs_line k)) (line_of cells (births_line k)) (line_of cells (since_line k)) (r.line (jobs_line k)) (r.line (births_line k)) (r.line (since_line k))
    (is.line (jobs_line k) (λ e. absurd (omega arith))) (is.line (births_line k) (λ e. absurd (omega arith))) (is.line (since_line k) (λ e. absurd (omega arith))))
