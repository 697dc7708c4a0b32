-- Ends are connected, one node after another.
use Rattle.std.proofs.Common.{◌≡◌, ⊎_elim, ℕ, ◌+◌, ◌<◌, List, [], ◌∷◌, ◌++◌, map, length, get_or, set, sym, ap, ◌∙◌, refl, arith}
use Rattle.std.specs.List.{range_with_len}
use Rattle.std.proofs.lemmas.Bool.{cases_eq}
use Rattle.std.proofs.lemmas.List.{get_or-set_same, get_or-set_other, length-set, get_or_append_left, get_or_push, length_push, get_or_read}
use Rattle.std.proofs.lemmas.List.FromFn.{length-map-range_with_len, get_or-map-range_with_len}
use Rattle.release_lanes.specs.Woven.{Outline, IsWoven, Grows, connected, with_outs}

-- an end with no ring
abbrev pub bare : {R : Type 0} → ℕ → Outline R
bare number = record { number = number; outs = []; ins = [] }

module _ {R : Type 0} where
  bare_at : (nodes k : ℕ) (d : Outline R) → k < nodes → get_or (map bare (range_with_len 0 nodes)) k d ≡ bare k
  bare_at nodes k d less = get_or-map-range_with_len bare 0 nodes k k d less (omega arith)

  pub woven_none : (nodes : ℕ) (ends : List (Outline R)) → ends ≡ map bare (range_with_len 0 nodes) → IsWoven nodes 0 ends
  woven_none nodes ends are = record {
    count = ap length are ∙ length-map-range_with_len bare 0 nodes;
    numbers = λ k d less. ap (λ l. (get_or l k d).number) are ∙ ap (λ (o : Outline R). o.number) (bare_at nodes k d less);
    outs = λ k d less. absurd (omega arith);
    ins = λ k d less. ap (λ l. length (get_or l k d).ins) are ∙ ap (λ (o : Outline R). length o.ins) (bare_at nodes k d less);
    pairs = λ i j d r less within. absurd (omega arith);
  }

  pub grows_more : (before after : List (Outline R)) (rings : List R) (ring : R) (end : Outline R) → Grows before rings after → length rings < length before
      → end ≡ get_or after (length rings) end → Grows before (rings ++ ring ∷ []) (set after (length rings) (connected end ring))
  grows_more before after rings ring end g room at =
      let to = length rings in
      let long = g.count in
      let more = length_push rings ring in record {
        count = length-set after to (connected end ring) ∙ g.count;
        grown = λ k d r less.
            ⊎_elim
            (λ (here : k ≡ to).
            ap (λ n. get_or (set after to (connected end ring)) n d) here ∙ get_or-set_same after to (connected end ring) d (omega arith)
            ∙ ap (λ o. connected o ring) (get_or_read after to end (omega arith) at d ∙ g.same to d (omega arith))
            ∙ ap (λ x. connected (get_or before to d) x) (sym (get_or_push rings ring r to refl))
            ∙ ap (λ n. connected (get_or before n d) (get_or (rings ++ ring ∷ []) n r)) (sym here))
            (λ (there : k ≡ to → ⊥).
            let below : k < to = omega arith in
            get_or-set_other after to k (connected end ring) d there ∙ g.grown k d r below
            ∙ ap (λ x. connected (get_or before k d) x) (sym (get_or_append_left rings (ring ∷ []) r k below)))
            (cases_eq k to);
        same = λ k d above. get_or-set_other after to k (connected end ring) d (λ e. absurd (omega arith)) ∙ g.same k d (omega arith);
      }

  first_of : (xs : List R) → 0 < length xs → R
  first_of [] some = absurd (omega arith)
  first_of (x ∷ xs) some = x

  -- what the rings that lead from an end don't change
  keeps : {B : Type 0} (f : Outline R → B) → ((o : Outline R) (rings : List R) → f (with_outs o rings) ≡ f o)
      → (ends : List (Outline R)) (at : ℕ) (end : Outline R) (rings : List R) (k : ℕ) (d : Outline R) → at < length ends → end ≡ get_or ends at end
      → f (get_or (set ends at (with_outs end rings)) k d) ≡ f (get_or ends k d)
  keeps f kept ends at end rings k d within is =
      ⊎_elim
      (λ (here : k ≡ at).
      ap (λ n. f (get_or (set ends at (with_outs end rings)) n d)) here ∙ ap f (get_or-set_same ends at (with_outs end rings) d within) ∙ kept end rings
      ∙ ap f (get_or_read ends at end within is d) ∙ ap (λ n. f (get_or ends n d)) (sym here))
      (λ (there : k ≡ at → ⊥). ap f (get_or-set_other ends at k (with_outs end rings) d there))
      (cases_eq k at)

  pub woven_more : (nodes done : ℕ) (ends mid : List (Outline R)) (rings : List R) (end : Outline R) → IsWoven nodes done ends → done < nodes
      → Grows ends rings mid → length rings ≡ nodes → end ≡ get_or mid done end
      → IsWoven nodes (done + 1) (set mid done (with_outs end rings))
  woven_more nodes done ends mid rings end woven room g full at =
      let later = set mid done (with_outs end rings) in
      let long = g.count in
      let count = woven.count in
      let within : done < length mid = omega arith in record {
        count = length-set mid done (with_outs end rings) ∙ g.count ∙ woven.count;
        numbers = λ k d less.
            keeps (λ o. o.number) (λ _ _. refl) mid done end rings k d within at
            ∙ ap (λ (o : Outline R). o.number) (g.grown k d (first_of rings (omega arith)) (omega arith)) ∙ woven.numbers k d less;
        outs = λ k d less.
            ⊎_elim
            (λ (here : k ≡ done).
            ap (λ n. length (get_or later n d).outs) here ∙ ap (λ (o : Outline R). length o.outs) (get_or-set_same mid done (with_outs end rings) d within) ∙ full)
            (λ (there : k ≡ done → ⊥).
            ap (λ (o : Outline R). length o.outs) (get_or-set_other mid done k (with_outs end rings) d there ∙ g.grown k d (first_of rings (omega arith)) (omega arith))
            ∙ woven.outs k d (omega arith))
            (cases_eq k done);
        ins = λ k d less.
            keeps (λ o. length o.ins) (λ _ _. refl) mid done end rings k d within at
            ∙ ap (λ (o : Outline R). length o.ins) (g.grown k d (first_of rings (omega arith)) (omega arith))
            ∙ length_push (get_or ends k d).ins (get_or rings k (first_of rings (omega arith)))
            ∙ ap (λ n. n + 1) (woven.ins k d less);
        pairs = λ i j d r less to.
            let long_ins = woven.ins j d to in
            let ins : (get_or later j d).ins ≡ (get_or ends j d).ins ++ get_or rings j r ∷ [] =
            keeps (λ o. o.ins) (λ _ _. refl) mid done end rings j d within at ∙ ap (λ (o : Outline R). o.ins) (g.grown j d r (omega arith)) in
            ⊎_elim
            (λ (here : i ≡ done).
            ap (λ n. get_or (get_or later n d).outs j r) here
            ∙ ap (λ (o : Outline R). get_or o.outs j r) (get_or-set_same mid done (with_outs end rings) d within)
            ∙ sym (get_or_push (get_or ends j d).ins (get_or rings j r) r done long_ins)
            ∙ ap (λ l. get_or l done r) (sym ins) ∙ ap (λ n. get_or (get_or later j d).ins n r) (sym here))
            (λ (there : i ≡ done → ⊥).
            let below : i < done = omega arith in
            ap (λ (o : Outline R). get_or o.outs j r) (get_or-set_other mid done i (with_outs end rings) d there ∙ g.grown i d r (omega arith))
            ∙ woven.pairs i j d r below to
            ∙ sym (get_or_append_left (get_or ends j d).ins (get_or rings j r ∷ []) r i (omega arith))
            ∙ ap (λ l. get_or l i r) (sym ins))
            (cases_eq i done);
      }
