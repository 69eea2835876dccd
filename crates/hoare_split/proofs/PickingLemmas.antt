-- On variables picked in order of their table.
use Rattle.std.proofs.Common.{◌≡◌, ℕ, ◌+◌, Bool, true, false, cond, List, [], ◌∷◌, ◌++◌, length, refl, sym, ap, ◌∙◌, append-nil, zero-add}
use Rattle.std.specs.List.{filter, range_with_len}
use Rattle.std.proofs.lemmas.List.{length-append}
use Rattle.std.proofs.lemmas.List.FromFn.{filter_of_map_range_with_len_more}
use Rattle.store_core.specs.declared.ids.VarId.{VarId}
use Rattle.hoare_split.specs.Picking.{numbered}

module _ (is : VarId → Bool) (n : ℕ) where
  abbrev v : VarId
  v = record { 0 = n }

  abbrev below : ℕ → List VarId
  below k = filter is (numbered (range_with_len 0 k))

  more : below (n + 1) ≡ below n ++ cond (is v) (v ∷ []) []
  more = filter_of_map_range_with_len_more is (λ k. record { 0 = k }) 0 n n (zero-add n)

  -- one more that is picked
  pub below-taken : (found new : List VarId) → found ≡ below n → is v ≡ true → new ≡ found ++ v ∷ [] → new ≡ below (n + 1)
  below-taken found new so_far taken one =
      one ∙ ap (λ xs. xs ++ v ∷ []) so_far ∙ sym (ap (λ b. below n ++ cond b (v ∷ []) []) taken) ∙ sym more

  -- and one that isn't
  pub below-passed : (found new : List VarId) → found ≡ below n → is v ≡ false → new ≡ found → new ≡ below (n + 1)
  below-passed found new so_far passed same =
      same ∙ so_far ∙ sym (append-nil (below n)) ∙ sym (ap (λ b. below n ++ cond b (v ∷ []) []) passed) ∙ sym more

  -- the same of how many they are
  pub count-taken : (count new : ℕ) → count ≡ length (below n) → is v ≡ true → new ≡ count + 1 → new ≡ length (below (n + 1))
  count-taken count new so_far taken one =
      one ∙ ap (λ k. k + 1) so_far ∙ sym (length-append (below n) (v ∷ [])) ∙ ap length (below-taken (below n) (below n ++ v ∷ []) refl taken refl)

  pub count-passed : (count new : ℕ) → count ≡ length (below n) → is v ≡ false → new ≡ count → new ≡ length (below (n + 1))
  count-passed count new so_far passed same = same ∙ so_far ∙ ap length (below-passed (below n) (below n) refl passed refl)
