-- On nodes that follow one another.
use Rattle.std.proofs.Common.{◌≡◌, inl, inr, List, [], ◌∷◌, ◌++◌, length, take, sym, ap, subst, ◌∙◌, arith}
use Rattle.std.proofs.lemmas.List.{take-append-le, take_all}
use Rattle.std.proofs.lemmas.Option.{slice_get_within}
use Rattle.gta_theory.proofs.ListedLemmas.{slice_get-push}
use Rattle.cert_text.specs.declared.line.NodeLine.{NodeLine}
use Rattle.cert_nodes.specs.Nodes.{MayFollow, AreNodes}

-- one that may follow does
pub AreNodes-push : (nodes : List NodeLine) (node : NodeLine) → AreNodes nodes → MayFollow nodes node → AreNodes (nodes ++ node ∷ [])
AreNodes-push nodes node are follows k other at =
    elim (slice_get-push nodes node other k at) as (λ _. MayFollow (take k (nodes ++ node ∷ [])) other) [
      | inl old ↦
          let within = slice_get_within nodes k other old in
          subst (λ (l : List NodeLine). MayFollow l other) (sym (take-append-le k nodes (node ∷ []) (omega (arith, within)))) (are k other old)
      | inr new ↦
          let front : nodes ≡ take k (nodes ++ node ∷ []) =
          sym (ap (λ n. take n (nodes ++ node ∷ [])) new.0 ∙ take-append-le (length nodes) nodes (node ∷ []) (omega arith)
          ∙ take_all (length nodes) nodes (omega arith)) in
          subst (MayFollow (take k (nodes ++ node ∷ []))) new.1 (subst (λ (l : List NodeLine). MayFollow l node) front follows)
    ]

-- also where the new list is said to be so
pub AreNodes_grown : (nodes grown : List NodeLine) (node : NodeLine) → AreNodes nodes → MayFollow nodes node → grown ≡ nodes ++ node ∷ [] → AreNodes grown
AreNodes_grown nodes grown node are follows is = subst AreNodes (sym is) (AreNodes-push nodes node are follows)

-- and where it is the old one
pub AreNodes_kept : (nodes kept : List NodeLine) → AreNodes nodes → kept ≡ nodes → AreNodes kept
AreNodes_kept nodes kept are is = subst AreNodes (sym is) are
