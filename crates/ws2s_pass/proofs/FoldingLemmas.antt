-- On formulas that are gone through from their parts up.
use Rattle.std.proofs.Common.{◌≡◌, ℕ, ◌<◌, List, [], ◌∷◌, ◌++◌, length, drop, get_or, IsSome, Option, Some, None, option_and_then}
use Rattle.std.proofs.Common.{drop-cons, rules, suc, sym, ap, ◌∙◌, append_assoc, append-nil}
use Rattle.ws2s_core.specs.declared.postfix.Symbol.{Symbol}
use Rattle.ws2s_core.specs.declared.formula.Formula.{Formula}
use Rattle.ws2s_core.specs.declared.formula.Formula.TheOpen.{Formula-F}
use Rattle.ws2s_core.specs.declared.formula.Formula.TheFolds.{fold-Formula}
use Rattle.ws2s_core.specs.Postfix.{postfix_of, postfix_of_node}
use Rattle.ws2s_core.proofs.FormulaLemmas.{formula-induction, fold-Sub, fold-Single, fold-Succ0, fold-Succ1, fold-Root, fold-And, fold-Not, fold-Ex2}
use Rattle.ws2s_pass.specs.Folding.{stepped, stepped_over}

module _ {Value : Type 0} (step : Formula-F Value → Value) where
  -- a formula's symbols put its value in the place of its parts
  pub stepped_over-postfix : (f : Formula) (rest : List Symbol) (parts : List Value) →
      stepped_over step (postfix_of f ++ rest) parts ≡ stepped_over step rest (fold-Formula Value step f ∷ parts)
  stepped_over-postfix = formula-induction
      (λ f. (rest : List Symbol) (parts : List Value) →
      stepped_over step (postfix_of f ++ rest) parts ≡ stepped_over step rest (fold-Formula Value step f ∷ parts))
      (record {
        of_Sub = λ x y rest parts. ap (λ s. stepped_over step (s ++ rest) parts) (fold-Sub (List Symbol) postfix_of_node x y)
            ∙ ap (λ v. stepped_over step rest (v ∷ parts)) (sym (fold-Sub Value step x y));
        of_Single = λ x rest parts. ap (λ s. stepped_over step (s ++ rest) parts) (fold-Single (List Symbol) postfix_of_node x)
            ∙ ap (λ v. stepped_over step rest (v ∷ parts)) (sym (fold-Single Value step x));
        of_Succ0 = λ x y rest parts. ap (λ s. stepped_over step (s ++ rest) parts) (fold-Succ0 (List Symbol) postfix_of_node x y)
            ∙ ap (λ v. stepped_over step rest (v ∷ parts)) (sym (fold-Succ0 Value step x y));
        of_Succ1 = λ x y rest parts. ap (λ s. stepped_over step (s ++ rest) parts) (fold-Succ1 (List Symbol) postfix_of_node x y)
            ∙ ap (λ v. stepped_over step rest (v ∷ parts)) (sym (fold-Succ1 Value step x y));
        of_Root = λ x rest parts. ap (λ s. stepped_over step (s ++ rest) parts) (fold-Root (List Symbol) postfix_of_node x)
            ∙ ap (λ v. stepped_over step rest (v ∷ parts)) (sym (fold-Root Value step x));
        of_And = λ f g of_f of_g rest parts.
            ap (λ s. stepped_over step (s ++ rest) parts) (fold-And (List Symbol) postfix_of_node f g
            ∙ ap (λ s. (postfix_of f ++ s) ++ Symbol.And ∷ []) (append-nil (postfix_of g)))
            ∙ ap (λ s. stepped_over step s parts) (append_assoc (postfix_of f ++ postfix_of g) (Symbol.And ∷ []) rest
            ∙ append_assoc (postfix_of f) (postfix_of g) (Symbol.And ∷ rest))
            ∙ of_f (postfix_of g ++ Symbol.And ∷ rest) parts
            ∙ of_g (Symbol.And ∷ rest) (fold-Formula Value step f ∷ parts)
            ∙ ap (λ v. stepped_over step rest (v ∷ parts)) (sym (fold-And Value step f g));
        of_Not = λ f of_f rest parts.
            ap (λ s. stepped_over step (s ++ rest) parts) (fold-Not (List Symbol) postfix_of_node f
            ∙ ap (λ s. s ++ Symbol.Not ∷ []) (append-nil (postfix_of f)))
            ∙ ap (λ s. stepped_over step s parts) (append_assoc (postfix_of f) (Symbol.Not ∷ []) rest)
            ∙ of_f (Symbol.Not ∷ rest) parts
            ∙ ap (λ v. stepped_over step rest (v ∷ parts)) (sym (fold-Not Value step f));
        of_Ex2 = λ t f of_f rest parts.
            ap (λ s. stepped_over step (s ++ rest) parts) (fold-Ex2 (List Symbol) postfix_of_node t f
            ∙ ap (λ s. s ++ Symbol.Ex2 t ∷ []) (append-nil (postfix_of f)))
            ∙ ap (λ s. stepped_over step s parts) (append_assoc (postfix_of f) (Symbol.Ex2 t ∷ []) rest)
            ∙ of_f (Symbol.Ex2 t ∷ rest) parts
            ∙ ap (λ v. stepped_over step rest (v ∷ parts)) (sym (fold-Ex2 Value step t f));
      })

  pub stepped_over-whole : (f : Formula) → stepped_over step (postfix_of f) [] ≡ Some (fold-Formula Value step f ∷ [])
  stepped_over-whole f =
      ap (λ s. stepped_over step s []) (sym (append-nil (postfix_of f))) ∙ stepped_over-postfix f [] []

  -- where a run ends well, its next symbol has its parts
  pub stepped-next : (symbols : List Symbol) (k : ℕ) (d : Symbol) (parts end : List Value) → k < length symbols →
      stepped_over step (drop k symbols) parts ≡ Some end → IsSome (stepped step (get_or symbols k d) parts)
  stepped-next symbols k d parts end inside h =
      some-before (stepped step (get_or symbols k d) parts) (stepped_over step (drop (suc k) symbols)) end
      (sym (ap (λ s. stepped_over step s parts) (drop-cons symbols k d inside)) ∙ h)
    where
      some-before : {A B : Type 0} (o : Option A) (k : A → Option B) (b : B) → option_and_then k o ≡ Some b → IsSome o
      some-before None k b e = absurd cc
      some-before (Some a) k b e = search rules
