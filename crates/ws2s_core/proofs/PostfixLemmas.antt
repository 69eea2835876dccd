-- On formulas in postfix order.
use Rattle.std.proofs.Common.{◌≡◌, ℕ, ◌<◌, List, [], ◌∷◌, ◌++◌, length, drop, get_or, IsSome, Option, Some, None, option_and_then}
use Rattle.std.proofs.Common.{drop-cons, rules, suc, sym, ap, ◌∙◌, append_assoc, append-nil}
use Rattle.ws2s_core.specs.declared.postfix.Symbol.{Symbol}
use Rattle.ws2s_core.specs.declared.formula.Formula.{Formula}
use Rattle.ws2s_core.specs.declared.formula.Formula.TheVariants.{rolls-Sub, rolls-Single, rolls-Succ0, rolls-Succ1, rolls-Root, rolls-And, rolls-Not, rolls-Ex2}
use Rattle.ws2s_core.specs.Postfix.{postfix_of, postfix_of_node, applied, run_on}
use Rattle.ws2s_core.proofs.FormulaLemmas.{formula-induction, fold-Sub, fold-Single, fold-Succ0, fold-Succ1, fold-Root, fold-And, fold-Not, fold-Ex2}

-- a formula's symbols put the formula in the place of its parts
pub run_on-postfix : (f : Formula) (rest : List Symbol) (parts : List Formula) →
    run_on (postfix_of f ++ rest) parts ≡ run_on rest (f ∷ parts)
run_on-postfix = formula-induction
    (λ f. (rest : List Symbol) (parts : List Formula) → run_on (postfix_of f ++ rest) parts ≡ run_on rest (f ∷ parts)) (record {
      of_Sub = λ x y rest parts. ap (λ s. run_on (s ++ rest) parts) (fold-Sub (List Symbol) postfix_of_node x y)
          ∙ ap (λ f. run_on rest (f ∷ parts)) (rolls-Sub x y);
      of_Single = λ x rest parts. ap (λ s. run_on (s ++ rest) parts) (fold-Single (List Symbol) postfix_of_node x)
          ∙ ap (λ f. run_on rest (f ∷ parts)) (rolls-Single x);
      of_Succ0 = λ x y rest parts. ap (λ s. run_on (s ++ rest) parts) (fold-Succ0 (List Symbol) postfix_of_node x y)
          ∙ ap (λ f. run_on rest (f ∷ parts)) (rolls-Succ0 x y);
      of_Succ1 = λ x y rest parts. ap (λ s. run_on (s ++ rest) parts) (fold-Succ1 (List Symbol) postfix_of_node x y)
          ∙ ap (λ f. run_on rest (f ∷ parts)) (rolls-Succ1 x y);
      of_Root = λ x rest parts. ap (λ s. run_on (s ++ rest) parts) (fold-Root (List Symbol) postfix_of_node x)
          ∙ ap (λ f. run_on rest (f ∷ parts)) (rolls-Root x);
      of_And = λ f g of_f of_g rest parts.
          ap (λ s. run_on (s ++ rest) parts) (fold-And (List Symbol) postfix_of_node f g
          ∙ ap (λ s. (postfix_of f ++ s) ++ Symbol.And ∷ []) (append-nil (postfix_of g)))
          ∙ ap (λ s. run_on s parts) (append_assoc (postfix_of f ++ postfix_of g) (Symbol.And ∷ []) rest
          ∙ append_assoc (postfix_of f) (postfix_of g) (Symbol.And ∷ rest))
          ∙ of_f (postfix_of g ++ Symbol.And ∷ rest) parts
          ∙ of_g (Symbol.And ∷ rest) (f ∷ parts)
          ∙ ap (λ h. run_on rest (h ∷ parts)) (rolls-And f g);
      of_Not = λ f of_f rest parts.
          ap (λ s. run_on (s ++ rest) parts) (fold-Not (List Symbol) postfix_of_node f ∙ ap (λ s. s ++ Symbol.Not ∷ []) (append-nil (postfix_of f)))
          ∙ ap (λ s. run_on s parts) (append_assoc (postfix_of f) (Symbol.Not ∷ []) rest)
          ∙ of_f (Symbol.Not ∷ rest) parts
          ∙ ap (λ h. run_on rest (h ∷ parts)) (rolls-Not f);
      of_Ex2 = λ t f of_f rest parts.
          ap (λ s. run_on (s ++ rest) parts) (fold-Ex2 (List Symbol) postfix_of_node t f ∙ ap (λ s. s ++ Symbol.Ex2 t ∷ []) (append-nil (postfix_of f)))
          ∙ ap (λ s. run_on s parts) (append_assoc (postfix_of f) (Symbol.Ex2 t ∷ []) rest)
          ∙ of_f (Symbol.Ex2 t ∷ rest) parts
          ∙ ap (λ h. run_on rest (h ∷ parts)) (rolls-Ex2 t f);
    })

pub run_on-whole : (f : Formula) → run_on (postfix_of f) [] ≡ Some (f ∷ [])
run_on-whole f = ap (λ s. run_on s []) (sym (append-nil (postfix_of f))) ∙ run_on-postfix f [] []

-- where a run ends well, its next symbol has its parts
some-before : {A B : Type 0} (o : Option A) (k : A → Option B) (b : B) → option_and_then k o ≡ Some b → IsSome o
some-before None k b e = absurd cc
some-before (Some a) k b e = search rules

pub applied-next : (symbols : List Symbol) (k : ℕ) (d : Symbol) (parts end : List Formula) → k < length symbols →
    run_on (drop k symbols) parts ≡ Some end → IsSome (applied (get_or symbols k d) parts)
applied-next symbols k d parts end inside h =
    some-before (applied (get_or symbols k d) parts) (run_on (drop (suc k) symbols)) end
    (sym (ap (λ s. run_on s parts) (drop-cons symbols k d inside)) ∙ h)
