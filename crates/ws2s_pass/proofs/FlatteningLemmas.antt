-- On negations of negations.
use Rattle.std.proofs.Common.{◌≡◌, sym, subst, ◌∙◌, arith, unwrap_or}
use Rattle.ws2s_core.specs.declared.formula.Formula.{Formula, roll-Formula, out-Formula}
use Rattle.ws2s_core.specs.declared.formula.Formula.TheVariants.{Not}
use Rattle.ws2s_core.specs.declared.formula.Formula.TheVariants.{rolls-Not}
use Rattle.ws2s_core.specs.declared.formula.Formula.TheOpen.{Formula-F}
use Rattle.ws2s_core.proofs.SatisfactionLemmas.{WSat-Not}
use Rattle.ws2s_pass.specs.Rewriting.{IsRewriting}
use Rattle.ws2s_core.specs.Negated.{negated_of_node}
use Rattle.ws2s_pass.specs.Flattening.{negation_of, flattened, flattened_node}
use Rattle.ws2s_pass.proofs.RewritingLemmas.{IsRewriting-refl, IsRewriting-fold, count-Not, free-Not, rolled-out, not_not}

pub IsRewriting-not_not : (f : Formula) → IsRewriting (Not (Not f)) f
IsRewriting-not_not f = record {
  same = record {
    satisfied = λ a finite. (
      (λ h. not_not f a finite (λ k. (WSat-Not (Not f) a).0 h ((WSat-Not f a).1 k))),
      (λ h. (WSat-Not (Not f) a).1 (λ k. (WSat-Not f a).0 k h)),
    );
  };
  free = λ t free. free-Not t (Not f) ∙ free-Not t f ∙ free;
  size = (let one = count-Not (Not f) in let two = count-Not f in omega arith);
}

at_node : (node : Formula-F Formula) (f : Formula) → roll-Formula node ≡ f → IsRewriting (Not f) (unwrap_or (negated_of_node node) (Not f))
at_node (Formula-F.Not g) f e =
    subst (λ h. IsRewriting (Not h) g) (sym (rolls-Not g) ∙ e) (IsRewriting-not_not g)
at_node (Formula-F.Sub x y) f e = IsRewriting-refl (Not f)
at_node (Formula-F.Single x) f e = IsRewriting-refl (Not f)
at_node (Formula-F.Succ0 x y) f e = IsRewriting-refl (Not f)
at_node (Formula-F.Succ1 x y) f e = IsRewriting-refl (Not f)
at_node (Formula-F.Root x) f e = IsRewriting-refl (Not f)
at_node (Formula-F.And g h) f e = IsRewriting-refl (Not f)
at_node (Formula-F.Ex2 t g) f e = IsRewriting-refl (Not f)

pub IsRewriting-negation : (f : Formula) → IsRewriting (Not f) (negation_of f)
IsRewriting-negation f = at_node (out-Formula f) f (rolled-out f)

local : (node : Formula-F Formula) → IsRewriting (roll-Formula node) (flattened_node node)
local (Formula-F.Not f) = subst (λ g. IsRewriting g (negation_of f)) (sym (rolls-Not f)) (IsRewriting-negation f)
local (Formula-F.Sub x y) = IsRewriting-refl _
local (Formula-F.Single x) = IsRewriting-refl _
local (Formula-F.Succ0 x y) = IsRewriting-refl _
local (Formula-F.Succ1 x y) = IsRewriting-refl _
local (Formula-F.Root x) = IsRewriting-refl _
local (Formula-F.And f g) = IsRewriting-refl _
local (Formula-F.Ex2 t f) = IsRewriting-refl _

pub IsRewriting-flattened : (f : Formula) → IsRewriting f (flattened f)
IsRewriting-flattened = IsRewriting-fold flattened_node local
