-- On quantifiers of unused tracks.
use Rattle.std.proofs.Common.{◌≡◌, ℕ, Bool, true, false, cond, eqb, refl, sym, subst, ◌∙◌, arith, eqb-true}
use Rattle.std.proofs.lemmas.Bool.{false≢true}
use Rattle.ws2s_core.specs.declared.track.Track.{Track}
use Rattle.ws2s_core.specs.declared.formula.Formula.{Formula, roll-Formula}
use Rattle.ws2s_core.specs.declared.formula.Formula.TheVariants.{Ex2, rolls-Ex2}
use Rattle.ws2s_core.specs.declared.formula.Formula.TheOpen.{Formula-F}
use Rattle.ws2s_core.specs.Tracks.{is_free, IsFree}
use Rattle.ws2s_core.proofs.SatisfactionLemmas.{WSat-Ex2}
use Rattle.ws2s_theory.proofs.ContextsLemmas.{WSat-unbound, WSat-quantified}
use Rattle.ws2s_pass.specs.Rewriting.{IsRewriting}
use Rattle.ws2s_pass.specs.Using.{quantified_where_free, used_node, without_unused}
use Rattle.ws2s_pass.proofs.RewritingLemmas.{IsRewriting-refl, IsRewriting-fold, count-Ex2, free-Ex2}

-- a quantifier of a track that isn't free says nothing
pub IsRewriting-unused : (t : Track) (f : Formula) → is_free t.0 f ≡ false → IsRewriting (Ex2 t f) f
IsRewriting-unused t f unused = record {
  same = record {
    satisfied = λ a finite. (
      (λ h.
          let set = (WSat-Ex2 t f a).0 h in
          (WSat-unbound f t.0 a set.0 (λ free. false≢true (sym unused ∙ free))).1 set.2),
      (λ h. WSat-quantified t f a finite h),
    );
  };
  free = λ u free. free-Ex2 u t f ∙ other u free (eqb t.0 u) refl;
  size = (let e = count-Ex2 t f in omega arith);
}
  where
    other : (u : ℕ) → IsFree u f → (b : Bool) → eqb t.0 u ≡ b → cond b false (is_free u f) ≡ true
    other u free true e = absurd (false≢true (sym unused ∙ subst (λ (v : ℕ). is_free v f ≡ true) (sym (eqb-true t.0 u e)) free))
    other u free false e = free

at_test : (t : Track) (f : Formula) (b : Bool) → is_free t.0 f ≡ b → IsRewriting (Ex2 t f) (cond b (Ex2 t f) f)
at_test t f true e = IsRewriting-refl (Ex2 t f)
at_test t f false e = IsRewriting-unused t f e

local : (node : Formula-F Formula) → IsRewriting (roll-Formula node) (used_node node)
local (Formula-F.Ex2 t f) = subst (λ g. IsRewriting g (quantified_where_free t f)) (sym (rolls-Ex2 t f)) (at_test t f (is_free t.0 f) refl)
local (Formula-F.Sub x y) = IsRewriting-refl _
local (Formula-F.Single x) = IsRewriting-refl _
local (Formula-F.Succ0 x y) = IsRewriting-refl _
local (Formula-F.Succ1 x y) = IsRewriting-refl _
local (Formula-F.Root x) = IsRewriting-refl _
local (Formula-F.And f g) = IsRewriting-refl _
local (Formula-F.Not f) = IsRewriting-refl _

pub IsRewriting-without_unused : (f : Formula) → IsRewriting f (without_unused f)
IsRewriting-without_unused = IsRewriting-fold used_node local
