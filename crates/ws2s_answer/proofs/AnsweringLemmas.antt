-- From verdicts on a text's two formulas to the answer.
use Rattle.std.proofs.Common.{◌≡◌, ℕ, zero, suc, ◌<◌, ◌||◌, false, cond, List, ◌∷◌, length}
use Rattle.std.proofs.Common.{refl, sym, ap, subst, ◌∙◌, arith, ne_eqb}
use Rattle.gta_theory.specs.Assignments.{Assignment, Covers}
use Rattle.gta_theory.specs.Weights.{weight}
use Rattle.gta_witness.specs.Lightest.{each_once, is_among, AreTooLarge}
use Rattle.gta_witness.proofs.LargeLemmas.{AreTooLarge-for}
use Rattle.ws2s_core.specs.declared.formula.Formula.{Formula}
use Rattle.ws2s_core.specs.declared.track.Track.{Track}
use Rattle.ws2s_core.specs.declared.label_tree.TreeNode.{TreeNode}
use Rattle.ws2s_core.specs.LabelTrees.{assignment_of}
use Rattle.ws2s_core.specs.Satisfaction.{WSat}
use Rattle.ws2s_theory.specs.Peaks.{HasPeak}
use Rattle.ws2s_syntax.specs.Checked.{Text}
use Rattle.ws2s_reduce.specs.Answer.{MeansText, MeansBroken, free_from}
use Rattle.ws2s_reduce.specs.Reducing.{holds_of, breaks_of}
use Rattle.ws2s_decide.specs.Deciding as deciding
use Rattle.ws2s_answer.specs.Answering.{numbers_from, total_size, IsModel, IsUnsatisfiable, IsValid, IsLeastModel, IsPeakAbove, plain}

pub unsatisfiable : (text : Text) (f : Formula) → MeansText text f → deciding.IsUnsatisfiable f → IsUnsatisfiable text
unsatisfiable text f means none n a covers model = none n a covers ((means a).1 (model.free, model.gives, model.satisfies))

pub valid : (text : Text) (f : Formula) → MeansBroken text f → deciding.IsUnsatisfiable f → IsValid text
valid text f means none n a free covers gives = λ not. none n a covers ((means a).1 (free, gives, not))

not_among : (n k t : ℕ) → t < n → is_among (free_from n k) t ≡ false
not_among n zero t less = refl
not_among n (suc k) t less =
    ap (λ b. b || is_among (free_from (suc n) k) t) (ne_eqb n t (λ e. omega (arith, less, e))) ∙ not_among (suc n) k t (omega (arith, less))

each_once-free : (n k : ℕ) → each_once (free_from n k) ≡ numbers_from n k
each_once-free n zero = refl
each_once-free n (suc k) =
    ap (λ b. cond b (each_once (free_from (suc n) k)) (n ∷ each_once (free_from (suc n) k))) (not_among (suc n) k n (omega arith))
    ∙ ap (λ ts. n ∷ ts) (each_once-free (suc n) k)

pub least_model : (text : Text) (f : Formula) (tracks : List Track) (nodes : List TreeNode) (w : ℕ) → MeansText text f →
    tracks ≡ free_from 0 (length text.free) → deciding.IsLightestModel tracks f nodes w → IsLeastModel text nodes
least_model text f tracks nodes w means free lightest =
    let counted : each_once tracks ≡ numbers_from 0 (length text.free) = ap each_once free ∙ each_once-free 0 (length text.free) in
    let model = (means (assignment_of nodes)).0 lightest.satisfies in
    let weighs : total_size text (length nodes) (assignment_of nodes) ≡ w =
    ap (λ ts. weight ts (length nodes) (assignment_of nodes)) (sym counted) ∙ lightest.weighs in
    record {
      model = record { free = model.0; gives = model.1; satisfies = model.2 };
      least = λ n a covers other.
          let less = lightest.least n a covers ((means a).1 (other.free, other.gives, other.satisfies)) in
          let size : weight (each_once tracks) n a ≡ total_size text n a = ap (λ ts. weight ts n a) counted in
          omega (arith, less, size, weighs);
    }

-- the models of a text whose lightest trees are too large
pub large_models : (text : Text) (f : Formula) (tracks : List Track) → MeansText text f → tracks ≡ free_from 0 (length text.free) →
    AreTooLarge (WSat f) (each_once tracks) → AreTooLarge (IsModel text) (numbers_from 0 (length text.free))
large_models text f tracks means free large =
    let counted : each_once tracks ≡ numbers_from 0 (length text.free) = ap each_once free ∙ each_once-free 0 (length text.free) in
    subst (AreTooLarge (IsModel text)) counted
    (AreTooLarge-for (WSat f) (IsModel text) (each_once tracks)
    (λ n a covers sat. let model = (means a).0 sat in record { free = model.0; gives = model.1; satisfies = model.2 })
    (λ n a covers model. (means a).1 (model.free, model.gives, model.satisfies)) large)

-- what breaks a text shows that it isn't valid
pub not_valid : (text : Text) (f : Formula) (n : ℕ) (a : Assignment) → MeansBroken text f → Covers n a → WSat f a → IsValid text → ⊥
not_valid text f n a means covers sat is_valid =
    let broken = (means a).0 sat in
    is_valid n a broken.0 covers broken.1 broken.2

pub above_holds : (limit : ℕ) (text : Text) → ((p : ℕ) → HasPeak plain (holds_of text) p → limit < p) → IsPeakAbove limit text
above_holds limit text above p q holds breaks = omega (arith, above p holds)

pub above_breaks : (limit : ℕ) (text : Text) → ((q : ℕ) → HasPeak plain (breaks_of text) q → limit < q) → IsPeakAbove limit text
above_breaks limit text above p q holds breaks = omega (arith, above q breaks)
