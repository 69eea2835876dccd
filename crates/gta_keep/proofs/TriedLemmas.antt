-- On a builder's two tries: what its answer is about when what is kept was let go of between them.
use Rattle.std.proofs.Common.{◌≡◌, ℕ, ◌↔◌, Ok, Err, IfOk, List, [], Contains, subst}
use Rattle.bdd_nodes.specs.Shelf.{Contents, IsShelf, limit_of}
use Rattle.bdd_nodes.specs.Changes.{Keeps, SameTables}
use Rattle.gta_theory.specs.Assignments.{Assignment}
use Rattle.gta_theory.specs.Guides.{Spaces}
use Rattle.gta_theory.specs.Automata.{Automaton, Accepts}
use Rattle.gta_theory.specs.Minimal.{IsMinimal}
use Rattle.gta_theory.specs.Numbered.{Below}
use Rattle.gta_core.specs.Auto.{AutoView, states_of, automaton_of, IsAuto}
use Rattle.gta_core.proofs.AutoLemmas.{automaton_of-kept}
use Rattle.gta_product.specs.Product.{IsProductOf}
use Rattle.gta_project.specs.Project.{IsSubsetOf}
use Rattle.ws2s_core.specs.declared.formula.Formula.{Formula}
use Rattle.ws2s_core.specs.Recognising.{Recognises}
use Rattle.ws2s_theory.proofs.FormsLemmas.{Recognises-same}
use Rattle.gta_keep.specs.Holding.{HoldsBeside, Passes, IsMinimalFor}
use Rattle.gta_keep.proofs.PassesLemmas.{Entries, Passes-both, Passes-made, Passes-beside, HoldsBeside-none, HoldsBeside-after, KeepsTable-waits}
use Rattle.gta_keep.proofs.MadeLemmas.{Answer, auto-beside}

-- what accepts the same and is minimal is a minimal automaton of what the first recognises
pub minimal-answer : (g : Spaces) (old new : Contents) (a : AutoView) (result : Answer) →
    IfOk result (λ m. (x : Assignment) → Accepts g (automaton_of new m) x ↔ Accepts g (automaton_of old a) x) →
    IfOk result (λ m. IsMinimal g (automaton_of new m) (Below (states_of m))) →
    IfOk result (λ m. (f : Formula) → Recognises g (automaton_of old a) f → IsMinimalFor g new m f)
minimal-answer g old new a (Ok m) accepts minimal = λ f recognises. record {
  minimal = minimal;
  recognises = Recognises-same g (automaton_of old a) (automaton_of new m) f recognises minimal.stable (λ x. ((accepts x).1, (accepts x).0));
}
minimal-answer g old new a (Err stop) accepts minimal = tt

-- from the call over the first try to the room that is left
module _ (g : Spaces) (was tried left : Contents) (xs : List AutoView) (kept after : Entries) (held : HoldsBeside g was xs kept)
    (is_shelf : IsShelf tried) (keeps : Keeps was tried) (same : SameTables was tried) (limit : limit_of tried ≡ limit_of was) where
  pub first_try : Passes g was tried [] [] kept kept
  first_try = Passes-made g was tried kept held.holds.is_shelf is_shelf keeps same limit

  pub tried-held : HoldsBeside g tried [] kept
  tried-held = HoldsBeside-after g was tried [] [] kept kept first_try (HoldsBeside-none g was xs kept held)

  module _ (then : Passes g tried left [] [] kept after) where
    pub left_passes : Passes g was left [] [] kept after
    left_passes = Passes-both g was tried left [] [] [] kept kept after first_try then

    pub left_beside : Passes g was left xs xs kept after
    left_beside = Passes-beside g was left xs kept after left_passes

    pub left_held : HoldsBeside g left xs after
    left_held = HoldsBeside-after g was left xs xs kept after left_beside held

    pub left_auto : (a : AutoView) → Contains xs a → IsAuto g left a
    left_auto = auto-beside g left xs after left_held

    pub left_same : (a : AutoView) → Contains xs a → automaton_of left a ≡ automaton_of was a
    left_same a there = automaton_of-kept was left a (KeepsTable-waits g was left xs kept after left_passes held a there)

    pub answer-minimal : (new : Contents) (a : AutoView) → Contains xs a → (result : Answer) →
        IfOk result (λ m. (f : Formula) → Recognises g (automaton_of left a) f → IsMinimalFor g new m f) →
        IfOk result (λ m. (f : Formula) → Recognises g (automaton_of was a) f → IsMinimalFor g new m f)
    answer-minimal new a there result =
        subst (λ (A : Automaton ℕ).
        IfOk result (λ m. (f : Formula) → Recognises g (automaton_of left a) f → IsMinimalFor g new m f) →
        IfOk result (λ m. (f : Formula) → Recognises g A f → IsMinimalFor g new m f)) (left_same a there) (λ is. is)

    pub answer-product : (new : Contents) (a b : AutoView) → Contains xs a → Contains xs b → (result : Answer) →
        IfOk result (λ c. IsProductOf g (automaton_of left a) (automaton_of left b) (automaton_of new c) (states_of c)) →
        IfOk result (λ c. IsProductOf g (automaton_of was a) (automaton_of was b) (automaton_of new c) (states_of c))
    answer-product new a b there_a there_b result is =
        subst (λ (A : Automaton ℕ). IfOk result (λ c. IsProductOf g A (automaton_of was b) (automaton_of new c) (states_of c))) (left_same a there_a)
        (subst (λ (B : Automaton ℕ). IfOk result (λ c. IsProductOf g (automaton_of left a) B (automaton_of new c) (states_of c)))
        (left_same b there_b) is)

    pub answer-subset : (new : Contents) (a : AutoView) (t : ℕ) → Contains xs a → (result : Answer) →
        IfOk result (λ c. IsSubsetOf g (automaton_of left a) t (automaton_of new c) (states_of c)) →
        IfOk result (λ c. IsSubsetOf g (automaton_of was a) t (automaton_of new c) (states_of c))
    answer-subset new a t there result is =
        subst (λ (A : Automaton ℕ). IfOk result (λ c. IsSubsetOf g A t (automaton_of new c) (states_of c))) (left_same a there) is
