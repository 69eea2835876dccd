-- What stands for values and guards, where a track has one position.
use Rattle.std.proofs.Common.{◌≡◌, ◌↔◌, ℕ, ◌<◌, ◌≤◌, IsTrue, [], Option, Some, None, sym, ◌∙◌, subst, arith}
use Rattle.std.proofs.lemmas.Bool.{false≢true}
use Rattle.gta_theory.specs.Assignments.{Position, PositionSet, Assignment, IsOnly}
use Rattle.ws2s_core.specs.declared.track.Track.{Track}
use Rattle.ws2s_core.specs.Satisfaction.{WSat}
use Rattle.ws2s_forms.proofs.ConnectivesLemmas.{WSat-false, WSat-true}
use Rattle.ws2s_forms.proofs.GoingLemmas.{WSat-flag}
use Rattle.store_core.specs.declared.ids.CellId.{CellId}
use Rattle.graph_view.specs.declared.view.Sym.{Sym}
use Rattle.graph_view.specs.declared.view.Sym.TheVariants.{Null, At}
use Rattle.graph_view.specs.Syms.{is_in, guard}
use Rattle.graph_view.specs.After.{Standing, IsAt, StandsForCell, IsTaken, IsSymBelow, IsGuardBelow}
use Rattle.graph_meaning.specs.Live.Meaning.{Agrees}
use Rattle.graph_meaning.proofs.live.AgreeingLemmas.{member-agreed}

-- a track in use has the same positions
pub on-agreed : (count : ℕ) (a b : Assignment) (t : ℕ) (p : Position) → Agrees count a b → t < count → IsTrue (b t p) ↔ IsTrue (a t p)
on-agreed count a b t p agrees below =
    let same = agrees.same t below in (
      (λ h. subst (λ (set : PositionSet). IsTrue (set p)) same h),
      (λ h. subst (λ (set : PositionSet). IsTrue (set p)) (sym same) h),
    )

pub guard-means : (count : ℕ) (a b : Assignment) (next : ℕ) (g : Option Track) → Agrees count a b → count ≤ next → IsGuardBelow count g →
    WSat (guard next g) b ↔ IsTaken a g
guard-means count a b next None agrees few below = ((λ h. tt), (λ h. WSat-true next b))
guard-means count a b next (Some h) agrees few below =
    let at_root = WSat-flag next h.0 b (omega (arith, few, below)) in
    let same = on-agreed count a b h.0 [] agrees below in (
      (λ k. same.0 (at_root.0 k)),
      (λ k. at_root.1 (same.1 k)),
    )

-- the value is a cell: it is in it exactly where the cell stands
pub is_in-cell : (count : ℕ) (a b : Assignment) (next x : ℕ) (p : Position) (at : Standing) (u : Sym) (c : CellId) →
    Agrees count a b → IsSymBelow count u → IsOnly (b x) p → ((q r : Position) → IsAt at c q → IsAt at c r → q ≡ r) →
    StandsForCell a at u (Some c) → WSat (is_in next x u) b ↔ IsAt at c p
is_in-cell count a b next x p at Null c agrees below only one names = absurd names
is_in-cell count a b next x p at (At t) c agrees below only one names =
    let member = member-agreed count a b x t.0 p agrees below only in
    let (q, alone, here) = names in (
      (λ h. subst (λ r. IsAt at c r) (sym ((alone p).0 (member.0 h))) here),
      (λ h. member.1 ((alone p).1 (one p q h here))),
    )

-- it is null: nothing is in it
pub is_in-null : (count : ℕ) (a b : Assignment) (next x : ℕ) (p : Position) (at : Standing) (u : Sym) →
    Agrees count a b → IsSymBelow count u → IsOnly (b x) p → StandsForCell a at u None → WSat (is_in next x u) b → ⊥
is_in-null count a b next x p at Null agrees below only names h = WSat-false next b h
is_in-null count a b next x p at (At t) agrees below only names h =
    false≢true (sym (names p) ∙ (member-agreed count a b x t.0 p agrees below only).0 h)
