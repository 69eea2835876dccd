-- A conjunct in the place of another that may stand for it on trees.
use Rattle.std.proofs.Common.{◌≡◌, ℕ, ◌↔◌, List, [], ◌∷◌, ◌++◌, sym, subst}
use Rattle.std.specs.Borrow.{Bor}
use Rattle.gta_theory.specs.Assignments.{Assignment, IsFinite}
use Rattle.ws2s_core.specs.declared.formula.Formula.{Formula}
use Rattle.ws2s_core.specs.Satisfaction.{WSat, Same}
use Rattle.ws2s_forms.specs.Forms.{and_list}
use Rattle.ws2s_forms.proofs.ConnectivesLemmas.{EachSat, EachSat-append, WSat-and_list}
use Rattle.store_core.specs.Tables.{TypeEntry, VarEntry}
use Rattle.tree_store.specs.Shapes.{LaysOut}
use Rattle.tree_reached.specs.Alike.{AlikeOnTrees, LaysOutTrees}
use Rattle.tree_reached.specs.Conjuncts.{lent, IsJoined, AreConjunctsOf}

joined-each : (formula : Formula) (fs : List Formula) (a : Assignment) → IsJoined formula fs → WSat formula a ↔ EachSat a fs
joined-each formula [] a joined = absurd joined
joined-each formula (f ∷ fs) a joined = subst (λ (g : Formula). WSat g a ↔ EachSat a (f ∷ fs)) joined (WSat-and_list a 0 (f ∷ fs))

module _ (types : List TypeEntry) (vars : List VarEntry) where
  pub alike-same : (f : Formula) → AlikeOnTrees types vars f f
  alike-same f = record { on = λ a finite laid h. h; back = λ a finite h. h }

  pub alike-is : (f g : Formula) → f ≡ g → AlikeOnTrees types vars f g
  alike-is f g is = subst (AlikeOnTrees types vars f) is (alike-same f)

  pub alike-on : (f g h : Formula) → AlikeOnTrees types vars f g → AlikeOnTrees types vars g h → AlikeOnTrees types vars f h
  alike-on f g h one other = record {
    on = λ a finite laid sat. other.on a finite laid (one.on a finite laid sat);
    back = λ a finite sat. one.back a finite (other.back a finite sat);
  }

  -- finite sets that satisfy all that is made and all that is left satisfy the formula, and those that lay out a backbone the other way round
  pub record GoesOn (formula : Formula) (made left : List Formula) : Type 0 where
    pub on : (a : Assignment) → IsFinite a → LaysOut types vars a → WSat formula a → EachSat a made × EachSat a left
    pub back : (a : Assignment) → IsFinite a → EachSat a made × EachSat a left → WSat formula a

  -- before the first one
  pub going-start : (formula : Formula) (conjuncts : List (Bor Formula)) → AreConjunctsOf formula conjuncts → GoesOn formula [] (lent conjuncts)
  going-start formula conjuncts joined = record {
    on = λ a finite laid sat. (tt, (joined-each formula (lent conjuncts) a joined).0 sat);
    back = λ a finite h. (joined-each formula (lent conjuncts) a joined).1 h.1;
  }

  -- one more
  pub going-next : (formula : Formula) (made new : List Formula) (left rest : List (Bor Formula)) (conjunct : Bor Formula) (next : Formula) →
      GoesOn formula made (lent left) → left ≡ conjunct ∷ rest → AlikeOnTrees types vars conjunct.now next → new ≡ made ++ next ∷ [] →
      GoesOn formula new (lent rest)
  going-next formula made new left rest conjunct next before is alike made_is =
      let at = subst (λ (fs : List (Bor Formula)). GoesOn formula made (lent fs)) is before in
      subst (λ (fs : List Formula). GoesOn formula fs (lent rest)) (sym made_is) (record {
        on = λ a finite laid sat.
            let h = at.on a finite laid sat in
            ((EachSat-append a made (next ∷ [])).1 (h.0, (alike.on a finite laid h.1.0, tt)), h.1.1);
        back = λ a finite h.
            let parts = (EachSat-append a made (next ∷ [])).0 h.0 in
            at.back a finite (parts.0, (alike.back a finite parts.1.0, h.1));
      })

  -- after the last one
  pub going-end : (formula whole : Formula) (next : ℕ) (made : List Formula) (left : List (Bor Formula)) → GoesOn formula made (lent left) → left ≡ [] →
      whole ≡ and_list next made → AlikeOnTrees types vars formula whole
  going-end formula whole next made left before none is =
      let at = subst (λ (fs : List (Bor Formula)). GoesOn formula made (lent fs)) none before in
      subst (AlikeOnTrees types vars formula) (sym is) (record {
        on = λ a finite laid sat. (WSat-and_list a next made).1 (at.on a finite laid sat).0;
        back = λ a finite sat. at.back a finite ((WSat-and_list a next made).0 sat, tt);
      })

  -- what is copied may stand for it too
  pub alike-copy : (f g h : Formula) → AlikeOnTrees types vars f g → h ≡ g → AlikeOnTrees types vars f h
  alike-copy f g h alike is = subst (AlikeOnTrees types vars f) (sym is) alike

  -- where all that satisfies the formula lays out a backbone, both mean the same
  pub same-on-trees : (f g : Formula) → LaysOutTrees types vars f → AlikeOnTrees types vars f g → Same f g
  same-on-trees f g lays alike = record {
    satisfied = λ a finite. ((λ sat. alike.on a finite (lays a finite sat) sat), (λ sat. alike.back a finite sat));
  }
