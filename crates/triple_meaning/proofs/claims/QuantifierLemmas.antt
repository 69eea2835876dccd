-- Quantifiers of assertions, over cells and over sets of cells of a type.
use Rattle.std.proofs.Common.{◌≡◌, ◌↔◌, ℕ, suc, ◌≤◌, IsTrue, List, Some, sym, ◌∙◌, subst, arith}
use Rattle.gta_theory.specs.Assignments.{Position, PositionSet, Assignment, IsFiniteSet, replace}
use Rattle.gta_theory.proofs.AssignmentsLemmas.{replace-same, replace-other}
use Rattle.ws2s_core.specs.declared.formula.Formula.{Formula}
use Rattle.ws2s_core.specs.declared.formula.Formula.TheVariants.{Sub, And, Not}
use Rattle.ws2s_core.specs.Satisfaction.{WSat}
use Rattle.ws2s_core.proofs.SatisfactionLemmas.{WSat-And, WSat-Not, WSat-Ex2}
use Rattle.ws2s_forms.specs.Forms.{track, imp, ex1, all1}
use Rattle.ws2s_forms.specs.Places.{just, with_position}
use Rattle.ws2s_forms.proofs.LawsLemmas.{law-ex1, law-all1, law-imp, law-member, not_not}
use Rattle.store_core.specs.declared.ids.CellId.{CellId}
use Rattle.store_core.specs.declared.ids.TypeId.{TypeId}
use Rattle.store_core.specs.declared.value.Value.{Value}
use Rattle.store_core.specs.declared.value.Value.TheVariants as value
use Rattle.store_core.specs.Stores.{StoreMap, cell_of}
use Rattle.routing_walks.specs.Walks.{IsOfType}
use Rattle.routing_walks.proofs.LiveLemmas.{IsSome-and}
use Rattle.store_logic.specs.Sorts.{Sort, Cell, Set}
use Rattle.store_logic.specs.Terms.{Environment, under}
use Rattle.store_logic.specs.Satisfaction.{IsSetOf}
use Rattle.tree_encode.specs.Layouts.{LaidOut}
use Rattle.graph_view.specs.declared.view.Sym.TheVariants.{At}
use Rattle.graph_view.specs.declared.view.View.{View}
use Rattle.graph_view.specs.Sights.{Sight, sight_of}
use Rattle.graph_view.specs.Live.{lives_in}
use Rattle.graph_view.specs.After.{Standing, IsAt, StandsFor, StandsForCells}
use Rattle.graph_meaning.specs.Live.Meaning.{Agrees}
use Rattle.graph_meaning.specs.Live.Standing.{TypeAt}
use Rattle.graph_meaning.proofs.live.AgreeingLemmas.{Agrees-itself, Agrees-set, Agrees-bound, IsOnly-bound}
use Rattle.graph_meaning.specs.Walks.Wells.{ShowsWell}
use Rattle.graph_meaning.proofs.walks.GroundLemmas.{IsGround}
use Rattle.graph_meaning.proofs.walks.SeenLemmas.{ground}
use Rattle.site_list.specs.Claims.{ex_set}
use Rattle.triple_meaning.specs.Claims.Bound.{HasForm}
use Rattle.triple_meaning.proofs.claims.SetLemmas.{Covers, set-cells, set-of-cells, covered-typed}

module _ (l : LaidOut) (view : View) (a : Assignment) (first s t : StoreMap) (at : Standing) (count : ℕ) (wells : ShowsWell l view a first s t at count)
    (own : ℕ) (b : Assignment) (agrees : Agrees count a b) (few : count ≤ own) (e : Environment) (ty : TypeId) (formula : ℕ → Formula)
    (Holding : Environment → Type 0) where
  abbrev sight : Sight
  sight = sight_of l.vars view

  looks : IsGround l.types (sight_of l.vars view) count a s t at
  looks = ground l view a first s t at count wells.shows

  -- what is inside means this of each value on the next track
  abbrev pub IsInner : Sort → Type 0
  IsInner sort = (x : Value) (c : Assignment) → Agrees own b c → HasForm sort x → StandsFor c at (At (track own)) x → WSat (formula (suc own)) c ↔ Holding
      (under x e)

  -- ---- over cells

  module _ (inner : IsInner (Cell ty)) where
    at-cell : (c : CellId) (p : Position) → IsAt at c p → WSat (formula (suc own)) (with_position b own p) ↔ Holding (under (value.Cell (Some c)) e)
    at-cell c p here =
        inner (value.Cell (Some c)) (with_position b own p) (Agrees-bound own b b own p (Agrees-itself own b agrees.finite) (omega arith)) tt
        (p, IsOnly-bound b own p, here)

    lives-at : (p : Position) → WSat (lives_in l.types (sight_of l.vars view) (suc own) ty own) (with_position b own p) ↔ TypeAt t at ty p
    lives-at p =
        looks.typed ty (with_position b own p) (suc own) own p (Agrees-bound count a b own p agrees few) (omega (arith, few)) (omega arith)
        (IsOnly-bound b own p)

    pub some-cell-means : WSat (ex1 own (And (lives_in l.types (sight_of l.vars view) (suc own) ty own) (formula (suc own)))) b
        ↔ ((c : CellId) × IsOfType t ty c × Holding (under (value.Cell (Some c)) e))
    some-cell-means =
        let some = law-ex1 own (And (lives_in l.types sight (suc own) ty own) (formula (suc own))) b in (
          (λ h.
              let (p, holds) = some.0 h in
              let parts = (WSat-And (lives_in l.types sight (suc own) ty own) (formula (suc own)) (with_position b own p)).0 holds in
              let (c, here, of_ty) = (lives-at p).0 parts.0 in
              (c, of_ty, (at-cell c p here).0 parts.1)),
          (λ h.
              let (c, of_ty, holds) = h in
              let (p, here) = looks.there c (IsSome-and (cell_of t c) (λ z. z.variant.ty ≡ ty) of_ty) in
              some.1 (
                p,
                (WSat-And (lives_in l.types sight (suc own) ty own) (formula (suc own)) (with_position b own p)).1
                    ((lives-at p).1 (c, here, of_ty), (at-cell c p here).1 holds),
              )),
        )

    pub each-cell-means : WSat (all1 own (imp (lives_in l.types (sight_of l.vars view) (suc own) ty own) (formula (suc own)))) b
        ↔ ((c : CellId) → IsOfType t ty c → Holding (under (value.Cell (Some c)) e))
    each-cell-means =
        let all = law-all1 own (imp (lives_in l.types sight (suc own) ty own) (formula (suc own))) b agrees.finite in
        let follows = λ (p : Position).
        law-imp (lives_in l.types sight (suc own) ty own) (formula (suc own)) (with_position b own p) (Agrees-bound count a b own p agrees few).finite in (
          (λ h c of_ty.
              let (p, here) = looks.there c (IsSome-and (cell_of t c) (λ z. z.variant.ty ≡ ty) of_ty) in
              (at-cell c p here).0 ((follows p).0 (all.0 h p) ((lives-at p).1 (c, here, of_ty)))),
          (λ h. all.1 (λ p. (follows p).1 (λ lives.
              let (c, here, of_ty) = (lives-at p).0 lives in
              (at-cell c p here).1 (h c of_ty)))),
        )

  -- ---- over sets

  -- each position of the set is that of a cell of the type
  typed-means : (set : PositionSet) → IsFiniteSet set →
      WSat (all1 (suc own) (imp (Sub (track (suc own)) (track own)) (lives_in l.types (sight_of l.vars view) (suc (suc own)) ty (suc own)))) (replace b own set)
      ↔ ((p : Position) → IsTrue (set p) → TypeAt t at ty p)
  typed-means set bounded =
      let c = replace b own set in
      let agreed = Agrees-set count a b own set agrees few bounded in
      let all = law-all1 (suc own) (imp (Sub (track (suc own)) (track own)) (lives_in l.types sight (suc (suc own)) ty (suc own))) c agreed.finite in
      let within : (p : Position) → Agrees count a (with_position c (suc own) p) = λ p. Agrees-bound count a c (suc own) p agreed (omega (arith, few)) in
      let member : (p : Position) → WSat (Sub (track (suc own)) (track own)) (with_position c (suc own) p) ↔ IsTrue (set p) = λ p.
      let on = law-member (suc own) own (with_position c (suc own) p) p (IsOnly-bound c (suc own) p) in
      let same = replace-other c (suc own) own (just p) (λ q. let k : ⊥ = omega (arith, q) in k) ∙ replace-same b own set in (
        (λ h. subst (λ (z : PositionSet). IsTrue (z p)) same (on.0 h)),
        (λ h. on.1 (subst (λ (z : PositionSet). IsTrue (z p)) (sym same) h)),
      ) in
      let lives : (p : Position) → WSat (lives_in l.types sight (suc (suc own)) ty (suc own)) (with_position c (suc own) p) ↔ TypeAt t at ty p = λ p.
      looks.typed ty (with_position c (suc own) p) (suc (suc own)) (suc own) p (within p) (omega (arith, few)) (omega arith) (IsOnly-bound c (suc own) p) in
      let follows = λ (p : Position).
      law-imp (Sub (track (suc own)) (track own)) (lives_in l.types sight (suc (suc own)) ty (suc own)) (with_position c (suc own) p) (within p).finite in (
        (λ h p on. (lives p).0 ((follows p).0 (all.0 h p) ((member p).1 on))),
        (λ h. all.1 (λ p. (follows p).1 (λ on. (lives p).1 (h p ((member p).0 on))))),
      )

  -- a set of positions that has the cells is the set's track
  on-track : (set : PositionSet) (cells : List CellId) → Covers at set cells → StandsForCells (replace b own set) at (track own) cells
  on-track set cells covers = record {
    each = λ p. (
      (λ on. (covers.each p).0 (subst (λ (z : PositionSet). IsTrue (z p)) (replace-same b own set) on)),
      (λ h. subst (λ (z : PositionSet). IsTrue (z p)) (sym (replace-same b own set)) ((covers.each p).1 h)),
    );
    all = covers.all;
  }

  some-set : (inside : Formula) → WSat (ex_set l.types (sight_of l.vars view) own ty inside) b
      ↔ ((set : PositionSet) × IsFiniteSet set × (((p : Position) → IsTrue (set p) → TypeAt t at ty p) × WSat inside (replace b own set)))
  some-set inside =
      let typed = all1 (suc own) (imp (Sub (track (suc own)) (track own)) (lives_in l.types sight (suc (suc own)) ty (suc own))) in
      let some = WSat-Ex2 (track own) (And typed inside) b in (
        (λ h.
            let (set, bounded, holds) = some.0 h in
            let parts = (WSat-And typed inside (replace b own set)).0 holds in
            (set, bounded, ((typed-means set bounded).0 parts.0, parts.1))),
        (λ h.
            let (set, bounded, parts) = h in
            some.1 (set, bounded, (WSat-And typed inside (replace b own set)).1 ((typed-means set bounded).1 parts.0, parts.1))),
      )

  module _ (inner : IsInner (Set ty)) where
    at-set : (set : PositionSet) (cells : List CellId) → IsFiniteSet set → Covers at set cells →
        WSat (formula (suc own)) (replace b own set) ↔ Holding (under (value.Cells cells) e)
    at-set set cells bounded covers =
        inner (value.Cells cells) (replace b own set) (Agrees-set own b b own set (Agrees-itself own b agrees.finite) (omega arith) bounded) tt
        (on-track set cells covers)

    pub some-set-means : WSat (ex_set l.types (sight_of l.vars view) own ty (formula (suc own))) b
        ↔ ((cells : List CellId) × IsSetOf t ty cells × Holding (under (value.Cells cells) e))
    some-set-means = (
      (λ h.
          let (set, bounded, parts) = (some-set (formula (suc own))).0 h in
          let (cells, is, covers) = set-cells t at looks.there looks.one looks.apart ty set parts.0 in
          (cells, is, (at-set set cells bounded covers).0 parts.1)),
      (λ h.
          let (cells, is, holds) = h in
          let (set, bounded, covers) = set-of-cells t at looks.there looks.one looks.apart ty cells is in
          (some-set (formula (suc own))).1 (
            set,
            bounded,
            (covered-typed t at looks.there looks.one looks.apart ty cells set is covers, (at-set set cells bounded covers).1 holds),
          )),
    )

    pub each-set-means : WSat (Not (ex_set l.types (sight_of l.vars view) own ty (Not (formula (suc own))))) b
        ↔ ((cells : List CellId) → IsSetOf t ty cells → Holding (under (value.Cells cells) e))
    each-set-means =
        let none = WSat-Not (ex_set l.types sight own ty (Not (formula (suc own)))) b in
        let some = some-set (Not (formula (suc own))) in (
          (λ h cells is.
              let (set, bounded, covers) = set-of-cells t at looks.there looks.one looks.apart ty cells is in
              (at-set set cells bounded covers).0 (not_not (formula (suc own)) (replace b own set) (Agrees-set count a b own set agrees few bounded).finite
              (λ fails. none.0 h (some.1 (
                set,
                bounded,
                (covered-typed t at looks.there looks.one looks.apart ty cells set is covers, (WSat-Not (formula (suc own)) (replace b own set)).1 fails),
              ))))),
          (λ h. none.1 (λ found.
              let (set, bounded, parts) = some.0 found in
              let (cells, is, covers) = set-cells t at looks.there looks.one looks.apart ty set parts.0 in
              (WSat-Not (formula (suc own)) (replace b own set)).0 parts.1 ((at-set set cells bounded covers).1 (h cells is)))),
        )
