-- What spaces were joined for, while the product goes on being built.
use Rattle.std.proofs.Common.{◌≡◌, ◌*◌, ℕ, ◌+◌, ◌<◌, ◌≤◌, List, [], length, Option, Some, Contains, slice_get, sym, ◌∙◌, ap, subst, inl, inr, arith}
use Rattle.std.specs.Prelude.{slice_set}
use Rattle.std.proofs.lemmas.Bool.{cases_lt}
use Rattle.std.proofs.lemmas.Bool.Decides.{eqb_tells}
use Rattle.std.proofs.lemmas.Option.{slice_get_within}
use Rattle.bdd_nodes.specs.declared.node_ref.NodeRef.{NodeRef}
use Rattle.bdd_nodes.specs.Shelf.{Contents, limit_of}
use Rattle.bdd_nodes.specs.Changes.{Keeps}
use Rattle.gta_theory.specs.Guides.{Spaces, IsGuide, IsSpace, left, right}
use Rattle.gta_theory.specs.Automata.{Automaton}
use Rattle.gta_theory.specs.Constructions.{pairs}
use Rattle.gta_theory.proofs.ListsLemmas.{All-from_contains}
use Rattle.gta_core.specs.Auto.{AutoView, automaton_of, IsAuto}
use Rattle.gta_core.proofs.CellsLemmas.{get-index}
use Rattle.gta_product.specs.declared.classes.Classes.{Classes}
use Rattle.gta_product.specs.declared.growing.Growth.{Growth}
use Rattle.gta_product.specs.Building.{AreSpaces, ExtendAll}
use Rattle.gta_product.specs.Growing.{HasRows, HasAll, HaveAll, IsNew, HasSeen, IsGrown, AreGrown, LacksRoom}
use Rattle.gta_product.proofs.NumbersLemmas.{extends-longer}
use Rattle.gta_product.proofs.KeyedLemmas.{IsKeyed-none, IsKeyed-longer, ones-differ}
use Rattle.gta_product.proofs.PartLemmas.{get-set, get-set_other, length-set_at, parts-length}
use Rattle.gta_product.proofs.RowsLemmas.{AreRows-none, AreRows-any, AreRows-kept}

same-growth : (one other : Growth) → ◌≡◌ {A = Option Growth} (Some one) (Some other) → one ≡ other
same-growth one other e = cc

-- a space that was there before
space-before : (before after : List (List (ℕ × ℕ))) → ExtendAll before after → (s : ℕ) (pairs : List (ℕ × ℕ)) → slice_get after s ≡ Some pairs →
    (old : List (ℕ × ℕ)) × (slice_get before s ≡ Some old)
space-before before after extends s pairs at = get-index before s (omega (arith, extends.many, slice_get_within after s pairs at))

-- nothing was looked at
pub IsGrown-none : (g : Spaces) (AB : Automaton (ℕ × ℕ)) (a b : AutoView) (spaces : List (List (ℕ × ℕ))) (shelf : Contents) (s : ℕ) (growth : Growth) →
    IsNew growth → IsGrown g AB a b spaces shelf s growth
IsGrown-none g AB a b spaces shelf s growth new = record {
  seen = record {
    row_ones = λ pair there. absurd (nowhere pair (subst (λ (ps : List (ℕ × ℕ)). Contains ps pair) new.rows there));
    column_ones = λ pair there. absurd (nowhere pair (subst (λ (ps : List (ℕ × ℕ)). Contains ps pair) new.columns there));
    row_classes = λ first second lefts in_a in_b at. IsKeyed-none lefts first.rows second.rows growth.rows new.row_of new.rows new.row_keys;
    column_classes = λ first second rights in_a in_b at.
        IsKeyed-none rights first.columns second.columns growth.columns new.column_of new.columns new.column_keys;
  };
  rows = λ pairs at. AreRows-none AB s 0 pairs shelf growth.rows.ones growth.columns.ones growth.cells.items new.rows new.cells;
}
  where
    nowhere : (pair : ℕ × ℕ) → Contains [] pair → ⊥
    nowhere pair there = omega (arith, there.1)

module _ (g : Spaces) (AB : Automaton (ℕ × ℕ)) (a b : AutoView) where
  pub HasSeen-kept : (before after : List (List (ℕ × ℕ))) → ExtendAll before after → (s : ℕ) (rows columns : Classes) →
      HasSeen g AB a b before s rows columns → HasSeen g AB a b after s rows columns
  HasSeen-kept before after extends s rows columns seen = record {
    row_ones = seen.row_ones;
    column_ones = seen.column_ones;
    row_classes = λ first second lefts in_a in_b at.
        let old = space-before before after extends (left g s) lefts at in
        IsKeyed-longer old.0 lefts first.rows second.rows rows (extends.each (left g s) old.0 lefts old.1 at)
        (seen.row_classes first second old.0 in_a in_b old.1);
    column_classes = λ first second rights in_a in_b at.
        let old = space-before before after extends (right g s) rights at in
        IsKeyed-longer old.0 rights first.columns second.columns columns (extends.each (right g s) old.0 rights old.1 at)
        (seen.column_classes first second old.0 in_a in_b old.1);
  }

  module _ (before after : List (List (ℕ × ℕ))) (shelf now : Contents) (extends : ExtendAll before after) (keeps : Keeps shelf now)
      (are : AreSpaces g AB after) where
    IsGrown-kept : (s : ℕ) (growth : Growth) → IsGrown g AB a b before shelf s growth → IsGrown g AB a b after now s growth
    IsGrown-kept s growth grown = record {
      seen = HasSeen-kept before after extends s growth.rows growth.columns grown.seen;
      rows = λ pairs at.
          let old = space-before before after extends s pairs at in
          AreRows-kept AB s growth.rows.ones growth.columns.ones 0 old.0 pairs shelf now growth.cells.items keeps (are.each s pairs at).numbers
          (extends.each s old.0 pairs old.1 at) (grown.rows old.0 old.1);
    }

    -- and one of them was joined for more
    pub AreGrown-set : (growths : List Growth) (s : ℕ) (growth : Growth) → AreGrown g AB a b before shelf growths → s < length growths →
        IsGrown g AB a b after now s growth → AreGrown g AB a b after now (slice_set growths s growth)
    AreGrown-set growths s growth have within here = record {
      many = length-set_at growths s growth ∙ have.many;
      each = λ t other there. elim (eqb_tells t s) [
        | inl same ↦
            let is : ◌≡◌ {A = Option Growth} (Some growth) (Some other) =
            sym (get-set growths s growth within) ∙ ap (slice_get (slice_set growths s growth)) (sym same.1) ∙ there in
            subst (λ (n : ℕ). IsGrown g AB a b after now n other) (sym same.1)
            (subst (λ (x : Growth). IsGrown g AB a b after now s x) (same-growth growth other is) here)
        | inr apart ↦ IsGrown-kept t other (have.each t other (sym (get-set_other growths s t growth apart.1) ∙ there))
      ];
    }

  -- a space for which joins would make more roots than go with the limit
  pub LacksRoom-many : (shelf : Contents) (spaces : List (List (ℕ × ℕ))) → IsGuide g → AreSpaces g AB spaces → length a.parts ≡ length g →
      length b.parts ≡ length g → (s : ℕ) → IsSpace g s → (rows columns : Classes) → HasSeen g AB a b spaces s rows columns →
      16 * limit_of shelf < length rows.ones * length columns.ones → (before after : List (List (ℕ × ℕ))) → LacksRoom g AB shelf before after
  LacksRoom-many shelf spaces guide are many_a many_b s inside rows columns seen many before after = λ start building given completes.
      let first = get-index a.parts s (omega (arith, inside, many_a)) in
      let second = get-index b.parts s (omega (arith, inside, many_b)) in
      let lefts = get-index spaces (left g s) (omega (arith, are.many, guide.left_inside s inside)) in
      let rights = get-index spaces (right g s) (omega (arith, are.many, guide.right_inside s inside)) in
      inr (record {
        space = s;
        inside = inside;
        rows = rows.ones;
        columns = columns.ones;
        in_left = All-from_contains _ rows.ones seen.row_ones;
        in_right = All-from_contains _ columns.ones seen.column_ones;
        rows_differ = ones-differ lefts.0 (first.0).rows (second.0).rows rows (seen.row_classes first.0 second.0 lefts.0 first.1 second.1 lefts.1);
        columns_differ = ones-differ rights.0 (first.0).columns (second.0).columns columns
            (seen.column_classes first.0 second.0 rights.0 first.1 second.1 rights.1);
        many = omega (arith, many, building.same_limit);
      })

pub LacksRoom-cells : (g : Spaces) (shelf : Contents) (a b : AutoView) → IsGuide g → IsAuto g shelf a → IsAuto g shelf b →
    (spaces : List (List (ℕ × ℕ))) → AreSpaces g (pairs (automaton_of shelf a) (automaton_of shelf b)) spaces → (s : ℕ) → IsSpace g s →
    (rows columns : Classes) → HasSeen g (pairs (automaton_of shelf a) (automaton_of shelf b)) a b spaces s rows columns →
    16 * limit_of shelf < length rows.ones * length columns.ones → (before after : List (List (ℕ × ℕ))) →
    LacksRoom g (pairs (automaton_of shelf a) (automaton_of shelf b)) shelf before after
LacksRoom-cells g shelf a b guide auto_a auto_b spaces are = LacksRoom-many g (pairs (automaton_of shelf a) (automaton_of shelf b)) a b shelf spaces
    guide are (parts-length g shelf a auto_a) (parts-length g shelf b auto_b)

pub HasRows-any : (AB : Automaton (ℕ × ℕ)) (spaces : List (List (ℕ × ℕ))) (shelf : Contents) (s : ℕ) (rows columns : List (ℕ × ℕ)) (from : ℕ)
    (cells : List (List NodeRef)) → HasRows AB spaces shelf s rows columns from cells → HasRows AB spaces shelf s rows columns (length rows) cells
HasRows-any AB spaces shelf s rows columns from cells has = λ pairs at. AreRows-any AB s rows columns from pairs shelf cells (has pairs at)

-- who has looked at all pairs that there are has looked at those that there were
pub HasAll-before : (g : Spaces) (before after : List (List (ℕ × ℕ))) → ExtendAll before after → (s : ℕ) (rows columns : Classes) →
    HasAll g after s rows columns → HasAll g before s rows columns
HasAll-before g before after extends s rows columns all = record {
  rows_all = λ lefts at.
      let now = space-after (left g s) lefts at in
      omega (arith, all.rows_all now.0 now.1, extends-longer lefts now.0 (extends.each (left g s) lefts now.0 at now.1));
  columns_all = λ rights at.
      let now = space-after (right g s) rights at in
      omega (arith, all.columns_all now.0 now.1, extends-longer rights now.0 (extends.each (right g s) rights now.0 at now.1));
}
  where
    space-after : (s : ℕ) (pairs : List (ℕ × ℕ)) → slice_get before s ≡ Some pairs → (now : List (ℕ × ℕ)) × (slice_get after s ≡ Some now)
    space-after s pairs at = get-index after s (omega (arith, extends.many, slice_get_within before s pairs at))

-- the first spaces have looked at all pairs that there are
abbrev pub HaveSome : Spaces → List (List (ℕ × ℕ)) → ℕ → List Growth → Type 0
HaveSome g spaces many growths = (s : ℕ) (growth : Growth) → s < many → slice_get growths s ≡ Some growth →
    HasAll g spaces s growth.rows growth.columns

pub HaveSome-set : (g : Spaces) (spaces : List (List (ℕ × ℕ))) (s : ℕ) (growths : List Growth) (growth : Growth) → s < length growths →
    HasAll g spaces s growth.rows growth.columns → HaveSome g spaces s growths → HaveSome g spaces (s + 1) (slice_set growths s growth)
HaveSome-set g spaces s growths growth within here before = λ t other below there. elim (eqb_tells t s) [
  | inl same ↦
      let is : ◌≡◌ {A = Option Growth} (Some growth) (Some other) =
      sym (get-set growths s growth within) ∙ ap (slice_get (slice_set growths s growth)) (sym same.1) ∙ there in
      subst (λ (n : ℕ). HasAll g spaces n other.rows other.columns) (sym same.1)
      (subst (λ (x : Growth). HasAll g spaces s x.rows x.columns) (same-growth growth other is) here)
  | inr apart ↦ before t other (below-last t s below apart.1) (sym (get-set_other growths s t growth apart.1) ∙ there)
]
  where
    below-last : (t s : ℕ) → t < s + 1 → (t ≡ s → ⊥) → t < s
    below-last t s below apart = elim (cases_lt t s) [ inl less ↦ less | inr not ↦ absurd (apart (omega arith)) ]

pub HaveAll-some : (g : Spaces) (spaces : List (List (ℕ × ℕ))) (many : ℕ) (growths : List Growth) → length growths ≤ many →
    HaveSome g spaces many growths → HaveAll g spaces growths
HaveAll-some g spaces many growths most some = λ s growth there. some s growth (omega (arith, most, slice_get_within growths s growth there)) there
