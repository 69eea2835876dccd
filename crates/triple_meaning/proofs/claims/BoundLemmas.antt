-- What stands for the names at a place of an assertion.
use Rattle.std.proofs.Common.{◌≡◌, ℕ, zero, suc, ◌-◌, ◌<◌, ◌≤◌, Bool, true, false, IsTrue, List, [], ◌∷◌, slice_get, unwrap_or, option_map, Option, Some, None}
use Rattle.std.proofs.Common.{refl, sym, ap, ◌∙◌, subst, arith}
use Rattle.std.specs.Prelude.{IfSome}
use Rattle.std.proofs.lemmas.List.Elements.{All-contains}
use Rattle.std.proofs.lemmas.Option.{slice_get_within}
use Rattle.gta_theory.specs.Assignments.{Position, PositionSet, Assignment, IsOnly}
use Rattle.ws2s_core.specs.declared.formula.Formula.{Formula}
use Rattle.ws2s_core.specs.declared.track.Track.{Track}
use Rattle.ws2s_forms.specs.Forms.{track}
use Rattle.store_core.specs.declared.ids.CellId.{CellId}
use Rattle.store_core.specs.declared.ids.TypeId.{TypeId}
use Rattle.store_core.specs.declared.ids.VarId.{VarId}
use Rattle.store_core.specs.declared.kind.VarKind.{VarKind}
use Rattle.store_core.specs.declared.kind.VarKind.TheVariants as var
use Rattle.store_core.specs.declared.value.Value.{Value}
use Rattle.store_core.specs.declared.value.Value.TheVariants as value
use Rattle.store_core.specs.Tables.{TypeEntry, VarEntry, var_at}
use Rattle.store_core.specs.Stores.{StoreMap, VarFits, var_value}
use Rattle.store_core.proofs.FittingLemmas.{IfSome-at}
use Rattle.routing_walks.proofs.DecidedLemmas.{in_at}
use Rattle.store_logic.specs.declared.term.Base.{Base}
use Rattle.store_logic.specs.declared.term.Base.TheVariants as base
use Rattle.store_logic.specs.Sorts.{Sort, Truth, Cell, Set, IsCellSort, BaseFits, var_sort}
use Rattle.store_logic.specs.Terms as terms
use Rattle.store_logic.specs.Terms.{Environment, null}
use Rattle.store_exec.proofs.SortLemmas.{held_at}
use Rattle.tree_encode.specs.Layouts.{LaidOut}
use Rattle.tree_store.proofs.SpotsLemmas.{present}
use Rattle.graph_view.specs.declared.view.Sym.{Sym}
use Rattle.graph_view.specs.declared.view.Sym.TheVariants.{Null, At}
use Rattle.graph_view.specs.declared.view.View.{View}
use Rattle.graph_view.specs.After.{Standing, StandsFor, IsRead, IsSymBelow}
use Rattle.graph_meaning.specs.Live.Meaning.{Agrees, MeansHere}
use Rattle.graph_meaning.specs.Live.Showing.{Shows}
use Rattle.site_list.specs.States.{value_of}
use Rattle.site_list.specs.Claims.{base_value}
use Rattle.triple_meaning.specs.Claims.Bound.{scope_under, HasForm, AreBound}

-- ---- options

pub some-same : {X : Type 0} (x y : X) → Some x ≡ Some y → x ≡ y
some-same x y e = cc

pub none-some : {X A : Type 0} (x : X) → None ≡ Some x → A
none-some x e = absurd cc

-- ---- later assignments

pub agrees-on : (count own : ℕ) (a b c : Assignment) → Agrees count a b → count ≤ own → Agrees own b c → Agrees count a c
agrees-on count own a b c agrees few later = record {
  finite = later.finite;
  same = λ t below. later.same t (omega (arith, below, few)) ∙ agrees.same t below;
}

-- what is meant of tracks from the first free one on is meant of later ones
pub here-later : (count own : ℕ) (a b : Assignment) (is : ℕ → ℕ → Formula) (P : Position → Type 0) → Agrees count a b → count ≤ own →
    MeansHere count a is P → MeansHere own b is P
here-later count own a b is P agrees few means c next x p later more less only =
    means c next x p (agrees-on count own a b c agrees few later) (omega (arith, few, more)) less only

pub below-later : (count own : ℕ) (u : Sym) → count ≤ own → IsSymBelow count u → IsSymBelow own u
below-later count own Null few below = tt
below-later count own (At x) few below = omega (arith, few, below)

-- a value on tracks in use is the same later
module _ (own : ℕ) (b c : Assignment) (at : Standing) (later : Agrees own b c) where
  on-later : (x : Track) (p : Position) → x.0 < own → IsTrue (b x.0 p) → IsTrue (c x.0 p)
  on-later x p below on = subst (λ (set : PositionSet). IsTrue (set p)) (sym (later.same x.0 below)) on

  later-on : (x : Track) (p : Position) → x.0 < own → IsTrue (c x.0 p) → IsTrue (b x.0 p)
  later-on x p below on = subst (λ (set : PositionSet). IsTrue (set p)) (later.same x.0 below) on

  pub stands-later : (u : Sym) (x : Value) → IsSymBelow own u → StandsFor b at u x → StandsFor c at u x
  stands-later Null (value.Bool truth) below stands = absurd stands
  stands-later Null (value.Cell None) below stands = tt
  stands-later Null (value.Cell (Some d)) below stands = absurd stands
  stands-later Null (value.Cells cells) below stands = absurd stands
  stands-later (At x) (value.Bool true) below stands = subst (λ (set : PositionSet). IsOnly set []) (sym (later.same x.0 below)) stands
  stands-later (At x) (value.Bool false) below stands = λ p. ap (λ (set : PositionSet). set p) (later.same x.0 below) ∙ stands p
  stands-later (At x) (value.Cell None) below stands = λ p. ap (λ (set : PositionSet). set p) (later.same x.0 below) ∙ stands p
  stands-later (At x) (value.Cell (Some d)) below stands =
      (stands.0, subst (λ (set : PositionSet). IsOnly set stands.0) (sym (later.same x.0 below)) stands.1, stands.2)
  stands-later (At x) (value.Cells cells) below stands = record {
    each = λ p. ((λ on. (stands.each p).0 (later-on x p below on)), (λ h. on-later x p below ((stands.each p).1 h)));
    all = stands.all;
  }

-- ---- under one quantifier more

pub bound-under : (own : ℕ) (b c : Assignment) (at : Standing) (sorts : List Sort) (xs : List Value) (sort : Sort) (x : Value) → Agrees own b c →
    AreBound at b own sorts xs → HasForm sort x → StandsFor c at (At (track own)) x → AreBound at c (suc own) (sort ∷ sorts) (x ∷ xs)
bound-under own b c at sorts xs sort x later bound form stands zero so is = record {
  held = x;
  there = refl;
  form = subst (λ k. HasForm k x) (some-same sort so is) form;
  inside = omega arith;
  stands = let same : own ≡ suc own - suc zero = omega arith in subst (λ n. StandsFor c at (At (track n)) x) same stands;
}
bound-under own b c at sorts xs sort x later bound form stands (suc k) so is =
    let old = bound k so is in
    let inside = old.inside in
    let less : own - suc k < own = omega (arith, inside) in
    let same : own - suc k ≡ suc own - suc (suc k) = omega arith in
    record {
      held = old.held;
      there = old.there;
      form = old.form;
      inside = omega (arith, inside);
      stands = subst (λ n. StandsFor c at (At (track n)) old.held) same (stands-later own b c at later (At (track (own - suc k))) old.held less old.stands);
    }

-- ---- names

-- what stands for a name is on tracks in use, and stands for a value of the form of the sort
pub record NameStands (own : ℕ) (b : Assignment) (at : Standing) (u : Sym) (x : Value) (sort : Sort) : Type 0 where
  pub form : HasForm sort x
  pub below : IsSymBelow own u
  pub stands : StandsFor b at u x

pub form-of_var : (s : StoreMap) (kind : VarKind) (x : Value) → VarFits s kind x → HasForm (var_sort kind) x
form-of_var s var.Bool (value.Bool truth) fits = tt
form-of_var s var.Bool (value.Cell c) fits = absurd fits
form-of_var s var.Bool (value.Cells cells) fits = absurd fits
form-of_var s (var.Data target) (value.Bool truth) fits = absurd fits
form-of_var s (var.Data target) (value.Cell c) fits = tt
form-of_var s (var.Data target) (value.Cells cells) fits = absurd fits
form-of_var s (var.Pointer target) (value.Bool truth) fits = absurd fits
form-of_var s (var.Pointer target) (value.Cell c) fits = tt
form-of_var s (var.Pointer target) (value.Cells cells) fits = absurd fits
form-of_var s (var.LogicSet target) (value.Bool truth) fits = absurd fits
form-of_var s (var.LogicSet target) (value.Cell c) fits = absurd fits
form-of_var s (var.LogicSet target) (value.Cells cells) fits = tt
form-of_var s var.LogicBool (value.Bool truth) fits = tt
form-of_var s var.LogicBool (value.Cell c) fits = absurd fits
form-of_var s var.LogicBool (value.Cells cells) fits = absurd fits

-- what a variable of the kind holds, and what stands for it
pub record IsHeld (view : View) (a : Assignment) (s : StoreMap) (at : Standing) (count : ℕ) (v : VarId) (kind : VarKind) : Type 0 where
  pub held : Value
  pub holds : var_value s v ≡ Some held
  pub fits : VarFits s kind held
  pub stands : StandsFor a at (value_of view.vars v) held
  pub under : IsSymBelow count (value_of view.vars v)

-- what is read of a store has its variables
pub read-vars : (types : List TypeEntry) (a : Assignment) (at : Standing) (region : Option (Track × Bool)) (s t : StoreMap) → IsRead types a at region s t →
    t.vars ≡ s.vars
read-vars types a at None s t read = ap (λ (r : StoreMap). r.vars) read
read-vars types a at (Some (x, true)) s t (cells, region, is) = ap (λ (r : StoreMap). r.vars) is
read-vars types a at (Some (x, false)) s t (cells, rest, region, outside, is) = ap (λ (r : StoreMap). r.vars) is

module _ (l : LaidOut) (view : View) (a : Assignment) (first s t : StoreMap) (at : Standing) (count : ℕ) (shows : Shows l view a first s t at count) where
  pub read-value : (v : VarId) → var_value t v ≡ var_value s v
  read-value v = ap (λ xs. slice_get xs v.0) (read-vars l.types a at view.region s t shows.read)

  pub var-held : (v : VarId) (entry : VarEntry) → var_at l.vars v ≡ Some entry → IsHeld view a s at count v entry.kind
  var-held v entry there =
      let it = held_at s l.vars s.vars v.0 entry shows.seen.fits.values there in
      let inside = slice_get_within s.vars v.0 it.held it.at in
      let (u, is) = present view.vars v.0 (omega (arith, inside, shows.seen.count)) in
      let same : u ≡ value_of view.vars v = sym (ap (λ o. unwrap_or o Null) is) in
      record {
        held = it.held;
        holds = it.at;
        fits = it.fits;
        stands = subst (λ w. StandsFor a at w it.held) same
            (IfSome-at (var_value s v) (StandsFor a at u) it.held it.at
            (IfSome-at (slice_get view.vars v.0) (λ w. IfSome (var_value s v) (StandsFor a at w)) u is (shows.seen.values v)));
        under = subst (λ w. IsSymBelow count w) same (All-contains (IsSymBelow count) view.vars u shows.free.vars (in_at view.vars v.0 u is));
      }

  module _ (own : ℕ) (b : Assignment) (agrees : Agrees count a b) (few : count ≤ own) where
    pub var-named : (e : Environment) (v : VarId) (entry : VarEntry) → var_at l.vars v ≡ Some entry →
        NameStands own b at (base_value view.vars own (base.Var v)) (terms.base_value t e (base.Var v)) (var_sort entry.kind)
    var-named e v entry there =
        let it = var-held v entry there in
        let value_is : it.held ≡ terms.base_value t e (base.Var v) = sym (ap (λ o. unwrap_or o null) (read-value v ∙ it.holds)) in
        record {
          form = subst (λ x. HasForm (var_sort entry.kind) x) value_is (form-of_var s entry.kind it.held it.fits);
          below = below-later count own (value_of view.vars v) few it.under;
          stands = subst (λ x. StandsFor b at (value_of view.vars v) x) value_is
              (stands-later count a b at agrees (value_of view.vars v) it.held it.under it.stands);
        }

    -- each name that fits
    pub base-named : (sorts : List Sort) (e : Environment) (name : Base) (sort : Sort) → AreBound at b own sorts e.bound →
        BaseFits (scope_under l.vars sorts) name sort → NameStands own b at (base_value view.vars own name) (terms.base_value t e name) sort
    base-named sorts e (base.Var v) sort bound fits = by (var_at l.vars v) refl fits
      where
        by : (o : Option VarEntry) → var_at l.vars v ≡ o → option_map (λ (entry : VarEntry). var_sort entry.kind) o ≡ Some sort →
            NameStands own b at (base_value view.vars own (base.Var v)) (terms.base_value t e (base.Var v)) sort
        by None is q = none-some sort q
        by (Some entry) is q =
            subst (λ k. NameStands own b at (base_value view.vars own (base.Var v)) (terms.base_value t e (base.Var v)) k)
            (some-same (var_sort entry.kind) sort q) (var-named e v entry is)
    base-named sorts e (base.Bound k) sort bound fits =
        let it = bound k sort fits in
        let inside = it.inside in
        let value_is : it.held ≡ terms.base_value t e (base.Bound k) = sym (ap (λ o. unwrap_or o null) it.there) in
        record {
          form = subst (λ x. HasForm sort x) value_is it.form;
          below = omega (arith, inside);
          stands = subst (λ x. StandsFor b at (At (track (own - suc k))) x) value_is it.stands;
        }
    base-named sorts e (base.Param k) sort bound fits = none-some sort fits

-- ---- forms

pub form-cell : (sort : Sort) (x : Value) → IsCellSort sort → HasForm sort x → (o : Option CellId) × (x ≡ value.Cell o)
form-cell Truth x cell form = absurd cell
form-cell (Set ty) x cell form = absurd cell
form-cell (Cell ty) (value.Bool truth) cell form = absurd form
form-cell (Cell ty) (value.Cell o) cell form = (o, refl)
form-cell (Cell ty) (value.Cells cells) cell form = absurd form

pub form-truth : (x : Value) → HasForm Truth x → (k : Bool) × (x ≡ value.Bool k)
form-truth (value.Bool k) form = (k, refl)
form-truth (value.Cell o) form = absurd form
form-truth (value.Cells cells) form = absurd form

pub form-set : (ty : TypeId) (x : Value) → HasForm (Set ty) x → (cells : List CellId) × (x ≡ value.Cells cells)
form-set ty (value.Bool k) form = absurd form
form-set ty (value.Cell o) form = absurd form
form-set ty (value.Cells cells) form = (cells, refl)
