-- Variables and what quantifiers bind stand for what they are in the scope.
use Rattle.std.proofs.Common.{◌≡◌, ℕ, suc, List, [], ◌∷◌, ◌++◌, map, length}
use Rattle.std.proofs.Common.{Option, Some, None, IsSomeAnd, refl, sym, ap, ◌∙◌, subst, arith, append_assoc, append-nil}
use Rattle.std.specs.Option.{option_map}
use Rattle.std.proofs.lemmas.List.{length_push}
use Rattle.pale_syntax.specs.declared.tree.names.Name.{Name}
use Rattle.store_core.specs.declared.kind.VarKind.{VarKind}
use Rattle.store_core.specs.declared.kind.VarKind.TheVariants as var
use Rattle.store_core.specs.Tables.{VarEntry, var_at}
use Rattle.store_logic.specs.Sorts as logic
use Rattle.store_logic.specs.Sorts.{Scope, BaseFits, under, var_sort}
use Rattle.pale_terms.specs.declared.sort.Sort.{Sort}
use Rattle.pale_terms.specs.declared.scope.Origin.{Origin}
use Rattle.pale_terms.specs.declared.scope.Origin.TheVariants as origin
use Rattle.pale_terms.specs.Sorts.{kept}
use Rattle.pale_terms.specs.Visibles.{Entry}
use Rattle.pale_terms.specs.Scopes.{base_of}
use Rattle.pale_vocabulary.specs.Heads.{Head}
use Rattle.pale_vocabulary.specs.Quantifiers.{bound_entry}
use Rattle.pale_fitting.specs.Standing.{sort_in, HasItsSort, StandFor, scope_with, IsVariable, AreVariables}

-- ---- variables

kept-in : (k : VarKind) → var_sort k ≡ sort_in (kept k)
kept-in var.Bool = refl
kept-in (var.Data target) = refl
kept-in (var.Pointer target) = refl
kept-in (var.LogicSet target) = refl
kept-in var.LogicBool = refl

variable-stands : (vars : List VarEntry) (heads : List Head) (after : ℕ) (e : Entry) → IsVariable vars e → HasItsSort (scope_with vars heads) after e
variable-stands vars heads after e is may =
    subst (λ o. BaseFits (scope_with vars heads) (base_of o after) (sort_in e.visible.sort)) (sym is.origin) (by (var_at vars is.var) is.sort)
  where
    by : (o : Option VarEntry) → IsSomeAnd o (λ entry. e.visible.sort ≡ kept entry.kind) →
        option_map (λ (entry : VarEntry). var_sort entry.kind) o ≡ Some (sort_in e.visible.sort)
    by None so = absurd so
    by (Some entry) so = ap Some (kept-in entry.kind ∙ ap sort_in (sym so))

pub variables-stand : (vars : List VarEntry) (heads : List Head) (entries : List Entry) → AreVariables vars entries → StandFor entries (scope_with vars heads)
variables-stand vars heads [] all = tt
variables-stand vars heads (e ∷ entries) all = (variable-stands vars heads (length entries) e all.0, variables-stand vars heads entries all.1)

-- ---- under quantifiers

-- under one quantifier for each name
abbrev pub deeper : logic.Sort → List Name → Scope → Scope
deeper s [] scope = scope
deeper s (x ∷ names) scope = under s (deeper s names scope)

deeper-under : (s : logic.Sort) (names : List Name) (scope : Scope) → deeper s names (under s scope) ≡ under s (deeper s names scope)
deeper-under s [] scope = refl
deeper-under s (x ∷ names) scope = ap (under s) (deeper-under s names scope)

pub deeper-preds : (s : logic.Sort) (names : List Name) (scope : Scope) → (deeper s names scope).preds ≡ scope.preds
deeper-preds s [] scope = refl
deeper-preds s (x ∷ names) scope = deeper-preds s names scope

one-further : (s : logic.Sort) (scope : Scope) (after : ℕ) (o : Origin) (t : logic.Sort) → BaseFits scope (base_of o after) t →
    BaseFits (under s scope) (base_of o (suc after)) t
one-further s scope after (origin.Variable v) t fits = fits
one-further s scope after (origin.Parameter n) t fits = fits
one-further s scope after origin.Quantifier t fits = fits

binds-one : (of : Sort) (entries : List Entry) (scope : Scope) → StandFor entries scope → (x : Name) →
    StandFor (entries ++ bound_entry of x ∷ []) (under (sort_in of) scope)
binds-one of [] scope all x = (λ may. refl, tt)
binds-one of (e ∷ entries) scope all x =
    let count : suc (length entries) ≡ length (entries ++ bound_entry of x ∷ []) = omega (arith, length_push entries (bound_entry of x)) in (
      λ may. subst (λ n. BaseFits (under (sort_in of) scope) (base_of e.visible.origin n) (sort_in e.visible.sort)) count
          (one-further (sort_in of) scope (length entries) e.visible.origin (sort_in e.visible.sort) (all.0 may)),
      binds-one of entries scope all.1 x,
    )

-- what quantifiers bind stands for what they bind in the scope
pub binds : (of : Sort) (names : List Name) (entries : List Entry) (scope : Scope) → StandFor entries scope →
    StandFor (entries ++ map (bound_entry of) names) (deeper (sort_in of) names scope)
binds of [] entries scope all = subst (λ (l : List Entry). StandFor l scope) (sym (append-nil entries)) all
binds of (x ∷ names) entries scope all =
    subst (λ (w : Scope). StandFor (entries ++ map (bound_entry of) (x ∷ names)) w) (deeper-under (sort_in of) names scope)
    (subst (λ (l : List Entry). StandFor l (deeper (sort_in of) names (under (sort_in of) scope)))
    (append_assoc entries (bound_entry of x ∷ []) (map (bound_entry of) names))
    (binds of names (entries ++ bound_entry of x ∷ []) (under (sort_in of) scope) (binds-one of entries scope all x)))
