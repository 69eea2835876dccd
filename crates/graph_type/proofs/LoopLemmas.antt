-- One step of the loop over variables.
use Rattle.std.proofs.Common.{◌≡◌, ℕ, zero, suc, ◌+◌, ◌<◌, List, [], ◌∷◌, ◌++◌, length, take, refl, sym, ap, ◌∙◌, append_assoc, append-nil, add-one, arith}
use Rattle.store_core.specs.declared.kind.VarKind.{VarKind}
use Rattle.store_core.specs.Tables.{VarEntry}
use Rattle.graph_view.specs.declared.view.Sym.{Sym}
use Rattle.graph_view.specs.Cuts.{values_by}
use Rattle.graph_type.specs.Valued.{value_at}

values_by-suc : (value : VarKind → Sym → List Sym) (vars : List VarEntry) (values : List Sym) (i : ℕ) → i < length vars →
    values_by value (take (suc i) vars) values ≡ values_by value (take i vars) values ++ value_at value vars values i
values_by-suc value [] values i inside = absurd (omega arith)
values_by-suc value (v ∷ vars) [] zero inside = refl
values_by-suc value (v ∷ vars) [] (suc i) inside = sym (no_value value vars i)
  where
    no_value : (value : VarKind → Sym → List Sym) (vars : List VarEntry) (i : ℕ) → value_at value vars [] i ≡ []
    no_value value [] i = refl
    no_value value (w ∷ vars) zero = refl
    no_value value (w ∷ vars) (suc i) = no_value value vars i
values_by-suc value (v ∷ vars) (u ∷ values) zero inside = append-nil (value v.kind u)
values_by-suc value (v ∷ vars) (u ∷ values) (suc i) inside =
    ap (λ xs. value v.kind u ++ xs) (values_by-suc value vars values i (omega arith))
    ∙ sym (append_assoc (value v.kind u) (values_by value (take i vars) values) (value_at value vars values i))

pub values_by-next : (value : VarKind → Sym → List Sym) (vars : List VarEntry) (values : List Sym) (i : ℕ) → i < length vars →
    values_by value (take (i + 1) vars) values ≡ values_by value (take i vars) values ++ value_at value vars values i
values_by-next value vars values i inside = ap (λ n. values_by value (take n vars) values) (add-one i) ∙ values_by-suc value vars values i inside
