-- Formulas that are written out by hand.
use Rattle.std.specs.Prelude.{List, [], ◌∷◌, None}
use Rattle.ws2s_core.specs.declared.formula.Formula.{Formula}
use Rattle.ws2s_core.specs.declared.formula.Formula.TheVariants.{Sub, Single, Succ0, Succ1, Root, And, Not, Ex2}
use Rattle.ws2s_forms.specs.Forms.{or, imp, ex1, all1}
use Rattle.store_core.specs.declared.kind.FieldKind.TheVariants as field
use Rattle.store_core.specs.Tables.{TypeEntry}
use Rattle.tree_formula.specs.Worked.{t}

-- no cell, of track 0, is a 1-child
abbrev pub none_by_one : Formula
none_by_one = Not (Ex2 (t 2) (And (Single (t 2)) (And (Sub (t 2) (t 0)) (Ex2 (t 3) (Succ1 (t 3) (t 2))))))

-- and each is the 0-child of the root or of a cell
abbrev pub list_by_field : Formula
list_by_field = And none_by_one (
    all1 2 (imp (Sub (t 2) (t 0)) (ex1 3 (And (Succ0 (t 3) (t 2)) (or (Root (t 3)) (Sub (t 3) (t 0)))))))

-- type T with data fields l and r of T
abbrev pub pair_types : List TypeEntry
pair_types = record {
  name = 84 ∷ [];
  variants = [];
  fields = record { name = 108 ∷ []; only = None; kind = field.Data (record { 0 = 0 }) }
      ∷ record { name = 114 ∷ []; only = None; kind = field.Data (record { 0 = 0 }) } ∷ [];
} ∷ []

-- each cell is the 0-child of the root, of a cell, or of a position of track 2, and each of those is the 1-child of a cell
abbrev pub pair_by_field : Formula
pair_by_field = And none_by_one (
    Ex2 (t 2) (And
    (all1 3 (imp (Sub (t 3) (t 2)) (ex1 4 (And (Succ1 (t 4) (t 3)) (Not (Not (Sub (t 4) (t 0))))))))
    (all1 3 (imp (Sub (t 3) (t 0)) (ex1 4 (And (Succ0 (t 4) (t 3)) (Not (And (And (Not (Sub (t 4) (t 2))) (Not (Root (t 4)))) (Not (Sub (t 4) (t 0)))))))))))
