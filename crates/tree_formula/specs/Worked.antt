-- Formulas that are written out by hand.
use Rattle.std.specs.Prelude.{ℕ, List, [], ◌∷◌, None}
use Rattle.ws2s_core.specs.declared.track.Track.{Track}
use Rattle.ws2s_core.specs.declared.formula.Formula.{Formula}
use Rattle.ws2s_core.specs.declared.formula.Formula.TheVariants.{Sub, Single, Succ0, Root, And, Not, Ex2}
use Rattle.store_core.specs.declared.kind.FieldKind.TheVariants as field
use Rattle.store_core.specs.declared.kind.VarKind.TheVariants as var
use Rattle.store_core.specs.Tables.{TypeEntry, VarEntry}

abbrev pub t : ℕ → Track
t n = record { 0 = n }

-- type T with a data field n of T
abbrev pub list_types : List TypeEntry
list_types = record {
  name = 84 ∷ [];
  variants = [];
  fields = record { name = 110 ∷ []; only = None; kind = field.Data (record { 0 = 0 }) } ∷ [];
} ∷ []

-- a data variable x of T
abbrev pub list_vars : List VarEntry
list_vars = record { name = 120 ∷ []; kind = var.Data (record { 0 = 0 }) } ∷ []

-- the position on track 2 is in the slot
abbrev pub in_slot : Formula
in_slot = Ex2 (t 3) (And (Root (t 3)) (Succ0 (t 3) (t 2)))

-- and is a cell
abbrev pub cell_in_slot : Formula
cell_in_slot = And in_slot (Sub (t 2) (t 0))

-- it is the child of a cell, of track 0
abbrev pub is_child : Formula
is_child = Ex2 (t 3) (And (Single (t 3)) (And (Sub (t 3) (t 0)) (Succ0 (t 3) (t 2))))

-- each cell, of track 0, is in the slot or the child of a cell
abbrev pub list_reached : Formula
list_reached = Not (Ex2 (t 2) (And (Single (t 2)) (Not (Not (And (Sub (t 2) (t 0)) (Not (Not (And (Not in_slot) (Not is_child)))))))))

-- x, of track 1, is the cell in the slot, where one is there
abbrev pub list_named : Formula
list_named =
    Not (Ex2 (t 2) (And (Single (t 2)) (Not (And (Not (And (Sub (t 2) (t 1)) (Not cell_in_slot))) (Not (And cell_in_slot (Not (Sub (t 2) (t 1)))))))))

abbrev pub list_formula : Formula
list_formula = And list_reached list_named

-- type T with the variants a and b, which have a bool field c
abbrev pub split_types : List TypeEntry
split_types = record {
  name = 84 ∷ [];
  variants = (97 ∷ []) ∷ (98 ∷ []) ∷ [];
  fields = record { name = 99 ∷ []; only = None; kind = field.Bool } ∷ [];
} ∷ []

-- a bool u
abbrev pub split_vars : List VarEntry
split_vars = record { name = 117 ∷ []; kind = var.Bool } ∷ []

-- a, of the variants with the tracks 0 and 1
abbrev pub split_live : ℕ → Formula
split_live a = Not (And (Not (Sub (t a) (t 0))) (Not (Sub (t a) (t 1))))

-- no cell is anywhere
abbrev pub split_reached : Formula
split_reached = Not (Ex2 (t 4) (And (Single (t 4)) (Not (Not (And (split_live 4) (Not (Not (Not (Ex2 (t 5) (And (Single (t 5)) (Not (Single (t 5)))))))))))))

-- c, of track 2, is true on cells alone
abbrev pub split_had : Formula
split_had = Not (Ex2 (t 4) (And (Single (t 4)) (Not (Not (And (Sub (t 4) (t 2)) (Not (split_live 4)))))))

-- u, of track 3, is empty or the root
abbrev pub split_truth : Formula
split_truth = Not (And (Not (Not (Ex2 (t 4) (And (Single (t 4)) (Sub (t 4) (t 3)))))) (Not (Root (t 3))))

-- no cell is of both variants
abbrev pub split_apart : Formula
split_apart = Not (Ex2 (t 4) (And (Single (t 4)) (And (Sub (t 4) (t 0)) (Sub (t 4) (t 1)))))

abbrev pub split_formula : Formula
split_formula = And (And (And split_reached split_had) split_truth) split_apart
