-- Rows of roots, one after the other.
use Rattle.std.proofs.Common.{◌≡◌, ℕ, zero, suc, ◌+◌, List, [], ◌∷◌, ◌++◌, length, map, slice_get, Some, refl, ap, sym, ◌∙◌, subst, arith}
use Rattle.std.proofs.Common.{append_assoc, append-nil}
use Rattle.cert_text.specs.declared.line.Target.{Target}
use Rattle.cert_text.specs.declared.line.NodeLine.{NodeLine}
use Rattle.cert_text.specs.declared.line.Line.{Line}
use Rattle.cert_nodes.specs.Nodes.{IsThere}
use Rattle.cert_steps.specs.Steps.{Rooted, lines_of_row, nodes_of_row, nodes_of_rows, target_of, targets_of}
use Rattle.cert_steps.specs.Places.{IsRow, AreRowsFrom}
use Rattle.cert_steps.specs.Reading.{ReadsRoots, ReadsRows}
use Rattle.cert_steps.proofs.ListsLemmas.{one-more, map-push, read-group, behind-group}
use Rattle.cert_steps.proofs.RootsLemmas.{there-row, there-behind, there-shifted}

module _ (states s count : ℕ) where
  rows-from-push : (nodes : List NodeLine) (c : ℕ) (rows : List (List Rooted)) (row : List Rooted) → AreRowsFrom nodes states s c count rows →
      IsRow (nodes ++ nodes_of_rows rows) states s (c + length rows) count row → AreRowsFrom nodes states s c count (rows ++ row ∷ [])
  rows-from-push nodes c [] row are here = (
    subst (λ (n : ℕ). IsRow nodes states s n count row) (let e : c + 0 ≡ c = omega arith in e)
        (subst (λ (ns : List NodeLine). IsRow ns states s (c + 0) count row) (append-nil nodes) here),
    tt,
  )
  rows-from-push nodes c (x ∷ rows) row are here = (
    are.0,
    rows-from-push (nodes ++ nodes_of_row x) (suc c) rows row are.1
        (subst (λ (n : ℕ). IsRow ((nodes ++ nodes_of_row x) ++ nodes_of_rows rows) states s n count row)
        (let e : c + suc (length rows) ≡ suc c + length rows = omega arith in e)
        (subst (λ (ns : List NodeLine). IsRow ns states s (c + suc (length rows)) count row)
        (sym (append_assoc nodes (nodes_of_row x) (nodes_of_rows rows))) here)),
  )

  pub rows-none : (old : List NodeLine) (lines : List Line) → ReadsRows old old states s 0 count lines [] lines
  rows-none old lines = record { rows = []; read = refl; drawn = sym (append-nil old); fits = tt; many = refl; targets_are = refl }

  pub rows-push : (old mid new : List NodeLine) (c : ℕ) (lines left rest : List Line) (targets : List (List Target)) (row_targets : List Target) →
      ReadsRows old mid states s c count lines targets left → ReadsRoots mid new states s c count left row_targets rest →
      ReadsRows old new states s (c + 1) count lines (targets ++ row_targets ∷ []) rest
  rows-push old mid new c lines left rest targets row_targets rows row = record {
    rows = rows.rows ++ row.row ∷ [];
    read = read-group lines_of_row lines rows.rows row.row left rest rows.read row.read;
    drawn = behind-group nodes_of_row old mid new rows.rows row.row rows.drawn row.drawn;
    fits = rows-from-push old 0 rows.rows row.row rows.fits placed;
    many = one-more rows.rows row.row c rows.many;
    targets_are = targets-same ∙ sym (map-push (map target_of) rows.rows row.row);
  }
    where
      is_row : IsRow mid states s c count row.row
      is_row = record { many = row.many; roots = row.fits }

      placed : IsRow (old ++ nodes_of_rows rows.rows) states s (0 + length rows.rows) count row.row
      placed =
          subst (λ (n : ℕ). IsRow (old ++ nodes_of_rows rows.rows) states s n count row.row)
          (let many = rows.many in let e : c ≡ 0 + length rows.rows = omega (arith, many) in e)
          (subst (λ (ns : List NodeLine). IsRow ns states s c count row.row) rows.drawn is_row)

      targets-same : targets ++ row_targets ∷ [] ≡ targets_of rows.rows ++ map target_of row.row ∷ []
      targets-same =
          ap (λ (l : List (List Target)). l ++ row_targets ∷ []) rows.targets_are
          ∙ ap (λ (u : List Target). targets_of rows.rows ++ u ∷ []) row.targets_are

  pub there-rows : (nodes : List NodeLine) (c : ℕ) (rows : List (List Rooted)) (i k : ℕ) (row : List Target) (t : Target) →
      AreRowsFrom nodes states s c count rows → slice_get (targets_of rows) i ≡ Some row → slice_get row k ≡ Some t →
      IsThere (nodes ++ nodes_of_rows rows) t
  there-rows nodes c [] i k row t are at_row at = absurd cc
  there-rows nodes c (x ∷ rows) zero k row t are at_row at =
      let same : map target_of x ≡ row = cc in
      there-behind nodes (nodes_of_row x) (nodes_of_rows rows) t
      (there-row states s c nodes 0 x k t are.0.roots (ap (λ (l : List Target). slice_get l k) same ∙ at))
  there-rows nodes c (x ∷ rows) (suc i) k row t are at_row at =
      there-shifted nodes (nodes_of_row x) (nodes_of_rows rows) t (there-rows (nodes ++ nodes_of_row x) (suc c) rows i k row t are.1 at_row at)
