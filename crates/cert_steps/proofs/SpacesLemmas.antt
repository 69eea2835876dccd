-- The rows of all spaces, space by space.
use Rattle.std.proofs.Common.{◌≡◌, ℕ, zero, suc, ◌+◌, List, [], ◌∷◌, ◌++◌, length, slice_get, Some, refl, ap, sym, ◌∙◌, subst}
use Rattle.std.proofs.Common.{append_assoc, append-nil}
use Rattle.std.specs.List.{flat_map}
use Rattle.cert_text.specs.declared.line.Target.{Target}
use Rattle.cert_text.specs.declared.line.NodeLine.{NodeLine}
use Rattle.cert_text.specs.declared.line.SpaceLine.{SpaceLine}
use Rattle.cert_text.specs.declared.line.ClassLine.{ClassLine}
use Rattle.cert_text.specs.declared.line.Line.{Line}
use Rattle.cert_nodes.specs.Nodes.{IsThere}
use Rattle.cert_tables.specs.declared.table.SpaceTable.{SpaceTable}
use Rattle.cert_steps.specs.Steps.{Rooted, lines_of_rows, nodes_of_rows, told_space, told_spaces}
use Rattle.cert_steps.specs.Places.{AreRows, AreSpacesRows, class_count}
use Rattle.cert_steps.specs.Reading.{ReadsSpace, ReadsSpaces}
use Rattle.cert_steps.proofs.ListsLemmas.{one-more, read-group, behind-group}
use Rattle.cert_steps.proofs.RootsLemmas.{there-behind, there-shifted}
use Rattle.cert_steps.proofs.RowsLemmas.{there-rows}

-- the rows of the space in the next place, by its lines
abbrev AreRowsOf : List NodeLine → SpaceLine → ClassLine → ClassLine → List (List Rooted) → Type 0
AreRowsOf nodes space l r rows = AreRows nodes space.states space.space (class_count l.classes) (class_count r.classes) rows

-- no rows yet
rows-unread : (old : List NodeLine) (ss : List SpaceLine) (ls rs : List ClassLine) → AreSpacesRows old ss ls rs []
rows-unread old [] ls rs = tt
rows-unread old (s ∷ ss) [] rs = tt
rows-unread old (s ∷ ss) (l ∷ ls) [] = tt
rows-unread old (s ∷ ss) (l ∷ ls) (r ∷ rs) = tt

told-unread : (ss : List SpaceLine) (ls rs : List ClassLine) → [] ≡ told_spaces ss ls rs []
told-unread [] ls rs = refl
told-unread (s ∷ ss) [] rs = refl
told-unread (s ∷ ss) (l ∷ ls) [] = refl
told-unread (s ∷ ss) (l ∷ ls) (r ∷ rs) = refl

spaces-rows-push : (nodes : List NodeLine) (spaces : List SpaceLine) (lefts rights : List ClassLine) (roots : List (List (List Rooted)))
    (space : SpaceLine) (l r : ClassLine) (rows : List (List Rooted)) → slice_get spaces (length roots) ≡ Some space →
    slice_get lefts (length roots) ≡ Some l → slice_get rights (length roots) ≡ Some r → AreSpacesRows nodes spaces lefts rights roots →
    AreRowsOf (nodes ++ flat_map nodes_of_rows roots) space l r rows → AreSpacesRows nodes spaces lefts rights (roots ++ rows ∷ [])
spaces-rows-push nodes [] lefts rights roots space l r rows at_space at_l at_r are here = absurd cc
spaces-rows-push nodes (s ∷ spaces) [] rights roots space l r rows at_space at_l at_r are here = absurd cc
spaces-rows-push nodes (s ∷ spaces) (x ∷ lefts) [] roots space l r rows at_space at_l at_r are here = absurd cc
spaces-rows-push nodes (s ∷ spaces) (x ∷ lefts) (y ∷ rights) [] space l r rows at_space at_l at_r are here =
    let of_space : space ≡ s = cc in
    let of_l : l ≡ x = cc in
    let of_r : r ≡ y = cc in (
      subst (λ (k : SpaceLine). AreRowsOf nodes k x y rows) of_space
          (subst (λ (k : ClassLine). AreRowsOf nodes space k y rows) of_l
          (subst (λ (k : ClassLine). AreRowsOf nodes space l k rows) of_r
          (subst (λ (ns : List NodeLine). AreRowsOf ns space l r rows) (append-nil nodes) here))),
      rows-unread (nodes ++ nodes_of_rows rows) spaces lefts rights,
    )
spaces-rows-push nodes (s ∷ spaces) (x ∷ lefts) (y ∷ rights) (z ∷ roots) space l r rows at_space at_l at_r are here = (
  are.0,
  spaces-rows-push (nodes ++ nodes_of_rows z) spaces lefts rights roots space l r rows at_space at_l at_r are.1
      (subst (λ (ns : List NodeLine). AreRowsOf ns space l r rows) (sym (append_assoc nodes (nodes_of_rows z) (flat_map nodes_of_rows roots))) here),
)

told-push : (spaces : List SpaceLine) (lefts rights : List ClassLine) (roots : List (List (List Rooted)))
    (space : SpaceLine) (l r : ClassLine) (rows : List (List Rooted)) → slice_get spaces (length roots) ≡ Some space →
    slice_get lefts (length roots) ≡ Some l → slice_get rights (length roots) ≡ Some r →
    told_spaces spaces lefts rights (roots ++ rows ∷ []) ≡ told_spaces spaces lefts rights roots ++ told_space space l r rows ∷ []
told-push [] lefts rights roots space l r rows at_space at_l at_r = absurd cc
told-push (s ∷ spaces) [] rights roots space l r rows at_space at_l at_r = absurd cc
told-push (s ∷ spaces) (x ∷ lefts) [] roots space l r rows at_space at_l at_r = absurd cc
told-push (s ∷ spaces) (x ∷ lefts) (y ∷ rights) [] space l r rows at_space at_l at_r =
    let of_space : s ≡ space = cc in
    let of_l : x ≡ l = cc in
    let of_r : y ≡ r = cc in
    ap (λ (ts : List SpaceTable). told_space s x y rows ∷ ts) (sym (told-unread spaces lefts rights))
    ∙ (λ i. told_space (of_space i) (of_l i) (of_r i) rows ∷ [])
told-push (s ∷ spaces) (x ∷ lefts) (y ∷ rights) (z ∷ roots) space l r rows at_space at_l at_r =
    ap (λ (ts : List SpaceTable). told_space s x y z ∷ ts) (told-push spaces lefts rights roots space l r rows at_space at_l at_r)

module _ (spaces : List SpaceLine) (lefts rights : List ClassLine) where
  pub spaces-none : (old : List NodeLine) (lines : List Line) → ReadsSpaces old old spaces lefts rights 0 lines [] lines
  spaces-none old lines = record {
    roots = [];
    read = refl;
    drawn = sym (append-nil old);
    fits = rows-unread old spaces lefts rights;
    many = refl;
    tables_are = told-unread spaces lefts rights;
  }

  pub spaces-push : (old mid new : List NodeLine) (s : ℕ) (lines left rest : List Line) (tables : List SpaceTable) (table : SpaceTable) →
      ReadsSpaces old mid spaces lefts rights s lines tables left → ReadsSpace mid new spaces lefts rights s left table rest →
      ReadsSpaces old new spaces lefts rights (s + 1) lines (tables ++ table ∷ []) rest
  spaces-push old mid new s lines left rest tables table before here = record {
    roots = before.roots ++ here.rows ∷ [];
    read = read-group lines_of_rows lines before.roots here.rows left rest before.read here.read;
    drawn = behind-group nodes_of_rows old mid new before.roots here.rows before.drawn here.drawn;
    fits = spaces-rows-push old spaces lefts rights before.roots here.space here.left here.right here.rows at_space at_left at_right before.fits
        (subst (λ (ns : List NodeLine). AreRowsOf ns here.space here.left here.right here.rows) before.drawn here.fits);
    many = one-more before.roots here.rows s before.many;
    tables_are = tables-same ∙ sym (told-push spaces lefts rights before.roots here.space here.left here.right here.rows at_space at_left at_right);
  }
    where
      at_space : slice_get spaces (length before.roots) ≡ Some here.space
      at_space = ap (slice_get spaces) before.many ∙ here.at_space

      at_left : slice_get lefts (length before.roots) ≡ Some here.left
      at_left = ap (slice_get lefts) before.many ∙ here.at_left

      at_right : slice_get rights (length before.roots) ≡ Some here.right
      at_right = ap (slice_get rights) before.many ∙ here.at_right

      tables-same : tables ++ table ∷ []
          ≡ told_spaces spaces lefts rights before.roots ++ told_space here.space here.left here.right here.rows ∷ []
      tables-same =
          ap (λ (ts : List SpaceTable). ts ++ table ∷ []) before.tables_are
          ∙ ap (λ (t : SpaceTable). told_spaces spaces lefts rights before.roots ++ t ∷ []) here.table_is

-- the targets of all spaces are there
pub there-spaces : (nodes : List NodeLine) (spaces : List SpaceLine) (lefts rights : List ClassLine) (roots : List (List (List Rooted)))
    (s c k : ℕ) (space : SpaceTable) (row : List Target) (t : Target) → AreSpacesRows nodes spaces lefts rights roots →
    slice_get (told_spaces spaces lefts rights roots) s ≡ Some space → slice_get space.roots c ≡ Some row → slice_get row k ≡ Some t →
    IsThere (nodes ++ flat_map nodes_of_rows roots) t
there-spaces nodes [] lefts rights roots s c k space row t are at at_row at_target = absurd cc
there-spaces nodes (x ∷ spaces) [] rights roots s c k space row t are at at_row at_target = absurd cc
there-spaces nodes (x ∷ spaces) (l ∷ lefts) [] roots s c k space row t are at at_row at_target = absurd cc
there-spaces nodes (x ∷ spaces) (l ∷ lefts) (r ∷ rights) [] s c k space row t are at at_row at_target = absurd cc
there-spaces nodes (x ∷ spaces) (l ∷ lefts) (r ∷ rights) (rows ∷ roots) zero c k space row t are at at_row at_target =
    let same : told_space x l r rows ≡ space = cc in
    there-behind nodes (nodes_of_rows rows) (flat_map nodes_of_rows roots) t
    (there-rows x.states x.space (class_count r.classes) nodes 0 rows c k row t are.0.each
    (ap (λ (table : SpaceTable). slice_get table.roots c) same ∙ at_row) at_target)
there-spaces nodes (x ∷ spaces) (l ∷ lefts) (r ∷ rights) (rows ∷ roots) (suc s) c k space row t are at at_row at_target =
    there-shifted nodes (nodes_of_rows rows) (flat_map nodes_of_rows roots) t
    (there-spaces (nodes ++ nodes_of_rows rows) spaces lefts rights roots s c k space row t are.1 at at_row at_target)
