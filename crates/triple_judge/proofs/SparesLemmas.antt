-- The cells that code makes, part by part, are of variants of the table.
use Rattle.std.proofs.Common.{◌≡◌, ℕ, ◌+◌, ◌<◌, List, [], ◌∷◌, ◌++◌, length, take, get_or, refl, sym, ap, ap₂, ◌∙◌, subst, append_assoc, append-nil}
use Rattle.std.specs.List.{AllByRecursion}
use Rattle.std.proofs.lemmas.List.{take_more}
use Rattle.std.proofs.lemmas.List.Concat.{flat_map-append}
use Rattle.store_core.specs.declared.ids.VariantId.{VariantId}
use Rattle.store_core.specs.Tables.{TypeEntry, VarEntry, KnowsVariant}
use Rattle.store_logic.specs.declared.cond.Cond.{Cond}
use Rattle.store_logic.specs.declared.act.Rhs.{Rhs}
use Rattle.store_logic.specs.declared.act.Rhs.TheVariants as rhs
use Rattle.store_logic.specs.declared.act.Act.{Act}
use Rattle.store_logic.specs.declared.act.Act.TheVariants as act
use Rattle.store_logic.specs.Sorts.{Sort}
use Rattle.store_logic.specs.FitsCode.{RhsFits, ActFits}
use Rattle.store_exec.specs.declared.code.Item.{Item}
use Rattle.store_exec.specs.declared.code.Item.TheVariants as item
use Rattle.store_exec.specs.declared.code.Code.{Code}
use Rattle.store_exec.specs.declared.code.Tail.{Tail}
use Rattle.store_exec.specs.declared.code.Tail.TheVariants as tail
use Rattle.store_exec.specs.Acting.{acts_of_item, acts_of_items, acts_of}
use Rattle.store_exec.specs.Fits.{ItemsFit, CodeFits}
use Rattle.store_exec.proofs.ActingLemmas.{acts-Do, acts-If, acts_behind, acts-code, acts-Cut, acts-Branch}
use Rattle.store_exec.proofs.InductionLemmas.{items-induction, codes-induction}
use Rattle.store_exec.proofs.GoingLemmas.{ItemFits-Do, ItemFits-If}
use Rattle.store_exec.proofs.CanRunLemmas.{TailFits, code-fits, branch-fits}
use Rattle.triple_judge.specs.Spares.{made_by, made_in, made_in_all, made_in_item, made_in_items, made_in_code}

-- ---- by parts

-- what the items make is what their acts make
pub made-items : (xs : List Item) → made_in_items xs ≡ made_in_all (acts_of_items xs)
made-items [] = refl
made-items (x ∷ xs) =
    ap (λ (vs : List VariantId). made_in_item x ++ vs) (made-items xs)
    ∙ sym (flat_map-append made_in (acts_of_item x) (acts_of_items xs))

pub made-Do : (line : ℕ) (a : Act) → made_in_item (item.Do line a) ≡ made_in a
made-Do line a = ap made_in_all (acts-Do line a) ∙ append-nil (made_in a)

pub made-If : (line : ℕ) (c : Cond) (taken other : List Item) → made_in_item (item.If line c taken other) ≡ made_in_items taken ++ made_in_items other
made-If line c taken other =
    ap made_in_all (acts-If line c taken other)
    ∙ flat_map-append made_in (acts_of_items taken) (acts_of_items other)
    ∙ ap₂ (λ (us vs : List VariantId). us ++ vs) (sym (made-items taken)) (sym (made-items other))

pub made-Cut : (c : Code) (place : ℕ) → c.tail ≡ tail.Cut place → made_in_code c ≡ made_in_items c.items
made-Cut c place is =
    ap made_in_all (acts-code c ∙ ap (λ (us : List Act). acts_of_items c.items ++ us) (ap acts_behind is ∙ acts-Cut place)
    ∙ append-nil (acts_of_items c.items))
    ∙ sym (made-items c.items)

pub made-Branch : (c : Code) (line : ℕ) (b : Cond) (taken other : Code) → c.tail ≡ tail.Branch line b taken other →
    made_in_code c ≡ made_in_items c.items ++ (made_in_code taken ++ made_in_code other)
made-Branch c line b taken other is =
    ap made_in_all (acts-code c ∙ ap (λ (us : List Act). acts_of_items c.items ++ us) (ap acts_behind is ∙ acts-Branch line b taken other))
    ∙ flat_map-append made_in (acts_of_items c.items) (acts_of taken ++ acts_of other)
    ∙ ap₂ (λ (us vs : List VariantId). us ++ vs) (sym (made-items c.items)) (flat_map-append made_in (acts_of taken) (acts_of other))

-- ---- variants that were added one after the other

pub do_made : (i : Item) (line : ℕ) (a : Act) (s0 s1 : List VariantId) → i ≡ item.Do line a → s1 ≡ s0 ++ made_in a → s1 ≡ s0 ++ made_in_item i
do_made i line a s0 s1 is one = one ∙ ap (λ (s : List VariantId). s0 ++ s) (sym (ap made_in_item is ∙ made-Do line a))

-- one item more
pub items_next : (items : List Item) (i : ℕ) (x : Item) (s0 s1 s2 : List VariantId) → i < length items → x ≡ get_or items i x →
    s1 ≡ s0 ++ made_in_items (take i items) → s2 ≡ s1 ++ made_in_item x → s2 ≡ s0 ++ made_in_items (take (i + 1) items)
items_next items i x s0 s1 s2 inside is one two =
    two ∙ ap (λ (s : List VariantId). s ++ made_in_item x) one
    ∙ append_assoc s0 (made_in_items (take i items)) (made_in_item x)
    ∙ ap (λ (s : List VariantId). s0 ++ (made_in_items (take i items) ++ s)) (sym (append-nil (made_in_item x)))
    ∙ ap (λ (s : List VariantId). s0 ++ s) (sym (flat_map-append made_in_item (take i items) (x ∷ [])))
    ∙ ap (λ (y : Item). s0 ++ made_in_items (take i items ++ y ∷ [])) is
    ∙ ap (λ (xs : List Item). s0 ++ made_in_items xs) (sym (take_more items i x inside))

pub if_made : (i : Item) (line : ℕ) (c : Cond) (taken other xs ys : List Item) (s0 s1 s2 : List VariantId) → i ≡ item.If line c taken other →
    xs ≡ taken → ys ≡ other → s1 ≡ s0 ++ made_in_items xs → s2 ≡ s1 ++ made_in_items ys → s2 ≡ s0 ++ made_in_item i
if_made i line c taken other xs ys s0 s1 s2 is one_is other_is one two =
    two ∙ ap (λ (s : List VariantId). s ++ made_in_items ys) one
    ∙ append_assoc s0 (made_in_items xs) (made_in_items ys)
    ∙ ap₂ (λ (us vs : List Item). s0 ++ (made_in_items us ++ made_in_items vs)) one_is other_is
    ∙ ap (λ (s : List VariantId). s0 ++ s) (sym (ap made_in_item is ∙ made-If line c taken other))

pub cut_made : (c : Code) (xs : List Item) (place : ℕ) (s0 s1 : List VariantId) → xs ≡ c.items → c.tail ≡ tail.Cut place →
    s1 ≡ s0 ++ made_in_items xs → s1 ≡ s0 ++ made_in_code c
cut_made c xs place s0 s1 same is one =
    one ∙ ap (λ (us : List Item). s0 ++ made_in_items us) same ∙ ap (λ (s : List VariantId). s0 ++ s) (sym (made-Cut c place is))

pub branch_made : (c : Code) (xs : List Item) (line : ℕ) (b : Cond) (taken other x y : Code) (s0 s1 s2 s3 : List VariantId) → xs ≡ c.items →
    c.tail ≡ tail.Branch line b taken other → x ≡ taken → y ≡ other → s1 ≡ s0 ++ made_in_items xs → s2 ≡ s1 ++ made_in_code x →
    s3 ≡ s2 ++ made_in_code y → s3 ≡ s0 ++ made_in_code c
branch_made c xs line b taken other x y s0 s1 s2 s3 same is x_is y_is one two three =
    three ∙ ap (λ (s : List VariantId). s ++ made_in_code y) (two ∙ ap (λ (s : List VariantId). s ++ made_in_code x) one)
    ∙ append_assoc (s0 ++ made_in_items xs) (made_in_code x) (made_in_code y)
    ∙ append_assoc s0 (made_in_items xs) (made_in_code x ++ made_in_code y)
    ∙ ap₂ (λ (us : List Item) (u : Code). s0 ++ (made_in_items us ++ (made_in_code u ++ made_in_code y))) same x_is
    ∙ ap (λ (v : Code). s0 ++ (made_in_items c.items ++ (made_in_code taken ++ made_in_code v))) y_is
    ∙ ap (λ (s : List VariantId). s0 ++ s) (sym (made-Branch c line b taken other is))

-- ---- variants of the table

all-append : {X : Type 0} (P : X → Type 0) (xs ys : List X) → AllByRecursion P xs → AllByRecursion P ys → AllByRecursion P (xs ++ ys)
all-append P [] ys h g = g
all-append P (x ∷ xs) ys h g = (h.0, all-append P xs ys h.1 g)

module _ (types : List TypeEntry) (vars : List VarEntry) where
  abbrev AreKnown : List VariantId → Type 0
  AreKnown variants = AllByRecursion (KnowsVariant types) variants

  value-known : (x : Rhs) (sort : Sort) → RhsFits types vars x sort → AreKnown (made_by x)
  value-known (rhs.Cell p) sort fits = tt
  value-known (rhs.New v) sort fits = (fits.0, tt)
  value-known (rhs.Truth c) sort fits = tt

  act-known : (a : Act) → ActFits types vars a → AreKnown (made_in a)
  act-known (act.Assign p x) fits = value-known x fits.0 fits.2
  act-known (act.Free v) fits = tt
  act-known (act.Assert a) fits = tt

  abbrev ItemsKnown : List Item → Type 0
  ItemsKnown xs = ItemsFit types vars xs → AreKnown (made_in_items xs)

  in-front : (i : Item) (rest : List Item) (own : List VariantId) → made_in_item i ≡ own → AreKnown own → AreKnown (made_in_items rest) →
      AreKnown (made_in_items (i ∷ rest))
  in-front i rest own is known later =
      subst AreKnown (ap (λ (vs : List VariantId). vs ++ made_in_items rest) (sym is)) (all-append (KnowsVariant types) own (made_in_items rest) known later)

  do-known : (line : ℕ) (a : Act) (rest : List Item) → ItemsKnown rest → ItemsKnown (item.Do line a ∷ rest)
  do-known line a rest later fits =
      in-front (item.Do line a) rest (made_in a) (made-Do line a) (act-known a (ItemFits-Do types vars line a fits.0)) (later fits.1)

  if-known : (line : ℕ) (c : Cond) (taken other rest : List Item) → ItemsKnown taken → ItemsKnown other → ItemsKnown rest →
      ItemsKnown (item.If line c taken other ∷ rest)
  if-known line c taken other rest one two later fits =
      let parts = ItemFits-If types vars line c taken other fits.0 in
      in-front (item.If line c taken other) rest (made_in_items taken ++ made_in_items other) (made-If line c taken other)
      (all-append (KnowsVariant types) (made_in_items taken) (made_in_items other) (one parts.1) (two parts.2)) (later fits.1)

  items-known : (xs : List Item) → ItemsKnown xs
  items-known = items-induction ItemsKnown (λ fits. tt) do-known if-known

  abbrev CodeKnown : Code → Type 0
  CodeKnown c = CodeFits types vars c → AreKnown (made_in_code c)

  cut-known : (c : Code) (place : ℕ) → c.tail ≡ tail.Cut place → CodeKnown c
  cut-known c place is fits = subst AreKnown (sym (made-Cut c place is)) (items-known c.items (code-fits types vars c fits).0)

  branch-known : (c : Code) (line : ℕ) (b : Cond) (taken other : Code) → c.tail ≡ tail.Branch line b taken other → CodeKnown taken → CodeKnown other →
      CodeKnown c
  branch-known c line b taken other is one two fits =
      let parts = code-fits types vars c fits in
      let ways = branch-fits types vars line b taken other (subst (λ (x : Tail). TailFits types vars x) is parts.1) in
      subst AreKnown (sym (made-Branch c line b taken other is))
      (all-append (KnowsVariant types) (made_in_items c.items) (made_in_code taken ++ made_in_code other) (items-known c.items parts.0)
      (all-append (KnowsVariant types) (made_in_code taken) (made_in_code other) (one ways.1) (two ways.2)))

  -- the cells that a code makes which fits are of variants of the table
  pub code-known : (c : Code) → CodeFits types vars c → AllByRecursion (KnowsVariant types) (made_in_code c)
  code-known = codes-induction CodeKnown cut-known branch-known
