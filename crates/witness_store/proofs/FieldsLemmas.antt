-- What the fields of the cells hold.
use Rattle.std.proofs.Common.{◌≡◌, ℕ, zero, suc, ◌+◌, ◌<◌, ◌&&◌, Bool, true, false, cond, nat_lt, List, [], ◌∷◌, ◌++◌, length, take, slice_get, Option, Some}
use Rattle.std.proofs.Common.{None, option_map, refl, sym, ap, ◌∙◌, subst, arith, append_assoc, append-nil, eq-eqb}
use Rattle.std.specs.Prelude.{count_by}
use Rattle.std.specs.Option.{option_map_or, option_and_then}
use Rattle.std.proofs.lemmas.Bool.Decides.{nat_tests}
use Rattle.std.proofs.lemmas.Option.{same_Some}
use Rattle.gta_theory.specs.Assignments.{Position, Assignment, is_same_position}
use Rattle.ws2s_core.specs.declared.label_tree.TreeNode.{TreeNode}
use Rattle.ws2s_core.specs.LabelTrees.{IsTree, assignment_of}
use Rattle.ws2s_forms.specs.Places.{ones}
use Rattle.store_core.specs.declared.ids.TypeId.{TypeId}
use Rattle.store_core.specs.declared.ids.VariantId.{VariantId}
use Rattle.store_core.specs.declared.ids.FieldId.{FieldId}
use Rattle.store_core.specs.declared.ids.CellId.{CellId}
use Rattle.store_core.specs.declared.kind.FieldKind.{FieldKind}
use Rattle.store_core.specs.declared.kind.FieldKind.TheVariants as field
use Rattle.store_core.specs.declared.kind.Route.{Route}
use Rattle.store_core.specs.declared.value.Value.{Value}
use Rattle.store_core.specs.declared.value.Value.TheVariants as value
use Rattle.store_core.specs.Tables.{TypeEntry, FieldEntry, KnowsVariant, field_at, fields_of, is_had, has_field, variant_count}
use Rattle.tree_encode.specs.declared.counting.Counted.TheVariants.{Children}
use Rattle.tree_encode.specs.Counting.{is_counted, rank}
use Rattle.tree_encode.specs.Tracks.{bool_track, child_number}
use Rattle.tree_encode.proofs.IndexLemmas.{count-more}
use Rattle.tree_store.specs.Decoded.{Standing, child_at, field_in, slot_in, slots_in, first_where}
use Rattle.tree_store.proofs.ValuesLemmas.{own_field}
use Rattle.witness_store.specs.declared.cells.Found.{Found}
use Rattle.witness_store.specs.Finding.{IsFoundAs}
use Rattle.witness_store.specs.Reading.{left_of_node, right_of_node, has_track, number_in, IsNodeAt, IsBehind, AreRead}
use Rattle.witness_store.proofs.ListsLemmas.{take-next, length-front}
use Rattle.witness_store.proofs.PlacesLemmas.{left-node, right-node, on-node, cell-number}

-- ---- which field a cell has

true-lt : (i n : ℕ) → i < n → nat_lt i n ≡ true
true-lt i n less = grind (arith, nat_tests)

has-had : (types : List TypeEntry) (v : VariantId) (f : FieldId) (entry : FieldEntry) → KnowsVariant types v → f.ty ≡ v.ty → field_at types f ≡ Some entry →
    has_field types v f ≡ is_had v.index entry
has-had types v f entry known same there =
    ap (λ b. b && (nat_lt v.index (variant_count types v.ty) && option_map_or (is_had v.index) (field_at types f) false))
    (eq-eqb v.ty.0 f.ty.0 (ap (λ (t : TypeId). t.0) (sym same)))
    ∙ ap (λ b. b && option_map_or (is_had v.index) (field_at types f) false) (true-lt v.index (variant_count types v.ty) known)
    ∙ ap (λ o. option_map_or (is_had v.index) o false) there

module _ (types : List TypeEntry) (nodes : List TreeNode) (cells : List Standing) (numbers : List (Option CellId)) (are : AreRead types nodes cells numbers)
    (cell : Found) (x : Standing) (found : IsFoundAs nodes cell x) (known : KnowsVariant types x.variant) (f : FieldId) (entry : FieldEntry)
    (same : f.ty ≡ x.variant.ty) (there : field_at types f ≡ Some entry) where
  abbrev a : Assignment
  a = assignment_of nodes

  had-is : has_field types cell.variant f ≡ is_had x.variant.index entry
  had-is = ap (λ v. has_field types v f) found.variant ∙ has-had types x.variant f entry known same there

  pub slot-none : has_field types cell.variant f ≡ false → None ≡ slot_in types a cells x f entry
  slot-none hasnt = ap (λ b. cond b (Some (field_in types a cells x.at f entry.kind)) None) (sym hasnt ∙ had-is)

  slot-some : has_field types cell.variant f ≡ true → (y : Value) → y ≡ field_in types a cells x.at f entry.kind → Some y ≡ slot_in types a cells x f entry
  slot-some has y is =
      ap (λ z. Some z) is ∙ ap (λ b. cond b (Some (field_in types a cells x.at f entry.kind)) None) (sym has ∙ had-is)

  pub slot-lost : None ≡ option_map (λ (e : FieldEntry). e.kind) (field_at types f) → ⊥
  slot-lost lost = let none : None ≡ Some entry.kind = lost ∙ ap (option_map (λ (e : FieldEntry). e.kind)) there in cc

  kind-is : (kind : FieldKind) → Some kind ≡ option_map (λ (e : FieldEntry). e.kind) (field_at types f) → kind ≡ entry.kind
  kind-is kind is = same_Some kind entry.kind (is ∙ ap (option_map (λ (e : FieldEntry). e.kind)) there)

  pub slot-bool : has_field types cell.variant f ≡ true → Some field.Bool ≡ option_map (λ (e : FieldEntry). e.kind) (field_at types f) →
      Some (value.Bool (has_track nodes (Some cell.node) (bool_track types f))) ≡ slot_in types a cells x f entry
  slot-bool has is =
      slot-some has _ (ap (λ b. value.Bool b) (on-node nodes are.tree x.at (Some cell.node) (bool_track types f) found.node)
      ∙ ap (field_in types a cells x.at f) (kind-is field.Bool is))

  pub slot-pointer : (ty : TypeId) (along : Route) → has_field types cell.variant f ≡ true →
      Some (field.Pointer ty along) ≡ option_map (λ (e : FieldEntry). e.kind) (field_at types f) → Some (value.Cell None) ≡ slot_in types a cells x f entry
  slot-pointer ty along has is = slot-some has _ (ap (field_in types a cells x.at f) (kind-is (field.Pointer ty along) is))

  child-is : (ty : TypeId) → field.Data ty ≡ entry.kind → child_number types f ≡ Some (rank Children types f)
  child-is ty is =
      ap (option_and_then (λ e. cond (is_counted Children e) (Some (rank Children types f)) None)) there
      ∙ ap (λ k. cond (is_counted Children (record entry { kind = k })) (Some (rank Children types f)) None) (sym is)

  pub slot-data : (ty : TypeId) (place : Option ℕ) → has_field types cell.variant f ≡ true →
      Some (field.Data ty) ≡ option_map (λ (e : FieldEntry). e.kind) (field_at types f) → IsBehind types nodes x.at f.ty f.index place →
      Some (value.Cell (number_in numbers (left_of_node nodes place))) ≡ slot_in types a cells x f entry
  slot-data ty place has is behind =
      let kind = kind-is (field.Data ty) is in
      let n = rank Children types f in
      slot-some has _ (ap (λ o. value.Cell o) (cell-number types nodes cells numbers are ((x.at ++ ones n) ++ false ∷ []) (left_of_node nodes place)
      (left-node nodes are.tree (x.at ++ ones n) place behind)
      ∙ ap (λ q. first_where (is_same_position q) 1 cells) (append_assoc x.at (ones n) (false ∷ []))
      ∙ ap (option_and_then (child_at cells x.at)) (sym (child-is ty kind)))
      ∙ ap (field_in types a cells x.at f) kind)

-- ---- one field after the other

ones-more : (n : ℕ) → ones n ++ true ∷ [] ≡ ones (suc n)
ones-more zero = refl
ones-more (suc n) = ap (λ l. true ∷ l) (ones-more n)

module _ (types : List TypeEntry) (nodes : List TreeNode) (tree : IsTree nodes) (p : Position) (ty : TypeId) (i : ℕ) (place : Option ℕ)
    (within : i < length (fields_of types ty)) (behind : IsBehind types nodes p ty i place) where
  counted : Bool
  counted = option_map_or (is_counted Children) (slice_get (fields_of types ty) i) false

  next-rank : (b : Bool) → counted ≡ b → rank Children types (record { ty = ty; index = i + 1 }) ≡ rank Children types (record { ty = ty; index = i }) +
      cond b 1 0
  unfolding counted
  next-rank b is = count-more (is_counted Children) (fields_of types ty) i within ∙ ap
      (λ c. count_by (is_counted Children) (take i (fields_of types ty)) + cond c 1 0) is

  pub behind-data : option_map_or (is_counted Children) (field_at types (record { ty = ty; index = i })) false ≡ true → IsBehind types nodes p ty (i + 1)
      (right_of_node nodes place)
  unfolding counted
  behind-data is =
      let n = rank Children types (record { ty = ty; index = i }) in
      let more = next-rank true is in
      let number : suc n ≡ rank Children types (record { ty = ty; index = i + 1 }) = omega arith in
      subst (λ q. IsNodeAt nodes q (right_of_node nodes place))
      (append_assoc p (ones n) (true ∷ []) ∙ ap (λ q. p ++ q) (ones-more n) ∙ ap (λ m. p ++ ones m) number)
      (right-node nodes tree (p ++ ones n) place behind)

  pub behind-other : option_map_or (is_counted Children) (field_at types (record { ty = ty; index = i })) false ≡ false → IsBehind types nodes p ty
      (i + 1) place
  unfolding counted
  behind-other is =
      let n = rank Children types (record { ty = ty; index = i }) in
      let more = next-rank false is in
      let number : n ≡ rank Children types (record { ty = ty; index = i + 1 }) = omega arith in
      subst (λ m. IsNodeAt nodes (p ++ ones m) place) number behind

pub behind-none : (types : List TypeEntry) (nodes : List TreeNode) (p : Position) (ty : TypeId) (k : ℕ) → IsNodeAt nodes p (Some k) → IsBehind types nodes
    p ty 0 (Some k)
behind-none types nodes p ty k above = subst (λ q. IsNodeAt nodes q (Some k)) (sym (append-nil p)) above

-- ---- the fields so far

pub slots-more : (types : List TypeEntry) (a : Assignment) (cells : List Standing) (x : Standing) (n : ℕ) (fields : List FieldEntry) (entry : FieldEntry) →
    slots_in types a cells x n (fields ++ entry ∷ []) ≡ slots_in types a cells x n fields ++ slot_in types a cells x (own_field x (n + length fields))
    entry ∷ []
slots-more types a cells x n [] entry = let none : n ≡ n + 0 = omega arith in ap (λ m. slot_in types a cells x (own_field x m) entry ∷ []) none
slots-more types a cells x n (f ∷ fields) entry =
    let next : suc n + length fields ≡ n + suc (length fields) = omega arith in
    ap (λ l. slot_in types a cells x (own_field x n) f ∷ l) (slots-more types a cells x (suc n) fields entry
    ∙ ap (λ m. slots_in types a cells x (suc n) fields ++ slot_in types a cells x (own_field x m) entry ∷ []) next)

-- one field more
pub slots-next : (types : List TypeEntry) (a : Assignment) (cells : List Standing) (x : Standing) (i : ℕ) (f : FieldId) (entry : FieldEntry)
    (old new : List (Option Value)) (y : Option Value) → slice_get (fields_of types x.variant.ty) i ≡ Some entry → f.ty ≡ x.variant.ty → f.index ≡ i →
    old ≡ slots_in types a cells x 0 (take i (fields_of types x.variant.ty)) → y ≡ slot_in types a cells x f entry → new ≡ old ++ y ∷ [] →
    new ≡ slots_in types a cells x 0 (take (i + 1) (fields_of types x.variant.ty))
slots-next types a cells x i f entry old new y there same index so_far is added =
    added
    ∙ (λ k. so_far k ++ (is ∙ ap (λ g. slot_in types a cells x g entry) own) k ∷ [])
    ∙ sym (slots-more types a cells x 0 (take i (fields_of types x.variant.ty)) entry)
    ∙ ap (slots_in types a cells x 0) (sym (take-next (fields_of types x.variant.ty) i entry there))
  where
    number : f.index ≡ 0 + length (take i (fields_of types x.variant.ty))
    number = let long = length-front (fields_of types x.variant.ty) i entry there in omega arith

    own : f ≡ own_field x (0 + length (take i (fields_of types x.variant.ty)))
    own = λ k. record { ty = same k; index = number k }
