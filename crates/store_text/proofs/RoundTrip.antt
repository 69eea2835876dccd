-- What is written of a store is read as that store: a line after the other.
use Rattle.std.proofs.Common.{◌≡◌, ℕ, zero, suc, ◌+◌, ◌<◌, true, false, cond, T, List, [], ◌∷◌, ◌++◌, length, map, slice_get, slice_set, Option, Some}
use Rattle.std.proofs.Common.{None, Ok, IfSome, refl, sym, ap, ◌∙◌, subst, arith, append_assoc, codes}
use Rattle.std.specs.Option.{option_map, option_map_or, is_some}
use Rattle.std.specs.List.{AllByRecursion, flat_map, find, zip}
use Rattle.std.specs.Ordering.{nat_cmp, is_lt, is_eq}
use Rattle.std.specs.declared.cmp.Ordering.TheVariants.{Less, Greater}
use Rattle.std.specs.Cmp.{nat_cmp_is}
use Rattle.std.proofs.lemmas.Cmp.{ranked, nat_cmp_total}
use Rattle.std.proofs.lemmas.List.{append-nil, length_push}
use Rattle.std.proofs.lemmas.List.Folds.{flat_map-map}
use Rattle.std.proofs.lemmas.Option.{slice_get-map}
use Rattle.std.specs.FinMap.Entries.{below_all, by_order}
use Rattle.std.specs.FinMap.{entries, entries_sorted, insert, keys, empty, contains_key, is_sorted, put, get-entries, entries-insert}
use Rattle.std.specs.FinMap.{same_entries_map, len-entries, len-empty}
use Rattle.std.specs.FinMap as fin
use Rattle.store_core.specs.declared.value.Value.{Value}
use Rattle.store_text.specs.declared.read.holds.Mention.{Mention}
use Rattle.store_core.specs.Tables.{TypeEntry, VarEntry, fields_of, field_names, var_names, var_named, type_at, IsTypeTable, IsTypeEntry, IsVarTable}
use Rattle.store_core.specs.Tables.{AreDistinct}
use Rattle.store_core.specs.Stores.{StoreMap, CellEntry, CellFits, Fits, VarsFit, VarFits}
use Rattle.store_text.specs.StoreText.{store_text_of, variant_text, var_lines, cell_lines}
use Rattle.store_text.specs.Lines.{lines_of}
use Rattle.store_text.specs.Spelling.{is_name, all_of, line_of}
use Rattle.store_text.specs.Saying.{Said, nothing_said, say_var, say_cell, mentions_of, var_holds}
use Rattle.store_text.specs.Reading.{reading, read_text, read_lines, read_end, after_end, say_line, checked, store_said, is_misnamed, next_after}
use Rattle.store_text.specs.Writable.{AreNames, HasNames, HaveNames, IsWritable, IsTellableCell, NamesTellable}
use Rattle.store_core.proofs.Names.{place_of-at}
use Rattle.store_core.proofs.Bodies.{AllByRecursion-at}
use Rattle.store_text.proofs.Fitting.{T-first, T-second, cell_at, entry_fits}
use Rattle.store_text.proofs.ReadValues.{Fine, VarFits-holds}
use Rattle.store_text.proofs.Words.{HasNoLine, lines_cons}
use Rattle.store_text.proofs.SpelledLines.{given, var_told, var_read, var_has_no_line, type_word, cell_told, cell_read, cell_has_no_line}
use Rattle.store_text.proofs.ToldValues.{slice_get-front, slice_set-front, value_told, value_fine, fine_append}
use Rattle.store_text.proofs.ToldCells.{type_known, cell_back}

-- ---- the lines of the text

-- lines with an LF at the end of each
abbrev ended : List (List ℕ) → List ℕ
ended lines = flat_map (λ l. l ++ codes "\n") lines

lines_ended : (lines : List (List ℕ)) (rest : List ℕ) → AllByRecursion HasNoLine lines → lines_of (ended lines ++ rest) ≡ lines ++ lines_of rest
lines_ended [] rest none = refl
lines_ended (l ∷ lines) rest none =
    ap lines_of (append_assoc (l ++ codes "\n") (ended lines) rest ∙ append_assoc l (codes "\n") (ended lines ++ rest)) ∙
    lines_cons l (ended lines ++ rest) none.0 ∙ ap (λ ls. l ∷ ls) (lines_ended lines rest none.1)

-- the lines of the variables and of the cells
abbrev vars_told : List VarEntry → List Value → List (List ℕ)
vars_told vars values = map (λ v. var_told v.0.name v.1) (zip vars values)

abbrev entry_told : List TypeEntry → ℕ × CellEntry → List ℕ
entry_told types e = cell_told e.0 (variant_text types e.1.variant) (fields_of types e.1.variant.ty) e.1.values

vars_ended : (vars : List VarEntry) (values : List Value) → var_lines vars values ≡ ended (vars_told vars values)
vars_ended vars values = sym (flat_map-map (λ l. l ++ codes "\n") (λ v. var_told v.0.name v.1) (zip vars values))

cells_ended : (types : List TypeEntry) (es : List (ℕ × CellEntry)) → cell_lines types es ≡ ended (map (entry_told types) es)
cells_ended types es = sym (flat_map-map (λ l. l ++ codes "\n") (entry_told types) es)

text_lines : (types : List TypeEntry) (vars : List VarEntry) (s : StoreMap) → AllByRecursion HasNoLine (vars_told vars s.vars) →
    AllByRecursion HasNoLine (map (entry_told types) (entries s.cells))
    → lines_of (store_text_of types vars s) ≡ codes "store" ∷ (vars_told vars s.vars ++ (map (entry_told types) (entries s.cells) ++ codes "end" ∷ []))
text_lines types vars s none_v none_c =
    let cells = map (entry_told types) (entries s.cells) in
    ap (λ t. lines_of (codes "store\n" ++ t ++ cell_lines types (entries s.cells) ++ codes "end\n")) (vars_ended vars s.vars)
    ∙ ap (λ t. lines_of (codes "store\n" ++ ended (vars_told vars s.vars) ++ t ++ codes "end\n")) (cells_ended types (entries s.cells))
    ∙ ap (λ t. lines_of (codes "store\n" ++ t)) (append_assoc (ended (vars_told vars s.vars)) (ended cells) (codes "end\n"))
    ∙ lines_cons (codes "store") (ended (vars_told vars s.vars) ++ (ended cells ++ codes "end\n")) (refl, (refl, (refl, (refl, (refl, tt)))))
    ∙ ap (λ ls. codes "store" ∷ ls) (lines_ended (vars_told vars s.vars) (ended cells ++ codes "end\n") none_v ∙
    ap (λ ls. vars_told vars s.vars ++ ls) (lines_ended cells (codes "end\n") none_c))

-- ---- the lines of the variables

-- the values so far, and none of the others
abbrev said_so_far : List Value → List VarEntry → List (Option Value)
said_so_far done rest = map Some done ++ map (λ v. None) rest

-- the lines are read, and what follows with the values said
record VarsRead (types : List TypeEntry) (vars : List VarEntry) (s : StoreMap) (n : ℕ) (said : Said) (lines : List (List ℕ))
    (tail : List (List ℕ)) (values : List Value) : Type 0 where
  next : ℕ
  more : Said
  reads : read_lines types vars n said (lines ++ tail) ≡ read_lines types vars next more tail
  cells : more.cells ≡ said.cells
  vars_are : more.vars ≡ map Some values
  fine : AllByRecursion (Fine s) more.mentions

map_push : (xs : List Value) (x : Value) → map Some xs ++ Some x ∷ [] ≡ map Some (xs ++ x ∷ [])
map_push [] x = refl
map_push (y ∷ xs) x = ap (λ l. Some y ∷ l) (map_push xs x)

length-map_some : (xs : List Value) → length (map Some xs) ≡ length xs
length-map_some [] = refl
length-map_some (x ∷ xs) = let rest = length-map_some xs in omega (arith, rest)

-- a line of a variable that has no value yet
var_step : (types : List TypeEntry) (vars : List VarEntry) (s : StoreMap) (n : ℕ) (said : Said) (front : List VarEntry)
    (v : VarEntry) (rest : List VarEntry) (done : List Value) (x : Value)
    → AreDistinct (var_names vars) → vars ≡ front ++ v ∷ rest → length done ≡ length front → said.vars ≡ said_so_far done (v ∷ rest) → VarFits s v.kind x
    → say_var vars n said (given v.name x) ≡ Ok
    (record { cells = said.cells; vars = said_so_far (done ++ x ∷ []) rest; mentions = said.mentions ++ mentions_of n (var_holds v.kind) x })
unfolding say_var
var_step types vars s n said front v rest done x distinct is long so_far fits =
    let at : slice_get vars (length front) ≡ Some v = ap (λ l. slice_get l (length front)) is ∙ slice_get-front front v rest in
    let named : var_named vars v.name ≡ Some (record { 0 = length front }) =
    ap (option_map (λ i. record { 0 = i }))
    (place_of-at (var_names vars) (length front) v.name distinct (slice_get-map (λ v. v.name) vars (length front) ∙ ap (option_map (λ v. v.name)) at)) in
    let place : length (map Some done) ≡ length front = length-map_some done ∙ long in
    let free : slice_get said.vars (length front) ≡ Some None = ap (λ l. slice_get l (length front)) so_far ∙
    ap (slice_get (said_so_far done (v ∷ rest))) (sym place) ∙ slice_get-front (map Some done) None (map (λ v. None) rest) in
    let set_is : slice_set said.vars (length front) (Some x) ≡ said_so_far (done ++ x ∷ []) rest =
    ap (λ l. slice_set l (length front) (Some x)) so_far ∙ ap (λ i. slice_set (said_so_far done (v ∷ rest)) i (Some x))
    (sym place) ∙ slice_set-front (map Some done) None (Some x) (map (λ v. None) rest)
    ∙ sym (append_assoc (map Some done) (Some x ∷ []) (map (λ v. None) rest)) ∙ ap (λ l. l ++ map (λ v. None) rest) (map_push done x) in
    rw named (rw at (rw free (rw (value_told s (var_holds v.kind) x ((VarFits-holds s v.kind x).0 fits))
    (ap (λ l. Ok (record { cells = said.cells; vars = l; mentions = said.mentions ++ mentions_of n (var_holds v.kind) x })) set_is))))

-- a line `var` isn't `end`, and says what it tells
var_line_read : (types : List TypeEntry) (vars : List VarEntry) (n : ℕ) (said more : Said) (name : List ℕ) (x : Value)
    (tail : List (List ℕ)) → is_name name ≡ true → NamesTellable x → say_var vars n said (given name x) ≡ Ok more
    → read_lines types vars n said (var_told name x ∷ tail) ≡ read_lines types vars (n + 1) more tail
unfolding read_lines say_line
var_line_read types vars n said more name x tail is tellable e = rw (var_read name x is tellable) (rw e refl)

vars_read : (types : List TypeEntry) (vars : List VarEntry) (s : StoreMap) (tail : List (List ℕ)) → AreDistinct (var_names vars) →
    (rest : List VarEntry) (xs : List Value) (front : List VarEntry) (done : List Value) (n : ℕ) (said : Said)
    → vars ≡ front ++ rest → length done ≡ length front → said.vars ≡ said_so_far done rest → VarsFit s rest xs →
    AreNames (var_names rest) → AllByRecursion NamesTellable xs → AllByRecursion (Fine s) said.mentions
    → VarsRead types vars s n said (vars_told rest xs) tail (done ++ xs)
vars_read types vars s tail distinct [] [] front done n said is long so_far fits names all fine =
    record {
      next = n;
      more = said;
      reads = refl;
      cells = refl;
      vars_are = so_far ∙ append-nil (map Some done) ∙
          ap (map Some) (sym (append-nil done));
      fine = fine;
    }
vars_read types vars s tail distinct [] (x ∷ xs) front done n said is long so_far fits names all fine = absurd fits
vars_read types vars s tail distinct (v ∷ rest) [] front done n said is long so_far fits names all fine = absurd fits
vars_read types vars s tail distinct (v ∷ rest) (x ∷ xs) front done n said is long so_far fits names all fine =
    let more : Said = record { cells = said.cells; vars = said_so_far (done ++ x ∷ []) rest; mentions = said.mentions ++ mentions_of n (var_holds v.kind) x } in
    let step = var_step types vars s n said front v rest done x distinct is long so_far fits.0 in
    let here = var_line_read types vars n said more v.name x (vars_told rest xs ++ tail) names.0 all.0 step in
    let fine_more = fine_append s said.mentions (mentions_of n (var_holds v.kind) x) fine
    (value_fine s n (var_holds v.kind) x ((VarFits-holds s v.kind x).0 fits.0)) in
    let grown : length (done ++ x ∷ []) ≡ length (front ++ v ∷ []) = omega (arith, length_push done x, length_push front v, long) in
    let others = vars_read types vars s tail distinct rest xs (front ++ v ∷ []) (done ++ x ∷ []) (n + 1) more
    (is ∙ sym (append_assoc front (v ∷ []) rest)) grown refl fits.1 names.1 all.1 fine_more in
    record {
      next = others.next;
      more = others.more;
      reads = here ∙ others.reads;
      cells = others.cells;
      vars_are = others.vars_are ∙ ap (map Some) (append_assoc done (x ∷ []) xs);
      fine = others.fine;
    }

-- ---- the lines of the cells

abbrev AreBelow : ℕ → List (ℕ × CellEntry) → Type 0
AreBelow k es = AllByRecursion (λ e. e.0 < k) es

-- in a sorted list those before an entry have smaller keys
below_later : (a k : ℕ) (c : CellEntry) (front rest : List (ℕ × CellEntry)) → T (below_all nat_cmp a (front ++ (k, c) ∷ rest)) → a < k
below_later a k c [] rest below = less (nat_cmp a k) refl (T-first _ _ below)
  where
    less : (o : _) → nat_cmp a k ≡ o → T (is_lt o) → a < k
    less Less e p = ranked a k Less (sym e)
    less _ e p = absurd p
below_later a k c (e ∷ front) rest below = below_later a k c front rest (T-second _ _ below)

sorted_front : (front : List (ℕ × CellEntry)) (k : ℕ) (c : CellEntry) (rest : List (ℕ × CellEntry)) →
    T (is_sorted nat_cmp (front ++ (k, c) ∷ rest)) → AreBelow k front
sorted_front [] k c rest sorted = tt
sorted_front (e ∷ front) k c rest sorted = (below_later e.0 k c front rest (T-first _ _ sorted), sorted_front front k c rest (T-second _ _ sorted))

put_last : (front : List (ℕ × CellEntry)) (k : ℕ) (c : CellEntry) → AreBelow k front → put nat_cmp k c front ≡ front ++ (k, c) ∷ []
put_last [] k c below = refl
put_last (e ∷ front) k c below = ap (λ o. by_order o ((k, c) ∷ e ∷ front) ((e.0, c) ∷ front) (e ∷ put nat_cmp k c front))
    (sym (nat_cmp_is k e.0 Greater below.0)) ∙ ap (λ l. e ∷ l) (put_last front k c below.1)

find_new : (front : List (ℕ × CellEntry)) (k : ℕ) → AreBelow k front → fin.find nat_cmp k front ≡ None
find_new [] k below = refl
find_new (e ∷ front) k below = ap (λ o. cond (is_eq o) (Some e.1) (fin.find nat_cmp k front))
    (sym (nat_cmp_is k e.0 Greater below.0)) ∙ find_new front k below.1

-- the lines are read, and what follows with the cells said
record CellsRead (types : List TypeEntry) (vars : List VarEntry) (s : StoreMap) (n : ℕ) (said : Said) (lines : List (List ℕ))
    (tail : List (List ℕ)) (es : List (ℕ × CellEntry)) : Type 0 where
  next : ℕ
  more : Said
  reads : read_lines types vars n said (lines ++ tail) ≡ read_lines types vars next more tail
  cells : entries more.cells ≡ es
  vars_are : more.vars ≡ said.vars
  fine : AllByRecursion (Fine s) more.mentions

-- what is known of an entry
record EntryOf (types : List TypeEntry) (s : StoreMap) (e : ℕ × CellEntry) : Type 0 where
  ty : TypeEntry
  at : type_at types e.1.variant.ty ≡ Some ty
  entry : IsTypeEntry types ty
  names : HasNames ty
  fits : CellFits types s e.1
  tellable : IsTellableCell (record { 0 = e.0 }) e.1

entry_of : (types : List TypeEntry) (vars : List VarEntry) (s : StoreMap) → IsTypeTable types → HaveNames types vars →
    Fits types vars s → IsWritable s → (i : ℕ) (e : ℕ × CellEntry) → slice_get (entries s.cells) i ≡ Some e → EntryOf types s e
entry_of types vars s table names fits writable i e at =
    let is = entry_fits types s fits.cells i e at in
    let known = type_known types e.1.variant is.variant in
    record {
      ty = known.0;
      at = known.1;
      entry = AllByRecursion-at (IsTypeEntry types) types e.1.variant.ty.0 known.0 table.each known.1;
      names = AllByRecursion-at HasNames types e.1.variant.ty.0 known.0 names.of_types known.1;
      fits = is;
      tellable = subst (λ (o : Option CellEntry). IfSome o (IsTellableCell (record { 0 = e.0 }))) (cell_at s i e at) (writable.cells (record { 0 = e.0 }));
    }

variant_word : (types : List TypeEntry) (s : StoreMap) (e : ℕ × CellEntry) (of : EntryOf types s e) →
    variant_text types e.1.variant ≡ type_word of.ty.name (slice_get of.ty.variants e.1.variant.index)
variant_word types s e of = ap (λ o. option_map_or (λ t. t.name) o [] ++ option_map_or (λ name. codes ":" ++ name)
    (slice_get (option_map_or (λ t. t.variants) o []) e.1.variant.index) []) of.at ∙ by (slice_get of.ty.variants e.1.variant.index)
  where
    by : (o : Option (List ℕ)) → of.ty.name ++ option_map_or (λ name. codes ":" ++ name) o [] ≡ type_word of.ty.name o
    by None = append-nil of.ty.name
    by (Some v) = refl

variant_is_name : (types : List TypeEntry) (s : StoreMap) (e : ℕ × CellEntry) (of : EntryOf types s e) →
    IfSome (slice_get of.ty.variants e.1.variant.index) (λ v. is_name v ≡ true)
variant_is_name types s e of = by of.ty.variants e.1.variant.index of.names.variants
  where
    by : (names : List (List ℕ)) (i : ℕ) → AreNames names → IfSome (slice_get names i) (λ v. is_name v ≡ true)
    by [] i all = tt
    by (name ∷ names) zero all = all.0
    by (name ∷ names) (suc i) all = by names i all.1

own_fields : (types : List TypeEntry) (s : StoreMap) (e : ℕ × CellEntry) (of : EntryOf types s e) → AreNames (field_names (fields_of types e.1.variant.ty))
own_fields types s e of = subst (λ (o : Option TypeEntry). AreNames (field_names (option_map_or (λ t. t.fields) o []))) (sym of.at) of.names.fields

entry_has_no_line : (types : List TypeEntry) (s : StoreMap) (e : ℕ × CellEntry) → EntryOf types s e → HasNoLine (entry_told types e)
entry_has_no_line types s e of =
    subst (λ w. HasNoLine (cell_told e.0 w (fields_of types e.1.variant.ty) e.1.values)) (sym (variant_word types s e of))
    (cell_has_no_line e.0 of.ty.name (slice_get of.ty.variants e.1.variant.index)
    (fields_of types e.1.variant.ty) e.1.values of.tellable.0 of.names.name (variant_is_name types s e of) (own_fields types s e of) of.tellable.1)

-- a line of a cell whose number is new
cell_line_read : (types : List TypeEntry) (vars : List VarEntry) (s : StoreMap) (n : ℕ) (said : Said) (e : ℕ × CellEntry)
    (of : EntryOf types s e) (table : IsTypeTable types) (tail : List (List ℕ)) → contains_key said.cells e.0 ≡ false
    → (named : List Mention) × (read_lines types vars n said (entry_told types e ∷ tail) ≡ read_lines types vars (n + 1)
    (record { cells = insert said.cells e.0 e.1; vars = said.vars; mentions = said.mentions ++ named }) tail)
    × AllByRecursion (Fine s) named
unfolding read_lines say_line say_cell
cell_line_read types vars s n said e of table tail new =
    let told = cell_back types s n e.0 e.1 of.ty table.names of.at of.entry.variants of.entry.names of.fits in
    let read = cell_read e.0 of.ty.name (slice_get of.ty.variants e.1.variant.index)
    (fields_of types e.1.variant.ty) e.1.values of.tellable.0 of.names.name (variant_is_name types s e of) (own_fields types s e of) of.tellable.1 in
    let whole : line_of (entry_told types e) ≡ _ = ap (λ w. line_of (cell_told e.0 w (fields_of types e.1.variant.ty) e.1.values))
    (variant_word types s e of) ∙ read in
    (told.named, rw whole (rw new (rw told.is refl)), told.fine)

cells_read : (types : List TypeEntry) (vars : List VarEntry) (s : StoreMap) (tail : List (List ℕ)) → IsTypeTable types →
    ((i : ℕ) (e : ℕ × CellEntry) → slice_get (entries s.cells) i ≡ Some e → EntryOf types s e)
    → (rest front : List (ℕ × CellEntry)) (n : ℕ) (said : Said) → entries s.cells ≡ front ++ rest → entries said.cells ≡ front →
    AllByRecursion (Fine s) said.mentions
    → CellsRead types vars s n said (map (entry_told types) rest) tail (front ++ rest)
cells_read types vars s tail table each [] front n said is so_far fine =
    record { next = n; more = said; reads = refl; cells = so_far ∙ sym (append-nil front); vars_are = refl; fine = fine }
cells_read types vars s tail table each (e ∷ rest) front n said is so_far fine =
    let of = each (length front) e (ap (λ l. slice_get l (length front)) is ∙ slice_get-front front e rest) in
    let sorted = subst (λ l. T (is_sorted nat_cmp l)) is (entries_sorted s.cells) in
    let below = sorted_front front e.0 e.1 rest sorted in
    let new : contains_key said.cells e.0 ≡ false = ap is_some (get-entries said.cells e.0 ∙ ap (fin.find nat_cmp e.0) so_far ∙ find_new front e.0 below) in
    let here = cell_line_read types vars s n said e of table (map (entry_told types) rest ++ tail) new in
    let after : Said = record { cells = insert said.cells e.0 e.1; vars = said.vars; mentions = said.mentions ++ here.0 } in
    let grown : entries after.cells ≡ front ++ e ∷ [] = entries-insert nat_cmp_total said.cells e.0 e.1 ∙
    ap (put nat_cmp e.0 e.1) so_far ∙ put_last front e.0 e.1 below in
    let others = cells_read types vars s tail table each rest (front ++ e ∷ []) (n + 1) after
    (is ∙ sym (append_assoc front (e ∷ []) rest)) grown (fine_append s said.mentions here.0 fine here.2) in
    record {
      next = others.next;
      more = others.more;
      reads = here.1 ∙ others.reads;
      cells = others.cells ∙ append_assoc front
          (e ∷ []) rest;
      vars_are = others.vars_are;
      fine = others.fine;
    }

-- ---- the end

values_back : (values : List Value) → all_of (λ x. x) (map Some values) ≡ Some values
values_back [] = refl
values_back (x ∷ values) = ap (option_map (λ ys. x ∷ ys)) (values_back values)

none_misnamed : (s : StoreMap) (ms : List Mention) → AllByRecursion (Fine s) ms → find (is_misnamed s) ms ≡ None
none_misnamed s [] fine = refl
none_misnamed s (m ∷ ms) fine = ap (λ t. cond t (Some m) (find (is_misnamed s) ms)) fine.0 ∙ none_misnamed s ms fine.1

end_read : (types : List TypeEntry) (vars : List VarEntry) (s : StoreMap) (n : ℕ) (said : Said) →
    entries said.cells ≡ entries s.cells → said.vars ≡ map Some s.vars → s.next ≡ next_after (keys s.cells) → AllByRecursion (Fine s) said.mentions
    → read_lines types vars n said (codes "end" ∷ []) ≡ Ok s
unfolding read_lines read_end after_end checked
end_read types vars s n said cells values next fine =
    let same : said.cells ≡ s.cells = same_entries_map said.cells s.cells cells in
    let store : store_said said s.vars ≡ s = (λ i. record { cells = same i; vars = s.vars; next = next_after (keys (same i)) }) ∙
    ap (λ m. record { cells = s.cells; vars = s.vars; next = m }) (sym next) in
    rw values (rw (values_back s.vars) (rw store (rw (none_misnamed s said.mentions fine) refl)))

-- ---- the law

no_lines : (types : List TypeEntry) (s : StoreMap) (es : List (ℕ × CellEntry)) →
    ((i : ℕ) (e : ℕ × CellEntry) → slice_get es i ≡ Some e → EntryOf types s e) → AllByRecursion HasNoLine (map (entry_told types) es)
no_lines types s [] each = tt
no_lines types s (e ∷ es) each = (entry_has_no_line types s e (each 0 e refl), no_lines types s es (λ i d at. each (suc i) d at))

no_var_lines : (vars : List VarEntry) (values : List Value) → AreNames (var_names vars) → AllByRecursion NamesTellable values →
    AllByRecursion HasNoLine (vars_told vars values)
no_var_lines [] values names all = tt
no_var_lines (v ∷ vars) [] names all = tt
no_var_lines (v ∷ vars) (x ∷ values) names all = (var_has_no_line v.name x names.0 all.0, no_var_lines vars values names.1 all.1)

entries-empty : entries (empty {X = CellEntry} {R = nat_cmp}) ≡ []
entries-empty = none _ (sym (len-entries (empty {X = CellEntry} {R = nat_cmp})) ∙ len-empty nat_cmp CellEntry)
  where
    none : (es : List (ℕ × CellEntry)) → length es ≡ 0 → es ≡ []
    none [] e = refl
    none (e ∷ es) is = absurd (omega arith)

pub written_stores_are_read : (types : List TypeEntry) (vars : List VarEntry) (store : StoreMap) → IsTypeTable types →
    IsVarTable vars → HaveNames types vars → Fits types vars store → IsWritable store
    → reading types vars (store_text_of types vars store) ≡ Ok store
unfolding reading read_text
written_stores_are_read types vars s table vars_table names fits writable =
    let each = entry_of types vars s table names fits writable in
    let cells = map (entry_told types) (entries s.cells) in
    let after_vars = vars_read types vars s (cells ++ codes "end" ∷ []) vars_table.names vars s.vars [] [] 2
    (nothing_said vars) refl refl refl fits.values names.of_vars writable.vars tt in
    let after_cells = cells_read types vars s (codes "end" ∷ []) table each (entries s.cells) [] after_vars.next after_vars.more refl
    (ap entries after_vars.cells ∙ entries-empty) after_vars.fine in
    ap (read_text types vars) (text_lines types vars s (no_var_lines vars s.vars names.of_vars writable.vars) (no_lines types s (entries s.cells) each))
    ∙ after_vars.reads ∙ after_cells.reads
    ∙ end_read types vars s after_cells.next after_cells.more after_cells.cells (after_cells.vars_are ∙ after_vars.vars_are) writable.next after_cells.fine
