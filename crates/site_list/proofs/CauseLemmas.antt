-- The sites of places and of code, part by part.
use Rattle.std.proofs.Common.{◌≡◌, ℕ, List, [], ◌∷◌, ◌++◌, map, refl, sym, ap, ap₂, ◌∙◌, append_assoc, slice_get}
use Rattle.std.specs.Option.{option_map_or}
use Rattle.std.proofs.lemmas.List.Folds.{flat_map-map}
use Rattle.std.proofs.lemmas.List.{map-append}
use Rattle.store_core.specs.declared.ids.FieldId.{FieldId}
use Rattle.store_core.specs.Tables.{TypeEntry}
use Rattle.store_logic.specs.declared.cond.Cond.{Cond}
use Rattle.store_logic.specs.declared.act.Act.{Act}
use Rattle.store_exec.specs.declared.cause.Cause.{Cause}
use Rattle.store_exec.specs.declared.code.Item.{Item}
use Rattle.store_exec.specs.declared.code.Item.TheVariants as item
use Rattle.store_exec.specs.declared.code.Item.TheVariants.{rolls-Do, rolls-If}
use Rattle.store_exec.specs.declared.code.Item.TheOpen.{Item-F}
use Rattle.store_exec.specs.declared.code.Item.TheFolds.{fold-roll-Item}
use Rattle.store_exec.specs.declared.code.Code.{Code, roll-out-Code, out-Code}
use Rattle.store_exec.specs.declared.code.Tail.{Tail}
use Rattle.store_exec.specs.declared.code.Tail.TheVariants as tail
use Rattle.store_exec.specs.declared.code.Tail.TheVariants.{rolls-Cut, rolls-Branch}
use Rattle.store_exec.specs.declared.code.Tail.TheOpen.{Tail-F}
use Rattle.store_exec.specs.declared.code.Tail.TheFolds.{fold-Tail, fold-roll-Tail, fold-roll-Code}
use Rattle.store_exec.specs.declared.triple.Cut.{Cut}
use Rattle.site_list.specs.declared.site.Site.{Site}
use Rattle.site_list.specs.Sites.{site_at, field_causes, path_causes, cond_causes, place_causes, assign_causes}
use Rattle.site_list.specs.Sites.{act_causes, cut_sites, item_sites, item_sites_rule, items_sites, code_sites, code_sites_rule, tail_sites_rule}

-- ---- places

-- a place of some fields and a last one
pub place-last : (types : List TypeEntry) (g : FieldId) (before : List FieldId) (f : FieldId) (evaluated : List Cause) →
    place_causes types g (before ++ f ∷ []) evaluated ≡ field_causes types g ++ (path_causes types before ++ (evaluated ++ field_causes types f))
place-last types g [] f evaluated = refl
place-last types g (h ∷ before) f evaluated =
    ap (λ rest. field_causes types g ++ rest) (place-last types h before f evaluated
    ∙ sym (append_assoc (field_causes types h) (path_causes types before) (evaluated ++ field_causes types f)))

pub assign-last : (types : List TypeEntry) (before : List FieldId) (f : FieldId) (evaluated : List Cause) →
    assign_causes types (before ++ f ∷ []) evaluated ≡ path_causes types before ++ (evaluated ++ field_causes types f)
assign-last types [] f evaluated = refl
assign-last types (g ∷ before) f evaluated =
    place-last types g before f evaluated
    ∙ sym (append_assoc (field_causes types g) (path_causes types before) (evaluated ++ field_causes types f))

-- ---- code

pub sites-Do : (types : List TypeEntry) (line : ℕ) (a : Act) → item_sites types (item.Do line a) ≡ map (site_at line) (act_causes types a)
sites-Do types line a = ap (item_sites types) (sym (rolls-Do line a)) ∙ fold-roll-Item (List Site) (item_sites_rule types) (Item-F.Do line a)

pub sites-If : (types : List TypeEntry) (line : ℕ) (c : Cond) (taken other : List Item) →
    item_sites types (item.If line c taken other) ≡ map (site_at line) (cond_causes types c) ++ (items_sites types taken ++ items_sites types other)
sites-If types line c taken other =
    ap (item_sites types) (sym (rolls-If line c taken other)) ∙ fold-roll-Item (List Site) (item_sites_rule types) (Item-F.If line c taken other)
    ∙ ap₂ (λ (xs ys : List Site). map (site_at line) (cond_causes types c) ++ (xs ++ ys))
    (flat_map-map (λ sites. sites) (item_sites types) taken) (flat_map-map (λ sites. sites) (item_sites types) other)

-- the sites of a tail
abbrev pub tail_sites : List TypeEntry → List Cut → Tail → List Site
tail_sites types cuts = fold-Tail (List Site) (List Site) (tail_sites_rule types cuts) (code_sites_rule types)

pub sites-code : (types : List TypeEntry) (cuts : List Cut) (c : Code) → code_sites types cuts c ≡ items_sites types c.items ++ tail_sites types cuts c.tail
sites-code types cuts c = ap (code_sites types cuts) (sym (roll-out-Code c))
    ∙ fold-roll-Code (List Site) (List Site) (tail_sites_rule types cuts) (code_sites_rule types) (out-Code c)

pub sites-Cut : (types : List TypeEntry) (cuts : List Cut) (place : ℕ) →
    tail_sites types cuts (tail.Cut place) ≡ option_map_or cut_sites (slice_get cuts place) []
sites-Cut types cuts place = ap (tail_sites types cuts) (sym (rolls-Cut place))
    ∙ fold-roll-Tail (List Site) (List Site) (tail_sites_rule types cuts) (code_sites_rule types) (Tail-F.Cut place)

pub sites-Branch : (types : List TypeEntry) (cuts : List Cut) (line : ℕ) (b : Cond) (taken other : Code) →
    tail_sites types cuts (tail.Branch line b taken other)
    ≡ map (site_at line) (cond_causes types b) ++ (code_sites types cuts taken ++ code_sites types cuts other)
sites-Branch types cuts line b taken other = ap (tail_sites types cuts) (sym (rolls-Branch line b taken other))
    ∙ fold-roll-Tail (List Site) (List Site) (tail_sites_rule types cuts) (code_sites_rule types) (Tail-F.Branch line b taken other)

-- ---- sites that were added one after the other

pub assign_made : (types : List TypeEntry) (line : ℕ) (s0 s1 s2 s3 : List Site) (place before : List FieldId) (f : FieldId) (evaluated : List Cause) →
    place ≡ before ++ f ∷ [] → s1 ≡ s0 ++ map (site_at line) (path_causes types before) → s2 ≡ s1 ++ map (site_at line) evaluated →
    s3 ≡ s2 ++ map (site_at line) (field_causes types f) → s3 ≡ s0 ++ map (site_at line) (assign_causes types place evaluated)
assign_made types line s0 s1 s2 s3 place before f evaluated is one two three =
    three ∙ ap (λ s. s ++ map (site_at line) (field_causes types f)) (two ∙ ap (λ s. s ++ map (site_at line) evaluated) one)
    ∙ append_assoc (s0 ++ map (site_at line) (path_causes types before)) (map (site_at line) evaluated) (map (site_at line) (field_causes types f))
    ∙ append_assoc s0 (map (site_at line) (path_causes types before)) (map (site_at line) evaluated ++ map (site_at line) (field_causes types f))
    ∙ ap (λ s. s0 ++ (map (site_at line) (path_causes types before) ++ s)) (sym (map-append (site_at line) evaluated (field_causes types f)))
    ∙ ap (λ s. s0 ++ s) (sym (map-append (site_at line) (path_causes types before) (evaluated ++ field_causes types f)))
    ∙ ap (λ causes. s0 ++ map (site_at line) causes) (sym (ap (λ fields. assign_causes types fields evaluated) is ∙ assign-last types before f evaluated))

pub if_made : (types : List TypeEntry) (line : ℕ) (i : Item) (c : Cond) (taken other xs ys : List Item) (s0 s1 s2 s3 : List Site) →
    i ≡ item.If line c taken other → xs ≡ taken → ys ≡ other → s1 ≡ s0 ++ map (site_at line) (cond_causes types c) →
    s2 ≡ s1 ++ items_sites types xs → s3 ≡ s2 ++ items_sites types ys → s3 ≡ s0 ++ item_sites types i
if_made types line i c taken other xs ys s0 s1 s2 s3 is one_is other_is one two three =
    three ∙ ap (λ s. s ++ items_sites types ys) (two ∙ ap (λ s. s ++ items_sites types xs) one)
    ∙ append_assoc (s0 ++ map (site_at line) (cond_causes types c)) (items_sites types xs) (items_sites types ys)
    ∙ append_assoc s0 (map (site_at line) (cond_causes types c)) (items_sites types xs ++ items_sites types ys)
    ∙ ap₂ (λ (us vs : List Item). s0 ++ (map (site_at line) (cond_causes types c) ++ (items_sites types us ++ items_sites types vs))) one_is other_is
    ∙ ap (λ s. s0 ++ s) (sym (ap (item_sites types) is ∙ sites-If types line c taken other))

pub cut_made : (types : List TypeEntry) (cuts : List Cut) (c : Code) (xs : List Item) (place : ℕ) (s0 s1 s2 : List Site) → xs ≡ c.items →
    c.tail ≡ tail.Cut place → s1 ≡ s0 ++ items_sites types xs → s2 ≡ s1 ++ option_map_or cut_sites (slice_get cuts place) [] →
    s2 ≡ s0 ++ code_sites types cuts c
cut_made types cuts c xs place s0 s1 s2 same is one two =
    two ∙ ap (λ s. s ++ option_map_or cut_sites (slice_get cuts place) []) one
    ∙ append_assoc s0 (items_sites types xs) (option_map_or cut_sites (slice_get cuts place) [])
    ∙ ap₂ (λ (us : List Item) (ss : List Site). s0 ++ (items_sites types us ++ ss)) same
    (sym (ap (tail_sites types cuts) is ∙ sites-Cut types cuts place))
    ∙ ap (λ s. s0 ++ s) (sym (sites-code types cuts c))

pub branch_made : (types : List TypeEntry) (cuts : List Cut) (c : Code) (xs : List Item) (line : ℕ) (b : Cond) (taken other x y : Code)
    (s0 s1 s2 s3 s4 : List Site) →
    xs ≡ c.items → c.tail ≡ tail.Branch line b taken other → x ≡ taken → y ≡ other → s1 ≡ s0 ++ items_sites types xs →
    s2 ≡ s1 ++ map (site_at line) (cond_causes types b) → s3 ≡ s2 ++ code_sites types cuts x → s4 ≡ s3 ++ code_sites types cuts y →
    s4 ≡ s0 ++ code_sites types cuts c
branch_made types cuts c xs line b taken other x y s0 s1 s2 s3 s4 same is x_is y_is one two three four =
    four ∙ ap (λ s. s ++ code_sites types cuts y) (three ∙ ap (λ s. s ++ code_sites types cuts x)
    (two ∙ ap (λ s. s ++ map (site_at line) (cond_causes types b)) one))
    ∙ append_assoc ((s0 ++ items_sites types xs) ++ map (site_at line) (cond_causes types b)) (code_sites types cuts x) (code_sites types cuts y)
    ∙ append_assoc (s0 ++ items_sites types xs) (map (site_at line) (cond_causes types b)) (code_sites types cuts x ++ code_sites types cuts y)
    ∙ append_assoc s0 (items_sites types xs) (map (site_at line) (cond_causes types b) ++ (code_sites types cuts x ++ code_sites types cuts y))
    ∙ ap₂
    (λ (u v : Code). s0 ++ (items_sites types xs ++ (map (site_at line) (cond_causes types b) ++ (code_sites types cuts u ++ code_sites types cuts v))))
    x_is y_is
    ∙ ap₂ (λ (us : List Item) (ss : List Site). s0 ++ (items_sites types us ++ ss)) same
    (sym (ap (tail_sites types cuts) is ∙ sites-Branch types cuts line b taken other))
    ∙ ap (λ s. s0 ++ s) (sym (sites-code types cuts c))
