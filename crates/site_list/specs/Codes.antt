-- The walk over a code.
use Rattle.std.specs.Prelude.{ℕ, suc, ◌==◌, Bool, true, false, List, [], ◌∷◌, slice_get, Some, if◌then◌else◌}
use Rattle.std.specs.Option.{option_map_or}
use Rattle.store_core.specs.Tables.{TypeEntry, VarEntry}
use Rattle.store_exec.specs.declared.code.Item.{Item}
use Rattle.store_exec.specs.declared.code.Item.TheOpen.{Item-F}
use Rattle.store_exec.specs.declared.code.Item.TheFolds.{fold-Item}
use Rattle.store_exec.specs.declared.code.Tail.TheOpen.{Tail-F, Code-F}
use Rattle.store_exec.specs.declared.code.Tail.TheFolds.{fold-Code}
use Rattle.store_exec.specs.declared.code.Code.{Code}
use Rattle.store_exec.specs.declared.triple.Cut.{Cut}
use Rattle.ws2s_core.specs.declared.formula.Formula.TheVariants.{And, Not}
use Rattle.ws2s_forms.specs.Forms.{track, or, flag}
use Rattle.graph_view.specs.declared.view.Sym.{Sym}
use Rattle.graph_view.specs.declared.view.Sym.TheVariants.{Null, At}
use Rattle.graph_view.specs.Syms.{is_same}
use Rattle.site_list.specs.States.{Text, State, next_track, define, is_truth_of, guard, both, fails}
use Rattle.site_list.specs.Reading.{Told}
use Rattle.site_list.specs.Conditions.{condition}
use Rattle.site_list.specs.Acts.{act_rule}
use Rattle.site_list.specs.Cuts.{arrived}

-- how a part of a code leads on
abbrev pub Going : Type 0
Going = State → State

abbrev pub in_order : List Going → Going
in_order [] s = s
in_order (go ∷ more) s = in_order more (go s)

-- ---- guards of two ways

-- a track for the one way and a track for the other, each where the statement is reached
abbrev pub with_ways : List TypeEntry → List VarEntry → Text → State → State
with_ways types vars text s =
    define (is_truth_of (both (guard s) (fails text)) (suc (next_track types vars s)))
    (define (is_truth_of (both (guard s) text) (next_track types vars s)) s)

-- on the way whose track is h
abbrev pub on_way : ℕ → State → State
on_way h s = record s { guard = Some (track h) }

-- ---- what stands for variables after both ways

abbrev pub is_sym : Sym → Sym → Bool
is_sym Null Null = true
is_sym (At x) (At y) = x.0 == y.0
is_sym _ _ = false

-- the track has the one value on the first way, whose track is h, and else the other
abbrev pub is_merged : ℕ → Sym → Sym → ℕ → Text
is_merged h u w m next = or (And (flag next h) (is_same next (At (track m)) u)) (And (Not (flag next h)) (is_same next (At (track m)) w))

-- values in order, and how far the walk has come then
abbrev pub Merging : Type 0
Merging = List Sym × State

abbrev pub behind : Sym → Merging → Merging
behind u rest = (u ∷ rest.0, rest.1)

-- a track for each variable whose values differ
abbrev pub merged : List TypeEntry → List VarEntry → ℕ → List Sym → List Sym → State → Merging
merged types vars h [] others s = ([], s)
merged types vars h (u ∷ us) [] s = ([], s)
merged types vars h (u ∷ us) (w ∷ ws) s =
    if is_sym u w then behind u (merged types vars h us ws s)
    else behind (At (track (next_track types vars s)))
    (merged types vars h us ws (define (is_merged h u w (next_track types vars s)) s))

abbrev pub with_merged : Merging → State
with_merged m = record (m.1) { values = m.0 }

-- ---- plain ifs

-- after both ways, from before them
abbrev pub after_ways : List TypeEntry → List VarEntry → ℕ → State → State → State → State
after_ways types vars h before first other =
    with_merged (merged types vars h first.values other.values (record other { guard = before.guard }))

-- the other way, from the values before both
abbrev pub other_way : List TypeEntry → List VarEntry → ℕ → Going → State → State → State
other_way types vars h other before first =
    after_ways types vars h before first (other (on_way (suc h) (record first { values = before.values })))

abbrev pub both_ways : List TypeEntry → List VarEntry → ℕ → Going → Going → State → State
both_ways types vars h taken other before = other_way types vars h other before (taken (on_way h before))

-- an `if` whose condition was told
abbrev pub plain_if : List TypeEntry → List VarEntry → Going → Going → Told → State
plain_if types vars taken other told =
    both_ways types vars (next_track types vars (told.1)) taken other (with_ways types vars (told.0) (told.1))

abbrev pub item_rule : List TypeEntry → List VarEntry → Item-F Going → Going
item_rule types vars (Item-F.Do line a) s = act_rule types vars line a s
item_rule types vars (Item-F.If line c taken other) s =
    plain_if types vars (in_order taken) (in_order other) (condition types vars line c (guard s) s)

abbrev pub item : List TypeEntry → List VarEntry → Item → Going
item types vars = fold-Item Going (item_rule types vars)

abbrev pub items : List TypeEntry → List VarEntry → List Item → Going
items types vars [] s = s
items types vars (i ∷ more) s = items types vars more (item types vars i s)

-- ---- branches

-- the other code, with the values and the heap from before both
abbrev pub other_code : ℕ → Going → State → State → State
other_code h other before first = other (on_way (suc h) (record first { values = before.values; events = before.events }))

abbrev pub both_codes : ℕ → Going → Going → State → State
both_codes h taken other before = other_code h other before (taken (on_way h before))

abbrev pub branch : List TypeEntry → List VarEntry → Going → Going → Told → State
branch types vars taken other told =
    both_codes (next_track types vars (told.1)) taken other (with_ways types vars (told.0) (told.1))

abbrev pub tail_rule : List TypeEntry → List VarEntry → List Cut → Tail-F Going Going → Going
tail_rule types vars cuts (Tail-F.Cut place) s = option_map_or (λ cut. arrived types vars cut s) (slice_get cuts place) s
tail_rule types vars cuts (Tail-F.Branch line c taken other) s =
    branch types vars taken other (condition types vars line c (guard s) s)

abbrev pub code_rule : List TypeEntry → List VarEntry → Code-F Going Going → Going
code_rule types vars x s = x.tail (items types vars x.items s)

-- a code of a triple with these cuts
abbrev pub code : List TypeEntry → List VarEntry → List Cut → Code → Going
code types vars cuts = fold-Code Going Going (tail_rule types vars cuts) (code_rule types vars)
