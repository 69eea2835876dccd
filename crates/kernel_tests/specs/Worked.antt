-- Formulas that are written out by hand, for lists with one data variable: type T with a data field n of T has the track 0, and
-- the variable x the track 1.
use Rattle.std.specs.Prelude.{ℕ, [], ◌∷◌, Some, None, false}
use Rattle.ws2s_core.specs.declared.formula.Formula.{Formula}
use Rattle.ws2s_core.specs.declared.formula.Formula.TheVariants.{Sub, Single, Succ0, Succ1, Root, And, Not, Ex2}
use Rattle.store_core.specs.declared.ids.TypeId.{TypeId}
use Rattle.store_core.specs.declared.ids.VariantId.{VariantId}
use Rattle.store_core.specs.declared.ids.FieldId.{FieldId}
use Rattle.tree_formula.specs.Worked.{list_types, t}
use Rattle.store_core.specs.declared.kind.Route.TheOpen.{Route-F}
use Rattle.graph_view.specs.Fields.{is_reference}
use Rattle.graph_view.specs.Routes.{Joining, names, walk_rules}
use Rattle.graph_view.specs.declared.view.Event.TheVariants.{New, Write, Free}
use Rattle.graph_view.specs.declared.view.Sym.TheVariants.{At}
use Rattle.graph_view.specs.Sights.{Sight}

abbrev pub list_type : TypeId
list_type = record { 0 = 0 }

abbrev pub list_cell : VariantId
list_cell = record { ty = list_type; index = 0 }

abbrev pub list_next : FieldId
list_next = record { ty = list_type; index = 0 }

-- before all events
abbrev pub at_start : Sight
at_start = record { slots = 1; events = []; region = None }

-- `y = new T; y.n = x;` where y has the track 2, the last event first
abbrev pub pushed : Sight
pushed = record { slots = 1; events = Write None (At (t 2)) list_next (At (t 1)) ∷ New None 0 list_cell ∷ []; region = None }

-- `free x;` where the guard has the track 2, read outside the region with the track 3
abbrev pub dropped : Sight
dropped = record { slots = 1; events = Free (Some (t 2)) (At (t 1)) ∷ []; region = Some (t 3, false) }

-- the rule of each form of route at the start
abbrev pub list_rules : Route-F Joining → Joining
list_rules = walk_rules list_types at_start (names list_types at_start) is_reference

-- ---- after the push, with the tracks 3 and 4 for positions, and 5 as the next

-- never and always
abbrev pub no_set : Formula
no_set = Ex2 (t 5) (And (Single (t 5)) (Not (Single (t 5))))

-- the position on track 3 is that of the second slot
abbrev pub in_second_slot : Formula
in_second_slot = Ex2 (t 5) (And (Root (t 5)) (Ex2 (t 6) (And (Succ1 (t 5) (t 6)) (Succ0 (t 6) (t 3)))))

-- a cell from the start, or the new one
abbrev pub pushed_lives : Formula
pushed_lives = Not (And (Not (Sub (t 3) (t 0))) (Not (And (Not no_set) in_second_slot)))

-- the field of a cell at the start
abbrev pub start_names : Formula
start_names = And (And (Sub (t 3) (t 0)) (Succ0 (t 3) (t 4))) (Sub (t 4) (t 0))

-- y's field is x, and others are as they were
abbrev pub pushed_names : Formula
pushed_names =
    Not (And (Not (And (And (Not no_set) (Sub (t 3) (t 2))) (Sub (t 4) (t 1))))
    (Not (And (Not (And (Not no_set) (Sub (t 3) (t 2)))) start_names)))

-- ---- after the free, with the track 4 for a position, and 5 as the next

-- the guard, on track 2, is the root
abbrev pub is_taken : Formula
is_taken = Ex2 (t 5) (And (Root (t 5)) (Sub (t 5) (t 2)))

abbrev pub dropped_lives : Formula
dropped_lives = And (And (Sub (t 4) (t 0)) (Not (And is_taken (Sub (t 4) (t 1))))) (Not (Sub (t 4) (t 3)))

-- ---- at the start, with the next track 2

-- the one type's cells
abbrev pub live_at_start : ℕ → Formula
live_at_start a = Not (Not (Sub (t a) (t 0)))

abbrev pub names_at_start : ℕ → ℕ → Formula
names_at_start a b = And (And (Sub (t a) (t 0)) (Succ0 (t a) (t b))) (Sub (t b) (t 0))

abbrev pub edge_at_start : ℕ → ℕ → Formula
edge_at_start a b = And (And (live_at_start a) (live_at_start b)) (Not (Not (names_at_start a b)))

abbrev pub equal_tracks : ℕ → ℕ → Formula
equal_tracks a b = And (Sub (t a) (t b)) (Sub (t b) (t a))

-- the set on track x, which n leads out of, from track a to track b
abbrev pub left_at_start : ℕ → ℕ → ℕ → Formula
left_at_start x a b =
    Ex2 (t a) (And (Single (t a)) (Ex2 (t b) (And (Single (t b))
    (And (And (Sub (t a) (t x)) (edge_at_start a b)) (Not (Sub (t b) (t x)))))))

-- `n*` from track 2 to track 3: each set on track 4 that has the first, and that n doesn't lead out of, has the second
abbrev pub rounds_at_start : Formula
rounds_at_start =
    And (And (live_at_start 2) (live_at_start 3))
    (Not (Ex2 (t 4) (Not (Not (And (And (Sub (t 2) (t 4)) (Not (left_at_start 4 5 6))) (Not (Sub (t 3) (t 4))))))))

-- `^.$` from track 2 to track 3, by way of track 4
abbrev pub up_to_leaf : Formula
up_to_leaf =
    Ex2 (t 4) (And (Single (t 4)) (And (edge_at_start 4 2)
    (And (And (live_at_start 4) (equal_tracks 4 3)) (Not (Ex2 (t 5) (And (Single (t 5)) (edge_at_start 4 5)))))))

-- a cell that x and a field, or fields of two cells, name
abbrev pub shared_at_start : Formula
shared_at_start =
    Ex2 (t 2) (And (Single (t 2)) (And (live_at_start 2) (Not (And
    (Not (And (Not (Not (Sub (t 2) (t 1)))) (Ex2 (t 3) (And (Single (t 3)) (edge_at_start 3 2)))))
    (Not (Ex2 (t 3) (And (Single (t 3)) (Ex2 (t 4) (And (Single (t 4))
    (And (And (Not (equal_tracks 3 4)) (edge_at_start 3 2)) (edge_at_start 4 2)))))))))))

-- a cell outside a set that has x and is closed under n
abbrev pub leaked_at_start : Formula
leaked_at_start =
    Ex2 (t 2) (And (And (Sub (t 1) (t 2)) (Not (left_at_start 2 3 4)))
    (Ex2 (t 3) (And (Single (t 3)) (And (live_at_start 3) (Not (Sub (t 3) (t 2)))))))

-- x is dead, or a field of a cell names a dead cell
abbrev pub dangling_at_start : Formula
dangling_at_start =
    Not (And
    (Not (Ex2 (t 2) (And (Single (t 2)) (And (Sub (t 2) (t 1)) (Not (live_at_start 2))))))
    (Not (Ex2 (t 2) (And (Single (t 2)) (Ex2 (t 3) (And (Single (t 3))
    (And (And (Sub (t 2) (t 0)) (names_at_start 2 3)) (Not (live_at_start 3)))))))))
