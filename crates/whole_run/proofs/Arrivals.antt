-- The cuts at which a procedure's flows arrive are those of its text and its exit.
use Rattle.std.proofs.Common.{◌≡◌, ℕ, List, [], ◌∷◌, ◌++◌, map, flat_map, Option, Some, None, refl, sym, subst}
use Rattle.std.specs.List.{AllByRecursion, AllZip}
use Rattle.store_core.specs.Tables.{VarEntry}
use Rattle.store_logic.specs.declared.assertion.Assertion.{Assertion}
use Rattle.store_logic.specs.declared.cond.Cond.{Cond}
use Rattle.store_logic.proofs.ExpandingLists.{all-first, all-second, all-append}
use Rattle.store_exec.specs.declared.code.Item.{Item}
use Rattle.store_exec.specs.declared.code.Item.TheVariants as item
use Rattle.pale_text.specs.declared.place.Pos.{Pos}
use Rattle.pale_typed.specs.declared.typed.ProcEntry.{ProcEntry}
use Rattle.pale_typed.specs.declared.typed.Stmt.{Stmt, roll-Stmt}
use Rattle.pale_typed.specs.declared.typed.Stmt.TheOpen.{Stmt-F}
use Rattle.pale_typed.specs.declared.typed.Stmt.TheFolds.{fold-Stmt, fold-roll-Stmt, map-Stmt, ind-Stmt}
use Rattle.hoare_split.specs.declared.point.Point.TheVariants as point
use Rattle.hoare_split.specs.Picking.{is_awaited}
use Rattle.hoare_split.specs.Settings.{settings}
use Rattle.hoare_split.specs.Flows.{Arrival, Flow, ends, after_items, arrivals_of}
use Rattle.hoare_split.specs.Cuts.{at_assertion, at_call}
use Rattle.hoare_split.specs.Passages.{Started, Passage, plain, then_next, in_order, branch, choice, choice_of}
use Rattle.hoare_split.specs.Statements.{loop, rules, passage_of, block_of}
use Rattle.hoare_split.proofs.FlowLemmas.{arrivals_of-after_items}
use Rattle.hoare_split.proofs.StatementLemmas.{passage-form}
use Rattle.whole_run.proofs.Zips.{zip_append}
use Rattle.whole_run.specs.Places.{places_in, cut_places}

module _ (procs : List ProcEntry) (vars : List VarEntry) where
  -- the arrivals at the cut points in a statement, in order of the text
  abbrev pub arrivals_in : Stmt-F (List Arrival) → List Arrival
  arrivals_in Stmt-F.Skip = []
  arrivals_in (Stmt-F.Do line a) = []
  arrivals_in (Stmt-F.If line c first other) = flat_map (λ arrivals. arrivals) first ++ flat_map (λ arrivals. arrivals) other
  arrivals_in (Stmt-F.While place c invariant body) = at_assertion place invariant ∷ flat_map (λ arrivals. arrivals) body
  arrivals_in (Stmt-F.Split place a) = at_assertion place a ∷ []
  arrivals_in (Stmt-F.Call place call) = at_call procs vars place call ∷ []

  abbrev pub cut_arrivals : Stmt → List Arrival
  cut_arrivals = fold-Stmt (List Arrival) arrivals_in

  -- at the place in the text
  abbrev pub IsAt : Arrival → Pos → Type 0
  IsAt a p = a.point ≡ point.At p

  module _ (P : Arrival → Type 0) where
    abbrev pub AllArrive : Flow → Type 0
    AllArrive flow = AllByRecursion P (arrivals_of flow)

    -- where what follows arrives so, what they lead to does, and all that starts in them
    pub record Leads (p : Passage) : Type 0 where
      pub flow : (rest : Flow) → AllArrive rest → AllArrive (p.flow rest)
      pub starts : (rest : Flow) → AllArrive rest → AllByRecursion (λ (at : Started). AllArrive at.flow) (p.starts rest)

    after_leads : (items : List Item) (flow : Flow) → AllArrive flow → AllArrive (after_items items flow)
    after_leads items flow all = subst (AllByRecursion P) (sym (arrivals_of-after_items items flow)) all

    plain_leads : (items : List Item) → Leads (plain items)
    plain_leads items = record { flow = λ rest all. after_leads items rest all; starts = λ rest all. tt }

    next_leads : (p q : Passage) → Leads p → Leads q → Leads (then_next p q)
    next_leads p q one two = record {
      flow = λ rest all. one.flow (q.flow rest) (two.flow rest all);
      starts = λ rest all. all-append (λ (at : Started). AllArrive at.flow) (p.starts (q.flow rest)) (q.starts rest)
          (one.starts (q.flow rest) (two.flow rest all)) (two.starts rest all);
    }

    branch_leads : (line : ℕ) (c : Cond) (p q : Passage) → Leads p → Leads q → Leads (branch line c p q)
    branch_leads line c p q one two = record {
      flow = λ rest all. all-append P (arrivals_of (p.flow rest)) (arrivals_of (q.flow rest)) (one.flow rest all) (two.flow rest all);
      starts = λ rest all. all-append (λ (at : Started). AllArrive at.flow) (p.starts rest) (q.starts rest) (one.starts rest all) (two.starts rest all);
    }

    choice_leads : (line : ℕ) (c : Cond) (p q : Passage) → Leads p → Leads q → Leads (choice line c p q)
    choice_leads line c p q one two = by p.items q.items
      where
        by : (ones others : Option (List Item)) → Leads (choice_of line c p q ones others)
        by (Some x) (Some y) = plain_leads (item.If line c x y ∷ [])
        by (Some x) None = branch_leads line c p q one two
        by None others = branch_leads line c p q one two

    loop_leads : (place : Pos) (c : Cond) (invariant : Assertion) (body : Passage) → P (at_assertion place invariant) → Leads body →
        Leads (loop place c invariant body)
    loop_leads place c invariant body own inner = record {
      flow = λ rest all. (own, tt);
      starts = λ rest all. (
        all-append P (arrivals_of (body.flow (ends (at_assertion place invariant)))) (arrivals_of rest)
            (inner.flow (ends (at_assertion place invariant)) (own, tt)) all,
        inner.starts (ends (at_assertion place invariant)) (own, tt),
      );
    }

    -- ---- statements

    -- its arrivals stand at its places, and it leads to no others
    record IsKnown (s : Stmt) : Type 0 where
      paired : AllZip IsAt (cut_arrivals s) (cut_places s)
      leads : AllByRecursion P (cut_arrivals s) → Leads (passage_of procs vars s)

    abbrev Known : Type 0
    Known = (s : Stmt) × IsKnown s

    abbrev stmts : List Known → List Stmt
    stmts block = map (λ (e : Known). e.0) block

    abbrev arrivals_at : List Stmt → List Arrival
    arrivals_at block = flat_map (λ (arrivals : List Arrival). arrivals) (map cut_arrivals block)

    abbrev places_at : List Stmt → List Pos
    places_at block = flat_map (λ (places : List Pos). places) (map cut_places block)

    block_paired : (block : List Known) → AllZip IsAt (arrivals_at (stmts block)) (places_at (stmts block))
    block_paired [] = tt
    block_paired (e ∷ block) = zip_append IsAt (cut_arrivals e.0) (arrivals_at (stmts block)) (cut_places e.0) (places_at (stmts block)) (e.1).paired
        (block_paired block)

    block_leads : (block : List Known) → AllByRecursion P (arrivals_at (stmts block)) → Leads (in_order (map (passage_of procs vars) (stmts block)))
    block_leads [] all = plain_leads []
    block_leads (e ∷ block) all = next_leads (passage_of procs vars e.0) (in_order (map (passage_of procs vars) (stmts block)))
        ((e.1).leads (all-first P (cut_arrivals e.0) (arrivals_at (stmts block)) all))
        (block_leads block (all-second P (cut_arrivals e.0) (arrivals_at (stmts block)) all))

    node_paired : (y : Stmt-F Known) →
        AllZip IsAt (arrivals_in (map-Stmt Stmt (List Arrival) cut_arrivals (map-Stmt Known Stmt (λ e. e.0) y)))
        (places_in (map-Stmt Stmt (List Pos) cut_places (map-Stmt Known Stmt (λ e. e.0) y)))
    node_paired Stmt-F.Skip = tt
    node_paired (Stmt-F.Do line a) = tt
    node_paired (Stmt-F.If line c first other) = zip_append IsAt (arrivals_at (stmts first)) (arrivals_at (stmts other)) (places_at (stmts first))
        (places_at (stmts other)) (block_paired first) (block_paired other)
    node_paired (Stmt-F.While place c invariant body) = (refl, block_paired body)
    node_paired (Stmt-F.Split place a) = (refl, tt)
    node_paired (Stmt-F.Call place call) = (refl, tt)

    node_leads : (y : Stmt-F Known) → AllByRecursion P (arrivals_in (map-Stmt Stmt (List Arrival) cut_arrivals (map-Stmt Known Stmt (λ e. e.0) y))) →
        Leads (rules procs vars (map-Stmt Stmt Passage (passage_of procs vars) (map-Stmt Known Stmt (λ e. e.0) y)))
    node_leads Stmt-F.Skip all = plain_leads []
    node_leads (Stmt-F.Do line a) all = plain_leads (item.Do line a ∷ [])
    node_leads (Stmt-F.If line c first other) all =
        choice_leads line c (in_order (map (passage_of procs vars) (stmts first))) (in_order (map (passage_of procs vars) (stmts other)))
        (block_leads first (all-first P (arrivals_at (stmts first)) (arrivals_at (stmts other)) all))
        (block_leads other (all-second P (arrivals_at (stmts first)) (arrivals_at (stmts other)) all))
    node_leads (Stmt-F.While place c invariant body) all =
        loop_leads place c invariant (in_order (map (passage_of procs vars) (stmts body))) all.0 (block_leads body all.1)
    node_leads (Stmt-F.Split place a) all = record { flow = λ rest more. (all.0, tt); starts = λ rest more. (more, tt) }
    node_leads (Stmt-F.Call place call) all = record {
      flow = λ rest more. after_leads (settings vars (is_awaited call) place.line) (ends (at_call procs vars place call)) (all.0, tt);
      starts = λ rest more. (more, tt);
    }

    arrivals_form : (x : Stmt-F Stmt) → cut_arrivals (roll-Stmt x) ≡ arrivals_in (map-Stmt Stmt (List Arrival) cut_arrivals x)
    arrivals_form x = fold-roll-Stmt (List Arrival) arrivals_in x

    places_form : (x : Stmt-F Stmt) → cut_places (roll-Stmt x) ≡ places_in (map-Stmt Stmt (List Pos) cut_places x)
    unfolding cut_places
    places_form x = fold-roll-Stmt (List Pos) places_in x

    made_known : (x : Stmt-F Stmt) →
        AllZip IsAt (arrivals_in (map-Stmt Stmt (List Arrival) cut_arrivals x)) (places_in (map-Stmt Stmt (List Pos) cut_places x)) →
        (AllByRecursion P (arrivals_in (map-Stmt Stmt (List Arrival) cut_arrivals x)) →
        Leads (rules procs vars (map-Stmt Stmt Passage (passage_of procs vars) x))) → IsKnown (roll-Stmt x)
    made_known x paired leads = record {
      paired = subst (λ places. AllZip IsAt (cut_arrivals (roll-Stmt x)) places) (sym (places_form x))
          (subst (λ arrivals. AllZip IsAt arrivals (places_in (map-Stmt Stmt (List Pos) cut_places x))) (sym (arrivals_form x)) paired);
      leads = λ all. subst Leads (sym (passage-form procs vars (roll-Stmt x) x refl)) (leads (subst (AllByRecursion P) (arrivals_form x) all));
    }

    known : (s : Stmt) → IsKnown s
    known = ind-Stmt IsKnown (λ x y is. subst (λ (z : Stmt-F Stmt). IsKnown (roll-Stmt z)) is
        (made_known (map-Stmt Known Stmt (λ e. e.0) y) (node_paired y) (node_leads y)))

    -- statements in order
    pub all_paired : (block : List Stmt) → AllZip IsAt (flat_map cut_arrivals block) (flat_map cut_places block)
    all_paired [] = tt
    all_paired (s ∷ block) = zip_append IsAt (cut_arrivals s) (flat_map cut_arrivals block) (cut_places s) (flat_map cut_places block) (known s).paired
        (all_paired block)

    pub all_lead : (block : List Stmt) → AllByRecursion P (flat_map cut_arrivals block) → Leads (block_of procs vars block)
    all_lead [] all = plain_leads []
    all_lead (s ∷ block) all = next_leads (passage_of procs vars s) (block_of procs vars block)
        ((known s).leads (all-first P (cut_arrivals s) (flat_map cut_arrivals block) all))
        (all_lead block (all-second P (cut_arrivals s) (flat_map cut_arrivals block) all))
