-- Statements: a rule for what each means. (Møller and Schwartzbach, PLDI 2001: Hoare triples of loop-free code.)
use Rattle.std.specs.Prelude.{List, [], ◌∷◌, map}
use Rattle.store_core.specs.Tables.{VarEntry}
use Rattle.store_logic.specs.declared.assertion.Assertion.{Assertion}
use Rattle.store_logic.specs.declared.cond.Cond.{Cond}
use Rattle.store_exec.specs.declared.code.Item.TheVariants as item
use Rattle.pale_text.specs.declared.place.Pos.{Pos}
use Rattle.pale_typed.specs.declared.typed.CallParts.{CallParts}
use Rattle.pale_typed.specs.declared.typed.ProcEntry.{ProcEntry}
use Rattle.pale_typed.specs.declared.typed.Stmt.{Stmt}
use Rattle.pale_typed.specs.declared.typed.Stmt.TheOpen.{Stmt-F}
use Rattle.pale_typed.specs.declared.typed.Stmt.TheFolds.{fold-Stmt}
use Rattle.hoare_split.specs.Picking.{is_awaited}
use Rattle.hoare_split.specs.Settings.{settings}
use Rattle.hoare_split.specs.Flows.{ends, branches}
use Rattle.hoare_split.specs.Cuts.{at_assertion, at_call}
use Rattle.hoare_split.specs.Starts.{plain_start, call_start}
use Rattle.hoare_split.specs.Passages.{Passage, plain, cut, in_order, choice}

-- a loop arrives at its invariant. Its own triple branches into the body, which arrives there again, or what follows the loop;
-- then come the triples that start in the body
abbrev pub loop : Pos → Cond → Assertion → Passage → Passage
loop place c invariant body = cut [] (at_assertion place invariant) (λ rest.
    record { place = place; start = plain_start invariant; flow = branches place.line c (body.flow (ends (at_assertion place invariant))) rest }
    ∷ body.starts (ends (at_assertion place invariant)))

-- a `split` arrives at its assertion, from which a triple starts
abbrev pub split : Pos → Assertion → Passage
split place a = cut [] (at_assertion place a) (λ rest. record { place = place; start = plain_start a; flow = rest } ∷ [])

-- before a call its results are set to null or false, but for those among its arguments; a triple starts at its return
abbrev pub call_at : List ProcEntry → List VarEntry → Pos → CallParts → Passage
call_at procs vars place call = cut (settings vars (is_awaited call) place.line) (at_call procs vars place call) (λ rest.
    record { place = place; start = call_start procs vars call; flow = rest } ∷ [])

abbrev pub rules : List ProcEntry → List VarEntry → Stmt-F Passage → Passage
rules procs vars Stmt-F.Skip = plain []
rules procs vars (Stmt-F.Do line a) = plain (item.Do line a ∷ [])
rules procs vars (Stmt-F.If line c first other) = choice line c (in_order first) (in_order other)
rules procs vars (Stmt-F.While place c invariant body) = loop place c invariant (in_order body)
rules procs vars (Stmt-F.Split place a) = split place a
rules procs vars (Stmt-F.Call place call) = call_at procs vars place call

-- what a statement means
unfoldable pub passage_of : List ProcEntry → List VarEntry → Stmt → Passage
passage_of procs vars = fold-Stmt Passage (rules procs vars)

-- what statements in order mean
abbrev pub block_of : List ProcEntry → List VarEntry → List Stmt → Passage
block_of procs vars block = in_order (map (passage_of procs vars) block)
