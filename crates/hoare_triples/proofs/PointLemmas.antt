-- On triples: what was reached from nothing, and which triples start in statements.
use Rattle.std.proofs.Common.{◌≡◌, ℕ, List, [], ◌∷◌, ◌++◌, map, append_assoc, append-nil, Option, Some, None, Result, Ok, Err}
use Rattle.std.proofs.Common.{OnOk, ◌⊎◌, inl, inr, refl, sym, ap, ◌∙◌}
use Rattle.std.proofs.lemmas.List.{map-append}
use Rattle.pale_text.specs.declared.place.Pos.{Pos}
use Rattle.store_core.specs.Tables.{VarEntry}
use Rattle.store_logic.specs.declared.act.Act.{Act}
use Rattle.store_logic.specs.declared.assertion.Assertion.{Assertion}
use Rattle.store_logic.specs.declared.cond.Cond.{Cond}
use Rattle.store_exec.specs.declared.code.Item.{Item}
use Rattle.store_exec.specs.declared.code.Code.{Code}
use Rattle.store_exec.specs.declared.triple.Cut.{Cut}
use Rattle.store_exec.specs.declared.triple.Start.{Start}
use Rattle.store_exec.specs.declared.triple.Triple.{Triple}
use Rattle.pale_typed.specs.declared.typed.CallParts.{CallParts}
use Rattle.pale_typed.specs.declared.typed.ProcEntry.{ProcEntry}
use Rattle.pale_typed.specs.declared.typed.Stmt.{Stmt}
use Rattle.pale_typed.specs.declared.typed.Stmt.TheVariants as stmt
use Rattle.hoare_split.specs.declared.point.Point.{Point}
use Rattle.hoare_triples.specs.declared.reached.Reached.{Reached}
use Rattle.hoare_split.specs.Flows.{Flow, ends, branches, after_items, arrivals_of, first_of_each, reached_by, points_in, cuts_in, cuts_of, code_in}
use Rattle.hoare_split.specs.Cuts.{at_assertion}
use Rattle.hoare_split.specs.Starts.{plain_start, call_start}
use Rattle.hoare_split.specs.Passages.{Passage, Started, choice, choice_of}
use Rattle.hoare_split.specs.Statements.{passage_of, block_of}
use Rattle.hoare_triples.specs.Following.{Reaches}
use Rattle.hoare_split.specs.Triples.{triple_of}
use Rattle.hoare_split.proofs.StatementLemmas.{passage-Skip, passage-Do, passage-If, passage-While, passage-Split, passage-Call}
use Rattle.hoare_split.proofs.PlainLemmas.{WhenPlain, plain-block}

-- ---- what was reached from nothing

reached-points : (old new : Reached) (flow : Flow) → old.points ≡ [] → Reaches old new (arrivals_of flow) → new.points ≡ points_in (reached_by flow)
reached-points old new flow none reaches = reaches.points ∙ ap (λ points. points ++ points_in (first_of_each points (arrivals_of flow))) none

reached-cuts : (old new : Reached) (flow : Flow) → old.points ≡ [] → old.cuts ≡ [] → Reaches old new (arrivals_of flow) → new.cuts ≡ cuts_of flow
reached-cuts old new flow none no_cuts reaches =
    reaches.cuts ∙ ap (λ cuts. cuts ++ cuts_in (first_of_each old.points (arrivals_of flow))) no_cuts
    ∙ ap (λ points. cuts_in (first_of_each points (arrivals_of flow))) none

-- the triple that starts at a place, by the code of its flow and the cuts that it reached
pub triple-made : (number line : ℕ) (place : Pos) (start start' : Start) (flow : Flow) (code : Code) (cuts : List Cut) (old new : Reached) →
    old.points ≡ [] → old.cuts ≡ [] → Reaches old new (arrivals_of flow) → code ≡ code_in new.points flow → cuts ≡ new.cuts → place.line ≡ line →
    start ≡ start' →
    record { proc = number; line = line; start = start; code = code; cuts = cuts } ≡ triple_of number (record { place = place; start = start'; flow = flow })
triple-made number line place start start' flow code cuts old new none no_cuts reaches of_code of_cuts of_line of_start =
    let code_is = of_code ∙ ap (λ points. code_in points flow) (reached-points old new flow none reaches) in
    let cuts_are = of_cuts ∙ reached-cuts old new flow none no_cuts reaches in
    cc

-- the code of a branch behind no items, where a block is lent
pub code-behind_none : (points : List Point) (code : Code) (items : List Item) (slice block : List Stmt) (flow : List Stmt → Flow) → items ≡ [] →
    slice ≡ block → code ≡ code_in points (after_items items (flow slice)) → code ≡ code_in points (flow block)
code-behind_none points code items slice block flow none lent is =
    is ∙ ap (λ before. code_in points (after_items before (flow slice))) none ∙ ap (λ b. code_in points (flow b)) lent

-- ---- which triples start in an `if`

choice-starts : (line : ℕ) (c : Cond) (first other : Passage) → WhenPlain first → WhenPlain other → (rest : Flow) →
    (choice line c first other).starts rest ≡ first.starts rest ++ other.starts rest
choice-starts line c first other one two rest = by first.items other.items refl refl
  where
    by : (ones others : Option (List Item)) → first.items ≡ ones → other.items ≡ others →
        (choice_of line c first other ones others).starts rest ≡ first.starts rest ++ other.starts rest
    by (Some x) (Some y) e1 e2 = sym (ap (λ starts. starts ++ other.starts rest) ((one x e1).starts rest) ∙ (two y e2).starts rest)
    by (Some x) None e1 e2 = refl
    by None others e1 e2 = refl

-- ---- which triples start in each form of statement

module _ (procs : List ProcEntry) (vars : List VarEntry) (rest : Flow) where
  pub starts-plain : (s : Stmt) → (s ≡ stmt.Skip) ⊎ ((line : ℕ) × (a : Act) × (s ≡ stmt.Do line a)) → (passage_of procs vars s).starts rest ≡ []
  starts-plain s (inl e) = ap (λ (p : Passage). p.starts rest) (ap (passage_of procs vars) e ∙ passage-Skip procs vars)
  starts-plain s (inr (line, a, e)) = ap (λ (p : Passage). p.starts rest) (ap (passage_of procs vars) e ∙ passage-Do procs vars line a)

  pub starts-If : (s : Stmt) (line : ℕ) (c : Cond) (first other ones others : List Stmt) → s ≡ stmt.If line c first other → ones ≡ first → others ≡ other →
      (passage_of procs vars s).starts rest ≡ (block_of procs vars ones).starts rest ++ (block_of procs vars others).starts rest
  starts-If s line c first other ones others e lent lent_other =
      ap (λ (p : Passage). p.starts rest) (ap (passage_of procs vars) e ∙ passage-If procs vars line c first other)
      ∙ choice-starts line c (block_of procs vars first) (block_of procs vars other) (plain-block procs vars first) (plain-block procs vars other) rest
      ∙ ap (λ b. (block_of procs vars b).starts rest ++ (block_of procs vars other).starts rest) (sym lent)
      ∙ ap (λ b. (block_of procs vars ones).starts rest ++ (block_of procs vars b).starts rest) (sym lent_other)

  -- the triple of a loop
  abbrev pub loop_start : Pos → Cond → Assertion → List Stmt → Started
  loop_start place c invariant body = record {
    place = place;
    start = plain_start invariant;
    flow = branches place.line c ((block_of procs vars body).flow (ends (at_assertion place invariant))) rest;
  }

  pub starts-While : (s : Stmt) (place : Pos) (c : Cond) (invariant : Assertion) (body inner : List Stmt) → s ≡ stmt.While place c invariant body →
      inner ≡ body → (passage_of procs vars s).starts rest
      ≡ loop_start place c invariant body ∷ (block_of procs vars inner).starts (ends (at_assertion place invariant))
  starts-While s place c invariant body inner e lent =
      ap (λ (p : Passage). p.starts rest) (ap (passage_of procs vars) e ∙ passage-While procs vars place c invariant body)
      ∙ ap (λ b. loop_start place c invariant body ∷ (block_of procs vars b).starts (ends (at_assertion place invariant))) (sym lent)

  pub starts-Split : (s : Stmt) (place : Pos) (a : Assertion) → s ≡ stmt.Split place a →
      (passage_of procs vars s).starts rest ≡ record { place = place; start = plain_start a; flow = rest } ∷ []
  starts-Split s place a e = ap (λ (p : Passage). p.starts rest) (ap (passage_of procs vars) e ∙ passage-Split procs vars place a)

  pub starts-Call : (s : Stmt) (place : Pos) (call : CallParts) → s ≡ stmt.Call place call →
      (passage_of procs vars s).starts rest ≡ record { place = place; start = call_start procs vars call; flow = rest } ∷ []
  starts-Call s place call e = ap (λ (p : Passage). p.starts rest) (ap (passage_of procs vars) e ∙ passage-Call procs vars place call)

  -- ---- and in a block, from a statement on

  starts-cons : (block more : List Stmt) (s : Stmt) → block ≡ s ∷ more → (block_of procs vars block).starts rest
      ≡ (passage_of procs vars s).starts ((block_of procs vars more).flow rest) ++ (block_of procs vars more).starts rest
  starts-cons block more s e = ap (λ b. (block_of procs vars b).starts rest) e

-- ---- triples that are put behind others

pub added-more : (f : Started → Triple) (before mid after : List Triple) (xs ys all : List Started) → mid ≡ before ++ map f xs → after ≡ mid ++ map f ys →
    all ≡ xs ++ ys → after ≡ before ++ map f all
added-more f before mid after xs ys all first more whole =
    more ∙ ap (λ triples. triples ++ map f ys) first ∙ append_assoc before (map f xs) (map f ys)
    ∙ ap (λ triples. before ++ triples) (sym (map-append f xs ys) ∙ sym (ap (map f) whole))

pub added-one : (f : Started → Triple) (before after : List Triple) (t : Triple) (x : Started) (all : List Started) → after ≡ before ++ t ∷ [] → t ≡ f x →
    all ≡ x ∷ [] → after ≡ before ++ map f all
added-one f before after t x all added is whole =
    added ∙ ap (λ triple. before ++ triple ∷ []) is ∙ ap (λ triples. before ++ triples) (sym (ap (map f) whole))

pub added-first : (f : Started → Triple) (before mid after : List Triple) (t : Triple) (x : Started) (ys all : List Started) → mid ≡ before ++ t ∷ [] →
    t ≡ f x → after ≡ mid ++ map f ys → all ≡ x ∷ ys → after ≡ before ++ map f all
added-first f before mid after t x ys all added is more whole =
    added-more f before mid after (x ∷ []) ys all (added ∙ ap (λ triple. before ++ triple ∷ []) is) more whole

pub added-none : (f : Started → Triple) (triples : List Triple) (all : List Started) → all ≡ [] → triples ≡ triples ++ map f all
added-none f triples all none = sym (ap (λ xs. triples ++ map f xs) none ∙ append-nil triples)

-- a triple is put behind others, and then these are left
added-next : (f : Started → Triple) (before mid whole : List Triple) (xs ys all : List Started) → mid ≡ before ++ map f xs →
    before ++ map f all ≡ whole → all ≡ xs ++ ys → mid ++ map f ys ≡ whole
added-next f before mid whole xs ys all added left is = added-more f before mid (mid ++ map f ys) xs ys all added refl is ∙ left

-- another fact of whatever comes out
pub on_ok_then : {A E P Q : Type 0} (r : Result A E) → (P → Q) → OnOk r P → OnOk r Q
on_ok_then (Ok x) f h = f h
on_ok_then (Err e) f h = tt

-- ---- a block, statement by statement

module _ (procs : List ProcEntry) (vars : List VarEntry) (f : Started → Triple) (rest : Flow) where
  -- these statements stand at the end of the block, and their triples come behind those so far
  pub record IsSplit (block left : List Stmt) (before triples : List Triple) : Type 0 where
    pub first : List Stmt
    pub all : block ≡ first ++ left
    pub made : triples ++ map f ((block_of procs vars left).starts rest) ≡ before ++ map f ((block_of procs vars block).starts rest)

  pub split-whole : (block : List Stmt) (triples : List Triple) → IsSplit block block triples triples
  split-whole block triples = record { first = []; all = refl; made = refl }

  pub split-next : (block left more : List Stmt) (s : Stmt) (before triples new : List Triple) → left ≡ s ∷ more → IsSplit block left before triples →
      new ≡ triples ++ map f ((passage_of procs vars s).starts ((block_of procs vars more).flow rest)) → IsSplit block more before new
  split-next block left more s before triples new e split added = record {
    first = split.first ++ s ∷ [];
    all = split.all ∙ ap (λ b. split.first ++ b) e ∙ sym (append_assoc split.first (s ∷ []) more);
    made = added-next f triples new (before ++ map f ((block_of procs vars block).starts rest))
        ((passage_of procs vars s).starts ((block_of procs vars more).flow rest)) ((block_of procs vars more).starts rest)
        ((block_of procs vars left).starts rest) added split.made (starts-cons procs vars rest left more s e);
  }
