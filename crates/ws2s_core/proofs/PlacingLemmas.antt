-- On the walk that puts a formula's nodes into a table.
use Rattle.std.proofs.Common.{◌≡◌, ℕ, suc, ◌+◌, ◌-◌, ◌<◌, ◌≤◌, List, [], ◌∷◌, ◌++◌, length, drop, get_or, reverse, slice_get}
use Rattle.std.proofs.Common.{option_and_then, Some, IsSome, All, sym, ap, subst, ◌∙◌, arith, append_assoc, append-nil, drop-cons}
use Rattle.std.proofs.Common.{drop_of_length-le, length-append}
use Rattle.std.proofs.lemmas.List.{reverse-append, reverse-reverse, length-reverse, get_or-reverse}
use Rattle.std.proofs.lemmas.Option.{slice_get_within}
use Rattle.std.proofs.lemmas.List.Elements.{All-nil, All-head, All-push, All-weaker}
use Rattle.std.specs.HashMap.{HashMap}
use Rattle.std.specs.declared.hash.BuildHasherDefault.{BuildHasherDefault}
use Rattle.std.specs.declared.hash.FoldHasher.{FoldHasher}
use Rattle.gta_theory.proofs.ListedLemmas.{length-meanings}
use Rattle.ws2s_core.specs.declared.node.Node.{Node}
use Rattle.ws2s_core.specs.declared.postfix.Symbol.{Symbol}
use Rattle.ws2s_core.specs.declared.formula.Formula.{Formula}
use Rattle.ws2s_core.specs.Nodes.{form_of, formula_at, formula_of_node, formulas_of, HasPartsBelow, IsIndexed, Extends, stands_for, IsPlacedTo}
use Rattle.ws2s_core.specs.Postfix.{taken, applied, run_on, postfix_of}
use Rattle.ws2s_core.proofs.NodesLemmas.{taken-parts, IsSome-taken, applied-placed, stands_for-extends, at-formula_at}
use Rattle.ws2s_core.proofs.PostfixLemmas.{applied-next, run_on-whole}

All-reverse : (P : ℕ → Type 0) (xs : List ℕ) → All P xs → All P (reverse xs)
All-reverse P xs all k d inside =
    let lt : k < length xs = subst (λ n. k < n) (length-reverse xs) inside in
    subst P (sym (get_or-reverse xs k d lt)) (all (length xs - 1 - k) d (omega arith))

All-reversed : (P : ℕ → Type 0) (xs : List ℕ) → All P (reverse xs) → All P xs
All-reversed P xs all = subst (All P) (reverse-reverse xs) (All-reverse P (reverse xs) all)

length-extends : (old new : List Node) → Extends old new → length old ≤ length new
length-extends old new extends = omega (arith, ap length extends.is, length-append old extends.more)

module _ (symbol : Symbol) (parts rest : List ℕ) (node : Node) (taking : taken symbol (reverse parts) ≡ Some (form_of node, reverse rest)) where
  -- the parts of the node that a symbol makes are places
  pub HasPartsBelow-taken : (n : ℕ) → All (λ part. part < n) parts → HasPartsBelow n node
  HasPartsBelow-taken n inside =
      (taken-parts (λ part. part < n) symbol (reverse parts) (reverse rest) (form_of node) taking (All-reverse (λ part. part < n) parts inside)).0

  -- the parts that are left are places, and so is the node's
  pub inside-placed : (old new : List Node) (place : ℕ) → All (λ part. part < length old) parts → Extends old new →
      slice_get new place ≡ Some node → (parts' : List ℕ) → parts' ≡ rest ++ place ∷ [] → All (λ part. part < length new) parts'
  inside-placed old new place inside extends at parts' is =
      let left = (taken-parts (λ part. part < length old) symbol (reverse parts) (reverse rest) (form_of node) taking
      (All-reverse (λ part. part < length old) parts inside)).1 in
      let longer : length old ≤ length new = length-extends old new extends in
      let stay = All-weaker (λ part. part < length old) (λ part. part < length new) (λ part lt. omega arith) rest
      (All-reversed (λ part. part < length old) rest left) in
      subst (All (λ part. part < length new)) (sym is)
      (All-push (λ part. part < length new) rest place stay (slice_get_within new place node at))

  -- the formulas that the parts stand for
  pub applied-pushed : (nodes : List Node) (places : HashMap Node ℕ (BuildHasherDefault FoldHasher)) (place : ℕ) → IsIndexed nodes places →
      slice_get nodes place ≡ Some node → (parts' : List ℕ) → parts' ≡ rest ++ place ∷ [] →
      applied symbol (stands_for nodes (reverse parts)) ≡ Some (stands_for nodes (reverse parts'))
  applied-pushed nodes places place index at parts' is =
      applied-placed symbol nodes (reverse parts) (reverse rest) node place taking at (index.earlier place node at)
      ∙ ap (λ ps. Some (stands_for nodes ps)) (sym (ap reverse is ∙ reverse-append rest (place ∷ [])))

-- where the walk begins
pub IsPlacedTo-first : (before now : List Node) (places : HashMap Node ℕ (BuildHasherDefault FoldHasher))
    (parts : List ℕ) (left : List Symbol) (formula : Formula) →
    IsIndexed now places → now ≡ before → parts ≡ [] → left ≡ postfix_of formula → IsPlacedTo before now places parts left formula
IsPlacedTo-first before now places parts left formula index same none is = record {
  indexed = index;
  kept = record { more = []; is = same ∙ sym (append-nil before) };
  inside = subst (All (λ part. part < length now)) (sym none) (All-nil (λ part. part < length now));
  makes = ap (λ ps. run_on left (stands_for now (reverse ps))) none ∙ ap (λ symbols. run_on symbols []) is ∙ run_on-whole formula;
}

module _ (before now : List Node) (places : HashMap Node ℕ (BuildHasherDefault FoldHasher)) (parts : List ℕ) (symbols : List Symbol) (k : ℕ)
    (formula : Formula) (walk : IsPlacedTo before now places parts (drop k symbols) formula) where
  -- the next symbol can take its parts
  pub IsSome-next : (d : Symbol) → k < length symbols → IsSome (taken (get_or symbols k d) (reverse parts))
  IsSome-next d inside =
      IsSome-taken (get_or symbols k d) now (reverse parts) (applied-next symbols k d (stands_for now (reverse parts)) (formula ∷ []) inside walk.makes)

  -- a step of the walk
  pub IsPlacedTo-next : (d : Symbol) (now' : List Node) (places' : HashMap Node ℕ (BuildHasherDefault FoldHasher)) (parts' : List ℕ) →
      k < length symbols → IsIndexed now' places' → Extends now now' → All (λ part. part < length now') parts' →
      applied (get_or symbols k d) (stands_for now' (reverse parts)) ≡ Some (stands_for now' (reverse parts')) →
      IsPlacedTo before now' places' parts' (drop (k + 1) symbols) formula
  IsPlacedTo-next d now' places' parts' inside index extends within applies = record {
    indexed = index;
    kept = record {
      more = (walk.kept).more ++ extends.more;
      is = extends.is ∙ ap (λ ns. ns ++ extends.more) (walk.kept).is ∙ append_assoc before (walk.kept).more extends.more;
    };
    inside = within;
    makes =
        let next : k + 1 ≡ suc k = omega arith in
        ap (λ n. run_on (drop n symbols) (stands_for now' (reverse parts'))) next
        ∙ sym (ap (λ o. option_and_then (run_on (drop (suc k) symbols)) o) applies)
        ∙ ap (λ ps. option_and_then (run_on (drop (suc k) symbols)) (applied (get_or symbols k d) ps))
        (stands_for-extends now now' (reverse parts) extends (All-reverse (λ part. part < length now) parts walk.inside))
        ∙ sym (ap (λ s. run_on s (stands_for now (reverse parts))) (drop-cons symbols k d inside))
        ∙ walk.makes;
  }

  -- where the walk ends, the last part is the formula's place
  pub formulas_of-last : (rest : List ℕ) (place : ℕ) → length symbols ≤ k → parts ≡ rest ++ place ∷ [] → slice_get (formulas_of now) place ≡ Some formula
  formulas_of-last rest place end is =
      let done : Some (stands_for now (reverse parts)) ≡ Some (formula ∷ []) =
      sym (ap (λ s. run_on s (stands_for now (reverse parts))) (drop_of_length-le symbols end)) ∙ walk.makes in
      let turned : reverse parts ≡ place ∷ reverse rest = ap reverse is ∙ reverse-append rest (place ∷ []) in
      let both : Some (formula_at (formulas_of now) place ∷ stands_for now (reverse rest)) ≡ Some (formula ∷ []) =
      sym (ap (λ ps. Some (stands_for now ps)) turned) ∙ done in
      let here : formula_at (formulas_of now) place ≡ formula = cc in
      let inside : place < length now = All-head (λ part. part < length now) place (reverse rest)
      (subst (All (λ part. part < length now)) turned (All-reverse (λ part. part < length now) parts walk.inside)) in
      at-formula_at (formulas_of now) place (omega (arith, length-meanings formula_of_node now)) ∙ ap Some here
