-- Of the lines of the part behind `---`.
use Rattle.std.proofs.Common.{◌≡◌, ◌∙◌, ◌==◌, ℕ, suc, Bool, true, false, cond, List, [], ◌∷◌, length, ap, refl, sym, subst, arith}
use Rattle.std.proofs.lemmas.Bool.{true≢false}
use Rattle.std.proofs.lemmas.Bool.Decides.{nat_tests}
use Rattle.std.specs.List.{onto_first}
use Rattle.store_text.specs.Lines.{lines_of}
use Rattle.pale_parts.specs.declared.request.Request.{Request}
use Rattle.pale_parts.specs.declared.request.RequestFault.{RequestFault}
use Rattle.pale_parts.specs.declared.request.RequestKind.TheVariants.{Missing, Syntax}
use Rattle.pale_parts.specs.Requests.{Asks, IsRequestFault, nothing, too_much}

onto-some : (b : ℕ) (ls : List (List ℕ)) → (x : List ℕ) × (rest : List (List ℕ)) × (onto_first b ls ≡ x ∷ rest)
onto-some b [] = (b ∷ [], [], refl)
onto-some b (l ∷ ls) = (b ∷ l, ls, refl)

-- a text with a byte has a line
some-line : (b : ℕ) (bs : List ℕ) → (x : List ℕ) × (rest : List (List ℕ)) × (lines_of (b ∷ bs) ≡ x ∷ rest)
some-line b bs = by (b == 10)
  where
    by : (t : Bool) → (x : List ℕ) × (rest : List (List ℕ)) × (cond t ([] ∷ lines_of bs) (onto_first b (lines_of bs)) ≡ x ∷ rest)
    by true = ([], lines_of bs, refl)
    by false = onto-some b (lines_of bs)

-- behind a line that asks for something there is another one
pub second-line : (triples : ℕ) (first more part : List ℕ) (request : Request) → lines_of part ≡ first ∷ lines_of more → (length more == 0) ≡ false →
    Asks triples first request → IsRequestFault triples (lines_of part) (record { line = 2; kind = Syntax })
second-line triples first [] part request lines some asks = absurd (true≢false some)
second-line triples first (b ∷ bs) part request lines some asks =
    let (second, rest, is) = some-line b bs in
    subst (λ (ls : List (List ℕ)). IsRequestFault triples ls (record { line = 2; kind = Syntax })) (sym (lines ∙ ap (λ (ls : List (List ℕ)). first ∷ ls) is))
    (too_much first second rest request asks)

-- a text without a byte has no line
pub without-bytes : (triples : ℕ) (part : List ℕ) → (length part == 0) ≡ true → IsRequestFault triples (lines_of part) (record { line = 1; kind = Missing })
without-bytes triples [] empty = nothing
without-bytes triples (b ∷ bs) empty = absurd (none (length bs) empty)
  where
    none : (n : ℕ) → (suc n == 0) ≡ true → ⊥
    none n is = grind (arith, nat_tests)
