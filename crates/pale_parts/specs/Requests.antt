-- What is asked of a program by the part behind `---`, where that is one line. Its lines are counted from 1.
use Rattle.std.specs.Prelude.{◌≡◌, ◌<◌, ◌≤◌, ℕ, List, [], ◌∷◌, ◌++◌, codes}
use Rattle.std.specs.Fmt.{decimal}
use Rattle.pale_parts.specs.Parts.{IsTripleLine}
use Rattle.pale_parts.specs.declared.request.Request.{Request}
use Rattle.pale_parts.specs.declared.request.Request.TheVariants.{Fields, Triple}
use Rattle.pale_parts.specs.declared.request.RequestFault.{RequestFault}
use Rattle.pale_parts.specs.declared.request.RequestKind.{RequestKind}
use Rattle.pale_parts.specs.declared.request.RequestKind.TheVariants.{Missing, Syntax, UnknownName}

-- the line asks for this of a program with so many triples: `fields`, or `triple K`, with the number of a triple, counted from 1
pub data Asks (triples : ℕ) (line : List ℕ) : Request → Type 0 where
  fields : line ≡ codes "fields" → Asks triples line Fields
  triple : (number : ℕ) → IsTripleLine line number → 0 < number → number ≤ triples → Asks triples line (Triple number)

-- there is one line, and it asks for this
abbrev pub IsRequest : ℕ → List (List ℕ) → Request → Type 0
IsRequest triples lines request = (line : List ℕ) × (lines ≡ line ∷ []) × Asks triples line request

-- the lines are no request: there is none; the first has another form; it names no triple; or there is a second line
pub data IsRequestFault (triples : ℕ) : List (List ℕ) → RequestFault → Type 0 where
  nothing : IsRequestFault triples [] (record { line = 1; kind = Missing })
  no_form : (first : List ℕ) (more : List (List ℕ)) → (first ≡ codes "fields" → ⊥) → ((number : ℕ) → IsTripleLine first number → ⊥)
      → IsRequestFault triples (first ∷ more) (record { line = 1; kind = Syntax })
  no_triple : (first : List ℕ) (more : List (List ℕ)) (number : ℕ) → IsTripleLine first number → triples < number
      → IsRequestFault triples (first ∷ more) (record { line = 1; kind = UnknownName })
  too_much : (first second : List ℕ) (more : List (List ℕ)) (request : Request) → Asks triples first request
      → IsRequestFault triples (first ∷ second ∷ more) (record { line = 2; kind = Syntax })

-- ---- the line of a refused request

-- the word that is written for a kind of fault
abbrev pub word_of : RequestKind → List ℕ
word_of Missing = codes "missing"
word_of Syntax = codes "syntax"
word_of UnknownName = codes "unknown-name"

-- `request refused N KIND`
abbrev pub request_line : RequestFault → List ℕ
request_line fault = codes "request refused " ++ decimal fault.line ++ codes " " ++ word_of fault.kind ++ codes "\n"
