-- Facts of a text that is written.
use Rattle.std.proofs.Common.{◌≡◌, ℕ, List, [], ◌++◌, Option, Some, option_map, unwrap_or, Result, Ok, Err, IfOk, append-nil, refl, sym, ap, subst, ◌∙◌}
use Rattle.pale_text.specs.declared.token.TokenKind.{TokenKind}
use Rattle.pale_syntax.specs.declared.tree.declaration.Program.{Program}
use Rattle.pale_print.specs.Tokens.{each}
use Rattle.pale_print.specs.DeclarationTokens.{declaration_tokens, program_tokens}
use Rattle.pale_print.specs.Spelling.{spelled, spelling}
use Rattle.pale_print.specs.Writing.{Ends}

-- the same tokens, told in another way
pub so_ends : (begun : Option (List ℕ)) (whole : List ℕ) {after same : List TokenKind} → same ≡ after → Ends begun after whole → Ends begun same whole
so_ends begun whole told ends = subst (λ tokens. Ends begun tokens whole) (sym told) ends

-- what was written from nothing to the end
pub from_nothing : (first last : Option (List ℕ)) (text : List ℕ) (tokens : List TokenKind) →
    first ≡ Some [] → last ≡ Some text → (Ends last [] text → Ends first tokens text) → text ≡ spelled tokens
unfolding Ends spelled
from_nothing first last text tokens empty whole ends =
    ap (λ found. unwrap_or found [])
    (sym (ends (ap (option_map (λ begun. begun ++ [])) whole ∙ ap Some (append-nil text))) ∙ ap (option_map (λ begun. begun ++ spelled tokens)) empty)

pub of_declarations : (p : Program) → spelled (each declaration_tokens p.declarations []) ≡ spelling p
unfolding spelling program_tokens
of_declarations p = refl

-- what follows from what holds of a success
pub if_ok : {T E : Type 0} (P Q : T → Type 0) (result : Result T E) → ((value : T) → P value → Q value) → IfOk result P → IfOk result Q
if_ok P Q (Ok value) next holds = next value holds
if_ok P Q (Err error) next holds = holds
