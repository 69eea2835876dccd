-- The places of each procedure's cut points occur in order among a program's words, so they are distinct.
use Rattle.std.proofs.Common.{◌≡◌, ◌≢◌, ℕ, List, [], ◌∷◌, ◌++◌, map, flat_map, append-nil, refl, sym, subst}
use Rattle.std.specs.Prelude.{codes}
use Rattle.std.specs.Prelude.{filter_map}
use Rattle.std.specs.List.{AllByRecursion, AllPairs}
use Rattle.pale_text.specs.declared.place.Pos.{Pos}
use Rattle.pale_text.specs.declared.token.TokenList.{TokenList}
use Rattle.pale_text.specs.declared.token.Mark.TheVariants as mark
use Rattle.pale_text.specs.Lexing.{IsLexed}
use Rattle.pale_syntax.specs.declared.tree.declaration.Declaration.{Declaration}
use Rattle.pale_syntax.specs.declared.tree.declaration.Declaration.TheVariants as declaration
use Rattle.pale_syntax.specs.declared.tree.declaration.FieldDeclaration.{FieldDeclaration}
use Rattle.pale_syntax.specs.declared.tree.declaration.FieldForm.{FieldForm}
use Rattle.pale_syntax.specs.declared.tree.declaration.FieldForm.TheVariants as form
use Rattle.pale_syntax.specs.declared.tree.declaration.LogicParameter.{LogicParameter}
use Rattle.pale_syntax.specs.declared.tree.declaration.LogicParameter.TheVariants as logic
use Rattle.pale_syntax.specs.declared.tree.declaration.Parameter.{Parameter}
use Rattle.pale_syntax.specs.declared.tree.declaration.Parameter.TheVariants as parameter
use Rattle.pale_syntax.specs.declared.tree.declaration.PredicateDeclaration.{PredicateDeclaration}
use Rattle.pale_syntax.specs.declared.tree.declaration.PredicateParameter.{PredicateParameter}
use Rattle.pale_syntax.specs.declared.tree.declaration.PredicateParameter.TheVariants as predicate
use Rattle.pale_syntax.specs.declared.tree.declaration.Procedure.{Procedure}
use Rattle.pale_syntax.specs.declared.tree.declaration.Program.{Program}
use Rattle.pale_syntax.specs.declared.tree.declaration.TypeDeclaration.{TypeDeclaration}
use Rattle.pale_syntax.specs.declared.tree.declaration.VariantDeclaration.{VariantDeclaration}
use Rattle.pale_syntax.specs.declared.tree.names.Name.{Name}
use Rattle.pale_print_laws.specs.Words.{Word, AreWords, each, typed_words}
use Rattle.pale_print_laws.specs.DeclarationWords.{field_form_words, field_words, fields_words, variant_words, type_words, predicate_parameter_words}
use Rattle.pale_print_laws.specs.DeclarationWords.{predicate_words, parameter_words, results_words, logic_parameter_words, logics_words, local_words}
use Rattle.pale_print_laws.specs.DeclarationWords.{procedure_words, declaration_words, program_words}
use Rattle.pale_procedures.specs.declared.basis.Basis.{Basis}
use Rattle.pale_typed.specs.declared.typed.ProcEntry.{ProcEntry}
use Rattle.pale_sights.specs.Headings.{frame_in}
use Rattle.pale_procedures.specs.Procedures.{typed_procedure}
use Rattle.pale_procedures.specs.Statements.{types_of, typed_block}
use Rattle.pale_types.specs.Programs.{as_procedure, types_in, predicates_in, procedures_in, basis_of, typed_list, typed_program}
use Rattle.whole_run.specs.Places.{cut_places, PlacesAreDistinct}
use Rattle.whole_run.proofs.Rising.{names_rise, rises_apart}
use Rattle.whole_run.proofs.Occurring.{Occur, no_more, past, here, occur_picked, picked_rises, ArePassed, each_passed, behind_passed, separated_passed}
use Rattle.whole_run.proofs.Forms.{sign_passed, sign_at_passed, word_passed, word_at_passed, name_passed, route_passed, bracketed_passed}
use Rattle.whole_run.proofs.Statements.{clause_passed, statements_stand}

-- ---- declarations of types and predicates

typed_passed : (x ty : Name) → ArePassed (typed_words x ty)
typed_passed x ty places after occur = name_passed x places _ (sign_passed mark.Colon places _ (name_passed ty places after occur))

form_passed : (f : Name) (x : FieldForm) → ArePassed (field_form_words f x)
form_passed f form.Bool = λ places after occur. word_passed (codes "bool") places _ (name_passed f places _ (sign_passed mark.Semicolon places after occur))
form_passed f (form.Data ty) = λ places after occur.
    word_passed (codes "data") places _ (typed_passed f ty places _ (sign_passed mark.Semicolon places after occur))
form_passed f (form.Pointer ty place r) = λ places after occur.
    word_passed (codes "pointer") places _ (typed_passed f ty places _ (sign_at_passed mark.LeftBracket place places _ (route_passed r places _
    (sign_passed mark.RightBracket places _ (sign_passed mark.Semicolon places after occur)))))

fields_passed : (fs : List FieldDeclaration) → ArePassed (fields_words fs)
fields_passed fs places after occur = sign_passed mark.LeftBrace places _
    (each_passed field_words (λ f. form_passed f.name f.form) fs places _ (sign_passed mark.RightBrace places after occur))

variant_passed : (v : VariantDeclaration) → ArePassed (variant_words v)
variant_passed v places after occur = name_passed v.name places _ (fields_passed v.fields places after occur)

type_passed : (t : TypeDeclaration) → ArePassed (type_words t)
type_passed t places after occur =
    word_passed (codes "type") places _ (name_passed t.name places _ (sign_passed mark.Equals places _ (fields_passed t.fields places _
    (behind_passed variant_words variant_passed mark.Bar t.variants places after occur))))

predicate_parameter_passed : (p : PredicateParameter) → ArePassed (predicate_parameter_words p)
predicate_parameter_passed (predicate.Cell x ty) = typed_passed x ty
predicate_parameter_passed (predicate.Set x ty) = λ places after occur. word_passed (codes "set") places _ (typed_passed x ty places after occur)
predicate_parameter_passed (predicate.Bool x) = λ places after occur. word_passed (codes "bool") places _ (name_passed x places after occur)

predicate_passed : (p : PredicateDeclaration) → ArePassed (predicate_words p)
predicate_passed p places after occur =
    word_passed (codes "pred") places _ (name_passed p.name places _
    (separated_passed predicate_parameter_words predicate_parameter_passed mark.Comma p.parameters places _
    (sign_passed mark.Equals places _ (bracketed_passed p.body places _ (sign_passed mark.Semicolon places after occur)))))

-- ---- procedures

parameter_passed : (p : Parameter) → ArePassed (parameter_words p)
parameter_passed (parameter.Data x ty) = λ places after occur. word_passed (codes "data") places _ (typed_passed x ty places after occur)
parameter_passed (parameter.Pointer x ty) = λ places after occur. word_passed (codes "pointer") places _ (typed_passed x ty places after occur)
parameter_passed (parameter.Bool x) = λ places after occur. word_passed (codes "bool") places _ (name_passed x places after occur)

results_passed : (results : List Parameter) → ArePassed (results_words results)
results_passed [] = λ places after occur. occur
results_passed (first ∷ others) = λ places after occur.
    word_passed (codes "returns") places _ (separated_passed parameter_words parameter_passed mark.Comma (first ∷ others) places after occur)

logic_passed : (p : LogicParameter) → ArePassed (logic_parameter_words p)
logic_passed (logic.Set x ty) = λ places after occur. word_passed (codes "set") places _ (typed_passed x ty places after occur)
logic_passed (logic.Bool x) = λ places after occur. word_passed (codes "bool") places _ (name_passed x places after occur)

logics_passed : (logics : List LogicParameter) → ArePassed (logics_words logics)
logics_passed [] = λ places after occur. occur
logics_passed (first ∷ others) = λ places after occur.
    word_passed (codes "logic") places _ (separated_passed logic_parameter_words logic_passed mark.Comma (first ∷ others) places after occur)

local_passed : (p : Parameter) → ArePassed (local_words p)
local_passed p places after occur = parameter_passed p places _ (sign_passed mark.Semicolon places after occur)

-- fewer places occur too
fewer : (first places : List Pos) (words : List Word) → Occur (first ++ places) words → Occur places words
fewer [] places words occur = occur
fewer (p ∷ first) places words occur = fewer first places words (one_less (p ∷ (first ++ places)) words occur p (first ++ places) refl)
  where
    one_less : (all : List Pos) (words : List Word) → Occur all words → (p : Pos) (rest : List Pos) → all ≡ p ∷ rest → Occur rest words
    one_less all words (no_more every) p rest is = absurd cc
    one_less all words (past chosen own w more) p rest is = past rest own w (one_less chosen own more p rest is)
    one_less all words (here places own w bytes q named at more) p rest is =
        let same : places ≡ rest = cc in past rest own w (subst (λ (l : List Pos). Occur l own) same more)

module _ (basis : Basis) where
  abbrev body_places : Procedure → List Pos
  body_places p = flat_map cut_places (typed_block basis (frame_in (types_of basis) p) p.body)

  procedure_stands : (p : Procedure) (places : List Pos) (after : List Word) → Occur places after →
      Occur (body_places p ++ places) (procedure_words p after)
  procedure_stands p places after occur =
      word_at_passed (codes "proc") p.place _ _ (name_passed p.name _ _ (separated_passed parameter_words parameter_passed mark.Comma p.parameters _ _
      (results_passed p.results _ _ (logics_passed p.logics _ _ (clause_passed (codes "pre") p.pre _ _ (clause_passed (codes "post") p.post _ _
      (sign_passed mark.LeftBrace _ _ (each_passed local_words local_passed p.locals _ _
      (statements_stand basis (frame_in (types_of basis) p) p.body places _ (sign_at_passed mark.RightBrace p.end places after occur))))))))))

  declaration_passed : (d : Declaration) → ArePassed (declaration_words d)
  declaration_passed (declaration.«Type» t) = type_passed t
  declaration_passed (declaration.Predicate p) = predicate_passed p
  declaration_passed (declaration.Procedure p) = λ places after occur.
      fewer (body_places p) places (procedure_words p after) (procedure_stands p places after occur)

  -- those of one procedure
  abbrev InWords : List Word → Procedure → Type 0
  InWords words p = Occur (body_places p) words

  all_past : (procedures : List Procedure) (d : Declaration) (after : List Word) → AllByRecursion (InWords after) procedures →
      AllByRecursion (InWords (declaration_words d after)) procedures
  all_past [] d after all = tt
  all_past (p ∷ procedures) d after all = (declaration_passed d (body_places p) after all.0, all_past procedures d after all.1)

  all_in : (declarations : List Declaration) → AllByRecursion (InWords (each declaration_words declarations [])) (filter_map as_procedure declarations)
  all_in [] = tt
  all_in (declaration.«Type» t ∷ declarations) =
      all_past (filter_map as_procedure declarations) (declaration.«Type» t) (each declaration_words declarations []) (all_in declarations)
  all_in (declaration.Predicate p ∷ declarations) =
      all_past (filter_map as_procedure declarations) (declaration.Predicate p) (each declaration_words declarations []) (all_in declarations)
  all_in (declaration.Procedure p ∷ declarations) = (
    subst (λ (l : List Pos). Occur l (procedure_words p (each declaration_words declarations []))) (append-nil (body_places p))
        (procedure_stands p [] (each declaration_words declarations []) (no_more (each declaration_words declarations []))),
    all_past (filter_map as_procedure declarations) (declaration.Procedure p) (each declaration_words declarations []) (all_in declarations),
  )

  body_is : (p : Procedure) → flat_map cut_places (typed_procedure basis p).proc.body ≡ body_places p
  unfolding typed_procedure
  body_is p = refl

  all_apart : (text : List ℕ) (list : TokenList) (words : List Word) → IsLexed text list → AreWords list.tokens words → (procedures : List Procedure) →
      AllByRecursion (InWords words) procedures →
      AllByRecursion (λ (e : ProcEntry). AllPairs (λ (p q : Pos). p ≢ q) (flat_map cut_places e.proc.body)) (map (typed_procedure basis) procedures)
  all_apart text list words lexed are [] all = tt
  all_apart text list words lexed are (p ∷ procedures) all = (
    subst (λ (l : List Pos). AllPairs (λ (x y : Pos). x ≢ y) l) (sym (body_is p))
        (rises_apart (body_places p) (picked_rises (body_places p) _ (occur_picked list.tokens words are (body_places p) all.0) (names_rise text list lexed))),
    all_apart text list words lexed are procedures all.1,
  )

-- where the tokens of a text are the words of a program
pub texts_apart : (text : List ℕ) (list : TokenList) (tree : Program) → IsLexed text list → AreWords list.tokens (program_words tree) →
    PlacesAreDistinct (typed_program tree)
unfolding typed_list program_words
texts_apart text list tree lexed are =
    let basis = basis_of (types_in tree) (predicates_in tree) (procedures_in tree) in
    all_apart basis text list (each declaration_words tree.declarations []) lexed are (procedures_in tree) (all_in basis tree.declarations)
