-- Where no chain of assertions goes on, no operator comes next.
use Rattle.std.proofs.Common.{◌≡◌, true, List, [], ◌∷◌, map, inl, inr, ap, subst, refl}
use Rattle.ll1_reader.specs.declared.symbol.Symbol.{Symbol}
use Rattle.ll1_reader.specs.Grammars.{Rows, Rules, IsOneOf, rules_of}
use Rattle.ll1_reader.specs.Predicting.{AreNamed, among, first_set}
use Rattle.ll1_reader.specs.Readings.{AnyEnd, IsNotBegun}
use Rattle.ll1_reader.proofs.SameRows.{Has, carried}
use Rattle.ll1_reader.proofs.Ends.{begun}
use Rattle.pale_syntax.specs.declared.grammar.kind.ProgramKind.TheVariants as kind
use Rattle.pale_syntax.specs.declared.grammar.part.ProgramPart.{ProgramPart}
use Rattle.pale_syntax.specs.declared.grammar.part.ProgramPart.TheVariants as part
use Rattle.pale_text.specs.declared.token.Mark.{Mark}
use Rattle.pale_text.specs.declared.token.Mark.TheVariants as mark
use Rattle.pale_text.specs.declared.token.Token.{Token}
use Rattle.pale_syntax.specs.ProgramGrammar.{program_grammar}
use Rattle.pale_syntax.specs.ProgramWords.{kinds_in}
use Rattle.pale_parse.specs.Productions.{program_rules, productions_of}
use Rattle.pale_parse.specs.ParseTable.{number_of, first_set as row_first_set, program_table, mark_number}
use Rattle.pale_parse.specs.TableLaws.{program_named, program_sound}
use Rattle.pale_print_laws.proofs.Framework.{Counts}
use Rattle.pale_print_laws.proofs.FromMade.{StopsAt, EndsIff, BeginsWith, IsOperator}

module _ {N P A K : Type 0} (grammar : Rows N A K) (rules : Rules N P A K) (named : AreNamed grammar rules) where
  map_of_one : (ps : List P) (p : P) → IsOneOf p ps → IsOneOf (rules.row p) (map rules.row ps)
  map_of_one [] p i = absurd i
  map_of_one (q ∷ ps) p (inl e) = inl (ap rules.row e)
  map_of_one (q ∷ ps) p (inr i) = inr (map_of_one ps p i)

  to_rows : Has rules (rules_of grammar)
  to_rows n p i = (rules.row p, subst (λ (l : List (List (Symbol N A K))). IsOneOf (rules.row p) l) (named.rows n) (map_of_one (rules.productions n) p i), refl)

  by_names : (n : N) (k : K) (ks : List K) → IsNotBegun (rules_of grammar) n (k ∷ ks) → IsNotBegun rules n (k ∷ ks)
  by_names n k ks h = λ after steps r. h after steps (carried rules (rules_of grammar) (AnyEnd rules) (AnyEnd (rules_of grammar)) to_rows (λ m xs u. tt) r)

-- a token of this kind begins the part
goes_on_at : (n : ProgramPart) (m : Mark) (tokens : List Token) →
    among program_rules program_table (kind.Mark m) (first_set program_rules program_table n) ≡ true →
    StopsAt n tokens → BeginsWith m tokens → ⊥
goes_on_at n m tokens h stops begins =
    begun program_rules program_table program_sound n (kind.Mark m) (kinds_in begins.others) h
    (by_names program_grammar program_rules program_named n (kind.Mark m) (kinds_in begins.others)
    (subst (λ k. Counts n (k ∷ kinds_in begins.others)) begins.kind_is (subst (λ (ts : List Token). StopsAt n ts) begins.tokens_are stops)))

pub no_operator : {tokens : List Token} → EndsIff tokens → IsOperator tokens → ⊥
unfolding program_rules program_table productions_of row_first_set number_of mark_number
no_operator {tokens} ends (inl (inl begins)) = goes_on_at part.NextNegation mark.Ampersand tokens refl ends.and begins
no_operator {tokens} ends (inl (inr begins)) = goes_on_at part.NextAndChain mark.Bar tokens refl ends.or begins
no_operator {tokens} ends (inr (inl begins)) = goes_on_at part.Implied mark.Implies tokens refl ends.imp begins
no_operator {tokens} ends (inr (inr begins)) = goes_on_at part.NextImplication mark.Equivalent tokens refl ends.iff begins
