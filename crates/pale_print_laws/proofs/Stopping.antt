-- Where what may go on ends: with which tokens no part begins.
use Rattle.std.proofs.Common.{◌≡◌, ℕ, false, List, [], ◌∷◌, map, inl, inr, sym, subst, refl}
use Rattle.ll1_reader.specs.declared.symbol.Symbol.{Symbol}
use Rattle.ll1_reader.specs.Grammars.{Rows, Rules, IsOneOf, rules_of}
use Rattle.ll1_reader.specs.Predicting.{AreNamed, among, first_set}
use Rattle.ll1_reader.specs.Readings.{AnyEnd, IsNotBegun}
use Rattle.ll1_reader.proofs.SameRows.{Has, carried}
use Rattle.ll1_reader.proofs.Ends.{not_begun}
use Rattle.pale_syntax.specs.declared.grammar.kind.ProgramKind.{ProgramKind}
use Rattle.pale_syntax.specs.declared.grammar.kind.ProgramKind.TheVariants as kind
use Rattle.pale_syntax.specs.declared.grammar.part.ProgramPart.{ProgramPart}
use Rattle.pale_text.specs.declared.token.Mark.{Mark}
use Rattle.pale_text.specs.declared.token.TokenKind.{TokenKind}
use Rattle.pale_text.specs.declared.token.TokenKind.TheVariants as token
use Rattle.pale_syntax.specs.ProgramGrammar.{program_grammar}
use Rattle.pale_parse.specs.Productions.{program_rules}
use Rattle.pale_parse.specs.ParseTable.{program_table}
use Rattle.pale_parse.specs.TableLaws.{program_named, program_sound}
use Rattle.pale_print_laws.proofs.Framework.{Counts, Stops, IsWord, kinds}

module _ {N P A K : Type 0} (grammar : Rows N A K) (rules : Rules N P A K) (named : AreNamed grammar rules) where
  one_of_map : (ps : List P) (row : List (Symbol N A K)) → IsOneOf row (map rules.row ps) → (p : P) × IsOneOf p ps × (rules.row p ≡ row)
  one_of_map [] row i = absurd i
  one_of_map (p ∷ ps) row (inl e) = (p, inl refl, sym e)
  one_of_map (p ∷ ps) row (inr i) = let more = one_of_map ps row i in (more.0, inr more.1, more.2)

  to_names : Has (rules_of grammar) rules
  to_names n row i = one_of_map (rules.productions n) row (subst (λ (l : List (List (Symbol N A K))). IsOneOf row l) (sym (named.rows n)) i)

  by_rows : (n : N) (k : K) (ks : List K) → IsNotBegun rules n (k ∷ ks) → IsNotBegun (rules_of grammar) n (k ∷ ks)
  by_rows n k ks h = λ after steps r. h after steps (carried (rules_of grammar) rules (AnyEnd (rules_of grammar)) (AnyEnd rules) to_names (λ m xs u. tt) r)

-- a token of this kind begins none of the part
pub stops_kind : (n : ProgramPart) (k : ProgramKind) (ks : List ProgramKind) →
    among program_rules program_table k (first_set program_rules program_table n) ≡ false →
    Counts n (k ∷ ks)
stops_kind n k ks h = by_rows program_grammar program_rules program_named n k ks (not_begun program_rules program_table program_sound n (k ∷ ks) h)

pub at_mark : {n : ProgramPart} {m : Mark} {after : List TokenKind} →
    among program_rules program_table (kind.Mark m) (first_set program_rules program_table n) ≡ false →
    Stops n (token.Mark m ∷ after)
at_mark {n} {m} {after} h = record { holds = stops_kind n (kind.Mark m) (kinds after) h }

pub at_word : {n : ProgramPart} {k : ProgramKind} {word : List ℕ} {after : List TokenKind} → IsWord word k →
    among program_rules program_table k (first_set program_rules program_table n) ≡ false →
    Stops n (token.Name word ∷ after)
at_word {n} {k} {word} {after} is h = record { holds = subst (λ j. Counts n (j ∷ kinds after)) (sym is.same) (stops_kind n k (kinds after) h) }
