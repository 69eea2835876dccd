-- Reading what a printer wrote, from its end: how the tokens that are left are read, and what is made of them.
use Rattle.std.proofs.Common.{◌≡◌, ℕ, suc, ◌+◌, ◌≤◌, List, [], ◌∷◌, Option, None, Some, map, refl, sym, ◌∙◌, ap, subst, arith}
use Rattle.ll1_reader.specs.declared.symbol.Symbol.TheVariants.{Read, Open, Once, Maybe, Many, Act as Does}
use Rattle.ll1_reader.specs.Grammars.{IsOneOf}
use Rattle.ll1_reader.specs.Readings.{Stack, Row, Step, Took, Did, Reads, row_over, read, opened, acted, once, taken, left_out, again, ended, IsNotBegun}
use Rattle.ll1_reader.specs.Answers.{levels, event_of, AreLow}
use Rattle.pale_syntax.specs.declared.grammar.act.Act.{Act}
use Rattle.pale_syntax.specs.declared.grammar.act.Act.TheVariants as act
use Rattle.pale_syntax.specs.declared.grammar.act.WordAct.TheVariants as words
use Rattle.pale_syntax.specs.declared.grammar.kind.ProgramKind.{ProgramKind}
use Rattle.pale_syntax.specs.declared.grammar.kind.ProgramKind.TheVariants as kind
use Rattle.pale_syntax.specs.declared.grammar.part.ProgramPart.{ProgramPart}
use Rattle.pale_text.specs.declared.token.Mark.{Mark}
use Rattle.pale_text.specs.declared.token.Token.{Token}
use Rattle.pale_text.specs.declared.token.TokenKind.{TokenKind}
use Rattle.pale_text.specs.declared.token.TokenKind.TheVariants as token
use Rattle.pale_syntax.specs.declared.tree.declaration.Declaration.{Declaration}
use Rattle.pale_syntax.specs.Making.{after, run}
use Rattle.pale_text.specs.Tokens.{first_of}
use Rattle.pale_syntax.specs.MakingParts.{Parts, Near}
use Rattle.pale_text.specs.Places.{nowhere}
use Rattle.pale_text.specs.Tokens.{place_of}
use Rattle.pale_syntax.specs.ProgramGrammar.{ProgramSymbol}
use Rattle.pale_syntax.specs.ProgramReading.{program_rows}
use Rattle.pale_syntax.specs.ProgramWords.{name_kind, kind_of}
use Rattle.pale_text.specs.Spelling.{IsName, Spells}
use Rattle.pale_print.specs.Spelling.{bytes}

abbrev pub Counts : ProgramPart → List ProgramKind → Type 0
Counts = IsNotBegun program_rows

abbrev pub ProgramStack : Type 0
ProgramStack = Stack ProgramPart Act ProgramKind

abbrev pub kinds : List TokenKind → List ProgramKind
kinds tokens = map kind_of tokens

-- the token at no place
abbrev pub plain_token : TokenKind → Token
plain_token one = record { span = record { start = nowhere; length = 0 }; kind = one }

abbrev pub plain : List TokenKind → List Token
plain tokens = map plain_token tokens

-- what is left to be read isn't begun as this part
pub record Stops (n : ProgramPart) (after : List TokenKind) : Type 0 where
  pub holds : Counts n (kinds after)

-- each token has a spelling
abbrev pub AreSpelled : List TokenKind → Type 0
AreSpelled [] = Unit {0}
AreSpelled (one ∷ tokens) = Spells one (bytes one) × AreSpelled tokens

-- the limit on levels, and the declarations that are made in the end
pub record Aim : Type 0 where
  pub top : ℕ
  pub made : List Declaration

-- these tokens are what is still to be read, and they make, from these parts, what is aimed at
pub record Ends (aim : Aim) (s : ProgramStack) (tokens : List TokenKind) (parts : Parts) : Type 0 where
  pub spelled : AreSpelled tokens
  pub steps : List (Step Act)
  pub reading : Reads program_rows Counts s (kinds tokens) steps
  pub low : AreLow aim.top (levels steps)
  pub made : (last : Option Token) → (run (map event_of steps) last (plain tokens) parts).declarations ≡ aim.made

-- ---- levels

pub room_now : (d room top : ℕ) → d + room ≤ top → d ≤ top
room_now d room top h = omega arith

pub room_open : (d room top : ℕ) → d + suc room ≤ top → suc d ≤ top
room_open d room top h = omega arith

pub room_in : (d room top : ℕ) → d + suc room ≤ top → suc d + room ≤ top
room_in d room top h = omega arith

-- ---- tokens

-- a reserved word and its kind
pub record IsWord (word : List ℕ) (k : ProgramKind) : Type 0 where
  pub named : IsName word
  pub same : name_kind word ≡ k

reads_as : (k j : ProgramKind) (row : List ProgramSymbol) (d : ℕ) (below : ProgramStack) (left : List ProgramKind) (steps : List (Step Act)) →
    j ≡ k → Reads program_rows Counts (Row row d below) left steps → Reads program_rows Counts (Row (Read k ∷ row) d below) (j ∷ left) (Took d ∷ steps)
reads_as k j row d below left steps is r =
    subst (λ i. Reads program_rows Counts (Row (Read k ∷ row) d below) (i ∷ left) (Took d ∷ steps)) (sym is) (read k row d below left steps r)

opens_as : (k j : ProgramKind) (row : List ProgramSymbol) (d : ℕ) (below : ProgramStack) (left : List ProgramKind) (steps : List (Step Act)) →
    j ≡ k → Reads program_rows Counts (Row row (suc d) below) left steps →
    Reads program_rows Counts (Row (Open k ∷ row) d below) (j ∷ left) (Took (suc d) ∷ steps)
opens_as k j row d below left steps is r =
    subst (λ i. Reads program_rows Counts (Row (Open k ∷ row) d below) (i ∷ left) (Took (suc d) ∷ steps)) (sym is) (opened k row d below left steps r)

-- what is near behind this token
abbrev pub near : TokenKind → Near
near one = record { last = Some (plain_token one); next = None }

pub mark : {aim : Aim} {row : List ProgramSymbol} {d : ℕ} {below : ProgramStack} {tokens : List TokenKind} {parts : Parts} {m : Mark} →
    d ≤ aim.top → Ends aim (Row row d below) tokens parts →
    Ends aim (Row (Read (kind.Mark m) ∷ row) d below) (token.Mark m ∷ tokens) parts
mark {aim} {row} {d} {below} {tokens} {parts} {m} low next =
    record {
      spelled = (refl, next.spelled);
      steps = Took d ∷ next.steps;
      reading = read (kind.Mark m) row d below (kinds tokens) next.steps next.reading;
      low = (low, next.low);
      made = λ last. next.made (Some (plain_token (token.Mark m)));
    }

-- a mark, and what is made at it
pub mark_with : {aim : Aim} {row : List ProgramSymbol} {d : ℕ} {below : ProgramStack} {tokens : List TokenKind} {parts : Parts} {m : Mark} {a : Act} →
    d ≤ aim.top →
    ((next : Option Token) → after a (record { last = Some (plain_token (token.Mark m)); next = next }) parts ≡ after a
    (near (token.Mark m)) parts) →
    Ends aim (Row row d below) tokens (after a (near (token.Mark m)) parts) →
    Ends aim (Row (Read (kind.Mark m) ∷ Does a ∷ row) d below) (token.Mark m ∷ tokens) parts
mark_with {aim} {row} {d} {below} {tokens} {parts} {m} {a} low free next =
    record {
      spelled = (refl, next.spelled);
      steps = Took d ∷ Did a ∷ next.steps;
      reading = read (kind.Mark m) (Does a ∷ row) d below (kinds tokens) (Did a ∷ next.steps) (acted a row d below (kinds tokens) next.steps next.reading);
      low = (low, next.low);
      made = λ last.
          ap (λ p. (run (map event_of next.steps) (Some (plain_token (token.Mark m))) (plain tokens) p).declarations) (free (first_of (plain tokens)))
          ∙ next.made (Some (plain_token (token.Mark m)));
    }

pub mark_open : {aim : Aim} {row : List ProgramSymbol} {d : ℕ} {below : ProgramStack} {tokens : List TokenKind} {parts : Parts} {m : Mark} →
    suc d ≤ aim.top → Ends aim (Row row (suc d) below) tokens parts →
    Ends aim (Row (Open (kind.Mark m) ∷ row) d below) (token.Mark m ∷ tokens) parts
mark_open {aim} {row} {d} {below} {tokens} {parts} {m} low next =
    record {
      spelled = (refl, next.spelled);
      steps = Took (suc d) ∷ next.steps;
      reading = opened (kind.Mark m) row d below (kinds tokens) next.steps next.reading;
      low = (low, next.low);
      made = λ last. next.made (Some (plain_token (token.Mark m)));
    }

pub mark_open_with : {aim : Aim} {row : List ProgramSymbol} {d : ℕ} {below : ProgramStack} {tokens : List TokenKind} {parts : Parts} {m : Mark} {a : Act} →
    suc d ≤ aim.top →
    ((next : Option Token) → after a (record { last = Some (plain_token (token.Mark m)); next = next }) parts ≡ after a
    (near (token.Mark m)) parts) →
    Ends aim (Row row (suc d) below) tokens (after a (near (token.Mark m)) parts) →
    Ends aim (Row (Open (kind.Mark m) ∷ Does a ∷ row) d below) (token.Mark m ∷ tokens) parts
mark_open_with {aim} {row} {d} {below} {tokens} {parts} {m} {a} low free next =
    record {
      spelled = (refl, next.spelled);
      steps = Took (suc d) ∷ Did a ∷ next.steps;
      reading =
          opened (kind.Mark m) (Does a ∷ row) d below (kinds tokens) (Did a ∷ next.steps)
          (acted a row (suc d) below (kinds tokens) next.steps next.reading);
      low = (low, next.low);
      made = λ last.
          ap (λ p. (run (map event_of next.steps) (Some (plain_token (token.Mark m))) (plain tokens) p).declarations) (free (first_of (plain tokens)))
          ∙ next.made (Some (plain_token (token.Mark m)));
    }

pub word : {aim : Aim} {row : List ProgramSymbol} {d : ℕ} {below : ProgramStack} {tokens : List TokenKind} {parts : Parts} {name : List ℕ} {k : ProgramKind} →
    IsWord name k → d ≤ aim.top → Ends aim (Row row d below) tokens parts →
    Ends aim (Row (Read k ∷ row) d below) (token.Name name ∷ tokens) parts
word {aim} {row} {d} {below} {tokens} {parts} {name} {k} is low next =
    record {
      spelled = ((refl, is.named), next.spelled);
      steps = Took d ∷ next.steps;
      reading = reads_as k (name_kind name) row d below (kinds tokens) next.steps is.same next.reading;
      low = (low, next.low);
      made = λ last. next.made (Some (plain_token (token.Name name)));
    }

pub word_with : {aim : Aim} {row : List ProgramSymbol} {d : ℕ} {below : ProgramStack} {tokens : List TokenKind}
    {parts : Parts} {name : List ℕ} {k : ProgramKind} {a : Act} →
    IsWord name k → d ≤ aim.top →
    ((next : Option Token) → after a (record { last = Some (plain_token (token.Name name)); next = next }) parts ≡ after a
    (near (token.Name name)) parts) →
    Ends aim (Row row d below) tokens (after a (near (token.Name name)) parts) →
    Ends aim (Row (Read k ∷ Does a ∷ row) d below) (token.Name name ∷ tokens) parts
word_with {aim} {row} {d} {below} {tokens} {parts} {name} {k} {a} is low free next =
    record {
      spelled = ((refl, is.named), next.spelled);
      steps = Took d ∷ Did a ∷ next.steps;
      reading =
          reads_as k (name_kind name) (Does a ∷ row) d below (kinds tokens) (Did a ∷ next.steps) is.same
          (acted a row d below (kinds tokens) next.steps next.reading);
      low = (low, next.low);
      made = λ last.
          ap (λ p. (run (map event_of next.steps) (Some (plain_token (token.Name name))) (plain tokens) p).declarations) (free (first_of (plain tokens)))
          ∙ next.made (Some (plain_token (token.Name name)));
    }

pub word_open_with : {aim : Aim} {row : List ProgramSymbol} {d : ℕ} {below : ProgramStack} {tokens : List TokenKind}
    {parts : Parts} {name : List ℕ} {k : ProgramKind} {a : Act} →
    IsWord name k → suc d ≤ aim.top →
    ((next : Option Token) → after a (record { last = Some (plain_token (token.Name name)); next = next }) parts ≡ after a
    (near (token.Name name)) parts) →
    Ends aim (Row row (suc d) below) tokens (after a (near (token.Name name)) parts) →
    Ends aim (Row (Open k ∷ Does a ∷ row) d below) (token.Name name ∷ tokens) parts
word_open_with {aim} {row} {d} {below} {tokens} {parts} {name} {k} {a} is low free next =
    record {
      spelled = ((refl, is.named), next.spelled);
      steps = Took (suc d) ∷ Did a ∷ next.steps;
      reading =
          opens_as k (name_kind name) (Does a ∷ row) d below (kinds tokens) (Did a ∷ next.steps) is.same
          (acted a row (suc d) below (kinds tokens) next.steps next.reading);
      low = (low, next.low);
      made = λ last.
          ap (λ p. (run (map event_of next.steps) (Some (plain_token (token.Name name))) (plain tokens) p).declarations) (free (first_of (plain tokens)))
          ∙ next.made (Some (plain_token (token.Name name)));
    }

-- ---- what is made

-- what is made of the parts alone
pub does : {aim : Aim} {row : List ProgramSymbol} {d : ℕ} {below : ProgramStack} {tokens : List TokenKind} {parts : Parts} {a : Act} →
    ((here : Near) → after a here parts ≡ after a (record { last = None; next = None }) parts) →
    Ends aim (Row row d below) tokens (after a (record { last = None; next = None }) parts) →
    Ends aim (Row (Does a ∷ row) d below) tokens parts
does {aim} {row} {d} {below} {tokens} {parts} {a} free next =
    record {
      spelled = next.spelled;
      steps = Did a ∷ next.steps;
      reading = acted a row d below (kinds tokens) next.steps next.reading;
      low = next.low;
      made = λ last.
          ap (λ p. (run (map event_of next.steps) last (plain tokens) p).declarations) (free (record { last = last; next = first_of (plain tokens) }))
          ∙ next.made last;
    }

place_of_first : (tokens : List TokenKind) → place_of (first_of (plain tokens)) ≡ nowhere
place_of_first [] = refl
place_of_first (one ∷ tokens) = refl

-- the place of the token that comes next
pub marks_next : {aim : Aim} {row : List ProgramSymbol} {d : ℕ} {below : ProgramStack} {tokens : List TokenKind} {parts : Parts} →
    Ends aim (Row row d below) tokens (record parts { places = nowhere ∷ parts.places }) →
    Ends aim (Row (Does (act.Word words.MarkNext) ∷ row) d below) tokens parts
marks_next {aim} {row} {d} {below} {tokens} {parts} next =
    record {
      spelled = next.spelled;
      steps = Did (act.Word words.MarkNext) ∷ next.steps;
      reading = acted (act.Word words.MarkNext) row d below (kinds tokens) next.steps next.reading;
      low = next.low;
      made = λ last.
          ap (λ p. (run (map event_of next.steps) last (plain tokens) (record parts { places = p ∷ parts.places })).declarations) (place_of_first tokens)
          ∙ next.made last;
    }

-- ---- rows

pub row_ends : {aim : Aim} {d : ℕ} {below : ProgramStack} {tokens : List TokenKind} {parts : Parts} →
    Ends aim below tokens parts → Ends aim (Row [] d below) tokens parts
row_ends {aim} {d} {below} {tokens} {parts} next =
    record {
      spelled = next.spelled;
      steps = next.steps;
      reading = row_over d below (kinds tokens) next.steps next.reading;
      low = next.low;
      made = next.made;
    }

pub goes : {aim : Aim} {row : List ProgramSymbol} {d : ℕ} {below : ProgramStack} {tokens : List TokenKind} {parts : Parts}
    {n : ProgramPart} (p : List ProgramSymbol) →
    IsOneOf p (program_rows.productions n) → Ends aim (Row p d (Row row d below)) tokens parts → Ends aim (Row (Once n ∷ row) d below) tokens parts
goes {aim} {row} {d} {below} {tokens} {parts} {n} p is next =
    record {
      spelled = next.spelled;
      steps = next.steps;
      reading = once n p row d below (kinds tokens) next.steps is next.reading;
      low = next.low;
      made = next.made;
    }

pub takes : {aim : Aim} {row : List ProgramSymbol} {d : ℕ} {below : ProgramStack} {tokens : List TokenKind} {parts : Parts}
    {n : ProgramPart} (p : List ProgramSymbol) →
    IsOneOf p (program_rows.productions n) → Ends aim (Row p d (Row row d below)) tokens parts → Ends aim (Row (Maybe n ∷ row) d below) tokens parts
takes {aim} {row} {d} {below} {tokens} {parts} {n} p is next =
    record {
      spelled = next.spelled;
      steps = next.steps;
      reading = taken n p row d below (kinds tokens) next.steps is next.reading;
      low = next.low;
      made = next.made;
    }

pub leaves : {aim : Aim} {row : List ProgramSymbol} {d : ℕ} {below : ProgramStack} {tokens : List TokenKind} {parts : Parts} {n : ProgramPart} →
    Stops n tokens → Ends aim (Row row d below) tokens parts → Ends aim (Row (Maybe n ∷ row) d below) tokens parts
leaves {aim} {row} {d} {below} {tokens} {parts} {n} stops next =
    record {
      spelled = next.spelled;
      steps = next.steps;
      reading = left_out n row d below (kinds tokens) next.steps stops.holds next.reading;
      low = next.low;
      made = next.made;
    }

pub goes_on : {aim : Aim} {row : List ProgramSymbol} {d : ℕ} {below : ProgramStack} {tokens : List TokenKind} {parts : Parts}
    {n : ProgramPart} (p : List ProgramSymbol) →
    IsOneOf p (program_rows.productions n) → Ends aim (Row p d (Row (Many n ∷ row) d below)) tokens parts → Ends aim (Row (Many n ∷ row) d below) tokens parts
goes_on {aim} {row} {d} {below} {tokens} {parts} {n} p is next =
    record {
      spelled = next.spelled;
      steps = next.steps;
      reading = again n p row d below (kinds tokens) next.steps is next.reading;
      low = next.low;
      made = next.made;
    }

pub stops_there : {aim : Aim} {row : List ProgramSymbol} {d : ℕ} {below : ProgramStack} {tokens : List TokenKind} {parts : Parts} {n : ProgramPart} →
    Stops n tokens → Ends aim (Row row d below) tokens parts → Ends aim (Row (Many n ∷ row) d below) tokens parts
stops_there {aim} {row} {d} {below} {tokens} {parts} {n} stops next =
    record {
      spelled = next.spelled;
      steps = next.steps;
      reading = ended n row d below (kinds tokens) next.steps stops.holds next.reading;
      low = next.low;
      made = next.made;
    }
