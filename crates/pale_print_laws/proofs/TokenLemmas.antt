-- What a token is by its kind.
use Rattle.std.proofs.Common.{◌≡◌, ℕ, Bool, true, false, if◌then◌else◌, List, [], ◌∷◌, Option, Some, None, refl, sym, ap, subst, ◌∙◌}
use Rattle.std.specs.Prelude.{codes}
use Rattle.std.specs.Str.{bytes_eq}
use Rattle.std.proofs.lemmas.Slice.Eq.{bytes_eq-Decides}
use Rattle.pale_text.specs.declared.token.Token.{Token}
use Rattle.pale_text.specs.declared.token.Mark.{Mark}
use Rattle.pale_text.specs.declared.token.TokenKind.{TokenKind}
use Rattle.pale_text.specs.declared.token.TokenKind.TheVariants as token
use Rattle.pale_text.specs.declared.place.Pos.{Pos}
use Rattle.pale_text.specs.Tokens.{first_of, name_bytes}
use Rattle.pale_syntax.specs.declared.grammar.kind.ProgramKind.{ProgramKind}
use Rattle.pale_syntax.specs.declared.grammar.kind.ProgramKind.TheVariants as kind
use Rattle.pale_text.specs.Kinds.{kind_among}
use Rattle.pale_syntax.specs.ProgramWords.{reserved, name_kind, kind_of}
use Rattle.pale_print_laws.specs.Words.{Word, AreWords, parenthesis, word, IsParenthesis, IsAt, unplaced, placed}

-- what a token of this kind is, where a name is the name that it is
abbrev pub token_of : ProgramKind → TokenKind → TokenKind
token_of kind.Name one = token.Name (name_bytes one)
token_of kind.Number one = one
token_of kind.«Type» one = token.Name (codes "type")
token_of kind.Bool one = token.Name (codes "bool")
token_of kind.Data one = token.Name (codes "data")
token_of kind.Pointer one = token.Name (codes "pointer")
token_of kind.Pred one = token.Name (codes "pred")
token_of kind.Set one = token.Name (codes "set")
token_of kind.Proc one = token.Name (codes "proc")
token_of kind.Returns one = token.Name (codes "returns")
token_of kind.Logic one = token.Name (codes "logic")
token_of kind.Pre one = token.Name (codes "pre")
token_of kind.Post one = token.Name (codes "post")
token_of kind.Skip one = token.Name (codes "skip")
token_of kind.If one = token.Name (codes "if")
token_of kind.Else one = token.Name (codes "else")
token_of kind.While one = token.Name (codes "while")
token_of kind.Split one = token.Name (codes "split")
token_of kind.Assert one = token.Name (codes "assert")
token_of kind.Free one = token.Name (codes "free")
token_of kind.New one = token.Name (codes "new")
token_of kind.Null one = token.Name (codes "null")
token_of kind.True one = token.Name (codes "true")
token_of kind.False one = token.Name (codes "false")
token_of kind.Call one = token.Name (codes "call")
token_of kind.Keep one = token.Name (codes "keep")
token_of kind.Ex one = token.Name (codes "ex")
token_of kind.All one = token.Name (codes "all")
token_of kind.In one = token.Name (codes "in")
token_of kind.Sub one = token.Name (codes "sub")
token_of kind.Root one = token.Name (codes "root")
token_of (kind.Mark mark) one = token.Mark mark

-- each of these words is what a token of its kind is
abbrev AreSpelled : List (List ℕ × ProgramKind) → Type 0
AreSpelled [] = Unit {0}
AreSpelled (first ∷ words) = ((one : TokenKind) → token_of first.1 one ≡ token.Name first.0) × AreSpelled words

spelled : AreSpelled reserved
spelled = (
  λ one. refl,
  (
    λ one. refl,
    (
      λ one. refl,
      (
        λ one. refl,
        (
          λ one. refl,
          (
            λ one. refl,
            (
              λ one. refl,
              (
                λ one. refl,
                (
                  λ one. refl,
                  (
                    λ one. refl,
                    (
                      λ one. refl,
                      (
                        λ one. refl,
                        (
                          λ one. refl,
                          (
                            λ one. refl,
                            (
                              λ one. refl,
                              (
                                λ one. refl,
                                (
                                  λ one. refl,
                                  (
                                    λ one. refl,
                                    (
                                      λ one. refl,
                                      (
                                        λ one. refl,
                                        (
                                          λ one. refl,
                                          (
                                            λ one. refl,
                                            (
                                              λ one. refl,
                                              (
                                                λ one. refl,
                                                (λ one. refl, (λ one. refl, (λ one. refl, (λ one. refl, (λ one. refl, tt))))),
                                              ),
                                            ),
                                          ),
                                        ),
                                      ),
                                    ),
                                  ),
                                ),
                              ),
                            ),
                          ),
                        ),
                      ),
                    ),
                  ),
                ),
              ),
            ),
          ),
        ),
      ),
    ),
  ),
)

is_among : (words : List (List ℕ × ProgramKind)) → AreSpelled words → (bytes : List ℕ) →
    token_of (kind_among words kind.Name bytes) (token.Name bytes) ≡ token.Name bytes
is_among [] all bytes = refl
is_among (first ∷ words) all bytes = by (bytes_eq first.0 bytes) refl (is_among words all.1 bytes)
  where
    by : (same : Bool) → bytes_eq first.0 bytes ≡ same → token_of (kind_among words kind.Name bytes) (token.Name bytes) ≡ token.Name bytes →
        token_of (if same then first.1 else kind_among words kind.Name bytes) (token.Name bytes) ≡ token.Name bytes
    by true is later = all.0 (token.Name bytes) ∙ ap (λ b. token.Name b) ((bytes_eq-Decides first.0 bytes).0 is)
    by false is later = later

is_of_kind : (one : TokenKind) → token_of (kind_of one) one ≡ one
unfolding name_kind
is_of_kind (token.Name bytes) = is_among reserved spelled bytes
is_of_kind (token.Number digits) = refl
is_of_kind (token.Mark mark) = refl

-- the first of these tokens is of this kind, and followed by those
pub record Took (k : ProgramKind) (here : List Token) (one : Token) (others : List Token) : Type 0 where
  pub first : here ≡ one ∷ others
  pub kind : kind_of one.kind ≡ k

taken : (k : ProgramKind) (one : Token) → kind_of one.kind ≡ k → one.kind ≡ token_of k one.kind
taken k one is = subst (λ j. one.kind ≡ token_of j one.kind) is (sym (is_of_kind one.kind))

-- a token is a word: with its place and that of the next token, with its place, or without
pub noted : {k : ProgramKind} {here others : List Token} {one : Token} {after : List Word} → Took k here one others →
    (next : Option Pos) → IsAt next (first_of others) → AreWords others after →
    AreWords here (record { kind = token_of k one.kind; place = Some one.span.start; next = next } ∷ after)
noted {k} {here} {others} {one} {after} took next at e =
    subst (λ tokens. AreWords tokens (record { kind = token_of k one.kind; place = Some one.span.start; next = next } ∷ after)) (sym took.first)
    (word one others (record { kind = token_of k one.kind; place = Some one.span.start; next = next }) after (taken k one took.kind) refl at e)

pub marked : {k : ProgramKind} {here others : List Token} {one : Token} {after : List Word} → Took k here one others →
    AreWords others after → AreWords here (placed (token_of k one.kind) one.span.start after)
marked took e = noted took None tt e

pub plain : {k : ProgramKind} {here others : List Token} {one : Token} {after : List Word} → Took k here one others →
    AreWords others after → AreWords here (unplaced (token_of k one.kind) after)
plain {k} {here} {others} {one} {after} took e =
    subst (λ tokens. AreWords tokens (unplaced (token_of k one.kind) after)) (sym took.first)
    (word one others (record { kind = token_of k one.kind; place = None; next = None }) after (taken k one took.kind) tt tt e)

-- a parenthesis is no word
pub skipped : {mark : Mark} {here others : List Token} {one : Token} {after : List Word} → Took (kind.Mark mark) here one others →
    IsParenthesis (token.Mark mark) → AreWords others after → AreWords here after
skipped {mark} {here} {others} {one} {after} took is e =
    subst (λ tokens. AreWords tokens after) (sym took.first)
    (parenthesis one others after (subst (λ (k : TokenKind). IsParenthesis k) (sym (taken (kind.Mark mark) one took.kind)) is) e)
