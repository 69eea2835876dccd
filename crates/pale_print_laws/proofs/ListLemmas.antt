-- Parts that come any number of times: what they make in all, and of which words.
use Rattle.std.proofs.Common.{◌≡◌, List, [], ◌∷◌, ◌++◌, Option, map, refl, sym, ap, ◌∙◌, subst, append_assoc, append-nil}
use Rattle.plain_data.specs.Stacks.{top, rest}
use Rattle.pale_text.specs.declared.token.Mark.{Mark}
use Rattle.pale_text.specs.declared.token.Token.{Token}
use Rattle.pale_syntax.specs.declared.grammar.part.ProgramPart.{ProgramPart}
use Rattle.pale_syntax.specs.MakingParts.{Parts}
use Rattle.pale_syntax.specs.ProgramGrammar.{ProgramSymbol}
use Rattle.pale_print_laws.specs.Words.{AreWords, Word, Words, ◌>>◌, sign, each, each_behind}
use Rattle.pale_print_laws.specs.Operands.{HasOne}
use Rattle.pale_print_laws.proofs.Meaning.{Thing, IsMade, FromTo, put}
use Rattle.pale_print_laws.proofs.PlaceFramework.{AreMade, no_more, one_more, puts, Goal, Fits, Done}

-- ---- words

-- the words of each are those of all
pub all_words : (n : ProgramPart) (words_of : Thing n → Words) →
    ((x : Thing n) (start end : List Token) → IsMade n x start end → FromTo (words_of x) start end) →
    {xs : List (Thing n)} {start end : List Token} → AreMade n xs start end → FromTo (each words_of xs) start end
all_words n words_of is (no_more start) = record { along = λ after e. e }
all_words n words_of is (one_more x xs start middle end one others) =
    record { along = λ after e. (is x start middle one).along (each words_of xs after) ((all_words n words_of is others).along after e) }

-- the words of each, with a mark before them, are those of all
pub behind_words : (n : ProgramPart) (mark : Mark) (words_of : Thing n → Words) →
    ((x : Thing n) (start end : List Token) → IsMade n x start end → FromTo (λ after. sign mark >> words_of x >> after) start end) →
    {xs : List (Thing n)} {start end : List Token} → AreMade n xs start end → FromTo (each_behind mark words_of xs) start end
behind_words n mark words_of is (no_more start) = record { along = λ after e. e }
behind_words n mark words_of is (one_more x xs start middle end one others) =
    record { along = λ after e. (is x start middle one).along (each_behind mark words_of xs after) ((behind_words n mark words_of is others).along after e) }

-- the words of a list that is longer by one
pub behind_last : {X : Type 0} (mark : Mark) (words_of : X → Words) (xs : List X) (x : X) (after : List Word) →
    each_behind mark (λ (one : Words). one) (map words_of (xs ++ x ∷ [])) after
    ≡ each_behind mark (λ (one : Words). one) (map words_of xs) (sign mark >> words_of x >> after)
behind_last mark words_of [] x after = refl
behind_last mark words_of (y ∷ xs) x after =
    ap (λ (rest : List Word). sign mark >> words_of y >> rest) (behind_last mark words_of xs x after)

pub each_last : {X : Type 0} (words_of : X → Words) (xs : List X) (x : X) (after : List Word) →
    each words_of (xs ++ x ∷ []) after ≡ each words_of xs (words_of x >> after)
each_last words_of [] x after = refl
each_last words_of (y ∷ xs) x after = ap (λ (rest : List Word). words_of y >> rest) (each_last words_of xs x after)

-- ---- lists of parts

-- each goes to the end of a list
pub grown : (n : ProgramPart) (at : List (Thing n) → Parts) → ((l : List (Thing n)) (x : Thing n) → put n x (at l) ≡ at (l ++ x ∷ [])) →
    (xs l : List (Thing n)) → puts n xs (at l) ≡ at (l ++ xs)
grown n at step [] l = ap at (sym (append-nil l))
grown n at step (x ∷ xs) l =
    ap (λ p. puts n xs p) (step l x) ∙ (grown n at step xs (l ++ x ∷ []) ∙ ap at (append_assoc l (x ∷ []) xs))

-- all are joined to one, from the left
abbrev pub joined_all : {R X : Type 0} → (R → X → R) → R → List X → R
joined_all join r [] = r
joined_all join r (x ∷ xs) = joined_all join (join r x) xs

pub folded : (n : ProgramPart) {R : Type 0} (join : R → Thing n → R) (at : R → Parts) →
    ((r : R) (x : Thing n) → put n x (at r) ≡ at (join r x)) → (xs : List (Thing n)) (r : R) → puts n xs (at r) ≡ at (joined_all join r xs)
folded n join at step [] r = refl
folded n join at step (x ∷ xs) r = ap (λ p. puts n xs p) (step r x) ∙ folded n join at step xs (join r x)

folded_words : {R X : Type 0} (join : R → X → R) (words_of : R → Words) (more_of : X → Words) →
    ((r : R) (x : X) (after : List Word) → words_of (join r x) after ≡ words_of r (more_of x >> after)) →
    (xs : List X) (r : R) (after : List Word) → words_of (joined_all join r xs) after ≡ words_of r (each more_of xs after)
folded_words join words_of more_of step [] r after = refl
folded_words join words_of more_of step (x ∷ xs) r after =
    folded_words join words_of more_of step xs (join r x) after ∙ step r x (each more_of xs after)

-- a mark before the words of something
abbrev pub signed : {X : Type 0} → Mark → (X → Words) → X → Words
signed mark words_of x after = sign mark >> words_of x >> after

-- the words of a chain, from those of its first operand and of each that follows
pub chain_words : (n : ProgramPart) {R : Type 0} (join : R → Thing n → R) (words_of : R → Words) (more_of : Thing n → Words) →
    ((r : R) (x : Thing n) (after : List Word) → words_of (join r x) after ≡ words_of r (more_of x >> after)) →
    ((x : Thing n) (start end : List Token) → IsMade n x start end → FromTo (more_of x) start end) →
    (r : R) (xs : List (Thing n)) (start middle end : List Token) → FromTo (words_of r) start middle → AreMade n xs middle end →
    FromTo (words_of (joined_all join r xs)) start end
chain_words n join words_of more_of step is r xs start middle end first others =
    record {
      along = λ after e.
          subst (λ words. AreWords start words) (sym (folded_words join words_of more_of step xs r after))
          (first.along (each more_of xs after) ((all_words n more_of is others).along after e));
    }

-- ---- the parts before

-- what may be read from some parts, may be read from the same parts
pub settled : (n : ProgramPart) (row : List ProgramSymbol) (last : Option Token) (tokens : List Token) (p parts : Parts) (goal : Goal) → p ≡ parts →
    (Done n tokens p goal → Fits row last tokens p goal) → Done n tokens parts goal → Fits row last tokens parts goal
settled n row last tokens p parts goal is along done =
    subst (λ q. Fits row last tokens q goal) is
    (along (λ x behind others made. subst (λ q. goal behind others (put n x q)) (sym is) (done x behind others made)))

-- a stack that is not empty is its top on its rest
pub top_and_rest : {T : Type 0} (otherwise : T) (stack : List T) → HasOne stack → top otherwise stack ∷ rest stack ≡ stack
top_and_rest otherwise [] is = absurd is
top_and_rest otherwise (first ∷ others) is = refl
