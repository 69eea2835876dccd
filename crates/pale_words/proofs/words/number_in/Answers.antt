use Rattle.std.proofs.Common.{◌≡◌, ◌∙◌, ◌≤◌, List, ℕ, Option, Some, Result, option_map, refl, subst, sym}
use Rattle.std.specs.Prelude.{IfSome, IsSome}
use Rattle.std.specs.Str.Parse.{digits_value, without_leading_plus, ParsesUnsigned, ExplainsUnsignedError, HasUnsignedDigitsIfOk}
use Rattle.clap.specs.Words.{found_of, one_text, rows_of, without_minus}
use Rattle.clap.specs.Matches.{ReadsOne}
use Rattle.clap.specs.declared.parser.matches.ArgMatches.{ArgMatches}
use Rattle.clap.proofs.CallerReads.{signed_reads}
use Rattle.clap.proofs.WalkLemmas.{one_text-rows}
use Rattle.pale_words.specs.Words.{HasNumber}
use Rattle.pale_words.proofs.SettingsLemmas.{number_read}
use Rattle.pale_words.proofs.words.number_in.Goals as goal

-- the number that is read, in the option's range
module _ {E : Type 0} (Gives : List ℕ → Result ℕ E → Type 0) (parses : (u : List ℕ) (x : Result ℕ E) → Gives u x → ParsesUnsigned 32 10 u x)
    (m : ArgMatches) (id : List ℕ) (r : Option ℕ) (value : (t : List ℕ) → one_text (found_of m) id ≡ Some t → ReadsOne Gives t r) where
  read_in : (low high : ℕ) → HasNumber low high id (rows_of (found_of m)) → (n : ℕ) × (r ≡ Some n) × (low ≤ n) × (n ≤ high)
  read_in low high given =
      signed_reads E Gives 32 low high given.0 r (value (without_minus given.0) (one_text-rows (found_of m) id ∙ given.3)) parses given.1 given.2

pub unwrap-requires : goal.unwrap-requires
unwrap-requires c =
    let got = read_in (λ bs r. ParsesUnsigned 32 10 bs r × ExplainsUnsignedError 10 bs r × HasUnsignedDigitsIfOk bs r) (λ u x reads. reads.0)
    c.args.matches.now c.args.id.now c.get_one.result c.get_one.ensures.value c.requires.0 c.requires.1 c.requires.2 in
    subst (λ (o : Option ℕ). IsSome o) (sym got.1) refl

pub returns-clause-value : goal.returns-clause-value
returns-clause-value c =
    let text = one_text (found_of c.args.matches.now) c.args.id.now in
    let read = number_read (λ bs r. ParsesUnsigned 32 10 bs r × ExplainsUnsignedError 10 bs r × HasUnsignedDigitsIfOk bs r) text c.get_one.result
    c.get_one.ensures.none c.get_one.ensures.value (λ u x reads. reads.0) in
    let number = subst (λ (r : Option ℕ). IfSome r (λ n. option_map (λ t. digits_value 10 (without_leading_plus t)) text ≡ Some n)) c.unwrap.ensures read in
    subst (λ (o : Option (List ℕ)). option_map (λ t. digits_value 10 (without_leading_plus t)) o ≡ Some c.unwrap.result)
    (one_text-rows (found_of c.args.matches.now) c.args.id.now) number

pub returns-clause-range : goal.returns-clause-range
returns-clause-range c low high given =
    let got = read_in (λ bs r. ParsesUnsigned 32 10 bs r × ExplainsUnsignedError 10 bs r × HasUnsignedDigitsIfOk bs r) (λ u x reads. reads.0)
    c.args.matches.now c.args.id.now c.get_one.result c.get_one.ensures.value low high given in
    let same : got.0 ≡ c.unwrap.result = cc (sym got.1 ∙ c.unwrap.ensures) in
    subst (λ n. (low ≤ n) × (n ≤ high)) same (got.2, got.3)
