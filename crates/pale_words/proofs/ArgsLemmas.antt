-- The three arguments of a command whose shape is that of the definition.
use Rattle.std.proofs.Common.{◌≡◌, ◌∙◌, ◌<◌, ◌≤◌, ◌⊎◌, ℕ, List, [], ◌∷◌, zero, suc, length, map, ap, refl, sym, subst, arith, Option, Some, None}
use Rattle.std.proofs.Common.{is_some, true, false, not, true≢false, inl, inr, codes}
use Rattle.std.specs.Prelude.{slice_index}
use Rattle.std.specs.List.{slice_index_or}
use Rattle.std.specs.Str.{bytes_eq}
use Rattle.std.specs.Borrow.{Bor}
use Rattle.clap.specs.Texts.{items_of}
use Rattle.clap.specs.Facts.{WantsDefault, args_of, least_values, unwrap_or_range}
use Rattle.clap.specs.Built.{IsPlain}
use Rattle.clap.specs.Walk.{Rule, Text, is_free_arg, is_simple_arg, rule_of, texts}
use Rattle.clap.specs.Simple.{App, app_of}
use Rattle.clap.specs.declared.builder.arg.Arg.{Arg}
use Rattle.clap.specs.declared.builder.command.Command.{Command}
use Rattle.clap.specs.declared.builder.command.Command.TheViews.{out-Command}
use Rattle.clap.specs.declared.builder.range.ValueRange.{ValueRange}
use Rattle.clap.specs.declared.builder.value_parser.ValueParser.{ValueParser}
use Rattle.clap.specs.declared.builder.action.ArgAction.TheVariants.{Set}
use Rattle.clap.proofs.SimpleLemmas.{is_false, is_nil, plain_fields}
use Rattle.clap.proofs.WalkLemmas.{both}
use Rattle.pale_words.specs.Words.{command_with, limit_rule, mode_rule, seed_rule}
use Rattle.pale_words.proofs.ValueLemmas.{TakesOne}

-- the rules of the three
abbrev pub rules_of : ValueParser → List Rule
rules_of p = mode_rule p ∷ limit_rule ∷ seed_rule ∷ []

-- some argument, for a place that isn't there
pub some_arg : (xs : List Arg) → length xs ≡ 3 → Arg
some_arg [] three = absurd (omega arith)
some_arg (x ∷ xs) three = x

-- what each of the three rules is
record IsOurs (r : Rule) : Type 0 where
  simple : r.is_simple ≡ true
  free : r.is_free ≡ true
  set : r.action ≡ Some Set
  range : r.range ≡ None
  exact : r.ignore_case ≡ false

ours : (p : ValueParser) (k : ℕ) (r : Rule) → k < 3 → IsOurs (slice_index_or (rules_of p) k r)
ours p zero r lt = record { simple = refl; free = refl; set = refl; range = refl; exact = refl }
ours p (suc zero) r lt = record { simple = refl; free = refl; set = refl; range = refl; exact = refl }
ours p (suc (suc zero)) r lt = record { simple = refl; free = refl; set = refl; range = refl; exact = refl }
ours p (suc (suc (suc k))) r lt = absurd (omega arith)

-- no two have one id
distinct : (p : ValueParser) (j k : ℕ) (r s : Rule) → j < 3 → k < 3
    → bytes_eq (slice_index_or (rules_of p) j r).id (slice_index_or (rules_of p) k s).id ≡ true → j ≡ k
distinct p zero zero r s a b e = refl
distinct p zero (suc zero) r s a b e = absurd (true≢false (sym e))
distinct p zero (suc (suc zero)) r s a b e = absurd (true≢false (sym e))
distinct p (suc zero) zero r s a b e = absurd (true≢false (sym e))
distinct p (suc zero) (suc zero) r s a b e = refl
distinct p (suc zero) (suc (suc zero)) r s a b e = absurd (true≢false (sym e))
distinct p (suc (suc zero)) zero r s a b e = absurd (true≢false (sym e))
distinct p (suc (suc zero)) (suc zero) r s a b e = absurd (true≢false (sym e))
distinct p (suc (suc zero)) (suc (suc zero)) r s a b e = refl
distinct p (suc (suc (suc j))) k r s a b e = absurd (omega arith)
distinct p j (suc (suc (suc k))) r s a b e = absurd (omega arith)

-- the first letter of an id is `m`, `l` or `s`, so none is empty or a flag that clap adds
letter : (p : ValueParser) (k : ℕ) (r : Rule) → k < 3 → (104 < slice_index (slice_index_or (rules_of p) k r).id 0)
    × (slice_index (slice_index_or (rules_of p) k r).id 0 < 118)
letter p zero r lt = (omega arith, omega arith)
letter p (suc zero) r lt = (omega arith, omega arith)
letter p (suc (suc zero)) r lt = (omega arith, omega arith)
letter p (suc (suc (suc k))) r lt = absurd (omega arith)

rule_at : (xs : List Arg) (rs : List Rule) → map rule_of xs ≡ rs → (k : ℕ) (d : Arg) (r : Rule) → k < length xs
    → rule_of (slice_index_or xs k d) ≡ slice_index_or rs k r
rule_at [] rs same k d r lt = absurd (omega arith)
rule_at (x ∷ xs) rs same zero d r lt = ap (λ (l : List Rule). slice_index_or l 0 r) same
rule_at (x ∷ xs) rs same (suc k) d r lt =
    rule_at xs (map rule_of xs) refl k d r (omega arith) ∙ ap (λ (l : List Rule). slice_index_or l (suc k) r) same

length-map : (xs : List Arg) → length (map rule_of xs) ≡ length xs
length-map [] = refl
length-map (x ∷ xs) = ap suc (length-map xs)

length-texts : (xs : List (Bor Text)) → length (texts xs) ≡ length xs
length-texts [] = refl
length-texts (x ∷ xs) = ap suc (length-texts xs)

-- what the tests of an argument say
simple_parts : (a : Arg) → is_simple_arg a ≡ true → (a.overrides.items ≡ []) × (a.default_vals_ifs.items ≡ []) × (a.groups.items ≡ []) × (a.val_delim ≡ None)
simple_parts a e =
    let overrides = both _ _ e in
    let ifs = both _ _ overrides.1 in
    let groups = both _ _ ifs.1 in
    (is_nil _ overrides.0, is_nil _ ifs.0, is_nil _ groups.0, no_delimiter a.val_delim (both _ _ groups.1).0)
  where
    no_delimiter : (o : Option ℕ) → not (is_some o) ≡ true → o ≡ None
    no_delimiter None e = refl
    no_delimiter (Some x) e = absurd (true≢false (sym e))

free_parts : (a : Arg) → is_free_arg a ≡ true → (a.exclusive ≡ false) × (a.conflicts.items ≡ [])
free_parts a e =
    let exclusive = both _ _ e in
    (is_false _ exclusive.0, is_nil _ (both _ _ exclusive.1).0)

module _ (old : Command) (p : ValueParser) (is : app_of old ≡ command_with p) where
  rules_are : map rule_of (args_of old) ≡ rules_of p
  rules_are = ap (λ (a : App). a.top.rules) is

  pub three : length (args_of old) ≡ 3
  three = sym (length-map (args_of old)) ∙ ap length rules_are

  at : (k : ℕ) (d : Arg) → k < 3 → rule_of (slice_index_or (args_of old) k d) ≡ slice_index_or (rules_of p) k (rule_of d)
  at k d lt =
      let inside : k < length (args_of old) = omega (arith, three) in
      rule_at (args_of old) (rules_of p) rules_are k d (rule_of d) inside

  pub globals : (out-Command old).has_globals ≡ false
  globals = (plain_fields old (ap (λ (a : App). a.top.is_plain) is)).globals

  pub negates : (out-Command old).subcommand_negates_reqs ≡ false
  negates = ap (λ (a : App). a.top.subcommand_negates_reqs) is

  simple : (k : ℕ) (d : Arg) → k < 3 → is_simple_arg (slice_index_or (args_of old) k d) ≡ true
  simple k d lt = ap (λ (r : Rule). r.is_simple) (at k d lt) ∙ (ours p k (rule_of d) lt).simple

  free : (k : ℕ) (d : Arg) → k < 3 → is_free_arg (slice_index_or (args_of old) k d) ≡ true
  free k d lt = ap (λ (r : Rule). r.is_free) (at k d lt) ∙ (ours p k (rule_of d) lt).free

  pub plain : IsPlain old
  plain = (
    λ k d lt.
        let low : k < 3 = omega (arith, three) in
        let of_simple = simple_parts (slice_index_or (args_of old) k d) (simple k d low) in
        let of_free = free_parts (slice_index_or (args_of old) k d) (free k d low) in
        (of_free.0, of_free.1, of_simple.0, of_simple.2),
    (plain_fields old (ap (λ (a : App). a.top.is_plain) is)).groups,
  )

  pub id_is : (k : ℕ) (d : Arg) → k < 3 → (slice_index_or (args_of old) k d).id.now ≡ (slice_index_or (rules_of p) k (rule_of d)).id
  id_is k d lt = ap (λ (r : Rule). r.id) (at k d lt)

  first_letter : (k : ℕ) (d : Arg) → k < 3 → (104 < slice_index (slice_index_or (args_of old) k d).id.now 0)
      × (slice_index (slice_index_or (args_of old) k d).id.now 0 < 118)
  first_letter k d lt =
      subst (λ (t : Text). (104 < slice_index t 0) × (slice_index t 0 < 118)) (sym (id_is k d lt)) (letter p k (rule_of d) lt)

  not_first : (k : ℕ) (d : Arg) → k < 3 → (t : Text) → (slice_index t 0 ≤ 104) ⊎ (118 ≤ slice_index t 0) → (slice_index_or (args_of old) k d).id.now ≡ t → ⊥
  not_first k d lt t other e =
      let letters = first_letter k d lt in
      let same : slice_index (slice_index_or (args_of old) k d).id.now 0 ≡ slice_index t 0 = ap (λ (x : Text). slice_index x 0) e in
      elim other [ inl low ↦ omega (arith, letters.0, letters.1) | inr high ↦ omega (arith, letters.0, letters.1) ]

  pub takes : (k : ℕ) (d : Arg) (q : ValueParser) → k < 3 → (slice_index_or (rules_of p) k (rule_of d)).parser ≡ Some q → TakesOne old k d q
  takes k d q lt parser =
      let rule = ours p k (rule_of d) lt in
      let no_range = ap (λ (r : Rule). r.range) (at k d lt) ∙ rule.range in
      let one : least_values (slice_index_or (args_of old) k d) ≡ 1 = ap (λ (o : Option ValueRange). (unwrap_or_range o).start_inclusive) no_range in
      record {
        inside = omega (arith, three);
        set = ap (λ (r : Rule). r.action) (at k d lt) ∙ rule.set;
        delimiter = (simple_parts (slice_index_or (args_of old) k d) (simple k d lt)).3;
        least = omega (arith, one);
        parser = ap (λ (r : Rule). r.parser) (at k d lt) ∙ parser;
        exact = ap (λ (r : Rule). r.ignore_case) (at k d lt) ∙ rule.exact;
        named = not_first k d lt [] (inl (omega arith));
        own = λ auto. elim auto [
          | inl help ↦ not_first k d lt (codes "help") (inl (omega arith)) help
          | inr version ↦ not_first k d lt (codes "version") (inr (omega arith)) version
        ];
        unique = λ j e low same.
            let j_low : j < 3 = omega (arith, three) in
            distinct p j k (rule_of e) (rule_of d) j_low lt (rw (← id_is j e j_low, ← id_is k d lt) same);
      }

  -- MODE is required, and the other two have defaults
  pub required : (d : Arg) → (slice_index_or (args_of old) 0 d).required ≡ true
  required d = ap (λ (r : Rule). r.required) (at 0 d (omega arith))

  pub wants_default : (k : ℕ) (d : Arg) → k < 3 → 0 < length (slice_index_or (rules_of p) k (rule_of d)).defaults
      → WantsDefault (slice_index_or (args_of old) k d)
  wants_default k d lt some =
      let count : length (texts (items_of (slice_index_or (args_of old) k d).default_vals)) ≡ length (slice_index_or (rules_of p) k (rule_of d)).defaults =
      ap (λ (r : Rule). length r.defaults) (at k d lt) in (
        (simple_parts (slice_index_or (args_of old) k d) (simple k d lt)).1,
        omega (arith, length-texts (items_of (slice_index_or (args_of old) k d).default_vals)),
      )
