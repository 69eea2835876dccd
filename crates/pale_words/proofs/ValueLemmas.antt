-- What the matches of a command hold for an argument that takes one value.
use Rattle.std.proofs.Common.{◌≡◌, ◌∙◌, ◌<◌, ◌≤◌, ℕ, Bool, List, [], ◌∷◌, length, ap, refl, sym, subst, arith, Option, Some, None, is_some, true}
use Rattle.std.proofs.Common.{false, inl, inr, option_map}
use Rattle.std.specs.Prelude.{option_and_then, slice_get, unwrap_or}
use Rattle.std.specs.List.{All, slice_index_or}
use Rattle.std.specs.Str.{bytes_eq}
use Rattle.std.specs.Borrow.{Bor}
use Rattle.std.proofs.lemmas.Slice.Eq.{bytes_eq-Decides}
use Rattle.clap.specs.Facts.{Entry, EntryPasses, PassesArg, args_of, groups_of, least_values, parser_of_value}
use Rattle.clap.specs.Built.{IsAuto, IsParsedFrom, IsPlain, SameRules}
use Rattle.clap.specs.Matches.{first_value, found_of, matched_of, one_text}
use Rattle.clap.specs.Values.{Accepts, read_as, reading_of}
use Rattle.clap.specs.declared.builder.action.ArgAction.TheVariants.{Count, Set}
use Rattle.clap.specs.declared.builder.arg.Arg.{Arg}
use Rattle.clap.specs.declared.builder.command.Command.{Command}
use Rattle.clap.specs.declared.builder.command.Command.TheViews.{out-Command}
use Rattle.clap.specs.declared.builder.value_parser.ValueParser.{ValueParser}
use Rattle.clap.specs.declared.builder.value_parser.Reading.{Reading}
use Rattle.clap.specs.declared.parser.matches.ArgMatches.{ArgMatches}
use Rattle.clap.specs.declared.parser.matches.MatchedArg.{MatchedArg}
use Rattle.clap.proofs.CallerLemmas.{entry_by_id, same_rules_by_id}

-- the argument at a place takes one value, as its parser says, and no other has its id
pub record TakesOne (old : Command) (k : ℕ) (d : Arg) (q : ValueParser) : Type 0 where
  pub inside : k < length (args_of old)
  pub set : (slice_index_or (args_of old) k d).action ≡ Some Set
  pub delimiter : (slice_index_or (args_of old) k d).val_delim ≡ None
  pub least : 1 ≤ least_values (slice_index_or (args_of old) k d)
  pub parser : (slice_index_or (args_of old) k d).value_parser ≡ Some q
  pub exact : (slice_index_or (args_of old) k d).ignore_case ≡ false
  pub named : (slice_index_or (args_of old) k d).id.now ≡ [] → ⊥
  pub own : IsAuto (slice_index_or (args_of old) k d) → ⊥
  pub unique : (j : ℕ) (e : Arg) → j < length (args_of old)
      → bytes_eq (slice_index_or (args_of old) j e).id.now (slice_index_or (args_of old) k d).id.now ≡ true → j ≡ k

-- the first of some values, of which all pass
first_of_values : (P : Bor (List ℕ) → Type 0) (vs : List (Bor (List ℕ))) → 0 < length vs → All P vs → (v : Bor (List ℕ)) × (slice_get vs 0 ≡ Some v) × P v
first_of_values P [] some all = absurd (omega arith)
first_of_values P (v ∷ vs) some all = (v, refl, all 0 v (omega arith))

module _ (old : Command) (m : ArgMatches) (p : IsParsedFrom old m) (plain : IsPlain old) (k : ℕ) (d : Arg) (q : ValueParser) (takes : TakesOne old k d q) where
  -- an argument of the built command with that id keeps the rules
  same : (x : Arg) (id : List ℕ) (j : ℕ) → j < length (args_of p.built) → slice_index_or (args_of p.built) j x ≡ x → bytes_eq x.id.now id ≡ true
      → id ≡ (slice_index_or (args_of old) k d).id.now → SameRules (slice_index_or (args_of old) k d) x
  same x id j high at key is =
      same_rules_by_id old m p k d takes.inside takes.unique takes.own j x high at (subst (λ (w : List ℕ). bytes_eq x.id.now w ≡ true) is key)

  -- the command has no groups
  alone : (e : Entry) → e.0.now ≡ (slice_index_or (args_of old) k d).id.now → EntryPasses p.built e → e.1.is_group ≡ true → ⊥
  alone e key passes group = elim (passes.3 group) [
    | inl empty ↦ takes.named (sym key ∙ empty)
    | inr some ↦
        let none : length (groups_of p.built) ≡ 0 = ap length (p.from.plain plain).1 in
        omega arith
  ]

  entry_filled : (e : Entry) → e.0.now ≡ (slice_index_or (args_of old) k d).id.now → EntryPasses p.built e → 0 < length e.1.vals.items
  entry_filled e key passes = elim passes.1 [
    | inl group ↦ absurd (alone e key passes group.0)
    | inr (inl some) ↦ some
    | inr (inr (inl counts)) ↦
        let any = counts.1 in
        let rules = same any.1 e.0.now any.0 any.2 any.3 any.4.0 key in
        let is_set : any.1.action ≡ Some Set = rules.action Set takes.set in
        let bad : Set ≡ Count = ap (λ o. unwrap_or o Set) (sym is_set) ∙ any.4.1 in
        cc
    | inr (inr (inr any)) ↦
        let rules = same any.1 e.0.now any.0 any.2 any.3 any.4.0 key in
        elim any.4.1 [
          | inl none ↦
              let one = rules.least takes.set takes.least in
              absurd (omega arith)
          | inr some ↦
              let bad : false ≡ true = ap is_some (sym (rules.val_delim ∙ takes.delimiter)) ∙ some in
              cc
        ]
  ]

  entry_values : (e : Entry) → e.0.now ≡ (slice_index_or (args_of old) k d).id.now → EntryPasses p.built e
      → All (λ v. PassesArg p.built e.0.now v.now) e.1.vals.items
  entry_values e key passes = elim passes.0 [ inl group ↦ absurd (alone e key passes group) | inr all ↦ all ]

  entry_reading : (e : Entry) → e.0.now ≡ (slice_index_or (args_of old) k d).id.now → EntryPasses p.built e → e.1.reading ≡ reading_of q
  entry_reading e key passes = elim passes.4 [
    | inl group ↦ absurd (alone e key passes group)
    | inr any ↦
        let rules = same any.1 e.0.now any.0 any.2 any.3 any.4.0 key in
        sym any.4.1 ∙ ap reading_of (ap parser_of_value (rules.parser q takes.parser))
  ]

  value_accepted : (id t : List ℕ) → id ≡ (slice_index_or (args_of old) k d).id.now → PassesArg p.built id t → Accepts false q t
  value_accepted id t key any =
      let rules = same any.1 id any.0 any.2 any.3 any.4.0 key in
      let as_q = subst (λ (w : ValueParser). Accepts any.1.ignore_case w t) (ap parser_of_value (rules.parser q takes.parser)) any.4.1 in
      subst (λ (b : Bool). Accepts b q t) (rules.ignore_case ∙ takes.exact) as_q

  entry_value : (e : Entry) → matched_of (found_of m) (slice_index_or (args_of old) k d).id.now ≡ Some e.1 → e.0.now ≡ (slice_index_or (args_of old) k d).id.now
      → EntryPasses p.built e
      → (t : List ℕ) × (first_value (found_of m) (slice_index_or (args_of old) k d).id.now ≡ Some t)
      × (one_text (found_of m) (slice_index_or (args_of old) k d).id.now ≡ Some (read_as (reading_of q) t)) × Accepts false q t
  entry_value e found key passes =
      let first = first_of_values (λ v. PassesArg p.built e.0.now v.now) e.1.vals.items (entry_filled e key passes) (entry_values e key passes) in (
        first.0.now,
        ap (λ (o : Option MatchedArg). option_and_then (λ a. option_map (λ s. s.now) (slice_get a.vals.items 0)) o) found
            ∙ ap (λ (o : Option (Bor (List ℕ))). option_map (λ s. s.now) o) first.1,
        ap (λ (o : Option MatchedArg). option_and_then (λ a. option_map (λ s. read_as a.reading s.now) (slice_get a.vals.items 0)) o) found
            ∙ (ap (λ (o : Option (Bor (List ℕ))). option_map (λ s. read_as e.1.reading s.now) o) first.1
            ∙ ap (λ (how : Reading). Some (read_as how first.0.now)) (entry_reading e key passes)),
        value_accepted e.0.now first.0.now key first.2,
      )

  -- where the argument has an entry, it has a text that its parser took, and is read as the parser says
  pub value_held : (out-Command old).has_globals ≡ false → is_some (matched_of (found_of m) (slice_index_or (args_of old) k d).id.now) ≡ true
      → (t : List ℕ) × (first_value (found_of m) (slice_index_or (args_of old) k d).id.now ≡ Some t)
      × (one_text (found_of m) (slice_index_or (args_of old) k d).id.now ≡ Some (read_as (reading_of q) t)) × Accepts false q t
  value_held globals has = go (matched_of (found_of m) (slice_index_or (args_of old) k d).id.now) refl has
    where
      go : (o : Option MatchedArg) → matched_of (found_of m) (slice_index_or (args_of old) k d).id.now ≡ o
          → is_some (matched_of (found_of m) (slice_index_or (args_of old) k d).id.now) ≡ true
          → (t : List ℕ) × (first_value (found_of m) (slice_index_or (args_of old) k d).id.now ≡ Some t)
          × (one_text (found_of m) (slice_index_or (args_of old) k d).id.now ≡ Some (read_as (reading_of q) t)) × Accepts false q t
      go None is some =
          let bad : false ≡ true = ap is_some (sym is) ∙ some in
          cc
      go (Some x) is some =
          let parsed = p.parsed (p.from.globals ∙ globals) in
          let got = entry_by_id (EntryPasses p.built) (found_of m).entries.items (slice_index_or (args_of old) k d).id.now x parsed.values is in
          entry_value got.0 (is ∙ ap (λ (y : MatchedArg). Some y) (sym got.1))
          ((bytes_eq-Decides got.0.0.now (slice_index_or (args_of old) k d).id.now).0 got.2) got.3
