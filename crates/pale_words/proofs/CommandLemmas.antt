-- What the command of the words reads, whatever parser takes the names of the modes.
use Rattle.std.proofs.Common.{◌≡◌, ◌∙◌, ◌&&◌, ◌||◌, length, ℕ, Bool, true, false, refl, ap, subst, sym, List, [], ◌∷◌, cond, drop, Option, Some, None, codes}
use Rattle.std.specs.List.{list_any}
use Rattle.std.specs.Option.{option_map_or}
use Rattle.std.specs.Str.{bytes_eq}
use Rattle.std.specs.Borrow.{Bor}
use Rattle.clap.specs.Values.{reading_of, refused_kind, same_text}
use Rattle.clap.specs.ValueTests.{accepts}
use Rattle.clap.specs.Kinds.{Kinds, or_else, range_kinds, value_kinds, values_kinds}
use Rattle.std.specs.Prelude.{◌==◌, if◌then◌else◌, fold}
use Rattle.clap.specs.declared.builder.action.ArgAction.TheVariants.{Set}
use Rattle.clap.specs.Walk.{used_as, used_by_id, idle, is_multiple, is_pending, next_position, positional, positional_held, pushed, takes_several}
use Rattle.clap.specs.Walk.{with_default, Held, Row, Rule, Text, Walk, arg_by_id, arg_by_index, finished, nothing_held, option_word, settled}
use Rattle.clap.specs.Walk.{settled_rows, to_positional, walk}
use Rattle.clap.specs.Simple.{App, Shape, built, is_simple}
use Rattle.clap.specs.Faults.{is_simple_and_free, repeat_fault, defaults_fault, fault_of, positional_fault, settle_fault, use_fault}
use Rattle.clap.specs.Simple.{matches_of}
use Rattle.clap.specs.declared.builder.value_parser.ValueParser.{ValueParser}
use Rattle.clap.proofs.FaultLemmas.{leaf_fault}
use Rattle.clap.proofs.WalkLemmas.{list_any-map}
use Rattle.pale_words.specs.Words.{IsModeParser, command, command_with, mode_names, names_parser}
use Rattle.pale_words.proofs.SameRulesLemmas.{FaultsAlike, ReadsAlike, level_fault_same, walk_same}

-- the command as built, its rules, and MODE among them
abbrev shape_with : ValueParser → Shape
shape_with p = (built (command_with p)).top

abbrev rules_with : ValueParser → List Rule
rules_with p = (shape_with p).rules

abbrev mode_of : ValueParser → Option Rule
mode_of p = arg_by_index (rules_with p) 1

-- a choice between two things of which one differs
pick : {X Y : Type 0} (b : Bool) (K : X → Y) (x y z : X) → K x ≡ K y → K (cond b x z) ≡ K (cond b y z)
pick true K x y z same = same
pick false K x y z same = refl

-- two parsers take the same values, in the same way
record TakesAlike (p q : ValueParser) : Type 0 where
  accepts : (text : Text) → accepts false p text ≡ accepts false q text
  kind : refused_kind p ≡ refused_kind q
  reading : reading_of p ≡ reading_of q

module _ (p q : ValueParser) (same : TakesAlike p q) where
  value_kinds_same : (text : Text) → value_kinds false p text ≡ value_kinds false q text
  value_kinds_same text = λ i. cond (same.accepts text i) [] (same.kind i ∷ [])

  values_kinds_same : (values : List Text) → values_kinds false p values ≡ values_kinds false q values
  values_kinds_same [] = refl
  values_kinds_same (v ∷ vs) = λ i. or_else (value_kinds_same v i) (values_kinds_same vs i)

  -- MODE with each parser, by its id and by its place
  at_id : {Y : Type 0} (K : Option Rule → Y) (id : Text) → K (mode_of p) ≡ K (mode_of q) → K (arg_by_id (rules_with p) id) ≡ K (arg_by_id (rules_with q) id)
  at_id K id eq = pick (bytes_eq (codes "mode") id) K (mode_of p) (mode_of q) _ eq

  at_place : {Y : Type 0} (K : Option Rule → Y) (i : ℕ) → K (mode_of p) ≡ K (mode_of q) → K (arg_by_index (rules_with p) i) ≡ K (arg_by_index (rules_with q) i)
  at_place K i eq = pick (1 == i) K (mode_of p) (mode_of q) _ eq

  uses_same : (values : List Text) (rows : List Row) → used_by_id (mode_of p) values rows ≡ used_by_id (mode_of q) values rows
  uses_same [] rows = λ i. used_as Set (codes "mode") (same.reading i) [] rows
  uses_same (v ∷ vs) rows = λ i. used_as Set (codes "mode") (same.reading i) (v ∷ vs) rows

  settled_rows_same : (pending : Option (Text × List Text)) (rows : List Row)
      → settled_rows (rules_with p) pending rows ≡ settled_rows (rules_with q) pending rows
  settled_rows_same None rows = refl
  settled_rows_same (Some x) rows = at_id (λ o. used_by_id o x.1 rows) x.0 (uses_same x.1 rows)

  settled_same : (h : Held) → settled (rules_with p) h ≡ settled (rules_with q) h
  settled_same h = λ i. record h { rows = settled_rows_same h.pending h.rows i; pending = None }

  held_same : (a : Rule) (word : Text) (h : Held) → positional_held (rules_with p) a word h ≡ positional_held (rules_with q) a word h
  held_same a word h = λ i. pushed a.id word (cond (is_pending a h.pending && takes_several a) h (settled_same h i))

  placed_same : (o : Option Rule) (word : Text) (w : Walk) (h : Held) → to_positional (rules_with p) o word w h ≡ to_positional (rules_with q) o word w h
  placed_same None word w h = refl
  placed_same (Some a) word w h = λ i. record {
    held = held_same a word h i;
    waiting = if is_multiple a then positional else idle;
    position = next_position a w.position;
    is_trailing = w.is_trailing || a.trailing_var_arg;
    stopped = None;
  }

  reads : ReadsAlike (rules_with p) (rules_with q)
  reads = record {
    long = λ name. refl;
    short = λ x. refl;
    settles = settled_same;
    option_word = λ id word h. at_id (λ o. option_word o id word h) id refl;
    positional = λ i word w h. placed_same (arg_by_index (rules_with p) i) word w h ∙ at_place (λ o. to_positional (rules_with q) o word w h) i refl;
  }

  use_fault_same : (again : Bool) (values : List Text) (rows : List Row)
      → option_map_or (λ a. use_fault again a values rows) (mode_of p) [] ≡ option_map_or (λ a. use_fault again a values rows) (mode_of q) []
  use_fault_same again [] rows = refl
  use_fault_same again (v ∷ vs) rows = λ i. or_else (range_kinds 1 1 (length (v ∷ vs)))
      (or_else (repeat_fault again (codes "mode") rows) (values_kinds_same (v ∷ vs) i))

  settle_fault_same : (again : Bool) (h : Held) → settle_fault (rules_with p) again h ≡ settle_fault (rules_with q) again h
  settle_fault_same again h = go h.pending
    where
      go : (pending : Option (Text × List Text))
          → option_map_or (λ x. option_map_or (λ a. use_fault again a x.1 h.rows) (arg_by_id (rules_with p) x.0) []) pending []
          ≡ option_map_or (λ x. option_map_or (λ a. use_fault again a x.1 h.rows) (arg_by_id (rules_with q) x.0) []) pending []
      go None = refl
      go (Some x) = at_id (λ o. option_map_or (λ a. use_fault again a x.1 h.rows) o []) x.0 (use_fault_same again x.1 h.rows)

  positional_fault_same : (again : Bool) (o : Option Rule) (h : Held) (stray : Kinds)
      → option_map_or (λ a. positional_fault (rules_with p) again a h) o stray ≡ option_map_or (λ a. positional_fault (rules_with q) again a h) o stray
  positional_fault_same again None h stray = refl
  positional_fault_same again (Some a) h stray = ap (cond (is_pending a h.pending && takes_several a) []) (settle_fault_same again h)

  faults : FaultsAlike (rules_with p) (rules_with q)
  faults = record {
    reads = reads;
    settle = settle_fault_same;
    positional = λ again i h stray. positional_fault_same again (arg_by_index (rules_with p) i) h stray
        ∙ at_place (λ o. option_map_or (λ a. positional_fault (rules_with q) again a h) o stray) i refl;
  }

  defaults_same : (rows : List Row) → defaults_fault rows (rules_with p) ≡ defaults_fault rows (rules_with q)
  unfolding defaults_fault
  defaults_same rows = refl

  finished_same : (h : Held) → finished (rules_with p) h ≡ finished (rules_with q) h
  finished_same h = ap (λ (k : Held). fold with_default k.rows (rules_with q)) (settled_same h)

  -- the kinds of error of the command don't depend on how its parser takes the names of the modes
  fault_of-parser : (words : List Text) → fault_of (command_with p) words ≡ fault_of (command_with q) words
  fault_of-parser words =
      leaf_fault (built (command_with p)) nothing_held (drop 1 words) refl
      ∙ (level_fault_same (shape_with p) (rules_with p) (rules_with q) faults defaults_same finished_same (λ rows. refl) nothing_held (drop 1 words)
      ∙ sym (leaf_fault (built (command_with q)) nothing_held (drop 1 words) refl))

  -- and so the values that it gives
  matches_of-parser : (words : List Text) → matches_of (command_with p) words ≡ matches_of (command_with q) words
  matches_of-parser words =
      ap (λ (w : Walk). finished (rules_with p) w.held) (walk_same (rules_with p) (rules_with q) reads [] nothing_held (drop 1 words))
      ∙ finished_same (walk (rules_with q) [] nothing_held (drop 1 words)).held

-- a parser of the names of the modes takes what the definition's parser takes
mode_parser_alike : (p : ValueParser) → IsModeParser p → TakesAlike p (names_parser mode_names)
mode_parser_alike p is = subst (λ (r : ValueParser). TakesAlike r (names_parser mode_names)) (sym is.1) (record {
  accepts = λ text. list_any-map (λ (name : Text). same_text false name text) (λ (x : Bor Text). x.now) is.0.now
      ∙ ap (list_any (λ (name : Text). same_text false name text)) is.2;
  kind = refl;
  reading = refl;
})

module _ (a : App) (p : ValueParser) (is : IsModeParser p) (same : a ≡ command_with p) where
  -- a command with such a parser refuses what the definition refuses, and gives what it gives
  pub command_faults : (words : List Text) → fault_of a words ≡ fault_of command words
  command_faults words = ap (λ (x : App). fault_of x words) same ∙ fault_of-parser p (names_parser mode_names) (mode_parser_alike p is) words

  pub command_matches : (words : List Text) → matches_of a words ≡ matches_of command words
  command_matches words = ap (λ (x : App). matches_of x words) same ∙ matches_of-parser p (names_parser mode_names) (mode_parser_alike p is) words

  pub command_simple : is_simple a ≡ true
  command_simple = ap is_simple same

  pub command_free : is_simple_and_free a ≡ true
  command_free = ap is_simple_and_free same
