-- Two lists of rules that a walk reads alike give the same rows and the same faults.
use Rattle.std.proofs.Common.{◌≡◌, ◌∙◌, ℕ, Bool, false, zero, suc, refl, ap, ap₂, List, [], ◌∷◌, length, drop, cond, Option, Some, None, is_some}
use Rattle.std.specs.Prelude.{encode_utf8, slice_get, fold}
use Rattle.std.specs.Option.{option_map_or}
use Rattle.std.specs.Str.{bytes_eq, chars}
use Rattle.clap.specs.Lexer.{long_of, short_of}
use Rattle.clap.specs.Walk.{Held, Names, Outcome, done, waits, plain, refused, Row, Rule, Step, next, trailing, subcommand, value, Text, Waiting}
use Rattle.clap.specs.Walk.{idle, option, positional, Walk, after_flag, after_step, arg_by_id, arg_by_index, arg_by_long, arg_by_short}
use Rattle.clap.specs.Walk.{attached_value, bundle_met, bundle_step, finished, flag_met, long_met, long_or_other, long_word, option_met, option_word}
use Rattle.clap.specs.Walk.{plain_word, reacted, settled, short_met, short_or_plain, subcommand_met, subcommand_or_other, takes_values, to_positional}
use Rattle.clap.specs.Walk.{used, walk, walk_from, walked, walked_from, word_met}
use Rattle.clap.specs.Kinds.{Kinds, or_else}
use Rattle.clap.specs.Faults.{bundle_fault, bundle_step_fault, check_fault, defaults_fault, level_fault, flag_word_fault, flags_fault, long_fault}
use Rattle.clap.specs.Faults.{option_fault, other_fault, positional_fault, react_fault, settle_fault, short_fault, step_fault, stray_fault}
use Rattle.clap.specs.Faults.{turn_fault, use_fault, walk_fault}
use Rattle.clap.specs.Simple.{Shape}
use Rattle.clap.specs.declared.error.kind.ErrorKind.TheVariants as kind

-- what a walk reads of the rules c is what it reads of d
pub record ReadsAlike (c d : List Rule) : Type 0 where
  pub long : (name : Text) → arg_by_long c name ≡ arg_by_long d name
  pub short : (x : ℕ) → arg_by_short c x ≡ arg_by_short d x
  pub settles : (h : Held) → settled c h ≡ settled d h
  pub option_word : (id word : Text) (h : Held) → option_word (arg_by_id c id) id word h ≡ option_word (arg_by_id d id) id word h
  pub positional : (i : ℕ) (word : Text) (w : Walk) (h : Held) → to_positional c (arg_by_index c i) word w h ≡ to_positional d (arg_by_index d i) word w h

module _ (c d : List Rule) (same : ReadsAlike c d) where
  reacted_same : (a : Rule) (vs : List Text) (h : Held) → reacted c a vs h ≡ reacted d a vs h
  reacted_same a vs h = λ i. record h { rows = used a vs (same.settles h i).rows; pending = None }

  option_met_same : (a : Rule) (v : Option Text) (h : Held) → option_met c a v h ≡ option_met d a v h
  option_met_same a (Some v) h = λ i. (reacted_same a (v ∷ []) h i, done)
  option_met_same a None h = λ i. (record (same.settles h i) { pending = Some (a.id, []) }, waits a.id)

  flag_met_same : (a : Rule) (v : Option Text) (h : Held) → flag_met c a v h ≡ flag_met d a v h
  flag_met_same a (Some v) h = refl
  flag_met_same a None h = λ i. (reacted_same a [] h i, done)

  long_met_same : (o : Option Rule) (v : Option Text) (h : Held) → long_met c o v h ≡ long_met d o v h
  long_met_same None v h = refl
  long_met_same (Some a) v h = ap₂ (cond (takes_values a)) (option_met_same a v h) (flag_met_same a v h)

  short_met_same : (o : Option Rule) (rest : Text) (h : Held) (f g : Held → Held × Outcome) → ((k : Held) → f k ≡ g k)
      → short_met c o rest h f ≡ short_met d o rest h g
  short_met_same None rest h f g eq = refl
  short_met_same (Some a) rest h f g eq =
      ap₂ (cond (takes_values a)) (option_met_same a (attached_value rest) h) (eq (reacted c a [] h) ∙ ap g (reacted_same a [] h))

  bundle_step_same : (o : Option ℕ) (flags : Text) (skip : ℕ) (so_far : Outcome) (h : Held) (f g : Text → ℕ → Outcome → Held → Held × Outcome)
      → ((t : Text) (n : ℕ) (s : Outcome) (k : Held) → f t n s k ≡ g t n s k) → bundle_step c o flags skip so_far h f ≡ bundle_step d o flags skip so_far h g
  bundle_step_same None flags skip so_far h f g eq = refl
  bundle_step_same (Some x) flags zero so_far h f g eq =
      ap (λ (o : Option Rule). short_met c o (drop (length (encode_utf8 x)) flags) h (f (drop (length (encode_utf8 x)) flags) 0 done)) (same.short x)
      ∙ short_met_same (arg_by_short d x) (drop (length (encode_utf8 x)) flags) h _ _ (eq (drop (length (encode_utf8 x)) flags) 0 done)
  bundle_step_same (Some x) flags (suc skip) so_far h f g eq = eq (drop (length (encode_utf8 x)) flags) skip so_far h

  bundle_met_same : (k : ℕ) (flags : Text) (skip : ℕ) (so_far : Outcome) (h : Held) → bundle_met c k flags skip so_far h ≡ bundle_met d k flags skip so_far h
  unfolding bundle_met
  bundle_met_same zero flags skip so_far h = refl
  bundle_met_same (suc k) flags skip so_far h = bundle_step_same (slice_get (chars flags) 0) flags skip so_far h (bundle_met c k) (bundle_met d k)
      (bundle_met_same k)

  plain_word_same : (waiting : Waiting) (word : Text) (h : Held) → plain_word c waiting word h ≡ plain_word d waiting word h
  plain_word_same idle word h = refl
  plain_word_same (option id) word h = λ i. ((same.option_word id word h i).0, next (same.option_word id word h i).1)
  plain_word_same positional word h = refl

  after_flag_same : (waiting : Waiting) (word : Text) (h : Held) (o : Outcome) → after_flag c waiting word h o ≡ after_flag d waiting word h o
  after_flag_same waiting word h done = refl
  after_flag_same waiting word h (waits id) = refl
  after_flag_same waiting word h plain = plain_word_same waiting word h
  after_flag_same waiting word h refused = plain_word_same waiting word h

  long_word_same : (waiting : Waiting) (word name : Text) (v : Option Text) (h : Held) → long_word c waiting word name v h ≡ long_word d waiting word name v h
  long_word_same waiting word name v h =
      let met = ap (λ (o : Option Rule). long_met c o v h) (same.long name) ∙ long_met_same (arg_by_long d name) v h in
      let end = long_met d (arg_by_long d name) v h in
      ap (λ (p : Held × Outcome). after_flag c waiting word p.0 p.1) met ∙ after_flag_same waiting word end.0 end.1

  short_or_plain_same : (waiting : Waiting) (word : Text) (flags : Option Text) (h : Held)
      → short_or_plain c waiting word flags h ≡ short_or_plain d waiting word flags h
  short_or_plain_same waiting word (Some flags) h =
      let met = bundle_met_same (length flags) flags h.skip plain (record h { skip = 0 }) in
      let end = bundle_met d (length flags) flags h.skip plain (record h { skip = 0 }) in
      ap (λ (p : Held × Outcome). after_flag c waiting word p.0 p.1) met ∙ after_flag_same waiting word end.0 end.1
  short_or_plain_same waiting word None h = plain_word_same waiting word h

  long_or_other_same : (waiting : Waiting) (word : Text) (p : Option (Text × Option Text)) (h : Held)
      → long_or_other c waiting word p h ≡ long_or_other d waiting word p h
  long_or_other_same waiting word (Some p) h = long_word_same waiting word p.0 p.1 h
  long_or_other_same waiting word None h = short_or_plain_same waiting word (short_of word) h

  other_same : (name : Option Text) (waiting : Waiting) (position : ℕ) (word : Text) (h : Held)
      → subcommand_or_other c name waiting position word h ≡ subcommand_or_other d name waiting position word h
  other_same (Some name) waiting position word h = refl
  other_same None waiting position word h = ap (cond (bytes_eq word (45 ∷ 45 ∷ [])) (h, trailing position)) (long_or_other_same waiting word (long_of word) h)

  word_met_same : (names : Names) (is_trailing : Bool) (waiting : Waiting) (position : ℕ) (word : Text) (h : Held)
      → word_met c names is_trailing waiting position word h ≡ word_met d names is_trailing waiting position word h
  word_met_same names is_trailing waiting position word h =
      ap (cond is_trailing (h, value)) (other_same (subcommand_met names waiting word) waiting position word h)

  after_step_same : (word : Text) (w : Walk) (h : Held) (step : Step) → after_step c word w h step ≡ after_step d word w h step
  after_step_same word w h (next waiting) = refl
  after_step_same word w h (trailing position) = refl
  after_step_same word w h (subcommand name) = refl
  after_step_same word w h value = same.positional w.position word w h

  walked_from_same : (names : Names) (stop : Option (Text × List Text)) (w : Walk) (word : Text)
      → walked_from c names stop w word ≡ walked_from d names stop w word
  walked_from_same names (Some p) w word = refl
  walked_from_same names None w word =
      let end = word_met d names w.is_trailing w.waiting w.position word w.held in
      ap (λ (p : Held × Step). after_step c word w p.0 p.1) (word_met_same names w.is_trailing w.waiting w.position word w.held)
      ∙ after_step_same word w end.0 end.1

  pub walked_same : (names : Names) (w : Walk) (word : Text) → walked c names w word ≡ walked d names w word
  unfolding walked
  walked_same names w word = walked_from_same names w.stopped w word

  fold_same : (names : Names) (w : Walk) (words : List Text) → fold (walked c names) w words ≡ fold (walked d names) w words
  fold_same names w [] = refl
  fold_same names w (word ∷ words) = ap (λ (x : Walk). fold (walked c names) x words) (walked_same names w word) ∙ fold_same names (walked d names w word) words

  pub walk_same : (names : Names) (h : Held) (words : List Text) → walk c names h words ≡ walk d names h words
  walk_same names h words = fold_same names (walk_from h) words

-- what the faults read of the rules c is what they read of d
pub record FaultsAlike (c d : List Rule) : Type 0 where
  pub reads : ReadsAlike c d
  pub settle : (again : Bool) (h : Held) → settle_fault c again h ≡ settle_fault d again h
  pub positional : (again : Bool) (i : ℕ) (h : Held) (stray : Kinds)
      → option_map_or (λ a. positional_fault c again a h) (arg_by_index c i) stray ≡ option_map_or (λ a. positional_fault d again a h) (arg_by_index d i) stray

module _ (c d : List Rule) (same : FaultsAlike c d) (again : Bool) where
  react_fault_same : (a : Rule) (vs : List Text) (h : Held) → react_fault c again a vs h ≡ react_fault d again a vs h
  react_fault_same a vs h = λ i. or_else (same.settle again h i) (use_fault again a vs (same.reads.settles h i).rows)

  option_fault_same : (a : Rule) (v : Option Text) (h : Held) → option_fault c again a v h ≡ option_fault d again a v h
  option_fault_same a (Some v) h = react_fault_same a (v ∷ []) h
  option_fault_same a None h = same.settle again h

  long_fault_same : (o : Option Rule) (v : Option Text) (h : Held) → long_fault c again o v h ≡ long_fault d again o v h
  long_fault_same None v h = refl
  long_fault_same (Some a) v h =
      ap₂ (cond (takes_values a)) (option_fault_same a v h) (ap (cond (is_some v) (kind.TooManyValues ∷ [])) (react_fault_same a [] h))

  short_fault_same : (o : Option Rule) (rest : Text) (h : Held) (f g : Held → Kinds) → ((k : Held) → f k ≡ g k)
      → short_fault c again o rest h f ≡ short_fault d again o rest h g
  short_fault_same None rest h f g eq = refl
  short_fault_same (Some a) rest h f g eq =
      ap₂ (cond (takes_values a)) (option_fault_same a (attached_value rest) h)
      (ap₂ or_else (react_fault_same a [] h) (eq (reacted c a [] h) ∙ ap g (reacted_same c d same.reads a [] h)))

  bundle_step_fault_same : (o : Option ℕ) (flags : Text) (skip : ℕ) (h : Held) (f g : Text → ℕ → Held → Kinds)
      → ((t : Text) (n : ℕ) (k : Held) → f t n k ≡ g t n k) → bundle_step_fault c again o flags skip h f ≡ bundle_step_fault d again o flags skip h g
  bundle_step_fault_same None flags skip h f g eq = refl
  bundle_step_fault_same (Some x) flags zero h f g eq =
      ap (λ (o : Option Rule). short_fault c again o (drop (length (encode_utf8 x)) flags) h (f (drop (length (encode_utf8 x)) flags) 0)) (same.reads.short x)
      ∙ short_fault_same (arg_by_short d x) (drop (length (encode_utf8 x)) flags) h _ _ (eq (drop (length (encode_utf8 x)) flags) 0)
  bundle_step_fault_same (Some x) flags (suc skip) h f g eq = eq (drop (length (encode_utf8 x)) flags) skip h

  flags_fault_same : (k : ℕ) (flags : Text) (skip : ℕ) (h : Held) → flags_fault c again k flags skip h ≡ flags_fault d again k flags skip h
  unfolding flags_fault
  flags_fault_same zero flags skip h = refl
  flags_fault_same (suc k) flags skip h = bundle_step_fault_same (slice_get (chars flags) 0) flags skip h (flags_fault c again k)
      (flags_fault d again k) (flags_fault_same k)

  flag_word_fault_same : (p : Option (Text × Option Text)) (word : Text) (h : Held) → flag_word_fault c again p word h ≡ flag_word_fault d again p word h
  flag_word_fault_same (Some p) word h = ap (λ (o : Option Rule). long_fault c again o p.1 h) (same.reads.long p.0) ∙ long_fault_same (arg_by_long d p.0) p.1 h
  flag_word_fault_same None word h = go (short_of word)
    where
      go : (o : Option Text) → option_map_or (λ flags. bundle_fault c again flags h) o [] ≡ option_map_or (λ flags. bundle_fault d again flags h) o []
      go None = refl
      go (Some flags) = flags_fault_same (length flags) flags h.skip (record h { skip = 0 })

-- the shape with other rules
abbrev pub with_rules : Shape → List Rule → Shape
with_rules s rules = record s { rules = rules }

module _ (s : Shape) (c d : List Rule) (same : FaultsAlike c d) where
  other_fault_same : (name : Option Text) (word : Text) (h : Held) → other_fault (with_rules s c) name word h ≡ other_fault (with_rules s d) name word h
  other_fault_same (Some name) word h = refl
  other_fault_same None word h = ap (cond (bytes_eq word (45 ∷ 45 ∷ [])) []) (flag_word_fault_same c d same s.args_override_self (long_of word) word h)

  step_fault_same : (position : ℕ) (h : Held) (step : Step) → step_fault (with_rules s c) position h step ≡ step_fault (with_rules s d) position h step
  step_fault_same position h (next waiting) = refl
  step_fault_same position h (trailing p) = refl
  step_fault_same position h (subcommand name) = refl
  step_fault_same position h value = same.positional s.args_override_self position h (stray_fault s)

  turn_fault_same : (names : Names) (w : Walk) (word : Text) → turn_fault (with_rules s c) names w word ≡ turn_fault (with_rules s d) names w word
  turn_fault_same names w word =
      let of_word = ap (cond w.is_trailing []) (other_fault_same (subcommand_met names w.waiting word) word w.held) in
      let end = word_met d names w.is_trailing w.waiting w.position word w.held in
      let of_step = ap (λ (p : Held × Step). step_fault (with_rules s c) w.position p.0 p.1)
      (word_met_same c d same.reads names w.is_trailing w.waiting w.position word w.held)
      ∙ step_fault_same w.position end.0 end.1 in
      ap (cond (is_some w.stopped) []) (ap₂ or_else of_word of_step)

  pub walk_fault_same : (names : Names) (w : Walk) (words : List Text) → walk_fault (with_rules s c) names w words ≡ walk_fault (with_rules s d) names w words
  unfolding walk_fault
  walk_fault_same names w [] = refl
  walk_fault_same names w (word ∷ rest) =
      ap₂ or_else (turn_fault_same names w word)
      (ap (λ (x : Walk). walk_fault (with_rules s c) names x rest) (walked_same c d same.reads names w word) ∙ walk_fault_same names
      (walked d names w word) rest)

  pub level_fault_same : ((rows : List Row) → defaults_fault rows c ≡ defaults_fault rows d) → ((h : Held) → finished c h ≡ finished d h)
      → ((rows : List Row) → check_fault (with_rules s c) rows false ≡ check_fault (with_rules s d) rows false)
      → (h : Held) (words : List Text) → level_fault (with_rules s c) [] h words false [] ≡ level_fault (with_rules s d) [] h words false []
  level_fault_same defaults ends checks h words =
      let held = ap (λ (w : Walk). w.held) (walk_same c d same.reads [] h words) in
      let after = λ (k : Held). ap₂ or_else (same.settle s.args_override_self k)
      (ap₂ or_else (ap (λ (x : Held). defaults_fault x.rows c) (same.reads.settles k) ∙ defaults (settled d k).rows)
      (ap (λ (rows : List Row). check_fault (with_rules s c) rows false) (ends k) ∙ checks (finished d k))) in
      ap₂ or_else (walk_fault_same [] (walk_from h) words)
      (ap (λ (k : Held). after_walk (with_rules s c) k) held ∙ after (walk d [] h words).held)
    where
      after_walk : Shape → Held → Kinds
      after_walk t k = or_else (settle_fault t.rules t.args_override_self k)
          (or_else (defaults_fault (settled t.rules k).rows t.rules) (check_fault t (finished t.rules k) false))
