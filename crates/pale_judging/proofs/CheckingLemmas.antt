-- What `check` has written between one report and the next.
use Rattle.std.proofs.Common.{◌≡◌, ◌∙◌, inl, inr, ◌+◌, ◌<◌, ◌≤◌, ◌++◌, ℕ, suc, true, false, List, [], ◌∷◌, length, take, drop, get_or, Option, refl, sym, ap}
use Rattle.std.proofs.Common.{subst, arith}
use Rattle.std.proofs.Common.{append-nil, take-append-drop}
use Rattle.std.specs.Prelude.{All}
use Rattle.std.specs.List.{list_all}
use Rattle.std.proofs.lemmas.List.{take_more, take_all}
use Rattle.bdd_nodes.specs.Shelf.{Contents, limit_of}
use Rattle.gta_keep.specs.Holding.{HasNoTables}
use Rattle.store_core.specs.declared.ids.FieldId.{FieldId}
use Rattle.store_core.specs.Tables.{TypeEntry}
use Rattle.store_exec.specs.declared.triple.Triple.{Triple}
use Rattle.witness_store.specs.Alike.{AreFunctional}
use Rattle.pale_typed.specs.TypedPrograms.{TypedProgram}
use Rattle.pale_typed.specs.Fitting.{ProgramFits}
use Rattle.hoare_split.specs.Fitting.{FitsProgram}
use Rattle.pale_io.specs.Whole.{WritesAll, WritesFront}
use Rattle.pale_status.specs.Written.{Wrote, WroteAtMost}
use Rattle.pale_status.proofs.WrittenLemmas.{nothing_written, both_written, front_of_first, first_written, front_of_second}
use Rattle.program_judge.specs.declared.ways.FieldWay.{FieldWay}
use Rattle.program_judge.specs.declared.ways.TripleWay.{TripleWay}
use Rattle.program_judge.specs.declared.ways.Ending.{Ending}
use Rattle.program_judge.specs.Lines.{stopped_line}
use Rattle.program_judge.specs.Reports.{pointer_fields, is_functional, stopped_ending, judged_ending, totals_of, CanEnd}
use Rattle.program_judge.specs.Reports.{ReportsField, ReportsFields, no_field, ReportsTriple, ReportsTriples, no_triple, next_triple}
use Rattle.program_judge.specs.Reports.{ReportsAll, totalled, ReportsProgram, stopped, judged}
use Rattle.program_judge.proofs.JoinedLemmas.{field-more, triple-more}
use Rattle.program_judge.proofs.EndingLemmas.{fields-end, triples-end}
use Rattle.pale_judging.specs.Checking.{WroteFields, after_fields, amid_field}

-- ---- what was written so far begins an output

module _ (Allowed : List ℕ → Ending → Type 0) (a : Option (List ℕ)) where
  -- behind whole pieces
  pub whole_begins : (b : Option (List ℕ)) (lines : List ℕ) → WritesAll a b lines → CanEnd Allowed lines → WroteAtMost Allowed a b
  whole_begins b lines written end = inr (record {
    output = lines ++ end.tail;
    status = end.how;
    allowed = end.allowed;
    written = first_written a b lines end.tail written end.more;
  })

  -- in the middle of one more piece
  pub piece_begins : (b c : Option (List ℕ)) (lines piece : List ℕ) → WritesAll a b lines → WritesFront b c piece → CanEnd Allowed (lines ++ piece) →
      WroteAtMost Allowed a c
  piece_begins b c lines piece written front end = inr (record {
    output = (lines ++ piece) ++ end.tail;
    status = end.how;
    allowed = end.allowed;
    written = front_of_first a c (lines ++ piece) end.tail (front_of_second a b c lines piece written front);
  })

  -- in the last piece
  pub last_begins : (b c : Option (List ℕ)) (lines piece : List ℕ) (how : Ending) → WritesAll a b lines → WritesFront b c piece → Allowed (lines ++ piece) how →
      WroteAtMost Allowed a c
  last_begins b c lines piece how written front allowed = inr (record {
    output = lines ++ piece;
    status = how;
    allowed = allowed;
    written = front_of_second a b c lines piece written front;
  })

  pub last_written : (b c : Option (List ℕ)) (lines piece : List ℕ) (how : Ending) → WritesAll a b lines → WritesAll b c piece → Allowed (lines ++ piece) how →
      Wrote Allowed a c how
  last_written b c lines piece how written whole allowed = record {
    output = lines ++ piece;
    allowed = allowed;
    written = both_written a b c lines piece written whole;
  }

-- a list is what is done and nothing more
all_done : {X : Type 0} (xs : List X) → xs ≡ xs ++ []
all_done xs = sym (append-nil xs)

-- ---- fields

-- the first i fields are reported on
abbrev pub FieldsWrote : ℕ → List TypeEntry → Option (List ℕ) → ℕ → Option (List ℕ) → List FieldWay → Type 0
FieldsWrote limit types a i b ways = Wrote (ReportsFields limit types (take i (pointer_fields types))) a b ways

module _ (limit : ℕ) (types : List TypeEntry) (a : Option (List ℕ)) where
  abbrev fields : List FieldId
  fields = pointer_fields types

  pub fields_start : FieldsWrote limit types a 0 a []
  fields_start = record { output = []; allowed = no_field; written = nothing_written a }

  told_next : (i : ℕ) (f : FieldId) (lines piece : List ℕ) (ways : List FieldWay) (way : FieldWay) → i < length fields → f ≡ get_or fields i f →
      ReportsFields limit types (take i fields) lines ways → ReportsField limit types f piece way →
      ReportsFields limit types (take (i + 1) fields) (lines ++ piece) (ways ++ way ∷ [])
  told_next i f lines piece ways way inside is before report =
      subst (λ (gs : List FieldId). ReportsFields limit types gs (lines ++ piece) (ways ++ way ∷ []))
      (ap (λ (g : FieldId). take i fields ++ g ∷ []) is ∙ sym (take_more fields i f inside))
      (field-more limit types (take i fields) lines ways f piece way before report)

  pub fields_next : (i : ℕ) (f : FieldId) (b c : Option (List ℕ)) (ways : List FieldWay) (way : FieldWay) → i < length fields → f ≡ get_or fields i f →
      FieldsWrote limit types a i b ways → Wrote (ReportsField limit types f) b c way → FieldsWrote limit types a (i + 1) c (ways ++ way ∷ [])
  fields_next i f b c ways way inside is before next = record {
    output = before.output ++ next.output;
    allowed = told_next i f before.output next.output ways way inside is before.allowed next.allowed;
    written = both_written a b c before.output next.output before.written next.written;
  }

  -- behind the report of a field
  pub fields_begin : (i : ℕ) (b : Option (List ℕ)) (ways : List FieldWay) → FieldsWrote limit types a i b ways → WroteFields limit types a b
  fields_begin i b ways before = after_fields (take i fields) (drop i fields) ways (sym (take-append-drop i fields)) before

  -- in one
  pub field_begins : (i : ℕ) (f : FieldId) (b c : Option (List ℕ)) (ways : List FieldWay) → i < length fields → f ≡ get_or fields i f →
      FieldsWrote limit types a i b ways → WroteAtMost (ReportsField limit types f) b c → WroteFields limit types a c
  field_begins i f b c ways inside is before (inl same) =
      subst (λ (d : Option (List ℕ)). WroteFields limit types a d) (sym same) (fields_begin i b ways before)
  field_begins i f b c ways inside is before (inr front) =
      amid_field (take (i + 1) fields) (drop (i + 1) fields) (before.output ++ front.output) (ways ++ front.status ∷ [])
      (sym (take-append-drop (i + 1) fields)) (told_next i f before.output front.output ways front.status inside is before.allowed front.allowed)
      (front_of_second a b c before.output front.output before.written front.written)

  -- all are reported on
  pub fields_whole : (i : ℕ) (b : Option (List ℕ)) (ways : List FieldWay) → length fields ≤ i → FieldsWrote limit types a i b ways →
      Wrote (ReportsFields limit types fields) a b ways
  fields_whole i b ways all before =
      subst (λ (gs : List FieldId). Wrote (ReportsFields limit types gs) a b ways) (take_all i fields all) before

module _ (limit : ℕ) (program : TypedProgram) (triples : List Triple) (fits : ProgramFits program) (own : All (FitsProgram program) triples)
    (a : Option (List ℕ)) where
  abbrev fs : List FieldId
  fs = pointer_fields program.types

  -- what was written before a stop among the fields begins a report of the program
  pub fields_cut : (c : Option (List ℕ)) → WroteFields limit program.types a c → WroteAtMost (ReportsProgram limit program triples) a c
  fields_cut c (after_fields done rest ways split before) =
      whole_begins (ReportsProgram limit program triples) a c before.output before.written
      (fields-end limit program triples fits own done rest split before.output ways before.allowed)
  fields_cut c (amid_field done rest lines ways split reports front) =
      let end = fields-end limit program triples fits own done rest split lines ways reports in
      inr (record {
        output = lines ++ end.tail;
        status = end.how;
        allowed = end.allowed;
        written = front_of_first a c lines end.tail front;
      })

  -- ---- behind the fields

  pub stopped_begins : (b c : Option (List ℕ)) (ways : List FieldWay) → Wrote (ReportsFields limit program.types fs) a b ways →
      list_all is_functional ways ≡ false → WritesFront b c stopped_line → WroteAtMost (ReportsProgram limit program triples) a c
  stopped_begins b c ways before some front =
      last_begins (ReportsProgram limit program triples) a b c before.output stopped_line (stopped_ending ways) before.written front
      (stopped before.output ways before.allowed some)

  pub stopped_whole : (b c : Option (List ℕ)) (ways : List FieldWay) → Wrote (ReportsFields limit program.types fs) a b ways →
      list_all is_functional ways ≡ false → WritesAll b c stopped_line → Wrote (ReportsProgram limit program triples) a c (stopped_ending ways)
  stopped_whole b c ways before some whole =
      last_written (ReportsProgram limit program triples) a b c before.output stopped_line (stopped_ending ways) before.written whole
      (stopped before.output ways before.allowed some)

  pub judged_begins : (b c : Option (List ℕ)) (ways : List FieldWay) → Wrote (ReportsFields limit program.types fs) a b ways →
      list_all is_functional ways ≡ true → WroteAtMost (ReportsAll limit program triples) b c → WroteAtMost (ReportsProgram limit program triples) a c
  judged_begins b c ways before good (inl same) =
      subst (λ (d : Option (List ℕ)). WroteAtMost (ReportsProgram limit program triples) a d) (sym same)
      (whole_begins (ReportsProgram limit program triples) a b before.output before.written
      (fields-end limit program triples fits own fs [] (all_done fs) before.output ways before.allowed))
  judged_begins b c ways before good (inr front) =
      last_begins (ReportsProgram limit program triples) a b c before.output front.output front.status before.written front.written
      (judged before.output ways front.output front.status before.allowed good front.allowed)

  pub judged_whole : (b c : Option (List ℕ)) (ways : List FieldWay) (how : Ending) → Wrote (ReportsFields limit program.types fs) a b ways →
      list_all is_functional ways ≡ true → Wrote (ReportsAll limit program triples) b c how → Wrote (ReportsProgram limit program triples) a c how
  judged_whole b c ways how before good next =
      last_written (ReportsProgram limit program triples) a b c before.output next.output how before.written next.written
      (judged before.output ways next.output how before.allowed good next.allowed)

-- ---- triples

ways_count : (limit : ℕ) (program : TypedProgram) (k : ℕ) (ts : List Triple) (lines : List ℕ) (ways : List TripleWay) →
    ReportsTriples limit program k ts lines ways → length ways ≡ length ts
ways_count limit program _ _ _ _ (no_triple k) = refl
ways_count limit program _ _ _ _ (next_triple k t ts way ways lines others report more) =
    ap (λ (n : ℕ). suc n) (ways_count limit program (suc k) ts others ways more)

-- the first i triples are reported on
abbrev pub TriplesWrote : ℕ → TypedProgram → List Triple → Option (List ℕ) → ℕ → Option (List ℕ) → List TripleWay → Type 0
TriplesWrote limit program triples a i b ways = Wrote (ReportsTriples limit program 1 (take i triples)) a b ways

module _ (limit : ℕ) (program : TypedProgram) (triples : List Triple) (fits : ProgramFits program) (own : All (FitsProgram program) triples)
    (every : AreFunctional program.types) (a : Option (List ℕ)) where
  pub triples_start : TriplesWrote limit program triples a 0 a []
  triples_start = record { output = []; allowed = no_triple 1; written = nothing_written a }

  triples_more : (i : ℕ) (t : Triple) (number : ℕ) (lines piece : List ℕ) (ways : List TripleWay) (way : TripleWay) → i < length triples →
      t ≡ get_or triples i t → number ≡ length ways + 1 → ReportsTriples limit program 1 (take i triples) lines ways →
      ReportsTriple limit program number t piece way → ReportsTriples limit program 1 (take (i + 1) triples) (lines ++ piece) (ways ++ way ∷ [])
  triples_more i t number lines piece ways way inside is counted before report =
      let count : length ways ≡ length (take i triples) = ways_count limit program 1 (take i triples) lines ways before in
      let at : number ≡ 1 + length (take i triples) = omega (arith, counted, count) in
      subst (λ (ts : List Triple). ReportsTriples limit program 1 ts (lines ++ piece) (ways ++ way ∷ []))
      (ap (λ (u : Triple). take i triples ++ u ∷ []) is ∙ sym (take_more triples i t inside))
      (triple-more limit program 1 (take i triples) lines ways t piece way before
      (subst (λ (k : ℕ). ReportsTriple limit program k t piece way) at report))

  pub triples_next : (i : ℕ) (t : Triple) (number : ℕ) (b c : Option (List ℕ)) (ways : List TripleWay) (way : TripleWay) → i < length triples →
      t ≡ get_or triples i t → number ≡ length ways + 1 → TriplesWrote limit program triples a i b ways → Wrote (ReportsTriple limit program number t) b c way →
      TriplesWrote limit program triples a (i + 1) c (ways ++ way ∷ [])
  triples_next i t number b c ways way inside is counted before next = record {
    output = before.output ++ next.output;
    allowed = triples_more i t number before.output next.output ways way inside is counted before.allowed next.allowed;
    written = both_written a b c before.output next.output before.written next.written;
  }

  triples_can_end : (i : ℕ) (lines : List ℕ) (ways : List TripleWay) → ReportsTriples limit program 1 (take i triples) lines ways →
      CanEnd (ReportsAll limit program triples) lines
  triples_can_end i lines ways reports =
      triples-end limit program triples fits own every (take i triples) (drop i triples) (sym (take-append-drop i triples)) lines ways reports

  -- behind the report of a triple
  pub triples_begin : (i : ℕ) (b : Option (List ℕ)) (ways : List TripleWay) → TriplesWrote limit program triples a i b ways → WroteAtMost
      (ReportsAll limit program triples) a b
  triples_begin i b ways before =
      whole_begins (ReportsAll limit program triples) a b before.output before.written (triples_can_end i before.output ways before.allowed)

  -- in one
  pub triple_begins : (i : ℕ) (t : Triple) (number : ℕ) (b c : Option (List ℕ)) (ways : List TripleWay) → i < length triples → t ≡ get_or triples i t →
      number ≡ length ways + 1 → TriplesWrote limit program triples a i b ways → WroteAtMost (ReportsTriple limit program number t) b c →
      WroteAtMost (ReportsAll limit program triples) a c
  triple_begins i t number b c ways inside is counted before (inl same) =
      subst (λ (d : Option (List ℕ)). WroteAtMost (ReportsAll limit program triples) a d) (sym same) (triples_begin i b ways before)
  triple_begins i t number b c ways inside is counted before (inr front) =
      piece_begins (ReportsAll limit program triples) a b c before.output front.output before.written front.written
      (triples_can_end (i + 1) (before.output ++ front.output) (ways ++ front.status ∷ [])
      (triples_more i t number before.output front.output ways front.status inside is counted before.allowed front.allowed))

  -- all are reported on
  pub triples_whole : (i : ℕ) (b : Option (List ℕ)) (ways : List TripleWay) → length triples ≤ i → TriplesWrote limit program triples a i b ways →
      Wrote (ReportsTriples limit program 1 triples) a b ways
  triples_whole i b ways all before =
      subst (λ (ts : List Triple). Wrote (ReportsTriples limit program 1 ts) a b ways) (take_all i triples all) before

  -- ---- the totals

  pub before_totals : (b : Option (List ℕ)) (ways : List TripleWay) → Wrote (ReportsTriples limit program 1 triples) a b ways →
      WroteAtMost (ReportsAll limit program triples) a b
  before_totals b ways before =
      whole_begins (ReportsAll limit program triples) a b before.output before.written
      (triples-end limit program triples fits own every triples [] (all_done triples) before.output ways before.allowed)

  pub totals_begin : (b c : Option (List ℕ)) (ways : List TripleWay) → Wrote (ReportsTriples limit program 1 triples) a b ways →
      WritesFront b c (totals_of ways) → WroteAtMost (ReportsAll limit program triples) a c
  totals_begin b c ways before front =
      last_begins (ReportsAll limit program triples) a b c before.output (totals_of ways) (judged_ending ways) before.written front
      (totalled before.output ways before.allowed)

  pub totals_whole : (b c : Option (List ℕ)) (ways : List TripleWay) → Wrote (ReportsTriples limit program 1 triples) a b ways →
      WritesAll b c (totals_of ways) → Wrote (ReportsAll limit program triples) a c (judged_ending ways)
  totals_whole b c ways before whole =
      last_written (ReportsAll limit program triples) a b c before.output (totals_of ways) (judged_ending ways) before.written whole
      (totalled before.output ways before.allowed)

-- ---- between two reports

-- what was written; and the shelf holds no table, and has its limit; and no count of faults fell
pub record GoesOn (wrote : Type 0) (first now : Contents) (faults later : ℕ) : Type 0 where
  pub so_far : wrote
  pub tables : HasNoTables now
  pub same_limit : limit_of now ≡ limit_of first
  pub kept : faults ≤ later
