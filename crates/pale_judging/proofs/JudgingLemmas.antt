-- What `judge` and `meet` have written: the reports on the fields, and what was asked for.
use Rattle.std.proofs.Common.{◌≡◌, ◌∙◌, ◌-◌, ◌<◌, ◌≤◌, ◌++◌, ℕ, suc, Bool, true, false, List, [], ◌∷◌, length}
use Rattle.std.proofs.Common.{Result, Option, Some, inl, inr, refl, sym, ap, subst, arith}
use Rattle.std.proofs.Common.{append_assoc, length-append}
use Rattle.std.specs.Prelude.{All, slice_get, IfSome, IfNone, None}
use Rattle.std.specs.Borrow.{Bor}
use Rattle.std.specs.Option.{option_map}
use Rattle.std.specs.declared.result.Result.TheVariants as result
use Rattle.store_text.specs.Lines.{lines_of}
use Rattle.pale_text.specs.declared.refusal.TextStop.{TextStop}
use Rattle.whole_program.specs.ProgramTexts.{IsReadAs, IsStopOf}
use Rattle.pale_parts.specs.Parts.{IsCutAs, HasNoCut}
use Rattle.pale_parts.specs.declared.request.RequestFault.{RequestFault}
use Rattle.pale_parts.specs.declared.request.RequestKind.TheVariants as kind
use Rattle.pale_starts.specs.Stops.{IsPartStop, uncut_stop, cut_stop}
use Rattle.pale_status.specs.Texts.{most_bytes}
use Rattle.std.specs.List.{list_all}
use Rattle.store_core.specs.declared.ids.FieldId.{FieldId}
use Rattle.store_core.specs.Tables.{TypeEntry}
use Rattle.store_exec.specs.declared.triple.Triple.{Triple}
use Rattle.witness_store.specs.Alike.{AreFunctional}
use Rattle.pale_typed.specs.TypedPrograms.{TypedProgram}
use Rattle.pale_typed.specs.Fitting.{ProgramFits}
use Rattle.hoare_split.specs.Fitting.{FitsProgram}
use Rattle.pale_io.specs.Told.{appended}
use Rattle.pale_io.specs.Whole.{WritesAll, WritesFront}
use Rattle.pale_parts.specs.declared.request.Request.{Request}
use Rattle.pale_parts.specs.declared.request.Request.TheVariants as request
use Rattle.pale_parts.specs.Requests.{triple, IsRequest, IsRequestFault, request_line}
use Rattle.pale_status.specs.declared.status.Status.{Status}
use Rattle.pale_status.specs.Written.{Wrote, WroteAtMost}
use Rattle.pale_status.proofs.WrittenLemmas.{nothing_written, both_written, front_of_first, first_written, front_of_second}
use Rattle.program_judge.specs.declared.ways.FieldWay.{FieldWay}
use Rattle.program_judge.specs.declared.ways.TripleWay.{TripleWay}
use Rattle.program_judge.specs.Lines.{stopped_line}
use Rattle.program_judge.specs.Reports.{pointer_fields, is_functional, stopped_ending, ReportsFields, ReportsTriple}
use Rattle.program_judge.proofs.EndingLemmas.{fields-more, functional-silent}
use Rattle.pale_judging.specs.Checking.{status_of, WroteFields, after_fields, amid_field}
use Rattle.pale_status.specs.declared.status.Status.TheVariants.{Good, Text}
use Rattle.pale_judging.specs.Judging.{Judges, JudgesPart, JudgesRequest, status_of_way}
use Rattle.pale_judging.specs.Judging as judging

-- ---- nothing written

-- where nothing is all that was written, what the sink told is the same
nothing_added : (a b : Option (List ℕ)) (lines : List ℕ) → lines ≡ [] → WritesAll a b lines → b ≡ a
nothing_added a b lines is written = written.added ∙ (ap (appended a) is ∙ sym (nothing_written a).added)

-- a list of which no more than nothing is there
nothing_first : (lines more : List ℕ) → lines ++ more ≡ [] → lines ≡ []
nothing_first [] more is = refl
nothing_first (x ∷ lines) more is = absurd (cc)

no_front : (a b : Option (List ℕ)) (lines : List ℕ) → lines ≡ [] → WritesFront a b lines → ⊥
no_front a b lines is front =
    let below : front.count < length lines = front.within in
    let none : length lines ≡ 0 = ap length is in
    omega arith

-- where the reports on fields that aren't all told to be functional may stand with `stopped at fields` behind them
module _ (limit : ℕ) (program : TypedProgram) (Allowed : List ℕ → Status → Type 0) (stops : (lines : List ℕ) (ways : List FieldWay) →
    ReportsFields limit program.types (pointer_fields program.types) lines ways → list_all is_functional ways ≡ false →
    Allowed (lines ++ stopped_line) (status_of (stopped_ending ways))) (a : Option (List ℕ)) where
  abbrev fs : List FieldId
  fs = pointer_fields program.types

  pub stopped_begins : (b c : Option (List ℕ)) (ways : List FieldWay) → Wrote (ReportsFields limit program.types fs) a b ways →
      list_all is_functional ways ≡ false → WritesFront b c stopped_line → WroteAtMost Allowed a c
  stopped_begins b c ways before some front = inr (record {
    output = before.output ++ stopped_line;
    status = status_of (stopped_ending ways);
    allowed = stops before.output ways before.allowed some;
    written = front_of_second a b c before.output stopped_line before.written front;
  })

  pub stopped_whole : (b c : Option (List ℕ)) (ways : List FieldWay) → Wrote (ReportsFields limit program.types fs) a b ways →
      list_all is_functional ways ≡ false → WritesAll b c stopped_line → Wrote Allowed a c (status_of (stopped_ending ways))
  stopped_whole b c ways before some whole = record {
    output = before.output ++ stopped_line;
    allowed = stops before.output ways before.allowed some;
    written = both_written a b c before.output stopped_line before.written whole;
  }

  -- a stop among the fields
  whole_by : (c : Option (List ℕ)) (lines l : List ℕ) (ways : List FieldWay) → WritesAll a c lines → ReportsFields limit program.types fs (lines ++ l) ways →
      (b : Bool) → list_all is_functional ways ≡ b → WroteAtMost Allowed a c
  whole_by c lines l ways written all true good =
      inl (nothing_added a c lines (nothing_first lines l (functional-silent limit program.types fs (lines ++ l) ways all good)) written)
  whole_by c lines l ways written all false some =
      let count : 0 < length stopped_line = omega arith in
      inr (record {
        output = (lines ++ l) ++ stopped_line;
        status = status_of (stopped_ending ways);
        allowed = stops (lines ++ l) ways all some;
        written = subst (λ (output : List ℕ). WritesFront a c output) (sym (append_assoc lines l stopped_line))
            (first_written a c lines (l ++ stopped_line) written (omega (arith, count, length-append l stopped_line)));
      })

  front_by : (c : Option (List ℕ)) (lines l : List ℕ) (ways : List FieldWay) → WritesFront a c lines → ReportsFields limit program.types fs (lines ++ l) ways →
      (b : Bool) → list_all is_functional ways ≡ b → WroteAtMost Allowed a c
  front_by c lines l ways front all true good =
      absurd (no_front a c lines (nothing_first lines l (functional-silent limit program.types fs (lines ++ l) ways all good)) front)
  front_by c lines l ways front all false some = inr (record {
    output = (lines ++ l) ++ stopped_line;
    status = status_of (stopped_ending ways);
    allowed = stops (lines ++ l) ways all some;
    written = front_of_first a c (lines ++ l) stopped_line (front_of_first a c lines l front);
  })

  pub stop_among_fields : (triples : List Triple) → ProgramFits program → All (FitsProgram program) triples → (c : Option (List ℕ)) →
      WroteFields limit program.types a c → WroteAtMost Allowed a c
  stop_among_fields triples fits own c (after_fields done rest ways split before) =
      let (l, all, whole) = fields-more limit program triples fits own done rest split before.output ways before.allowed in
      whole_by c before.output l all before.written whole (list_all is_functional all) refl
  stop_among_fields triples fits own c (amid_field done rest lines ways split reports front) =
      let (l, all, whole) = fields-more limit program triples fits own done rest split lines ways reports in
      front_by c lines l all front whole (list_all is_functional all) refl

-- behind fields that are told to be functional nothing was written
pub behind_fields : (limit : ℕ) (types : List TypeEntry) (a b : Option (List ℕ)) (ways : List FieldWay) →
    Wrote (ReportsFields limit types (pointer_fields types)) a b ways → list_all is_functional ways ≡ true → b ≡ a
behind_fields limit types a b ways before good =
    nothing_added a b before.output (functional-silent limit types (pointer_fields types) before.output ways before.allowed good) before.written

-- ---- what was asked for

-- the fields were asked for
pub fields_judged : (limit : ℕ) (program : TypedProgram) (triples : List Triple) (a : Option (List ℕ)) → AreFunctional program.types →
    Wrote (JudgesRequest limit program triples request.Fields) a a Good
fields_judged limit program triples a every = record { output = []; allowed = judging.fields every; written = nothing_written a }

-- the triple of a request is there
pub asked_there : (triples : ℕ) (lines : List (List ℕ)) (number : ℕ) → IsRequest triples lines (request.Triple number) → (0 < number) × (number ≤ triples)
asked_there triples lines _ (line, one, triple number spelled some within) = (some, within)

module _ (limit : ℕ) (program : TypedProgram) (triples : List Triple) (number : ℕ) (t : Triple) (a b : Option (List ℕ)) (some : 0 < number)
    (every : AreFunctional program.types) (there : slice_get triples (number - 1) ≡ Some t) where
  again : suc (number - 1) ≡ number
  again = omega arith

  allowed_for : (lines : List ℕ) (how : TripleWay) → ReportsTriple limit program number t lines how →
      JudgesRequest limit program triples (request.Triple number) lines (status_of_way how)
  allowed_for lines how report =
      subst (λ (n : ℕ). JudgesRequest limit program triples (request.Triple n) lines (status_of_way how)) again
      (judging.triple (number - 1) t lines how every there (subst (λ (n : ℕ). ReportsTriple limit program n t lines how) (sym again) report))

  pub triple_judged : (how : TripleWay) → Wrote (ReportsTriple limit program number t) a b how →
      Wrote (JudgesRequest limit program triples (request.Triple number)) a b (status_of_way how)
  triple_judged how wrote = record { output = wrote.output; allowed = allowed_for wrote.output how wrote.allowed; written = wrote.written }

  pub triple_begun : WroteAtMost (ReportsTriple limit program number t) a b → WroteAtMost (JudgesRequest limit program triples (request.Triple number)) a b
  triple_begun (inl same) = inl same
  triple_begun (inr front) = inr (record {
    output = front.output;
    status = status_of_way front.status;
    allowed = allowed_for front.output front.status front.allowed;
    written = front.written;
  })

-- ---- the part behind `---`

-- its lines, where there is one
abbrev pub lines_in : Option (Bor (List ℕ)) → Option (List (List ℕ))
lines_in part = option_map (λ after. lines_of after.now) part

-- no request, but this fault
abbrev pub refused_by : RequestFault → Result Request RequestFault
refused_by fault = result.Err fault

-- a request was found in its lines
pub part_asked : (triples : ℕ) (part : Option (Bor (List ℕ))) (r : Request) (fault : RequestFault) →
    IfNone part (result.Ok r ≡ result.Err fault) → IfSome part (λ after. IsRequest triples (lines_of after.now) r) →
    (lines : List (List ℕ)) × (lines_in part ≡ Some lines) × IsRequest triples lines r
part_asked triples None r fault none some = absurd (cc)
part_asked triples (Some after) r fault none some = (lines_of after.now, refl, some)

module _ (limit : ℕ) (program : TypedProgram) (triples : List Triple) where
  -- or a fault
  pub part_refused : (part : Option (Bor (List ℕ))) (fault : RequestFault) →
      IfNone part (refused_by fault ≡ refused_by (record { line = 0; kind = kind.Missing })) →
      IfSome part (λ after. IsRequestFault (length triples) (lines_of after.now) fault) →
      JudgesPart limit program triples (lines_in part) (request_line fault) Text
  part_refused None fault none some =
      let same : fault ≡ record { line = 0; kind = kind.Missing } = cc in
      subst (λ (f : RequestFault). JudgesPart limit program triples None (request_line f) Text) (sym same) judging.no_part
  part_refused (Some after) fault none some = judging.no_request (lines_of after.now) fault some

  pub asked_part : (part : Option (Bor (List ℕ))) (lines : List (List ℕ)) (r : Request) → lines_in part ≡ Some lines → IsRequest (length triples) lines r →
      (output : List ℕ) (status : Status) → JudgesRequest limit program triples r output status →
      JudgesPart limit program triples (lines_in part) output status
  asked_part part lines r is asks output status judges =
      subst (λ (ls : Option (List (List ℕ))). JudgesPart limit program triples ls output status) (sym is) (judging.asked lines r output status asks judges)

-- ---- whole texts

module _ (text front : List ℕ) where
  pub by_cut : (limit : ℕ) (part : Option (Bor (List ℕ))) → IfSome part (λ after. IsCutAs text front after.now) → IfNone part ((front ≡ text) × HasNoCut text) →
      length text ≤ most_bytes → (program : TypedProgram) (triples : List Triple) → IsReadAs front program triples → (output : List ℕ) (status : Status) →
      JudgesPart limit program triples (lines_in part) output status → Judges limit text output status
  by_cut limit None some none short program triples read output status judges =
      judging.uncut program triples output status short none.1 (subst (λ (t : List ℕ). IsReadAs t program triples) none.0 read) judges
  by_cut limit (Some after) some none short program triples read output status judges =
      judging.cut front after.now program triples output status short some read judges

  pub stop_by_cut : (part : Option (Bor (List ℕ))) → IfSome part (λ after. IsCutAs text front after.now) → IfNone part ((front ≡ text) × HasNoCut text) →
      (stop : TextStop) → IsStopOf front stop → IsPartStop text stop
  stop_by_cut None some none stop is = uncut_stop none.1 (subst (λ (t : List ℕ). IsStopOf t stop) none.0 is)
  stop_by_cut (Some after) some none stop is = cut_stop front after.now some is
