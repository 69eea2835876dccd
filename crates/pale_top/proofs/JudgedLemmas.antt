-- A text that asks for something of its program is answered by what is said of that.
use Rattle.std.proofs.Common.{◌≡◌, ◌∙◌, ◌⊎◌, ◌≤◌, ◌++◌, ℕ, suc, List, [], ◌∷◌, length, Option, Some, drop, refl, sym, ap, subst, arith}
use Rattle.std.specs.Prelude.{codes}
use Rattle.std.proofs.lemmas.Option.{same_Some}
use Rattle.pale_text.specs.declared.refusal.Refusal.{Refusal}
use Rattle.pale_text.specs.declared.refusal.TextStop.TheVariants as stop
use Rattle.store_core.specs.Tables.{TypeEntry}
use Rattle.store_exec.specs.declared.triple.Triple.{Triple}
use Rattle.store_text.specs.Lines.{lines_of}
use Rattle.store_text.specs.Spelling.{number_of}
use Rattle.pale_typed.specs.TypedPrograms.{TypedProgram}
use Rattle.whole_program.specs.ProgramTexts.{IsReadAs, IsRefusedAs}
use Rattle.pale_parts.specs.Parts.{IsCutAs, IsTripleLine}
use Rattle.pale_parts.specs.declared.request.Request.{Request}
use Rattle.pale_parts.specs.declared.request.Request.TheVariants as request
use Rattle.pale_parts.specs.declared.request.RequestFault.{RequestFault}
use Rattle.pale_parts.specs.Requests.{Asks, fields, triple, IsRequest, IsRequestFault, nothing, no_form, no_triple, too_much}
use Rattle.pale_starts.specs.Stops.{IsPartStop, uncut_stop, cut_stop}
use Rattle.pale_status.specs.declared.status.Status.{Status}
use Rattle.pale_status.specs.Texts.{most_bytes}
use Rattle.pale_modes.proofs.CutLemmas.{one_cut, cut_or_not}
use Rattle.program_judge.specs.declared.ways.FieldWay.{FieldWay}
use Rattle.program_judge.specs.declared.ways.TripleWay.{TripleWay}
use Rattle.program_judge.specs.declared.ways.TripleWay.TheVariants as tripled
use Rattle.program_judge.specs.Reports.{pointer_fields, ReportsFields, ReportsTriple}
use Rattle.program_promises.specs.Completeness.{IsTripleWithin}
use Rattle.program_promises.specs.Telling.{TellsFields}
use Rattle.pale_judging.specs.Judging.{Judges, too_long, refused, uncut, cut, JudgesPart, no_part, no_request, asked, JudgesRequest}
use Rattle.pale_judging.specs.Judging as judging
use Rattle.pale_top.specs.Completing.{SpellsRequest, JudgesEach, some_field, each_field, one_triple}

-- what the layers below say of readings and of reports
pub record Laws : Type 0 where
  pub one : (text : List ℕ) (program other : TypedProgram) (triples others : List Triple) → IsReadAs text program triples →
      IsReadAs text other others → (program ≡ other) × (triples ≡ others)
  pub apart : (text : List ℕ) (program : TypedProgram) (triples : List Triple) (refusal : Refusal) → IsReadAs text program triples →
      IsRefusedAs text refusal → ⊥
  pub fields : (limit : ℕ) (types : List TypeEntry) (lines : List ℕ) (ways : List FieldWay) →
      ReportsFields limit types (pointer_fields types) lines ways → TellsFields limit types lines ways
  pub triple : (limit : ℕ) (program : TypedProgram) (k : ℕ) (t : Triple) (lines : List ℕ) (how : TripleWay) →
      ReportsTriple limit program k t lines how → IsTripleWithin limit program t → (how ≡ tripled.Valid) ⊎ (how ≡ tripled.Invalid)

-- ---- a line asks for one thing

one-number : (line : List ℕ) (n m : ℕ) → IsTripleLine line n → IsTripleLine line m → n ≡ m
one-number line n m one other =
    let same : one.word ≡ other.word = ap (drop 7) (sym one.spelled ∙ other.spelled) in
    same_Some n m (sym one.counted ∙ ap number_of same ∙ other.counted)

-- `fields` names no triple
no-fields : (line : List ℕ) (number : ℕ) → line ≡ codes "fields" → IsTripleLine line number → ⊥
no-fields line number is named =
    let bad : codes "fields" ≡ codes "triple " ++ named.word = sym is ∙ named.spelled in
    absurd (cc)

one-request : (triples : ℕ) (line : List ℕ) (r q : Request) → Asks triples line r → Asks triples line q → r ≡ q
one-request triples line _ _ (fields is) (fields other) = refl
one-request triples line _ _ (fields is) (triple n named some within) = absurd (no-fields line n is named)
one-request triples line _ _ (triple n named some within) (fields is) = absurd (no-fields line n is named)
one-request triples line _ _ (triple n named some within) (triple m other any inside) = ap request.Triple (one-number line n m named other)

one-asked : (triples : ℕ) (lines : List (List ℕ)) (r q : Request) → IsRequest triples lines r → IsRequest triples lines q → r ≡ q
one-asked triples lines r q (line, is, asks) (other, same, more) =
    let here : other ≡ line = same_first (sym same ∙ is) in
    one-request triples line r q asks (subst (λ (l : List ℕ). Asks triples l q) here more)
  where
    same_first : other ∷ [] ≡ line ∷ [] → other ≡ line
    same_first e = cc

-- and what asks for something isn't refused
not-refused : (triples : ℕ) (lines : List (List ℕ)) (r : Request) (fault : RequestFault) → IsRequest triples lines r → IsRequestFault triples lines fault → ⊥
not-refused triples _ r _ (line, is, asks) nothing = absurd (cc)
not-refused triples _ r _ (line, is, asks) (no_form first more none other) =
    let here : line ≡ first = cc in
    formless r (subst (λ (l : List ℕ). Asks triples l r) here asks)
  where
    formless : (q : Request) → Asks triples first q → ⊥
    formless _ (fields same) = none same
    formless _ (triple n named some within) = other n named
not-refused triples _ r _ (line, is, asks) (no_triple first more number named over) =
    let here : line ≡ first = cc in
    unknown r (subst (λ (l : List ℕ). Asks triples l r) here asks)
  where
    unknown : (q : Request) → Asks triples first q → ⊥
    unknown _ (fields same) = no-fields first number same named
    unknown _ (triple n again some within) = let same = one-number first n number again named in omega (arith, same, within, over)
not-refused triples _ r _ (line, is, asks) (too_much first second more other also) = absurd (cc)

-- ---- whole texts

module _ (laws : Laws) (text : List ℕ) (limit : ℕ) (program : TypedProgram) (triples : List Triple) (r : Request)
    (spells : SpellsRequest text program triples r) where
  not-stopped : (refusal : Refusal) → IsPartStop text (stop.Refused refusal) → ⊥
  not-stopped refusal (uncut_stop none is) = cut_or_not text spells.part spells.after spells.cut none
  not-stopped refusal (cut_stop part after again is) =
      let same = one_cut text part spells.part after spells.after again spells.cut in
      laws.apart spells.part program triples refusal spells.read (subst (λ (p : List ℕ). IsRefusedAs p refusal) same.0 is)

  told : (q : Request) (lines : List ℕ) (status : Status) → JudgesRequest limit program triples q lines status → JudgesEach limit program triples q lines status
  told _ _ _ (judging.stopped q lines ways reports some) = some_field q lines ways (laws.fields limit program.types lines ways reports) some
  told _ _ _ (judging.fields every) = each_field every
  told _ _ _ (judging.triple place t lines how every there report) =
      one_triple place t lines how every there report (laws.triple limit program (suc place) t lines how report)

  -- the part behind `---` is the one that is spelled
  answered : (ls : Option (List (List ℕ))) (output : List ℕ) (status : Status) → JudgesPart limit program triples ls output status →
      ls ≡ Some (lines_of spells.after) → JudgesEach limit program triples r output status
  answered _ _ _ no_part is = absurd (cc)
  answered _ _ _ (no_request ls fault bad) is =
      let here : ls ≡ lines_of spells.after = cc in
      absurd (not-refused (length triples) (lines_of spells.after) r fault spells.asked
      (subst (λ (l : List (List ℕ)). IsRequestFault (length triples) l fault) here bad))
  answered _ _ _ (asked ls q output status is_request judges) is =
      let here : ls ≡ lines_of spells.after = cc in
      let asks = subst (λ (l : List (List ℕ)). IsRequest (length triples) l q) here is_request in
      let one = one-asked (length triples) (lines_of spells.after) q r asks spells.asked in
      told r output status (subst (λ (x : Request). JudgesRequest limit program triples x output status) one judges)

  behind-cut : (part after : List ℕ) (other : TypedProgram) (others : List Triple) (output : List ℕ) (status : Status) → IsCutAs text part after →
      IsReadAs part other others → JudgesPart limit other others (Some (lines_of after)) output status → JudgesEach limit program triples r output status
  behind-cut part after other others output status again read judges =
      let parts = one_cut text part spells.part after spells.after again spells.cut in
      let same = laws.one spells.part other program others triples (subst (λ (p : List ℕ). IsReadAs p other others) parts.0 read) spells.read in
      let of_program = subst (λ (p : TypedProgram). JudgesPart limit p others (Some (lines_of after)) output status) same.0 judges in
      let of_triples = subst (λ (ts : List Triple). JudgesPart limit program ts (Some (lines_of after)) output status) same.1 of_program in
      answered (Some (lines_of after)) output status of_triples (ap (λ (l : List (List ℕ)). Some l) parts.1)

  pub judged_each : (output : List ℕ) (status : Status) → length text ≤ most_bytes → Judges limit text output status →
      JudgesEach limit program triples r output status
  judged_each _ _ short (too_long more) = absurd (omega (arith, more, short))
  judged_each _ _ short (refused refusal within stopped) = absurd (not-stopped refusal stopped)
  judged_each _ _ short (uncut other others output status within none read judges) = absurd (cut_or_not text spells.part spells.after spells.cut none)
  judged_each _ _ short (cut part after other others output status within again read judges) =
      behind-cut part after other others output status again read judges
