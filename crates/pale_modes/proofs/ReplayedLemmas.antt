-- A text that spells a store in a triple of a program is answered by what comes of that store.
use Rattle.std.proofs.Common.{◌≡◌, ◌∙◌, ◌≤◌, ℕ, suc, List, ◌∷◌, drop, length, Some, None, Ok, Err, slice_get, refl, sym, ap, subst, arith}
use Rattle.std.proofs.lemmas.Option.{same_Some}
use Rattle.pale_text.specs.declared.refusal.Refusal.{Refusal}
use Rattle.pale_text.specs.declared.refusal.TextStop.TheVariants as stop
use Rattle.store_core.specs.Stores.{StoreMap}
use Rattle.store_exec.specs.declared.triple.Triple.{Triple}
use Rattle.store_text.specs.declared.fault.StoreKind.{StoreKind}
use Rattle.store_text.specs.Lines.{lines_of}
use Rattle.store_text.specs.Reading.{read_text}
use Rattle.store_text.specs.Spelling.{number_of}
use Rattle.pale_typed.specs.declared.typed.ProcEntry.{ProcEntry}
use Rattle.pale_typed.specs.TypedPrograms.{TypedProgram}
use Rattle.whole_program.specs.ProgramTexts.{IsReadAs, IsRefusedAs}
use Rattle.pale_replay.specs.declared.answer.Answer.{Answer}
use Rattle.pale_parts.specs.Parts.{IsTripleLine}
use Rattle.pale_replay.specs.Replaying.{NamesTriple, IsRefusedAt, nothing, no_triple_line, no_triple, no_store, SaysOf, IsReplayOf, uncut, cut}
use Rattle.pale_starts.specs.Stops.{IsPartStop, uncut_stop, cut_stop}
use Rattle.pale_replay.specs.Replaying as saying
use Rattle.pale_replay.specs.Lines.{line_of}
use Rattle.pale_status.specs.declared.status.Status.{Status}
use Rattle.pale_status.specs.Texts.{most_bytes}
use Rattle.pale_modes.specs.Replaying.{Replays, status_of, too_long, refused, replay}
use Rattle.pale_modes.specs.Completing.{SpellsStore, TellsStore}
use Rattle.pale_modes.proofs.CutLemmas.{one_cut, cut_or_not}

-- ---- a line names one triple

one-number : (line : List ℕ) (n m : ℕ) → IsTripleLine line n → IsTripleLine line m → n ≡ m
one-number line n m one other =
    let same : one.word ≡ other.word = ap (drop 7) (sym one.spelled ∙ other.spelled) in
    same_Some n m (sym one.counted ∙ ap number_of same ∙ other.counted)

module _ (program : TypedProgram) (triples : List Triple) where
  pub one-place : (line : List ℕ) (p q : ℕ) → IsTripleLine line (suc p) → IsTripleLine line (suc q) → p ≡ q
  one-place line p q one other = let same = one-number line (suc p) (suc q) one other in omega (arith, same)

  pub one-triple : (line : List ℕ) (t u : Triple) (e d : ProcEntry) → NamesTriple program triples line t e → NamesTriple program triples line u d →
      (t ≡ u) × (e ≡ d)
  one-triple line t u e d one other =
      let place = one-place line one.place other.place one.number other.number in
      let same : t ≡ u = same_Some t u (sym one.there ∙ ap (λ p. slice_get triples p) place ∙ other.there) in
      (same, same_Some e d (sym one.entry ∙ ap (λ (x : Triple). slice_get program.procs x.proc) same ∙ other.entry))

  -- ---- lines that spell a store

  module _ (first : List ℕ) (rest : List (List ℕ)) (t : Triple) (e : ProcEntry) (s : StoreMap) (named : NamesTriple program triples first t e)
      (reads : read_text program.types e.vars rest ≡ Ok s) where
    -- they aren't refused
    not-refused : (lines : List (List ℕ)) (n : ℕ) (kind : StoreKind) → IsRefusedAt program triples lines n kind → lines ≡ first ∷ rest → ⊥
    not-refused _ _ _ nothing is = absurd (cc)
    not-refused _ _ _ (no_triple_line line lines none) is =
        let here : first ≡ line = cc in
        none (suc named.place) (subst (λ (l : List ℕ). IsTripleLine l (suc named.place)) here named.number)
    not-refused _ _ _ (no_triple line lines place number there) is =
        let here : line ≡ first = cc in
        let same = one-place first place named.place (subst (λ (l : List ℕ). IsTripleLine l (suc place)) here number) named.number in
        let bad : None ≡ Some t = sym there ∙ ap (λ p. slice_get triples p) same ∙ named.there in
        absurd (cc)
    not-refused _ _ _ (no_store line lines u d fault names fails) is =
        let here : line ≡ first = cc in
        let later : lines ≡ rest = cc in
        let same = one-triple first u t d e (subst (λ (l : List ℕ). NamesTriple program triples l u d) here names) named in
        let bad : Err fault ≡ Ok s = sym fails ∙ ap (λ (x : ProcEntry). read_text program.types x.vars lines) same.1
        ∙ ap (read_text program.types e.vars) later ∙ reads in
        absurd (cc)

    said : (lines : List (List ℕ)) (a : Answer) (line : List ℕ) → SaysOf program triples lines a line → lines ≡ first ∷ rest →
        TellsStore program.types e.vars t s line (status_of a)
    said _ _ _ (saying.refused lines n kind why) is = absurd (not-refused lines n kind why is)
    said _ _ _ (saying.store line lines u d other a names ok comes) is =
        let here : line ≡ first = cc in
        let later : lines ≡ rest = cc in
        let same = one-triple first u t d e (subst (λ (l : List ℕ). NamesTriple program triples l u d) here names) named in
        let both : Ok other ≡ Ok s = sym ok ∙ ap (λ (x : ProcEntry). read_text program.types x.vars lines) same.1
        ∙ ap (read_text program.types e.vars) later ∙ reads in
        let one : other ≡ s = cc in
        let told = line_of program.types d.vars a in
        let tells : TellsStore program.types d.vars u other told (status_of a) = record { answer = a; comes = comes; told = refl; ends = refl } in
        let of_t = subst (λ (x : Triple). TellsStore program.types d.vars x other told (status_of a)) same.0 tells in
        let of_e = subst (λ (x : ProcEntry). TellsStore program.types x.vars t other told (status_of a)) same.1 of_t in
        subst (λ (x : StoreMap). TellsStore program.types e.vars t x told (status_of a)) one of_e

-- ---- whole texts

-- what the layers below say of readings of programs
pub record Laws : Type 0 where
  pub one : (text : List ℕ) (program other : TypedProgram) (triples others : List Triple) → IsReadAs text program triples →
      IsReadAs text other others → (program ≡ other) × (triples ≡ others)
  pub apart : (text : List ℕ) (program : TypedProgram) (triples : List Triple) (refusal : Refusal) → IsReadAs text program triples →
      IsRefusedAs text refusal → ⊥

module _ (laws : Laws) (text : List ℕ) (program : TypedProgram) (t : Triple) (e : ProcEntry) (s : StoreMap)
    (spells : SpellsStore text program t e s) where
  -- its program's part isn't refused
  not-stopped : (r : Refusal) → IsPartStop text (stop.Refused r) → ⊥
  not-stopped r (uncut_stop none is) = cut_or_not text spells.part spells.after spells.cut none
  not-stopped r (cut_stop part after again is) =
      let same = one_cut text part spells.part after spells.after again spells.cut in
      laws.apart spells.part program spells.triples r spells.read (subst (λ (p : List ℕ). IsRefusedAs p r) same.0 is)

  answered : (a : Answer) (line : List ℕ) → IsReplayOf text a line → TellsStore program.types e.vars t s line (status_of a)
  answered _ _ (uncut other others none read) = absurd (cut_or_not text spells.part spells.after spells.cut none)
  answered _ _ (cut part after other others a line again read says) =
      let parts = one_cut text part spells.part after spells.after again spells.cut in
      let here = subst (λ (p : List ℕ). IsReadAs p other others) parts.0 read in
      let same = laws.one spells.part other program others spells.triples here spells.read in
      let of_program = subst (λ (p : TypedProgram). SaysOf p others (lines_of after) a line) same.0 says in
      let of_triples = subst (λ (ts : List Triple). SaysOf program ts (lines_of after) a line) same.1 of_program in
      said program spells.triples spells.first spells.lines t e s spells.named spells.store (lines_of after) a line of_triples
      (parts.1 ∙ spells.begins)

  pub replayed : (output : List ℕ) (status : Status) → length text ≤ most_bytes → Replays text output status →
      TellsStore program.types e.vars t s output status
  replayed _ _ short (too_long more) = absurd (omega (arith, more, short))
  replayed _ _ short (refused r within stopped) = absurd (not-stopped r stopped)
  replayed _ _ short (replay a line within is) = answered a line is
