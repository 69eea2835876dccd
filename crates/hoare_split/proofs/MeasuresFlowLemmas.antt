-- Counts of flows, by their parts, and the faults of the triples of these flows.
use Rattle.std.proofs.Common.{◌≡◌, ℕ, ◌+◌, min, Bool, true, false, nat_lt, Some, None, List, [], ◌∷◌, ◌++◌, length, map, refl, sym, ap, ap₂, ◌∙◌, arith}
use Rattle.std.specs.List.{sum_by}
use Rattle.std.proofs.lemmas.List.Sums.{sum_by-cons}
use Rattle.std.proofs.lemmas.Bool.Decides.{nat_tests}
use Rattle.pale_text.specs.declared.refusal.RefusalKind.TheVariants as kind
use Rattle.pale_tables.specs.Faults.{Fault, need, ◌>>◌, first_of}
use Rattle.store_core.specs.declared.ids.VarId.{VarId}
use Rattle.store_core.specs.Tables.{VarEntry}
use Rattle.store_logic.specs.declared.act.Act.{Act}
use Rattle.store_logic.specs.declared.act.Act.TheVariants as act
use Rattle.store_logic.specs.declared.cond.Cond.{Cond}
use Rattle.store_exec.specs.declared.code.Item.{Item}
use Rattle.store_exec.specs.declared.code.Item.TheVariants as item
use Rattle.store_exec.specs.Fits.{news_of_act, news_of_rhs, news_of_item, news_of}
use Rattle.store_exec.proofs.GoingLemmas.{news-Do, news-If}
use Rattle.pale_calls.specs.declared.class.VarClass.{VarClass}
use Rattle.pale_calls.specs.Classes.{holds_cell}
use Rattle.hoare_split.specs.declared.counts.Count.{Count}
use Rattle.hoare_split.specs.Picking.{class_at, those}
use Rattle.hoare_split.specs.Settings.{blank, setting, settings}
use Rattle.hoare_split.specs.Flows.{Arrival, Flow, ends, does, branches, after_items}
use Rattle.hoare_split.specs.Passages.{Started}
use Rattle.hoare_split.specs.Counts.{atoms_of_item}
use Rattle.hoare_split.specs.Triples.{count_fault, start_fault}
use Rattle.hoare_split.specs.Measures.{atoms_on, news_on, count_of, or_later, first_fault}
use Rattle.hoare_split.proofs.CountsCodeLemmas.{atoms-Do, atoms-If, atoms-code_of, news-code_of}

-- ---- counts

-- both counts together, as far as they are kept
abbrev pub together : Count → Count → Count
together one other = record { atoms = min 129 (one.atoms + other.atoms); news = min 65 (one.news + other.news) }

min-sum : (most m n : ℕ) → min most (min most m + min most n) ≡ min most (m + n)
min-sum most m n = omega arith

-- the count of a flow with so many
pub count-is : (flow : Flow) (m n : ℕ) → atoms_on flow ≡ m → news_on flow ≡ n → count_of flow ≡ record { atoms = min 129 m; news = min 65 n }
unfolding count_of
count-is flow m n atoms news = ap₂ (λ (x y : ℕ). let made : Count = record { atoms = min 129 x; news = min 65 y } in made) atoms news

-- one of a flow that has those of two others
pub count-together : (one other flow : Flow) → atoms_on flow ≡ atoms_on one + atoms_on other → news_on flow ≡ news_on one + news_on other →
    together (count_of one) (count_of other) ≡ count_of flow
unfolding count_of
count-together one other flow atoms news = ap₂ (λ (x y : ℕ). let made : Count = record { atoms = x; news = y } in made)
    (min-sum 129 (atoms_on one) (atoms_on other) ∙ ap (min 129) (sym atoms))
    (min-sum 65 (news_on one) (news_on other) ∙ ap (min 65) (sym news))

-- at a cut
pub count-ends : (a : Arrival) → count_of (ends a) ≡ record { atoms = 0; news = 0 }
count-ends a = count-is (ends a) 0 0 refl refl

-- behind an act
pub count-does : (line : ℕ) (a : Act) (flow : Flow) →
    together (record { atoms = 1; news = news_of_act a }) (count_of flow) ≡ count_of (does (item.Do line a) flow)
unfolding count_of
count-does line a flow =
    let atoms = atoms-Do line a in
    let news = news-Do line a in
    ap₂ (λ (x y : ℕ). let made : Count = record { atoms = x; news = y } in made)
    (omega (arith, atoms)) (omega (arith, news))

-- at a branch
pub count-branches : (line : ℕ) (c : Cond) (taken other : Flow) →
    together (together (record { atoms = min 129 1; news = 0 }) (count_of taken)) (count_of other) ≡ count_of (branches line c taken other)
unfolding count_of
count-branches line c taken other =
    ap₂ (λ (x y : ℕ). let made : Count = record { atoms = x; news = y } in made) (omega arith) (omega arith)

-- ---- items

pub atoms-items : (items : List Item) (flow : Flow) → atoms_on (after_items items flow) ≡ sum_by atoms_of_item items + atoms_on flow
atoms-items [] flow = omega arith
atoms-items (i ∷ items) flow =
    let more = atoms-items items flow in
    let first = sum_by-cons atoms_of_item i items in
    omega (arith, more, first)

pub news-items : (items : List Item) (flow : Flow) → news_on (after_items items flow) ≡ news_of items + news_on flow
news-items [] flow = omega arith
news-items (i ∷ items) flow =
    let more = news-items items flow in
    let first = sum_by-cons news_of_item i items in
    omega (arith, more, first)

-- an `if` that is one item counts as the branch that it would be before cuts, and then what follows it
pub count-If : (line : ℕ) (c : Cond) (ones others : List Item) (a b : Arrival) (flow : Flow) →
    together (count_of (branches line c (after_items ones (ends a)) (after_items others (ends b)))) (count_of flow)
    ≡ count_of (does (item.If line c ones others) flow)
count-If line c ones others a b flow =
    let atoms = atoms-If line c ones others in
    let news = news-If line c ones others in
    let one_atoms = atoms-items ones (ends a) in
    let other_atoms = atoms-items others (ends b) in
    let one_news = news-items ones (ends a) in
    let other_news = news-items others (ends b) in
    count-together (branches line c (after_items ones (ends a)) (after_items others (ends b))) flow (does (item.If line c ones others) flow)
    (omega (arith, atoms, one_atoms, other_atoms)) (omega (arith, news, one_news, other_news))

-- ---- settings

no-news : (of : VarClass) → news_of_rhs (blank of) ≡ 0
no-news of = by (holds_cell of) refl
  where
    by : (b : Bool) → holds_cell of ≡ b → news_of_rhs (blank of) ≡ 0
    by true e = rw e refl
    by false e = rw e refl

module _ (vars : List VarEntry) (line : ℕ) (a : Arrival) where
  atoms-settings : (vs : List VarId) → atoms_on (after_items (map (setting vars line) vs) (ends a)) ≡ length vs
  atoms-settings [] = refl
  atoms-settings (v ∷ vs) =
      let more = atoms-settings vs in
      let first = atoms-Do line (act.Assign (record { var = v; fields = [] }) (blank (class_at vars v))) in
      omega (arith, more, first)

  news-settings : (vs : List VarId) → news_on (after_items (map (setting vars line) vs) (ends a)) ≡ 0
  news-settings [] = refl
  news-settings (v ∷ vs) =
      let more = news-settings vs in
      let first = news-Do line (act.Assign (record { var = v; fields = [] }) (blank (class_at vars v))) in
      let none = no-news (class_at vars v) in
      omega (arith, more, first, none)

  -- settings and then a cut
  pub count-settings : (is : VarClass → VarId → Bool) →
      count_of (after_items (settings vars is line) (ends a)) ≡ record { atoms = min 129 (length (those is vars)); news = 0 }
  count-settings is = count-is (after_items (settings vars is line) (ends a)) (length (those is vars)) 0
      (atoms-settings (those is vars)) (news-settings (those is vars))

-- ---- faults

less-min : (most n : ℕ) → nat_lt (min (most + 1) n) (most + 1) ≡ nat_lt n (most + 1)
less-min most n = grind (arith, nat_tests)

-- the fault of a triple is that of its count
pub start-fault : (s : Started) → count_fault s.place (count_of s.flow).atoms (count_of s.flow).news ≡ start_fault s
unfolding count_of
start-fault s = ap₂ (λ (x y : Bool). need x kind.LongPart s.place >> need y kind.ManyNew s.place)
    (less-min 128 (atoms_on s.flow) ∙ ap (λ (n : ℕ). nat_lt n 129) (sym (atoms-code_of s.flow)))
    (less-min 64 (news_on s.flow) ∙ ap (λ (n : ℕ). nat_lt n 65) (sym (news-code_of s.flow)))

then-assoc : (one other last : Fault) → ((one >> other) >> last) ≡ (one >> (other >> last))
then-assoc None other last = refl
then-assoc (Some refusal) other last = refl

pub first_fault-cons : (s : Started) (starts : List Started) (later : Fault) →
    first_fault (s ∷ starts) later ≡ or_later (start_fault s) (first_fault starts later)
first_fault-cons s starts later = then-assoc (start_fault s) (first_of start_fault starts) later

pub first_fault-append : (xs ys : List Started) (later : Fault) → first_fault (xs ++ ys) later ≡ first_fault xs (first_fault ys later)
first_fault-append [] ys later = refl
first_fault-append (s ∷ xs) ys later = first_fault-cons s (xs ++ ys) later
    ∙ ap (λ fault. start_fault s >> fault) (first_fault-append xs ys later)
    ∙ sym (first_fault-cons s xs (first_fault ys later))

pub then-none : (fault : Fault) → (fault >> None) ≡ fault
then-none None = refl
then-none (Some refusal) = refl
