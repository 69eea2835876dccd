-- How sets go along with steps.
use Rattle.std.proofs.Common.{◌≡◌, ◌⊎◌, inl, inr, ℕ, ◌+◌, ◌<◌, ◌≤◌, Bool, true, false, List, [], ◌∷◌, ◌++◌, map}
use Rattle.std.proofs.Common.{length, take, get_or, Contains, Some, slice_get, Result, Ok, Err, refl, ap, sym, ◌∙◌, subst, eqb-true, eq-eqb}
use Rattle.std.proofs.lemmas.List.{take_more, take_all}
use Rattle.std.specs.Prelude.{◌↔◌, IsTrue, IfOk, nat_eq}
use Rattle.std.specs.List.{flat_map}
use Rattle.std.specs.List.Sorted.{IsStrictlyIncreasing}
use Rattle.std.proofs.lemmas.Bool.{false≢true}
use Rattle.std.proofs.lemmas.Option.{slice_get-get_or}
use Rattle.std.proofs.lemmas.List.Elements.{Contains-append_left, Contains-append_right, Contains-append_cases}
use Rattle.labels.specs.Labels.{Label}
use Rattle.gta_theory.specs.Guides.{Spaces, left, right}
use Rattle.gta_theory.specs.Constructions.{IsStepOf}
use Rattle.gta_theory.proofs.ListsLemmas.{Contains-none, Contains-map, Contains-mapped, Contains-flat_map, Contains-first, Contains-later}
use Rattle.cert_text.specs.declared.line.SetLine.{SetLine}
use Rattle.cert_theory.specs.Tables.{NamedSet, SetGoesTo}
use Rattle.cert_nodes.specs.declared.spots.Spot.{Spot}
use Rattle.cert_nodes.specs.declared.spots.Diagrams.{Diagrams}
use Rattle.cert_nodes.specs.Spots.{state_at, states_at, IsLedTo}
use Rattle.cert_nodes.proofs.WalksLemmas.{last, push-cases}
use Rattle.cert_tables.specs.declared.table.Table.{Table}
use Rattle.cert_tables.specs.Automata.{class_in, spot_in, table_automaton}
use Rattle.cert_tables.specs.SetKeys.{named_set, IsLineOf, AreSets, HasSet}
use Rattle.cert_tables.specs.Sets.{ClassKey, HasSame, AreClassesOfSet, HasSetClasses, AreSetClasses, fixed_spot, row_spots, cells_of, set_spots_of}
use Rattle.cert_tables.specs.Sets.{SetGoes, AllSetsGo, SetsGoAlong}
use Rattle.cert_tables.specs.Starts.{IsLedBy, AreLedBy}
use Rattle.cert_tables.proofs.RisingLemmas.{rising-unique}
use Rattle.cert_tables.proofs.TestsLemmas.{same-some}

-- ---- sets by their members

pub goes-by-set : (lines : List SetLine) (s : ℕ) (members : List ℕ) (z : ℕ) (xs : List ℕ) → HasSet lines s members z → HasSame members xs →
    SetGoesTo (map named_set lines) s (Contains xs) z
goes-by-set lines s members z xs set same = record {
  set = named_set set.line;
  listed = Contains-map named_set lines set.line set.listed;
  in_space = set.in_space;
  exactly = λ q. subst (λ (ms : List ℕ). Contains ms q ↔ Contains xs q) (sym set.has) (same q);
  is_state = set.is_state;
}

pub set-by-goes : (lines : List SetLine) (s : ℕ) (members : List ℕ) (z : ℕ) (xs : List ℕ) → AreSets lines → IsStrictlyIncreasing members →
    HasSame members xs → SetGoesTo (map named_set lines) s (Contains xs) z → HasSet lines s members z
set-by-goes lines s members z xs sets up same goes =
    let found = Contains-mapped named_set lines goes.set goes.listed in
    let both : HasSame found.0.members members = λ q. (
      (λ listed. (same q).1 ((goes.exactly q).0 (subst (λ (n : NamedSet). Contains n.members q) found.2 listed))),
      (λ listed. subst (λ (n : NamedSet). Contains n.members q) (sym found.2) ((goes.exactly q).1 ((same q).0 listed))),
    ) in
    record {
      line = found.0;
      listed = found.1;
      in_space = ap (λ (n : NamedSet). n.space) found.2 ∙ goes.in_space;
      has = rising-unique found.0.members members (sets.rising found.0 found.1) up both;
      is_state = ap (λ (n : NamedSet). n.state) found.2 ∙ goes.is_state;
    }

line-at : (lines : List SetLine) (s : ℕ) (members : List ℕ) (x : ℕ) (set : HasSet lines s members x) → IsLineOf lines s members set.listed.0
line-at lines s members x set = record {
  line = set.line;
  at = slice_get-get_or lines set.listed.0 set.line set.listed.1 ∙ ap (λ (l : SetLine). Some l) set.listed.2;
  in_space = set.in_space;
  has = set.has;
}

pub has-once : (lines : List SetLine) (s : ℕ) (members : List ℕ) (x y : ℕ) → AreSets lines → HasSet lines s members x → HasSet lines s members y → x ≡ y
unfolding line-at
has-once lines s members x y sets one other =
    let first = line-at lines s members x one in
    let second = line-at lines s members y other in
    let place = sets.once one.listed.0 other.listed.0 s members first second in
    let is : one.line ≡ other.line = same-some one.line other.line
    (sym first.at ∙ ap (λ (n : ℕ). slice_get lines n) place ∙ second.at) in
    sym one.is_state ∙ ap (λ (l : SetLine). l.state) is ∙ other.is_state

-- what a look-up of the set answers
pub set-found : (lines : List SetLine) (s : ℕ) (members : List ℕ) (z state : ℕ) (xs : List ℕ) → AreSets lines → IsStrictlyIncreasing members →
    HasSame members xs → HasSet lines s members state → IsTrue (nat_eq state z) ↔ SetGoes (map named_set lines) s (z ∷ xs)
set-found lines s members z state xs sets up same set = (
  (λ yes. goes-by-set lines s members z xs (subst (HasSet lines s members) (eqb-true state z yes) set) same),
  (λ goes. eq-eqb state z (has-once lines s members state z sets set (set-by-goes lines s members z xs sets up same goes))),
)

pub set-missing : (lines : List SetLine) (s : ℕ) (members : List ℕ) (z : ℕ) (xs : List ℕ) → AreSets lines → IsStrictlyIncreasing members →
    HasSame members xs → ((state : ℕ) → HasSet lines s members state → ⊥) → IsTrue false ↔ SetGoes (map named_set lines) s (z ∷ xs)
set-missing lines s members z xs sets up same none = (
  (λ yes. absurd (false≢true yes)),
  (λ goes. absurd (none z (set-by-goes lines s members z xs sets up same goes))),
)

-- ---- the classes of sets, one after the other

module _ (is_right : Bool) (s child : ℕ) (a c : Table) where
  pub set-classes-none : AreSetClasses is_right s child a c [] []
  set-classes-none = record {
    all = λ line listed here. absurd (Contains-none line listed);
    only = λ key listed. absurd (Contains-none key listed);
  }

  more : (lines : List SetLine) (line : SetLine) (key : ClassKey) → HasSetClasses is_right s child a c lines key →
      HasSetClasses is_right s child a c (lines ++ line ∷ []) key
  more lines line key has = record {
    line = has.line;
    listed = Contains-append_left lines (line ∷ []) has.line has.listed;
    in_space = has.in_space;
    classes = has.classes;
  }

  pub set-classes-insert : (lines : List SetLine) (line : SetLine) (keys grown : List ClassKey) (key : ClassKey) →
      AreSetClasses is_right s child a c lines keys → line.space ≡ child → AreClassesOfSet is_right s a c line key →
      ((other : ClassKey) → Contains grown other ↔ (Contains keys other ⊎ (key ≡ other))) →
      AreSetClasses is_right s child a c (lines ++ line ∷ []) grown
  set-classes-insert lines line keys grown key are here of adds = record {
    all = λ other listed in_child. elim (push-cases lines line other listed)
        as (λ _. (k : ClassKey) × Contains grown k × AreClassesOfSet is_right s a c other k) [
          | inl old ↦ (let k = are.all other old in_child in (k.0, (adds k.0).1 (inl k.1), k.2))
          | inr is ↦ (key, (adds key).1 (inr refl), subst (λ (l : SetLine). AreClassesOfSet is_right s a c l key) is of)
        ];
    only = λ other listed. elim ((adds other).0 listed) [
      | inl old ↦ more lines line other (are.only other old)
      | inr is ↦ record { line = line; listed = last lines line; in_space = here; classes = subst (AreClassesOfSet is_right s a c line) is of }
    ];
  }

  pub set-classes-skip : (lines : List SetLine) (line : SetLine) (keys : List ClassKey) → AreSetClasses is_right s child a c lines keys →
      (line.space ≡ child → ⊥) → AreSetClasses is_right s child a c (lines ++ line ∷ []) keys
  set-classes-skip lines line keys are elsewhere = record {
    all = λ other listed in_child. elim (push-cases lines line other listed)
        as (λ _. (k : ClassKey) × Contains keys k × AreClassesOfSet is_right s a c other k) [
          | inl old ↦ are.all other old in_child
          | inr is ↦ absurd (elsewhere (ap (λ (l : SetLine). l.space) is ∙ in_child))
        ];
    only = λ other listed. more lines line other (are.only other listed);
  }

  pub set-classes-insert-next : (lines : List SetLine) (i : ℕ) (none : SetLine) (keys grown : List ClassKey) (key : ClassKey) → i < length lines →
      AreSetClasses is_right s child a c (take i lines) keys → (get_or lines i none).space ≡ child →
      AreClassesOfSet is_right s a c (get_or lines i none) key →
      ((other : ClassKey) → Contains grown other ↔ (Contains keys other ⊎ (key ≡ other))) →
      AreSetClasses is_right s child a c (take (i + 1) lines) grown
  set-classes-insert-next lines i none keys grown key inside are here of adds =
      subst (λ (ls : List SetLine). AreSetClasses is_right s child a c ls grown) (sym (take_more lines i none inside))
      (set-classes-insert (take i lines) (get_or lines i none) keys grown key are here of adds)

  pub set-classes-skip-next : (lines : List SetLine) (i : ℕ) (none : SetLine) (keys : List ClassKey) → i < length lines →
      AreSetClasses is_right s child a c (take i lines) keys → ((get_or lines i none).space ≡ child → ⊥) →
      AreSetClasses is_right s child a c (take (i + 1) lines) keys
  set-classes-skip-next lines i none keys inside are elsewhere =
      subst (λ (ls : List SetLine). AreSetClasses is_right s child a c ls keys) (sym (take_more lines i none inside))
      (set-classes-skip (take i lines) (get_or lines i none) keys are elsewhere)

  pub set-classes-whole : (lines : List SetLine) (i : ℕ) (keys : List ClassKey) → length lines ≤ i →
      AreSetClasses is_right s child a c (take i lines) keys → AreSetClasses is_right s child a c lines keys
  set-classes-whole lines i keys all are = subst (λ (ls : List SetLine). AreSetClasses is_right s child a c ls keys) (take_all i lines all) are

-- ---- what the cells of two keys lead to

flat-mapped : {X Y : Type 0} (f : X → List Y) (xs : List X) (y : Y) → Contains (flat_map f xs) y → (x : X) × Contains xs x × Contains (f x) y
flat-mapped f [] y listed = absurd (Contains-none y listed)
flat-mapped {X} f (x ∷ xs) y listed = elim (Contains-append_cases (f x) (flat_map f xs) y listed) as (λ _. (z : X) × Contains (x ∷ xs) z × Contains (f z) y) [
  | inl here ↦ (x, Contains-first x xs, here)
  | inr later ↦ (let z = flat-mapped f xs y later in (z.0, Contains-later x z.0 xs z.1, z.2))
]

module _ (d : Diagrams) (a : Table) (s t : ℕ) (label : Label) (lefts rights ls rs : List ℕ)
    (of_left : HasSame ls (map (class_in a false s) lefts)) (of_right : HasSame rs (map (class_in a true s) rights)) where
  abbrev Step : ℕ → Type 0
  Step = IsStepOf (table_automaton d a) t s (Contains lefts) (Contains rights) label

  cell-step : (bit : Bool) (q : ℕ) (spot : Spot) → Contains (cells_of a s bit ls rs) spot → state_at d t label spot ≡ q → Step q
  cell-step bit q spot listed is =
      let row = flat-mapped (row_spots a s bit rs) ls spot listed in
      let cell = Contains-mapped (fixed_spot a s bit row.0) rs spot row.2 in
      let p = Contains-mapped (class_in a false s) lefts row.0 ((of_left row.0).0 row.1) in
      let r = Contains-mapped (class_in a true s) rights cell.0 ((of_right cell.0).0 cell.1) in
      record {
        left = p.0;
        right = r.0;
        bit = bit;
        in_left = p.1;
        in_right = r.1;
        is_step = ap (λ (k : ℕ). state_at d t label (fixed_spot a s bit k (class_in a true s r.0))) p.2
            ∙ ap (λ (m : ℕ). state_at d t label (fixed_spot a s bit row.0 m)) r.2
            ∙ ap (state_at d t label) cell.2 ∙ is;
      }

  step-cell : (bit : Bool) (p r : ℕ) → Contains lefts p → Contains rights r →
      Contains (cells_of a s bit ls rs) (fixed_spot a s bit (class_in a false s p) (class_in a true s r))
  step-cell bit p r in_left in_right =
      Contains-flat_map (row_spots a s bit rs) ls (class_in a false s p) (fixed_spot a s bit (class_in a false s p) (class_in a true s r))
      ((of_left (class_in a false s p)).1 (Contains-map (class_in a false s) lefts p in_left))
      (Contains-map (fixed_spot a s bit (class_in a false s p)) rs (class_in a true s r)
      ((of_right (class_in a true s r)).1 (Contains-map (class_in a true s) rights r in_right)))

  side-cell : (bit : Bool) (spot : Spot) → Contains (cells_of a s bit ls rs) spot → Contains (cells_of a s false ls rs ++ cells_of a s true ls rs) spot
  side-cell false spot listed = Contains-append_left (cells_of a s false ls rs) (cells_of a s true ls rs) spot listed
  side-cell true spot listed = Contains-append_right (cells_of a s false ls rs) (cells_of a s true ls rs) spot listed

  pub cells-step : (q : ℕ) → Contains (states_at d t (cells_of a s false ls rs ++ cells_of a s true ls rs) label) q ↔ Step q
  cells-step q = (
    (λ listed.
        let spot = Contains-mapped (state_at d t label) (cells_of a s false ls rs ++ cells_of a s true ls rs) q listed in
        elim (Contains-append_cases (cells_of a s false ls rs) (cells_of a s true ls rs) spot.0 spot.1) [
          | inl low ↦ cell-step false q spot.0 low spot.2
          | inr high ↦ cell-step true q spot.0 high spot.2
        ]),
    (λ step.
        let spot = fixed_spot a s step.bit (class_in a false s step.left) (class_in a true s step.right) in
        subst (Contains (states_at d t (cells_of a s false ls rs ++ cells_of a s true ls rs) label)) step.is_step
        (Contains-map (state_at d t label) (cells_of a s false ls rs ++ cells_of a s true ls rs) spot
        (side-cell step.bit spot (step-cell step.bit step.left step.right step.in_left step.in_right)))),
  )

-- ---- all together

pub ok-map : {T E : Type 0} (r : Result T E) (P Q : T → Type 0) → ((x : T) → P x → Q x) → IfOk r P → IfOk r Q
ok-map (Ok x) P Q into holds = into x holds
ok-map (Err e) P Q into holds = tt

iff-both : {A B C : Type 0} → A ↔ B → B ↔ C → A ↔ C
iff-both one other = ((λ x. other.0 (one.0 x)), (λ z. one.1 (other.1 z)))

pub iff-back : {A B : Type 0} → A ↔ B → B ↔ A
iff-back one = (one.1, one.0)

pub to-same : (table : List NamedSet) (s : ℕ) (Members Others : ℕ → Type 0) (z y : ℕ) → SetGoesTo table s Members z → ((q : ℕ) → Members q ↔ Others q) → z ≡ y →
    SetGoesTo table s Others y
to-same table s Members Others z y goes same is = record {
  set = goes.set;
  listed = goes.listed;
  in_space = goes.in_space;
  exactly = λ q. iff-both (goes.exactly q) (same q);
  is_state = goes.is_state ∙ is;
}

module _ (g : Spaces) (d : Diagrams) (a : Table) (t : ℕ) (c : Table) (lines : List SetLine) (s : ℕ) (lefts rights : List ClassKey)
    (starts : List (List Spot)) (lists : List (List ℕ))
    (in_left : AreSetClasses false s (left g s) a c lines lefts) (in_right : AreSetClasses true s (right g s) a c lines rights)
    (started : AreLedBy (set_spots_of s a c) lefts rights starts) where
  whole-step : (l r : SetLine) (kl kr : ClassKey) (label : Label) → AreClassesOfSet false s a c l kl → AreClassesOfSet true s a c r kr →
      state_at d t label (spot_in c s kl.0 kr.0) ≡ (table_automaton d c).step s l.state r.state label
  whole-step l r kl kr label of_l of_r =
      ap (λ (k : ℕ). state_at d t label (spot_in c s k kr.0)) of_l.state
      ∙ ap (λ (m : ℕ). state_at d t label (spot_in c s (class_in c false s l.state) m)) of_r.state

  all-along : ((spots : List Spot) (label : Label) → Contains starts spots → Contains lists (states_at d t spots label)) →
      AllSetsGo (map named_set lines) s lists → SetsGoAlong g (table_automaton d a) t (map named_set lines) (table_automaton d c) s
  all-along come go l r label in_l in_r on_left on_right =
      let line_l = Contains-mapped named_set lines l in_l in
      let line_r = Contains-mapped named_set lines r in_r in
      let kl = in_left.all line_l.0 line_l.1 (ap (λ (n : NamedSet). n.space) line_l.2 ∙ on_left) in
      let kr = in_right.all line_r.0 line_r.1 (ap (λ (n : NamedSet). n.space) line_r.2 ∙ on_right) in
      let spots = set_spots_of s a c kl.0 kr.0 in
      let start : IsLedBy (set_spots_of s a c) lefts rights spots = record {
        l = kl.0;
        on_left = kl.1;
        with_right = record { r = kr.0; on_right = kr.1; leads = refl };
      } in
      let to = go (states_at d t spots label) (come spots label ((started spots).1 start)) in
      let goes = to-same (map named_set lines) s
      (Contains (states_at d t (cells_of a s false kl.0.1 kr.0.1 ++ cells_of a s true kl.0.1 kr.0.1) label))
      (IsStepOf (table_automaton d a) t s (Contains line_l.0.members) (Contains line_r.0.members) label)
      (state_at d t label (spot_in c s kl.0.0 kr.0.0)) ((table_automaton d c).step s line_l.0.state line_r.0.state label) to
      (cells-step d a s t label line_l.0.members line_r.0.members kl.0.1 kr.0.1 kl.2.members kr.2.members)
      (whole-step line_l.0 line_r.0 kl.0 kr.0 label kl.2 kr.2) in
      subst (λ (n : NamedSet). SetGoesTo (map named_set lines) s
      (IsStepOf (table_automaton d a) t s (Contains n.members) (Contains r.members) label) ((table_automaton d c).step s n.state r.state label)) line_l.2
      (subst (λ (n : NamedSet). SetGoesTo (map named_set lines) s
      (IsStepOf (table_automaton d a) t s (Contains line_l.0.members) (Contains n.members) label)
      ((table_automaton d c).step s line_l.0.state n.state label)) line_r.2 goes)

  along-all : ((states : List ℕ) → Contains lists states → IsLedTo d t starts states) →
      SetsGoAlong g (table_automaton d a) t (map named_set lines) (table_automaton d c) s → AllSetsGo (map named_set lines) s lists
  along-all only along states listed =
      let from = only states listed in
      let start = (started from.start).0 from.listed in
      let kl = start.l in
      let kr = start.with_right.r in
      let l = in_left.only kl start.on_left in
      let r = in_right.only kr start.with_right.on_right in
      let label = from.label in
      let goes = along (named_set l.line) (named_set r.line) label (Contains-map named_set lines l.line l.listed)
      (Contains-map named_set lines r.line r.listed) l.in_space r.in_space in
      subst (SetGoes (map named_set lines) s) (ap (λ (spots : List Spot). states_at d t spots label) start.with_right.leads ∙ from.leads)
      (to-same (map named_set lines) s
      (IsStepOf (table_automaton d a) t s (Contains l.line.members) (Contains r.line.members) label)
      (Contains (states_at d t (cells_of a s false kl.1 kr.1 ++ cells_of a s true kl.1 kr.1) label))
      ((table_automaton d c).step s l.line.state r.line.state label) (state_at d t label (spot_in c s kl.0 kr.0)) goes
      (λ q. iff-back (cells-step d a s t label l.line.members r.line.members kl.1 kr.1 l.classes.members r.classes.members q))
      (sym (whole-step l.line r.line kl kr label l.classes r.classes)))

  pub sets-go-along : (result : Bool) →
      ((spots : List Spot) (label : Label) → Contains starts spots → Contains lists (states_at d t spots label)) →
      ((states : List ℕ) → Contains lists states → IsLedTo d t starts states) →
      IsTrue result ↔ AllSetsGo (map named_set lines) s lists →
      IsTrue result ↔ SetsGoAlong g (table_automaton d a) t (map named_set lines) (table_automaton d c) s
  sets-go-along result come only is = ((λ yes. all-along come (is.0 yes)), (λ along. is.1 (along-all only along)))
