-- From the walk to the calls.
use Rattle.std.proofs.Common.{◌≡◌, ℕ, suc, zero, ◌+◌, ◌/◌, ◌<◌, ◌≤◌, true, false, List, [], ◌∷◌, ◌++◌, drop, length, length-append, get_or, Option, Some}
use Rattle.std.proofs.Common.{None, IsTrue, sym, ◌∙◌, ap, refl, subst, arith}
use Rattle.std.specs.Prelude.{slice_get, slice_index, unwrap_or}
use Rattle.std.specs.List.{All, list_all}
use Rattle.std.proofs.Math.Path.{fun_ext}
use Rattle.std.proofs.Math.Seq.{drop-append_seam, take-append_seam}
use Rattle.bdd_nodes.specs.declared.node_ref.NodeRef.{NodeRef}
use Rattle.labels.specs.Labels.{Label, Function, with_track}
use Rattle.bdd_nodes.specs.Shelf.{Contents, IsShelf, IsValid}
use Rattle.bdd_nodes.specs.Changes.{is_valid}
use Rattle.bdd_nodes.proofs.SplitLemmas.{is_valid-IsValid}
use Rattle.bdd_walk.specs.Answers.{Answers, KeepsAnswers, Completes}
use Rattle.bdd_walk.specs.Asked.{leaves_of, asked_of}
use Rattle.bdd_walk.specs.Sides.{asked_by, half_of}
use Rattle.bdd_walk.specs.Rules.{itself_of, renamed_by, first_state}
use Rattle.bdd_walk.specs.Progress.{Call, Progress}
use Rattle.bdd_walk.specs.Laws.{and-left, and-right, and-both}
use Rattle.bdd_walk.proofs.AddsLemmas.{AddsNew-none}
use Rattle.bdd_nodes.proofs.CallerLemmas.{Keeps-refl}

-- a call that has done nothing
pub Progress-none : (call : Call) → IsShelf call.shelf → Progress call call.shelf call.answers
Progress-none call is_shelf = record {
  before = is_shelf;
  now = is_shelf;
  keeps = Keeps-refl call.shelf;
  same_limit = refl;
  tables = refl;
  adds = AddsNew-none call;
  answers_kept = λ states answer was. was;
}

pub valid-all : (shelf : Contents) (rs : List NodeRef) → All (IsValid shelf) rs → IsTrue (list_all (is_valid shelf) rs)
valid-all shelf [] all = refl
valid-all shelf (r ∷ rs) all =
    and-both (is_valid shelf r) (list_all (is_valid shelf) rs) (is_valid-IsValid shelf r (all 0 r (omega arith)))
    (valid-all shelf rs (λ k d within. all (suc k) d (omega arith)))

valid-append : (shelf : Contents) (xs ys : List NodeRef) → IsTrue (list_all (is_valid shelf) xs) →
    IsTrue (list_all (is_valid shelf) ys) → IsTrue (list_all (is_valid shelf) (xs ++ ys))
valid-append shelf [] ys xs_valid ys_valid = ys_valid
valid-append shelf (x ∷ xs) ys xs_valid ys_valid =
    and-both (is_valid shelf x) (list_all (is_valid shelf) (xs ++ ys)) (and-left (is_valid shelf x) (list_all (is_valid shelf) xs) xs_valid)
    (valid-append shelf xs ys (and-right (is_valid shelf x) (list_all (is_valid shelf) xs) xs_valid) ys_valid)

-- the start of a join with a dropped track
half-twice : (rs all : List NodeRef) → all ≡ rs ++ rs → half_of all ≡ length rs
half-twice rs all is = ap half_of is ∙ ap (λ (n : ℕ). n / 2) (length-append rs rs) ∙ half_double (length rs)
  where
    half_double : (n : ℕ) → (n + n) / 2 ≡ n
    half_double n = omega arith

pub twice-asked : (shelf : Contents) (rs all : List NodeRef) (t : ℕ) → all ≡ rs ++ rs → asked_of shelf rs (Some t)
    ≡ (λ (label : Label). asked_by shelf (Some t) (half_of all) all label)
twice-asked shelf rs all t is =
    subst (λ (h : ℕ). asked_of shelf rs (Some t) ≡ (λ (label : Label). asked_by shelf (Some t) h all label)) (sym (half-twice rs all is))
    (subst (λ (ss : List NodeRef). asked_of shelf rs (Some t)
    ≡ (λ (label : Label). asked_by shelf (Some t) (length rs) ss label)) (sym is)
    (fun_ext (λ (label : Label). sym (
    ap (λ (ss : List NodeRef). leaves_of shelf ss (with_track label t false)
    ++ leaves_of shelf (drop (length rs) (rs ++ rs)) (with_track label t true)) (take-append_seam rs rs)
    ∙ ap (λ (ss : List NodeRef). leaves_of shelf rs (with_track label t false) ++ leaves_of shelf ss (with_track label t true)) (drop-append_seam rs rs)))))

-- the answers of the rules of this crate
pub Completes-itself : Completes itself_of first_state
Completes-itself [] answer e = absurd (let f : None ≡ Some answer = e in cc)
Completes-itself (state ∷ []) answer e = let f : Some state ≡ Some answer = e in cc
Completes-itself (state ∷ other ∷ states) answer e = absurd (let f : None ≡ Some answer = e in cc)

-- a list of one, and of two
pub one-list : (rs : List NodeRef) (d : NodeRef) → 1 ≤ length rs → length rs < 2 → get_or rs 0 d ∷ [] ≡ rs
one-list [] d least below = absurd (omega arith)
one-list (r ∷ []) d least below = refl
one-list (r ∷ s ∷ rs) d least below = absurd (omega arith)

pub two-list : (rs : List NodeRef) (d : NodeRef) → 2 ≤ length rs → length rs < 3 → get_or rs 0 d ∷ get_or rs 1 d ∷ [] ≡ rs
two-list [] d least below = absurd (omega arith)
two-list (r ∷ []) d least below = absurd (omega arith)
two-list (r ∷ s ∷ []) d least below = refl
two-list (r ∷ s ∷ t ∷ rs) d least below = absurd (omega arith)

-- the numbers that the answers have
abbrev pub given_by : Answers → List ℕ → ℕ
given_by answers states = unwrap_or (answers states) 0

pub Completes-given_by : (answers : Answers) → Completes answers (given_by answers)
Completes-given_by answers = λ states answer there. ap (λ (o : Option ℕ). unwrap_or o 0) there

get-index : (numbers : List ℕ) (state : ℕ) → state < length numbers → slice_get numbers state ≡ Some (slice_index numbers state)
get-index [] state within = absurd (omega arith)
get-index (number ∷ numbers) zero within = refl
get-index (number ∷ numbers) (suc state) within = get-index numbers state (omega arith)

-- what a renaming answers, however it has gone on
pub renamed-answer : (numbers : List ℕ) (more : Answers) → KeepsAnswers (renamed_by numbers) more → (state : ℕ) →
    state < length numbers → more (state ∷ []) ≡ Some (slice_index numbers state)
renamed-answer numbers more kept state within = kept (state ∷ []) (slice_index numbers state) (get-index numbers state within)

pub renamed-given : (numbers : List ℕ) (more : Answers) → KeepsAnswers (renamed_by numbers) more →
    (function : Label → ℕ) → ((label : Label) → function label < length numbers) →
    ◌≡◌ {A = Function} (λ label. given_by more (function label ∷ [])) (λ label. slice_index numbers (function label))
renamed-given numbers more kept function within =
    fun_ext (λ (label : Label). ap (λ (o : Option ℕ). unwrap_or o 0)
    (renamed-answer numbers more kept (function label) (within label)))

pub renamed-value : (numbers : List ℕ) (more : Answers) → KeepsAnswers (renamed_by numbers) more →
    (state answer : ℕ) → state < length numbers → more (state ∷ []) ≡ Some answer → answer ≡ slice_index numbers state
renamed-value numbers more kept state answer within there = let e : Some answer ≡ Some (slice_index numbers state) =
    sym there ∙ renamed-answer numbers more kept state within in cc
