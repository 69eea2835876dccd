-- The states of the atoms' automata in one type, and which of them a space keeps.
use Rattle.std.specs.Prelude.{ℕ, zero, suc, ◌+◌, Bool, true, false, ◌&&◌, ◌||◌, if◌then◌else◌}
use Rattle.ws2s_theory.specs.Atoms.{SubState, inside, outside, sub_step, SingleState, nothing, one, more, single_step}
use Rattle.ws2s_theory.specs.Atoms.{RootState, absent, alone, lower, root_step, SuccState, neither, child, found, wrong, succ_step}
use Rattle.gta_atom.specs.declared.known.Known.{Known}
use Rattle.gta_atom.specs.declared.known.Known.TheVariants.{Nothing, Found, Wrong, Half}
use Rattle.gta_atom.specs.declared.known.Form.{Form}
use Rattle.gta_atom.specs.declared.known.Form.TheVariants.{Sub, Single, Root, Succ0, Succ1}
use Rattle.gta_atom.specs.declared.kept.Kept.{Kept}

abbrev pub to_sub : Known → SubState
to_sub Nothing = inside
to_sub Found = outside
to_sub Wrong = outside
to_sub Half = outside

abbrev pub of_sub : SubState → Known
of_sub inside = Nothing
of_sub outside = Wrong

abbrev pub to_single : Known → SingleState
to_single Nothing = nothing
to_single Found = one
to_single Wrong = more
to_single Half = more

abbrev pub of_single : SingleState → Known
of_single nothing = Nothing
of_single one = Found
of_single more = Wrong

abbrev pub to_root : Known → RootState
to_root Nothing = absent
to_root Found = alone
to_root Wrong = lower
to_root Half = lower

abbrev pub of_root : RootState → Known
of_root absent = Nothing
of_root alone = Found
of_root lower = Wrong

abbrev pub to_succ : Known → SuccState
to_succ Nothing = neither
to_succ Found = found
to_succ Wrong = wrong
to_succ Half = child

abbrev pub of_succ : SuccState → Known
of_succ neither = Nothing
of_succ found = Found
of_succ wrong = Wrong
of_succ child = Half

-- the step of each form's automaton, of the states of the two sides and whether the root is in each set
abbrev pub known_step : Form → Known → Known → Bool → Bool → Known
known_step Sub left right first second = of_sub (sub_step (to_sub left) (to_sub right) first second)
known_step Single left right first second = of_single (single_step (to_single left) (to_single right) first)
known_step Root left right first second = of_root (root_step (to_root left) (to_root right) first)
known_step Succ0 left right first second = of_succ (succ_step (to_succ left) (to_succ right) first second)
known_step Succ1 left right first second = of_succ (succ_step (to_succ right) (to_succ left) first second)

-- the same where the half on the other side than a successor's child has nothing
abbrev pub known_at_root : Form → Known → Bool → Bool → Known
known_at_root Sub half first second = known_step Sub half Nothing first second
known_at_root Single half first second = known_step Single half Nothing first second
known_at_root Root half first second = known_step Root half Nothing first second
known_at_root Succ0 half first second = known_step Succ0 half Nothing first second
known_at_root Succ1 half first second = known_step Succ1 Nothing half first second

abbrev pub is_find : Known → Bool
is_find Nothing = false
is_find Found = true
is_find Wrong = false
is_find Half = false

-- whether the atom holds in that state
abbrev pub is_held : Form → Known → Bool
is_held Sub Nothing = true
is_held Sub Found = false
is_held Sub Wrong = false
is_held Sub Half = false
is_held Single known = is_find known
is_held Root known = is_find known
is_held Succ0 known = is_find known
is_held Succ1 known = is_find known

-- what two sides know together: a side with nothing changes nothing, and a find on the second side is one
abbrev pub beside : Known → Known → Known
beside near Nothing = near
beside Nothing Found = Found
beside Found Found = Wrong
beside Wrong Found = Wrong
beside Half Found = Wrong
beside near Wrong = Wrong
beside near Half = Wrong

-- no state but `Nothing`
abbrev pub keeps_none : Kept
keeps_none = record { found = false; wrong = false; half = false }

-- the states of a form that stand for themselves in a space, beside `Nothing`, by whether a position below the root has
-- the space, whether the space is a child by the letter of the form, and whether it is the root's
abbrev pub kept_of : Form → Bool → Bool → Bool → Kept
kept_of Sub below by_letter top = record { found = false; wrong = below || top; half = false }
kept_of Single below by_letter top = record { found = below || top; wrong = below; half = false }
kept_of Root below by_letter top = record { found = top; wrong = below; half = false }
kept_of Succ0 below by_letter top = record { found = below || top; wrong = below; half = below && by_letter }
kept_of Succ1 below by_letter top = record { found = below || top; wrong = below; half = below && by_letter }

-- how many states are kept
abbrev pub count_of : Kept → ℕ
count_of kept = 1 + (if kept.found then 1 else 0) + (if kept.wrong then 1 else 0) + (if kept.half then 1 else 0)

-- the number of a wrong state: where none is kept it is as good as `Nothing`
abbrev pub wrong_number : Kept → ℕ
wrong_number kept = if kept.wrong then (if kept.found then 2 else 1) else 0

-- the number of a state: where it isn't kept it is as good as a wrong one
abbrev pub number_of : Kept → Known → ℕ
number_of kept Nothing = 0
number_of kept Found = if kept.found then 1 else wrong_number kept
number_of kept Wrong = wrong_number kept
number_of kept Half = if kept.half then 3 else wrong_number kept

-- the state with a number
abbrev pub known_of : Kept → ℕ → Known
known_of kept zero = Nothing
known_of kept (suc zero) = if kept.found then Found else Wrong
known_of kept (suc (suc zero)) = Wrong
known_of kept (suc (suc (suc n))) = Half
