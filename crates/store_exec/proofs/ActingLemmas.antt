-- The acts of code, by its parts.
use Rattle.std.proofs.Common.{◌≡◌, ℕ, ◌+◌, Bool, true, false, ◌||◌, List, [], ◌∷◌, ◌++◌, refl, sym, ap, ap₂, ◌∙◌}
use Rattle.std.proofs.lemmas.List.Folds.{flat_map-map, list_any-append}
use Rattle.store_logic.specs.declared.act.Act.{Act}
use Rattle.store_logic.specs.declared.cond.Cond.{Cond}
use Rattle.store_exec.specs.declared.code.Item.{Item}
use Rattle.store_exec.specs.declared.code.Item.TheVariants as item
use Rattle.store_exec.specs.declared.code.Item.TheVariants.{rolls-Do, rolls-If}
use Rattle.store_exec.specs.declared.code.Item.TheOpen.{Item-F}
use Rattle.store_exec.specs.declared.code.Item.TheFolds.{fold-roll-Item}
use Rattle.store_exec.specs.declared.code.Code.{Code, roll-out-Code, out-Code}
use Rattle.store_exec.specs.declared.code.Tail.{Tail}
use Rattle.store_exec.specs.declared.code.Tail.TheVariants as tail
use Rattle.store_exec.specs.declared.code.Tail.TheVariants.{rolls-Cut, rolls-Branch}
use Rattle.store_exec.specs.declared.code.Tail.TheOpen.{Tail-F}
use Rattle.store_exec.specs.declared.code.Tail.TheFolds.{fold-Tail, fold-roll-Tail, fold-roll-Code}
use Rattle.store_exec.specs.Acting.{acts_node, acts_of_item, acts_of_items, acts_of_tail, acts_of, is_assert, have_assert, count_of_tail, code_count}

pub acts-Do : (line : ℕ) (a : Act) → acts_of_item (item.Do line a) ≡ a ∷ []
acts-Do line a = ap acts_of_item (sym (rolls-Do line a)) ∙ fold-roll-Item (List Act) acts_node (Item-F.Do line a)

pub acts-If : (line : ℕ) (c : Cond) (taken other : List Item) → acts_of_item (item.If line c taken other) ≡ acts_of_items taken ++ acts_of_items other
acts-If line c taken other = ap acts_of_item (sym (rolls-If line c taken other)) ∙ fold-roll-Item (List Act) acts_node (Item-F.If line c taken other)
    ∙ ap₂ (λ (xs ys : List Act). xs ++ ys) (flat_map-map (λ acts. acts) acts_of_item taken) (flat_map-map (λ acts. acts) acts_of_item other)

-- the acts that stand in a tail
abbrev pub acts_behind : Tail → List Act
acts_behind = fold-Tail (List Act) (List Act) acts_of_tail (λ x. acts_of_items x.items ++ x.tail)

pub acts-code : (c : Code) → acts_of c ≡ acts_of_items c.items ++ acts_behind c.tail
acts-code c = ap acts_of (sym (roll-out-Code c)) ∙ fold-roll-Code (List Act) (List Act) acts_of_tail (λ x. acts_of_items x.items ++ x.tail) (out-Code c)

pub acts-Cut : (place : ℕ) → acts_behind (tail.Cut place) ≡ []
acts-Cut place = ap acts_behind (sym (rolls-Cut place))
    ∙ fold-roll-Tail (List Act) (List Act) acts_of_tail (λ x. acts_of_items x.items ++ x.tail) (Tail-F.Cut place)

pub acts-Branch : (line : ℕ) (b : Cond) (taken other : Code) → acts_behind (tail.Branch line b taken other) ≡ acts_of taken ++ acts_of other
acts-Branch line b taken other = ap acts_behind (sym (rolls-Branch line b taken other))
    ∙ fold-roll-Tail (List Act) (List Act) acts_of_tail (λ x. acts_of_items x.items ++ x.tail) (Tail-F.Branch line b taken other)

-- ---- whether an `assert` stands among them

pub or-first : (p q r : Bool) → r ≡ p → r ≡ true → r ≡ (p || q)
or-first p q r is true_is = is ∙ by p (sym is ∙ true_is)
  where
    by : (b : Bool) → b ≡ true → b ≡ (b || q)
    by true e = refl
    by false e = absurd cc

pub or-second : (p q r : Bool) → r ≡ p → r ≡ false → (p || q) ≡ q
or-second p q r is false_is = by p (sym is ∙ false_is)
  where
    by : (b : Bool) → b ≡ false → (b || q) ≡ q
    by true e = absurd cc
    by false e = refl

pub assert-If : (line : ℕ) (c : Cond) (taken other : List Item) →
    have_assert (acts_of_item (item.If line c taken other)) ≡ (have_assert (acts_of_items taken) || have_assert (acts_of_items other))
assert-If line c taken other = ap have_assert (acts-If line c taken other) ∙ list_any-append is_assert (acts_of_items taken) (acts_of_items other)

pub taken-asserts : (i : Item) (line : ℕ) (c : Cond) (taken other xs : List Item) (r : Bool) → i ≡ item.If line c taken other → xs ≡ taken →
    r ≡ have_assert (acts_of_items xs) → r ≡ true → r ≡ have_assert (acts_of_item i)
taken-asserts i line c taken other xs r is same told true_is =
    or-first (have_assert (acts_of_items taken)) (have_assert (acts_of_items other)) r (told ∙ ap (λ ys. have_assert (acts_of_items ys)) same) true_is
    ∙ sym (assert-If line c taken other) ∙ ap (λ j. have_assert (acts_of_item j)) (sym is)

pub other-asserts : (i : Item) (line : ℕ) (c : Cond) (taken other xs : List Item) (r : Bool) (ys : List Item) (q : Bool) → i ≡ item.If line c taken other →
    xs ≡ taken → r ≡ have_assert (acts_of_items xs) → r ≡ false → ys ≡ other → q ≡ have_assert (acts_of_items ys) → q ≡ have_assert (acts_of_item i)
other-asserts i line c taken other xs r ys q is same told false_is also tells =
    tells ∙ ap (λ zs. have_assert (acts_of_items zs)) also
    ∙ sym (or-second (have_assert (acts_of_items taken)) (have_assert (acts_of_items other)) r (told ∙ ap (λ zs. have_assert (acts_of_items zs)) same) false_is)
    ∙ sym (assert-If line c taken other) ∙ ap (λ j. have_assert (acts_of_item j)) (sym is)

assert-code : (c : Code) → have_assert (acts_of c) ≡ (have_assert (acts_of_items c.items) || have_assert (acts_behind c.tail))
assert-code c = ap have_assert (acts-code c) ∙ list_any-append is_assert (acts_of_items c.items) (acts_behind c.tail)

-- in the items
pub items-assert : (c : Code) (xs : List Item) (r : Bool) → xs ≡ c.items → r ≡ have_assert (acts_of_items xs) → r ≡ true → have_assert (acts_of c) ≡ true
items-assert c xs r same told true_is =
    assert-code c ∙ sym (or-first (have_assert (acts_of_items c.items)) (have_assert (acts_behind c.tail)) r
    (told ∙ ap (λ ys. have_assert (acts_of_items ys)) same) true_is) ∙ true_is

-- or else behind them
behind-assert : (c : Code) (xs : List Item) (r : Bool) → xs ≡ c.items → r ≡ have_assert (acts_of_items xs) → r ≡ false →
    have_assert (acts_of c) ≡ have_assert (acts_behind c.tail)
behind-assert c xs r same told false_is =
    assert-code c ∙ or-second (have_assert (acts_of_items c.items)) (have_assert (acts_behind c.tail)) r
    (told ∙ ap (λ ys. have_assert (acts_of_items ys)) same) false_is

pub cut-asserts_not : (c : Code) (xs : List Item) (r : Bool) (place : ℕ) → xs ≡ c.items → r ≡ have_assert (acts_of_items xs) → r ≡ false →
    c.tail ≡ tail.Cut place → have_assert (acts_of c) ≡ false
cut-asserts_not c xs r place same told false_is is =
    behind-assert c xs r same told false_is ∙ ap (λ t. have_assert (acts_behind t)) is ∙ ap have_assert (acts-Cut place)

pub branch-asserts : (c : Code) (xs : List Item) (r : Bool) (line : ℕ) (b : Cond) (taken other : Code) → xs ≡ c.items →
    r ≡ have_assert (acts_of_items xs) → r ≡ false → c.tail ≡ tail.Branch line b taken other →
    have_assert (acts_of c) ≡ (have_assert (acts_of taken) || have_assert (acts_of other))
branch-asserts c xs r line b taken other same told false_is is =
    behind-assert c xs r same told false_is ∙ ap (λ t. have_assert (acts_behind t)) is ∙ ap have_assert (acts-Branch line b taken other)
    ∙ list_any-append is_assert (acts_of taken) (acts_of other)

-- ---- how many codes there are

abbrev count_behind : Tail → ℕ
count_behind = fold-Tail ℕ ℕ count_of_tail (λ x. x.tail + 1)

pub count-branch : (c : Code) (line : ℕ) (b : Cond) (taken other : Code) → c.tail ≡ tail.Branch line b taken other →
    code_count c ≡ code_count taken + code_count other + 1
count-branch c line b taken other is =
    ap code_count (sym (roll-out-Code c)) ∙ fold-roll-Code ℕ ℕ count_of_tail (λ x. x.tail + 1) (out-Code c)
    ∙ ap (λ n. n + 1) (ap count_behind (is ∙ sym (rolls-Branch line b taken other))
    ∙ fold-roll-Tail ℕ ℕ count_of_tail (λ x. x.tail + 1) (Tail-F.Branch line b taken other))
