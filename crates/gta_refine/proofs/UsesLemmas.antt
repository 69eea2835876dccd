-- Who uses what: one number after the other.
use Rattle.std.proofs.Common.{◌≡◌, ℕ, ◌+◌, ◌<◌, Bool, true, false, List, [], ◌∷◌, ◌++◌, length, Some, ◌⊎◌, inl, inr}
use Rattle.std.proofs.Common.{sym, ◌∙◌, ap, refl, subst, arith}
use Rattle.std.specs.Prelude.{Contains, slice_get, slice_index}
use Rattle.std.proofs.lemmas.List.{get_or_default}
use Rattle.std.proofs.lemmas.List.Elements.{Contains-get_or}
use Rattle.std.proofs.lemmas.Bool.{cases_eq, false≢true}
use Rattle.bdd_list.specs.declared.listing.Listed.{Listed}
use Rattle.bdd_list.specs.declared.listing.Listed.TheVariants.{Leaf, Inner}
use Rattle.gta_theory.proofs.ListedLemmas.{slice_get-push}
use Rattle.gta_reach.specs.declared.form.FormSpace.{FormSpace}
use Rattle.gta_reach.specs.declared.form.Form.{Form}
use Rattle.gta_classes.specs.declared.part.SpaceClasses.{SpaceClasses}
use Rattle.gta_reach.specs.declared.sides.Side.{Side}
use Rattle.gta_reach.specs.declared.sides.Side.TheVariants.{Left, Right}
use Rattle.gta_refine.specs.declared.uses.SideUses.{SideUses}
use Rattle.gta_refine.specs.declared.uses.SpaceUses.{SpaceUses}
use Rattle.gta_reach.specs.Form.{guide_of, IsForm}
use Rattle.gta_classes.specs.Chosen.{is_marked, AreChosen}
use Rattle.gta_reach.specs.Sides.{kinds_in, cell_at, child_at, opposite}
use Rattle.gta_classes.specs.Lists.{Leads, IsAdded}
use Rattle.gta_refine.specs.Uses.{above_of, HasPlace, IsAddedAbove, AreAbove, HasBeside, AddsOwner, AreOwners, AreLikes, IsOwn}
use Rattle.gta_refine.specs.Uses.{AreSideUses, IsUses}
use Rattle.gta_refine.specs.Refined.{part_at, is_reached_in, ArePartition}
use Rattle.gta_classes.proofs.ChosenLemmas.{marked-inside}
use Rattle.gta_reach.proofs.ReachLemmas.{cell-same}
use Rattle.gta_refine.proofs.RowsLemmas.{cell_at-same}
use Rattle.gta_refine.proofs.RefineLemmas.{child-space}
use Rattle.gta_classes.proofs.ListsLemmas.{IsAmong-contains, Contains-among}

-- a number is added at a leaf or a node
pub IsAddedAbove-leaf : (leaves nodes : List (List ℕ)) (q number : ℕ) (new : List (List ℕ)) → IsAdded leaves q number new →
    IsAddedAbove leaves nodes (Leaf q) number new nodes
IsAddedAbove-leaf leaves nodes q number new added = record {
  many_leaves = added.many;
  many_nodes = refl;
  kept = kept;
  added = added.added;
  sound = sound;
}
  where
    kept : (other : Listed) (b : ℕ) → Contains (above_of leaves nodes other) b → Contains (above_of new nodes other) b
    kept (Leaf p) b there = added.kept p b there
    kept (Inner i) b there = there

    sound : (other : Listed) (b : ℕ) → Contains (above_of new nodes other) b → Contains (above_of leaves nodes other) b ⊎ ((other ≡ Leaf q) × (b ≡ number))
    sound (Leaf p) b there = elim (added.sound p b there) [
      | inl before ↦ inl before
      | inr is ↦ inr (ap (λ (k : ℕ). Leaf k) is.0, is.1)
    ]
    sound (Inner i) b there = inl there

pub IsAddedAbove-node : (leaves nodes : List (List ℕ)) (i number : ℕ) (new : List (List ℕ)) → IsAdded nodes i number new →
    IsAddedAbove leaves nodes (Inner i) number leaves new
IsAddedAbove-node leaves nodes i number new added = record {
  many_leaves = refl;
  many_nodes = added.many;
  kept = kept;
  added = added.added;
  sound = sound;
}
  where
    kept : (other : Listed) (b : ℕ) → Contains (above_of leaves nodes other) b → Contains (above_of leaves new other) b
    kept (Leaf p) b there = there
    kept (Inner j) b there = added.kept j b there

    sound : (other : Listed) (b : ℕ) → Contains (above_of leaves new other) b → Contains (above_of leaves nodes other) b ⊎ ((other ≡ Inner i) × (b ≡ number))
    sound (Leaf p) b there = inl there
    sound (Inner j) b there = elim (added.sound j b there) [
      | inl before ↦ inl before
      | inr is ↦ inr (ap (λ (k : ℕ). Inner k) is.0, is.1)
    ]

-- the numbers below a bound
pub record AboveBelow (Owns : ℕ → Listed → Type 0) (leaves nodes : List (List ℕ)) (below : ℕ) : Type 0 where
  pub sound : (listed : Listed) (b : ℕ) → Contains (above_of leaves nodes listed) b → Owns b listed
  pub complete : (listed : Listed) (b : ℕ) → b < below → Owns b listed → HasPlace leaves nodes listed → Contains (above_of leaves nodes listed) b

has_place-back : (leaves nodes new_leaves new_nodes : List (List ℕ)) → length new_leaves ≡ length leaves → length new_nodes ≡ length nodes →
    (listed : Listed) → HasPlace new_leaves new_nodes listed → HasPlace leaves nodes listed
has_place-back leaves nodes new_leaves new_nodes same_leaves same_nodes (Leaf q) place = omega arith
has_place-back leaves nodes new_leaves new_nodes same_leaves same_nodes (Inner i) place = omega arith

pub AboveBelow-none : (Owns : ℕ → Listed → Type 0) (leaves nodes : List (List ℕ)) → ((place number : ℕ) → Leads leaves place number → ⊥) →
    ((place number : ℕ) → Leads nodes place number → ⊥) → AboveBelow Owns leaves nodes 0
AboveBelow-none Owns leaves nodes no_leaves no_nodes = record {
  sound = λ listed b there. absurd (none listed b there);
  complete = λ listed b b_in owns place. absurd (omega arith);
}
  where
    none : (listed : Listed) (b : ℕ) → Contains (above_of leaves nodes listed) b → ⊥
    none (Leaf q) b there = no_leaves q b there
    none (Inner i) b there = no_nodes i b there

-- a number that has one thing
pub AboveBelow-one : (Owns : ℕ → Listed → Type 0) (leaves nodes new_leaves new_nodes : List (List ℕ)) (below : ℕ) (listed : Listed) →
    AboveBelow Owns leaves nodes below → IsAddedAbove leaves nodes listed below new_leaves new_nodes → Owns below listed →
    ((other : Listed) → Owns below other → other ≡ listed) → AboveBelow Owns new_leaves new_nodes (below + 1)
AboveBelow-one Owns leaves nodes new_leaves new_nodes below listed so_far added owns only = record {
  sound = λ other b there. elim (added.sound other b there) [
    | inl before ↦ so_far.sound other b before
    | inr is ↦ subst (λ (k : ℕ). Owns k other) (sym is.1) (subst (Owns below) (sym is.0) owns)
  ];
  complete = λ other b b_in b_owns place.
      let was_place = has_place-back leaves nodes new_leaves new_nodes added.many_leaves added.many_nodes other place in
      elim (cases_eq b below) [
        | inl same ↦
            let is = only other (subst (λ (k : ℕ). Owns k other) same b_owns) in
            subst (λ (k : ℕ). Contains (above_of new_leaves new_nodes other) k) (sym same)
            (subst (λ (l : Listed). Contains (above_of new_leaves new_nodes l) below) (sym is)
            (added.added (subst (HasPlace leaves nodes) is was_place)))
        | inr before ↦ added.kept other b (so_far.complete other b (omega arith) b_owns was_place)
      ];
}

-- a number that has two things
pub AboveBelow-two : (Owns : ℕ → Listed → Type 0) (leaves nodes mid_leaves mid_nodes new_leaves new_nodes : List (List ℕ)) (below : ℕ) (low high : Listed) →
    AboveBelow Owns leaves nodes below → IsAddedAbove leaves nodes low below mid_leaves mid_nodes →
    IsAddedAbove mid_leaves mid_nodes high below new_leaves new_nodes → Owns below low → Owns below high →
    ((other : Listed) → Owns below other → (low ≡ other) ⊎ (high ≡ other)) → AboveBelow Owns new_leaves new_nodes (below + 1)
AboveBelow-two Owns leaves nodes mid_leaves mid_nodes new_leaves new_nodes below low high so_far first second owns_low owns_high only = record {
  sound = λ other b there. elim (second.sound other b there) [
    | inl mid ↦ elim (first.sound other b mid) [
      | inl before ↦ so_far.sound other b before
      | inr is ↦ subst (λ (k : ℕ). Owns k other) (sym is.1) (subst (Owns below) (sym is.0) owns_low)
    ]
    | inr is ↦ subst (λ (k : ℕ). Owns k other) (sym is.1) (subst (Owns below) (sym is.0) owns_high)
  ];
  complete = λ other b b_in b_owns place.
      let mid_place = has_place-back mid_leaves mid_nodes new_leaves new_nodes second.many_leaves second.many_nodes other place in
      let was_place = has_place-back leaves nodes mid_leaves mid_nodes first.many_leaves first.many_nodes other mid_place in
      elim (cases_eq b below) [
        | inl same ↦
            subst (λ (k : ℕ). Contains (above_of new_leaves new_nodes other) k) (sym same)
            (elim (only other (subst (λ (k : ℕ). Owns k other) same b_owns)) [
              | inl is ↦ second.kept other below (subst (λ (l : Listed). Contains (above_of mid_leaves mid_nodes l) below) is
                  (first.added (subst (HasPlace leaves nodes) (sym is) was_place)))
              | inr is ↦ subst (λ (l : Listed). Contains (above_of new_leaves new_nodes l) below) is
                  (second.added (subst (HasPlace mid_leaves mid_nodes) (sym is) mid_place))
            ])
        | inr before ↦ second.kept other b (first.kept other b (so_far.complete other b (omega arith) b_owns was_place))
      ];
}

-- owners of the roots with the states so far
pub record OwnerBelow (space : FormSpace) (side : Side) (own : ℕ) (beside : List ℕ) (old now : List (List ℕ)) (below : ℕ) : Type 0 where
  pub many : length now ≡ length old
  pub kept : (k p : ℕ) → Leads old k p → Leads now k p
  pub added : (i : ℕ) → i < below → Leads now (cell_at space side own (slice_index beside i)) own
  pub sound : (k p : ℕ) → Leads now k p → Leads old k p ⊎ ((p ≡ own) × HasBeside space side beside own k)

pub OwnerBelow-none : (space : FormSpace) (side : Side) (own : ℕ) (beside : List ℕ) (old : List (List ℕ)) → OwnerBelow space side own beside old old 0
OwnerBelow-none space side own beside old = record {
  many = refl;
  kept = λ k p there. there;
  added = λ i i_in. absurd (omega arith);
  sound = λ k p there. inl there;
}

pub OwnerBelow-next : (space : FormSpace) (side : Side) (own : ℕ) (beside : List ℕ) (old now new : List (List ℕ)) (below : ℕ) →
    OwnerBelow space side own beside old now below → below < length beside → cell_at space side own (slice_index beside below) < length now →
    IsAdded now (cell_at space side own (slice_index beside below)) own new → OwnerBelow space side own beside old new (below + 1)
OwnerBelow-next space side own beside old now new below so_far inside small added = record {
  many = added.many ∙ so_far.many;
  kept = λ k p there. added.kept k p (so_far.kept k p there);
  added = λ i i_in. elim (cases_eq i below) [
    | inl same ↦ subst (λ (j : ℕ). Leads new (cell_at space side own (slice_index beside j)) own) (sym same) (added.added small)
    | inr before ↦ added.kept (cell_at space side own (slice_index beside i)) own (so_far.added i (omega arith))
  ];
  sound = λ k p there. elim (added.sound k p there) [
    | inl before ↦ so_far.sound k p before
    | inr is ↦ inr (is.1, record { other = slice_index beside below; among = Contains-get_or beside below 0 inside; root = sym is.0 })
  ];
}

pub AddsOwner-all : (space : FormSpace) (side : Side) (own : ℕ) (beside : List ℕ) (old now : List (List ℕ)) →
    OwnerBelow space side own beside old now (length beside) → AddsOwner space side own beside old now
AddsOwner-all space side own beside old now all = record {
  many = all.many;
  kept = all.kept;
  added = λ b there. subst (λ (k : ℕ). Leads now (cell_at space side own k) own) (get_or_default beside there.0 0 b there.1 ∙ there.2)
      (all.added there.0 there.1);
  sound = all.sound;
}

-- owners so far
pub record OwnersBelow (space : FormSpace) (side : Side) (own beside : List ℕ) (owners : List (List ℕ)) (below : ℕ) : Type 0 where
  pub many : length owners ≡ length space.listing.roots
  pub sound : (k p : ℕ) → Leads owners k p → Contains own p × HasBeside space side beside p k
  pub complete : (i b : ℕ) → i < below → Contains beside b → Leads owners (cell_at space side (slice_index own i) b) (slice_index own i)

pub OwnersBelow-none : (space : FormSpace) (side : Side) (own beside : List ℕ) (owners : List (List ℕ)) → length owners ≡ length space.listing.roots →
    ((place number : ℕ) → Leads owners place number → ⊥) → OwnersBelow space side own beside owners 0
OwnersBelow-none space side own beside owners many none = record {
  many = many;
  sound = λ k p there. absurd (none k p there);
  complete = λ i b i_in there. absurd (omega arith);
}

pub OwnersBelow-next : (space : FormSpace) (side : Side) (own beside : List ℕ) (owners new : List (List ℕ)) (below : ℕ) →
    OwnersBelow space side own beside owners below → below < length own → AddsOwner space side (slice_index own below) beside owners new →
    OwnersBelow space side own beside new (below + 1)
OwnersBelow-next space side own beside owners new below so_far inside adds = record {
  many = adds.many ∙ so_far.many;
  sound = λ k p there. elim (adds.sound k p there) [
    | inl before ↦ so_far.sound k p before
    | inr is ↦ (
      subst (Contains own) (sym is.0) (Contains-get_or own below 0 inside),
      subst (λ (o : ℕ). HasBeside space side beside o k) (sym is.0) is.1,
    )
  ];
  complete = λ i b i_in there. elim (cases_eq i below) [
    | inl same ↦ subst (λ (j : ℕ). Leads new (cell_at space side (slice_index own j) b) (slice_index own j)) (sym same) (adds.added b there)
    | inr before ↦ adds.kept (cell_at space side (slice_index own i) b) (slice_index own i) (so_far.complete i b (omega arith) there)
  ];
}

pub AreOwners-all : (space : FormSpace) (side : Side) (own beside : List ℕ) (owners : List (List ℕ)) →
    OwnersBelow space side own beside owners (length own) → AreOwners space side own beside owners
AreOwners-all space side own beside owners all = record {
  sound = all.sound;
  complete = λ p b p_in b_in. subst (λ (k : ℕ). Leads owners (cell_at space side k b) k) (get_or_default own p_in.0 0 p p_in.1 ∙ p_in.2)
      (all.complete p_in.0 b p_in.1 b_in);
}

-- states by their classes so far
pub record LikesBelow (kinds : List ℕ) (marks : List Bool) (likes : List (List ℕ)) (below : ℕ) : Type 0 where
  pub many : (i : ℕ) → slice_index kinds i < length likes
  pub sound : (k q : ℕ) → Leads likes k q → (is_marked marks q ≡ true) × (slice_index kinds q ≡ k)
  pub complete : (q : ℕ) → q < below → is_marked marks q ≡ true → Leads likes (slice_index kinds q) q

pub LikesBelow-none : (kinds : List ℕ) (marks : List Bool) (likes : List (List ℕ)) → ((i : ℕ) → slice_index kinds i < length likes) →
    ((place number : ℕ) → Leads likes place number → ⊥) → LikesBelow kinds marks likes 0
LikesBelow-none kinds marks likes many none = record {
  many = many;
  sound = λ k q there. absurd (none k q there);
  complete = λ q q_in marked. absurd (omega arith);
}

module _ (kinds : List ℕ) (marks : List Bool) (likes : List (List ℕ)) (below : ℕ) (so_far : LikesBelow kinds marks likes below) where
  pub LikesBelow-skip : is_marked marks below ≡ false → LikesBelow kinds marks likes (below + 1)
  LikesBelow-skip unmarked = record {
    many = so_far.many;
    sound = so_far.sound;
    complete = λ q q_in marked. elim (cases_eq q below) [
      | inl same ↦ absurd (false≢true (sym unmarked ∙ sym (ap (is_marked marks) same) ∙ marked))
      | inr before ↦ so_far.complete q (omega arith) marked
    ];
  }

  pub LikesBelow-next : (new : List (List ℕ)) → is_marked marks below ≡ true → IsAdded likes (slice_index kinds below) below new →
      LikesBelow kinds marks new (below + 1)
  LikesBelow-next new marked added = record {
    many = λ i. let m = so_far.many i in let e = added.many in omega arith;
    sound = λ k q there. elim (added.sound k q there) [
      | inl before ↦ so_far.sound k q before
      | inr is ↦ (subst (λ (j : ℕ). is_marked marks j ≡ true) (sym is.1) marked, ap (slice_index kinds) is.1 ∙ sym is.0)
    ];
    complete = λ q q_in q_marked. elim (cases_eq q below) [
      | inl same ↦ subst (λ (j : ℕ). Leads new (slice_index kinds j) j) (sym same) (added.added (so_far.many below))
      | inr before ↦ added.kept (slice_index kinds q) q (so_far.complete q (omega arith) q_marked)
    ];
  }

pub AreLikes-all : (kinds : List ℕ) (marks : List Bool) (likes : List (List ℕ)) → LikesBelow kinds marks likes (length marks) → AreLikes kinds marks likes
AreLikes-all kinds marks likes all = record {
  sound = all.sound;
  complete = λ q marked. all.complete q (marked-inside marks q marked) marked;
}

-- a state beside is as good as one like it
cell-beside : (space : FormSpace) (side : Side) (p b c : ℕ) →
    slice_index (kinds_in space (opposite side)) b ≡ slice_index (kinds_in space (opposite side)) c → cell_at space side p b ≡ cell_at space side p c
cell-beside space Left p b c same = cell-same space p p b c refl same
cell-beside space Right p b c same = cell-same space b c p p same refl

-- the child states on a side, by their choices
pub AreSideUses-chosen : (form : Form) (is_form : IsForm form) (spaces : List SpaceClasses) (partition : ArePartition form spaces)
    (s : ℕ) (space : FormSpace) (at : slice_get form.spaces s ≡ Some space) (side : Side) (own beside : List ℕ) (uses : SideUses) →
    AreChosen (kinds_in space side) (part_at spaces (child_at (guide_of form) side s)).reached own →
    AreChosen (kinds_in space (opposite side)) (part_at spaces (child_at (guide_of form) (opposite side) s)).reached beside →
    AreOwners space side own beside uses.owners →
    AreLikes (kinds_in space side) (part_at spaces (child_at (guide_of form) side s)).reached uses.likes → AreSideUses form s space side uses
AreSideUses-chosen form is_form spaces partition s space at side own beside uses chosen_own chosen_beside owners likes =
    let value : (k : Side) (q : ℕ) → is_reached_in spaces (child_at (guide_of form) k s) q ≡ true → IsOwn form s k q = λ k q reached.
    (partition.reached.state (child_at (guide_of form) k s) q (child-space form is_form spaces partition s space at k)).0 reached in
    let reached : (k : Side) (q : ℕ) → IsOwn form s k q → is_reached_in spaces (child_at (guide_of form) k s) q ≡ true = λ k q own_value.
    (partition.reached.state (child_at (guide_of form) k s) q (child-space form is_form spaces partition s space at k)).1 own_value in
    record {
      owners_sound = λ k p there.
          let from = owners.sound k p there in
          let b = from.1 in (
            value side p (chosen_own.each p (Contains-among own p from.0)),
            record {
              other = b.other;
              value = value (opposite side) b.other (chosen_beside.each b.other (Contains-among beside b.other b.among));
              root = b.root;
            },
          );
      owners = λ p b p_own b_own.
          let one = chosen_own.all p (reached side p p_own) in
          let two = chosen_beside.all b (reached (opposite side) b b_own) in
          let cell : cell_at space side one.like two.like ≡ cell_at space side p b =
          cell_at-same space side one.like p two.like one.same ∙ cell-beside space side p two.like b two.same in
          record {
            owner = one.like;
            owns = subst (λ (k : ℕ). Leads uses.owners k one.like) cell
                (owners.complete one.like two.like (IsAmong-contains own one.like one.among) (IsAmong-contains beside two.like two.among));
            like = one.same;
          };
      likes_sound = λ k q there. let from = likes.sound k q there in (value side q from.0, from.1);
      likes = λ q q_own. likes.complete q (reached side q q_own);
    }

pub IsUses-push : (form : Form) (uses : List SpaceUses) (below : ℕ) (more : SpaceUses) → length uses ≡ below →
    ((s : ℕ) (space : FormSpace) (one : SpaceUses) → slice_get form.spaces s ≡ Some space → slice_get uses s ≡ Some one → IsUses form s space one) →
    ((space : FormSpace) → slice_get form.spaces below ≡ Some space → IsUses form below space more) →
    (s : ℕ) (space : FormSpace) (one : SpaceUses) → slice_get form.spaces s ≡ Some space → slice_get (uses ++ more ∷ []) s ≡ Some one →
    IsUses form s space one
IsUses-push form uses below more many each new s space one at there = elim (slice_get-push uses more one s there) [
  | inl before ↦ each s space one at before
  | inr last ↦
      let is : below ≡ s = sym many ∙ sym last.0 in
      subst (IsUses form s space) last.1 (subst (λ (k : ℕ). IsUses form k space more) is
      (new space (ap (slice_get form.spaces) is ∙ at)))
]

-- all numbers that have something are below the bound
pub AreAbove-all : (Owns : ℕ → Listed → Type 0) (leaves nodes : List (List ℕ)) (below : ℕ) → AboveBelow Owns leaves nodes below →
    ((b : ℕ) (listed : Listed) → Owns b listed → b < below) → AreAbove Owns leaves nodes
AreAbove-all Owns leaves nodes below all bound = record {
  sound = all.sound;
  complete = λ listed b owns place. all.complete listed b (bound b listed owns) owns place;
}
