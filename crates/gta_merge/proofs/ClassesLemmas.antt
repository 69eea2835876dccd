-- Classes by lines.
use Rattle.std.proofs.Common.{◌≡◌, ℕ, ◌+◌, ◌<◌, ◌≤◌, false, List, [], ◌∷◌, ◌++◌, length, get_or, map, Option, Some, None, ◌⊎◌, inl, inr}
use Rattle.std.proofs.Common.{sym, ◌∙◌, ap, refl, subst, arith, length-append}
use Rattle.std.specs.Prelude.{slice_get, nat_eq}
use Rattle.std.specs.Cmp.Lexicographic.{pointwise}
use Rattle.std.specs.declared.hash.FoldHasher.{FoldHasher}
use Rattle.std.specs.declared.hash.BuildHasherDefault.{BuildHasherDefault}
use Rattle.std.specs.HashMap.{get, HashMap, Updates}
use Rattle.std.proofs.lemmas.Bool.{cases_Bool, eqb-true}
use Rattle.std.proofs.lemmas.Option.{slice_get_within, slice_get-get_or}
use Rattle.bdd_nodes.specs.declared.node_ref.NodeRef.{NodeRef}
use Rattle.bdd_walk.specs.ManyLaws.{same_list}
use Rattle.gta_theory.proofs.ListedLemmas.{slice_get-front, slice_get-last, slice_get-push}
use Rattle.gta_merge.specs.declared.classes.Lines.{Lines}
use Rattle.gta_merge.specs.Lines.{some_root}
use Rattle.gta_merge.specs.Classes.{Line, ByLine, same_ref, class_for, IsLineStep, has, gets, IsStateStep, known, looks, HaveLikeRoots, AreToldApart}
use Rattle.gta_merge.specs.Classes.{AreClassed}
use Rattle.gta_merge.proofs.ListsLemmas.{map-some_root, map-same}

-- the classes by the classes before
abbrev pub ByClass : Type 0
ByClass = HashMap ℕ ℕ (BuildHasherDefault FoldHasher)

-- the line of these roots has the class
pub record HasClass (classes : ByLine) (roots : List (Option NodeRef)) (class : ℕ) : Type 0 where
  pub key : Line
  pub items : map some_root key.items ≡ roots
  pub found : class_for classes key.items ≡ Some class

module _ (root : ℕ → ℕ → Option NodeRef) (had others : List ℕ) where
  -- a state stands for the class, and has these roots
  pub record HasOne (ones : List ℕ) (class : ℕ) (roots : List (Option NodeRef)) : Type 0 where
    pub one : ℕ
    pub there : slice_get ones class ≡ Some one
    pub same : map (root one) others ≡ roots

  -- the classes of the first states
  pub record Classing (classes : ByLine) (ones : List ℕ) (by_class : ByClass) (of : List ℕ) (below : ℕ) : Type 0 where
    pub many : length of ≡ below
    pub few : length ones ≤ below
    pub each : (q class : ℕ) → slice_get of q ≡ Some class → HasClass classes (map (root q) others) class
    pub rows : (key : Line) (class : ℕ) → class_for classes key.items ≡ Some class → HasOne ones class (map some_root key.items)
    pub stand : (class one : ℕ) → slice_get ones class ≡ Some one → slice_get of one ≡ Some class
    pub before : (h class : ℕ) → get nat_eq by_class h ≡ Some class → (q : ℕ) → slice_get had q ≡ Some h →
        HasClass classes (map (root q) others) class

  pub Classing-none : (classes : ByLine) (by_class : ByClass) → ((line : List NodeRef) → class_for classes line ≡ None) →
      ((h : ℕ) → get nat_eq by_class h ≡ None) → Classing classes [] by_class [] 0
  Classing-none classes by_class no_line no_class = record {
    many = refl;
    few = omega arith;
    each = λ q class there. absurd cc;
    rows = λ key class there. absurd (let e : None ≡ Some class = sym (no_line key.items) ∙ there in cc);
    stand = λ class one there. absurd cc;
    before = λ h class there. absurd (let e : None ≡ Some class = sym (no_class h) ∙ there in cc);
  }

  -- one state more
  module _ (classes : ByLine) (ones : List ℕ) (by_class : ByClass) (of : List ℕ) (below : ℕ)
      (so_far : Classing classes ones by_class of below) where
    module _ (class : ℕ) (after : ByLine) (longer : List ℕ) (by_after : ByClass)
        (kept : (key : Line) (c : ℕ) → class_for classes key.items ≡ Some c → class_for after key.items ≡ Some c)
        (here : HasClass after (map (root below) others) class)
        (few_after : length longer ≤ below + 1)
        (rows_after : (key : Line) (c : ℕ) → class_for after key.items ≡ Some c → HasOne longer c (map some_root key.items))
        (ones_after : (c one : ℕ) → slice_get longer c ≡ Some one → (slice_get ones c ≡ Some one) ⊎ ((one ≡ below) × (c ≡ class)))
        (before_after : (h c : ℕ) → get nat_eq by_after h ≡ Some c → (q : ℕ) → slice_get had q ≡ Some h →
        HasClass after (map (root q) others) c) where
      lift : (roots : List (Option NodeRef)) (c : ℕ) → HasClass classes roots c → HasClass after roots c
      lift roots c is = record { key = is.key; items = is.items; found = kept is.key c is.found }

      last-is : slice_get (of ++ class ∷ []) below ≡ Some class
      last-is = ap (slice_get (of ++ class ∷ [])) (sym so_far.many) ∙ slice_get-last of class

      each-after : (q c : ℕ) → slice_get (of ++ class ∷ []) q ≡ Some c → HasClass after (map (root q) others) c
      each-after q c there = elim (slice_get-push of class c q there) [
        | inl before ↦ lift (map (root q) others) c (so_far.each q c before)
        | inr last ↦
            let is : below ≡ q = sym so_far.many ∙ sym last.0 in
            subst (λ (k : ℕ). HasClass after (map (root k) others) c) is
            (subst (λ (k : ℕ). HasClass after (map (root below) others) k) last.1 here)
      ]

      stand-after : (c one : ℕ) → slice_get longer c ≡ Some one → slice_get (of ++ class ∷ []) one ≡ Some c
      stand-after c one there = elim (ones_after c one there) [
        | inl before ↦
            let at = so_far.stand c one before in
            slice_get-front of (class ∷ []) one (slice_get_within of one c at) ∙ at
        | inr new ↦
            ap (slice_get (of ++ class ∷ [])) new.0 ∙ last-is ∙ ap (λ (k : ℕ). let o : Option ℕ = Some k in o) (sym new.1)
      ]

      Classing-more : Classing after longer by_after (of ++ class ∷ []) (below + 1)
      Classing-more = record {
        many = length-append of (class ∷ []) ∙ (let m = so_far.many in omega arith);
        few = few_after;
        each = each-after;
        rows = rows_after;
        stand = stand-after;
        before = before_after;
      }

    -- a state whose class before is known
    pub Classing-known : (h class : ℕ) → slice_get had below ≡ Some h → get nat_eq by_class h ≡ Some class →
        Classing classes ones by_class (of ++ class ∷ []) (below + 1)
    Classing-known h class at found =
        Classing-more class classes ones by_class (λ key c e. e) (so_far.before h class found below at) (let f = so_far.few in omega arith)
        so_far.rows (λ c one e. inl e) so_far.before

    -- a state that is looked at
    module _ (h class : ℕ) (line : Line) (at : slice_get had below ≡ Some h) (is : map some_root line.items ≡ map (root below) others)
        (like : HaveLikeRoots root had) where
      by-class : (after : ByLine) (by_after : ByClass) →
          ((key : Line) (c : ℕ) → class_for classes key.items ≡ Some c → class_for after key.items ≡ Some c) →
          HasClass after (map (root below) others) class → Updates nat_eq by_class by_after h (Some class) →
          (k c : ℕ) → get nat_eq by_after k ≡ Some c → (q : ℕ) → slice_get had q ≡ Some k → HasClass after (map (root q) others) c
      by-class after by_after kept here updates k c found q q_at = elim (cases_Bool (nat_eq h k)) [
        | inl same ↦
            let is_h : h ≡ k = eqb-true h k same in
            let e : Some class ≡ Some c = sym updates.1 ∙ ap (get nat_eq by_after) is_h ∙ found in
            let is_class : class ≡ c = cc in
            let had_same : slice_get had below ≡ slice_get had q = at ∙ ap (λ (n : ℕ). let o : Option ℕ = Some n in o) is_h ∙ sym q_at in
            subst (λ (n : ℕ). HasClass after (map (root q) others) n) is_class
            (subst (λ (roots : List (Option NodeRef)). HasClass after roots class)
            (map-same (root below) (root q) (like below q had_same) others) here)
        | inr apart ↦
            let was = so_far.before k c (sym (updates.2 k apart) ∙ found) q q_at in
            record { key = was.key; items = was.items; found = kept was.key c was.found }
      ]

      of-has : (by_after : ByClass) → class_for classes line.items ≡ Some class → Updates nat_eq by_class by_after h (Some class) →
          Classing classes ones by_after (of ++ class ∷ []) (below + 1)
      of-has by_after found updates =
          let here : HasClass classes (map (root below) others) class = record { key = line; items = is; found = found } in
          Classing-more class classes ones by_after (λ key c e. e) here (let f = so_far.few in omega arith) so_far.rows (λ c one e. inl e)
          (by-class classes by_after (λ key c e. e) here updates)

      module _ (after : ByLine) (by_after : ByClass) (absent : class_for classes line.items ≡ None) (is_last : class ≡ length ones)
          (lines : Updates (λ a b. pointwise same_ref a.items b.items) classes after line (Some class))
          (updates : Updates nat_eq by_class by_after h (Some class)) where
        inserted : class_for after line.items ≡ Some class
        inserted = lines.1

        apart : (key : Line) (c : ℕ) → class_for classes key.items ≡ Some c → pointwise same_ref line.items key.items ≡ false
        apart key c there = elim (cases_Bool (pointwise same_ref line.items key.items)) [
          | inl same ↦ absurd (let e : None ≡ Some c = sym absent ∙ ap (class_for classes) (same_list line.items key.items same) ∙ there in cc)
          | inr differs ↦ differs
        ]

        kept : (key : Line) (c : ℕ) → class_for classes key.items ≡ Some c → class_for after key.items ≡ Some c
        kept key c there = lines.2 key (apart key c there) ∙ there

        rows-after : (key : Line) (c : ℕ) → class_for after key.items ≡ Some c → HasOne (ones ++ below ∷ []) c (map some_root key.items)
        rows-after key c there = elim (cases_Bool (pointwise same_ref line.items key.items)) [
          | inl same ↦
              let items : line.items ≡ key.items = same_list line.items key.items same in
              let e : Some class ≡ Some c = sym inserted ∙ ap (class_for after) items ∙ there in
              let is_class : class ≡ c = cc in
              record {
                one = below;
                there = ap (slice_get (ones ++ below ∷ [])) (sym is_class ∙ is_last) ∙ slice_get-last ones below;
                same = sym is ∙ ap (λ (rs : List NodeRef). map some_root rs) items;
              }
          | inr differs ↦
              let was = so_far.rows key c (sym (lines.2 key differs) ∙ there) in
              record {
                one = was.one;
                there = slice_get-front ones (below ∷ []) c (slice_get_within ones c was.one was.there) ∙ was.there;
                same = was.same;
              }
        ]

        ones-after : (c one : ℕ) → slice_get (ones ++ below ∷ []) c ≡ Some one →
            (slice_get ones c ≡ Some one) ⊎ ((one ≡ below) × (c ≡ class))
        ones-after c one there = elim (slice_get-push ones below one c there) [
          | inl before ↦ inl before
          | inr last ↦ inr (sym last.1, last.0 ∙ sym is_last)
        ]

        of-gets : Classing after (ones ++ below ∷ []) by_after (of ++ class ∷ []) (below + 1)
        of-gets =
            let here : HasClass after (map (root below) others) class = record { key = line; items = is; found = inserted } in
            Classing-more class after (ones ++ below ∷ []) by_after kept here
            (let f = so_far.few in let l = length-append ones (below ∷ []) in omega arith) rows-after ones-after
            (by-class after by_after kept here updates)

    of-line : (h : ℕ) (line : Line) → slice_get had below ≡ Some h → map some_root line.items ≡ map (root below) others → HaveLikeRoots root had →
        (after : ByLine) (longer : List ℕ) (by_after : ByClass) (class : ℕ) → IsLineStep line below classes ones after longer class →
        Updates nat_eq by_class by_after h (Some class) → Classing after longer by_after (of ++ class ∷ []) (below + 1)
    of-line h line at is like _ _ by_after _ (has class found) updates = of-has h class line at is like by_after found updates
    of-line h line at is like _ _ by_after _ (gets after class absent is_last lines) updates =
        of-gets h class line at is like after by_after absent is_last lines updates

  pub Classing-step : (before after : Lines) (of : List ℕ) (below h class : ℕ) → Classing before.classes before.ones before.known of below →
      slice_get had below ≡ Some h → HaveLikeRoots root had → IsStateStep (map (root below) others) below h before after class →
      Classing after.classes after.ones after.known (of ++ class ∷ []) (below + 1)
  Classing-step before _ of below h _ so_far at like (known class found) =
      Classing-known before.classes before.ones before.known of below so_far h class at found
  Classing-step before _ of below h _ so_far at like (looks after class line is step updates) =
      of-line before.classes before.ones before.known of below so_far h line at is like after.classes after.ones after.known class step updates

  -- all states
  module _ (classes : ByLine) (ones : List ℕ) (by_class : ByClass) (of : List ℕ) (many : ℕ)
      (all : Classing classes ones by_class of many) (told : AreToldApart root many others) where
    within : (q class : ℕ) → slice_get of q ≡ Some class → class < length ones
    within q class there =
        let line = all.each q class there in
        let one = all.rows line.key class line.found in
        slice_get_within ones class one.one one.there

    same-class : (q r class other : ℕ) → slice_get of q ≡ Some class → slice_get of r ≡ Some other → class ≡ other →
        map (root q) others ≡ map (root r) others
    same-class q r class other q_at r_at same =
        let first = all.each q class q_at in
        let second = all.each r class (r_at ∙ ap (λ (n : ℕ). let o : Option ℕ = Some n in o) (sym same)) in
        let one = all.rows first.key class first.found in
        let two = all.rows second.key class second.found in
        let e : Some one.one ≡ Some two.one = sym one.there ∙ two.there in
        let is_one : one.one ≡ two.one = cc in
        sym first.items ∙ sym one.same ∙ ap (λ (n : ℕ). map (root n) others) is_one ∙ two.same ∙ second.items

    class-same : (q r class other : ℕ) → slice_get of q ≡ Some class → slice_get of r ≡ Some other →
        map (root q) others ≡ map (root r) others → class ≡ other
    class-same q r class other q_at r_at same =
        let first = all.each q class q_at in
        let second = all.each r other r_at in
        let items = map-some_root first.key.items second.key.items (first.items ∙ same ∙ sym second.items) in
        let e : Some class ≡ Some other = sym first.found ∙ ap (class_for classes) items ∙ second.found in
        cc

    pub AreClassed-all : AreClassed root many (record { of = of; ones = ones })
    AreClassed-all = record {
      many = all.many;
      few = all.few;
      classes = record {
        within = within;
        each = λ class inside. (get_or ones class 0, all.stand class (get_or ones class 0) (slice_get-get_or ones class 0 inside));
        shared = λ q r class other q_at r_at. (
          λ same. told q r (let w = slice_get_within of q class q_at in let m = all.many in omega arith)
              (let w = slice_get_within of r other r_at in let m = all.many in omega arith) (same-class q r class other q_at r_at same),
          λ like. class-same q r class other q_at r_at (map-same (root q) (root r) like others),
        );
      };
      ones = all.stand;
    }
