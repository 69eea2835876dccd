-- Numbers for functions.
use Rattle.std.proofs.Common.{◌≡◌, ℕ, suc, ◌+◌, ◌<◌, ◌≤◌, Bool, true, false, List, [], ◌∷◌, ◌++◌, length, Some, inl, inr, if◌then◌else◌}
use Rattle.std.proofs.Common.{sym, ◌∙◌, ap, refl, subst, arith, length-append}
use Rattle.std.specs.Prelude.{slice_get, slice_index, slice_index_or}
use Rattle.std.proofs.lemmas.Option.{slice_get_within, slice_get-get_or}
use Rattle.labels.specs.Labels.{Label}
use Rattle.bdd_nodes.specs.declared.node_ref.NodeRef.{NodeRef}
use Rattle.bdd_nodes.specs.Nodes.{node_of}
use Rattle.bdd_nodes.specs.Shelf.{Contents, IsShelf, IsValid, IsLeaf, IsSideFor, AsksFrom, state_of, choice_of}
use Rattle.bdd_nodes.specs.Changes.{Keeps}
use Rattle.bdd_nodes.proofs.CanonicalLemmas.{differ_named}
use Rattle.bdd_nodes.proofs.RefLemmas.{node_of-injective}
use Rattle.bdd_nodes.proofs.SplitLemmas.{AsksFrom-weaker}
use Rattle.gta_theory.proofs.ListedLemmas.{slice_get-push}
use Rattle.bdd_list.specs.declared.listing.Listed.{Listed}
use Rattle.bdd_list.specs.declared.listing.Listed.TheVariants.{Leaf, Inner}
use Rattle.bdd_list.specs.declared.listing.ListedNode.{ListedNode}
use Rattle.bdd_list.specs.declared.listing.Listing.{Listing}
use Rattle.bdd_list.specs.Listing.{function_in, node_at, IsSide, AreOrdered}
use Rattle.bdd_list.proofs.ListingLemmas.{function_in-leaf, function_in-inner}
use Rattle.gta_refine.specs.Numbered.{Stands, AreNumbered, IsNumbered, StandFor, number_at, TellApart}

pub Stands-leaf : (shelf : Contents) (classes : List ℕ) (nodes : List ListedNode) (state class : ℕ) (r : NodeRef) →
    IsLeaf r class → class ≡ slice_index classes state → Stands shelf classes nodes (Leaf state) r
Stands-leaf shelf classes nodes state class r leaf is = record {
  valid = leaf.valid shelf;
  states = λ label. leaf.states shelf label ∙ is ∙ ap (slice_index classes) (sym (function_in-leaf nodes state label));
  asks = λ t none. leaf.asks shelf t;
}

pub Stands-kept : (old new : Contents) (classes : List ℕ) (nodes : List ListedNode) (listed : Listed) (r : NodeRef) → Keeps old new →
    Stands old classes nodes listed r → Stands new classes nodes listed r
Stands-kept old new classes nodes listed r keeps stands = record {
  valid = keeps.valid r stands.valid;
  states = λ label. keeps.states r label stands.valid ∙ stands.states label;
  asks = λ t asks. keeps.asks r t stands.valid (stands.asks t asks);
}

-- what stands for a side may be a side
pub IsSideFor-stands : (shelf : Contents) (classes : List ℕ) (nodes : List ListedNode) (index track : ℕ) (listed : Listed) (r : NodeRef) →
    IsSide nodes index track listed → Stands shelf classes nodes listed r → IsSideFor shelf track r
IsSideFor-stands shelf classes nodes index track listed r side stands = record {
  valid = stands.valid;
  later = stands.asks (suc track) side.later;
}

class-if : (classes : List ℕ) (b : Bool) (x y u v : ℕ) → x ≡ slice_index classes u → y ≡ slice_index classes v →
    (if b then x else y) ≡ slice_index classes (if b then u else v)
class-if classes true x y u v e f = e
class-if classes false x y u v e f = f

-- the choice of what stands for the sides gives the class of what the node gives
pub Stands-states : (shelf : Contents) (classes : List ℕ) (nodes : List ListedNode) (ordered : AreOrdered nodes) (index : ℕ) (inside : index < length nodes)
    (low high : NodeRef) → Stands shelf classes nodes (node_at nodes index).low low → Stands shelf classes nodes (node_at nodes index).high high →
    (label : Label) → choice_of shelf (node_at nodes index).track low high label ≡ slice_index classes (function_in nodes (Inner index) label)
Stands-states shelf classes nodes ordered index inside low high stands_low stands_high label =
    class-if classes (label (node_at nodes index).track) (state_of shelf high label) (state_of shelf low label)
    (function_in nodes (node_at nodes index).high label) (function_in nodes (node_at nodes index).low label)
    (stands_high.states label) (stands_low.states label)
    ∙ ap (slice_index classes) (sym (function_in-inner nodes index label inside (ordered.low index inside).before (ordered.high index inside).before))

-- what is made of what stands for the sides stands for the node
module _ (old new : Contents) (classes : List ℕ) (nodes : List ListedNode) (ordered : AreOrdered nodes) (index : ℕ) (inside : index < length nodes)
    (low high made : NodeRef)
    (stands_low : Stands old classes nodes (node_at nodes index).low low)
    (stands_high : Stands old classes nodes (node_at nodes index).high high)
    (valid : IsValid new made)
    (states : (label : Label) → state_of new made label ≡ choice_of old (node_at nodes index).track low high label)
    (later : AsksFrom new (node_at nodes index).track made) where
  pub Stands-made : Stands new classes nodes (Inner index) made
  Stands-made = record {
    valid = valid;
    states = λ label. states label ∙ Stands-states old classes nodes ordered index inside low high stands_low stands_high label;
    asks = λ t above. AsksFrom-weaker new made t (node_at nodes index).track above later;
  }

  -- one more node
  pub AreNumbered-push : (refs : List NodeRef) → AreNumbered old classes nodes refs → length refs ≡ index → Keeps old new →
      AreNumbered new classes nodes (refs ++ made ∷ [])
  AreNumbered-push refs numbered many keeps = record {
    each = λ i r there. elim (slice_get-push refs made r i there) [
      | inl before ↦ Stands-kept old new classes nodes (Inner i) r keeps (numbered.each i r before)
      | inr last ↦
          let is : index ≡ i = sym many ∙ sym last.0 in
          subst (λ (x : NodeRef). Stands new classes nodes (Inner i) x) last.1
          (subst (λ (k : ℕ). Stands new classes nodes (Inner k) made) is Stands-made)
    ];
  }

pub AreNumbered-none : (shelf : Contents) (classes : List ℕ) (nodes : List ListedNode) → AreNumbered shelf classes nodes []
AreNumbered-none shelf classes nodes = record { each = λ i r there. absurd cc }

pub numbered-at : (shelf : Contents) (classes : List ℕ) (nodes : List ListedNode) (refs : List NodeRef) → AreNumbered shelf classes nodes refs →
    (listed : Listed) → IsNumbered shelf classes nodes refs listed
numbered-at shelf classes nodes refs numbered listed = record {
  each = λ i r is there. subst (λ (l : Listed). Stands shelf classes nodes l r) (sym is) (numbered.each i r there);
}

pub count-if : (b : Bool) (count index new : ℕ) → count ≤ index → new ≡ (if b then count else count + 1) → new ≤ index + 1
count-if true count index new below is = omega arith
count-if false count index new below is = omega arith

-- what is listed so far has what stands for it
pub record StandBelow (classes : List ℕ) (refs : List NodeRef) (listed : List Listed) (references : List NodeRef) (below : ℕ) : Type 0 where
  pub many : length references ≡ below
  pub each : (shelf : Contents) (nodes : List ListedNode) (k : ℕ) (one : Listed) (r : NodeRef) → IsNumbered shelf classes nodes refs one →
      slice_get listed k ≡ Some one → slice_get references k ≡ Some r → Stands shelf classes nodes one r

pub StandBelow-none : (classes : List ℕ) (refs : List NodeRef) (listed : List Listed) → StandBelow classes refs listed [] 0
StandBelow-none classes refs listed = record {
  many = refl;
  each = λ shelf nodes k one r numbered one_there r_there. absurd
      (let b = slice_get_within [] k r r_there in omega arith);
}

pub StandBelow-push : (classes : List ℕ) (refs : List NodeRef) (listed : List Listed) (references : List NodeRef) (below : ℕ) (r : NodeRef) →
    StandBelow classes refs listed references below → below < length listed →
    ((shelf : Contents) (nodes : List ListedNode) → IsNumbered shelf classes nodes refs (slice_index_or listed below (Leaf 0)) →
    Stands shelf classes nodes (slice_index_or listed below (Leaf 0)) r) →
    StandBelow classes refs listed (references ++ r ∷ []) (below + 1)
StandBelow-push classes refs listed references below r so_far inside stands = record {
  many = length-append references (r ∷ []) ∙ (let m = so_far.many in omega arith);
  each = λ shelf nodes k one other numbered one_there other_there. elim (slice_get-push references r other k other_there) [
    | inl before ↦ so_far.each shelf nodes k one other numbered one_there before
    | inr last ↦
        let is : k ≡ below = last.0 ∙ so_far.many in
        let at : Some (slice_index_or listed below (Leaf 0)) ≡ Some one =
        sym (slice_get-get_or listed below (Leaf 0) inside) ∙ ap (slice_get listed) (sym is) ∙ one_there in
        let same : slice_index_or listed below (Leaf 0) ≡ one = cc in
        subst (Stands shelf classes nodes one) last.1 (subst (λ (l : Listed). Stands shelf classes nodes l r) same
        (stands shelf nodes (subst (IsNumbered shelf classes nodes refs) (sym same) numbered)))
  ];
}

pub StandFor-all : (classes : List ℕ) (refs : List NodeRef) (listed : List Listed) (references : List NodeRef) →
    StandBelow classes refs listed references (length listed) → StandFor classes refs listed references
StandFor-all classes refs listed references all = record { many = all.many; each = all.each }

-- all roots
pub TellApart-all : (shelf : Contents) (classes : List ℕ) (listing : Listing) (refs numbers : List NodeRef) → IsShelf shelf →
    AreNumbered shelf classes listing.nodes refs → StandFor classes refs listing.roots numbers → TellApart listing classes numbers
TellApart-all shelf classes listing refs numbers is_shelf numbered stand =
    let at : (i : ℕ) → i < length listing.roots → Stands shelf classes listing.nodes (slice_index_or listing.roots i (Leaf 0)) (number_at numbers i) =
    λ i i_in. let m = stand.many in stand.each shelf listing.nodes i (slice_index_or listing.roots i (Leaf 0)) (number_at numbers i)
    (numbered-at shelf classes listing.nodes refs numbered (slice_index_or listing.roots i (Leaf 0)))
    (slice_get-get_or listing.roots i (Leaf 0) i_in) (slice_get-get_or numbers i (record { word = 0 }) (omega arith)) in
    record {
      many = stand.many;
      same = λ i j i_in j_in same label.
          sym ((at i i_in).states label) ∙ ap (λ (r : NodeRef). state_of shelf r label) same ∙ (at j j_in).states label;
      apart = λ i j i_in j_in other.
          let one = at i i_in in
          let two = at j j_in in
          let a = number_at numbers i in
          let b = number_at numbers j in
          let differ = differ_named shelf.nodes is_shelf.canonical (node_of a) (node_of b) one.valid two.valid
          (λ e. other (node_of-injective a b e)) in
          record {
            label = differ.0;
            differs = λ e. differ.1 (one.states differ.0 ∙ e ∙ sym (two.states differ.0));
          };
    }
