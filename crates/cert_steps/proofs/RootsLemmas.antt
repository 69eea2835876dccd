-- Roots with their nodes, one after the other.
use Rattle.std.proofs.Common.{◌≡◌, ℕ, zero, suc, ◌+◌, List, [], ◌∷◌, ◌++◌, length, map, slice_get, Some, refl, ap, sym, ◌∙◌, subst, arith}
use Rattle.std.proofs.Common.{append_assoc, append-nil, length-append}
use Rattle.cert_text.specs.declared.line.Target.{Target}
use Rattle.cert_text.specs.declared.line.Target.TheVariants as target
use Rattle.cert_text.specs.declared.line.NodeLine.{NodeLine}
use Rattle.cert_text.specs.declared.line.RootLine.{RootLine}
use Rattle.cert_text.specs.declared.line.Line.{Line}
use Rattle.cert_text.specs.declared.line.Line.TheVariants as line
use Rattle.cert_nodes.specs.Nodes.{IsThere}
use Rattle.cert_steps.specs.declared.roots.RootPlace.{RootPlace}
use Rattle.cert_steps.specs.Steps.{Rooted, lines_of_root, nodes_of_row, target_of}
use Rattle.cert_steps.specs.Places.{IsRootAt, AreRootsFrom}
use Rattle.cert_steps.specs.Reading.{ReadsRoot, ReadsRoots}
use Rattle.cert_steps.proofs.ListsLemmas.{one-more, map-push, read-more, read-group, behind-group}

-- the nodes that come new before a root
pub record HasDrawn (old now : List NodeLine) (lines left : List Line) : Type 0 where
  pub nodes : List NodeLine
  pub read : lines ≡ map line.Node nodes ++ left
  pub drawn : now ≡ old ++ nodes

pub drawn-none : (old : List NodeLine) (lines : List Line) → HasDrawn old old lines lines
drawn-none old lines = record { nodes = []; read = refl; drawn = sym (append-nil old) }

pub drawn-more : (old now new : List NodeLine) (lines left rest : List Line) (node : NodeLine) → HasDrawn old now lines left → left ≡ line.Node node ∷ rest →
    new ≡ now ++ node ∷ [] → HasDrawn old new lines rest
drawn-more old now new lines left rest node has next is = record {
  nodes = has.nodes ++ node ∷ [];
  read = read-more line.Node lines has.nodes node left rest has.read next;
  drawn = is ∙ ap (λ (l : List NodeLine). l ++ node ∷ []) has.drawn ∙ append_assoc old has.nodes (node ∷ []);
}

pub root-read : (old now : List NodeLine) (lines left rest : List Line) (place : RootPlace) (root : RootLine) → HasDrawn old now lines left →
    left ≡ line.Root root ∷ rest → IsRootAt now place.states place.space place.left place.right root → ReadsRoot old now place lines root.target rest
root-read old now lines left rest place root has next fits = record {
  rooted = record { nodes = has.nodes; root = root };
  read = has.read ∙ ap (λ (l : List Line). map line.Node has.nodes ++ l) next ∙ sym (append_assoc (map line.Node has.nodes) (line.Root root ∷ []) rest);
  drawn = has.drawn;
  fits = fits;
  target_is = refl;
}

-- ---- rows

module _ (states s c : ℕ) where
  roots-from-push : (nodes : List NodeLine) (d : ℕ) (row : List Rooted) (r : Rooted) → AreRootsFrom nodes states s c d row →
      IsRootAt ((nodes ++ nodes_of_row row) ++ r.nodes) states s c (d + length row) r.root → AreRootsFrom nodes states s c d (row ++ r ∷ [])
  roots-from-push nodes d [] r are here = (
    subst (λ (n : ℕ). IsRootAt (nodes ++ r.nodes) states s c n r.root) (let e : d + 0 ≡ d = omega arith in e)
        (subst (λ (ns : List NodeLine). IsRootAt (ns ++ r.nodes) states s c (d + 0) r.root) (append-nil nodes) here),
    tt,
  )
  roots-from-push nodes d (x ∷ row) r are here = (
    are.0,
    roots-from-push (nodes ++ x.nodes) (suc d) row r are.1
        (subst (λ (n : ℕ). IsRootAt (((nodes ++ x.nodes) ++ nodes_of_row row) ++ r.nodes) states s c n r.root)
        (let e : d + suc (length row) ≡ suc d + length row = omega arith in e)
        (subst (λ (ns : List NodeLine). IsRootAt (ns ++ r.nodes) states s c (d + suc (length row)) r.root)
        (sym (append_assoc nodes x.nodes (nodes_of_row row))) here)),
  )

  pub roots-none : (old : List NodeLine) (lines : List Line) → ReadsRoots old old states s c 0 lines [] lines
  roots-none old lines = record { row = []; read = refl; drawn = sym (append-nil old); fits = tt; many = refl; targets_are = refl }

  pub roots-push : (old mid new : List NodeLine) (d : ℕ) (place : RootPlace) (lines left rest : List Line) (targets : List Target) (t : Target) →
      ReadsRoots old mid states s c d lines targets left → place.states ≡ states → place.space ≡ s → place.left ≡ c → place.right ≡ d →
      ReadsRoot mid new place left t rest → ReadsRoots old new states s c (d + 1) lines (targets ++ t ∷ []) rest
  roots-push old mid new d place lines left rest targets t row of_states of_space of_left of_right root = record {
    row = row.row ++ root.rooted ∷ [];
    read = read-group lines_of_root lines row.row root.rooted left rest row.read root.read;
    drawn = behind-group (λ (r : Rooted). r.nodes) old mid new row.row root.rooted row.drawn root.drawn;
    fits = roots-from-push old 0 row.row root.rooted row.fits placed;
    many = one-more row.row root.rooted d row.many;
    targets_are = targets-same ∙ sym (map-push target_of row.row root.rooted);
  }
    where
      same_nodes : new ≡ (old ++ nodes_of_row row.row) ++ root.rooted.nodes
      same_nodes = root.drawn ∙ ap (λ (l : List NodeLine). l ++ root.rooted.nodes) row.drawn

      at_place : IsRootAt new states s c d root.rooted.root
      at_place =
          subst (λ (n : ℕ). IsRootAt new states s c n root.rooted.root) of_right
          (subst (λ (n : ℕ). IsRootAt new states s n place.right root.rooted.root) of_left
          (subst (λ (n : ℕ). IsRootAt new states n place.left place.right root.rooted.root) of_space
          (subst (λ (n : ℕ). IsRootAt new n place.space place.left place.right root.rooted.root) of_states root.fits)))

      placed : IsRootAt ((old ++ nodes_of_row row.row) ++ root.rooted.nodes) states s c (0 + length row.row) root.rooted.root
      placed =
          subst (λ (n : ℕ). IsRootAt ((old ++ nodes_of_row row.row) ++ root.rooted.nodes) states s c n root.rooted.root)
          (let many = row.many in let e : d ≡ 0 + length row.row = omega (arith, many) in e)
          (subst (λ (ns : List NodeLine). IsRootAt ns states s c d root.rooted.root) same_nodes at_place)

      targets-same : targets ++ t ∷ [] ≡ map target_of row.row ++ target_of root.rooted ∷ []
      targets-same = ap (λ (l : List Target). l ++ t ∷ []) row.targets_are ∙ ap (λ (u : Target). map target_of row.row ++ u ∷ []) root.target_is

-- ---- targets that are there

pub there-more : (nodes more : List NodeLine) (t : Target) → IsThere nodes t → IsThere (nodes ++ more) t
there-more nodes more (target.State q) there = tt
there-more nodes more (target.Node n) there =
    let inside = there.1 in
    (there.0, omega (arith, length-append nodes more, inside))

-- behind more nodes, and those behind them
pub there-behind : (nodes first more : List NodeLine) (t : Target) → IsThere (nodes ++ first) t → IsThere (nodes ++ (first ++ more)) t
there-behind nodes first more t there = subst (λ (ns : List NodeLine). IsThere ns t) (append_assoc nodes first more) (there-more (nodes ++ first) more t there)

pub there-shifted : (nodes first more : List NodeLine) (t : Target) → IsThere ((nodes ++ first) ++ more) t → IsThere (nodes ++ (first ++ more)) t
there-shifted nodes first more t there = subst (λ (ns : List NodeLine). IsThere ns t) (append_assoc nodes first more) there

module _ (states s c : ℕ) where
  pub there-row : (nodes : List NodeLine) (d : ℕ) (row : List Rooted) (k : ℕ) (t : Target) → AreRootsFrom nodes states s c d row →
      slice_get (map target_of row) k ≡ Some t → IsThere (nodes ++ nodes_of_row row) t
  there-row nodes d [] k t are at = absurd cc
  there-row nodes d (r ∷ row) zero t are at =
      let same : target_of r ≡ t = cc in
      there-behind nodes r.nodes (nodes_of_row row) t (subst (IsThere (nodes ++ r.nodes)) same are.0.there)
  there-row nodes d (r ∷ row) (suc k) t are at =
      there-shifted nodes r.nodes (nodes_of_row row) t (there-row (nodes ++ r.nodes) (suc d) row k t are.1 at)
