use Rattle.std.proofs.Common.{◌↔◌, IsTrue, sym, subst}
use Rattle.routing_walks.specs.Walks.{IsRoot, IsLeaf, IsOfType, IsOfVariant, HasTruth}
use Rattle.routing_walks.proofs.WalkLemmas.{Walk-Root, Walk-Leaf, Walk-IsType, Walk-IsVariant, Walk-IsBool}
use Rattle.routing_expr.specs.Searches.{fields_in}
use Rattle.routing_expr.specs.Machines.{label_of_test, Takes}
use Rattle.routing_expr.proofs.StepLemmas.{stays-by}
use Rattle.routing_expr.proofs.search.Search.passes.Goals as goal

pub returns-in-Root : goal.returns-in-Root
returns-in-Root c =
    let types = c.args.self.now.types.now in
    let s = c.args.self.now.store.now in
    let fields = fields_in c.args.self.now.followed in
    subst (λ t. IsTrue c.is_root.result ↔ Takes types s fields (label_of_test t) c.args.cell c.args.cell) (sym c.in-Root.is)
    (stays-by (IsRoot types s) c.args.cell c.is_root.result (Walk-Root types s fields c.args.cell c.args.cell) c.is_root.ensures)

pub returns-in-Leaf : goal.returns-in-Leaf
returns-in-Leaf c =
    let types = c.args.self.now.types.now in
    let s = c.args.self.now.store.now in
    let fields = fields_in c.args.self.now.followed in
    subst (λ t. IsTrue c.is_leaf.result ↔ Takes types s fields (label_of_test t) c.args.cell c.args.cell) (sym c.in-Leaf.is)
    (stays-by (IsLeaf types s) c.args.cell c.is_leaf.result (Walk-Leaf types s fields c.args.cell c.args.cell) c.is_leaf.ensures)

pub returns-in-IsType : goal.returns-in-IsType
returns-in-IsType c =
    let types = c.args.self.now.types.now in
    let s = c.args.self.now.store.now in
    let fields = fields_in c.args.self.now.followed in
    subst (λ t. IsTrue c.is_of_type.result ↔ Takes types s fields (label_of_test t) c.args.cell c.args.cell) (sym c.in-IsType.is)
    (stays-by (IsOfType s c.in-IsType.ty) c.args.cell c.is_of_type.result
    (Walk-IsType types s fields c.in-IsType.ty c.args.cell c.args.cell) c.is_of_type.ensures)

pub returns-in-IsVariant : goal.returns-in-IsVariant
returns-in-IsVariant c =
    let types = c.args.self.now.types.now in
    let s = c.args.self.now.store.now in
    let fields = fields_in c.args.self.now.followed in
    subst (λ t. IsTrue c.is_of_variant.result ↔ Takes types s fields (label_of_test t) c.args.cell c.args.cell) (sym c.in-IsVariant.is)
    (stays-by (IsOfVariant s c.in-IsVariant.v) c.args.cell c.is_of_variant.result
    (Walk-IsVariant types s fields c.in-IsVariant.v c.args.cell c.args.cell) c.is_of_variant.ensures)

pub returns-in-IsBool : goal.returns-in-IsBool
returns-in-IsBool c =
    let types = c.args.self.now.types.now in
    let s = c.args.self.now.store.now in
    let fields = fields_in c.args.self.now.followed in
    let name = c.in-IsBool.name.now in
    subst (λ t. IsTrue c.has_truth.result ↔ Takes types s fields (label_of_test t) c.args.cell c.args.cell) (sym c.in-IsBool.is)
    (stays-by (HasTruth types s name c.in-IsBool.truth) c.args.cell c.has_truth.result
    (Walk-IsBool types s fields name c.in-IsBool.truth c.args.cell c.args.cell) c.has_truth.ensures)
