use Rattle.std.proofs.Common.{◌++◌, [], ◌∷◌, sym, ap, ◌∙◌, subst}
use Rattle.hoare_triples.specs.declared.reached.Reached.{Reached}
use Rattle.hoare_split.specs.Flows.{Arrival, is_among}
use Rattle.hoare_split.specs.Cuts.{plain_cut}
use Rattle.hoare_triples.specs.Following.{Reaches}
use Rattle.hoare_split.proofs.FlowLemmas.{is_among-last}
use Rattle.hoare_triples.proofs.ReachLemmas.{among-found, among-unfound, Reaches-old, Reaches-new, on_ok}
use Rattle.hoare_triples.proofs.codes.code_to.Goals as goal
use Rattle.hoare_triples.proofs.codes.code_to.Goals.{then-is_none+in_ok-cut+in_ok-add, else-is_none}

pub code_ending-requires : goal.code_ending-requires
code_ending-requires c =
    let old = c.args.reached.now.points in
    elim c.if-is_none.branch [
      | then-is_none+in_ok-cut+in_ok-add w ↦ ap (λ (r : Reached). is_among c.args.point r.points) w.reached-is
          ∙ ap (is_among c.args.point) w.in_ok-add.ensures.points ∙ is_among-last c.args.point old
      | else-is_none w ↦ ap (λ (r : Reached). is_among c.args.point r.points) w.reached-is
          ∙ among-found c.args.point old _ _ c.find.ensures c.is_none.ensures w.if-is_none.false
    ]

pub returns-clause-reached : goal.returns-clause-reached
returns-clause-reached c =
    let old = c.args.reached.now in
    let arrival : Arrival = record { point = c.args.point; cut = plain_cut c.args.line c.args.assertion.now } in
    let reaches : Reaches old c.if-is_none.reached (arrival ∷ []) = elim c.if-is_none.branch [
      | then-is_none+in_ok-cut+in_ok-add w ↦ subst (λ (r : Reached). Reaches old r (arrival ∷ [])) (sym w.reached-is)
          (Reaches-new old w.add.new.self arrival (among-unfound c.args.point old.points _ _ c.find.ensures c.is_none.ensures w.if-is_none.true)
          w.in_ok-add.ensures.points (w.in_ok-add.ensures.cuts ∙ ap (λ cut. old.cuts ++ cut ∷ []) w.in_ok-cut.ensures))
      | else-is_none w ↦ subst (λ (r : Reached). Reaches old r (arrival ∷ [])) (sym w.reached-is)
          (Reaches-old old arrival (among-found c.args.point old.points _ _ c.find.ensures c.is_none.ensures w.if-is_none.false))
    ] in
    on_ok c.code_ending.result reaches
