-- Procedures and declarations: what their rows make, and of which words.
use Rattle.std.proofs.Common.{◌≡◌, List, [], ◌∷◌, Option, None, Some, refl, sym, ap, ◌∙◌, subst}
use Rattle.std.specs.Prelude.{codes}
use Rattle.ll1_reader.specs.declared.symbol.Symbol.TheVariants.{Maybe, Many}
use Rattle.pale_syntax.specs.declared.grammar.act.ProcedureAct.TheVariants as procedures
use Rattle.pale_syntax.specs.declared.grammar.act.StatementAct.TheVariants as statements
use Rattle.pale_syntax.specs.declared.grammar.part.ProgramPart.TheVariants as part
use Rattle.pale_text.specs.declared.place.Pos.{Pos}
use Rattle.pale_text.specs.declared.token.Mark.TheVariants as mark
use Rattle.pale_text.specs.declared.token.Token.{Token}
use Rattle.pale_text.specs.Tokens.{place_of}
use Rattle.pale_syntax.specs.declared.tree.assertion.Bracketed.{Bracketed}
use Rattle.pale_syntax.specs.declared.tree.names.Name.{Name}
use Rattle.pale_syntax.specs.declared.tree.statement.Statement.{Statement}
use Rattle.pale_syntax.specs.declared.tree.declaration.Declaration.TheVariants as declaration
use Rattle.pale_syntax.specs.declared.tree.declaration.LogicParameter.{LogicParameter}
use Rattle.pale_syntax.specs.declared.tree.declaration.LogicParameter.TheVariants as logic
use Rattle.pale_syntax.specs.declared.tree.declaration.Parameter.{Parameter}
use Rattle.pale_syntax.specs.declared.tree.declaration.Parameter.TheVariants as parameter
use Rattle.pale_syntax.specs.MakingParts.{Parts, name_of}
use Rattle.pale_syntax.specs.ProgramGrammar.{ProgramSymbol, rows_of, reads, opens, mark_place, procedure, statement}
use Rattle.pale_print_laws.specs.Words.{Words, ◌>>◌, word_of, word_at, separated, name_words}
use Rattle.pale_print_laws.specs.StatementWords.{clause_words, statement_words}
use Rattle.pale_print_laws.specs.DeclarationWords.{parameter_words, results_words, logic_parameter_words, logics_words, local_words}
use Rattle.pale_print_laws.proofs.TokenLemmas.{marked, plain, skipped}
use Rattle.pale_print_laws.proofs.Meaning.{FromTo, NoCall, BeforeProcedure}
use Rattle.pale_print_laws.proofs.PlaceFramework.{IsSoundRow, AreSoundRows, no_row, or_row, nth, Goal, Fits, Done}
use Rattle.pale_print_laws.proofs.ListLemmas.{all_words, behind_words, grown, settled}

-- ---- variables

data_row : IsSoundRow part.Parameter (nth (rows_of part.Parameter) 0)
unfolding rows_of
data_row = record {
  along = λ last tokens parts goal before done one here took name a took_name. (
    tt,
    λ colon b took_colon type end took_type. (
      tt,
      (
        tt,
        done (parameter.Data (name_of (Some name)) (name_of (Some type))) (Some type) end
            (record { along = λ after e. plain took (marked took_name (plain took_colon (marked took_type e))) }),
      ),
    ),
  );
}

pointer_row : IsSoundRow part.Parameter (nth (rows_of part.Parameter) 1)
unfolding rows_of
pointer_row = record {
  along = λ last tokens parts goal before done one here took name a took_name. (
    tt,
    λ colon b took_colon type end took_type. (
      tt,
      (
        tt,
        done (parameter.Pointer (name_of (Some name)) (name_of (Some type))) (Some type) end
            (record { along = λ after e. plain took (marked took_name (plain took_colon (marked took_type e))) }),
      ),
    ),
  );
}

bool_row : IsSoundRow part.Parameter (nth (rows_of part.Parameter) 2)
unfolding rows_of
bool_row = record {
  along = λ last tokens parts goal before done one here took name end took_name. (
    tt,
    (tt, done (parameter.Bool (name_of (Some name))) (Some name) end (record { along = λ after e. plain took (marked took_name e) })),
  );
}

pub parameter_sound : AreSoundRows part.Parameter (rows_of part.Parameter)
unfolding rows_of
parameter_sound = or_row data_row (or_row pointer_row (or_row bool_row no_row))

next_parameter_row : IsSoundRow part.NextParameter (nth (rows_of part.NextParameter) 0)
unfolding rows_of
next_parameter_row = record {
  along = λ last tokens parts goal before done comma here took.
      (tt, λ p behind end words. done p behind end (record { along = λ after e. plain took (words.along after e) }));
}

pub next_parameter_sound : AreSoundRows part.NextParameter (rows_of part.NextParameter)
unfolding rows_of
next_parameter_sound = or_row next_parameter_row no_row

local_row : IsSoundRow part.Local (nth (rows_of part.Local) 0)
unfolding rows_of
local_row = record {
  along = λ last tokens parts goal before done. (
    tt,
    λ p b middle words close end took. done p (Some close) end (record { along = λ after e. words.along _ (plain took e) }),
  );
}

pub local_sound : AreSoundRows part.Local (rows_of part.Local)
unfolding rows_of
local_sound = or_row local_row no_row

parameters_row : IsSoundRow part.Parameters (nth (rows_of part.Parameters) 0)
unfolding rows_of
parameters_row = record {
  along = λ last tokens parts goal before done.
      settled part.Parameters (nth (rows_of part.Parameters) 0) last tokens (record parts { variables = [] }) parts goal
      (ap (λ ps. record parts { variables = ps }) (sym before)) (λ done. (
        tt,
        λ p b middle first. (
          tt,
          λ ps behind end others.
              let all = behind_words part.NextParameter mark.Comma parameter_words (λ x s t is. is) others in
              subst (λ q. goal behind end q) (sym (grown part.NextParameter (λ l. record parts { variables = l }) (λ l x. refl) ps (p ∷ [])))
              (done (p ∷ ps) behind end
              (record { first = p; others = ps; all = refl; words = record { along = λ after e. first.along _ (all.along after e) } })),
        ),
      )) done;
}

pub parameters_sound : AreSoundRows part.Parameters (rows_of part.Parameters)
unfolding rows_of
parameters_sound = or_row parameters_row no_row

-- at least one result, behind its word
some_results : (xs : List Parameter) (first : Parameter) (others : List Parameter) → xs ≡ first ∷ others → (start end : List Token) →
    FromTo (λ after. word_of (codes "returns") >> separated mark.Comma parameter_words xs >> after) start end → FromTo (results_words xs) start end
some_results xs first others is start end words =
    subst (λ (ps : List Parameter). FromTo (results_words ps) start end) (sym is)
    (subst (λ (ps : List Parameter). FromTo (λ after. word_of (codes "returns") >> separated mark.Comma parameter_words ps >> after) start end) is words)

returns_row : IsSoundRow part.Returns (nth (rows_of part.Returns) 0)
unfolding rows_of
returns_row = record {
  along = λ last tokens parts goal before done one here took opening a took_open. (
    before,
    λ ps b middle made close end took_close. (
      tt,
      done ps (Some close) end (some_results ps made.first made.others made.all tokens end (record {
        along = λ after e. plain took (skipped took_open tt (made.words.along _ (skipped took_close tt e)));
      })),
    ),
  );
}

pub returns_sound : AreSoundRows part.Returns (rows_of part.Returns)
unfolding rows_of
returns_sound = or_row returns_row no_row

-- ---- logic variables

set_row : IsSoundRow part.LogicParameter (nth (rows_of part.LogicParameter) 0)
unfolding rows_of
set_row = record {
  along = λ last tokens parts goal before done one here took name a took_name. (
    tt,
    λ colon b took_colon type end took_type. (
      tt,
      (
        tt,
        done (logic.Set (name_of (Some name)) (name_of (Some type))) (Some type) end
            (record { along = λ after e. plain took (marked took_name (plain took_colon (marked took_type e))) }),
      ),
    ),
  );
}

bool_logic_row : IsSoundRow part.LogicParameter (nth (rows_of part.LogicParameter) 1)
unfolding rows_of
bool_logic_row = record {
  along = λ last tokens parts goal before done one here took name end took_name. (
    tt,
    (tt, done (logic.Bool (name_of (Some name))) (Some name) end (record { along = λ after e. plain took (marked took_name e) })),
  );
}

pub logic_parameter_sound : AreSoundRows part.LogicParameter (rows_of part.LogicParameter)
unfolding rows_of
logic_parameter_sound = or_row set_row (or_row bool_logic_row no_row)

next_logic_row : IsSoundRow part.NextLogicParameter (nth (rows_of part.NextLogicParameter) 0)
unfolding rows_of
next_logic_row = record {
  along = λ last tokens parts goal before done comma here took.
      (tt, λ p behind end words. done p behind end (record { along = λ after e. plain took (words.along after e) }));
}

pub next_logic_parameter_sound : AreSoundRows part.NextLogicParameter (rows_of part.NextLogicParameter)
unfolding rows_of
next_logic_parameter_sound = or_row next_logic_row no_row

logic_row : IsSoundRow part.Logic (nth (rows_of part.Logic) 0)
unfolding rows_of
logic_row = record {
  along = λ last tokens parts goal before done.
      settled part.Logic (nth (rows_of part.Logic) 0) last tokens (record parts { logics = [] }) parts goal
      (ap (λ ls. record parts { logics = ls }) (sym before)) (λ done one here took. (
        tt,
        λ l b middle first. (
          tt,
          λ ls behind end others.
              let all = behind_words part.NextLogicParameter mark.Comma logic_parameter_words (λ x s t is. is) others in
              subst (λ q. goal behind end q) (sym (grown part.NextLogicParameter (λ l. record parts { logics = l }) (λ l x. refl) ls (l ∷ [])))
              (done (l ∷ ls) behind end (record { along = λ after e. plain took (first.along _ (all.along after e)) })),
        ),
      )) done;
}

pub logic_sound : AreSoundRows part.Logic (rows_of part.Logic)
unfolding rows_of
logic_sound = or_row logic_row no_row

-- ---- clauses

pre_row : IsSoundRow part.Pre (nth (rows_of part.Pre) 0)
unfolding rows_of
pre_row = record {
  along = λ last tokens parts goal before done one here took.
      (before, λ b behind end words. (tt, done b behind end (record { along = λ after e. plain took (words.along after e) })));
}

pub pre_sound : AreSoundRows part.Pre (rows_of part.Pre)
unfolding rows_of
pre_sound = or_row pre_row no_row

post_row : IsSoundRow part.Post (nth (rows_of part.Post) 0)
unfolding rows_of
post_row = record {
  along = λ last tokens parts goal before done one here took.
      (before, λ b behind end words. (tt, done b behind end (record { along = λ after e. plain took (words.along after e) })));
}

pub post_sound : AreSoundRows part.Post (rows_of part.Post)
unfolding rows_of
post_sound = or_row post_row no_row

-- ---- procedures

-- what stands before the body of a procedure
record Header : Type 0 where
  place : Pos
  name : Name
  parameters : List Parameter
  results : List Parameter
  logics : List LogicParameter
  pre : Option Bracketed
  post : Option Bracketed

abbrev header_words : Header → Words
header_words h after =
    word_at (codes "proc") h.place >> name_words h.name >> separated mark.Comma parameter_words h.parameters >> results_words h.results >>
    logics_words h.logics >> clause_words (codes "pre") h.pre >> clause_words (codes "post") h.post >> after

-- the parts where this was read
abbrev with_header : Parts → Header → Parts
with_header parts h =
    record parts {
      places = h.place ∷ parts.places;
      names = h.name ∷ parts.names;
      variables = [];
      parameters = h.parameters;
      results = h.results;
      logics = h.logics;
      pre = h.pre;
      post = h.post;
    }

abbrev closing_row : List ProgramSymbol
closing_row = reads mark.RightBrace ∷ mark_place ∷ procedure procedures.AddProcedure ∷ []

abbrev statements_row : List ProgramSymbol
statements_row = Many part.Statement ∷ closing_row

abbrev body_row : List ProgramSymbol
body_row = opens mark.LeftBrace ∷ statement statements.BeginBlock ∷ Many part.Local ∷ statements_row

body_fits : (last : Option Token) (start here : List Token) (parts : Parts) (goal : Goal) (h : Header) → NoCall parts →
    FromTo (header_words h) start here → Done part.Procedure start parts goal → Fits body_row last here (with_header parts h) goal
body_fits last start here parts goal h none words done = λ opening a took_open. (
  tt,
  (
    tt,
    λ ls b there several.
        let locals = all_words part.Local local_words (λ x s t is. is) several in
        let at : (List Parameter) → (List Statement) → Parts = λ ls ss. record (with_header parts h) { variables = ls; blocks = ss ∷ parts.blocks } in
        subst (λ q. Fits statements_row b there q goal) (sym (grown part.Local (λ l. at l []) (λ l x. refl) ls [])) (
          (none, tt),
          λ ss c middle more.
              let body = all_words part.Statement statement_words (λ x s t is. is) more in
              subst (λ q. Fits closing_row c middle q goal) (sym (grown part.Statement (λ l. at ls l) (λ l s. refl) ss [])) (λ close end took_close. (
                tt,
                (
                  (tt, tt, tt),
                  done (record {
                    place = h.place;
                    name = h.name;
                    parameters = h.parameters;
                    results = h.results;
                    logics = h.logics;
                    pre = h.pre;
                    post = h.post;
                    locals = ls;
                    body = ss;
                    end = place_of (Some close);
                  }) (Some close) end
                      (record { along = λ after e. words.along _ (plain took_open (locals.along _ (body.along _ (marked took_close e)))) }),
                ),
              )),
        ),
  ),
)

post_fits : (last : Option Token) (start here : List Token) (parts : Parts) (goal : Goal) (h : Header) → NoCall parts →
    FromTo (header_words (record h { post = None })) start here → Done part.Procedure start parts goal →
    Fits (Maybe part.Post ∷ body_row) last here (with_header parts (record h { post = None })) goal
post_fits last start here parts goal h none words done = (
  none.0,
  body_fits last start here parts goal (record h { post = None }) none words done,
  λ x behind end more.
      body_fits behind start end parts goal (record h { post = Some x }) none
      (record { along = λ after e. words.along _ (more.along after e) }) done,
)

pre_fits : (last : Option Token) (start here : List Token) (parts : Parts) (goal : Goal) (h : Header) → NoCall parts →
    FromTo (header_words (record h { pre = None; post = None })) start here → Done part.Procedure start parts goal →
    Fits (Maybe part.Pre ∷ Maybe part.Post ∷ body_row) last here (with_header parts (record h { pre = None; post = None })) goal
pre_fits last start here parts goal h none words done = (
  none.0,
  post_fits last start here parts goal (record h { pre = None }) none words done,
  λ x behind end more.
      post_fits behind start end parts goal (record h { pre = Some x }) none
      (record { along = λ after e. words.along _ (more.along after e) }) done,
)

logic_fits : (last : Option Token) (start here : List Token) (parts : Parts) (goal : Goal) (h : Header) → NoCall parts →
    FromTo (header_words (record h { logics = []; pre = None; post = None })) start here → Done part.Procedure start parts goal →
    Fits (Maybe part.Logic ∷ Maybe part.Pre ∷ Maybe part.Post ∷ body_row) last here
    (with_header parts (record h { logics = []; pre = None; post = None })) goal
logic_fits last start here parts goal h none words done = (
  refl,
  pre_fits last start here parts goal (record h { logics = [] }) none words done,
  λ ls behind end more.
      pre_fits behind start end parts goal (record h { logics = ls }) none
      (record { along = λ after e. words.along _ (more.along after e) }) done,
)

returns_fits : (last : Option Token) (start here : List Token) (parts : Parts) (goal : Goal) (h : Header) → NoCall parts →
    FromTo (header_words (record h { results = []; logics = []; pre = None; post = None })) start here → Done part.Procedure start parts goal →
    Fits (Maybe part.Returns ∷ Maybe part.Logic ∷ Maybe part.Pre ∷ Maybe part.Post ∷ body_row) last here
    (with_header parts (record h { results = []; logics = []; pre = None; post = None })) goal
returns_fits last start here parts goal h none words done = (
  refl,
  logic_fits last start here parts goal (record h { results = [] }) none words done,
  λ ps behind end more.
      logic_fits behind start end parts goal (record h { results = ps }) none
      (record { along = λ after e. words.along _ (more.along after e) }) done,
)

-- nothing of a procedure is under way
fresh : (parts : Parts) → BeforeProcedure parts → record parts { variables = []; results = []; logics = []; pre = None; post = None } ≡ parts
fresh parts none =
    ap (λ vs. record parts { variables = vs; results = []; logics = []; pre = None; post = None }) (sym none.1) ∙
    (ap (λ rs. record parts { results = rs; logics = []; pre = None; post = None }) (sym none.2) ∙
    (ap (λ ls. record parts { logics = ls; pre = None; post = None }) (sym none.3) ∙
    (ap (λ p. record parts { pre = p; post = None }) (sym none.4) ∙ ap (λ p. record parts { post = p }) (sym none.5))))

procedure_row : IsSoundRow part.Procedure (nth (rows_of part.Procedure) 0)
unfolding rows_of
procedure_row = record {
  along = λ last tokens parts goal before done.
      let p : Parts = record parts { variables = []; results = []; logics = []; pre = None; post = None } in
      settled part.Procedure (nth (rows_of part.Procedure) 0) last tokens p parts goal (fresh parts before) (λ done one a took.
      let head : Name → List Parameter → Header = λ x ps. record {
        place = place_of (Some one);
        name = x;
        parameters = ps;
        results = [];
        logics = [];
        pre = None;
        post = None;
      } in (
        tt,
        λ name b took_name.
            let x : Name = name_of (Some name) in (
              tt,
              λ opening c took_open. (
                refl,
                λ close end took_close. (
                  tt,
                  returns_fits (Some close) tokens end p goal (head x []) before.0 (record {
                    along = λ after e. marked took (marked took_name (skipped took_open tt (skipped took_close tt e)));
                  }) done,
                ),
                λ ps d middle made close end took_close. (
                  tt,
                  returns_fits (Some close) tokens end p goal (head x ps) before.0 (record {
                    along = λ after e. marked took (marked took_name (skipped took_open tt (made.words.along _ (skipped took_close tt e))));
                  }) done,
                ),
              ),
            ),
      )) done;
}

pub procedure_sound : AreSoundRows part.Procedure (rows_of part.Procedure)
unfolding rows_of
procedure_sound = or_row procedure_row no_row

-- ---- declarations

type_row : IsSoundRow part.Declaration (nth (rows_of part.Declaration) 0)
unfolding rows_of
type_row = record {
  along = λ last tokens parts goal before done. (
    before.0,
    λ x behind end words. done (declaration.«Type» x) behind end (record { along = λ after e. words.along after e }),
  );
}

predicate_row : IsSoundRow part.Declaration (nth (rows_of part.Declaration) 1)
unfolding rows_of
predicate_row = record {
  along = λ last tokens parts goal before done. (
    before.1,
    λ x behind end words. done (declaration.Predicate x) behind end (record { along = λ after e. words.along after e }),
  );
}

procedure_declaration_row : IsSoundRow part.Declaration (nth (rows_of part.Declaration) 2)
unfolding rows_of
procedure_declaration_row = record {
  along = λ last tokens parts goal before done. (
    before.2,
    λ x behind end words. done (declaration.Procedure x) behind end (record { along = λ after e. words.along after e }),
  );
}

pub declaration_sound : AreSoundRows part.Declaration (rows_of part.Declaration)
unfolding rows_of
declaration_sound = or_row type_row (or_row predicate_row (or_row procedure_declaration_row no_row))
