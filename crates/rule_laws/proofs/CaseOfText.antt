-- The constants of one case statement of a text whose tables are whole.
use Rattle.std.proofs.Common.{if◌then◌else◌, ◌++◌, ◌<◌, ◌∙◌, ◌∷◌, ◌≡◌, [], ℕ, Bool, List, Option, Some, ap, arith, false, inl, inr, length, refl, subst, sym}
use Rattle.std.proofs.Common.{true}
use Rattle.pas_tree.specs.{Denoters.last_semicolon_node, ExpressionPlaces.first_of_expression, ExpressionTrees.ExpressionTree, StatementTrees.BranchTree}
use Rattle.pas_tree.specs.{StatementTrees.BranchTrees, StatementTrees.CaseTree, declared.constants.Constant.Constant}
use Rattle.pas_tree.specs.StatementTrees as tree
use Rattle.pas_tree.specs.TreeNodes.{branch_node, branches_node, case_node, expression_node, statement_node}
use Rattle.core_program.specs.WholeTables.{RowFits, is_host_type}
use Rattle.core_program.specs.declared.rows.{NameRow.NameRow, Row.Row, StatementRow.StatementRow}
use Rattle.check_steps.specs.{Known.Known, Known.row_at, Known.type_at, declared.breaks.Break.Break}
use Rattle.check_steps.specs.Steps.{◌>>=◌, Step, ask, change, give, look}
use Rattle.kind_checker.specs.{Operators.is_ordinal, Shapes.shape_of, Sizes.host_of, declared.shapes.ExpressionType.ExpressionType}
use Rattle.expression_checker.specs.{Expressions.expression, Selectors.type_number}
use Rattle.statement_checker.specs.{Choices.case_row, Choices.host_or, Choices.selector, Parts.selected, Sequences.line_of, Sequences.stated}
use Rattle.statement_checker.specs.Statements.{branch_step, case_statement, more_branches}
use Rattle.rule_laws.proofs.{Every.Of, ExpressionValues.expression_gives, Faces.face, Faces.loose, LabelTold.Anywhere, LabelTold.anywhere, LabelTold.everywhere}
use Rattle.rule_laws.proofs.{NamesFound.Ahead, Outward.Outward, SelectorTypes.host_some, SelectorTypes.host_there, StatementChoices.case_row-touches}
use Rattle.rule_laws.proofs.{StatementParts.selected-touches, Stood.Stood, Touches.Touches, Touches.bind-touches, Touches.give-touches}
use Rattle.rule_laws.proofs.CasesDiffer.{Chosen, Goes, Right, calm, calm_then, choices_go, goes_calm, goes_then, right_at}
use Rattle.rule_laws.proofs.ExpressionRows.{asked_fine, left_none, put_in, right_none}
use Rattle.rule_laws.proofs.ExpressionTypes.{Fits, World, is_given, scalar_given}
use Rattle.rule_laws.proofs.Settled.{Inside, Led, Off, Settled, Tells, every_off, led_then, settled_before, settled_sub}
use Rattle.rule_laws.proofs.StatementStatements.{branch_step-touches, more_branches-touches, statement_step-touches}
use Rattle.rule_laws.proofs.WithFrames.{Around, around_then, within_end}
use Rattle.rule_laws.specs.{CaseLaws.late_at, TextCases.CaseIsRight, TextCases.type_told, Tokens.Has}
use Rattle.rule_laws.specs.CaseConstants.{branch_constants, branches_constants, case_constants, listed}

-- ---- branches

branch_goes : (z : Chosen) (frame last slot : ℕ) (b : BranchTree) → Goes z (branch_constants b) (branch_step frame z.c last slot b)
branch_goes z frame last slot (tree.a_branch constants colon s) =
    calm_then z (listed constants) (statement_step-touches frame s (everywhere (statement_node s))) (λ n. choices_go z n last slot constants)

branches_go : (z : Chosen) (frame last : ℕ) (r : BranchTrees) → Goes z (branches_constants r) (more_branches frame z.c last r)
branches_go z frame last tree.end_of_branches = calm z (give-touches last)
branches_go z frame last (tree.more_branches semicolon b rest) =
    goes_then z (branch_constants b) (branches_constants rest) (branch_goes z frame last semicolon b) (λ next. branches_go z frame next rest)

-- the list of the values that choose stands at `of`
chosen_list : (frame of' : ℕ) (e : ExpressionTree) (j : Known) → (selected frame of' e j).value.choosing.list ≡ of'
unfolding selected selector look give ◌>>=◌ ask
chosen_list frame of' e j = refl

-- ---- rows

-- a statement's row is seen as it is
face_statement : (r : Row) (s : StatementRow) → face loose r ≡ Row.Statement s → r ≡ Row.Statement s
face_statement (Row.Name (NameRow.Label marked value level ways)) s e = absurd cc
face_statement (Row.Name (NameRow.Routine assigned number region)) s e = absurd cc
face_statement (Row.Name n) s e = e
face_statement (Row.Item i) s e = absurd cc
face_statement r s e = e

case_put : (label : Option ℕ) (word row of' : ℕ) (i : Known) → word < length i.program.rows
    → row_at (case_row label word row of' i).known word ≡ Row.Statement (StatementRow.Case (line_of i label word) row of')
unfolding case_row stated look ◌>>=◌ change give
case_put label word row of' i below = put_in i.program.rows word (Row.Statement (StatementRow.Case (line_of i label word) row of')) below

-- ---- the case statement

-- what is told of a rule
abbrev asked : Bool → Break → List Break
asked ok b = if ok then [] else b ∷ []

-- the host type of the selector
record HasHost (f : Known) (row host : ℕ) : Type 0 where
  ordinal : is_host_type (type_at f host) ≡ true
  told : (t : ℕ) → type_told f.program (row_at f row) ≡ Some t → host ≡ host_of f t

host_by : (w : World) (k : Known) → Ahead w.y.f k → (row of' : ℕ) (x : ExpressionType) → Fits w.y.f (row_at w.y.f row) x
    → is_ordinal (shape_of k x) ≡ true → HasHost w.y.f row (host_or (shape_of k x) of')
host_by w k a row of' ExpressionType.Unknown fits ordinal = absurd fits.there
host_by w k a row of' (ExpressionType.Of t) fits ordinal =
    let h = host_there w.y.f.program w.whole k t of' fits.there (a.types t fits.there) ordinal in
    record { ordinal = h.ordinal; told = λ u e. h.is ∙ ap (host_of w.y.f) (ap type_number (fits.told u e)) }
host_by w k a row of' ExpressionType.Nil fits ordinal = absurd (let never : false ≡ true = ordinal in cc)
host_by w k a row of' (ExpressionType.Set host packing) fits ordinal = absurd (let never : false ≡ true = ordinal in cc)
host_by w k a row of' (ExpressionType.Text length) fits ordinal = absurd (let never : false ≡ true = ordinal in cc)

selected_host : (w : World) (frame of' : ℕ) (e : ExpressionTree) (j : Known) → Inside w.y (expression_node e) → Stood w.y.f j
    → let d = selected frame of' e j in d.broken ≡ [] → Settled w.y (Has (expression_node e)) d.known
    → is_given (row_at w.y.f d.value.row) ≡ true → HasHost w.y.f d.value.row d.value.choosing.host
unfolding selected selector look ◌>>=◌ ask give
selected_host w frame of' e j i st none s given =
    let v = expression frame e j in
    let value = (expression_gives w frame e i).of j st (left_none v.broken _ none) s in
    let fine : is_ordinal (shape_of v.known v.value.of) ≡ true =
    asked_fine (is_ordinal (shape_of v.known v.value.of)) (late_at 6 (first_of_expression e))
    (left_none (asked (is_ordinal (shape_of v.known v.value.of)) (late_at 6 (first_of_expression e))) []
    (left_none (asked (is_ordinal (shape_of v.known v.value.of)) (late_at 6 (first_of_expression e)) ++ []) [] (right_none v.broken _ none))) in
    host_by w v.known s.ahead v.value.row of' v.value.of (value.fits given) fine

-- the frame from which the constants are seen
chosen_frame : (frame of' : ℕ) (e : ExpressionTree) (j : Known) → (selected frame of' e j).value.choosing.frame ≡ frame
unfolding selected selector look give ◌>>=◌ ask
chosen_frame frame of' e j = refl

pub case_is_right : (w : World) (block : ℕ) (slots : List ℕ) (frame : ℕ) (label : Option ℕ) (c : CaseTree) → Inside w.y (case_node c)
    → Tells w.y (Led w.y.f block slots frame) (Has (case_node c)) (case_statement frame label c) (CaseIsRight w.y.f block slots c)
unfolding ◌>>=◌
case_is_right w block slots frame label (tree.case_statement word selector' of' first others semicolon end) i = record {
  of = λ j l none s.
      let y = w.y in
      let few = w.few in
      let c = tree.case_statement word selector' of' first others semicolon end in
      let e = expression_node selector' in
      let d = selected frame of' selector' j in
      let x = d.value.choosing in
      let tail : ℕ → Step ℕ = λ n. case_row label word d.value.row of' in
      let rest : Step ℕ = branch_step frame x of' of' first >>= λ last. more_branches frame x last others >>= tail in
      let f = rest d.known in
      let b = branch_step frame x of' of' first d.known in
      let m = more_branches frame x b.value others b.known in
      let list : x.list ≡ of' = chosen_list frame of' selector' j in
      let off_of : Of (Off (Has e)) of' = record { is = λ h. i.distinct.1.2 of' h (inl refl) } in
      let off_list : Of (Off (Has e)) x.list = subst (Of (Off (Has e))) (sym list) off_of in
      let touches : Touches (Off (Has e)) loose rest =
      bind-touches (branch_step-touches frame x of' of' first off_list off_of (every_off e (branch_node first) (λ n h g. i.distinct.1.2 n h (inr (inl g)))))
      (λ last. bind-touches (more_branches-touches frame x last others (last_semicolon_node semicolon) off_list
      (every_off e (branches_node others (last_semicolon_node semicolon)) (λ n h g. i.distinct.1.2 n h (inr (inr (inl g))))))
      (λ _. case_row-touches label word d.value.row of' (record { is = λ h. i.distinct.2 word refl (inl h) }))) in
      let none_first = left_none d.broken f.broken none in
      let none_rest = right_none d.broken f.broken none in
      let set : Settled y (Has e) d.known =
      settled_before y (Has e) d.known f.known (touches.same d.known) (settled_sub y (Has e) (Has (case_node c)) f.known (λ n h. inr (inl h)) s) in
      let last_step : Touches Anywhere loose (case_row label word d.value.row of') = case_row-touches label word d.value.row of' (anywhere word) in
      let rows : length f.known.program.rows ≡ length m.known.program.rows = (last_step.same m.known).many in
      let low = i.low word (inl refl) in
      let many = s.many in
      let put = case_put label word d.value.row of' m.known (omega (arith, few, low, rows, many)) in
      let before : Touches Anywhere loose (selected frame of' selector') = selected-touches frame of' selector' (everywhere e) in
      let own : x.frame ≡ frame = chosen_frame frame of' selector' j in
      let there = led_then y.f block slots frame j d.known (before.same j) l in
      let gone : Outward d.known.frames x.frame = subst (Outward d.known.frames) (sym own) there.outward in
      let stands = face_statement (row_at y.f word) (StatementRow.Case (line_of m.known label word) d.value.row of')
      (s.rows word (inl refl) low ∙ ap (face loose) put) in
      let scalar = (subst (λ x. RowFits y.f.program word x) stands (w.whole.rows word)).0 in
      let h = selected_host w frame of' selector' j
      (record { distinct = i.distinct.1.0; low = λ n h. i.low n (inr (inl h)) }) l.stood none_first set
      (scalar_given y.f.program (row_at y.f d.value.row) scalar) in
      record {
        line = line_of m.known label word;
        selector = d.value.row;
        choices = of';
        stands = stands;
        frame = x.frame;
        within = within_end y.f block slots x.frame (around_then y.f d.known y.f set.ahead.frames block slots x.frame
            (subst (Around y.f d.known block slots) (sym own) there.around));
        host = x.host;
        ordinal = h.ordinal;
        told = h.told;
        right = λ before one after same.
            let z : Chosen = record { f = y.f; c = x; typed = host_some (type_at y.f x.host) h.ordinal } in
            let goes : Goes z (case_constants c) rest =
            goes_then z (branch_constants first) (branches_constants others) (branch_goes z frame of' of' first)
            (λ last. goes_calm z (branches_constants others) (branches_go z frame last others) (λ _. last_step)) in
            let ends = goes.of [] d.known (record { outward = gone; listed = tt }) none_rest s.ahead in
            right_at z [] before one after (subst (λ (xs : List Constant). Right z [] xs) same ends.right);
      };
}
