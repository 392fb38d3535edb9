-- Numbers and characters of a text's case statements.
use Rattle.std.proofs.Common.{◌||◌, ◌∙◌, ◌∷◌, ◌≡◌, [], ℕ, Bool, List, None, Option, Some, ap, false, refl, sym, true}
use Rattle.std.specs.List.{list_any}
use Rattle.pas_tree.specs.{StatementTrees.StatementTrees, StatementTrees.StatementsTree, declared.constants.Constant.Constant}
use Rattle.pas_tree.specs.BlockTrees.{BlockTree, BodyTree, ProgramTree, RoutineTree, RoutineTrees, routine_body}
use Rattle.pas_tree.specs.BlockTrees as blocks
use Rattle.pas_tree.specs.StatementTrees.{BranchTree, BranchTrees, CaseTree, CompoundTree, ElseTree, IfTree, PlainTree, RepeatTree, StatementTree}
use Rattle.pas_tree.specs.StatementTrees as tree
use Rattle.check_steps.specs.{Known.Known, Words.known_at_start, declared.words.SpelledToken.SpelledToken}
use Rattle.kind_checker.specs.declared.constants.ConstantValue.{ConstantValue}
use Rattle.denoter_checker.specs.RoutineParts.{routine_name}
use Rattle.code_checker.specs.CheckedPrograms.{check_step}
use Rattle.rule_laws.proofs.TextCases.{text_case_law, text_spelled}
use Rattle.rule_laws.specs.CaseConstants.{are_equal, case_constants, has_equal, stands_for}
use Rattle.rule_laws.specs.CaseNumbers.{AreWrittenOnce, CasesOfBody, TextsTellNumbers, written}
use Rattle.rule_laws.specs.TextCases.{BodyIsRight, CaseIsRight, CasesInside, CasesOf, InBranch, InBranches, InCase, InCompound, InElse, InIf, InOthers}
use Rattle.rule_laws.specs.TextCases.{InRepeat, InSequence, OfCases, with_slots}
use Rattle.rule_laws.specs.TextParts.{OfBody, OfEach, OfRoutine, OfRoutines}

-- ---- what holds of each case statement may be weakened

mutual
  cases_map : {P Q : List ℕ → CaseTree → Type 0} → ((slots : List ℕ) (c : CaseTree) → P slots c → Q slots c) → (slots : List ℕ) (s : StatementTree)
      → OfCases P slots s → OfCases Q slots s
  cases_map f slots (tree.a_statement label p) h = inside_map f slots p h

  inside_map : {P Q : List ℕ → CaseTree → Type 0} → ((slots : List ℕ) (c : CaseTree) → P slots c → Q slots c) → (slots : List ℕ) (p : PlainTree)
      → CasesInside P slots p → CasesInside Q slots p
  inside_map f slots tree.an_empty h = tt
  inside_map f slots (tree.an_assignment a) h = tt
  inside_map f slots (tree.a_procedure_call name actuals) h = tt
  inside_map f slots (tree.a_goto word label) h = tt
  inside_map f slots (tree.a_compound c) h = compound_map f slots c h
  inside_map f slots (tree.an_if i) h = if_map f slots i h
  inside_map f slots (tree.a_case c) h = (f slots c h.0, case_map f slots c h.1)
  inside_map f slots (tree.a_repeat r) h = repeat_map f slots r h
  inside_map f slots (tree.a_while word condition do_word s) h = cases_map f slots s h
  inside_map f slots (tree.a_for word name becomes initial direction last do_word s) h = cases_map f slots s h
  inside_map f slots (tree.a_with word first others do_word s) h = cases_map f (with_slots others (word ∷ slots)) s h

  compound_map : {P Q : List ℕ → CaseTree → Type 0} → ((slots : List ℕ) (c : CaseTree) → P slots c → Q slots c) → (slots : List ℕ) (c : CompoundTree)
      → InCompound P slots c → InCompound Q slots c
  compound_map f slots (tree.compound_statement word body last) h = sequence_map f slots body h

  sequence_map : {P Q : List ℕ → CaseTree → Type 0} → ((slots : List ℕ) (c : CaseTree) → P slots c → Q slots c) → (slots : List ℕ) (s : StatementsTree)
      → InSequence P slots s → InSequence Q slots s
  sequence_map f slots (tree.statement_sequence first others) h = (cases_map f slots first h.0, others_map f slots others h.1)

  others_map : {P Q : List ℕ → CaseTree → Type 0} → ((slots : List ℕ) (c : CaseTree) → P slots c → Q slots c) → (slots : List ℕ) (s : StatementTrees)
      → InOthers P slots s → InOthers Q slots s
  others_map f slots tree.end_of_statements h = tt
  others_map f slots (tree.more_statements semicolon s rest) h = (cases_map f slots s h.0, others_map f slots rest h.1)

  if_map : {P Q : List ℕ → CaseTree → Type 0} → ((slots : List ℕ) (c : CaseTree) → P slots c → Q slots c) → (slots : List ℕ) (i : IfTree) → InIf P slots i
      → InIf Q slots i
  if_map f slots (tree.if_statement word condition then_word s alternative) h = (cases_map f slots s h.0, else_map f slots alternative h.1)

  else_map : {P Q : List ℕ → CaseTree → Type 0} → ((slots : List ℕ) (c : CaseTree) → P slots c → Q slots c) → (slots : List ℕ) (e : ElseTree)
      → InElse P slots e → InElse Q slots e
  else_map f slots tree.without_else h = tt
  else_map f slots (tree.an_else word s) h = cases_map f slots s h

  case_map : {P Q : List ℕ → CaseTree → Type 0} → ((slots : List ℕ) (c : CaseTree) → P slots c → Q slots c) → (slots : List ℕ) (c : CaseTree)
      → InCase P slots c → InCase Q slots c
  case_map f slots (tree.case_statement word selector of_word first others semicolon last) h = (branch_map f slots first h.0, branches_map f slots others h.1)

  branch_map : {P Q : List ℕ → CaseTree → Type 0} → ((slots : List ℕ) (c : CaseTree) → P slots c → Q slots c) → (slots : List ℕ) (b : BranchTree)
      → InBranch P slots b → InBranch Q slots b
  branch_map f slots (tree.a_branch constants colon s) h = cases_map f slots s h

  branches_map : {P Q : List ℕ → CaseTree → Type 0} → ((slots : List ℕ) (c : CaseTree) → P slots c → Q slots c) → (slots : List ℕ) (b : BranchTrees)
      → InBranches P slots b → InBranches Q slots b
  branches_map f slots tree.end_of_branches h = tt
  branches_map f slots (tree.more_branches semicolon b rest) h = (branch_map f slots b h.0, branches_map f slots rest h.1)

  repeat_map : {P Q : List ℕ → CaseTree → Type 0} → ((slots : List ℕ) (c : CaseTree) → P slots c → Q slots c) → (slots : List ℕ) (r : RepeatTree)
      → InRepeat P slots r → InRepeat Q slots r
  repeat_map f slots (tree.repeat_statement word body until_word condition) h = sequence_map f slots body h

block_map : {P Q : List ℕ → CaseTree → Type 0} → ((slots : List ℕ) (c : CaseTree) → P slots c → Q slots c) → (b : BlockTree) → CasesOf P b → CasesOf Q b
block_map f (blocks.a_block labels constants types variables routines body) h = compound_map f [] body h

-- ---- those of procedures and functions, by their frames

-- what is right by any frame is so
abbrev Weakens : Known → (CaseTree → Type 0) → Type 0
Weakens k Q = (block : ℕ) (slots : List ℕ) (c : CaseTree) → CaseIsRight k block slots c → Q c

body_map : (k : Known) {Q : CaseTree → Type 0} → Weakens k Q → (name : ℕ) (body : BodyTree) → BodyIsRight k name body → CasesOfBody Q body
body_map k f name (blocks.a_directive directive) h = tt
body_map k f name (blocks.a_block_body b) h = block_map (f _) b h

mutual
  routines_map : (k : Known) {Q : CaseTree → Type 0} → Weakens k Q → (b : BlockTree) → OfRoutines (λ r. BodyIsRight k (routine_name r) (routine_body r)) b
      → OfRoutines (λ r. CasesOfBody Q (routine_body r)) b
  routines_map k f (blocks.a_block labels constants types variables routines body) h = each_map k f routines h

  each_map : (k : Known) {Q : CaseTree → Type 0} → Weakens k Q → (rs : RoutineTrees) → OfEach (λ r. BodyIsRight k (routine_name r) (routine_body r)) rs
      → OfEach (λ r. CasesOfBody Q (routine_body r)) rs
  each_map k f blocks.end_of_routines h = tt
  each_map k f (blocks.more_routines r rest) h = (routine_map k f r h.0, each_map k f rest h.1)

  routine_map : (k : Known) {Q : CaseTree → Type 0} → Weakens k Q → (r : RoutineTree) → OfRoutine (λ r. BodyIsRight k (routine_name r) (routine_body r)) r
      → OfRoutine (λ r. CasesOfBody Q (routine_body r)) r
  routine_map k f (blocks.a_routine heading semicolon body last_semicolon) h = (body_map k f _ body h.0, inner_map k f body h.1)

  inner_map : (k : Known) {Q : CaseTree → Type 0} → Weakens k Q → (body : BodyTree) → OfBody (λ r. BodyIsRight k (routine_name r) (routine_body r)) body
      → OfBody (λ r. CasesOfBody Q (routine_body r)) body
  inner_map k f (blocks.a_directive directive) h = tt
  inner_map k f (blocks.a_block_body b) h = routines_map k f b h

-- ---- numbers and characters

none_right : (o : Option ConstantValue) → are_equal o None ≡ false
none_right None = refl
none_right (Some (ConstantValue.Ordinal of' v)) = refl
none_right (Some (ConstantValue.Text token)) = refl

-- what is no name stands for the same at the end, from each frame
number_still : (k f : Known) (frame : ℕ) → f.words ≡ k.words → (s : _) (n : ℕ) → written k (Constant.Number s n) ≡ stands_for f frame (Constant.Number s n)
number_still k f frame words s n = ap (λ (ws : List SpelledToken). written (record k { words = ws }) (Constant.Number s n)) (sym words)

text_still : (k f : Known) (frame n : ℕ) → f.program.texts ≡ k.program.texts → written k (Constant.Text n) ≡ stands_for f frame (Constant.Text n)
text_still k f frame n texts = ap (λ (ts : List (List ℕ)). written (record k { program = record k.program { texts = ts } }) (Constant.Text n)) (sym texts)

two_differ : (a b c d : Option ConstantValue) → a ≡ c → b ≡ d → are_equal c d ≡ false → are_equal a b ≡ false
two_differ a b c d one two e = ap (λ x. are_equal x b) one ∙ ap (are_equal c) two ∙ e

written_differ : (k f : Known) (frame : ℕ) → f.words ≡ k.words → f.program.texts ≡ k.program.texts → (x y : Constant)
    → are_equal (stands_for f frame x) (stands_for f frame y) ≡ false → are_equal (written k x) (written k y) ≡ false
written_differ k f frame words texts (Constant.Name s n) y e = refl
written_differ k f frame words texts x (Constant.Name s n) e = none_right (written k x)
written_differ k f frame words texts (Constant.Number s n) (Constant.Number t m) e =
    two_differ _ _ _ _ (number_still k f frame words s n) (number_still k f frame words t m) e
written_differ k f frame words texts (Constant.Number s n) (Constant.Text m) e =
    two_differ _ _ _ _ (number_still k f frame words s n) (text_still k f frame m texts) e
written_differ k f frame words texts (Constant.Text n) (Constant.Number t m) e =
    two_differ _ _ _ _ (text_still k f frame n texts) (number_still k f frame words t m) e
written_differ k f frame words texts (Constant.Text n) (Constant.Text m) e =
    two_differ _ _ _ _ (text_still k f frame n texts) (text_still k f frame m texts) e

both_false : (a b : Bool) → (a || b) ≡ false → (a ≡ false) × (b ≡ false)
both_false false b e = (refl, e)
both_false true b e = absurd (let never : true ≡ false = e in cc)

or_false : (a b : Bool) → a ≡ false → b ≡ false → (a || b) ≡ false
or_false a b e d = ap (λ x. x || b) e ∙ d

none_written : (k f : Known) (frame : ℕ) → f.words ≡ k.words → f.program.texts ≡ k.program.texts → (x : Constant) (before : List Constant)
    → has_equal f frame before x ≡ false → list_any (λ y. are_equal (written k x) (written k y)) before ≡ false
none_written k f frame words texts x [] e = refl
none_written k f frame words texts x (y ∷ ys) e =
    let parts = both_false (are_equal (stands_for f frame x) (stands_for f frame y)) (has_equal f frame ys x) e in
    or_false (are_equal (written k x) (written k y)) _ (written_differ k f frame words texts x y parts.0) (none_written k f frame words texts x ys parts.1)

numbers_once : (k f : Known) → f.words ≡ k.words → f.program.texts ≡ k.program.texts → Weakens f (λ c. AreWrittenOnce k (case_constants c))
numbers_once k f words texts block slots c right before x after same =
    none_written k f right.frame words texts x before (right.right before x after same).new

pub text_number_law : TextsTellNumbers
text_number_law l t e none whole =
    let k = known_at_start l in
    let f = (check_step t k).known in
    let s = text_spelled l t in
    let h = text_case_law l t e none whole in
    let weak = numbers_once k f s.words s.texts in
    (block_map (weak _) t.block h.0, routines_map f weak t.block h.1)
