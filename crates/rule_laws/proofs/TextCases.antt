-- The case statements of a text.
use Rattle.std.proofs.Common.{◌+◌, ◌∙◌, ◌≡◌, ℕ, None, Some, ap, arith, false, inl, inr, is_some, length, length-set, refl, sym, true}
use Rattle.std.proofs.lemmas.List.{length-map, length-replicate}
use Rattle.pas_lexer.specs.Lexed.{Lexed}
use Rattle.grammar.specs.Nodes.{spell}
use Rattle.pas_tree.specs.{BlockTrees.ProgramTree, BlockTrees.RoutineTree, BlockTrees.routine_heading, TreeNodes.block_node, TreeNodes.tree_node}
use Rattle.pas_parser.specs.Formed.{items_of}
use Rattle.core_program.specs.ProgramRows.{type_in}
use Rattle.core_program.specs.declared.rows.{NameRow.NameRow, PartRow.PartRow, Row.Row, TypeRow.TypeRow}
use Rattle.check_steps.specs.{Known.Known, Known.row_at, Known.type_at, Known.with_row, Steps.◌>>=◌}
use Rattle.check_steps.specs.Words.{known_at_start, names_of, required_names, word_of}
use Rattle.denoter_checker.specs.{Formals.is_function, RoutineParts.routine_name}
use Rattle.decl_checker.specs.Programs.{program_step}
use Rattle.code_checker.specs.{Blocks.code_block, CheckedPrograms.check_step}
use Rattle.rule_laws.proofs.{CaseOfText.case_is_right, CasesTold.block_tells, CodeTokens.InCode, CodeTokens.block_kept, ExpressionRows.right_none}
use Rattle.rule_laws.proofs.{ExpressionTypes.World, Faces.said, Lasting.Declaring, Lasting.Lasting, NamesFound.ahead_self, Once.has_every, Settled.Checked}
use Rattle.rule_laws.proofs.{Settled.Inside, Settled.Settled, Stood.Stood, TextFields.Any, TextFields.any_routines, TextLabels.starts}
use Rattle.rule_laws.proofs.{TextLabels.starts_outward, TextResults.program_keeps, TextRows.started, TextRows.stood_at, Touches.same_in}
use Rattle.rule_laws.proofs.TextTokens.{before_dot, text_law, text_tokens}
use Rattle.rule_laws.specs.{TextCases.TextsTellCases, Tokens.Has}

-- ---- what no step changes

-- what tokens spell is as it was, and there are as many rows
pub record Spelled (k j : Known) : Type 0 where
  pub words : j.words ≡ k.words
  pub texts : j.program.texts ≡ k.program.texts
  pub many : length j.program.rows ≡ length k.program.rows

spelled_row : (k j : Known) (m : ℕ) (r : Row) → Spelled k j → Spelled k (with_row j m r)
spelled_row k j m r s = record { words = s.words; texts = s.texts; many = length-set j.program.rows m r ∙ s.many }

spelled_lasts : {G : RoutineTree → Type 0} (k : Known) → Lasting G (Spelled k)
spelled_lasts k = record {
  puts = λ j m r quiet s. spelled_row k j m r s;
  stays = λ j m s. spelled_row k j m (row_at j m) s;
  bodies = λ j n r same s. record { words = s.words; texts = s.texts; many = s.many };
  routines = λ j r s. record { words = s.words; texts = s.texts; many = s.many };
  frames = λ j f s. record { words = s.words; texts = s.texts; many = s.many };
  regions = λ j token f s. record { words = s.words; texts = s.texts; many = s.many };
  defines = λ j region d at s. record { words = s.words; texts = s.texts; many = s.many };
  requires = λ j name d behind s. record { words = s.words; texts = s.texts; many = s.many };
  chooses = λ j list v s. record { words = s.words; texts = s.texts; many = s.many };
  records = λ j word packed region cells variants fresh s. spelled_row k j word (Row.Type (TypeRow.Record packed region cells variants)) s;
  waits = λ j r g none s. spelled_row k j (routine_name r) (Row.Part (PartRow.Forward (is_function (routine_heading r)) None)) s;
  completes = λ j region first position r g x s.
      let row = Row.Part (PartRow.Forward (is_function (routine_heading r)) (Some position)) in
      spelled_row k (with_row j first row) (routine_name r) (Row.Part (PartRow.Completing first)) (spelled_row k j first row s);
}

spelled_all : {G : RoutineTree → Type 0} (k : Known) → Declaring G (Spelled k)
spelled_all k = record {
  kept = spelled_lasts k;
  ends = λ j region d s. record { words = s.words; texts = s.texts; many = s.many };
  declares = λ j region value token s. record { words = s.words; texts = s.texts; many = s.many };
  labels = λ j token value level s. spelled_row k j token (Row.Name (NameRow.Label false value level 0)) s;
  heads = λ j name number region named few s. spelled_row k j name (Row.Name (NameRow.Routine false number region)) s;
}

-- what the tokens of a text spell is so at the end
pub text_spelled : (l : Lexed) (t : ProgramTree) → Spelled (known_at_start l) (check_step t (known_at_start l)).known
unfolding check_step ◌>>=◌
text_spelled l t =
    let k = known_at_start l in
    let d = program_step t k in
    let first = (program_keeps (spelled_all {G = Any} k) t (any_routines t.block)).of k (record { words = refl; texts = refl; many = refl }) in
    let second = (block_kept {Q = InCode t.block} d.value t.block (λ n c. c)).same d.known in
    record { words = second.words ∙ first.words; texts = second.texts ∙ first.texts; many = second.many ∙ first.many }

-- ---- types

said_type : (r : Row) (u : TypeRow) → said r ≡ Row.Type u → is_some (type_in r) ≡ true
said_type (Row.Type t) u e = refl
said_type (Row.Name (NameRow.Constant of' v)) u e = absurd cc
said_type (Row.Name (NameRow.Text token)) u e = absurd cc
said_type (Row.Name (NameRow.Routine assigned number region)) u e = absurd cc
said_type (Row.Name (NameRow.Label marked value level ways)) u e = absurd cc
said_type (Row.Part (PartRow.Completing first)) u e = absurd cc
said_type (Row.Part (PartRow.Heading name sections result)) u e = absurd cc
said_type r u e = absurd cc

-- a type that is there where the statements begin is there at the end
type_stands : (d f : Known) → Stood f d → (n : ℕ) (u : TypeRow) → row_at d n ≡ Row.Type u → is_some (type_at f n) ≡ true
type_stands d f stood n u e = elim (stood.of n) [
  | inl none ↦ absurd (let never : Row.Type u ≡ Row.Nothing = sym (ap said e) ∙ none in cc)
  | inr same ↦ said_type (row_at f n) u (same ∙ ap said e)
]

-- ---- the law

block_inside : (l : Lexed) (t : ProgramTree) → spell (tree_node t) ≡ items_of l.tokens
    → Inside (record { k = known_at_start l; f = (check_step t (known_at_start l)).known }) (block_node t.block)
block_inside l t e = record {
  distinct = (text_law l.tokens t e).1.1.1.1.0;
  low = λ n h.
      let before = before_dot l.tokens t e n h in
      let within = (has_every (tree_node t) t.dot (text_tokens l t e) (inr (inr (inr (inr (inr (inl refl))))))).is in
      omega (arith, before, within);
}

pub text_case_law : TextsTellCases
unfolding check_step ◌>>=◌
text_case_law l t e none whole =
    let k = known_at_start l in
    let d = program_step t k in
    let f = code_block d.value t.block d.known in
    let y : Checked = record { k = k; f = f.known } in
    let first = (program_keeps (spelled_all {G = Any} k) t (any_routines t.block)).of k (record { words = refl; texts = refl; many = refl }) in
    let second = (block_kept {Q = InCode t.block} d.value t.block (λ n c. c)).same d.known in
    let settled : Settled y (Has (block_node t.block)) f.known = record {
      ahead = ahead_self f.known;
      words = second.words ∙ first.words;
      many = refl;
      rows = λ n h low. refl;
    } in
    let rows = second.many ∙ first.many in
    let start = length-replicate (length l.tokens + length required_names) Row.Nothing in
    let words : length k.words ≡ length l.tokens = length-map l.tokens (word_of (names_of l) l.source) in
    let begun = started l t e in
    let stood = stood_at l t d.known f.known begun first.words second in
    let w : World = record {
      y = y;
      whole = whole;
      few = omega (arith, rows, start, words);
      boolean = type_stands d.known f.known stood 1 _ begun.boolean;
      char = type_stands d.known f.known stood 2 _ begun.char;
    } in
    let s = starts l t in
    (block_tells w (case_is_right w) d.known s.begun.tidy stood d.value (starts_outward l t s) t.block (block_inside l t e)).of d.known
    (record { same = same_in d.known }) (right_none d.broken f.broken none) settled
