-- The rows at the tokens of a text's statements, where these begin, and those of the types Boolean and char.
use Rattle.std.proofs.Common.{◌+◌, ◌-◌, ◌<◌, ◌∙◌, ◌≡◌, ◌≤◌, ℕ, Bool, None, Option, Some, ap, arith, false, inl, inr, is_none, length, length-set, negsuc, pos}
use Rattle.std.proofs.Common.{refl, replicate, slice_get, suc, true, unwrap_or, zero}
use Rattle.std.proofs.lemmas.List.{length-map, length-replicate}
use Rattle.pas_lexer.specs.Lexed.{Lexed}
use Rattle.grammar.specs.Nodes.{spell}
use Rattle.pas_tree.specs.BlockTrees.{ParametersTree, ProgramTree}
use Rattle.pas_tree.specs.TreeNodes.{block_node, names_node, parameters_node, tree_node}
use Rattle.pas_parser.specs.Formed.{items_of}
use Rattle.core_program.specs.declared.rows.{NameRow.NameRow, Required.Required, Row.Row, TypeRow.TheVariants.Ordinal}
use Rattle.core_program.specs.declared.rows.TextFile.TheVariants.{Input, Output}
use Rattle.check_steps.specs.{Known.Known, Known.frame_at, Known.row_at, Known.with_row, Regions.defined_in, declared.regions.Definition.Definition}
use Rattle.check_steps.specs.Required.{all_names, arithmetic_names, constant_names, file_names, moving_names, open_outermost, ordinal_names, ordinal_types}
use Rattle.check_steps.specs.Required.{reading_names, require, required_def, routine_names, type_names, writing_names}
use Rattle.check_steps.specs.Steps.{◌>>=◌, add_definition, add_routine, change, extend, give, look, open_region, when}
use Rattle.check_steps.specs.Words.{known_at_start, names_of, required_names, word_of}
use Rattle.decl_checker.specs.{Parameters.program_parameter, Parameters.program_parameters, Routines.block}
use Rattle.decl_checker.specs.Programs.{define_program, main_row, open_program, program_step}
use Rattle.rule_laws.proofs.{CodeTokens.InCode, CodeTokens.code_has, CodeTokens.declared_by, ExpressionRows.put_in, Faces.loose, Faces.row_either, Faces.said}
use Rattle.rule_laws.proofs.{Keeping.Keeps, Keeping.bind-keeps, LeavesNameLists.each_name-leaves, LeavesParameters.program_parameter-leaves, Once.has_every}
use Rattle.rule_laws.proofs.{Seats.every_has, Stood.Stood, Touches.Same}
use Rattle.rule_laws.proofs.Leaves.{Leaves, add_routine-leaves, bind-leaves, give-leaves, is_fast, look-leaves}
use Rattle.rule_laws.proofs.LeavesDeclared.{block-declared, define_block-declared}
use Rattle.rule_laws.proofs.TextTokens.{IsOrdered, before_dot, text_law, text_ordered, text_tokens}
use Rattle.rule_laws.specs.Tokens.{Has}

-- ---- the required names stand behind the tokens

-- rows at tokens are as they were
record Beside (k j : Known) : Type 0 where
  words : j.words ≡ k.words
  rows : (n : ℕ) → n < length k.words → row_at j n ≡ row_at k n

beside_put : (k j : Known) (name : ℕ) (r : Row) → Beside k j → Beside k (with_row j (length j.words + name) r)
beside_put k j name r b = record {
  words = b.words;
  rows = λ n low. elim (row_either j (length j.words + name) n r) [
    | inl old ↦ old ∙ b.rows n low
    | inr p ↦ absurd (let at = p.0 in let same : length j.words ≡ length k.words = ap (λ ws. length ws) b.words in omega (arith, at, same, low))
  ];
}

when_beside : (k : Known) (ok : Bool) (j : Known) (name : ℕ) (d : Definition) → Beside k j → Beside k (when ok (add_definition 0 name d) j).known
unfolding when change give
when_beside k true j name d b = record { words = b.words; rows = b.rows }
when_beside k false j name d b = b

require_beside : (k : Known) (name : ℕ) (r : NameRow) → Keeps (Beside k) (require name r)
unfolding require look ◌>>=◌ change
require_beside k name r = record {
  of = λ j b.
      let first = length j.words in
      when_beside k (is_none (defined_in j.regions 0 name)) (with_row j (first + name) (Row.Name r)) name
      (record { def = required_def r (first + name); token = first + name; end = 0 }) (beside_put k j name (Row.Name r) b);
}

type_names_beside : (k : Known) → Keeps (Beside k) type_names
unfolding type_names
type_names_beside k = bind-keeps (require_beside k 0 (NameRow.TypeName 0)) (λ _. bind-keeps (require_beside k 1 (NameRow.TypeName 1)) (λ _.
    require_beside k 2 (NameRow.TypeName 2)))

constant_names_beside : (k : Known) → Keeps (Beside k) constant_names
unfolding constant_names
constant_names_beside k = bind-keeps (require_beside k 3 (NameRow.Constant 1 (pos 0))) (λ _.
    bind-keeps (require_beside k 4 (NameRow.Constant 1 (pos 1))) (λ _. require_beside k 5 (NameRow.Constant 0 (pos 2147483647))))

arithmetic_names_beside : (k : Known) → Keeps (Beside k) arithmetic_names
unfolding arithmetic_names
arithmetic_names_beside k = bind-keeps (require_beside k 6 (NameRow.Required Required.Abs)) (λ _.
    bind-keeps (require_beside k 7 (NameRow.Required Required.Sqr)) (λ _. require_beside k 8 (NameRow.Required Required.Odd)))

ordinal_names_beside : (k : Known) → Keeps (Beside k) ordinal_names
unfolding ordinal_names
ordinal_names_beside k = bind-keeps (require_beside k 9 (NameRow.Required Required.Ord)) (λ _.
    bind-keeps (require_beside k 10 (NameRow.Required Required.Chr)) (λ _. bind-keeps (require_beside k 11 (NameRow.Required Required.Succ)) (λ _.
    require_beside k 12 (NameRow.Required Required.Pred))))

reading_names_beside : (k : Known) → Keeps (Beside k) reading_names
unfolding reading_names
reading_names_beside k = bind-keeps (require_beside k 13 (NameRow.Required Required.Eof)) (λ _.
    bind-keeps (require_beside k 14 (NameRow.Required Required.Eoln))
    (λ _. bind-keeps (require_beside k 15 (NameRow.Required Required.Read)) (λ _.
    require_beside k 16 (NameRow.Required Required.Readln))))

writing_names_beside : (k : Known) → Keeps (Beside k) writing_names
unfolding writing_names
writing_names_beside k = bind-keeps (require_beside k 17 (NameRow.Required Required.Write)) (λ _.
    bind-keeps (require_beside k 18 (NameRow.Required Required.Writeln)) (λ _. require_beside k 19 (NameRow.Required Required.Page)))

moving_names_beside : (k : Known) → Keeps (Beside k) moving_names
unfolding moving_names
moving_names_beside k = bind-keeps (require_beside k 20 (NameRow.Required Required.New)) (λ _.
    bind-keeps (require_beside k 21 (NameRow.Required Required.Dispose))
    (λ _. bind-keeps (require_beside k 22 (NameRow.Required Required.Pack)) (λ _.
    require_beside k 23 (NameRow.Required Required.Unpack))))

file_names_beside : (k : Known) → Keeps (Beside k) file_names
unfolding file_names
file_names_beside k = bind-keeps (require_beside k 24 (NameRow.TextFile Input)) (λ _. require_beside k 25 (NameRow.TextFile Output))

routine_names_beside : (k : Known) → Keeps (Beside k) routine_names
unfolding routine_names
routine_names_beside k = bind-keeps (arithmetic_names_beside k) (λ _. bind-keeps (ordinal_names_beside k) (λ _.
    bind-keeps (reading_names_beside k) (λ _. bind-keeps (writing_names_beside k) (λ _. moving_names_beside k))))

all_names_beside : (k : Known) → Keeps (Beside k) all_names
unfolding all_names
all_names_beside k = bind-keeps (type_names_beside k) (λ _. bind-keeps (constant_names_beside k) (λ _. bind-keeps (routine_names_beside k) (λ _.
    file_names_beside k)))

-- ---- the tables where a program is opened

-- a row that is put, and others
other_row : (k : Known) (m n : ℕ) (r : Row) → (n ≡ m → ⊥) → row_at (with_row k m r) n ≡ row_at k n
other_row k m n r apart = elim (row_either k m n r) [
  | inl old ↦ old
  | inr p ↦ absurd (apart p.0)
]

record Opened (k j : Known) : Type 0 where
  words : j.words ≡ k.words
  rows : (n : ℕ) → 2 < n → n < length k.words → row_at j n ≡ row_at k n
  boolean : row_at j 1 ≡ Row.Type (Ordinal (pos 0) (pos 1))
  char : row_at j 2 ≡ Row.Type (Ordinal (pos 0) (pos 255))

ordinal_opened : (k : Known) → length k.words ≤ length k.program.rows → 2 < length k.words → Opened k (ordinal_types k).known
unfolding ordinal_types ◌>>=◌ change
ordinal_opened k few low =
    let a = Row.Type (Ordinal (negsuc 2147483646) (pos 2147483647)) in
    let b = Row.Type (Ordinal (pos 0) (pos 1)) in
    let c = Row.Type (Ordinal (pos 0) (pos 255)) in
    let one = with_row k 0 a in
    let two = with_row one 1 b in
    let first = length-set k.program.rows 0 a in
    let second = length-set one.program.rows 1 b in
    record {
      words = refl;
      rows = λ n more small. other_row two 2 n c (λ e. omega (arith, e, more)) ∙ other_row one 1 n b (λ e. omega (arith, e, more))
          ∙ other_row k 0 n a (λ e. omega (arith, e, more));
      boolean = other_row two 2 1 c (λ e. omega (arith, e)) ∙ put_in one.program.rows 1 b (omega (arith, few, low, first));
      char = put_in two.program.rows 2 c (omega (arith, few, low, first, second));
    }

opened_beside : (k j i : Known) → 2 < length k.words → Opened k j → Beside j i → Opened k i
opened_beside k j i low o b =
    let same : length j.words ≡ length k.words = ap (λ ws. length ws) o.words in
    record {
      words = b.words ∙ o.words;
      rows = λ n more small. b.rows n (omega (arith, same, small)) ∙ o.rows n more small;
      boolean = b.rows 1 (omega (arith, same, low)) ∙ o.boolean;
      char = b.rows 2 (omega (arith, same, low)) ∙ o.char;
    }

program_opened : (k : Known) → length k.words ≤ length k.program.rows → 2 < length k.words → Opened k (open_program k).known
unfolding open_program open_outermost ◌>>=◌ extend give
program_opened k few low =
    let f = (open_region 0 None 0 k).known in
    let o = ordinal_opened f few low in
    let j = (ordinal_types f).known in
    let b = (all_names_beside j).of j (record { words = refl; rows = λ n small. refl }) in
    let e = opened_beside f j (all_names j).known low o b in
    record { words = e.words; rows = e.rows; boolean = e.boolean; char = e.char }

-- ---- the declarations

-- no token of statements, nor one of the first three or the last one
record IsOutside (l : Lexed) (t : ProgramTree) (n : ℕ) : Type 0 where
  from : 2 < n
  before : suc n < length (known_at_start l).words
  off : InCode t.block n → ⊥

parameters_leave : {Q : ℕ → Type 0} (word name region : ℕ) (o : Option ParametersTree) → word < name → IsOrdered (parameters_node o)
    → ((n : ℕ) → Has (parameters_node o) n → name < n) → ((n : ℕ) → 2 < n → Has (parameters_node o) n → Q n) → Leaves Q (program_parameters region o)
parameters_leave word name region None less ordered after here = give-leaves tt
parameters_leave {Q = Q} word name region (Some p) less ordered after here = each_name-leaves (program_parameter region) tt p.names
    (λ a x h. program_parameter-leaves region a x h) (every_has Q (names_node p.names) (λ n h.
    let two = after p.left (inl refl) in
    let three = ordered.2 p.left n refl (inl h) in
    here n (omega (arith, less, two, three)) (inr (inl h))))

block_outside : (l : Lexed) (t : ProgramTree) → spell (tree_node t) ≡ items_of l.tokens → (n : ℕ) → Has (block_node t.block) n → (InCode t.block n → ⊥)
    → IsOutside l t n
block_outside l t e n h off =
    let o = text_ordered l.tokens t e in
    let one = o.2 t.word t.name refl (inl refl) in
    let two = o.1.2 t.name t.semicolon refl (inr (inl refl)) in
    let three = o.1.1.1.2 t.semicolon n refl (inl h) in
    let before = before_dot l.tokens t e n h in
    let within = (has_every (tree_node t) t.dot (text_tokens l t e) (inr (inr (inr (inr (inr (inl refl))))))).is in
    record { from = omega (arith, one, two, three); before = omega (arith, before, within); off = off }

parameter_outside : (l : Lexed) (t : ProgramTree) → spell (tree_node t) ≡ items_of l.tokens → (n : ℕ) → 2 < n → Has (parameters_node t.parameters) n
    → IsOutside l t n
parameter_outside l t e n from h =
    let o = text_ordered l.tokens t e in
    let less = o.1.1.2 n t.semicolon h (inl refl) in
    let within = (has_every (tree_node t) t.semicolon (text_tokens l t e) (inr (inr (inr (inl refl))))).is in
    record {
      from = from;
      before = omega (arith, less, within);
      off = λ c. let apart = o.1.1.2 n n h (inr (inl (code_has t.block n c))) in omega (arith, apart);
    }

define_leaves : (l : Lexed) (t : ProgramTree) → spell (tree_node t) ≡ items_of l.tokens → (frame : ℕ) → Leaves (IsOutside l t) (define_program frame t)
unfolding define_program
define_leaves l t e frame =
    let o = text_ordered l.tokens t e in
    let declared = declared_by (IsOutside l t) t.block (text_law l.tokens t e).1.1.1.1.0 (block_outside l t e) in
    bind-leaves (look-leaves (λ k. (frame_at k frame).region)) (λ region.
    bind-leaves (parameters_leave t.word t.name region t.parameters (o.2 t.word t.name refl (inl refl)) o.1.1.0
    (λ n h. o.1.2 t.name n refl (inl h)) (parameter_outside l t e)) (λ _. define_block-declared frame t.block declared))

block_leaves : (l : Lexed) (t : ProgramTree) → spell (tree_node t) ≡ items_of l.tokens → (frame : ℕ)
    → Leaves (IsOutside l t) (define_program frame t >>= λ _. add_routine (main_row t.name) >>= λ number. block frame number 1 t.block >>= λ _. give frame)
block_leaves l t e frame =
    let declared = declared_by (IsOutside l t) t.block (text_law l.tokens t e).1.1.1.1.0 (block_outside l t e) in
    bind-leaves (define_leaves l t e frame) (λ _. bind-leaves (add_routine-leaves (main_row t.name)) (λ number.
    bind-leaves (block-declared frame number 1 t.block declared) (λ _. give-leaves frame)))

blank_row : (size n : ℕ) → unwrap_or (slice_get (replicate size Row.Nothing) n) Row.Nothing ≡ Row.Nothing
blank_row zero n = refl
blank_row (suc size) zero = refl
blank_row (suc size) (suc n) = blank_row size n

-- Where the statements of a text begin no row stands at their tokens, nor at the last one, and the types Boolean and
-- char are there.
pub record Started (l : Lexed) (t : ProgramTree) (d : Known) : Type 0 where
  pub code : (n : ℕ) → InCode t.block n → row_at d n ≡ Row.Nothing
  pub last : row_at d (length (known_at_start l).words - 1) ≡ Row.Nothing
  pub boolean : row_at d 1 ≡ Row.Type (Ordinal (pos 0) (pos 1))
  pub char : row_at d 2 ≡ Row.Type (Ordinal (pos 0) (pos 255))

pub started : (l : Lexed) (t : ProgramTree) → spell (tree_node t) ≡ items_of l.tokens → Started l t (program_step t (known_at_start l)).known
unfolding program_step ◌>>=◌
started l t e =
    let k = known_at_start l in
    let o = text_ordered l.tokens t e in
    let one = o.2 t.word t.name refl (inl refl) in
    let two = o.1.2 t.name t.semicolon refl (inr (inl refl)) in
    let three = o.1.1.1.2 t.semicolon t.dot refl (inr (inl refl)) in
    let four = o.1.1.1.1.1.2 t.dot t.last refl refl in
    let within = (has_every (tree_node t) t.last (text_tokens l t e) (inr (inr (inr (inr (inr (inr refl))))))).is in
    let many : length k.program.rows ≡ length l.tokens + length required_names = length-replicate (length l.tokens + length required_names) Row.Nothing in
    let words : length k.words ≡ length l.tokens = length-map l.tokens (word_of (names_of l) l.source) in
    let p = open_program k in
    let opened = program_opened k (omega (arith, many, words)) (omega (arith, one, two, three, four, within)) in
    let rest = block_leaves l t e p.value in
    let blank : (n : ℕ) → 2 < n → n < length k.words → row_at p.known n ≡ Row.Nothing =
    λ n from low. opened.rows n from low ∙ blank_row (length l.tokens + length required_names) n in
    let last = length k.words - 1 in
    let empty = blank last (omega (arith, one, two, three, four, within)) (omega (arith, within)) in
    record {
      code = λ n c.
          let h = code_has t.block n c in
          let five = o.1.1.1.2 t.semicolon n refl (inl h) in
          let before = before_dot l.tokens t e n h in
          let none = blank n (omega (arith, one, two, five)) (omega (arith, before, four, within)) in
          rest.of p.known n (λ q. q.is.off c) (ap is_fast none) ∙ none;
      last = rest.of p.known last (λ q. let less = q.is.before in omega (arith, less)) (ap is_fast empty) ∙ empty;
      boolean = rest.of p.known 1 (λ q. let more = q.is.from in omega (arith, more)) (ap is_fast opened.boolean) ∙ opened.boolean;
      char = rest.of p.known 2 (λ q. let more = q.is.from in omega (arith, more)) (ap is_fast opened.char) ∙ opened.char;
    }

-- What the tables say there still stands where the statements end.
pub stood_at : (l : Lexed) (t : ProgramTree) (d f : Known) → Started l t d → d.words ≡ (known_at_start l).words → Same (InCode t.block) loose d f → Stood f d
stood_at l t d f s words same = record {
  of = λ n. elim (same.sayings n) [
    | inl p ↦ elim p.0 [
      | inl q ↦ inl (ap said (s.code n q.is))
      | inr e ↦ inl (ap said (ap (row_at d) (e ∙ ap (λ ws. length ws - 1) words) ∙ s.last))
    ]
    | inr e ↦ inr e
  ];
}
