-- Statements by their rows.
use Rattle.std.proofs.Common.{◌∙◌, ◌≡◌, ℕ, ℤ, None, Option, Some, ap, option_map, refl}
use Rattle.cell_value.specs.declared.{values.Value.Value, ways_out.Kind.Kind}
use Rattle.core_program.specs.{Accesses.eval, Accesses.locate, Accesses.no_row, Acts.Fault, ProgramRows.ProgramRows, ProgramRows.row_at}
use Rattle.core_program.specs.Statements.{begins, bounds, first_turn, inside, line_of, of_records, of_sequence, of_statement, on_statement, statement}
use Rattle.core_program.specs.Tree.{ActTree, Halt, Here, Line, Ret, Sub}
use Rattle.core_program.specs.Tree as parts
use Rattle.core_program.specs.declared.rows.{ItemRow.ItemRow, Row.Row}
use Rattle.core_program.specs.declared.rows.StatementRow.{StatementRow, TheVariants.Compound, TheVariants.Empty, TheVariants.Labelled, TheVariants.Turns}
use Rattle.eval_ops.specs.{Counting.both_there, Counting.span_in, Counting.turns_in, Counting.turns_row, Items.element_in}
use Rattle.eval_ops.specs.declared.counting.{Counting.Counting, ForProgress.ForProgress}
use Rattle.evaluator.specs.{Rest.after_turn, Rest.with_numbers, declared.tasks.Home.Home}

-- ---- a statement begins

-- one that is neither compound nor empty tells its line
pub told : (p : ProgramRows) (n : ℕ) (h : Here) (s : StatementRow) (own : ℕ) → line_of s ≡ Some own
    → statement p n h s ≡ Line own (of_statement p n (record h { line = own }) s)
told p n h Empty own e = absurd (let q : ⊥ = cc in q)
told p n h (Compound statements) own e = absurd (let q : ⊥ = cc in q)
told p n h (Labelled label inner) own e = absurd (let q : ⊥ = cc in q)
told p n h s own e = ap (begins p n h s) e

-- ---- its line is told

-- ---- records of with statements

abbrev pub from_record : Here → (body : ℕ) → Option (ℕ × ℕ) → ActTree
from_record h body (Some (access, next)) = locate access h (λ addr. Sub (parts.Establish next body (inside h addr)) Ret)
from_record h body None = no_row

pub records_by : (h : Here) (body : ℕ) (r : Row) → of_records h body r ≡ from_record h body (element_in r)
records_by h body (Row.Item (ItemRow.Element access next)) = refl
records_by h body r = refl

-- ---- sequences and turns

abbrev pub in_sequence : ProgramRows → Here → (first : ℕ) → Option (ℕ × ℕ) → ActTree
in_sequence p h first (Some (s, next)) = Sub (parts.Exec s h) (on_statement p h first next)
in_sequence p h first None = no_row

pub sequence_by : (p : ProgramRows) (h : Here) (first : ℕ) (r : Row) → of_sequence p h first r ≡ in_sequence p h first (element_in r)
sequence_by p h first (Row.Item (ItemRow.Element s next)) = refl
sequence_by p h first r = refl

-- ---- for statements

abbrev pub with_turns : Option Counting → (Counting → ActTree) → ActTree
with_turns None go = no_row
with_turns (Some c) go = go c

abbrev pub with_span : (otherwise : ActTree) → Option ForProgress → (ForProgress → ActTree) → ActTree
with_span otherwise None go = otherwise
with_span otherwise (Some s) go = go s

-- a for statement whose bounds are no numbers
abbrev pub without_numbers : Here → Option Counting → ActTree
without_numbers h None = no_row
without_numbers h (Some c) = Halt h.line (Fault Kind.Undefined)

pub bounds_by : (p : ProgramRows) (h : Here) (i n : ℕ) (r : Row) → bounds p h i n r ≡ with_turns (turns_in r) (λ c.
    eval i h (λ v. eval c.last h (λ w. first_turn p h n (row_at p n) v w)))
bounds_by p h i n (Row.Statement (Turns direction last place of' body)) = refl
bounds_by p h i n r = refl

pub first_by : (p : ProgramRows) (h : Here) (n : ℕ) (r : Row) (v w : Value)
    → first_turn p h n r v w ≡ with_turns (turns_in r) (λ c. first_turn p h n (turns_row c) v w)
first_by p h n (Row.Statement (Turns direction last place of' body)) v w = refl
first_by p h n r v w = refl

pub first_of_numbers : (p : ProgramRows) (h : Here) (n : ℕ) (c : Counting) (v w : Value)
    → first_turn p h n (turns_row c) v w ≡ with_span (without_numbers h (Some c)) (span_in v w)
    (λ s. first_turn p h n (turns_row c) (Value.Number s.value) (Value.Number s.last))
first_of_numbers p h n c (Value.Number i) (Value.Number j) = refl
first_of_numbers p h n c v w = refl

pub numbers_by : (v w : Value) (go : ℤ → ℤ → ActTree) → with_numbers v w go ≡ with_span no_row (span_in v w) (λ s. go s.value s.last)
numbers_by (Value.Number i) (Value.Number j) go = refl
numbers_by v w go = refl

pub counted_by : (home : Home) (n line : ℕ) (i last : ℤ) (r : Row)
    → after_turn home n line i last r ≡ with_turns (turns_in r) (λ c. after_turn home n line i last (turns_row c))
counted_by home n line i last (Row.Statement (Turns direction last' place of' body)) = refl
counted_by home n line i last r = refl

turns_same_some : (r : Row) (c c' : Counting) → Some c ≡ Some c' → r ≡ turns_row c → r ≡ turns_row c'
turns_same_some r c c' e h = h ∙ ap turns_row (let q : c ≡ c' = cc in q)

turns_row_is : (r : Row) (c : Counting) → turns_in r ≡ Some c → r ≡ turns_row c
turns_row_is (Row.Statement (Turns direction last place of' body)) c e = turns_same_some _ _ c e refl
turns_row_is r c e = absurd (let q : ⊥ = cc in q)

first_of_both : (a : Option Counting) (b : Option ForProgress) (c : Counting) (s : ForProgress) → both_there a b ≡ Some (c, s) → a ≡ Some c
first_of_both (Some c') (Some s') c s e = ap (option_map (λ q. q.0)) e
first_of_both (Some c') None c s e = absurd (let q : ⊥ = cc in q)
first_of_both None b c s e = absurd (let q : ⊥ = cc in q)

pub row_of_both : (r : Row) (b : Option ForProgress) (c : Counting) (s : ForProgress) → both_there (turns_in r) b ≡ Some (c, s) → r ≡ turns_row c
row_of_both r b c s e = turns_row_is r c (first_of_both (turns_in r) b c s e)

abbrev pub with_both : (otherwise : ActTree) → Option (Counting × ForProgress) → (Counting → ForProgress → ActTree) → ActTree
with_both otherwise None go = otherwise
with_both otherwise (Some (c, s)) go = go c s

span_both : (t : ActTree) (c : Counting) (b : Option ForProgress) (go : Counting → ForProgress → ActTree)
    → with_span t b (go c) ≡ with_both t (both_there (Some c) b) go
span_both t c None go = refl
span_both t c (Some s) go = refl

pub first_both : (p : ProgramRows) (h : Here) (n : ℕ) (r : Row) (v w : Value) → first_turn p h n r v w
    ≡ with_both (without_numbers h (turns_in r)) (both_there (turns_in r) (span_in v w))
    (λ c s. first_turn p h n (turns_row c) (Value.Number s.value) (Value.Number s.last))
first_both p h n r v w = first_by p h n r v w ∙ by (turns_in r)
  where
    by : (a : Option Counting) → with_turns a (λ c. first_turn p h n (turns_row c) v w)
        ≡ with_both (without_numbers h a) (both_there a (span_in v w))
        (λ c s. first_turn p h n (turns_row c) (Value.Number s.value) (Value.Number s.last))
    by None = refl
    by (Some c) = first_of_numbers p h n c v w
        ∙ span_both (without_numbers h (Some c)) c (span_in v w) (λ c s. first_turn p h n (turns_row c) (Value.Number s.value) (Value.Number s.last))

pub counted_both : (home : Home) (n line : ℕ) (r : Row) (v w : Value) → with_numbers v w (λ i last. after_turn home n line i last r)
    ≡ with_both no_row (both_there (turns_in r) (span_in v w)) (λ c s. after_turn home n line s.value s.last (turns_row c))
counted_both home n line r v w = numbers_by v w (λ i last. after_turn home n line i last r)
    ∙ by (turns_in r) (span_in v w) (λ s. counted_by home n line s.value s.last r)
  where
    by : (a : Option Counting) (b : Option ForProgress)
        → ((s : ForProgress) → after_turn home n line s.value s.last r ≡ with_turns a (λ c. after_turn home n line s.value s.last (turns_row c)))
        → with_span no_row b (λ s. after_turn home n line s.value s.last r)
        ≡ with_both no_row (both_there a b) (λ c s. after_turn home n line s.value s.last (turns_row c))
    by None None h = refl
    by (Some c) None h = refl
    by None (Some s) h = h s
    by (Some c) (Some s) h = h s
