-- The tokens of the statements of blocks, and what the rest of a text leaves of their rows.
use Rattle.std.proofs.Common.{◌⊎◌, ℕ, Bool, inl, inr, refl}
use Rattle.pas_tree.specs.{BlockTrees.BlockTree, BlockTrees.BodyTree, BlockTrees.RoutineTree, BlockTrees.RoutineTrees, HeadingPlaces.heading_name}
use Rattle.pas_tree.specs.{StatementTrees.CompoundTree, StatementTrees.compound_body, TreeNodes.type_part_node, TreeNodes.variable_part_node}
use Rattle.pas_tree.specs.BlockTrees as tree
use Rattle.pas_tree.specs.TreeNodes.{block_node, body_node, compound_node, constant_part_node, heading_node, label_part_node, routine_node, routines_node}
use Rattle.check_steps.specs.{Steps.◌>>=◌, Steps.ask, Steps.look, declared.regions.Span.Span}
use Rattle.denoter_checker.specs.Formals.{is_function}
use Rattle.code_checker.specs.{CodePlaces.span_of, Results.function_result}
use Rattle.code_checker.specs.Blocks.{code_block, code_body, code_routine, code_routines, statement_part}
use Rattle.rule_laws.proofs.{CasesTold.reaches_touch, Every.Every, Kept.Kept, Kept.bind_kept, Kept.kept, Kept.look_kept, Seats.every_has}
use Rattle.rule_laws.proofs.{StatementStatements.compound-touches, Touches.bind-touches, Touches.enter_block-touches, Touches.give-touches, Touches.same_in}
use Rattle.rule_laws.proofs.LeavesDeclared.{Declares, DeclaresBody, DeclaresIn, DeclaresOf}
use Rattle.rule_laws.specs.Tokens.{Has, IsDistinct}

-- a token of the statements of a block, or of a procedure or function in it
abbrev mutual
  pub InCode : BlockTree → ℕ → Type 0
  InCode (tree.a_block labels constants types variables routines body) n = Has (compound_node body) n ⊎ InCodes routines n

  pub InCodes : RoutineTrees → ℕ → Type 0
  InCodes tree.end_of_routines n = ⊥
  InCodes (tree.more_routines r rest) n = InCodeOf r n ⊎ InCodes rest n

  pub InCodeOf : RoutineTree → ℕ → Type 0
  InCodeOf (tree.a_routine heading semicolon body last_semicolon) n = InCodeBody body n

  pub InCodeBody : BodyTree → ℕ → Type 0
  InCodeBody (tree.a_directive directive) n = ⊥
  InCodeBody (tree.a_block_body b) n = InCode b n

-- ---- they stand in the text

mutual
  pub code_has : (b : BlockTree) (n : ℕ) → InCode b n → Has (block_node b) n
  code_has (tree.a_block labels constants types variables routines body) n (inl h) = inr (inr (inr (inr (inr h))))
  code_has (tree.a_block labels constants types variables routines body) n (inr c) = inr (inr (inr (inr (inl (codes_have routines n c)))))

  codes_have : (rs : RoutineTrees) (n : ℕ) → InCodes rs n → Has (routines_node rs) n
  codes_have tree.end_of_routines n c = absurd c
  codes_have (tree.more_routines r rest) n (inl c) = inl (one_has r n c)
  codes_have (tree.more_routines r rest) n (inr c) = inr (codes_have rest n c)

  one_has : (r : RoutineTree) (n : ℕ) → InCodeOf r n → Has (routine_node r) n
  one_has (tree.a_routine heading semicolon body last_semicolon) n c = inr (inr (inl (body_has body n c)))

  body_has : (body : BodyTree) (n : ℕ) → InCodeBody body n → Has (body_node body) n
  body_has (tree.a_directive directive) n c = absurd c
  body_has (tree.a_block_body b) n c = code_has b n c

-- ---- and not in declarations

mutual
  -- what holds of all other tokens of a block holds of those of its declarations
  pub declared_by : (Q : ℕ → Type 0) (b : BlockTree) → IsDistinct (block_node b) → ((n : ℕ) → Has (block_node b) n → (InCode b n → ⊥) → Q n) → Declares Q b
  declared_by Q (tree.a_block labels constants types variables routines body) d ok = (
    every_has Q (label_part_node labels) (λ n h. ok n (inl h) (λ c. elim c [
      | inl s ↦ d.2 n h (inr (inr (inr (inr s))))
      | inr s ↦ d.2 n h (inr (inr (inr (inl (codes_have routines n s)))))
    ])),
    every_has Q (constant_part_node constants) (λ n h. ok n (inr (inl h)) (λ c. elim c [
      | inl s ↦ d.1.2 n h (inr (inr (inr s)))
      | inr s ↦ d.1.2 n h (inr (inr (inl (codes_have routines n s))))
    ])),
    every_has Q (type_part_node types) (λ n h. ok n (inr (inr (inl h))) (λ c. elim c [
      | inl s ↦ d.1.1.2 n h (inr (inr s))
      | inr s ↦ d.1.1.2 n h (inr (inl (codes_have routines n s)))
    ])),
    every_has Q (variable_part_node variables) (λ n h. ok n (inr (inr (inr (inl h)))) (λ c. elim c [
      | inl s ↦ d.1.1.1.2 n h (inr s)
      | inr s ↦ d.1.1.1.2 n h (inl (codes_have routines n s))
    ])),
    declared_in Q routines d.1.1.1.1.0 (λ n h off. ok n (inr (inr (inr (inr (inl h))))) (λ c. elim c [
      | inl s ↦ d.1.1.1.1.2 n h s
      | inr s ↦ off s
    ])),
  )

  declared_in : (Q : ℕ → Type 0) (rs : RoutineTrees) → IsDistinct (routines_node rs) → ((n : ℕ) → Has (routines_node rs) n → (InCodes rs n → ⊥) → Q n)
      → DeclaresIn Q rs
  declared_in Q tree.end_of_routines d ok = tt
  declared_in Q (tree.more_routines r rest) d ok = (
    declared_of Q r d.0 (λ n h off. ok n (inl h) (λ c. elim c [
      | inl s ↦ off s
      | inr s ↦ d.2 n h (codes_have rest n s)
    ])),
    declared_in Q rest d.1 (λ n h off. ok n (inr h) (λ c. elim c [
      | inl s ↦ d.2 n (one_has r n s) h
      | inr s ↦ off s
    ])),
  )

  declared_of : (Q : ℕ → Type 0) (r : RoutineTree) → IsDistinct (routine_node r) → ((n : ℕ) → Has (routine_node r) n → (InCodeOf r n → ⊥) → Q n)
      → DeclaresOf Q r
  declared_of Q (tree.a_routine heading semicolon body last_semicolon) d ok = (
    every_has Q (heading_node heading) (λ n h. ok n (inl h) (λ c. d.2 n h (inr (inl (body_has body n c))))),
    declared_body Q body d.1.1.0 (λ n h off. ok n (inr (inr (inl h))) off),
  )

  declared_body : (Q : ℕ → Type 0) (body : BodyTree) → IsDistinct (body_node body) → ((n : ℕ) → Has (body_node body) n → (InCodeBody body n → ⊥) → Q n)
      → DeclaresBody Q body
  declared_body Q (tree.a_directive directive) d ok = record { is = ok directive refl (λ c. c) }
  declared_body Q (tree.a_block_body b) d ok = declared_by Q b d ok

-- ---- what statements leave as it is

result_kept : {Q : ℕ → Type 0} (function : Bool) (name : ℕ) → Kept Q (function_result function name)
unfolding function_result look ask ◌>>=◌
result_kept function name = record { same = λ k. same_in k }

part_kept : {Q : ℕ → Type 0} (frame : ℕ) (span : Span) (c : CompoundTree) → Every Q (compound_node c) → Kept Q (statement_part frame span c)
unfolding statement_part
part_kept frame span c here = kept (bind-touches (enter_block-touches span) (λ _. bind-touches (compound-touches frame c here) (λ _. give-touches tt)))

mutual
  pub block_kept : {Q : ℕ → Type 0} (frame : ℕ) (b : BlockTree) → ((n : ℕ) → InCode b n → Q n) → Kept Q (code_block frame b)
  block_kept {Q = Q} frame (tree.a_block labels constants types variables routines body) here =
      bind_kept (kept (reaches_touch frame (compound_body body))) (λ _.
      bind_kept (routines_kept routines (λ n c. here n (inr c))) (λ _.
      part_kept frame (span_of (tree.a_block labels constants types variables routines body)) body
      (every_has Q (compound_node body) (λ n h. here n (inl h)))))

  routines_kept : {Q : ℕ → Type 0} (rs : RoutineTrees) → ((n : ℕ) → InCodes rs n → Q n) → Kept Q (code_routines rs)
  routines_kept tree.end_of_routines here = kept (give-touches tt)
  routines_kept (tree.more_routines r rest) here =
      bind_kept (routine_kept r (λ n c. here n (inl c))) (λ _. routines_kept rest (λ n c. here n (inr c)))

  routine_kept : {Q : ℕ → Type 0} (r : RoutineTree) → ((n : ℕ) → InCodeOf r n → Q n) → Kept Q (code_routine r)
  routine_kept (tree.a_routine heading semicolon body last_semicolon) here = body_kept (is_function heading) (heading_name heading) body here

  body_kept : {Q : ℕ → Type 0} (function : Bool) (name : ℕ) (body : BodyTree) → ((n : ℕ) → InCodeBody body n → Q n) → Kept Q (code_body function name body)
  body_kept function name (tree.a_directive directive) here = kept (give-touches tt)
  body_kept function name (tree.a_block_body b) here =
      bind_kept (look_kept _) (λ frame. bind_kept (block_kept frame b here) (λ _. result_kept function name))
