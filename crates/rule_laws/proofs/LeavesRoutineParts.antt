-- What the steps of `Rattle.denoter_checker.specs.RoutineParts` leave at other tokens.
use Rattle.std.proofs.Common.{◌∙◌, ◌≡◌, ℕ, None, Option, Some, ap, false, inl, inr, not, refl, subst, sym, true}
use Rattle.pas_tree.specs.{HeadingPlaces.heading_name, HeadingTrees.HeadingTree}
use Rattle.pas_tree.specs.BlockTrees.{BodyTree, RoutineTree, RoutineTrees, routine_body, routine_heading}
use Rattle.pas_tree.specs.BlockTrees as tree
use Rattle.pas_tree.specs.TreeNodes.{body_node, heading_node, routine_node, routines_node}
use Rattle.core_program.specs.declared.rows.{PartRow.PartRow, Row.Row}
use Rattle.check_steps.specs.{Known.Known, Known.row_at, Known.with_row, Steps.◌>>=◌, Steps.give, Steps.look, declared.regions.Def.Def}
use Rattle.denoter_checker.specs.Formals.{is_complete, is_function}
use Rattle.denoter_checker.specs.RoutineParts.{complete_or_define, completed_by, define_each_routine, define_heading, define_routine, define_routines, defining}
use Rattle.denoter_checker.specs.RoutineParts.{directed, directive_in, has_block, have_blocks, is_forward, is_waiting, routine_name}
use Rattle.rule_laws.proofs.{Every.Every, Every.Of, Faces.row_either, LastsRoutineParts.completed, LeavesNames.define_in-leaves, TokenPlaces.heading_name-in}
use Rattle.rule_laws.proofs.Leaves.{Leaves, bind-leaves, early-leaves, give-leaves, is_fast, look-leaves, put-leaves, when-leaves}
use Rattle.rule_laws.proofs.TextHeadings.{awaited, completed_found}

define_heading-leaves : {Q : ℕ → Type 0} (region : ℕ) (h : HeadingTree) → Every Q (heading_node h) → Leaves Q (define_heading region h)
unfolding define_heading
define_heading-leaves region h h-in = bind-leaves
    (define_in-leaves region (record { def = Def.Routine (heading_name h); token = heading_name h; end = heading_name h }) (heading_name-in h h-in))
    (λ _. early-leaves 9 (heading_name h) (is_complete h) (heading_name-in h h-in))

directive_in-leaves : {Q : ℕ → Type 0} (h : HeadingTree) (body : BodyTree) → Every Q (heading_node h) → Every Q (body_node body)
    → Leaves Q (directive_in h body)
unfolding directed
directive_in-leaves h (tree.a_directive directive) h-in body-in = bind-leaves (look-leaves (λ k. is_forward k directive)) (λ forward.
    bind-leaves (early-leaves 10 directive forward body-in) (λ _.
    when-leaves forward (put-leaves (heading_name h) (Row.Part (PartRow.Forward (is_function h) None)) (heading_name-in h h-in))))
directive_in-leaves h (tree.a_block_body b) h-in body-in = give-leaves tt

defining-leaves : {Q : ℕ → Type 0} (region : ℕ) (h : HeadingTree) (body : BodyTree) → Every Q (heading_node h) → Every Q (body_node body)
    → Leaves Q (defining region h body)
unfolding defining
defining-leaves region h body h-in body-in = bind-leaves (define_heading-leaves region h h-in) (λ _. directive_in-leaves h body h-in body-in)

-- one that completes another puts its rows at its own name, and at one that waits
turn-leaves : {Q : ℕ → Type 0} (region position : ℕ) (h : HeadingTree) (body : BodyTree) → Every Q (heading_node h) → Every Q (body_node body) → (k : Known)
    (n : ℕ) → (Of Q n → ⊥) → is_fast (row_at k n) ≡ true → (o : Option ℕ) → completed_by k region h body ≡ o
    → row_at (complete_or_define o region position h body k).known n ≡ row_at k n
turn-leaves region position h body h-in body-in k n off fast None e = (defining-leaves region h body h-in body-in).of k n off fast
turn-leaves {Q = Q} region position h body h-in body-in k n off fast (Some first) e =
    let settled = Row.Part (PartRow.Forward (is_function h) (Some position)) in
    let f = completed_found k region h body first e in
    let w = awaited (is_function h) (row_at k first) f.waiting in
    ap (λ (j : Known). row_at j n) (completed first position h k)
    ∙ elim (row_either (with_row k first settled) (heading_name h) n (Row.Part (PartRow.Completing first))) [
      | inl old ↦ old ∙ elim (row_either k first n settled) [
        | inl same ↦ same
        | inr new ↦ absurd (
            let waits : is_fast (row_at k n) ≡ false = ap (λ x. is_fast (row_at k x)) new.0 ∙ ap is_fast w.is in
            let never : true ≡ false = sym fast ∙ waits in cc)
      ]
      | inr new ↦ absurd (off (subst (Of Q) (sym new.0) (heading_name-in h h-in)))
    ]

pub routine_parts : (Q : ℕ → Type 0) (r : RoutineTree) → Every Q (routine_node r) → Every Q (heading_node (routine_heading r))
    × Every Q (body_node (routine_body r))
routine_parts Q (tree.a_routine heading semicolon body last_semicolon) h = (h.0, h.1.1.0)

define_routine-leaves : {Q : ℕ → Type 0} (region position : ℕ) (r : RoutineTree) → Every Q (routine_node r) → Leaves Q (define_routine region position r)
unfolding define_routine look give ◌>>=◌
define_routine-leaves {Q = Q} region position r r-in = record {
  of = λ k n off fast.
      let h = routine_heading r in
      let body = routine_body r in
      let parts = routine_parts Q r r-in in
      turn-leaves region position h body parts.0 parts.1 k n off fast (completed_by k region h body) refl;
}

each_routine-leaves : {Q : ℕ → Type 0} (region position : ℕ) (rs : RoutineTrees) → Every Q (routines_node rs)
    → Leaves Q (define_each_routine region position rs)
each_routine-leaves region position tree.end_of_routines rs-in = give-leaves position
each_routine-leaves region position (tree.more_routines r rest) rs-in =
    bind-leaves (define_routine-leaves region position r rs-in.0) (λ next. each_routine-leaves region next rest rs-in.1)

have_blocks-leaves : {Q : ℕ → Type 0} (rs : RoutineTrees) → Every Q (routines_node rs) → Leaves Q (have_blocks rs)
unfolding has_block
have_blocks-leaves tree.end_of_routines rs-in = give-leaves tt
have_blocks-leaves {Q = Q} (tree.more_routines r rest) rs-in =
    bind-leaves (bind-leaves (look-leaves (λ k. is_waiting (row_at k (routine_name r)))) (λ waiting.
    early-leaves 8 (routine_name r) (not waiting) (heading_name-in (routine_heading r) (routine_parts Q r rs-in.0).0)))
    (λ _. have_blocks-leaves rest rs-in.1)

pub define_routines-leaves : {Q : ℕ → Type 0} (region : ℕ) (rs : RoutineTrees) → Every Q (routines_node rs) → Leaves Q (define_routines region rs)
define_routines-leaves region rs rs-in = bind-leaves (each_routine-leaves region 0 rs rs-in) (λ _. have_blocks-leaves rs rs-in)
