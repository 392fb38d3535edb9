-- Where a shaped node goes on from a text, a typed tree does.
use Rattle.std.proofs.Common.{◌*◌, ◌++◌, ◌+◌, ◌<◌, ◌^◌, ◌∙◌, ◌∷◌, ◌≡◌, ◌≤◌, [], ℕ, List, add-one, ap, arith, length, length-append, refl, subst, suc, sym, take}
use Rattle.std.proofs.{Common.true, Common.zero, lemmas.List.length-take-le}
use Rattle.grammar.proofs.{Deepest.deep_shaped, FirstRefusals.cut}
use Rattle.grammar.specs.{Completing.brief_of, Nesting.BeginsDeep, Nesting.IsShaped, Nodes.Item, Nodes.Node, Nodes.spell, Refusals.IsTooDeep}
use Rattle.grammar.specs.Grammars.{Level, block, denoter, factor, heading, schema, statement, variant_part}
use Rattle.pas_tree.proofs.{Decided.calm, Decided.pascal_checks, Parting.times, TreesCovered.shaped_have_trees}
use Rattle.pas_tree.proofs.ClosedTrees.{Goes, IsBrief, whole_closes, whole_keeps}
use Rattle.pas_tree.specs.{Blocks.tree_node, FirstFollow.pascal, declared.blocks.Tree.Tree}
use Rattle.pas_tree.specs.Rules as r
use Rattle.pas_tree.specs.TypedTrees.{HasShortLists, HopelessForTrees, NodeGoesOn, TooDeepForTrees, TreeGoesOn, TreeIsTooDeep, TreesGoOn}
open pascal_checks use {decided, completed}

-- a block may begin with a heading, and no other construct with one
abbrev rank : Level → ℕ
rank block = 1
rank heading = 0
rank (statement inner closer) = 0
rank denoter = 0
rank schema = 0
rank variant_part = 0
rank factor = 0

pascal_brief : IsBrief pascal r.program_rule (brief_of calm r.rule 2) rank 1000 ≡ true
unfolding r.next_factor_rule r.term_rule r.next_term_rule r.sign_rule r.simple_rule r.relation_rule r.expression_rule r.next_expression_rule r.index_rule
    r.selector_rule r.selectors_rule r.access_rule r.arguments_rule r.member_rule r.next_member_rule r.members_rule r.named_factor_rule r.paren_rule
    r.factor_rule r.next_name_rule r.names_rule r.constant_rule r.next_constant_rule r.constants_rule r.range_rule r.limit_rule r.enumeration_rule
    r.next_denoter_rule r.array_rule r.section_rule r.variants_rule r.fixed_rule r.fields_rule r.arm_rule r.tag_rule r.variant_part_rule r.record_rule
    r.set_rule r.structure_rule r.structured_rule r.named_denoter_rule r.subrange_rule r.denoter_rule r.spec_rule r.next_spec_rule r.specs_rule
    r.formal_type_rule r.packed_schema_rule r.unpacked_schema_rule r.schema_rule r.variables_formal_rule r.formal_rule r.next_formal_rule r.formals_rule
    r.procedure_rule r.result_rule r.function_rule r.heading_rule r.next_statement_rule r.statements_rule r.compound_rule r.actual_rule r.next_actual_rule
    r.actuals_rule r.assignment_rule r.named_statement_rule r.alternative_rule r.else_rule r.if_rule r.branch_rule r.case_rule r.repeat_rule r.while_rule
    r.for_rule r.next_access_rule r.with_rule r.goto_rule r.counted_rule r.plain_rule r.label_rule r.statement_rule r.next_label_rule r.label_part_rule
    r.constant_definition_rule r.constant_part_rule r.type_definition_rule r.type_part_rule r.variable_declaration_rule r.variable_part_rule r.body_rule
    r.routine_rule r.routines_rule r.block_rule r.parameters_rule r.program_rule
pascal_brief = refl

times_thousand : (n : ℕ) → times n 1000 ≡ 1000 * n
times_thousand zero = refl
times_thousand (suc n) = omega (arith, times_thousand n)

-- A typed tree of whose node that holds, and that begins with these tokens.
abbrev TreeOf : (Node → Type 0) → List Item → Type 0
TreeOf P front = (t : Tree) × P (tree_node t) × (more : List Item) × (spell (tree_node t) ≡ front ++ more)

-- a node of few tokens as a typed tree
as_tree : (P : Node → Type 0) → ((x : Node) → P x → IsShaped pascal r.program_rule x) → (front : List Item) (x : Node) (more : List Item) → P x
    → HasShortLists x → spell x ≡ front ++ more → TreeOf P front
as_tree P shaped front x more s short e =
    let t = shaped_have_trees x (shaped x s) short in
    (t.0, subst P (sym t.1) s, more, ap spell t.1 ∙ e)

abbrev Found : (Node → Type 0) → List Item → Type 0
Found P front = Goes calm pascal r.program_rule decided 2 completed rank 1000 pascal_brief P front

-- what few tokens close is short
closed_tree : (P : Node → Type 0) → ((x : Node) → P x → IsShaped pascal r.program_rule x) → (front : List Item) → length front < 2 ^ 32
    → Found P front → TreeOf P front
closed_tree P shaped front short c =
    let few : length c.more ≤ 1000 * suc (2 * length front) = let k = c.few in omega (arith, times_thousand (suc (2 * length front))) in
    as_tree P shaped front c.tree c.more c.fits (omega (arith, ap length c.begins, length-append front c.more)) c.begins

goes_on : (text : List Item) → length text < 2 ^ 32 → NodeGoesOn text → TreeGoesOn text
goes_on text short (x, s, [], e) = as_tree (IsShaped pascal r.program_rule) (λ x s. s) text x [] s (omega (arith, ap length e, length-append text [])) e
goes_on text short (x, s, z ∷ rest, e) = closed_tree (IsShaped pascal r.program_rule) (λ x s. s) text short
    (whole_closes calm pascal r.program_rule decided 2 completed rank 1000 pascal_brief x s text z rest e)

-- each typed tree has a node
pub trees_go_on : TreesGoOn
trees_go_on text short = (goes_on text short, λ g. (tree_node g.0, g.1, g.2, g.3))

pub hopeless_for_trees : HopelessForTrees
hopeless_for_trees text short i = (
  λ m. (m.0, λ t s b. m.1 (tree_node t) s b),
  λ m. (
    m.0,
    λ x s b.
        let g = goes_on (take (i + 1) text) (let k = m.0 in omega (arith, length-take-le (i + 1) text (omega arith))) (x, s, b.0, b.1) in
        m.1 g.0 g.1 (g.2, g.3),
  ),
)

-- a node that begins at a token too deep
deep_on : (n : ℕ) (f : List Item) (z : Item) (x : Node) (more : List Item) → length (f ++ z ∷ []) < 2 ^ 32 → BeginsDeep pascal n r.program_rule x f
    → spell x ≡ (f ++ z ∷ []) ++ more → TreeOf (λ x. BeginsDeep pascal n r.program_rule x f) (f ++ z ∷ [])
deep_on n f z x [] short s e = as_tree (λ x. BeginsDeep pascal n r.program_rule x f) (λ x s. deep_shaped pascal n r.program_rule x f s) (f ++ z ∷ []) x [] s
    (omega (arith, ap length e, length-append (f ++ z ∷ []) [])) e
deep_on n f z x (y ∷ rest) short s e = closed_tree (λ x. BeginsDeep pascal n r.program_rule x f) (λ x s. deep_shaped pascal n r.program_rule x f s)
    (f ++ z ∷ []) short (whole_keeps calm pascal r.program_rule decided 2 completed rank 1000 pascal_brief n x f z y rest s e)

deep_tree : (n : ℕ) (text : List Item) → length text < 2 ^ 32 → (i : ℕ) → IsTooDeep pascal n r.program_rule text i → TreeIsTooDeep n text i
deep_tree n text short i (inside, (x, s, (more, e), deep)) =
    let c = cut text i inside in
    let upto : take (i + 1) text ≡ take i text ++ c.here ∷ [] = ap (λ (k : ℕ). take k text) (add-one i) ∙ c.upto in
    let few : length (take i text ++ c.here ∷ []) < 2 ^ 32 =
    omega (arith, length-append (take i text) (c.here ∷ []), length-take-le i text (omega arith)) in
    let g = deep_on n (take i text) c.here x more few deep (e ∙ ap (λ (l : List Item). l ++ more) upto) in
    let shaped = deep_shaped pascal n r.program_rule (tree_node g.0) (take i text) g.1 in
    (inside, (g.0, shaped, (g.2, g.3 ∙ ap (λ (l : List Item). l ++ g.2) (sym upto)), g.1))

pub too_deep_for_trees : TooDeepForTrees
too_deep_for_trees n text short i = (deep_tree n text short i, λ m. (m.0, (tree_node m.1.0, m.1.1, m.1.2, m.1.3)))
