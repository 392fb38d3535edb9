-- Lists of a tree, item by item of what the code holds.
use Rattle.std.proofs.Common.{◌∙◌, ◌∷◌, ◌≡◌, [], ℕ, Bool, Bor, List, None, Option, Some, ap, length, map, option_copied, option_map, refl, slice_get, suc, sym}
use Rattle.std.{proofs.Common.zero, proofs.lemmas.Option.slice_get_past, proofs.lemmas.Option.slice_get_read, specs.Slice.IsGetResult}
use Rattle.pas_tree.proofs.DenoterViews.{fields_view}
use Rattle.pas_tree.specs.{HeadingTrees.formal_trees, declared.denoters.NextVariants.NextVariants, declared.headings.NextFormal.NextFormal}
use Rattle.pas_tree.specs.BlockTrees.{routine_tree, routine_trees, type_definition_tree, variable_declaration_tree}
use Rattle.pas_tree.specs.DenoterTrees as tree
use Rattle.pas_tree.specs.declared.blocks.{Routine.Routine, TypeDefinition.TypeDefinition, VariableDeclaration.VariableDeclaration}
use Rattle.pas_tree.specs.declared.denoters.{Fields.Fields, Fixed.Fixed, NextArm.NextArm, NextDenoter.NextDenoter, NextSection.NextSection}
use Rattle.pas_tree.specs.declared.denoters.Fields.TheVariants as made
use Rattle.check_steps.{proofs.Runs.run_after, specs.declared.work.Work.Work}
use Rattle.check_steps.specs.Steps.{◌>>=◌, Step, each, each_back, run_step}
use Rattle.kind_checker.specs.declared.types.Scope.{Scope}
use Rattle.denoter_checker.specs.{Arrays.next_joined, Formals.define_more_formals, Formals.define_next_formal, Variants.next_arm_choices}
use Rattle.denoter_checker.specs.Defines as defines
use Rattle.denoter_checker.specs.Denoters as walk
use Rattle.denoter_checker.specs.Headings as headings
use Rattle.denoter_checker.specs.Parts as parts
use Rattle.denoter_checker.specs.RoutineParts as routines
use Rattle.denoter_checker.specs.declared.{defines.Wanted.Wanted, variants.Choosing.Choosing, variants.Listed.Listed}

-- ---- names

pub others_defined : (region : ℕ) (u : Unit {0}) (ns : List NextDenoter)
    → defines.define_others region (tree.denoter_trees ns) ≡ each (defines.define_other region) u ns
unfolding defines.define_other
others_defined region u [] = refl
others_defined region u (n ∷ ns) =
    ap (λ (h : Unit {0} → Step (Unit {0})). defines.define_other region u n >>= h) (λ i v. others_defined region v ns i)

pub sections_defined : (w : Wanted) (region : ℕ) (u : Unit {0}) (ns : List NextSection)
    → defines.define_sections w region (tree.section_trees ns) ≡ each (defines.define_next_section w region) u ns
unfolding defines.define_next_section
sections_defined w region u [] = refl
sections_defined w region u (n ∷ ns) =
    ap (λ (h : Unit {0} → Step (Unit {0})). defines.define_next_section w region u n >>= h) (λ i v. sections_defined w region v ns i)

pub arms_defined : (w : Wanted) (region : ℕ) (u : Unit {0}) (ns : List NextArm)
    → defines.define_arms w region (tree.arm_trees ns) ≡ each (defines.define_next_arm w region) u ns
unfolding defines.define_next_arm
arms_defined w region u [] = refl
arms_defined w region u (n ∷ ns) =
    ap (λ (h : Unit {0} → Step (Unit {0})). defines.define_next_arm w region u n >>= h) (λ i v. arms_defined w region v ns i)

-- a field list with a fixed part, once that is done
pub fields_defined : (w : Wanted) (region : ℕ) (fields : Fields) (f : Fixed) (part : Option NextVariants) (last : Option ℕ) (a b : Work)
    → fields ≡ made.Fixed f part last → run_step (defines.define_fixed w region (tree.fixed_tree f)) a ≡ (tt, b)
    → run_step (defines.define_in_fields w region (tree.fields_tree fields)) a ≡ run_step (defines.define_part w region (tree.part_in part)) b
fields_defined w region fields f part last a b is done =
    ap (λ t. run_step (defines.define_in_fields w region t) a) (ap tree.fields_tree is ∙ fields_view f part last)
    ∙ run_after (defines.define_fixed w region (tree.fixed_tree f)) (λ _. defines.define_part w region (tree.part_in part)) a tt b done

-- ---- types

pub indexes_each : (s : Scope) (word : ℕ) (u : Unit {0}) (ns : List NextDenoter)
    → walk.other_indexes s word (tree.denoter_trees ns) ≡ each (walk.next_index s word) u ns
unfolding walk.next_index
indexes_each s word u [] = refl
indexes_each s word u (n ∷ ns) =
    ap (λ (h : Unit {0} → Step (Unit {0})). walk.next_index s word u n >>= h) (λ i v. indexes_each s word v ns i)

pub joins_each : (packed : Bool) (t : ℕ) (ns : List NextDenoter) → walk.joins packed t (tree.denoter_trees ns) ≡ each_back (next_joined packed) t ns
unfolding next_joined
joins_each packed t [] = refl
joins_each packed t (n ∷ ns) = ap (λ (m : Step ℕ). m >>= λ inner. next_joined packed inner n) (joins_each packed t ns)

pub sections_each : (s : Scope) (holder offset : ℕ) (ns : List NextSection)
    → walk.more_sections s holder offset (tree.section_trees ns) ≡ each (walk.next_section s holder) offset ns
unfolding walk.next_section
sections_each s holder offset [] = refl
sections_each s holder offset (n ∷ ns) =
    ap (λ (h : ℕ → Step ℕ). walk.next_section s holder offset n >>= h) (λ i v. sections_each s holder v ns i)

pub choices_each : (c : Choosing) (l : Listed) (ns : List NextArm) → walk.more_choices c l (tree.arm_trees ns) ≡ each (next_arm_choices c) l ns
unfolding next_arm_choices
choices_each c l [] = refl
choices_each c l (n ∷ ns) = ap (λ (h : Listed → Step Listed). next_arm_choices c l n >>= h) (λ i v. choices_each c v ns i)

pub arms_each : (s : Scope) (offset : ℕ) (ns : List NextArm) → walk.arms_at s offset (tree.arm_trees ns) ≡ each (walk.next_arm s) offset ns
unfolding walk.next_arm
arms_each s offset [] = refl
arms_each s offset (n ∷ ns) = ap (λ (h : ℕ → Step ℕ). walk.next_arm s offset n >>= h) (λ i v. arms_each s v ns i)

pub fields_placed : (s : Scope) (holder offset : ℕ) (fields : Fields) (f : Fixed) (part : Option NextVariants) (last : Option ℕ) (a b : Work) (next : ℕ)
    → fields ≡ made.Fixed f part last → run_step (walk.fixed_at s holder offset (tree.fixed_tree f)) a ≡ (next, b)
    → run_step (walk.fields_at s holder offset (tree.fields_tree fields)) a ≡ run_step (walk.variants_after s holder next (tree.part_in part)) b
fields_placed s holder offset fields f part last a b next is done =
    ap (λ t. run_step (walk.fields_at s holder offset t) a) (ap tree.fields_tree is ∙ fields_view f part last)
    ∙ run_after (walk.fixed_at s holder offset (tree.fixed_tree f)) (λ n. walk.variants_after s holder n (tree.part_in part)) a next b done

-- ---- headings

pub formals_defined : (region : ℕ) (u : Unit {0}) (ns : List NextFormal)
    → define_more_formals region (formal_trees ns) ≡ each (define_next_formal region) u ns
unfolding define_next_formal
formals_defined region u [] = refl
formals_defined region u (n ∷ ns) =
    ap (λ (h : Unit {0} → Step (Unit {0})). define_next_formal region u n >>= h) (λ i v. formals_defined region v ns i)

pub sections_put : (ns : List NextFormal) → headings.put_more_sections (formal_trees ns) ≡ each_back headings.put_next_section 0 ns
unfolding headings.put_next_section
sections_put [] = refl
sections_put (n ∷ ns) = ap (λ (m : Step ℕ). m >>= λ next. headings.put_next_section next n) (sections_put ns)

pub places_each : (frame at : ℕ) (ns : List NextFormal) → headings.more_places frame at (formal_trees ns) ≡ each (headings.next_formal_place frame) at ns
unfolding headings.next_formal_place
places_each frame at [] = refl
places_each frame at (n ∷ ns) = ap (λ (h : ℕ → Step ℕ). headings.next_formal_place frame at n >>= h) (λ i v. places_each frame v ns i)

-- ---- parts of blocks

pub types_defined : (region : ℕ) (u : Unit {0}) (ds : List TypeDefinition)
    → each (parts.define_type region) u (map type_definition_tree ds) ≡ each (parts.define_next_type region) u ds
unfolding parts.define_next_type
types_defined region u [] = refl
types_defined region u (d ∷ ds) =
    ap (λ (h : Unit {0} → Step (Unit {0})). parts.define_next_type region u d >>= h) (λ i v. types_defined region v ds i)

pub types_each : (s : Scope) (u : Unit {0}) (ds : List TypeDefinition)
    → each (parts.type_definition s) u (map type_definition_tree ds) ≡ each (parts.next_type_definition s) u ds
unfolding parts.next_type_definition
types_each s u [] = refl
types_each s u (d ∷ ds) = ap (λ (h : Unit {0} → Step (Unit {0})). parts.next_type_definition s u d >>= h) (λ i v. types_each s v ds i)

pub variables_defined : (region : ℕ) (u : Unit {0}) (ds : List VariableDeclaration)
    → each (parts.define_variable region) u (map variable_declaration_tree ds) ≡ each (parts.define_next_variable region) u ds
unfolding parts.define_next_variable
variables_defined region u [] = refl
variables_defined region u (d ∷ ds) =
    ap (λ (h : Unit {0} → Step (Unit {0})). parts.define_next_variable region u d >>= h) (λ i v. variables_defined region v ds i)

pub variables_each : (frame at : ℕ) (ds : List VariableDeclaration)
    → each (parts.variable_declaration frame) at (map variable_declaration_tree ds) ≡ each (parts.next_variable_declaration frame) at ds
unfolding parts.next_variable_declaration
variables_each frame at [] = refl
variables_each frame at (d ∷ ds) =
    ap (λ (h : ℕ → Step ℕ). parts.next_variable_declaration frame at d >>= h) (λ i v. variables_each frame v ds i)

-- ---- routines

pub routines_defined : (region position : ℕ) (rs : List Routine)
    → routines.define_each_routine region position (routine_trees rs) ≡ each (routines.define_next_routine region) position rs
unfolding routines.define_next_routine
routines_defined region position [] = refl
routines_defined region position (r ∷ rs) =
    ap (λ (h : ℕ → Step ℕ). routines.define_next_routine region position r >>= h) (λ i v. routines_defined region v rs i)

pub blocks_each : (u : Unit {0}) (rs : List Routine) → routines.have_blocks (routine_trees rs) ≡ each routines.next_has_block u rs
unfolding routines.next_has_block
blocks_each u [] = refl
blocks_each u (r ∷ rs) = ap (λ (h : Unit {0} → Step (Unit {0})). routines.next_has_block u r >>= h) (λ i v. blocks_each v rs i)

-- what `get` finds in a list
pub item_copied : {X : Type 0} (xs : List X) (at : ℕ) (r : Option (Bor X)) → IsGetResult xs at at r → option_copied r ≡ slice_get xs at
item_copied xs at None found = sym (slice_get_past xs at found.3)
item_copied xs at (Some x) found = sym (slice_get_read xs (length xs) at x.now refl found.3.0 found.1)

pub routine_held : (rs : List Routine) (position : ℕ) → routines.routine_at (routine_trees rs) position ≡ option_map routine_tree (slice_get rs position)
routine_held [] position = refl
routine_held (r ∷ rs) zero = refl
routine_held (r ∷ rs) (suc position) = routine_held rs position
