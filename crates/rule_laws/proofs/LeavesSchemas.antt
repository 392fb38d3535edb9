-- What the steps of `Rattle.denoter_checker.specs.Schemas` leave at other tokens.
use Rattle.std.proofs.Common.{◌+◌, ℕ, Bool, false, true}
use Rattle.pas_tree.specs.{SchemaTrees.FormalTypeTree, SchemaTrees.SchemaTree, Schemas.next_spec_node, Schemas.spec_node, TreeNodes.formal_type_node}
use Rattle.pas_tree.specs.{TreeNodes.schema_node, declared.schemas.NextSpec.NextSpec, declared.schemas.Spec.Spec}
use Rattle.pas_tree.specs.SchemaTrees as tree
use Rattle.core_program.specs.declared.rows.{Row.Row, TypeRow.TypeRow}
use Rattle.check_steps.specs.Steps.{◌>>=◌, give}
use Rattle.kind_checker.specs.{Sizes.frame_capped, declared.names.NameKind.NameKind}
use Rattle.denoter_checker.specs.{Schemas.next_spec, Schemas.open_spec, Schemas.schema_type, declared.schemas.OpenSpec.OpenSpec}
use Rattle.denoter_checker.specs.Schemas.{after_bounds, bound_row, close_spec, define_bounds, define_next_spec, define_schema, define_spec, formal_type}
use Rattle.rule_laws.proofs.{Every.Every, Every.Of, LeavesNameLists.define_name-leaves, LeavesTypes.named_type-leaves, LeavesTypes.ordinal-leaves}
use Rattle.rule_laws.proofs.Leaves.{Brings, Leaves, bind-leaves, brings-leaves, each-brings, each-leaves, give-leaves, put-leaves}

-- ---- bounds as names

define_spec-leaves : {Q : ℕ → Type 0} (region : ℕ) (s : Spec) → Every Q (spec_node s) → Leaves Q (define_spec region s)
unfolding define_spec
define_spec-leaves region s s-in = bind-leaves (define_name-leaves region NameKind.Formal tt s.least s-in.0) (λ _.
    define_name-leaves region NameKind.Formal tt s.greatest s-in.1.1.0)

define_next_spec-leaves : {Q : ℕ → Type 0} (region : ℕ) (u : Unit {0}) (n : NextSpec) → Every Q (next_spec_node n)
    → Leaves Q (define_next_spec region u n)
unfolding define_next_spec
define_next_spec-leaves region u n n-in = define_spec-leaves region n.spec n-in.1

mutual
  pub define_bounds-leaves : {Q : ℕ → Type 0} (region : ℕ) (t : FormalTypeTree) → Every Q (formal_type_node t) → Leaves Q (define_bounds region t)
  define_bounds-leaves region (tree.a_formal_name n) t-in = give-leaves tt
  define_bounds-leaves region (tree.a_schema s) t-in = define_schema-leaves region s t-in

  define_schema-leaves : {Q : ℕ → Type 0} (region : ℕ) (s : SchemaTree) → Every Q (schema_node s) → Leaves Q (define_schema region s)
  define_schema-leaves region (tree.a_packed_schema p) s-in = define_spec-leaves region p.spec s-in.1.1.1.0
  define_schema-leaves region (tree.an_unpacked_schema word left specs right of_word component) s-in =
      bind-leaves (define_spec-leaves region specs.first s-in.1.1.0.0) (λ _.
      bind-leaves (each-leaves (define_next_spec region) next_spec_node (λ a x h. define_next_spec-leaves region a x h) tt specs.others s-in.1.1.0.1)
      (λ _. define_bounds-leaves region component s-in.1.1.1.1.1))

-- ---- what they are

open_spec-leaves : {Q : ℕ → Type 0} (frame level slot at : ℕ) (s : Spec) → Every Q (spec_node s) → Leaves Q (open_spec frame level slot at s)
unfolding open_spec
open_spec-leaves frame level slot at s s-in = bind-leaves (named_type-leaves frame s.of s-in.1.1.1.1) (λ t.
    bind-leaves (ordinal-leaves s.of s.of t s-in.1.1.1.1) (λ index. bind-leaves (put-leaves s.least (bound_row level index at) s-in.0) (λ _.
    bind-leaves (put-leaves s.greatest (bound_row level index (frame_capped (at + 1))) s-in.1.1.0) (λ _.
    give-leaves (record { slot = slot; index = index; place = at })))))

close_spec-leaves : {Q : ℕ → Type 0} (packed : Bool) (s : OpenSpec) (component : ℕ) → Of Q s.slot → Leaves Q (close_spec packed s component)
unfolding close_spec
close_spec-leaves packed s component slot-in = put-leaves s.slot (Row.Type (TypeRow.Conformant packed s.index component s.place)) slot-in

next_spec-leaves : {Q : ℕ → Type 0} (frame level : ℕ) (s : OpenSpec) (n : NextSpec) → Of Q s.slot → Every Q (next_spec_node n)
    → Leaves Q (next_spec frame level s n)
unfolding next_spec
next_spec-leaves frame level s n slot-in n-in = bind-leaves (close_spec-leaves false s n.semicolon slot-in) (λ _.
    open_spec-leaves frame level n.semicolon (after_bounds s) n.spec n-in.1)

-- the slot is one of these tokens
abbrev InSlot : (ℕ → Type 0) → OpenSpec → Type 0
InSlot Q s = Of Q s.slot

open_spec-brings : {Q : ℕ → Type 0} (frame level slot at : ℕ) (s : Spec) → Of Q slot → Every Q (spec_node s)
    → Brings Q (InSlot Q) (open_spec frame level slot at s)
unfolding open_spec ◌>>=◌ give
open_spec-brings frame level slot at s slot-in s-in = record { leaves = open_spec-leaves frame level slot at s s-in; value = λ k. slot-in }

next_spec-brings : {Q : ℕ → Type 0} (frame level : ℕ) (s : OpenSpec) (n : NextSpec) → Of Q s.slot → Every Q (next_spec_node n)
    → Brings Q (InSlot Q) (next_spec frame level s n)
unfolding next_spec open_spec ◌>>=◌ give
next_spec-brings frame level s n slot-in n-in = record { leaves = next_spec-leaves frame level s n slot-in n-in; value = λ k. n-in.0 }

mutual
  pub formal_type-leaves : {Q : ℕ → Type 0} (frame level at : ℕ) (t : FormalTypeTree) → Every Q (formal_type_node t)
      → Leaves Q (formal_type frame level at t)
  formal_type-leaves frame level at (tree.a_formal_name n) t-in =
      bind-leaves (named_type-leaves frame n t-in) (λ t. give-leaves (record { of = t; place = at }))
  formal_type-leaves frame level at (tree.a_schema s) t-in = schema_type-leaves frame level at s t-in

  schema_type-leaves : {Q : ℕ → Type 0} (frame level at : ℕ) (s : SchemaTree) → Every Q (schema_node s) → Leaves Q (schema_type frame level at s)
  schema_type-leaves {Q = Q} frame level at (tree.a_packed_schema p) s-in =
      brings-leaves {P = InSlot Q} (open_spec-brings frame level p.«open» at p.spec s-in.1.1.0 s-in.1.1.1.0) (λ s slot-in.
      bind-leaves (named_type-leaves frame p.component s-in.1.1.1.1.1.1) (λ component. bind-leaves (close_spec-leaves true s component slot-in) (λ _.
      give-leaves (record { of = p.«open»; place = after_bounds s }))))
  schema_type-leaves {Q = Q} frame level at (tree.an_unpacked_schema word left specs right of_word component) s-in =
      brings-leaves {P = InSlot Q} (open_spec-brings frame level left at specs.first s-in.1.0 s-in.1.1.0.0) (λ first first-in.
      brings-leaves {P = InSlot Q} (each-brings (InSlot Q) (next_spec frame level) next_spec_node (λ a x p h. next_spec-brings frame level a x p h) first
      specs.others first-in s-in.1.1.0.1) (λ last last-in. bind-leaves (formal_type-leaves frame level (after_bounds last) component s-in.1.1.1.1.1) (λ c.
      bind-leaves (close_spec-leaves false last c.of last-in) (λ _. give-leaves (record { of = left; place = c.place })))))
