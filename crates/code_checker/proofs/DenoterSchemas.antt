-- What the steps of `Rattle.denoter_checker.specs.Schemas` keep.
use Rattle.std.proofs.Common.{◌+◌, ℕ, Bool, false, true}
use Rattle.pas_tree.specs.{SchemaTrees.FormalTypeTree, SchemaTrees.SchemaTree, Schemas.next_spec_node, Schemas.spec_node, TreeNodes.formal_type_node}
use Rattle.pas_tree.specs.{TreeNodes.schema_node, declared.schemas.NextSpec.NextSpec, declared.schemas.Spec.Spec}
use Rattle.pas_tree.specs.SchemaTrees as tree
use Rattle.core_program.specs.declared.rows.{Row.Row, TypeRow.TypeRow}
use Rattle.kind_checker.specs.{Sizes.frame_capped, declared.names.NameKind.NameKind}
use Rattle.denoter_checker.specs.{Schemas.next_spec, Schemas.open_spec, Schemas.schema_type, declared.schemas.OpenSpec.OpenSpec}
use Rattle.denoter_checker.specs.Schemas.{after_bounds, bound_row, close_spec, define_bounds, define_next_spec, define_schema, define_spec, formal_type}
use Rattle.code_checker.proofs.{KindNames.define_name-holds, KindTypes.named_type-holds, KindTypes.ordinal-holds, Within.Within}
use Rattle.code_checker.proofs.Steps.{Holds, bind-holds, each-holds, give-holds, put-holds}

-- ---- bounds as names

define_spec-holds : {size : ℕ} (region : ℕ) (s : Spec) → Within size (spec_node s) → Holds size false (define_spec region s)
unfolding define_spec
define_spec-holds region s s-in = bind-holds (define_name-holds region NameKind.Formal tt s.least s-in.0) (λ _.
    define_name-holds region NameKind.Formal tt s.greatest s-in.1.1.0)

define_next_spec-holds : {size : ℕ} (region : ℕ) (u : Unit {0}) (n : NextSpec) → Within size (next_spec_node n)
    → Holds size false (define_next_spec region u n)
unfolding define_next_spec
define_next_spec-holds region u n n-in = define_spec-holds region n.spec n-in.1

mutual
  pub define_bounds-holds : {size : ℕ} (region : ℕ) (t : FormalTypeTree) → Within size (formal_type_node t) → Holds size false (define_bounds region t)
  define_bounds-holds region (tree.a_formal_name n) t-in = give-holds tt
  define_bounds-holds region (tree.a_schema s) t-in = define_schema-holds region s t-in

  define_schema-holds : {size : ℕ} (region : ℕ) (s : SchemaTree) → Within size (schema_node s) → Holds size false (define_schema region s)
  define_schema-holds region (tree.a_packed_schema p) s-in = define_spec-holds region p.spec s-in.1.1.1.0
  define_schema-holds region (tree.an_unpacked_schema word left specs right of_word component) s-in =
      bind-holds (define_spec-holds region specs.first s-in.1.1.0.0) (λ _.
      bind-holds (each-holds (define_next_spec region) next_spec_node (λ a x h. define_next_spec-holds region a x h) tt specs.others s-in.1.1.0.1)
      (λ _. define_bounds-holds region component s-in.1.1.1.1.1))

-- ---- what they are

open_spec-holds : {size : ℕ} (frame level slot at : ℕ) (s : Spec) → Within size (spec_node s) → Holds size false (open_spec frame level slot at s)
unfolding open_spec
open_spec-holds frame level slot at s s-in = bind-holds (named_type-holds frame s.of s-in.1.1.1.1) (λ t.
    bind-holds (ordinal-holds s.of s.of t s-in.1.1.1.1) (λ index. bind-holds (put-holds s.least (bound_row level index at)) (λ _.
    bind-holds (put-holds s.greatest (bound_row level index (frame_capped (at + 1)))) (λ _.
    give-holds (record { slot = slot; index = index; place = at })))))

close_spec-holds : {size : ℕ} {later : Bool} (packed : Bool) (s : OpenSpec) (component : ℕ) → Holds size later (close_spec packed s component)
unfolding close_spec
close_spec-holds packed s component = put-holds s.slot (Row.Type (TypeRow.Conformant packed s.index component s.place))

next_spec-holds : {size : ℕ} (frame level : ℕ) (s : OpenSpec) (n : NextSpec) → Within size (next_spec_node n) → Holds size false (next_spec frame level s n)
unfolding next_spec
next_spec-holds frame level s n n-in = bind-holds (close_spec-holds false s n.semicolon) (λ _.
    open_spec-holds frame level n.semicolon (after_bounds s) n.spec n-in.1)

mutual
  pub formal_type-holds : {size : ℕ} (frame level at : ℕ) (t : FormalTypeTree) → Within size (formal_type_node t)
      → Holds size false (formal_type frame level at t)
  formal_type-holds frame level at (tree.a_formal_name n) t-in = bind-holds (named_type-holds frame n t-in) (λ t. give-holds (record { of = t; place = at }))
  formal_type-holds frame level at (tree.a_schema s) t-in = schema_type-holds frame level at s t-in

  schema_type-holds : {size : ℕ} (frame level at : ℕ) (s : SchemaTree) → Within size (schema_node s) → Holds size false (schema_type frame level at s)
  schema_type-holds frame level at (tree.a_packed_schema p) s-in = bind-holds (open_spec-holds frame level p.«open» at p.spec s-in.1.1.1.0) (λ s.
      bind-holds (named_type-holds frame p.component s-in.1.1.1.1.1.1) (λ component. bind-holds (close_spec-holds true s component) (λ _.
      give-holds (record { of = p.«open»; place = after_bounds s }))))
  schema_type-holds frame level at (tree.an_unpacked_schema word left specs right of_word component) s-in =
      bind-holds (open_spec-holds frame level left at specs.first s-in.1.1.0.0) (λ first.
      bind-holds (each-holds (next_spec frame level) next_spec_node (λ a x h. next_spec-holds frame level a x h) first specs.others s-in.1.1.0.1)
      (λ last. bind-holds (formal_type-holds frame level (after_bounds last) component s-in.1.1.1.1.1) (λ c.
      bind-holds (close_spec-holds false last c.of) (λ _. give-holds (record { of = left; place = c.place })))))
