-- What the steps of `Rattle.denoter_checker.specs.Schemas` leave as it was.
use Rattle.std.proofs.Common.{◌+◌, ℕ, Bool, false, refl, true}
use Rattle.pas_tree.specs.{BlockTrees.RoutineTree, SchemaTrees.FormalTypeTree, SchemaTrees.SchemaTree}
use Rattle.pas_tree.specs.SchemaTrees as tree
use Rattle.pas_tree.specs.declared.schemas.{NextSpec.NextSpec, Spec.Spec}
use Rattle.core_program.specs.declared.rows.{Row.Row, TypeRow.TypeRow}
use Rattle.check_steps.specs.Known.{Known}
use Rattle.kind_checker.specs.{Sizes.frame_capped, declared.names.NameKind.NameKind}
use Rattle.denoter_checker.specs.{Schemas.next_spec, Schemas.open_spec, Schemas.schema_type, declared.schemas.OpenSpec.OpenSpec}
use Rattle.denoter_checker.specs.Schemas.{after_bounds, bound_row, close_spec, define_bounds, define_next_spec, define_schema, define_spec, formal_type}
use Rattle.rule_laws.proofs.{Keeping.Keeps, Keeping.bind-keeps, Keeping.give-keeps, Lasting.Lasting, Lasting.each-lasts, Lasting.put-lasts}
use Rattle.rule_laws.proofs.{LastsNameLists.define_name-lasts, LastsTypes.named_type-lasts, LastsTypes.ordinal-lasts}

-- ---- bounds as names

pub define_spec-lasts : {G : RoutineTree → Type 0} {I : Known → Type 0} (kept : Lasting G I) (region : ℕ) (s : Spec) → Keeps I (define_spec region s)
unfolding define_spec
define_spec-lasts kept region s =
    bind-keeps (define_name-lasts kept region NameKind.Formal tt s.least) (λ _. define_name-lasts kept region NameKind.Formal tt s.greatest)

pub define_next_spec-lasts : {G : RoutineTree → Type 0} {I : Known → Type 0} (kept : Lasting G I) (region : ℕ) (u : Unit {0}) (n : NextSpec)
    → Keeps I (define_next_spec region u n)
unfolding define_next_spec
define_next_spec-lasts kept region u n = define_spec-lasts kept region n.spec

mutual
  pub define_bounds-lasts : {G : RoutineTree → Type 0} {I : Known → Type 0} (kept : Lasting G I) (region : ℕ) (t : FormalTypeTree)
      → Keeps I (define_bounds region t)
  define_bounds-lasts kept region (tree.a_formal_name n) = give-keeps tt
  define_bounds-lasts kept region (tree.a_schema s) = define_schema-lasts kept region s

  pub define_schema-lasts : {G : RoutineTree → Type 0} {I : Known → Type 0} (kept : Lasting G I) (region : ℕ) (s : SchemaTree)
      → Keeps I (define_schema region s)
  define_schema-lasts kept region (tree.a_packed_schema p) = define_spec-lasts kept region p.spec
  define_schema-lasts kept region (tree.an_unpacked_schema word left specs right of_word component) =
      bind-keeps (define_spec-lasts kept region specs.first) (λ _.
      bind-keeps (each-lasts (define_next_spec region) (λ u n. define_next_spec-lasts kept region u n) tt specs.others)
      (λ _. define_bounds-lasts kept region component))

-- ---- what bounds and arrays are

pub open_spec-lasts : {G : RoutineTree → Type 0} {I : Known → Type 0} (kept : Lasting G I) (frame level slot at : ℕ) (s : Spec)
    → Keeps I (open_spec frame level slot at s)
unfolding open_spec
open_spec-lasts kept frame level slot at s = bind-keeps (named_type-lasts kept frame s.of) (λ t. bind-keeps (ordinal-lasts kept s.of s.of t) (λ index.
    bind-keeps (put-lasts kept s.least (bound_row level index at) refl) (λ _.
    bind-keeps (put-lasts kept s.greatest (bound_row level index (frame_capped (at + 1))) refl) (λ _.
    give-keeps (record { slot = slot; index = index; place = at })))))

pub close_spec-lasts : {G : RoutineTree → Type 0} {I : Known → Type 0} (kept : Lasting G I) (packed : Bool) (s : OpenSpec) (component : ℕ)
    → Keeps I (close_spec packed s component)
unfolding close_spec
close_spec-lasts kept packed s component = put-lasts kept s.slot (Row.Type (TypeRow.Conformant packed s.index component s.place)) refl

pub next_spec-lasts : {G : RoutineTree → Type 0} {I : Known → Type 0} (kept : Lasting G I) (frame level : ℕ) (s : OpenSpec) (n : NextSpec)
    → Keeps I (next_spec frame level s n)
unfolding next_spec
next_spec-lasts kept frame level s n =
    bind-keeps (close_spec-lasts kept false s n.semicolon) (λ _. open_spec-lasts kept frame level n.semicolon (after_bounds s) n.spec)

mutual
  pub formal_type-lasts : {G : RoutineTree → Type 0} {I : Known → Type 0} (kept : Lasting G I) (frame level at : ℕ) (t : FormalTypeTree)
      → Keeps I (formal_type frame level at t)
  formal_type-lasts kept frame level at (tree.a_formal_name n) =
      bind-keeps (named_type-lasts kept frame n) (λ t. give-keeps (record { of = t; place = at }))
  formal_type-lasts kept frame level at (tree.a_schema s) = schema_type-lasts kept frame level at s

  pub schema_type-lasts : {G : RoutineTree → Type 0} {I : Known → Type 0} (kept : Lasting G I) (frame level at : ℕ) (s : SchemaTree)
      → Keeps I (schema_type frame level at s)
  schema_type-lasts kept frame level at (tree.a_packed_schema p) = bind-keeps (open_spec-lasts kept frame level p.«open» at p.spec) (λ s.
      bind-keeps (named_type-lasts kept frame p.component) (λ component. bind-keeps (close_spec-lasts kept true s component) (λ _.
      give-keeps (record { of = p.«open»; place = after_bounds s }))))
  schema_type-lasts kept frame level at (tree.an_unpacked_schema word left specs right of_word component) =
      bind-keeps (open_spec-lasts kept frame level left at specs.first) (λ first.
      bind-keeps (each-lasts (next_spec frame level) (λ s n. next_spec-lasts kept frame level s n) first specs.others) (λ last.
      bind-keeps (formal_type-lasts kept frame level (after_bounds last) component) (λ c.
      bind-keeps (close_spec-lasts kept false last c.of) (λ _. give-keeps (record { of = left; place = c.place })))))
