-- What the steps of `Rattle.denoter_checker.specs.Schemas` break.
use Rattle.std.proofs.Common.{◌+◌, ℕ, Bool, false, true}
use Rattle.pas_tree.specs.{SchemaTrees.FormalTypeTree, SchemaTrees.SchemaTree, declared.schemas.NextSpec.NextSpec, declared.schemas.Spec.Spec}
use Rattle.pas_tree.specs.SchemaTrees as tree
use Rattle.core_program.specs.declared.rows.{Row.Row, TypeRow.TypeRow}
use Rattle.kind_checker.specs.Sizes.{frame_capped}
use Rattle.denoter_checker.specs.Schemas.{after_bounds, bound_row, close_spec, formal_type, next_spec, open_spec, schema_type}
use Rattle.denoter_checker.specs.declared.schemas.OpenSpec.{OpenSpec}
use Rattle.rule_laws.proofs.Plain.{Aim, Plain, Solely, bind-solely, each-plain, give-solely, put-plain}
use Rattle.rule_laws.proofs.PlainTypes.{named_type-plain, ordinal-plain}

-- ---- bounds as names

-- ---- what bounds and arrays are

pub open_spec-plain : {aim : Aim} (kept : Plain aim) (frame level slot at : ℕ) (s : Spec)
    → Solely aim (open_spec frame level slot at s)
unfolding open_spec
open_spec-plain kept frame level slot at s = bind-solely (named_type-plain kept frame s.of) (λ t. bind-solely (ordinal-plain kept s.of s.of t) (λ index.
    bind-solely (put-plain kept s.least (bound_row level index at)) (λ _.
    bind-solely (put-plain kept s.greatest (bound_row level index (frame_capped (at + 1)))) (λ _.
    give-solely (record { slot = slot; index = index; place = at })))))

pub close_spec-plain : {aim : Aim} (kept : Plain aim) (packed : Bool) (s : OpenSpec) (component : ℕ)
    → Solely aim (close_spec packed s component)
unfolding close_spec
close_spec-plain kept packed s component = put-plain kept s.slot (Row.Type (TypeRow.Conformant packed s.index component s.place))

pub next_spec-plain : {aim : Aim} (kept : Plain aim) (frame level : ℕ) (s : OpenSpec) (n : NextSpec)
    → Solely aim (next_spec frame level s n)
unfolding next_spec
next_spec-plain kept frame level s n =
    bind-solely (close_spec-plain kept false s n.semicolon) (λ _. open_spec-plain kept frame level n.semicolon (after_bounds s) n.spec)

mutual
  pub formal_type-plain : {aim : Aim} (kept : Plain aim) (frame level at : ℕ) (t : FormalTypeTree)
      → Solely aim (formal_type frame level at t)
  formal_type-plain kept frame level at (tree.a_formal_name n) =
      bind-solely (named_type-plain kept frame n) (λ t. give-solely (record { of = t; place = at }))
  formal_type-plain kept frame level at (tree.a_schema s) = schema_type-plain kept frame level at s

  pub schema_type-plain : {aim : Aim} (kept : Plain aim) (frame level at : ℕ) (s : SchemaTree)
      → Solely aim (schema_type frame level at s)
  schema_type-plain kept frame level at (tree.a_packed_schema p) = bind-solely (open_spec-plain kept frame level p.«open» at p.spec) (λ s.
      bind-solely (named_type-plain kept frame p.component) (λ component. bind-solely (close_spec-plain kept true s component) (λ _.
      give-solely (record { of = p.«open»; place = after_bounds s }))))
  schema_type-plain kept frame level at (tree.an_unpacked_schema word left specs right of_word component) =
      bind-solely (open_spec-plain kept frame level left at specs.first) (λ first.
      bind-solely (each-plain (next_spec frame level) (λ s n. next_spec-plain kept frame level s n) first specs.others) (λ last.
      bind-solely (formal_type-plain kept frame level (after_bounds last) component) (λ c.
      bind-solely (close_spec-plain kept false last c.of) (λ _. give-solely (record { of = left; place = c.place })))))
