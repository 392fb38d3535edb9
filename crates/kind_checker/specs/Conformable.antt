-- What conforms to the schema of a conformant parameter (6.6.3.8), and which actuals have one type (6.6.3.7.1).
use Rattle.std.specs.Prelude.{◌&&◌, ◌||◌, ℕ, Bool, None, Option, Some, false, is_none, length, nat_eq, suc, true, zero}
use Rattle.core_program.specs.Headings.{pair_fits, pair_if, same_packing}
use Rattle.core_program.specs.declared.rows.TypeRow.{TypeRow}
use Rattle.check_steps.specs.Known.{Known, type_at}
use Rattle.kind_checker.specs.{Operators.is_unknown_shape, declared.shapes.ExpressionType.ExpressionType}
use Rattle.kind_checker.specs.Shapes.{agree, is_same_type, shape_of}

-- whether a type is that of the array of a conformant parameter
abbrev pub is_conformant : Option TypeRow → Bool
is_conformant (Some (TypeRow.Conformant packed index component place)) = true
is_conformant t = false

-- the index type of an array is compatible with the type of a spec
abbrev pub indices_agree : Known → (index spec : ℕ) → Bool
indices_agree k index spec = agree (shape_of k (ExpressionType.Of index)) (shape_of k (ExpressionType.Of spec))

-- An array, of which this is known, fits the first spec of a schema: its index type is compatible with that of the
-- spec, and both are packed or neither is. Given are the component types of both.
abbrev pub fitted : Known → (packed : Bool) → (index component : ℕ) → Option TypeRow → Option (ℕ × ℕ)
fitted k packed index component (Some (TypeRow.Conformant p i c place)) =
    pair_if (same_packing packed p && indices_agree k index i) component c
fitted k packed index component t = None

abbrev pub components_fitted : Known → Option TypeRow → Option TypeRow → Option (ℕ × ℕ)
components_fitted k (Some (TypeRow.Array packed index component cells)) schema = fitted k packed index component schema
components_fitted k (Some (TypeRow.Conformant packed index component place)) schema =
    fitted k packed index component schema
components_fitted k t schema = None

-- An array type conforms to a schema, of which at most this many specs are looked at. The component type is that of the
-- schema, or conforms to the schema inside. A type of which nothing is known breaks no further rule.
abbrev pub conforms : ℕ → Known → (t schema : ℕ) → Bool
conforms zero k t schema = false
conforms (suc n) k t schema = is_none (type_at k t) || pair_fits (λ a c. is_same_type k a c || conforms n k a c)
    (components_fitted k (type_at k t) (type_at k schema))

-- A string of two characters or more counts as a packed array of characters by integers. One of one character is a
-- char, and conforms to nothing.
abbrev pub text_conforms : Known → Option TypeRow → Bool
text_conforms k (Some (TypeRow.Conformant packed index component place)) =
    packed && indices_agree k 0 index && is_same_type k 2 component
text_conforms k t = false

-- Whether a value of a type may be an actual where a schema stands. No schema has more specs than there are tokens.
abbrev pub is_conformable : Known → (schema : ℕ) → ExpressionType → Bool
is_conformable k schema ExpressionType.Unknown = true
is_conformable k schema (ExpressionType.Of t) = conforms (length k.words) k t schema
is_conformable k schema (ExpressionType.Text n) = text_conforms k (type_at k schema)
is_conformable k schema of' = false

-- ---- the one type of the actuals of a section

-- The type of an actual is that by which its section is measured. String constants of one length have one type among
-- themselves. A type that is unknown is the same as any.
abbrev pub is_one_type : (measure of' : ExpressionType) → Bool
is_one_type (ExpressionType.Of s) (ExpressionType.Of t) = nat_eq s t
is_one_type (ExpressionType.Text m) (ExpressionType.Text n) = nat_eq m n
is_one_type measure of' = false

abbrev pub is_unknown : Known → ExpressionType → Bool
is_unknown k of' = is_unknown_shape (shape_of k of')

abbrev pub is_measured : Known → (measure of' : ExpressionType) → Bool
is_measured k measure of' = is_unknown k measure || is_unknown k of' || is_one_type measure of'

abbrev pub measure_or : Bool → (measure of' : ExpressionType) → ExpressionType
measure_or true measure of' = of'
measure_or false measure of' = measure

-- A section is measured by the first of its actuals of which the type is known.
abbrev pub measure_after : Known → (measure of' : ExpressionType) → ExpressionType
measure_after k measure of' = measure_or (is_unknown k measure) measure of'
