-- Of which type a row gives a value, and that this type is there at the end.
use Rattle.std.proofs.Common.{if◌then◌else◌, ◌<◌, ◌∙◌, ◌≡◌, ◌≤◌, ◌⊎◌, ℕ, ℤ, Bool, None, Option, Some, ap, false, inl, inr, is_some, length, nat_eq, refl, subst}
use Rattle.std.proofs.{Common.suc, Common.sym, Common.true, lemmas.Option.none-some, lemmas.Option.same_Some}
use Rattle.core_program.specs.{Headings.signature_in, ProgramRows.ProgramRows, ProgramRows.routine_at, declared.rows.ExpressionRow.ExpressionRow}
use Rattle.core_program.specs.WholeTables.{AccessFits, RowFits, WholeTables, is_ordinal_type, is_scalar_row, signature_of, type_accessed}
use Rattle.core_program.specs.declared.rows.{AccessRow.AccessRow, NameRow.NameRow, PartRow.PartRow, Required.Required, Row.Row, TypeRow.TypeRow}
use Rattle.check_steps.specs.{Headings.signature_in as found_in_row, Known.Known, Known.row_at, Known.type_at, Known.with_row}
use Rattle.kind_checker.specs.{Headings.signature_at as found_signature, Shapes.shape_in, Shapes.shape_of, Shapes.string_length, Shapes.text_or}
use Rattle.kind_checker.specs.Operators.{is_operand, is_ordinal, is_unknown_shape, operation_row, operation_type}
use Rattle.kind_checker.specs.declared.{constants.ConstantValue.ConstantValue, operators.Operation.Operation}
use Rattle.kind_checker.specs.declared.shapes.{ExpressionType.ExpressionType, Shape.Shape}
use Rattle.expression_checker.specs.{Operations.type_if, Typed.constant_row, Typed.constant_type}
use Rattle.expression_checker.specs.Callees.{declared_type, designator_row, designator_type, host_type, is_function, required_row, required_type}
use Rattle.expression_checker.specs.declared.{callees.Callee.Callee, typed.Location.Location, typed.Typed.Typed}
use Rattle.rule_laws.proofs.{Faces.face, Faces.loose, Faces.said, NamesFound.Ahead, NamesFound.heading_said, Settled.Checked, Settled.Settled, Stood.Stood}
use Rattle.rule_laws.proofs.ExpressionRows.{IsCallee, put_there, routine_type}
use Rattle.rule_laws.proofs.SelectorTypes.{access_there, host_some, no_string, result_some, type_fits}
use Rattle.rule_laws.specs.TextCases.{result_told, type_told}

-- ---- rows

-- an expression or an access
abbrev pub is_given : Row → Bool
is_given (Row.Expression e) = true
is_given (Row.Access a) = true
is_given r = false

given_face : (r : Row) → is_given (face loose r) ≡ is_given r
given_face (Row.Name (NameRow.Label marked value level ways)) = refl
given_face (Row.Name (NameRow.Routine assigned number region)) = refl
given_face (Row.Name n) = refl
given_face (Row.Item i) = refl
given_face r = refl

given_seen : (r : Row) → is_given r ≡ true → face loose r ≡ r
given_seen (Row.Expression e) given = refl
given_seen (Row.Access a) given = refl
given_seen r given = absurd (let never : false ≡ true = given in cc)

pub scalar_given : (p : ProgramRows) (r : Row) → is_scalar_row p r ≡ true → is_given r ≡ true
scalar_given p (Row.Expression e) fits = refl
scalar_given p (Row.Access a) fits = refl
scalar_given p r fits = absurd (let never : false ≡ true = fits in cc)

-- ---- types at the end

-- whole tables at the end of a check, with the types Boolean and char
pub record World : Type 0 where
  pub y : Checked
  pub whole : WholeTables y.f.program
  pub few : length y.k.words ≤ length y.f.program.rows
  pub boolean : is_some (type_at y.f 1) ≡ true
  pub char : is_some (type_at y.f 2) ≡ true

pub integer_there : (w : World) → is_some (type_at w.y.f 0) ≡ true
integer_there w = ap is_some w.whole.integer

abbrev pub IsThere : Known → ExpressionType → Type 0
IsThere f ExpressionType.Unknown = ⊥
IsThere f (ExpressionType.Of t) = is_some (type_at f t) ≡ true
IsThere f of' = Unit {0}

-- an ordinal one
abbrev pub IsOrdinalThere : Known → ExpressionType → Type 0
IsOrdinalThere f (ExpressionType.Of t) = is_ordinal_type (type_at f t) ≡ true
IsOrdinalThere f of' = ⊥

-- the type of what a row gives is there, and is the one that the row tells
pub record Fits (f : Known) (r : Row) (of' : ExpressionType) : Type 0 where
  pub there : IsThere f of'
  pub told : (t : ℕ) → type_told f.program r ≡ Some t → of' ≡ ExpressionType.Of t

-- so it is where the row stands at the end
pub record Fine (f : Known) (v : Typed) : Type 0 where
  pub fits : is_given (row_at f v.row) ≡ true → Fits f (row_at f v.row) v.of

fits_is : (f : Known) (r : Row) (of' : ExpressionType) (t : ℕ) → of' ≡ ExpressionType.Of t → is_some (type_at f t) ≡ true → type_told f.program r ≡ Some t
    → Fits f r of'
fits_is f r of' t is there told = record {
  there = subst (IsThere f) (sym is) there;
  told = λ u e. is ∙ ap (λ n. ExpressionType.Of n) (same_Some t u (sym told ∙ e));
}

pub fits_untold : (f : Known) (r : Row) (of' : ExpressionType) → IsThere f of' → type_told f.program r ≡ None → Fits f r of'
fits_untold f r of' there none = record { there = there; told = λ u e. absurd (none-some u (sym none ∙ e)) }

-- ---- a row that is put

put_is : (f : Known) (n : ℕ) (r x : Row) → is_given (row_at f n) ≡ true → face loose (row_at f n) ≡ face loose x → (x ≡ r) ⊎ (x ≡ Row.Nothing)
    → (row_at f n ≡ r) × (is_given r ≡ true)
put_is f n r x given same (inl e) =
    let there : is_given r ≡ true = ap is_given (sym e) ∙ sym (given_face x) ∙ ap is_given (sym same) ∙ given_face (row_at f n) ∙ given in
    (sym (given_seen (row_at f n) given) ∙ same ∙ ap (face loose) e ∙ given_seen r there, there)
put_is f n r x given same (inr e) = absurd (
    let never : true ≡ false = sym given ∙ sym (given_face (row_at f n)) ∙ ap is_given same ∙ given_face x ∙ ap is_given e in cc)

-- what a step gives that puts a row
pub put_fine : (w : World) (Q : ℕ → Type 0) (k : Known) (n : ℕ) (r : Row) (of' : ExpressionType) (l : Location) → Q n → suc n < length w.y.k.words
    → (RowFits w.y.f.program n r → is_given r ≡ true → Fits w.y.f r of') → Settled w.y Q (with_row k n r)
    → Fine w.y.f (record { row = n; of = of'; location = l })
put_fine w Q k n r of' l here low fits s = record {
  fits = λ given.
      let p = put_is w.y.f n r (row_at (with_row k n r) n) given (s.rows n here low) (put_there k n r) in
      subst (λ x. Fits w.y.f x of') (sym p.0) (fits (subst (λ x. RowFits w.y.f.program n x) p.0 (w.whole.rows n)) p.1);
}

-- ---- accesses and constants

pub access_fits : (w : World) (n : ℕ) (a : AccessRow) (of' : ℕ) → type_accessed a ≡ of' → AccessFits w.y.f.program n a
    → Fits w.y.f (Row.Access a) (ExpressionType.Of of')
access_fits w n a of' is fits = fits_is w.y.f (Row.Access a) (ExpressionType.Of of') of' refl
    (subst (λ t. is_some (type_at w.y.f t) ≡ true) is (access_there w.y.f.program n a fits)) (ap Some is)

-- the type of a constant is there
abbrev pub IsValued : Known → Option ConstantValue → Type 0
IsValued f (Some (ConstantValue.Ordinal of' v)) = is_some (type_at f of') ≡ true
IsValued f v = Unit {0}

pub constant_fits : (f k : Known) (v : Option ConstantValue) → IsValued f v → is_given (constant_row v) ≡ true → Fits f (constant_row v) (constant_type k v)
constant_fits f k None valued given = absurd (let never : false ≡ true = given in cc)
constant_fits f k (Some (ConstantValue.Ordinal of' v)) valued given =
    fits_untold f (Row.Expression (ExpressionRow.Constant v)) (ExpressionType.Of of') valued refl
constant_fits f k (Some (ConstantValue.Text token)) valued given =
    fits_untold f (Row.Expression (ExpressionRow.Text token)) (constant_type k (Some (ConstantValue.Text token))) tt refl

constant_said : (r : Row) (of' : ℕ) (v : ℤ) → said r ≡ Row.Name (NameRow.Constant of' v) → r ≡ Row.Name (NameRow.Constant of' v)
constant_said (Row.Type t) of' v e = absurd cc
constant_said (Row.Name (NameRow.Constant o u)) of' v e = e
constant_said (Row.Name (NameRow.Text token)) of' v e = absurd cc
constant_said (Row.Name (NameRow.Routine assigned number region)) of' v e = absurd cc
constant_said (Row.Name (NameRow.Label marked value level ways)) of' v e = absurd cc
constant_said (Row.Part (PartRow.Completing first)) of' v e = absurd cc
constant_said (Row.Part (PartRow.Heading name sections result)) of' v e = absurd cc
constant_said r of' v e = absurd cc

ordinal_some : (o : Option TypeRow) → is_ordinal_type o ≡ true → is_some o ≡ true
ordinal_some None e = absurd (let never : false ≡ true = e in cc)
ordinal_some (Some t) e = refl

-- the type of a constant whose row stands in tables before
pub constant_there : (w : World) (j : Known) → Stood w.y.f j → (n of' : ℕ) (v : ℤ) → row_at j n ≡ Row.Name (NameRow.Constant of' v)
    → is_some (type_at w.y.f of') ≡ true
constant_there w j stood n of' v e = elim (stood.of n) [
  | inl none ↦ absurd (let never : Row.Name (NameRow.Constant of' v) ≡ Row.Nothing = sym (ap said e) ∙ none in cc)
  | inr same ↦ ordinal_some (type_at w.y.f of')
      (subst (λ x. RowFits w.y.f.program n x) (constant_said (row_at w.y.f n) of' v (same ∙ ap said e)) (w.whole.rows n))
]

-- ---- operators

pub operation_fits : (w : World) (o : Option Operation) (l r : ℕ) → is_given (operation_row o l r) ≡ true
    → Fits w.y.f (operation_row o l r) (operation_type o)
operation_fits w None l r given = absurd (let never : false ≡ true = given in cc)
operation_fits w (Some (Operation.Arithmetic o)) l r given = fits_is w.y.f _ _ 0 refl (integer_there w) refl
operation_fits w (Some (Operation.Sets o host packing)) l r given = fits_untold w.y.f _ _ tt refl
operation_fits w (Some (Operation.Logic o)) l r given = fits_is w.y.f _ _ 1 refl w.boolean refl
operation_fits w (Some (Operation.Compare o)) l r given = fits_is w.y.f _ _ 1 refl w.boolean refl
operation_fits w (Some (Operation.CompareTexts o)) l r given = fits_is w.y.f _ _ 1 refl w.boolean refl
operation_fits w (Some (Operation.CompareSets o)) l r given = fits_is w.y.f _ _ 1 refl w.boolean refl
operation_fits w (Some (Operation.ComparePointers equal)) l r given = fits_is w.y.f _ _ 1 refl w.boolean refl
operation_fits w (Some Operation.In) l r given = fits_is w.y.f _ _ 1 refl w.boolean refl

-- a type that is there is known
text_known : (t : ℕ) (o : Option ℕ) → is_unknown_shape (text_or t o) ≡ false
text_known t (Some n) = refl
text_known t None = refl

row_known : (j : Known) (t : ℕ) (o : Option TypeRow) → is_some o ≡ true → is_unknown_shape (shape_in j t o) ≡ false
row_known j t None some = absurd (let never : false ≡ true = some in cc)
row_known j t (Some (TypeRow.Ordinal least greatest)) some = refl
row_known j t (Some (TypeRow.Subrange host least greatest)) some = refl
row_known j t (Some (TypeRow.Set packed base)) some = refl
row_known j t (Some (TypeRow.Pointer domain)) some = refl
row_known j t (Some (TypeRow.Array packed index component cells)) some = text_known t (string_length j packed index component)
row_known j t (Some (TypeRow.Conformant packed index component place)) some = refl
row_known j t (Some (TypeRow.Record packed region cells variants)) some = refl

pub shape_known : (f j : Known) → Ahead f j → (of' : ExpressionType) → IsThere f of' → is_unknown_shape (shape_of j of') ≡ false
shape_known f j a ExpressionType.Unknown there = absurd there
shape_known f j a (ExpressionType.Of t) there = row_known j t (type_at j t) (ap is_some (a.types t there) ∙ there)
shape_known f j a ExpressionType.Nil there = refl
shape_known f j a (ExpressionType.Set host packing) there = refl
shape_known f j a (ExpressionType.Text length) there = refl

if_host : (b : Bool) (host : ℕ) → b ≡ true → (if b then ExpressionType.Of host else ExpressionType.Unknown) ≡ ExpressionType.Of host
if_host true host e = refl
if_host false host e = absurd (let never : false ≡ true = e in cc)

-- the operand of a sign, or of not, that fits and is known
pub operand_host : (host : ℕ) (s : Shape) → is_unknown_shape s ≡ false → is_operand host s ≡ true → type_if host s ≡ ExpressionType.Of host
operand_host host Shape.Unknown known fits = absurd (let never : true ≡ false = known in cc)
operand_host host (Shape.Ordinal h) known fits = if_host (nat_eq h host) host fits
operand_host host s known fits = absurd (let never : false ≡ true = fits in cc)

pub not_fits : (w : World) (j : Known) → Ahead w.y.f j → (row : ℕ) (of' : ExpressionType) → IsThere w.y.f of' → is_operand 1 (shape_of j of') ≡ true
    → Fits w.y.f (Row.Expression (ExpressionRow.Not row)) (type_if 1 (shape_of j of'))
not_fits w j a row of' there fits =
    fits_is w.y.f _ _ 1 (operand_host 1 (shape_of j of') (shape_known w.y.f j a of' there) fits) w.boolean refl

pub sign_fits : (w : World) (j : Known) → Ahead w.y.f j → (minus : Bool) (row : ℕ) (of' : ExpressionType) → IsThere w.y.f of'
    → is_operand 0 (shape_of j of') ≡ true → Fits w.y.f (Row.Expression (ExpressionRow.Sign minus row)) (type_if 0 (shape_of j of'))
sign_fits w j a minus row of' there fits =
    fits_is w.y.f _ _ 0 (operand_host 0 (shape_of j of') (shape_known w.y.f j a of' there) fits) (integer_there w) refl

-- ---- ordinals

ordinal_row : (j : Known) (t : ℕ) (o : Option TypeRow) → is_some o ≡ true → is_ordinal (shape_in j t o) ≡ true → is_ordinal_type o ≡ true
ordinal_row j t None some e = absurd (let never : false ≡ true = some in cc)
ordinal_row j t (Some (TypeRow.Ordinal least greatest)) some e = refl
ordinal_row j t (Some (TypeRow.Subrange host least greatest)) some e = refl
ordinal_row j t (Some (TypeRow.Set packed base)) some e = absurd (let never : false ≡ true = e in cc)
ordinal_row j t (Some (TypeRow.Pointer domain)) some e = absurd (let never : false ≡ true = e in cc)
ordinal_row j t (Some (TypeRow.Array packed index component cells)) some e = absurd (no_string t (string_length j packed index component) e)
ordinal_row j t (Some (TypeRow.Conformant packed index component place)) some e = absurd (let never : false ≡ true = e in cc)
ordinal_row j t (Some (TypeRow.Record packed region cells variants)) some e = absurd (let never : false ≡ true = e in cc)

pub ordinal_there : (f j : Known) → Ahead f j → (of' : ExpressionType) → IsThere f of' → is_ordinal (shape_of j of') ≡ true → IsOrdinalThere f of'
ordinal_there f j a ExpressionType.Unknown there e = absurd there
ordinal_there f j a (ExpressionType.Of t) there e =
    ap is_ordinal_type (sym (a.types t there)) ∙ ordinal_row j t (type_at j t) (ap is_some (a.types t there) ∙ there) e
ordinal_there f j a ExpressionType.Nil there e = absurd (let never : false ≡ true = e in cc)
ordinal_there f j a (ExpressionType.Set host packing) there e = absurd (let never : false ≡ true = e in cc)
ordinal_there f j a (ExpressionType.Text length) there e = absurd (let never : false ≡ true = e in cc)

host_row : (w : World) (j : Known) (t : ℕ) (o : Option TypeRow) → type_at w.y.f t ≡ o → is_ordinal_type o ≡ true → IsThere w.y.f (host_type (shape_in j t o))
host_row w j t None is e = absurd (let never : false ≡ true = e in cc)
host_row w j t (Some (TypeRow.Ordinal least greatest)) is e = ap is_some is
host_row w j t (Some (TypeRow.Subrange host least greatest)) is e =
    host_some (type_at w.y.f host) (type_fits w.y.f.program w.whole t (TypeRow.Subrange host least greatest) is)
host_row w j t (Some u) is e = absurd (let never : false ≡ true = e in cc)

host_there_is : (w : World) (j : Known) → Ahead w.y.f j → (of' : ExpressionType) → IsOrdinalThere w.y.f of' → IsThere w.y.f (host_type (shape_of j of'))
host_there_is w j a (ExpressionType.Of t) there =
    subst (λ o. IsThere w.y.f (host_type (shape_in j t o))) (sym (a.types t (ordinal_some (type_at w.y.f t) there)))
    (host_row w j t (type_at w.y.f t) refl there)
host_there_is w j a of' there = absurd there

-- ---- functions

-- the result type of a heading at the end
pub record HasResult (f : Known) (heading : ℕ) : Type 0 where
  pub name : ℕ
  pub sections : ℕ
  pub result : ℕ
  pub is : row_at f heading ≡ Row.Part (PartRow.Heading name sections (Some result))

abbrev pub Calls : Known → Callee → Type 0
Calls f (Callee.Routine number levels heading) = HasResult f heading × IsCallee f (Callee.Routine number levels heading)
Calls f (Callee.Formal formal levels heading) = HasResult f heading × IsCallee f (Callee.Formal formal levels heading)
Calls f c = Unit {0}

heading_by : (f j : Known) → Stood f j → (heading : ℕ) (r : Row) → row_at j heading ≡ r → is_some (found_in_row r).result ≡ true → HasResult f heading
heading_by f j stood heading (Row.Part (PartRow.Heading name sections (Some t))) e some = elim (stood.of heading) [
  | inl none ↦ absurd (let never : Row.Part (PartRow.Heading name sections (Some t)) ≡ Row.Nothing = sym (ap said e) ∙ none in cc)
  | inr same ↦ record {
    name = name;
    sections = sections;
    result = t;
    is = heading_said (row_at f heading) name sections (Some t) (same ∙ ap said e);
  }
]
heading_by f j stood heading (Row.Part (PartRow.Heading name sections None)) e some = absurd (let never : false ≡ true = some in cc)
heading_by f j stood heading r e some = absurd (let never : false ≡ true = some in cc)

pub calls_by : (f j : Known) → Stood f j → (c : Callee) → is_function j c ≡ true → IsCallee f c → Calls f c
calls_by f j stood (Callee.Routine number levels heading) fine is = (heading_by f j stood heading (row_at j heading) refl fine, is)
calls_by f j stood (Callee.Formal formal levels heading) fine is = (heading_by f j stood heading (row_at j heading) refl fine, is)
calls_by f j stood c fine is = tt

-- succ and pred take an ordinal
abbrev pub Takes : Known → Callee → Typed → Type 0
Takes f (Callee.Required Required.Succ) v = is_given (row_at f v.row) ≡ true → IsOrdinalThere f v.of
Takes f (Callee.Required Required.Pred) v = is_given (row_at f v.row) ≡ true → IsOrdinalThere f v.of
Takes f c v = Unit {0}

required_fits : (w : World) (k : Known) → Ahead w.y.f k → (r : Required) (v : Typed) → Takes w.y.f (Callee.Required r) v → (n : ℕ)
    → RowFits w.y.f.program n (required_row k r v) → is_given (required_row k r v) ≡ true
    → Fits w.y.f (required_row k r v) (required_type r (shape_of k v.of))
required_fits w k a Required.Abs v takes n fits given = fits_is w.y.f _ _ 0 refl (integer_there w) refl
required_fits w k a Required.Sqr v takes n fits given = fits_is w.y.f _ _ 0 refl (integer_there w) refl
required_fits w k a Required.Ord v takes n fits given = fits_is w.y.f _ _ 0 refl (integer_there w) refl
required_fits w k a Required.Odd v takes n fits given = fits_is w.y.f _ _ 1 refl w.boolean refl
required_fits w k a Required.Chr v takes n fits given = fits_is w.y.f _ _ 2 refl w.char refl
required_fits w k a Required.Succ v takes n fits given =
    fits_untold w.y.f _ _ (host_there_is w k a v.of (takes (scalar_given w.y.f.program (row_at w.y.f v.row) fits))) refl
required_fits w k a Required.Pred v takes n fits given =
    fits_untold w.y.f _ _ (host_there_is w k a v.of (takes (scalar_given w.y.f.program (row_at w.y.f v.row) fits))) refl
required_fits w k a Required.Eof v takes n fits given = fits_is w.y.f _ _ 1 refl w.boolean refl
required_fits w k a Required.Eoln v takes n fits given = fits_is w.y.f _ _ 1 refl w.boolean refl
required_fits w k a r v takes n fits given = absurd (let never : false ≡ true = given in cc)

result_is : (f k : Known) → Ahead f k → (heading : ℕ) (h : HasResult f heading)
    → declared_type (found_signature k heading).result ≡ ExpressionType.Of h.result
result_is f k a heading h = ap (λ r. declared_type (found_in_row r).result) (a.headings heading h.name h.sections (Some h.result) h.is)

result_there : (w : World) (heading : ℕ) (h : HasResult w.y.f heading) → is_some (type_at w.y.f h.result) ≡ true
result_there w heading h =
    result_some (type_at w.y.f h.result) ((subst (λ x. RowFits w.y.f.program heading x) h.is (w.whole.rows heading)).1 h.result refl)

pub designator_fits : (w : World) (k : Known) → Ahead w.y.f k → (c : Callee) → Calls w.y.f c → (v : Typed) → Takes w.y.f c v → (n actuals : ℕ)
    → RowFits w.y.f.program n (designator_row k c v actuals) → is_given (designator_row k c v actuals) ≡ true
    → Fits w.y.f (designator_row k c v actuals) (designator_type k c v)
designator_fits w k a (Callee.Required r) calls v takes n actuals fits given = required_fits w k a r v takes n fits given
designator_fits w k a (Callee.Routine number levels heading) calls v takes n actuals fits given = record {
  there = subst (IsThere w.y.f) (sym (result_is w.y.f k a heading calls.0)) (result_there w heading calls.0);
  told = λ t e. routine_type w.y.f k a (routine_at w.y.f.program number) heading calls.1 t e;
}
designator_fits w k a (Callee.Formal formal levels heading) calls v takes n actuals fits given =
    let p = w.y.f.program in
    let h = calls.0 in
    fits_is w.y.f _ _ h.result (result_is w.y.f k a heading h) (result_there w heading h)
    (ap (λ o. result_told (signature_of p o)) calls.1 ∙ ap (λ r. result_told (signature_in r)) h.is)
designator_fits w k a c calls v takes n actuals fits given = absurd (let never : false ≡ true = given in cc)
