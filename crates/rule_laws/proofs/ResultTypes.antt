-- Of which type an access is in a function's block, inside of with statements.
use Rattle.std.proofs.Common.{◌<◌, ◌∙◌, ◌≡◌, ℕ, Bool, List, None, Option, Some, ap, length, refl, sym}
use Rattle.pas_tree.specs.ExpressionPlaces.{first_of_expression}
use Rattle.pas_tree.specs.ExpressionTrees.{AccessTree, ExpressionTree, ExpressionTrees, SelectorTree, SelectorTrees}
use Rattle.pas_tree.specs.ExpressionTrees as tree
use Rattle.pas_tree.specs.TreeNodes.{access_node, expression_node, expressions_node, selector_node, selectors_node}
use Rattle.core_program.specs.declared.rows.{NameRow.NameRow, Row.Row, TypeRow.TypeRow}
use Rattle.check_steps.specs.{Around.Falls, Names.usable, Names.use_again, Regions.RegionRows, Regions.defined_in}
use Rattle.check_steps.specs.Known.{Known, find, name_at, row_at}
use Rattle.check_steps.specs.Steps.{◌>>=◌, Step, ask, change, give, look}
use Rattle.check_steps.specs.declared.{regions.Definition.Definition, regions.Found.Found, words.SpelledToken.SpelledToken}
use Rattle.kind_checker.specs.declared.shapes.ExpressionType.{ExpressionType}
use Rattle.expression_checker.specs.{Selectors.selected_field, Selectors.type_row, declared.names.Meaning.Meaning, declared.typed.Typed.Typed}
use Rattle.expression_checker.specs.Expressions.{access, expression, indexed_by, more_indexes, selected, selector}
use Rattle.expression_checker.specs.Names.{accessed_as, meaning_in, meaning_of, variable}
use Rattle.expression_checker.specs.Selectors.{component_at, dereferenced, domain_at, field_access, field_defined, field_named, field_of_row, indexed}
use Rattle.rule_laws.proofs.{Every.Every, ExpressionNames.variable-touches, ExpressionSelectors.indexed-touches, Faces.assigning, Faces.face, Faces.loose}
use Rattle.rule_laws.proofs.{TokenPlaces.first_of_expression-in, Touches.Touches, Touches.bind-touches}
use Rattle.rule_laws.proofs.ExpressionExpressions.{expression-touches, selector-touches}
use Rattle.rule_laws.proofs.ResultScopes.{InRegion, IsLonger, Leads, defined, finds, named_defined, usable_alike}
use Rattle.rule_laws.proofs.ResultTurns.{IsSpot, Spot, Turn, beside, turn_after}
use Rattle.rule_laws.specs.{ResultLaws.IsApart, Tokens.Has}
use Rattle.rule_laws.specs.WithRecords.{access_type, closest, component_type, domain_type, field_type, more_components, named, part_type, selected_type}
use Rattle.rule_laws.specs.WithRecords.{type_defined, type_found, type_of_field, type_of_variable}

pub longer_of : (p : Spot) (is : IsSpot p) (seen : Bool) (j : Known) → Turn p is seen j → IsLonger p.k j
unfolding Falls
longer_of p is seen j t = record { regions = t.regions; frames = t.frames; falls = is.declared.falls }

pub named_alike : (p : Spot) (j : Known) (name : ℕ) → j.words ≡ p.k.words → name_at j name ≡ name_at p.k name
named_alike p j name words = ap (λ (ws : List SpelledToken). name_at (record p.k { words = ws }) name) words

pub types_same : (p : Spot) (is : IsSpot p) (seen : Bool) (j : Known) → Turn p is seen j → (x : ExpressionType) → type_row j x ≡ type_row p.k x
types_same p is seen j t (ExpressionType.Of n) = t.types n
types_same p is seen j t ExpressionType.Unknown = refl
types_same p is seen j t ExpressionType.Nil = refl
types_same p is seen j t (ExpressionType.Set host packing) = refl
types_same p is seen j t (ExpressionType.Text n) = refl

-- ---- rows of variables and fields

face_field : (k : Known) (r : Row) → type_of_field k (face loose r) ≡ type_of_field k r
face_field k (Row.Name (NameRow.Label marked value level ways)) = refl
face_field k (Row.Name (NameRow.Routine assigned number region)) = refl
face_field k (Row.Item i) = refl
face_field k r = refl

face_variable : (k : Known) (r : Row) → type_of_variable k (face loose r) ≡ type_of_variable k r
face_variable k (Row.Name (NameRow.Label marked value level ways)) = refl
face_variable k (Row.Name (NameRow.Routine assigned number region)) = refl
face_variable k (Row.Item i) = refl
face_variable k r = refl

field_row : (p : Spot) (is : IsSpot p) (seen : Bool) (j : Known) (n : ℕ) → Turn p is seen j → IsApart p.k p.part n
    → type_of_field p.k (row_at j n) ≡ type_of_field p.k (row_at p.k n)
field_row p is seen j n t a =
    sym (face_field p.k (row_at j n)) ∙ ap (type_of_field p.k) (t.rows n (beside p.k p.part n a)) ∙ face_field p.k (row_at p.k n)

variable_row : (p : Spot) (is : IsSpot p) (seen : Bool) (j : Known) (n : ℕ) → Turn p is seen j → IsApart p.k p.part n
    → type_of_variable p.k (row_at j n) ≡ type_of_variable p.k (row_at p.k n)
variable_row p is seen j n t a =
    sym (face_variable p.k (row_at j n)) ∙ ap (type_of_variable p.k) (t.rows n (beside p.k p.part n a)) ∙ face_variable p.k (row_at p.k n)

-- ---- the name of an access

abbrev type_meant : Meaning → ExpressionType
type_meant (Meaning.Variable r of' l) = ExpressionType.Of of'
type_meant m = ExpressionType.Unknown

accessed_of : (name : ℕ) (m : Meaning) (j : Known) → (accessed_as name m j).value.of ≡ type_meant m
unfolding ◌>>=◌ change give
accessed_of name (Meaning.Variable r of' l) j = refl
accessed_of name Meaning.Unknown j = refl
accessed_of name (Meaning.Constant v) j = refl
accessed_of name (Meaning.Bound r of') j = refl
accessed_of name Meaning.Other j = refl

row_typed : (k j : Known) (frame : ℕ) (f : Found) (r : Row) → type_row k (type_meant (meaning_in j frame f r)) ≡ type_of_variable k r
row_typed k j frame f (Row.Name (NameRow.Constant of' v)) = refl
row_typed k j frame f (Row.Name (NameRow.Text token)) = refl
row_typed k j frame f Row.Nothing = refl
row_typed k j frame f (Row.Name (NameRow.Variable m of' place level)) = refl
row_typed k j frame f (Row.Name (NameRow.Field of' offset holder)) = refl
row_typed k j frame f (Row.Name (NameRow.Tag of' offset holder variants)) = refl
row_typed k j frame f r = refl

-- by the definition alone
abbrev type_by : (k j : Known) → Option Definition → Option TypeRow
type_by k j None = None
type_by k j (Some d) = type_of_variable k (row_at j d.token)

meant_typed : (k j : Known) (frame : ℕ) (o : Option Found) → type_row k (type_meant (meaning_of j frame o)) ≡ type_by k j (defined o)
meant_typed k j frame None = refl
meant_typed k j frame (Some f) = row_typed k j frame f (row_at j f.definition.token)

found_typed : (p : Spot) (is : IsSpot p) (seen : Bool) (j : Known) → Turn p is seen j → (o : Option Found)
    → ((f : Found) → o ≡ Some f → InRegion p.k f.definition) → type_by p.k j (defined o) ≡ type_found p.k o
found_typed p is seen j t None there = refl
found_typed p is seen j t (Some f) there =
    let r = there f refl in
    variable_row p is seen j f.definition.token t (is.declared.definitions r.region r.name f.definition r.is)

pub names_alike : (p : Spot) (is : IsSpot p) (seen : Bool) (j : Known) → Turn p is seen j → (block : ℕ) → block < length p.k.frames → (records : List ℕ)
    (f name : ℕ) → Leads j.frames block records f → defined (usable name (find j f (name_at j name))) ≡ defined (named p.k block records name)
names_alike p is seen j t block below records f name leads =
    ap (λ n. defined (usable name (find j f n))) (named_alike p j name t.words)
    ∙ usable_alike name (find j f (name_at p.k name)) (closest p.k block records (name_at p.k name))
    (finds p.k j (longer_of p is seen j t) block below records f (name_at p.k name) leads)

variable_typed : (p : Spot) (is : IsSpot p) (seen : Bool) (j : Known) → Turn p is seen j → (block : ℕ) → block < length p.k.frames → (records : List ℕ)
    (f name : ℕ) → Leads j.frames block records f → type_row p.k (variable f name j).value.of ≡ type_found p.k (named p.k block records name)
unfolding variable use_again look ◌>>=◌ ask give
variable_typed p is seen j t block below records f name leads =
    let o = usable name (find j f (name_at j name)) in
    ap (type_row p.k) (accessed_of name (meaning_of j f o) j)
    ∙ meant_typed p.k j f o
    ∙ ap (type_by p.k j) (names_alike p is seen j t block below records f name leads)
    ∙ found_typed p is seen j t (named p.k block records name) (λ x e. named_defined p.k block records name (name_at p.k name) x e)

-- ---- selectors

record Typing (p : Spot) (is : IsSpot p) (t : Option TypeRow) (m : Step Typed) : Type 0 where
  of : (seen : Bool) (j : Known) → Turn p is seen j → type_row p.k (m j).value.of ≡ t

typing_then : (p : Spot) (is : IsSpot p) {t u : Option TypeRow} {m : Step Typed} {f : Typed → Step Typed} → Touches (Has p.part) assigning m
    → Typing p is t m → ((v : Typed) → type_row p.k v.of ≡ t → Typing p is u (f v)) → Typing p is u (m >>= f)
unfolding ◌>>=◌
typing_then p is {m = m} touches h g = record {
  of = λ seen j turn. let d = m j in (g d.value (h.of seen j turn)).of seen d.known (turn_after p is seen j d.known turn (touches.same j));
}

typing_after : (p : Spot) (is : IsSpot p) {u : Option TypeRow} {A : Type 0} {m : Step A} {f : A → Step Typed} → Touches (Has p.part) assigning m
    → ((x : A) → Typing p is u (f x)) → Typing p is u (m >>= f)
unfolding ◌>>=◌
typing_after p is {m = m} touches g = record {
  of = λ seen j turn. let d = m j in (g d.value).of seen d.known (turn_after p is seen j d.known turn (touches.same j));
}

component_typed : (k : Known) (t : Option TypeRow) (bracket : ℕ) → type_row k (component_at t bracket).of ≡ component_type k t
component_typed k None bracket = refl
component_typed k (Some (TypeRow.Array packed index component cells)) bracket = refl
component_typed k (Some (TypeRow.Conformant packed index component place)) bracket = refl
component_typed k (Some t) bracket = refl

indexed_typed : (p : Spot) (is : IsSpot p) (t : Option TypeRow) (v : Typed) (bracket first : ℕ) (i : Typed) → type_row p.k v.of ≡ t
    → Typing p is (component_type p.k t) (indexed v bracket first i)
unfolding indexed look ◌>>=◌ ask change give
indexed_typed p is t v bracket first i e = record {
  of = λ seen j turn. ap (λ r. type_row p.k (component_at r bracket).of) (types_same p is seen j turn v.of ∙ e) ∙ component_typed p.k t bracket;
}

domain_typed : (k : Known) (t : Option TypeRow) (caret : ℕ) → type_row k (domain_at t caret).of ≡ domain_type k t
domain_typed k None caret = refl
domain_typed k (Some (TypeRow.Pointer domain)) caret = refl
domain_typed k (Some t) caret = refl

dereferenced_typed : (p : Spot) (is : IsSpot p) (t : Option TypeRow) (v : Typed) (caret : ℕ) → type_row p.k v.of ≡ t
    → Typing p is (domain_type p.k t) (dereferenced v caret)
unfolding dereferenced look ◌>>=◌ ask change give
dereferenced_typed p is t v caret e = record {
  of = λ seen j turn. ap (λ r. type_row p.k (domain_at r caret).of) (types_same p is seen j turn v.of ∙ e) ∙ domain_typed p.k t caret;
}

field_row_typed : (k : Known) (packed : Bool) (name token : ℕ) (r : Row) → type_row k (field_access name (field_of_row packed token r)).of ≡ type_of_field k r
field_row_typed k packed name token (Row.Name (NameRow.Field of' offset holder)) = refl
field_row_typed k packed name token (Row.Name (NameRow.Tag of' offset holder variants)) = refl
field_row_typed k packed name token r = refl

field_typed : (p : Spot) (is : IsSpot p) (seen : Bool) (j : Known) → Turn p is seen j → (packed : Bool) (name : ℕ) (o : Option Definition)
    → ((d : Definition) → o ≡ Some d → IsApart p.k p.part d.token)
    → type_row p.k (field_access name (field_defined j packed o)).of ≡ type_defined p.k o
field_typed p is seen j t packed name None apart = refl
field_typed p is seen j t packed name (Some d) apart =
    field_row_typed p.k packed name d.token (row_at j d.token) ∙ field_row p is seen j d.token t (apart d refl)

fields_typed : (p : Spot) (is : IsSpot p) (seen : Bool) (j : Known) → Turn p is seen j → (t : Option TypeRow) (name : ℕ)
    → type_row p.k (field_access name (field_named j t name)).of ≡ field_type p.k t name
fields_typed p is seen j turn None name = refl
fields_typed p is seen j turn (Some (TypeRow.Record packed region cells variants)) name =
    ap (λ (rs : List RegionRows). type_row p.k (field_access name (field_defined j packed (defined_in rs region (name_at j name)))).of) turn.regions
    ∙ ap (λ n. type_row p.k (field_access name (field_defined j packed (defined_in p.k.regions region n))).of) (named_alike p j name turn.words)
    ∙ field_typed p is seen j turn packed name (defined_in p.k.regions region (name_at p.k name))
    (λ d e. is.declared.definitions region (name_at p.k name) d e)
fields_typed p is seen j turn (Some t) name = refl

selected_field_typed : (p : Spot) (is : IsSpot p) (t : Option TypeRow) (v : Typed) (dot name : ℕ) → type_row p.k v.of ≡ t
    → Typing p is (field_type p.k t name) (selected_field v dot name)
unfolding selected_field look ◌>>=◌ ask change give
selected_field_typed p is t v dot name e = record {
  of = λ seen j turn.
      ap (λ r. type_row p.k (field_access name (field_named j r name)).of) (types_same p is seen j turn v.of ∙ e) ∙ fields_typed p is seen j turn t name;
}

by_typed : (p : Spot) (is : IsSpot p) (t : Option TypeRow) (f : ℕ) (v : Typed) (bracket : ℕ) (e : ExpressionTree) → Every (Has p.part) (expression_node e)
    → type_row p.k v.of ≡ t → Typing p is (component_type p.k t) (indexed_by v bracket (first_of_expression e) (expression f e))
by_typed p is t f v bracket e e-in same =
    typing_after p is (expression-touches f e e-in) (λ i. indexed_typed p is t v bracket (first_of_expression e) i same)

more_typed : (p : Spot) (is : IsSpot p) (t : Option TypeRow) (f : ℕ) (v : Typed) (es : ExpressionTrees) → Every (Has p.part) (expressions_node es)
    → type_row p.k v.of ≡ t → Typing p is (more_components p.k t es) (more_indexes f v es)
unfolding give
more_typed p is t f v tree.end_of_expressions inside same = record { of = λ seen j turn. same }
more_typed p is t f v (tree.more_expressions comma e rest) inside same =
    typing_then p is (bind-touches (expression-touches f e inside.0.1) (λ i.
    indexed-touches v comma (first_of_expression e) i inside.0.0 (first_of_expression-in e inside.0.1)))
    (by_typed p is t f v comma e inside.0.1 same) (λ next next-typed. more_typed p is (component_type p.k t) f next rest inside.1 next-typed)

part_typed : (p : Spot) (is : IsSpot p) (t : Option TypeRow) (f : ℕ) (v : Typed) (s : SelectorTree) → Every (Has p.part) (selector_node s)
    → type_row p.k v.of ≡ t → Typing p is (part_type p.k t s) (selector f v s)
part_typed p is t f v (tree.an_index (tree.index_list left first others right)) inside same =
    typing_then p is (bind-touches (expression-touches f first inside.1.0) (λ i.
    indexed-touches v left (first_of_expression first) i inside.0 (first_of_expression-in first inside.1.0)))
    (by_typed p is t f v left first inside.1.0 same) (λ next next-typed. more_typed p is (component_type p.k t) f next others inside.1.1.0 next-typed)
part_typed p is t f v (tree.a_field dot name) inside same = selected_field_typed p is t v dot name same
part_typed p is t f v (tree.a_caret caret) inside same = dereferenced_typed p is t v caret same

selected_typed : (p : Spot) (is : IsSpot p) (t : Option TypeRow) (f : ℕ) (v : Typed) (ss : SelectorTrees) → Every (Has p.part) (selectors_node ss)
    → type_row p.k v.of ≡ t → Typing p is (selected_type p.k t ss) (selected f v ss)
unfolding give
selected_typed p is t f v tree.end_of_selectors inside same = record { of = λ seen j turn. same }
selected_typed p is t f v (tree.more_selectors s rest) inside same =
    typing_then p is (selector-touches f v s inside.0) (part_typed p is t f v s inside.0 same)
    (λ next next-typed. selected_typed p is (part_type p.k t s) f next rest inside.1 next-typed)

pub access_typed : (p : Spot) (is : IsSpot p) (seen : Bool) (j : Known) → Turn p is seen j → (block : ℕ) → block < length p.k.frames → (records : List ℕ)
    (f : ℕ) (a : AccessTree) → Every (Has p.part) (access_node a) → Leads j.frames block records f
    → type_row p.k (access f a j).value.of ≡ access_type p.k block records a
unfolding ◌>>=◌
access_typed p is seen j t block below records f a inside leads =
    let v = variable f a.name j in
    let touches = variable-touches {strict = assigning} f a.name inside.0 in
    (selected_typed p is (type_found p.k (named p.k block records a.name)) f v.value a.selectors inside.1
    (variable_typed p is seen j t block below records f a.name leads)).of seen v.known (turn_after p is seen j v.known t (touches.same j))
