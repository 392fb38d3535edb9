-- What each expression gives, where no rule is broken: a value of a type that is there at the end.
use Rattle.std.proofs.Common.{if◌then◌else◌, ◌&&◌, ◌++◌, ◌+◌, ◌<◌, ◌∙◌, ◌∷◌, ◌≡◌, ◌⊎◌, [], ℕ, Bool, List, None, Option, Some, ap, arith, false, inl, inr}
use Rattle.std.proofs.Common.{length, length-set, nat_eq, nat_le, pos, refl, subst, suc, sym, true}
use Rattle.std.proofs.lemmas.{Bool.eqb-true, Option.none-some}
use Rattle.pas_tree.specs.{ExpressionPlaces.first_of_expression, declared.constants.Constant.Constant, declared.operators.Sign.Sign}
use Rattle.pas_tree.specs.ExpressionTrees.{ArgumentsTree, ExpressionTree, ExpressionTrees, FactorTree, FactorTrees, IndexTree, MemberTree, MemberTrees}
use Rattle.pas_tree.specs.ExpressionTrees.{MembersTree, RangeTree, RelationTree, SelectorTree, SelectorTrees, SimpleTree, TermTree, TermTrees}
use Rattle.pas_tree.specs.ExpressionTrees as tree
use Rattle.pas_tree.specs.OperatorPlaces.{adding_token, multiplying_token, relational_token, sign_token}
use Rattle.pas_tree.specs.Operators.{adding_node, multiplying_node, relational_node, sign_node}
use Rattle.pas_tree.specs.TreeNodes.{arguments_node, expression_node, expressions_node, factor_node, factors_node, member_node, members_node, more_members_node}
use Rattle.pas_tree.specs.TreeNodes.{range_end_node, relation_node, selector_node, selectors_node, simple_node, term_node, terms_node}
use Rattle.core_program.specs.{ProgramRows.text_at, WholeTables.RowFits, WholeTables.type_accessed}
use Rattle.core_program.specs.declared.rows.{AccessRow.AccessRow, ExpressionRow.ExpressionRow, ItemRow.ItemRow, NameRow.NameRow}
use Rattle.core_program.specs.declared.rows.{OrdinalFunction.OrdinalFunction, Required.Required, Row.Row, TypeRow.TypeRow}
use Rattle.check_steps.specs.{Items.add_item, Items.link, Items.row_on, Names.usable, Names.use_again}
use Rattle.check_steps.specs.Known.{Known, find, name_at, row_at, spelled_at, with_row}
use Rattle.check_steps.specs.Steps.{◌>>=◌, Step, ask, change, give, look, put}
use Rattle.check_steps.specs.declared.{regions.Found.Found, words.Spelled.Spelled}
use Rattle.kind_checker.specs.{Constants.integer_in, Constants.text_value, Operators.is_operand, Operators.is_ordinal, Operators.is_unknown_shape}
use Rattle.kind_checker.specs.{Shapes.shape_of, declared.constants.ConstantValue.ConstantValue, declared.operators.Operator.Operator}
use Rattle.kind_checker.specs.declared.shapes.{ExpressionType.ExpressionType, Packing.TheVariants.Either, Shape.Shape}
use Rattle.expression_checker.specs.{Actuals.actual_by, Actuals.argued, Actuals.is_argument, Actuals.passed, Callees.is_function, Callees.takes_count}
use Rattle.expression_checker.specs.{Expressions.terms, NamesAlone.is_name, NamesAlone.name_alone, Selectors.selected_field}
use Rattle.expression_checker.specs.Callees.{applied, called_function, callee_of, count_checked, designator_row, designator_type, formals_of, function_named}
use Rattle.expression_checker.specs.Expressions.{call, constructor, count_more, designator, expression, factor, factors, member, more_arguments, more_indexes}
use Rattle.expression_checker.specs.Expressions.{more_members, name_factor, named_as, passing_to, range, related, root_name, selected, selector, simple, term}
use Rattle.expression_checker.specs.Members.{fits_members, gathered_type, host_with, is_member, member_range, nothing_gathered, one_member, set_constructor}
use Rattle.expression_checker.specs.Names.{accessed_as, bound_at, is_variable, meaning_in, meaning_of, variable}
use Rattle.expression_checker.specs.Operations.{is_minus, negated, operated, sign_before, signed, type_if}
use Rattle.expression_checker.specs.Selectors.{component_at, dereference_row, dereferenced, domain_at, field_access, field_row, index_row, indexed}
use Rattle.expression_checker.specs.Typed.{bracketed, constant_at, constant_row, constant_type, literal, nil_at, unknown_at}
use Rattle.expression_checker.specs.declared.{names.Meaning.Meaning, selectors.SelectedField.SelectedField, typed.Location.Location, typed.Typed.Typed}
use Rattle.expression_checker.specs.declared.actuals.ExpectedFormal.TheVariants as formal
use Rattle.expression_checker.specs.declared.callees.{Callee.Callee, ExpectedFormals.ExpectedFormals}
use Rattle.expression_checker.specs.declared.members.{Gathered.Gathered, MemberStart.MemberStart}
use Rattle.rule_laws.proofs.{CheckItems.add_item-touches, CheckNames.use_again-touches, Every.Every, Every.Of, ExpressionCallees.applied-touches}
use Rattle.rule_laws.proofs.{ExpressionCallees.called_function-touches, ExpressionSelectors.indexed-touches, Faces.face, Faces.loose, LabelTold.Anywhere}
use Rattle.rule_laws.proofs.{LabelTold.anywhere, LabelTold.everywhere, NamesFound.Ahead, NamesFound.ahead_before, Once.every_has, RowsPut.designator_none}
use Rattle.rule_laws.proofs.{Seats.every_has as every_by, Stood.Stood, Stood.stood_later, Touches.Touches, Touches.bind-touches, Touches.give-touches}
use Rattle.rule_laws.proofs.ExpressionExpressions.{call-touches, designator-touches, expression-touches, factor-touches, factors-touches, member-touches}
use Rattle.rule_laws.proofs.ExpressionExpressions.{more_arguments-touches, more_indexes-touches, more_members-touches, related-touches, root_name-touches}
use Rattle.rule_laws.proofs.ExpressionExpressions.{selected-touches, selector-touches, simple-touches, term-touches, terms-touches}
use Rattle.rule_laws.proofs.ExpressionMembers.{member_range-touches, one_member-touches, set_constructor-touches}
use Rattle.rule_laws.proofs.ExpressionOperations.{negated-touches, operated-touches, signed-touches}
use Rattle.rule_laws.proofs.ExpressionRows.{IsFound, asked_fine, callee_of_is, left_none, put_in, put_same, right_none, use_found, variable_told}
use Rattle.rule_laws.proofs.ExpressionTypes.{Calls, Fine, Fits, IsOrdinalThere, IsThere, IsValued, Takes, World, access_fits, calls_by, constant_fits}
use Rattle.rule_laws.proofs.ExpressionTypes.{constant_there, designator_fits, fits_untold, integer_there, is_given, not_fits, operation_fits, ordinal_there}
use Rattle.rule_laws.proofs.ExpressionTypes.{put_fine, scalar_given, shape_known, sign_fits}
use Rattle.rule_laws.proofs.Kept.{Kept, ask_kept, bind_kept, kept, look_kept}
use Rattle.rule_laws.proofs.Settled.{Inside, Off, Settled, every_off, left, right, settled_before, settled_sub}
use Rattle.rule_laws.proofs.TokenPlaces.{adding_token-in, multiplying_token-in, relational_token-in, sign_token-in}
use Rattle.rule_laws.specs.{CaseLaws.late_at, Tokens.Has}

-- ---- steps

-- A step gives such a value, where it breaks no rule and its tables are settled at these tokens.
pub record Gives (w : World) (Q : ℕ → Type 0) (m : Step Typed) : Type 0 where
  pub of : (j : Known) → Stood w.y.f j → (m j).broken ≡ [] → Settled w.y Q (m j).known → Fine w.y.f (m j).value

-- tokens before the last one
abbrev Low : World → (ℕ → Type 0) → Type 0
Low w Q = (n : ℕ) → Q n → suc n < length w.y.k.words

gives_sub : {w : World} {P Q : ℕ → Type 0} {m : Step Typed} → ((n : ℕ) → P n → Q n) → Gives w P m → Gives w Q m
gives_sub {w = w} {P = P} {Q = Q} {m = m} sub h = record { of = λ j st none s. h.of j st none (settled_sub w.y P Q (m j).known sub s) }

given_value : {w : World} {Q : ℕ → Type 0} (v : Typed) → Fine w.y.f v → Gives w Q (give v)
unfolding give
given_value v fine = record { of = λ j st none s. fine }

after : {w : World} {Q : ℕ → Type 0} {A : Type 0} (m : Step A) {f : A → Step Typed} → Kept Anywhere m → ((a : A) → Gives w Q (f a)) → Gives w Q (m >>= f)
unfolding ◌>>=◌
after {w = w} m {f = f} kept g = record {
  of = λ j st none s.
      let d = m j in
      (g d.value).of d.known (stood_later w.y.f j d.known (kept.same j) st) (right_none d.broken (f d.value d.known).broken none) s;
}

-- one after another, which leaves its tokens
one_then : {w : World} {P Q : ℕ → Type 0} {m : Step Typed} {f : Typed → Step Typed} → Kept Anywhere m → Gives w P m → ((n : ℕ) → P n → Q n)
    → ((v : Typed) → Kept (Off P) (f v)) → ((v : Typed) → Fine w.y.f v → Gives w Q (f v)) → Gives w Q (m >>= f)
unfolding ◌>>=◌
one_then {w = w} {P = P} {Q = Q} {m = m} {f = f} kept h sub off g = record {
  of = λ j st none s.
      let d = m j in
      let e = f d.value d.known in
      let fine = h.of j st (left_none d.broken e.broken none)
      (settled_before w.y P d.known e.known ((off d.value).same d.known) (settled_sub w.y P Q e.known sub s)) in
      (g d.value fine).of d.known (stood_later w.y.f j d.known (kept.same j) st) (right_none d.broken e.broken none) s;
}

puts : {w : World} {Q : ℕ → Type 0} (n : ℕ) (r : Row) (of' : ExpressionType) (l : Location) → Q n → suc n < length w.y.k.words
    → (RowFits w.y.f.program n r → is_given r ≡ true → Fits w.y.f r of') → Gives w Q (put n r >>= λ _. give (record { row = n; of = of'; location = l }))
unfolding ◌>>=◌ change give
puts {w = w} {Q = Q} n r of' l here low fits = record { of = λ j st none s. put_fine w Q j n r of' l here low fits s }

never_given : (w : World) (n : ℕ) (of' : ExpressionType) → RowFits w.y.f.program n Row.Nothing → is_given Row.Nothing ≡ true → Fits w.y.f Row.Nothing of'
never_given w n of' fits given = absurd (let never : false ≡ true = given in cc)

pub any : {A : Type 0} {m : Step A} → Touches Anywhere loose m → Kept Anywhere m
any t = kept t

-- ---- operators

operated_gives : {w : World} {Q : ℕ → Type 0} (o : Operator) (token : ℕ) (l r : Typed) → Q token → suc token < length w.y.k.words
    → Gives w Q (operated o token l r)
unfolding operated
operated_gives {w = w} o token l r here low = after _ (look_kept _) (λ x. after _ (look_kept _) (λ y. after _ (ask_kept _ token _) (λ _.
    puts token _ _ Location.Nowhere here low (λ fits given. operation_fits w _ l.row r.row given))))

negated_gives : {w : World} {Q : ℕ → Type 0} (word : ℕ) (v : Typed) → Fine w.y.f v → Q word → suc word < length w.y.k.words → Gives w Q (negated word v)
unfolding negated look ◌>>=◌ ask change give
negated_gives {w = w} {Q = Q} word v fine here low = record {
  of = λ j st none s.
      let r = Row.Expression (ExpressionRow.Not v.row) in
      let ok = asked_fine (is_operand 1 (shape_of j v.of)) _ (left_none _ [] none) in
      put_fine w Q j word r (type_if 1 (shape_of j v.of)) Location.Nowhere here low
      (λ fits given. not_fits w j (ahead_before w.y.f j (with_row j word r) (put_same j word r refl) s.ahead) v.row v.of
      (fine.fits (scalar_given w.y.f.program (row_at w.y.f v.row) fits)).there ok) s;
}

sign_gives : {w : World} {Q : ℕ → Type 0} (x : Sign) (v : Typed) → Fine w.y.f v → Q (sign_token x) → suc (sign_token x) < length w.y.k.words
    → Gives w Q (sign_before x v)
unfolding sign_before look ◌>>=◌ ask change give
sign_gives {w = w} {Q = Q} x v fine here low = record {
  of = λ j st none s.
      let n = sign_token x in
      let r = Row.Expression (ExpressionRow.Sign (is_minus x) v.row) in
      let ok = asked_fine (is_operand 0 (shape_of j v.of)) _ (left_none _ [] none) in
      put_fine w Q j n r (type_if 0 (shape_of j v.of)) Location.Nowhere here low
      (λ fits given. sign_fits w j (ahead_before w.y.f j (with_row j n r) (put_same j n r refl) s.ahead) (is_minus x) v.row v.of
      (fine.fits (scalar_given w.y.f.program (row_at w.y.f v.row) fits)).there ok) s;
}

signed_gives : {w : World} {Q : ℕ → Type 0} (o : Option Sign) (v : Typed) → Fine w.y.f v → Every Q (sign_node o) → Low w Q → Gives w Q (signed o v)
signed_gives None v fine here low = given_value v fine
signed_gives (Some x) v fine here low = let at = (sign_token-in x here).is in sign_gives x v fine at (low (sign_token x) at)

-- ---- constants

constant_gives : {w : World} {Q : ℕ → Type 0} (token : ℕ) (v : Option ConstantValue) → IsValued w.y.f v → Q token → suc token < length w.y.k.words
    → Gives w Q (constant_at token v)
unfolding constant_at look ◌>>=◌ change give
constant_gives {w = w} {Q = Q} token v valued here low = record {
  of = λ j st none s. put_fine w Q j token (constant_row v) (constant_type j v) Location.Nowhere here low
      (λ fits given. constant_fits w.y.f j v valued given) s;
}

chosen_valued : (w : World) (b : Bool) (v : ConstantValue) → IsValued w.y.f (Some v) → IsValued w.y.f (if b then Some v else None)
chosen_valued w true v valued = valued
chosen_valued w false v valued = tt

number_valued : (w : World) (x : Spelled) → IsValued w.y.f (integer_in x)
number_valued w (Spelled.Number n) = chosen_valued w (nat_le n 2147483647) (ConstantValue.Ordinal 0 (pos n)) (integer_there w)
number_valued w x = tt

text_valued : (w : World) (token : ℕ) (cs : List ℕ) → IsValued w.y.f (Some (text_value token cs))
text_valued w token (c ∷ []) = w.char
text_valued w token [] = tt
text_valued w token (c ∷ d ∷ cs) = tt

number_gives : {w : World} {Q : ℕ → Type 0} (token : ℕ) → Q token → suc token < length w.y.k.words → Gives w Q (literal token (Constant.Number None token))
unfolding literal look give ◌>>=◌
number_gives {w = w} token here low = record {
  of = λ j st none s. (constant_gives {w = w} token (integer_in (spelled_at j token)) (number_valued w (spelled_at j token)) here low).of j st none s;
}

text_gives : {w : World} {Q : ℕ → Type 0} (token : ℕ) → Q token → suc token < length w.y.k.words → Gives w Q (literal token (Constant.Text token))
unfolding literal look ◌>>=◌
text_gives {w = w} token here low = record {
  of = λ j st none s. (constant_gives {w = w} token (Some (text_value token (text_at j.program token))) (text_valued w token (text_at j.program token)) here
      low).of j st none s;
}

nil_gives : {w : World} {Q : ℕ → Type 0} (token : ℕ) → Q token → suc token < length w.y.k.words → Gives w Q (nil_at token)
unfolding nil_at
nil_gives {w = w} token here low = puts token (Row.Expression ExpressionRow.Nil) ExpressionType.Nil Location.Nowhere here low
    (λ fits given. fits_untold w.y.f _ _ tt refl)

-- ---- names

-- a name stands for something that is known
abbrev pub Means : Known → Meaning → Type 0
Means f Meaning.Unknown = ⊥
Means f (Meaning.Constant v) = IsValued f v
Means f (Meaning.Variable r of' l) = type_accessed r ≡ of'
Means f (Meaning.Bound r of') = type_accessed r ≡ of'
Means f m = Unit {0}

means_in : (w : World) (k : Known) → Stood w.y.f k → (frame : ℕ) (f : Found) (r : Row) → row_at k f.definition.token ≡ r
    → Means w.y.f (meaning_in k frame f r)
means_in w k st frame f (Row.Name (NameRow.Constant of' v)) e = constant_there w k st f.definition.token of' v e
means_in w k st frame f (Row.Name (NameRow.Text token)) e = tt
means_in w k st frame f Row.Nothing e = tt
means_in w k st frame f (Row.Name (NameRow.Variable m of' place level)) e = variable_told _ m place _ of'
means_in w k st frame f (Row.Name (NameRow.Bound of' place level)) e = refl
means_in w k st frame f (Row.Name (NameRow.Field of' offset holder)) e = refl
means_in w k st frame f (Row.Name (NameRow.Tag of' offset holder variants)) e = refl
means_in w k st frame f r e = tt

pub means : (w : World) (k : Known) → Stood w.y.f k → (frame : ℕ) (o : Option Found) → IsFound o → Means w.y.f (meaning_of k frame o)
means w k st frame None found = absurd (none-some found.found found.is)
means w k st frame (Some g) found = means_in w k st frame g (row_at k g.definition.token) refl

accessed_gives : {w : World} {Q : ℕ → Type 0} (name : ℕ) (m : Meaning) → Q name → suc name < length w.y.k.words → Means w.y.f m → is_variable m ≡ true
    → Gives w Q (accessed_as name m)
accessed_gives name Meaning.Unknown here low is e = absurd is
accessed_gives {w = w} name (Meaning.Variable r of' l) here low is e =
    puts name (Row.Access r) (ExpressionType.Of of') l here low (λ fits given. access_fits w name r of' is fits)
accessed_gives name m here low is e = absurd (let never : false ≡ true = e in cc)

bound_gives : {w : World} {Q : ℕ → Type 0} (name : ℕ) (r : AccessRow) (of' : ℕ) → Q name → suc name < length w.y.k.words → type_accessed r ≡ of'
    → Gives w Q (bound_at name r of')
unfolding bound_at
bound_gives {w = w} name r of' here low is =
    puts name (Row.Access r) (ExpressionType.Of of') Location.Nowhere here low (λ fits given. access_fits w name r of' is fits)

-- ---- function designators

-- how many actuals succ and pred are called with, and what they take
abbrev Counted : ℕ → Callee → ExpectedFormals → Type 0
Counted n (Callee.Required Required.Succ) formals = (formals ≡ ExpectedFormals.Operand OrdinalFunction.Succ) × (nat_eq n 1 ≡ true)
Counted n (Callee.Required Required.Pred) formals = (formals ≡ ExpectedFormals.Operand OrdinalFunction.Pred) × (nat_eq n 1 ≡ true)
Counted n c formals = Unit {0}

counted_if : (k : Known) (n : ℕ) (c : Callee) (b : Bool) → takes_count k c n ≡ b → b ≡ true
    → Counted n c (if b then formals_of k c else ExpectedFormals.Unknown)
counted_if k n c false e fine = absurd (let never : false ≡ true = fine in cc)
counted_if k n (Callee.Required Required.Succ) true e fine = (refl, e)
counted_if k n (Callee.Required Required.Pred) true e fine = (refl, e)
counted_if k n c true e fine = tt

count_counted : (name n : ℕ) (c : Callee) (k : Known) → let d = count_checked name c n k in d.broken ≡ [] → Counted n d.value.callee d.value.formals
unfolding count_checked look ◌>>=◌ ask give
count_counted name n c k none =
    counted_if k n c (takes_count k c n) refl (asked_fine (takes_count k c n) _ (left_none _ [] none))

called_counted : (frame name n : ℕ) (k : Known) → let d = called_function frame name n k in d.broken ≡ [] → Counted n d.value.callee d.value.formals
unfolding called_function ◌>>=◌
called_counted frame name n k none =
    let d = function_named frame name k in
    count_counted name n d.value d.known (right_none d.broken (count_checked name d.value n d.known).broken none)

if_calls : (f : Known) (b : Bool) (c : Callee) → (b ≡ true → Calls f c) → Calls f (if b then c else Callee.Wrong)
if_calls f true c h = h refl
if_calls f false c h = tt

called_calls : (w : World) (k i : Known) → Stood w.y.f k → Ahead w.y.f i → w.y.f.program.routines ≡ k.program.routines → (frame name n : ℕ)
    → Calls w.y.f (called_function frame name n k).value.callee
unfolding called_function function_named count_checked use_again look ◌>>=◌ ask give
called_calls w k i st a same frame name n =
    let o = usable name (find k frame (name_at k name)) in
    let c = callee_of k frame o in
    if_calls w.y.f (is_function k c) c (λ fine. calls_by w.y.f k st c fine (callee_of_is w.y.f k same st frame o))

applied_fine : (w : World) (Q : ℕ → Type 0) (k : Known) (name : ℕ) (c : Callee) (v : Typed) (actuals : ℕ) → Q name → suc name < length w.y.k.words
    → Calls w.y.f c → Takes w.y.f c v → let d = applied name c v actuals k in Settled w.y Q d.known → Fine w.y.f d.value
unfolding applied look ◌>>=◌ change give
applied_fine w Q k name c v actuals here low calls takes s =
    let r = designator_row k c v actuals in
    put_fine w Q k name r (designator_type k c v) Location.Nowhere here low
    (λ fits given. designator_fits w k (ahead_before w.y.f k (with_row k name r) (put_same k name r (designator_none k c v actuals)) s.ahead)
    c calls v takes name actuals fits given) s

none_taken : (f : Known) (c : Callee) (formals : ExpectedFormals) (v : Typed) → Counted 0 c formals → Takes f c v
none_taken f (Callee.Required Required.Succ) formals v counted = absurd (let never : false ≡ true = counted.1 in cc)
none_taken f (Callee.Required Required.Pred) formals v counted = absurd (let never : false ≡ true = counted.1 in cc)
none_taken f c formals v counted = tt

designator_gives : {w : World} {Q : ℕ → Type 0} (frame name : ℕ) → Q name → suc name < length w.y.k.words → Gives w Q (designator frame name)
unfolding designator ◌>>=◌
designator_gives {w = w} {Q = Q} frame name here low = record {
  of = λ j st none s.
      let d = called_function frame name 0 j in
      let e = applied name d.value.callee (unknown_at name) 0 d.known in
      let all = (designator-touches {Q = Anywhere} {strict = loose} frame name (anywhere name)).same j in
      let calls = called_calls w j e.known st s.ahead (s.ahead.routines ∙ all.routines) frame name 0 in
      let counted = called_counted frame name 0 j (left_none d.broken e.broken none) in
      applied_fine w Q d.known name d.value.callee (unknown_at name) 0 here low calls
      (none_taken w.y.f d.value.callee d.value.formals (unknown_at name) counted) s;
}

-- ---- a name alone, and the name of an access

named_gives : {w : World} {Q : ℕ → Type 0} (frame name : ℕ) (m : Meaning) → Q name → suc name < length w.y.k.words → Means w.y.f m
    → Gives w Q (named_as frame name m)
named_gives frame name Meaning.Unknown here low is = absurd is
named_gives frame name (Meaning.Constant v) here low is = constant_gives name v is here low
named_gives frame name (Meaning.Bound r of') here low is = bound_gives name r of' here low is
named_gives frame name (Meaning.Variable r of' l) here low is = accessed_gives name (Meaning.Variable r of' l) here low is refl
named_gives frame name Meaning.Other here low is = designator_gives frame name here low

pub used_stood : (w : World) (frame name : ℕ) (j : Known) → Stood w.y.f j → Stood w.y.f (use_again frame name j).known
used_stood w frame name j st =
    stood_later w.y.f j (use_again frame name j).known ((use_again-touches {Q = Anywhere} {strict = loose} frame name (anywhere name)).same j) st

name_gives : {w : World} {Q : ℕ → Type 0} (frame name : ℕ) → Q name → suc name < length w.y.k.words → Gives w Q (name_factor frame name)
unfolding name_factor ◌>>=◌ look
name_gives {w = w} frame name here low = record {
  of = λ j st none s.
      let d = use_again frame name j in
      let m = meaning_of d.known frame d.value in
      let rest = (named_as frame name m d.known).broken in
      let later = used_stood w frame name j st in
      let u = use_found frame name j (left_none d.broken rest none) in
      (named_gives {w = w} frame name m here low (means w d.known later frame d.value u)).of d.known later (right_none d.broken rest none) s;
}

variable_gives : {w : World} {Q : ℕ → Type 0} (frame name : ℕ) → Q name → suc name < length w.y.k.words → Gives w Q (variable frame name)
unfolding variable ◌>>=◌ look ask
variable_gives {w = w} frame name here low = record {
  of = λ j st none s.
      let d = use_again frame name j in
      let m = meaning_of d.known frame d.value in
      let last = (accessed_as name m d.known).broken in
      let rest = right_none d.broken _ none in
      let fine = asked_fine (is_variable m) _ (left_none _ last rest) in
      let later = used_stood w frame name j st in
      let u = use_found frame name j (left_none d.broken _ none) in
      (accessed_gives {w = w} name m here low (means w d.known later frame d.value u) fine).of d.known later (right_none _ last rest) s;
}

root_gives : {w : World} {Q : ℕ → Type 0} (frame : ℕ) (alone : Bool) (name : ℕ) → Q name → suc name < length w.y.k.words
    → Gives w Q (root_name frame alone name)
root_gives frame true name here low = name_gives frame name here low
root_gives frame false name here low = variable_gives frame name here low

-- ---- selectors

component_fits : (w : World) (n : ℕ) (r : Option TypeRow) (p i : Typed) → RowFits w.y.f.program n (index_row r p i) → is_given (index_row r p i) ≡ true
    → Fits w.y.f (index_row r p i) (component_at r n).of
component_fits w n (Some (TypeRow.Array packed index component cells)) p i fits given = access_fits w n _ component refl fits
component_fits w n (Some (TypeRow.Conformant packed index component place)) p i fits given = access_fits w n _ component refl fits
component_fits w n r p i fits given = absurd (let never : false ≡ true = given in cc)

put_component : {w : World} {Q : ℕ → Type 0} (r : Option TypeRow) (p i : Typed) (n : ℕ) → Q n → suc n < length w.y.k.words
    → Gives w Q (put n (index_row r p i) >>= λ _. give (component_at r n))
put_component {w = w} (Some (TypeRow.Array packed index component cells)) p i n here low =
    puts n _ (ExpressionType.Of component) _ here low (component_fits w n (Some (TypeRow.Array packed index component cells)) p i)
put_component {w = w} (Some (TypeRow.Conformant packed index component place)) p i n here low =
    puts n _ (ExpressionType.Of component) _ here low (component_fits w n (Some (TypeRow.Conformant packed index component place)) p i)
put_component {w = w} r p i n here low =
    puts n Row.Nothing ExpressionType.Unknown Location.Nowhere here low (never_given w n ExpressionType.Unknown)

indexed_gives : {w : World} {Q : ℕ → Type 0} (p : Typed) (bracket first : ℕ) (i : Typed) → Q bracket → suc bracket < length w.y.k.words
    → Gives w Q (indexed p bracket first i)
unfolding indexed
indexed_gives p bracket first i here low = after _ (look_kept _) (λ r. after _ (ask_kept _ bracket _) (λ _. after _ (look_kept _) (λ fine.
    after _ (ask_kept _ first _) (λ _. put_component r p i bracket here low))))

put_field : {w : World} {Q : ℕ → Type 0} (p : Typed) (name : ℕ) (f : Option SelectedField) → Q name → suc name < length w.y.k.words
    → Gives w Q (put name (field_row p f) >>= λ _. give (field_access name f))
put_field {w = w} p name (Some f) here low = puts name _ (ExpressionType.Of f.of) _ here low (λ fits given. access_fits w name _ f.of refl fits)
put_field {w = w} p name None here low =
    puts name Row.Nothing ExpressionType.Unknown Location.Nowhere here low (never_given w name ExpressionType.Unknown)

field_gives : {w : World} {Q : ℕ → Type 0} (p : Typed) (dot name : ℕ) → Q name → suc name < length w.y.k.words → Gives w Q (selected_field p dot name)
unfolding selected_field
field_gives p dot name here low = after _ (look_kept _) (λ r. after _ (ask_kept _ dot _) (λ _. after _ (look_kept _) (λ f.
    after _ (ask_kept _ name _) (λ _. put_field p name f here low))))

put_domain : {w : World} {Q : ℕ → Type 0} (r : Option TypeRow) (p : Typed) (caret : ℕ) → Q caret → suc caret < length w.y.k.words
    → Gives w Q (put caret (dereference_row r p) >>= λ _. give (domain_at r caret))
put_domain {w = w} (Some (TypeRow.Pointer domain)) p caret here low =
    puts caret _ (ExpressionType.Of domain) _ here low (λ fits given. access_fits w caret _ domain refl fits)
put_domain {w = w} r p caret here low =
    puts caret Row.Nothing ExpressionType.Unknown Location.Nowhere here low (never_given w caret ExpressionType.Unknown)

caret_gives : {w : World} {Q : ℕ → Type 0} (p : Typed) (caret : ℕ) → Q caret → suc caret < length w.y.k.words → Gives w Q (dereferenced p caret)
unfolding dereferenced
caret_gives p caret here low = after _ (look_kept _) (λ r. after _ (ask_kept _ caret _) (λ _. put_domain r p caret here low))

-- ---- members of sets

-- a step gives members of one known type
record Collects (w : World) (Q : ℕ → Type 0) (m : Step Gathered) : Type 0 where
  of : (j : Known) → Stood w.y.f j → (m j).broken ≡ [] → Settled w.y Q (m j).known → (m j).value.known ≡ true

collects_sub : {w : World} {P Q : ℕ → Type 0} {m : Step Gathered} → ((n : ℕ) → P n → Q n) → Collects w P m → Collects w Q m
collects_sub {w = w} {P = P} {Q = Q} {m = m} sub h = record { of = λ j st none s. h.of j st none (settled_sub w.y P Q (m j).known sub s) }

known_then : (a b : Bool) → a ≡ true → b ≡ true → (a && b) ≡ true
known_then true true e d = refl
known_then true false e d = d
known_then false b e d = e

member_is : (host : Option ℕ) (s : Shape) → is_unknown_shape s ≡ false → fits_members host s ≡ true → is_member host s ≡ true
member_is host Shape.Unknown known fits = absurd (let never : true ≡ false = known in cc)
member_is host (Shape.Ordinal h) known fits = fits
member_is host (Shape.Set h packing) known fits = fits
member_is host (Shape.Text length) known fits = fits
member_is host (Shape.Pointer t) known fits = fits
member_is host Shape.Nil known fits = fits
member_is host (Shape.Other t) known fits = fits

both_first : (a b : Bool) → (a && b) ≡ true → a ≡ true
both_first true b e = refl
both_first false b e = e

both_second : (a b : Bool) → (a && b) ≡ true → b ≡ true
both_second true b e = e
both_second false b e = absurd (let never : false ≡ true = e in cc)

abbrev first_in : Row → ℕ
first_in (Row.Item (ItemRow.Member v next)) = v
first_in (Row.Item (ItemRow.Members v u next)) = v
first_in r = 0

abbrev last_in : Row → ℕ
last_in (Row.Item (ItemRow.Members v u next)) = u
last_in r = 0

-- an item at the end by what it was
record IsOne (v : ℕ) (r : Row) : Type 0 where
  next : ℕ
  is : r ≡ Row.Item (ItemRow.Member v next)

record IsRange (v u : ℕ) (r : Row) : Type 0 where
  next : ℕ
  is : r ≡ Row.Item (ItemRow.Members v u next)

one_seen : (v : ℕ) (r : Row) → face loose r ≡ Row.Item (ItemRow.Member v 0) → IsOne v r
one_seen v (Row.Item (ItemRow.Member u next)) e = record { next = next; is = ap (λ x. Row.Item (ItemRow.Member (first_in x) next)) e }
one_seen v (Row.Item (ItemRow.Element u end)) e = absurd cc
one_seen v (Row.Item (ItemRow.Members first last end)) e = absurd cc
one_seen v (Row.Item (ItemRow.Choice u chosen end)) e = absurd cc
one_seen v (Row.Item (ItemRow.Value u of' end)) e = absurd cc
one_seen v (Row.Item (ItemRow.Place access end)) e = absurd cc
one_seen v (Row.Item (ItemRow.ArrayPlace first access of' end)) e = absurd cc
one_seen v (Row.Item (ItemRow.ArrayValue first u of' end)) e = absurd cc
one_seen v (Row.Item (ItemRow.Routine routine levels end)) e = absurd cc
one_seen v (Row.Item (ItemRow.RoutineFormal formal levels end)) e = absurd cc
one_seen v (Row.Item (ItemRow.Written u of' end)) e = absurd cc
one_seen v (Row.Item (ItemRow.WrittenWide u of' width end)) e = absurd cc
one_seen v (Row.Item i) e = absurd cc
one_seen v (Row.Name (NameRow.Label marked value level ways)) e = absurd cc
one_seen v (Row.Name (NameRow.Routine assigned number region)) e = absurd cc
one_seen v (Row.Name n) e = absurd cc
one_seen v r e = absurd cc

range_seen : (v u : ℕ) (r : Row) → face loose r ≡ Row.Item (ItemRow.Members v u 0) → IsRange v u r
range_seen v u (Row.Item (ItemRow.Members x z next)) e = record {
  next = next;
  is = ap (λ y. Row.Item (ItemRow.Members (first_in y) (last_in y) next)) e;
}
range_seen v u (Row.Item (ItemRow.Member x end)) e = absurd cc
range_seen v u (Row.Item (ItemRow.Element x end)) e = absurd cc
range_seen v u (Row.Item (ItemRow.Choice x chosen end)) e = absurd cc
range_seen v u (Row.Item (ItemRow.Value x of' end)) e = absurd cc
range_seen v u (Row.Item (ItemRow.Place access end)) e = absurd cc
range_seen v u (Row.Item (ItemRow.ArrayPlace first access of' end)) e = absurd cc
range_seen v u (Row.Item (ItemRow.ArrayValue first x of' end)) e = absurd cc
range_seen v u (Row.Item (ItemRow.Routine routine levels end)) e = absurd cc
range_seen v u (Row.Item (ItemRow.RoutineFormal formal levels end)) e = absurd cc
range_seen v u (Row.Item (ItemRow.Written x of' end)) e = absurd cc
range_seen v u (Row.Item (ItemRow.WrittenWide x of' width end)) e = absurd cc
range_seen v u (Row.Item i) e = absurd cc
range_seen v u (Row.Name (NameRow.Label marked value level ways)) e = absurd cc
range_seen v u (Row.Name (NameRow.Routine assigned number region)) e = absurd cc
range_seen v u (Row.Name n) e = absurd cc
range_seen v u r e = absurd cc

-- what is put at a slot stands there
pub slot_put : (w : World) (Q : ℕ → Type 0) (k : Known) (slot : ℕ) (r : Row) → Q slot → suc slot < length w.y.k.words → Settled w.y Q (with_row k slot r)
    → face loose (row_at w.y.f slot) ≡ face loose r
slot_put w Q k slot r here low s =
    let many = s.many in
    let few = w.few in
    let set = length-set k.program.rows slot r in
    s.rows slot here low ∙ ap (face loose) (put_in k.program.rows slot r (omega (arith, many, few, set, low)))

one_collects : {w : World} {Q : ℕ → Type 0} (g : Gathered) (b : MemberStart) → g.known ≡ true → Fine w.y.f b.value → Q b.slot
    → suc b.slot < length w.y.k.words → Collects w Q (one_member g b)
unfolding one_member add_item link look ◌>>=◌ ask change give
one_collects {w = w} {Q = Q} g b known fine here low = record {
  of = λ j st none s.
      let x = shape_of j b.value.of in
      let k = with_row j g.last (row_on (row_at j g.last) b.slot) in
      let r = Row.Item (ItemRow.Member b.value.row 0) in
      let i = with_row k b.slot r in
      let same = (one_member-touches {Q = Anywhere} {strict = loose} g b (anywhere b.slot) (anywhere b.first)).same j in
      let seen = one_seen b.value.row (row_at w.y.f b.slot) (slot_put w Q k b.slot r here low s) in
      let scalar = (subst (λ y. RowFits w.y.f.program b.slot y) seen.is (w.whole.rows b.slot)).0 in
      let there = (fine.fits (scalar_given w.y.f.program (row_at w.y.f b.value.row) scalar)).there in
      let ok = asked_fine (fits_members g.host x) _ (left_none _ [] none) in
      known_then g.known (is_member g.host x) known
      (member_is g.host x (shape_known w.y.f j (ahead_before w.y.f j i same s.ahead) b.value.of there) ok);
}

range_collects : {w : World} {Q : ℕ → Type 0} (g : Gathered) (b : MemberStart) (v : Typed) → g.known ≡ true → Fine w.y.f b.value → Fine w.y.f v → Q b.slot
    → suc b.slot < length w.y.k.words → Collects w Q (member_range g b v)
unfolding member_range add_item link look ◌>>=◌ ask change give
range_collects {w = w} {Q = Q} g b v known fine last here low = record {
  of = λ j st none s.
      let x = shape_of j b.value.of in
      let z = shape_of j v.of in
      let k = with_row j g.last (row_on (row_at j g.last) b.slot) in
      let r = Row.Item (ItemRow.Members b.value.row v.row 0) in
      let i = with_row k b.slot r in
      let same = (member_range-touches {Q = Anywhere} {strict = loose} g b v (anywhere b.slot) (anywhere b.first)).same j in
      let ahead = ahead_before w.y.f j i same s.ahead in
      let seen = range_seen b.value.row v.row (row_at w.y.f b.slot) (slot_put w Q k b.slot r here low s) in
      let scalars = subst (λ y. RowFits w.y.f.program b.slot y) seen.is (w.whole.rows b.slot) in
      let there = (fine.fits (scalar_given w.y.f.program (row_at w.y.f b.value.row) scalars.0)).there in
      let after = (last.fits (scalar_given w.y.f.program (row_at w.y.f v.row) scalars.1)).there in
      let ok = asked_fine (fits_members g.host x && fits_members (host_with g.host x) z) _ (left_none _ [] none) in
      let one = member_is g.host x (shape_known w.y.f j ahead b.value.of there) (both_first (fits_members g.host x) _ ok) in
      let two = member_is (host_with g.host x) z (shape_known w.y.f j ahead v.of after) (both_second (fits_members g.host x) _ ok) in
      known_then (g.known && is_member g.host x) (is_member (host_with g.host x) z) (known_then g.known (is_member g.host x) known one) two;
}

one_kept : {Q : ℕ → Type 0} (g : Gathered) (b : MemberStart) → Of Q b.slot → Kept Q (one_member g b)
unfolding one_member
one_kept g b slot = bind_kept (look_kept _) (λ s. bind_kept (ask_kept _ b.first _) (λ _. kept (bind-touches (add_item-touches g.last b.slot _ slot)
    (λ last. give-touches _))))

range_kept : {Q : ℕ → Type 0} (g : Gathered) (b : MemberStart) (v : Typed) → Of Q b.slot → Kept Q (member_range g b v)
unfolding member_range
range_kept g b v slot = bind_kept (look_kept _) (λ s. bind_kept (look_kept _) (λ t. bind_kept (ask_kept _ b.first _) (λ _.
    kept (bind-touches (add_item-touches g.last b.slot _ slot) (λ last. give-touches _)))))

end_kept : {Q : ℕ → Type 0} (frame : ℕ) (g : Gathered) (b : MemberStart) (last : RangeTree) → Of Q b.slot → Every Q (range_end_node last)
    → Kept Q (range frame g b last)
end_kept frame g b tree.without_range slot here = one_kept g b slot
end_kept frame g b (tree.a_range dots last) slot here = bind_kept (kept (expression-touches frame last here.1)) (λ v. range_kept g b v slot)

set_there : (f : Known) (b : Bool) (host : Option ℕ) → b ≡ true → IsThere f (if b then ExpressionType.Set host Either else ExpressionType.Unknown)
set_there f true host e = tt
set_there f false host e = absurd (let never : false ≡ true = e in cc)

set_gives : {w : World} {Q : ℕ → Type 0} (g : Gathered) (members close : ℕ) → g.known ≡ true → Q close → suc close < length w.y.k.words
    → Gives w Q (set_constructor g members close)
unfolding set_constructor
set_gives {w = w} g members close known here low = puts close (Row.Expression (ExpressionRow.Set members)) (gathered_type g) Location.Nowhere here low
    (λ fits given. fits_untold w.y.f _ _ (set_there w.y.f g.known g.host known) refl)

-- one after a value, which leaves its tokens
value_then : {w : World} {P Q : ℕ → Type 0} {m : Step Typed} {f : Typed → Step Gathered} → Kept Anywhere m → Gives w P m → ((n : ℕ) → P n → Q n)
    → ((v : Typed) → Kept (Off P) (f v)) → ((v : Typed) → Fine w.y.f v → Collects w Q (f v)) → Collects w Q (m >>= f)
unfolding ◌>>=◌
value_then {w = w} {P = P} {Q = Q} {m = m} {f = f} kept h sub off g = record {
  of = λ j st none s.
      let d = m j in
      let e = f d.value d.known in
      let fine = h.of j st (left_none d.broken e.broken none)
      (settled_before w.y P d.known e.known ((off d.value).same d.known) (settled_sub w.y P Q e.known sub s)) in
      (g d.value fine).of d.known (stood_later w.y.f j d.known (kept.same j) st) (right_none d.broken e.broken none) s;
}

-- and one after some members
members_then : {w : World} {P Q : ℕ → Type 0} {m : Step Gathered} {f : Gathered → Step Gathered} → Kept Anywhere m → Collects w P m → ((n : ℕ) → P n → Q n)
    → ((g : Gathered) → Kept (Off P) (f g)) → ((g : Gathered) → g.known ≡ true → Collects w Q (f g)) → Collects w Q (m >>= f)
unfolding ◌>>=◌
members_then {w = w} {P = P} {Q = Q} {m = m} {f = f} kept h sub off g = record {
  of = λ j st none s.
      let d = m j in
      let e = f d.value d.known in
      let known = h.of j st (left_none d.broken e.broken none)
      (settled_before w.y P d.known e.known ((off d.value).same d.known) (settled_sub w.y P Q e.known sub s)) in
      (g d.value known).of d.known (stood_later w.y.f j d.known (kept.same j) st) (right_none d.broken e.broken none) s;
}

set_then : {w : World} {P Q : ℕ → Type 0} {m : Step Gathered} {f : Gathered → Step Typed} → Kept Anywhere m → Collects w P m → ((n : ℕ) → P n → Q n)
    → ((g : Gathered) → Kept (Off P) (f g)) → ((g : Gathered) → g.known ≡ true → Gives w Q (f g)) → Gives w Q (m >>= f)
unfolding ◌>>=◌
set_then {w = w} {P = P} {Q = Q} {m = m} {f = f} kept h sub off g = record {
  of = λ j st none s.
      let d = m j in
      let e = f d.value d.known in
      let known = h.of j st (left_none d.broken e.broken none)
      (settled_before w.y P d.known e.known ((off d.value).same d.known) (settled_sub w.y P Q e.known sub s)) in
      (g d.value known).of d.known (stood_later w.y.f j d.known (kept.same j) st) (right_none d.broken e.broken none) s;
}

-- ---- the operand of succ and pred

operand_taken : (w : World) (frame last slot first : ℕ) (value : Typed) (e : ExpressionTree) → Gives w (Has (expression_node e)) (expression frame e)
    → (f : OrdinalFunction) → ((s : Shape) → is_argument f s ≡ is_ordinal s) → (j : Known) → Stood w.y.f j
    → let d = actual_by frame (record { last = last; formals = ExpectedFormals.Operand f; value = value }) slot (name_alone e) first (expression frame e) j in
    d.broken ≡ [] → Settled w.y (Has (expression_node e)) d.known → is_given (row_at w.y.f d.value.value.row) ≡ true → IsOrdinalThere w.y.f d.value.value.of
unfolding actual_by argued passed look ◌>>=◌ ask give
operand_taken w frame last slot first value e g f takes j st none s given =
    let v = expression frame e j in
    let a = argued (formal.Operand f) first v.value v.known in
    let both = left_none (v.broken ++ a.broken) _ none in
    let ok = is_argument f (shape_of v.known v.value.of) in
    let fine = asked_fine ok (late_at 32 first) (left_none (if ok then [] else late_at 32 first ∷ []) [] (right_none v.broken a.broken both)) in
    let there = ((g.of j st (left_none v.broken a.broken both) s).fits given).there in
    ordinal_there w.y.f v.known s.ahead v.value.of there (sym (takes (shape_of v.known v.value.of)) ∙ fine)

two_many : (n : ℕ) → nat_eq (n + 1 + 1) 1 ≡ true → ⊥
two_many n e = let same : n + 1 + 1 ≡ 1 = eqb-true (n + 1 + 1) 1 e in omega (arith, same)

operand_last : (w : World) (frame last slot first : ℕ) (value : Typed) (e : ExpressionTree) → Gives w (Has (expression_node e)) (expression frame e)
    → (f : OrdinalFunction) → ((s : Shape) → is_argument f s ≡ is_ordinal s) → (j : Known) → Stood w.y.f j → (others : ExpressionTrees)
    → nat_eq (count_more others + 1) 1 ≡ true → (formals : ExpectedFormals) → formals ≡ ExpectedFormals.Operand f
    → let d = actual_by frame (record { last = last; formals = formals; value = value }) slot (name_alone e) first (expression frame e) j in
    let r = more_arguments frame d.value others d.known in
    d.broken ≡ [] → Settled w.y (Has (expression_node e)) d.known → is_given (row_at w.y.f r.value.value.row) ≡ true → IsOrdinalThere w.y.f r.value.value.of
unfolding give
operand_last w frame last slot first value e g f takes j st tree.end_of_expressions counted formals is =
    subst (λ x. let d = actual_by frame (record { last = last; formals = x; value = value }) slot (name_alone e) first (expression frame e) j in
    d.broken ≡ [] → Settled w.y (Has (expression_node e)) d.known → is_given (row_at w.y.f d.value.value.row) ≡ true → IsOrdinalThere w.y.f d.value.value.of)
    (sym is) (operand_taken w frame last slot first value e g f takes j st)
operand_last w frame last slot first value e g f takes j st (tree.more_expressions comma x rest) counted formals is =
    absurd (two_many (count_more rest) counted)

call_takes : (w : World) (frame last slot first : ℕ) (value : Typed) (e : ExpressionTree) → Gives w (Has (expression_node e)) (expression frame e)
    → (j : Known) → Stood w.y.f j → (others : ExpressionTrees) (c : Callee) (formals : ExpectedFormals) → Counted (count_more others + 1) c formals
    → let d = actual_by frame (record { last = last; formals = formals; value = value }) slot (name_alone e) first (expression frame e) j in
    let r = more_arguments frame d.value others d.known in
    d.broken ≡ [] → Settled w.y (Has (expression_node e)) d.known → Takes w.y.f c r.value.value
call_takes w frame last slot first value e g j st others (Callee.Required Required.Succ) formals counted none s =
    operand_last w frame last slot first value e g OrdinalFunction.Succ (λ s. refl) j st others counted.1 formals counted.0 none s
call_takes w frame last slot first value e g j st others (Callee.Required Required.Pred) formals counted none s =
    operand_last w frame last slot first value e g OrdinalFunction.Pred (λ s. refl) j st others counted.1 formals counted.0 none s
call_takes w frame last slot first value e g j st others c formals counted none s = tt

call_gives : (w : World) (frame name open' : ℕ) (first : ExpressionTree) (others : ExpressionTrees) (close : ℕ) → let a =
    tree.argument_list open' first others close in
    ((n : ℕ) → Has (expression_node first) n → name ≡ n → ⊥) → ((n : ℕ) → Has (expression_node first) n → Has (expressions_node others) n → ⊥)
    → suc name < length w.y.k.words → Gives w (Has (expression_node first)) (expression frame first)
    → Gives w (λ n. (name ≡ n) ⊎ Has (arguments_node a) n) (call frame name (count_more others + 1) a)
unfolding ◌>>=◌
call_gives w frame name open' first others close off apart low g = record {
  of = λ j st none s.
      let Q : ℕ → Type 0 = λ n. (name ≡ n) ⊎ Has (arguments_node (tree.argument_list open' first others close)) n in
      let P : ℕ → Type 0 = Has (expression_node first) in
      let count = count_more others + 1 in
      let d = called_function frame name count j in
      let one = actual_by frame (passing_to d.value name) open' (name_alone first) (first_of_expression first) (expression frame first) d.known in
      let rest = more_arguments frame one.value others one.known in
      let last = applied name d.value.callee rest.value.value open' rest.known in
      let list = tree.argument_list open' first others close in
      let all = (call-touches {Q = Anywhere} {strict = loose} frame name count list (anywhere name) (everywhere (arguments_node list))).same j in
      let began = (called_function-touches {Q = Anywhere} {strict = loose} frame name count (anywhere name)).same j in
      let calls = called_calls w j last.known st s.ahead (s.ahead.routines ∙ all.routines) frame name count in
      let counted = called_counted frame name count j (left_none d.broken _ none) in
      let later = right_none d.broken (one.broken ++ (rest.broken ++ last.broken)) none in
      let tail : Kept (Off P) (more_arguments frame one.value others >>= λ all. applied name d.value.callee all.value open') =
      bind_kept (kept (more_arguments-touches frame one.value others (every_off (expression_node first) (expressions_node others) apart)))
      (λ all. kept (applied-touches name d.value.callee all.value open' (record { is = λ h. off name h refl }))) in
      let settled = settled_before w.y P one.known last.known (tail.same one.known)
      (settled_sub w.y P Q last.known (λ n h. inr (inr (inl h))) s) in
      let takes = call_takes w frame name open' (first_of_expression first) (unknown_at name) first g d.known
      (stood_later w.y.f j d.known began st) others d.value.callee d.value.formals counted (left_none one.broken _ later) settled in
      applied_fine w Q rest.known name d.value.callee rest.value.value open' (inl refl) low calls takes s;
}

given_members : {w : World} {Q : ℕ → Type 0} (g : Gathered) → g.known ≡ true → Collects w Q (give g)
unfolding give
given_members g known = record { of = λ j st none s. known }

bracket_fine : {f : Known} (v : Typed) → Fine f v → Fine f (bracketed v)
bracket_fine v fine = record { fits = fine.fits }

-- ---- the constructs

mutual
  pub expression_gives : (w : World) (frame : ℕ) (e : ExpressionTree) → Inside w.y (expression_node e)
      → Gives w (Has (expression_node e)) (expression frame e)
  expression_gives w frame (tree.an_expression x relation) i =
      one_then {P = Has (simple_node x)} (any (simple-touches frame x (everywhere (simple_node x)))) (simple_gives w frame x (left i)) (λ n h. inl h)
      (λ l. kept (related-touches frame l relation (every_off (simple_node x) (relation_node relation) i.distinct.2)))
      (λ l fine. gives_sub (λ n h. inr h) (related_gives w frame l fine relation (right i)))

  related_gives : (w : World) (frame : ℕ) (l : Typed) → Fine w.y.f l → (r : RelationTree) → Inside w.y (relation_node r)
      → Gives w (Has (relation_node r)) (related frame l r)
  related_gives w frame l fine tree.without_relation i = given_value l fine
  related_gives w frame l fine (tree.a_relation operator x) i =
      let here = (relational_token-in operator (every_has (relational_node operator))).is in
      after _ (any (simple-touches frame x (everywhere (simple_node x))))
      (λ r. operated_gives _ (relational_token operator) l r (inl here) (i.low (relational_token operator) (inl here)))

  simple_gives : (w : World) (frame : ℕ) (s : SimpleTree) → Inside w.y (simple_node s) → Gives w (Has (simple_node s)) (simple frame s)
  simple_gives w frame (tree.a_simple sign first others) i =
      let a = sign_node sign in
      let b = term_node first in
      let c = terms_node others in
      one_then {P = Has b} (any (term-touches frame first (everywhere b))) (term_gives w frame first (left (right i))) (λ n h. inr (inl h))
      (λ t. bind_kept (kept (signed-touches sign t (every_off b a (λ n h g. i.distinct.2 n g (inl h)))))
      (λ one. kept (terms-touches frame one others (every_off b c i.distinct.1.2))))
      (λ t fine. one_then {P = Has a} (any (signed-touches sign t (everywhere a)))
      (signed_gives sign t fine (every_has a) (λ n h. i.low n (inl h))) (λ n h. inl h)
      (λ one. kept (terms-touches frame one others (every_off a c (λ n h g. i.distinct.2 n h (inr g)))))
      (λ one f. gives_sub (λ n h. inr (inr h)) (terms_gives w frame one f others (right (right i)))))

  terms_gives : (w : World) (frame : ℕ) (t : Typed) → Fine w.y.f t → (r : TermTrees) → Inside w.y (terms_node r)
      → Gives w (Has (terms_node r)) (terms frame t r)
  terms_gives w frame t fine tree.end_of_terms i = given_value t fine
  terms_gives w frame t fine (tree.more_terms operator x rest) i =
      let a = adding_node operator in
      let token = adding_token operator in
      let here = (adding_token-in operator (every_has a)).is in
      one_then {P = Has a} (any (bind-touches (term-touches frame x (everywhere (term_node x))) (λ u. operated-touches _ token t u (anywhere token))))
      (after _ (any (term-touches frame x (everywhere (term_node x))))
      (λ u. operated_gives _ token t u here (i.low token (inl (inl here))))) (λ n h. inl (inl h))
      (λ u. kept (terms-touches frame u rest (every_off a (terms_node rest) (λ n h g. i.distinct.2 n (inl h) g))))
      (λ u f. gives_sub (λ n h. inr h) (terms_gives w frame u f rest (right i)))

  term_gives : (w : World) (frame : ℕ) (t : TermTree) → Inside w.y (term_node t) → Gives w (Has (term_node t)) (term frame t)
  term_gives w frame (tree.a_term first others) i =
      one_then {P = Has (factor_node first)} (any (factor-touches frame first (everywhere (factor_node first)))) (factor_gives w frame first (left i))
      (λ n h. inl h)
      (λ f. kept (factors-touches frame f others (every_off (factor_node first) (factors_node others) i.distinct.2)))
      (λ f fine. gives_sub (λ n h. inr h) (factors_gives w frame f fine others (right i)))

  factors_gives : (w : World) (frame : ℕ) (f : Typed) → Fine w.y.f f → (r : FactorTrees) → Inside w.y (factors_node r)
      → Gives w (Has (factors_node r)) (factors frame f r)
  factors_gives w frame f fine tree.end_of_factors i = given_value f fine
  factors_gives w frame f fine (tree.more_factors operator x rest) i =
      let a = multiplying_node operator in
      let token = multiplying_token operator in
      let here = (multiplying_token-in operator (every_has a)).is in
      one_then {P = Has a} (any (bind-touches (factor-touches frame x (everywhere (factor_node x))) (λ u. operated-touches _ token f u (anywhere token))))
      (after _ (any (factor-touches frame x (everywhere (factor_node x))))
      (λ u. operated_gives _ token f u here (i.low token (inl (inl here))))) (λ n h. inl (inl h))
      (λ u. kept (factors-touches frame u rest (every_off a (factors_node rest) (λ n h g. i.distinct.2 n (inl h) g))))
      (λ u g. gives_sub (λ n h. inr h) (factors_gives w frame u g rest (right i)))

  factor_gives : (w : World) (frame : ℕ) (f : FactorTree) → Inside w.y (factor_node f) → Gives w (Has (factor_node f)) (factor frame f)
  factor_gives w frame (tree.a_number token) i = number_gives token refl (i.low token refl)
  factor_gives w frame (tree.a_text token) i = text_gives token refl (i.low token refl)
  factor_gives w frame (tree.a_nil token) i = nil_gives token refl (i.low token refl)
  factor_gives w frame (tree.an_access name selectors) i =
      one_then {P = λ n. name ≡ n} (any (root_name-touches frame (is_name selectors) name (anywhere name)))
      (root_gives frame (is_name selectors) name refl (i.low name (inl refl))) (λ n h. inl h)
      (λ one. kept (selected-touches frame one selectors
      (every_by (Off (λ n. name ≡ n)) (selectors_node selectors) (λ n h e. i.distinct.2 n e h))))
      (λ one f. gives_sub (λ n h. inr h) (selected_gives w frame one f selectors (right i)))
  factor_gives w frame (tree.a_call name (tree.argument_list open' first others close)) i =
      call_gives w frame name open' first others close (λ n h e. i.distinct.2 n e (inr (inl h))) (λ n h g. i.distinct.1.1.2 n h (inl g))
      (i.low name (inl refl)) (expression_gives w frame first (left (right (right i))))
  factor_gives w frame (tree.a_paren open' e close) i =
      one_then {P = Has (expression_node e)} (any (expression-touches frame e (everywhere (expression_node e))))
      (expression_gives w frame e (left (right i))) (λ n h. inr (inl h))
      (λ v. kept (give-touches (bracketed v))) (λ v f. given_value (bracketed v) (bracket_fine v f))
  factor_gives w frame (tree.a_set m) i = constructor_gives w frame m i
  factor_gives w frame (tree.a_not word x) i =
      one_then {P = Has (factor_node x)} (any (factor-touches frame x (everywhere (factor_node x)))) (factor_gives w frame x (right i)) (λ n h. inr h)
      (λ v. kept (negated-touches word v (record { is = λ h. i.distinct.2 word refl h })))
      (λ v f. negated_gives word v f (inl refl) (i.low word (inl refl)))

  selected_gives : (w : World) (frame : ℕ) (p : Typed) → Fine w.y.f p → (ss : SelectorTrees) → Inside w.y (selectors_node ss)
      → Gives w (Has (selectors_node ss)) (selected frame p ss)
  selected_gives w frame p fine tree.end_of_selectors i = given_value p fine
  selected_gives w frame p fine (tree.more_selectors s rest) i =
      one_then {P = Has (selector_node s)} (any (selector-touches frame p s (everywhere (selector_node s)))) (selector_gives w frame p s (left i))
      (λ n h. inl h)
      (λ next. kept (selected-touches frame next rest (every_off (selector_node s) (selectors_node rest) i.distinct.2)))
      (λ next f. gives_sub (λ n h. inr h) (selected_gives w frame next f rest (right i)))

  selector_gives : (w : World) (frame : ℕ) (p : Typed) (s : SelectorTree) → Inside w.y (selector_node s) → Gives w (Has (selector_node s)) (selector frame p s)
  selector_gives w frame p (tree.an_index (tree.index_list open' first others close)) i =
      let e = expression_node first in
      one_then {P = λ n. open' ≡ n}
      (any (bind-touches (expression-touches frame first (everywhere e))
      (λ x. indexed-touches p open' (first_of_expression first) x (anywhere open') (anywhere (first_of_expression first)))))
      (after _ (any (expression-touches frame first (everywhere e)))
      (λ x. indexed_gives p open' (first_of_expression first) x refl (i.low open' (inl refl)))) (λ n h. inl h)
      (λ next. kept (more_indexes-touches frame next others
      (every_by (Off (λ n. open' ≡ n)) (expressions_node others) (λ n h eq. i.distinct.2 n eq (inr (inl h))))))
      (λ next f. gives_sub (λ n h. inr (inr (inl h))) (more_indexes_gives w frame next f others (left (right (right i)))))
  selector_gives w frame p (tree.a_field dot name) i = field_gives p dot name (inr refl) (i.low name (inr refl))
  selector_gives w frame p (tree.a_caret caret) i = caret_gives p caret refl (i.low caret refl)

  more_indexes_gives : (w : World) (frame : ℕ) (p : Typed) → Fine w.y.f p → (r : ExpressionTrees) → Inside w.y (expressions_node r)
      → Gives w (Has (expressions_node r)) (more_indexes frame p r)
  more_indexes_gives w frame p fine tree.end_of_expressions i = given_value p fine
  more_indexes_gives w frame p fine (tree.more_expressions comma e rest) i =
      one_then {P = λ n. comma ≡ n}
      (any (bind-touches (expression-touches frame e (everywhere (expression_node e)))
      (λ x. indexed-touches p comma (first_of_expression e) x (anywhere comma) (anywhere (first_of_expression e)))))
      (after _ (any (expression-touches frame e (everywhere (expression_node e))))
      (λ x. indexed_gives p comma (first_of_expression e) x refl (i.low comma (inl (inl refl))))) (λ n h. inl (inl h))
      (λ next. kept (more_indexes-touches frame next rest
      (every_by (Off (λ n. comma ≡ n)) (expressions_node rest) (λ n h eq. i.distinct.2 n (inl eq) h))))
      (λ next f. gives_sub (λ n h. inr h) (more_indexes_gives w frame next f rest (right i)))

  constructor_gives : (w : World) (frame : ℕ) (m : MembersTree) → Inside w.y (members_node m) → Gives w (Has (members_node m)) (constructor frame m)
  constructor_gives w frame (tree.empty_members open' close) i = set_gives (nothing_gathered close) 0 close refl (inr refl) (i.low close (inr refl))
  constructor_gives w frame (tree.some_members open' first others close) i =
      let a = member_node first in
      let b = more_members_node others in
      set_then {P = λ n. (open' ≡ n) ⊎ Has a n}
      (any (member-touches frame (nothing_gathered close) open' first (anywhere open') (everywhere a)))
      (member_collects w frame (nothing_gathered close) refl open' first (left (right i)) (i.low open' (inl refl)) (λ h. i.distinct.2 open' refl (inl h)))
      (λ n h. elim h [
        | inl eq ↦ inl eq
        | inr g ↦ inr (inl g)
      ])
      (λ one. kept (bind-touches (more_members-touches frame one others (every_by (Off (λ n. (open' ≡ n) ⊎ Has a n)) b (λ n h p. elim p [
        | inl eq ↦ i.distinct.2 n eq (inr (inl h))
        | inr g ↦ i.distinct.1.2 n g (inl h)
      ]))) (λ all. set_constructor-touches all open' close (record {
        is = λ p. elim p [
          | inl eq ↦ i.distinct.2 close eq (inr (inr refl))
          | inr g ↦ i.distinct.1.2 close g (inr refl)
        ];
      }))))
      (λ one known. set_then {P = Has b} (any (more_members-touches frame one others (everywhere b)))
      (more_members_collect w frame one known others (left (right (right i)))) (λ n h. inr (inr (inl h)))
      (λ all. kept (set_constructor-touches all open' close (record { is = λ h. i.distinct.1.1.2 close h refl })))
      (λ all all-known. set_gives all open' close all-known (inr (inr (inr refl))) (i.low close (inr (inr (inr refl))))))

  more_members_collect : (w : World) (frame : ℕ) (g : Gathered) → g.known ≡ true → (r : MemberTrees) → Inside w.y (more_members_node r)
      → Collects w (Has (more_members_node r)) (more_members frame g r)
  more_members_collect w frame g known tree.end_of_members i = given_members g known
  more_members_collect w frame g known (tree.more_members comma m rest) i =
      let a = member_node m in
      members_then {P = λ n. (comma ≡ n) ⊎ Has a n} (any (member-touches frame g comma m (anywhere comma) (everywhere a)))
      (member_collects w frame g known comma m (right (left i)) (i.low comma (inl (inl refl))) (λ h. i.distinct.0.2 comma refl h)) (λ n h. inl h)
      (λ next. kept (more_members-touches frame next rest
      (every_by (Off (λ n. (comma ≡ n) ⊎ Has a n)) (more_members_node rest) (λ n h p. i.distinct.2 n p h))))
      (λ next next-known. collects_sub (λ n h. inr h) (more_members_collect w frame next next-known rest (right i)))

  member_collects : (w : World) (frame : ℕ) (g : Gathered) → g.known ≡ true → (slot : ℕ) (m : MemberTree) → Inside w.y (member_node m)
      → suc slot < length w.y.k.words → (Has (member_node m) slot → ⊥) → Collects w (λ n. (slot ≡ n) ⊎ Has (member_node m) n) (member frame g slot m)
  member_collects w frame g known slot (tree.a_member first last) i low off =
      value_then {P = Has (expression_node first)} (any (expression-touches frame first (everywhere (expression_node first))))
      (expression_gives w frame first (left i)) (λ n h. inr (inl h))
      (λ v. end_kept frame g (record { slot = slot; first = first_of_expression first; value = v }) last (record { is = λ h. off (inl h) })
      (every_off (expression_node first) (range_end_node last) i.distinct.2))
      (λ v f. collects_sub (λ n h. elim h [
        | inl eq ↦ inl eq
        | inr g ↦ inr (inr g)
      ]) (end_collects w frame g known (record { slot = slot; first = first_of_expression first; value = v }) f last (right i) low (λ h. off (inr h))))

  end_collects : (w : World) (frame : ℕ) (g : Gathered) → g.known ≡ true → (b : MemberStart) → Fine w.y.f b.value → (last : RangeTree)
      → Inside w.y (range_end_node last) → suc b.slot < length w.y.k.words → (Has (range_end_node last) b.slot → ⊥)
      → Collects w (λ n. (b.slot ≡ n) ⊎ Has (range_end_node last) n) (range frame g b last)
  end_collects w frame g known b fine tree.without_range i low off = one_collects g b known fine (inl refl) low
  end_collects w frame g known b fine (tree.a_range dots e) i low off =
      value_then {P = Has (expression_node e)} (any (expression-touches frame e (everywhere (expression_node e))))
      (expression_gives w frame e (right i)) (λ n h. inr (inr h))
      (λ v. range_kept g b v (record { is = λ h. off (inr h) }))
      (λ v f. range_collects g b v known fine f (inl refl) low)
