-- Where no rule is broken, the row of an access stands at the end, with a type that is there.
use Rattle.std.proofs.Common.{if◌then◌else◌, ◌++◌, ◌<◌, ◌∙◌, ◌∷◌, ◌≡◌, [], ℕ, None, Option, Some, ap, false, inl, inr, is_some, length, refl, subst, suc, sym}
use Rattle.std.proofs.Common.{true}
use Rattle.pas_tree.specs.ExpressionPlaces.{first_of_expression}
use Rattle.pas_tree.specs.ExpressionTrees.{AccessTree, ExpressionTrees, SelectorTree, SelectorTrees}
use Rattle.pas_tree.specs.ExpressionTrees as tree
use Rattle.pas_tree.specs.TreeNodes.{access_node, expression_node, expressions_node, selector_node, selectors_node}
use Rattle.core_program.specs.WholeTables.{RowFits, type_accessed}
use Rattle.core_program.specs.declared.rows.{AccessRow.AccessRow, NameRow.NameRow, Row.Row, TypeRow.TypeRow}
use Rattle.check_steps.specs.{Known.Known, Known.row_at, Known.type_at, Known.with_row, Names.use_again}
use Rattle.check_steps.specs.Steps.{◌>>=◌, Step, ask, change, give, look}
use Rattle.kind_checker.specs.declared.shapes.ExpressionType.{ExpressionType}
use Rattle.expression_checker.specs.Expressions.{access, more_indexes, selected, selector}
use Rattle.expression_checker.specs.Names.{accessed_as, is_variable, meaning_of, variable}
use Rattle.expression_checker.specs.Selectors.{component_at, dereference_row, dereferenced, domain_at, field_access, field_named, field_row, has_field}
use Rattle.expression_checker.specs.Selectors.{index_row, indexed, is_array, is_index, is_pointer, is_record, selected_field, type_row}
use Rattle.expression_checker.specs.declared.{names.Meaning.Meaning, selectors.SelectedField.SelectedField, typed.Location.Location, typed.Typed.Typed}
use Rattle.rule_laws.proofs.{ExpressionNames.variable-touches, ExpressionSelectors.indexed-touches, ExpressionTypes.World, Faces.face, Faces.loose, Kept.Kept}
use Rattle.rule_laws.proofs.{Kept.kept, LabelTold.Anywhere, LabelTold.anywhere, LabelTold.everywhere, NamesFound.Ahead, NamesFound.ahead_before}
use Rattle.rule_laws.proofs.{Seats.every_has as every_by, SelectorTypes.access_there, Stood.Stood, Stood.stood_later, Touches.bind-touches}
use Rattle.rule_laws.proofs.ExpressionExpressions.{expression-touches, more_indexes-touches, selected-touches, selector-touches}
use Rattle.rule_laws.proofs.ExpressionRows.{asked_fine, left_none, put_same, right_none, use_found}
use Rattle.rule_laws.proofs.ExpressionValues.{Means, any, means, slot_put, used_stood}
use Rattle.rule_laws.proofs.RowsPut.{dereference_none, field_none, index_none}
use Rattle.rule_laws.proofs.Settled.{Inside, Off, Settled, every_off, left, right, settled_before, settled_sub}
use Rattle.rule_laws.specs.{CaseLaws.late_at, Tokens.Has}

pub record Accessed (f : Known) (v : Typed) : Type 0 where
  pub row : AccessRow
  pub is : row_at f v.row ≡ Row.Access row
  pub of : v.of ≡ ExpressionType.Of (type_accessed row)
  pub there : is_some (type_at f (type_accessed row)) ≡ true

pub record Reaches (w : World) (Q : ℕ → Type 0) (m : Step Typed) : Type 0 where
  pub of : (j : Known) → Stood w.y.f j → (m j).broken ≡ [] → Settled w.y Q (m j).known → Accessed w.y.f (m j).value

-- ---- steps

reaches_sub : {w : World} {P Q : ℕ → Type 0} {m : Step Typed} → ((n : ℕ) → P n → Q n) → Reaches w P m → Reaches w Q m
reaches_sub {w = w} {P = P} {Q = Q} {m = m} sub h = record { of = λ j st none s. h.of j st none (settled_sub w.y P Q (m j).known sub s) }

given_access : {w : World} {Q : ℕ → Type 0} (v : Typed) → Accessed w.y.f v → Reaches w Q (give v)
unfolding give
given_access v h = record { of = λ j st none s. h }

reach_after : {w : World} {Q : ℕ → Type 0} {A : Type 0} (m : Step A) {f : A → Step Typed} → Kept Anywhere m → ((a : A) → Reaches w Q (f a))
    → Reaches w Q (m >>= f)
unfolding ◌>>=◌
reach_after {w = w} m {f = f} still g = record {
  of = λ j st none s.
      let d = m j in
      (g d.value).of d.known (stood_later w.y.f j d.known (still.same j) st) (right_none d.broken (f d.value d.known).broken none) s;
}

reach_then : {w : World} {P Q : ℕ → Type 0} {m : Step Typed} {f : Typed → Step Typed} → Kept Anywhere m → Reaches w P m → ((n : ℕ) → P n → Q n)
    → ((v : Typed) → Kept (Off P) (f v)) → ((v : Typed) → Accessed w.y.f v → Reaches w Q (f v)) → Reaches w Q (m >>= f)
unfolding ◌>>=◌
reach_then {w = w} {P = P} {Q = Q} {m = m} {f = f} still h sub off g = record {
  of = λ j st none s.
      let d = m j in
      let e = f d.value d.known in
      let one = h.of j st (left_none d.broken e.broken none)
      (settled_before w.y P d.known e.known ((off d.value).same d.known) (settled_sub w.y P Q e.known sub s)) in
      (g d.value one).of d.known (stood_later w.y.f j d.known (still.same j) st) (right_none d.broken e.broken none) s;
}

-- ---- a row that is put

access_seen : (r : Row) (a : AccessRow) → face loose r ≡ Row.Access a → r ≡ Row.Access a
access_seen (Row.Name (NameRow.Label marked value level ways)) a e = absurd cc
access_seen (Row.Name (NameRow.Routine assigned number region)) a e = absurd cc
access_seen (Row.Name n) a e = absurd cc
access_seen (Row.Item i) a e = absurd cc
access_seen r a e = e

put_access : (w : World) (Q : ℕ → Type 0) (k : Known) (n : ℕ) (a : AccessRow) (of' : ℕ) (l : Location) → Q n → suc n < length w.y.k.words
    → type_accessed a ≡ of' → Settled w.y Q (with_row k n (Row.Access a))
    → Accessed w.y.f (record { row = n; of = ExpressionType.Of of'; location = l })
put_access w Q k n a of' l here low same s =
    let is = access_seen (row_at w.y.f n) a (slot_put w Q k n (Row.Access a) here low s) in
    record {
      row = a;
      is = is;
      of = ap (λ t. ExpressionType.Of t) (sym same);
      there = access_there w.y.f.program n a (subst (λ x. RowFits w.y.f.program n x) is (w.whole.rows n));
    }

-- ---- variables

accessed_reaches : {w : World} {Q : ℕ → Type 0} (name : ℕ) (m : Meaning) → Q name → suc name < length w.y.k.words → Means w.y.f m → is_variable m ≡ true
    → Reaches w Q (accessed_as name m)
unfolding ◌>>=◌ change give
accessed_reaches name Meaning.Unknown here low is e = absurd is
accessed_reaches {w = w} {Q = Q} name (Meaning.Variable r of' l) here low is e = record { of = λ j st none s. put_access w Q j name r of' l here low is s }
accessed_reaches name m here low is e = absurd (let never : false ≡ true = e in cc)

variable_reaches : {w : World} {Q : ℕ → Type 0} (frame name : ℕ) → Q name → suc name < length w.y.k.words → Reaches w Q (variable frame name)
unfolding variable ◌>>=◌ look ask
variable_reaches {w = w} frame name here low = record {
  of = λ j st none s.
      let d = use_again frame name j in
      let m = meaning_of d.known frame d.value in
      let last = (accessed_as name m d.known).broken in
      let rest = right_none d.broken _ none in
      let fine = asked_fine (is_variable m) _ (left_none _ last rest) in
      let later = used_stood w frame name j st in
      let u = use_found frame name j (left_none d.broken _ none) in
      (accessed_reaches {w = w} name m here low (means w d.known later frame d.value u) fine).of d.known later (right_none _ last rest) s;
}

-- ---- selectors

row_there : (f j : Known) → Ahead f j → (p : Typed) → Accessed f p → is_some (type_row j p.of) ≡ true
row_there f j ahead p a =
    subst (λ x. is_some (type_row j x) ≡ true) (sym a.of) (ap is_some (ahead.types (type_accessed a.row) a.there) ∙ a.there)

component_reached : (w : World) (Q : ℕ → Type 0) (k : Known) (r : Option TypeRow) → is_some r ≡ true → is_array r ≡ true → (p i : Typed) (n : ℕ) → Q n
    → suc n < length w.y.k.words → Settled w.y Q (with_row k n (index_row r p i)) → Accessed w.y.f (component_at r n)
component_reached w Q k None some fits p i n here low s = absurd (let never : false ≡ true = some in cc)
component_reached w Q k (Some (TypeRow.Array packed index component cells)) some fits p i n here low s =
    put_access w Q k n _ component _ here low refl s
component_reached w Q k (Some (TypeRow.Conformant packed index component place)) some fits p i n here low s =
    put_access w Q k n _ component _ here low refl s
component_reached w Q k (Some t) some fits p i n here low s = absurd (let never : false ≡ true = fits in cc)

indexed_reaches : {w : World} {Q : ℕ → Type 0} (p : Typed) → Accessed w.y.f p → (bracket first : ℕ) (i : Typed) → Q bracket
    → suc bracket < length w.y.k.words → Reaches w Q (indexed p bracket first i)
unfolding indexed look ◌>>=◌ ask change give
indexed_reaches {w = w} {Q = Q} p a bracket first i here low = record {
  of = λ j st none s.
      let r = type_row j p.of in
      let ok = is_index j r i.of in
      let k = with_row j bracket (index_row r p i) in
      let fine = asked_fine (is_array r) (late_at 23 bracket) (left_none (if is_array r then [] else late_at 23 bracket ∷ [])
      ((if ok then [] else late_at 25 first ∷ []) ++ []) none) in
      component_reached w Q j r
      (row_there w.y.f j (ahead_before w.y.f j k (put_same j bracket (index_row r p i) (index_none r p i)) s.ahead) p a) fine p i bracket here low s;
}

field_reached : (w : World) (Q : ℕ → Type 0) (k : Known) (r : Option TypeRow) → is_some r ≡ true → is_record r ≡ true → (p : Typed) (n : ℕ)
    (f : Option SelectedField) → has_field r f ≡ true → Q n → suc n < length w.y.k.words → Settled w.y Q (with_row k n (field_row p f))
    → Accessed w.y.f (field_access n f)
field_reached w Q k None some fits p n f has here low s = absurd (let never : false ≡ true = some in cc)
field_reached w Q k (Some (TypeRow.Record packed region cells variants)) some fits p n (Some f) has here low s =
    put_access w Q k n _ f.of _ here low refl s
field_reached w Q k (Some (TypeRow.Record packed region cells variants)) some fits p n None has here low s =
    absurd (let never : false ≡ true = has in cc)
field_reached w Q k (Some t) some fits p n f has here low s = absurd (let never : false ≡ true = fits in cc)

field_reaches : {w : World} {Q : ℕ → Type 0} (p : Typed) → Accessed w.y.f p → (dot name : ℕ) → Q name → suc name < length w.y.k.words
    → Reaches w Q (selected_field p dot name)
unfolding selected_field look ◌>>=◌ ask change give
field_reaches {w = w} {Q = Q} p a dot name here low = record {
  of = λ j st none s.
      let r = type_row j p.of in
      let f = field_named j r name in
      let k = with_row j name (field_row p f) in
      let rest = (if has_field r f then [] else late_at 24 name ∷ []) ++ [] in
      let fine = asked_fine (is_record r) (late_at 23 dot) (left_none (if is_record r then [] else late_at 23 dot ∷ []) rest none) in
      let has = asked_fine (has_field r f) (late_at 24 name) (left_none (if has_field r f then [] else late_at 24 name ∷ []) []
      (right_none (if is_record r then [] else late_at 23 dot ∷ []) rest none)) in
      field_reached w Q j r (row_there w.y.f j (ahead_before w.y.f j k (put_same j name (field_row p f) (field_none p f)) s.ahead) p a) fine p name f has
      here low s;
}

domain_reached : (w : World) (Q : ℕ → Type 0) (k : Known) (r : Option TypeRow) → is_some r ≡ true → is_pointer r ≡ true → (p : Typed) (n : ℕ) → Q n
    → suc n < length w.y.k.words → Settled w.y Q (with_row k n (dereference_row r p)) → Accessed w.y.f (domain_at r n)
domain_reached w Q k None some fits p n here low s = absurd (let never : false ≡ true = some in cc)
domain_reached w Q k (Some (TypeRow.Pointer domain)) some fits p n here low s = put_access w Q k n _ domain _ here low refl s
domain_reached w Q k (Some t) some fits p n here low s = absurd (let never : false ≡ true = fits in cc)

caret_reaches : {w : World} {Q : ℕ → Type 0} (p : Typed) → Accessed w.y.f p → (caret : ℕ) → Q caret → suc caret < length w.y.k.words
    → Reaches w Q (dereferenced p caret)
unfolding dereferenced look ◌>>=◌ ask change give
caret_reaches {w = w} {Q = Q} p a caret here low = record {
  of = λ j st none s.
      let r = type_row j p.of in
      let k = with_row j caret (dereference_row r p) in
      let fine = asked_fine (is_pointer r) (late_at 23 caret) (left_none (if is_pointer r then [] else late_at 23 caret ∷ []) [] none) in
      domain_reached w Q j r
      (row_there w.y.f j (ahead_before w.y.f j k (put_same j caret (dereference_row r p) (dereference_none r p)) s.ahead) p a) fine p caret here low s;
}

more_indexes_reach : (w : World) (frame : ℕ) (p : Typed) → Accessed w.y.f p → (r : ExpressionTrees) → Inside w.y (expressions_node r)
    → Reaches w (Has (expressions_node r)) (more_indexes frame p r)
more_indexes_reach w frame p a tree.end_of_expressions i = given_access p a
more_indexes_reach w frame p a (tree.more_expressions comma e rest) i =
    reach_then {P = λ n. comma ≡ n}
    (any (bind-touches (expression-touches frame e (everywhere (expression_node e)))
    (λ x. indexed-touches p comma (first_of_expression e) x (anywhere comma) (anywhere (first_of_expression e)))))
    (reach_after _ (any (expression-touches frame e (everywhere (expression_node e))))
    (λ x. indexed_reaches {w = w} p a comma (first_of_expression e) x refl (i.low comma (inl (inl refl))))) (λ n h. inl (inl h))
    (λ next. kept (more_indexes-touches frame next rest
    (every_by (Off (λ n. comma ≡ n)) (expressions_node rest) (λ n h eq. i.distinct.2 n (inl eq) h))))
    (λ next b. reaches_sub (λ n h. inr h) (more_indexes_reach w frame next b rest (right i)))

selector_reaches : (w : World) (frame : ℕ) (p : Typed) → Accessed w.y.f p → (s : SelectorTree) → Inside w.y (selector_node s)
    → Reaches w (Has (selector_node s)) (selector frame p s)
selector_reaches w frame p a (tree.an_index (tree.index_list open' first others close)) i =
    let e = expression_node first in
    reach_then {P = λ n. open' ≡ n}
    (any (bind-touches (expression-touches frame first (everywhere e))
    (λ x. indexed-touches p open' (first_of_expression first) x (anywhere open') (anywhere (first_of_expression first)))))
    (reach_after _ (any (expression-touches frame first (everywhere e)))
    (λ x. indexed_reaches {w = w} p a open' (first_of_expression first) x refl (i.low open' (inl refl)))) (λ n h. inl h)
    (λ next. kept (more_indexes-touches frame next others
    (every_by (Off (λ n. open' ≡ n)) (expressions_node others) (λ n h eq. i.distinct.2 n eq (inr (inl h))))))
    (λ next b. reaches_sub (λ n h. inr (inr (inl h))) (more_indexes_reach w frame next b others (left (right (right i)))))
selector_reaches w frame p a (tree.a_field dot name) i = field_reaches {w = w} p a dot name (inr refl) (i.low name (inr refl))
selector_reaches w frame p a (tree.a_caret caret) i = caret_reaches {w = w} p a caret refl (i.low caret refl)

selected_reaches : (w : World) (frame : ℕ) (p : Typed) → Accessed w.y.f p → (ss : SelectorTrees) → Inside w.y (selectors_node ss)
    → Reaches w (Has (selectors_node ss)) (selected frame p ss)
selected_reaches w frame p a tree.end_of_selectors i = given_access p a
selected_reaches w frame p a (tree.more_selectors s rest) i =
    reach_then {P = Has (selector_node s)} (any (selector-touches frame p s (everywhere (selector_node s)))) (selector_reaches w frame p a s (left i))
    (λ n h. inl h)
    (λ next. kept (selected-touches frame next rest (every_off (selector_node s) (selectors_node rest) i.distinct.2)))
    (λ next b. reaches_sub (λ n h. inr h) (selected_reaches w frame next b rest (right i)))

pub access_reaches : (w : World) (frame : ℕ) (a : AccessTree) → Inside w.y (access_node a) → Reaches w (Has (access_node a)) (access frame a)
access_reaches w frame a i =
    reach_then {P = λ n. a.name ≡ n} (any (variable-touches frame a.name (anywhere a.name)))
    (variable_reaches {w = w} frame a.name refl (i.low a.name (inl refl))) (λ n h. inl h)
    (λ one. kept (selected-touches frame one a.selectors
    (every_by (Off (λ n. a.name ≡ n)) (selectors_node a.selectors) (λ n h e. i.distinct.2 n e h))))
    (λ one b. reaches_sub (λ n h. inr h) (selected_reaches w frame one b a.selectors (right i)))
