-- Which functions break rule 12.
use Rattle.std.proofs.Common.{if◌then◌else◌, ◌++◌, ◌-◌, ◌<◌, ◌||◌, ◌∙◌, ◌∷◌, ◌≡◌, [], ℕ, All, Bool, List, Some, ap, arith, false, inl, inr, length, refl, subst}
use Rattle.std.proofs.Common.{sym, true}
use Rattle.std.proofs.lemmas.List.Elements.{All-cons, All-head, All-nil, All-tail}
use Rattle.grammar.specs.Nodes.{spell}
use Rattle.pas_tree.specs.{HeadingPlaces.heading_name, StatementTrees.CompoundTree, StatementTrees.compound_body, TreeNodes.compound_node}
use Rattle.pas_tree.specs.BlockTrees.{BlockTree, BodyTree, RoutineTrees}
use Rattle.pas_tree.specs.BlockTrees as tree
use Rattle.check_steps.specs.{Known.Known, Steps.◌>>=◌, Steps.Step, Steps.ask, Steps.look, declared.breaks.Break.Break, declared.regions.Span.Span}
use Rattle.denoter_checker.specs.Formals.{is_function}
use Rattle.decl_checker.specs.Routines.{own_frame}
use Rattle.statement_checker.specs.{Assignments.assigned_in, Assignments.is_assigned, Assignments.is_inside_from, Statements.compound}
use Rattle.code_checker.specs.{CodePlaces.span_of, Results.function_result, Results.has_result, Results.name_in_first}
use Rattle.code_checker.specs.Blocks.{code_block, code_body, code_routines, statement_part}
use Rattle.rule_laws.proofs.{Every.Every, Faces.assigning, Faces.loose, Once.every_has, Parts.compound-in, ResultStatements.compound_sets}
use Rattle.rule_laws.proofs.{StatementLabels.reach_all-touches, StatementStatements.compound-touches}
use Rattle.rule_laws.proofs.Breaks.{In, contained, found, in_either, in_right}
use Rattle.rule_laws.proofs.ResultSets.{PartAt, Room, or_assoc, or_false, room_left, room_right, search_of}
use Rattle.rule_laws.proofs.ResultTurns.{IsSpot, Spot, Turn, beside, first_alike, frame_alike, not_told, turn_after}
use Rattle.rule_laws.proofs.Touches.{Touches, enter_block-touches, give-touches, no_longer}
use Rattle.rule_laws.specs.{CaseLaws.late_at, FunctionAssignments.compound_assigns, ResultLaws.FunctionsTellAssignments, ResultLaws.IsOtherWithin, Tokens.Has}
use Rattle.rule_laws.specs.FunctionResults.{block_assigns, body_assigns, names_of_body, names_of_routines, names_within, routines_assign, statements_of_body}
use Rattle.rule_laws.specs.FunctionResults.{statements_of_routines, statements_within}

-- ---- steps in which something is assigned to the function, or nothing

record Assigns (p : Spot) (is : IsSpot p) (assigns : Bool) {A : Type 0} (m : Step A) : Type 0 where
  turn : (seen : Bool) (j : Known) → Turn p is seen j → Turn p is (seen || assigns) (m j).known
  none : (seen : Bool) (j : Known) → Turn p is seen j → In (late_at 12 p.name) (m j).broken → ⊥

assigns_then : {p : Spot} {is : IsSpot p} {a b : Bool} {A B : Type 0} {m : Step A} {f : A → Step B} → Assigns p is a m → ((x : A) → Assigns p is b (f x))
    → Assigns p is (a || b) (m >>= f)
unfolding ◌>>=◌
assigns_then {p = p} {is = is} {a = a} {b = b} {m = m} {f = f} h g = record {
  turn = λ seen j t.
      let d = m j in
      subst (λ c. Turn p is c (f d.value d.known).known) (or_assoc seen a b) ((g d.value).turn (seen || a) d.known (h.turn seen j t));
  none = λ seen j t i.
      let d = m j in
      elim (in_either (late_at 12 p.name) d.broken (f d.value d.known).broken i) [
        | inl l ↦ h.none seen j t l
        | inr r ↦ (g d.value).none (seen || a) d.known (h.turn seen j t) r
      ];
}

assigns_after : {p : Spot} {is : IsSpot p} {a : Bool} {A B : Type 0} {m : Step A} {f : A → Step B} → Assigns p is a m → ((x : A) → Assigns p is false (f x))
    → Assigns p is a (m >>= f)
assigns_after {p = p} {is = is} {a = a} {m = m} {f = f} h g = subst (λ b. Assigns p is b (m >>= f)) (or_false a) (assigns_then h g)

assigns_looked : {p : Spot} {is : IsSpot p} {b : Bool} {A B : Type 0} (P : A → Type 0) (f : Known → A) {g : A → Step B}
    → ((seen : Bool) (j : Known) → Turn p is seen j → P (f j)) → ((a : A) → P a → Assigns p is b (g a)) → Assigns p is b (look f >>= g)
unfolding look ◌>>=◌
assigns_looked P f says h = record {
  turn = λ seen j t. (h (f j) (says seen j t)).turn seen j t;
  none = λ seen j t i. (h (f j) (says seen j t)).none seen j t i;
}

assigns_calm : (p : Spot) (is : IsSpot p) {A : Type 0} {m : Step A} → Touches (Has p.part) assigning m → Assigns p is false m
assigns_calm p is {m = m} touches = record {
  turn = λ seen j t. subst (λ b. Turn p is b (m j).known) (sym (or_false seen)) (turn_after p is seen j (m j).known t (touches.same j));
  none = λ seen j t i. not_told p is assigning (m j).broken (touches.told j) i;
}

-- ---- statement parts

compound_assign : (a : PartAt) (c : CompoundTree) → Every (Has a.p.part) (compound_node c) → Room a.p [] (compound_node c)
    → Assigns a.p a.is (compound_assigns (search_of a) [] c) (compound a.block c)
compound_assign a c inside room = record {
  turn = λ seen j t. ((compound_sets a [] a.block c inside room).of seen j t refl).turn;
  none = λ seen j t i. not_told a.p a.is loose (compound a.block c j).broken ((compound-touches a.block c inside).told j) i;
}

part_assigns : (a : PartAt) (span : Span) (c : CompoundTree) → Every (Has a.p.part) (compound_node c) → Room a.p [] (compound_node c)
    → Assigns a.p a.is (compound_assigns (search_of a) [] c) (statement_part a.block span c)
unfolding statement_part
part_assigns a span c inside room =
    assigns_then (assigns_calm a.p a.is (enter_block-touches span)) (λ _.
    assigns_after (compound_assign a c inside room) (λ _. assigns_calm a.p a.is (give-touches tt)))

-- ---- what a function's block breaks

told_if : (x t : ℕ) (ok : Bool) → In (late_at 12 t) (if ok then [] else late_at 12 x ∷ []) → (x ≡ t) × (ok ≡ false)
told_if x t true i = absurd i
told_if x t false i = elim i [
  | inl e ↦ (ap (λ (b : Break). b.token) e, refl)
  | inr n ↦ absurd n
]

if_told : (t : ℕ) (ok : Bool) → ok ≡ false → In (late_at 12 t) (if ok then [] else late_at 12 t ∷ [])
if_told t true e = absurd (let never : true ≡ false = e in cc)
if_told t false e = inl refl

result_assigns : (p : Spot) (is : IsSpot p) (function : Bool) (name : ℕ) → (name ≡ p.name → ⊥) → Assigns p is false (function_result function name)
unfolding function_result look ◌>>=◌ ask
result_assigns p is function name other = record {
  turn = λ seen j t. subst (λ b. Turn p is b j) (sym (or_false seen)) t;
  none = λ seen j t i. other (told_if name p.name (has_result j function name) i).0;
}

-- ---- blocks

all_left : {X : Type 0} (P : X → Type 0) (xs ys : List X) → All P (xs ++ ys) → All P xs
all_left P [] ys h = All-nil P
all_left P (x ∷ xs) ys h = All-cons P x xs (All-head P x (xs ++ ys) h) (all_left P xs ys (All-tail P x (xs ++ ys) h))

all_right : {X : Type 0} (P : X → Type 0) (xs ys : List X) → All P (xs ++ ys) → All P ys
all_right P [] ys h = h
all_right P (x ∷ xs) ys h = all_right P xs ys (All-tail P x (xs ++ ys) h)

abbrev Others : Spot → ℕ → Type 0
Others p name = IsOtherWithin p.k p.part p.function p.name name

own_frame_still : (p : Spot) (is : IsSpot p) (seen : Bool) (j : Known) (name : ℕ) → Others p name → Turn p is seen j
    → own_frame j (name_in_first j name) ≡ own_frame p.k (name_in_first p.k name)
own_frame_still p is seen j name o t =
    ap (own_frame j) (first_alike p.k j name (t.rows name (beside p.k p.part name o.within.token)))
    ∙ frame_alike p.k j (name_in_first p.k name) t.regions (t.rows (name_in_first p.k name) (beside p.k p.part (name_in_first p.k name) o.within.first))

-- a block in that of the function
record Inner (p : Spot) (frame : ℕ) : Type 0 where
  below : frame < length p.k.frames
  here : is_inside_from (length p.k.words - length (spell p.part)) p.k (Some frame) p.function ≡ true

abbrev inner_part : (p : Spot) (is : IsSpot p) (frame : ℕ) → Inner p frame → PartAt
inner_part p is frame h = record { p = p; is = is; block = frame; below = h.below; here = h.here }

mutual
  block_assign : (p : Spot) (is : IsSpot p) (frame : ℕ) (b : BlockTree) → Inner p frame → Every (Has p.part) (statements_within b)
      → Room p [] (statements_within b) → All (Others p) (names_within b) → Assigns p is (block_assigns p.k p.function frame b) (code_block frame b)
  block_assign p is frame (tree.a_block labels constants types variables routines body) here inside room names =
      assigns_then (assigns_calm p is (reach_all-touches frame (compound_body body) (compound-in (Has p.part) body inside.1))) (λ _.
      assigns_then (routines_assigned p is routines inside.0 (room_left room) names) (λ _.
      part_assigns (inner_part p is frame here) (span_of (tree.a_block labels constants types variables routines body)) body inside.1 (room_right room)))

  routines_assigned : (p : Spot) (is : IsSpot p) (r : RoutineTrees) → Every (Has p.part) (statements_of_routines r)
      → Room p [] (statements_of_routines r) → All (Others p) (names_of_routines r) → Assigns p is (routines_assign p.k p.function r) (code_routines r)
  routines_assigned p is tree.end_of_routines inside room names = assigns_calm p is (give-touches tt)
  routines_assigned p is (tree.more_routines (tree.a_routine heading semicolon body last_semicolon) rest) inside room names =
      let own = names_of_body (heading_name heading) body in
      assigns_then (body_assign p is (is_function heading) (heading_name heading) body inside.0 (room_left room)
      (all_left (Others p) own (names_of_routines rest) names))
      (λ _. routines_assigned p is rest inside.1 (room_right room) (all_right (Others p) own (names_of_routines rest) names))

  body_assign : (p : Spot) (is : IsSpot p) (function : Bool) (name : ℕ) (body : BodyTree) → Every (Has p.part) (statements_of_body body)
      → Room p [] (statements_of_body body) → All (Others p) (names_of_body name body)
      → Assigns p is (body_assigns p.k p.function name body) (code_body function name body)
  body_assign p is function name (tree.a_directive directive) inside room names = assigns_calm p is (give-touches tt)
  body_assign p is function name (tree.a_block_body b) inside room names =
      let one = All-head (Others p) name (names_within b) names in
      let g = own_frame p.k (name_in_first p.k name) in
      let here : Inner p g = record { below = one.within.there; here = one.within.inside } in
      assigns_looked (λ frame. frame ≡ g) (λ j. own_frame j (name_in_first j name)) (λ seen j t. own_frame_still p is seen j name one t) (λ frame e.
      subst (λ f. Assigns p is (block_assigns p.k p.function g b) (code_block f b >>= λ _. function_result function name)) (sym e)
      (assigns_after (block_assign p is g b here inside room (All-tail (Others p) name (names_within b) names)) (λ _.
      result_assigns p is function name one.other)))

-- ---- the law

pub result_law : FunctionsTellAssignments
unfolding function_result look ◌>>=◌ ask
result_law k name (tree.a_directive directive) begun = absurd (let never : false ≡ true = begun.block in cc)
result_law k name (tree.a_block_body b) begun =
    let part = statements_within b in
    let first = name_in_first k name in
    let p : Spot = record { k = k; function = first; name = name; part = part } in
    let is : IsSpot p = record {
      its = begun.function;
      named = begun.named;
      declared = begun.declared;
      first = begun.own.first;
      apart = begun.own.token.none;
    } in
    let start : Turn p is false k = record {
      words = refl;
      regions = refl;
      frames = no_longer k.frames;
      routines = refl;
      rows = λ n h. refl;
      sayings = λ n. inr refl;
      types = λ n. refl;
      result = begun.function.row;
    } in
    let g = own_frame k first in
    let assigns = block_assigns k first g b in
    let here : Inner p g = record { below = begun.own.there; here = begun.own.inside } in
    let room : Room p [] part = record { enough = omega arith } in
    let sets = block_assign p is g b here (every_has part) room begun.inner in
    let d = code_block g b k in
    let t : Turn p is assigns d.known = sets.turn false k start in
    let fine : has_result d.known true name ≡ assigns =
    ap (λ n. is_assigned d.known n) (first_alike k d.known name (t.rows name (beside k part name begun.own.token))) ∙ ap assigned_in t.result in
    let last = if has_result d.known true name then [] else late_at 12 name ∷ [] in
    let bs = d.broken ++ last in (
      (λ c. elim (in_either (late_at 12 name) d.broken last (found (late_at 12 name) bs c)) [
        | inl l ↦ absurd (sets.none false k start l)
        | inr r ↦ sym fine ∙ (told_if name name (has_result d.known true name) r).1
      ]),
      (λ e. contained (late_at 12 name) bs (in_right (late_at 12 name) d.broken last (if_told name (has_result d.known true name) (fine ∙ e)))),
    )
