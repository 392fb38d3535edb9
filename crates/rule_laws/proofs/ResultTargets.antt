-- What one assignment in a function's block assigns to.
use Rattle.std.proofs.Common.{if◌then◌else◌, ◌&&◌, ◌||◌, ◌∙◌, ◌≡◌, ◌⊎◌, ℕ, Bool, List, None, Option, Some, ap, false, inl, inr, is_some, nat_eq, refl}
use Rattle.std.proofs.{Common.slice_get, Common.subst, Common.sym, Common.true, lemmas.Bool.eq-eqb, lemmas.Bool.eqb-true}
use Rattle.grammar.specs.Nodes.{Node}
use Rattle.pas_tree.specs.{ExpressionTrees.AccessTree, StatementTrees.AssignmentTree, TreeNodes.access_node, TreeNodes.assignment_node}
use Rattle.core_program.specs.ProgramRows.{routine_at}
use Rattle.core_program.specs.declared.{program.Routine.Routine, rows.AccessRow.AccessRow, rows.NameRow.NameRow, rows.PartRow.PartRow, rows.Row.Row}
use Rattle.check_steps.specs.{Names.usable, declared.regions.Definition.Definition, declared.regions.Found.Found}
use Rattle.check_steps.specs.Known.{Known, find, name_at, row_at, with_row}
use Rattle.check_steps.specs.Steps.{◌>>=◌, Step, change, give, look, put, when}
use Rattle.kind_checker.specs.{Headings.signature_at, declared.shapes.ExpressionType.ExpressionType}
use Rattle.expression_checker.specs.{Callees.is_required_function, Names.levels_to, NamesAlone.is_name}
use Rattle.expression_checker.specs.declared.typed.{Location.Location, Typed.Typed}
use Rattle.statement_checker.specs.{Assignments.with_value, Parts.assigned_to, Parts.assignment, Parts.target_as, Sequences.line_of}
use Rattle.statement_checker.specs.Assignments.{is_inside, result_assigned, result_at, result_target, target_at, target_in, target_of, target_of_result}
use Rattle.statement_checker.specs.declared.assignments.{FunctionResult.FunctionResult, Target.Target}
use Rattle.rule_laws.proofs.{Every.Every, Every.Of, ExpressionExpressions.expression-touches, LabelMarks.got_put, ResultScopes.Leads, ResultScopes.defined}
use Rattle.rule_laws.proofs.{ResultTypes.names_alike, StatementParts.target_access-touches}
use Rattle.rule_laws.proofs.Faces.{assigning, loose, row_either, said, value_shows}
use Rattle.rule_laws.proofs.ResultSets.{PartAt, Room, Sets, calm_then, or_false, search_of, sets_after, sets_calm, sets_looked, still_inside}
use Rattle.rule_laws.proofs.ResultTurns.{IsSpot, Spot, Turn, beside, signature_alike, turn_by}
use Rattle.rule_laws.proofs.StatementAssignments.{assigned-touches, blockless_target-touches}
use Rattle.rule_laws.proofs.Touches.{Touches, bind-touches, give-touches, late-touches, look-touches, no_longer, put-touches, same_changed}
use Rattle.rule_laws.specs.{FunctionAssignments.assigns, FunctionAssignments.is_defined_at, FunctionAssignments.is_function_name, Tokens.Has, WithRecords.named}

-- ---- one that is the function, or not

-- no result of the function
pub record IsOther (p : Spot) (t : Target) : Type 0 where
  pub apart : (r : FunctionResult) → t ≡ Target.Result r → r.function ≡ p.function → ⊥

pub record IsOwn (p : Spot) (t : Target) : Type 0 where
  pub its : FunctionResult
  pub is : t ≡ Target.Result its
  pub same : its.function ≡ p.function

abbrev pub Aims : Spot → Bool → Target → Type 0
Aims p hits t = (IsOther p t × (hits ≡ false)) ⊎ (IsOwn p t × (hits ≡ true))

-- whose result a row gives
pub record ResultOf (k : Known) (row : Row) (r : FunctionResult) : Type 0 where
  pub assigned : Bool
  pub number : ℕ
  pub region : ℕ
  pub routine : Routine
  pub is : row ≡ Row.Name (NameRow.Routine assigned number region)
  pub there : routine_at k.program number ≡ Some routine
  pub same : r.function ≡ routine.name

of_result : (t : FunctionResult) (r : FunctionResult) → Target.Result t ≡ Target.Result r → r.function ≡ t.function
of_result t r e = let same : t ≡ r = cc in sym (ap (λ (x : FunctionResult). x.function) same)

result_function : (k : Known) (frame : ℕ) (routine : Routine) (place of' : Option ℕ) (r : FunctionResult)
    → result_at k frame routine place of' ≡ Target.Result r → r.function ≡ routine.name
result_function k frame routine (Some place) (Some of') r e = of_result _ r e
result_function k frame routine None of' r e = absurd cc
result_function k frame routine (Some place) None r e = absurd cc

routine_result : (k : Known) (frame : ℕ) (assigned : Bool) (number region : ℕ) (o : Option Routine) (r : FunctionResult) → routine_at k.program number ≡ o
    → target_of_result k frame o ≡ Target.Result r → ResultOf k (Row.Name (NameRow.Routine assigned number region)) r
routine_result k frame assigned number region None r there e = absurd cc
routine_result k frame assigned number region (Some routine) r there e = record {
  assigned = assigned;
  number = number;
  region = region;
  routine = routine;
  is = refl;
  there = there;
  same = result_function k frame routine routine.result (signature_at k routine.heading).result r e;
}

no_result : (b : Bool) (r : FunctionResult) → (if b then Target.Blockless else Target.Access) ≡ Target.Result r → ⊥
no_result true r e = cc
no_result false r e = cc

pub row_result : (k : Known) (frame : ℕ) (row : Row) (r : FunctionResult) → target_in k frame row ≡ Target.Result r → ResultOf k row r
row_result k frame (Row.Name (NameRow.Routine assigned number region)) r e =
    routine_result k frame assigned number region (routine_at k.program number) r refl e
row_result k frame (Row.Name (NameRow.RoutineFormal place level heading)) r e = absurd (no_result (is_some (signature_at k heading).result) r e)
row_result k frame (Row.Name (NameRow.Required routine)) r e = absurd (no_result (is_required_function routine) r e)
row_result k frame row r e = absurd cc

-- a row of a procedure or a function
record RowOf (row : Row) (number : ℕ) : Type 0 where
  assigned : Bool
  region : ℕ
  is : row ≡ Row.Name (NameRow.Routine assigned number region)

said_routine : (row : Row) (number region : ℕ) → said row ≡ Row.Name (NameRow.Routine false number region) → RowOf row number
said_routine (Row.Type t) number region e = absurd cc
said_routine (Row.Name (NameRow.Constant of' v)) number region e = absurd cc
said_routine (Row.Name (NameRow.Text token)) number region e = absurd cc
said_routine (Row.Name (NameRow.Routine assigned n g)) number region e =
    let same : n ≡ number = cc in
    record { assigned = assigned; region = g; is = ap (λ m. Row.Name (NameRow.Routine assigned m g)) same }
said_routine (Row.Part (PartRow.Completing first)) number region e = absurd cc
said_routine row number region e = absurd cc

stood : (p : Spot) (is : IsSpot p) (seen : Bool) (j : Known) (n number region : ℕ) (assigned : Bool) → Turn p is seen j
    → row_at j n ≡ Row.Name (NameRow.Routine assigned number region) → RowOf (row_at p.k n) number
stood p is seen j n number region assigned t row = elim (t.sayings n) [
  | inl none ↦ absurd (let never : Row.Name (NameRow.Routine false number region) ≡ Row.Nothing = sym (ap said row) ∙ none in cc)
  | inr same ↦ said_routine (row_at p.k n) number region (sym same ∙ ap said row)
]

-- a definition at another token gives another result
elsewhere : (p : Spot) (is : IsSpot p) (seen : Bool) (j : Known) (frame n : ℕ) → Turn p is seen j → (n ≡ p.function → ⊥)
    → IsOther p (target_in j frame (row_at j n))
elsewhere p is seen j frame n t apart = record {
  apart = λ r e same.
      let o = row_result j frame (row_at j n) r e in
      let b = stood p is seen j n o.number o.region o.assigned t o.is in
      let there : routine_at p.k.program o.number ≡ Some o.routine =
      ap (λ (rs : List Routine). slice_get rs o.number) (sym t.routines) ∙ o.there in
      let its_name : o.routine.name ≡ n = is.named n b.assigned o.number b.region o.routine b.is there in
      apart (sym its_name ∙ sym o.same ∙ same);
}

its_own : (p : Spot) (is : IsSpot p) (seen : Bool) (j : Known) (frame n : ℕ) → Turn p is seen j → n ≡ p.function
    → IsOwn p (target_in j frame (row_at j n))
its_own p is seen j frame n t e =
    let its = is.its in
    let there : routine_at j.program its.number ≡ Some its.routine = ap (λ (rs : List Routine). slice_get rs its.number) t.routines ∙ its.there in
    let heading = signature_alike p.k j its.routine.heading (t.rows its.routine.heading (beside p.k p.part its.routine.heading its.heading)) in
    let type : (signature_at j its.routine.heading).result ≡ Some its.of = ap (λ s. s.result) heading ∙ its.has_type in
    record {
      its = record {
        function = its.routine.name;
        place = its.place;
        levels = levels_to j frame its.routine.level;
        of = its.of;
      };
      is =
          ap (λ m. target_in j frame (row_at j m)) e
          ∙ ap (target_in j frame) t.result
          ∙ ap (target_of_result j frame) there
          ∙ ap (λ o. result_at j frame its.routine o (signature_at j its.routine.heading).result) its.has_place
          ∙ ap (result_at j frame its.routine (Some its.place)) type;
      same = is.named p.function false its.number its.region its.routine its.row its.there;
    }

definition_aims : (p : Spot) (is : IsSpot p) (seen : Bool) (j : Known) (frame n : ℕ) → Turn p is seen j → (b : Bool) → nat_eq n p.function ≡ b
    → Aims p b (target_in j frame (row_at j n))
definition_aims p is seen j frame n t true e = inr (its_own p is seen j frame n t (eqb-true n p.function e), refl)
definition_aims p is seen j frame n t false e = inl (
  elsewhere p is seen j frame n t (λ same. let never : true ≡ false = sym (eq-eqb n p.function same) ∙ e in cc),
  refl,
)

access_other : (p : Spot) → IsOther p Target.Access
access_other p = record { apart = λ r e same. cc }

found_aims : (p : Spot) (is : IsSpot p) (seen : Bool) (j : Known) (frame : ℕ) → Turn p is seen j → (o : Option Found)
    → Aims p (is_defined_at p.function o) (target_of j frame o)
found_aims p is seen j frame t None = inl (access_other p, refl)
found_aims p is seen j frame t (Some f) =
    definition_aims p is seen j frame f.definition.token t (nat_eq f.definition.token p.function) refl

-- by the definition alone
abbrev defined_by : ℕ → Option Definition → Bool
defined_by function None = false
defined_by function (Some d) = nat_eq d.token function

defined_same : (function : ℕ) (o : Option Found) → is_defined_at function o ≡ defined_by function (defined o)
defined_same function None = refl
defined_same function (Some f) = refl

name_aims : (a : PartAt) (records : List ℕ) (f name : ℕ) (seen : Bool) (j : Known) → Turn a.p a.is seen j → Leads j.frames a.block records f
    → Aims a.p (is_function_name (search_of a) records name) (target_at j f name true)
name_aims a records f name seen j t leads =
    let o = usable name (find j f (name_at j name)) in
    let inner = named a.p.k a.block records name in
    let same : is_defined_at a.p.function o ≡ is_defined_at a.p.function inner =
    defined_same a.p.function o ∙ ap (defined_by a.p.function) (names_alike a.p a.is seen j t a.block a.below records f name leads)
    ∙ sym (defined_same a.p.function inner) in
    subst (λ b. Aims a.p b (target_of j f o)) same (found_aims a.p a.is seen j f t o)

-- ---- another target

other_assigned : (a : PartAt) (records : List ℕ) (f function : ℕ) → (function ≡ a.p.function → ⊥) → Sets a records f false (result_assigned function)
unfolding result_assigned look ◌>>=◌ change
other_assigned a records f function apart = record {
  of = λ seen j t l.
      let i = with_row j function (with_value (row_at j function)) in
      let s = same_changed {Q = Has a.p.part} {strict = loose} j function with_value (value_shows loose refl) in
      let its = a.is.its in
      let row : row_at i a.p.function ≡ Row.Name (NameRow.Routine seen its.number its.region)
      = elim (row_either j function a.p.function (with_value (row_at j function))) [
        | inl old ↦ old ∙ t.result
        | inr q ↦ absurd (apart (sym q.0))
      ] in
      record { turn = subst (λ b. Turn a.p a.is b i) (sym (or_false seen)) (turn_by a.p a.is seen seen j i t s row); longer = no_longer j.frames };
}

when_other : (a : PartAt) (records : List ℕ) (f : ℕ) (ok : Bool) {m : Step (Unit {0})} → Sets a records f false m → Sets a records f false (when ok m)
unfolding when
when_other a records f true h = h
when_other a records f false h = sets_calm a records f (give-touches tt)

abbrev its_result : ℕ → FunctionResult → Typed
its_result name r = record { row = name; of = ExpressionType.Of r.of; location = Location.Variable }

result_ends : (a : PartAt) (name : ℕ) (r : FunctionResult) → Of (Has a.p.part) name
    → Touches (Has a.p.part) assigning (put name (Row.Access (AccessRow.Variable r.place r.levels r.of)) >>= λ _. give (its_result name r))
result_ends a name r name-in =
    bind-touches (put-touches name (Row.Access (AccessRow.Variable r.place r.levels r.of)) name-in refl) (λ _. give-touches (its_result name r))

other_result : (a : PartAt) (records : List ℕ) (f name : ℕ) (r : FunctionResult) → Of (Has a.p.part) name → (r.function ≡ a.p.function → ⊥)
    → Sets a records f false (result_target f name r)
unfolding result_target
other_result a records f name r name-in apart =
    sets_looked (λ fine. Unit {0}) (λ k. is_inside k f r.function) (λ seen j t l. tt) (λ fine u.
    calm_then (late-touches 13 name fine refl name-in) (λ _.
    sets_after (when_other a records f fine (other_assigned a records f r.function apart)) (λ _. result_ends a name r name-in)))

other_target : (a : PartAt) (records : List ℕ) (f : ℕ) (x : AccessTree) (t : Target) → Every (Has a.p.part) (access_node x) → IsOther a.p t
    → Sets a records f false (target_as f x t)
other_target a records f x Target.Access x-in o = sets_calm a records f (target_access-touches f x x-in)
other_target a records f x (Target.Result r) x-in o = other_result a records f x.name r x-in.0 (o.apart r refl)
other_target a records f x Target.Blockless x-in o = sets_calm a records f (blockless_target-touches x.name x-in.0)

-- ---- the function itself

or_true : (b : Bool) → (b || true) ≡ true
or_true true = refl
or_true false = refl

own_assigned : (a : PartAt) (records : List ℕ) (f function : ℕ) → function ≡ a.p.function → Sets a records f true (result_assigned function)
unfolding result_assigned look ◌>>=◌ change
own_assigned a records f function same = record {
  of = λ seen j t l.
      let its = a.is.its in
      let i = with_row j function (with_value (row_at j function)) in
      let s = same_changed {Q = Has a.p.part} {strict = loose} j function with_value (value_shows loose refl) in
      let row : row_at j function ≡ Row.Name (NameRow.Routine seen its.number its.region) = ap (row_at j) same ∙ t.result in
      let placed = got_put j.program.rows function (NameRow.Routine seen its.number its.region) (with_value (row_at j function)) row in
      let now : row_at i a.p.function ≡ Row.Name (NameRow.Routine true its.number its.region) = ap (row_at i) (sym same) ∙ placed ∙ ap with_value row in
      record { turn = subst (λ b. Turn a.p a.is b i) (sym (or_true seen)) (turn_by a.p a.is seen true j i t s now); longer = no_longer j.frames };
}

when_own : (a : PartAt) (records : List ℕ) (f : ℕ) (ok : Bool) {m : Step (Unit {0})} → ok ≡ true → Sets a records f true m → Sets a records f true (when ok m)
unfolding when
when_own a records f true e h = h
when_own a records f false e h = absurd (let never : false ≡ true = e in cc)

own_result : (a : PartAt) (records : List ℕ) (f name : ℕ) (r : FunctionResult) (x : Node) → Room a.p records x → Of (Has a.p.part) name
    → r.function ≡ a.p.function → Sets a records f true (result_target f name r)
unfolding result_target
own_result a records f name r x room name-in same =
    sets_looked (λ fine. fine ≡ true) (λ k. is_inside k f r.function)
    (λ seen j t l. ap (is_inside j f) same ∙ still_inside a records f x room seen j t l) (λ fine e.
    calm_then (late-touches 13 name fine refl name-in) (λ _.
    sets_after (when_own a records f fine e (own_assigned a records f r.function same)) (λ _. result_ends a name r name-in)))

own_target : (a : PartAt) (records : List ℕ) (f : ℕ) (x : AccessTree) (t : Target) (n : Node) → Room a.p records n → Every (Has a.p.part) (access_node x)
    → IsOwn a.p t → Sets a records f true (target_as f x t)
own_target a records f x t n room x-in o =
    subst (λ y. Sets a records f true (target_as f x y)) (sym o.is) (own_result a records f x.name o.its n room x-in.0 o.same)

-- ---- an assignment

aimed : (a : PartAt) (records : List ℕ) (f : ℕ) (x : AccessTree) (t : Target) (b : Bool) (n : Node) → Room a.p records n → Every (Has a.p.part) (access_node x)
    → Aims a.p b t → Sets a records f b (target_as f x t)
aimed a records f x t b n room x-in (inl other) =
    subst (λ y. Sets a records f y (target_as f x t)) (sym other.1) (other_target a records f x t x-in other.0)
aimed a records f x t b n room x-in (inr own) =
    subst (λ y. Sets a records f y (target_as f x t)) (sym own.1) (own_target a records f x t n room x-in own.0)

to_sets : (a : PartAt) (records : List ℕ) (f : ℕ) (x : AccessTree) (alone : Bool) (n : Node) → Room a.p records n → Every (Has a.p.part) (access_node x)
    → Sets a records f (alone && is_function_name (search_of a) records x.name) (look (λ k. target_at k f x.name alone) >>= λ t. target_as f x t)
to_sets a records f x true n room x-in =
    sets_looked (Aims a.p (is_function_name (search_of a) records x.name)) (λ k. target_at k f x.name true)
    (λ seen j t l. name_aims a records f x.name seen j t l)
    (λ t aims. aimed a records f x t (is_function_name (search_of a) records x.name) n room x-in aims)
to_sets a records f x false n room x-in =
    sets_looked (λ t. t ≡ Target.Access) (λ k. target_at k f x.name false) (λ seen j t l. refl) (λ t e.
    subst (λ y. Sets a records f false (target_as f x y)) (sym e) (other_target a records f x Target.Access x-in (access_other a.p)))

pub assignment_sets : (a : PartAt) (records : List ℕ) (f : ℕ) (label : Option ℕ) (x : AssignmentTree) (n : Node) → Room a.p records n
    → Every (Has a.p.part) (assignment_node x) → Sets a records f (assigns (search_of a) records x) (assignment f label x)
unfolding assignment assigned_to
assignment_sets a records f label x n room inside =
    sets_after (to_sets a records f x.target (is_name x.target.selectors) n room (inside.0, inside.1.0)) (λ to.
    bind-touches (expression-touches f x.value inside.1.1.1) (λ v. bind-touches (look-touches (λ k. line_of k label x.target.name))
    (λ line. assigned-touches line x.becomes to v inside.1.1.0)))
