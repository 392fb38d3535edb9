-- The records of a with statement in a function's block: the frames of their fields lead outward to that of the block.
use Rattle.std.proofs.Common.{◌++◌, ◌<◌, ◌∙◌, ◌∷◌, ◌≡◌, [], ℕ, Bool, List, None, Option, Some, ap, arith, length, map, refl, subst}
use Rattle.grammar.specs.Nodes.{row}
use Rattle.pas_tree.specs.{ExpressionTrees.AccessTree, StatementTrees.NextAccessTree, TreeNodes.access_node, TreeNodes.next_access_node}
use Rattle.core_program.specs.declared.rows.TypeRow.{TypeRow}
use Rattle.check_steps.specs.{Known.Known, Known.and_frame, Known.frame_at, declared.regions.Frame.Frame}
use Rattle.check_steps.specs.Steps.{◌>>=◌, ask, each, extend, give, look}
use Rattle.decl_checker.specs.Statements.{fields_in, inside_of, one_more_with, open_fields}
use Rattle.expression_checker.specs.{Expressions.access, Selectors.type_row, declared.typed.Typed.Typed}
use Rattle.statement_checker.specs.{Parts.another_record, Parts.first_record, Records.inside_record, Sequences.add_element, declared.parts.Opened.Opened}
use Rattle.rule_laws.proofs.{Every.Every, Every.Of, ExpressionExpressions.access-touches, Faces.assigning, Outward.frame_last, Outward.one_longer}
use Rattle.rule_laws.proofs.{ResultTurns.IsSpot, ResultTurns.Spot, ResultTurns.Turn, ResultTurns.turn_after, ResultTypes.access_typed, ResultTypes.types_same}
use Rattle.rule_laws.proofs.{StatementSequences.add_element-touches, StatementStatements.record_opened, Touches.Longer, Touches.longer_still}
use Rattle.rule_laws.proofs.ResultScopes.{Leads, at_least, leads_below, leads_on}
use Rattle.rule_laws.specs.{Tokens.Has, WithRecords.access_type, WithRecords.and_record, WithRecords.inside_access, WithRecords.inside_accesses}

-- the tables where a frame leads outward from some records to a block
pub record Enters (p : Spot) (is : IsSpot p) (seen : Bool) (block : ℕ) (records : List ℕ) (i : Known) (f : ℕ) : Type 0 where
  pub turn : Turn p is seen i
  pub leads : Leads i.frames block records f

with_frame : (p : Spot) (is : IsSpot p) (seen : Bool) (j : Known) (x : Frame) → Turn p is seen j → Turn p is seen (and_frame j x)
with_frame p is seen j x t = record {
  words = t.words;
  regions = t.regions;
  frames = longer_still p.k.frames j.frames (j.frames ++ x ∷ []) t.frames (record { more = x ∷ []; is = refl });
  routines = t.routines;
  rows = t.rows;
  sayings = t.sayings;
  types = t.types;
  result = t.result;
}

inside_enters : (p : Spot) (is : IsSpot p) (seen : Bool) (block : ℕ) → block < length p.k.frames → (records : List ℕ) (j : Known) (f : ℕ) → Turn p is seen j
    → Leads j.frames block records f → (o : Option ℕ)
    → let d = inside_of f o j in Enters p is seen block (and_record o records) d.known d.value
unfolding give open_fields look extend ◌>>=◌
inside_enters p is seen block below records j f t leads None = record { turn = t; leads = leads }
inside_enters p is seen block below records j f t leads (Some region) =
    let x : Frame = record { region = region; outer = Some f; level = (frame_at j f).level; withs = one_more_with (frame_at j f).withs } in
    let longer : Longer j.frames (j.frames ++ x ∷ []) = record { more = x ∷ []; is = refl } in
    let more = at_least p.k.frames j.frames t.frames in
    let last = frame_last j.frames x in
    let one = one_longer j.frames x in
    record {
      turn = with_frame p is seen j x t;
      leads = record {
        there = omega (arith, one);
        region = ap (λ (g : Frame). g.region) last;
        next = f;
        outer = ap (λ (g : Frame). g.outer) last;
        before = leads_below j.frames block records f (omega (arith, below, more)) leads;
        rest = leads_on j.frames (j.frames ++ x ∷ []) longer block records f leads;
      };
    }

record_enters : (p : Spot) (is : IsSpot p) (seen : Bool) (block : ℕ) → block < length p.k.frames → (records : List ℕ) (j : Known) (f first : ℕ) (v : Typed)
    (t : Option TypeRow) → Turn p is seen j → Leads j.frames block records f → type_row p.k v.of ≡ t
    → let d = inside_record f first v j in Enters p is seen block (and_record (fields_in t) records) d.known d.value
unfolding inside_record look ◌>>=◌ ask
record_enters p is seen block below records j f first v t turn leads typed =
    let d = inside_of f (fields_in (type_row j v.of)) j in
    subst (λ o. Enters p is seen block (and_record (fields_in o) records) d.known d.value) (types_same p is seen j turn v.of ∙ typed)
    (inside_enters p is seen block below records j f turn leads (fields_in (type_row j v.of)))

pub first_enters : (p : Spot) (is : IsSpot p) (seen : Bool) (block : ℕ) → block < length p.k.frames → (records : List ℕ) (j : Known) (f word : ℕ)
    (a : AccessTree) → Every (Has p.part) (access_node a) → Turn p is seen j → Leads j.frames block records f
    → let d = first_record f word a j in Enters p is seen block (inside_access p.k block records a) d.known d.value.frame
unfolding first_record ◌>>=◌ give
first_enters p is seen block below records j f word a inside t leads =
    let v = access f a j in
    let s = (access-touches {strict = assigning} f a inside).same j in
    record_enters p is seen block below records v.known f a.name v.value (access_type p.k block records a) (turn_after p is seen j v.known t s)
    (leads_on j.frames v.known.frames s.frames block records f leads) (access_typed p is seen j t block below records f a inside leads)

next_enters : (p : Spot) (is : IsSpot p) (seen : Bool) (block : ℕ) → block < length p.k.frames → (records : List ℕ) (j : Known) (o : Opened)
    (n : NextAccessTree) → Of (Has p.part) o.last.slot → Every (Has p.part) (next_access_node n) → Turn p is seen j → Leads j.frames block records o.frame
    → let d = another_record o n j in Enters p is seen block (inside_access p.k block records n.access) d.known d.value.frame
unfolding another_record ◌>>=◌ give
next_enters p is seen block below records j o n slot inside t leads =
    let v = access o.frame n.access j in
    let s = (access-touches {strict = assigning} o.frame n.access inside.1).same j in
    let d = inside_record o.frame n.access.name v.value v.known in
    let e = add_element o.last n.comma v.value.row d.known in
    let z = (add_element-touches {strict = assigning} o.last n.comma v.value.row slot).same d.known in
    let one = record_enters p is seen block below records v.known o.frame n.access.name v.value (access_type p.k block records n.access)
    (turn_after p is seen j v.known t s) (leads_on j.frames v.known.frames s.frames block records o.frame leads)
    (access_typed p is seen j t block below records o.frame n.access inside.1 leads) in
    record {
      turn = turn_after p is seen d.known e.known one.turn z;
      leads = leads_on d.known.frames e.known.frames z.frames block (inside_access p.k block records n.access) d.value one.leads;
    }

pub each_enters : (p : Spot) (is : IsSpot p) (seen : Bool) (block : ℕ) → block < length p.k.frames → (records : List ℕ) (j : Known) (o : Opened)
    (ns : List NextAccessTree) → Of (Has p.part) o.last.slot → Every (Has p.part) (row (map next_access_node ns)) → Turn p is seen j
    → Leads j.frames block records o.frame
    → let d = each another_record o ns j in Enters p is seen block (inside_accesses p.k block records ns) d.known d.value.frame
unfolding ◌>>=◌ give
each_enters p is seen block below records j o [] slot inside t leads = record { turn = t; leads = leads }
each_enters p is seen block below records j o (n ∷ ns) slot inside t leads =
    let d = another_record o n j in
    let one = next_enters p is seen block below records j o n slot inside.0 t leads in
    each_enters p is seen block below (inside_access p.k block records n.access) d.known d.value ns (record_opened o n inside.0.0 j) inside.1 one.turn one.leads
