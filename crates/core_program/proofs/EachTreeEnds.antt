-- A depth that is always enough. A tree is told by its rank: before a step is taken it has parts of lower rank alone.
use Rattle.std.proofs.Common.{if◌then◌else◌, ◌*◌, ◌+◌, ◌-◌, ◌<◌, ◌==◌, ◌∙◌, ◌≡◌, ◌≤◌, ◌⊎◌, [], ℕ, ℤ, Bool, List, None, Option, Some, ap, arith, false, inl, inr}
use Rattle.std.proofs.Common.{is_some, length, nat_lt, refl, subst, suc, sym, true, zero}
use Rattle.std.proofs.{Math.Nat.mul-le-mul_left, lemmas.Bool.Decides.nat_tests}
use Rattle.cell_value.specs.declared.{entries.Touch.Touch, values.Value.Value, ways_out.WayOut.WayOut, ways_out.Which.Which, ways_out.Which.TheVariants.Stack}
use Rattle.core_program.proofs.{ActionsMeant.no, ActsTakeSteps.Acted, ActsTakeSteps.acted, ActsTakeSteps.cost, WholeActions.below_length, WholeParts.Good}
use Rattle.core_program.proofs.{WholeParts.Takes, WholeParts.gives, WholeParts.gives_call, WholeStatements.part_good, WholeStatements.routine_good}
use Rattle.core_program.proofs.WholeParts as places
use Rattle.core_program.specs.{Accesses.type_accessed, Accesses.until_end, Accesses.with_dimensions, Accesses.with_formal, Cells.routine_out}
use Rattle.core_program.specs.{Conformant.Dimensions, Conformant.WholeArray, Conformant.dimensions_of, Input.next_char, Layer.layer, Layer.of_body}
use Rattle.core_program.specs.{Output.char_type, Passed.Passed, Passed.args_at, Passed.cells_entered, ProgramRows.ProgramRows, ProgramRows.routine_at}
use Rattle.core_program.specs.{ProgramRows.row_at, ProgramRows.type_at, State.State, State.stack_end, WholeTables.WholeTables, WholeTables.is_conformant}
use Rattle.core_program.specs.{WholeTables.is_routine, declared.scan.Scan.Scan, declared.scan.Scan.TheVariants.Blanks, declared.scan.Scan.TheVariants.Digits}
use Rattle.core_program.specs.Accesses.{access_in, bounded_before, eval, is_end, locate_before, no_row, of_access, on_address, on_bounded, on_scalar}
use Rattle.core_program.specs.Acts.{Act, ActResult, Answer, Limited, OutOfSteps, Spend, Stops, Went, limit_passed, perform, spent}
use Rattle.core_program.specs.Expressions.{access_value, array_copied, array_placed, expression_in, of_actual, of_members, pass_routine, placed_in, whole_in}
use Rattle.core_program.specs.Run.{Call as Record, End, Ended, Halted, Marked, Outcome, Result, after_all, at_work, call_closed, call_of, ends, frame_size}
use Rattle.core_program.specs.Run.{if_allowed, in_frame, in_front, joined, on_done, on_end, opened, plain, recorded, run_of, whole, with_frame, without_frame}
use Rattle.core_program.specs.Statements.{begins, line_of, of_count, of_records, of_sequence, of_turn, on_labelled, on_normal, statement_in}
use Rattle.core_program.specs.Transfers.{of_printed, of_received, of_scan, read_for, received, with_host}
use Rattle.core_program.specs.Tree.{ActTree, Body, Count, Do, Enter, Establish, Eval, Exec, Gather, Halt, Here, Jump, Line, Locate, Meaningless, Out, Part}
use Rattle.core_program.specs.Tree.{Pass, Print, Receive, RestOfLine, Ret, Scanning, Sequence, Sub, Turn, doing, way_of}
use Rattle.core_program.specs.declared.{components.Extent.Extent, components.HeldSpec.HeldSpec, program.Routine.Routine}
use Rattle.core_program.specs.declared.rows.{AccessRow.AccessRow, ItemRow.ItemRow, NameRow.NameRow, Row.Row, StatementRow.StatementRow, TypeRow.TypeRow}

-- ---- ranks

-- the rank of a part, where the tables have R rows
abbrev rank : ℕ → Part → ℕ
rank R (Exec row here) = R - row
rank R (Body routine base) = 0
rank R (Count row i last here) = 0
rank R (Sequence first at here) = R + 1
-- the lesser of R and the row
rank R (Locate row target here) = R - (R - row)
rank R (Eval row here) = R + 1
rank R (Pass at passed here) = R + 2
rank R (Gather at set here) = R + 2
rank R (Establish at body here) = R + 1
rank R (Turn row here) = R + 2
rank R (Receive at here) = R + 2
rank R (Scanning scan here) = 0
rank R (RestOfLine here) = 0
rank R (Print at here) = R + 2

-- whether a part takes a step before it ends, if nothing stops the run
abbrev pays : Part → Bool
pays (Eval row here) = true
pays (Locate row target here) = true
pays (Exec row here) = true
pays (Body routine base) = true
pays (Scanning scan here) = true
pays (RestOfLine here) = true
pays part = false

-- A tree of a rank; and where it is said to pay, it does not end without a step.
abbrev Ranked : (R r : ℕ) → (pays : Bool) → ActTree → Type 0
Ranked R r b (Ret out) = b ≡ false
Ranked R r b (Halt line why) = Unit {0}
Ranked R r b Meaningless = Unit {0}
Ranked R r b (Do line act next) = (1 ≤ cost act) ⊎ ((x : Answer act) → Ranked R r b (next x))
Ranked R r b (Sub part next) = (rank R part < r) × ((pays part ≡ true) ⊎ ((out : Out) → Ranked R r b (next out)))
Ranked R r b (Enter e next) = 1 < r
Ranked R r b (Line line next) = Unit {0}

below_all : (R : ℕ) (part : Part) → rank R part < R + 3
below_all R (Exec row here) = omega arith
below_all R (Body routine base) = omega arith
below_all R (Count row i last here) = omega arith
below_all R (Sequence first at here) = omega arith
below_all R (Locate row target here) = omega arith
below_all R (Eval row here) = omega arith
below_all R (Pass at passed here) = omega arith
below_all R (Gather at set here) = omega arith
below_all R (Establish at body here) = omega arith
below_all R (Turn row here) = omega arith
below_all R (Receive at here) = omega arith
below_all R (Scanning scan here) = omega arith
below_all R (RestOfLine here) = omega arith
below_all R (Print at here) = omega arith

-- each tree has this rank
any_tree : (R : ℕ) (t : ActTree) → Ranked R (R + 3) false t
any_tree R (Ret out) = refl
any_tree R (Halt line why) = tt
any_tree R Meaningless = tt
any_tree R (Do line act next) = inr (λ x. any_tree R (next x))
any_tree R (Sub part next) = (below_all R part, inr (λ out. any_tree R (next out)))
any_tree R (Enter e next) = omega arith
any_tree R (Line line next) = tt

-- ---- each part has its rank

until_ranked : (R r : ℕ) (b : Bool) (at : ℕ) (e g : ActTree) → Ranked R r b e → Ranked R r b g → Ranked R r b (until_end at e g)
until_ranked R r b at e g h k = by (is_end at)
  where
    by : (c : Bool) → Ranked R r b (if c then e else g)
    by true = h
    by false = k

module _ (p : ProgramRows) where
  abbrev R : ℕ
  R = length p.rows

  abbrev Fits : Part → ActTree → Type 0
  Fits part t = Ranked R (rank R part) (pays part) t

  one : 1 ≤ 1
  one = omega arith

  locates : (row access : ℕ) (target : Bool) (here : Here) (go : ℕ → ActTree) → row < R
      → Fits (Locate row target here) (locate_before row access target here go)
  locates row access target here go h = by (nat_lt access row) refl
    where
      by : (b : Bool) → nat_lt access row ≡ b
          → Fits (Locate row target here) (if b then Sub (Locate access target here) (on_address go) else no_row)
      by true e = (grind (arith, nat_tests), inl refl)
      by false e = tt

  bounded_locates : (row access : ℕ) (target : Bool) (here : Here) (go : ℕ → ℕ → ActTree) → row < R
      → Fits (Locate row target here) (bounded_before row access target here go)
  bounded_locates row access target here go h = by (nat_lt access row) refl
    where
      by : (b : Bool) → nat_lt access row ≡ b
          → Fits (Locate row target here) (if b then Sub (Locate access target here) (on_bounded go) else no_row)
      by true e = (grind (arith, nat_tests), inl refl)
      by false e = tt

  access_fits : (row : ℕ) (target : Bool) (here : Here) (a : AccessRow) → row < R → Fits (Locate row target here) (of_access p row target here a)
  access_fits row target here (AccessRow.Variable place levels of') h = inl one
  access_fits row target here (AccessRow.Reference place levels of') h = inl one
  access_fits row target here (AccessRow.Conformant place levels of') h = inl one
  access_fits row target here (AccessRow.Component inner index array of') h = bounded_locates row inner target here _ h
  access_fits row target here (AccessRow.Within record' field of') h = inl one
  access_fits row target here (AccessRow.Index inner index array of') h = locates row inner target here _ h
  access_fits row target here (AccessRow.Field inner field of') h = locates row inner target here _ h
  access_fits row target here (AccessRow.Dereference inner of') h = locates row inner target here _ h

  there : (row : ℕ) (target : Bool) (here : Here) (r : Row) → row < R → Fits (Locate row target here) (access_in p row target here r)
  there row target here (Row.Access a) h = access_fits row target here a h
  there row target here Row.Nothing h = tt
  there row target here (Row.Type t) h = tt
  there row target here (Row.Name n) h = tt
  there row target here (Row.Part q) h = tt
  there row target here (Row.Statement s) h = tt
  there row target here (Row.Expression e) h = tt
  there row target here (Row.Item i) h = tt

  located : (row : ℕ) (target : Bool) (here : Here) → Fits (Locate row target here) (access_in p row target here (row_at p row))
  located row target here = elim (below_length p.rows row) [
    | inl e ↦ subst (λ r. Fits (Locate row target here) (access_in p row target here r)) (sym e) tt
    | inr h ↦ there row target here (row_at p row) h
  ]

  valued : (row t : ℕ) (here : Here) (b : Bool) → Fits (Eval row here) (access_value p row t here b)
  valued row t here true = (omega arith, inl refl)
  valued row t here false = (omega arith, inl refl)

  evaluated : (row : ℕ) (here : Here) (r : Row) → Fits (Eval row here) (expression_in p row here r)
  evaluated row here (Row.Expression e) = inl one
  evaluated row here (Row.Access a) = valued row (type_accessed a) here (is_conformant p (type_accessed a))
  evaluated row here Row.Nothing = tt
  evaluated row here (Row.Type t) = tt
  evaluated row here (Row.Name n) = tt
  evaluated row here (Row.Part q) = tt
  evaluated row here (Row.Statement s) = tt
  evaluated row here (Row.Item i) = tt

  passed_formal : (at next levels : ℕ) (vs : Passed) (here : Here) (r : Row)
      → Fits (Pass at vs here) (with_formal r (λ place heading. pass_routine here next vs (routine_out p heading levels here.base place)))
  passed_formal at next levels vs here (Row.Name (NameRow.RoutineFormal place level heading)) = inl one
  passed_formal at next levels vs here r = tt

  sized : (at : ℕ) (vs : Passed) (here : Here) (o : Option Dimensions) (go : Dimensions → ActTree) → ((d : Dimensions) → Fits (Pass at vs here) (go d))
      → Fits (Pass at vs here) (with_dimensions o go)
  sized at vs here None go h = tt
  sized at vs here (Some d) go h = h d

  placed : (at access t : ℕ) (vs : Passed) (specs : List HeldSpec) (here : Here) (b : Bool) (go : List Extent → ℕ → ActTree)
      → Fits (Pass at vs here) (array_placed p access t specs here b go)
  placed at access t vs specs here true go = (omega arith, inl refl)
  placed at access t vs specs here false go = (omega arith, inl refl)

  placed_row : (at row : ℕ) (vs : Passed) (specs : List HeldSpec) (here : Here) (r : Row) (go : List Extent → ℕ → ActTree)
      → Fits (Pass at vs here) (placed_in p row specs here r go)
  placed_row at row vs specs here (Row.Access a) go = placed at row (type_accessed a) vs specs here (is_conformant p (type_accessed a)) go
  placed_row at row vs specs here r go = tt

  copied : (at access t : ℕ) (vs : Passed) (specs : List HeldSpec) (here : Here) (b : Bool) (go : WholeArray → ActTree)
      → Fits (Pass at vs here) (array_copied p access t specs here b go)
  copied at access t vs specs here true go = (omega arith, inl refl)
  copied at access t vs specs here false go = (omega arith, inl refl)

  copied_row : (at row : ℕ) (vs : Passed) (specs : List HeldSpec) (here : Here) (r : Row) (go : WholeArray → ActTree)
      → Fits (Pass at vs here) (whole_in p row specs here r go)
  copied_row at row vs specs here (Row.Access a) go = copied at row (type_accessed a) vs specs here (is_conformant p (type_accessed a)) go
  copied_row at row vs specs here (Row.Expression e) go = (omega arith, inl refl)
  copied_row at row vs specs here r go = tt

  passed_item : (at : ℕ) (vs : Passed) (here : Here) (i : ItemRow) → Fits (Pass at vs here) (of_actual p vs here (Row.Item i))
  passed_item at vs here (ItemRow.Value e of' next) = (omega arith, inl refl)
  passed_item at vs here (ItemRow.Place a next) = (omega arith, inl refl)
  passed_item at vs here (ItemRow.ArrayPlace first a of' next) =
      sized at vs here (dimensions_of p of') _ (λ d. placed_row at a vs d.specs here (row_at p a) _)
  passed_item at vs here (ItemRow.ArrayValue first v of' next) =
      sized at vs here (dimensions_of p of') _ (λ d. copied_row at v vs d.specs here (row_at p v) _)
  passed_item at vs here (ItemRow.Routine routine levels next) = inl one
  passed_item at vs here (ItemRow.RoutineFormal formal levels next) = passed_formal at next levels vs here (row_at p formal)
  passed_item at vs here i = tt

  passed_row : (at : ℕ) (vs : Passed) (here : Here) (r : Row) → Fits (Pass at vs here) (of_actual p vs here r)
  passed_row at vs here (Row.Item i) = passed_item at vs here i
  passed_row at vs here r = tt

  gathered : (at : ℕ) (set : Value) (here : Here) (r : Row) → Fits (Gather at set here) (of_members set here r)
  gathered at set here (Row.Item (ItemRow.Member e next)) = (omega arith, inl refl)
  gathered at set here (Row.Item (ItemRow.Members first last next)) = (omega arith, inl refl)
  gathered at set here r = tt

  established : (at body : ℕ) (here : Here) (r : Row) → Fits (Establish at body here) (of_records here body r)
  established at body here (Row.Item (ItemRow.Element a next)) = (omega arith, inl refl)
  established at body here r = tt

  begun : (row : ℕ) (here : Here) (s : StatementRow) (o : Option ℕ) → Fits (Exec row here) (begins p row here s o)
  begun row here s (Some line) = tt
  begun row here s None = tt

  labelled : (row label inner : ℕ) (here : Here) → row < R → Fits (Exec row here) (statement_in p row here (Row.Statement (StatementRow.Labelled label inner)))
  labelled row label inner here h = by (nat_lt row inner) refl
    where
      by : (b : Bool) → nat_lt row inner ≡ b → Fits (Exec row here) (if b then Sub (Exec inner here) (on_labelled row label here) else no_row)
      by true e = (grind (arith, nat_tests), inl refl)
      by false e = tt

  executed : (row : ℕ) (here : Here) (r : Row) → row < R → Fits (Exec row here) (statement_in p row here r)
  executed row here (Row.Statement StatementRow.Empty) h = inl one
  executed row here (Row.Statement (StatementRow.Compound statements)) h = inl one
  executed row here (Row.Statement (StatementRow.Labelled label inner)) h = labelled row label inner here h
  executed row here (Row.Statement s) h = begun row here s (line_of s)
  executed row here r h = tt

  done : (row : ℕ) (here : Here) → Fits (Exec row here) (statement_in p row here (row_at p row))
  done row here = elim (below_length p.rows row) [
    | inl e ↦ subst (λ r. Fits (Exec row here) (statement_in p row here r)) (sym e) tt
    | inr h ↦ executed row here (row_at p row) h
  ]

  in_sequence : (first at : ℕ) (here : Here) (r : Row) → Fits (Sequence first at here) (of_sequence p here first r)
  in_sequence first at here (Row.Item (ItemRow.Element s next)) = (omega arith, inl refl)
  in_sequence first at here r = tt

  repeated : (row condition : ℕ) (here : Here) (go : Value → ActTree) (out : Out) → Ranked R (R + 2) false (on_normal (eval condition here go) out)
  repeated row condition here go (Jump label base) = refl
  repeated row condition here go out = (omega arith, inl refl)

  turned : (row : ℕ) (here : Here) (r : Row) → Fits (Turn row here) (of_turn row here r)
  turned row here (Row.Statement (StatementRow.While line condition body)) = (omega arith, inl refl)
  turned row here (Row.Statement (StatementRow.Repeat line statements condition)) = (omega arith, inr (repeated row condition here _))
  turned row here r = tt

  counted : (row : ℕ) (i last : ℤ) (here : Here) (r : Row) → Fits (Count row i last here) (of_count row here i last r)
  counted row i last here (Row.Statement (StatementRow.Turns direction last' place of' body)) = inl one
  counted row i last here r = tt

  read_for_fits : (at host : ℕ) (here : Here) (go : Value → ActTree) → Fits (Receive at here) (read_for here host go)
  read_for_fits at host here go = by (host == char_type)
    where
      by : (b : Bool) → Fits (Receive at here) (if b then doing here.line next_char go else Sub (Scanning Blanks here) (on_scalar go))
      by true = inl one
      by false = (omega arith, inl refl)

  host_fits : (at of' : ℕ) (here : Here) (go : ℕ → Value → ActTree) (t : Option TypeRow)
      → Fits (Receive at here) (with_host of' t (λ host. read_for here host (go host)))
  host_fits at of' here go (Some (TypeRow.Ordinal least greatest)) = read_for_fits at of' here (go of')
  host_fits at of' here go (Some (TypeRow.Subrange host least greatest)) = read_for_fits at host here (go host)
  host_fits at of' here go t = tt

  received_row : (at access next : ℕ) (here : Here) (r : Row) → Fits (Receive at here) (received p here access next r)
  received_row at access next here (Row.Access a) = host_fits at (type_accessed a) here _ (type_at p (type_accessed a))
  received_row at access next here r = tt

  receives : (at : ℕ) (here : Here) (r : Row) → Fits (Receive at here) (of_received p here r)
  receives at here (Row.Item (ItemRow.Element access next)) = received_row at access next here (row_at p access)
  receives at here r = tt

  scans : (scan : Scan) (here : Here) → Fits (Scanning scan here) (of_scan scan here)
  scans Blanks here = inl one
  scans (Digits minus number) here = inl one

  prints : (at : ℕ) (here : Here) (r : Row) → Fits (Print at here) (of_printed p here r)
  prints at here (Row.Item (ItemRow.Written e of' next)) = (omega arith, inl refl)
  prints at here (Row.Item (ItemRow.WrittenWide e of' width next)) = (omega arith, inl refl)
  prints at here r = tt

  bodied : (routine base : ℕ) (o : Option Routine) → Fits (Body routine base) (of_body base o)
  bodied routine base None = tt
  bodied routine base (Some r) = inl one

  part_fits : (part : Part) → Fits part (layer p part)
  part_fits (Eval row here) = evaluated row here (row_at p row)
  part_fits (Locate row target here) = located row target here
  part_fits (Pass at passed here) = until_ranked R (R + 2) false at _ _ refl (passed_row at passed here (row_at p at))
  part_fits (Gather at set here) = until_ranked R (R + 2) false at _ _ refl (gathered at set here (row_at p at))
  part_fits (Establish at body here) = until_ranked R (R + 1) false at _ _ (omega arith, inl refl) (established at body here (row_at p at))
  part_fits (Exec row here) = done row here
  part_fits (Sequence first at here) = until_ranked R (R + 1) false at _ _ refl (in_sequence first at here (row_at p at))
  part_fits (Turn row here) = turned row here (row_at p row)
  part_fits (Count row i last here) = counted row i last here (row_at p row)
  part_fits (Receive at here) = until_ranked R (R + 2) false at _ _ refl (receives at here (row_at p at))
  part_fits (Scanning scan here) = scans scan here
  part_fits (RestOfLine here) = inl one
  part_fits (Print at here) = until_ranked R (R + 2) false at _ _ refl (prints at here (row_at p at))
  part_fits (Body routine base) = bodied routine base (routine_at p routine)

-- ---- each tree ends

-- what was left of the steps falls, and where something pays it falls by one at least
abbrev Fell : Bool → End → (after before : ℕ) → Type 0
Fell true (Ended out) after before = after + 1 ≤ before
Fell b e after before = after ≤ before

fell_no_more : (b : Bool) (e : End) (a s : ℕ) → Fell b e a s → a ≤ s
fell_no_more true (Ended out) a s h = omega (arith, h)
fell_no_more false (Ended out) a s h = h
fell_no_more true (Halted way) a s h = h
fell_no_more false (Halted way) a s h = h

fell_less : (b : Bool) (e : End) (a r s : ℕ) → r ≤ s → Fell b e a r → Fell b e a s
fell_less true (Ended out) a r s k h = omega (arith, h, k)
fell_less false (Ended out) a r s k h = omega (arith, h, k)
fell_less true (Halted way) a r s k h = omega (arith, h, k)
fell_less false (Halted way) a r s k h = omega (arith, h, k)

fell_paid : (b : Bool) (e : End) (a r s : ℕ) → r + 1 ≤ s → a ≤ r → Fell b e a s
fell_paid true (Ended out) a r s k h = omega (arith, h, k)
fell_paid false (Ended out) a r s k h = omega (arith, h, k)
fell_paid true (Halted way) a r s k h = omega (arith, h, k)
fell_paid false (Halted way) a r s k h = omega (arith, h, k)

fell_halted : (b : Bool) (way : WayOut) (a s : ℕ) → a ≤ s → Fell b (Halted way) a s
fell_halted true way a s h = h
fell_halted false way a s h = h

abbrev EndFits : Takes → End → Type 0
EndFits k (Ended out) = places.Fits k out
EndFits k (Halted way) = Unit {0}

-- there is a result, which a place takes, and the steps fell
pub record Ends (k : Takes) (b : Bool) (s : ℕ) (x : Outcome) : Type 0 where
  pub result : Result State Record
  pub is : x ≡ Some result
  pub falls : Fell b result.end result.after.steps s
  pub takes : EndFits k result.end

halts : (k : Takes) (b : Bool) (s : ℕ) (way : WayOut) (σ : State) → σ.steps ≤ s → Ends k b s (ends (Halted way) σ)
halts k b s way σ h = record { result = _; is = refl; falls = fell_halted b way σ.steps s h; takes = tt }

ends_less : (k : Takes) (b : Bool) (s r : ℕ) (x : Outcome) → r ≤ s → Ends k b r x → Ends k b s x
ends_less k b s r x l h = record { result = h.result; is = h.is; falls = fell_less b h.result.end h.result.after.steps r s l h.falls; takes = h.takes }

ends_paid : (k : Takes) (b : Bool) (s r : ℕ) (x : Outcome) → r + 1 ≤ s → Ends k false r x → Ends k b s x
ends_paid k b s r x l h = record {
  result = h.result;
  is = h.is;
  falls = fell_paid b h.result.end h.result.after.steps r s l (fell_no_more false h.result.end h.result.after.steps r h.falls);
  takes = h.takes;
}

ends_front : (k : Takes) (b : Bool) (s : ℕ) (w : List Touch) (es : List (Marked Record)) (x : Outcome) → Ends k b s x → Ends k b s (in_front w es x)
ends_front k b s w es x h = record { result = _; is = ap (in_front w es) h.is; falls = h.falls; takes = h.takes }

ends_allowed : (k : Takes) (b : Bool) (o : Option Which) (σ : State) (x : Outcome) → Ends k b σ.steps x → Ends k b σ.steps (if_allowed o σ x)
ends_allowed k b None σ x h = h
ends_allowed k b (Some which) σ x h = halts k b σ.steps _ σ (omega arith)

ends_joined : (j k : Takes) (b c : Bool) (s : ℕ) (x : Outcome) (g : Out → State → Outcome) → Ends j b s x
    → ((out : Out) (τ : State) → Fell b (Ended out) τ.steps s → places.Fits j out → Ends k c s (g out τ)) → Ends k c s (joined x g)
ends_joined j k b c s x g h go_on = go h.result.end refl
  where
    go : (e : End) → h.result.end ≡ e → Ends k c s (joined x g)
    go (Ended out) q =
        let y = ends_front k c s h.result.log h.result.events _
        (go_on out h.result.after (subst (λ e. Fell b e h.result.after.steps s) q h.falls) (subst (EndFits j) q h.takes)) in
        record { result = y.result; is = ap (λ z. joined z g) h.is ∙ ap (λ d. on_end d h.result g) q ∙ y.is; falls = y.falls; takes = y.takes }
    go (Halted way) q = record {
      result = h.result;
      is = ap (λ z. joined z g) h.is ∙ ap (λ d. on_end d h.result g) q;
      falls = subst (λ e. Fell c e h.result.after.steps s) (sym q) (fell_halted c way h.result.after.steps s
          (fell_no_more b h.result.end h.result.after.steps s h.falls));
      takes = subst (EndFits k) (sym q) tt;
    }

ends_after : (k : Takes) (b : Bool) (s : ℕ) (change : State → State) → ((τ : State) → (change τ).steps ≡ τ.steps) → (x : Outcome) → Ends k b s x
    → Ends k b s (after_all change x)
ends_after k b s change keeps x h = record {
  result = _;
  is = ap (after_all change) h.is;
  falls = subst (λ n. Fell b h.result.end n s) (sym (keeps h.result.after)) h.falls;
  takes = h.takes;
}

-- a rank, and this much for each step that is left
abbrev need : (k r s : ℕ) → ℕ
need k r s = r + k * s

need_less : (k r a b : ℕ) → a ≤ b → need k r a ≤ need k r b
need_less k r a b h = omega (arith, mul-le-mul_left k h)

need_paid : (k r q a b : ℕ) → r ≤ k → a + 1 ≤ b → need k r a ≤ need k q b
need_paid k r q a b h e = omega (arith, h, mul-le-mul_left k e)

module _ (p : ProgramRows) (W : WholeTables p) where
  abbrev K : ℕ
  K = length p.rows + 4

  abbrev Enough : ℕ → Type 0
  Enough n = (t : ActTree) (j : Takes) (b : Bool) (r : ℕ) → Ranked (length p.rows) r b t → Good p W j t → (σ : State) → need K r σ.steps < n
      → Ends j b σ.steps (run_of p n t σ)

  call_ends : (run : ActTree → State → Outcome) (f : ℕ) (args : List Value) (σ : State) → is_routine p f ≡ true
      → ((r : Routine) (τ : State) → routine_at p f ≡ Some r → τ.steps ≤ σ.steps → Ends (gives_call p f) true τ.steps (run (whole p f σ.top r) τ))
      → Ends (gives_call p f) true σ.steps (call_of p run f args σ)
  call_ends run f args σ there h = rec (after_all (call_closed σ.depth) (in_frame (at_work p run f) args (opened σ) (routine_at p f)))
      (ends_after J true σ.steps (call_closed σ.depth) (λ τ. refl) _ (framed_so (routine_at p f) refl))
    where
      J : Takes
      J = gives_call p f

      rec : (x : Outcome) → Ends (gives_call p f) true σ.steps x → Ends (gives_call p f) true σ.steps (recorded f args σ x)
      rec x y = record { result = _; is = ap (recorded f args σ) y.is; falls = y.falls; takes = y.takes }

      by : (r : Routine) → routine_at p f ≡ Some r → (a b : Bool) → Ends (gives_call p f) true σ.steps
          (if a then ends (Halted (way_of 0 (Limited Stack))) (opened σ)
          else if b then ends (Halted (way_of 0 OutOfSteps)) (spent (opened σ))
          else after_all (without_frame σ.top (frame_size r args)) (run (whole p f σ.top r) (with_frame r args (opened σ))))
      by r q true b = halts (gives_call p f) true σ.steps _ (opened σ) (omega arith)
      by r q false true = halts (gives_call p f) true σ.steps _ (spent (opened σ)) (omega arith)
      by r q false false = ends_after (gives_call p f) true σ.steps (without_frame σ.top (frame_size r args)) (λ τ. refl) _
          (ends_less (gives_call p f) true σ.steps _ _ (omega arith) (h r (with_frame r args (opened σ)) q (omega arith)))

      framed_so : (o : Option Routine) → routine_at p f ≡ o → Ends (gives_call p f) true σ.steps (in_frame (at_work p run f) args (opened σ) o)
      framed_so None q = no (sym (ap is_some q) ∙ there)
      framed_so (Some r) q = by r q (nat_lt stack_end ((opened σ).top + frame_size r args)) (nat_lt (opened σ).steps (frame_size r args))

  act_ends : (j : Takes) (b : Bool) (line : ℕ) (act : Act) (next : Answer act → State → Outcome) (σ : State)
      → ((x : Answer act) (τ : State) → τ.steps + cost act ≤ σ.steps → Ends j b σ.steps (next x τ))
      → Ends j b σ.steps (on_done (plain p) line σ (perform act σ) next)
  act_ends j b line act next σ h = go (perform act σ) (acted act σ)
    where
      go : (d : ActResult (Answer act)) → Acted (cost act) σ d → Ends j b σ.steps (on_done (plain p) line σ d next)
      go (Went x w τ) e = ends_front j b σ.steps w [] _ (h x τ e)
      go (Stops why w τ) e = ends_front j b σ.steps w [] _ (halts j b σ.steps _ τ e)

  abbrev whatever : (t : ActTree) → Ranked (length p.rows) (length p.rows + 3) false t
  whatever t = any_tree (length p.rows) t

  -- a tree after a step
  after_step : (n : ℕ) (r : ℕ) (σ τ : State) → need K r σ.steps < suc n → τ.steps + 1 ≤ σ.steps → need K (length p.rows + 3) τ.steps < suc n
  after_step n r σ τ k e = omega (arith, k, need_paid K (length p.rows + 3) r τ.steps σ.steps (omega arith) e)

  ends_more : (n : ℕ) → Enough n → Enough (suc n)
  ends_more n h (Ret out) j b r d g σ k = record {
    result = _;
    is = refl;
    falls = subst (λ b. Fell b (Ended out) σ.steps σ.steps) (sym d) (omega arith);
    takes = g;
  }
  ends_more n h (Halt line why) j b r d g σ k = halts j b σ.steps _ σ (omega arith)
  ends_more n h Meaningless j b r d g σ k = absurd g
  ends_more n h (Line line next) j b r d g σ k = act_ends j b line (Spend 1) _ σ (λ x τ e. ends_front j b σ.steps [] [] _
      (ends_paid j b σ.steps τ.steps _ e (ends_more n h next j false (length p.rows + 3) (whatever next) g τ (after_step n r σ τ k e))))
  ends_more n h (Do line act next) j b r (inl c) g σ k = act_ends j b line act _ σ (λ x τ e.
      let f : τ.steps + 1 ≤ σ.steps = omega (arith, e, c) in
      ends_paid j b σ.steps τ.steps _ f (ends_more n h (next x) j false (length p.rows + 3) (whatever (next x)) (g x) τ (after_step n r σ τ k f)))
  ends_more n h (Do line act next) j b r (inr f) g σ k = act_ends j b line act _ σ (λ x τ e.
      let m : τ.steps ≤ σ.steps = omega (arith, e) in
      ends_less j b σ.steps τ.steps _ m (ends_more n h (next x) j b r (f x) (g x) τ (omega (arith, k, need_less K r τ.steps σ.steps m))))
  ends_more n h (Sub part next) j b r (l, inl e) g σ k = ends_joined (gives p part) j true b σ.steps _ _
      (subst (λ q. Ends (gives p part) q σ.steps (run_of p n (layer p part) σ)) e
      (h (layer p part) (gives p part) (pays part) (rank (length p.rows) part) (part_fits p part) (part_good p W part g.0) σ (omega (arith, k, l))))
      (λ out τ q m. ends_paid j b σ.steps τ.steps _ q
      (ends_more n h (next out) j false (length p.rows + 3) (whatever (next out)) (g.1 out m) τ (after_step n r σ τ k q)))
  ends_more n h (Sub part next) j b r (l, inr f) g σ k = ends_joined (gives p part) j (pays part) b σ.steps _ _
      (h (layer p part) (gives p part) (pays part) (rank (length p.rows) part) (part_fits p part) (part_good p W part g.0) σ (omega (arith, k, l)))
      (λ out τ q u. let m = fell_no_more (pays part) (Ended out) τ.steps σ.steps q in
      ends_less j b σ.steps τ.steps _ m (ends_more n h (next out) j b r (f out) (g.1 out u) τ (omega (arith, k, need_less K r τ.steps σ.steps m))))
  ends_more n h (Enter e next) j b r d g σ k = ends_allowed j b (limit_passed σ (cells_entered e)) σ _
      (ends_joined (gives_call p e.routine) j true b σ.steps _ _
      (call_ends (run_of p n) e.routine (args_at e σ.top) σ g.0 (λ q τ i m.
      h (whole p e.routine σ.top q) (gives_call p e.routine) true 1 (omega arith, inl refl) (routine_good p W e.routine σ.top q i) τ
      (omega (arith, k, d, need_less K 1 τ.steps σ.steps m))))
      (λ out τ q u. ends_paid j b σ.steps τ.steps _ q
      (ends_more n h (next out) j false (length p.rows + 3) (whatever (next out)) (g.1 out u) τ (after_step n r σ τ k q))))

  enough : (n : ℕ) → Enough n
  enough zero = λ t j b r d g σ k. absurd (omega (arith, k))
  enough (suc n) = ends_more n (enough n)

  -- Every tree that is meant has a run: this depth is enough.
  pub total : (t : ActTree) (j : Takes) → Good p W j t → (σ : State) (n : ℕ) → (length p.rows + 4) * (σ.steps + 1) ≤ n → Ends j false σ.steps (run_of p n t σ)
  total t j g σ n k = enough n t j false (length p.rows + 3) (any_tree (length p.rows) t) g σ (omega (arith, k))

  -- And so has every call of a routine.
  pub call_total : (f : ℕ) (args : List Value) (σ : State) (n : ℕ) → is_routine p f ≡ true → (length p.rows + 4) * (σ.steps + 1) ≤ n
      → Ends (gives_call p f) true σ.steps (call_of p (run_of p n) f args σ)
  call_total f args σ n there k = call_ends (run_of p n) f args σ there (λ q τ e m. enough n (whole p f σ.top q) (gives_call p f) true 1 (omega arith, inl refl)
      (routine_good p W f σ.top q e) τ (omega (arith, k, need_less K 1 τ.steps σ.steps m)))
