-- What the steps of the declarations keep: whatever each change of the tables keeps that they make.
use Rattle.std.proofs.Common.{◌+◌, ◌<◌, ◌∷◌, ◌≡◌, ◌≤◌, [], ℕ, ℤ, Bool, List, None, Option, Some, arith, false, is_none, length, refl, subst, true}
use Rattle.pas_tree.specs.{ConstantTrees.NamesTree, declared.constants.NextName.NextName}
use Rattle.pas_tree.specs.BlockTrees.{RoutineTree, routine_body, routine_heading}
use Rattle.core_program.specs.ProgramRows.{routine_at}
use Rattle.core_program.specs.declared.{program.Routine.Routine as RoutineRow, rows.NameRow.NameRow, rows.PartRow.PartRow, rows.Row.Row, rows.TypeRow.TypeRow}
use Rattle.check_steps.specs.{Items.link, Items.row_on, Names.declare_in, Names.define_in, Regions.declared_in, Regions.defined_in, Required.require}
use Rattle.check_steps.specs.{Required.required_def, Steps.open_region, Steps.put, Steps.when}
use Rattle.check_steps.specs.Known.{Known, and_choice, and_definition, and_frame, and_label, and_region, and_routine, name_at, row_at, with_routine, with_row}
use Rattle.check_steps.specs.Steps.{◌>>=◌, Step, add_chosen, add_definition, add_routine, ask, change, each, each_back, extend, give, look, open_frame}
use Rattle.check_steps.specs.declared.regions.{Definition.Definition, Frame.Frame}
use Rattle.kind_checker.specs.Names.{each_name, on_name}
use Rattle.denoter_checker.specs.{Defines.by, Formals.is_function, Parts.settle_domain, Parts.settled, declared.defines.Wanted.Wanted}
use Rattle.denoter_checker.specs.RoutineParts.{completed_by, routine_name}
use Rattle.rule_laws.proofs.Breaks.{Each}
use Rattle.rule_laws.proofs.Keeping.{Keeps, ask-keeps, bind-keeps, give-keeps, look-keeps, put-keeps, when-keeps}
use Rattle.rule_laws.specs.ForwardHeadings.{is_block}

-- A row that is not of a heading which waits for a block, has one elsewhere, or has that of another, and not of a
-- procedure or function, a label or a record type.
abbrev pub is_quiet : Row → Bool
is_quiet (Row.Part (PartRow.Forward function block)) = false
is_quiet (Row.Part (PartRow.Completing first)) = false
is_quiet (Row.Name (NameRow.Routine assigned number region)) = false
is_quiet (Row.Name (NameRow.Label marked value level ways)) = false
is_quiet (Row.Type (TypeRow.Record packed region cells variants)) = false
is_quiet r = true

-- the row of a heading that completes another, and that one's
abbrev pub with_completion : Known → (first position : ℕ) (function : Bool) (name : ℕ) → Known
with_completion k first position function name =
    with_row (with_row k first (Row.Part (PartRow.Forward function (Some position)))) name (Row.Part (PartRow.Completing first))

-- A region that was opened where the tables were so, and that declares no label.
pub record IsRecordRegion (I : Known → Type 0) (k : Known) (region : ℕ) : Type 0 where
  pub before : Known
  pub held : I before
  pub opened : region ≡ length before.regions
  pub there : region < length k.regions
  pub none : (value : ℕ) → declared_in k.regions region value ≡ None

-- The routines are those of the text.
pub record Lasting (G : RoutineTree → Type 0) (I : Known → Type 0) : Type 0 where
  pub puts : (k : Known) (m : ℕ) (r : Row) → is_quiet r ≡ true → I k → I (with_row k m r)
  pub stays : (k : Known) (m : ℕ) → I k → I (with_row k m (row_at k m))
  -- a routine keeps its name
  pub bodies : (k : Known) (n : ℕ) (r : RoutineRow) → ((q : RoutineRow) → routine_at k.program n ≡ Some q → r.name ≡ q.name) → I k
      → I (with_routine k n r)
  pub routines : (k : Known) (r : RoutineRow) → I k → I (and_routine k r)
  pub frames : (k : Known) (f : Frame) → I k → I (and_frame k f)
  pub regions : (k : Known) (token : ℕ) (f : Frame) → I k → I (and_region k token f)
  -- a name may be used from its token on
  pub defines : (k : Known) (region : ℕ) (d : Definition) → d.end ≡ d.token → I k → I (and_definition k region (name_at k d.token) d)
  pub requires : (k : Known) (name : ℕ) (d : Definition) → length k.words ≤ d.token → I k → I (and_definition k 0 name d)
  pub chooses : (k : Known) (list : ℕ) (value : ℤ) → I k → I (and_choice k list value)
  pub records : (k : Known) (word : ℕ) (packed : Bool) (region cells : ℕ) (variants : Option ℕ) → IsRecordRegion I k region → I k
      → I (with_row k word (Row.Type (TypeRow.Record packed region cells variants)))
  -- a heading that a directive follows waits for a block
  pub waits : (k : Known) (r : RoutineTree) → G r → is_block (routine_body r) ≡ false → I k
      → I (with_row k (routine_name r) (Row.Part (PartRow.Forward (is_function (routine_heading r)) None)))
  pub completes : (k : Known) (region first position : ℕ) (r : RoutineTree) → G r → completed_by k region (routine_heading r) (routine_body r) ≡ Some first
      → I k
      → I (with_completion k first position (is_function (routine_heading r)) (routine_name r))

-- what else keeps it: a constant or a type, which may be used from the end of its definition on
abbrev pub Ends : (Known → Type 0) → Type 0
Ends I = (k : Known) (region : ℕ) (d : Definition) → I k → I (and_definition k region (name_at k d.token) d)

-- and what else the declarations of blocks change
pub record Declaring (G : RoutineTree → Type 0) (I : Known → Type 0) : Type 0 where
  pub kept : Lasting G I
  pub ends : Ends I
  pub declares : (k : Known) (region value token : ℕ) → I k → I (and_label k region value token)
  pub labels : (k : Known) (token value level : ℕ) → I k → I (with_row k token (Row.Name (NameRow.Label false value level 0)))
  -- a routine of this name is there
  pub heads : (k : Known) (name number region : ℕ) → ((q : RoutineRow) → routine_at k.program number ≡ Some q → q.name ≡ name)
      → number < length k.program.routines → I k → I (with_row k name (Row.Name (NameRow.Routine false number region)))

-- ---- rows

pub put-lasts : {G : RoutineTree → Type 0} {I : Known → Type 0} → Lasting G I → (m : ℕ) (r : Row) → is_quiet r ≡ true → Keeps I (put m r)
put-lasts c m r quiet = put-keeps m r (λ k i. c.puts k m r quiet i)

on_same : {G : RoutineTree → Type 0} {I : Known → Type 0} → Lasting G I → (k : Known) (m next : ℕ) (r : Row) → row_at k m ≡ r → I k
    → I (with_row k m (row_on r next))
on_same c k m next (Row.Item i) e h = c.puts k m (row_on (Row.Item i) next) refl h
on_same {I = I} c k m next r e h = subst (λ (x : Row). I (with_row k m x)) e (c.stays k m h)

pub link-lasts : {G : RoutineTree → Type 0} {I : Known → Type 0} → Lasting G I → (last next : ℕ) → Keeps I (link last next)
unfolding link look ◌>>=◌ change
link-lasts c last next = record { of = λ k i. on_same c k last next (row_at k last) refl i }

settled_same : {G : RoutineTree → Type 0} {I : Known → Type 0} → Lasting G I → (k : Known) (m : ℕ) (r : Row) → row_at k m ≡ r → I k
    → I (with_row k m (settled k r))
settled_same c k m (Row.Type (TypeRow.Pointer domain)) e h = c.puts k m (settled k (Row.Type (TypeRow.Pointer domain))) refl h
settled_same {I = I} c k m r e h = subst (λ (x : Row). I (with_row k m x)) e (c.stays k m h)

pub settle_domain-lasts : {G : RoutineTree → Type 0} {I : Known → Type 0} → Lasting G I → (token : ℕ) → Keeps I (settle_domain token)
unfolding settle_domain look ◌>>=◌ change
settle_domain-lasts c token = record { of = λ k i. settled_same c k token (row_at k token) refl i }

-- ---- routines, frames, regions and lists

changes : {I : Known → Type 0} (f : Known → Known) → ((k : Known) → I k → I (f k)) → Keeps I (change f)
unfolding change
changes f h = record { of = h }

extends : {I : Known → Type 0} {A : Type 0} (value : Known → A) (f : Known → Known) → ((k : Known) → I k → I (f k)) → Keeps I (extend value f)
unfolding extend
extends value f h = record { of = h }

pub add_routine-lasts : {G : RoutineTree → Type 0} {I : Known → Type 0} → Lasting G I → (r : RoutineRow) → Keeps I (add_routine r)
add_routine-lasts c r = extends (λ k. length k.program.routines) (λ k. and_routine k r) (λ k i. c.routines k r i)

pub open_frame-lasts : {G : RoutineTree → Type 0} {I : Known → Type 0} → Lasting G I → (f : Frame) → Keeps I (open_frame f)
open_frame-lasts c f = extends (λ k. length k.frames) (λ k. and_frame k f) (λ k i. c.frames k f i)

pub open_region-lasts : {G : RoutineTree → Type 0} {I : Known → Type 0} → Lasting G I → (token : ℕ) (outer : Option ℕ) (level : ℕ)
    → Keeps I (open_region token outer level)
open_region-lasts c token outer level =
    let f : Known → Frame = λ k. record { region = length k.regions; outer = outer; level = level; withs = 0 } in
    extends (λ k. length k.frames) (λ k. and_region k token (f k)) (λ k i. c.regions k token (f k) i)

pub add_chosen-lasts : {G : RoutineTree → Type 0} {I : Known → Type 0} → Lasting G I → (list : ℕ) (value : ℤ) → Keeps I (add_chosen list value)
add_chosen-lasts c list value = changes (λ k. and_choice k list value) (λ k i. c.chooses k list value i)

-- ---- names

when_defined : (I : Known → Type 0) (ok : Bool) (k : Known) (region : ℕ) (d : Definition) → (I k → I (and_definition k region (name_at k d.token) d))
    → I k → I (when ok (add_definition region (name_at k d.token) d) k).known
unfolding when change give
when_defined I true k region d h i = h i
when_defined I false k region d h i = i

pub define_in-by : {I : Known → Type 0} (region : ℕ) (d : Definition) → ((k : Known) → I k → I (and_definition k region (name_at k d.token) d))
    → Keeps I (define_in region d)
unfolding define_in look ◌>>=◌ ask
define_in-by {I = I} region d h =
    record { of = λ k i. when_defined I (is_none (defined_in k.regions region (name_at k d.token))) k region d (h k) i }

pub define_in-lasts : {G : RoutineTree → Type 0} {I : Known → Type 0} → Lasting G I → (region : ℕ) (d : Definition) → d.end ≡ d.token
    → Keeps I (define_in region d)
define_in-lasts c region d at = define_in-by region d (λ k i. c.defines k region d at i)

pub declare_in-keeps : {I : Known → Type 0} (region value token : ℕ) → ((k : Known) → I k → I (and_label k region value token))
    → Keeps I (declare_in region value token)
unfolding declare_in
declare_in-keeps region value token declares = bind-keeps (look-keeps (λ k. declared_in k.regions region value)) (λ held.
    bind-keeps (ask-keeps _ token (is_none held)) (λ _.
    when-keeps (is_none held) (changes (λ k. and_label k region value token) declares)))

when_required : {G : RoutineTree → Type 0} {I : Known → Type 0} → Lasting G I → (ok : Bool) (k : Known) (name : ℕ) (d : Definition)
    → length k.words ≤ d.token → I k → I (when ok (add_definition 0 name d) k).known
unfolding when change give
when_required c true k name d behind i = c.requires k name d behind i
when_required c false k name d behind i = i

no_less : (n m : ℕ) → n ≤ n + m
no_less n m = omega arith

pub require-lasts : {G : RoutineTree → Type 0} {I : Known → Type 0} → Lasting G I → (name : ℕ) (r : NameRow) → is_quiet (Row.Name r) ≡ true
    → Keeps I (require name r)
unfolding require look ◌>>=◌ change
require-lasts c name r quiet = record {
  of = λ k i.
      let first = length k.words in
      let d : Definition = record { def = required_def r (first + name); token = first + name; end = 0 } in
      when_required c (is_none (defined_in k.regions 0 name)) (with_row k (first + name) (Row.Name r)) name d (no_less first name)
      (c.puts k (first + name) (Row.Name r) quiet i);
}

-- ---- lists of parts

pub each-lasts : {I : Known → Type 0} {A X : Type 0} (f : A → X → Step A) → ((a : A) (x : X) → Keeps I (f a x)) → (a : A) (xs : List X)
    → Keeps I (each f a xs)
each-lasts f h a [] = give-keeps a
each-lasts f h a (x ∷ xs) = bind-keeps (h a x) (λ b. each-lasts f h b xs)

pub each_back-lasts : {I : Known → Type 0} {A X : Type 0} (f : A → X → Step A) → ((a : A) (x : X) → Keeps I (f a x)) → (a : A) (xs : List X)
    → Keeps I (each_back f a xs)
each_back-lasts f h a [] = give-keeps a
each_back-lasts f h a (x ∷ xs) = bind-keeps (each_back-lasts f h a xs) (λ b. h b x)

pub each_of-lasts : {I : Known → Type 0} {A X : Type 0} (P : X → Type 0) (f : A → X → Step A) → ((a : A) (x : X) → P x → Keeps I (f a x))
    → (a : A) (xs : List X) → Each P xs → Keeps I (each f a xs)
each_of-lasts P f h a [] p = give-keeps a
each_of-lasts P f h a (x ∷ xs) p = bind-keeps (h a x p.0) (λ b. each_of-lasts P f h b xs p.1)

pub on_name-lasts : {I : Known → Type 0} {A : Type 0} (f : A → ℕ → Step A) (a : A) (n : NextName) → ((a : A) (t : ℕ) → Keeps I (f a t))
    → Keeps I (on_name f a n)
unfolding on_name
on_name-lasts f a n h = h a n.name

pub each_name-lasts : {I : Known → Type 0} {A : Type 0} (f : A → ℕ → Step A) (a : A) (n : NamesTree) → ((a : A) (t : ℕ) → Keeps I (f a t))
    → Keeps I (each_name f a n)
each_name-lasts f a n h = bind-keeps (h a n.first) (λ b. each-lasts (on_name f) (λ a x. on_name-lasts f a x h) b n.others)

pub by-lasts : {I : Known → Type 0} (w : Wanted) (fields constants : Step (Unit {0})) → Keeps I fields → Keeps I constants
    → Keeps I (by w fields constants)
by-lasts Wanted.Fields fields constants h g = h
by-lasts Wanted.Constants fields constants h g = g
