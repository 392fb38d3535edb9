-- The row of an expression tells its type, where a row alone can.
use Rattle.std.proofs.Common.{if◌then◌else◌, ◌++◌, ◌<◌, ◌∙◌, ◌∷◌, ◌≡◌, ◌⊎◌, [], ℕ, Bool, List, None, Option, Some, ap, arith, false, inl, inr, length, refl}
use Rattle.std.proofs.Common.{set, slice_get, subst, suc, sym, true, unwrap_or, zero}
use Rattle.std.proofs.lemmas.Option.{none-some, same_Some}
use Rattle.core_program.specs.{Headings.heading_in, Headings.signature_in, ProgramRows.routine_at, WholeTables.type_accessed}
use Rattle.core_program.specs.declared.{program.Routine.Routine, rows.Mode.Mode, rows.NameRow.NameRow, rows.PartRow.PartRow, rows.Row.Row}
use Rattle.check_steps.specs.{Headings.signature_in as found_in_row, Names.is_usable, Names.usable, Names.use_again}
use Rattle.check_steps.specs.Known.{Known, find, name_at, row_at, with_row}
use Rattle.check_steps.specs.Steps.{◌>>=◌, ask, change, give, look}
use Rattle.check_steps.specs.declared.{breaks.Break.Break, regions.Found.Found}
use Rattle.kind_checker.specs.{Headings.signature_at as found_signature, declared.shapes.ExpressionType.ExpressionType}
use Rattle.expression_checker.specs.{Names.variable_row, declared.callees.Callee.Callee}
use Rattle.expression_checker.specs.Callees.{callee_in, callee_of, declared_routine, declared_type}
use Rattle.rule_laws.proofs.{Faces.loose, Faces.said, LabelTold.Anywhere, LabelTold.anywhere, NamesFound.Ahead, Stood.Stood, Touches.Same, Touches.put-touches}
use Rattle.rule_laws.specs.TextCases.{result_told, routine_told}

-- ---- steps that break no rule

pub left_none : (xs ys : List Break) → xs ++ ys ≡ [] → xs ≡ []
left_none [] ys e = refl
left_none (x ∷ xs) ys e = absurd cc

pub right_none : (xs ys : List Break) → xs ++ ys ≡ [] → ys ≡ []
right_none [] ys e = e
right_none (x ∷ xs) ys e = absurd cc

pub asked_fine : (ok : Bool) (b : Break) → (if ok then [] else b ∷ []) ≡ [] → ok ≡ true
asked_fine true b e = refl
asked_fine false b e = absurd cc

-- ---- a row that is put

pub put_same : (k : Known) (n : ℕ) (r : Row) → said r ≡ Row.Nothing → Same Anywhere loose k (with_row k n r)
unfolding change
put_same k n r none = (put-touches {Q = Anywhere} {strict = loose} n r (anywhere n) none).same k

got_put : (rows : List Row) (n : ℕ) (r : Row)
    → (unwrap_or (slice_get (set rows n r) n) Row.Nothing ≡ r) ⊎ (unwrap_or (slice_get (set rows n r) n) Row.Nothing ≡ Row.Nothing)
got_put [] n r = inr refl
got_put (x ∷ xs) zero r = inl refl
got_put (x ∷ xs) (suc n) r = got_put xs n r

-- it stands there, or there is no such row
pub put_there : (k : Known) (n : ℕ) (r : Row) → (row_at (with_row k n r) n ≡ r) ⊎ (row_at (with_row k n r) n ≡ Row.Nothing)
put_there k n r = got_put k.program.rows n r

-- it stands there where there is such a row
pub put_in : (rows : List Row) (n : ℕ) (r : Row) → n < length rows → unwrap_or (slice_get (set rows n r) n) Row.Nothing ≡ r
put_in [] n r below = absurd (omega (arith, below))
put_in (x ∷ xs) zero r below = refl
put_in (x ∷ xs) (suc n) r below = put_in xs n r (omega (arith, below))

-- ---- names

pub variable_told : (conformant : Bool) (m : Mode) (place levels of' : ℕ) → type_accessed (variable_row conformant m place levels of') ≡ of'
variable_told true m place levels of' = refl
variable_told false Mode.Place place levels of' = refl
variable_told false m place levels of' = refl

pub record IsFound (o : Option Found) : Type 0 where
  pub found : Found
  pub is : o ≡ Some found

chosen_found : (b : Bool) (f : Found) → b ≡ true → (if b then Some f else None) ≡ Some f
chosen_found true f e = refl
chosen_found false f e = absurd (let never : false ≡ true = e in cc)

usable_found : (at : ℕ) (o : Option Found) → is_usable at o ≡ true → IsFound (usable at o)
usable_found at None e = absurd (let never : false ≡ true = e in cc)
usable_found at (Some f) e = record { found = f; is = chosen_found _ f e }

pub use_found : (frame token : ℕ) (k : Known) → (use_again frame token k).broken ≡ [] → IsFound (use_again frame token k).value
unfolding use_again look ◌>>=◌ ask give
use_found frame token k e =
    let o = find k frame (name_at k token) in
    usable_found token o (asked_fine (is_usable token o) _ (left_none _ [] e))

-- ---- function designators

-- the heading of a routine, or of a parameter, is that at the end
abbrev pub IsCallee : Known → Callee → Type 0
IsCallee F (Callee.Routine number levels heading) = (r : Routine) → routine_at F.program number ≡ Some r → r.heading ≡ heading
IsCallee F (Callee.Formal formal levels heading) = heading_in (row_at F formal) ≡ Some heading
IsCallee F c = Unit {0}

formal_said : (r : Row) → heading_in (said r) ≡ heading_in r
formal_said (Row.Name (NameRow.Constant of' v)) = refl
formal_said (Row.Name (NameRow.Text token)) = refl
formal_said (Row.Name (NameRow.Label marked value level ways)) = refl
formal_said (Row.Name (NameRow.Routine assigned number region)) = refl
formal_said (Row.Name (NameRow.RoutineFormal place level heading)) = refl
formal_said (Row.Part (PartRow.Completing first)) = refl
formal_said (Row.Part (PartRow.Heading name sections result)) = refl
formal_said r = refl

formal_there : (F k : Known) → Stood F k → (token place level heading : ℕ) → row_at k token ≡ Row.Name (NameRow.RoutineFormal place level heading)
    → heading_in (row_at F token) ≡ Some heading
formal_there F k stood token place level heading e = elim (stood.of token) [
  | inl none ↦ absurd (let never : Row.Name (NameRow.RoutineFormal place level heading) ≡ Row.Nothing = sym (ap said e) ∙ none in cc)
  | inr same ↦ sym (formal_said (row_at F token)) ∙ ap heading_in (same ∙ ap said e)
]

declared_callee : (F k : Known) → F.program.routines ≡ k.program.routines → (frame number : ℕ) (o : Option Routine) → routine_at k.program number ≡ o
    → IsCallee F (declared_routine k frame number o)
declared_callee F k same frame number None e = tt
declared_callee F k same frame number (Some r) e = λ q at.
    ap (λ (x : Routine). x.heading)
    (same_Some q r (sym at ∙ ap (λ (rs : List Routine). slice_get rs number) same ∙ e))

callee_in_is : (F k : Known) → F.program.routines ≡ k.program.routines → Stood F k → (frame token : ℕ) (r : Row) → row_at k token ≡ r
    → IsCallee F (callee_in k frame token r)
callee_in_is F k same stood frame token (Row.Name (NameRow.Routine assigned number region)) e =
    declared_callee F k same frame number (routine_at k.program number) refl
callee_in_is F k same stood frame token (Row.Name (NameRow.RoutineFormal place level heading)) e = formal_there F k stood token place level heading e
callee_in_is F k same stood frame token (Row.Name (NameRow.Required routine)) e = tt
callee_in_is F k same stood frame token r e = tt

pub callee_of_is : (F k : Known) → F.program.routines ≡ k.program.routines → Stood F k → (frame : ℕ) (o : Option Found) → IsCallee F (callee_of k frame o)
callee_of_is F k same stood frame None = tt
callee_of_is F k same stood frame (Some f) = callee_in_is F k same stood frame f.definition.token (row_at k f.definition.token) refl

heading_told : (F k : Known) → Ahead F k → (at : ℕ) (q : Row) → row_at F at ≡ q → (t : ℕ) → result_told (signature_in q) ≡ Some t
    → declared_type (found_signature k at).result ≡ ExpressionType.Of t
heading_told F k a at (Row.Part (PartRow.Heading name sections result)) is t e =
    ap (λ r. declared_type (found_in_row r).result) (a.headings at name sections result is) ∙ ap declared_type e
heading_told F k a at q is t e = absurd (none-some t e)

pub routine_type : (F k : Known) → Ahead F k → (o : Option Routine) (heading : ℕ) → ((r : Routine) → o ≡ Some r → r.heading ≡ heading) → (t : ℕ)
    → routine_told F.program o ≡ Some t → declared_type (found_signature k heading).result ≡ ExpressionType.Of t
routine_type F k a None heading is t e = absurd (none-some t e)
routine_type F k a (Some r) heading is t e =
    subst (λ n. declared_type (found_signature k n).result ≡ ExpressionType.Of t) (is r refl) (heading_told F k a r.heading (row_at F r.heading) refl t e)
