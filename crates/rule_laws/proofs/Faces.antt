-- What steps on other tokens leave of a row.
use Rattle.std.proofs.Common.{◌&&◌, ◌-◌, ◌∙◌, ◌∷◌, ◌≡◌, ◌⊎◌, [], ℕ, Bool, List, ap, false, inl, inr, nat_eq, not, refl, set, slice_get, suc, sym, true}
use Rattle.std.proofs.Common.{unwrap_or, zero}
use Rattle.core_program.specs.declared.rows.{ItemRow.ItemRow, NameRow.NameRow, PartRow.PartRow, Row.Row}
use Rattle.check_steps.specs.{Items.going_on, Items.row_on, Known.Known, Known.row_at, Known.with_row}
use Rattle.statement_checker.specs.{Assignments.assigned_in, Assignments.with_value, Labels.marked_label, Labels.with_ways}

-- what steps leave as it is, where they do: no frame is opened, no label marked, no function assigned
pub record Shown : Type 0 where
  pub frames : Bool
  pub marks : Bool
  pub results : Bool

-- none of it
abbrev pub loose : Shown
loose = record { frames = false; marks = false; results = false }

-- frames and the marks of labels
abbrev pub marking : Shown
marking = record { frames = true; marks = true; results = false }

-- frames and which functions are assigned
abbrev pub assigning : Shown
assigning = record { frames = true; marks = false; results = true }

-- A row without what may change from afar: the ways to a label, where an item's list goes on; and, but where that is
-- left as it is, whether a label marks a statement, and whether a function is assigned.
abbrev pub face : Shown → Row → Row
face s (Row.Name (NameRow.Label marked value level ways)) = Row.Name (NameRow.Label (s.marks && marked) value level 0)
face s (Row.Name (NameRow.Routine assigned number region)) = Row.Name (NameRow.Routine (s.results && assigned) number region)
face s (Row.Item i) = Row.Item (going_on i 0)
face s r = r

-- what a row says of a type, a constant, a procedure, a function, also as a parameter, or a label, of a heading, or of the
-- one that it completes
abbrev pub said : Row → Row
said (Row.Type t) = Row.Type t
said (Row.Name (NameRow.Constant of' v)) = Row.Name (NameRow.Constant of' v)
said (Row.Name (NameRow.Text token)) = Row.Name (NameRow.Text token)
said (Row.Name (NameRow.Routine assigned number region)) = Row.Name (NameRow.Routine false number region)
said (Row.Name (NameRow.Label marked value level ways)) = Row.Name (NameRow.Label false value level 0)
said (Row.Name (NameRow.RoutineFormal place level heading)) = Row.Name (NameRow.RoutineFormal place level heading)
said (Row.Part (PartRow.Completing first)) = Row.Part (PartRow.Completing first)
said (Row.Part (PartRow.Heading name sections result)) = Row.Part (PartRow.Heading name sections result)
said r = Row.Nothing

-- whether the row is that of a label which the block of this level declares and which marks no statement so far
abbrev pub fine_in : ℕ → Row → Bool
fine_in level (Row.Name (NameRow.Label marked value l ways)) = not marked && nat_eq (level - l) 0
fine_in level r = false

-- where nothing is said no label stands
pub unsaid_fine : (level : ℕ) (r : Row) → said r ≡ Row.Nothing → fine_in level r ≡ false
unsaid_fine level (Row.Name (NameRow.Label marked value l ways)) e = absurd cc
unsaid_fine level r e = refl

-- where nothing is said no function stands
pub unsaid_given : (r : Row) → said r ≡ Row.Nothing → assigned_in r ≡ false
unsaid_given (Row.Name (NameRow.Routine assigned number region)) e = absurd cc
unsaid_given r e = refl

-- ---- changes that show nothing

pub record Shows (strict : Shown) (g : Row → Row) : Type 0 where
  pub looks : (r : Row) → face strict (g r) ≡ face strict r
  pub says : (r : Row) → said (g r) ≡ said r
  pub spends : (level : ℕ) (r : Row) → fine_in level r ≡ false → fine_in level (g r) ≡ false
  pub gives : strict.results ≡ true → (r : Row) → assigned_in r ≡ false → assigned_in (g r) ≡ false

ways_face : (strict : Shown) (r : Row) (n : ℕ) → face strict (with_ways r n) ≡ face strict r
ways_face strict (Row.Name (NameRow.Label marked value level ways)) n = refl
ways_face strict r n = refl

ways_said : (r : Row) (n : ℕ) → said (with_ways r n) ≡ said r
ways_said (Row.Name (NameRow.Label marked value level ways)) n = refl
ways_said r n = refl

ways_fine : (level : ℕ) (r : Row) (n : ℕ) → fine_in level (with_ways r n) ≡ fine_in level r
ways_fine level (Row.Name (NameRow.Label marked value l ways)) n = refl
ways_fine level r n = refl

ways_given : (r : Row) (n : ℕ) → assigned_in (with_ways r n) ≡ assigned_in r
ways_given (Row.Name (NameRow.Label marked value level ways)) n = refl
ways_given r n = refl

pub ways_show : (strict : Shown) (f : Row → ℕ) → Shows strict (λ r. with_ways r (f r))
ways_show strict f = record {
  looks = λ r. ways_face strict r (f r);
  says = λ r. ways_said r (f r);
  spends = λ level r e. ways_fine level r (f r) ∙ e;
  gives = λ _ r e. ways_given r (f r) ∙ e;
}

-- where an item's list goes on the last time
pub going_last : (i : ItemRow) (n m : ℕ) → going_on (going_on i n) m ≡ going_on i m
going_last (ItemRow.Element v end) n m = refl
going_last (ItemRow.Member v end) n m = refl
going_last (ItemRow.Members first last end) n m = refl
going_last (ItemRow.Choice v chosen end) n m = refl
going_last (ItemRow.Value v of' end) n m = refl
going_last (ItemRow.Place access end) n m = refl
going_last (ItemRow.ArrayPlace first access of' end) n m = refl
going_last (ItemRow.ArrayValue first v of' end) n m = refl
going_last (ItemRow.Routine routine levels end) n m = refl
going_last (ItemRow.RoutineFormal formal levels end) n m = refl
going_last (ItemRow.Written v of' end) n m = refl
going_last (ItemRow.WrittenWide v of' width end) n m = refl
going_last i n m = refl

on_face : (strict : Shown) (r : Row) (n : ℕ) → face strict (row_on r n) ≡ face strict r
on_face strict (Row.Item i) n = ap (λ x. Row.Item x) (going_last i n 0)
on_face strict r n = refl

on_said : (r : Row) (n : ℕ) → said (row_on r n) ≡ said r
on_said (Row.Item i) n = refl
on_said r n = refl

on_fine : (level : ℕ) (r : Row) (n : ℕ) → fine_in level (row_on r n) ≡ fine_in level r
on_fine level (Row.Item i) n = refl
on_fine level r n = refl

on_given : (r : Row) (n : ℕ) → assigned_in (row_on r n) ≡ assigned_in r
on_given (Row.Item i) n = refl
on_given r n = refl

pub on_show : (strict : Shown) (n : ℕ) → Shows strict (λ r. row_on r n)
on_show strict n = record {
  looks = λ r. on_face strict r n;
  says = λ r. on_said r n;
  spends = λ level r e. on_fine level r n ∙ e;
  gives = λ _ r e. on_given r n ∙ e;
}

value_face : (strict : Shown) → strict.results ≡ false → (r : Row) → face strict (with_value r) ≡ face strict r
value_face strict lax (Row.Name (NameRow.Routine assigned number region)) =
    ap (λ b. Row.Name (NameRow.Routine (b && true) number region)) lax ∙ sym (ap (λ b. Row.Name (NameRow.Routine (b && assigned) number region)) lax)
value_face strict lax r = refl

value_said : (r : Row) → said (with_value r) ≡ said r
value_said (Row.Name (NameRow.Routine assigned number region)) = refl
value_said r = refl

value_fine : (level : ℕ) (r : Row) → fine_in level (with_value r) ≡ fine_in level r
value_fine level (Row.Name (NameRow.Routine assigned number region)) = refl
value_fine level r = refl

pub value_shows : (strict : Shown) → strict.results ≡ false → Shows strict with_value
value_shows strict lax = record {
  looks = value_face strict lax;
  says = value_said;
  spends = λ level r e. value_fine level r ∙ e;
  gives = λ strictly r e. absurd (let never : false ≡ true = sym lax ∙ strictly in cc);
}

mark_face : (strict : Shown) → strict.marks ≡ false → (r : Row) → face strict (marked_label r) ≡ face strict r
mark_face strict lax (Row.Name (NameRow.Label marked value level ways)) =
    ap (λ b. Row.Name (NameRow.Label (b && true) value level 0)) lax ∙ sym (ap (λ b. Row.Name (NameRow.Label (b && marked) value level 0)) lax)
mark_face strict lax r = refl

mark_said : (r : Row) → said (marked_label r) ≡ said r
mark_said (Row.Name (NameRow.Label marked value level ways)) = refl
mark_said r = refl

mark_fine : (level : ℕ) (r : Row) → fine_in level r ≡ false → fine_in level (marked_label r) ≡ false
mark_fine level (Row.Name (NameRow.Label marked value l ways)) e = refl
mark_fine level r e = e

mark_given : (r : Row) → assigned_in (marked_label r) ≡ assigned_in r
mark_given (Row.Name (NameRow.Label marked value level ways)) = refl
mark_given r = refl

pub mark_shows : (strict : Shown) → strict.marks ≡ false → Shows strict marked_label
mark_shows strict lax = record { looks = mark_face strict lax; says = mark_said; spends = mark_fine; gives = λ _ r e. mark_given r ∙ e }

-- ---- one row put

got_either : (rows : List Row) (m n : ℕ) (r : Row)
    → (unwrap_or (slice_get (set rows m r) n) Row.Nothing ≡ unwrap_or (slice_get rows n) Row.Nothing)
    ⊎ ((n ≡ m) × (unwrap_or (slice_get (set rows m r) n) Row.Nothing ≡ r))
got_either [] m n r = inl refl
got_either (x ∷ xs) zero zero r = inr (refl, refl)
got_either (x ∷ xs) zero (suc n) r = inl refl
got_either (x ∷ xs) (suc m) zero r = inl refl
got_either (x ∷ xs) (suc m) (suc n) r = elim (got_either xs m n r) [
  | inl e ↦ inl e
  | inr p ↦ inr (ap suc p.0, p.1)
]

pub row_either : (k : Known) (m n : ℕ) (r : Row) → (row_at (with_row k m r) n ≡ row_at k n) ⊎ ((n ≡ m) × (row_at (with_row k m r) n ≡ r))
row_either k m n r = got_either k.program.rows m n r
