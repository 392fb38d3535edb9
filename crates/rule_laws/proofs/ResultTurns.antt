-- The tables while a function's block is gone over, and steps that assign nothing to the function.
use Rattle.std.proofs.Common.{◌-◌, ◌∙◌, ◌≡◌, ◌⊎◌, ℕ, Bool, List, None, Option, ap, arith, inl, inr, length, refl, sym, unwrap_or}
use Rattle.grammar.specs.Nodes.{Node}
use Rattle.core_program.specs.{ProgramRows.type_in, declared.rows.NameRow.NameRow, declared.rows.PartRow.PartRow, declared.rows.Row.Row}
use Rattle.check_steps.specs.{Breaks.number, Headings.signature_in, Known.Known, Known.row_at, Known.type_at, Regions.RegionRows, Regions.region_at}
use Rattle.check_steps.specs.declared.{breaks.Break.Break, words.SpelledToken.SpelledToken}
use Rattle.kind_checker.specs.Headings.{signature_at}
use Rattle.decl_checker.specs.{Routines.first_name, Routines.own_frame, Scopes.routine_region}
use Rattle.code_checker.specs.Results.{name_in_first}
use Rattle.rule_laws.proofs.{Alike.type_said, Breaks.Each, Breaks.In, Breaks.of_each}
use Rattle.rule_laws.proofs.Faces.{Shown, assigning, face, going_last, loose, said}
use Rattle.rule_laws.proofs.Touches.{IsBeside, Longer, Same, Told, longer_still}
use Rattle.rule_laws.specs.{CaseLaws.late_at, ResultLaws.AreAtNames, ResultLaws.AreDeclared, ResultLaws.IsApart, ResultLaws.IsUnassigned, Tokens.Has}

-- a function's block that is gone over from tables on: the function by the name in its first heading, and the name in the
-- heading before the block
pub record Spot : Type 0 where
  pub k : Known
  pub function : ℕ
  pub name : ℕ
  pub part : Node

pub record IsSpot (p : Spot) : Type 0 where
  pub its : IsUnassigned p.k p.part p.function
  pub named : AreAtNames p.k
  pub declared : AreDeclared p.k p.part
  pub first : IsApart p.k p.part p.function
  pub apart : Has p.part p.name → ⊥

-- the tables where some of the block was gone over, and whether something was assigned to the function in it
pub record Turn (p : Spot) (is : IsSpot p) (seen : Bool) (j : Known) : Type 0 where
  pub words : j.words ≡ p.k.words
  pub regions : j.regions ≡ p.k.regions
  pub frames : Longer p.k.frames j.frames
  pub routines : j.program.routines ≡ p.k.program.routines
  pub rows : (n : ℕ) → IsBeside (Has p.part) p.k n → face loose (row_at j n) ≡ face loose (row_at p.k n)
  pub sayings : (n : ℕ) → (said (row_at j n) ≡ Row.Nothing) ⊎ (said (row_at j n) ≡ said (row_at p.k n))
  pub types : (n : ℕ) → type_at j n ≡ type_at p.k n
  pub result : row_at j p.function ≡ Row.Name (NameRow.Routine seen is.its.number is.its.region)

-- ---- like tables

pub beside : (k : Known) (part : Node) (n : ℕ) → IsApart k part n → IsBeside (Has part) k n
beside k part n a = record { none = λ h. a.none h.is; before_end = a.before_end }

pub beside_on : (p : Spot) (j : Known) (n : ℕ) → j.words ≡ p.k.words → IsBeside (Has p.part) p.k n → IsBeside (Has p.part) j n
beside_on p j n words h = record { none = h.none; before_end = λ e. h.before_end (e ∙ ap (λ (ws : List SpelledToken). length ws - 1) words) }

-- ---- rows that show nothing of what is assigned

face_signature : (r : Row) → signature_in (face loose r) ≡ signature_in r
face_signature (Row.Name (NameRow.Label marked value level ways)) = refl
face_signature (Row.Name (NameRow.Routine assigned number region)) = refl
face_signature (Row.Item i) = refl
face_signature (Row.Part (PartRow.Heading name sections result)) = refl
face_signature r = refl

pub signature_alike : (k j : Known) (n : ℕ) → face loose (row_at j n) ≡ face loose (row_at k n) → signature_at j n ≡ signature_at k n
signature_alike k j n e = sym (face_signature (row_at j n)) ∙ ap signature_in e ∙ face_signature (row_at k n)

face_first : (r : Row) → first_name (face loose r) ≡ first_name r
face_first (Row.Name (NameRow.Label marked value level ways)) = refl
face_first (Row.Name (NameRow.Routine assigned number region)) = refl
face_first (Row.Item i) = refl
face_first (Row.Part (PartRow.Completing first)) = refl
face_first r = refl

pub first_alike : (k j : Known) (n : ℕ) → face loose (row_at j n) ≡ face loose (row_at k n) → name_in_first j n ≡ name_in_first k n
first_alike k j n e =
    ap (λ (o : Option ℕ). unwrap_or o n) (sym (face_first (row_at j n)) ∙ ap first_name e ∙ face_first (row_at k n))

face_region : (r : Row) → routine_region (face loose r) ≡ routine_region r
face_region (Row.Name (NameRow.Label marked value level ways)) = refl
face_region (Row.Name (NameRow.Routine assigned number region)) = refl
face_region (Row.Item i) = refl
face_region r = refl

pub frame_alike : (k j : Known) (n : ℕ) → j.regions ≡ k.regions → face loose (row_at j n) ≡ face loose (row_at k n) → own_frame j n ≡ own_frame k n
frame_alike k j n regions e =
    ap (λ (rs : List RegionRows). (region_at rs (routine_region (row_at j n))).frame) regions
    ∙ ap (λ region. (region_at k.regions region).frame) (sym (face_region (row_at j n)) ∙ ap routine_region e ∙ face_region (row_at k n))

-- ---- steps that assign nothing to functions

weaker : (strict : Shown) (r : Row) → face loose (face strict r) ≡ face loose r
weaker strict (Row.Name (NameRow.Label marked value level ways)) = refl
weaker strict (Row.Name (NameRow.Routine assigned number region)) = refl
weaker strict (Row.Item i) = ap (λ x. Row.Item x) (going_last i 0 0)
weaker strict r = refl

routine_face : (r : Row) (seen : Bool) (number region : ℕ) → face assigning r ≡ Row.Name (NameRow.Routine seen number region)
    → r ≡ Row.Name (NameRow.Routine seen number region)
routine_face (Row.Name (NameRow.Label marked value level ways)) seen number region e = absurd cc
routine_face (Row.Name (NameRow.Routine assigned n g)) seen number region e = e
routine_face (Row.Item i) seen number region e = absurd cc
routine_face r seen number region e = e

like_said : (p : Spot) (j i : Known) → ((n : ℕ) → (said (row_at j n) ≡ Row.Nothing) ⊎ (said (row_at j n) ≡ said (row_at p.k n)))
    → ((n : ℕ) → (said (row_at i n) ≡ Row.Nothing) ⊎ (said (row_at i n) ≡ said (row_at j n)))
    → (n : ℕ) → (said (row_at i n) ≡ Row.Nothing) ⊎ (said (row_at i n) ≡ said (row_at p.k n))
like_said p j i before now n = elim (now n) [
  | inl q ↦ inl q
  | inr e ↦ elim (before n) [
    | inl l ↦ inl (e ∙ l)
    | inr r ↦ inr (e ∙ r)
  ]
]

types_after : (p : Spot) (is : IsSpot p) (seen : Bool) (j i : Known) → Turn p is seen j → {strict : Shown} → Same (Has p.part) strict j i
    → (n : ℕ) → type_at i n ≡ type_at p.k n
types_after p is seen j i t s n = elim (s.sayings n) [
  | inl q ↦
      let last : (n ≡ length j.words - 1) → n ≡ length p.k.words - 1 = λ e. e ∙ ap (λ (ws : List SpelledToken). length ws - 1) t.words in
      let none : type_at p.k n ≡ None = is.declared.types n (elim q.0 [
        | inl here ↦ inl here.is
        | inr e ↦ inr (last e)
      ]) in
      sym (type_said (row_at i n)) ∙ ap type_in q.1 ∙ sym none
  | inr e ↦ sym (type_said (row_at i n)) ∙ ap type_in e ∙ type_said (row_at j n) ∙ t.types n
]

pub turn_by : (p : Spot) (is : IsSpot p) (seen now : Bool) (j i : Known) → Turn p is seen j → {strict : Shown} → Same (Has p.part) strict j i
    → row_at i p.function ≡ Row.Name (NameRow.Routine now is.its.number is.its.region) → Turn p is now i
turn_by p is seen now j i t {strict = strict} s result = record {
  words = s.words ∙ t.words;
  regions = s.regions ∙ t.regions;
  frames = longer_still p.k.frames j.frames i.frames t.frames s.frames;
  routines = s.routines ∙ t.routines;
  rows = λ n h.
      let e = s.rows n (beside_on p j n t.words h) in
      sym (weaker strict (row_at i n)) ∙ ap (face loose) e ∙ weaker strict (row_at j n) ∙ t.rows n h;
  sayings = like_said p j i t.sayings (λ n. elim (s.sayings n) [
    | inl q ↦ inl q.1
    | inr e ↦ inr e
  ]);
  types = types_after p is seen j i t s;
  result = result;
}

pub turn_after : (p : Spot) (is : IsSpot p) (seen : Bool) (j i : Known) → Turn p is seen j → Same (Has p.part) assigning j i → Turn p is seen i
turn_after p is seen j i t s =
    let e = s.rows p.function (beside_on p j p.function t.words (beside p.k p.part p.function is.first)) in
    turn_by p is seen seen j i t s (routine_face (row_at i p.function) seen is.its.number is.its.region (e ∙ ap (face assigning) t.result))

pub not_told : (p : Spot) → IsSpot p → (strict : Shown) (bs : List Break) → Each (Told (Has p.part) strict) bs → In (late_at 12 p.name) bs → ⊥
not_told p is strict bs e i = let told = of_each (Told (Has p.part) strict) (late_at 12 p.name) bs e i in elim told.at [
  | inl here ↦ is.apart here.is
  | inr other ↦ (let twelve : 12 ≡ 20 = other in omega (arith, twelve))
]
