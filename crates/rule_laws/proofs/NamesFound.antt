-- What tables say of names and constants was said in those before them.
use Rattle.std.proofs.Common.{◌∙◌, ◌≡◌, ◌≤◌, ◌⊎◌, ℕ, List, None, Option, Some, ap, arith, false, inl, inr, is_some, length, refl, subst, suc, sym, true, zero}
use Rattle.std.proofs.lemmas.Option.{none-some}
use Rattle.pas_tree.specs.declared.{constants.Constant.Constant, operators.Sign.Sign}
use Rattle.core_program.specs.{ProgramRows.type_in, declared.rows.NameRow.NameRow, declared.rows.PartRow.PartRow, declared.rows.Row.Row}
use Rattle.check_steps.specs.{Names.usable, Regions.RegionRows, Regions.defined_in, Regions.or_else}
use Rattle.check_steps.specs.Known.{Known, find, find_from, found_in, found_with, frame_at, name_at, row_at, type_at}
use Rattle.check_steps.specs.declared.{regions.Found.Found, regions.Frame.Frame, words.SpelledToken.SpelledToken}
use Rattle.kind_checker.specs.{Constants.value_in, Constants.value_of, declared.constants.ConstantValue.ConstantValue}
use Rattle.rule_laws.proofs.{Alike.find-outermost, Alike.type_said, Faces.Shown, Faces.said, Laters.longer_frame, Laters.longer_length, Outward.Ends}
use Rattle.rule_laws.proofs.{Outward.Outward, Outward.outward_longer, Touches.Longer, Touches.Same, Touches.longer_still, Touches.no_longer}
use Rattle.rule_laws.specs.{CaseConstants.stands_for, CaseConstants.with_sign_of, TextCases.is_found}

-- ---- names

-- Names are found alike from a frame that leads outward to none, once there are more frames.
finds_names : (i j : Known) → j.regions ≡ i.regions → Longer i.frames j.frames → (name : ℕ) (at : Option ℕ) (n a b : ℕ) → Ends i.frames at n → n ≤ a
    → n ≤ b → find_from a j at name ≡ find_from b i at name
finds_names i j regions longer name None n a b e few less = find-outermost j a name ∙ sym (find-outermost i b name)
finds_names i j regions longer name (Some f) zero a b e few less = absurd e
finds_names i j regions longer name (Some f) (suc n) zero b e few less = absurd (omega (arith, few))
finds_names i j regions longer name (Some f) (suc n) (suc a) zero e few less = absurd (omega (arith, less))
finds_names i j regions longer name (Some f) (suc n) (suc a) (suc b) e few less =
    ap (λ (g : Frame). or_else (found_with f (defined_in j.regions g.region name)) (find_from a j g.outer name)) (longer_frame i.frames j.frames f longer e.0)
    ∙ ap (λ (rs : List RegionRows). or_else (found_with f (defined_in rs (frame_at i f).region name)) (find_from a j (frame_at i f).outer name)) regions
    ∙ ap (λ o. or_else (found_in i f name) o)
    (finds_names i j regions longer name (frame_at i f).outer n a b e.1 (omega (arith, few)) (omega (arith, less)))

find_same : (i j : Known) → j.regions ≡ i.regions → Longer i.frames j.frames → (frame name : ℕ) → Outward i.frames frame
    → find j frame name ≡ find i frame name
find_same i j regions longer frame name o =
    let few = o.few in
    let more = longer_length i.frames j.frames longer in
    finds_names i j regions longer name (Some frame) o.steps (length j.frames) (length i.frames) o.ends (omega (arith, few, more)) (omega (arith, few))

-- ---- types that are there after steps were there before

pub type_before : {Q : ℕ → Type 0} {strict : Shown} (k j : Known) → Same Q strict k j → (n : ℕ) → is_some (type_at j n) ≡ true
    → type_at k n ≡ type_at j n
type_before k j s n some = elim (s.sayings n) [
  | inl p ↦ absurd (let none : false ≡ true = sym (ap is_some (sym (type_said (row_at j n)) ∙ ap type_in p.1)) ∙ some in cc)
  | inr e ↦ sym (type_said (row_at k n)) ∙ ap type_in (sym e) ∙ type_said (row_at j n)
]

-- ---- the tables at the end

-- The constants and types of the tables at the end stood in these.
pub record Ahead (f j : Known) : Type 0 where
  pub words : f.words ≡ j.words
  pub texts : f.program.texts ≡ j.program.texts
  pub routines : f.program.routines ≡ j.program.routines
  pub regions : f.regions ≡ j.regions
  pub frames : Longer j.frames f.frames
  pub headings : (n name sections : ℕ) (result : Option ℕ) → row_at f n ≡ Row.Part (PartRow.Heading name sections result)
      → row_at j n ≡ Row.Part (PartRow.Heading name sections result)
  pub values : (n : ℕ) (v : ConstantValue) → value_in (row_at f n) ≡ Some v → value_in (row_at j n) ≡ Some v
  pub types : (n : ℕ) → is_some (type_at f n) ≡ true → type_at j n ≡ type_at f n
  pub sayings : (n : ℕ) → (said (row_at f n) ≡ Row.Nothing) ⊎ (said (row_at f n) ≡ said (row_at j n))

pub ahead_self : (f : Known) → Ahead f f
ahead_self f = record {
  words = refl;
  texts = refl;
  routines = refl;
  regions = refl;
  frames = no_longer f.frames;
  headings = λ n name sections result e. e;
  values = λ n v e. e;
  types = λ n some. refl;
  sayings = λ n. inr refl;
}

value_said : (r : Row) → value_in (said r) ≡ value_in r
value_said (Row.Type t) = refl
value_said (Row.Name (NameRow.Constant of' v)) = refl
value_said (Row.Name (NameRow.Text token)) = refl
value_said (Row.Name (NameRow.Routine assigned number region)) = refl
value_said (Row.Name (NameRow.Label marked value level ways)) = refl
value_said (Row.Part (PartRow.Completing first)) = refl
value_said (Row.Part (PartRow.Heading name sections result)) = refl
value_said r = refl

pub heading_said : (r : Row) (name sections : ℕ) (result : Option ℕ) → said r ≡ Row.Part (PartRow.Heading name sections result)
    → r ≡ Row.Part (PartRow.Heading name sections result)
heading_said (Row.Type t) name sections result e = absurd cc
heading_said (Row.Name (NameRow.Constant of' v)) name sections result e = absurd cc
heading_said (Row.Name (NameRow.Text token)) name sections result e = absurd cc
heading_said (Row.Name (NameRow.Routine assigned number region)) name sections result e = absurd cc
heading_said (Row.Name (NameRow.Label marked value level ways)) name sections result e = absurd cc
heading_said (Row.Part (PartRow.Completing first)) name sections result e = absurd cc
heading_said (Row.Part (PartRow.Heading n s t)) name sections result e = e
heading_said r name sections result e = absurd cc

pub ahead_before : {Q : ℕ → Type 0} {strict : Shown} (f j i : Known) → Same Q strict j i → Ahead f i → Ahead f j
ahead_before f j i s a = record {
  words = a.words ∙ s.words;
  texts = a.texts ∙ s.texts;
  routines = a.routines ∙ s.routines;
  regions = a.regions ∙ s.regions;
  headings = λ n name sections result e. elim (s.sayings n) [
    | inl p ↦ absurd (let never : Row.Nothing ≡ Row.Part (PartRow.Heading name sections result) = sym p.1 ∙ ap said (a.headings n name sections result e) in cc)
    | inr same ↦ heading_said (row_at j n) name sections result (sym same ∙ ap said (a.headings n name sections result e))
  ];
  frames = longer_still j.frames i.frames f.frames s.frames a.frames;
  values = λ n v e. elim (s.sayings n) [
    | inl p ↦ absurd (none-some v (sym (ap value_in p.1) ∙ value_said (row_at i n) ∙ a.values n v e))
    | inr same ↦ sym (value_said (row_at j n)) ∙ ap value_in (sym same) ∙ value_said (row_at i n) ∙ a.values n v e
  ];
  types = λ n some. type_before j i s n (ap is_some (a.types n some) ∙ some) ∙ a.types n some;
  sayings = λ n. elim (a.sayings n) [
    | inl none ↦ inl none
    | inr same ↦ elim (s.sayings n) [
      | inl p ↦ inl (same ∙ p.1)
      | inr e ↦ inr (same ∙ e)
    ]
  ];
}

pub outward_then : (j i : Known) (frame : ℕ) → Longer j.frames i.frames → Outward j.frames frame → Outward i.frames frame
outward_then j i frame longer o = subst (λ (fs : List Frame). Outward fs frame) (sym longer.is) (outward_longer j.frames longer.more frame o)

-- ---- constants

record HasValue (o : Option ConstantValue) : Type 0 where
  value : ConstantValue
  is : o ≡ Some value

sign_some : (s : Option Sign) (o : Option ConstantValue) (v : ConstantValue) → with_sign_of s o ≡ Some v → HasValue o
sign_some s (Some u) v e = record { value = u; is = refl }
sign_some None None v e = absurd (none-some v e)
sign_some (Some s) None v e = absurd (none-some v e)

value_before : (f j : Known) → Ahead f j → (o : Option Found) (v : ConstantValue) → value_of f o ≡ Some v → value_of j o ≡ Some v
value_before f j a None v e = absurd (none-some v e)
value_before f j a (Some x) v e = a.values x.definition.token v e

-- what a constant's name is found as
same_name : (f j : Known) → Ahead f j → (frame n : ℕ) → Outward j.frames frame → find f frame (name_at f n) ≡ find j frame (name_at j n)
same_name f j a frame n o =
    ap (λ (ws : List SpelledToken). find f frame (name_at (record j { words = ws }) n)) a.words
    ∙ find_same j f a.regions a.frames frame (name_at j n) o

-- What a constant stands for at the end, it stood for before.
pub stands_before : (f j : Known) (frame : ℕ) → Ahead f j → Outward j.frames frame → (x : Constant) (v : ConstantValue) → stands_for f frame x ≡ Some v
    → stands_for j frame x ≡ Some v
stands_before f j frame a o (Constant.Number s n) v e =
    sym (ap (λ (ws : List SpelledToken). stands_for (record j { words = ws }) frame (Constant.Number s n)) a.words) ∙ e
stands_before f j frame a o (Constant.Name s n) v e =
    let found = usable n (find j frame (name_at j n)) in
    let at : with_sign_of s (value_of f found) ≡ Some v =
    sym (ap (λ x. with_sign_of s (value_of f (usable n x))) (same_name f j a frame n o)) ∙ e in
    let u = sign_some s (value_of f found) v at in
    ap (with_sign_of s) (value_before f j a found u.value u.is) ∙ sym (ap (with_sign_of s) u.is) ∙ at
stands_before f j frame a o (Constant.Text n) v e =
    sym (ap (λ (ts : List (List ℕ)). stands_for (record j { program = record j.program { texts = ts } }) frame (Constant.Text n)) a.texts) ∙ e

-- so is its name
pub found_after : (f j : Known) (frame : ℕ) → Ahead f j → Outward j.frames frame → (x : Constant) → is_found j frame x ≡ true
    → is_found f frame x ≡ true
found_after f j frame a o (Constant.Number s n) e = refl
found_after f j frame a o (Constant.Name s n) e = ap (λ x. is_some (usable n x)) (same_name f j a frame n o) ∙ e
found_after f j frame a o (Constant.Text n) e = refl
