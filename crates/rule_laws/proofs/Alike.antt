-- What tables that statements leave as they are say of constants and types.
use Rattle.std.proofs.Common.{◌++◌, ◌+◌, ◌-◌, ◌<◌, ◌∙◌, ◌∷◌, ◌≡◌, ◌≤◌, ◌⊎◌, [], ℕ, List, None, Option, Some, ap, arith, inl, inr, length, refl, slice_get, suc}
use Rattle.std.proofs.{Common.sym, Common.unwrap_or, Common.zero, lemmas.List.append-nil, lemmas.List.length-append, lemmas.Option.none-some}
use Rattle.grammar.specs.Nodes.{Node}
use Rattle.pas_tree.specs.declared.constants.Constant.{Constant}
use Rattle.core_program.specs.{ProgramRows.type_in, declared.rows.NameRow.NameRow, declared.rows.PartRow.PartRow, declared.rows.Row.Row}
use Rattle.check_steps.specs.{Around.Falls, Around.reach, Frames.frame_in, Names.usable, Regions.RegionRows, Regions.defined_in, Regions.or_else}
use Rattle.check_steps.specs.Known.{Known, find, find_from, found_in, found_with, frame_at, name_at, name_in, row_at, type_at}
use Rattle.check_steps.specs.declared.{regions.Found.Found, regions.Frame.Frame, words.Spelled.Spelled, words.SpelledToken.SpelledToken}
use Rattle.kind_checker.specs.Constants.{integer_in, text_value, value_in, value_of}
use Rattle.kind_checker.specs.declared.constants.ConstantValue.{ConstantValue}
use Rattle.rule_laws.proofs.{Every.Of, Faces.Shown, Faces.said, Touches.Longer, Touches.Same, Touches.longer_still}
use Rattle.rule_laws.specs.{CaseConstants.stands_for, CaseConstants.with_sign_of, CaseLaws.IsFree, Tokens.Has}

-- what a row says of a type or a constant
abbrev pub denoted : Row → Row
denoted (Row.Name (NameRow.Routine assigned number region)) = Row.Nothing
denoted (Row.Name (NameRow.Label marked value level ways)) = Row.Nothing
denoted (Row.Name (NameRow.RoutineFormal place level heading)) = Row.Nothing
denoted (Row.Part (PartRow.Completing first)) = Row.Nothing
denoted (Row.Part (PartRow.Heading name sections result)) = Row.Nothing
denoted r = said r

denoted_said : (r : Row) → denoted (said r) ≡ denoted r
denoted_said (Row.Type t) = refl
denoted_said (Row.Name (NameRow.Constant of' v)) = refl
denoted_said (Row.Name (NameRow.Text token)) = refl
denoted_said (Row.Name (NameRow.Routine assigned number region)) = refl
denoted_said (Row.Name (NameRow.Label marked value level ways)) = refl
denoted_said (Row.Name (NameRow.RoutineFormal place level heading)) = refl
denoted_said (Row.Part (PartRow.Completing first)) = refl
denoted_said (Row.Part (PartRow.Heading name sections result)) = refl
denoted_said r = refl

pub record Alike (k j : Known) : Type 0 where
  pub words : j.words ≡ k.words
  pub texts : j.program.texts ≡ k.program.texts
  pub regions : j.regions ≡ k.regions
  pub frames : Longer k.frames j.frames
  pub sayings : (n : ℕ) → denoted (row_at j n) ≡ denoted (row_at k n)

abbrev pub IsUntold : Known → Node → Type 0
IsUntold k part = (n : ℕ) → Has part n ⊎ (n ≡ length k.words - 1) → denoted (row_at k n) ≡ Row.Nothing

pub alike_self : (k : Known) → Alike k k
alike_self k = record {
  words = refl;
  texts = refl;
  regions = refl;
  frames = record { more = []; is = sym (append-nil k.frames) };
  sayings = λ n. refl;
}

pub alike_after : {Q : ℕ → Type 0} {strict : Shown} (part : Node) (k j i : Known) → IsUntold k part → ((n : ℕ) → Of Q n → Has part n) → Alike k j
    → Same Q strict j i → Alike k i
alike_after part k j i untold inside a s = record {
  words = s.words ∙ a.words;
  texts = s.texts ∙ a.texts;
  regions = s.regions ∙ a.regions;
  frames = longer_still k.frames j.frames i.frames a.frames s.frames;
  sayings = λ n. elim (s.sayings n) [
    | inl p ↦ sym (denoted_said (row_at i n)) ∙ ap denoted p.1 ∙ sym (untold n (elim p.0 [
      | inl q ↦ inl (inside n q)
      | inr e ↦ inr (e ∙ ap (λ (ws : List SpelledToken). length ws - 1) a.words)
    ]))
    | inr e ↦ sym (denoted_said (row_at i n)) ∙ ap denoted e ∙ denoted_said (row_at j n) ∙ a.sayings n
  ];
}

-- ---- rows

-- where neither a type nor a constant stands
pub nothing_said : (r : Row) → type_in r ≡ None → value_in r ≡ None → denoted r ≡ Row.Nothing
nothing_said (Row.Type t) type value = absurd (none-some t (sym type))
nothing_said (Row.Name (NameRow.Constant of' v)) type value = absurd (none-some (ConstantValue.Ordinal of' v) (sym value))
nothing_said (Row.Name (NameRow.Text token)) type value = absurd (none-some (ConstantValue.Text token) (sym value))
nothing_said (Row.Name (NameRow.Routine assigned number region)) type value = refl
nothing_said (Row.Name (NameRow.Label marked v level ways)) type value = refl
nothing_said (Row.Part (PartRow.Completing first)) type value = refl
nothing_said (Row.Part (PartRow.Heading name sections result)) type value = refl
nothing_said r type value = refl

pub nothing_told : (k : Known) (part : Node) → ((n : ℕ) → Has part n ⊎ (n ≡ length k.words - 1) → IsFree k n) → IsUntold k part
nothing_told k part free n h = let f = free n h in nothing_said (row_at k n) f.type f.value

value_denoted : (r : Row) → value_in (denoted r) ≡ value_in r
value_denoted (Row.Name (NameRow.Constant of' v)) = refl
value_denoted (Row.Name (NameRow.Text token)) = refl
value_denoted (Row.Name (NameRow.Routine assigned number region)) = refl
value_denoted (Row.Part (PartRow.Completing first)) = refl
value_denoted (Row.Part (PartRow.Heading name sections result)) = refl
value_denoted r = refl

type_denoted : (r : Row) → type_in (denoted r) ≡ type_in r
type_denoted (Row.Type t) = refl
type_denoted (Row.Name (NameRow.Constant of' v)) = refl
type_denoted (Row.Name (NameRow.Text token)) = refl
type_denoted (Row.Name (NameRow.Routine assigned number region)) = refl
type_denoted (Row.Part (PartRow.Completing first)) = refl
type_denoted (Row.Part (PartRow.Heading name sections result)) = refl
type_denoted r = refl

pub type_said : (r : Row) → type_in (said r) ≡ type_in r
type_said (Row.Type t) = refl
type_said (Row.Name (NameRow.Constant of' v)) = refl
type_said (Row.Name (NameRow.Text token)) = refl
type_said (Row.Name (NameRow.Routine assigned number region)) = refl
type_said (Row.Name (NameRow.Label marked value level ways)) = refl
type_said (Row.Part (PartRow.Completing first)) = refl
type_said (Row.Part (PartRow.Heading name sections result)) = refl
type_said r = refl

pub type_still : (k j : Known) → Alike k j → (n : ℕ) → type_at j n ≡ type_at k n
type_still k j a n = sym (type_denoted (row_at j n)) ∙ ap type_in (a.sayings n) ∙ type_denoted (row_at k n)

value_still : (k j : Known) → Alike k j → (o : Option Found) → value_of j o ≡ value_of k o
value_still k j a None = refl
value_still k j a (Some f) =
    let n = f.definition.token in sym (value_denoted (row_at j n)) ∙ ap value_in (a.sayings n) ∙ value_denoted (row_at k n)

-- ---- frames

no_frame : Frame
no_frame = record { region = 0; outer = None; level = 0; withs = 0 }

pub got_left : (fs gs : List Frame) (d : Frame) (f : ℕ) → f < length fs → unwrap_or (slice_get (fs ++ gs) f) d ≡ unwrap_or (slice_get fs f) d
got_left [] gs d f below = absurd (omega (arith, below))
got_left (x ∷ xs) gs d zero below = refl
got_left (x ∷ xs) gs d (suc f) below = got_left xs gs d f (omega (arith, below))

pub frame_still : (k j : Known) → Longer k.frames j.frames → (f : ℕ) → f < length k.frames → frame_at j f ≡ frame_at k f
frame_still k j longer f below =
    ap (λ (fs : List Frame). unwrap_or (slice_get fs f) (record { region = 0; outer = None; level = 0; withs = 0 })) longer.is
    ∙ got_left k.frames longer.more (record { region = 0; outer = None; level = 0; withs = 0 }) f below

pub find-outermost : (k : Known) (n name : ℕ) → find_from n k None name ≡ None
find-outermost k zero name = refl
find-outermost k (suc n) name = refl

pub find_further : (k j : Known) (name : ℕ) → j.regions ≡ k.regions → Longer k.frames j.frames → ((f : ℕ) → reach (frame_in k.frames f).outer ≤ f)
    → (n m : ℕ) (at : Option ℕ)
    → reach at ≤ length k.frames → reach at ≤ n → reach at ≤ m → find_from n j at name ≡ find_from m k at name
find_further k j name regions longer falls n m None within b c = find-outermost j n name ∙ sym (find-outermost k m name)
find_further k j name regions longer falls zero m (Some f) within b c = absurd (omega (arith, b))
find_further k j name regions longer falls (suc n) zero (Some f) within b c = absurd (omega (arith, c))
find_further k j name regions longer falls (suc n) (suc m) (Some f) within b c =
    let out : reach (frame_at k f).outer ≤ f = falls f in
    ap (λ (g : Frame). or_else (found_with f (defined_in j.regions g.region name)) (find_from n j g.outer name))
    (frame_still k j longer f (omega (arith, within)))
    ∙ ap (λ (rs : List RegionRows). or_else (found_with f (defined_in rs (frame_at k f).region name)) (find_from n j (frame_at k f).outer name)) regions
    ∙ ap (λ o. or_else (found_in k f name) o)
    (find_further k j name regions longer falls n m (frame_at k f).outer (omega (arith, out, within)) (omega (arith, out, b)) (omega (arith, out, c)))

find_still : (k j : Known) → Falls k.frames → Alike k j → (frame name : ℕ) → frame < length k.frames → find j frame name ≡ find k frame name
unfolding Falls
find_still k j falls a frame name below =
    let longer : length j.frames ≡ length k.frames + length a.frames.more = ap length a.frames.is ∙ length-append k.frames a.frames.more in
    find_further k j name a.regions a.frames falls (length j.frames) (length k.frames) (Some frame) (omega (arith, below)) (omega (arith, below, longer))
    (omega (arith, below))

-- ---- constants

abbrev spelled_in : List SpelledToken → ℕ → Spelled
spelled_in ws n = (unwrap_or (slice_get ws n) (record { spelled = Spelled.Other; line = 0 })).spelled

pub stands_still : (k j : Known) (frame : ℕ) → Falls k.frames → frame < length k.frames → Alike k j → (x : Constant)
    → stands_for j frame x ≡ stands_for k frame x
stands_still k j frame falls below a (Constant.Number s n) = ap (λ (ws : List SpelledToken). with_sign_of s (integer_in (spelled_in ws n))) a.words
stands_still k j frame falls below a (Constant.Name s n) =
    ap (λ (ws : List SpelledToken). with_sign_of s (value_of j (usable n (find j frame (name_in (spelled_in ws n)))))) a.words
    ∙ ap (λ (o : Option Found). with_sign_of s (value_of j (usable n o))) (find_still k j falls a frame (name_at k n) below)
    ∙ ap (with_sign_of s) (value_still k j a (usable n (find k frame (name_at k n))))
stands_still k j frame falls below a (Constant.Text n) = ap (λ (ts : List (List ℕ)). Some (text_value n (unwrap_or (slice_get ts n) []))) a.texts
