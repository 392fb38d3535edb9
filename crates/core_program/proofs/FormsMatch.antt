-- Lists match exactly if they have the same form.
use Rattle.std.proofs.Common.{◌&&◌, ◌+◌, ◌<◌, ◌∙◌, ◌≡◌, ◌⊎◌, ℕ, Bool, Decides, List, None, Option, Some, ap, arith, eq-eqb, eqb-true, false, inl, inr, length}
use Rattle.std.proofs.Common.{nat_eq, refl, subst, suc, sym, true, zero}
use Rattle.std.proofs.lemmas.Bool.{and_from}
use Rattle.core_program.proofs.{ActionsMeant.no, WholeParts.and_both}
use Rattle.core_program.proofs.SectionsFollow.{Follows, InHeading, InSection, in_section_too, list_end, section_inside, sections_follow}
use Rattle.core_program.specs.{ProgramRows.ProgramRows, TypeClasses.AreTypeClasses, TypeClasses.type_class, WholeTables.WholeTables}
use Rattle.core_program.specs.Classes.{class_at, form_at, form_inside, form_of}
use Rattle.core_program.specs.Headings.{both_match, lists_match, same_mode, same_result, section_at, sections_match, signature_at, signatures_match}
use Rattle.core_program.specs.declared.{classes.Form.Form, headings.FormalSection.FormalSection, headings.Signature.Signature, rows.Mode.Mode}

-- ---- the test of forms that the test of sections amounts to

abbrev pub alike : Option Form → Option Form → Bool
alike None None = true
alike None (Some g) = false
alike (Some f) None = false
alike (Some (Form.Names m c o r)) (Some (Form.Names n d q s)) = same_mode m n && nat_eq c d && nat_eq o q && nat_eq r s
alike (Some (Form.Names m c o r)) (Some (Form.Routine u b s)) = false
alike (Some (Form.Routine t b r)) (Some (Form.Names n d q s)) = false
alike (Some (Form.Routine t b r)) (Some (Form.Routine u c s)) = same_result t u && nat_eq b c && nat_eq r s

mode_one : (m n : Mode) → same_mode m n ≡ true → m ≡ n
mode_one Mode.Own Mode.Own h = refl
mode_one Mode.Own Mode.Value h = no h
mode_one Mode.Own Mode.Place h = no h
mode_one Mode.Own Mode.Copy h = no h
mode_one Mode.Value Mode.Own h = no h
mode_one Mode.Value Mode.Value h = refl
mode_one Mode.Value Mode.Place h = no h
mode_one Mode.Value Mode.Copy h = no h
mode_one Mode.Place Mode.Own h = no h
mode_one Mode.Place Mode.Value h = no h
mode_one Mode.Place Mode.Place h = refl
mode_one Mode.Place Mode.Copy h = no h
mode_one Mode.Copy Mode.Own h = no h
mode_one Mode.Copy Mode.Value h = no h
mode_one Mode.Copy Mode.Place h = no h
mode_one Mode.Copy Mode.Copy h = refl

result_one : (s t : Option ℕ) → same_result s t ≡ true → s ≡ t
result_one None None h = refl
result_one None (Some b) h = no h
result_one (Some a) None h = no h
result_one (Some a) (Some b) h = ap (λ x. Some x) (eqb-true a b h)

alike_one : (x y : Option Form) → alike x y ≡ true → x ≡ y
alike_one None None h = refl
alike_one None (Some g) h = no h
alike_one (Some f) None h = no h
alike_one (Some (Form.Names m c o r)) (Some (Form.Names n d q s)) h =
    let k = and_both (same_mode m n && nat_eq c d && nat_eq o q) (nat_eq r s) h in
    let l = and_both (same_mode m n && nat_eq c d) (nat_eq o q) k.0 in
    let j = and_both (same_mode m n) (nat_eq c d) l.0 in
    ap (λ x. Some (Form.Names x c o r)) (mode_one m n j.0) ∙ ap (λ x. Some (Form.Names n x o r)) (eqb-true c d j.1)
    ∙ ap (λ x. Some (Form.Names n d x r)) (eqb-true o q l.1) ∙ ap (λ x. Some (Form.Names n d q x)) (eqb-true r s k.1)
alike_one (Some (Form.Names m c o r)) (Some (Form.Routine u b s)) h = no h
alike_one (Some (Form.Routine t b r)) (Some (Form.Names n d q s)) h = no h
alike_one (Some (Form.Routine t b r)) (Some (Form.Routine u c s)) h =
    let k = and_both (same_result t u && nat_eq b c) (nat_eq r s) h in
    let l = and_both (same_result t u) (nat_eq b c) k.0 in
    ap (λ x. Some (Form.Routine x b r)) (result_one t u l.0) ∙ ap (λ x. Some (Form.Routine u x r)) (eqb-true b c l.1)
    ∙ ap (λ x. Some (Form.Routine u c x)) (eqb-true r s k.1)

mode_itself : (m : Mode) → same_mode m m ≡ true
mode_itself Mode.Own = refl
mode_itself Mode.Value = refl
mode_itself Mode.Place = refl
mode_itself Mode.Copy = refl

result_itself : (t : Option ℕ) → same_result t t ≡ true
result_itself None = refl
result_itself (Some a) = eq-eqb a a refl

alike_itself : (x : Option Form) → alike x x ≡ true
alike_itself None = refl
alike_itself (Some (Form.Names m c o r)) =
    and_from (same_mode m m && nat_eq c c && nat_eq o o) (nat_eq r r)
    (and_from (same_mode m m && nat_eq c c) (nat_eq o o) (and_from (same_mode m m) (nat_eq c c) (mode_itself m) (eq-eqb c c refl)) (eq-eqb o o refl))
    (eq-eqb r r refl)
alike_itself (Some (Form.Routine t b r)) =
    and_from (same_result t t && nat_eq b b) (nat_eq r r) (and_from (same_result t t) (nat_eq b b) (result_itself t) (eq-eqb b b refl)) (eq-eqb r r refl)

pub alike_decides : (x y : Option Form) → Decides (alike x y) (x ≡ y)
alike_decides x y = (alike_one x y, λ e. subst (λ z. alike x z ≡ true) e (alike_itself x))

-- ---- one section

module _ (p : ProgramRows) (ts cs : List ℕ) (types : AreTypeClasses p ts) (P : ℕ → Type 0) (lists : ℕ → ℕ → Bool)
    (h : (a b : ℕ) → P a → P b → lists a b ≡ nat_eq (class_at cs a) (class_at cs b)) where
  none_heading : (g : Option Signature) (r : ℕ) → InHeading P g → false ≡ alike None (form_inside cs g r)
  none_heading None r i = absurd i
  none_heading (Some g) r i = refl

  heading_none : (g : Option Signature) (r : ℕ) → InHeading P g → false ≡ alike (form_inside cs g r) None
  heading_none None r i = absurd i
  heading_none (Some g) r i = refl

  names_heading : (m : Mode) (c o r : ℕ) (g : Option Signature) (s : ℕ) → InHeading P g → false ≡ alike (Some (Form.Names m c o r)) (form_inside cs g s)
  names_heading m c o r None s i = absurd i
  names_heading m c o r (Some g) s i = refl

  heading_names : (g : Option Signature) (r : ℕ) (m : Mode) (c o s : ℕ) → InHeading P g → false ≡ alike (form_inside cs g r) (Some (Form.Names m c o s))
  heading_names None r m c o s i = absurd i
  heading_names (Some g) r m c o s i = refl

  headings_alike : (g k : Option Signature) (a b : ℕ) → InHeading P g → InHeading P k → P a → P b
      → (signatures_match lists g k && lists a b) ≡ alike (form_inside cs g (class_at cs a)) (form_inside cs k (class_at cs b))
  headings_alike None k a b i j q s = absurd i
  headings_alike (Some g) None a b i j q s = absurd j
  headings_alike (Some g) (Some k) a b i j q s =
      ap (λ z. (same_result g.result k.result && z) && lists a b) (h g.sections k.sections i j)
      ∙ ap (λ z. (same_result g.result k.result && nat_eq (class_at cs g.sections) (class_at cs k.sections)) && z) (h a b q s)

  sections_alike : (s t : Option (FormalSection × ℕ)) → InSection p P s → InSection p P t
      → both_match s t (sections_match p lists) lists ≡ alike (form_of p ts cs s) (form_of p ts cs t)
  sections_alike None None i j = refl
  sections_alike None (Some (FormalSection.Names n q d, b)) i j = refl
  sections_alike None (Some (FormalSection.Heading k, b)) i j = none_heading (signature_at p k) (class_at cs b) j.0
  sections_alike (Some (FormalSection.Names m o c, a)) None i j = refl
  sections_alike (Some (FormalSection.Heading g, a)) None i j = heading_none (signature_at p g) (class_at cs a) i.0
  sections_alike (Some (FormalSection.Names m o c, a)) (Some (FormalSection.Names n q d, b)) i j =
      ap (λ z. (same_mode m n && nat_eq c d && z) && lists a b) (types o q)
      ∙ ap (λ z. (same_mode m n && nat_eq c d && nat_eq (type_class p ts o) (type_class p ts q)) && z) (h a b i j)
  sections_alike (Some (FormalSection.Names m o c, a)) (Some (FormalSection.Heading k, b)) i j =
      names_heading m c (type_class p ts o) (class_at cs a) (signature_at p k) (class_at cs b) j.0
  sections_alike (Some (FormalSection.Heading g, a)) (Some (FormalSection.Names n q d, b)) i j =
      heading_names (signature_at p g) (class_at cs a) n d (type_class p ts q) (class_at cs b) i.0
  sections_alike (Some (FormalSection.Heading g, a)) (Some (FormalSection.Heading k, b)) i j =
      headings_alike (signature_at p g) (signature_at p k) a b i.0 j.0 i.1 j.1

-- ---- lists

-- So many sections are enough to look at from here.
abbrev pub Enough : ProgramRows → (n at : ℕ) → Type 0
Enough p n at = (0 < n) × ((at ≡ 0) ⊎ (length p.rows < n + at))

module _ (p : ProgramRows) (w : WholeTables p) (ts cs : List ℕ) (types : AreTypeClasses p ts)
    (same : (a b : ℕ) → alike (form_at p ts cs a) (form_at p ts cs b) ≡ nat_eq (class_at cs a) (class_at cs b)) where
  reach : (n a list : ℕ) → length p.rows < suc n + a → a < length p.rows → Follows a list → Enough p n list
  reach n a list far l f = (omega (arith, far, l), elim f [ inl z ↦ inl z | inr k ↦ inr (omega (arith, far, k)) ])

  onward : (n a : ℕ) → Enough p (suc n) a → InSection p (Enough p n) (section_at p a)
  onward n a h = elim h.1 [
    | inl z ↦ subst (λ s. InSection p (Enough p n) s) (sym (ap (section_at p) z ∙ list_end p w)) tt
    | inr far ↦ elim (section_inside p a) [
      | inl e ↦ subst (λ s. InSection p (Enough p n) s) (sym e) tt
      | inr l ↦ in_section_too p (Follows a) (Enough p n) (λ list f. reach n a list far l f) (section_at p a) (sections_follow p w a)
    ]
  ]

  pub lists_alike : (n a b : ℕ) → Enough p n a → Enough p n b → lists_match n p a b ≡ nat_eq (class_at cs a) (class_at cs b)
  lists_alike zero a b h k = absurd (omega (arith, h.0))
  lists_alike (suc n) a b h k =
      sections_alike p ts cs types (Enough p n) (lists_match n p) (λ c d. lists_alike n c d) (section_at p a) (section_at p b) (onward n a h) (onward n b k)
      ∙ same a b
