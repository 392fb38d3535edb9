-- Lists get their classes from the last row on.
use Rattle.std.proofs.Common.{◌+◌, ◌<◌, ◌∙◌, ◌≡◌, ◌≤◌, ◌⊎◌, ℕ, List, None, Option, Some, ap, arith, get_or-set_other, get_or-set_same, inl, inr, is_some}
use Rattle.std.proofs.Common.{length, length-set, nat_eq, refl, replicate, slice_set, subst, suc, sym, unwrap_or, zero}
use Rattle.std.proofs.lemmas.{Bool.cases_lt, Bool.Decides.Decides-eqb, Bool.Decides.same_from_decides, List.length-replicate, Option.unwrap_or-slice_get}
use Rattle.core_program.proofs.{ActionsMeant.no, FormsKnown.one_known, FormsTold.form_told}
use Rattle.core_program.proofs.FormsMatch.{Enough, alike, alike_decides, lists_alike}
use Rattle.core_program.proofs.SectionsFollow.{Follows, InHeading, InSection, list_end, section_inside, sections_follow, some_rows}
use Rattle.core_program.specs.{Headings.section_at, Headings.signature_at, ProgramRows.ProgramRows, WholeTables.WholeTables}
use Rattle.core_program.specs.Classes.{AreClasses, Classed, Interned, class_at, class_in, form_at, form_inside, form_of, same_form}
use Rattle.core_program.specs.TypeClasses.{AreTypeClasses, type_class}
use Rattle.core_program.specs.declared.{classes.Form.Form, headings.FormalSection.FormalSection, headings.Signature.Signature}

abbrev held : Option ℕ → ℕ
held o = unwrap_or o 0

-- ---- one class put down

pub class_set : (cs : List ℕ) (i c : ℕ) → i < length cs → class_at (slice_set cs i c) i ≡ c
class_set cs i c l = unwrap_or-slice_get (slice_set cs i c) i 0 ∙ get_or-set_same cs i c 0 l

pub class_beside : (cs : List ℕ) (i c a : ℕ) → (a ≡ i → ⊥) → class_at (slice_set cs i c) a ≡ class_at cs a
class_beside cs i c a ne = unwrap_or-slice_get (slice_set cs i c) a 0 ∙ get_or-set_other cs i a c 0 ne ∙ sym (unwrap_or-slice_get cs a 0)

-- ---- forms look no further than at the classes of later lists

module _ (p : ProgramRows) (ts cs ds : List ℕ) (P : ℕ → Type 0) (same : (n : ℕ) → P n → class_at ds n ≡ class_at cs n) where
  inside_stays : (g : Option Signature) (next : ℕ) → InHeading P g → P next → form_inside ds g (class_at ds next) ≡ form_inside cs g (class_at cs next)
  inside_stays None next h k = absurd h
  inside_stays (Some g) next h k =
      ap (λ z. Some (Form.Routine g.result z (class_at ds next))) (same g.sections h)
      ∙ ap (λ z. Some (Form.Routine g.result (class_at cs g.sections) z)) (same next k)

  form_stays : (s : Option (FormalSection × ℕ)) → InSection p P s → form_of p ts ds s ≡ form_of p ts cs s
  form_stays None h = refl
  form_stays (Some (FormalSection.Names m of' count, next)) h = ap (λ z. Some (Form.Names m count (type_class p ts of') z)) (same next h)
  form_stays (Some (FormalSection.Heading heading, next)) h = inside_stays (signature_at p heading) next h.0 h.1

-- ---- what is known after one form more

record Facts (fresh : ℕ) (old new : Form → Option ℕ) (x : Option Form) (c : ℕ) : Type 0 where
  has : class_in new x ≡ Some c
  keeps : (f : Form) (d : ℕ) → old f ≡ Some d → new f ≡ Some d
  comes : (f : Form) (d : ℕ) → new f ≡ Some d → (old f ≡ Some d) ⊎ ((x ≡ Some f) × (d ≡ fresh))

facts : (fresh : ℕ) (old new : Form → Option ℕ) (x : Option Form) (c : ℕ) → Interned fresh old new x c → Facts fresh old new x c
facts fresh old new None c h = record {
  has = ap (λ z. Some z) (sym h.0);
  keeps = λ f d e. h.1 f ∙ e;
  comes = λ f d e. inl (sym (h.1 f) ∙ e);
}
facts fresh old new (Some g) c h =
    let k = one_known same_form form_told fresh old new g c h.0 h.1 h.2 in
    record {
      has = k.has;
      keeps = k.keeps;
      comes = λ f d e. elim (k.comes f d e) [ inl q ↦ inl q | inr q ↦ inr (ap (λ z. Some z) q.0, q.1) ];
    }

-- ---- one list more

module _ (p : ProgramRows) (w : WholeTables p) (ts cs : List ℕ) (old new : Form → Option ℕ) (i c : ℕ) (l : i < length p.rows)
    (k : Classed p ts old (i + 1) cs) (h : Interned i old new (form_at p ts cs i) c) where
  known : Facts i old new (form_at p ts cs i) c
  known = facts i old new (form_at p ts cs i) c h

  within : i < length cs
  within = subst (λ n. i < n) (sym k.size) l

  end_form : form_at p ts cs 0 ≡ None
  end_form = ap (form_of p ts cs) (list_end p w)

  end_class : i ≡ 0 → c ≡ 0
  end_class e = ap held (sym (known.has) ∙ ap (λ n. class_in new (form_at p ts cs n)) e ∙ ap (class_in new) end_form)

  end_stays : class_at (slice_set cs i c) 0 ≡ 0
  end_stays = elim (cases_lt 0 i) [
    | inl q ↦ class_beside cs i c 0 (λ e. absurd (omega (arith, q, e))) ∙ k.end
    | inr q ↦
        let e : i ≡ 0 = omega (arith, q) in
        subst (λ n. class_at (slice_set cs i c) n ≡ 0) e (class_set cs i c within ∙ end_class e)
  ]

  later_stays : (a : ℕ) → i ≤ a → (n : ℕ) → Follows a n → class_at (slice_set cs i c) n ≡ class_at cs n
  later_stays a b n f = elim f [
    | inl z ↦ ap (class_at (slice_set cs i c)) z ∙ end_stays ∙ sym (ap (class_at cs) z ∙ k.end)
    | inr q ↦ class_beside cs i c n (λ e. absurd (omega (arith, b, q, e)))
  ]

  form_same : (a : ℕ) → i ≤ a → form_at p ts (slice_set cs i c) a ≡ form_at p ts cs a
  form_same a b = form_stays p ts cs (slice_set cs i c) (Follows a) (λ n f. later_stays a b n f) (section_at p a) (sections_follow p w a)

  kept : (x : Option Form) (d : ℕ) → class_in old x ≡ Some d → class_in new x ≡ Some d
  kept None d e = e
  kept (Some f) d e = known.keeps f d e

  listed : (a : ℕ) → i ≤ a → class_in new (form_at p ts (slice_set cs i c) a) ≡ Some (class_at (slice_set cs i c) a)
  listed a b = elim (cases_lt i a) [
    | inl q ↦
        ap (class_in new) (form_same a b)
        ∙ kept (form_at p ts cs a) (class_at cs a) (k.lists a (omega (arith, q)))
        ∙ ap (λ z. Some z) (sym (class_beside cs i c a (λ e. absurd (omega (arith, q, e)))))
    | inr q ↦
        let e : i ≡ a = omega (arith, b, q) in
        subst (λ n. class_in new (form_at p ts (slice_set cs i c) n) ≡ Some (class_at (slice_set cs i c) n)) e
        (ap (class_in new) (form_same i (omega arith)) ∙ known.has ∙ ap (λ z. Some z) (sym (class_set cs i c within)))
  ]

  above : (f : Form) (d : ℕ) → old f ≡ Some d → i < d
  above f d e = let q : i + 1 ≤ d = (k.taken f d e).1 in omega (arith, q)

  form_of_some : (x y : Option Form) (f g : Form) → x ≡ Some f → x ≡ Some g → f ≡ g
  form_of_some x y f g e q = ap (λ o. unwrap_or o f) (sym e ∙ q)

  kept_apart : (f g : Form) (d : ℕ) → new f ≡ Some d → new g ≡ Some d → f ≡ g
  kept_apart f g d e q = elim (known.comes f d e) [
    | inl a ↦ elim (known.comes g d q) [
      | inl b ↦ k.apart f g d a b
      | inr b ↦ let u : i < d = above f d a in let v : d ≡ i = b.1 in absurd (omega (arith, u, v))
    ]
    | inr a ↦ elim (known.comes g d q) [
      | inl b ↦ let u : i < d = above g d b in let v : d ≡ i = a.1 in absurd (omega (arith, u, v))
      | inr b ↦ form_of_some (form_at p ts cs i) None f g a.0 b.0
    ]
  ]

  positive : (f : Form) → form_at p ts cs i ≡ Some f → 0 < i
  positive f e = elim (cases_lt 0 i) [
    | inl q ↦ q
    | inr q ↦ let z : i ≡ 0 = omega (arith, q) in no (ap (λ o. is_some o) (sym end_form ∙ ap (form_at p ts cs) (sym z) ∙ e))
  ]

  kept_taken : (f : Form) (d : ℕ) → new f ≡ Some d → (0 < d) × (i ≤ d)
  kept_taken f d e = elim (known.comes f d e) [
    | inl a ↦ let u : i < d = above f d a in ((k.taken f d a).0, omega (arith, u))
    | inr a ↦ let u : 0 < i = positive f a.0 in let v : d ≡ i = a.1 in (omega (arith, u, v), omega (arith, v))
  ]

  pub one_classed : Classed p ts new i (slice_set cs i c)
  one_classed = record {
    size = length-set cs i c ∙ k.size;
    end = end_stays;
    lists = listed;
    apart = kept_apart;
    taken = kept_taken;
  }

-- ---- none yet

blank : (n a : ℕ) → class_at (replicate n 0) a ≡ 0
blank zero a = refl
blank (suc n) zero = refl
blank (suc n) (suc a) = blank n a

pub none_classed : (p : ProgramRows) (ts : List ℕ) (known : Form → Option ℕ) → ((f : Form) → known f ≡ None)
    → Classed p ts known (length p.rows) (replicate (length p.rows) 0)
none_classed p ts known none = record {
  size = length-replicate (length p.rows) 0;
  end = blank (length p.rows) 0;
  lists = λ a l. elim (section_inside p a) [
    | inl e ↦ ap (λ s. class_in known (form_of p ts (replicate (length p.rows) 0) s)) e ∙ ap (λ z. Some z) (sym (blank (length p.rows) a))
    | inr q ↦ absurd (omega (arith, l, q))
  ];
  apart = λ f g c e q. no (ap (λ o. is_some o) (sym (none f) ∙ e));
  taken = λ f c e. no (ap (λ o. is_some o) (sym (none f) ∙ e));
}

-- ---- all of them

module _ (p : ProgramRows) (w : WholeTables p) (ts : List ℕ) (types : AreTypeClasses p ts) (known : Form → Option ℕ) (cs : List ℕ)
    (k : Classed p ts known 0 cs) where
  one_form : (x y : Option Form) (c : ℕ) → class_in known x ≡ Some c → class_in known y ≡ Some c → x ≡ y
  one_form None None c e q = refl
  one_form None (Some g) c e q = let u : 0 < c = (k.taken g c q).0 in let v : 0 ≡ c = ap held e in absurd (omega (arith, u, v))
  one_form (Some f) None c e q = let u : 0 < c = (k.taken f c e).0 in let v : 0 ≡ c = ap held q in absurd (omega (arith, u, v))
  one_form (Some f) (Some g) c e q = ap (λ z. Some z) (k.apart f g c e q)

  of_list : (a : ℕ) → class_in known (form_at p ts cs a) ≡ Some (class_at cs a)
  of_list a = k.lists a (omega arith)

  same_forms : (a b : ℕ) → class_at cs a ≡ class_at cs b → form_at p ts cs a ≡ form_at p ts cs b
  same_forms a b e = one_form (form_at p ts cs a) (form_at p ts cs b) (class_at cs a) (of_list a) (of_list b ∙ ap (λ z. Some z) (sym e))

  same_classes : (a b : ℕ) → form_at p ts cs a ≡ form_at p ts cs b → class_at cs a ≡ class_at cs b
  same_classes a b e = ap held (sym (of_list a) ∙ ap (class_in known) e ∙ of_list b)

  told : (a b : ℕ) → alike (form_at p ts cs a) (form_at p ts cs b) ≡ nat_eq (class_at cs a) (class_at cs b)
  told a b =
      let d = alike_decides (form_at p ts cs a) (form_at p ts cs b) in
      same_from_decides {P = class_at cs a ≡ class_at cs b} (alike (form_at p ts cs a) (form_at p ts cs b)) (nat_eq (class_at cs a) (class_at cs b))
      (λ t. same_classes a b (d.0 t), λ e. d.1 (same_forms a b e)) (Decides-eqb (class_at cs a) (class_at cs b))

  enough : (a : ℕ) → Enough p (length p.rows) a
  enough a = (some_rows p w, elim (cases_lt 0 a) [ inl q ↦ inr (omega (arith, q)) | inr q ↦ inl (omega (arith, q)) ])

  pub all_classed : AreClasses p cs
  all_classed a b = lists_alike p w ts cs types told (length p.rows) a b (enough a) (enough b)

pub ruleset classed = (one_classed)
