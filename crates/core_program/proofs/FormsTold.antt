-- Forms that are told to be the same are one.
use Rattle.std.proofs.Common.{◌&&◌, ◌∙◌, ◌≡◌, ℕ, Bool, None, Option, Some, ap, eqb-true, nat_eq, refl, true}
use Rattle.std.specs.Option.{option_eq}
use Rattle.core_program.proofs.{ActionsMeant.no, WholeParts.and_both}
use Rattle.core_program.specs.{Classes.same_form, declared.classes.Form.Form, declared.rows.Mode.Mode}
use Rattle.core_program.specs.contracts.rows.ModePartialEq.TheImpl as mode_equality

abbrev equal_modes : Mode → Mode → Bool
equal_modes = (mode_equality.ghosts).eq

mode_told : (m n : Mode) → equal_modes m n ≡ true → m ≡ n
mode_told Mode.Own Mode.Own h = refl
mode_told Mode.Own Mode.Value h = no h
mode_told Mode.Own Mode.Place h = no h
mode_told Mode.Own Mode.Copy h = no h
mode_told Mode.Value Mode.Own h = no h
mode_told Mode.Value Mode.Value h = refl
mode_told Mode.Value Mode.Place h = no h
mode_told Mode.Value Mode.Copy h = no h
mode_told Mode.Place Mode.Own h = no h
mode_told Mode.Place Mode.Value h = no h
mode_told Mode.Place Mode.Place h = refl
mode_told Mode.Place Mode.Copy h = no h
mode_told Mode.Copy Mode.Own h = no h
mode_told Mode.Copy Mode.Value h = no h
mode_told Mode.Copy Mode.Place h = no h
mode_told Mode.Copy Mode.Copy h = refl

result_told : (s t : Option ℕ) → option_eq nat_eq s t ≡ true → s ≡ t
result_told None None h = refl
result_told None (Some b) h = no h
result_told (Some a) None h = no h
result_told (Some a) (Some b) h = ap (λ x. Some x) (eqb-true a b h)

names_told : (m n : Mode) (c d o q r s : ℕ) → (equal_modes m n && (nat_eq c d && (nat_eq o q && nat_eq r s))) ≡ true
    → Form.Names m c o r ≡ Form.Names n d q s
names_told m n c d o q r s h =
    let k = and_both (equal_modes m n) (nat_eq c d && (nat_eq o q && nat_eq r s)) h in
    let l = and_both (nat_eq c d) (nat_eq o q && nat_eq r s) k.1 in
    let j = and_both (nat_eq o q) (nat_eq r s) l.1 in
    ap (λ x. Form.Names x c o r) (mode_told m n k.0) ∙ ap (λ x. Form.Names n x o r) (eqb-true c d l.0)
    ∙ ap (λ x. Form.Names n d x r) (eqb-true o q j.0) ∙ ap (λ x. Form.Names n d q x) (eqb-true r s j.1)

routines_told : (t u : Option ℕ) (b c r s : ℕ) → (option_eq nat_eq t u && (nat_eq b c && nat_eq r s)) ≡ true
    → Form.Routine t b r ≡ Form.Routine u c s
routines_told t u b c r s h =
    let k = and_both (option_eq nat_eq t u) (nat_eq b c && nat_eq r s) h in
    let l = and_both (nat_eq b c) (nat_eq r s) k.1 in
    ap (λ x. Form.Routine x b r) (result_told t u k.0) ∙ ap (λ x. Form.Routine u x r) (eqb-true b c l.0)
    ∙ ap (λ x. Form.Routine u c x) (eqb-true r s l.1)

pub form_told : (f g : Form) → same_form f g ≡ true → f ≡ g
form_told (Form.Names m c o r) (Form.Names n d q s) h = names_told m n c d o q r s h
form_told (Form.Names m c o r) (Form.Routine u b s) h = no h
form_told (Form.Routine t b r) (Form.Names n d q s) h = no h
form_told (Form.Routine t b r) (Form.Routine u c s) h = routines_told t u b c r s h
