-- What the check of one case constant tells and keeps.
use Rattle.std.proofs.Common.{if◌then◌else◌, ◌&&◌, ◌++◌, ◌||◌, ◌∙◌, ◌∷◌, ◌≡◌, [], ℕ, ℤ, Bool, List, None, Option, Some, ap, false, inl, inr, is_none, is_some}
use Rattle.std.proofs.Common.{nat_eq, not, refl, subst, sym, true}
use Rattle.std.proofs.lemmas.{Bool.eq-eqb, Bool.eqb-true, Bool.Decides.Decides-int_eq, Option.none-some, Option.same_Some}
use Rattle.std.specs.{List.list_any, Ordering.int_eq}
use Rattle.pas_tree.specs.{DenoterPlaces.first_of_constant, declared.constants.Constant.Constant}
use Rattle.core_program.specs.declared.rows.TypeRow.{TypeRow}
use Rattle.check_steps.specs.{Items.add_item, Items.link, Names.use_again, declared.breaks.Break.Break}
use Rattle.check_steps.specs.Known.{Known, and_choice, is_chosen, same_choice, type_at}
use Rattle.check_steps.specs.Steps.{◌>>=◌, Step, ask, change, give, late, look}
use Rattle.kind_checker.specs.Constants.{constant_again, named_again, sign_again}
use Rattle.kind_checker.specs.declared.constants.ConstantValue.{ConstantValue, TheVariants.Ordinal, TheVariants.Text}
use Rattle.denoter_checker.specs.Variants.{add_choice, chosen_value, is_choice, listed_choice, value_if}
use Rattle.denoter_checker.specs.declared.variants.Choosing.{Choosing}
use Rattle.rule_laws.proofs.{Alike.Alike, Alike.type_still, Breaks.In, Touches.any-last}
use Rattle.rule_laws.specs.CaseConstants.{are_equal, has_equal, is_of_host, stands_for}
use Rattle.rule_laws.specs.CaseLaws.{IsWrongChoice, late_at}

-- ---- what a constant stands for, as the step gives it

pub again_value : (frame : ℕ) (x : Constant) (k : Known) → (constant_again frame x k).value ≡ stands_for k frame x
unfolding look ◌>>=◌ give ask sign_again named_again use_again
again_value frame (Constant.Number None n) k = refl
again_value frame (Constant.Number (Some s) n) k = refl
again_value frame (Constant.Name None n) k = refl
again_value frame (Constant.Name (Some s) n) k = refl
again_value frame (Constant.Text n) k = refl

pub again_known : (frame : ℕ) (x : Constant) (k : Known) → (constant_again frame x k).known ≡ k
unfolding look ◌>>=◌ give ask sign_again named_again use_again
again_known frame (Constant.Number None n) k = refl
again_known frame (Constant.Number (Some s) n) k = refl
again_known frame (Constant.Name None n) k = refl
again_known frame (Constant.Name (Some s) n) k = refl
again_known frame (Constant.Text n) k = refl

-- ---- values of a host type

-- this value of the host type
abbrev pub is_value : ℕ → ℤ → Option ConstantValue → Bool
is_value host v (Some (Ordinal of' w)) = nat_eq of' host && int_eq v w
is_value host v o = false

-- some of these constants has it
abbrev pub has_value : Known → ℕ → ℕ → List Constant → ℤ → Bool
has_value k frame host xs v = list_any (λ y. is_value host v (stands_for k frame y)) xs

equal_values : (a : ℕ) (v : ℤ) (o : Option ConstantValue) → are_equal (Some (Ordinal a v)) o ≡ is_value a v o
equal_values a v (Some (Ordinal b w)) = refl
equal_values a v (Some (Text token)) = refl
equal_values a v None = refl

any_same : {X : Type 0} (f g : X → Bool) → ((x : X) → f x ≡ g x) → (xs : List X) → list_any f xs ≡ list_any g xs
any_same f g same [] = refl
any_same f g same (x ∷ xs) = ap (λ b. b || list_any f xs) (same x) ∙ ap (λ b. g x || b) (any_same f g same xs)

-- an ordinal of the host type has an equal one exactly where the value was there
pub equal_before : (k : Known) (frame host a : ℕ) (v : ℤ) (x : Constant) (before : List Constant) → stands_for k frame x ≡ Some (Ordinal a v) → a ≡ host
    → has_equal k frame before x ≡ has_value k frame host before v
equal_before k frame host a v x before stands same =
    ap (λ (o : Option ConstantValue). list_any (λ y. are_equal o (stands_for k frame y)) before) stands
    ∙ any_same (λ y. are_equal (Some (Ordinal a v)) (stands_for k frame y)) (λ y. is_value a v (stands_for k frame y))
    (λ y. equal_values a v (stands_for k frame y)) before
    ∙ ap (λ n. list_any (λ y. is_value n v (stands_for k frame y)) before) same

-- ---- after the value is known

-- the rest of the step for a case constant
abbrev pub choosing_step : Choosing → ℕ → ℕ → ℕ → ℕ → Option ConstantValue → Step ℕ
choosing_step c chosen last slot first v =
    look (λ k. is_choice k c v) >>= λ fine. late 22 first fine >>= λ _. listed_choice c.list (value_if fine v) chosen last slot

-- what it comes to, by whether it is fine
abbrev settled : Choosing → ℕ → ℕ → ℕ → ℕ → Option ConstantValue → Bool → Step ℕ
settled c chosen last slot first v fine = late 22 first fine >>= λ _. listed_choice c.list (value_if fine v) chosen last slot

-- a constant is told exactly where it is wrong, and what was chosen is what was there, with its value
pub record Chooses (k : Known) (c : Choosing) (t : ℕ) (done : List Constant) (x : Constant) (i : Known) (bs : List Break) : Type 0 where
  pub chosen : is_some (type_at k c.host) ≡ true → (v : ℤ) → is_chosen i c.list v ≡ has_value k c.frame c.host (done ++ x ∷ []) v
  pub forth : In (late_at 22 t) bs → (first_of_constant x ≡ t) × IsWrongChoice k c.frame c.host done x
  pub back : (first_of_constant x ≡ t) × IsWrongChoice k c.frame c.host done x → In (late_at 22 t) bs

no_lists : (list : ℕ) (o : Option ℤ) (chosen last slot : ℕ) (k : Known) → (listed_choice list o chosen last slot k).broken ≡ []
unfolding chosen_value add_choice add_item link ◌>>=◌ change give look
no_lists list None chosen last slot k = refl
no_lists list (Some v) chosen last slot k = refl

one_listed : (list : ℕ) (w : ℤ) (chosen last slot : ℕ) (k : Known)
    → (listed_choice list (Some w) chosen last slot k).known.choices ≡ (and_choice k list w).choices
unfolding chosen_value add_choice add_item link ◌>>=◌ change give look
one_listed list w chosen last slot k = refl

none_listed : (list : ℕ) (chosen last slot : ℕ) (k : Known) → (listed_choice list None chosen last slot k).known ≡ k
unfolding give
none_listed list chosen last slot k = refl

-- what a constant adds to what is there
one_more : (k : Known) (frame host : ℕ) (done : List Constant) (x : Constant) (o : Option ConstantValue) (v : ℤ) → stands_for k frame x ≡ o
    → has_value k frame host (done ++ x ∷ []) v ≡ (has_value k frame host done v || is_value host v o)
one_more k frame host done x o v stands =
    any-last (λ y. is_value host v (stands_for k frame y)) done x ∙ ap (λ p. has_value k frame host done v || is_value host v p) stands

or_none : (b : Bool) → (b || false) ≡ b
or_none true = refl
or_none false = refl

-- ---- by what the constant is

-- what was chosen before
abbrev pub Chosen : Known → Choosing → List Constant → Known → Type 0
Chosen k c done j = is_some (type_at k c.host) ≡ true → (v : ℤ) → is_chosen j c.list v ≡ has_value k c.frame c.host done v

abbrev IsUnchanged : Known → Choosing → List Constant → Constant → Type 0
IsUnchanged k c done x = (v : ℤ) → has_value k c.frame c.host done v ≡ has_value k c.frame c.host (done ++ x ∷ []) v

told_wrong : (k : Known) (c : Choosing) (t : ℕ) (done : List Constant) (x : Constant) (j : Known) (chosen last slot : ℕ)
    → IsWrongChoice k c.frame c.host done x → Chosen k c done j → IsUnchanged k c done x
    → let s = late 22 (first_of_constant x) false >>= λ _. listed_choice c.list None chosen last slot in Chooses k c t done x (s j).known (s j).broken
unfolding ◌>>=◌ ask give
told_wrong k c t done x j chosen last slot wrong before same = record {
  chosen = λ typed v. before typed v ∙ same v;
  forth = λ h. elim h [
    | inl e ↦ (ap (λ (b : Break). b.token) e, wrong)
    | inr n ↦ absurd n
  ];
  back = λ p. inl (ap (λ n. late_at 22 n) p.0);
}

told_fine : (k : Known) (c : Choosing) (t : ℕ) (done : List Constant) (x : Constant) (j : Known) (chosen last slot : ℕ)
    → (IsWrongChoice k c.frame c.host done x → ⊥) → Chosen k c (done ++ x ∷ []) j
    → let s = late 22 (first_of_constant x) true >>= λ _. listed_choice c.list None chosen last slot in Chooses k c t done x (s j).known (s j).broken
unfolding ◌>>=◌ ask give
told_fine k c t done x j chosen last slot right after = record {
  chosen = λ typed v. after typed v;
  forth = λ h. absurd h;
  back = λ p. absurd (right p.1);
}

told_listed : (k : Known) (c : Choosing) (t : ℕ) (done : List Constant) (x : Constant) (j : Known) (chosen last slot : ℕ) (w : ℤ)
    → (IsWrongChoice k c.frame c.host done x → ⊥)
    → (is_some (type_at k c.host) ≡ true → (v : ℤ) → is_chosen (and_choice j c.list w) c.list v ≡ has_value k c.frame c.host (done ++ x ∷ []) v)
    → let s = late 22 (first_of_constant x) true >>= λ _. listed_choice c.list (Some w) chosen last slot in Chooses k c t done x (s j).known (s j).broken
unfolding ◌>>=◌ ask give chosen_value add_choice add_item link change look
told_listed k c t done x j chosen last slot w right more = record {
  chosen = λ typed v. more typed v;
  forth = λ h. absurd h;
  back = λ p. absurd (right p.1);
}

-- ---- values among those chosen

-- one more value that was not there
chosen_more : (cs : List (ℕ × ℤ)) (list : ℕ) (w v : ℤ) (b : Bool) → list_any (same_choice (list, w)) cs ≡ b → b ≡ false
    → list_any (same_choice (list, v)) (if b then cs else cs ++ (list, w) ∷ []) ≡ (list_any (same_choice (list, v)) cs || int_eq v w)
chosen_more cs list w v true e new = absurd (let never : true ≡ false = new in cc)
chosen_more cs list w v false e new =
    any-last (same_choice (list, v)) cs (list, w)
    ∙ ap (λ b. list_any (same_choice (list, v)) cs || (b && int_eq v w)) (eq-eqb list list refl)

more_chosen : (j : Known) (list : ℕ) (w v : ℤ) → is_chosen j list w ≡ false → is_chosen (and_choice j list w) list v ≡ (is_chosen j list v || int_eq v w)
more_chosen j list w v new =
    let b = list_any (same_choice (list, w)) j.choices in
    chosen_more j.choices list w v b refl new

there_by : (k : Known) (frame host : ℕ) (done : List Constant) (w v : ℤ) → has_value k frame host done w ≡ true → (b : Bool) → int_eq v w ≡ b
    → has_value k frame host done v ≡ (has_value k frame host done v || b)
there_by k frame host done w v there false e = sym (or_none (has_value k frame host done v))
there_by k frame host done w v there true e =
    let same : v ≡ w = (Decides-int_eq v w).0 e in
    let here : has_value k frame host done v ≡ true = ap (λ z. has_value k frame host done z) same ∙ there in
    here ∙ sym (ap (λ z. z || true) here)

-- a value that is there again changes nothing
again_there : (k : Known) (frame host : ℕ) (done : List Constant) (w v : ℤ) → has_value k frame host done w ≡ true
    → has_value k frame host done v ≡ (has_value k frame host done v || int_eq v w)
again_there k frame host done w v there = there_by k frame host done w v there (int_eq v w) refl

-- ---- all of it

record Turned (k : Known) (c : Choosing) (t : ℕ) (done : List Constant) (x : Constant) (j : Known) (chosen last slot : ℕ) (o : Option ConstantValue)
    (fine : Bool)
    : Type 0 where
  goes : Chooses k c t done x (settled c chosen last slot (first_of_constant x) o fine j).known
      (settled c chosen last slot (first_of_constant x) o fine j).broken

told_untyped : (k : Known) (c : Choosing) (t : ℕ) (done : List Constant) (x : Constant) (j : Known) (chosen last slot : ℕ) (o : Option ℤ)
    → (IsWrongChoice k c.frame c.host done x → ⊥) → (is_some (type_at k c.host) ≡ true → ⊥)
    → let s = late 22 (first_of_constant x) true >>= λ _. listed_choice c.list o chosen last slot in Chooses k c t done x (s j).known (s j).broken
told_untyped k c t done x j chosen last slot None right never = told_fine k c t done x j chosen last slot right (λ e. absurd (never e))
told_untyped k c t done x j chosen last slot (Some w) right never = told_listed k c t done x j chosen last slot w right (λ e. absurd (never e))

untyped_by : (k : Known) (c : Choosing) (t : ℕ) (done : List Constant) (x : Constant) (j : Known) (chosen last slot : ℕ) (o : Option ConstantValue)
    → (IsWrongChoice k c.frame c.host done x → ⊥) → (is_some (type_at k c.host) ≡ true → ⊥) → Turned k c t done x j chosen last slot o true
untyped_by k c t done x j chosen last slot None right never = record { goes = told_untyped k c t done x j chosen last slot None right never }
untyped_by k c t done x j chosen last slot (Some (Text token)) right never =
    record { goes = told_untyped k c t done x j chosen last slot None right never }
untyped_by k c t done x j chosen last slot (Some (Ordinal a w)) right never =
    record { goes = told_untyped k c t done x j chosen last slot (Some w) right never }

-- of unknown host type
untyped_goes : (k : Known) (c : Choosing) (t : ℕ) (done : List Constant) (x : Constant) (j : Known) (chosen last slot : ℕ) (o : Option ConstantValue)
    → type_at k c.host ≡ None → Turned k c t done x j chosen last slot o true
untyped_goes k c t done x j chosen last slot o none =
    let never : is_some (type_at k c.host) ≡ true → ⊥ = λ e. let no : false ≡ true = sym (ap is_some none) ∙ e in cc in
    untyped_by k c t done x j chosen last slot o (λ w. never w.typed) never

-- an ordinal of the host type
ordinal_goes : (k : Known) (c : Choosing) (t : ℕ) (done : List Constant) (x : Constant) (j : Known) (chosen last slot a : ℕ) (w : ℤ) (there : Bool)
    → Chosen k c done j → is_some (type_at k c.host) ≡ true → stands_for k c.frame x ≡ Some (Ordinal a w) → nat_eq a c.host ≡ true
    → has_value k c.frame c.host done w ≡ there → Turned k c t done x j chosen last slot (Some (Ordinal a w)) (not there)
ordinal_goes k c t done x j chosen last slot a w true before typed stands own was =
    let host : a ≡ c.host = eqb-true a c.host own in
    let wrong : IsWrongChoice k c.frame c.host done x = record {
      value = Ordinal a w;
      stands = stands;
      typed = typed;
      wrong = inr (equal_before k c.frame c.host a w x done stands host ∙ was);
    } in
    record {
      goes = told_wrong k c t done x j chosen last slot wrong before (λ v. again_there k c.frame c.host done w v was
          ∙ sym (one_more k c.frame c.host done x (Some (Ordinal a w)) v stands ∙ ap (λ b. has_value k c.frame c.host done v || (b && int_eq v w)) own));
    }
ordinal_goes k c t done x j chosen last slot a w false before typed stands own was =
    let host : a ≡ c.host = eqb-true a c.host own in
    let right : IsWrongChoice k c.frame c.host done x → ⊥ = λ i.
    let is : Ordinal a w ≡ i.value = same_Some (Ordinal a w) i.value (sym stands ∙ i.stands) in
    elim i.wrong [
      | inl not_own ↦ (let no : true ≡ false = sym own ∙ ap (is_of_host c.host) is ∙ not_own in cc)
      | inr equal ↦ (let no : false ≡ true = sym (equal_before k c.frame c.host a w x done stands host ∙ was) ∙ equal in cc)
    ] in
    let new : is_chosen j c.list w ≡ false = before typed w ∙ was in
    record {
      goes = told_listed k c t done x j chosen last slot w right (λ e v. more_chosen j c.list w v new
          ∙ ap (λ b. b || int_eq v w) (before e v)
          ∙ sym (one_more k c.frame c.host done x (Some (Ordinal a w)) v stands ∙ ap (λ b. has_value k c.frame c.host done v || (b && int_eq v w)) own));
    }

-- of another type
other_goes : (k : Known) (c : Choosing) (t : ℕ) (done : List Constant) (x : Constant) (j : Known) (chosen last slot a : ℕ) (w : ℤ)
    → Chosen k c done j → is_some (type_at k c.host) ≡ true → stands_for k c.frame x ≡ Some (Ordinal a w) → nat_eq a c.host ≡ false
    → Turned k c t done x j chosen last slot (Some (Ordinal a w)) false
other_goes k c t done x j chosen last slot a w before typed stands other =
    let wrong : IsWrongChoice k c.frame c.host done x = record { value = Ordinal a w; stands = stands; typed = typed; wrong = inl other } in
    record {
      goes = told_wrong k c t done x j chosen last slot wrong before (λ v.
          sym (one_more k c.frame c.host done x (Some (Ordinal a w)) v stands
          ∙ ap (λ b. has_value k c.frame c.host done v || (b && int_eq v w)) other ∙ or_none (has_value k c.frame c.host done v)));
    }

text_goes : (k : Known) (c : Choosing) (t : ℕ) (done : List Constant) (x : Constant) (j : Known) (chosen last slot token : ℕ) → Chosen k c done j
    → is_some (type_at k c.host) ≡ true → stands_for k c.frame x ≡ Some (Text token) → Turned k c t done x j chosen last slot (Some (Text token)) false
text_goes k c t done x j chosen last slot token before typed stands =
    let wrong : IsWrongChoice k c.frame c.host done x = record { value = Text token; stands = stands; typed = typed; wrong = inl refl } in
    record {
      goes = told_wrong k c t done x j chosen last slot wrong before (λ v.
          sym (one_more k c.frame c.host done x (Some (Text token)) v stands ∙ or_none (has_value k c.frame c.host done v)));
    }

unknown_goes : (k : Known) (c : Choosing) (t : ℕ) (done : List Constant) (x : Constant) (j : Known) (chosen last slot : ℕ) → Chosen k c done j
    → stands_for k c.frame x ≡ None → Turned k c t done x j chosen last slot None true
unknown_goes k c t done x j chosen last slot before stands =
    let right : IsWrongChoice k c.frame c.host done x → ⊥ = λ i. none-some i.value (sym stands ∙ i.stands) in
    record {
      goes = told_fine k c t done x j chosen last slot right (λ typed v. before typed v
          ∙ sym (one_more k c.frame c.host done x None v stands ∙ or_none (has_value k c.frame c.host done v)));
    }

own_or_other : (k : Known) (c : Choosing) (t : ℕ) (done : List Constant) (x : Constant) (j : Known) (chosen last slot a : ℕ) (w : ℤ) (own : Bool)
    → Chosen k c done j → is_some (type_at k c.host) ≡ true → stands_for k c.frame x ≡ Some (Ordinal a w) → nat_eq a c.host ≡ own
    → Turned k c t done x j chosen last slot (Some (Ordinal a w)) (own && not (has_value k c.frame c.host done w))
own_or_other k c t done x j chosen last slot a w true before typed stands e =
    ordinal_goes k c t done x j chosen last slot a w (has_value k c.frame c.host done w) before typed stands e refl
own_or_other k c t done x j chosen last slot a w false before typed stands e = other_goes k c t done x j chosen last slot a w before typed stands e

-- by its value and the host type
goes_by : (k : Known) (c : Choosing) (t : ℕ) (done : List Constant) (x : Constant) (j : Known) (chosen last slot : ℕ) → Chosen k c done j
    → (ty : Option TypeRow) → type_at k c.host ≡ ty → type_at j c.host ≡ ty → (o : Option ConstantValue) → stands_for k c.frame x ≡ o
    → Turned k c t done x j chosen last slot o (is_choice j c o)
goes_by k c t done x j chosen last slot before ty e f None stands = unknown_goes k c t done x j chosen last slot before stands
goes_by k c t done x j chosen last slot before None e f (Some (Text token)) stands =
    subst (λ fine. Turned k c t done x j chosen last slot (Some (Text token)) fine) (sym (ap is_none f))
    (untyped_goes k c t done x j chosen last slot (Some (Text token)) e)
goes_by k c t done x j chosen last slot before (Some ty) e f (Some (Text token)) stands =
    subst (λ fine. Turned k c t done x j chosen last slot (Some (Text token)) fine) (sym (ap is_none f))
    (text_goes k c t done x j chosen last slot token before (ap is_some e) stands)
goes_by k c t done x j chosen last slot before None e f (Some (Ordinal a w)) stands =
    subst (λ fine. Turned k c t done x j chosen last slot (Some (Ordinal a w)) fine)
    (sym (ap (λ (u : Option TypeRow). is_none u || (nat_eq a c.host && not (is_chosen j c.list w))) f))
    (untyped_goes k c t done x j chosen last slot (Some (Ordinal a w)) e)
goes_by k c t done x j chosen last slot before (Some ty) e f (Some (Ordinal a w)) stands =
    let typed : is_some (type_at k c.host) ≡ true = ap is_some e in
    subst (λ fine. Turned k c t done x j chosen last slot (Some (Ordinal a w)) fine)
    (sym (ap (λ (u : Option TypeRow). is_none u || (nat_eq a c.host && not (is_chosen j c.list w))) f
    ∙ ap (λ b. nat_eq a c.host && not b) (before typed w)))
    (own_or_other k c t done x j chosen last slot a w (nat_eq a c.host) before typed stands refl)

-- the step for a case constant, once its value is known
pub choosing_goes : (k : Known) (c : Choosing) (t : ℕ) (done : List Constant) (x : Constant) (j : Known) (chosen last slot : ℕ) → Alike k j
    → Chosen k c done j
    → let s = choosing_step c chosen last slot (first_of_constant x) (stands_for k c.frame x) in Chooses k c t done x (s j).known (s j).broken
unfolding look ◌>>=◌
choosing_goes k c t done x j chosen last slot a before =
    (goes_by k c t done x j chosen last slot before (type_at k c.host) refl (type_still k j a c.host) (stands_for k c.frame x) refl).goes
