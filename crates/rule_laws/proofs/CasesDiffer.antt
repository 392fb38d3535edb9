-- Where a case statement breaks no rule, and the host type of its selector is there, its constants are right.
use Rattle.std.proofs.Common.{if◌then◌else◌, ◌&&◌, ◌++◌, ◌||◌, ◌∙◌, ◌∷◌, ◌≡◌, [], ℕ, ℤ, Bool, List, None, Option, Some, ap, false, is_none, is_some, map}
use Rattle.std.proofs.Common.{nat_eq, nat_le, not, refl, subst, sym, true}
use Rattle.std.proofs.lemmas.{Bool.eq-eqb, Bool.Decides.Decides-int_eq, List.append-nil, List.append_assoc, Option.none-some, Option.same_Some}
use Rattle.std.specs.{List.list_any, Ordering.int_eq}
use Rattle.pas_tree.specs.{ConstantTrees.ConstantsTree, Constants.constant_node, DenoterPlaces.first_of_constant}
use Rattle.pas_tree.specs.declared.constants.{Constant.Constant, NextConstant.NextConstant}
use Rattle.core_program.specs.declared.rows.TypeRow.{TypeRow}
use Rattle.check_steps.specs.{Items.add_item, Items.link, Names.is_usable, Names.usable, Names.use_again, declared.regions.Found.Found}
use Rattle.check_steps.specs.Known.{Known, find, is_chosen, name_at, same_choice, type_at}
use Rattle.check_steps.specs.Steps.{◌>>=◌, Step, ask, change, each, give, late, look}
use Rattle.kind_checker.specs.{Constants.constant_again, Constants.named_again, declared.constants.ConstantValue.ConstantValue}
use Rattle.denoter_checker.specs.Variants.{add_choice, case_constant, choices, chosen_value, is_choice, listed_choice, next_choice, value_if}
use Rattle.denoter_checker.specs.declared.variants.Choosing.{Choosing}
use Rattle.rule_laws.proofs.{DenoterVariants.case_constant-touches, Faces.loose, LabelTold.Anywhere, LabelTold.anywhere, LabelTold.everywhere, Outward.Outward}
use Rattle.rule_laws.proofs.Choices.{again_known, again_value, choosing_step}
use Rattle.rule_laws.proofs.ExpressionRows.{asked_fine, left_none, right_none}
use Rattle.rule_laws.proofs.NamesFound.{Ahead, ahead_before, found_after, outward_then, stands_before}
use Rattle.rule_laws.proofs.Touches.{Same, Touches, any-last, bind-touches, give-touches}
use Rattle.rule_laws.specs.{CaseLaws.late_at, TextCases.IsRight, TextCases.is_found}
use Rattle.rule_laws.specs.CaseConstants.{are_equal, has_equal, in_next, is_of_host, listed, stands_for}

-- ---- what was chosen

-- the tables at the end, and what constants choose for, whose host type is there
pub record Chosen : Type 0 where
  pub f : Known
  pub c : Choosing
  pub typed : is_some (type_at f c.host) ≡ true

-- what a constant stands for at the end
abbrev value_at : Chosen → Constant → Option ConstantValue
value_at z x = stands_for z.f z.c.frame x

abbrev AreListed : Chosen → Known → List Constant → Type 0
AreListed z j [] = Unit {0}
AreListed z j (y ∷ ys) = ((a : ℕ) (w : ℤ) → value_at z y ≡ Some (ConstantValue.Ordinal a w) → is_chosen j z.c.list w ≡ true) × AreListed z j ys

listed_still : (z : Chosen) (j i : Known) → ((w : ℤ) → is_chosen j z.c.list w ≡ true → is_chosen i z.c.list w ≡ true) → (ys : List Constant)
    → AreListed z j ys → AreListed z i ys
listed_still z j i grows [] h = tt
listed_still z j i grows (y ∷ ys) h = ((λ a w e. grows w (h.0 a w e)), listed_still z j i grows ys h.1)

listed_more : (z : Chosen) (j : Known) (ys : List Constant) (x : Constant) → AreListed z j ys
    → ((a : ℕ) (w : ℤ) → value_at z x ≡ Some (ConstantValue.Ordinal a w) → is_chosen j z.c.list w ≡ true) → AreListed z j (ys ++ x ∷ [])
listed_more z j [] x h own = (own, tt)
listed_more z j (y ∷ ys) x h own = (h.0, listed_more z j ys x h.1 own)

-- the tables where some of the constants were gone over
pub record Gone (z : Chosen) (done : List Constant) (j : Known) : Type 0 where
  pub outward : Outward j.frames z.c.frame
  pub listed : AreListed z j done

gone_still : (z : Chosen) (done : List Constant) (j i : Known) → Same Anywhere loose j i → Gone z done j → Gone z done i
gone_still z done j i s g = record {
  outward = outward_then j i z.c.frame s.frames g.outward;
  listed = listed_still z j i (λ w e. s.grows z.c.list w e) done g.listed;
}

-- each of the constants is right after those before it
abbrev pub Right : Chosen → (done xs : List Constant) → Type 0
Right z done [] = Unit {0}
Right z done (x ∷ xs) = IsRight z.f z.c.frame z.c.host done x × Right z (done ++ x ∷ []) xs

right_then : (z : Chosen) (done xs ys : List Constant) → Right z done xs → Right z (done ++ xs) ys → Right z done (xs ++ ys)
right_then z done [] ys a b = subst (λ (d : List Constant). Right z d ys) (append-nil done) b
right_then z done (x ∷ xs) ys a b =
    (a.0, right_then z (done ++ x ∷ []) xs ys a.1 (subst (λ (d : List Constant). Right z d ys) (sym (append_assoc done (x ∷ []) xs)) b))

-- one of them, as the law says it
pub right_at : (z : Chosen) (done before : List Constant) (x : Constant) (after : List Constant) → Right z done (before ++ x ∷ after)
    → IsRight z.f z.c.frame z.c.host (done ++ before) x
right_at z done [] x after d = subst (λ (b : List Constant). IsRight z.f z.c.frame z.c.host b x) (sym (append-nil done)) d.0
right_at z done (y ∷ ys) x after d = subst (λ (b : List Constant). IsRight z.f z.c.frame z.c.host b x) (append_assoc done (y ∷ []) ys)
    (right_at z (done ++ y ∷ []) ys x after d.1)

pub record Ends (z : Chosen) (done xs : List Constant) (i : Known) : Type 0 where
  pub gone : Gone z (done ++ xs) i
  pub right : Right z done xs

-- A step goes over these constants: where it breaks no rule, they are right.
pub record Goes (z : Chosen) (xs : List Constant) {A : Type 0} (m : Step A) : Type 0 where
  pub touches : Touches Anywhere loose m
  pub of : (done : List Constant) (j : Known) → Gone z done j → (m j).broken ≡ [] → Ahead z.f (m j).known
      → Ends z done xs (m j).known

pub calm : (z : Chosen) {A : Type 0} {m : Step A} → Touches Anywhere loose m → Goes z [] m
calm z {m = m} touches = record {
  touches = touches;
  of = λ done j gone none ahead. record {
    gone = subst (λ (d : List Constant). Gone z d (m j).known) (sym (append-nil done)) (gone_still z done j (m j).known (touches.same j) gone);
    right = tt;
  };
}

pub goes_then : (z : Chosen) (xs ys : List Constant) {A B : Type 0} {m : Step A} {f : A → Step B} → Goes z xs m → ((a : A) → Goes z ys (f a))
    → Goes z (xs ++ ys) (m >>= f)
unfolding ◌>>=◌
goes_then z xs ys {m = m} {f = f} h g = record {
  touches = bind-touches h.touches (λ a. (g a).touches);
  of = λ done j gone none ahead.
      let d = m j in
      let e = f d.value d.known in
      let one = h.of done j gone (left_none d.broken e.broken none) (ahead_before z.f d.known e.known ((g d.value).touches.same d.known) ahead) in
      let two = (g d.value).of (done ++ xs) d.known one.gone (right_none d.broken e.broken none) ahead in
      record {
        gone = subst (λ (l : List Constant). Gone z l e.known) (append_assoc done xs ys) two.gone;
        right = right_then z done xs ys one.right two.right;
      };
}

pub goes_calm : (z : Chosen) (xs : List Constant) {A B : Type 0} {m : Step A} {f : A → Step B} → Goes z xs m → ((a : A) → Touches Anywhere loose (f a))
    → Goes z xs (m >>= f)
goes_calm z xs {m = m} {f = f} h g =
    subst (λ (l : List Constant). Goes z l (m >>= f)) (append-nil xs) (goes_then z xs [] h (λ a. calm z (g a)))

pub calm_then : (z : Chosen) (xs : List Constant) {A B : Type 0} {m : Step A} {f : A → Step B} → Touches Anywhere loose m → ((a : A) → Goes z xs (f a))
    → Goes z xs (m >>= f)
calm_then z xs touches g = goes_then z [] xs (calm z touches) g

-- ---- one constant

no_equal : (o : Option ConstantValue) → ((a : ℕ) (w : ℤ) → o ≡ Some (ConstantValue.Ordinal a w) → ⊥) → (u : Option ConstantValue) → are_equal o u ≡ false
no_equal (Some (ConstantValue.Ordinal a w)) off u = absurd (off a w refl)
no_equal (Some (ConstantValue.Text token)) off u = refl
no_equal None off u = refl

none_same : (z : Chosen) (x : Constant) → ((a : ℕ) (w : ℤ) → value_at z x ≡ Some (ConstantValue.Ordinal a w) → ⊥) → (ys : List Constant)
    → has_equal z.f z.c.frame ys x ≡ false
none_same z x off [] = refl
none_same z x off (y ∷ ys) =
    ap (λ b. b || has_equal z.f z.c.frame ys x) (no_equal (value_at z x) off (value_at z y)) ∙ none_same z x off ys

equal_by : (own : Bool) (v w : ℤ) → (w ≡ v → ⊥) → (own && int_eq v w) ≡ false
equal_by false v w apart = refl
equal_by true v w apart = by (int_eq v w) refl
  where
    by : (b : Bool) → int_eq v w ≡ b → int_eq v w ≡ false
    by false e = e
    by true e = absurd (apart (sym ((Decides-int_eq v w).0 e)))

-- A value that is not chosen is that of none of the constants before.
differs_from : (z : Chosen) (j : Known) (a : ℕ) (w : ℤ) → is_chosen j z.c.list w ≡ false → (o : Option ConstantValue)
    → ((b : ℕ) (u : ℤ) → o ≡ Some (ConstantValue.Ordinal b u) → is_chosen j z.c.list u ≡ true) → are_equal (Some (ConstantValue.Ordinal a w)) o ≡ false
differs_from z j a w new (Some (ConstantValue.Ordinal b u)) there = equal_by (nat_eq b a) w u (λ same.
    let never : false ≡ true = sym new ∙ ap (λ v. is_chosen j z.c.list v) (sym same) ∙ there b u refl in cc)
differs_from z j a w new (Some (ConstantValue.Text token)) there = refl
differs_from z j a w new None there = refl

new_differs : (z : Chosen) (j : Known) (x : Constant) (a : ℕ) (w : ℤ) → value_at z x ≡ Some (ConstantValue.Ordinal a w)
    → is_chosen j z.c.list w ≡ false → (ys : List Constant) → AreListed z j ys → has_equal z.f z.c.frame ys x ≡ false
new_differs z j x a w is new [] h = refl
new_differs z j x a w is new (y ∷ ys) h =
    ap (λ (o : Option ConstantValue). are_equal o (value_at z y) || has_equal z.f z.c.frame ys x) is
    ∙ ap (λ b. b || has_equal z.f z.c.frame ys x) (differs_from z j a w new (value_at z y) h.0) ∙ new_differs z j x a w is new ys h.1

-- ---- what is chosen by it

chosen_now : (cs : List (ℕ × ℤ)) (x : ℕ × ℤ) (t : Bool) → list_any (same_choice x) cs ≡ t → same_choice x x ≡ true
    → list_any (same_choice x) (if t then cs else cs ++ x ∷ []) ≡ true
chosen_now cs x true e own = e
chosen_now cs x false e own = any-last (same_choice x) cs x ∙ ap (λ b. b || same_choice x x) e ∙ own

same_self : (n : ℕ) (v : ℤ) → same_choice (n, v) (n, v) ≡ true
same_self n v = ap (λ b. b && int_eq v v) (eq-eqb n n refl) ∙ (Decides-int_eq v v).1 refl

listed_now : (list : ℕ) (w : ℤ) (chosen last slot : ℕ) (k : Known) → is_chosen (listed_choice list (Some w) chosen last slot k).known list w ≡ true
unfolding chosen_value add_choice add_item link ◌>>=◌ change give look
listed_now list w chosen last slot k =
    chosen_now k.choices (list, w) (list_any (same_choice (list, w)) k.choices) refl (same_self list w)

-- where a number or a character breaks no rule, it is of the host type, and its value was not chosen before, and is so now
record Settles (z : Chosen) (a : ℕ) (w : ℤ) (j i : Known) : Type 0 where
  own : nat_eq a z.c.host ≡ true
  new : is_chosen j z.c.list w ≡ false
  now : is_chosen i z.c.list w ≡ true

fine_new : (o : Option TypeRow) (own was : Bool) → is_some o ≡ true → (is_none o || (own && not was)) ≡ true → was ≡ false
fine_new None own was some e = absurd (let never : false ≡ true = some in cc)
fine_new (Some t) own false some e = refl
fine_new (Some t) true true some e = absurd (let never : false ≡ true = e in cc)
fine_new (Some t) false true some e = absurd (let never : false ≡ true = e in cc)

fine_own : (o : Option TypeRow) (own was : Bool) → is_some o ≡ true → (is_none o || (own && not was)) ≡ true → own ≡ true
fine_own None own was some e = absurd (let never : false ≡ true = some in cc)
fine_own (Some t) true was some e = refl
fine_own (Some t) false was some e = absurd (let never : false ≡ true = e in cc)

settles_by : (z : Chosen) (chosen last slot first : ℕ) (j : Known) (a : ℕ) (w : ℤ) (fine : Bool) → is_some (type_at j z.c.host) ≡ true
    → is_choice j z.c (Some (ConstantValue.Ordinal a w)) ≡ fine
    → let s = late 22 first fine >>= λ _. listed_choice z.c.list (value_if fine (Some (ConstantValue.Ordinal a w))) chosen last slot in
    (s j).broken ≡ [] → Settles z a w j (s j).known
unfolding ◌>>=◌ ask
settles_by z chosen last slot first j a w false some e none = absurd cc
settles_by z chosen last slot first j a w true some e none = record {
  own = fine_own (type_at j z.c.host) (nat_eq a z.c.host) (is_chosen j z.c.list w) some e;
  new = fine_new (type_at j z.c.host) (nat_eq a z.c.host) (is_chosen j z.c.list w) some e;
  now = listed_now z.c.list w chosen last slot j;
}

settles : (z : Chosen) (chosen last slot first : ℕ) (j : Known) (a : ℕ) (w : ℤ) (v : Option ConstantValue) → v ≡ Some (ConstantValue.Ordinal a w)
    → is_some (type_at j z.c.host) ≡ true → let s = choosing_step z.c chosen last slot first v in (s j).broken ≡ [] → Settles z a w j (s j).known
unfolding look ◌>>=◌
settles z chosen last slot first j a w v is some none =
    let P : Option ConstantValue → Type 0 = λ o. let s = choosing_step z.c chosen last slot first o in (s j).broken ≡ [] → Settles z a w j (s j).known in
    subst P (sym is) (λ e. settles_by z chosen last slot first j a w (is_choice j z.c (Some (ConstantValue.Ordinal a w))) some refl e) none

-- a string of another length than one breaks the rule
no_text_by : (z : Chosen) (chosen last slot first token : ℕ) (j : Known) (fine : Bool) → is_none (type_at j z.c.host) ≡ fine
    → is_some (type_at j z.c.host) ≡ true
    → let s = late 22 first fine >>= λ _. listed_choice z.c.list (value_if fine (Some (ConstantValue.Text token))) chosen last slot in (s j).broken ≡ [] → ⊥
unfolding ◌>>=◌ ask
no_text_by z chosen last slot first token j false e some none = absurd cc
no_text_by z chosen last slot first token j true e some none = both_ways (type_at j z.c.host) e some
  where
    both_ways : (o : Option TypeRow) → is_none o ≡ true → is_some o ≡ true → ⊥
    both_ways None e some = let never : false ≡ true = some in cc
    both_ways (Some t) e some = let never : false ≡ true = e in cc

no_text : (z : Chosen) (chosen last slot first token : ℕ) (j : Known) (v : Option ConstantValue) → v ≡ Some (ConstantValue.Text token)
    → is_some (type_at j z.c.host) ≡ true → let s = choosing_step z.c chosen last slot first v in (s j).broken ≡ [] → ⊥
unfolding look ◌>>=◌
no_text z chosen last slot first token j v is some none =
    let P : Option ConstantValue → Type 0 = λ o. let s = choosing_step z.c chosen last slot first o in (s j).broken ≡ [] → ⊥ in
    subst P (sym is) (λ e. no_text_by z chosen last slot first token j (is_none (type_at j z.c.host)) refl some e) none

found_by : (b : Bool) (f : Found) → b ≡ true → is_some (if b then Some f else None) ≡ true
found_by true f e = refl
found_by false f e = e

usable_some : (at : ℕ) (o : Option Found) → is_usable at o ≡ true → is_some (usable at o) ≡ true
usable_some at None e = e
usable_some at (Some f) e = found_by (nat_le f.definition.end at) f e

-- a name that may be used is found
again_found : (frame : ℕ) (x : Constant) (j : Known) → (constant_again frame x j).broken ≡ [] → is_found j frame x ≡ true
unfolding look ◌>>=◌ give ask named_again use_again
again_found frame (Constant.Number s n) j none = refl
again_found frame (Constant.Name s n) j none =
    let d = named_again frame n j in
    let u = use_again frame n j in
    let o = find j frame (name_at j n) in
    usable_some n o (asked_fine (is_usable n o) (late_at 3 n) (left_none (if is_usable n o then [] else late_at 3 n ∷ []) []
    (left_none u.broken _ (left_none d.broken _ none))))
again_found frame (Constant.Text n) j none = refl

-- what a constant gives whose name is found
record IsSettled (z : Chosen) (x : Constant) (j i : Known) (o : Option ConstantValue) : Type 0 where
  found : is_found z.f z.c.frame x ≡ true
  settles : (a : ℕ) (w : ℤ) → o ≡ Some (ConstantValue.Ordinal a w) → Settles z a w j i
  no_string : (token : ℕ) → o ≡ Some (ConstantValue.Text token) → ⊥

one_ends : (z : Chosen) (done : List Constant) (x : Constant) (j i : Known) (o : Option ConstantValue) → value_at z x ≡ o → Gone z done j
    → Same Anywhere loose j i → IsSettled z x j i o → Ends z done (x ∷ []) i
one_ends z done x j i (Some (ConstantValue.Ordinal a w)) is gone s h =
    let one = h.settles a w refl in
    record {
      gone = record {
        outward = outward_then j i z.c.frame s.frames gone.outward;
        listed = listed_more z i done x (listed_still z j i (λ v e. s.grows z.c.list v e) done gone.listed)
            (λ b u e. (h.settles b u (sym is ∙ e)).now);
      };
      right = (
        record {
          found = h.found;
          of_host = λ v e. ap (is_of_host z.c.host) (same_Some v (ConstantValue.Ordinal a w) (sym e ∙ is)) ∙ one.own;
          new = new_differs z j x a w is one.new done gone.listed;
        },
        tt,
      );
    }
one_ends z done x j i (Some (ConstantValue.Text token)) is gone s h = absurd (h.no_string token refl)
one_ends z done x j i None is gone s h =
    let off : (a : ℕ) (w : ℤ) → value_at z x ≡ Some (ConstantValue.Ordinal a w) → ⊥ = λ a w e. none-some (ConstantValue.Ordinal a w) (sym is ∙ e) in
    let after = gone_still z done j i s gone in
    record {
      gone = record { outward = after.outward; listed = listed_more z i done x after.listed (λ a w e. absurd (off a w e)) };
      right = (record { found = h.found; of_host = λ v e. absurd (none-some v (sym is ∙ e)); new = none_same z x off done }, tt);
    }

one_goes : (z : Chosen) (chosen last slot : ℕ) (x : Constant) → Goes z (x ∷ []) (case_constant z.c chosen last slot x)
unfolding case_constant ◌>>=◌
one_goes z chosen last slot x =
    let touches = case_constant-touches {Q = Anywhere} {strict = loose} z.c chosen last slot x (anywhere z.c.list) (anywhere slot)
    (everywhere (constant_node x)) in
    record {
      touches = touches;
      of = λ done j gone none after.
          let i = (case_constant z.c chosen last slot x j).known in
          let d = constant_again z.c.frame x j in
          let s = choosing_step z.c chosen last slot (first_of_constant x) d.value in
          let at : d.known ≡ j = again_known z.c.frame x j in
          let ahead = ahead_before z.f j i (touches.same j) after in
          let typed : is_some (type_at j z.c.host) ≡ true = ap is_some (ahead.types z.c.host z.typed) ∙ z.typed in
          let there : is_some (type_at d.known z.c.host) ≡ true = subst (λ (h : Known). is_some (type_at h z.c.host) ≡ true) (sym at) typed in
          let fine = right_none d.broken (s d.known).broken none in
          let value : (v : ConstantValue) → value_at z x ≡ Some v → d.value ≡ Some v =
          λ v e. again_value z.c.frame x j ∙ stands_before z.f j z.c.frame ahead gone.outward x v e in
          one_ends z done x j i (value_at z x) refl gone (touches.same j) (record {
            found = found_after z.f j z.c.frame ahead gone.outward x (again_found z.c.frame x j (left_none d.broken (s d.known).broken none));
            settles = λ a w e.
                let one = settles z chosen last slot (first_of_constant x) d.known a w d.value (value (ConstantValue.Ordinal a w) e) there fine in
                record { own = one.own; new = ap (λ (h : Known). is_chosen h z.c.list w) (sym at) ∙ one.new; now = one.now };
            no_string = λ token e.
                no_text z chosen last slot (first_of_constant x) token d.known d.value (value (ConstantValue.Text token) e) there fine;
          });
    }

others_go : (z : Chosen) (chosen last : ℕ) (ns : List NextConstant) → Goes z (map in_next ns) (each (next_choice z.c chosen) last ns)
unfolding next_choice
others_go z chosen last [] = calm z (give-touches last)
others_go z chosen last (n ∷ ns) =
    goes_then z (n.constant ∷ []) (map in_next ns) (one_goes z chosen last n.comma n.constant) (λ next. others_go z chosen next ns)

-- the constants that choose one thing
pub choices_go : (z : Chosen) (chosen last slot : ℕ) (xs : ConstantsTree) → Goes z (listed xs) (choices z.c chosen last slot xs)
unfolding choices
choices_go z chosen last slot xs =
    goes_then z (xs.first ∷ []) (map in_next xs.others) (one_goes z chosen last slot xs.first) (λ next. others_go z chosen next xs.others)
