-- What is known of forms after one of them more has a class.
use Rattle.std.proofs.Common.{◌∙◌, ◌≡◌, ◌⊎◌, ℕ, Bool, None, Option, Some, ap, cond, false, inl, inr, refl, sym, true, unwrap_or}
use Rattle.std.{proofs.lemmas.Bool.cases_Bool, specs.Map.update}

pub record OneKnown {F : Type 0} (fresh : ℕ) (old new : F → Option ℕ) (g : F) (c : ℕ) : Type 0 where
  pub has : new g ≡ Some c
  pub keeps : (f : F) (d : ℕ) → old f ≡ Some d → new f ≡ Some d
  pub comes : (f : F) (d : ℕ) → new f ≡ Some d → (old f ≡ Some d) ⊎ ((g ≡ f) × (d ≡ fresh))

module _ {F : Type 0} (same : F → F → Bool) (told : (f g : F) → same f g ≡ true → f ≡ g) (fresh : ℕ) (old new : F → Option ℕ) (g : F) (c : ℕ)
    (class : c ≡ unwrap_or (old g) fresh) (all : (f : F) → new f ≡ update same old g (Some c) f) (has : new g ≡ Some c) where
  at_same : (f : F) → same g f ≡ true → new f ≡ Some c
  at_same f t = all f ∙ ap (λ b. cond b (Some c) (old f)) t

  at_other : (f : F) → same g f ≡ false → new f ≡ old f
  at_other f t = all f ∙ ap (λ b. cond b (Some c) (old f)) t

  kept_at : (f : F) (d : ℕ) → same g f ≡ true → old f ≡ Some d → new f ≡ Some d
  kept_at f d t e = at_same f t ∙ ap (λ z. Some z) (class ∙ ap (λ o. unwrap_or o fresh) (ap old (told g f t) ∙ e))

  came_at : (f : F) (d : ℕ) → same g f ≡ true → (o : Option ℕ) → old g ≡ o → d ≡ c → (old f ≡ Some d) ⊎ ((g ≡ f) × (d ≡ fresh))
  came_at f d t None k e = inr (told g f t, e ∙ class ∙ ap (λ o. unwrap_or o fresh) k)
  came_at f d t (Some b) k e =
      inl (sym (ap old (told g f t)) ∙ k ∙ ap (λ z. Some z) (sym (e ∙ class ∙ ap (λ o. unwrap_or o fresh) k)))

  pub one_known : OneKnown fresh old new g c
  one_known = record {
    has = has;
    keeps = λ f d e. elim (cases_Bool (same g f)) [ inl t ↦ kept_at f d t e | inr t ↦ at_other f t ∙ e ];
    comes = λ f d e. elim (cases_Bool (same g f)) [
      | inl t ↦ came_at f d t (old g) refl (ap (λ o. unwrap_or o 0) (sym e ∙ at_same f t))
      | inr t ↦ inl (sym (at_other f t) ∙ e)
    ];
  }
