-- Items that steps go over in turn, each of which may be told.
use Rattle.std.proofs.Common.{◌++◌, ◌∷◌, ◌≡◌, ◌⊎◌, [], ℕ, All, List, inl, inr, subst, sym}
use Rattle.std.proofs.lemmas.List.{append-nil, append_assoc, Elements.All-head, Elements.All-tail}
use Rattle.check_steps.specs.{Known.Known, Steps.◌>>=◌, Steps.Step, Steps.give, declared.breaks.Break.Break}
use Rattle.rule_laws.proofs.Breaks.{In, in_either, in_left, in_right}

-- what is looked at: items and their tokens, the tables where some of them were gone over, which are bad after those before
-- them, and what is told of the one at `t`
pub record Rule : Type 1 where
  pub X : Type 0
  pub at : X → ℕ
  pub Turn : List X → Known → Type 0
  pub Bad : List X → X → Type 0
  pub t : ℕ
  pub b : Break

-- one of these is the one that is looked at, and is bad after those before it
abbrev pub Wrong : (r : Rule) → List r.X → List r.X → Type 0
Wrong r done [] = ⊥
Wrong r done (x ∷ xs) = ((r.at x ≡ r.t) × r.Bad done x) ⊎ Wrong r (done ++ x ∷ []) xs

pub record Ends (r : Rule) (done xs : List r.X) (i : Known) (bs : List Break) : Type 0 where
  pub turn : r.Turn (done ++ xs) i
  pub forth : In r.b bs → Wrong r done xs
  pub back : Wrong r done xs → In r.b bs

pub record Goes (r : Rule) (xs : List r.X) {A : Type 0} (m : Step A) : Type 0 where
  pub of : (done : List r.X) (j : Known) → r.Turn done j → Ends r done xs (m j).known (m j).broken

pub record Calm (r : Rule) {A : Type 0} (m : Step A) : Type 0 where
  pub turn : (done : List r.X) (j : Known) → r.Turn done j → r.Turn done (m j).known
  pub none : (j : Known) → In r.b (m j).broken → ⊥

pub wrong_parts : (r : Rule) (done xs ys : List r.X) → Wrong r done (xs ++ ys) → Wrong r done xs ⊎ Wrong r (done ++ xs) ys
wrong_parts r done [] ys w = inr (subst (λ d. Wrong r d ys) (sym (append-nil done)) w)
wrong_parts r done (x ∷ xs) ys (inl w) = inl (inl w)
wrong_parts r done (x ∷ xs) ys (inr w) = elim (wrong_parts r (done ++ x ∷ []) xs ys w) [
  | inl v ↦ inl (inr v)
  | inr v ↦ inr (subst (λ d. Wrong r d ys) (append_assoc done (x ∷ []) xs) v)
]

pub wrong_first : (r : Rule) (done xs ys : List r.X) → Wrong r done xs → Wrong r done (xs ++ ys)
wrong_first r done [] ys w = absurd w
wrong_first r done (x ∷ xs) ys (inl w) = inl w
wrong_first r done (x ∷ xs) ys (inr w) = inr (wrong_first r (done ++ x ∷ []) xs ys w)

pub wrong_later : (r : Rule) (done xs ys : List r.X) → Wrong r (done ++ xs) ys → Wrong r done (xs ++ ys)
wrong_later r done [] ys w = subst (λ d. Wrong r d ys) (append-nil done) w
wrong_later r done (x ∷ xs) ys w =
    inr (wrong_later r (done ++ x ∷ []) xs ys (subst (λ d. Wrong r d ys) (sym (append_assoc done (x ∷ []) xs)) w))

-- ---- one after another; what is given may have something that what follows needs

pub goes_gives : {r : Rule} {A B : Type 0} (R : A → Type 0) {m : Step A} {f : A → Step B} (xs ys : List r.X) → Goes r xs m
    → ((k : Known) → R (m k).value) → ((a : A) → R a → Goes r ys (f a)) → Goes r (xs ++ ys) (m >>= f)
unfolding ◌>>=◌
goes_gives {r = r} R {m = m} {f = f} xs ys h gives g = record {
  of = λ done j turn.
      let d = m j in
      let e = f d.value d.known in
      let one = h.of done j turn in
      let two = (g d.value (gives j)).of (done ++ xs) d.known one.turn in
      record {
        turn = subst (λ l. r.Turn l e.known) (append_assoc done xs ys) two.turn;
        forth = λ i. elim (in_either r.b d.broken e.broken i) [
          | inl l ↦ wrong_first r done xs ys (one.forth l)
          | inr q ↦ wrong_later r done xs ys (two.forth q)
        ];
        back = λ w. elim (wrong_parts r done xs ys w) [
          | inl v ↦ in_left r.b d.broken e.broken (one.back v)
          | inr v ↦ in_right r.b d.broken e.broken (two.back v)
        ];
      };
}

pub goes_then : {r : Rule} {A B : Type 0} {m : Step A} {f : A → Step B} (xs ys : List r.X) → Goes r xs m → ((a : A) → Goes r ys (f a))
    → Goes r (xs ++ ys) (m >>= f)
goes_then xs ys h g = goes_gives (λ _. Unit {0}) xs ys h (λ k. tt) (λ a u. g a)

pub calm_gives : {r : Rule} {A B : Type 0} (R : A → Type 0) {m : Step A} {f : A → Step B} (xs : List r.X) → Calm r m
    → ((k : Known) → R (m k).value) → ((a : A) → R a → Goes r xs (f a)) → Goes r xs (m >>= f)
unfolding ◌>>=◌
calm_gives {r = r} R {m = m} {f = f} xs h gives g = record {
  of = λ done j turn.
      let d = m j in
      let e = f d.value d.known in
      let two = (g d.value (gives j)).of done d.known (h.turn done j turn) in
      record {
        turn = two.turn;
        forth = λ i. elim (in_either r.b d.broken e.broken i) [
          | inl l ↦ absurd (h.none j l)
          | inr q ↦ two.forth q
        ];
        back = λ w. in_right r.b d.broken e.broken (two.back w);
      };
}

pub calm_then : {r : Rule} {A B : Type 0} {m : Step A} {f : A → Step B} (xs : List r.X) → Calm r m → ((a : A) → Goes r xs (f a)) → Goes r xs (m >>= f)
calm_then xs h g = calm_gives (λ _. Unit {0}) xs h (λ k. tt) (λ a u. g a)

pub gives_calm : {r : Rule} {A B : Type 0} (R : A → Type 0) {m : Step A} {f : A → Step B} (xs : List r.X) → Goes r xs m
    → ((k : Known) → R (m k).value) → ((a : A) → R a → Calm r (f a)) → Goes r xs (m >>= f)
unfolding ◌>>=◌
gives_calm {r = r} R {m = m} {f = f} xs h gives g = record {
  of = λ done j turn.
      let d = m j in
      let e = f d.value d.known in
      let one = h.of done j turn in
      let two = g d.value (gives j) in
      record {
        turn = two.turn (done ++ xs) d.known one.turn;
        forth = λ i. elim (in_either r.b d.broken e.broken i) [
          | inl l ↦ one.forth l
          | inr q ↦ absurd (two.none d.known q)
        ];
        back = λ w. in_left r.b d.broken e.broken (one.back w);
      };
}

pub goes_calm : {r : Rule} {A B : Type 0} {m : Step A} {f : A → Step B} (xs : List r.X) → Goes r xs m → ((a : A) → Calm r (f a)) → Goes r xs (m >>= f)
goes_calm xs h g = gives_calm (λ _. Unit {0}) xs h (λ k. tt) (λ a u. g a)

pub calm_goes : {r : Rule} {A : Type 0} {m : Step A} → Calm r m → Goes r [] m
calm_goes {r = r} {m = m} h = record {
  of = λ done j turn. record {
    turn = subst (λ l. r.Turn l (m j).known) (sym (append-nil done)) (h.turn done j turn);
    forth = λ i. h.none j i;
    back = λ w. absurd w;
  };
}

pub calm_calm : {r : Rule} {A B : Type 0} {m : Step A} {f : A → Step B} → Calm r m → ((a : A) → Calm r (f a)) → Calm r (m >>= f)
unfolding ◌>>=◌
calm_calm {r = r} {m = m} {f = f} h g = record {
  turn = λ done j turn. (g (m j).value).turn done (m j).known (h.turn done j turn);
  none = λ j i. elim (in_either r.b (m j).broken (f (m j).value (m j).known).broken i) [
    | inl l ↦ h.none j l
    | inr q ↦ (g (m j).value).none (m j).known q
  ];
}

pub goes_nowhere : {r : Rule} {A : Type 0} (a : A) → Goes r [] (give a)
unfolding give
goes_nowhere {r = r} a = record {
  of = λ done j turn. record {
    turn = subst (λ l. r.Turn l j) (sym (append-nil done)) turn;
    forth = λ i. absurd i;
    back = λ w. absurd w;
  };
}

-- ---- what is told alone, where nothing comes after it that goes over these items

pub record Tells (r : Rule) (xs : List r.X) {A : Type 0} (m : Step A) : Type 0 where
  pub of : (done : List r.X) (j : Known) → r.Turn done j
      → (In r.b (m j).broken → Wrong r done xs) × (Wrong r done xs → In r.b (m j).broken)

pub tells_then : {r : Rule} {A B : Type 0} {m : Step A} {f : A → Step B} (xs ys : List r.X) → Goes r xs m → ((a : A) → Tells r ys (f a))
    → Tells r (xs ++ ys) (m >>= f)
unfolding ◌>>=◌
tells_then {r = r} {m = m} {f = f} xs ys h g = record {
  of = λ done j turn.
      let d = m j in
      let e = f d.value d.known in
      let one = h.of done j turn in
      let two = (g d.value).of (done ++ xs) d.known one.turn in (
        (λ i. elim (in_either r.b d.broken e.broken i) [
          | inl l ↦ wrong_first r done xs ys (one.forth l)
          | inr q ↦ wrong_later r done xs ys (two.0 q)
        ]),
        (λ w. elim (wrong_parts r done xs ys w) [
          | inl v ↦ in_left r.b d.broken e.broken (one.back v)
          | inr v ↦ in_right r.b d.broken e.broken (two.1 v)
        ]),
      );
}

pub tells_calm : {r : Rule} {A B : Type 0} {m : Step A} {f : A → Step B} (xs : List r.X) → Calm r m → ((a : A) → Tells r xs (f a)) → Tells r xs (m >>= f)
unfolding ◌>>=◌
tells_calm {r = r} {m = m} {f = f} xs h g = record {
  of = λ done j turn.
      let d = m j in
      let e = f d.value d.known in
      let two = (g d.value).of done d.known (h.turn done j turn) in (
        (λ i. elim (in_either r.b d.broken e.broken i) [
          | inl l ↦ absurd (h.none j l)
          | inr q ↦ two.0 q
        ]),
        (λ w. in_right r.b d.broken e.broken (two.1 w)),
      );
}

pub record Silent (r : Rule) {A : Type 0} (m : Step A) : Type 0 where
  pub none : (j : Known) → In r.b (m j).broken → ⊥

pub tells_last : {r : Rule} {A B : Type 0} {m : Step A} {f : A → Step B} (xs : List r.X) → Goes r xs m → ((a : A) → Silent r (f a)) → Tells r xs (m >>= f)
unfolding ◌>>=◌
tells_last {r = r} {m = m} {f = f} xs h last = record {
  of = λ done j turn.
      let d = m j in
      let e = f d.value d.known in
      let one = h.of done j turn in (
        (λ i. elim (in_either r.b d.broken e.broken i) [
          | inl l ↦ one.forth l
          | inr q ↦ absurd ((last d.value).none d.known q)
        ]),
        (λ w. in_left r.b d.broken e.broken (one.back w)),
      );
}

-- ---- one of them

none_wrong : (r : Rule) (done xs : List r.X) → All (λ y. r.at y ≡ r.t → ⊥) xs → Wrong r done xs → ⊥
none_wrong r done [] others w = w
none_wrong r done (y ∷ ys) others w = let P : r.X → Type 0 = λ z. r.at z ≡ r.t → ⊥ in elim w [
  | inl v ↦ All-head P y ys others v.0
  | inr v ↦ none_wrong r (done ++ y ∷ []) ys (All-tail P y ys others) v
]

pub wrong_one : (r : Rule) (done before : List r.X) (x : r.X) (after : List r.X) → All (λ y. r.at y ≡ r.t → ⊥) before
    → All (λ y. r.at y ≡ r.t → ⊥) after → Wrong r done (before ++ x ∷ after) → r.Bad (done ++ before) x
wrong_one r done [] x after b a w = elim w [
  | inl v ↦ subst (λ d. r.Bad d x) (sym (append-nil done)) v.1
  | inr v ↦ absurd (none_wrong r (done ++ x ∷ []) after a v)
]
wrong_one r done (y ∷ ys) x after b a w = let P : r.X → Type 0 = λ z. r.at z ≡ r.t → ⊥ in elim w [
  | inl v ↦ absurd (All-head P y ys b v.0)
  | inr v ↦ subst (λ d. r.Bad d x) (append_assoc done (y ∷ []) ys) (wrong_one r (done ++ y ∷ []) ys x after (All-tail P y ys b) a v)
]

pub one_wrong : (r : Rule) (done before : List r.X) (x : r.X) (after : List r.X) → r.at x ≡ r.t → r.Bad (done ++ before) x
    → Wrong r done (before ++ x ∷ after)
one_wrong r done [] x after e w = inl (e, subst (λ d. r.Bad d x) (append-nil done) w)
one_wrong r done (y ∷ ys) x after e w =
    inr (one_wrong r (done ++ y ∷ []) ys x after e (subst (λ d. r.Bad d x) (sym (append_assoc done (y ∷ []) ys)) w))
