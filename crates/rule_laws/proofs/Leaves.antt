-- What a step leaves as it is: each row at another token, but for such as go on or are settled from afar.
use Rattle.std.proofs.Common.{◌∙◌, ◌∷◌, ◌≡◌, [], ℕ, Bool, List, None, Option, ap, false, inl, inr, map, refl, subst, sym, true}
use Rattle.grammar.specs.Nodes.{Node, row}
use Rattle.core_program.specs.declared.{program.Routine.Routine, rows.PartRow.PartRow, rows.Row.Row, rows.TypeRow.TypeRow}
use Rattle.check_steps.specs.{Items.row_on, Known.Known, Known.row_at}
use Rattle.check_steps.specs.Steps.{◌>>=◌, Step, add_chosen, add_definition, add_label, add_routine, ask, change, each, each_back, early, extend, give, late}
use Rattle.check_steps.specs.Steps.{look, open_frame, open_region, put, put_routine, too_big, when}
use Rattle.check_steps.specs.declared.{breaks.Broken.Broken, regions.Definition.Definition, regions.Frame.Frame}
use Rattle.denoter_checker.specs.Parts.{settled}
use Rattle.rule_laws.proofs.{Every.Every, Every.Of, Faces.row_either}

-- A row that no step changes from afar: not that of an item, whose list goes on, of a pointer type, whose domain is
-- settled, or of a heading that waits for its block.
abbrev pub is_fast : Row → Bool
is_fast (Row.Item i) = false
is_fast (Row.Type (TypeRow.Pointer domain)) = false
is_fast (Row.Part (PartRow.Forward function None)) = false
is_fast r = true

pub record Leaves (Q : ℕ → Type 0) {A : Type 0} (m : Step A) : Type 0 where
  pub of : (k : Known) (n : ℕ) → (Of Q n → ⊥) → is_fast (row_at k n) ≡ true → row_at (m k).known n ≡ row_at k n

pub bind-leaves : {Q : ℕ → Type 0} {A B : Type 0} {m : Step A} {f : A → Step B} → Leaves Q m → ((a : A) → Leaves Q (f a)) → Leaves Q (m >>= f)
unfolding ◌>>=◌
bind-leaves {m = m} h g = record {
  of = λ k n off fast.
      let d = m k in
      let one = h.of k n off fast in
      (g d.value).of d.known n off (ap is_fast one ∙ fast) ∙ one;
}

-- and what it gives is such
pub record Brings (Q : ℕ → Type 0) {A : Type 0} (P : A → Type 0) (m : Step A) : Type 0 where
  pub leaves : Leaves Q m
  pub value : (k : Known) → P (m k).value

pub brings-leaves : {Q : ℕ → Type 0} {A B : Type 0} {P : A → Type 0} {m : Step A} {f : A → Step B} → Brings Q P m → ((a : A) → P a → Leaves Q (f a))
    → Leaves Q (m >>= f)
unfolding ◌>>=◌
brings-leaves {m = m} h g = record {
  of = λ k n off fast.
      let d = m k in
      let one = h.leaves.of k n off fast in
      (g d.value (h.value k)).of d.known n off (ap is_fast one ∙ fast) ∙ one;
}

pub each-brings : {Q : ℕ → Type 0} {A X : Type 0} (P : A → Type 0) (f : A → X → Step A) (node : X → Node)
    → ((a : A) (x : X) → P a → Every Q (node x) → Brings Q P (f a x)) → (a : A) (xs : List X) → P a → Every Q (row (map node xs)) → Brings Q P (each f a xs)
unfolding ◌>>=◌ give
each-brings P f node h a [] p inside = record { leaves = record { of = λ k n off fast. refl }; value = λ k. p }
each-brings P f node h a (x ∷ xs) p inside =
    let one = h a x p inside.0 in
    let more : (b : _) → P b → _ = λ b q. each-brings P f node h b xs q inside.1 in
    record {
      leaves = record {
        of = λ k n off fast.
            let d = f a x k in
            let e = one.leaves.of k n off fast in
            (more d.value (one.value k)).leaves.of d.known n off (ap is_fast e ∙ fast) ∙ e;
      };
      value = λ k. (more (f a x k).value (one.value k)).value (f a x k).known;
    }

pub give-leaves : {Q : ℕ → Type 0} {A : Type 0} (x : A) → Leaves Q (give x)
unfolding give
give-leaves x = record { of = λ k n off fast. refl }

pub look-leaves : {Q : ℕ → Type 0} {A : Type 0} (f : Known → A) → Leaves Q (look f)
unfolding look
look-leaves f = record { of = λ k n off fast. refl }

pub asks : {Q : ℕ → Type 0} (what : Broken) (token : ℕ) (ok : Bool) → Leaves Q (ask what token ok)
unfolding ask
asks what token ok = record { of = λ k n off fast. refl }

pub early-leaves : {Q : ℕ → Type 0} (rule token : ℕ) (ok : Bool) → Of Q token → Leaves Q (early rule token ok)
early-leaves rule token ok there = asks _ token ok

pub late-leaves : {Q : ℕ → Type 0} (rule token : ℕ) (ok : Bool) → Of Q token → Leaves Q (late rule token ok)
late-leaves rule token ok there = asks _ token ok

pub too_big-leaves : {Q : ℕ → Type 0} (token : ℕ) (ok : Bool) → Of Q token → Leaves Q (too_big token ok)
too_big-leaves token ok there = asks _ token ok

pub put-leaves : {Q : ℕ → Type 0} (m : ℕ) (r : Row) → Of Q m → Leaves Q (put m r)
unfolding change
put-leaves {Q = Q} m r there = record {
  of = λ k n off fast. elim (row_either k m n r) [
    | inl old ↦ old
    | inr new ↦ absurd (off (subst (Of Q) (sym new.0) there))
  ];
}

-- a row that is made of the one that stands there
pub looking-leaves : {Q : ℕ → Type 0} (m : ℕ) (f : Known → Row → Row) → ((k : Known) (r : Row) → is_fast r ≡ true → f k r ≡ r)
    → Leaves Q (look (λ k. f k (row_at k m)) >>= λ r. put m r)
unfolding look ◌>>=◌ change
looking-leaves m f same = record {
  of = λ k n off fast. elim (row_either k m n (f k (row_at k m))) [
    | inl old ↦ old
    | inr new ↦ new.1 ∙ same k (row_at k m) (ap (λ x. is_fast (row_at k x)) (sym new.0) ∙ fast) ∙ ap (row_at k) (sym new.0)
  ];
}

pub row_fast : (r : Row) (next : ℕ) → is_fast r ≡ true → row_on r next ≡ r
row_fast (Row.Item i) next fast = absurd (let never : false ≡ true = fast in cc)
row_fast r next fast = refl

pub settled_fast : (k : Known) (r : Row) → is_fast r ≡ true → settled k r ≡ r
settled_fast k (Row.Type (TypeRow.Pointer domain)) fast = absurd (let never : false ≡ true = fast in cc)
settled_fast k r fast = refl

changes : {Q : ℕ → Type 0} (f : Known → Known) → ((k : Known) (n : ℕ) → row_at (f k) n ≡ row_at k n) → Leaves Q (change f)
unfolding change
changes f same = record { of = λ k n off fast. same k n }

pub put_routine-leaves : {Q : ℕ → Type 0} (number : ℕ) (r : Routine) → Leaves Q (put_routine number r)
put_routine-leaves number r = changes _ (λ k n. refl)

pub add_routine-leaves : {Q : ℕ → Type 0} (r : Routine) → Leaves Q (add_routine r)
unfolding extend
add_routine-leaves r = record { of = λ k n off fast. refl }

pub open_frame-leaves : {Q : ℕ → Type 0} (f : Frame) → Leaves Q (open_frame f)
unfolding extend
open_frame-leaves f = record { of = λ k n off fast. refl }

pub open_region-leaves : {Q : ℕ → Type 0} (token : ℕ) (outer : Option ℕ) (level : ℕ) → Leaves Q (open_region token outer level)
unfolding extend
open_region-leaves token outer level = record { of = λ k n off fast. refl }

pub add_definition-leaves : {Q : ℕ → Type 0} (region name : ℕ) (d : Definition) → Leaves Q (add_definition region name d)
add_definition-leaves region name d = changes _ (λ k n. refl)

pub add_label-leaves : {Q : ℕ → Type 0} (region value token : ℕ) → Leaves Q (add_label region value token)
add_label-leaves region value token = changes _ (λ k n. refl)

pub add_chosen-leaves : {Q : ℕ → Type 0} (list : ℕ) (value : _) → Of Q list → Leaves Q (add_chosen list value)
add_chosen-leaves list value there = changes _ (λ k n. refl)

pub when-leaves : {Q : ℕ → Type 0} (ok : Bool) {m : Step (Unit {0})} → Leaves Q m → Leaves Q (when ok m)
unfolding when
when-leaves true h = h
when-leaves false h = give-leaves tt

pub each-leaves : {Q : ℕ → Type 0} {A X : Type 0} (f : A → X → Step A) (node : X → Node) → ((a : A) (x : X) → Every Q (node x) → Leaves Q (f a x)) → (a : A)
    (xs : List X) → Every Q (row (map node xs)) → Leaves Q (each f a xs)
each-leaves f node h a [] inside = give-leaves a
each-leaves f node h a (x ∷ xs) inside = bind-leaves (h a x inside.0) (λ b. each-leaves f node h b xs inside.1)

pub each_back-leaves : {Q : ℕ → Type 0} {A X : Type 0} (f : A → X → Step A) (node : X → Node) → ((a : A) (x : X) → Every Q (node x) → Leaves Q (f a x))
    → (a : A) (xs : List X) → Every Q (row (map node xs)) → Leaves Q (each_back f a xs)
each_back-leaves f node h a [] inside = give-leaves a
each_back-leaves f node h a (x ∷ xs) inside = bind-leaves (each_back-leaves f node h a xs inside.1) (λ b. h b x inside.0)
