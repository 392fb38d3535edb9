-- The work after steps in turn.
use Rattle.std.proofs.Common.{if◌then◌else◌, ◌++◌, ◌+◌, ◌<◌, ◌∙◌, ◌∷◌, ◌≡◌, ◌≤◌, [], ℕ, Bool, List, Option, add-one, ap, arith, drop, get_or, length, refl, suc}
use Rattle.std.proofs.{Common.sym, Common.take, Common.zero, Math.Seq.drop-cons, Math.Seq.take-length, lemmas.List.append_assoc, lemmas.List.drop_all}
use Rattle.check_steps.specs.{Breaks.earlier, Breaks.first_broken, Known.Known}
use Rattle.check_steps.specs.Steps.{◌>>=◌, Step, ask, change, each, each_back, give, look, run_step}
use Rattle.check_steps.specs.declared.{breaks.Break.Break, breaks.Broken.Broken, work.Work.Work}

pub first_of-append : (xs ys : List Break) (known : Option Break) → first_broken (xs ++ ys) known ≡ first_broken ys (first_broken xs known)
first_of-append [] ys known = refl
first_of-append (x ∷ xs) ys known = first_of-append xs ys (earlier x known)

pub bind-assoc : {A B C : Type 0} (m : Step A) (f : A → Step B) (g : B → Step C) → ((m >>= f) >>= g) ≡ (m >>= λ x. f x >>= g)
unfolding ◌>>=◌
bind-assoc m f g = λ i k.
    let d = m k in
    let e = f d.value d.known in
    let h = g e.value e.known in
    record { value = h.value; known = h.known; broken = append_assoc d.broken e.broken h.broken i }

pub run-bind : {A B : Type 0} (m : Step A) (f : A → Step B) (w : Work) → run_step (m >>= f) w ≡ run_step (f (run_step m w).0) (run_step m w).1
unfolding run_step ◌>>=◌
run-bind m f w =
    let d = m w.tables in
    let e = f d.value d.known in
    ap (λ (least : Option Break). (e.value, record { least = least; tables = e.known })) (first_of-append d.broken e.broken w.least)

pub run-give : {A : Type 0} (x : A) (w : Work) → run_step (give x) w ≡ (x, w)
unfolding run_step give
run-give x w = refl

pub run-look : {A : Type 0} (f : Known → A) (w : Work) → run_step (look f) w ≡ (f w.tables, w)
unfolding run_step look
run-look f w = refl

pub run-change : (f : Known → Known) (w : Work) → run_step (change f) w ≡ (tt, record { least = w.least; tables = f w.tables })
unfolding run_step change
run-change f w = refl

pub ruleset steps = (run-bind, run-give, run-look)

pub run-ask : (what : Broken) (token : ℕ) (ok : Bool) (w : Work)
    → run_step (ask what token ok) w ≡ (
      tt,
      record {
        least = first_broken (if ok then [] else record { broken = what; token = token } ∷ []) w.least;
        tables = w.tables;
      },
    )
unfolding run_step ask
run-ask what token ok w = refl

pub ruleset changes = (run-bind, run-give, run-look, run-change, run-ask)

-- one more item of a loop
pub each_next : {A X : Type 0} (f : A → X → Step A) (xs : List X) (i : ℕ) (a b : A) (x : X) (w v : Work) → i < length xs → x ≡ get_or xs i x
    → run_step (f a x) w ≡ (b, v) → run_step (each f b (drop (i + 1) xs)) v ≡ run_step (each f a (drop i xs)) w
each_next {A} f xs i a b x w v below is done =
    rw add-one (sym
    (ap (λ l. run_step (each f a l) w) (drop-cons xs i x below ∙ ap (λ y. y ∷ drop (suc i) xs) (sym is))
    ∙ run-bind (f a x) (λ y. each f y (drop (suc i) xs)) w
    ∙ ap (λ (p : A × Work). run_step (each f p.0 (drop (suc i) xs)) p.1) done))

-- no more items
pub each_end : {A X : Type 0} (f : A → X → Step A) (xs : List X) (i : ℕ) (a : A) (w : Work) → length xs ≤ i → run_step (each f a (drop i xs)) w ≡ (a, w)
each_end f xs i a w past = ap (λ l. run_step (each f a l) w) (drop_all i xs past) ∙ run-give a w

-- what comes after a step that was done
pub run_after : {A B : Type 0} (m : Step A) (f : A → Step B) (w : Work) (x : A) (v : Work) → run_step m w ≡ (x, v) → run_step (m >>= f) w ≡ run_step (f x) v
run_after {A} {B} m f w x v done = run-bind m f w ∙ ap (λ (p : A × Work). run_step (f p.0) p.1) done

-- the same where the items are numbers
pub each_next_number : {A : Type 0} (f : A → ℕ → Step A) (xs : List ℕ) (i : ℕ) (a b : A) (w v : Work) → i < length xs
    → run_step (f a (get_or xs i 0)) w ≡ (b, v)
    → run_step (each f b (drop (i + 1) xs)) v ≡ run_step (each f a (drop i xs)) w
each_next_number {A} f xs i a b w v below done =
    rw add-one (sym
    (ap (λ l. run_step (each f a l) w) (drop-cons xs i 0 below)
    ∙ run-bind (f a (get_or xs i 0)) (λ y. each f y (drop (suc i) xs)) w
    ∙ ap (λ (p : A × Work). run_step (each f p.0 (drop (suc i) xs)) p.1) done))

pub run_then : {A B : Type 0} (m : Step A) (f : A → Step B) (w : Work) (x : A) (v : Work) (y : B) (u : Work) → run_step m w ≡ (x, v) → run_step (f x) v ≡ (y, u)
    → run_step (m >>= f) w ≡ (y, u)
run_then m f w x v y u done rest = run_after m f w x v done ∙ rest

pub ruleset loops = (each_next, each_end)

-- the same where an item is read at a default
pub each_read : {A X : Type 0} (f : A → X → Step A) (xs : List X) (i : ℕ) (d : X) (a b : A) (w v : Work) → i < length xs
    → run_step (f a (get_or xs i d)) w ≡ (b, v)
    → run_step (each f b (drop (i + 1) xs)) v ≡ run_step (each f a (drop i xs)) w
each_read {A} f xs i d a b w v below done =
    rw add-one (sym
    (ap (λ l. run_step (each f a l) w) (drop-cons xs i d below)
    ∙ run-bind (f a (get_or xs i d)) (λ y. each f y (drop (suc i) xs)) w
    ∙ ap (λ (p : A × Work). run_step (each f p.0 (drop (suc i) xs)) p.1) done))

pub ruleset number_loops = (each_next_number, each_end)

pub ruleset read_loops = (each_read, each_end)

back_take : {A X : Type 0} (f : A → X → Step A) (xs : List X) (i : ℕ) (d : X) (a : A) (w : Work) → i < length xs
    → run_step (each_back f a (take (suc i) xs)) w ≡ run_step (each_back f (run_step (f a (get_or xs i d)) w).0 (take i xs))
    (run_step (f a (get_or xs i d)) w).1
back_take f [] i d a w below = absurd (omega arith)
back_take {A} f (x ∷ xs) zero d a w below =
    run-bind (give a) (λ b. f b x) w
    ∙ ap (λ (p : A × Work). run_step (f p.0 x) p.1) (run-give a w)
    ∙ sym (run-give (run_step (f a x) w).0 (run_step (f a x) w).1)
back_take {A} f (x ∷ xs) (suc i) d a w below =
    let p = run_step (f a (get_or xs i d)) w in
    run-bind (each_back f a (take (suc i) xs)) (λ b. f b x) w
    ∙ ap (λ (q : A × Work). run_step (f q.0 x) q.1) (back_take f xs i d a w (omega (arith, below)))
    ∙ sym (run-bind (each_back f p.0 (take i xs)) (λ b. f b x) p.1)

-- one more item of a loop from the end
pub back_next : {A X : Type 0} (f : A → X → Step A) (xs : List X) (i : ℕ) (a b : A) (x : X) (w v : Work) → i < length xs → x ≡ get_or xs i x
    → run_step (f a x) w ≡ (b, v) → run_step (each_back f b (take i xs)) v ≡ run_step (each_back f a (take (i + 1) xs)) w
back_next {A} f xs i a b x w v below is done =
    rw add-one (sym
    (back_take f xs i x a w below
    ∙ ap (λ (p : A × Work). run_step (each_back f p.0 (take i xs)) p.1) (ap (λ y. run_step (f a y) w) (sym is) ∙ done)))

pub back_all : {A X : Type 0} (f : A → X → Step A) (xs : List X) (a : A) (w : Work)
    → run_step (each_back f a (take (length xs) xs)) w ≡ run_step (each_back f a xs) w
back_all f xs a w = ap (λ l. run_step (each_back f a l) w) (take-length xs)

pub ruleset back_loops = (back_next, back_all, run-give)
