-- What is kept to tell the innermost frames around one.
use Rattle.std.proofs.Common.{if◌then◌else◌, ◌++◌, ◌+◌, ◌<◌, ◌||◌, ◌∙◌, ◌∷◌, ◌≡◌, ◌≤◌, [], ℕ, Bool, List, None, Option, Some, ap, arith, false, fold, is_some}
use Rattle.std.proofs.Common.{length, nat_eq, nat_lt, refl, set, slice_get, subst, suc, sym, true, zero}
use Rattle.std.specs.Prelude.{unwrap_or}
use Rattle.std.proofs.lemmas.{Bool.Decides.nat_tests, List.get_or-set_other, List.get_or-set_same, Option.unwrap_or-slice_get}
use Rattle.check_steps.proofs.Chains.{got_before}
use Rattle.check_steps.specs.{Frames.frame_in, declared.regions.Frame.Frame}
use Rattle.check_steps.specs.Around.{Falls, IsBook, IsKept, around, first_around, is_among, is_around, kept_in, later, latest, reach}

-- ---- the first frame outward

outermost : (n : ℕ) (fs : List Frame) (test : ℕ → Bool) → first_around n fs test None ≡ None
outermost zero fs test = refl
outermost (suc n) fs test = refl

-- no more frames are wanted than a number that is greater than the first one's
enough : (fs : List Frame) (test : ℕ → Bool) → ((f : ℕ) → reach (frame_in fs f).outer ≤ f) → (n m : ℕ) (at : Option ℕ) → reach at ≤ n → reach at ≤ m
    → first_around n fs test at ≡ first_around m fs test at
enough fs test falls n m None a b = outermost n fs test ∙ sym (outermost m fs test)
enough fs test falls zero m (Some f) a b = absurd (omega arith)
enough fs test falls (suc n) zero (Some f) a b = absurd (omega arith)
enough fs test falls (suc n) (suc m) (Some f) a b =
    let out = falls f in
    ap (λ o. if test (frame_in fs f).region then Some f else o)
    (enough fs test falls n m (frame_in fs f).outer (omega (arith, out, a)) (omega (arith, out, b)))

-- from a frame to the next one outward
around-out : (fs : List Frame) (test : ℕ → Bool) (f : ℕ) → ((f : ℕ) → reach (frame_in fs f).outer ≤ f)
    → around fs test (Some f) ≡ (if test (frame_in fs f).region then Some f else around fs test (frame_in fs f).outer)
around-out fs test f falls =
    let out = falls f in
    ap (λ o. if test (frame_in fs f).region then Some f else o)
    (enough fs test falls f (reach (frame_in fs f).outer) (frame_in fs f).outer out (omega arith))

frame-before : (fs : List Frame) (x : Frame) (f : ℕ) → f < length fs → frame_in (fs ++ x ∷ []) f ≡ frame_in fs f
frame-before fs x f below = ap (λ o. unwrap_or o (record { region = 0; outer = None; level = 0; withs = 0 })) (got_before fs x f below)

-- one more frame is around none of the others
still-around : (fs : List Frame) (x : Frame) (test : ℕ → Bool) → ((f : ℕ) → reach (frame_in fs f).outer ≤ f) → (n : ℕ) (at : Option ℕ) → reach at ≤ length fs
    → first_around n (fs ++ x ∷ []) test at ≡ first_around n fs test at
still-around fs x test falls n None within = outermost n (fs ++ x ∷ []) test ∙ sym (outermost n fs test)
still-around fs x test falls zero (Some f) within = refl
still-around fs x test falls (suc n) (Some f) within =
    let out = falls f in
    ap (λ (g : Frame). if test g.region then Some f else first_around n (fs ++ x ∷ []) test g.outer) (frame-before fs x f (omega (arith, within)))
    ∙ ap (λ o. if test (frame_in fs f).region then Some f else o) (still-around fs x test falls n (frame_in fs f).outer (omega (arith, out, within)))

-- no frame that is found is inside of the first
found-within : (fs : List Frame) (test : ℕ → Bool) → ((f : ℕ) → reach (frame_in fs f).outer ≤ f) → (n : ℕ) (at : Option ℕ)
    → reach (first_around n fs test at) ≤ reach at
found-within fs test falls zero None = omega arith
found-within fs test falls (suc n) None = omega arith
found-within fs test falls zero (Some f) = omega arith
found-within fs test falls (suc n) (Some f) = found-case (test (frame_in fs f).region) f (first_around n fs test (frame_in fs f).outer)
    (let out = falls f in let on = found-within fs test falls n (frame_in fs f).outer in omega (arith, out, on))
  where
    found-case : (b : Bool) (f : ℕ) (o : Option ℕ) → reach o ≤ f → reach (if b then Some f else o) ≤ suc f
    found-case true f o below = omega arith
    found-case false f o below = omega (arith, below)

-- ---- the later one of two

pub later-none : (o : Option ℕ) → later o None ≡ o
later-none None = refl
later-none (Some f) = refl

pub ruleset later_none = (later-none)

later-first : (f : ℕ) (o : Option ℕ) → reach o ≤ f → later (Some f) o ≡ Some f
later-first f None below = refl
later-first f (Some g) below = let no : nat_lt f g ≡ false = grind (arith, nat_tests) in rw no refl

later-second : (f : ℕ) (o : Option ℕ) → reach o ≤ f → later o (Some f) ≡ Some f
later-second f None below = refl
later-second f (Some g) below = let yes : nat_lt g f ≡ true = grind (arith, nat_tests) in rw yes refl

later-same : (f : ℕ) → later (Some f) (Some f) ≡ Some f
later-same f = let no : nat_lt f f ≡ false = grind (arith, nat_tests) in rw no refl

either : (a b : Bool) (f : ℕ) (o x y : Option ℕ) → reach x ≤ f → reach y ≤ f → o ≡ later x y
    → (if a || b then Some f else o) ≡ later (if a then Some f else x) (if b then Some f else y)
either true true f o x y p q e = sym (later-same f)
either true false f o x y p q e = sym (later-first f y q)
either false true f o x y p q e = sym (later-second f x p)
either false false f o x y p q e = e

-- the first that passes one of two tests
first-of-two : (fs : List Frame) (p q : ℕ → Bool) → ((f : ℕ) → reach (frame_in fs f).outer ≤ f) → (n : ℕ) (at : Option ℕ)
    → first_around n fs (λ r. p r || q r) at ≡ later (first_around n fs p at) (first_around n fs q at)
first-of-two fs p q falls zero None = refl
first-of-two fs p q falls (suc n) None = refl
first-of-two fs p q falls zero (Some f) = refl
first-of-two fs p q falls (suc n) (Some f) =
    let out = falls f in
    let o = (frame_in fs f).outer in
    let x = found-within fs p falls n o in
    let y = found-within fs q falls n o in
    either (p (frame_in fs f).region) (q (frame_in fs f).region) f (first_around n fs (λ r. p r || q r) o) (first_around n fs p o) (first_around n fs q o)
    (omega (arith, out, x)) (omega (arith, out, y)) (first-of-two fs p q falls n o)

-- ---- what is kept

kept-same : (xs : List (Option ℕ)) (i : ℕ) (x : Option ℕ) → i < length xs → kept_in (set xs i x) i ≡ x
kept-same xs i x below = unwrap_or-slice_get (set xs i x) i None ∙ get_or-set_same xs i x None below

kept-other : (xs : List (Option ℕ)) (i j : ℕ) (x : Option ℕ) → nat_eq j i ≡ false → kept_in (set xs i x) j ≡ kept_in xs j
kept-other xs i j x e =
    unwrap_or-slice_get (set xs i x) j None ∙ get_or-set_other xs i j x None (λ q. let z : ⊥ = grind (arith, nat_tests, e, q) in z)
    ∙ sym (unwrap_or-slice_get xs j None)

kept-changed : (xs : List (Option ℕ)) (i j : ℕ) (x y : Option ℕ) → i < length xs → kept_in xs j ≡ y → (b : Bool) → nat_eq j i ≡ b
    → kept_in (set xs i x) j ≡ (if b then x else y)
kept-changed xs i j x y below was true e =
    let same : j ≡ i = grind (arith, nat_tests, e) in
    ap (λ n. kept_in (set xs i x) n) same ∙ kept-same xs i x below
kept-changed xs i j x y below was false e = kept-other xs i j x e ∙ was

kept-room : (xs : List (Option ℕ)) (n : ℕ) → kept_in (xs ++ None ∷ []) n ≡ kept_in xs n
kept-room [] zero = refl
kept-room [] (suc n) = refl
kept-room (x ∷ xs) zero = refl
kept-room (x ∷ xs) (suc n) = kept-room xs n

one-longer : {A : Type 0} (xs : List A) (y : A) → length (xs ++ y ∷ []) ≡ length xs + 1
one-longer [] y = refl
one-longer (x ∷ xs) y = let more = one-longer xs y in omega (arith, more)

got-last : {A : Type 0} (xs : List A) (y : A) (n : ℕ) → n ≡ length xs → slice_get (xs ++ y ∷ []) n ≡ Some y
got-last [] y zero e = refl
got-last [] y (suc n) e = absurd (omega (arith, e))
got-last (x ∷ xs) y zero e = absurd (omega (arith, e))
got-last (x ∷ xs) y (suc n) e = got-last xs y n (omega (arith, e))

falls-push : (fs : List Frame) (x : Frame) (base : ℕ) → ((f : ℕ) → reach (frame_in fs f).outer ≤ f + base) → reach x.outer ≤ length fs + base
    → (f : ℕ) → reach (frame_in (fs ++ x ∷ []) f).outer ≤ f + base
falls-push [] x base all last zero = last
falls-push [] x base all last (suc f) = omega arith
falls-push (y ∷ fs) x base all last zero = all 0
falls-push (y ∷ fs) x base all last (suc f) =
    let on = falls-push fs x (base + 1) (λ g. let a = all (suc g) in omega (arith, a)) (omega (arith, last)) f in omega (arith, on)

-- ---- each change of what is kept

entered : (fs : List Frame) (shadowed inner : List (Option ℕ)) (at : Option ℕ) (f : ℕ) (g : Frame) → IsBook fs shadowed inner at → g ≡ frame_in fs f
    → f < length fs → g.region < length inner → g.outer ≡ at → IsBook fs shadowed (set inner g.region (Some f)) (Some f)
entered fs shadowed inner at f g book is below room out = record {
  falls = book.falls;
  within = omega (arith, below);
  as_many = book.as_many;
  shadows = book.shadows;
  inner = λ r.
      kept-changed inner g.region r (Some f) (around fs (nat_eq r) at) room (book.inner r) (nat_eq r g.region) refl
      ∙ ap (λ o. if nat_eq r g.region then Some f else around fs (nat_eq r) o) (sym out)
      ∙ ap (λ (h : Frame). if nat_eq r h.region then Some f else around fs (nat_eq r) h.outer) is
      ∙ sym (around-out fs (nat_eq r) f book.falls);
}

left : (fs : List Frame) (shadowed inner : List (Option ℕ)) (f : ℕ) (g : Frame) → IsBook fs shadowed inner (Some f) → g ≡ frame_in fs f
    → g.region < length inner → IsBook fs shadowed (set inner g.region (kept_in shadowed f)) g.outer
left fs shadowed inner f g book is room = record {
  falls = book.falls;
  within = let out = book.falls f in let w = book.within in let same = ap (λ (h : Frame). reach h.outer) is in omega (arith, out, w, same);
  as_many = book.as_many;
  shadows = book.shadows;
  inner = λ r. by r (nat_eq r g.region) refl;
}
  where
    below : f < length fs
    below = let w = book.within in omega (arith, w)

    by : (r : ℕ) (b : Bool) → nat_eq r g.region ≡ b → kept_in (set inner g.region (kept_in shadowed f)) r ≡ around fs (nat_eq r) g.outer
    by r true e =
        let same : r ≡ g.region = grind (arith, nat_tests, e) in
        ap (λ n. kept_in (set inner g.region (kept_in shadowed f)) n) same ∙ kept-same inner g.region (kept_in shadowed f) room
        ∙ book.shadows f below ∙ ap (λ (h : Frame). around fs (nat_eq h.region) h.outer) (sym is) ∙ ap (λ n. around fs (nat_eq n) g.outer) (sym same)
    by r false e =
        kept-other inner g.region r (kept_in shadowed f) e ∙ book.inner r ∙ around-out fs (nat_eq r) f book.falls
        ∙ ap (λ (h : Frame). if nat_eq r h.region then Some f else around fs (nat_eq r) h.outer) (sym is)
        ∙ ap (λ b. if b then Some f else around fs (nat_eq r) g.outer) e

roomier : (fs : List Frame) (shadowed inner : List (Option ℕ)) (at : Option ℕ) → IsBook fs shadowed inner at
    → IsBook fs shadowed (inner ++ None ∷ []) at
roomier fs shadowed inner at book = record {
  falls = book.falls;
  within = book.within;
  as_many = book.as_many;
  shadows = book.shadows;
  inner = λ r. kept-room inner r ∙ book.inner r;
}

pushed : (fs : List Frame) (shadowed inner : List (Option ℕ)) (at : Option ℕ) (x : Frame) → IsBook fs shadowed inner at → x.outer ≡ at
    → IsBook (fs ++ x ∷ []) (shadowed ++ kept_in inner x.region ∷ []) inner at
pushed fs shadowed inner at x book out = record {
  falls = λ f. let z = falls-push fs x 0 (λ g. let a = book.falls g in omega (arith, a))
      (let w = book.within in let same = ap reach out in omega (arith, w, same)) f in omega (arith, z);
  within = let w = book.within in let m = one-longer fs x in omega (arith, w, m);
  as_many = let m = one-longer fs x in let n = one-longer shadowed (kept_in inner x.region) in let a = book.as_many in omega (arith, m, n, a);
  shadows = λ f below. by f below (nat_lt f (length fs)) refl;
  inner = λ r. book.inner r ∙ sym (still-around fs x (nat_eq r) book.falls (reach at) at book.within);
}
  where
    by : (f : ℕ) → f < length (fs ++ x ∷ []) → (b : Bool) → nat_lt f (length fs) ≡ b
        → kept_in (shadowed ++ kept_in inner x.region ∷ []) f
        ≡ around (fs ++ x ∷ []) (nat_eq (frame_in (fs ++ x ∷ []) f).region) (frame_in (fs ++ x ∷ []) f).outer
    by f below true e =
        let less : f < length fs = grind (arith, nat_tests, e) in
        let out' = book.falls f in
        let many = book.as_many in
        ap (λ o. unwrap_or o None) (got_before shadowed (kept_in inner x.region) f (omega (arith, less, many)))
        ∙ book.shadows f less
        ∙ sym (still-around fs x (nat_eq (frame_in fs f).region) book.falls (reach (frame_in fs f).outer) (frame_in fs f).outer (omega (arith, out', less)))
        ∙ ap (λ (g : Frame). around (fs ++ x ∷ []) (nat_eq g.region) g.outer) (sym (frame-before fs x f less))
    by f below false e =
        let past : length fs ≤ f = grind (arith, nat_tests, e) in
        let m = one-longer fs x in
        let many = book.as_many in
        let there : f ≡ length fs = omega (arith, past, below, m) in
        ap (λ o. unwrap_or o None) (got-last shadowed (kept_in inner x.region) f (omega (arith, there, many)))
        ∙ book.inner x.region
        ∙ sym (still-around fs x (nat_eq x.region) book.falls (reach at) at book.within)
        ∙ ap (λ o. around (fs ++ x ∷ []) (nat_eq x.region) o) (sym out)
        ∙ ap (λ (g : Frame). around (fs ++ x ∷ []) (nat_eq g.region) g.outer)
        (sym (ap (λ o. unwrap_or o (record { region = 0; outer = None; level = 0; withs = 0 })) (got-last fs x f there)))

-- ---- the same of what may have been given up

booked : (b : Bool) (fs : List Frame) (shadowed inner : List (Option ℕ)) (at : Option ℕ) → b ≡ true → IsKept b fs shadowed inner at
    → IsBook fs shadowed inner at
unfolding IsKept
booked true fs shadowed inner at e k = k
booked false fs shadowed inner at e k = cc

kept : (b : Bool) (fs : List Frame) (shadowed inner : List (Option ℕ)) (at : Option ℕ) → IsBook fs shadowed inner at → IsKept b fs shadowed inner at
unfolding IsKept
kept true fs shadowed inner at book = book
kept false fs shadowed inner at book = tt

pub given-up : (fs : List Frame) (shadowed inner : List (Option ℕ)) (at : Option ℕ) → IsKept false fs shadowed inner at
unfolding IsKept
given-up fs shadowed inner at = tt

pub kept-none : IsKept true [] [] [] None
unfolding IsKept
kept-none = record {
  falls = λ f. omega arith;
  within = omega arith;
  as_many = refl;
  shadows = λ f below. absurd (omega (arith, below));
  inner = λ r. refl;
}

pub kept-entered : (b : Bool) (fs : List Frame) (shadowed inner : List (Option ℕ)) (at : Option ℕ) (f : ℕ) (g : Frame) → b ≡ true
    → IsKept b fs shadowed inner at → g ≡ frame_in fs f → f < length fs → g.region < length inner → g.outer ≡ at
    → IsKept b fs shadowed (set inner g.region (Some f)) (Some f)
kept-entered b fs shadowed inner at f g e k is below room out =
    kept b fs shadowed (set inner g.region (Some f)) (Some f)
    (entered fs shadowed inner at f g (booked b fs shadowed inner at e k) is below room out)

pub kept-left : (b : Bool) (fs : List Frame) (shadowed inner : List (Option ℕ)) (f : ℕ) (g : Frame) → b ≡ true
    → IsKept b fs shadowed inner (Some f) → g ≡ frame_in fs f → g.region < length inner
    → IsKept b fs shadowed (set inner g.region (kept_in shadowed f)) g.outer
kept-left b fs shadowed inner f g e k is room =
    kept b fs shadowed (set inner g.region (kept_in shadowed f)) g.outer
    (left fs shadowed inner f g (booked b fs shadowed inner (Some f) e k) is room)

pub kept-roomier : (b : Bool) (fs : List Frame) (shadowed inner : List (Option ℕ)) (at : Option ℕ) → IsKept b fs shadowed inner at
    → IsKept b fs shadowed (inner ++ None ∷ []) at
unfolding IsKept
kept-roomier true fs shadowed inner at k = roomier fs shadowed inner at k
kept-roomier false fs shadowed inner at k = k

pub kept-pushed : (b was : Bool) (fs : List Frame) (shadowed inner : List (Option ℕ)) (at : Option ℕ) (x : Frame) → (b ≡ true → was ≡ true)
    → (b ≡ true → x.outer ≡ at) → IsKept was fs shadowed inner at
    → IsKept b (fs ++ x ∷ []) (shadowed ++ kept_in inner x.region ∷ []) inner at
unfolding IsKept
kept-pushed false was fs shadowed inner at x a o k = tt
kept-pushed true was fs shadowed inner at x a o k = pushed fs shadowed inner at x (booked was fs shadowed inner at (a refl) k) (o refl)

-- ---- the first frame outward of one of these regions

or-none : (b : Bool) → b ≡ b || false
or-none true = refl
or-none false = refl

or-chain : (a b c : Bool) → (a || b) || c ≡ a || (b || c)
or-chain true b c = refl
or-chain false b c = refl

passes-none : (n : ℕ) (fs : List Frame) (at : Option ℕ) → first_around n fs (λ x. false) at ≡ None
passes-none zero fs None = refl
passes-none (suc n) fs None = refl
passes-none zero fs (Some f) = refl
passes-none (suc n) fs (Some f) = passes-none n fs (frame_in fs f).outer

best-of : (fs : List Frame) (shadowed inner : List (Option ℕ)) (f : ℕ) → IsBook fs shadowed inner (Some f) → (rs : List ℕ) (p : ℕ → Bool)
    → fold (λ best r. later best (kept_in inner r)) (around fs p (Some f)) rs ≡ around fs (λ x. p x || is_among rs x) (Some f)
best-of fs shadowed inner f book [] p = ap (λ t. around fs t (Some f)) (λ j x. or-none (p x) j)
best-of fs shadowed inner f book (r ∷ rs) p =
    ap (λ o. fold (λ best r. later best (kept_in inner r)) o rs)
    (ap (later (around fs p (Some f))) (book.inner r) ∙ sym (first-of-two fs p (nat_eq r) book.falls (suc f) (Some f)))
    ∙ best-of fs shadowed inner f book rs (λ x. p x || nat_eq r x)
    ∙ ap (λ t. around fs t (Some f)) (λ j x. or-chain (p x) (nat_eq r x) (is_among rs x) j)

pub kept-first : (b : Bool) (fs : List Frame) (shadowed inner : List (Option ℕ)) (at : Option ℕ) (f : ℕ) (rs : List ℕ) → b ≡ true
    → IsKept b fs shadowed inner at → at ≡ Some f → latest inner rs ≡ first_around (length fs) fs (is_among rs) (Some f)
kept-first b fs shadowed inner at f rs e k is =
    let book = booked b fs shadowed inner (Some f) e (subst (λ o. IsKept b fs shadowed inner o) is k) in
    let w = book.within in
    ap (λ o. fold (λ best r. later best (kept_in inner r)) o rs) (sym (passes-none (suc f) fs (Some f)))
    ∙ best-of fs shadowed inner f book rs (λ x. false)
    ∙ enough fs (is_among rs) book.falls (suc f) (length fs) (Some f) (omega arith) (omega (arith, w))

-- ---- the order of frames

pub kept-falls : (b : Bool) (fs : List Frame) (shadowed inner : List (Option ℕ)) (at : Option ℕ) → b ≡ true → IsKept b fs shadowed inner at → Falls fs
unfolding Falls
kept-falls b fs shadowed inner at e k = let book = booked b fs shadowed inner at e k in book.falls

-- ---- a frame of one region

pub kept-around : (b : Bool) (fs : List Frame) (shadowed inner : List (Option ℕ)) (at : Option ℕ) (f r : ℕ) → b ≡ true
    → IsKept b fs shadowed inner at → at ≡ Some f → is_some (kept_in inner r) ≡ true → is_around fs f r ≡ true
kept-around b fs shadowed inner at f r e k is some =
    let book = booked b fs shadowed inner (Some f) e (subst (λ o. IsKept b fs shadowed inner o) is k) in
    sym (ap is_some (book.inner r)) ∙ some
