-- What touches leave a cell with, and what they show of it as it was.
use Rattle.std.proofs.Common.{if◌then◌else◌, ◌++◌, ◌+◌, ◌∙◌, ◌∷◌, ◌≡◌, ◌⊎◌, [], ℕ, Bool, List, None, Option, Some, ap, arith, cond, false, inl, inr, is_some}
use Rattle.std.proofs.Common.{nat_eq, not, refl, subst, suc, sym, take, true}
use Rattle.std.{proofs.lemmas.Bool.Decides.nat_tests, specs.List.before_first, specs.List.cons_option, specs.List.filter_map, specs.List.position_or_len}
use Rattle.cell_value.specs.Effects.{asked_by, change_at, change_by, head_of, last_of, read_by, seen_at, seen_by}
use Rattle.cell_value.specs.declared.entries.{Change.Change, Change.TheVariants.Gone, Change.TheVariants.Set, Seen.Seen, Touch.Touch}
use Rattle.cell_value.specs.declared.entries.Touch.TheVariants as touch
use Rattle.cell_value.specs.declared.values.Value.{Value}
use Rattle.core_program.proofs.OutcomesCompose.{none_some, some_same}
use Rattle.core_program.specs.Agree.{Shows}

-- ---- what touches leave a cell with

-- what a cell holds after a change
abbrev pub left_with : Option Change → Option Value → Option Value
left_with None o = o
left_with (Some (Set v)) o = Some v
left_with (Some Gone) o = None

abbrev pub written : ℕ → List Touch → Option Value → Option Value
written a [] o = o
written a (t ∷ w) o = written a w (left_with (change_by a t) o)

pub written-append : (a : ℕ) (v w : List Touch) (o : Option Value) → written a (v ++ w) o ≡ written a w (written a v o)
written-append a [] w o = refl
written-append a (t ∷ v) w o = written-append a v w (left_with (change_by a t) o)

some_leaves : (c : Change) (x y : Option Value) → left_with (Some c) x ≡ left_with (Some c) y
some_leaves (Set v) x y = refl
some_leaves Gone x y = refl

last_leaves : (c : Change) (cs : List Change) (x y : Option Value) → left_with (last_of (c ∷ cs)) x ≡ left_with (last_of (c ∷ cs)) y
last_leaves c [] x y = some_leaves c x y
last_leaves c (d ∷ cs) x y = last_leaves d cs x y

last_after : (o : Option Change) (cs : List Change) (x : Option Value) → left_with (last_of cs) (left_with o x) ≡ left_with (last_of (cons_option o cs)) x
last_after None cs x = refl
last_after (Some c) [] x = refl
last_after (Some c) (d ∷ cs) x = last_leaves d cs (left_with (Some c) x) x

-- the last change counts
pub written_is : (a : ℕ) (w : List Touch) (o : Option Value) → written a w o ≡ left_with (change_at a w) o
unfolding change_at
written_is a [] o = refl
written_is a (t ∷ w) o = written_is a w (left_with (change_by a t) o) ∙ last_after (change_by a t) (filter_map (change_by a) w) o

-- touches none of which changes the cell
abbrev pub Leave : ℕ → List Touch → Type 0
Leave a [] = Unit {0}
Leave a (t ∷ w) = (change_by a t ≡ None) × Leave a w

pub left_same : (a : ℕ) (w : List Touch) (o : Option Value) → Leave a w → written a w o ≡ o
left_same a [] o h = refl
left_same a (t ∷ w) o h = ap (λ c. written a w (left_with c o)) h.0 ∙ left_same a w o h.1

-- ---- what touches show of a cell

-- a cell is as a touch shows it
abbrev pub Fits : Option Value → ℕ → Touch → Type 0
Fits o a (touch.Read b v) = b ≡ a → o ≡ Some v
Fits o a (touch.Has b there) = b ≡ a → is_some o ≡ there
Fits o a t = Unit {0}

-- a cell is as touches show it, up to the first that changes it
abbrev pub Serves : Option Value → ℕ → List Touch → Type 0
Serves o a [] = Unit {0}
Serves o a (t ∷ w) = Fits o a t × (change_by a t ≡ None → Serves o a w)

pub serves_append : (o : Option Value) (a : ℕ) (v w : List Touch) → Serves o a v → (Leave a v → Serves o a w) → Serves o a (v ++ w)
serves_append o a [] w h k = k tt
serves_append o a (t ∷ v) w h k = (h.0, λ c. serves_append o a v w (h.1 c) (λ l. k (c, l)))

pub serves_rest : (o : Option Value) (a : ℕ) (v w : List Touch) → Serves o a (v ++ w) → Leave a v → Serves o a w
serves_rest o a [] w h l = h
serves_rest o a (t ∷ v) w h l = serves_rest o a v w (h.1 l.0) l.1

-- ---- what [Effect] shows of a cell serves the touches of a run

abbrev pub or_later : {A : Type 0} → Option Change → Option A → Option A → Option A
or_later (Some c) o later = None
or_later None (Some v) later = Some v
or_later None None later = later

-- the first value read, and the first answer, up to the first touch that changes the cell
abbrev pub first_read : ℕ → List Touch → Option Value
first_read a [] = None
first_read a (t ∷ w) = or_later (change_by a t) (read_by a t) (first_read a w)

abbrev pub first_asked : ℕ → List Touch → Option Bool
first_asked a [] = None
first_asked a (t ∷ w) = or_later (change_by a t) (asked_by a t) (first_asked a w)

abbrev unchanged : ℕ → List Touch → List Touch
unchanged a w = before_first (λ touch. is_some (change_by a touch)) w

first_later : {A : Type 0} (a : ℕ) (f : Touch → Option A) (t : Touch) (w : List Touch) (later : Option A)
    → head_of (filter_map f (unchanged a w)) ≡ later → head_of (filter_map f (unchanged a (t ∷ w))) ≡ or_later (change_by a t) (f t) later
first_later {A} a f t w later e = by (change_by a t)
  where
    go : (o : Option A) → head_of (cons_option o (filter_map f (unchanged a w))) ≡ or_later None o later
    go None = e
    go (Some x) = refl

    one : 1 + position_or_len (λ touch. is_some (change_by a touch)) w ≡ suc (position_or_len (λ touch. is_some (change_by a touch)) w)
    one = omega arith

    by : (c : Option Change) → head_of (filter_map f (take (cond (not (is_some c)) (1 + position_or_len (λ touch. is_some (change_by a touch)) w) 0) (t ∷ w)))
        ≡ or_later c (f t) later
    by (Some c) = refl
    by None = ap (λ k. head_of (filter_map f (take k (t ∷ w)))) one ∙ go (f t)

pub seen_is : (a : ℕ) (w : List Touch) → seen_at a w ≡ seen_by (first_read a w) (first_asked a w)
unfolding seen_at
seen_is a w = ap (λ o. seen_by o (head_of (filter_map (asked_by a) (unchanged a w)))) (reads w) ∙ ap (seen_by (first_read a w)) (asks w)
  where
    reads : (w : List Touch) → head_of (filter_map (read_by a) (unchanged a w)) ≡ first_read a w
    reads [] = refl
    reads (t ∷ w) = first_later a (read_by a) t w (first_read a w) (reads w)

    asks : (w : List Touch) → head_of (filter_map (asked_by a) (unchanged a w)) ≡ first_asked a w
    asks [] = refl
    asks (t ∷ w) = first_later a (asked_by a) t w (first_asked a w) (asks w)

-- a read value that comes first
read_first : (o : Option Value) (a : ℕ) (w : List Touch) (v : Value) → Serves o a w → first_read a w ≡ Some v → o ≡ Some v
read_first o a [] v h e = absurd (none_some e)
read_first o a (t ∷ w) v h e = by (λ c. read_first o a w v (h.1 c)) (change_by a t) refl e
  where
    own : (t : Touch) (x : Value) → Fits o a t → read_by a t ≡ Some x → o ≡ Some x
    own (touch.Read b u) x f e = at (nat_eq b a) refl e
      where
        at : (q : Bool) → nat_eq b a ≡ q → (if q then Some u else None) ≡ Some x → o ≡ Some x
        at true q e = f (grind (arith, nat_tests)) ∙ e
        at false q e = absurd (none_some e)
    own t x f e = absurd (none_some e)

    here : (change_by a t ≡ None → first_read a w ≡ Some v → o ≡ Some v) → (r : Option Value) → read_by a t ≡ r → change_by a t ≡ None
        → or_later None r (first_read a w) ≡ Some v → o ≡ Some v
    here k (Some u) r c e = own t u h.0 r ∙ e
    here k None r c e = k c e

    by : (change_by a t ≡ None → first_read a w ≡ Some v → o ≡ Some v) → (c : Option Change) → change_by a t ≡ c
        → or_later c (read_by a t) (first_read a w) ≡ Some v → o ≡ Some v
    by k (Some c) q e = absurd (none_some e)
    by k None q e = here k (read_by a t) refl q e

-- an answer that comes first
asked_first : (o : Option Value) (a : ℕ) (w : List Touch) (b : Bool) → Serves o a w → first_asked a w ≡ Some b → is_some o ≡ b
asked_first o a [] b h e = absurd (none_some e)
asked_first o a (t ∷ w) b h e = by (λ c. asked_first o a w b (h.1 c)) (change_by a t) refl e
  where
    own : (t : Touch) (x : Bool) → Fits o a t → asked_by a t ≡ Some x → is_some o ≡ x
    own (touch.Has c u) x f e = at (nat_eq c a) refl e
      where
        at : (q : Bool) → nat_eq c a ≡ q → (if q then Some u else None) ≡ Some x → is_some o ≡ x
        at true q e = f (grind (arith, nat_tests)) ∙ some_same e
        at false q e = absurd (none_some e)
    own t x f e = absurd (none_some e)

    here : (change_by a t ≡ None → first_asked a w ≡ Some b → is_some o ≡ b) → (r : Option Bool) → asked_by a t ≡ r → change_by a t ≡ None
        → or_later None r (first_asked a w) ≡ Some b → is_some o ≡ b
    here k (Some u) r c e = own t u h.0 r ∙ some_same e
    here k None r c e = k c e

    by : (change_by a t ≡ None → first_asked a w ≡ Some b → is_some o ≡ b) → (c : Option Change) → change_by a t ≡ c
        → or_later c (asked_by a t) (first_asked a w) ≡ Some b → is_some o ≡ b
    by k (Some c) q e = absurd (none_some e)
    by k None q e = here k (asked_by a t) refl q e

-- no value is read, and the cell is there in both states or nothing was asked of it
unread : (o k : Option Value) (a : ℕ) (w : List Touch) → Serves o a w → first_read a w ≡ None → (is_some o ≡ is_some k) ⊎ (first_asked a w ≡ None)
    → Serves k a w
unread o k a [] h e d = tt
unread o k a (t ∷ w) h e d = (own t h.0 (λ c. no_read c e) (by d), λ c. unread o k a w (h.1 c) (later (read_by a t) (change_by a t) c e) (rest c d))
  where
    no_read : change_by a t ≡ None → or_later (change_by a t) (read_by a t) (first_read a w) ≡ None → read_by a t ≡ None
    no_read c e = go (read_by a t) refl (sym (ap (λ c. or_later c (read_by a t) (first_read a w)) c) ∙ e)
      where
        go : (r : Option Value) → read_by a t ≡ r → or_later None r (first_read a w) ≡ None → read_by a t ≡ None
        go None q e = q
        go (Some u) q e = absurd (none_some (sym e))

    later : {A : Type 0} {x : Option A} (r : Option A) (c : Option Change) → c ≡ None → or_later c r x ≡ None → x ≡ None
    later None None q e = e
    later (Some u) None q e = absurd (none_some (sym e))
    later r (Some c) q e = absurd (none_some (sym q))

    rest : change_by a t ≡ None → (is_some o ≡ is_some k) ⊎ (first_asked a (t ∷ w) ≡ None) → (is_some o ≡ is_some k) ⊎ (first_asked a w ≡ None)
    rest c (inl q) = inl q
    rest c (inr q) = inr (later (asked_by a t) (change_by a t) c q)

    by : (is_some o ≡ is_some k) ⊎ (first_asked a (t ∷ w) ≡ None) → (is_some o ≡ is_some k) ⊎ (change_by a t ≡ None → asked_by a t ≡ None)
    by (inl q) = inl q
    by (inr q) = inr (λ c. go (asked_by a t) refl (sym (ap (λ c. or_later c (asked_by a t) (first_asked a w)) c) ∙ q))
      where
        go : (r : Option Bool) → asked_by a t ≡ r → or_later None r (first_asked a w) ≡ None → asked_by a t ≡ None
        go None q e = q
        go (Some u) q e = absurd (none_some (sym e))

    own : (t : Touch) → Fits o a t → (change_by a t ≡ None → read_by a t ≡ None) → (is_some o ≡ is_some k) ⊎ (change_by a t ≡ None → asked_by a t ≡ None)
        → Fits k a t
    own (touch.Read b u) f r d = λ q. absurd (none_some (sym (r refl) ∙ ap (λ t. if t then Some u else None) (same b q)))
      where
        same : (b : ℕ) → b ≡ a → nat_eq b a ≡ true
        same b q = grind (arith, nat_tests)
    own (touch.Has b u) f r (inl d) = λ q. sym d ∙ f q
    own (touch.Has b u) f r (inr d) = λ q. absurd (none_some (sym (d refl) ∙ ap (λ t. if t then Some u else None) (same b q)))
      where
        same : (b : ℕ) → b ≡ a → nat_eq b a ≡ true
        same b q = grind (arith, nat_tests)
    own t f r d = tt

-- A cell that is as [Effect] shows it is the cell that the run began with, or it serves the run's touches as well.
abbrev pub IsSeen : Option Value → Option Seen → Type 0
IsSeen o None = Unit {0}
IsSeen o (Some s) = Shows o s

pub seen_serves : (a : ℕ) (w : List Touch) (o k : Option Value) → Serves o a w → IsSeen k (seen_at a w) → (o ≡ k) ⊎ Serves k a w
seen_serves a w o k h s = by (first_read a w) (first_asked a w) refl refl (subst (IsSeen k) (seen_is a w) s)
  where
    gone : (x : Option Value) → is_some x ≡ false → x ≡ None
    gone None e = refl
    gone (Some v) e = absurd (let z : true ≡ false = e in cc)

    by : (r : Option Value) (b : Option Bool) → first_read a w ≡ r → first_asked a w ≡ b → IsSeen k (seen_by r b) → (o ≡ k) ⊎ Serves k a w
    by (Some v) b r q s = inl (read_first o a w v h r ∙ sym s)
    by None (Some true) r q s = inr (unread o k a w h r (inl (asked_first o a w true h q ∙ sym s)))
    by None (Some false) r q s = inl (gone o (asked_first o a w false h q) ∙ sym s)
    by None None r q s = inr (unread o k a w h r (inr q))
