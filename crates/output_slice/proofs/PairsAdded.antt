-- The pairs that a pass adds for a call that was made, and what it does over the touches between two of them.
use Rattle.std.proofs.Common.{if◌then◌else◌, ◌&&◌, ◌++◌, ◌+◌, ◌-◌, ◌<◌, ◌∙◌, ◌∷◌, ◌≡◌, [], ℕ, Bool, List, Some, ap, append-nil, append_assoc, arith, drop}
use Rattle.std.proofs.Common.{false, is_some, not, refl, slice_range, suc, sym, take, true, zero}
use Rattle.std.specs.List.{slice_get}
use Rattle.cell_value.specs.declared.entries.{Change.Change, Touch.Touch}
use Rattle.core_program.specs.Run.{Call}
use Rattle.output_slice.specs.{Outputs.has_output, Outputs.is_returned, Pieces.Piece, Pieces.own, declared.outputs.Output.Output}
use Rattle.output_slice.specs.Backward.{Back, Wanted, back, before_own, before_touches, is_asked, others, used_among, used_cells, with_number}
use Rattle.output_slice.specs.declared.outputs.Output.TheVariants.{Cell, Gives, Makes, Result, Takes, Way}

pub numbered_append : (n : ℕ) (xs ys : List Output) → with_number n (xs ++ ys) ≡ with_number n xs ++ with_number n ys
numbered_append n [] ys = refl
numbered_append n (x ∷ xs) ys = ap (λ l. (n, x) ∷ l) (numbered_append n xs ys)

-- ---- the cells that are used

cells_more : (w : Wanted) (xs : List (ℕ × Change)) (x : ℕ × Change)
    → used_cells w (xs ++ x ∷ []) ≡ used_cells w xs ++ (if w.cells x.0 then Cell x.0 ∷ [] else [])
cells_more w [] x = refl
cells_more w (y ∷ ys) x = by (w.cells y.0) (cells_more w ys x)
  where
    by : (b : Bool) → used_cells w (ys ++ x ∷ []) ≡ used_cells w ys ++ (if w.cells x.0 then Cell x.0 ∷ [] else [])
        → (if b then Cell y.0 ∷ used_cells w (ys ++ x ∷ []) else used_cells w (ys ++ x ∷ []))
        ≡ (if b then Cell y.0 ∷ used_cells w ys else used_cells w ys) ++ (if w.cells x.0 then Cell x.0 ∷ [] else [])
    by true e = ap (λ l. Cell y.0 ∷ l) e
    by false e = e

numbered_one : (n : ℕ) (b : Bool) (x : Output) → with_number n (if b then x ∷ [] else []) ≡ (if b then (n, x) ∷ [] else [])
numbered_one n true x = refl
numbered_one n false x = refl

-- the pairs of some changed cells, and then that of one more
pub cell_added : (ys : List (ℕ × Output)) (n : ℕ) (w : Wanted) (xs : List (ℕ × Change)) (x : ℕ × Change)
    → (ys ++ with_number n (used_cells w xs)) ++ (if w.cells x.0 then (n, Cell x.0) ∷ [] else []) ≡ ys ++ with_number n (used_cells w (xs ++ x ∷ []))
cell_added ys n w xs x = append_assoc ys (with_number n (used_cells w xs)) (if w.cells x.0 then (n, Cell x.0) ∷ [] else [])
    ∙ ap (λ l. ys ++ (with_number n (used_cells w xs) ++ l)) (sym (numbered_one n (w.cells x.0) (Cell x.0)))
    ∙ ap (λ l. ys ++ l) (sym (numbered_append n (used_cells w xs) (if w.cells x.0 then Cell x.0 ∷ [] else [])))
    ∙ ap (λ l. ys ++ with_number n l) (sym (cells_more w xs x))

-- ---- the other outputs that are used

-- the pair of one of them, where it is used, and then those of the rest
pub other_added : (ys : List (ℕ × Output)) (n : ℕ) (wants : Output → Bool) (w : Wanted) (c : Call) (x : Output) (xs : List Output) (b : Bool)
    → b ≡ (has_output c x && is_asked wants w x)
    → (ys ++ (if b then (n, x) ∷ [] else [])) ++ with_number n (used_among wants w c xs) ≡ ys ++ with_number n (used_among wants w c (x ∷ xs))
other_added ys n wants w c x xs b e = by b ∙ ap (λ b. ys ++ with_number n (if b then x ∷ used_among wants w c xs else used_among wants w c xs)) e
  where
    by : (b : Bool) → (ys ++ (if b then (n, x) ∷ [] else [])) ++ with_number n (used_among wants w c xs)
        ≡ ys ++ with_number n (if b then x ∷ used_among wants w c xs else used_among wants w c xs)
    by true = append_assoc ys ((n, x) ∷ []) (with_number n (used_among wants w c xs))
    by false = ap (λ l. l ++ with_number n (used_among wants w c xs)) (append-nil ys)

-- what a call has is asked for, by where it comes from
abbrev IsUsed : (Output → Bool) → Wanted → Call → Output → Bool → Type 0
IsUsed wants w c x b = b ≡ (has_output c x && is_asked wants w x)

and_true : (b : Bool) → b ≡ (b && true)
and_true true = refl
and_true false = refl

-- a pair at the end, if it is so
abbrev pub push_if : List (ℕ × Output) → Bool → ℕ × Output → List (ℕ × Output)
push_if ys b y = ys ++ (if b then y ∷ [] else [])

-- the five of them, one after another
pub others_added : (ys zs : List (ℕ × Output)) (n : ℕ) (wants : Output → Bool) (w : Wanted) (c : Call) (result gives takes makes way : Bool)
    → zs ≡ push_if (push_if (push_if (push_if (push_if ys result (n, Result)) gives (n, Gives)) takes (n, Takes)) makes (n, Makes)) way (n, Way)
    → result ≡ is_some c.result → IsUsed wants w c Gives gives → IsUsed wants w c Takes takes → IsUsed wants w c Makes makes
    → way ≡ not (is_returned c.way) → zs ≡ ys ++ with_number n (used_among wants w c others)
others_added ys zs n wants w c result gives takes makes way e r g t m o =
    let p1 = push_if ys result (n, Result) in
    let p2 = push_if p1 gives (n, Gives) in
    let p3 = push_if p2 takes (n, Takes) in
    let p4 = push_if p3 makes (n, Makes) in
    e ∙ sym (append-nil (push_if p4 way (n, Way)))
    ∙ other_added p4 n wants w c Way [] way (o ∙ and_true (not (is_returned c.way)))
    ∙ other_added p3 n wants w c Makes (Way ∷ []) makes m
    ∙ other_added p2 n wants w c Takes (Makes ∷ Way ∷ []) takes t
    ∙ other_added p1 n wants w c Gives (Takes ∷ Makes ∷ Way ∷ []) gives g
    ∙ other_added ys n wants w c Result (Gives ∷ Takes ∷ Makes ∷ Way ∷ []) result (r ∙ and_true (is_some c.result))

-- ---- over touches

-- a pass over touches and then pieces: what is wanted before the touches, and the pairs of the pieces
pub back_touches : (wants : Output → Bool) (ts : List Touch) (ps : List Piece)
    → back wants (own ts ++ ps) ≡ record { wanted = before_touches ts (back wants ps).wanted; pairs = (back wants ps).pairs }
back_touches wants [] ps = refl
back_touches wants (t ∷ ts) ps = ap (λ (b : Back). record { wanted = before_own t b.wanted; pairs = b.pairs }) (back_touches wants ts ps)

pub drop_one : {X : Type 0} (l : List X) (i : ℕ) (x : X) → slice_get l i ≡ Some x → drop i l ≡ x ∷ drop (i + 1) l
drop_one [] i x e = absurd (let z : ⊥ = cc in z)
drop_one (y ∷ ys) zero x e = let z : y ≡ x = cc in ap (λ y. y ∷ ys) z
drop_one (y ∷ ys) (suc i) x e = drop_one ys i x e ∙ ap (λ l. x ∷ l) (ap (λ n. drop n (y ∷ ys)) (let z : suc (i + 1) ≡ suc i + 1 = omega arith in z))

-- a part of a list that begins one place earlier
pub range_first : {X : Type 0} (l : List X) (i to : ℕ) (x : X) → slice_get l i ≡ Some x → i < to → slice_range l i to ≡ x ∷ slice_range l (i + 1) to
range_first l i to x e h = ap (take (to - i)) (drop_one l i x e)
    ∙ ap (λ n. take n (x ∷ drop (i + 1) l)) (let z : to - i ≡ suc (to - (i + 1)) = omega (arith, h) in z)
