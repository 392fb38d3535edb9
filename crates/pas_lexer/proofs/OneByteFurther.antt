-- One byte further in a comment, and in a string.
use Rattle.std.proofs.Common.{◌&&◌, ◌+◌, ◌<◌, ◌∙◌, ◌∷◌, ◌≡◌, ℕ, Bool, List, None, Option, Some, ap, arith, drop, false, get_or, length, nat_eq, refl, suc, sym}
use Rattle.std.proofs.{Math.Seq.drop-cons, lemmas.Bool.ne_eqb}
use Rattle.pas_lexer.specs.{Lexis.next_is, Reading.closing, Reading.more_by, Reading.or_else, Reading.string_end}

-- the list from a place on
cut : (l : List ℕ) (at : ℕ) → at < length l → drop at l ≡ get_or l at 0 ∷ drop (at + 1) l
cut l at lt = let next : suc at ≡ at + 1 = omega arith in drop-cons l at 0 lt ∙ ap (λ (n : ℕ). get_or l at 0 ∷ drop n l) next

more_more : (n : ℕ) (o : Option ℕ) → more_by n (more_by 1 o) ≡ more_by (n + 1) o
more_more n None = refl
more_more n (Some m) = ap Some (omega arith)

-- ---- comments

no_closing : (c : ℕ) (l : List ℕ) → nat_eq c 125 ≡ false → (nat_eq c 42 && next_is 41 l) ≡ false → closing (c ∷ l) ≡ more_by 1 (closing l)
no_closing c l e f = rw (e, f) refl

pub comment_goes_on : (l : List ℕ) (at : ℕ) (total : Option ℕ) → at < length l → (get_or l at 0 ≡ 125 → ⊥)
    → (nat_eq (get_or l at 0) 42 && next_is 41 (drop (at + 1) l)) ≡ false
    → more_by at (closing (drop at l)) ≡ total → more_by (at + 1) (closing (drop (at + 1) l)) ≡ total
comment_goes_on l at total lt one two so_far =
    sym (more_more at (closing (drop (at + 1) l)))
    ∙ ap (more_by at) (sym (ap closing (cut l at lt) ∙ no_closing (get_or l at 0) (drop (at + 1) l) (ne_eqb (get_or l at 0) 125 one) two))
    ∙ so_far

-- ---- strings

-- what is found from a place on, and what was found before it
abbrev pub last_from : List ℕ → ℕ → Bool → Option ℕ → Option ℕ
last_from l at after last = or_else (more_by at (string_end after (drop at l))) last
