-- The members of a set, one after another.
use Rattle.std.proofs.Common.{◌++◌, ◌+◌, ◌-◌, ◌<◌, ◌∙◌, ◌∷◌, ◌≡◌, ◌≤◌, [], ℕ, Bool, List, ap, append-nil, append_assoc, arith, false, filter, flat_map, refl}
use Rattle.std.{proofs.Common.suc, proofs.Common.sym, proofs.Common.true, specs.List.range_with_len}
use Rattle.cell_value.specs.{Sets.has, declared.values.SetBits.SetBits}
use Rattle.core_program.specs.ProgramRows.{ProgramRows}
use Rattle.cell_names.specs.Values.{member_text, members_from, members_text}

kept : (test : ℕ → Bool) (n : ℕ) (ns : List ℕ) (b : Bool) → test n ≡ b
    → filter test (n ∷ ns) ≡ (elim b as (λ _. List ℕ) [ true ↦ n ∷ filter test ns | false ↦ filter test ns ])
kept test n ns true e = simp e refl
kept test n ns false e = simp e refl

from_here : (set : SetBits) (n : ℕ) → n < 256 → members_from set n ≡ filter (has set) (n ∷ range_with_len (n + 1) (256 - (n + 1)))
unfolding members_from
from_here set n below =
    ap (λ k. filter (has set) (range_with_len n k)) (let e : 256 - n ≡ suc (256 - (n + 1)) = omega (arith, below) in e)

pub next_is_member : (set : SetBits) (n : ℕ) → n < 256 → has set n ≡ true → members_from set n ≡ n ∷ members_from set (n + 1)
unfolding members_from
next_is_member set n below e = from_here set n below ∙ kept (has set) n (range_with_len (n + 1) (256 - (n + 1))) true e

pub next_is_none : (set : SetBits) (n : ℕ) → n < 256 → has set n ≡ false → members_from set n ≡ members_from set (n + 1)
unfolding members_from
next_is_none set n below e = from_here set n below ∙ kept (has set) n (range_with_len (n + 1) (256 - (n + 1))) false e

after_one : (p : ProgramRows) (base : ℕ) (ms : List ℕ) → members_text p base false ms ≡ flat_map (member_text p base false) ms
after_one p base [] = refl
after_one p base (m ∷ ms) = refl

pub member_written : (p : ProgramRows) (base : ℕ) (set : SetBits) (first : Bool) (n : ℕ) (before after : List ℕ) → n < 256 → has set n ≡ true
    → after ≡ before ++ member_text p base first n
    → after ++ members_text p base false (members_from set (n + 1)) ≡ before ++ members_text p base first (members_from set n)
member_written p base set first n before after below e done =
    let ms = members_from set (n + 1) in
    ap (λ t. t ++ members_text p base false ms) done
    ∙ append_assoc before (member_text p base first n) (members_text p base false ms)
    ∙ ap (λ t. before ++ (member_text p base first n ++ t)) (after_one p base ms)
    ∙ ap (λ l. before ++ members_text p base first l) (sym (next_is_member set n below e))

pub none_after_last : (set : SetBits) (n : ℕ) → 256 ≤ n → members_from set n ≡ []
unfolding members_from
none_after_last set n past = ap (λ k. filter (has set) (range_with_len n k)) (let e : 256 - n ≡ 0 = omega (arith, past) in e)

pub all_written : (p : ProgramRows) (base : ℕ) (set : SetBits) (first : Bool) (n : ℕ) (out all : List ℕ) → 256 ≤ n
    → out ++ members_text p base first (members_from set n) ≡ all → out ≡ all
all_written p base set first n out all past so_far =
    sym (append-nil out) ∙ ap (λ ms. out ++ members_text p base first ms) (sym (none_after_last set n past)) ∙ so_far
