-- Texts that are written line by line, and numbers that are tried one by one.
use Rattle.std.proofs.Common.{◌++◌, ◌+◌, ◌-◌, ◌<◌, ◌∙◌, ◌∷◌, ◌≡◌, [], ℕ, Bool, List, Some, ap, append-nil, append_assoc, arith, cond, false, find, length, suc}
use Rattle.std.{proofs.Common.sym, proofs.Common.true, specs.List.flat_map, specs.List.range_with_len}

-- the numbers from one on are that one and those after it
pub range_step : (k n : ℕ) → k < n → range_with_len k (n - k) ≡ k ∷ range_with_len (k + 1) (n - (k + 1))
range_step k n h = let one_less : n - k ≡ suc (n - (k + 1)) = omega arith in ap (range_with_len k) one_less

-- one more line was written, the first of those that were still to be written
pub line_written : (line : ℕ → List ℕ) (out out' start : List ℕ) (number : ℕ) (before after : List ℕ) → before ≡ number ∷ after
    → out' ≡ out ++ line number → out ++ flat_map line before ≡ start → out' ++ flat_map line after ≡ start
line_written line out out' start number before after split wrote so_far =
    ap (λ (o : List ℕ). o ++ flat_map line after) wrote ∙ append_assoc out (line number) (flat_map line after)
    ∙ ap (λ (ns : List ℕ). out ++ flat_map line ns) (sym split) ∙ so_far

-- the first number that is tried is found, or it is passed over
pub tried_here : (p : ℕ → Bool) (k n : ℕ) → k < n → p k ≡ true → find p (range_with_len k (n - k)) ≡ Some k
tried_here p k n h here =
    ap (find p) (range_step k n h) ∙ ap (λ (b : Bool). cond b (Some k) (find p (range_with_len (k + 1) (n - (k + 1))))) here

pub passed_over : (p : ℕ → Bool) (k n : ℕ) → k < n → p k ≡ false
    → find p (range_with_len k (n - k)) ≡ find p (range_with_len (k + 1) (n - (k + 1)))
passed_over p k n h here =
    ap (find p) (range_step k n h) ∙ ap (λ (b : Bool). cond b (Some k) (find p (range_with_len (k + 1) (n - (k + 1))))) here

pub shorter : (before after : List ℕ) (number : ℕ) → before ≡ number ∷ after → length after < length before
shorter before after number e = let longer = ap length e in omega arith

-- all lines were written
pub all_written : (line : ℕ → List ℕ) (out start : List ℕ) (left : List ℕ) → left ≡ [] → out ++ flat_map line left ≡ start → out ≡ start
all_written line out start left none so_far = sym (append-nil out) ∙ ap (λ (ns : List ℕ). out ++ flat_map line ns) (sym none) ∙ so_far
