-- Further out, past frames of one region.
use Rattle.std.proofs.Common.{if◌then◌else◌, ◌-◌, ◌<◌, ◌||◌, ◌∙◌, ◌≡◌, ◌≤◌, ℕ, Bool, None, Option, Some, ap, arith, false, is_some, length, nat_eq, refl, suc}
use Rattle.std.proofs.{Common.sym, Common.true, Common.zero, lemmas.Bool.Decides.nat_tests}
use Rattle.check_steps.specs.{Around.first_around, Around.is_around, Frames.Leads, Known.Known, Known.frame_at, Regions.region_at}
use Rattle.statement_checker.specs.Assignments.{begins_at, is_inside, is_inside_from}

pub inside-outermost : (k : Known) (n token : ℕ) → is_inside_from n k None token ≡ false
inside-outermost k zero token = refl
inside-outermost k (suc n) token = refl

pub inside-nowhere : (k : Known) (at : Option ℕ) (n token : ℕ) → n ≡ 0 → is_inside_from n k at token ≡ false
inside-nowhere k None n token over = inside-outermost k n token
inside-nowhere k (Some frame) n token over = ap (λ m. is_inside_from m k (Some frame) token) over

-- frames of a region that begins elsewhere are passed
inside-past : (k : Known) (region passed n token : ℕ) (at next : Option ℕ) → Leads k.frames region passed at next
    → nat_eq (region_at k.regions region).token token ≡ false → is_inside_from n k at token ≡ is_inside_from (n - passed) k next token
unfolding Leads
inside-past k region zero n token at next l other =
    let all : n ≡ n - 0 = omega arith in
    ap (λ o. is_inside_from n k o token) l ∙ ap (λ m. is_inside_from m k next token) all
inside-past k region (suc passed) n token None next l other = absurd l
inside-past k region (suc passed) zero token (Some f) next l other = sym (inside-nowhere k next (zero - suc passed) token (omega arith))
inside-past k region (suc passed) (suc n) token (Some f) next l other =
    let fewer : n - passed ≡ suc n - suc passed = omega arith in
    let here : begins_at k f token ≡ false = ap (λ r. nat_eq (region_at k.regions r).token token) l.1 ∙ other in
    ap (λ b. b || is_inside_from n k (frame_at k f).outer token) here
    ∙ inside-past k region passed n token (frame_at k f).outer next l.2 other
    ∙ ap (λ m. is_inside_from m k next token) fewer

-- one turn of the search
pub inside-outward : (k : Known) (n f passed token : ℕ) (next : Option ℕ) → 0 < n → begins_at k f token ≡ false
    → Leads k.frames (frame_at k f).region passed (frame_at k f).outer next
    → is_inside_from (n - 1 - passed) k next token ≡ is_inside_from n k (Some f) token
inside-outward k zero f passed token next some other l = absurd (omega arith)
inside-outward k (suc n) f passed token next some other l =
    let less : suc n - 1 ≡ n = omega arith in
    sym (ap (λ b. b || is_inside_from n k (frame_at k f).outer token) other
    ∙ inside-past k (frame_at k f).region passed n token (frame_at k f).outer next l other
    ∙ ap (λ m. is_inside_from (m - passed) k next token) (sym less))

-- the region of the frame itself
pub inside-here : (k : Known) (n f token : ℕ) → 0 < n → begins_at k f token ≡ true → is_inside_from n k (Some f) token ≡ true
inside-here k zero f token some here = absurd (omega arith)
inside-here k (suc n) f token some here = ap (λ b. b || is_inside_from n k (frame_at k f).outer token) here

pub ruleset inside_outward = (inside-outward, inside-here, inside-outermost, inside-nowhere)

-- ---- a region that is known to be around

or-true : (b : Bool) → b || true ≡ true
or-true true = refl
or-true false = refl

around-turn : (k : Known) (n m f region token : ℕ) (b : Bool) (rest : Option ℕ) → (region_at k.regions region).token ≡ token
    → nat_eq region (frame_at k f).region ≡ b → (is_some rest ≡ true → is_inside_from m k (frame_at k f).outer token ≡ true)
    → is_some (if b then Some f else rest) ≡ true → is_inside_from (suc m) k (Some f) token ≡ true
around-turn k n m f region token true rest begins e on some =
    let same : (frame_at k f).region ≡ region = grind (arith, nat_tests, e) in
    let here : begins_at k f token ≡ true =
    let t : (region_at k.regions (frame_at k f).region).token ≡ token = ap (λ r. (region_at k.regions r).token) same ∙ begins in
    grind (arith, nat_tests, t) in
    ap (λ b. b || is_inside_from m k (frame_at k f).outer token) here
around-turn k n m f region token false rest begins e on some =
    ap (λ b. begins_at k f token || b) (on some) ∙ or-true (begins_at k f token)

around-from : (k : Known) (region token : ℕ) → (region_at k.regions region).token ≡ token → (n m : ℕ) (at : Option ℕ) → n ≤ m
    → is_some (first_around n k.frames (nat_eq region) at) ≡ true → is_inside_from m k at token ≡ true
around-from k region token begins zero m None less some = cc
around-from k region token begins (suc n) m None less some = cc
around-from k region token begins zero m (Some f) less some = cc
around-from k region token begins (suc n) zero (Some f) less some = absurd (omega (arith, less))
around-from k region token begins (suc n) (suc m) (Some f) less some =
    around-turn k n m f region token (nat_eq region (frame_at k f).region) (first_around n k.frames (nat_eq region) (frame_at k f).outer) begins refl
    (around-from k region token begins n m (frame_at k f).outer (omega (arith, less))) some

pub around-inside : (k : Known) (frame region token : ℕ) → (region_at k.regions region).token ≡ token → frame < length k.words
    → is_around k.frames frame region ≡ true → is_inside k frame token ≡ true
around-inside k frame region token begins below some =
    around-from k region token begins (suc frame) (length k.words) (Some frame) (omega (arith, below)) some
