-- Parts of a record, of a frame and of the stack that are none of some kind, one after another.
use Rattle.std.proofs.Common.{◌+◌, ◌-◌, ◌<◌, ◌∙◌, ◌≡◌, ◌≤◌, ℕ, Bool, List, Option, Some, ap, arith, false, length, nat_le, nat_lt, refl, slice_index_or, subst}
use Rattle.std.proofs.{Common.suc, Common.sym, Common.true, Common.zero, lemmas.Bool.Decides.nat_tests}
use Rattle.cell_names.proofs.PartsSplit.{after_all, found_at, get_or_any, rises_to}
use Rattle.cell_names.specs.{Walks.NoneAfter, Walks.NoneFrom, declared.places.PlacedPart.PlacedPart}
use Rattle.cell_names.specs.Places.{IsAmong, IsRising, IsSplit, last_at}

-- the part of a number has each place from its own on to before the next one's
has_place : (parts : List PlacedPart) (n place : ℕ) (d : PlacedPart) → IsRising parts → n < length parts → (slice_index_or parts n d).place ≤ place
    → (suc n < length parts → place < (slice_index_or parts (suc n) d).place) → IsSplit (place + 1) parts (suc n)
has_place parts n place d rising inside least less = record {
  inside = omega (arith, inside);
  before = λ k e below.
      let r = rises_to parts rising k n e (omega (arith, below)) inside in
      let s : (slice_index_or parts n e).place ≡ (slice_index_or parts n d).place = ap (λ x. x.place) (get_or_any parts n e d inside) in
      omega (arith, r, s, least);
  after = λ k e above within.
      let next : suc n < length parts = omega (arith, above, within) in
      let h = less next in
      after_all parts (suc n) (place + 1) d rising next (omega (arith, h)) k e above within;
}

-- the part before that of a number, or an earlier one
step_among : (such : Option PlacedPart → Bool) (parts : List PlacedPart) (first m place : ℕ) (d : PlacedPart) → IsRising parts
    → first + suc m ≤ length parts → NoneFrom such parts first (first + suc m)
    → (first + suc m < length parts → place < (slice_index_or parts (first + suc m) d).place)
    → (place < (slice_index_or parts (first + m) d).place → such (last_at place parts) ≡ false)
    → (b : Bool) → nat_lt place (slice_index_or parts (first + m) d).place ≡ b → such (last_at place parts) ≡ false
step_among such parts first m place d rising inside none less earlier true e = earlier (grind (arith, nat_tests, e))
step_among such parts first m place d rising inside none less earlier false e =
    let over : (slice_index_or parts (first + m) d).place ≤ place = grind (arith, nat_tests, e) in
    let same : first + suc m ≡ suc (first + m) = omega arith in
    ap such (found_at place parts (first + m) d (has_place parts (first + m) place d rising (omega (arith, inside)) over (rw same at less)))
    ∙ none (first + m) d (omega arith) (omega arith)

before_among : (such : Option PlacedPart → Bool) (parts : List PlacedPart) (first m place : ℕ) (d : PlacedPart) → IsRising parts
    → first + m ≤ length parts → NoneFrom such parts first (first + m) → (slice_index_or parts first d).place ≤ place
    → place < (slice_index_or parts (first + m) d).place → such (last_at place parts) ≡ false
before_among such parts first zero place d rising inside none least less =
    absurd (let e : first + 0 ≡ first = omega arith in
    let same : (slice_index_or parts (first + 0) d).place ≡ (slice_index_or parts first d).place = ap (λ n. (slice_index_or parts n d).place) e in
    omega (arith, least, less, same))
before_among such parts first (suc m) place d rising inside none least less =
    step_among such parts first m place d rising inside none (λ h. less)
    (before_among such parts first m place d rising (omega (arith, inside)) (λ k f above below. none k f above (omega (arith, below))) least)
    (nat_lt place (slice_index_or parts (first + m) d).place) refl

among_of : (such : Option PlacedPart → Bool) (parts : List PlacedPart) (first m place : ℕ) (d : PlacedPart) → IsRising parts
    → first + suc m ≤ length parts → NoneFrom such parts first (first + suc m) → (slice_index_or parts first d).place ≤ place
    → (first + suc m < length parts → place < (slice_index_or parts (first + suc m) d).place) → such (last_at place parts) ≡ false
among_of such parts first m place d rising inside none least less =
    step_among such parts first m place d rising inside none less
    (before_among such parts first m place d rising (omega (arith, inside)) (λ k f above below. none k f above (omega (arith, below))) least)
    (nat_lt place (slice_index_or parts (first + m) d).place) refl

-- what has a place among parts that are none of some kind
among : (such : Option PlacedPart → Bool) (parts : List PlacedPart) (first last place : ℕ) (d : PlacedPart) → IsRising parts → last ≤ length parts
    → NoneFrom such parts first last → (slice_index_or parts first d).place ≤ place → IsAmong parts first last place → such (last_at place parts) ≡ false
among such parts first last place d rising inside none least here =
    let some = here.some in
    let e : last ≡ first + suc (last - first - 1) = omega (arith, some) in
    among_of such parts first (last - first - 1) place d rising (rw e at inside) (rw e at none) least (rw e at (here.before d))

none_among : (such : Option PlacedPart → Bool) (parts : List PlacedPart) (at more first last reach : ℕ) (d : PlacedPart) → IsRising parts
    → (first < last → last ≤ length parts) → NoneFrom such parts first last
    → (first < length parts → (slice_index_or parts first d).place ≤ at + more + 1)
    → ((k : ℕ) → more < k → k ≤ reach → IsAmong parts first last (at + k)) → NoneAfter (λ k. such (last_at (at + k) parts)) more reach
none_among such parts at more first last reach d rising inside none next so_far = λ k above below.
    let here = so_far k above below in
    let some = here.some in
    let end = inside some in
    let least = next (omega (arith, some, end)) in
    among such parts first last (at + k) d rising end none (omega (arith, least, above)) here

-- the places after those of one part of a list, as far as its parts are none of some kind
pub passed_from : (such : Option PlacedPart → Bool) (parts list : List PlacedPart) (at more first last reach : ℕ) (d : PlacedPart) → parts ≡ list
    → IsRising parts → (first < last → last ≤ length parts) → NoneFrom such parts first last
    → (first < length list → (slice_index_or list first d).place ≤ at + more + 1)
    → ((k : ℕ) → more < k → k ≤ reach → IsAmong parts first last (at + k)) → NoneAfter (λ k. such (last_at (at + k) list)) more reach
passed_from such parts list at more first last reach d is rising inside none next so_far =
    subst (λ l. NoneAfter (λ k. such (last_at (at + k) l)) more reach) is
    (none_among such parts at more first last reach d rising inside none
    (subst (λ l. first < length l → (slice_index_or l first d).place ≤ at + more + 1) (sym is) next) so_far)

-- up to a place and after it
up_by : (such : ℕ → Bool) (first last k : ℕ) → ((j : ℕ) → j ≤ first → such j ≡ false) → NoneAfter such first last → k ≤ last
    → (b : Bool) → nat_le k first ≡ b → such k ≡ false
up_by such first last k up more below true e = up k (grind (arith, nat_tests, e))
up_by such first last k up more below false e = more k (grind (arith, nat_tests, e)) below

pub none_up_to : (such : ℕ → Bool) (first last : ℕ) → ((j : ℕ) → j ≤ first → such j ≡ false) → NoneAfter such first last
    → (k : ℕ) → k ≤ last → such k ≡ false
none_up_to such first last up more k below = up_by such first last k up more below (nat_le k first) refl

-- so far none is
pub none_first : (such : Option PlacedPart → Bool) (parts : List PlacedPart) (first : ℕ) → NoneFrom such parts first first
none_first such parts first = λ k d above below. absurd (omega (arith, above, below))

next_by : (such : Option PlacedPart → Bool) (parts : List PlacedPart) (first at k : ℕ) (d e : PlacedPart) → NoneFrom such parts first at
    → at < length parts → such (Some (slice_index_or parts at e)) ≡ false → first ≤ k → k < at + 1
    → (b : Bool) → nat_lt k at ≡ b → such (Some (slice_index_or parts k d)) ≡ false
next_by such parts first at k d e so_far inside none above below true t = so_far k d above (grind (arith, nat_tests, t))
next_by such parts first at k d e so_far inside none above below false t =
    let same : k ≡ at = grind (arith, nat_tests, t, below) in
    ap (λ n. such (Some (slice_index_or parts n d))) same ∙ ap (λ x. such (Some x)) (get_or_any parts at d e inside) ∙ none

-- nor is the next one
pub none_next : (such : Option PlacedPart → Bool) (parts : List PlacedPart) (first at : ℕ) (e : PlacedPart) → NoneFrom such parts first at
    → at < length parts → such (Some (slice_index_or parts at e)) ≡ false → NoneFrom such parts first (at + 1)
none_next such parts first at e so_far inside none = λ k d above below.
    next_by such parts first at k d e so_far inside none above below (nat_lt k at) refl
