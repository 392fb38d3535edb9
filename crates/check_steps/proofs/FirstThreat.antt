-- The first threat of a variable, searched for from where its threats begin.
use Rattle.std.proofs.Common.{if◌then◌else◌, ◌+◌, ◌-◌, ◌<◌, ◌∙◌, ◌≡◌, ◌≤◌, ℕ, Bool, List, None, Option, Some, ap, arith, false, get_or, length, nat_eq, nat_lt}
use Rattle.std.proofs.Common.{refl, replicate, set, subst, suc, sym, true, zero}
use Rattle.std.{specs.Prelude.unwrap_or, proofs.lemmas.Bool.Decides.nat_tests, proofs.lemmas.Option.unwrap_or-slice_get}
use Rattle.std.proofs.lemmas.List.{get_or-replicate, get_or-set_other, get_or-set_same, get_or_past, length-replicate, length-set}
use Rattle.check_steps.specs.Threats.{AreUnthreatened, first_threat, is_threat, is_variable_of, lowered}

-- ---- one token more

found : ℕ → List (Option ℕ) → ℕ → ℕ → Bool → Option ℕ
found n threats variable token here = if here then Some token else first_threat n threats variable (token + 1)

turn : (threats : List (Option ℕ)) (variable token to : ℕ) → token < to
    → first_threat (to - token) threats variable token ≡ found (to - (token + 1)) threats variable token (is_threat threats variable token)
unfolding found
turn threats variable token to below =
    let e : to - token ≡ suc (to - (token + 1)) = omega (arith, below) in
    ap (λ n. first_threat n threats variable token) e

pub threat_here : (threats : List (Option ℕ)) (variable token to : ℕ) → token < to → is_threat threats variable token ≡ true
    → first_threat (to - token) threats variable token ≡ Some token
unfolding found
threat_here threats variable token to below is =
    turn threats variable token to below ∙ ap (found (to - (token + 1)) threats variable token) is

pub threat_later : (threats : List (Option ℕ)) (variable token to : ℕ) → token < to → is_threat threats variable token ≡ false
    → first_threat (to - token) threats variable token ≡ first_threat (to - (token + 1)) threats variable (token + 1)
unfolding found
threat_later threats variable token to below is =
    turn threats variable token to below ∙ ap (found (to - (token + 1)) threats variable token) is

pub threat_nowhere : (threats : List (Option ℕ)) (variable token to : ℕ) → to ≤ token → first_threat (to - token) threats variable token ≡ None
threat_nowhere threats variable token to past =
    ap (λ n. first_threat n threats variable token) (let e : to - token ≡ zero = omega (arith, past) in e)

pub ruleset search_on = (threat_here, threat_later, threat_nowhere)

-- ---- tokens that are passed over

over : (threats : List (Option ℕ)) (variable from to gap : ℕ)
    → ((token : ℕ) → from ≤ token → token < from + gap → is_threat threats variable token ≡ false)
    → first_threat (to - (from + gap)) threats variable (from + gap) ≡ first_threat (to - from) threats variable from
over threats variable from to zero none =
    let e : from + 0 ≡ from = omega arith in ap (λ n. first_threat (to - n) threats variable n) e
over threats variable from to (suc gap) none =
    let e : from + suc gap ≡ (from + gap) + 1 = omega arith in
    ap (λ n. first_threat (to - n) threats variable n) e
    ∙ here (nat_lt (from + gap) to) refl
    ∙ over threats variable from to gap (λ token above below. none token above (omega (arith, below)))
  where
    here : (b : Bool) → nat_lt (from + gap) to ≡ b
        → first_threat (to - ((from + gap) + 1)) threats variable ((from + gap) + 1) ≡ first_threat (to - (from + gap)) threats variable (from + gap)
    here true is =
        let below : from + gap < to = grind (arith, nat_tests, is) in
        sym (threat_later threats variable (from + gap) to below (none (from + gap) (omega arith) (omega arith)))
    here false is =
        let past : to ≤ from + gap = grind (arith, nat_tests, is) in
        threat_nowhere threats variable ((from + gap) + 1) to (omega (arith, past)) ∙ sym (threat_nowhere threats variable (from + gap) to past)

-- a search that begins later, where no threat is passed over
pub begun_later : (threats : List (Option ℕ)) (variable from begin to : ℕ) → from ≤ begin
    → ((token : ℕ) → from ≤ token → token < begin → is_threat threats variable token ≡ false)
    → first_threat (to - begin) threats variable begin ≡ first_threat (to - from) threats variable from
begun_later threats variable from begin to order none =
    let e : from + (begin - from) ≡ begin = omega (arith, order) in
    ap (λ n. first_threat (to - n) threats variable n) (sym e)
    ∙ over threats variable from to (begin - from) (λ token above below. none token above (omega (arith, below, e)))

-- ---- where the searches begin

at : (threats : List (Option ℕ)) (variable token : ℕ) → is_threat threats variable token ≡ is_variable_of (get_or threats token None) variable
at threats variable token = ap (λ o. is_variable_of o variable) (unwrap_or-slice_get threats token None)

nothing : (n token : ℕ) (b : Bool) → nat_lt token n ≡ b → get_or {A = Option ℕ} (replicate n None) token None ≡ None
nothing n token true is = get_or-replicate n token None None (grind (arith, nat_tests, is))
nothing n token false is =
    let past : n ≤ token = grind (arith, nat_tests, is) in
    get_or_past (replicate n None) token None (omega (arith, past, length-replicate {A = Option ℕ} n None))

pub none_at_first : (n : ℕ) (threats : List (Option ℕ)) (froms befores : List ℕ) → threats ≡ replicate n None → length froms ≡ length befores
    → AreUnthreatened threats froms befores
none_at_first n threats froms befores is many = record {
  as_many = many;
  none = λ variable token above below. ap (λ l. is_threat l variable token) is ∙ at (replicate n None) variable token
      ∙ ap (λ o. is_variable_of o variable) (nothing n token (nat_lt token n) refl);
}

-- ---- one threat more

by : Bool → List ℕ → ℕ → ℕ → List ℕ
by b begins variable token = if b then set begins variable token else begins

within : (begins : List ℕ) (variable token : ℕ) → token < get_or begins variable 0 → (b : Bool) → nat_lt variable (length begins) ≡ b
    → variable < length begins
within begins variable token less true is = grind (arith, nat_tests, is)
within begins variable token less false is =
    let past : length begins ≤ variable = grind (arith, nat_tests, is) in
    absurd (omega (arith, less, get_or_past begins variable 0 past))

by_same : (begins : List ℕ) (variable token : ℕ) (b : Bool) → nat_lt token (get_or begins variable 0) ≡ b
    → get_or (by b begins variable token) variable 0 ≤ token
unfolding by
by_same begins variable token true is =
    let less : token < get_or begins variable 0 = grind (arith, nat_tests, is) in
    omega (arith, get_or-set_same begins variable token 0 (within begins variable token less (nat_lt variable (length begins)) refl))
by_same begins variable token false is = grind (arith, nat_tests, is)

by_any : (begins : List ℕ) (variable token other : ℕ) (b : Bool) → nat_lt token (get_or begins variable 0) ≡ b
    → get_or (by b begins variable token) other 0 ≤ get_or begins other 0
unfolding by
by_any begins variable token other true is = apart (nat_eq other variable) refl
  where
    less : token < get_or begins variable 0
    less = grind (arith, nat_tests, is)

    apart : (c : Bool) → nat_eq other variable ≡ c → get_or (set begins variable token) other 0 ≤ get_or begins other 0
    apart true e =
        let same : other ≡ variable = grind (arith, nat_tests, e) in
        let first : get_or (set begins variable token) other 0 ≡ token =
        ap (λ n. get_or (set begins variable token) n 0) same
        ∙ get_or-set_same begins variable token 0 (within begins variable token less (nat_lt variable (length begins)) refl) in
        let second : get_or begins other 0 ≡ get_or begins variable 0 = ap (λ n. get_or begins n 0) same in
        omega (arith, first, second, less)
    apart false e =
        let same = get_or-set_other begins variable other token 0 (λ q. let z : ⊥ = grind (arith, nat_tests, e, q) in z) in
        omega (arith, same)
by_any begins variable token other false is = omega arith

put_there : (threats : List (Option ℕ)) (variable token other : ℕ) (b : Bool) → nat_lt token (length threats) ≡ b → nat_eq variable other ≡ false
    → is_variable_of (get_or (set threats token (Some variable)) token None) other ≡ false
put_there threats variable token other true is apart =
    ap (λ o. is_variable_of o other) (get_or-set_same threats token (Some variable) None (grind (arith, nat_tests, is))) ∙ apart
put_there threats variable token other false is apart =
    let past : length threats ≤ token = grind (arith, nat_tests, is) in
    ap (λ o. is_variable_of o other)
    (get_or_past (set threats token (Some variable)) token None (omega (arith, past, length-set threats token (Some variable))))

put_by : (threats : List (Option ℕ)) (froms begins : List ℕ) (variable token other place : ℕ) → AreUnthreatened threats froms begins
    → get_or froms other 0 ≤ place → place < get_or (by (nat_lt token (get_or begins variable 0)) begins variable token) other 0
    → (b : Bool) → nat_eq place token ≡ b → is_variable_of (get_or (set threats token (Some variable)) place None) other ≡ false
put_by threats froms begins variable token other place before above below true is =
    let same : place ≡ token = grind (arith, nat_tests, is) in
    ap (λ n. is_variable_of (get_or (set threats token (Some variable)) n None) other) same
    ∙ put_there threats variable token other (nat_lt token (length threats)) refl (apart same (nat_eq variable other) refl)
  where
    apart : place ≡ token → (b : Bool) → nat_eq variable other ≡ b → nat_eq variable other ≡ false
    apart here false e = e
    apart here true e =
        let same : variable ≡ other = grind (arith, nat_tests, e) in
        let most = by_same begins variable token (nat_lt token (get_or begins variable 0)) refl in
        let there : place < get_or (by (nat_lt token (get_or begins variable 0)) begins variable token) variable 0 =
        subst (λ n. place < get_or (by (nat_lt token (get_or begins variable 0)) begins variable token) n 0) (sym same) below in
        absurd (omega (arith, here, most, there))
put_by threats froms begins variable token other place before above below false is =
    ap (λ o. is_variable_of o other) (get_or-set_other threats token place (Some variable) None (λ q. let z : ⊥ = grind (arith, nat_tests, is, q) in z))
    ∙ sym (at threats other place)
    ∙ before.none other place above (omega (arith, below, by_any begins variable token other (nat_lt token (get_or begins variable 0)) refl))

as_many_by : (begins : List ℕ) (variable token : ℕ) (b : Bool) → length (by b begins variable token) ≡ length begins
unfolding by
as_many_by begins variable token true = length-set begins variable token
as_many_by begins variable token false = refl

pub none_but_one : (threats : List (Option ℕ)) (froms befores : List ℕ) (variable token : ℕ) → AreUnthreatened threats froms befores
    → AreUnthreatened (set threats token (Some variable)) froms (lowered befores variable token)
unfolding by
none_but_one threats froms befores variable token before = record {
  as_many = before.as_many ∙ sym (as_many_by befores variable token (nat_lt token (get_or befores variable 0)));
  none = λ other place above below. at (set threats token (Some variable)) other place
      ∙ put_by threats froms befores variable token other place before above below (nat_eq place token) refl;
}

-- ---- what a search has passed over

passed_on : (n : ℕ) (threats : List (Option ℕ)) (variable from token : ℕ) → from ≤ token → (b : Bool) → is_threat threats variable from ≡ b
    → token < unwrap_or (found n threats variable from b) (from + suc n)
    → (from + 1 ≤ token → token < unwrap_or (first_threat n threats variable (from + 1)) ((from + 1) + n) → is_threat threats variable token ≡ false)
    → is_threat threats variable token ≡ false
unfolding found
passed_on n threats variable from token above true is below rest = absurd (omega (arith, above, below))
passed_on n threats variable from token above false is below rest = here (nat_eq token from) refl
  where
    here : (c : Bool) → nat_eq token from ≡ c → is_threat threats variable token ≡ false
    here true e = let same : token ≡ from = grind (arith, nat_tests, e) in ap (λ t. is_threat threats variable t) same ∙ is
    here false e =
        let above' : from + 1 ≤ token = grind (arith, nat_tests, e, above) in
        let more : from + suc n ≡ (from + 1) + n = omega arith in
        rest above' (subst (λ m. token < unwrap_or (first_threat n threats variable (from + 1)) m) more below)

passed : (n : ℕ) (threats : List (Option ℕ)) (variable from token : ℕ) → from ≤ token
    → token < unwrap_or (first_threat n threats variable from) (from + n) → is_threat threats variable token ≡ false
unfolding found
passed zero threats variable from token above below = absurd (omega (arith, above, below))
passed (suc n) threats variable from token above below =
    passed_on n threats variable from token above (is_threat threats variable from) refl below
    (λ above' below'. passed n threats variable (from + 1) token above' below')

end : List (Option ℕ) → ℕ → ℕ → ℕ → ℕ
end threats variable from to = unwrap_or (first_threat (to - from) threats variable from) to

passed_to : (threats : List (Option ℕ)) (variable from to token : ℕ) → from ≤ token → token < end threats variable from to → (b : Bool)
    → nat_lt to from ≡ b → is_threat threats variable token ≡ false
unfolding end
passed_to threats variable from to token above below true is =
    let past : to ≤ from = grind (arith, nat_tests, is) in
    let nowhere = ap (λ o. unwrap_or o to) (threat_nowhere threats variable from to past) in
    absurd (omega (arith, above, below, past, nowhere))
passed_to threats variable from to token above below false is =
    let order : from ≤ to = grind (arith, nat_tests, is) in
    let all : to ≡ from + (to - from) = omega (arith, order) in
    passed (to - from) threats variable from token above
    (subst (λ m. token < unwrap_or (first_threat (to - from) threats variable from) m) all below)

kept_there : (threats : List (Option ℕ)) (froms befores : List ℕ) (variable from to token : ℕ) → length froms ≡ length befores
    → get_or (set froms variable from) variable 0 ≤ token → token < get_or (set befores variable (end threats variable from to)) variable 0
    → (b : Bool) → nat_lt variable (length befores) ≡ b → is_threat threats variable token ≡ false
kept_there threats froms befores variable from to token many above below true is =
    let inside : variable < length befores = grind (arith, nat_tests, is) in
    let first = get_or-set_same froms variable from 0 (omega (arith, inside, many)) in
    let last = get_or-set_same befores variable (end threats variable from to) 0 inside in
    passed_to threats variable from to token (omega (arith, above, first)) (omega (arith, below, last)) (nat_lt to from) refl
kept_there threats froms befores variable from to token many above below false is =
    let past : length befores ≤ variable = grind (arith, nat_tests, is) in
    let none = get_or_past (set befores variable (end threats variable from to)) variable 0
    (omega (arith, past, length-set befores variable (end threats variable from to))) in
    absurd (omega (arith, below, none))

kept_by : (threats : List (Option ℕ)) (froms befores : List ℕ) (variable from to other token : ℕ) → AreUnthreatened threats froms befores
    → get_or (set froms variable from) other 0 ≤ token → token < get_or (set befores variable (end threats variable from to)) other 0
    → (b : Bool) → nat_eq other variable ≡ b → is_threat threats other token ≡ false
kept_by threats froms befores variable from to other token before above below true is =
    let same : other ≡ variable = grind (arith, nat_tests, is) in
    let x = end threats variable from to in
    ap (λ v. is_threat threats v token) same
    ∙ kept_there threats froms befores variable from to token before.as_many (subst (λ v. get_or (set froms variable from) v 0 ≤ token) same above)
    (subst (λ v. token < get_or (set befores variable x) v 0) same below) (nat_lt variable (length befores)) refl
kept_by threats froms befores variable from to other token before above below false is =
    let first = get_or-set_other froms variable other from 0 (λ q. let z : ⊥ = grind (arith, nat_tests, is, q) in z) in
    let last = get_or-set_other befores variable other (end threats variable from to) 0 (λ q. let z : ⊥ = grind (arith, nat_tests, is, q) in z) in
    before.none other token (omega (arith, above, first)) (omega (arith, below, last))

pub none_kept : (threats : List (Option ℕ)) (froms befores : List ℕ) (variable from to : ℕ) → AreUnthreatened threats froms befores
    → AreUnthreatened threats (set froms variable from) (set befores variable (unwrap_or (first_threat (to - from) threats variable from) to))
unfolding end
none_kept threats froms befores variable from to before = record {
  as_many = length-set froms variable from ∙ before.as_many ∙ sym (length-set befores variable (end threats variable from to));
  none = λ other token above below. kept_by threats froms befores variable from to other token before above below (nat_eq other variable) refl;
}
