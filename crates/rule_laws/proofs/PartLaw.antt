-- Which headings of a part break rule 8.
use Rattle.std.proofs.Common.{if◌then◌else◌, ◌++◌, ◌<◌, ◌↔◌, ◌∙◌, ◌∷◌, ◌≡◌, ◌⊎◌, [], ℕ, All, Bool, Contains, List, ap, arith, false, inl, inr, length, not}
use Rattle.std.proofs.Common.{refl, subst, sym, true}
use Rattle.std.proofs.lemmas.List.{append_assoc, Elements.All-head, Elements.All-tail}
use Rattle.pas_tree.specs.BlockTrees.{RoutineTree, routine_body, routine_heading}
use Rattle.check_steps.specs.{Known.Known, Known.name_at, Known.row_at, declared.breaks.Break.Break}
use Rattle.check_steps.specs.Steps.{◌>>=◌, Done, Step, ask, each, give, look}
use Rattle.denoter_checker.specs.Formals.{is_function}
use Rattle.denoter_checker.specs.RoutineParts.{complete_or_define, completed_by, define_routine, has_block, is_waiting, routine_name}
use Rattle.rule_laws.proofs.Breaks.{Each, In, both, contained, found, in_either, in_left, in_right, of_each}
use Rattle.rule_laws.proofs.OneName.{New, Turned, lost_after, new_before, own_turn, quiet_after, quiet_turn, same_spelling, waits_after}
use Rattle.rule_laws.proofs.PartSteps.{has_each, part_listed, part_steps}
use Rattle.rule_laws.proofs.Telling.{Allows, Misses, has_block-only, no_eight, no_two, other_rule, other_token, turn-only}
use Rattle.rule_laws.specs.ForwardHeadings.{are_completing, has_forward}
use Rattle.rule_laws.specs.Laws.{IsNew, IsOne, LacksBlock, PartsTellRuleEight, broken_at}

-- ---- steps over two lists

pub each_known : {A X : Type 0} (f : A → X → Step A) (a : A) (xs ys : List X) (k : Known)
    → (each f a (xs ++ ys) k).known ≡ (each f (each f a xs k).value ys (each f a xs k).known).known
unfolding ◌>>=◌ give
each_known f a [] ys k = refl
each_known f a (x ∷ xs) ys k = each_known f (f a x k).value xs ys (f a x k).known

pub each_broken : {A X : Type 0} (f : A → X → Step A) (a : A) (xs ys : List X) (k : Known)
    → (each f a (xs ++ ys) k).broken ≡ (each f a xs k).broken ++ (each f (each f a xs k).value ys (each f a xs k).known).broken
unfolding ◌>>=◌ give
each_broken f a [] ys k = refl
each_broken f a (x ∷ xs) ys k =
    let d = f a x k in
    ap (λ (l : List Break). d.broken ++ l) (each_broken f d.value xs ys d.known)
    ∙ sym (append_assoc d.broken (each f d.value xs d.known).broken
    (each f (each f d.value xs d.known).value ys (each f d.value xs d.known).known).broken)

-- ---- what other headings break

pub turns_only : (P : Break → Type 0) (region : ℕ) (rs : List RoutineTree) (position : ℕ) (k : Known) → Each (λ (s : RoutineTree). Allows P (routine_name s)) rs
    → Each P (each (define_routine region) position rs k).broken
unfolding ◌>>=◌ give
turns_only P region [] position k a = tt
turns_only P region (r ∷ rs) position k a =
    let d = define_routine region position r k in
    both P d.broken (each (define_routine region) d.value rs d.known).broken ((turn-only region position r a.0).of k)
    (turns_only P region rs d.value d.known a.1)

all_no_eight : (n : ℕ) (rs : List RoutineTree) → Each (λ (s : RoutineTree). Allows (Misses 8 n) (routine_name s)) rs
all_no_eight n [] = tt
all_no_eight n (r ∷ rs) = (no_eight (routine_name r) n, all_no_eight n rs)

pub all_no_two : (n : ℕ) (rs : List RoutineTree) → Each (λ (s : RoutineTree). routine_name s ≡ n → ⊥) rs
    → Each (λ (s : RoutineTree). Allows (Misses 2 n) (routine_name s)) rs
all_no_two n [] apart = tt
all_no_two n (r ∷ rs) apart = (no_two (routine_name r) n apart.0, all_no_two n rs apart.1)

-- rule 8 alone is told at the end
pub only_eight : (n : ℕ) (rs : List RoutineTree) (k : Known) → Each (Misses 2 n) (each has_each tt rs k).broken
unfolding ◌>>=◌ give has_block look ask
only_eight n [] k = tt
only_eight n (r ∷ rs) k = both (Misses 2 n) (has_block r k).broken (each has_each tt rs k).broken
    ((has_block-only {P = Misses 2 n} r (other_rule 8 (routine_name r) 2 n (λ e. omega (arith, e)))).of k) (only_eight n rs k)

-- ---- rule 8, at the headings that wait

told_if : (b : Break) (waiting : Bool) → waiting ≡ true → In b (if not waiting then [] else b ∷ [])
told_if b true e = inl refl
told_if b false e = absurd (let no : false ≡ true = e in cc)

if_told : (b : Break) (waiting : Bool) → In b (if not waiting then [] else b ∷ []) → waiting ≡ true
if_told b true h = refl
if_told b false h = absurd h

pub waits_told : (before : List RoutineTree) (r : RoutineTree) (after : List RoutineTree) (k : Known) → is_waiting (row_at k (routine_name r)) ≡ true
    → In (broken_at 8 (routine_name r)) (each has_each tt (before ++ r ∷ after) k).broken
unfolding ◌>>=◌ give has_block look ask
waits_told [] r after k waits = in_left (broken_at 8 (routine_name r)) (has_block r k).broken (each has_each tt after k).broken
    (told_if (broken_at 8 (routine_name r)) (is_waiting (row_at k (routine_name r))) waits)
waits_told (x ∷ xs) r after k waits = in_right (broken_at 8 (routine_name r)) (has_block x k).broken (each has_each tt (xs ++ r ∷ after) k).broken
    (waits_told xs r after k waits)

none_told : (n : ℕ) (rs : List RoutineTree) (k : Known) → Each (λ (s : RoutineTree). routine_name s ≡ n → ⊥) rs
    → In (broken_at 8 n) (each has_each tt rs k).broken → ⊥
unfolding ◌>>=◌ give has_block look ask
none_told n [] k apart h = h
none_told n (r ∷ rs) k apart h = elim (in_either (broken_at 8 n) (has_block r k).broken (each has_each tt rs k).broken h) [
  | inl own ↦ of_each (Misses 8 n) (broken_at 8 n) (has_block r k).broken
      ((has_block-only {P = Misses 8 n} r (other_token 8 (routine_name r) 8 n apart.0)).of k) own refl
  | inr later ↦ none_told n rs k apart.1 later
]

told_waits : (before : List RoutineTree) (r : RoutineTree) (after : List RoutineTree) (k : Known)
    → Each (λ (s : RoutineTree). routine_name s ≡ routine_name r → ⊥) before
    → Each (λ (s : RoutineTree). routine_name s ≡ routine_name r → ⊥) after
    → In (broken_at 8 (routine_name r)) (each has_each tt (before ++ r ∷ after) k).broken
    → is_waiting (row_at k (routine_name r)) ≡ true
unfolding ◌>>=◌ give has_block look ask
told_waits [] r after k others later h =
    elim (in_either (broken_at 8 (routine_name r)) (has_block r k).broken (each has_each tt after k).broken h) [
      | inl own ↦ if_told (broken_at 8 (routine_name r)) (is_waiting (row_at k (routine_name r))) own
      | inr more ↦ absurd (none_told (routine_name r) after k later more)
    ]
told_waits (x ∷ xs) r after k others later h =
    elim (in_either (broken_at 8 (routine_name r)) (has_block x k).broken (each has_each tt (xs ++ r ∷ after) k).broken h) [
      | inl first ↦ absurd (of_each (Misses 8 (routine_name r)) (broken_at 8 (routine_name r)) (has_block x k).broken
          ((has_block-only {P = Misses 8 (routine_name r)} x (other_token 8 (routine_name x) 8 (routine_name r) others.0)).of k) first refl)
      | inr more ↦ told_waits xs r after k others.1 later more
    ]

-- ---- a part

-- what becomes of one heading: whether it waits at the end, and whether it breaks rule 2
pub record Ends (k : Known) (r : RoutineTree) (after : List RoutineTree) (waiting : Bool) (own : List Break) : Type 0 where
  pub if_waiting : waiting ≡ true → (has_forward k (routine_body r) ≡ true) × (In (broken_at 2 (routine_name r)) own ⊎ (are_completing k r after ≡ false))
  pub then_waiting : has_forward k (routine_body r) ≡ true → In (broken_at 2 (routine_name r)) own ⊎ (are_completing k r after ≡ false) → waiting ≡ true

ends_quiet : {k : Known} {r : RoutineTree} {after : List RoutineTree} {own : List Break} (waiting : Bool) → has_forward k (routine_body r) ≡ false
    → waiting ≡ false
    → Ends k r after waiting own
ends_quiet waiting none quiet = record {
  if_waiting = λ e. absurd (let no : true ≡ false = sym e ∙ quiet in cc);
  then_waiting = λ forward either. absurd (let no : true ≡ false = sym forward ∙ none in cc);
}

ends_lost : {k : Known} {r : RoutineTree} {after : List RoutineTree} {own : List Break} (waiting : Bool) → has_forward k (routine_body r) ≡ true
    → waiting ≡ true
    → In (broken_at 2 (routine_name r)) own → Ends k r after waiting own
ends_lost waiting forward waits twice = record {
  if_waiting = λ e. (forward, inl twice);
  then_waiting = λ is either. waits;
}

negated : (b : Bool) → not b ≡ true → b ≡ false
negated false e = refl
negated true e = absurd (let no : false ≡ true = e in cc)

ends_awaiting : {k : Known} {r : RoutineTree} {after : List RoutineTree} {own : List Break} (waiting : Bool) → has_forward k (routine_body r) ≡ true
    → waiting ≡ not (are_completing k r after) → Each (Misses 2 (routine_name r)) own → Ends k r after waiting own
ends_awaiting {k = k} {r = r} {after = after} {own = own} waiting forward is once = record {
  if_waiting = λ e. (forward, inr (negated (are_completing k r after) (sym is ∙ e)));
  then_waiting = λ it either. elim either [
    | inl twice ↦ absurd (of_each (Misses 2 (routine_name r)) (broken_at 2 (routine_name r)) own once twice refl)
    | inr none ↦ is ∙ ap not none
  ];
}

-- a heading that waits: what its own turn leaves, and then the others
ends_forward : (k : Known) (region position : ℕ) (r : RoutineTree) (after : List RoutineTree) (next : Known) (own : List Break)
    → has_forward k (routine_body r) ≡ true
    → Each (λ (s : RoutineTree). routine_name s ≡ routine_name r → ⊥) after
    → Turned k region (routine_name r) (name_at k (routine_name r)) (is_function (routine_heading r)) next own
    → Ends k r after (is_waiting (row_at (each (define_routine region) position after next).known (routine_name r))) (own ++ [])
ends_forward k region position r after next own forward apart (inl a) =
    ends_awaiting (is_waiting (row_at (each (define_routine region) position after next).known (routine_name r))) forward
    (waits_after after position next apart a.0) (both (Misses 2 (routine_name r)) own [] a.1 tt)
ends_forward k region position r after next own forward apart (inr l) =
    ends_lost (is_waiting (row_at (each (define_routine region) position after next).known (routine_name r))) forward
    (ap is_waiting (lost_after after position next apart l.0).waits) (in_left (broken_at 2 (routine_name r)) own [] l.1)

-- from the state before the heading to that after the last one
ends_by : (k x : Known) (region position : ℕ) (r : RoutineTree) (after : List RoutineTree) → New k region (routine_name r) x
    → Each (λ (s : RoutineTree). routine_name s ≡ routine_name r → ⊥) after → (b : Bool) → has_forward k (routine_body r) ≡ b
    → let d = define_routine region position r x in
    Ends k r after (is_waiting (row_at (each (define_routine region) d.value after d.known).known (routine_name r))) d.broken
unfolding define_routine look give ◌>>=◌
ends_by k x region position r after new apart false none =
    let value = (define_routine region position r x).value in
    let next = (define_routine region position r x).known in
    ends_quiet (is_waiting (row_at (each (define_routine region) value after next).known (routine_name r))) none
    (quiet_after after value next apart (quiet_turn x position (routine_heading r) (routine_body r) new none)).quiet
ends_by k x region position r after new apart true forward =
    let value = (define_routine region position r x).value in
    let found = completed_by x region (routine_heading r) (routine_body r) in
    let done : Done (Unit {0}) = complete_or_define found region position (routine_heading r) (routine_body r) x in
    let P : ℕ → Type 0 = λ m. Turned k region (routine_name r) m (is_function (routine_heading r)) done.known done.broken in
    ends_forward k region value r after done.known done.broken forward apart
    (subst P (same_spelling k x new.stays.words (routine_name r)) (own_turn x position (routine_heading r) (routine_body r) new forward))

ends : (k x : Known) (region position : ℕ) (r : RoutineTree) (after : List RoutineTree) → New k region (routine_name r) x
    → Each (λ (s : RoutineTree). routine_name s ≡ routine_name r → ⊥) after
    → let d = define_routine region position r x in
    Ends k r after (is_waiting (row_at (each (define_routine region) d.value after d.known).known (routine_name r))) d.broken
ends k x region position r after new apart = ends_by k x region position r after new apart (has_forward k (routine_body r)) refl

pub apart_of : (n : ℕ) (rs : List RoutineTree) → All (λ (s : RoutineTree). routine_name s ≡ n → ⊥) rs → Each (λ (s : RoutineTree). routine_name s ≡ n → ⊥) rs
apart_of n [] h = tt
apart_of n (r ∷ rs) h = let P : RoutineTree → Type 0 = λ s. routine_name s ≡ n → ⊥ in (All-head P r rs h, apart_of n rs (All-tail P r rs h))

-- a part of what is broken, among three
in_three : (b : Break) (xs ys zs : List Break) → In b (xs ++ (ys ++ zs)) → Each (λ x. x ≡ b → ⊥) xs → Each (λ x. x ≡ b → ⊥) zs → In b ys
in_three b xs ys zs h none nor = elim (in_either b xs (ys ++ zs) h) [
  | inl first ↦ absurd (of_each (λ x. x ≡ b → ⊥) b xs none first refl)
  | inr more ↦ elim (in_either b ys zs more) [
    | inl here ↦ here
    | inr last ↦ absurd (of_each (λ x. x ≡ b → ⊥) b zs nor last refl)
  ]
]

-- the same of the list of the routines
listed_law : (k : Known) (region : ℕ) (before : List RoutineTree) (r : RoutineTree) (after : List RoutineTree)
    → region < length k.regions → IsNew k region (routine_name r) → IsOne before r after
    → let bs = (part_steps region (before ++ r ∷ after) k).broken in
    Contains bs (broken_at 8 (routine_name r)) ↔ LacksBlock k bs r after
unfolding ◌>>=◌
listed_law k region before r after there new one =
    let n = routine_name r in
    let rs = before ++ r ∷ after in
    let others = apart_of n before one.others_before in
    let later = apart_of n after one.others_after in
    let b = each (define_routine region) 0 before k in
    let d = define_routine region b.value r b.known in
    let a = each (define_routine region) d.value after d.known in
    let whole = each (define_routine region) 0 rs k in
    let told = each has_each tt rs whole.known in
    let start : New k region n k = record {
      stays = record { words = refl; names = refl; region_there = there; row_there = new.row };
      elsewhere = new.undefined;
      quiet = new.quiet;
    } in
    let e : Ends k r after (is_waiting (row_at a.known n)) d.broken = ends k b.known region b.value r after (new_before before 0 k others start) later in
    let known : whole.known ≡ a.known = each_known (define_routine region) 0 before (r ∷ after) k in
    let broken : whole.broken ≡ b.broken ++ (d.broken ++ a.broken) = each_broken (define_routine region) 0 before (r ∷ after) k in
    let no_eight_before : Each (Misses 8 n) whole.broken = turns_only (Misses 8 n) region rs 0 k (all_no_eight n rs) in
    let no_two_before : Each (Misses 2 n) b.broken = turns_only (Misses 2 n) region before 0 k (all_no_two n before others) in
    let no_two_after : Each (Misses 2 n) a.broken = turns_only (Misses 2 n) region after d.value d.known (all_no_two n after later) in
    let two_in : In (broken_at 2 n) d.broken → Contains (whole.broken ++ told.broken) (broken_at 2 n) = λ h.
    contained (broken_at 2 n) (whole.broken ++ told.broken) (in_left (broken_at 2 n) whole.broken told.broken
    (subst (λ (l : List Break). In (broken_at 2 n) l) (sym broken)
    (in_right (broken_at 2 n) b.broken (d.broken ++ a.broken) (in_left (broken_at 2 n) d.broken a.broken h)))) in
    let two_out : Contains (whole.broken ++ told.broken) (broken_at 2 n) → In (broken_at 2 n) d.broken = λ c.
    elim (in_either (broken_at 2 n) whole.broken told.broken (found (broken_at 2 n) (whole.broken ++ told.broken) c)) [
      | inl h ↦ in_three (broken_at 2 n) b.broken d.broken a.broken (subst (λ (l : List Break). In (broken_at 2 n) l) broken h) no_two_before no_two_after
      | inr h ↦ absurd (of_each (Misses 2 n) (broken_at 2 n) told.broken (only_eight n rs whole.known) h refl)
    ] in
    let forth : Contains (whole.broken ++ told.broken) (broken_at 8 n) → LacksBlock k (whole.broken ++ told.broken) r after = λ c.
    elim (in_either (broken_at 8 n) whole.broken told.broken (found (broken_at 8 n) (whole.broken ++ told.broken) c)) [
      | inl h ↦ absurd (of_each (Misses 8 n) (broken_at 8 n) whole.broken no_eight_before h refl)
      | inr h ↦
          let waits = ap (λ (x : Known). is_waiting (row_at x n)) (sym known) ∙ told_waits before r after whole.known others later h in
          let because = e.if_waiting waits in
          record {
            forward = because.0;
            none = elim because.1 [
              | inl twice ↦ inl (two_in twice)
              | inr none ↦ inr none
            ];
          }
    ] in
    let back : LacksBlock k (whole.broken ++ told.broken) r after → Contains (whole.broken ++ told.broken) (broken_at 8 n) = λ l.
    let why : In (broken_at 2 n) d.broken ⊎ (are_completing k r after ≡ false) = elim l.none [
      | inl twice ↦ inl (two_out twice)
      | inr none ↦ inr none
    ] in
    let waits = ap (λ (x : Known). is_waiting (row_at x n)) known ∙ e.then_waiting l.forward why in
    contained (broken_at 8 n) (whole.broken ++ told.broken) (in_right (broken_at 8 n) whole.broken told.broken
    (waits_told before r after whole.known waits)) in
    (forth, back)

pub part_law : PartsTellRuleEight
part_law k region rs before r after there same new one =
    let P : Step (Unit {0}) → Type 0 = λ m. Contains (m k).broken (broken_at 8 (routine_name r)) ↔ LacksBlock k (m k).broken r after in
    subst P (sym (part_listed region rs ∙ ap (part_steps region) same)) (listed_law k region before r after there new one)
