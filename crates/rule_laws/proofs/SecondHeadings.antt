-- Which procedures and functions of a part break rule 2.
use Rattle.std.proofs.Common.{if◌then◌else◌, ◌&&◌, ◌++◌, ◌+◌, ◌<◌, ◌||◌, ◌↔◌, ◌∙◌, ◌∷◌, ◌≡◌, ◌⊎◌, [], ℕ, All, Bool, Contains, List, None, Option, Some, ap}
use Rattle.std.proofs.Common.{arith, cond, false, inl, inr, is_none, is_some, length, length-set, nat_eq, not, refl, subst, suc, sym, true}
use Rattle.std.{proofs.lemmas.Bool.eq-eqb, proofs.lemmas.Bool.eqb-false, proofs.lemmas.Bool.eqb-true, proofs.lemmas.Bool.ne_eqb, specs.List.list_any}
use Rattle.std.proofs.lemmas.{List.Elements.All-head, List.Elements.All-tail, Option.none-some, Option.same_Some}
use Rattle.pas_tree.specs.{HeadingPlaces.heading_name, HeadingTrees.HeadingTree}
use Rattle.pas_tree.specs.BlockTrees.{BodyTree, RoutineTree, routine_body, routine_heading}
use Rattle.pas_tree.specs.BlockTrees as tree
use Rattle.core_program.specs.declared.rows.{PartRow.PartRow, Row.Row}
use Rattle.check_steps.specs.{Known.Known, Known.and_definition, Known.name_at, Known.row_at, Names.define_in, Regions.RegionRows, Regions.defined_in}
use Rattle.check_steps.specs.{Regions.or_else, Regions.region_at, declared.breaks.Break.Break, declared.regions.Definition.Definition}
use Rattle.check_steps.specs.Steps.{◌>>=◌, Step, add_definition, ask, change, each, give, look, put, when}
use Rattle.denoter_checker.specs.Formals.{is_complete, is_function}
use Rattle.denoter_checker.specs.RoutineParts.{awaiting, awaits, complete_or_define, completed_by, completing, define_heading, define_routine, defining}
use Rattle.denoter_checker.specs.RoutineParts.{directed, directive_in, is_forward, is_waiting, routine_name}
use Rattle.rule_laws.proofs.{Keeping.Closed, Keeping.completing-keeps, Keeping.turn-keeps, Tables.defined-more}
use Rattle.rule_laws.proofs.Breaks.{Each, In, contained, found, in_either, in_left, in_right, of_each}
use Rattle.rule_laws.proofs.OneName.{Awaiting, New, Quiet, Turned, completed_elsewhere, completed_own, has_block_of, new-closed, now_quiet, own_definition}
use Rattle.rule_laws.proofs.OneName.{own_turn, quiet_after, quiet_turn, same_spelling, still_awaiting}
use Rattle.rule_laws.proofs.PartLaw.{all_no_two, apart_of, each_broken, only_eight, turns_only}
use Rattle.rule_laws.proofs.PartSteps.{has_each, part_listed, part_steps}
use Rattle.rule_laws.proofs.Telling.{Misses, completing-only, directive_in-only, no_two, other_rule}
use Rattle.rule_laws.specs.{Laws.IsNew, Laws.broken_at, NameLaws.DifferAll, NameLaws.IsDefinedAgain, NameLaws.IsPartBegun, NameLaws.PartsTellSecondHeadings}
use Rattle.rule_laws.specs.ForwardHeadings.{are_completing, completes, has_forward, is_block, is_named, is_second}

-- ---- what is defined stays so

pub record Has (region name : ℕ) (d : Definition) (k : Known) : Type 0 where
  pub there : region < length k.regions
  pub is : defined_in k.regions region name ≡ Some d

more_regions : (k : Known) (region name : ℕ) (d : Definition) → region < length k.regions → region < length (and_definition k region name d).regions
more_regions k region name d below =
    let rows = region_at k.regions region in
    let more = record rows { names = rows.names ++ (name, d) ∷ [] } in
    subst (λ size. region < size) (sym (length-set k.regions region more)) below

has_closed : (region name : ℕ) (d : Definition) (n : ℕ) → Closed region n (Has region name d)
has_closed region name d n = record {
  puts = λ k m r apart i. record { there = i.there; is = i.is };
  defines = λ k x apart none i. record {
    there = more_regions k region (name_at k x.token) x i.there;
    is = defined-more k region (name_at k x.token) name x i.there
        ∙ ap (λ (o : Option Definition). or_else o (cond (nat_eq name (name_at k x.token)) (Some x) None)) i.is;
  };
}

-- a number that is neither of these
abbrev fresh : ℕ → Option ℕ → ℕ
fresh m None = suc m
fresh m (Some n) = suc (m + n)

not_name : (m : ℕ) (o : Option ℕ) → m ≡ fresh m o → ⊥
not_name m None e = let same : m ≡ suc m = e in omega (arith, same)
not_name m (Some n) e = let same : m ≡ suc (m + n) = e in omega (arith, same)

not_first : (m : ℕ) (o : Option ℕ) → o ≡ Some (fresh m o) → ⊥
not_first m None e = none-some (fresh m None) e
not_first m (Some n) e = let same : n ≡ suc (m + n) = same_Some n (fresh m (Some n)) e in omega (arith, same)

pub has_turn : (region name : ℕ) (d : Definition) (position : ℕ) (r : RoutineTree) (k : Known) → Has region name d k
    → Has region name d (define_routine region position r k).known
has_turn region name d position r k i =
    let o = completed_by k region (routine_heading r) (routine_body r) in
    let n = fresh (routine_name r) o in
    turn-keeps (has_closed region name d n) position r (not_name (routine_name r) o) k (not_first (routine_name r) o) i

has_after : (region name : ℕ) (d : Definition) (rs : List RoutineTree) (position : ℕ) (k : Known) → Has region name d k
    → Has region name d (each (define_routine region) position rs k).known
unfolding ◌>>=◌ give
has_after region name d [] position k i = i
has_after region name d (r ∷ rs) position k i =
    let e = define_routine region position r k in
    has_after region name d rs e.value e.known (has_turn region name d position r k i)

-- ---- what one heading tells of rule 2

asked_nine : (n : ℕ) (ok : Bool) → Each (Misses 2 n) (if ok then [] else broken_at 9 n ∷ [])
asked_nine n true = tt
asked_nine n false = (other_rule 9 n 2 n (λ e. omega (arith, e)), tt)

no_more : (b : Bool) (region name : ℕ) (d : Definition) (j : Known) → (when b (add_definition region name d) j).broken ≡ []
unfolding when change give
no_more true region name d j = refl
no_more false region name d j = refl

abbrev twice : ℕ → ℕ → Known → Definition → Option Definition → List Break
twice region n x d o = (if is_none o then [] else broken_at 2 n ∷ []) ++ (when (is_none o) (add_definition region (name_at x n) d) x).broken

told_by : (region n : ℕ) (x : Known) (d : Definition) (o : Option Definition) → In (broken_at 2 n) (twice region n x d o) → is_some o ≡ true
told_by region n x d None i = absurd (subst (λ (bs : List Break). In (broken_at 2 n) bs) (no_more true region (name_at x n) d x) i)
told_by region n x d (Some e) i = refl

told_two : (region n : ℕ) (x : Known) (d : Definition) (o : Option Definition) → defined_in x.regions region (name_at x n) ≡ o
    → In (broken_at 2 n) (twice region n x d (defined_in x.regions region (name_at x n))) → is_some o ≡ true
told_two region n x d o e i = sym (ap is_some e) ∙ told_by region n x d (defined_in x.regions region (name_at x n)) i

by_told : (region n : ℕ) (x : Known) (d : Definition) (o : Option Definition) → is_some o ≡ true → In (broken_at 2 n) (twice region n x d o)
by_told region n x d None some = absurd (let never : false ≡ true = some in cc)
by_told region n x d (Some e) some =
    in_left (broken_at 2 n) (broken_at 2 n ∷ []) (when false (add_definition region (name_at x n) d) x).broken (inl refl)

two_told : (region n : ℕ) (x : Known) (d : Definition) (o : Option Definition) → defined_in x.regions region (name_at x n) ≡ o → is_some o ≡ true
    → In (broken_at 2 n) (twice region n x d (defined_in x.regions region (name_at x n)))
two_told region n x d o e some = by_told region n x d (defined_in x.regions region (name_at x n)) (ap is_some e ∙ some)

-- a heading that defines its name
told_defining : (region : ℕ) (h : HeadingTree) (body : BodyTree) (x : Known) (o : Option Definition)
    → defined_in x.regions region (name_at x (heading_name h)) ≡ o
    → let bs = (defining region h body x).broken in let b = broken_at 2 (heading_name h) in
    (In b bs → is_some o ≡ true) × (is_some o ≡ true → In b bs)
unfolding defining define_heading define_in look ◌>>=◌ ask
told_defining region h body x o e =
    let n = heading_name h in
    let b = broken_at 2 n in
    let next = (when (is_none (defined_in x.regions region (name_at x n))) (add_definition region (name_at x n) (own_definition h)) x).known in
    let nine = if is_complete h then [] else broken_at 9 n ∷ [] in
    let ten = (directive_in h body next).broken in
    let two = (if is_none (defined_in x.regions region (name_at x n)) then [] else b ∷ [])
    ++ (when (is_none (defined_in x.regions region (name_at x n))) (add_definition region (name_at x n) (own_definition h)) x).broken in
    let allows = no_two (n + 1) n (λ s. omega (arith, s)) in
    let not_ten : In b ten → ⊥ = λ i. of_each (Misses 2 n) b ten ((directive_in-only allows h body).of next) i refl in
    let not_nine : In b nine → ⊥ = λ i. of_each (Misses 2 n) b nine (asked_nine n (is_complete h)) i refl in (
      (λ i. elim (in_either b (two ++ nine) ten i) [
        | inl l ↦ elim (in_either b two nine l) [
          | inl m ↦ told_two region n x (own_definition h) o e m
          | inr m ↦ absurd (not_nine m)
        ]
        | inr r ↦ absurd (not_ten r)
      ]),
      (λ some. in_left b (two ++ nine) ten (in_left b two nine (two_told region n x (own_definition h) o e some))),
    )

-- a heading that completes another breaks no rule 2
told_completing : (first position : ℕ) (h : HeadingTree) (x : Known) → In (broken_at 2 (heading_name h)) (completing first position h x).broken → ⊥
told_completing first position h x i =
    let n = heading_name h in
    let allows = no_two (n + 1) n (λ s. omega (arith, s)) in
    of_each (Misses 2 n) (broken_at 2 n) (completing first position h x).broken ((completing-only allows first position h).of x) i refl

-- whether a heading is told, by what it would complete
told_found : (region position : ℕ) (h : HeadingTree) (body : BodyTree) (x : Known) (o : Option ℕ)
    → let bs = (complete_or_define o region position h body x).broken in let b = broken_at 2 (heading_name h) in
    let defined = is_some (defined_in x.regions region (name_at x (heading_name h))) in
    (In b bs → (is_some o ≡ false) × (defined ≡ true)) × ((is_some o ≡ false) × (defined ≡ true) → In b bs)
told_found region position h body x None =
    let d = told_defining region h body x (defined_in x.regions region (name_at x (heading_name h))) refl in
    ((λ i. (refl, d.0 i)), (λ w. d.1 w.1))
told_found region position h body x (Some first) =
    ((λ i. absurd (told_completing first position h x i)), (λ w. absurd (let never : true ≡ false = w.0 in cc)))

told_turn : (region position : ℕ) (r : RoutineTree) (x : Known)
    → let bs = (define_routine region position r x).broken in let b = broken_at 2 (routine_name r) in
    let o = completed_by x region (routine_heading r) (routine_body r) in
    let defined = is_some (defined_in x.regions region (name_at x (routine_name r))) in
    (In b bs → (is_some o ≡ false) × (defined ≡ true)) × ((is_some o ≡ false) × (defined ≡ true) → In b bs)
unfolding define_routine look give ◌>>=◌
told_turn region position r x =
    let o = completed_by x region (routine_heading r) (routine_body r) in
    let s = complete_or_define o region position (routine_heading r) (routine_body r) x in
    let b = broken_at 2 (routine_name r) in
    let t = told_found region position (routine_heading r) (routine_body r) x o in (
      (λ i. elim (in_either b s.broken [] i) [
        | inl l ↦ t.0 l
        | inr n ↦ absurd n
      ]),
      (λ w. in_left b s.broken [] (t.1 w)),
    )

-- ---- what stays of a part's tables

record Base (k : Known) (region : ℕ) (j : Known) : Type 0 where
  words : j.words ≡ k.words
  there : region < length j.regions

base_closed : (k : Known) (region n : ℕ) → Closed region n (Base k region)
base_closed k region n = record {
  puts = λ j m r apart i. record { words = i.words; there = i.there };
  defines = λ j x apart none i. record { words = i.words; there = more_regions j region (name_at j x.token) x i.there };
}

base_turn : (k : Known) (region position : ℕ) (r : RoutineTree) (j : Known) → Base k region j → Base k region (define_routine region position r j).known
base_turn k region position r j i =
    let o = completed_by j region (routine_heading r) (routine_body r) in
    turn-keeps (base_closed k region (fresh (routine_name r) o)) position r (not_name (routine_name r) o) j (not_first (routine_name r) o) i

base_after : (k : Known) (region : ℕ) (rs : List RoutineTree) (position : ℕ) (j : Known) → Base k region j
    → Base k region (each (define_routine region) position rs j).known
unfolding ◌>>=◌ give
base_after k region [] position j i = i
base_after k region (r ∷ rs) position j i =
    let e = define_routine region position r j in
    base_after k region rs e.value e.known (base_turn k region position r j i)

-- ---- one heading of a name

when_put : (b : Bool) (m : ℕ) (r : Row) (j : Known) → (when b (put m r) j).known.regions ≡ j.regions
unfolding when change give
when_put true m r j = refl
when_put false m r j = refl

same_directive : (h : HeadingTree) (body : BodyTree) (j : Known) → (directive_in h body j).known.regions ≡ j.regions
unfolding directed look give ◌>>=◌ ask
same_directive h (tree.a_directive directive) j = when_put (is_forward j directive) (heading_name h) (Row.Part (PartRow.Forward (is_function h) None)) j
same_directive h (tree.a_block_body b) j = refl

-- what an undefined name completes: nothing
uncompleted : (h : HeadingTree) (body : BodyTree) (j : Known) (region : ℕ) → defined_in j.regions region (name_at j (heading_name h)) ≡ None
    → completed_by j region h body ≡ None
uncompleted h (tree.a_directive directive) j region none = refl
uncompleted h (tree.a_block_body b) j region none = ap (λ (o : Option Definition). awaiting j (is_function h) o) none

-- a definition where there was none
more_defined : (region name : ℕ) (d : Definition) (j : Known) (o : Option Definition) → region < length j.regions → defined_in j.regions region name ≡ o
    → o ≡ None → defined_in (when (is_none o) (add_definition region name d) j).known.regions region name ≡ Some d
unfolding when change give
more_defined region name d j None below e none =
    defined-more j region name name d below
    ∙ ap (λ (o : Option Definition). or_else o (cond (nat_eq name name) (Some d) None)) e
    ∙ ap (λ b. cond b (Some d) None) (eq-eqb name name refl)
more_defined region name d j (Some x) below e none = absurd (none-some x (sym none))

other_defined : (region name n : ℕ) (d : Definition) (j : Known) (o : Option Definition) → region < length j.regions → (n ≡ name → ⊥)
    → defined_in j.regions region n ≡ None → defined_in (when (is_none o) (add_definition region name d) j).known.regions region n ≡ None
unfolding when change give
other_defined region name n d j None below apart none =
    defined-more j region name n d below
    ∙ ap (λ (o : Option Definition). or_else o (cond (nat_eq n name) (Some d) None)) none
    ∙ ap (λ b. cond b (Some d) None) (ne_eqb n name apart)
other_defined region name n d j (Some x) below apart none = none

by_found : (region position : ℕ) (h : HeadingTree) (body : BodyTree) (j : Known) → region < length j.regions
    → defined_in j.regions region (name_at j (heading_name h)) ≡ None → (o : Option ℕ) → o ≡ None
    → defined_in (complete_or_define o region position h body j).known.regions region (name_at j (heading_name h)) ≡ Some (own_definition h)
unfolding defining define_heading define_in look ◌>>=◌ ask
by_found region position h body j below none None e =
    let name = name_at j (heading_name h) in
    let o = defined_in j.regions region name in
    let next = (when (is_none o) (add_definition region name (own_definition h)) j).known in
    ap (λ (rs : List RegionRows). defined_in rs region name) (same_directive h body next)
    ∙ more_defined region name (own_definition h) j o below refl none
by_found region position h body j below none (Some first) e = absurd (none-some first (sym e))

completed_regions : (first position : ℕ) (h : HeadingTree) (j : Known) → (completing first position h j).known.regions ≡ j.regions
completed_regions first position h j = (completing-keeps {I = λ (x : Known). x.regions ≡ j.regions} first position h (λ k i. i) (λ k i. i)).of j refl

other_found : (region position : ℕ) (h : HeadingTree) (body : BodyTree) (j : Known) (n : ℕ) → region < length j.regions → (n ≡ name_at j (heading_name h) → ⊥)
    → defined_in j.regions region n ≡ None → (o : Option ℕ) → defined_in (complete_or_define o region position h body j).known.regions region n ≡ None
unfolding defining define_heading define_in look ◌>>=◌ ask
other_found region position h body j n below apart none None =
    let name = name_at j (heading_name h) in
    let o = defined_in j.regions region name in
    let next = (when (is_none o) (add_definition region name (own_definition h)) j).known in
    ap (λ (rs : List RegionRows). defined_in rs region n) (same_directive h body next)
    ∙ other_defined region name n (own_definition h) j o below apart none
other_found region position h body j n below apart none (Some first) =
    ap (λ (rs : List RegionRows). defined_in rs region n) (completed_regions first position h j) ∙ none

-- the definition of a name, after its own heading
defined_turn : (region position : ℕ) (q : RoutineTree) (j : Known) → region < length j.regions
    → defined_in j.regions region (name_at j (routine_name q)) ≡ None
    → defined_in (define_routine region position q j).known.regions region (name_at j (routine_name q)) ≡ Some (own_definition (routine_heading q))
unfolding define_routine look give ◌>>=◌
defined_turn region position q j below none =
    by_found region position (routine_heading q) (routine_body q) j below none (completed_by j region (routine_heading q) (routine_body q))
    (uncompleted (routine_heading q)
    (routine_body q) j region none)

-- another name stays undefined
undefined_turn : (region position : ℕ) (q : RoutineTree) (j : Known) (n : ℕ) → region < length j.regions → (n ≡ name_at j (routine_name q) → ⊥)
    → defined_in j.regions region n ≡ None → defined_in (define_routine region position q j).known.regions region n ≡ None
unfolding define_routine look give ◌>>=◌
undefined_turn region position q j n below apart none = other_found region position (routine_heading q) (routine_body q) j n below apart none
    (completed_by j region (routine_heading q) (routine_body q))

-- ---- the first heading of a name, and those after it

-- it still waits if none of them has its block
waits_or_not : (k : Known) (region n name : ℕ) (function : Bool) (rs : List RoutineTree) (position : ℕ) (j : Known)
    → Each (λ (s : RoutineTree). routine_name s ≡ n → ⊥) rs → Awaiting k region n name function j
    → let x = (each (define_routine region) position rs j).known in
    let done = list_any (λ (s : RoutineTree). has_block_of k function name (routine_heading s) (routine_body s)) rs in
    (Awaiting k region n name function x × (done ≡ false)) ⊎ (Quiet k region n x × (done ≡ true))
unfolding ◌>>=◌ give
waits_or_not k region n name function [] position j apart i = inl (i, refl)
waits_or_not k region n name function (r ∷ rs) position j apart i =
    let d = define_routine region position r j in
    elim (has_block_of k function name (routine_heading r) (routine_body r)) as (λ c. has_block_of k function name (routine_heading r) (routine_body r) ≡ c
    → let x = (each (define_routine region) d.value rs d.known).known in
    let done = c || list_any (λ (s : RoutineTree). has_block_of k function name (routine_heading s) (routine_body s)) rs in
    (Awaiting k region n name function x × (done ≡ false)) ⊎ (Quiet k region n x × (done ≡ true))) [
      | true ↦ λ has. inr (quiet_after rs d.value d.known apart.1 (now_quiet position r j i has), refl)
      | false ↦ λ lacks. waits_or_not k region n name function rs d.value d.known apart.1 (still_awaiting position r j apart.0 i lacks)
    ] refl

-- no heading awaits a block where none waits
not_awaited : (g : Bool) (r : Row) → is_waiting r ≡ false → awaits g r ≡ false
not_awaited g (Row.Part (PartRow.Forward forward None)) quiet = absurd (let never : true ≡ false = quiet in cc)
not_awaited g (Row.Part (PartRow.Forward forward (Some x))) quiet = refl
not_awaited g r quiet = refl

-- nothing is completed where the definition waits for no block
settled : (x : Known) (region : ℕ) (h : HeadingTree) (body : BodyTree) (name : ℕ) (d : Definition) → name_at x (heading_name h) ≡ name
    → defined_in x.regions region name ≡ Some d → is_waiting (row_at x d.token) ≡ false → is_some (completed_by x region h body) ≡ false
settled x region h (tree.a_directive directive) name d same is quiet = refl
settled x region h (tree.a_block_body b) name d same is quiet =
    ap (λ m. is_some (awaiting x (is_function h) (defined_in x.regions region m))) same
    ∙ ap (λ (o : Option Definition). is_some (awaiting x (is_function h) o)) is
    ∙ ap (λ c. is_some (if c then Some d.token else None)) (not_awaited (is_function h) (row_at x d.token) quiet)

some_if : (b : Bool) (n : ℕ) → is_some (if b then Some n else None) ≡ b
some_if true n = refl
some_if false n = refl

abbrev kind_of : Bool → HeadingTree → Bool
kind_of function h = if function then is_function h else not (is_function h)

and_true : (b : Bool) → (b && true) ≡ b
and_true true = refl
and_true false = refl

awaited_body : (k : Known) (region : ℕ) (q : RoutineTree) (x : Known)
    → Awaiting k region (routine_name q) (name_at k (routine_name q)) (is_function (routine_heading q)) x → (h : HeadingTree) (body : BodyTree)
    → nat_eq (name_at k (routine_name q)) (name_at k (heading_name h)) ≡ true → is_some (completed_by x region h body)
    ≡ (is_block body && kind_of (is_function (routine_heading q)) h && nat_eq (name_at k (routine_name q)) (name_at k (heading_name h)))
awaited_body k region q x i h (tree.a_directive directive) named = refl
awaited_body k region q x i h (tree.a_block_body b) named =
    let one = same_spelling k x i.stays.words (heading_name h) ∙ sym (eqb-true (name_at k (routine_name q)) (name_at k (heading_name h)) named) in
    ap is_some (completed_own x i h b one) ∙ some_if (kind_of (is_function (routine_heading q)) h) (routine_name q)
    ∙ sym (and_true (kind_of (is_function (routine_heading q)) h)) ∙ ap (λ c. kind_of (is_function (routine_heading q)) h && c) (sym named)

-- whether it is completed, where the first heading waits
awaited_by : (k : Known) (region : ℕ) (q r : RoutineTree) (x : Known)
    → Awaiting k region (routine_name q) (name_at k (routine_name q)) (is_function (routine_heading q)) x
    → nat_eq (name_at k (routine_name q)) (name_at k (routine_name r)) ≡ true
    → is_some (completed_by x region (routine_heading r) (routine_body r)) ≡ completes k q r
awaited_by k region q r x i same = awaited_body k region q x i (routine_heading r) (routine_body r) same

-- ---- the headings before one

record Found (k : Known) (region : ℕ) (r : RoutineTree) (rest : List RoutineTree) (x : Known) : Type 0 where
  named : is_some (defined_in x.regions region (name_at k (routine_name r))) ≡ is_named k rest r
  second : is_some (completed_by x region (routine_heading r) (routine_body r)) ≡ is_second k rest r

and_false : (a b : Bool) → (a && (b && false)) ≡ false
and_false true true = refl
and_false true false = refl
and_false false b = refl

and_same : (b : Bool) → (true && (b && true)) ≡ b
and_same true = refl
and_same false = refl

-- the first heading of the name was met, and leads to these tables
met : (k : Known) (region : ℕ) (r q : RoutineTree) (qs : List RoutineTree) (x : Known) → Base k region x
    → nat_eq (name_at k (routine_name q)) (name_at k (routine_name r)) ≡ true
    → Has region (name_at k (routine_name q)) (own_definition (routine_heading q)) x → (forward : Bool)
    → (((Awaiting k region (routine_name q) (name_at k (routine_name q)) (is_function (routine_heading q)) x
    × (are_completing k q qs ≡ false)) × (forward ≡ true))
    ⊎ (Quiet k region (routine_name q) x × ((forward ≡ false) ⊎ (are_completing k q qs ≡ true))))
    → is_some (completed_by x region (routine_heading r) (routine_body r)) ≡ (forward && (completes k q r && not (are_completing k q qs)))
met k region r q qs x base same has forward (inl a) =
    awaited_by k region q r x a.0.0 same ∙ sym (ap (λ f. f && (completes k q r && not (are_completing k q qs))) a.1
    ∙ ap (λ c. true && (completes k q r && not c)) a.0.1 ∙ and_same (completes k q r))
met k region r q qs x base same has forward (inr a) =
    let one = same_spelling k x base.words (routine_name r) ∙ sym (eqb-true (name_at k (routine_name q)) (name_at k (routine_name r)) same) in
    settled x region (routine_heading r) (routine_body r) (name_at k (routine_name q)) (own_definition (routine_heading q)) one has.is a.0.quiet
    ∙ sym (elim a.1 [
      | inl none ↦ ap (λ f. f && (completes k q r && not (are_completing k q qs))) none
      | inr done ↦ ap (λ c. forward && (completes k q r && not c)) done ∙ and_false forward (completes k q r)
    ])

news_turn : (k : Known) (region position : ℕ) (s : RoutineTree) (j : Known) (rest : List RoutineTree)
    → Each (λ (q : RoutineTree). New k region (routine_name q) j) rest
    → Each (λ (q : RoutineTree). routine_name q ≡ routine_name s → ⊥) rest
    → Each (λ (q : RoutineTree). New k region (routine_name q) (define_routine region position s j).known) rest
news_turn k region position s j [] news apart = tt
news_turn k region position s j (q ∷ qs) news apart = (
  turn-keeps new-closed position s (λ e. apart.0 (sym e)) j (completed_elsewhere region (routine_name q) j news.0.elsewhere (routine_heading s)
      (routine_body s)) news.0,
  news_turn k region position s j qs news.1 apart.1,
)

-- what the first heading of the name leaves
waiting_or_not : (k : Known) (region position : ℕ) (q : RoutineTree) (qs : List RoutineTree) (j : Known) → Base k region j → New k region (routine_name q) j
    → Each (λ (s : RoutineTree). routine_name s ≡ routine_name q → ⊥) qs → defined_in j.regions region (name_at j (routine_name q)) ≡ None
    → (f : Bool) → has_forward k (routine_body q) ≡ f
    → let d = define_routine region position q j in let x = (each (define_routine region) d.value qs d.known).known in
    ((Awaiting k region (routine_name q) (name_at k (routine_name q)) (is_function (routine_heading q)) x
    × (are_completing k q qs ≡ false)) × (f ≡ true))
    ⊎ (Quiet k region (routine_name q) x × ((f ≡ false) ⊎ (are_completing k q qs ≡ true)))
unfolding define_routine look give ◌>>=◌
waiting_or_not k region position q qs j base new apart none false lacks =
    let d = define_routine region position q j in
    inr (quiet_after qs d.value d.known apart (quiet_turn j position (routine_heading q) (routine_body q) new lacks), inl refl)
waiting_or_not k region position q qs j base new apart none true forward =
    let d = define_routine region position q j in
    let done = complete_or_define (completed_by j region (routine_heading q) (routine_body q)) region position (routine_heading q) (routine_body q) j in
    let P : ℕ → Type 0 = λ m. Turned k region (routine_name q) m (is_function (routine_heading q)) done.known done.broken in
    let t = subst P (same_spelling k j base.words (routine_name q)) (own_turn j position (routine_heading q) (routine_body q) new forward) in
    elim t [
      | inl a ↦ elim (waits_or_not k region (routine_name q) (name_at k (routine_name q)) (is_function (routine_heading q)) qs d.value done.known apart a.0) [
        | inl w ↦ inl (w, refl)
        | inr w ↦ inr (w.0, inr w.1)
      ]
      | inr l ↦
          let told = (told_found region position (routine_heading q) (routine_body q) j (completed_by j region (routine_heading q) (routine_body q))).0 l.1 in
          absurd (let never : false ≡ true = sym (ap is_some none) ∙ told.1 in cc)
    ]

step : (k : Known) (region position : ℕ) (r q : RoutineTree) (qs : List RoutineTree) (j : Known) → Base k region j → New k region (routine_name q) j
    → Each (λ (s : RoutineTree). routine_name s ≡ routine_name q → ⊥) qs → defined_in j.regions region (name_at k (routine_name r)) ≡ None
    → let d = define_routine region position q j in let x = (each (define_routine region) d.value qs d.known).known in
    (defined_in d.known.regions region (name_at k (routine_name r)) ≡ None → Found k region r qs x)
    → (b : Bool) → nat_eq (name_at k (routine_name q)) (name_at k (routine_name r)) ≡ b → Found k region r (q ∷ qs) x
step k region position r q qs j base new apart none later false other =
    let differs = eqb-false (name_at k (routine_name q)) (name_at k (routine_name r)) other in
    let nj = same_spelling k j base.words (routine_name q) in
    let f = later (undefined_turn region position q j (name_at k (routine_name r)) base.there (λ e. differs (sym nj ∙ sym e)) none) in
    record {
      named = f.named ∙ sym (ap (λ b. b || is_named k qs r) other);
      second =
          f.second ∙ sym (ap (λ b. if b then has_forward k (routine_body q) && (completes k q r && not (are_completing k q qs)) else is_second k qs r) other);
    }
step k region position r q qs j base new apart none later true same =
    let e = eqb-true (name_at k (routine_name q)) (name_at k (routine_name r)) same in
    let nj = same_spelling k j base.words (routine_name q) in
    let d = define_routine region position q j in
    let x = (each (define_routine region) d.value qs d.known).known in
    let undefined : defined_in j.regions region (name_at j (routine_name q)) ≡ None = ap (defined_in j.regions region) (nj ∙ e) ∙ none in
    let own = own_definition (routine_heading q) in
    let here : Has region (name_at k (routine_name q)) own d.known = record {
      there = (base_turn k region position q j base).there;
      is = ap (defined_in d.known.regions region) (sym nj) ∙ defined_turn region position q j base.there undefined;
    } in
    let has = has_after region (name_at k (routine_name q)) own qs d.value d.known here in
    let all = base_after k region qs d.value d.known (base_turn k region position q j base) in
    let status = waiting_or_not k region position q qs j base new apart undefined (has_forward k (routine_body q)) refl in
    record {
      named = ap (λ m. is_some (defined_in x.regions region m)) (sym e) ∙ ap is_some has.is ∙ sym (ap (λ b. b || is_named k qs r) same);
      second = met k region r q qs x all same has (has_forward k (routine_body q)) status
          ∙ sym (ap (λ b. if b then has_forward k (routine_body q) && (completes k q r && not (are_completing k q qs)) else is_second k qs r) same);
    }

none_before : (k : Known) (region : ℕ) (r : RoutineTree) (j : Known) → Base k region j → defined_in j.regions region (name_at k (routine_name r)) ≡ None
    → Found k region r [] j
none_before k region r j base none = record {
  named = ap is_some none;
  second = ap is_some (uncompleted (routine_heading r) (routine_body r) j region
      (ap (defined_in j.regions region) (same_spelling k j base.words (routine_name r)) ∙ none));
}

search : (k : Known) (region : ℕ) (r : RoutineTree) (rest : List RoutineTree) (position : ℕ) (j : Known) → Base k region j
    → defined_in j.regions region (name_at k (routine_name r)) ≡ None → Each (λ (q : RoutineTree). New k region (routine_name q) j) rest → DifferAll rest
    → Found k region r rest (each (define_routine region) position rest j).known
unfolding ◌>>=◌ give
search k region r [] position j base none news differ = none_before k region r j base none
search k region r (q ∷ qs) position j base none news differ =
    let d = define_routine region position q j in
    let apart = apart_of (routine_name q) qs differ.0 in
    step k region position r q qs j base news.0 apart none
    (λ undefined. search k region r qs d.value d.known (base_turn k region position q j base) undefined
    (news_turn k region position q j qs news.1 apart) differ.1)
    (nat_eq (name_at k (routine_name q)) (name_at k (routine_name r))) refl

-- ---- the law

news_of : (k : Known) (region : ℕ) (rs : List RoutineTree) → region < length k.regions → All (λ q. IsNew k region (routine_name q)) rs
    → Each (λ (q : RoutineTree). New k region (routine_name q) k) rs
news_of k region [] there news = tt
news_of k region (q ∷ qs) there news =
    let P : RoutineTree → Type 0 = λ s. IsNew k region (routine_name s) in
    let new = All-head P q qs news in (
      record {
        stays = record { words = refl; names = refl; region_there = there; row_there = new.row };
        elsewhere = new.undefined;
        quiet = new.quiet;
      },
      news_of k region qs there (All-tail P q qs news),
    )

old_apart : (k : Known) (region name : ℕ) (d : Definition) (rs : List RoutineTree) → All (λ q. IsNew k region (routine_name q)) rs
    → defined_in k.regions region name ≡ Some d → Each (λ (q : RoutineTree). routine_name q ≡ d.token → ⊥) rs
old_apart k region name d [] news e = tt
old_apart k region name d (q ∷ qs) news e =
    let P : RoutineTree → Type 0 = λ s. IsNew k region (routine_name s) in
    ((λ same. (All-head P q qs news).undefined name d e (sym same)), old_apart k region name d qs (All-tail P q qs news) e)

-- what is told at the heading's own turn
own_told : (k : Known) (region : ℕ) (before : List RoutineTree) (r : RoutineTree) (after : List RoutineTree) → IsPartBegun k region before r after
    → (o : Option Definition) → defined_in k.regions region (name_at k (routine_name r)) ≡ o
    → let x = (each (define_routine region) 0 before k).known in let position = (each (define_routine region) 0 before k).value in
    let bs = (define_routine region position r x).broken in
    (In (broken_at 2 (routine_name r)) bs → IsDefinedAgain k region before r) × (IsDefinedAgain k region before r → In (broken_at 2 (routine_name r)) bs)
own_told k region before r after begun (Some d) e =
    let name = name_at k (routine_name r) in
    let x = (each (define_routine region) 0 before k).known in
    let position = (each (define_routine region) 0 before k).value in
    let base = base_after k region before 0 k (record { words = refl; there = begun.there }) in
    let same = same_spelling k x base.words (routine_name r) in
    let has = has_after region name d before 0 k (record { there = begun.there; is = e }) in
    let old = begun.old name d e in
    let quiet = quiet_after {k0 = k} before 0 k (old_apart k region name d before begun.new e)
    (record { stays = record { words = refl; names = refl; region_there = begun.there; row_there = old.row }; quiet = old.quiet }) in
    let t = told_turn region position r x in
    let alone = settled x region (routine_heading r) (routine_body r) name d same has.is quiet.quiet in
    let some : is_some (defined_in x.regions region (name_at x (routine_name r))) ≡ true
    = ap (λ m. is_some (defined_in x.regions region m)) same ∙ ap is_some has.is in
    ((λ i. inl (ap is_some e)), (λ w. t.1 (alone, some)))
own_told k region before r after begun None e =
    let name = name_at k (routine_name r) in
    let x = (each (define_routine region) 0 before k).known in
    let position = (each (define_routine region) 0 before k).value in
    let base0 : Base k region k = record { words = refl; there = begun.there } in
    let base = base_after k region before 0 k base0 in
    let same = same_spelling k x base.words (routine_name r) in
    let f = search k region r before 0 k base0 e (news_of k region before begun.there begun.new) begun.differ in
    let t = told_turn region position r x in
    let at = ap (λ m. is_some (defined_in x.regions region m)) same in (
      (λ i. let q = t.0 i in inr (sym f.named ∙ sym at ∙ q.1, sym f.second ∙ q.0)),
      (λ w. elim w [
        | inl old ↦ absurd (let never : false ≡ true = sym (ap is_some e) ∙ old in cc)
        | inr v ↦ t.1 (f.second ∙ v.1, at ∙ f.named ∙ v.0)
      ]),
    )

-- the same of the list of the routines
listed_law : (k : Known) (region : ℕ) (before : List RoutineTree) (r : RoutineTree) (after : List RoutineTree)
    → IsPartBegun k region before r after
    → Contains (part_steps region (before ++ r ∷ after) k).broken (broken_at 2 (routine_name r)) ↔ IsDefinedAgain k region before r
unfolding ◌>>=◌ give
listed_law k region before r after begun =
    let n = routine_name r in
    let rs = before ++ r ∷ after in
    let b = broken_at 2 n in
    let first = each (define_routine region) 0 before k in
    let d = define_routine region first.value r first.known in
    let a = each (define_routine region) d.value after d.known in
    let whole = each (define_routine region) 0 rs k in
    let told = each has_each tt rs whole.known in
    let broken : whole.broken ≡ first.broken ++ (d.broken ++ a.broken) = each_broken (define_routine region) 0 before (r ∷ after) k in
    let no_first : In b first.broken → ⊥ = λ i. of_each (Misses 2 n) b first.broken
    (turns_only (Misses 2 n) region before 0 k (all_no_two n before (apart_of n before begun.one.others_before))) i refl in
    let no_after : In b a.broken → ⊥ = λ i. of_each (Misses 2 n) b a.broken
    (turns_only (Misses 2 n) region after d.value d.known (all_no_two n after (apart_of n after begun.one.others_after))) i refl in
    let no_told : In b told.broken → ⊥ = λ i. of_each (Misses 2 n) b told.broken (only_eight n rs whole.known) i refl in
    let own = own_told k region before r after begun (defined_in k.regions region (name_at k n)) refl in (
      (λ c. elim (in_either b whole.broken told.broken (found b (whole.broken ++ told.broken) c)) [
        | inl i ↦ elim (in_either b first.broken (d.broken ++ a.broken) (subst (λ (bs : List Break). In b bs) broken i)) [
          | inl l ↦ absurd (no_first l)
          | inr m ↦ elim (in_either b d.broken a.broken m) [
            | inl l ↦ own.0 l
            | inr l ↦ absurd (no_after l)
          ]
        ]
        | inr i ↦ absurd (no_told i)
      ]),
      (λ w. contained b (whole.broken ++ told.broken) (in_left b whole.broken told.broken
          (subst (λ (bs : List Break). In b bs) (sym broken) (in_right b first.broken (d.broken ++ a.broken) (in_left b d.broken a.broken (own.1 w)))))),
    )

pub second_law : PartsTellSecondHeadings
second_law k region rs before r after same begun =
    let P : Step (Unit {0}) → Type 0 = λ m. Contains (m k).broken (broken_at 2 (routine_name r)) ↔ IsDefinedAgain k region before r in
    subst P (sym (part_listed region rs ∙ ap (part_steps region) same)) (listed_law k region before r after begun)
