-- At which tokens the headings of a part break rules.
use Rattle.std.proofs.Common.{◌+◌, ◌≡◌, ℕ, Bool, None, Option, Some, ap, arith, false, is_none, min, not, true}
use Rattle.pas_tree.specs.{HeadingPlaces.heading_name, HeadingTrees.HeadingTree, HeadingTrees.HeldFormals, declared.headings.ResultType.ResultType}
use Rattle.pas_tree.specs.BlockTrees.{BodyTree, RoutineTree, routine_body, routine_heading}
use Rattle.pas_tree.specs.BlockTrees as tree
use Rattle.pas_tree.specs.HeadingTrees as headings
use Rattle.check_steps.specs.{Breaks.number, Known.Known, Known.name_at, Known.row_at, Names.define_in, Regions.defined_in}
use Rattle.check_steps.specs.Steps.{◌>>=◌, Step, ask, change, give, look, when}
use Rattle.check_steps.specs.declared.breaks.{Break.Break, Broken.Broken, Broken.TheVariants.Early}
use Rattle.check_steps.specs.declared.regions.{Def.Def, Definition.Definition}
use Rattle.denoter_checker.specs.Formals.{formals_of, is_complete, opening_parenthesis, result_of}
use Rattle.denoter_checker.specs.RoutineParts.{complete_or_define, completed_by, completing, define_heading, define_routine, defining, directed, directive_in}
use Rattle.denoter_checker.specs.RoutineParts.{has_block, is_forward, is_waiting, no_result, routine_name, without_formals}
use Rattle.rule_laws.proofs.Breaks.{Each, both}
use Rattle.rule_laws.specs.Laws.{broken_at}

pub record Only (P : Break → Type 0) {A : Type 0} (m : Step A) : Type 0 where
  pub of : (k : Known) → Each P (m k).broken

pub bind-only : {P : Break → Type 0} {A B : Type 0} {m : Step A} {f : A → Step B} → Only P m → ((a : A) → Only P (f a)) → Only P (m >>= f)
unfolding ◌>>=◌
bind-only {P = P} {m = m} {f = f} h g = record {
  of = λ k. let d = m k in both P d.broken (f d.value d.known).broken (h.of k) ((g d.value).of d.known);
}

pub give-only : {P : Break → Type 0} {A : Type 0} (x : A) → Only P (give x)
unfolding give
give-only x = record { of = λ k. tt }

pub look-only : {P : Break → Type 0} {A : Type 0} (f : Known → A) → Only P (look f)
unfolding look
look-only f = record { of = λ k. tt }

pub change-only : {P : Break → Type 0} (f : Known → Known) → Only P (change f)
unfolding change
change-only f = record { of = λ k. tt }

pub ask-only : {P : Break → Type 0} (what : Broken) (token : ℕ) (ok : Bool) → P (record { broken = what; token = token }) → Only P (ask what token ok)
unfolding ask
ask-only what token true h = record { of = λ k. tt }
ask-only what token false h = record { of = λ k. (h, tt) }

pub when-only : {P : Break → Type 0} (ok : Bool) {m : Step (Unit {0})} → Only P m → Only P (when ok m)
unfolding when
when-only true h = h
when-only false h = give-only tt

-- ---- headings

-- what holds of rule 2 at a name, and of other rules than 2 and 8 anywhere
pub record Allows (P : Break → Type 0) (name : ℕ) : Type 0 where
  pub twice : P (broken_at 2 name)
  pub other : (rule token : ℕ) → (rule ≡ 2 → ⊥) → (rule ≡ 8 → ⊥) → P (broken_at rule token)

nine : {P : Break → Type 0} {name : ℕ} → Allows P name → (token : ℕ) → P (broken_at 9 token)
nine a token = a.other 9 token (λ e. omega (arith, e)) (λ e. omega (arith, e))

ten : {P : Break → Type 0} {name : ℕ} → Allows P name → (token : ℕ) → P (broken_at 10 token)
ten a token = a.other 10 token (λ e. omega (arith, e)) (λ e. omega (arith, e))

pub define_in-only : {P : Break → Type 0} (region : ℕ) (d : Definition) → P (broken_at 2 d.token) → Only P (define_in region d)
unfolding define_in
define_in-only region d twice = bind-only (look-only (λ k. name_at k d.token)) (λ name. bind-only (look-only (λ k. defined_in k.regions region name))
    (λ held. bind-only (ask-only (Early 2) d.token (is_none held) twice) (λ _. when-only (is_none held) (change-only _))))

define_heading-only : {P : Break → Type 0} (region : ℕ) (h : HeadingTree) → Allows P (heading_name h) → Only P (define_heading region h)
unfolding define_heading
define_heading-only region h a =
    bind-only (define_in-only region (record { def = Def.Routine (heading_name h); token = heading_name h; end = heading_name h }) a.twice)
    (λ _. ask-only (Early 9) (heading_name h) (is_complete h) (nine a (heading_name h)))

pub directed-only : {P : Break → Type 0} {name : ℕ} → Allows P name → (h : HeadingTree) (directive : ℕ) → Only P (directed h directive)
unfolding directed
directed-only a h directive = bind-only (look-only (λ k. is_forward k directive)) (λ forward.
    bind-only (ask-only (Early 10) directive forward (ten a directive)) (λ _. when-only forward (change-only _)))

pub directive_in-only : {P : Break → Type 0} {name : ℕ} → Allows P name → (h : HeadingTree) (body : BodyTree) → Only P (directive_in h body)
directive_in-only a h (tree.a_directive directive) = directed-only a h directive
directive_in-only a h (tree.a_block_body b) = give-only tt

without_formals-only : {P : Break → Type 0} {name : ℕ} → Allows P name → (formals : HeldFormals) → Only P (without_formals formals)
without_formals-only a headings.without_formals = give-only tt
without_formals-only a (headings.some_formals f) = ask-only (Early 9) (opening_parenthesis f) false (nine a (opening_parenthesis f))

no_result-only : {P : Break → Type 0} {name : ℕ} → Allows P name → (result : Option ResultType) → Only P (no_result result)
no_result-only a None = give-only tt
no_result-only a (Some r) = ask-only (Early 9) r.colon false (nine a r.colon)

pub completing-only : {P : Break → Type 0} {name : ℕ} → Allows P name → (first position : ℕ) (h : HeadingTree) → Only P (completing first position h)
unfolding completing
completing-only a first position h = bind-only (without_formals-only a (formals_of h)) (λ _. bind-only (no_result-only a (result_of h)) (λ _.
    bind-only (change-only _) (λ _. change-only _)))

defining-only : {P : Break → Type 0} (region : ℕ) (h : HeadingTree) (body : BodyTree) → Allows P (heading_name h) → Only P (defining region h body)
unfolding defining
defining-only region h body a = bind-only (define_heading-only region h a) (λ _. directive_in-only a h body)

as_found-only : {P : Break → Type 0} (o : Option ℕ) (region position : ℕ) (h : HeadingTree) (body : BodyTree) → Allows P (heading_name h)
    → Only P (complete_or_define o region position h body)
as_found-only None region position h body a = defining-only region h body a
as_found-only (Some first) region position h body a = completing-only a first position h

pub turn-only : {P : Break → Type 0} (region position : ℕ) (r : RoutineTree) → Allows P (routine_name r) → Only P (define_routine region position r)
unfolding define_routine
turn-only region position r a = bind-only (look-only (λ k. completed_by k region (routine_heading r) (routine_body r))) (λ first.
    bind-only (as_found-only first region position (routine_heading r) (routine_body r) a) (λ _. give-only (min (position + 1) 4294967295)))

pub has_block-only : {P : Break → Type 0} (r : RoutineTree) → P (broken_at 8 (routine_name r)) → Only P (has_block r)
unfolding has_block
has_block-only r eighth = bind-only (look-only (λ k. is_waiting (row_at k (routine_name r)))) (λ waiting.
    ask-only (Early 8) (routine_name r) (not waiting) eighth)

-- ---- what is not broken at a token

-- another rule, or another token
pub other_rule : (rule token rule' token' : ℕ) → (rule ≡ rule' → ⊥) → broken_at rule token ≡ broken_at rule' token' → ⊥
other_rule rule token rule' token' apart e = apart (ap (λ (b : Break). number b.broken) e)

pub other_token : (rule token rule' token' : ℕ) → (token ≡ token' → ⊥) → broken_at rule token ≡ broken_at rule' token' → ⊥
other_token rule token rule' token' apart e = apart (ap (λ (b : Break). b.token) e)

abbrev pub Misses : ℕ → ℕ → Break → Type 0
Misses rule token b = b ≡ broken_at rule token → ⊥

pub no_eight : (name token : ℕ) → Allows (Misses 8 token) name
no_eight name token = record {
  twice = other_rule 2 name 8 token (λ e. omega (arith, e));
  other = λ rule at two eight. other_rule rule at 8 token eight;
}

pub no_two : (name token : ℕ) → (name ≡ token → ⊥) → Allows (Misses 2 token) name
no_two name token apart = record {
  twice = other_token 2 name 2 token apart;
  other = λ rule at two eight. other_rule rule at 2 token two;
}
