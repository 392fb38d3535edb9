-- What the headings of a part keep that are not at one name.
use Rattle.std.proofs.Common.{◌≡◌, ℕ, Bool, None, Option, Some, ap, false, is_none, refl, true}
use Rattle.pas_tree.specs.{HeadingPlaces.heading_name, HeadingTrees.HeadingTree, HeadingTrees.HeldFormals, declared.headings.ResultType.ResultType}
use Rattle.pas_tree.specs.BlockTrees.{BodyTree, RoutineTree, routine_body, routine_heading}
use Rattle.pas_tree.specs.BlockTrees as tree
use Rattle.pas_tree.specs.HeadingTrees as headings
use Rattle.core_program.specs.declared.rows.{PartRow.PartRow, Row.Row}
use Rattle.check_steps.specs.{Known.Known, Known.and_definition, Known.name_at, Known.with_row, Names.define_in, Regions.defined_in}
use Rattle.check_steps.specs.Steps.{◌>>=◌, Step, add_definition, ask, change, give, look, put, when}
use Rattle.check_steps.specs.declared.{breaks.Broken.Broken, regions.Def.Def, regions.Definition.Definition}
use Rattle.denoter_checker.specs.Formals.{formals_of, is_complete, is_function, opening_parenthesis, result_of}
use Rattle.denoter_checker.specs.RoutineParts.{complete_or_define, completed_by, completing, define_heading, define_routine, defining, directed, directive_in}
use Rattle.denoter_checker.specs.RoutineParts.{is_forward, no_result, routine_name, without_formals}

pub record Keeps (I : Known → Type 0) {A : Type 0} (m : Step A) : Type 0 where
  pub of : (k : Known) → I k → I (m k).known

-- what rows at other numbers and definitions at other tokens leave as it is
pub record Closed (region n : ℕ) (I : Known → Type 0) : Type 0 where
  pub puts : (k : Known) (m : ℕ) (r : Row) → (m ≡ n → ⊥) → I k → I (with_row k m r)
  pub defines : (k : Known) (d : Definition) → (d.token ≡ n → ⊥) → defined_in k.regions region (name_at k d.token) ≡ None → I k
      → I (and_definition k region (name_at k d.token) d)

pub bind-keeps : {I : Known → Type 0} {A B : Type 0} {m : Step A} {f : A → Step B} → Keeps I m → ((a : A) → Keeps I (f a)) → Keeps I (m >>= f)
unfolding ◌>>=◌
bind-keeps {m = m} h g = record { of = λ k i. let d = m k in (g d.value).of d.known (h.of k i) }

pub give-keeps : {I : Known → Type 0} {A : Type 0} (x : A) → Keeps I (give x)
unfolding give
give-keeps x = record { of = λ k i. i }

pub look-keeps : {I : Known → Type 0} {A : Type 0} (f : Known → A) → Keeps I (look f)
unfolding look
look-keeps f = record { of = λ k i. i }

pub ask-keeps : {I : Known → Type 0} (what : Broken) (token : ℕ) (ok : Bool) → Keeps I (ask what token ok)
unfolding ask
ask-keeps what token ok = record { of = λ k i. i }

pub put-keeps : {I : Known → Type 0} (m : ℕ) (r : Row) → ((k : Known) → I k → I (with_row k m r)) → Keeps I (put m r)
unfolding change
put-keeps m r h = record { of = h }

pub when-keeps : {I : Known → Type 0} (ok : Bool) {m : Step (Unit {0})} → Keeps I m → Keeps I (when ok m)
unfolding when
when-keeps true h = h
when-keeps false h = give-keeps tt

-- ---- definitions

when_free : {region n : ℕ} {I : Known → Type 0} → Closed region n I → (k : Known) (d : Definition) → (d.token ≡ n → ⊥) → (o : Option Definition)
    → defined_in k.regions region (name_at k d.token) ≡ o → I k → I (when (is_none o) (add_definition region (name_at k d.token) d) k).known
unfolding when change give
when_free c k d apart None e i = c.defines k d apart e i
when_free c k d apart (Some x) e i = i

pub define_in-keeps : {region n : ℕ} {I : Known → Type 0} → Closed region n I → (d : Definition) → (d.token ≡ n → ⊥) → Keeps I (define_in region d)
unfolding define_in look ◌>>=◌ ask
define_in-keeps {region = region} c d apart = record { of = λ k i. when_free c k d apart (defined_in k.regions region (name_at k d.token)) refl i }

pub define_heading-keeps : {region n : ℕ} {I : Known → Type 0} → Closed region n I → (h : HeadingTree) → (heading_name h ≡ n → ⊥)
    → Keeps I (define_heading region h)
unfolding define_heading
define_heading-keeps c h apart =
    bind-keeps (define_in-keeps c (record { def = Def.Routine (heading_name h); token = heading_name h; end = heading_name h }) apart)
    (λ _. ask-keeps _ (heading_name h) (is_complete h))

directed-keeps : {region n : ℕ} {I : Known → Type 0} → Closed region n I → (h : HeadingTree) (directive : ℕ) → (heading_name h ≡ n → ⊥)
    → Keeps I (directed h directive)
unfolding directed
directed-keeps c h directive apart = bind-keeps (look-keeps (λ k. is_forward k directive)) (λ forward. bind-keeps (ask-keeps _ directive forward) (λ _.
    when-keeps forward (put-keeps (heading_name h) (Row.Part (PartRow.Forward (is_function h) None)) (λ k i.
    c.puts k (heading_name h) (Row.Part (PartRow.Forward (is_function h) None)) apart i))))

pub directive_in-keeps : {region n : ℕ} {I : Known → Type 0} → Closed region n I → (h : HeadingTree) (body : BodyTree) → (heading_name h ≡ n → ⊥)
    → Keeps I (directive_in h body)
directive_in-keeps c h (tree.a_directive directive) apart = directed-keeps c h directive apart
directive_in-keeps c h (tree.a_block_body b) apart = give-keeps tt

pub defining-keeps : {region n : ℕ} {I : Known → Type 0} → Closed region n I → (h : HeadingTree) (body : BodyTree) → (heading_name h ≡ n → ⊥)
    → Keeps I (defining region h body)
unfolding defining
defining-keeps c h body apart = bind-keeps (define_heading-keeps c h apart) (λ _. directive_in-keeps c h body apart)

-- ---- completions

pub without_formals-keeps : {I : Known → Type 0} (formals : HeldFormals) → Keeps I (without_formals formals)
without_formals-keeps headings.without_formals = give-keeps tt
without_formals-keeps (headings.some_formals f) = ask-keeps _ (opening_parenthesis f) _

pub no_result-keeps : {I : Known → Type 0} (result : Option ResultType) → Keeps I (no_result result)
no_result-keeps None = give-keeps tt
no_result-keeps (Some r) = ask-keeps _ r.colon _

pub completing-keeps : {I : Known → Type 0} (first position : ℕ) (h : HeadingTree)
    → ((k : Known) → I k → I (with_row k first (Row.Part (PartRow.Forward (is_function h) (Some position)))))
    → ((k : Known) → I k → I (with_row k (heading_name h) (Row.Part (PartRow.Completing first)))) → Keeps I (completing first position h)
unfolding completing
completing-keeps first position h at_first at_own = bind-keeps (without_formals-keeps (formals_of h)) (λ _. bind-keeps (no_result-keeps (result_of h)) (λ _.
    bind-keeps (put-keeps first (Row.Part (PartRow.Forward (is_function h) (Some position))) at_first) (λ _.
    put-keeps (heading_name h) (Row.Part (PartRow.Completing first)) at_own)))

-- ---- one routine

as_found : {region n : ℕ} {I : Known → Type 0} → Closed region n I → (position : ℕ) (h : HeadingTree) (body : BodyTree) → (heading_name h ≡ n → ⊥)
    → (o : Option ℕ) → (o ≡ Some n → ⊥) → Keeps I (complete_or_define o region position h body)
as_found c position h body apart None other = defining-keeps c h body apart
as_found c position h body apart (Some first) other = completing-keeps first position h
    (λ k i. c.puts k first (Row.Part (PartRow.Forward (is_function h) (Some position))) (λ e. other (ap Some e)) i)
    (λ k i. c.puts k (heading_name h) (Row.Part (PartRow.Completing first)) apart i)

-- a routine with another name, which does not complete what stands there
pub turn-keeps : {region n : ℕ} {I : Known → Type 0} → Closed region n I → (position : ℕ) (r : RoutineTree) → (routine_name r ≡ n → ⊥) → (k : Known)
    → (completed_by k region (routine_heading r) (routine_body r) ≡ Some n → ⊥) → I k → I (define_routine region position r k).known
unfolding define_routine look give ◌>>=◌
turn-keeps {region = region} c position r apart k other i =
    (as_found c position (routine_heading r) (routine_body r) apart (completed_by k region (routine_heading r) (routine_body r)) other).of k i
