-- The forward headings of a text's blocks, also of those that are the blocks of forward headings.
use Rattle.std.proofs.Common.{◌<◌, ◌^◌, ◌∙◌, ◌≡◌, ◌⊎◌, ℕ, Bool, List, Option, Some, arith, false, inl, inr, length, nat_lt, refl, subst, sym, true}
use Rattle.std.proofs.lemmas.Bool.Decides.{nat_tests}
use Rattle.pas_tree.specs.BlockTrees.{BlockTree, BodyTree, RoutineTree, RoutineTrees, routine_body, routine_heading}
use Rattle.pas_tree.specs.BlockTrees as tree
use Rattle.check_steps.specs.{Known.Known, Steps.◌>>=◌, Steps.look, Words.known_at_start, declared.breaks.Break.Break}
use Rattle.denoter_checker.specs.RoutineParts.{completion_of}
use Rattle.decl_checker.specs.Routines.{define_inside, first_heading}
use Rattle.rule_laws.proofs.{Gives.Gives, Gives.gives_first, Gives.gives_then, LastsFormals.define_formals_at-lasts, LastsRoutines.after_completion}
use Rattle.rule_laws.proofs.{LastsRoutines.define_body-lasts, LastsRoutines.open_routine-lasts, MatedText.text_told, MatedText.text_walks, MatedWalk.All}
use Rattle.rule_laws.proofs.{MatedWalk.Teller, TextBlocks.text_forward_firsts, TextFields.IsTold, TextFields.Text, TextHeadings.IsOfText, TextWalk.first_gives}
use Rattle.rule_laws.proofs.TextForwards.{Apart, Both, body_gives, both_all, both_last, inside_gives}
use Rattle.rule_laws.specs.{ForwardHeadings.is_second, TextLaws.ForwardsAreTold, TextLaws.TextsTellForwards, TextLaws.routines_in_body}
use Rattle.rule_laws.specs.TextParts.{OfBody, OfBodyAfter, OfEachAfter, OfRoutineAfter, OfRoutinesAfter}

-- ---- what follows for each procedure and function

abbrev Kinds : Type 1
Kinds = List RoutineTree → RoutineTree → Type 0

abbrev Follows : (P Q : Kinds) → Type 0
Follows P Q = (before : List RoutineTree) (r : RoutineTree) → P before r → Q before r

mutual
  pub follow_block : (P Q : Kinds) → Follows P Q → (b : BlockTree) → OfRoutinesAfter P b → OfRoutinesAfter Q b
  follow_block P Q f (tree.a_block labels constants types variables routines body) p = follow_each P Q f _ routines p

  follow_each : (P Q : Kinds) → Follows P Q → (before : List RoutineTree) (rs : RoutineTrees) → OfEachAfter P before rs → OfEachAfter Q before rs
  follow_each P Q f before tree.end_of_routines p = tt
  follow_each P Q f before (tree.more_routines r rest) p = (follow_one P Q f before r p.0, follow_each P Q f _ rest p.1)

  follow_one : (P Q : Kinds) → Follows P Q → (before : List RoutineTree) (r : RoutineTree) → OfRoutineAfter P before r → OfRoutineAfter Q before r
  follow_one P Q f before (tree.a_routine heading semicolon body last_semicolon) p =
      (f before (tree.a_routine heading semicolon body last_semicolon) p.0, follow_body P Q f body p.1)

  follow_body : (P Q : Kinds) → Follows P Q → (body : BodyTree) → OfBodyAfter P body → OfBodyAfter Q body
  follow_body P Q f (tree.a_directive directive) p = tt
  follow_body P Q f (tree.a_block_body b) p = follow_block P Q f b p

pub less_or : (n m : ℕ) → (n < m) ⊎ (n < m → ⊥)
less_or n m = by (nat_lt n m) refl
  where
    is : nat_lt n m ≡ true → n < m
    is e = grind (arith, nat_tests)

    test : n < m → nat_lt n m ≡ true
    test h = grind (arith, nat_tests)

    by : (b : Bool) → nat_lt n m ≡ b → (n < m) ⊎ (n < m → ⊥)
    by true e = inl (is e)
    by false e = inr (λ less. let never : true ≡ false = sym (test less) ∙ e in cc)

pub second_or : (b : Bool) (X : Type 0) → (b ≡ true → X) → (X → ⊥) → b ≡ false
second_or true X x none = absurd (none (x refl))
second_or false X x none = refl

-- ---- forward headings

abbrev Forwards : Text → Kinds
Forwards x before r = ForwardsAreTold x.k x.bs (routines_in_body (routine_body r))

-- in the block of a forward heading
completed_told : (k : Known) (Told : Break → Type 0) (frame : ℕ) (rs : RoutineTrees) (q : RoutineTree) (j : Known) (o : Option RoutineTree)
    → completion_of j rs q ≡ o → All Told (first_heading frame rs q j).broken → All Told (after_completion frame q o j).broken
unfolding first_heading look ◌>>=◌
completed_told k Told frame rs q j o e w = subst (λ c. All Told (after_completion frame q c j).broken) e w

inside_second : (x : Text) (t : BlockTree) (inner : ℕ) (q r : RoutineTree) → OfBody (IsOfText x.k t) (routine_body q) → OfBody (IsOfText x.k t) (routine_body r)
    → Apart (routines_in_body (routine_body r))
    → Gives (Both x.k t) (IsTold x) (define_inside inner (routine_heading q) (routine_body q) (Some r))
    (ForwardsAreTold x.k x.bs (routines_in_body (routine_body r)))
unfolding define_inside
inside_second x t inner q r all_q all apart = gives_then (define_formals_at-lasts (both_last x.k t) inner (routine_heading q)) (λ _.
    gives_then (define_body-lasts (both_all x.k t) inner (routine_body q) all_q) (λ _. body_gives x t inner (routine_body r) all apart))

forwards_teller : (x : Text) (t : BlockTree) → Teller x.k t (IsTold x) (Forwards x)
forwards_teller x t = record {
  first = λ frame before rs r j s st all second w. (first_gives (both_last x.k t) frame rs r (λ inner completion.
      inside_gives x t inner (routine_heading r) (routine_body r) completion all st.seat.apart)).of j s.both w;
  second = λ frame before rs q j s st all_q earlier r later one listed is that all row formals w.
      let m : Gives (Both x.k t) (IsTold x) (after_completion frame q (Some r)) (Forwards x earlier r) =
      gives_then (open_routine-lasts (both_last x.k t) frame _) (λ inner. gives_first _ (inside_second x t inner q r all_q all that.seat.apart)) in
      m.of j s.both (completed_told x.k (IsTold x) frame rs q j (Some r) is w);
}

pub text_forward_law : TextsTellForwards
text_forward_law l t spelled =
    let k = known_at_start l in
    let x = text_told l t in
    let old = text_forward_firsts l t spelled in
    let few = length l.tokens < 2 ^ 32 in
    let Q : Kinds = λ before r. (is_second k before r ≡ true → few) → Forwards x before r in (
      old.0,
      elim (less_or (length l.tokens) (2 ^ 32)) [
        | inl less ↦ follow_block (Forwards x) Q (λ before r p h. p) t.block (text_walks l t (Forwards x) (forwards_teller x t.block) spelled less)
        | inr more ↦ follow_block (λ before r. is_second k before r ≡ false → Forwards x before r) Q
            (λ before r p h. p (second_or (is_second k before r) few h more)) t.block old.1
      ],
    )
