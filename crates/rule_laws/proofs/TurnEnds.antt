-- What each procedure and function of a part in turn defines, and tells of rule 2.
use Rattle.std.proofs.Common.{◌++◌, ◌+◌, ◌||◌, ◌∙◌, ◌∷◌, ◌≡◌, [], ℕ, List, None, Option, Some, ap, arith, inl, inr, is_some, nat_eq, refl, sym, true}
use Rattle.pas_tree.specs.{HeadingPlaces.heading_name, HeadingTrees.HeadingTree}
use Rattle.pas_tree.specs.BlockTrees.{BodyTree, RoutineTree, routine_body, routine_heading}
use Rattle.pas_tree.specs.BlockTrees as tree
use Rattle.core_program.specs.declared.rows.{PartRow.PartRow, Row.Row}
use Rattle.check_steps.specs.{Known.Known, Known.name_at, Known.with_row, Names.define_in, Regions.defined_in}
use Rattle.check_steps.specs.Steps.{◌>>=◌, Done, early, give, look}
use Rattle.check_steps.specs.declared.{breaks.Break.Break, regions.Def.Def, regions.Definition.Definition}
use Rattle.denoter_checker.specs.{Formals.is_complete, Formals.is_function, RoutineParts.is_forward, RoutineParts.routine_name}
use Rattle.denoter_checker.specs.RoutineParts.{complete_or_define, completed_by, completing, define_heading, define_routine, defining, directed, directive_in}
use Rattle.rule_laws.proofs.{Breaks.In, Breaks.in_either, Breaks.of_each, InTurn.Wrong, TextHeadings.completed_found}
use Rattle.rule_laws.proofs.Keeping.{Keeps, ask-keeps, bind-keeps, completing-keeps, give-keeps, look-keeps, put-keeps, when-keeps}
use Rattle.rule_laws.proofs.NameTurns.{Region, Turn, again_named, define_goes, named, named_more, rule_two, spelled_same, token_more}
use Rattle.rule_laws.proofs.Telling.{Misses, ask-only, completing-only, directive_in-only, no_two, other_rule}
use Rattle.rule_laws.specs.{Laws.broken_at, RegionNames.is_defined}

turn_row : (p : Region) (done : List ℕ) (m : ℕ) (r : Row) (j : Known) → Turn p done j → Turn p done (with_row j m r)
turn_row p done m r j t = record { words = t.words; spellings = t.spellings; there = t.there; names = t.names; tokens = t.tokens }

directive_in-turn : (p : Region) (done : List ℕ) (h : HeadingTree) (body : BodyTree) → Keeps (Turn p done) (directive_in h body)
unfolding directed
directive_in-turn p done h (tree.a_directive directive) = bind-keeps (look-keeps (λ k. is_forward k directive)) (λ forward.
    bind-keeps (ask-keeps _ directive forward) (λ _. when-keeps forward
    (put-keeps (heading_name h) _ (turn_row p done (heading_name h) (Row.Part (PartRow.Forward (is_function h) None))))))
directive_in-turn p done h (tree.a_block_body b) = give-keeps tt

pub other : (t : ℕ) → t + 1 ≡ t → ⊥
other t e = omega (arith, e)

-- what the turn of one comes to
pub record TurnEnds (p : Region) (done : List ℕ) (x : ℕ) (i : Known) (bs : List Break) : Type 0 where
  pub turn : Turn p (done ++ x ∷ []) i
  pub forth : In (broken_at 2 p.t) bs → (x ≡ p.t) × (is_defined p.k p.region done x ≡ true)

of_one : (p : Region) (done : List ℕ) (x : ℕ) → Wrong (rule_two p) done (x ∷ []) → (x ≡ p.t) × (is_defined p.k p.region done x ≡ true)
of_one p done x w = elim w [
  | inl own ↦ own
  | inr none ↦ absurd none
]

turn_defining : (p : Region) (done : List ℕ) (h : HeadingTree) (body : BodyTree) (j : Known) → Turn p done j
    → TurnEnds p done (heading_name h) (defining p.region h body j).known (defining p.region h body j).broken
unfolding defining define_heading ◌>>=◌
turn_defining p done h body j t =
    let n = heading_name h in
    let b = broken_at 2 p.t in
    let d : Definition = record { def = Def.Routine n; token = n; end = n } in
    let one = define_in p.region d j in
    let ends = (define_goes p d).of done j t in
    let nine = early 9 n (is_complete h) one.known in
    let heading = define_heading p.region h j in
    let last = directive_in h body heading.known in
    let allows = no_two (p.t + 1) p.t (other p.t) in
    record {
      turn = (directive_in-turn p (done ++ n ∷ []) h body).of heading.known
          ((ask-keeps {I = Turn p (done ++ n ∷ [])} _ n (is_complete h)).of one.known ends.turn);
      forth = λ i. elim (in_either b (one.broken ++ nine.broken) last.broken i) [
        | inl front ↦ elim (in_either b one.broken nine.broken front) [
          | inl own ↦ of_one p done n (ends.forth own)
          | inr late ↦ absurd (of_each (Misses 2 p.t) b nine.broken
              ((ask-only {P = Misses 2 p.t} _ n (is_complete h) (other_rule 9 n 2 p.t (λ e. omega (arith, e)))).of one.known) late refl)
        ]
        | inr late ↦ absurd (of_each (Misses 2 p.t) b last.broken ((directive_in-only allows h body).of heading.known) late refl)
      ];
    }

some_is : (o : Option Definition) (d : Definition) → o ≡ Some d → is_some o ≡ true
some_is o d e = ap is_some e

turn_completing : (p : Region) (done : List ℕ) (first position : ℕ) (h : HeadingTree) (body : BodyTree) (j : Known) → Turn p done j
    → completed_by j p.region h body ≡ Some first
    → TurnEnds p done (heading_name h) (completing first position h j).known (completing first position h j).broken
turn_completing p done first position h body j t e =
    let n = heading_name h in
    let allows = no_two (p.t + 1) p.t (other p.t) in
    let found = completed_found j p.region h body first e in
    let held : is_some (defined_in j.regions p.region (name_at j n)) ≡ true = ap is_some found.is in
    let there : (is_some (defined_in p.k.regions p.region (name_at p.k n)) || named p.k done (name_at p.k n)) ≡ true
    = sym (t.names (name_at p.k n)) ∙ ap (λ m. is_some (defined_in j.regions p.region m)) (sym (spelled_same p.k j n t.words)) ∙ held in
    let more : Turn p (done ++ n ∷ []) j = record {
      words = t.words;
      spellings = t.spellings;
      there = t.there;
      names = λ m. t.names m ∙ again_named p done n m (nat_eq m (name_at p.k n)) refl there
          ∙ ap (λ b. is_some (defined_in p.k.regions p.region m) || b) (sym (named_more p.k done n m));
      tokens = λ m d found. token_more done n d.token (t.tokens m d found);
    } in
    record {
      turn = (completing-keeps {I = Turn p (done ++ n ∷ [])} first position h
          (turn_row p (done ++ n ∷ []) first (Row.Part (PartRow.Forward (is_function h) (Some position))))
          (turn_row p (done ++ n ∷ []) n (Row.Part (PartRow.Completing first)))).of j more;
      forth = λ i. absurd (of_each (Misses 2 p.t) (broken_at 2 p.t) (completing first position h j).broken ((completing-only allows first position h).of j) i
          refl);
    }

turn_by : (p : Region) (done : List ℕ) (position : ℕ) (r : RoutineTree) (j : Known) → Turn p done j → (o : Option ℕ)
    → completed_by j p.region (routine_heading r) (routine_body r) ≡ o
    → TurnEnds p done (routine_name r) (complete_or_define o p.region position (routine_heading r) (routine_body r) j).known
    (complete_or_define o p.region position (routine_heading r) (routine_body r) j).broken
turn_by p done position r j t None e = turn_defining p done (routine_heading r) (routine_body r) j t
turn_by p done position r j t (Some first) e = turn_completing p done first position (routine_heading r) (routine_body r) j t e

pub in_front : (b : Break) (xs : List Break) → In b (xs ++ []) → In b xs
in_front b xs i = elim (in_either b xs [] i) [
  | inl l ↦ l
  | inr r ↦ absurd r
]

pub routine_ends : (p : Region) (done : List ℕ) (position : ℕ) (r : RoutineTree) (j : Known) → Turn p done j
    → TurnEnds p done (routine_name r) (define_routine p.region position r j).known (define_routine p.region position r j).broken
unfolding define_routine look ◌>>=◌ give
routine_ends p done position r j t =
    let d : Done (Unit {0}) =
    complete_or_define (completed_by j p.region (routine_heading r) (routine_body r)) p.region position (routine_heading r) (routine_body r) j in
    let e = turn_by p done position r j t (completed_by j p.region (routine_heading r) (routine_body r)) refl in
    record { turn = e.turn; forth = λ i. e.forth (in_front (broken_at 2 p.t) d.broken i) }
