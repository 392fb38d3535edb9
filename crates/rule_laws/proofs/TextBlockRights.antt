-- Labels that break no rule, in front of the statements of procedures and functions.
use Rattle.std.proofs.Common.{if◌then◌else◌, ◌&&◌, ◌++◌, ◌-◌, ◌<◌, ◌^◌, ◌∙◌, ◌∷◌, ◌≡◌, [], ℕ, Bool, Contains, List, None, Option, Some, ap, arith, false, inl}
use Rattle.std.proofs.Common.{inr, length, nat_eq, not, refl, slice_get, subst, suc, sym, true, unwrap_or, zero}
use Rattle.std.proofs.lemmas.{Bool.eq-eqb, List.append_assoc}
use Rattle.pas_lexer.specs.Lexed.{Lexed}
use Rattle.grammar.specs.Nodes.{Node, spell}
use Rattle.pas_tree.specs.{BlockTrees.VariablePartTree, BlockTrees.routine_body, HeadingPlaces.heading_name, HeadingTrees.HeadingTree}
use Rattle.pas_tree.specs.BlockTrees.{BlockTree, BodyTree, ConstantPartTree, LabelPartTree, ProgramTree, RoutineTree, RoutineTrees, TypePartTree}
use Rattle.pas_tree.specs.BlockTrees as tree
use Rattle.pas_tree.specs.StatementTrees.{CompoundTree, compound_body}
use Rattle.pas_tree.specs.TreeNodes.{block_node, body_node, compound_node, routine_node, routines_node, tree_node}
use Rattle.pas_parser.specs.Formed.{items_of}
use Rattle.core_program.specs.declared.rows.{NameRow.NameRow, Row.Row}
use Rattle.check_steps.specs.{Breaks.number, Regions.RegionRows, Regions.declared_in, Regions.region_at, Words.known_at_start}
use Rattle.check_steps.specs.Known.{Known, and_routine, frame_at, label_at, row_at}
use Rattle.check_steps.specs.Steps.{◌>>=◌, Step, ask, enter_block, extend, give, look}
use Rattle.check_steps.specs.declared.{breaks.Break.Break, regions.Frame.Frame, regions.Span.Span, words.SpelledToken.SpelledToken}
use Rattle.denoter_checker.specs.Formals.{is_function}
use Rattle.decl_checker.specs.{Routines.first_name, Routines.one_deeper, Routines.own_frame, Scopes.routine_region}
use Rattle.decl_checker.specs.Programs.{define_program, main_row, open_program, program_step}
use Rattle.statement_checker.specs.{Labels.reach_all, Statements.compound}
use Rattle.code_checker.specs.{Blocks.code_block, Blocks.code_routine, Blocks.code_routines, Blocks.statement_part, CheckedPrograms.broken}
use Rattle.code_checker.specs.{CheckedPrograms.check_step, CodePlaces.span_of, Results.function_result, Results.has_result, Results.name_in_first}
use Rattle.rule_laws.proofs.{Breaks.In, Breaks.found, Breaks.in_either, Breaks.of_each, Faces.face, Faces.fine_in, Faces.marking, Faces.said}
use Rattle.rule_laws.proofs.{LabelMarks.face_label, LabelTokens.compound_has, LabelTold.Anywhere, LabelTurns.label_face, LastsPrograms.open_program-lasts}
use Rattle.rule_laws.proofs.{Laters.kept_program, Laters.longer_frame, Laters.way_later, Listed.Listed, Listed.listed_right, MatedText.program_laid}
use Rattle.rule_laws.proofs.{MatedText.text_calm, PartTurns.orderly_lasts, PartWalk.part_of, Placed.AtBlock, Placed.Placed, Placed.Put, Placed.block_carries}
use Rattle.rule_laws.proofs.{StatementLabels.reach_all-touches, TextChains.chain_of, TextChains.later_coded, TextChains.own_found, TextForwards.name_has}
use Rattle.rule_laws.proofs.{TextRights.program_right, TextRights.routine_passes, TextRights.text_world, TextScopes.Any_told, TextScopes.World}
use Rattle.rule_laws.proofs.{TextScopes.outermost_walk, TextTokens.text_law, Touches.Told, Touches.enter_block-touches, Touches.same_in, Walking.laid_same}
use Rattle.rule_laws.proofs.Chains.{Names, NamesAt, NamesBody, NamesEach, NamesPart, NamesRoutine}
use Rattle.rule_laws.proofs.Seats.{Seat, Seats, SeatsIn, SeatsInside, SeatsOf}
use Rattle.rule_laws.proofs.TextBlocks.{program_frame, program_stays, start_orderly, whole}
use Rattle.rule_laws.proofs.TextEnds.{HasLabel, Mark, compound-leads, declarations_quiet, routines-lead}
use Rattle.rule_laws.proofs.TextLabels.{Coded, own_then, said_routine, starts}
use Rattle.rule_laws.proofs.TextRights.{Fresh, GuardOf, IsTarget, Mine, Target, block_low, body_label_has, body_off, has_found, homes_of, own_block, passes}
use Rattle.rule_laws.specs.{BlockLabels.compound_labels, CaseLaws.late_at, ForwardHeadings.is_second, ForwardHeadings.routines_in as listed}
use Rattle.rule_laws.specs.{NameLaws.block_labels, OnlyLaws.OthersAreRight, OnlyLaws.TextsSpareLabels, Tokens.Has, Tokens.IsDistinct}
use Rattle.rule_laws.specs.SomeBlocks.{SomeBlock, SomeInside, SomeOfBody, SomeOfRoutine}
use Rattle.rule_laws.specs.TextLaws.{has_label, labels_in_body, statement_labels, statement_labels_in}
use Rattle.rule_laws.specs.TextParts.{OfBody, OfEach, OfEachAfter, OfRoutine, OfRoutineAfter, OfRoutines, OfRoutinesAfter}

-- ---- where a label of a statement stands

contains_listed : (xs : List ℕ) (n : ℕ) → Contains xs n → Listed xs n
contains_listed [] n c = absurd (omega (arith, c.1))
contains_listed (x ∷ xs) n (zero, h, same) = inl same
contains_listed (x ∷ xs) n (suc i, h, same) = inr (contains_listed xs n (i, omega (arith, h), same))

mutual
  some_block : (b : BlockTree) (n : ℕ) → SomeBlock (HasLabel n) b → Has (block_node b) n
  some_block (tree.a_block labels constants types variables routines body) n (inl c) =
      inr (inr (inr (inr (inr (compound_has body n (contains_listed (compound_labels body) n c))))))
  some_block (tree.a_block labels constants types variables routines body) n (inr s) = inr (inr (inr (inr (inl (some_inside routines n s)))))

  some_inside : (rs : RoutineTrees) (n : ℕ) → SomeInside (HasLabel n) rs → Has (routines_node rs) n
  some_inside tree.end_of_routines n s = absurd s
  some_inside (tree.more_routines r rest) n (inl s) = inl (some_routine r n s)
  some_inside (tree.more_routines r rest) n (inr s) = inr (some_inside rest n s)

  some_routine : (r : RoutineTree) (n : ℕ) → SomeOfRoutine (HasLabel n) r → Has (routine_node r) n
  some_routine (tree.a_routine heading semicolon body last_semicolon) n s = inr (inr (inl (some_body body n s)))

  some_body : (body : BodyTree) (n : ℕ) → SomeOfBody (HasLabel n) body → Has (body_node body) n
  some_body (tree.a_directive directive) n s = absurd s
  some_body (tree.a_block_body b) n s = some_block b n s

-- no label of these statements is told where it is none of them
abbrev silent : ℕ → Mark
silent n = record { rule = 15; either = refl; n = n; X = ⊥ }

other_silent : (c : CompoundTree) (n : ℕ) → (Has (compound_node c) n → ⊥) → (g : ℕ) (j : Known) → In (late_at 15 n) (compound g c j).broken → ⊥
other_silent c n off g j i =
    of_each (λ b. b ≡ late_at 15 n → ⊥) (late_at 15 n) (compound g c j).broken
    ((compound-leads (silent n) g c (λ h e. off (compound_has c n h))).of j) i refl

rest_silent : (rs : RoutineTrees) (n : ℕ) → (Has (routines_node rs) n → ⊥) → (j : Known) → In (late_at 15 n) (code_routines rs j).broken → ⊥
rest_silent rs n off j i =
    of_each (λ b. b ≡ late_at 15 n → ⊥) (late_at 15 n) (code_routines rs j).broken
    ((routines-lead (silent n) rs (λ s e. off (some_inside rs n s)) (λ s e. absurd (let never : 15 ≡ 12 = e in omega (arith, never)))
    (λ r member own e. absurd (let never : 15 ≡ 12 = e in omega (arith, never)))).of j) i refl

enter_silent : (span : Span) (n : ℕ) (j : Known) → In (late_at 15 n) (enter_block span j).broken → ⊥
enter_silent span n j i =
    let told = of_each (Told Anywhere marking) (late_at 15 n) (enter_block span j).broken ((enter_block-touches span).told j) i in
    let never : true ≡ false = told.quiet refl in cc

-- ---- the frames of procedures and functions

abbrev final : Lexed → ProgramTree → Known
final l t = (program_step t (known_at_start l)).known

abbrev target : Lexed → ProgramTree → (d level t name : ℕ) → Target
target l t d level x name = record { k = final l t; d = d; level = level; t = x; name = name }

record Good (y : Target) : Type 0 where
  is : IsTarget y
  fresh : Fresh y y.k

level_off : (r : Row) (v l lev : ℕ) → face marking r ≡ label_face false v l → fine_in lev r ≡ false → lev - l ≡ 0 → ⊥
level_off r v l lev e gone none =
    let row = face_label marking r false v l e in
    let same : nat_eq (lev - l) 0 ≡ false
    = ap (λ b. not b && nat_eq (lev - l) 0) (sym row.as_shown) ∙ sym (ap (fine_in lev) row.is) ∙ gone in
    let never : true ≡ false = sym (eq-eqb (lev - l) 0 none) ∙ same in cc

guard_of : (l : Lexed) (t : ProgramTree) (d level x o : ℕ) → Good (target l t d level x o) → World (outermost_walk (chain_of l t)) (final l t) → (n : ℕ)
    (part : RoutineTrees) (before : List RoutineTree) (r : RoutineTree) (after : List RoutineTree) → listed part ≡ before ++ r ∷ after
    → Seat t.block before r
    → ((y : ℕ) (i : Known) (g : ℕ) → Names (chain_of l t) y i g → NamesPart (chain_of l t) n part y i g) → GuardOf (target l t d level x o) r
guard_of l t d level x o good w n part before (tree.a_routine heading semicolon body last_semicolon) after one seat here block off j i =
    let r = tree.a_routine heading semicolon body last_semicolon in
    let k = final l t in
    let name = heading_name heading in
    let g = own_frame j (name_in_first j name) in
    let found = own_found (chain_of l t) k j n part before r after w i (record { one = one; down = λ y h q names among. here y h q names among }) seat block
    (row_at j name) refl in
    record {
      outward = own_then k j (name_in_first j name) good.is.tidy i;
      far = λ h coded v at none. elim ((way_later _ g k h (later_coded k h coded) found).finds v d at) [
        | inl own ↦ off own
        | inr gone ↦
            let lev : (frame_at h g).level ≡ (frame_at k g).level
            = ap (λ (f : Frame). f.level) (longer_frame k.frames h.frames g coded.same.frames found.there) in
            level_off (row_at k d) (label_at k x) level (frame_at k g).level good.fresh.row gone (sym (ap (λ m. m - level) lev) ∙ none)
      ];
    }

mutual
  guard_block : (l : Lexed) (t : ProgramTree) (d level x o : ℕ) → Good (target l t d level x o) → World (outermost_walk (chain_of l t)) (final l t)
      → (n : ℕ) (b : BlockTree) → Seats t.block b
      → ((y : ℕ) (i : Known) (g : ℕ) → Names (chain_of l t) y i g → NamesAt (chain_of l t) n b y i g) → OfRoutines (GuardOf (target l t d level x o)) b
  guard_block l t d level x o good w n (tree.a_block labels constants types variables routines body) seats down =
      guard_part l t d level x o good w (one_deeper n) routines [] routines refl seats (λ y i g h. (down y i g h).0) (λ y i g h. (down y i g h).1)

  guard_part : (l : Lexed) (t : ProgramTree) (d level x o : ℕ) → Good (target l t d level x o) → World (outermost_walk (chain_of l t)) (final l t)
      → (n : ℕ) (part : RoutineTrees) (before : List RoutineTree) (rs : RoutineTrees) → listed part ≡ before ++ listed rs
      → SeatsIn t.block before rs
      → ((y : ℕ) (i : Known) (g : ℕ) → Names (chain_of l t) y i g → NamesPart (chain_of l t) n part y i g)
      → ((y : ℕ) (i : Known) (g : ℕ) → Names (chain_of l t) y i g → NamesEach (chain_of l t) n rs y i g)
      → OfEach (GuardOf (target l t d level x o)) rs
  guard_part l t d level x o good w n part before tree.end_of_routines one seats here down = tt
  guard_part l t d level x o good w n part before (tree.more_routines r rest) one seats here down = (
    guard_routine l t d level x o good w n part before r (listed rest) one seats.0 here (λ y i g h. (down y i g h).0),
    guard_part l t d level x o good w n part (before ++ r ∷ []) rest (one ∙ sym (append_assoc before (r ∷ []) (listed rest))) seats.1 here
        (λ y i g h. (down y i g h).1),
  )

  guard_routine : (l : Lexed) (t : ProgramTree) (d level x o : ℕ) → Good (target l t d level x o) → World (outermost_walk (chain_of l t)) (final l t)
      → (n : ℕ) (part : RoutineTrees) (before : List RoutineTree) (r : RoutineTree) (after : List RoutineTree) → listed part ≡ before ++ r ∷ after
      → SeatsOf t.block before r
      → ((y : ℕ) (i : Known) (g : ℕ) → Names (chain_of l t) y i g → NamesPart (chain_of l t) n part y i g)
      → ((y : ℕ) (i : Known) (g : ℕ) → Names (chain_of l t) y i g → NamesRoutine (chain_of l t) n r y i g)
      → OfRoutine (GuardOf (target l t d level x o)) r
  guard_routine l t d level x o good w n part before (tree.a_routine heading semicolon body last_semicolon) after one seats here down = (
    guard_of l t d level x o good w n part before (tree.a_routine heading semicolon body last_semicolon) after one seats.0 here,
    guard_body l t d level x o good w n body seats.1 down,
  )

  guard_body : (l : Lexed) (t : ProgramTree) (d level x o : ℕ) → Good (target l t d level x o) → World (outermost_walk (chain_of l t)) (final l t)
      → (n : ℕ) (body : BodyTree) → SeatsInside t.block body
      → ((y : ℕ) (i : Known) (g : ℕ) → Names (chain_of l t) y i g → NamesBody (chain_of l t) n body y i g)
      → OfBody (GuardOf (target l t d level x o)) body
  guard_body l t d level x o good w n (tree.a_directive directive) seats down = tt
  guard_body l t d level x o good w n (tree.a_block_body b) seats down = guard_block l t d level x o good w n b seats down

-- ---- a procedure or function

abbrev Rights : Lexed → ProgramTree → RoutineTree → Type 0
Rights l t r = OthersAreRight (known_at_start l) (broken l t) (labels_in_body (routine_body r)) (statement_labels_in (routine_body r))

-- so it is where it is not the block of a heading before it
abbrev FirstRights : Lexed → ProgramTree → List RoutineTree → RoutineTree → Type 0
FirstRights l t before r = is_second (known_at_start l) before r ≡ false → Rights l t r

-- If a label of this part is not told where the part is gone over, it is not told at all.
record Up (l : Lexed) (t : ProgramTree) (x : Node) {A : Type 0} (m : Step A) : Type 0 where
  up : (d level n name : ℕ) → let y = target l t d level n name in Good y → Has x d → Has x n → Has x name
      → ((j : Known) → Fresh y j → In (late_at 15 n) (m j).broken → ⊥) → Contains (broken l t) (late_at 15 n) → ⊥

-- the region of the row that stands at a name
region_said : (r : Row) (number region : ℕ) → said r ≡ Row.Name (NameRow.Routine false number region) → routine_region r ≡ region
region_said r number region e = let row = said_routine r number region e in ap routine_region row.is

first_said : (r : Row) (number region : ℕ) → said r ≡ Row.Name (NameRow.Routine false number region) → first_name r ≡ None
first_said r number region e = let row = said_routine r number region e in ap first_name row.is

-- the frame of its block, from where it is looked at on
placed_frame : (k j : Known) (x : ℕ) (number region : ℕ) → Coded k j → said (row_at j x) ≡ said (row_at k x)
    → row_at k x ≡ Row.Name (NameRow.Routine false number region) → own_frame j (name_in_first j x) ≡ (region_at k.regions region).frame
placed_frame k j x number region i same row =
    let e : said (row_at j x) ≡ Row.Name (NameRow.Routine false number region) = same ∙ ap said row in
    ap (λ o. own_frame j (unwrap_or o x)) (first_said (row_at j x) number region e)
    ∙ ap (λ r. (region_at j.regions r).frame) (region_said (row_at j x) number region e)
    ∙ ap (λ (rs : List RegionRows). (region_at rs region).frame) i.same.regions

block_statement : (b : BlockTree) (n : ℕ) → Listed (statement_labels b) n → Has (block_node b) n
block_statement (tree.a_block labels constants types variables routines body) n h = inr (inr (inr (inr (inr (compound_has body n h)))))

no_result : (function : Bool) (name n : ℕ) (j : Known) → In (late_at 15 n) (function_result function name j).broken → ⊥
unfolding function_result look ◌>>=◌ ask
no_result function name n j i = none (has_result j function name) i
  where
    none : (fine : Bool) → In (late_at 15 n) (if fine then [] else late_at 12 name ∷ []) → ⊥
    none true i = i
    none false (inl e) = let same : 12 ≡ 15 = ap (λ (b : Break). number b.broken) e in omega (arith, same)
    none false (inr i) = i

right_of : (l : Lexed) (t : ProgramTree) → spell (tree_node t) ≡ items_of l.tokens → World (outermost_walk (chain_of l t)) (final l t) → (n : ℕ)
    (heading : HeadingTree) (semicolon : ℕ) (b : BlockTree) (last : ℕ) → let r = tree.a_routine heading semicolon (tree.a_block_body b) last in
    IsDistinct (routine_node r) → ((m : ℕ) → Has (routine_node r) m → Has (block_node t.block) m) → Placed (known_at_start l) r (final l t)
    → Seats t.block b → ((y : ℕ) (i : Known) (g : ℕ) → Names (chain_of l t) y i g → NamesAt (chain_of l t) n b y i g)
    → Up l t (routine_node r) (code_routine r) → Rights l t r
unfolding look ◌>>=◌
right_of l t spelled w n heading semicolon b last distinct inside p seats down up before label after same first declared contained =
    let r = tree.a_routine heading semicolon (tree.a_block_body b) last in
    let k = known_at_start l in
    let f = final l t in
    let s = starts l t in
    let name = heading_name heading in
    let has = has_found k (block_labels b) label declared in
    let given = p.own has.d has.listed in
    let d = given.first in
    let own = p.own d given.listed in
    let region = p.f.region in
    let here : declared_in f.regions region (label_at k label) ≡ Some d = ap (declared_in f.regions region) (sym has.same) ∙ given.declares.is in
    let at : label_at k d ≡ label_at k label = (s.declared region (label_at k label) d here).0 in
    let d_has : Has (routine_node r) d = inr (inr (inl (body_label_has (tree.a_block_body b) d given.listed))) in
    let name_has_r : Has (routine_node r) name = inl (name_has heading) in
    let y = target l t d p.f.level label name in
    let words : f.words ≡ k.words = s.begun.words in
    let spelled_in : label_at f label ≡ label_at k label = ap (λ (ws : List SpelledToken). label_at (record k { words = ws }) label) words in
    let size = ap (λ (ws : List SpelledToken). length ws) words in
    let good : Good y = record {
      is = record {
        tidy = s.begun.tidy;
        low = λ m mine. elim mine [
          | inl e ↦ (let low = block_low l t spelled d (inside d d_has) in omega (arith, low, size, e))
          | inr e ↦ (let low = block_low l t spelled name (inside name name_has_r) in omega (arith, low, size, e))
        ];
      };
      fresh = record {
        coded = record { same = same_in f };
        row = ap (face marking) own.row ∙ ap (λ m. label_face false m p.f.level) (at ∙ sym spelled_in);
        named = refl;
      };
    } in
    let here_t : Listed (statement_labels b) label = subst (λ q. Listed q label) (sym same) (listed_right before (label ∷ after) label (inl refl)) in
    let t_has : Has (routine_node r) label = inr (inr (inl (block_statement b label here_t))) in
    let guards = guard_block l t d p.f.level label name good w n b seats down in
    let own_region = (region_at f.regions region).frame in
    let home_is : own_region ≡ p.n = p.homed.own in
    up.up d p.f.level label name good d_has t_has name_has_r (λ j fresh i.
    let g = own_frame j (name_in_first j name) in
    let frame : g ≡ p.n = placed_frame f j name p.number region fresh.coded fresh.named p.row ∙ home_is in
    let out = own_then f j (name_in_first j name) s.begun.tidy fresh.coded in
    let got : slice_get f.frames g ≡ Some p.f = ap (slice_get f.frames) frame ∙ p.homed.stands.there in
    let homes = homes_of l t s y refl g p.f out got refl at here in
    let e = code_block g b j in
    elim (in_either (late_at 15 label) e.broken (function_result (is_function heading) name e.known).broken i) [
      | inl told ↦ own_block y good.is g homes b guards distinct.1.1.0 given.listed
          (inr (λ h. distinct.2 name (name_has heading) (inr (inl h)))) before after same
          (ap (λ (ws : List SpelledToken). has_label (record k { words = ws }) before label) words ∙ first) j fresh told
      | inr told ↦ no_result (is_function heading) name label e.known told
    ]) contained

-- what is gone over after it tells no label of it
up_routine : (l : Lexed) (t : ProgramTree) (r : RoutineTree) (rest : RoutineTrees) → ((n : ℕ) → Has (routine_node r) n → Has (routines_node rest) n → ⊥)
    → Up l t (routines_node (tree.more_routines r rest)) (code_routines (tree.more_routines r rest)) → Up l t (routine_node r) (code_routine r)
unfolding ◌>>=◌
up_routine l t r rest apart up = record {
  up = λ d level n name good d_has n_has name_has inner. up.up d level n name good (inl d_has) (inl n_has) (inl name_has) (λ j fresh i.
      elim (in_either (late_at 15 n) (code_routine r j).broken (code_routines rest (code_routine r j).known).broken i) [
        | inl told ↦ inner j fresh told
        | inr told ↦ rest_silent rest n (λ h. apart n n_has h) (code_routine r j).known told
      ]);
}

-- what is gone over before it tells none, and leaves its row
up_rest : (l : Lexed) (t : ProgramTree) (r : RoutineTree) (rest : RoutineTrees) → ((n : ℕ) → Has (routine_node r) n → Has (routines_node rest) n → ⊥)
    → ((d level n name : ℕ) → let y = target l t d level n name in Good y → OfRoutine (GuardOf y) r)
    → Up l t (routines_node (tree.more_routines r rest)) (code_routines (tree.more_routines r rest)) → Up l t (routines_node rest) (code_routines rest)
unfolding ◌>>=◌
up_rest l t r rest apart guards up = record {
  up = λ d level n name good d_has n_has name_has inner. up.up d level n name good (inr d_has) (inr n_has) (inr name_has) (λ j fresh i.
      let y = target l t d level n name in
      let off : (m : ℕ) → Mine y m → Has (routine_node r) m → ⊥ = λ m mine h. elim mine [
        | inl e ↦ apart m h (subst (Has (routines_node rest)) (sym e) d_has)
        | inr e ↦ apart m h (subst (Has (routines_node rest)) (sym e) name_has)
      ] in
      let passes = routine_passes y good.is r (guards d level n name good) off (λ h. apart n h n_has) in
      elim (in_either (late_at 15 n) (code_routine r j).broken (code_routines rest (code_routine r j).known).broken i) [
        | inl told ↦ passes.none j fresh told
        | inr told ↦ inner (code_routine r j).known (passes.fresh j fresh) told
      ]);
}

-- a block tells no label that stands in its procedures and functions but where they are gone over
part_told : (l : Lexed) (t : ProgramTree) (labels : Option LabelPartTree) (consts : Option ConstantPartTree) (kinds : Option TypePartTree)
    (variable_part : Option VariablePartTree) (routines : RoutineTrees) (body : CompoundTree) (d level n name : ℕ) → let b =
    tree.a_block labels consts kinds variable_part routines body in let y = target l t d level n name in
    IsDistinct (block_node b) → Good y → Has (routines_node routines) d → Has (routines_node routines) n → Has (routines_node routines) name
    → ((j : Known) → Fresh y j → In (late_at 15 n) (code_routines routines j).broken → ⊥) → (g : ℕ) (j : Known) → Fresh y j
    → In (late_at 15 n) (code_block g b j).broken → ⊥
unfolding statement_part ◌>>=◌ give
part_told l t labels consts kinds variable_part routines body d level n name distinct good d_has n_has name_has inner g j fresh i =
    let b = late_at 15 n in
    let y = target l t d level n name in
    let span = span_of (tree.a_block labels consts kinds variable_part routines body) in
    let off : (m : ℕ) → Mine y m → Has (compound_node body) m → ⊥ = λ m mine h. elim mine [
      | inl e ↦ distinct.1.1.1.1.2 m (subst (Has (routines_node routines)) (sym e) d_has) h
      | inr e ↦ distinct.1.1.1.1.2 m (subst (Has (routines_node routines)) (sym e) name_has) h
    ] in
    let one = passes y good.is (reach_all-touches g (compound_body body) (body_off y body off)) in
    let a = reach_all g (compound_body body) j in
    let c = code_routines routines a.known in
    let e = enter_block span c.known in
    let f = compound g body e.known in
    elim (in_either b a.broken (c.broken ++ (e.broken ++ (f.broken ++ []))) i) [
      | inl told ↦ one.none j fresh told
      | inr r ↦ elim (in_either b c.broken (e.broken ++ (f.broken ++ [])) r) [
        | inl told ↦ inner a.known (one.fresh j fresh) told
        | inr q ↦ elim (in_either b e.broken (f.broken ++ []) q) [
          | inl told ↦ enter_silent span n c.known told
          | inr p ↦ elim (in_either b f.broken [] p) [
            | inl told ↦ other_silent body n (λ h. distinct.1.1.1.1.2 n n_has h) g e.known told
            | inr none ↦ none
          ]
        ]
      ]
    ]

whole_told : (l : Lexed) (t : ProgramTree) (b : BlockTree) (d level n name : ℕ) → let y = target l t d level n name in
    IsDistinct (block_node b) → Good y → Has (routines_node (part_of b)) d → Has (routines_node (part_of b)) n → Has (routines_node (part_of b)) name
    → ((j : Known) → Fresh y j → In (late_at 15 n) (code_routines (part_of b) j).broken → ⊥) → (g : ℕ) (j : Known) → Fresh y j
    → In (late_at 15 n) (code_block g b j).broken → ⊥
whole_told l t (tree.a_block labels consts kinds variable_part routines body) d level n name distinct good d_has n_has name_has inner g j fresh i =
    part_told l t labels consts kinds variable_part routines body d level n name distinct good d_has n_has name_has inner g j fresh i

up_body : (l : Lexed) (t : ProgramTree) (heading : HeadingTree) (semicolon last : ℕ) (b : BlockTree)
    → let r = tree.a_routine heading semicolon (tree.a_block_body b) last in IsDistinct (block_node b)
    → Up l t (routine_node r) (code_routine r) → Up l t (routines_node (part_of b)) (code_routines (part_of b))
unfolding look ◌>>=◌
up_body l t heading semicolon last (tree.a_block labels consts kinds variable_part routines body) distinct up = record {
  up = λ d level n name good d_has n_has name_has inner.
      let b = tree.a_block labels consts kinds variable_part routines body in
      let into : (m : ℕ) → Has (routines_node routines) m → Has (routine_node (tree.a_routine heading semicolon (tree.a_block_body b) last)) m =
      λ m h. inr (inr (inl (inr (inr (inr (inr (inl h))))))) in
      up.up d level n name good (into d d_has) (into n n_has) (into name name_has) (λ j fresh i.
      let g = own_frame j (name_in_first j (heading_name heading)) in
      let e = code_block g b j in
      elim (in_either (late_at 15 n) e.broken (function_result (is_function heading) (heading_name heading) e.known).broken i) [
        | inl told ↦ part_told l t labels consts kinds variable_part routines body d level n name distinct good d_has n_has name_has inner g j fresh told
        | inr told ↦ no_result (is_function heading) (heading_name heading) n e.known told
      ]);
}

mutual
  rights_part : (l : Lexed) (t : ProgramTree) → spell (tree_node t) ≡ items_of l.tokens → World (outermost_walk (chain_of l t)) (final l t) → (n : ℕ)
      (part : RoutineTrees) (before : List RoutineTree) (rs : RoutineTrees) → listed part ≡ before ++ listed rs → SeatsIn t.block before rs
      → OfEachAfter (Put (known_at_start l) (final l t)) before rs → IsDistinct (routines_node rs)
      → ((m : ℕ) → Has (routines_node rs) m → Has (block_node t.block) m)
      → ((y : ℕ) (i : Known) (g : ℕ) → Names (chain_of l t) y i g → NamesPart (chain_of l t) n part y i g)
      → ((y : ℕ) (i : Known) (g : ℕ) → Names (chain_of l t) y i g → NamesEach (chain_of l t) n rs y i g)
      → Up l t (routines_node rs) (code_routines rs) → OfEachAfter (FirstRights l t) before rs
  rights_part l t spelled w n part before tree.end_of_routines one seats puts distinct inside here down up = tt
  rights_part l t spelled w n part before (tree.more_routines r rest) one seats puts distinct inside here down up = (
    rights_routine l t spelled w n before r seats.0 puts.0 distinct.0 (λ m h. inside m (inl h)) (λ y i g h. (down y i g h).0)
        (up_routine l t r rest distinct.2 up),
    rights_part l t spelled w n part (before ++ r ∷ []) rest (one ∙ sym (append_assoc before (r ∷ []) (listed rest))) seats.1 puts.1 distinct.1
        (λ m h. inside m (inr h)) here (λ y i g h. (down y i g h).1)
        (up_rest l t r rest distinct.2 (λ d level x o good. guard_routine l t d level x o good w n part before r (listed rest) one seats.0 here
        (λ y i g h. (down y i g h).0)) up),
  )

  rights_routine : (l : Lexed) (t : ProgramTree) → spell (tree_node t) ≡ items_of l.tokens → World (outermost_walk (chain_of l t)) (final l t) → (n : ℕ)
      (before : List RoutineTree) (r : RoutineTree) → SeatsOf t.block before r
      → OfRoutineAfter (Put (known_at_start l) (final l t)) before r → IsDistinct (routine_node r)
      → ((m : ℕ) → Has (routine_node r) m → Has (block_node t.block) m)
      → ((y : ℕ) (i : Known) (g : ℕ) → Names (chain_of l t) y i g → NamesRoutine (chain_of l t) n r y i g)
      → Up l t (routine_node r) (code_routine r) → OfRoutineAfter (FirstRights l t) before r
  rights_routine l t spelled w n before (tree.a_routine heading semicolon (tree.a_directive directive) last) seats puts distinct inside down up =
      (λ second earlier label after same first declared contained. absurd (let never : false ≡ true = declared in cc), tt)
  rights_routine l t spelled w n before (tree.a_routine heading semicolon (tree.a_block_body b) last) seats puts distinct inside down up = (
    λ second. right_of l t spelled w n heading semicolon b last distinct inside (puts.0 second refl) seats.1 down up,
    rights_block l t spelled w n b seats.1 puts.1 distinct.1.1.0 (λ m h. inside m (inr (inr (inl h)))) down
        (up_body l t heading semicolon last b distinct.1.1.0 up),
  )

  rights_block : (l : Lexed) (t : ProgramTree) → spell (tree_node t) ≡ items_of l.tokens → World (outermost_walk (chain_of l t)) (final l t) → (n : ℕ)
      (b : BlockTree) → Seats t.block b → OfRoutinesAfter (Put (known_at_start l) (final l t)) b → IsDistinct (block_node b)
      → ((m : ℕ) → Has (block_node b) m → Has (block_node t.block) m)
      → ((y : ℕ) (i : Known) (g : ℕ) → Names (chain_of l t) y i g → NamesAt (chain_of l t) n b y i g)
      → Up l t (routines_node (part_of b)) (code_routines (part_of b)) → OfRoutinesAfter (FirstRights l t) b
  rights_block l t spelled w n (tree.a_block labels consts kinds variable_part routines body) seats puts distinct inside down up =
      rights_part l t spelled w (one_deeper n) routines [] routines refl seats puts distinct.1.1.1.1.0
      (λ m h. inside m (inr (inr (inr (inr (inl h)))))) (λ y i g h. (down y i g h).0) (λ y i g h. (down y i g h).1) up

-- ---- a text

-- where the statements of a text begin
text_puts : (l : Lexed) (t : ProgramTree) → spell (tree_node t) ≡ items_of l.tokens → length l.tokens < 2 ^ 32
    → OfRoutinesAfter (Put (known_at_start l) (final l t)) t.block
unfolding program_step ◌>>=◌ give extend
text_puts l t spelled few =
    let k = known_at_start l in
    let b = t.block in
    let f = final l t in
    let x = whole l t spelled in
    let calm = text_calm l t spelled few in
    let laid = program_laid l t Any_told spelled calm (λ n has. tt) in
    let opening = open_program k in
    let frame = program_frame k b in
    let orderly = program_stays k t opening.value frame.0 opening.known x.distinct x.stated
    ((open_program-lasts (orderly_lasts k b)).of k (start_orderly l b)) frame.1 in
    let d = define_program opening.value t opening.known in
    let c = and_routine d.known (main_row t.name) in
    let lot : AtBlock k b b c = record {
      all = x.all;
      seats = x.seats;
      calm = calm;
      stated = x.stated;
      laid = laid_same k b Any_told (tree.a_block_body b) d.known c x.stated (λ n has some. refl) laid;
      orderly = (orderly_lasts k b).routines d.known (main_row t.name) orderly;
    } in
    let low : (n : ℕ) → Has (block_node b) n → n < length k.words = λ n h. (let low = block_low l t spelled n h in omega (arith, low)) in
    block_carries k b f opening.value (length d.known.program.routines) 1 b c lot x.distinct.1.1.1.1.0 low
    (record { rows = λ n h fast. refl; later = kept_program (length f.regions) f f refl refl })

text_up : (l : Lexed) (t : ProgramTree) → spell (tree_node t) ≡ items_of l.tokens
    → Up l t (routines_node (part_of t.block)) (code_routines (part_of t.block))
unfolding check_step ◌>>=◌
text_up l t spelled = record {
  up = λ d level n name good d_has n_has name_has inner contained.
      let p = program_step t (known_at_start l) in
      let e = code_block p.value t.block p.known in
      elim (in_either (late_at 15 n) p.broken e.broken (found (late_at 15 n) (p.broken ++ e.broken) contained)) [
        | inl early ↦ declarations_quiet l t 15 n refl early
        | inr told ↦ whole_told l t t.block d level n name (text_law l.tokens t spelled).1.1.1.1.0 good d_has n_has name_has inner p.value p.known good.fresh
            told
      ];
}

pub text_right_law : TextsSpareLabels
text_right_law l t spelled few = (
  program_right l t spelled few,
  let x = whole l t spelled in
      rights_block l t spelled (text_world l t spelled few) 0 t.block x.seats (text_puts l t spelled few) x.distinct.1.1.1.1.0 (λ m h. h)
      (λ y i g h. h) (text_up l t spelled),
)
