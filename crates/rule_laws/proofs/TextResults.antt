-- The functions of a text that no assignment of their blocks names.
use Rattle.std.proofs.Common.{if◌then◌else◌, ◌++◌, ◌+◌, ◌<◌, ◌||◌, ◌∙◌, ◌∷◌, ◌≡◌, ◌⊎◌, [], ℕ, Bool, Contains, List, Some, ap, arith, false, inl, inr, length}
use Rattle.std.proofs.Common.{map, refl, replicate, slice_get, subst, suc, sym, true, unwrap_or, zero}
use Rattle.std.proofs.lemmas.{Bool.eqb-true, Option.none-some, Option.same_Some}
use Rattle.pas_lexer.specs.Lexed.{Lexed}
use Rattle.grammar.specs.Nodes.{Node}
use Rattle.pas_tree.specs.{HeadingPlaces.heading_name, StatementTrees.CompoundTree, StatementTrees.compound_body}
use Rattle.pas_tree.specs.BlockTrees.{BlockTree, BodyTree, ProgramTree, RoutineTree, RoutineTrees, routine_body, routine_heading}
use Rattle.pas_tree.specs.BlockTrees as tree
use Rattle.pas_tree.specs.TreeNodes.{block_node, routine_node, routines_node, statements_node}
use Rattle.core_program.specs.declared.rows.{NameRow.NameRow, PartRow.PartRow, Row.Row}
use Rattle.check_steps.specs.{Known.Known, Known.name_at, Known.row_at, Steps.◌>>=◌, Steps.Step, Steps.ask, Steps.look, Words.known_at_start}
use Rattle.check_steps.specs.{Words.required_names, declared.breaks.Break.Break, declared.regions.Span.Span}
use Rattle.denoter_checker.specs.{Formals.is_function, RoutineParts.routine_name}
use Rattle.decl_checker.specs.{Programs.main_row, Programs.program_step, Routines.first_name, Routines.own_frame}
use Rattle.statement_checker.specs.Assignments.{assigned_in}
use Rattle.code_checker.specs.{CheckedPrograms.broken, CheckedPrograms.check_step, CodePlaces.span_of}
use Rattle.code_checker.specs.Blocks.{code_block, code_body, code_routine, code_routines, statement_part}
use Rattle.code_checker.specs.Results.{function_result, has_result, name_in_first}
use Rattle.rule_laws.proofs.{Breaks.In, Breaks.contained, Breaks.in_right, Every.Every, Faces.said, JoinedParts.second_named, LabelTold.everywhere}
use Rattle.rule_laws.proofs.{Lasting.Declaring, Lasting.add_routine-lasts, LastsPrograms.define_program-lasts, LastsPrograms.open_program-lasts}
use Rattle.rule_laws.proofs.{LastsRoutines.block-lasts, LastsRoutines.block_each, LeftPlaces.block_has, LeftPlaces.lefts_has, Listed.Listed, Listed.listed_left}
use Rattle.rule_laws.proofs.{Listed.listed_right, Once.has_every, OrderlyTexts.text_orderly, PartTurns.Orderly, PartTurns.SecondOf, PartTurns.first_token}
use Rattle.rule_laws.proofs.{Seats.Seat, Seats.Seats, Seats.SeatsIn, Seats.SeatsOf, StatementLabels.reach_all-touches, TextBlocks.whole}
use Rattle.rule_laws.proofs.{TextChains.completes_said, TextFields.Any, TextFields.IsTold, TextFields.any_routines, TextForwards.routine_has}
use Rattle.rule_laws.proofs.{TextLabels.looked_gives, TextNames.text_block, TextTokens.IsOrdered, TextTokens.text_ordered, TextTokens.text_tokens}
use Rattle.rule_laws.proofs.{Timely.Timely, Timely.program_timely, Timely.start_timely, Touches.enter_block-touches, Touches.same_in}
use Rattle.rule_laws.proofs.Gives.{Gives, gives_both, gives_first, gives_none, gives_then}
use Rattle.rule_laws.proofs.Keeping.{Keeps, ask-keeps, bind-keeps, give-keeps, look-keeps}
use Rattle.rule_laws.proofs.Unassigned.{Among, Bare, Headed, Lefts, Ready, among_left, among_right, bare_of, compound_bare, headed_all, named_has}
use Rattle.rule_laws.specs.{CaseLaws.late_at, TextParts.OfEachAfter, TextParts.OfRoutineAfter, TextParts.OfRoutines, TextParts.OfRoutinesAfter, Tokens.Has}
use Rattle.rule_laws.specs.ForwardHeadings.{have_one_name, is_block, is_named, is_second, name_of_first}
use Rattle.rule_laws.specs.LeftNames.{block_lefts, body_lefts, compound_lefts, routine_lefts, routines_lefts}
use Rattle.rule_laws.specs.TextLaws.{IsUnnamed, IsUnnamedSince, TextsTellResults, has_name, routine_end}

-- ---- what the declarations of a program keep

pub program_keeps : {G : RoutineTree → Type 0} {I : Known → Type 0} → Declaring G I → (t : ProgramTree) → OfRoutines G t.block → Keeps I (program_step t)
unfolding program_step
program_keeps {G = G} c t all = bind-keeps (open_program-lasts c.kept) (λ frame.
    bind-keeps (define_program-lasts c frame t (block_each G t.block all)) (λ _. bind-keeps (add_routine-lasts c.kept (main_row t.name)) (λ number.
    bind-keeps (block-lasts c frame number 1 t.block all) (λ _. give-keeps frame))))

start_headed : (l : Lexed) → Headed (known_at_start l)
start_headed l = record { at = λ x assigned number region e. absurd (blank (length l.tokens + length required_names) x e) }
  where
    blank : (size n : ℕ) {r : NameRow} → unwrap_or (slice_get (replicate size Row.Nothing) n) Row.Nothing ≡ Row.Name r → ⊥
    blank zero n e = cc
    blank (suc size) zero e = cc
    blank (suc size) (suc n) e = blank size n e

-- ---- the statements of blocks

part_bare : (y : Lefts) → Ready y → (frame : ℕ) (span : Span) (c : CompoundTree) → Among y (compound_lefts c)
    → Keeps (Bare y) (statement_part frame span c)
unfolding statement_part
part_bare y ready frame span c all =
    bind-keeps (bare_of y (enter_block-touches span)) (λ _. bind-keeps (compound_bare y ready frame c all) (λ _. give-keeps tt))

result_bare : (y : Lefts) (function : Bool) (name : ℕ) → Keeps (Bare y) (function_result function name)
unfolding function_result
result_bare y function name = bind-keeps (look-keeps (λ k. has_result k function name)) (λ fine. ask-keeps _ name fine)

mutual
  block_bare : (y : Lefts) → Ready y → (frame : ℕ) (b : BlockTree) → Among y (block_lefts b) → Keeps (Bare y) (code_block frame b)
  block_bare y ready frame (tree.a_block labels constants types variables routines body) all =
      bind-keeps (bare_of y (reach_all-touches frame (compound_body body) (everywhere (statements_node (compound_body body))))) (λ _.
      bind-keeps (routines_bare y ready routines (among_left y (routines_lefts routines) (compound_lefts body) all)) (λ _.
      part_bare y ready frame (span_of (tree.a_block labels constants types variables routines body)) body
      (among_right y (routines_lefts routines) (compound_lefts body) all)))

  routines_bare : (y : Lefts) → Ready y → (rs : RoutineTrees) → Among y (routines_lefts rs) → Keeps (Bare y) (code_routines rs)
  routines_bare y ready tree.end_of_routines all = give-keeps tt
  routines_bare y ready (tree.more_routines r rest) all =
      bind-keeps (routine_bare y ready r (among_left y (routine_lefts r) (routines_lefts rest) all))
      (λ _. routines_bare y ready rest (among_right y (routine_lefts r) (routines_lefts rest) all))

  routine_bare : (y : Lefts) → Ready y → (r : RoutineTree) → Among y (routine_lefts r) → Keeps (Bare y) (code_routine r)
  routine_bare y ready (tree.a_routine heading semicolon body last_semicolon) all = body_bare y ready (is_function heading) (heading_name heading) body all

  body_bare : (y : Lefts) → Ready y → (function : Bool) (name : ℕ) (body : BodyTree) → Among y (body_lefts body)
      → Keeps (Bare y) (code_body function name body)
  body_bare y ready function name (tree.a_directive directive) all = give-keeps tt
  body_bare y ready function name (tree.a_block_body b) all = bind-keeps (look-keeps (λ k. own_frame k (name_in_first k name))) (λ frame.
      bind-keeps (block_bare y ready frame b all) (λ _. result_bare y function name))

-- ---- functions

-- The text and its tables where the statements begin.
record Begun : Type 0 where
  k : Known
  t : BlockTree
  c : Known
  orderly : Orderly k t c
  headed : Headed c
  timely : Timely k c

-- a token of the text
abbrev InText : Known → ℕ → Type 0
InText k n = n < length k.words

-- what stands before all these tokens, where nothing is assigned so far to functions at them
abbrev before : Begun → (ℕ → Type 0) → Lefts
before s R = record { k = s.k; t = s.t; c = s.c; lefts = λ n. (x : ℕ) → R x → n < x; free = R }

before_ready : (s : Begun) (x : Node) → Every (InText s.k) x → Ready (before s (Has x))
before_ready s x inside = record {
  sound = s.orderly.both.sound;
  headed = s.headed;
  timely = s.timely;
  there = λ m h. (has_every x m inside h).is;
  apart = λ n m left h alike. left m h;
}

-- what stands on the left in a function's block, where nothing is assigned so far to the function
abbrev inside_of : Begun → RoutineTree → Lefts
inside_of s r = record { k = s.k; t = s.t; c = s.c; lefts = Listed (body_lefts (routine_body r)); free = λ x. x ≡ routine_name r }

inside_ready : (s : Begun) (r : RoutineTree) → Every (InText s.k) (routine_node r)
    → has_name s.k (body_lefts (routine_body r)) (routine_name r) ≡ false → Ready (inside_of s r)
inside_ready s r inside off = record {
  sound = s.orderly.both.sound;
  headed = s.headed;
  timely = s.timely;
  there = λ x e. subst (InText s.k) (sym e) (has_every (routine_node r) (routine_name r) inside (routine_has r)).is;
  apart = λ n x left e alike.
      let has = named_has s.k (body_lefts (routine_body r)) n (routine_name r) left (alike ∙ ap (name_at s.k) e) in
      absurd (let never : true ≡ false = sym has ∙ off in cc);
}

listed_contains : (xs : List ℕ) (n : ℕ) → Listed xs n → Contains xs n
listed_contains [] n h = absurd h
listed_contains (x ∷ xs) n (inl e) = (0, omega arith, e)
listed_contains (x ∷ xs) n (inr h) = let c = listed_contains xs n h in (suc c.0, omega (arith, c.1), c.2)

-- what stands on the left in the text before a token, where nothing is assigned so far to a function that is named so
-- before its own token alone
abbrev until : Begun → ℕ → Lefts
until s end = record {
  k = s.k;
  t = s.t;
  c = s.c;
  lefts = λ n. Listed (block_lefts s.t) n × (n < end);
  free = λ x. InText s.k x × ((n : ℕ) → Contains (block_lefts s.t) n → n < end → name_at s.k n ≡ name_at s.k x → n < x);
}

until_ready : (s : Begun) (end : ℕ) → Ready (until s end)
until_ready s end = record {
  sound = s.orderly.both.sound;
  headed = s.headed;
  timely = s.timely;
  there = λ x free. free.0;
  apart = λ n x left free alike. free.1 n (listed_contains (block_lefts s.t) n left.0) left.1 alike;
}

-- So it is for what stands before a part of the text, and for what stands before each of its tokens.
record Bares (s : Begun) (x : Node) (j : Known) : Type 0 where
  early : Bare (before s (Has x)) j
  each : (end : ℕ) → Has x end → Bare (until s end) j

both_keep : (s : Begun) (x : Node) {A : Type 0} {m : Step A} → Keeps (Bare (before s (Has x))) m → ((end : ℕ) → Has x end → Keeps (Bare (until s end)) m)
    → Keeps (Bares s x) m
both_keep s x a b = record { of = λ j i. record { early = a.of j i.early; each = λ end h. (b end h).of j (i.each end h) } }

-- at fewer tokens
fewer : (s : Begun) (x y : Node) → ((n : ℕ) → Has y n → Has x n) → (j : Known) → Bares s x j → Bares s y j
fewer s x y less j b = record {
  early = record { same = b.early.same; none = λ n h. b.early.none n (less n h) };
  each = λ end h. b.each end (less end h);
}

at_name : (s : Begun) (r : RoutineTree) (j : Known) → Bares s (routine_node r) j → Bare (inside_of s r) j
at_name s r j b = record {
  same = b.early.same;
  none = λ x e. subst (λ n. assigned_in (row_at j n) ≡ false) (sym e) (b.early.none (routine_name r) (routine_has r));
}

gives_from : {I J : Known → Type 0} {Told : Break → Type 0} {A X : Type 0} {m : Step A} → ((j : Known) → I j → J j) → Gives J Told m X → Gives I Told m X
gives_from f g = record { of = λ j i w. g.of j (f j i) w }

-- what the law says of one
abbrev Tells : Begun → List Break → List RoutineTree → RoutineTree → Type 0
Tells s bs before r = is_function (routine_heading r) ≡ true → is_block (routine_body r) ≡ true → IsUnnamed s.k s.t before r
    → IsTold (record { k = s.k; bs = bs }) (late_at 12 (routine_name r))

told_by : (n : ℕ) (ok : Bool) → ok ≡ false → In (late_at 12 n) (if ok then [] else late_at 12 n ∷ [])
told_by n true wrong = absurd (let never : true ≡ false = wrong in cc)
told_by n false wrong = inl refl

-- where nothing is assigned to it the function is told
result_told : (function : Bool) (name : ℕ) (j : Known) → function ≡ true → assigned_in (row_at j (name_in_first j name)) ≡ false
    → In (late_at 12 name) (function_result function name j).broken
unfolding function_result look ◌>>=◌ ask
result_told true name j fn none = told_by name (has_result j true name) none
result_told false name j fn none = absurd (let never : false ≡ true = fn in cc)

-- the end of the block of a function that completes no other
own_bare : (y : Lefts) (j : Known) (name : ℕ) → Bare y j → y.free name → ((first : ℕ) → row_at y.c name ≡ Row.Part (PartRow.Completing first) → ⊥)
    → (r : Row) → row_at j name ≡ r → assigned_in (row_at j (unwrap_or (first_name r) name)) ≡ false
own_bare y j name b free never (Row.Part (PartRow.Completing first)) e = elim (b.same.sayings name) [
  | inl nothing ↦ absurd (let none : Row.Part (PartRow.Completing first) ≡ Row.Nothing = sym (ap said e) ∙ nothing.1 in cc)
  | inr same ↦ absurd (never first (completes_said (row_at y.c name) first (sym same ∙ ap said e)))
]
own_bare y j name b free never r e = b.none name free

result_gives : (y : Lefts) (bs : List Break) (function : Bool) (name : ℕ) → y.free name
    → ((first : ℕ) → row_at y.c name ≡ Row.Part (PartRow.Completing first) → ⊥)
    → Gives (Bare y) (IsTold (record { k = y.k; bs = bs })) (function_result function name)
    (function ≡ true → IsTold (record { k = y.k; bs = bs }) (late_at 12 name))
result_gives y bs function name free never = record {
  of = λ j b told fn. told (late_at 12 name) (result_told function name j fn (own_bare y j name b free never (row_at j name) refl));
}

-- ---- a function that has the block of an earlier heading

first_by : (k : Known) (q : RoutineTree) (qs : List RoutineTree) (r : RoutineTree) (m : ℕ) (b : Bool) → have_one_name k q r ≡ b
    → (first_token k qs r ≡ Some m → m ≡ name_of_first k qs r) → first_token k (q ∷ qs) r ≡ Some m → m ≡ name_of_first k (q ∷ qs) r
first_by k q qs r m true one later e =
    sym (same_Some (routine_name q) m (sym (ap (λ (c : Bool). if c then Some (routine_name q) else first_token k qs r) one) ∙ e))
    ∙ sym (ap (λ (c : Bool). if c then routine_name q else name_of_first k qs r) one)
first_by k q qs r m false one later e =
    later (sym (ap (λ (c : Bool). if c then Some (routine_name q) else first_token k qs r) one) ∙ e)
    ∙ sym (ap (λ (c : Bool). if c then routine_name q else name_of_first k qs r) one)

token_first : (k : Known) (qs : List RoutineTree) (r : RoutineTree) (m : ℕ) → first_token k qs r ≡ Some m → m ≡ name_of_first k qs r
token_first k [] r m e = absurd (none-some m e)
token_first k (q ∷ qs) r m e = first_by k q qs r m (have_one_name k q r) refl (λ h. token_first k qs r m h) e

-- the first of a name, and where it stands
record First (k : Known) (qs : List RoutineTree) (r : RoutineTree) : Type 0 where
  listed : Listed (map routine_name qs) (name_of_first k qs r)
  same : name_at k (name_of_first k qs r) ≡ name_at k (routine_name r)

named_by : (k : Known) (q : RoutineTree) (qs : List RoutineTree) (r : RoutineTree) (b : Bool) → have_one_name k q r ≡ b
    → (is_named k qs r ≡ true → First k qs r) → is_named k (q ∷ qs) r ≡ true → First k (q ∷ qs) r
named_by k q qs r true one later e =
    let first : name_of_first k (q ∷ qs) r ≡ routine_name q = ap (λ (c : Bool). if c then routine_name q else name_of_first k qs r) one in
    record { listed = inl (sym first); same = ap (name_at k) first ∙ eqb-true (name_at k (routine_name q)) (name_at k (routine_name r)) one }
named_by k q qs r false one later e =
    let first : name_of_first k (q ∷ qs) r ≡ name_of_first k qs r = ap (λ (c : Bool). if c then routine_name q else name_of_first k qs r) one in
    let f = later (sym (ap (λ c. c || is_named k qs r) one) ∙ e) in
    record { listed = inr (subst (Listed (map routine_name qs)) (sym first) f.listed); same = ap (name_at k) first ∙ f.same }

named_first : (k : Known) (qs : List RoutineTree) (r : RoutineTree) → is_named k qs r ≡ true → First k qs r
named_first k [] r e = absurd (let never : false ≡ true = e in cc)
named_first k (q ∷ qs) r e = named_by k q qs r (have_one_name k q r) refl (λ h. named_first k qs r h) e

-- what the text says of one after others in a part: the first of its name, and that this one has the block of that
record IsJoined (s : Begun) (earlier : List RoutineTree) (r : RoutineTree) : Type 1 where
  seat : Seat s.t earlier r
  there : InText s.k (routine_name r)
  below : name_of_first s.k earlier r < routine_name r
  same : name_at s.k (name_of_first s.k earlier r) ≡ name_at s.k (routine_name r)
  off : IsUnnamedSince s.k s.t (name_of_first s.k earlier r) r

-- nothing is assigned to the function where its block ends
first_bare : (s : Begun) (earlier : List RoutineTree) (r : RoutineTree) (j : Known) → IsJoined s earlier r → Bare (until s (routine_end r)) j → (row : Row)
    → row_at j (routine_name r) ≡ row → assigned_in (row_at j (unwrap_or (first_name row) (routine_name r))) ≡ false
first_bare s earlier r j i b (Row.Part (PartRow.Completing first)) e = elim (b.same.sayings (routine_name r)) [
  | inl nothing ↦ absurd (let never : Row.Part (PartRow.Completing first) ≡ Row.Nothing = sym (ap said e) ∙ nothing.1 in cc)
  | inr same ↦
      let at = completes_said (row_at s.c (routine_name r)) first (sym same ∙ ap said e) in
      let own = i.seat.own (SecondOf s.k first) (s.orderly.marked.completing (routine_name r) first at) in
      let is = token_first s.k earlier r first own.1 in
      let there = i.there in
      let below = i.below in
      subst (λ n. assigned_in (row_at j n) ≡ false) (sym is)
      (b.none (name_of_first s.k earlier r) (omega (arith, there, below), λ left listed before alike. i.off left listed before (alike ∙ i.same)))
]
first_bare s earlier r j i b row e = b.none (routine_name r) (
  i.there,
  λ left listed before alike. let first = i.off left listed before alike in let below = i.below in omega (arith, first, below),
)

end_gives : (s : Begun) (bs : List Break) (earlier : List RoutineTree) (r : RoutineTree) → IsJoined s earlier r → (function : Bool)
    → Gives (Bare (until s (routine_end r))) (IsTold (record { k = s.k; bs = bs })) (function_result function (routine_name r))
    (function ≡ true → IsTold (record { k = s.k; bs = bs }) (late_at 12 (routine_name r)))
end_gives s bs earlier r i function = record {
  of = λ j b told fn. told (late_at 12 (routine_name r))
      (result_told function (routine_name r) j fn (first_bare s earlier r j i b (row_at j (routine_name r)) refl));
}

until_gives : (s : Begun) (bs : List Break) (earlier : List RoutineTree) (r : RoutineTree) (b : BlockTree) → IsJoined s earlier r → (function : Bool)
    → Among (until s (routine_end r)) (block_lefts b)
    → Gives (Bare (until s (routine_end r))) (IsTold (record { k = s.k; bs = bs })) (code_body function (routine_name r) (tree.a_block_body b))
    (function ≡ true → IsTold (record { k = s.k; bs = bs }) (late_at 12 (routine_name r)))
until_gives s bs earlier r b i function among =
    let name = routine_name r in
    looked_gives (λ j. own_frame j (name_in_first j name)) (λ frame. code_block frame b >>= λ _. function_result function name)
    (λ j bare. gives_then (block_bare (until s (routine_end r)) (until_ready s (routine_end r)) (own_frame j (name_in_first j name)) b among)
    (λ _. end_gives s bs earlier r i function))

-- a function's block and its end
own_gives : (s : Begun) (bs : List Break) (r : RoutineTree) (b : BlockTree) → routine_body r ≡ tree.a_block_body b → Ready (inside_of s r)
    → ((first : ℕ) → row_at s.c (routine_name r) ≡ Row.Part (PartRow.Completing first) → ⊥)
    → Gives (Bare (inside_of s r)) (IsTold (record { k = s.k; bs = bs }))
    (code_body (is_function (routine_heading r)) (routine_name r) (tree.a_block_body b))
    (is_function (routine_heading r) ≡ true → IsTold (record { k = s.k; bs = bs }) (late_at 12 (routine_name r)))
own_gives s bs r b same ready never =
    let y = inside_of s r in
    let name = routine_name r in
    let among : Among y (block_lefts b) = λ n i. subst (λ (body : BodyTree). Listed (body_lefts body) n) (sym same) i in
    looked_gives (λ j. own_frame j (name_in_first j name)) (λ frame. code_block frame b >>= λ _. function_result (is_function (routine_heading r)) name)
    (λ j bare. gives_then (block_bare y ready (own_frame j (name_in_first j name)) b among)
    (λ _. result_gives y bs (is_function (routine_heading r)) name refl never))

-- it completes no other, if it has not the block of one
completes_none : (s : Begun) (before : List RoutineTree) (r : RoutineTree) → Seat s.t before r → is_second s.k before r ≡ false → (first : ℕ)
    → row_at s.c (routine_name r) ≡ Row.Part (PartRow.Completing first) → ⊥
completes_none s before r seat none first e =
    let own = seat.own (SecondOf s.k first) (s.orderly.marked.completing (routine_name r) first e) in
    let never : true ≡ false = sym own.0 ∙ none in cc

-- these names stand so in the text
abbrev AmongAll : Begun → List ℕ → Type 0
AmongAll s xs = (n : ℕ) → Listed xs n → Listed (block_lefts s.t) n

-- the names of these stand before it
abbrev Behind : List RoutineTree → Node → Type 0
Behind earlier x = (m : ℕ) → Listed (map routine_name earlier) m → (n : ℕ) → Has x n → m < n

listed_end : (earlier : List RoutineTree) (r : RoutineTree) (m : ℕ) → Listed (map routine_name (earlier ++ r ∷ [])) m
    → Listed (map routine_name earlier) m ⊎ (routine_name r ≡ m)
listed_end [] r m (inl e) = inr e
listed_end [] r m (inr h) = absurd h
listed_end (q ∷ qs) r m (inl e) = inl (inl e)
listed_end (q ∷ qs) r m (inr h) = elim (listed_end qs r m h) [
  | inl l ↦ inl (inr l)
  | inr e ↦ inr e
]

either : {X : Type 0} (b : Bool) → (b ≡ false → X) → (b ≡ true → X) → X
either false f g = f refl
either true f g = g refl

mutual
  block_gives : (s : Begun) (bs : List Break) (frame : ℕ) (b : BlockTree) → Every (InText s.k) (block_node b) → IsOrdered (block_node b)
      → AmongAll s (block_lefts b) → Seats s.t b
      → Gives (Bares s (block_node b)) (IsTold (record { k = s.k; bs = bs })) (code_block frame b) (OfRoutinesAfter (Tells s bs) b)
  block_gives s bs frame (tree.a_block labels constants types variables routines body) inside o among seats =
      let b = tree.a_block labels constants types variables routines body in
      let touches = reach_all-touches frame (compound_body body) (everywhere (statements_node (compound_body body))) in
      gives_then (both_keep s (block_node b) (bare_of (before s (Has (block_node b))) touches) (λ end h. bare_of (until s end) touches))
      (λ _. gives_from (fewer s (block_node b) (routines_node routines) (λ n h. inr (inr (inr (inr (inl h))))))
      (gives_first _ (routines_give s bs [] routines inside.1.1.1.1.0 o.1.1.1.1.0
      (λ n i. among n (listed_left (routines_lefts routines) (compound_lefts body) n i)) seats (λ m listed n has. absurd listed))))

  routines_give : (s : Begun) (bs : List Break) (earlier : List RoutineTree) (rs : RoutineTrees) → Every (InText s.k) (routines_node rs)
      → IsOrdered (routines_node rs) → AmongAll s (routines_lefts rs) → SeatsIn s.t earlier rs → Behind earlier (routines_node rs)
      → Gives (Bares s (routines_node rs)) (IsTold (record { k = s.k; bs = bs })) (code_routines rs) (OfEachAfter (Tells s bs) earlier rs)
  routines_give s bs earlier tree.end_of_routines inside o among seats behind = gives_none
  routines_give s bs earlier (tree.more_routines r rest) inside o among seats behind =
      let x = routines_node (tree.more_routines r rest) in
      let y = before s (Has (routines_node rest)) in
      let here : Among y (routine_lefts r) = λ n i m h. o.2 n m (lefts_has r n i) h in
      let first : AmongAll s (routine_lefts r) = λ n i. among n (listed_left (routine_lefts r) (routines_lefts rest) n i) in
      let later : AmongAll s (routines_lefts rest) = λ n i. among n (listed_right (routine_lefts r) (routines_lefts rest) n i) in
      gives_both (gives_first _ (gives_from (fewer s x (routine_node r) (λ n h. inl h)) (routine_gives s bs earlier r inside.0 o.0 first seats.0
      (λ m listed n has. behind m listed n (inl has)))))
      (gives_from (fewer s x (routines_node rest) (λ n h. inr h))
      (gives_then (both_keep s (routines_node rest) (routine_bare y (before_ready s (routines_node rest) inside.1) r here)
      (λ end h. routine_bare (until s end) (until_ready s end) r (λ n i. (first n i, o.2 n end (lefts_has r n i) h))))
      (λ _. routines_give s bs (earlier ++ r ∷ []) rest inside.1 o.1 later seats.1 (λ m listed n has. elim (listed_end earlier r m listed) [
        | inl before ↦ behind m before n (inr has)
        | inr own ↦ o.2 m n (subst (Has (routine_node r)) own (routine_has r)) has
      ]))))

  routine_gives : (s : Begun) (bs : List Break) (earlier : List RoutineTree) (r : RoutineTree) → Every (InText s.k) (routine_node r)
      → IsOrdered (routine_node r) → AmongAll s (routine_lefts r) → SeatsOf s.t earlier r → Behind earlier (routine_node r)
      → Gives (Bares s (routine_node r)) (IsTold (record { k = s.k; bs = bs })) (code_routine r) (OfRoutineAfter (Tells s bs) earlier r)
  routine_gives s bs earlier (tree.a_routine heading semicolon (tree.a_directive directive) last_semicolon) inside o among seats behind =
      record { of = λ j b told. ((λ fn block. absurd (let never : false ≡ true = block in cc)), tt) }
  routine_gives s bs earlier (tree.a_routine heading semicolon (tree.a_block_body b) last_semicolon) inside o among seats behind =
      let r = tree.a_routine heading semicolon (tree.a_block_body b) last_semicolon in
      let name = heading_name heading in
      let here : Among (until s last_semicolon) (block_lefts b) = λ n i. (among n i, o.1.1.2 n last_semicolon (block_has b n i) refl) in
      gives_both
      (record {
        of = λ j bare told fn block unnamed. either (is_second s.k earlier r) (λ none.
            (own_gives s bs r b refl (inside_ready s r inside (unnamed.own none)) (completes_none s earlier r seats.0 none)).of j (at_name s r j bare) told fn)
            (λ second.
            let first = named_first s.k earlier r (second_named s.k earlier r second) in
            let i : IsJoined s earlier r = record {
              seat = seats.0;
              there = (has_every (routine_node r) name inside (routine_has r)).is;
              below = behind (name_of_first s.k earlier r) first.listed name (routine_has r);
              same = first.same;
              off = unnamed.joined second;
            } in
            (until_gives s bs earlier r b i (is_function heading) here).of j (bare.each last_semicolon (inr (inr (inr refl)))) told fn);
      })
      (gives_from (fewer s (routine_node r) (block_node b) (λ n h. inr (inr (inl h))))
      (looked_gives (λ j. own_frame j (name_in_first j name)) (λ frame. code_block frame b >>= λ _. function_result (is_function heading) name)
      (λ j bare. gives_first _ (block_gives s bs (own_frame j (name_in_first j name)) b inside.1.1.0 o.1.1.0 among seats.1))))

-- ---- a text

bare_row : (c : Known) (x : ℕ) (r : Row) → row_at c x ≡ r → Headed c → assigned_in r ≡ false
bare_row c x (Row.Name (NameRow.Routine assigned number region)) e s = (s.at x assigned number region e).fresh
bare_row c x (Row.Name r) e s = refl
bare_row c x r e s = refl

pub text_result_law : TextsTellResults
unfolding check_step ◌>>=◌
text_result_law l t spelled =
    let k = known_at_start l in
    let inside = text_tokens l t spelled in
    let order = text_ordered l.tokens t spelled in
    let own : IsOrdered (block_node t.block) = order.1.1.1.1.0 in
    let all = text_block k t.block t.block inside.1.1.1.1.0 (λ name none. none) in
    let text = whole l t spelled in
    let d = program_step t k in
    let s : Begun = record {
      k = k;
      t = t.block;
      c = d.known;
      headed = (program_keeps (headed_all {G = Any}) t (any_routines t.block)).of k (start_headed l);
      timely = (program_timely k t own).of k (start_timely l);
      orderly = text_orderly l t text;
    } in
    let bare : Bares s (block_node t.block) d.known = record {
      early = record { same = same_in d.known; none = λ x h. bare_row d.known x (row_at d.known x) refl s.headed };
      each = λ end h. record { same = same_in d.known; none = λ x free. bare_row d.known x (row_at d.known x) refl s.headed };
    } in
    (block_gives s (broken l t) d.value t.block inside.1.1.1.1.0 own (λ n i. i) text.seats).of d.known bare
    (λ b i. contained b (broken l t) (in_right b d.broken (code_block d.value t.block d.known).broken i))
