-- The labels in front of the statements of a text that the closest block does not declare.
use Rattle.std.proofs.Common.{◌&&◌, ◌++◌, ◌-◌, ◌<◌, ◌^◌, ◌∙◌, ◌∷◌, ◌≡◌, ◌⊎◌, [], ℕ, Bool, List, None, Option, Some, ap, arith, false, inl, inr, length, map}
use Rattle.std.proofs.Common.{not, refl, subst, sym, true, unwrap_or}
use Rattle.std.proofs.lemmas.{Bool.ne_eqb, List.append_assoc}
use Rattle.pas_lexer.specs.Lexed.{Lexed}
use Rattle.grammar.specs.Nodes.{spell}
use Rattle.pas_tree.specs.{HeadingPlaces.heading_name, TreeNodes.statements_node, TreeNodes.tree_node}
use Rattle.pas_tree.specs.BlockTrees.{BlockTree, ProgramTree, RoutineTree, RoutineTrees, routine_body}
use Rattle.pas_tree.specs.BlockTrees as tree
use Rattle.pas_tree.specs.StatementTrees.{CompoundTree, compound_body}
use Rattle.pas_parser.specs.Formed.{items_of}
use Rattle.core_program.specs.declared.rows.{NameRow.NameRow, PartRow.PartRow, Row.Row}
use Rattle.check_steps.specs.{Regions.RegionRows, Regions.declared_in, Regions.region_at, Steps.◌>>=◌, Words.known_at_start}
use Rattle.check_steps.specs.Known.{Known, find_label, frame_at, label_at, row_at}
use Rattle.check_steps.specs.declared.{regions.Frame.Frame, words.SpelledToken.SpelledToken}
use Rattle.denoter_checker.specs.{Formals.is_function, RoutineParts.routine_name}
use Rattle.decl_checker.specs.{Programs.program_step, Routines.first_name, Routines.one_deeper, Routines.own_frame, Scopes.routine_region}
use Rattle.statement_checker.specs.{Labels.row_of, Statements.compound}
use Rattle.code_checker.specs.{CheckedPrograms.broken, CheckedPrograms.check_step, Results.function_result, Results.name_in_first}
use Rattle.code_checker.specs.Blocks.{code_block, code_routine, code_routines}
use Rattle.rule_laws.proofs.{Breaks.contained, Breaks.in_right, Chains.text_ways, Faces.fine_in, Faces.said, LabelTold.Where, LabelTold.Wrong}
use Rattle.rule_laws.proofs.{LabelTold.everywhere, Listed.Listed, Mated.listed_earlier, Mated.listed_one, MatedText.program_laid, MatedText.text_calm}
use Rattle.rule_laws.proofs.{Outward.Outward, PartTurns.SecondOf, Seats.Seat, Seats.Seats, Seats.SeatsIn, Seats.SeatsOf, StatementLabels.reach_all-touches}
use Rattle.rule_laws.proofs.{TextBlocks.whole, TextFields.IsTold, TextFields.Text, TextRoutines.no_split, TextTokens.text_length, Touches.same_in}
use Rattle.rule_laws.proofs.Chains.{Below, Chain, Fits, IsHome, Names, NamesAt, NamesEach, NamesPart, NamesRoutine, Scope, first_listed, fits_left, fits_right}
use Rattle.rule_laws.proofs.Gives.{Gives, gives_both, gives_first, gives_none, gives_then}
use Rattle.rule_laws.proofs.Laters.{Later, Way, found_declared, longer_frame, way_later, way_map}
use Rattle.rule_laws.proofs.TextLabels.{Begun, Coded, code_routine-touches, coded, listed_has, looked_gives, main_told, own_then, said_routine, starts}
use Rattle.rule_laws.proofs.TextLabels.{text_declared, told_from, wrong_at}
use Rattle.rule_laws.proofs.TextScopes.{Any_told, View, World, outermost_walk, program_world}
use Rattle.rule_laws.specs.{BlockLabels.compound_labels, CaseLaws.late_at, ForwardHeadings.is_block, ForwardHeadings.routines_in}
use Rattle.rule_laws.specs.TextLaws.{TextsTellUndeclared, UndeclaredAreTold, has_label, labels_in_body, statement_labels_in}
use Rattle.rule_laws.specs.TextParts.{OfEach, OfRoutine, OfRoutines}

-- ---- what is known where the statements begin

pub later_coded : (k j : Known) → Coded k j → Later k j
later_coded k j i = record {
  frames = i.same.frames;
  many = (let same = ap (λ (rs : List RegionRows). length rs) i.same.regions in omega (arith, same));
  labels = λ region v below. ap (λ (rs : List RegionRows). declared_in rs region v) i.same.regions;
  own = λ region below. ap (λ (rs : List RegionRows). (region_at rs region).frame) i.same.regions;
}

-- a label that is found from the frame of a block is one of these, or may mark no statement of the block
abbrev Found : Known → List ℕ → (frame token : ℕ) → Type 0
Found k own frame d = Listed own d ⊎ (fine_in (frame_at k frame).level (row_at k d) ≡ false)

abbrev IsFound : Known → List ℕ → ℕ → Type 0
IsFound k own frame = Way (λ d. Found k own frame d) frame k

and_false : (b : Bool) → (b && false) ≡ false
and_false true = refl
and_false false = refl

further_out : (c : Chain) (b : ℕ) (k : Known) (d n : ℕ) → View (outermost_walk c) b k → Below c n d → (r : Row) → row_at k d ≡ r → fine_in n r ≡ false
further_out c b k d n view far (Row.Name (NameRow.Label marked v l ways)) e =
    let less = far l (view.rows d marked v l ways e) in
    ap (λ t. not marked && t) (ne_eqb (n - l) 0 (λ same. omega (arith, less, same))) ∙ and_false (not marked)
further_out c b k d n view far (Row.Name r) e = refl
further_out c b k d n view far r e = refl

-- ---- the frame of a routine's block

pub completes_said : (r : Row) (first : ℕ) → said r ≡ Row.Part (PartRow.Completing first) → r ≡ Row.Part (PartRow.Completing first)
completes_said (Row.Type t) first e = absurd cc
completes_said (Row.Name (NameRow.Constant of' v)) first e = absurd cc
completes_said (Row.Name (NameRow.Text token)) first e = absurd cc
completes_said (Row.Name (NameRow.Routine assigned n region)) first e = absurd cc
completes_said (Row.Name (NameRow.Label marked value level ways)) first e = absurd cc
completes_said (Row.Part (PartRow.Completing m)) first e = e
completes_said r first e = absurd cc

-- a heading completes another where the statements begin as the declarations left it
still_completing : (c : Chain) (k j : Known) (x first : ℕ) → Coded k j → row_at j x ≡ Row.Part (PartRow.Completing first)
    → row_at k x ≡ Row.Part (PartRow.Completing first)
still_completing c k j x first i e = elim (i.same.sayings x) [
  | inl nothing ↦ absurd (let never : Row.Part (PartRow.Completing first) ≡ Row.Nothing = sym (ap said e) ∙ nothing.1 in cc)
  | inr same ↦ completes_said (row_at k x) first (sym same ∙ ap said e)
]

first_found : (c : Chain) (k j : Known) (own : List ℕ) → World (outermost_walk c) k → Coded k j → IsFound k own (region_at j.regions 0).frame
first_found c k j own w i =
    let h = w.view.first in
    let same : (region_at j.regions 0).frame ≡ 0
    = ap (λ (rs : List RegionRows). (region_at rs 0).frame) i.same.regions ∙ h.later.own 0 h.is.inside ∙ h.is.home in
    subst (λ g. IsFound k own g) (sym same)
    (way_map (λ d. ⊥) (λ d. Found k own 0 d) 0 k (λ d never. absurd never) (way_later (λ d. ⊥) 0 h.before k h.later h.is.way))

-- what the text says of one of a part
pub record Placed (c : Chain) (n : ℕ) (rs : RoutineTrees) (before : List RoutineTree) (r : RoutineTree) (after : List RoutineTree) : Type 0 where
  pub one : routines_in rs ≡ before ++ r ∷ after
  pub down : (x : ℕ) (i : Known) (g : ℕ) → Names c x i g → Listed (map routine_name (routines_in rs)) x → Scope c n rs x i g

row_found : (c : Chain) (k j : Known) (n : ℕ) (rs : RoutineTrees) (before : List RoutineTree) (r : RoutineTree) (after : List RoutineTree) (x : ℕ)
    → World (outermost_walk c) k → Coded k j → Placed c n rs before r after → Listed (map routine_name (routines_in rs)) x → IsHome c.k before r x
    → (row : Row) → row_at j x ≡ row → IsFound k (labels_in_body (routine_body r)) (region_at j.regions (routine_region row)).frame
row_found c k j n rs before r after x w i p there home (Row.Name (NameRow.Routine assigned number region)) e = elim (i.same.sayings x) [
  | inl nothing ↦ absurd (let never : Row.Name (NameRow.Routine false number region) ≡ Row.Nothing = sym (ap said e) ∙ nothing.1 in cc)
  | inr same ↦
      let own = labels_in_body (routine_body r) in
      let row = said_routine (row_at k x) number region (sym same ∙ ap said e) in
      let h = w.view.heads x row.assigned number region row.is in
      let g = (region_at h.before.regions region).frame in
      let scope = p.down x h.before g h.is.scope there in
      let found = scope.own before r after p.one home in
      let level : (frame_at k g).level ≡ n
      = ap (λ (f : Frame). f.level) (longer_frame h.before.frames k.frames g h.later.frames found.there) ∙ scope.level in
      let P : ℕ → Type 0 = λ d. Listed own d ⊎ Below c n d in
      let way : IsFound k own g = way_map P (λ d. Found k own g d) g k (λ d y. elim y [
        | inl mine ↦ inl mine
        | inr far ↦ inr (subst (λ l. fine_in l (row_at k d) ≡ false) (sym level) (further_out c w.bound k d n w.view far (row_at k d) refl))
      ]) (way_later P g h.before k h.later found) in
      let at : (region_at j.regions region).frame ≡ g
      = ap (λ (rs : List RegionRows). (region_at rs region).frame) i.same.regions ∙ h.later.own region h.is.inside in
      subst (λ y. IsFound k own y) (sym at) way
]
row_found c k j n rs before r after x w i p there home (Row.Name row) e = first_found c k j (labels_in_body (routine_body r)) w i
row_found c k j n rs before r after x w i p there home row e = first_found c k j (labels_in_body (routine_body r)) w i

-- from the frame of its first heading
pub own_found : (c : Chain) (k j : Known) (n : ℕ) (rs : RoutineTrees) (before : List RoutineTree) (r : RoutineTree) (after : List RoutineTree)
    → World (outermost_walk c) k → Coded k j → Placed c n rs before r after → Seat c.t before r → is_block (routine_body r) ≡ true
    → (row : Row) → row_at j (routine_name r) ≡ row
    → IsFound k (labels_in_body (routine_body r)) (own_frame j (unwrap_or (first_name row) (routine_name r)))
own_found c k j n rs before r after w i p seat block (Row.Part (PartRow.Completing first)) e =
    let second = seat.own (SecondOf c.k first) (w.orderly.marked.completing (routine_name r) first (still_completing c k j (routine_name r) first i e)) in
    let there = listed_earlier (routines_in rs) before (r ∷ after) first p.one (first_listed c.k before r first second.1) in
    row_found c k j n rs before r after first w i p there (inr second) (row_at j first) refl
own_found c k j n rs before r after w i p seat block row e =
    row_found c k j n rs before r after (routine_name r) w i p (listed_one (routines_in rs) before r after p.one) (inl (refl, block))
    (row_at j (routine_name r)) refl

-- ---- the statements of a block

found_gives : (x : Text) (k : Known) → Begun x k
    → ((region v d : ℕ) → declared_in k.regions region v ≡ Some d → label_at x.k d ≡ v) → (own : List ℕ) (frame : ℕ) → IsFound k own frame
    → Outward k.frames frame → (c : CompoundTree) → Gives (Coded k) (IsTold x) (compound frame c) (UndeclaredAreTold x.k x.bs own (compound_labels c))
found_gives x k begun declared own frame way outward c = record {
  of = λ j i w before label after same off.
      let p : Where = record { k = j; frame = frame; t = label } in
      let spelled : label_at j label ≡ label_at x.k label
      = ap (λ (ws : List SpelledToken). label_at (record x.k { words = ws }) label) (i.same.words ∙ begun.words) in
      let later = later_coded k j i in
      let there = way_later (λ d. Found k own frame d) frame k j later way in
      let level : (frame_at k frame).level ≡ (frame_at j frame).level
      = ap (λ (f : Frame). f.level) (sym (longer_frame k.frames j.frames frame i.same.frames way.there)) in
      let wrong = subst (Wrong p true) (sym same) (wrong_at p true before after refl) in
      w (late_at 15 label) (told_from x k begun frame outward c j i label true
      (λ e. spent j i label (label_at j label) spelled off level there (find_label j frame (label_at j label)) refl) wrong);
}
  where
    spent : (j : Known) → Coded k j → (label v : ℕ) → v ≡ label_at x.k label → has_label x.k own label ≡ false
        → (frame_at k frame).level ≡ (frame_at j frame).level → Way (λ d. Found k own frame d) frame j → (o : Option ℕ) → find_label j frame v ≡ o
        → fine_in (frame_at j frame).level (row_of j o) ≡ false
    spent j i label v spelled off level there None e = refl
    spent j i label v spelled off level there (Some d) e = elim (there.finds v d e) [
      | inl mine ↦
          let at = found_declared j v d (length j.frames) (Some frame) e in
          let value = declared at.region v d (sym (ap (λ (rs : List RegionRows). declared_in rs at.region v) i.same.regions) ∙ at.is) in
          absurd (let never : true ≡ false = sym (listed_has x.k own d label mine (value ∙ spelled)) ∙ off in cc)
      | inr gone ↦ i.same.spent d (frame_at j frame).level (subst (λ l. fine_in l (row_at k d) ≡ false) level gone)
    ]

-- ---- blocks in blocks

abbrev pub chain_of : Lexed → ProgramTree → Chain
chain_of l t = record { k = known_at_start l; t = t.block }

-- what the law says of a procedure or function on the chain
abbrev Tells : Lexed → ProgramTree → RoutineTree → Type 0
Tells l t r = UndeclaredAreTold (known_at_start l) (broken l t) (labels_in_body (routine_body r)) (statement_labels_in (routine_body r))

abbrev coded_in : Lexed → ProgramTree → Known
coded_in l t = (program_step t (known_at_start l)).known

abbrev text_of : Lexed → ProgramTree → Text
text_of l t = record { k = known_at_start l; bs = broken l t }

mutual
  chain_block : (l : Lexed) (t : ProgramTree) → World (outermost_walk (chain_of l t)) (coded_in l t) → (frame n : ℕ) (b : BlockTree) → Seats t.block b
      → ((y : ℕ) (i : Known) (g : ℕ) → Names (chain_of l t) y i g → NamesAt (chain_of l t) n b y i g)
      → Gives (Coded (coded_in l t)) (IsTold (text_of l t)) (code_block frame b) (OfRoutines (Tells l t) b)
  chain_block l t w frame n (tree.a_block labels constants types variables routines body) seats down =
      gives_then (coded {k = coded_in l t} (reach_all-touches frame (compound_body body) (everywhere (statements_node (compound_body body)))))
      (λ _. gives_first _ (chain_routines l t w (one_deeper n) routines [] routines refl seats (λ y i g h. (down y i g h).0) (λ y i g h. (down y i g h).1)))

  chain_routines : (l : Lexed) (t : ProgramTree) → World (outermost_walk (chain_of l t)) (coded_in l t) → (n : ℕ) (part : RoutineTrees)
      (before : List RoutineTree) (rs : RoutineTrees) → routines_in part ≡ before ++ routines_in rs → SeatsIn t.block before rs
      → ((y : ℕ) (i : Known) (g : ℕ) → Names (chain_of l t) y i g → NamesPart (chain_of l t) n part y i g)
      → ((y : ℕ) (i : Known) (g : ℕ) → Names (chain_of l t) y i g → NamesEach (chain_of l t) n rs y i g)
      → Gives (Coded (coded_in l t)) (IsTold (text_of l t)) (code_routines rs) (OfEach (Tells l t) rs)
  chain_routines l t w n part before tree.end_of_routines one seats here down = gives_none
  chain_routines l t w n part before (tree.more_routines r rest) one seats here down = gives_both
      (gives_first _ (chain_routine l t w n part before r (routines_in rest) one seats.0 here (λ y i g h. (down y i g h).0)))
      (gives_then (coded (code_routine-touches r)) (λ _. chain_routines l t w n part (before ++ r ∷ []) rest
      (one ∙ sym (append_assoc before (r ∷ []) (routines_in rest))) seats.1 here (λ y i g h. (down y i g h).1)))

  chain_routine : (l : Lexed) (t : ProgramTree) → World (outermost_walk (chain_of l t)) (coded_in l t) → (n : ℕ) (part : RoutineTrees)
      (before : List RoutineTree) (r : RoutineTree) (after : List RoutineTree) → routines_in part ≡ before ++ r ∷ after → SeatsOf t.block before r
      → ((y : ℕ) (i : Known) (g : ℕ) → Names (chain_of l t) y i g → NamesPart (chain_of l t) n part y i g)
      → ((y : ℕ) (i : Known) (g : ℕ) → Names (chain_of l t) y i g → NamesRoutine (chain_of l t) n r y i g)
      → Gives (Coded (coded_in l t)) (IsTold (text_of l t)) (code_routine r) (OfRoutine (Tells l t) r)
  chain_routine l t w n part before (tree.a_routine heading semicolon (tree.a_directive directive) last_semicolon) after one seats here down =
      record { of = λ j i told. ((λ before label after same off. absurd (no_split before label after same)), tt) }
  chain_routine l t w n part before (tree.a_routine heading semicolon (tree.a_block_body b) last_semicolon) after one seats here down =
      let r = tree.a_routine heading semicolon (tree.a_block_body b) last_semicolon in
      let c = chain_of l t in
      let k = coded_in l t in
      let s = starts l t in
      let x = text_of l t in
      let name = heading_name heading in
      looked_gives (λ j. own_frame j (name_in_first j name)) (λ frame. code_block frame b >>= λ _. function_result (is_function heading) name)
      (λ j i. gives_first _ (gives_both
      (main_told x {k = k} (UndeclaredAreTold x.k x.bs (labels_in_body (routine_body r))) (own_frame j (name_in_first j name)) b
      (found_gives x k s.begun (λ region v d e. (s.declared region v d e).0) (labels_in_body (routine_body r)) (own_frame j (name_in_first j name))
      (own_found c k j n part before r after w i (record { one = one; down = λ y i g h l. here y i g h l }) seats.0 refl (row_at j name) refl)
      (own_then k j (name_in_first j name) s.begun.tidy i)))
      (chain_block l t w (own_frame j (name_in_first j name)) n b seats.1 down)))

-- ---- a text

chain_told : (l : Lexed) (t : ProgramTree) → spell (tree_node t) ≡ items_of l.tokens → length l.tokens < 2 ^ 32
    → OfRoutines (Tells l t) t.block
unfolding check_step ◌>>=◌
chain_told l t spelled few =
    let c = chain_of l t in
    let k = known_at_start l in
    let text = whole l t spelled in
    let long = text_length l.tokens t spelled in
    let fits : Fits 0 (tree_node t) = record { is = omega (arith, long, few) } in
    let own = (fits_left (fits_right (fits_right (fits_right (fits_right fits))))).is in
    let ways = text_ways c text.distinct.1.1.1.1.0 (omega (arith, own)) in
    let calm = text_calm l t spelled few in
    let w = program_world l t ways text calm (program_laid l t Any_told spelled calm (λ x has. tt)) in
    let d = program_step t k in
    (chain_block l t w d.value 0 t.block text.seats (λ y i g h. h)).of d.known (record { same = same_in d.known })
    (λ b i. contained b (broken l t) (in_right b d.broken (code_block d.value t.block d.known).broken i))

pub text_declared_law : TextsTellUndeclared
text_declared_law l t = let two = text_declared l t in (two.0, two.1, λ spelled few. chain_told l t spelled few)
