-- What a law says of each procedure and function of a text, also of those with the block of a forward heading.
use Rattle.std.proofs.Common.{◌+◌, ◌<◌, ◌^◌, ◌∙◌, ◌≡◌, [], ℕ, List, ap, arith, inl, inr, length, refl, replicate, slice_get, suc, unwrap_or, zero}
use Rattle.pas_lexer.specs.Lexed.{Lexed}
use Rattle.grammar.specs.Nodes.{spell}
use Rattle.pas_tree.specs.{BlockTrees.ProgramTree, BlockTrees.RoutineTree, TreeNodes.tree_node}
use Rattle.pas_tree.specs.BlockTrees as tree
use Rattle.pas_parser.specs.Formed.{items_of}
use Rattle.core_program.specs.declared.rows.Row.{Row}
use Rattle.check_steps.specs.{Known.Known, Known.frame_at, Known.row_at, Words.known_at_start, Words.required_names, declared.breaks.Break.Break}
use Rattle.check_steps.specs.Steps.{◌>>=◌, add_routine, extend, look}
use Rattle.decl_checker.specs.{Blocks.define_block, Parameters.program_parameters, Routines.block}
use Rattle.decl_checker.specs.Programs.{define_program, main_row, open_program, program_step}
use Rattle.code_checker.specs.CheckedPrograms.{broken, check_step}
use Rattle.rule_laws.proofs.{Breaks.In, Breaks.contained, Breaks.in_left, Breaks.in_right, Calm.Calm, Calm.block_calm, Chains.Fits, Chains.fits_left}
use Rattle.rule_laws.proofs.{Chains.fits_right, Lasting.add_routine-lasts, LastsParameters.program_parameters-lasts, LastsPrograms.open_program-lasts}
use Rattle.rule_laws.proofs.{NameLaw.begun, Paired.Older, Paired.older_lasts, Paired.paired, PartTurns.orderly_lasts, TextFields.IsTold, TextFields.Text}
use Rattle.rule_laws.proofs.{TextTokens.text_length, Walking.IsBlank, Walking.IsLaid, Walking.laid_same}
use Rattle.rule_laws.proofs.MatedWalk.{All, Teller, block_lays, block_walks}
use Rattle.rule_laws.proofs.TextBlocks.{program_frame, program_stays, ready, start_orderly, whole}
use Rattle.rule_laws.specs.{NameLaws.block_routines, TextParts.OfRoutinesAfter}

-- ---- where a text begins

blank_rows : (size n : ℕ) → paired (unwrap_or (slice_get (replicate size Row.Nothing) n) Row.Nothing) ≡ Row.Nothing
blank_rows zero n = refl
blank_rows (suc size) zero = refl
blank_rows (suc size) (suc n) = blank_rows size n

still_blank : (l : Lexed) (i : Known) → Older (known_at_start l) i → (n : ℕ) → paired (row_at i n) ≡ Row.Nothing
still_blank l i s n = elim (s.of n) [
  | inl none ↦ none
  | inr same ↦ ap paired same ∙ blank_rows (length l.tokens + length required_names) n
]

-- ---- a text

abbrev pub text_told : Lexed → ProgramTree → Text
text_told l t = record { k = known_at_start l; bs = broken l t }

-- the tables where the names of the program's block are defined
abbrev pub defined_program : Lexed → ProgramTree → Known
defined_program l t = (define_program (open_program (known_at_start l)).value t (open_program (known_at_start l)).known).known

pub text_calm : (l : Lexed) (t : ProgramTree) → spell (tree_node t) ≡ items_of l.tokens → length l.tokens < 2 ^ 32 → Calm t.block t.block
text_calm l t spelled few =
    let long = text_length l.tokens t spelled in
    let fits : Fits 0 (tree_node t) = record { is = omega (arith, long, few) } in
    block_calm t.block t.block (λ n has some. some) (whole l t spelled).distinct.1.1.1.1.0
    (fits_left (fits_right (fits_right (fits_right (fits_right fits)))))

pub program_laid : (l : Lexed) (t : ProgramTree) (Told : Break → Type 0) → spell (tree_node t) ≡ items_of l.tokens → Calm t.block t.block
    → All Told (define_program (open_program (known_at_start l)).value t (open_program (known_at_start l)).known).broken
    → IsLaid (known_at_start l) t.block Told (block_routines t.block) (defined_program l t)
unfolding define_program look ◌>>=◌
program_laid l t Told spelled calm w =
    let k = known_at_start l in
    let b = t.block in
    let text = whole l t spelled in
    let o = orderly_lasts k b in
    let opened = open_program k in
    let frame = opened.value in
    let f = program_frame k b in
    let s = (open_program-lasts o).of k (start_orderly l b) in
    let region = (frame_at opened.known frame).region in
    let c = program_parameters region t.parameters opened.known in
    let i = c.known in
    let d = define_block frame b i in
    let y = ready k t frame f.0 opened.known text.distinct s f.1 in
    let older : Older k i = (program_parameters-lasts (older_lasts k) region t.parameters).of opened.known
    ((open_program-lasts (older_lasts k)).of k (record { of = λ n. inr refl })) in
    let blank : IsBlank b (tree.a_block_body b) i = λ n has some. still_blank l i older n in
    (block_lays k b Told b i f.0.region [] frame i y.at y.orderly.both.sound.words y.fresh.clean tt text.stated calm
    (begun i f.0.region 0 y.fresh.stands.below) y.orderly blank (λ x has. w x (in_right x c.broken d.broken has))).laid

pub text_walks : (l : Lexed) (t : ProgramTree) (P : List RoutineTree → RoutineTree → Type 0)
    → Teller (known_at_start l) t.block (IsTold (text_told l t)) P → spell (tree_node t) ≡ items_of l.tokens → length l.tokens < 2 ^ 32
    → OfRoutinesAfter P t.block
unfolding check_step program_step extend ◌>>=◌
text_walks l t P teller spelled few =
    let k = known_at_start l in
    let b = t.block in
    let Told = IsTold (text_told l t) in
    let text = whole l t spelled in
    let calm = text_calm l t spelled few in
    let o = orderly_lasts k b in
    let opened = open_program k in
    let frame = opened.value in
    let f = program_frame k b in
    let s = (open_program-lasts o).of k (start_orderly l b) in
    let d = define_program frame t opened.known in
    let a = add_routine (main_row t.name) d.known in
    let e = block frame a.value 1 b a.known in
    let all = (program_step t k).broken in
    let told : (x : _) → In x (check_step t k).broken → Told x = λ x has. contained x (broken l t) has in
    let here : (x : _) → In x all → Told x = λ x has. told x (in_left x all _ has) in
    let laid = program_laid l t Told spelled calm (λ x has. here x (in_right x opened.broken _ (in_left x d.broken _ has))) in
    let next = program_stays k t frame f.0 opened.known text.distinct text.stated s f.1 in
    let walks = block_walks k b Told P teller frame a.value 1 b a.known text.all text.seats calm text.stated
    ((add_routine-lasts o (main_row t.name)).of d.known next)
    (laid_same k b Told (tree.a_block_body b) d.known a.known text.stated (λ n has some. refl) laid)
    (λ x has. here x (in_right x opened.broken _ (in_right x d.broken _ (in_right x a.broken _ (in_left x e.broken _ has))))) in
    walks.law
