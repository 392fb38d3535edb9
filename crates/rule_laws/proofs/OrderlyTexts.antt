-- Which headings of a text wait for a block, and which have one, where its declarations were gone over.
use Rattle.std.proofs.Common.{Some, length, refl}
use Rattle.pas_lexer.specs.Lexed.{Lexed}
use Rattle.pas_tree.specs.BlockTrees.{ProgramTree}
use Rattle.check_steps.specs.{Known.and_region, Required.open_outermost, Words.known_at_start, declared.regions.Frame.Frame}
use Rattle.check_steps.specs.Steps.{◌>>=◌, extend, give}
use Rattle.decl_checker.specs.Programs.{define_program, main_row, open_program, program_step}
use Rattle.rule_laws.proofs.{LastsPrograms.open_program-lasts, PartTurns.Orderly, PartTurns.orderly_lasts, PartWalk.Fresh, PartWalk.block_keeps}
use Rattle.rule_laws.proofs.{PartWalk.fresh_is_clean, Standing.opened, TextBlocks.Whole, TextBlocks.program_stays, TextBlocks.start_orderly}

pub text_orderly : (l : Lexed) (t : ProgramTree) → Whole l t → Orderly (known_at_start l) t.block (program_step t (known_at_start l)).known
unfolding program_step open_program extend give ◌>>=◌
text_orderly l t text =
    let k = known_at_start l in
    let b = t.block in
    let o = open_outermost k in
    let j = o.known in
    let f : Frame = record { region = length j.regions; outer = Some o.value; level = 0; withs = 0 } in
    let n = length j.frames in
    let i = and_region j 0 f in
    let a = define_program n t i in
    let start = (open_program-lasts (orderly_lasts k b)).of k (start_orderly l b) in
    let fresh : Fresh b n f i = record { stands = opened j 0 f refl; clean = fresh_is_clean b j 0 f } in
    let defined = program_stays k t n f i text.distinct text.stated start fresh in
    let begun = (orderly_lasts k b).routines a.known (main_row t.name) defined in
    (block_keeps k b n (length a.known.program.routines) 1 b text.all text.seats).of _ begun
