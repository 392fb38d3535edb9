-- What a line is replied, and what becomes of the keeper.
use Rattle.std.proofs.Common.{if◌then◌else◌, ◌++◌, ◌<◌, ◌∙◌, ◌∷◌, ◌≡◌, ◌≤◌, [], ℕ, Bool, Err, IfErr, IfOk, List, None, Ok, OnErr, OnOk, Option, Result, Some}
use Rattle.std.proofs.Common.{ap, arith, codes, false, inl, inr, length, refl, subst, sym, true}
use Rattle.std.proofs.lemmas.Bool.{le-ltb, lt-ltb}
use Rattle.edge_ports.specs.{Counts.counts_after, Counts.counts_stored, Limits.line_bytes, Told.GaveAll, Told.GavePrefix}
use Rattle.edge_ports.specs.declared.ports.{FetchFault.FetchFault, StoreFault.StoreFault}
use Rattle.core_program.specs.ProgramRows.{ProgramRows}
use Rattle.dialog_replies.specs.{Instructions.instruction_of, Prepared.IsReply, Prepared.Prepared, Said.Held, Said.Said, Subject.Subject}
use Rattle.dialog_replies.specs.Replies.{LineOutcome, command_outcome, outcome, refers_if, replied}
use Rattle.dialog_replies.specs.declared.{references.Reading.Reading, start.Start.Start}
use Rattle.dialog_replies.specs.declared.instructions.{DialogCommand.DialogCommand, Instruction.Instruction}
use Rattle.ask_session.proofs.RepliesInOrder.{none_read, one_asked, one_on, one_read, plainly}
use Rattle.ask_session.specs.{Wishes.reading_in, Wishes.wish_of, Wishes.wishes_asked, declared.dialog.Ending.Ending}
use Rattle.ask_session.specs.Dialog.{Errand, Fetched, Granted, Missing, Stored, ToFetch, ToStore, ends_session, errand_in, errand_of, fetch_reply, is_quit}
use Rattle.ask_session.specs.Dialog.{is_too_long, plain_reply, reading_reply, reference_after, reference_read, reply_or_errand, said_after_line, save_reply}
use Rattle.ask_session.specs.Turned.{AnswersLine, BreaksOff, DialogMoment, DialogStage, ErrandGoes, Hands, LineAt, NextReply, Passes, Progress, ReplyGiven}
use Rattle.ask_session.specs.Turned.{held_through, one_line, reply_of_text, with_text}
use Rattle.ask_session.specs.Wishes.{FetchFile, FileAfter, FilesAfter, IsBrought, IsMissing, IsReadFrom, KeeperAt, Reads, Save, StoreFile, Wish, counts_granted}

-- an instruction, and the line that is not too long and asks for it
pub record Asks (line : List ℕ) (i : Instruction) : Type 0 where
  pub short : length line ≤ line_bytes
  pub is : i ≡ instruction_of line

module _ (line : List ℕ) where
  not_long : length line ≤ line_bytes → is_too_long line ≡ false
  not_long short = le-ltb line_bytes (length line) short

  module _ (i : Instruction) (a : Asks line i) where
    -- whether such a line ends the session, and what it asks of the keeper
    pub ends_by : (b : Bool) → is_quit i ≡ b → ends_session line ≡ b
    ends_by b quit =
        ap (λ (long : Bool). if long then false else is_quit (instruction_of line)) (not_long a.short) ∙ ap is_quit (sym a.is) ∙ quit

    asked_by : (errand : Option Errand) → errand_of i ≡ errand → errand_in line ≡ errand
    asked_by errand is =
        ap (λ (long : Bool). if long then None else errand_of (instruction_of line)) (not_long a.short) ∙ ap errand_of (sym a.is) ∙ is

    plain_by : (s : Subject) (held : Held) → plain_reply s held line ≡ (outcome s held i).reply
    plain_by s held =
        ap (λ (long : Bool). if long then codes "line too long\n" else (outcome s held (instruction_of line)).reply) (not_long a.short)
        ∙ ap (λ (j : Instruction). (outcome s held j).reply) (sym a.is)

    said_by_line : (s : Subject) (held : Held) → said_after_line s held line ≡ (outcome s held i).said
    said_by_line s held =
        ap (λ (long : Bool). if long then held.said else (outcome s held (instruction_of line)).said) (not_long a.short)
        ∙ ap (λ (j : Instruction). (outcome s held j).said) (sym a.is)

-- ---- a line that asks the keeper for nothing

-- a moment where something else was said
abbrev pub with_said : DialogMoment → Said → DialogMoment
with_said moment said = record moment { held = record moment.held { said = said } }

module _ (reads : Reads) (s : Subject) (start : Start) (old : LineAt) where
  abbrev held : Held
  held = old.moment.held

  -- such a line leaves the keeper as it is, and the right program
  passes_plain : (said : Said) → ends_session old.line ≡ false → errand_in old.line ≡ None
      → said ≡ said_after_line s held old.line
      → Passes reads s start old.moment (one_line old.line []) (with_said old.moment said)
  passes_plain said on none are = record {
    on = one_on old.line false on;
    read = none_read reads;
    held_is =
        ap (λ (es : Said). record { said = es; reference = held.reference }) are
        ∙ sym (ap (λ (errand : Option Errand). record {
          said = said_after_line s held old.line;
          reference = reference_after held.reference errand (Stored true);
        }) none);
    answered = ap length (sym (one_asked s start held [] old.line None on none));
    files_are = refl;
    counts_are = refl;
  }

  -- memory ran out before the keeper was asked
  pub breaks_off : (said : Said) → BreaksOff reads s start old.moment old.line (with_said old.moment said)
  breaks_off said = record { granted = []; read = none_read reads; answered = omega arith; files_are = refl; counts_are = inl refl }

  -- what a line is replied that asks the keeper for nothing, and what is said after it
  plain_so : (said : Said) (reply : List ℕ) (i : Instruction) → Asks old.line i → is_quit i ≡ false → errand_of i ≡ None
      → replied said reply ≡ outcome s held i → AnswersLine reads s start old (Ok reply) (with_said old.moment said)
  plain_so said reply i a quit nothing is =
      let none : errand_in old.line ≡ None = asked_by old.line i a None nothing in (
        [],
        passes_plain said (ends_by old.line i a false quit) none
            (ap (λ (o : LineOutcome). o.said) is ∙ sym (said_by_line old.line i a s held)),
        ap (λ (o : LineOutcome). o.reply) is ∙ sym (plain_by old.line i a s held) ∙ sym (plainly s start held old.line (Stored true) none),
      )

  pub replies_so : (said : Said) (reply : List ℕ) (c : DialogCommand) → Asks old.line (Instruction.Command c)
      → replied said reply ≡ command_outcome s held.said c → AnswersLine reads s start old (Ok reply) (with_said old.moment said)
  replies_so said reply c a is = plain_so said reply (Instruction.Command c) a refl refl is

  -- a right program is asked
  pub refers_so : (said : Said) (reply : List ℕ) (call : Option ℕ) → Asks old.line (Instruction.Refer call)
      → replied said reply ≡ refers_if s held.said held.reference call
      → AnswersLine reads s start old (Ok reply) (with_said old.moment said)
  refers_so said reply call a is = plain_so said reply (Instruction.Refer call) a refl refl is

  pub too_long_so : (reply : List ℕ) → line_bytes < length old.line → reply ≡ codes "line too long\n" → AnswersLine reads s start old (Ok reply) old.moment
  too_long_so reply long is =
      let e : is_too_long old.line ≡ true = lt-ltb line_bytes (length old.line) long in
      let none : errand_in old.line ≡ None = ap (λ (b : Bool). if b then None else errand_of (instruction_of old.line)) e in (
        [],
        passes_plain held.said (ap (λ (b : Bool). if b then false else is_quit (instruction_of old.line)) e) none
            (sym (ap (λ (b : Bool). if b then held.said else (outcome s held (instruction_of old.line)).said) e)),
        is ∙ sym (ap (λ (b : Bool). if b then codes "line too long\n" else (outcome s held (instruction_of old.line)).reply) e)
            ∙ sym (plainly s start held old.line (Stored true) none),
      )

-- ---- a line that asks the keeper for something

-- what is asked for, and what was done for it
pub record Goes (reads : Reads) (old new : DialogMoment) (errand : Errand) (wish : Wish) (r : Result (List ℕ) Ending) : Type 0 where
  pub goes : ErrandGoes reads errand wish old r new

module _ (reads : Reads) (s : Subject) (start : Start) (old : LineAt) where
  -- nothing is said by such a line
  pub errand_so : (new : DialogMoment) (r : Result (List ℕ) Ending) (i : Instruction) (errand : Errand) (wish : Wish) → Asks old.line i
      → (is_quit i ≡ false) × (errand_of i ≡ Some errand) × ((outcome s old.moment.held i).said ≡ old.moment.held.said)
      × (wish_of s start old.moment.held.said (Some errand) ≡ wish ∷ [])
      → Goes reads old.moment new errand wish r → AnswersLine reads s start old r new
  errand_so new r i errand wish a it k = by r k.goes
    where
      held : Held
      held = old.moment.held

      on : ends_session old.line ≡ false
      on = ends_by old.line i a false it.0

      named : errand_in old.line ≡ Some errand
      named = asked_by old.line i a (Some errand) it.1

      asked : (granted : List Granted) → wishes_asked s start held granted (old.line ∷ []) ≡ wish ∷ []
      asked granted = one_asked s start held granted old.line (Some errand) on named ∙ it.3

      after : (g : Granted) → record held { reference = reference_after held.reference (Some errand) g }
          ≡ held_through s held (g ∷ []) (old.line ∷ [])
      after g =
          sym (ap (λ (es : Said). record { said = es; reference = reference_after held.reference (errand_in old.line) g })
          (said_by_line old.line i a s held ∙ it.2)
          ∙ ap (λ (o : Option Errand). record { said = held.said; reference = reference_after held.reference o g }) named)

      by : (r : Result (List ℕ) Ending) → ErrandGoes reads errand wish old.moment r new → AnswersLine reads s start old r new
      by (Ok reply) g = (
        g.0 ∷ [],
        record {
          on = one_on old.line false on;
          read = g.1;
          held_is = g.3 ∙ after g.0;
          answered = sym (ap length (asked (g.0 ∷ [])));
          files_are = subst (λ (wishes : List Wish). FilesAfter (g.0 ∷ []) wishes old.moment.files new.files) (sym (asked (g.0 ∷ []))) g.4;
          counts_are = g.5;
        },
        g.2 ∙ sym (ap (λ (o : Option Errand). reply_or_errand o g.0 (plain_reply s held old.line)) named),
      )
      by (Err Ending.Memory) g = record {
        granted = g.0;
        read = g.1;
        answered = subst (λ (wishes : List Wish). length g.0 ≤ length wishes) (sym (asked g.0)) g.2;
        files_are = subst (λ (wishes : List Wish). FilesAfter g.0 wishes old.moment.files new.files) (sym (asked g.0)) g.3;
        counts_are = g.4;
      }
      by (Err Ending.Done) g = absurd g
      by (Err Ending.Console) g = absurd g
      by (Err Ending.Screen) g = absurd g
      by (Err Ending.Spent) g = absurd g
      by (Err Ending.Refused) g = absurd g

-- ---- a save, by what was stored and replied

-- a store answered so
pub record StoreSays (save : Save) (stored : Bool) (old new : DialogMoment) : Type 0 where
  pub file_is : FileAfter stored save old.files new.files
  pub counts_are : new.counts ≡ counts_granted (Stored stored ∷ []) old.counts
  pub held_is : new.held ≡ old.held

-- the reply to it, or that memory ran out
pub record SaveSays (save : Save) (stored : Bool) (r : Result (List ℕ) Ending) : Type 0 where
  pub text : IfOk r (λ (reply : List ℕ). reply ≡ save_reply stored save.file)
  pub memory : IfErr r (λ (e : Ending). e ≡ Ending.Memory)

module _ (reads : Reads) (save : Save) (old new : DialogMoment) where
  abbrev SaveGoes : Result (List ℕ) Ending → Type 0
  SaveGoes r = ErrandGoes reads (ToStore save.file) (StoreFile save) old r new

  pub save_said : (stored : Bool) (r : Result (List ℕ) Ending) → StoreSays save stored old new × SaveSays save stored r → SaveGoes r
  save_said stored (Ok reply) h = (Stored stored, one_read reads (Stored stored) tt, h.1.text, h.0.held_is, (new.files, h.0.file_is, refl), h.0.counts_are)
  save_said stored (Err Ending.Memory) h = (
    Stored stored ∷ [],
    one_read reads (Stored stored) tt,
    omega arith,
    (new.files, h.0.file_is, refl),
    inl h.0.counts_are,
  )
  save_said stored (Err Ending.Done) h = let e : Ending.Done ≡ Ending.Memory = h.1.memory in absurd (let x : ⊥ = cc in x)
  save_said stored (Err Ending.Console) h = let e : Ending.Console ≡ Ending.Memory = h.1.memory in absurd (let x : ⊥ = cc in x)
  save_said stored (Err Ending.Screen) h = let e : Ending.Screen ≡ Ending.Memory = h.1.memory in absurd (let x : ⊥ = cc in x)
  save_said stored (Err Ending.Spent) h = let e : Ending.Spent ≡ Ending.Memory = h.1.memory in absurd (let x : ⊥ = cc in x)
  save_said stored (Err Ending.Refused) h = let e : Ending.Refused ≡ Ending.Memory = h.1.memory in absurd (let x : ⊥ = cc in x)

  -- the store ran out of memory
  pub save_out : (e : Ending) → e ≡ Ending.Memory
      → (new.files ≡ old.files) × (new.counts ≡ counts_stored (Err StoreFault.Memory) old.counts) → SaveGoes (Err e)
  save_out e is h = subst (λ (x : Ending). SaveGoes (Err x)) (sym is) ([], none_read reads, omega arith, h.0, inr h.1)

-- ---- a right program that is fetched, by what its file is read as and what is replied

module _ (reads : Reads) (file : List ℕ) (before now : KeeperAt) where
  -- bytes were fetched, and read as this
  pub read_fetched : (bytes : List ℕ) (reading : Reading ProgramRows) → reads bytes reading → IsBrought file bytes before.files
      → (now.files ≡ before.files) × (now.counts ≡ before.counts) → IsReadFrom reads file before (Some reading) now
  read_fetched bytes reading is brought same = (Fetched bytes reading, is, refl, (brought, same.0), same.1)

  -- no file was fetched, for this reason
  pub read_missing : (why : FetchFault) → IsMissing why file before.files
      → (now.files ≡ before.files) × (now.counts ≡ counts_after (Err why) before.counts) → IsReadFrom reads file before None now
  read_missing why missing same = (Missing why, tt, refl, (missing, same.0), same.1)

abbrev pub if_read : Option (Reading ProgramRows) → (before : Option ProgramRows) → Option ProgramRows
if_read (Some (Reading.Program reference)) before = Some reference
if_read (Some (Reading.Refused why)) before = before
if_read None before = before

abbrev pub reply_if_read : Option (Reading ProgramRows) → (file : List ℕ) → List ℕ
reply_if_read (Some reading) file = reading_reply reading file
reply_if_read None file = codes "not fetched " ++ file ++ codes "\n"

-- it was fetched so, and what is held after it
pub record FetchSays (reads : Reads) (file : List ℕ) (reading : Option (Reading ProgramRows)) (old new : DialogMoment) : Type 0 where
  pub from : IsReadFrom reads file (record { files = old.files; counts = old.counts }) reading (record { files = new.files; counts = new.counts })
  pub held_is : new.held ≡ record old.held { reference = if_read reading old.held.reference }

-- the reply by that, or that memory ran out
pub record ReadingSays (file : List ℕ) (reading : Option (Reading ProgramRows)) (r : Result (List ℕ) Ending) : Type 0 where
  pub text : IfOk r (λ (reply : List ℕ). reply ≡ reply_if_read reading file)
  pub memory : IfErr r (λ (e : Ending). e ≡ Ending.Memory)

module _ (reads : Reads) (file : List ℕ) (old new : DialogMoment) where
  abbrev FetchGoes : Result (List ℕ) Ending → Type 0
  FetchGoes r = ErrandGoes reads (ToFetch file) (FetchFile file) old r new

  -- what is held and replied, by what was given
  held_by : (g : Granted) (before : Option ProgramRows) → if_read (reading_in g) before ≡ reference_read before g
  held_by (Stored stored) before = refl
  held_by (Fetched bytes (Reading.Program reference)) before = refl
  held_by (Fetched bytes (Reading.Refused why)) before = refl
  held_by (Missing why) before = refl

  replied_by : (g : Granted) → reply_if_read (reading_in g) file ≡ fetch_reply g file
  replied_by (Stored stored) = refl
  replied_by (Fetched bytes reading) = refl
  replied_by (Missing why) = refl

  pub fetch_said : (reading : Option (Reading ProgramRows)) (r : Result (List ℕ) Ending)
      → FetchSays reads file reading old new × ReadingSays file reading r → FetchGoes r
  fetch_said reading (Ok reply) h =
      let g : Granted = h.0.from.0 in (
        g,
        one_read reads g h.0.from.1,
        h.1.text ∙ ap (λ (x : Option (Reading ProgramRows)). reply_if_read x file) h.0.from.2 ∙ replied_by g,
        h.0.held_is ∙ ap (λ (x : Option ProgramRows). record old.held { reference = x })
            (ap (λ (x : Option (Reading ProgramRows)). if_read x old.held.reference) h.0.from.2 ∙ held_by g old.held.reference),
        (new.files, h.0.from.3, refl),
        h.0.from.4,
      )
  fetch_said reading (Err Ending.Memory) h = (h.0.from.0 ∷ [], one_read reads h.0.from.0 h.0.from.1, omega arith, (new.files, h.0.from.3, refl), inl h.0.from.4)
  fetch_said reading (Err Ending.Done) h = let e : Ending.Done ≡ Ending.Memory = h.1.memory in absurd (let x : ⊥ = cc in x)
  fetch_said reading (Err Ending.Console) h = let e : Ending.Console ≡ Ending.Memory = h.1.memory in absurd (let x : ⊥ = cc in x)
  fetch_said reading (Err Ending.Screen) h = let e : Ending.Screen ≡ Ending.Memory = h.1.memory in absurd (let x : ⊥ = cc in x)
  fetch_said reading (Err Ending.Spent) h = let e : Ending.Spent ≡ Ending.Memory = h.1.memory in absurd (let x : ⊥ = cc in x)
  fetch_said reading (Err Ending.Refused) h = let e : Ending.Refused ≡ Ending.Memory = h.1.memory in absurd (let x : ⊥ = cc in x)

  -- memory ran out before anything was given
  pub fetch_out : (e : Ending) → e ≡ Ending.Memory → (new.files ≡ old.files) × (new.counts ≡ old.counts) → FetchGoes (Err e)
  fetch_out e is h = subst (λ (x : Ending). FetchGoes (Err x)) (sym is) ([], none_read reads, omega arith, h.0, inl h.1)

-- ---- a text as a reply

-- its text is that text, and nothing has to be prepared for it
pub text_stays : (C O T : Type 0) (s : Subject) (said : Said) (r : Result (List ℕ) Ending)
    → with_text s said (reply_of_text {C = C} {O = O} {T = T} r) ≡ r
text_stays C O T s said (Ok text) = refl
text_stays C O T s said (Err e) = refl

pub text_prepared : {C O T S : Type 0} (p : Prepared C O T S) (calls : ℕ) (r : Result (List ℕ) Ending) → IfOk (reply_of_text r) (IsReply p calls)
text_prepared p calls (Ok text) = tt
text_prepared p calls (Err e) = tt

-- ---- the reply to the next line

module _ (reads : Reads) (s : Subject) (start : Start) where
  pub next_of : (old new : Progress) (line : List ℕ) (r : Result (List ℕ) Ending)
      → Hands old.lines new.lines line × AnswersLine reads s start (record { line = line; moment = old.moment }) r new.moment
      → NextReply reads s start old r new
  next_of old new line (Ok reply) h = (line, h.0, h.1)
  next_of old new line (Err Ending.Memory) h = (line, h.0, h.1)
  next_of old new line (Err Ending.Done) h = inl (line, h.0, h.1)
  next_of old new line (Err Ending.Console) h = absurd h.1
  next_of old new line (Err Ending.Screen) h = absurd h.1
  next_of old new line (Err Ending.Spent) h = absurd h.1
  next_of old new line (Err Ending.Refused) h = absurd h.1

-- ---- a reply that was given, or a first part of it

module _ (reads : Reads) (s : Subject) (start : Start) (old new : DialogStage) (reply : List ℕ) where
  -- what the screen got of it, by how that ended
  pub record GivenBy (r : Result (Unit {0}) Ending) : Type 0 where
    pub whole : OnOk r (GaveAll old.given new.given reply)
    pub part : OnErr r (GavePrefix old.given new.given reply)
    pub ending : IfErr r (λ (e : Ending). e ≡ Ending.Screen)

  pub given_so : (r : Result (Unit {0}) Ending) → NextReply reads s start old.progress (Ok reply) new.progress → GivenBy r → ReplyGiven reads s start old r new
  given_so (Ok done) next g = (reply, next, g.whole)
  given_so (Err Ending.Screen) next g = (reply, next, g.part)
  given_so (Err Ending.Done) next g = let e : Ending.Done ≡ Ending.Screen = g.ending in absurd (let x : ⊥ = cc in x)
  given_so (Err Ending.Console) next g = let e : Ending.Console ≡ Ending.Screen = g.ending in absurd (let x : ⊥ = cc in x)
  given_so (Err Ending.Spent) next g = let e : Ending.Spent ≡ Ending.Screen = g.ending in absurd (let x : ⊥ = cc in x)
  given_so (Err Ending.Memory) next g = let e : Ending.Memory ≡ Ending.Screen = g.ending in absurd (let x : ⊥ = cc in x)
  given_so (Err Ending.Refused) next g = let e : Ending.Refused ≡ Ending.Screen = g.ending in absurd (let x : ⊥ = cc in x)
