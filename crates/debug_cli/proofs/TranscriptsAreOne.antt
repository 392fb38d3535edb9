-- What is printed follows from whether each file was stored, and from what was fetched: bytes or nothing.
use Rattle.std.proofs.Common.{if◌then◌else◌, ◌++◌, ◌∙◌, ◌∷◌, ◌≡◌, [], ℕ, Bool, List, None, Option, Some, ap, arith, false, length, refl, subst, sym, true}
use Rattle.std.proofs.lemmas.List.Elements.{All-head, All-tail}
use Rattle.edge_ports.specs.{Files.FileMap, Lines.lines_of}
use Rattle.core_program.specs.ProgramRows.{ProgramRows}
use Rattle.dialog_replies.specs.{Fit.misfit, Replies.opening_of, Said.Held, Said.Said, Subject.Subject}
use Rattle.dialog_replies.specs.declared.{references.Reading.Reading, start.Start.Start}
use Rattle.ask_session.specs.Dialog.{Errand, Fetched, Granted, Missing, Stored, ToFetch, ToStore, ends_session, errand_in, fetch_reply, fetched_among}
use Rattle.ask_session.specs.Dialog.{granted_after_line, held_at_start, line_replies, next_granted, plain_reply, printed_if_fits, reading_reply}
use Rattle.ask_session.specs.Dialog.{reference_after, reply_or_errand, said_after_line, save_reply, saves_among, transcript}
use Rattle.ask_session.specs.Wishes.{AreReadIn, FilesAfter, IsReadIn, Wish, wish_of, wishes_asked}
use Rattle.debuggee.specs.References.{IsReading}
use Rattle.debug_cli.specs.Laws.{AllAnswered, OneReading}

-- each of these wishes was answered, and bytes were read as what they are
record Answered (granted : List Granted) (wishes : List Wish) : Type 0 where
  before : Option FileMap
  after : Option FileMap
  files : FilesAfter granted wishes before after
  each : length granted ≡ length wishes
  read : AreReadIn IsReading granted

rest_answered : (g : Granted) (granted : List Granted) (wish : Wish) (wishes : List Wish) → Answered (g ∷ granted) (wish ∷ wishes) → Answered granted wishes
rest_answered g granted wish wishes a = record {
  before = a.files.0;
  after = a.after;
  files = a.files.2;
  each = omega (arith, a.each);
  read = All-tail (IsReadIn IsReading) g granted a.read;
}

-- the same files were stored, and the same was fetched
record Alike (a b : List Granted) : Type 0 where
  saves : saves_among a ≡ saves_among b
  fetched : fetched_among a ≡ fetched_among b

same_head : {A : Type 0} {x y : A} {xs ys : List A} → x ∷ xs ≡ y ∷ ys → x ≡ y
same_head e = cc

same_tail : {A : Type 0} {x y : A} {xs ys : List A} → x ∷ xs ≡ y ∷ ys → xs ≡ ys
same_tail e = cc

same_some : {x y : List ℕ} → ◌≡◌ {A = Option (List ℕ)} (Some x) (Some y) → x ≡ y
same_some e = cc

same_program : {p q : ProgramRows} → Reading.Program p ≡ Reading.Program q → p ≡ q
same_program e = cc

same_refusal : {why because : List ℕ} → ◌≡◌ {A = Reading ProgramRows} (Reading.Refused why) (Reading.Refused because) → why ≡ because
same_refusal e = cc

none_some : {x : List ℕ} → ◌≡◌ {A = Option (List ℕ)} None (Some x) → ⊥
none_some e = let z : ⊥ = cc in z

-- ---- one line, and what follows

module _ (one : OneReading) (s : Subject) (start : Start) (lines : List (List ℕ)) where
  abbrev Same : Held → (a b : List Granted) → Type 0
  Same held a b = Answered a (wishes_asked s start held a lines) → Answered b (wishes_asked s start held b lines) → Alike a b
      → line_replies s held a lines ≡ line_replies s held b lines

  module _ (held : Held) (said : Said) (plain : List ℕ) (rest : (held : Held) (a b : List Granted) → Same held a b) where
    abbrev after : Option ProgramRows → Held
    after reference = record { said = said; reference = reference }

    abbrev held_by : Option Errand → List Granted → Held
    held_by e granted = after (reference_after held.reference e (next_granted granted))

    abbrev text_by : Option Errand → List Granted → List ℕ
    text_by e granted =
        reply_or_errand e (next_granted granted) plain ++ line_replies s (held_by e granted) (granted_after_line e granted) lines

    abbrev wishes_by : Option Errand → List Granted → List Wish
    wishes_by e granted = wish_of s start held.said e ++ wishes_asked s start (held_by e granted) (granted_after_line e granted) lines

    abbrev SameBy : Option Errand → (a b : List Granted) → Type 0
    SameBy e a b = Answered a (wishes_by e a) → Answered b (wishes_by e b) → Alike a b → text_by e a ≡ text_by e b

    -- with what is held after the line, which the replies have in common
    same_text : (reply reply' : List ℕ) {now next : Held} (a b : List Granted) → reply ≡ reply' → now ≡ next
        → Answered a (wishes_asked s start now a lines) → Answered b (wishes_asked s start next b lines) → Alike a b
        → reply ++ line_replies s now a lines ≡ reply' ++ line_replies s next b lines
    same_text reply reply' {now} {next} a b e h x y k =
        let moved : Answered a (wishes_asked s start next a lines) = subst (λ (held : Held). Answered a (wishes_asked s start held a lines)) h x in
        let same : line_replies s now a lines ≡ line_replies s next b lines =
        ap (λ (held : Held). line_replies s held a lines) h ∙ rest next a b moved y k in
        λ i. e i ++ same i

    same_stored : (file : List ℕ) (a b : List Granted) → SameBy (Some (ToStore file)) a b
    same_stored file [] b x y k = absurd (omega (arith, x.each))
    same_stored file (g ∷ a) [] x y k = absurd (omega (arith, y.each))
    same_stored file (Stored p ∷ a) (Stored q ∷ b) x y k =
        same_text (save_reply p file) (save_reply q file) a b (ap (λ (stored : Bool). save_reply stored file) (same_head k.saves)) refl
        (rest_answered (Stored p) a _ _ x) (rest_answered (Stored q) b _ _ y) (record { saves = same_tail k.saves; fetched = k.fetched })
    same_stored file (Stored p ∷ a) (Fetched bytes reading ∷ b) x y k = absurd y.files.1
    same_stored file (Stored p ∷ a) (Missing why ∷ b) x y k = absurd y.files.1
    same_stored file (Fetched bytes reading ∷ a) (g ∷ b) x y k = absurd x.files.1
    same_stored file (Missing why ∷ a) (g ∷ b) x y k = absurd x.files.1

    same_reading : (file read also : List ℕ) (p q : Reading ProgramRows) → p ≡ q → (a b : List Granted)
        → SameBy (Some (ToFetch file)) (Fetched read p ∷ a) (Fetched also q ∷ b)
    same_reading file read also (Reading.Program p) (Reading.Program q) e a b x y k =
        same_text (reading_reply (Reading.Program p) file) (reading_reply (Reading.Program q) file) a b refl
        (ap (λ (reference : ProgramRows). after (Some reference)) (same_program e)) (rest_answered (Fetched read (Reading.Program p)) a _ _ x)
        (rest_answered (Fetched also (Reading.Program q)) b _ _ y) (record { saves = k.saves; fetched = same_tail k.fetched })
    same_reading file read also (Reading.Refused why) (Reading.Refused because) e a b x y k =
        same_text (reading_reply (Reading.Refused why) file) (reading_reply (Reading.Refused because) file) a b
        (ap (λ (text : List ℕ). reading_reply (Reading.Refused text) file) (same_refusal e)) refl
        (rest_answered (Fetched read (Reading.Refused why)) a _ _ x) (rest_answered (Fetched also (Reading.Refused because)) b _ _ y)
        (record { saves = k.saves; fetched = same_tail k.fetched })
    same_reading file read also (Reading.Program p) (Reading.Refused why) e a b x y k = absurd (let z : ⊥ = cc in z)
    same_reading file read also (Reading.Refused why) (Reading.Program q) e a b x y k = absurd (let z : ⊥ = cc in z)

    same_fetched : (file : List ℕ) (a b : List Granted) → SameBy (Some (ToFetch file)) a b
    same_fetched file [] b x y k = absurd (omega (arith, x.each))
    same_fetched file (g ∷ a) [] x y k = absurd (omega (arith, y.each))
    same_fetched file (Stored p ∷ a) (g ∷ b) x y k = absurd x.files.1
    same_fetched file (Fetched read p ∷ a) (Stored q ∷ b) x y k = absurd y.files.1
    same_fetched file (Missing why ∷ a) (Stored q ∷ b) x y k = absurd y.files.1
    same_fetched file (Fetched read p ∷ a) (Fetched also q ∷ b) x y k =
        let here : IsReading read p = All-head (IsReadIn IsReading) (Fetched read p) a x.read in
        let there : IsReading also q = All-head (IsReadIn IsReading) (Fetched also q) b y.read in
        let moved : IsReading also p = subst (λ (bytes : List ℕ). IsReading bytes p) (same_some (same_head k.fetched)) here in
        same_reading file read also p q (one also p q moved there) a b x y k
    same_fetched file (Missing why ∷ a) (Missing because ∷ b) x y k =
        same_text (fetch_reply (Missing why) file) (fetch_reply (Missing because) file) a b refl refl (rest_answered (Missing why) a _ _ x)
        (rest_answered (Missing because) b _ _ y) (record { saves = k.saves; fetched = same_tail k.fetched })
    same_fetched file (Missing why ∷ a) (Fetched also q ∷ b) x y k = absurd (none_some (same_head k.fetched))
    same_fetched file (Fetched read p ∷ a) (Missing why ∷ b) x y k = absurd (none_some (sym (same_head k.fetched)))

    same_by : (e : Option Errand) (a b : List Granted) → SameBy e a b
    same_by None a b x y k = same_text plain plain a b refl refl x y k
    same_by (Some (ToStore file)) a b x y k = same_stored file a b x y k
    same_by (Some (ToFetch file)) a b x y k = same_fetched file a b x y k

-- ---- all lines

-- no more is said or asked for after `quit`
module _ {a b : List Granted} {text text' : List ℕ} {wishes wishes' : List Wish}
    (same : Answered a wishes → Answered b wishes' → text ≡ text') where
  until_quit : (quits : Bool) → Answered a (if quits then [] else wishes) → Answered b (if quits then [] else wishes')
      → (if quits then [] else text) ≡ (if quits then [] else text')
  until_quit true x y = refl
  until_quit false x y = same x y

module _ (one : OneReading) (s : Subject) (start : Start) where
  same_replies : (lines : List (List ℕ)) (held : Held) (a b : List Granted) → Same one s start lines held a b
  same_replies [] held a b x y k = refl
  same_replies (line ∷ lines) held a b x y k =
      until_quit (λ x y. same_by one s start lines held (said_after_line s held line) (plain_reply s held line) (same_replies lines) (errand_in line) a b x y k)
      (ends_session line) x y

  pub one_transcript : (console : List ℕ) (a b : List Granted) → AllAnswered s start console a → AllAnswered s start console b
      → saves_among a ≡ saves_among b → fetched_among a ≡ fetched_among b → transcript s start a console ≡ transcript s start b console
  one_transcript console a b x y saves fetched =
      ap (λ (replies : List ℕ). printed_if_fits (misfit s start) (opening_of s start ++ replies))
      (same_replies (lines_of console) (held_at_start start) a b
      (record { before = x.before; after = x.after; files = x.files; each = x.each; read = x.read })
      (record { before = y.before; after = y.after; files = y.files; each = y.each; read = y.read }) (record { saves = saves; fetched = fetched }))
