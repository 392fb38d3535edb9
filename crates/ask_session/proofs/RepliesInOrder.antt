-- What is replied to lines and to those after them, what they ask for, and what becomes of the keeper.
use Rattle.std.proofs.Common.{if◌then◌else◌, ◌++◌, ◌+◌, ◌||◌, ◌∙◌, ◌∷◌, ◌≡◌, ◌≤◌, [], ℕ, Bool, List, None, Option, Some, ap, append-nil, append_assoc, arith}
use Rattle.std.proofs.Common.{false, length, refl, subst, sym, true}
use Rattle.std.proofs.lemmas.{Bool.or_parts, List.length-append, List.Elements.All-append, List.Elements.All-cons, List.Elements.All-nil}
use Rattle.edge_ports.specs.{Counts.KeeperCounts, Files.FileMap}
use Rattle.dialog_replies.specs.{Said.Held, Said.Said, Subject.Subject, declared.start.Start.Start}
use Rattle.ask_session.specs.Dialog.{Errand, Granted, ToFetch, ToStore, ends_among, ends_session, errand_in, granted_after_line, held_after_line, line_replies}
use Rattle.ask_session.specs.Dialog.{line_reply, next_granted, plain_reply, reference_after, reply_or_errand, said_after_line}
use Rattle.ask_session.specs.Turned.{DialogMoment, Passes, Talk, held_through}
use Rattle.ask_session.specs.Wishes.{AreReadIn, FilesAfter, IsReadIn, Reads, Wish, counts_given, counts_granted, wish_of, wishes_asked}

-- ---- lines that end the session, and lines that do not

-- lines that go on, and the lines after them
pub on_append : (ls ms : List (List ℕ)) (b : Bool) → ends_among ls ≡ false → ends_among ms ≡ b → ends_among (ls ++ ms) ≡ b
on_append [] ms b e f = f
on_append (l ∷ ls) ms b e f =
    let both = or_parts (ends_session l) (ends_among ls) e in ap (λ (c : Bool). c || ends_among (ls ++ ms)) both.0 ∙ on_append ls ms b both.1 f

pub ended_append : (ls ms : List (List ℕ)) → ends_among ls ≡ true → ends_among (ls ++ ms) ≡ true
ended_append [] ms e = absurd (let x : ⊥ = cc in x)
ended_append (l ∷ ls) ms e = by (ended_append ls ms) (ends_session l) e
  where
    by : (ends_among ls ≡ true → ends_among (ls ++ ms) ≡ true) → (b : Bool) → b || ends_among ls ≡ true → b || ends_among (ls ++ ms) ≡ true
    by ih true h = refl
    by ih false h = ih h

pub one_on : (line : List ℕ) (b : Bool) → ends_session line ≡ b → ends_among (line ∷ []) ≡ b
one_on line true e = ap (λ (c : Bool). c || false) e
one_on line false e = ap (λ (c : Bool). c || false) e

pub on_of_one : (line : List ℕ) → ends_among (line ∷ []) ≡ false → ends_session line ≡ false
on_of_one line e = (or_parts (ends_session line) false e).0

-- ---- what was given

nothing_given : (granted : List Granted) → length granted ≡ 0 → granted ≡ []
nothing_given [] e = refl
nothing_given (g ∷ granted) e = absurd (omega (arith, e))

pub counts_append : (granted more : List Granted) (counts : KeeperCounts)
    → counts_granted (granted ++ more) counts ≡ counts_granted more (counts_granted granted counts)
counts_append [] more counts = refl
counts_append (g ∷ granted) more counts = counts_append granted more (counts_given g counts)

module _ (reads : Reads) where
  pub none_read : AreReadIn reads []
  none_read = All-nil (IsReadIn reads)

  pub one_read : (g : Granted) → IsReadIn reads g → AreReadIn reads (g ∷ [])
  one_read g is = All-cons (IsReadIn reads) g [] is none_read

  pub read_append : (granted more : List Granted) → AreReadIn reads granted → AreReadIn reads more → AreReadIn reads (granted ++ more)
  read_append granted more p q = All-append (IsReadIn reads) granted more p q

-- the files after wishes that were given this
pub record Given (granted : List Granted) (wishes : List Wish) (before after : Option FileMap) : Type 0 where
  pub files_are : FilesAfter granted wishes before after

-- after some wishes, each of which was answered, and then after others
pub files_append : {granted more : List Granted} {wishes others : List Wish} {before between after : Option FileMap} → length granted ≡ length wishes
    → Given granted wishes before between → Given more others between after → Given (granted ++ more) (wishes ++ others) before after
files_append {granted = []} {more = more} {wishes = []} {others = others} {after = after} e p q = record {
  files_are = subst (λ (files : Option FileMap). FilesAfter more others files after) p.files_are q.files_are;
}
files_append {granted = []} {wishes = wish ∷ wishes} e p q = absurd (omega (arith, e))
files_append {granted = g ∷ granted} {wishes = []} e p q = absurd (omega (arith, e))
files_append {granted = g ∷ granted} {wishes = wish ∷ wishes} {between = between} e p q =
    let same : length granted ≡ length wishes = omega (arith, e) in
    let rest : Given granted wishes p.files_are.0 between = record { files_are = p.files_are.2 } in
    record { files_are = (p.files_are.0, p.files_are.1, (files_append {granted = granted} same rest q).files_are) }

-- wishes after those that were answered leave the files
pub files_longer : {granted : List Granted} {wishes : List Wish} {before after : Option FileMap} (others : List Wish) → length granted ≤ length wishes
    → Given granted wishes before after → Given granted (wishes ++ others) before after
files_longer {granted = []} others few p = record { files_are = p.files_are }
files_longer {granted = g ∷ granted} {wishes = []} others few p = absurd (omega (arith, few))
files_longer {granted = g ∷ granted} {wishes = wish ∷ wishes} {after = after} others few p =
    let less : length granted ≤ length wishes = omega (arith, few) in
    let rest : Given granted wishes p.files_are.0 after = record { files_are = p.files_are.2 } in
    record { files_are = (p.files_are.0, p.files_are.1, (files_longer {granted = granted} others less rest).files_are) }

module _ (s : Subject) where
  -- ---- the replies to one line and to those after it

  -- what is held after a line, and what those after it were given
  abbrev pub then_held : (held : Held) (granted : List Granted) (line : List ℕ) → Held
  then_held held granted line = held_after_line s held (next_granted granted) line

  abbrev pub then_given : (granted : List Granted) (line : List ℕ) → List Granted
  then_given granted line = granted_after_line (errand_in line) granted

  pub replied : (held : Held) (granted : List Granted) (line : List ℕ) (ls : List (List ℕ)) → ends_session line ≡ false
      → line_replies s held granted (line ∷ ls)
      ≡ line_reply s held (next_granted granted) line ++ line_replies s (then_held held granted line) (then_given granted line) ls
  replied held granted line ls e = ap (λ (b : Bool). if b then [] else line_reply s held (next_granted granted) line
      ++ line_replies s (then_held held granted line) (then_given granted line) ls) e

  pub quitted : (held : Held) (granted : List Granted) (line : List ℕ) (ls : List (List ℕ)) → ends_session line ≡ true
      → line_replies s held granted (line ∷ ls) ≡ []
  quitted held granted line ls e = ap (λ (b : Bool). if b then [] else line_reply s held (next_granted granted) line
      ++ line_replies s (then_held held granted line) (then_given granted line) ls) e

  -- nothing is replied after a line that ends the session
  pub replies_ended : (held : Held) (granted : List Granted) (ls ms : List (List ℕ)) → ends_among ls ≡ true
      → line_replies s held granted (ls ++ ms) ≡ line_replies s held granted ls
  replies_ended held granted [] ms e = absurd (let x : ⊥ = cc in x)
  replies_ended held granted (l ∷ ls) ms e =
      by (replies_ended (then_held held granted l) (then_given granted l) ls ms) (ends_session l) refl e
    where
      by : (ends_among ls ≡ true → line_replies s (then_held held granted l) (then_given granted l) (ls ++ ms)
          ≡ line_replies s (then_held held granted l) (then_given granted l) ls)
          → (b : Bool) → ends_session l ≡ b → b || ends_among ls ≡ true → line_replies s held granted (l ∷ (ls ++ ms)) ≡ line_replies s held granted (l ∷ ls)
      by ih true is f = quitted held granted l (ls ++ ms) is ∙ sym (quitted held granted l ls is)
      by ih false is f =
          replied held granted l (ls ++ ms) is
          ∙ ap (λ (t : List ℕ). line_reply s held (next_granted granted) l ++ t) (ih f)
          ∙ sym (replied held granted l ls is)

  -- the replies to the first lines are the first of the replies
  pub replies_front : (held : Held) (granted : List Granted) (ls ms : List (List ℕ))
      → (rest : List ℕ) × (line_replies s held granted (ls ++ ms) ≡ line_replies s held granted ls ++ rest)
  replies_front held granted [] ms = (line_replies s held granted ms, refl)
  replies_front held granted (l ∷ ls) ms =
      by (replies_front (then_held held granted l) (then_given granted l) ls ms) (ends_session l) refl
    where
      by : ((rest : List ℕ) × (line_replies s (then_held held granted l) (then_given granted l) (ls ++ ms)
          ≡ line_replies s (then_held held granted l) (then_given granted l) ls ++ rest))
          → (b : Bool) → ends_session l ≡ b → (rest : List ℕ) × (line_replies s held granted (l ∷ (ls ++ ms)) ≡ line_replies s held granted (l ∷ ls) ++ rest)
      by ih true is = ([], quitted held granted l (ls ++ ms) is ∙ ap (λ (t : List ℕ). t ++ []) (sym (quitted held granted l ls is)))
      by ih false is = (
        ih.0,
        replied held granted l (ls ++ ms) is
            ∙ ap (λ (t : List ℕ). line_reply s held (next_granted granted) l ++ t) ih.1
            ∙ sym (append_assoc (line_reply s held (next_granted granted) l)
            (line_replies s (then_held held granted l) (then_given granted l) ls) ih.0)
            ∙ ap (λ (t : List ℕ). t ++ ih.0) (sym (replied held granted l ls is)),
      )

  module _ (start : Start) where
    -- ---- what one line asks for, and those after it

    pub asked_on : (held : Held) (granted : List Granted) (line : List ℕ) (ls : List (List ℕ)) → ends_session line ≡ false
        → wishes_asked s start held granted (line ∷ ls)
        ≡ wish_of s start held.said (errand_in line) ++ wishes_asked s start (then_held held granted line) (then_given granted line) ls
    asked_on held granted line ls e =
        ap (λ (b : Bool). if b then [] else wish_of s start held.said (errand_in line)
        ++ wishes_asked s start (then_held held granted line) (then_given granted line) ls) e

    pub asked_quit : (held : Held) (granted : List Granted) (line : List ℕ) (ls : List (List ℕ)) → ends_session line ≡ true
        → wishes_asked s start held granted (line ∷ ls) ≡ []
    asked_quit held granted line ls e =
        ap (λ (b : Bool). if b then [] else wish_of s start held.said (errand_in line)
        ++ wishes_asked s start (then_held held granted line) (then_given granted line) ls) e

    pub one_asked : (held : Held) (granted : List Granted) (line : List ℕ) (errand : Option Errand) → ends_session line ≡ false
        → errand_in line ≡ errand → wishes_asked s start held granted (line ∷ []) ≡ wish_of s start held.said errand
    one_asked held granted line errand e f =
        asked_on held granted line [] e ∙ append-nil (wish_of s start held.said (errand_in line)) ∙ ap (wish_of s start held.said) f

    pub asked_ended : (held : Held) (granted : List Granted) (ls ms : List (List ℕ)) → ends_among ls ≡ true
        → wishes_asked s start held granted (ls ++ ms) ≡ wishes_asked s start held granted ls
    asked_ended held granted [] ms e = absurd (let x : ⊥ = cc in x)
    asked_ended held granted (l ∷ ls) ms e =
        by (asked_ended (then_held held granted l) (then_given granted l) ls ms) (ends_session l) refl e
      where
        by : (ends_among ls ≡ true → wishes_asked s start (then_held held granted l) (then_given granted l) (ls ++ ms)
            ≡ wishes_asked s start (then_held held granted l) (then_given granted l) ls)
            → (b : Bool) → ends_session l ≡ b → b || ends_among ls ≡ true
            → wishes_asked s start held granted (l ∷ (ls ++ ms)) ≡ wishes_asked s start held granted (l ∷ ls)
        by ih true is f = asked_quit held granted l (ls ++ ms) is ∙ sym (asked_quit held granted l ls is)
        by ih false is f =
            asked_on held granted l (ls ++ ms) is
            ∙ ap (λ (t : List Wish). wish_of s start held.said (errand_in l) ++ t) (ih f)
            ∙ sym (asked_on held granted l ls is)

    -- what the first lines ask for comes first
    pub asked_front : (held : Held) (granted : List Granted) (ls ms : List (List ℕ))
        → (rest : List Wish) × (wishes_asked s start held granted (ls ++ ms) ≡ wishes_asked s start held granted ls ++ rest)
    asked_front held granted [] ms = (wishes_asked s start held granted ms, refl)
    asked_front held granted (l ∷ ls) ms =
        by (asked_front (then_held held granted l) (then_given granted l) ls ms) (ends_session l) refl
      where
        by : ((rest : List Wish) × (wishes_asked s start (then_held held granted l) (then_given granted l) (ls ++ ms)
            ≡ wishes_asked s start (then_held held granted l) (then_given granted l) ls ++ rest))
            → (b : Bool) → ends_session l ≡ b
            → (rest : List Wish) × (wishes_asked s start held granted (l ∷ (ls ++ ms)) ≡ wishes_asked s start held granted (l ∷ ls) ++ rest)
        by ih true is = (
          [],
          asked_quit held granted l (ls ++ ms) is ∙ ap (λ (t : List Wish). t ++ []) (sym (asked_quit held granted l ls is)),
        )
        by ih false is = (
          ih.0,
          asked_on held granted l (ls ++ ms) is
              ∙ ap (λ (t : List Wish). wish_of s start held.said (errand_in l) ++ t) ih.1
              ∙ sym (append_assoc (wish_of s start held.said (errand_in l))
              (wishes_asked s start (then_held held granted l) (then_given granted l) ls) ih.0)
              ∙ ap (λ (t : List Wish). t ++ ih.0) (sym (asked_on held granted l ls is)),
        )

    -- ---- lines whose wishes were answered, and those after them

    pub plainly : (held : Held) (line : List ℕ) (g : Granted) → errand_in line ≡ None → line_reply s held g line ≡ plain_reply s held line
    plainly held line g e = ap (λ (errand : Option Errand). reply_or_errand errand g (plain_reply s held line)) e

    -- what was given to a line and to those after it
    record Parted (errand : Option Errand) (granted : List Granted) (later : List Wish) : Type 0 where
      left : length (granted_after_line errand granted) ≡ length later
      after : (more : List Granted) → granted_after_line errand (granted ++ more) ≡ granted_after_line errand granted ++ more
      same : (more : List Granted) (held : Held) (line : List ℕ) → errand_in line ≡ errand
          → line_reply s held (next_granted (granted ++ more)) line ≡ line_reply s held (next_granted granted) line
      holds : (more : List Granted) (held : Held) (line : List ℕ) → errand_in line ≡ errand
          → then_held held (granted ++ more) line ≡ then_held held granted line

    parted : (said : Said) (errand : Option Errand) (granted : List Granted) (later : List Wish)
        → length granted ≡ length (wish_of s start said errand ++ later) → Parted errand granted later
    parted said None granted later e = record {
      left = e;
      after = λ more. refl;
      same = λ more held line f. plainly held line (next_granted (granted ++ more)) f ∙ sym (plainly held line (next_granted granted) f);
      holds = λ more held line f. unread held line (next_granted (granted ++ more)) f ∙ sym (unread held line (next_granted granted) f);
    }
      where
        unread : (held : Held) (line : List ℕ) (g : Granted) → errand_in line ≡ None
            → held_after_line s held g line ≡ record { said = said_after_line s held line; reference = held.reference }
        unread held line g f =
            ap (λ (errand : Option Errand). record {
              said = said_after_line s held line;
              reference = reference_after held.reference errand g;
            }) f
    parted said (Some (ToStore file)) [] later e = absurd (omega (arith, e))
    parted said (Some (ToFetch file)) [] later e = absurd (omega (arith, e))
    parted said (Some (ToStore file)) (g ∷ granted) later e = record {
      left = let same : length granted ≡ length later = omega (arith, e) in same;
      after = λ more. refl;
      same = λ more held line f. refl;
      holds = λ more held line f. refl;
    }
    parted said (Some (ToFetch file)) (g ∷ granted) later e = record {
      left = let same : length granted ≡ length later = omega (arith, e) in same;
      after = λ more. refl;
      same = λ more held line f. refl;
      holds = λ more held line f. refl;
    }

    -- the lines were answered, each wish of theirs
    abbrev EachGiven : (held : Held) (granted : List Granted) (ls : List (List ℕ)) → Type 0
    EachGiven held granted ls = length granted ≡ length (wishes_asked s start held granted ls)

    first_part : (held : Held) (granted : List Granted) (l : List ℕ) (ls : List (List ℕ)) → ends_session l ≡ false → EachGiven held granted (l ∷ ls)
        → Parted (errand_in l) granted (wishes_asked s start (then_held held granted l) (then_given granted l) ls)
    first_part held granted l ls e each =
        parted held.said (errand_in l) granted (wishes_asked s start (then_held held granted l) (then_given granted l) ls)
        (each ∙ ap length (asked_on held granted l ls e))

    module _ (more : List Granted) (ms : List (List ℕ)) where
      pub through_append : (held : Held) (granted : List Granted) (ls : List (List ℕ)) → ends_among ls ≡ false → EachGiven held granted ls
          → held_through s held (granted ++ more) (ls ++ ms) ≡ held_through s (held_through s held granted ls) more ms
      through_append held granted [] e each = ap (λ (g : List Granted). held_through s held (g ++ more) ms) (nothing_given granted each)
      through_append held granted (l ∷ ls) e each =
          let both = or_parts (ends_session l) (ends_among ls) e in
          let p = first_part held granted l ls both.0 each in
          ap (λ (h : Held). held_through s h (then_given (granted ++ more) l) (ls ++ ms)) (p.holds more held l refl)
          ∙ ap (λ (g : List Granted). held_through s (then_held held granted l) g (ls ++ ms)) (p.after more)
          ∙ through_append (then_held held granted l) (then_given granted l) ls both.1 p.left

      pub asked_append : (held : Held) (granted : List Granted) (ls : List (List ℕ)) → ends_among ls ≡ false → EachGiven held granted ls
          → wishes_asked s start held (granted ++ more) (ls ++ ms)
          ≡ wishes_asked s start held granted ls ++ wishes_asked s start (held_through s held granted ls) more ms
      asked_append held granted [] e each = ap (λ (g : List Granted). wishes_asked s start held (g ++ more) ms) (nothing_given granted each)
      asked_append held granted (l ∷ ls) e each =
          let both = or_parts (ends_session l) (ends_among ls) e in
          let p = first_part held granted l ls both.0 each in
          let after : Held = then_held held granted l in
          let later : List Granted = then_given granted l in
          let first : List Wish = wish_of s start held.said (errand_in l) in
          let rest : List Wish = wishes_asked s start (held_through s after later ls) more ms in
          asked_on held (granted ++ more) l (ls ++ ms) both.0
          ∙ ap (λ (h : Held). first ++ wishes_asked s start h (then_given (granted ++ more) l) (ls ++ ms)) (p.holds more held l refl)
          ∙ ap (λ (g : List Granted). first ++ wishes_asked s start after g (ls ++ ms)) (p.after more)
          ∙ ap (λ (t : List Wish). first ++ t) (asked_append after later ls both.1 p.left)
          ∙ sym (append_assoc first (wishes_asked s start after later ls) rest)
          ∙ ap (λ (t : List Wish). t ++ rest) (sym (asked_on held granted l ls both.0))

      pub replies_append : (held : Held) (granted : List Granted) (ls : List (List ℕ)) → ends_among ls ≡ false → EachGiven held granted ls
          → line_replies s held (granted ++ more) (ls ++ ms)
          ≡ line_replies s held granted ls ++ line_replies s (held_through s held granted ls) more ms
      replies_append held granted [] e each = ap (λ (g : List Granted). line_replies s held (g ++ more) ms) (nothing_given granted each)
      replies_append held granted (l ∷ ls) e each =
          let both = or_parts (ends_session l) (ends_among ls) e in
          let p = first_part held granted l ls both.0 each in
          let after : Held = then_held held granted l in
          let later : List Granted = then_given granted l in
          let first : List ℕ = line_reply s held (next_granted granted) l in
          let rest : List ℕ = line_replies s (held_through s after later ls) more ms in
          replied held (granted ++ more) l (ls ++ ms) both.0
          ∙ ap (λ (t : List ℕ). t ++ line_replies s (then_held held (granted ++ more) l) (then_given (granted ++ more) l) (ls ++ ms))
          (p.same more held l refl)
          ∙ ap (λ (h : Held). first ++ line_replies s h (then_given (granted ++ more) l) (ls ++ ms)) (p.holds more held l refl)
          ∙ ap (λ (g : List Granted). first ++ line_replies s after g (ls ++ ms)) (p.after more)
          ∙ ap (λ (t : List ℕ). first ++ t) (replies_append after later ls both.1 p.left)
          ∙ sym (append_assoc first (line_replies s after later ls) rest)
          ∙ ap (λ (t : List ℕ). t ++ rest) (sym (replied held granted l ls both.0))

    -- ---- lines that were answered, and then others

    module _ (reads : Reads) where
      pub passes_more : {old between new : DialogMoment} (talk more : Talk) → Passes reads s start old talk between
          → Passes reads s start between more new
          → Passes reads s start old (record { lines = talk.lines ++ more.lines; granted = talk.granted ++ more.granted }) new
      passes_more {old} {between} {new} talk more p q =
          let through : Held = held_through s old.held talk.granted talk.lines in
          let asked : List Wish = wishes_asked s start old.held talk.granted talk.lines in
          let others : List Wish = wishes_asked s start through more.granted more.lines in
          let all : wishes_asked s start old.held (talk.granted ++ more.granted) (talk.lines ++ more.lines) ≡ asked ++ others =
          asked_append more.granted more.lines old.held talk.granted talk.lines p.on p.answered in
          let same : wishes_asked s start between.held more.granted more.lines ≡ others =
          ap (λ (h : Held). wishes_asked s start h more.granted more.lines) p.held_is in
          record {
            on = on_append talk.lines more.lines false p.on q.on;
            read = read_append reads talk.granted more.granted p.read q.read;
            held_is = q.held_is ∙ ap (λ (h : Held). held_through s h more.granted more.lines) p.held_is
                ∙ sym (through_append more.granted more.lines old.held talk.granted talk.lines p.on p.answered);
            answered =
                let both : length (talk.granted ++ more.granted) ≡ length asked + length others =
                omega (arith, length-append talk.granted more.granted, p.answered, q.answered, ap length same) in
                both ∙ sym (length-append asked others) ∙ ap length (sym all);
            files_are =
                let first : Given talk.granted asked old.files between.files = record { files_are = p.files_are } in
                let next : Given more.granted others between.files new.files =
                record { files_are = subst (λ (wishes : List Wish). FilesAfter more.granted wishes between.files new.files) same q.files_are } in
                subst (λ (wishes : List Wish). FilesAfter (talk.granted ++ more.granted) wishes old.files new.files) (sym all)
                (files_append p.answered first next).files_are;
            counts_are = q.counts_are ∙ ap (counts_granted more.granted) p.counts_are ∙ sym (counts_append talk.granted more.granted old.counts);
          }
