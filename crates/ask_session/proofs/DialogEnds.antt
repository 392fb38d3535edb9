-- What is held and what was given where a dialog ends.
use Rattle.std.proofs.Common.{if◌then◌else◌, ◌++◌, ◌+◌, ◌<◌, ◌||◌, ◌∙◌, ◌∷◌, ◌≡◌, ◌≤◌, ◌⊎◌, [], ℕ, Bool, Err, IsTrue, List, None, Ok, Option, Some, ap}
use Rattle.std.proofs.Common.{append-nil, append_assoc, arith, false, inl, inr, length, refl, subst, sym, take, true}
use Rattle.std.{proofs.lemmas.List.length-append, proofs.lemmas.List.take_all, proofs.lemmas.List.take_at, specs.Io.KnownBytes.IsAtEnd}
use Rattle.edge_ports.proofs.HandedLinesAreHeard.{heard_in_order}
use Rattle.edge_ports.proofs.PiecesAddUp.{gave_more, gave_nothing, gave_prefix_after, gave_prefix_before, gave_prefix_whole}
use Rattle.edge_ports.specs.{Counts.counts_stored, Told.GaveAll, Told.GavePrefix, Told.TookAll, Turns.IsConsistent, declared.ports.StoreFault.StoreFault}
use Rattle.edge_ports.specs.Lines.{LinesState, Moves, handed_lines, lines_heard, unread}
use Rattle.dialog_replies.specs.{Said.Held, Subject.Subject, declared.start.Start.Start}
use Rattle.ask_session.proofs.RepliesInOrder.{Given, asked_append, asked_front, asked_quit, counts_append, files_append, files_longer, none_read, on_append}
use Rattle.ask_session.proofs.RepliesInOrder.{on_of_one, passes_more, quitted, read_append, replied, replies_append}
use Rattle.ask_session.specs.{Outside.Outside, Reached.Reached, Reached.telling_from, Turned.held_through, Turned.one_line, declared.dialog.Ending.Ending}
use Rattle.ask_session.specs.Dialog.{Errand, Granted, ToFetch, ToStore, ends_among, ends_session, errand_in, granted_after_line, held_after_line, held_at_start}
use Rattle.ask_session.specs.Dialog.{line_replies, line_reply, next_granted}
use Rattle.ask_session.specs.Heard.{EndedBy, GaveBy, Heard, IsHeard, lines_in}
use Rattle.ask_session.specs.Turned.{Answered, BreaksOff, DialogMoment, DialogStage, Hands, HandsNone, NextReply, Passes, ReplyGiven, Talk, Talked}
use Rattle.ask_session.specs.Wishes.{AreAnswered, AreReadIn, CountsAfter, FilesAfter, Reads, Wish, counts_granted, wish_of, wishes_asked}

-- nothing was given, or to the only wish
none_or_last : {A B : Type 0} (granted : List Granted) (asked : ℕ) → asked ≤ 1 → length granted ≤ asked → (granted ≡ [] → A)
    → (length granted ≡ asked → B) → A ⊎ B
none_or_last [] asked most few none last = inl (none refl)
none_or_last (g ∷ granted) asked most few none last = inr (last (omega (arith, most, few)))

-- what was heard by a reader
abbrev pub heard_by : LinesState → Heard
heard_by lines = record { bytes = lines.taken; ended = lines.ended }

module _ (reads : Reads) (s : Subject) (start : Start) where
  -- a line asks for one thing at most
  asks_once : (held : Held) (granted : List Granted) (line : List ℕ) → length (wishes_asked s start held granted (line ∷ [])) ≤ 1
  asks_once held granted line = by (ends_session line) (errand_in line)
    where
      by : (quits : Bool) (errand : Option Errand) → length (if quits then [] else wish_of s start held.said errand ++ []) ≤ 1
      by true errand = omega arith
      by false (Some (ToStore file)) = omega arith
      by false (Some (ToFetch file)) = omega arith
      by false None = omega arith

  -- ---- one line after another

  pub answered_more : (first old new : DialogStage) (r : Unit {0}) → Answered reads s start first old → ReplyGiven reads s start old (Ok r) new
      → Answered reads s start first new
  answered_more first old new r a t =
      let line : List ℕ = t.1.0 in
      let granted : List Granted = t.1.2.0 in
      let one : Passes reads s start old.progress.moment (one_line line granted) new.progress.moment = t.1.2.1 in
      let before : List (List ℕ) = handed_lines old.progress.lines in
      let said : Held = first.progress.moment.held in
      let both : Talk = record { lines = before ++ line ∷ []; granted = a.granted ++ granted } in
      let passes : Passes reads s start first.progress.moment both new.progress.moment =
      passes_more s start reads (record { lines = before; granted = a.granted }) (one_line line granted) a.passes one in
      let after : Held = held_through s said a.granted before in
      let on : ends_session line ≡ false = on_of_one line one.on in
      let printed : line_replies s said (a.granted ++ granted) (before ++ line ∷ []) ≡ line_replies s said a.granted before ++ t.0 =
      replies_append s start granted (line ∷ []) said a.granted before a.passes.on a.passes.answered
      ∙ ap (λ (text : List ℕ). line_replies s said a.granted before ++ text)
      (replied s after granted line [] on ∙ append-nil (line_reply s after (next_granted granted) line)
      ∙ ap (λ (es : Held). line_reply s es (next_granted granted) line) (sym a.passes.held_is) ∙ sym t.1.2.2) in
      record {
        granted = a.granted ++ granted;
        passes = subst (λ (ls : List (List ℕ)).
            Passes reads s start first.progress.moment (record { lines = ls; granted = a.granted ++ granted }) new.progress.moment)
            (sym t.1.1) passes;
        gave = subst (λ (ls : List (List ℕ)). GaveAll first.given new.given (line_replies s said (a.granted ++ granted) ls)) (sym t.1.1)
            (subst (λ (text : List ℕ). GaveAll first.given new.given text) (sym printed)
            (gave_more first.given (line_replies s said a.granted before) t.0 a.gave t.2));
      }

  -- ---- the end of the dialog

  -- what was replied and given, of all lines that were heard
  pub record Ends (first : DialogStage) (e : Ending) (new : DialogStage) : Type 0 where
    pub granted : List Granted
    pub not_refused : e ≡ Ending.Refused → ⊥
    pub ended : EndedBy e (heard_by new.progress.lines)
    pub read : AreReadIn reads granted
    pub answered : AreAnswered e granted (wishes_asked s start first.progress.moment.held granted (lines_in (heard_by new.progress.lines)))
    pub gave : GaveBy e first.given new.given (line_replies s first.progress.moment.held granted (lines_in (heard_by new.progress.lines)))
    pub reached : Reached (telling_from s start first.progress.moment.held) (lines_in (heard_by new.progress.lines)) granted first.given new.given
    pub files_are : FilesAfter granted (wishes_asked s start first.progress.moment.held granted (lines_in (heard_by new.progress.lines)))
        first.progress.moment.files new.progress.moment.files
    pub counts_are : CountsAfter e granted first.progress.moment.counts new.progress.moment.counts

  -- all of them were answered
  record Through (first : DialogStage) (lines : List (List ℕ)) (new : DialogStage) : Type 0 where
    granted : List Granted
    read : AreReadIn reads granted
    answered : length granted ≡ length (wishes_asked s start first.progress.moment.held granted lines)
    gave : GaveAll first.given new.given (line_replies s first.progress.moment.held granted lines)
    files_are : FilesAfter granted (wishes_asked s start first.progress.moment.held granted lines) first.progress.moment.files new.progress.moment.files
    counts_are : new.progress.moment.counts ≡ counts_granted granted first.progress.moment.counts

  reached_all : (first new : DialogStage) (lines : List (List ℕ)) (t : Through first lines new)
      → Reached (telling_from s start first.progress.moment.held) lines t.granted first.given new.given
  reached_all first new lines t =
      let all : take (length lines) lines ≡ lines = take_all (length lines) lines (omega arith) in
      record {
        count = length lines;
        within = omega arith;
        answered = inl (t.answered ∙ ap (λ (ls : List (List ℕ)). length (wishes_asked s start first.progress.moment.held t.granted ls)) (sym all));
        gave = subst (λ (ls : List (List ℕ)). GavePrefix first.given new.given (line_replies s first.progress.moment.held t.granted ls)) (sym all)
            (gave_prefix_whole first.given new.given (line_replies s first.progress.moment.held t.granted lines) t.gave);
      }

  module _ (first old new : DialogStage) (a : Answered reads s start first old) (c : IsConsistent new.progress.lines) where
    abbrev reader : LinesState
    reader = new.progress.lines

    abbrev said : Held
    said = first.progress.moment.held

    abbrev heard : List (List ℕ)
    heard = lines_heard reader.ended reader.taken

    abbrev rest : List (List ℕ)
    rest = lines_heard reader.ended (unread reader)

    abbrev before : List (List ℕ)
    before = handed_lines old.progress.lines

    abbrev after : Held
    after = held_through s said a.granted before

    abbrev asked : List Granted → List (List ℕ) → List Wish
    asked granted lines = wishes_asked s start said granted lines

    abbrev Gave : List ℕ → Type 0
    Gave text = GaveAll first.given new.given text

    abbrev GaveFront : List ℕ → Type 0
    GaveFront text = GavePrefix first.given new.given text

    -- the lines heard are those handed out and more
    order : heard ≡ handed_lines reader ++ rest
    order = heard_in_order reader c.handed c.cut

    -- one more line
    with_line : (line : List ℕ) → Hands old.progress.lines reader line → heard ≡ before ++ (line ∷ rest)
    with_line line hands = order ∙ ap (λ (ls : List (List ℕ)). ls ++ rest) hands ∙ append_assoc before (line ∷ []) rest

    -- nothing was replied or given since then
    same : line_replies s said a.granted heard ≡ line_replies s said a.granted before → asked a.granted heard ≡ asked a.granted before
        → (new.progress.moment ≡ old.progress.moment) × (new.given ≡ old.given) → Through first heard new
    same printed wished still = record {
      granted = a.granted;
      read = a.passes.read;
      answered = a.passes.answered ∙ sym (ap length wished);
      gave = subst Gave (sym printed) (subst (λ (g : Option (List ℕ)). GaveAll first.given g (line_replies s said a.granted before)) (sym still.1) a.gave);
      files_are = subst (λ (wishes : List Wish). FilesAfter a.granted wishes first.progress.moment.files new.progress.moment.files) (sym wished)
          (subst (λ (m : DialogMoment). FilesAfter a.granted (asked a.granted before) first.progress.moment.files m.files) (sym still.0) a.passes.files_are);
      counts_are = ap (λ (m : DialogMoment). m.counts) still.0 ∙ a.passes.counts_are;
    }

    -- no further line
    lines_same : HandsNone old.progress.lines reader → heard ≡ before
    lines_same n = n.1 ∙ n.0

    none_more : HandsNone old.progress.lines reader → (new.progress.moment ≡ old.progress.moment) × (new.given ≡ old.given) → Through first heard new
    none_more n still = same (ap (line_replies s said a.granted) (lines_same n)) (ap (asked a.granted) (lines_same n)) still

    goes_on : HandsNone old.progress.lines reader → ends_among heard ≡ false
    goes_on n = ap ends_among (lines_same n) ∙ a.passes.on

    -- a line that ends the session
    quit : (line : List ℕ) → Hands old.progress.lines reader line → ends_session line ≡ true
        → (new.progress.moment ≡ old.progress.moment) × (new.given ≡ old.given) → Through first heard new
    quit line hands ends still =
        let all = with_line line hands in
        let printed : line_replies s said a.granted heard ≡ line_replies s said a.granted before =
        ap (line_replies s said a.granted) all ∙ ap (λ (granted : List Granted). line_replies s said granted (before ++ (line ∷ rest)))
        (sym (append-nil a.granted))
        ∙ replies_append s start [] (line ∷ rest) said a.granted before a.passes.on a.passes.answered
        ∙ ap (λ (t : List ℕ). line_replies s said a.granted before ++ t) (quitted s after [] line rest ends)
        ∙ append-nil (line_replies s said a.granted before) in
        let wished : asked a.granted heard ≡ asked a.granted before =
        ap (asked a.granted) all ∙ ap (λ (granted : List Granted). asked granted (before ++ (line ∷ rest))) (sym (append-nil a.granted))
        ∙ asked_append s start [] (line ∷ rest) said a.granted before a.passes.on a.passes.answered
        ∙ ap (λ (wishes : List Wish). asked a.granted before ++ wishes) (asked_quit s start after [] line rest ends)
        ∙ append-nil (asked a.granted before) in
        same printed wished still

    quit_among : (line : List ℕ) → Hands old.progress.lines reader line → ends_session line ≡ true → ends_among heard ≡ true
    quit_among line hands ends =
        ap ends_among (with_line line hands)
        ∙ on_append before (line ∷ rest) true a.passes.on (ap (λ (b : Bool). b || ends_among rest) ends)

    -- the screen failed in the reply to a line
    screen_ends : (reply : List ℕ) → NextReply reads s start old.progress (Ok reply) new.progress → GavePrefix old.given new.given reply
        → Ends first Ending.Screen new
    screen_ends reply n g =
        let line : List ℕ = n.0 in
        let granted : List Granted = n.2.0 in
        let one : Passes reads s start old.progress.moment (one_line line granted) new.progress.moment = n.2.1 in
        let passes = passes_more s start reads (record { lines = before; granted = a.granted }) (one_line line granted) a.passes one in
        let lines : heard ≡ (before ++ line ∷ []) ++ rest = order ∙ ap (λ (ls : List (List ℕ)). ls ++ rest) n.1 in
        let front = asked_front s start said (a.granted ++ granted) (before ++ line ∷ []) rest in
        let all : asked (a.granted ++ granted) heard ≡ asked (a.granted ++ granted) (before ++ line ∷ []) ++ front.0 =
        ap (asked (a.granted ++ granted)) lines ∙ front.1 in
        let few : length (a.granted ++ granted) ≤ length (asked (a.granted ++ granted) (before ++ line ∷ [])) = omega (arith, passes.answered) in
        let next : Held = held_after_line s after (next_granted granted) line in
        let more : List ℕ = line_replies s next (granted_after_line (errand_in line) granted) rest in
        let printed : line_replies s said (a.granted ++ granted) heard ≡ line_replies s said a.granted before ++ (reply ++ more) =
        ap (line_replies s said (a.granted ++ granted)) (with_line line n.1)
        ∙ replies_append s start granted (line ∷ rest) said a.granted before a.passes.on a.passes.answered
        ∙ ap (λ (t : List ℕ). line_replies s said a.granted before ++ t) (replied s after granted line rest (on_of_one line one.on)
        ∙ ap (λ (t : List ℕ). t ++ more) (ap (λ (es : Held). line_reply s es (next_granted granted) line) (sym a.passes.held_is) ∙ sym n.2.2)) in
        let here : List (List ℕ) = before ++ line ∷ [] in
        let taken : take (length here) heard ≡ here = ap (take (length here)) lines ∙ take_at here rest (length here) refl in
        let printed_here : line_replies s said (a.granted ++ granted) here ≡ line_replies s said a.granted before ++ reply =
        replies_append s start granted (line ∷ []) said a.granted before a.passes.on a.passes.answered
        ∙ ap (λ (t : List ℕ). line_replies s said a.granted before ++ t) (replied s after granted line [] (on_of_one line one.on)
        ∙ append-nil (line_reply s after (next_granted granted) line)
        ∙ ap (λ (es : Held). line_reply s es (next_granted granted) line) (sym a.passes.held_is) ∙ sym n.2.2) in
        record {
          granted = a.granted ++ granted;
          read = passes.read;
          not_refused = λ r. absurd (let x : ⊥ = cc in x);
          ended = tt;
          answered = omega (arith, few, ap length all, length-append (asked (a.granted ++ granted) (before ++ line ∷ [])) front.0);
          reached = record {
            count = length here;
            within = omega (arith, ap length lines, length-append here rest);
            answered = inl (passes.answered ∙ ap (λ (ls : List (List ℕ)). length (asked (a.granted ++ granted) ls)) (sym taken));
            gave = subst GaveFront (sym (ap (line_replies s said (a.granted ++ granted)) taken ∙ printed_here))
                (gave_prefix_after first.given (line_replies s said a.granted before) a.gave g);
          };
          gave = subst GaveFront (sym printed)
              (gave_prefix_after first.given (line_replies s said a.granted before) a.gave
              (gave_prefix_before old.given new.given reply more g));
          files_are = subst (λ (wishes : List Wish). FilesAfter (a.granted ++ granted) wishes first.progress.moment.files new.progress.moment.files) (sym all)
              (let stored : Given (a.granted ++ granted) (asked (a.granted ++ granted) (before ++ line ∷ [])) first.progress.moment.files
              new.progress.moment.files =
              record { files_are = passes.files_are } in (files_longer front.0 few stored).files_are);
          counts_are = passes.counts_are;
        }

    -- the counts after the answers, and then after those at the line
    counts_more : (granted : List Granted) → CountsAfter Ending.Memory granted old.progress.moment.counts new.progress.moment.counts
        → CountsAfter Ending.Memory (a.granted ++ granted) first.progress.moment.counts new.progress.moment.counts
    counts_more granted (inl e) =
        inl (e ∙ ap (counts_granted granted) a.passes.counts_are ∙ sym (counts_append a.granted granted first.progress.moment.counts))
    counts_more granted (inr e) =
        inr (e ∙ ap (counts_stored (Err StoreFault.Memory)) (ap (counts_granted granted) a.passes.counts_are
        ∙ sym (counts_append a.granted granted first.progress.moment.counts)))

    -- memory ran out at a line
    memory_ends : (line : List ℕ) → Hands old.progress.lines reader line → BreaksOff reads s start old.progress.moment line new.progress.moment
        → new.given ≡ old.given → Ends first Ending.Memory new
    memory_ends line hands b still =
        let one : List Wish = wishes_asked s start after b.granted (line ∷ []) in
        let same_one : wishes_asked s start old.progress.moment.held b.granted (line ∷ []) ≡ one =
        ap (λ (es : Held). wishes_asked s start es b.granted (line ∷ [])) a.passes.held_is in
        let front = asked_front s start after b.granted (line ∷ []) rest in
        let all : asked (a.granted ++ b.granted) heard ≡ asked a.granted before ++ (one ++ front.0) =
        ap (asked (a.granted ++ b.granted)) (with_line line hands)
        ∙ asked_append s start b.granted (line ∷ rest) said a.granted before a.passes.on a.passes.answered
        ∙ ap (λ (wishes : List Wish). asked a.granted before ++ wishes) front.1 in
        let few : length b.granted ≤ length one = omega (arith, b.answered, ap length same_one) in
        let stored : Given a.granted (asked a.granted before) first.progress.moment.files old.progress.moment.files =
        record { files_are = a.passes.files_are } in
        let more : Given b.granted one old.progress.moment.files new.progress.moment.files =
        record {
          files_are = subst (λ (wishes : List Wish). FilesAfter b.granted wishes old.progress.moment.files new.progress.moment.files) same_one
              b.files_are;
        } in
        let printed : line_replies s said (a.granted ++ b.granted) heard
        ≡ line_replies s said a.granted before ++ line_replies s after b.granted (line ∷ rest) =
        ap (line_replies s said (a.granted ++ b.granted)) (with_line line hands)
        ∙ replies_append s start b.granted (line ∷ rest) said a.granted before a.passes.on a.passes.answered in
        let gave : Gave (line_replies s said a.granted before) =
        subst (λ (g : Option (List ℕ)). GaveAll first.given g (line_replies s said a.granted before)) (sym still) a.gave in
        let here : List (List ℕ) = before ++ line ∷ [] in
        let taken : take (length before) heard ≡ before =
        ap (take (length before)) (with_line line hands) ∙ take_at before (line ∷ rest) (length before) refl in
        let in_order : heard ≡ here ++ rest = order ∙ ap (λ (ls : List (List ℕ)). ls ++ rest) hands in
        let one_more : length before + 1 ≡ length here = omega (arith, length-append before (line ∷ [])) in
        let taken_here : take (length before + 1) heard ≡ here =
        ap (λ (n : ℕ). take n heard) one_more ∙ ap (take (length here)) in_order ∙ take_at here rest (length here) refl in
        let asked_here : asked (a.granted ++ b.granted) here ≡ asked a.granted before ++ one =
        asked_append s start b.granted (line ∷ []) said a.granted before a.passes.on a.passes.answered in
        let asked_before : asked (a.granted ++ b.granted) before ≡ asked a.granted before =
        ap (asked (a.granted ++ b.granted)) (sym (append-nil before))
        ∙ asked_append s start b.granted [] said a.granted before a.passes.on a.passes.answered
        ∙ append-nil (asked a.granted before) in
        let said_before : line_replies s said (a.granted ++ b.granted) before ≡ line_replies s said a.granted before =
        ap (line_replies s said (a.granted ++ b.granted)) (sym (append-nil before))
        ∙ replies_append s start b.granted [] said a.granted before a.passes.on a.passes.answered
        ∙ append-nil (line_replies s said a.granted before) in
        let inside : length before < length heard = omega (arith, ap length (with_line line hands), length-append before (line ∷ rest)) in
        let all_here : length b.granted ≡ length one → length (a.granted ++ b.granted) ≡ length (asked (a.granted ++ b.granted) here) =
        λ last. omega (
          arith,
          last,
          a.passes.answered,
          length-append a.granted b.granted,
          ap length asked_here,
          length-append (asked a.granted before) one,
        ) in
        record {
          granted = a.granted ++ b.granted;
          read = read_append reads a.granted b.granted a.passes.read b.read;
          not_refused = λ r. absurd (let x : ⊥ = cc in x);
          ended = tt;
          reached = record {
            count = length before;
            within = omega (arith, inside);
            answered = none_or_last b.granted (length one) (asks_once after b.granted line) few
                (λ none. ap (λ (more : List Granted). length (a.granted ++ more)) none ∙ ap length (append-nil a.granted) ∙ a.passes.answered
                ∙ ap length (sym asked_before)
                ∙ ap (λ (ls : List (List ℕ)). length (asked (a.granted ++ b.granted) ls)) (sym taken))
                (λ last. (inside, all_here last ∙ ap (λ (ls : List (List ℕ)). length (asked (a.granted ++ b.granted) ls)) (sym taken_here)));
            gave = subst GaveFront (sym (ap (line_replies s said (a.granted ++ b.granted)) taken ∙ said_before))
                (gave_prefix_whole first.given new.given (line_replies s said a.granted before) gave);
          };
          answered = omega (
            arith,
            few,
            a.passes.answered,
            length-append a.granted b.granted,
            ap length all,
            length-append (asked a.granted before) (one ++ front.0),
            length-append one front.0,
          );
          gave = subst GaveFront (sym printed)
              (gave_prefix_before first.given new.given (line_replies s said a.granted before) (line_replies s after b.granted (line ∷ rest))
              (gave_prefix_whole first.given new.given (line_replies s said a.granted before) gave));
          files_are = subst (λ (wishes : List Wish). FilesAfter (a.granted ++ b.granted) wishes first.progress.moment.files new.progress.moment.files) (sym all)
              (files_append a.passes.answered stored (files_longer front.0 few more)).files_are;
          counts_are = counts_more b.granted b.counts_are;
        }

    done : EndedBy Ending.Done (heard_by reader) → Through first heard new → Ends first Ending.Done new
    done why t = record {
      granted = t.granted;
      read = t.read;
      not_refused = λ r. absurd (let x : ⊥ = cc in x);
      ended = why;
      answered = t.answered;
      reached = reached_all first new heard t;
      gave = t.gave;
      files_are = t.files_are;
      counts_are = t.counts_are;
    }

    console : EndedBy Ending.Console (heard_by reader) → Through first heard new → Ends first Ending.Console new
    console why t = record {
      granted = t.granted;
      read = t.read;
      not_refused = λ r. absurd (let x : ⊥ = cc in x);
      ended = why;
      answered = t.answered;
      reached = reached_all first new heard t;
      gave = t.gave;
      files_are = t.files_are;
      counts_are = t.counts_are;
    }

    spent : EndedBy Ending.Spent (heard_by reader) → Through first heard new → Ends first Ending.Spent new
    spent why t = record {
      granted = t.granted;
      read = t.read;
      not_refused = λ r. absurd (let x : ⊥ = cc in x);
      ended = why;
      answered = t.answered;
      reached = reached_all first new heard t;
      gave = t.gave;
      files_are = t.files_are;
      counts_are = t.counts_are;
    }

    pub talk_ends : (e : Ending) → ReplyGiven reads s start old (Err e) new → Ends first e new
    talk_ends Ending.Done (inl q, e) = done (inr (quit_among q.0 q.1 q.2.0)) (quit q.0 q.1 q.2.0 (q.2.1, e))
    talk_ends Ending.Done (inr end, e) = done (inl end.0) (none_more end.1 (end.2, e))
    talk_ends Ending.Console (n, e) = console (n.0, goes_on n.1, n.2) (none_more n.1 (n.3, e))
    talk_ends Ending.Spent (n, e) = spent (n.0, goes_on n.1, n.2) (none_more n.1 (n.3, e))
    talk_ends Ending.Screen (reply, n, g) = screen_ends reply n g
    talk_ends Ending.Memory (n, e) = memory_ends n.0 n.1 n.2 e
    talk_ends Ending.Refused t = absurd t

-- what was heard while a reader that had taken nothing took these bytes
pub heard_of : (taken : List ℕ) (new : LinesState) (left left' : Option (List ℕ)) → taken ≡ [] → Moves taken new.taken left left' → IsConsistent new
    → (IsTrue new.ended → IsAtEnd left') → IsHeard left left' (heard_by new)
heard_of taken new left left' none m c at_end = record {
  took = subst (λ (bytes : List ℕ). TookAll left left' bytes) (sym (m.grown ∙ ap (λ (bytes : List ℕ). bytes ++ m.more) none)) m.took;
  within = c.taken;
  room = c.seen;
  at_end = at_end;
}

-- ---- from what is held at the start on

abbrev pub stage : Held → Outside → LinesState → DialogStage
stage held outside lines = record {
  progress = record { moment = record { held = held; files = outside.files; counts = outside.counts }; lines = lines };
  given = outside.streams.given;
}

module _ (reads : Reads) (s : Subject) (start : Start) where
  abbrev pub first_stage : Outside → LinesState → DialogStage
  first_stage outside lines = stage (held_at_start start) outside lines

  -- before a line was handed out
  pub none_answered : (outside : Outside) (held : Held) (lines : LinesState) → held ≡ held_at_start start → handed_lines lines ≡ []
      → Answered reads s start (first_stage outside lines) (stage held outside lines)
  none_answered outside now lines same none = record {
    granted = [];
    passes = record {
      on = ap ends_among none;
      read = none_read reads;
      held_is = same ∙ sym (ap (held_through s (held_at_start start) []) none);
      answered = sym (ap (λ (ls : List (List ℕ)). length (wishes_asked s start (held_at_start start) [] ls)) none);
      files_are = refl;
      counts_are = refl;
    };
    gave = subst (λ (ls : List (List ℕ)). GaveAll outside.streams.given outside.streams.given (line_replies s (held_at_start start) [] ls)) (sym none)
        (gave_nothing outside.streams.given);
  }

  pub talked_of : {fresh lines : LinesState} {held : Held} {e : Ending} (outside outside' : Outside)
      → Ends reads s start (first_stage outside fresh) e (stage held outside' lines) → IsHeard outside.streams.left outside'.streams.left (heard_by lines)
      → Talked reads s start outside e outside'
  talked_of {lines = lines} outside outside' ends heard = record {
    heard = heard_by lines;
    granted = ends.granted;
    read = ends.read;
    not_refused = ends.not_refused;
    is_heard = heard;
    ended = ends.ended;
    answered = ends.answered;
    reached = ends.reached;
    gave = ends.gave;
    files = ends.files_are;
    counts = ends.counts_are;
  }
