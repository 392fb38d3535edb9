-- Where the console tells its bytes: what the screen got, what became of the keeper, and how the session ended.
use Rattle.std.proofs.Common.{◌++◌, ◌+◌, ◌-◌, ◌<◌, ◌∙◌, ◌≡◌, ◌≤◌, ◌⊎◌, [], ℕ, Bool, IsSome, IsTrue, List, None, Option, Some, ap, append_assoc, arith, false}
use Rattle.std.proofs.Common.{inl, inr, length, refl, subst, sym, take, true}
use Rattle.std.proofs.{Math.Seq.take-append-add, lemmas.List.append-nil, lemmas.List.length-append, lemmas.List.take-append-le, lemmas.List.take_at}
use Rattle.std.specs.Io.KnownBytes.{IsAtEnd}
use Rattle.edge_ports.proofs.{HandedLinesAreHeard.heard_longer, PiecesAddUp.gave_prefix_before, PiecesAddUp.gave_prefix_whole, SameBytesCome.told_still}
use Rattle.edge_ports.specs.{Counts.Counted, Files.FileMap, Limits.console_bytes, Told.GaveAll, Told.GavePrefix}
use Rattle.edge_ports.specs.Lines.{lines_heard, lines_of, whole_lines}
use Rattle.dialog_replies.specs.{Fit.misfit, Lines.misfit_line, Replies.opening_of, Subject.Subject, declared.misfits.Misfit.Misfit, declared.start.Start.Start}
use Rattle.ask_session.proofs.RepliesInOrder.{Given, asked_ended, asked_front, ended_append, files_longer, replies_ended, replies_front}
use Rattle.ask_session.specs.{Outside.Outside, Went.Went, declared.dialog.Ending.Ending}
use Rattle.ask_session.specs.Console.{EndsInTime, FirstAnswered, GaveOf, GoesOn, NotRisen}
use Rattle.ask_session.specs.Dialog.{Granted, all_printed, ends_among, held_at_start, line_replies, printed_if_fits, transcript}
use Rattle.ask_session.specs.Heard.{EndedBy, GaveBy, Heard, IsHeard, RefusedBy, is_console, is_screen, lines_in}
use Rattle.ask_session.specs.Reached.{AnswersFirst, Reached, Telling, telling}
use Rattle.ask_session.specs.Wishes.{AreAnswered, FilesAfter, Reads, Wish, wishes_in}

-- how a session ended, and the counts of its console and its screen before and after it
pub record Closed (e : Ending) (console console' screen screen' : ℕ) : Type 0 where
  pub console_counted : Counted (is_console e) console console'
  pub console_stayed : NotRisen console console'
  pub screen_counted : Counted (is_screen e) screen screen'
  pub screen_stayed : NotRisen screen screen'

-- ---- what is said of more lines

said_longer : (m : Option Misfit) (text more rest : List ℕ) → more ≡ text ++ rest → (back : List ℕ) × (printed_if_fits m more ≡ printed_if_fits m text ++ back)
said_longer (Some why) text more rest e = ([], sym (append-nil (misfit_line why)))
said_longer None text more rest e = (rest, e)

printed_refused : (m : Option Misfit) (text more : List ℕ) → IsSome m → printed_if_fits m more ≡ printed_if_fits m text
printed_refused (Some why) text more some = refl
printed_refused None text more some = absurd (let x : ⊥ = cc in x)

none_is_some : {m : Option Misfit} → m ≡ None → IsSome m → ⊥
none_is_some {m} none some = is_none (subst IsSome none some)
  where
    is_none : IsSome {T = Misfit} None → ⊥
    is_none e = let x : ⊥ = cc in x

answered_few : (e : Ending) (granted : List Granted) (wishes : List Wish) → AreAnswered e granted wishes → length granted ≤ length wishes
answered_few Ending.Done granted wishes a = omega (arith, a)
answered_few Ending.Console granted wishes a = omega (arith, a)
answered_few Ending.Spent granted wishes a = omega (arith, a)
answered_few Ending.Refused granted wishes a = omega (arith, a)
answered_few Ending.Screen granted wishes a = a
answered_few Ending.Memory granted wishes a = a

-- ---- how far a dialog came, of more lines

answers_more : (t : Telling) (ls ms : List (List ℕ)) (count : ℕ) (granted : List Granted) → count ≤ length ls → AnswersFirst t ls count granted
    → AnswersFirst t (ls ++ ms) count granted
answers_more t ls ms count granted within (inl e) =
    inl (e ∙ ap (λ (some : List (List ℕ)). length (t.asked granted some)) (sym (take-append-le count ls ms within)))
answers_more t ls ms count granted within (inr (less, e)) =
    let next : count + 1 ≤ length ls = omega (arith, less) in
    let longer : count < length (ls ++ ms) = omega (arith, less, length-append ls ms) in
    inr (longer, e ∙ ap (λ (some : List (List ℕ)). length (t.asked granted some)) (sym (take-append-le (count + 1) ls ms next)))

reached_more : {granted : List Granted} {given given' : Option (List ℕ)} (t : Telling) (ls ms all : List (List ℕ)) → all ≡ ls ++ ms
    → Reached t ls granted given given' → Reached t all granted given given'
reached_more {granted} {given} {given'} t ls ms all e r =
    let longer : Reached t (ls ++ ms) granted given given' = record {
      count = r.count;
      within = omega (arith, r.within, length-append ls ms);
      answered = answers_more t ls ms r.count granted r.within r.answered;
      gave = subst (λ (some : List (List ℕ)). GavePrefix given given' (t.text granted some)) (sym (take-append-le r.count ls ms r.within)) r.gave;
    } in
    subst (λ (lines : List (List ℕ)). Reached t lines granted given given') (sym e) longer

module _ (s : Subject) (start : Start) where
  abbrev printed_of : List Granted → List (List ℕ) → List ℕ
  printed_of granted lines = opening_of s start ++ line_replies s (held_at_start start) granted lines

  -- what is said of the first lines is the first part of what is said
  printed_front : (granted : List Granted) (ls ms : List (List ℕ))
      → (back : List ℕ) × (all_printed s start granted (ls ++ ms) ≡ all_printed s start granted ls ++ back)
  printed_front granted ls ms =
      let r = replies_front s (held_at_start start) granted ls ms in
      said_longer (misfit s start) (printed_of granted ls) (printed_of granted (ls ++ ms)) r.0
      (ap (λ (text : List ℕ). opening_of s start ++ text) r.1
      ∙ sym (append_assoc (opening_of s start) (line_replies s (held_at_start start) granted ls) r.0))

  -- and all of it, where one of them ends the session
  printed_ended : (granted : List Granted) (ls ms : List (List ℕ)) → ends_among ls ≡ true
      → all_printed s start granted (ls ++ ms) ≡ all_printed s start granted ls
  printed_ended granted ls ms e =
      ap (λ (text : List ℕ). printed_if_fits (misfit s start) (opening_of s start ++ text))
      (replies_ended s (held_at_start start) granted ls ms e)

  module _ (left left' : Option (List ℕ)) (bytes : List ℕ) (told : left ≡ Some bytes) where
    -- the bytes heard are the first of those told
    abbrev Front : Heard → Type 0
    Front x = (rest : List ℕ) × (left' ≡ Some rest) × (bytes ≡ x.bytes ++ rest)

    front : (x : Heard) → IsHeard left left' x → Front x
    front x h = told_still left left' x.bytes bytes h.took told

    none_after : (x : Heard) → IsHeard left left' x → IsTrue x.ended → bytes ≡ x.bytes
    none_after x h ended =
        let k = front x h in
        let none : k.0 ≡ [] = subst IsAtEnd k.1 (h.at_end ended) in
        k.2 ∙ ap (λ (r : List ℕ). x.bytes ++ r) none ∙ append-nil x.bytes

    -- the lines heard are the first of all lines
    first_lines : (x : Heard) (h : IsHeard left left' x) (b : Bool) → x.ended ≡ b → (rest : List (List ℕ)) × (lines_of bytes ≡ lines_in x ++ rest)
    first_lines x h true e = ([], ap lines_of (none_after x h e) ∙ sym (ap (λ (b : Bool). lines_heard b x.bytes) e) ∙ sym (append-nil (lines_in x)))
    first_lines x h false e =
        let k = front x h in
        let l = heard_longer true x.bytes k.0 in
        (l.0, ap lines_of k.2 ∙ l.1 ∙ ap (λ (b : Bool). lines_heard b x.bytes ++ l.0) (sym e))

    -- where the dialog is done, what is said of them and what they ask for is that of all lines
    record AsAll (x : Heard) : Type 0 where
      text : (granted : List Granted) → transcript s start granted bytes ≡ all_printed s start granted (lines_in x)
      asked : (granted : List Granted) → wishes_in s start granted (lines_of bytes) ≡ wishes_in s start granted (lines_in x)

    as_all : (x : Heard) → IsHeard left left' x → EndedBy Ending.Done x → AsAll x
    as_all x h (inl ended) =
        let same : lines_of bytes ≡ lines_in x = ap lines_of (none_after x h ended) ∙ sym (ap (λ (b : Bool). lines_heard b x.bytes) ended) in
        record { text = λ granted. ap (all_printed s start granted) same; asked = λ granted. ap (wishes_in s start granted) same }
    as_all x h (inr quit) =
        let lines = first_lines x h x.ended refl in
        record {
          text = λ granted. ap (all_printed s start granted) lines.1 ∙ printed_ended granted (lines_in x) lines.0 quit;
          asked = λ granted. ap (wishes_in s start granted) lines.1 ∙ asked_ended s start (held_at_start start) granted (lines_in x) lines.0 quit;
        }

    -- ---- what the screen got, and what was given

    more_asked : (granted : List Granted) (x : Heard) → IsHeard left left' x
        → (rest : List Wish) × (wishes_in s start granted (lines_of bytes) ≡ wishes_in s start granted (lines_in x) ++ rest)
    more_asked granted x h =
        let lines = first_lines x h x.ended refl in
        let more = asked_front s start (held_at_start start) granted (lines_in x) lines.0 in
        (more.0, ap (wishes_in s start granted) lines.1 ∙ more.1)

    files_told : {before after : Option FileMap} (granted : List Granted) (x : Heard) → IsHeard left left' x
        → length granted ≤ length (wishes_in s start granted (lines_in x))
        → Given granted (wishes_in s start granted (lines_in x)) before after → Given granted (wishes_in s start granted (lines_of bytes)) before after
    files_told {before} {after} granted x h few stored =
        let more = more_asked granted x h in
        subst (λ (wishes : List Wish). Given granted wishes before after) (sym more.1) (files_longer more.0 few stored)

    first_few : (granted : List Granted) (x : Heard) → IsHeard left left' x → length granted ≤ length (wishes_in s start granted (lines_in x))
        → length granted ≤ length (wishes_in s start granted (lines_of bytes))
    first_few granted x h few =
        let more = more_asked granted x h in omega (arith, few, ap length more.1, length-append (wishes_in s start granted (lines_in x)) more.0)

    pub first_answered : (e : Ending) (granted : List Granted) (x : Heard) → IsHeard left left' x
        → EndedBy e x × AreAnswered e granted (wishes_in s start granted (lines_in x))
        → FirstAnswered e granted (wishes_in s start granted (lines_of bytes))
    first_answered Ending.Done granted x h a = a.1 ∙ ap length (sym ((as_all x h a.0).asked granted))
    first_answered Ending.Console granted x h a = first_few granted x h (answered_few Ending.Console granted (wishes_in s start granted (lines_in x)) a.1)
    first_answered Ending.Spent granted x h a = first_few granted x h (answered_few Ending.Spent granted (wishes_in s start granted (lines_in x)) a.1)
    first_answered Ending.Refused granted x h a = first_few granted x h (answered_few Ending.Refused granted (wishes_in s start granted (lines_in x)) a.1)
    first_answered Ending.Screen granted x h a = first_few granted x h a.1
    first_answered Ending.Memory granted x h a = first_few granted x h a.1

    module _ (given given' : Option (List ℕ)) (granted : List Granted) (x : Heard) (h : IsHeard left left' x) where
      part_of : GavePrefix given given' (all_printed s start granted (lines_in x)) → GavePrefix given given' (transcript s start granted bytes)
      part_of g =
          let lines = first_lines x h x.ended refl in
          let r = printed_front granted (lines_in x) lines.0 in
          subst (λ (text : List ℕ). GavePrefix given given' text) (sym (ap (all_printed s start granted) lines.1 ∙ r.1))
          (gave_prefix_before given given' (all_printed s start granted (lines_in x)) r.0 g)

      whole_part : GaveAll given given' (all_printed s start granted (lines_in x)) → GavePrefix given given' (transcript s start granted bytes)
      whole_part g = part_of (gave_prefix_whole given given' (all_printed s start granted (lines_in x)) g)

      pub transcript_given : (e : Ending) → GaveBy e given given' (all_printed s start granted (lines_in x)) → EndedBy e x → RefusedBy e (misfit s start)
          → GaveOf e given given' (transcript s start granted bytes)
      transcript_given Ending.Done g w r = subst (λ (text : List ℕ). GaveAll given given' text) (sym ((as_all x h w).text granted)) g
      transcript_given Ending.Console g w r = whole_part g
      transcript_given Ending.Screen g w r = part_of g
      transcript_given Ending.Spent g w r = whole_part g
      transcript_given Ending.Memory g w r = part_of g
      transcript_given Ending.Refused g w r = subst (λ (text : List ℕ). GaveAll given given' text)
          (printed_refused (misfit s start) (printed_of granted (lines_of bytes)) (printed_of granted (lines_in x)) r) g

    -- what the contract says where the console tells its bytes
    pub told_so : (reads : Reads) (before after : Outside) (e : Ending) (w : Went reads s start before e after) → IsHeard left left' w.heard
        → FirstAnswered e w.granted (wishes_in s start w.granted (lines_of bytes))
        × GaveOf e before.streams.given after.streams.given (transcript s start w.granted bytes)
        × FilesAfter w.granted (wishes_in s start w.granted (lines_of bytes)) before.files after.files
        × Reached (telling s start) (lines_of bytes) w.granted before.streams.given after.streams.given
    told_so reads before after e w h =
        let lines = first_lines w.heard h w.heard.ended refl in
        let given : Given w.granted (wishes_in s start w.granted (lines_in w.heard)) before.files after.files = record { files_are = w.files } in (
          first_answered e w.granted w.heard h (w.ended, w.answered),
          transcript_given before.streams.given after.streams.given w.granted w.heard h e w.gave w.ended w.refused,
          (files_told w.granted w.heard h (answered_few e w.granted (wishes_in s start w.granted (lines_in w.heard)) w.answered) given).files_are,
          reached_more (telling s start) (lines_in w.heard) lines.0 (lines_of bytes) lines.1 w.reached,
        )

    -- ---- how it ended

    not_spent : (x : Heard) → IsHeard left left' x → EndedBy Ending.Spent x → EndsInTime bytes → ⊥
    not_spent x h w (inl less) = let k = front x h in omega (arith, ap length k.2, length-append x.bytes k.0, w.2)
    not_spent x h w (inr quit) =
        let k = front x h in
        let same : take console_bytes bytes ≡ x.bytes = ap (take console_bytes) k.2 ∙ take_at x.bytes k.0 console_bytes w.2 in
        let lines : lines_in x ≡ whole_lines (take console_bytes bytes) = ap (λ (b : Bool). lines_heard b x.bytes) w.0 ∙ sym (ap whole_lines same) in
        let both : true ≡ false = sym quit ∙ ap ends_among (sym lines) ∙ w.1 in
        let x : ⊥ = cc in x

    not_done : (x : Heard) → IsHeard left left' x → EndedBy Ending.Done x → GoesOn bytes → ⊥
    not_done x h w on = by w x.ended refl
      where
        ended_not : IsTrue x.ended → ⊥
        ended_not e = let room = h.room e in omega (arith, ap length (none_after x h e), room, on.0)

        by : EndedBy Ending.Done x → (b : Bool) → x.ended ≡ b → ⊥
        by (inl ended) b e = ended_not ended
        by (inr quit) true e = ended_not e
        by (inr quit) false e =
            let k = front x h in
            let n : ℕ = console_bytes - length x.bytes in
            let reach : take console_bytes bytes ≡ x.bytes ++ take n k.0 =
            ap (take console_bytes) k.2
            ∙ ap (λ (m : ℕ). take m (x.bytes ++ k.0)) (let e : console_bytes ≡ length x.bytes + n = omega (arith, h.within) in e)
            ∙ take-append-add x.bytes k.0 n in
            let l = heard_longer false x.bytes (take n k.0) in
            let quit' : ends_among (whole_lines x.bytes) ≡ true = ap (λ (b : Bool). ends_among (lines_heard b x.bytes)) (sym e) ∙ quit in
            let both : true ≡ false =
            sym (ended_append (whole_lines x.bytes) l.0 quit') ∙ ap ends_among (sym l.1)
            ∙ ap (λ (taken : List ℕ). ends_among (whole_lines taken)) (sym reach) ∙ on.1 in
            let x : ⊥ = cc in x

    -- why a session ended, where the saved session fits
    pub record Cause (e : Ending) : Type 0 where
      pub heard : Heard
      pub is_heard : IsHeard left left' heard
      pub ended : EndedBy e heard
      pub refused : RefusedBy e (misfit s start)
      pub fits : misfit s start ≡ None

    pub done_or_memory : {console console' screen screen' : ℕ} (e : Ending) → Cause e → Closed e console console' screen screen' → EndsInTime bytes
        → (e ≡ Ending.Done) ⊎ (e ≡ Ending.Memory)
    done_or_memory Ending.Done w c ends = inl refl
    done_or_memory Ending.Console w c ends = absurd (c.console_stayed c.console_counted)
    done_or_memory Ending.Screen w c ends = absurd (c.screen_stayed c.screen_counted)
    done_or_memory Ending.Spent w c ends = absurd (not_spent w.heard w.is_heard w.ended ends)
    done_or_memory Ending.Refused w c ends = absurd (none_is_some w.fits w.refused)
    done_or_memory Ending.Memory w c ends = inr refl

    pub spent_or_memory : {console console' screen screen' : ℕ} (e : Ending) → Cause e → Closed e console console' screen screen' → GoesOn bytes
        → (e ≡ Ending.Spent) ⊎ (e ≡ Ending.Memory)
    spent_or_memory Ending.Done w c on = absurd (not_done w.heard w.is_heard w.ended on)
    spent_or_memory Ending.Console w c on = absurd (c.console_stayed c.console_counted)
    spent_or_memory Ending.Screen w c on = absurd (c.screen_stayed c.screen_counted)
    spent_or_memory Ending.Spent w c on = inl refl
    spent_or_memory Ending.Refused w c on = absurd (none_is_some w.fits w.refused)
    spent_or_memory Ending.Memory w c on = inr refl

-- the screen's count did not rise
pub record ScreenStayed (e : Ending) (screen screen' : ℕ) : Type 0 where
  pub counted : Counted (is_screen e) screen screen'
  pub stayed : NotRisen screen screen'

-- a session that does not fit is refused, unless the screen fails or memory runs out
pub refused_or_memory : {screen screen' : ℕ} (e : Ending) (m : Option Misfit) → RefusedBy e m → IsSome m
    → ScreenStayed e screen screen' → (e ≡ Ending.Refused) ⊎ (e ≡ Ending.Memory)
refused_or_memory Ending.Done m r some c = absurd (none_is_some r some)
refused_or_memory Ending.Console m r some c = absurd (none_is_some r some)
refused_or_memory Ending.Spent m r some c = absurd (none_is_some r some)
refused_or_memory Ending.Refused m r some c = inl refl
refused_or_memory Ending.Screen m r some c = absurd (c.stayed c.counted)
refused_or_memory Ending.Memory m r some c = inr refl
