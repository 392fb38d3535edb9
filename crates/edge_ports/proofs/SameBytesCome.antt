-- While bytes are taken and lines handed out, the same bytes are still to come.
use Rattle.std.proofs.Common.{◌++◌, ◌<◌, ◌∙◌, ◌∷◌, ◌≡◌, ◌≤◌, ◌⊎◌, [], ℕ, Err, IsSome, IsTrue, List, None, Ok, OnOk, Option, Result, Some, ap, append_assoc}
use Rattle.std.proofs.Common.{arith, drop, false, inl, inr, is_ok, is_some, length, refl, subst, sym, take, true}
use Rattle.std.{proofs.lemmas.List.drop-append-le, proofs.lemmas.List.length-append, proofs.lemmas.List.take_at, specs.Io.KnownBytes.IsAtEnd}
use Rattle.edge_ports.proofs.PiecesAddUp.{moves_more}
use Rattle.edge_ports.specs.{Limits.console_bytes, Told.TookAll, Turns.AsksNothing, Turns.TurnsTo, declared.lines.LineFault.LineFault, declared.lines.Turn.Turn}
use Rattle.edge_ports.specs.Lines.{LinesState, Moves, StillComes, line_end_of, lines_of, unread}

-- from the state and the source at the call to those now; the first `looked` bytes have no LF
pub record Filled {I : Type 0} (left : I → Option (List ℕ)) (faults : I → ℕ) (old now : LinesState) (source source' : I) (looked : ℕ) : Type 0 where
  pub within : looked ≤ length (unread now)
  pub none : line_end_of (take looked (unread now)) ≡ None
  pub moved : Moves old.taken now.taken (left source) (left source')
  pub handed : now.handed ≡ old.handed
  pub line : now.line ≡ old.line
  pub quiet : AsksNothing old → (source' ≡ source) × (now.taken ≡ old.taken) × (now.ended ≡ old.ended)
  pub end_seen : IsTrue now.ended → IsTrue old.ended ⊎ IsAtEnd (left source')
  pub calm : faults source' ≡ faults source

-- the source has to be asked: no line is there, nor the end, and there is room
pub record MustAsk (now : LinesState) : Type 0 where
  pub none : line_end_of (unread now) ≡ None
  pub not_ended : now.ended ≡ false
  pub room : length now.taken ≡ console_bytes → ⊥
  pub within : now.handed ≤ length now.taken

-- a call of the source that did not fail
pub record Asked {I : Type 0} (left : I → Option (List ℕ)) (faults : I → ℕ) (now new : LinesState) (source source' : I) : Type 0 where
  pub moved : Moves now.taken new.taken (left source) (left source')
  pub handed : new.handed ≡ now.handed
  pub line : new.line ≡ now.line
  pub ends : (IsTrue new.ended × IsAtEnd (left source')) ⊎ ((length now.taken < length new.taken) × (new.ended ≡ now.ended))
  pub calm : faults source' ≡ faults source

-- where the source has to be asked and nothing was taken yet, it was not to be left alone
asks_something : {now : LinesState} (old : LinesState) → MustAsk now → now.handed ≡ old.handed → (now.taken ≡ old.taken) × (now.ended ≡ old.ended)
    → AsksNothing old → ⊥
asks_something {now} old must handed same (inl whole) =
    let same_unread : unread now ≡ unread old = ap (λ k. drop k now.taken) handed ∙ ap (drop old.handed) same.0 in
    let no_line : line_end_of (unread old) ≡ None = ap line_end_of (sym same_unread) ∙ must.none in
    let some : IsSome {T = ℕ} None = subst IsSome no_line whole in cc
asks_something {now} old must handed same (inr (inl is_ended)) = let both : true ≡ false = sym is_ended ∙ sym same.1 ∙ must.not_ended in cc
asks_something {now} old must handed same (inr (inr full)) = must.room (ap length same.0 ∙ full)

-- what an `Ok` says
pub on_ok : {X Y P : Type 0} (r : Result X Y) → is_ok r ≡ true → OnOk r P → P
on_ok (Ok x) e p = p
on_ok (Err y) e p = cc

pub none_from : {X : Type 0} (o : Option X) → false ≡ is_some o → o ≡ None
none_from None e = refl
none_from (Some x) e = cc

-- what is unread grows by what is taken
unread_more : (old new : LinesState) (more : List ℕ) → old.handed ≤ length old.taken → new.handed ≡ old.handed → new.taken ≡ old.taken ++ more
    → unread new ≡ unread old ++ more
unread_more old new more within handed grown =
    ap (λ k. drop k new.taken) handed ∙ ap (drop old.handed) grown ∙ drop-append-le old.handed old.taken more within

-- the end was seen by this call, or not at all
end_seen_after : {I : Type 0} {left : I → Option (List ℕ)} {faults : I → ℕ} {now new : LinesState} {source source' : I} (before : Type 0)
    → Asked left faults now new source source' → now.ended ≡ false → IsTrue new.ended → before ⊎ IsAtEnd (left source')
end_seen_after {left} {now = now} {new = new} {source' = source'} before asked not_ended ended = elim asked.ends [
  | inl both ↦ inr both.1
  | inr same ↦ let both : true ≡ false = sym ended ∙ same.1 ∙ not_ended in cc
]

-- one more call of the source
pub filled_more : {I : Type 0} {left : I → Option (List ℕ)} {faults : I → ℕ} {old now new : LinesState} {source source' source'' : I} {looked : ℕ} (count : ℕ)
    → Filled left faults old now source source' looked → MustAsk now → Asked left faults now new source' source'' → count ≡ length (unread now)
    → Filled left faults old new source source'' count
filled_more {left} {old = old} {now = now} {new = new} count filled must asked counted =
    let grown = unread_more now new asked.moved.more must.within asked.handed asked.moved.grown in
    let length_grown = ap length grown in
    record {
      within = omega (arith, counted, length_grown, length-append (unread now) asked.moved.more);
      none =
          ap (λ k. line_end_of (take k (unread new))) counted
          ∙ ap (λ l. line_end_of (take (length (unread now)) l)) grown
          ∙ ap line_end_of (take_at (unread now) asked.moved.more (length (unread now)) refl)
          ∙ must.none;
      moved = moves_more filled.moved asked.moved;
      handed = asked.handed ∙ filled.handed;
      line = asked.line ∙ filled.line;
      quiet = λ asks. let kept = filled.quiet asks in absurd (asks_something old must filled.handed (kept.1, kept.2) asks);
      end_seen = end_seen_after (IsTrue old.ended) asked must.not_ended;
      calm = asked.calm ∙ filled.calm;
    }

-- a source that tells its bytes tells them still, when some were taken
pub told_still : (left left' : Option (List ℕ)) (taken more : List ℕ) → TookAll left left' taken → left ≡ Some more
    → (more' : List ℕ) × (left' ≡ Some more') × (more ≡ taken ++ more')
told_still left None taken more took told = let both : Some more ≡ None = sym told ∙ took in cc
told_still left (Some more') taken more took told =
    let both : Some more ≡ Some (taken ++ more') = sym told ∙ took in
    let same : more ≡ taken ++ more' = cc in
    (more', refl, same)

-- nothing is left of what was at its end
none_left : (more front more' : List ℕ) → more ≡ [] → more ≡ front ++ more' → more' ≡ []
none_left more [] more' e p = sym p ∙ e
none_left more (x ∷ front) more' e p = cc

-- the same bytes are still to come while they are taken
pub still_comes : {old : LinesState} (now : LinesState) {left left' : Option (List ℕ)} {bytes : List ℕ} → old.handed ≤ length old.taken
    → now.handed ≡ old.handed
    → Moves old.taken now.taken left left' → (IsTrue now.ended → IsTrue old.ended ⊎ IsAtEnd left') → StillComes old left bytes → StillComes now left' bytes
still_comes {old} now {left} {left'} within handed moved seen comes =
    let after = told_still left left' moved.more comes.more moved.took comes.told in
    let grown = unread_more old now moved.more within handed moved.grown in
    record {
      more = after.0;
      told = after.1;
      whole =
          comes.whole
          ∙ ap (λ l. unread old ++ l) after.2
          ∙ sym (append_assoc (unread old) moved.more after.0)
          ∙ ap (λ l. l ++ after.0) (sym grown);
      ended = λ ended. elim (seen ended) [
        | inl was ↦ none_left comes.more moved.more after.0 (comes.ended was) after.2
        | inr at_end ↦ subst IsAtEnd after.1 at_end
      ];
    }

-- what comes of the lines when the next one is handed out, or none is left
pub turned : {now new : LinesState} {left : Option (List ℕ)} {bytes : List ℕ} (line : List ℕ) (result : Result Turn LineFault) → StillComes now left bytes
    → new.ended ≡ now.ended
    → ((more : List ℕ) → (IsTrue now.ended → more ≡ []) → TurnsTo result line (lines_of (unread now ++ more)) (lines_of (unread new ++ more)))
    → (rest : List ℕ) × StillComes new left rest × TurnsTo result line (lines_of bytes) (lines_of rest)
turned {now} {new} line result comes ended turns = (
  unread new ++ comes.more,
  record { more = comes.more; told = comes.told; whole = refl; ended = λ is. comes.ended (subst IsTrue ended is) },
  subst (λ l. TurnsTo result line (lines_of l) (lines_of (unread new ++ comes.more))) (sym comes.whole) (turns comes.more comes.ended),
)

-- the line that is shown plays no part
pub comes_cleared : {old now : LinesState} {left : Option (List ℕ)} {bytes : List ℕ} → now ≡ record old { line = [] } → StillComes old left bytes
    → StillComes now left bytes
comes_cleared cleared comes = record {
  more = comes.more;
  told = comes.told;
  whole = comes.whole ∙ ap (λ s. unread s ++ comes.more) (sym cleared);
  ended = λ is. comes.ended (subst IsTrue (ap (λ s. s.ended) cleared) is);
}
