-- The marks that the answers give: what is said of each call is what was agreed on.
use Rattle.std.proofs.Common.{if◌then◌else◌, ◌∙◌, ◌∷◌, ◌≡◌, [], ℕ, Bool, List, ap, arith, false, inl, inr, nat_le, refl, slice_index, subst, suc, sym, true}
use Rattle.std.proofs.{Common.zero, lemmas.Bool.and_from, lemmas.Bool.cases_eq, lemmas.Bool.le-leb, lemmas.List.Elements.filter_map-append}
use Rattle.call_tree.specs.{Clear.is_clear, Clear.is_unknown, declared.records.Mark.Mark}
use Rattle.call_tree.specs.declared.records.Mark.TheVariants.{Right, Trusted, Unjudged, Unknown, Wrong}
use Rattle.subtree_weights.specs.Searched.{is_in}
use Rattle.answer_book.specs.{Entries.entries_with, Entries.entry_saying, Entries.said_by, Entries.standing_answers, Marks.mark_by, Marks.mark_of}
use Rattle.answer_book.specs.declared.entries.{Entry.Entry, Judgement.Judgement, What.What, What.TheVariants.Judged}
use Rattle.optimal_query.proofs.OneMoreAnswer.{new_mark, old_mark}
use Rattle.optimal_query.specs.{Laws.judged, Laws.mark_in, declared.state.SearchState.SearchState}
use Rattle.optimal_query.specs.declared.state.SearchState.TheVariants.{Ask, Found, Narrowed, NothingWrong, Unclear}
use Rattle.dialog_replies.specs.Subject.{Subject, state_after}
use Rattle.made_program.specs.{Answering.answered_to, Answering.call_at_fault, Answering.entries_answered, Answering.judgement_of, Laws.IsSmallTree}

-- a mark that says nothing, or whether the call at fault stands in the call's subtree
abbrev pub IsFair : Mark → Bool → Type 0
IsFair Unjudged within = Unit {0}
IsFair Right within = within ≡ false
IsFair Wrong within = within ≡ true
IsFair Unknown within = ⊥
IsFair Trusted within = ⊥

pub fair_clear : (mark : Mark) (within : Bool) → IsFair mark within → is_clear mark ≡ true → within ≡ false
fair_clear Unjudged within fair clear = absurd (let l : ⊥ = cc in l)
fair_clear Right within fair clear = fair
fair_clear Wrong within fair clear = absurd (let l : ⊥ = cc in l)
fair_clear Unknown within fair clear = absurd fair
fair_clear Trusted within fair clear = absurd fair

pub fair_wrong : (mark : Mark) (within : Bool) → IsFair mark within → mark ≡ Wrong → within ≡ true
fair_wrong mark within fair wrong = subst (λ (m : Mark). IsFair m within) wrong fair

pub fair_known : (mark : Mark) (within : Bool) → IsFair mark within → is_unknown mark ≡ false
fair_known Unjudged within fair = refl
fair_known Right within fair = refl
fair_known Wrong within fair = refl
fair_known Unknown within fair = absurd fair
fair_known Trusted within fair = absurd fair

fair_said : (within : Bool) → IsFair (mark_by (if within then Judgement.Wrong else Judgement.Right)) within
fair_said true = refl
fair_said false = refl

-- all marks are fair, and call 0 is wrong
pub record AreAgreed (s : Subject) (answers : List What) : Type 0 where
  pub root : mark_in s.tree answers 0 ≡ Wrong
  pub fair : (call : ℕ) → IsFair (mark_in s.tree answers call) (is_in s.tree.last call (call_at_fault s))

pub fault_in_root : (s : Subject) → IsSmallTree s → is_in s.tree.last 0 (call_at_fault s) ≡ true
fault_in_root s small =
    and_from (nat_le 0 (call_at_fault s)) (nat_le (call_at_fault s) (slice_index s.tree.last 0)) (le-leb 0 (call_at_fault s) (omega arith))
    (le-leb (call_at_fault s) (slice_index s.tree.last 0) (omega (arith, small.rooted)))

fair_more : (s : Subject) (answers : List What) (call other : ℕ) → IsFair (mark_in s.tree answers other) (is_in s.tree.last other (call_at_fault s))
    → IsFair (mark_in s.tree (judged answers call (judgement_of s call)) other) (is_in s.tree.last other (call_at_fault s))
fair_more s answers call other fair =
    let within : ℕ → Bool = λ k. is_in s.tree.last k (call_at_fault s) in
    elim (cases_eq other call) [
      | inl same ↦
          let mark : mark_in s.tree (judged answers call (judgement_of s call)) other ≡ mark_by (judgement_of s call) =
          ap (λ k. mark_in s.tree (judged answers call (judgement_of s call)) k) same ∙ new_mark s.tree.routine answers call (judgement_of s call) in
          subst (λ (m : Mark). IsFair m (within other)) (sym mark)
          (subst (λ (b : Bool). IsFair (mark_by (judgement_of s call)) b) (sym (ap within same)) (fair_said (within call)))
      | inr differs ↦
          subst (λ (m : Mark). IsFair m (within other)) (sym (old_mark s.tree.routine answers call (judgement_of s call) other differs)) fair
    ]

root_more : (s : Subject) (answers : List What) (call : ℕ) → IsSmallTree s → mark_in s.tree answers 0 ≡ Wrong
    → mark_in s.tree (judged answers call (judgement_of s call)) 0 ≡ Wrong
root_more s answers call small root =
    elim (cases_eq 0 call) [
      | inl same ↦
          let said : judgement_of s call ≡ Judgement.Wrong =
          ap (judgement_of s) (sym same) ∙ ap (λ (b : Bool). if b then Judgement.Wrong else Judgement.Right) (fault_in_root s small) in
          ap (λ k. mark_in s.tree (judged answers call (judgement_of s call)) k) same
          ∙ new_mark s.tree.routine answers call (judgement_of s call) ∙ ap mark_by said
      | inr differs ↦ old_mark s.tree.routine answers call (judgement_of s call) 0 differs ∙ root
    ]

pub agreed_more : (s : Subject) (answers : List What) (call : ℕ) → IsSmallTree s → AreAgreed s answers
    → AreAgreed s (judged answers call (judgement_of s call))
agreed_more s answers call small are = record {
  root = root_more s answers call small are.root;
  fair = λ other. fair_more s answers call other (are.fair other);
}

-- what is said first
no_marks : (s : Subject) (call : ℕ) → mark_in s.tree [] call ≡ Unjudged
unfolding mark_of
no_marks s call = refl

agreed_first : (s : Subject) → IsSmallTree s → AreAgreed s (judged [] 0 Judgement.Wrong)
agreed_first s small =
    let within : ℕ → Bool = λ k. is_in s.tree.last k (call_at_fault s) in
    record {
      root = new_mark s.tree.routine [] 0 Judgement.Wrong;
      fair = λ other. elim (cases_eq other 0) [
        | inl same ↦
            let mark : mark_in s.tree (judged [] 0 Judgement.Wrong) other ≡ Wrong =
            ap (λ k. mark_in s.tree (judged [] 0 Judgement.Wrong) k) same ∙ new_mark s.tree.routine [] 0 Judgement.Wrong in
            subst (λ (m : Mark). IsFair m (within other)) (sym mark) (ap within same ∙ fault_in_root s small)
        | inr differs ↦
            subst (λ (m : Mark). IsFair m (within other))
            (sym (old_mark s.tree.routine [] 0 Judgement.Wrong other differs ∙ no_marks s other)) tt
      ];
    }

-- the answers that stand with one more entry
pub one_more_stands : (entries : List Entry) (call : ℕ) (answer : Judgement)
    → standing_answers (entries_with entries (Judged call answer)) ≡ judged (standing_answers entries) call answer
one_more_stands entries call answer = filter_map-append said_by entries (entry_saying (Judged call answer) ∷ [])

agreed_by : (s : Subject) (entries : List Entry) (state : SearchState) → IsSmallTree s → AreAgreed s (standing_answers entries)
    → AreAgreed s (standing_answers (answered_to s entries state))
agreed_by s entries (Ask call weight suspects left) small are =
    subst (λ (answers : List What). AreAgreed s answers) (sym (one_more_stands entries call (judgement_of s call)))
    (agreed_more s (standing_answers entries) call small are)
agreed_by s entries (Found call) small are = are
agreed_by s entries (Narrowed call) small are = are
agreed_by s entries NothingWrong small are = are
agreed_by s entries Unclear small are = are

-- after whatever number of answers they are as agreed
pub agreed : (s : Subject) (n : ℕ) → IsSmallTree s → AreAgreed s (standing_answers (entries_answered s n))
unfolding entries_answered
agreed s zero small = agreed_first s small
agreed s (suc n) small = agreed_by s (entries_answered s n) (state_after s (entries_answered s n)) small (agreed s n small)
