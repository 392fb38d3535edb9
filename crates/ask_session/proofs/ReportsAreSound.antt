-- What the reports of a dialog say, from the laws of the search.
use Rattle.std.proofs.Common.{◌∙◌, ◌∷◌, ◌≡◌, ◌⊎◌, [], ℕ, List, None, Option, Some, ap, inl, inr, subst, sym}
use Rattle.std.proofs.lemmas.List.{length-map}
use Rattle.call_tree.specs.{Numbering.IsNumbered, Recording.Recording, Recording.lasts_of, Recording.parents_of}
use Rattle.answer_book.specs.{Accused.accused_of, Entries.standing_answers, declared.entries.Entry.Entry}
use Rattle.optimal_query.specs.{Laws.IsCallTree, Laws.doubts_in, Laws.suspects_in, Question.question_of, State.state_by, State.state_with, State.verdict_by}
use Rattle.optimal_query.specs.declared.state.SearchState.TheVariants.{Found, Narrowed}
use Rattle.dialog_replies.specs.{Kept.AreCallsOf, Subject.Subject, Subject.state_after}
use Rattle.ask_session.specs.Laws.{accused_after}

-- the calls of a run whose subtrees are intervals
pub tree_is : (s : Subject) (run : Recording) → AreCallsOf s run → IsNumbered (parents_of run.calls) (lasts_of run.calls) → IsCallTree s.tree
tree_is s run are numbered = subst IsCallTree (sym are.tree) (record {
  numbered = numbered;
  of_routines = length-map run.calls (λ c. c.routine) ∙ sym (length-map run.calls (λ c. c.last));
})

-- the call of a verdict
verdict_names : (accused : Option ℕ) (doubts : List ℕ) (call : ℕ)
    → (verdict_by accused doubts ≡ Found call) ⊎ (verdict_by accused doubts ≡ Narrowed call) → accused ≡ Some call
verdict_names (Some a) [] call (inl h) = let same : a ≡ call = cc in ap Some same
verdict_names (Some a) [] call (inr h) = absurd (let x : ⊥ = cc in x)
verdict_names (Some a) (d ∷ ds) call (inl h) = absurd (let x : ⊥ = cc in x)
verdict_names (Some a) (d ∷ ds) call (inr h) = let same : a ≡ call = cc in ap Some same
verdict_names None [] call (inl h) = absurd (let x : ⊥ = cc in x)
verdict_names None [] call (inr h) = absurd (let x : ⊥ = cc in x)
verdict_names None (d ∷ ds) call (inl h) = absurd (let x : ⊥ = cc in x)
verdict_names None (d ∷ ds) call (inr h) = absurd (let x : ⊥ = cc in x)

state_names : (last suspects : List ℕ) (question accused : Option ℕ) (doubts : List ℕ) (call : ℕ)
    → (state_by last suspects question (verdict_by accused doubts) ≡ Found call)
    ⊎ (state_by last suspects question (verdict_by accused doubts) ≡ Narrowed call) → accused ≡ Some call
state_names last suspects (Some k) accused doubts call (inl h) = absurd (let x : ⊥ = cc in x)
state_names last suspects (Some k) accused doubts call (inr h) = absurd (let x : ⊥ = cc in x)
state_names last suspects None accused doubts call h = verdict_names accused doubts call h

pub names_the_accused : (s : Subject) (entries : List Entry) (call : ℕ)
    → (state_after s entries ≡ Found call) ⊎ (state_after s entries ≡ Narrowed call) → accused_after s entries ≡ Some call
unfolding state_with
names_the_accused s entries call h =
    let answers = standing_answers entries in
    state_names s.tree.last (suspects_in s.tree answers) (question_of s.tree.last (suspects_in s.tree answers)) (accused_of s.tree.routine answers)
    (doubts_in s.tree answers) call h
