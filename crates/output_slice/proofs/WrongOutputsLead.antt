-- A wrong output of the accused leads to a call that is buggy at an output, among those that are left: the search's own
-- law on buggy calls, where a call is said to have gone wrong if a pair of the slice did that is its.
use Rattle.std.proofs.Common.{if◌then◌else◌, ◌&&◌, ◌+◌, ◌<◌, ◌∙◌, ◌∷◌, ◌≡◌, ◌⊎◌, [], ℕ, Bool, Contains, List, Option, Some, ap, arith, drop, false, inl, inr}
use Rattle.std.proofs.Common.{length, nat_eq, refl, subst, sym, take, true}
use Rattle.std.{proofs.lemmas.Bool.Decides.nat_tests, proofs.lemmas.List.Elements.All-contains, proofs.lemmas.List.Elements.filter_passes, specs.List.slice_get}
use Rattle.core_program.proofs.{CallsOfRunsNest.forest_of, NestedCallsAreIntervals.Forest, OutcomesCompose.some_same}
use Rattle.core_program.specs.{Numbering.belows, Run.Call, Run.Marked, Run.run, State.State}
use Rattle.core_program.specs.Run as meaning
use Rattle.call_tree.specs.{Clear.is_clear, Clear.is_unjudged, Clear.is_unknown, declared.records.Mark.Mark}
use Rattle.call_tree.specs.declared.records.Mark.TheVariants.{Right, Trusted, Unjudged, Unknown, Wrong}
use Rattle.subtree_weights.specs.Searched.{mark_at}
use Rattle.answer_book.specs.{Accused.accused_of, Accused.is_wrong, Marks.marks_of, declared.entries.What.What}
use Rattle.optimal_query.proofs.OneMoreAnswer.{at_mark}
use Rattle.optimal_query.specs.{Laws.CallTree, Laws.doubts_in, Laws.mark_in, Laws.suspects_in, Region.doubts_of, Region.region_of, Region.suspects_of}
use Rattle.optimal_query.specs.Narrowing.{AgreesWithMarks, BuggyIsLeft, IsBuggy, IsLeft}
use Rattle.output_slice.proofs.{ActsAlike.false_true, AmongLists.Among, BackwardIsWhole.cut_rises, BackwardIsWhole.used_met, SliceByOnePass.listed_slice}
use Rattle.output_slice.proofs.{SliceByOnePass.slice_listed, UsedBackward.only_self, UsedBackward.pair_stands}
use Rattle.output_slice.proofs.ChildrenOfPieces.{IsChild, child_of, holds}
use Rattle.output_slice.specs.{Backward.only, Backward.slice_list, Pieces.pieces_of, declared.outputs.Output.Output}
use Rattle.output_slice.specs.Outputs.{First, Further, InSlice, Used, has_output}
use Rattle.output_slice.specs.WrongOutputs.{IsBuggyAtOutput, IsTreeOf, IsWrongOutput, Narrowing, OutputTruth}

-- ---- whether a call has a wrong output among these pairs

abbrev wrong_in : OutputTruth → ℕ → List (ℕ × Output) → Bool
wrong_in went_wrong n [] = false
wrong_in went_wrong n (y ∷ ys) = if nat_eq n y.0 && went_wrong n y.1 then true else wrong_in went_wrong n ys

pub both : (a b : Bool) → (a && b) ≡ true → (a ≡ true) × (b ≡ true)
both true b e = (refl, e)
both false b e = absurd (false_true e)

self_eq : (n : ℕ) → nat_eq n n ≡ true
self_eq n = grind (arith, nat_tests)

wrong_is_in : (went_wrong : OutputTruth) (n : ℕ) (ys : List (ℕ × Output)) → wrong_in went_wrong n ys ≡ true → (x : Output) × Among (n, x) ys
    × (went_wrong n x ≡ true)
wrong_is_in went_wrong n [] e = absurd (false_true e)
wrong_is_in went_wrong n (y ∷ ys) e = by (nat_eq n y.0 && went_wrong n y.1) refl (wrong_is_in went_wrong n ys) e
  where
    by : (b : Bool) → (nat_eq n y.0 && went_wrong n y.1) ≡ b → (wrong_in went_wrong n ys ≡ true → (x : Output) × Among (n, x) ys × (went_wrong n x ≡ true))
        → (if b then true else wrong_in went_wrong n ys) ≡ true → (x : Output) × Among (n, x) (y ∷ ys) × (went_wrong n x ≡ true)
    by true q k e =
        let p = both (nat_eq n y.0) (went_wrong n y.1) q in
        let a : n ≡ y.0 = (let f = p.0 in grind (arith, nat_tests)) in
        (y.1, inl (λ i. (sym a i, y.1)), p.1)
    by false q k e = let r = k e in (r.0, inr r.1, r.2)

is_wrong_in : (went_wrong : OutputTruth) (n : ℕ) (ys : List (ℕ × Output)) (x : Output) → Among (n, x) ys → went_wrong n x ≡ true
    → wrong_in went_wrong n ys ≡ true
is_wrong_in went_wrong n [] x h e = absurd h
is_wrong_in went_wrong n (y ∷ ys) x (inl q) e = ap (λ (y : ℕ × Output). if nat_eq n y.0 && went_wrong n y.1 then true else wrong_in went_wrong n ys) q
    ∙ ap (λ b. if b && went_wrong n x then true else wrong_in went_wrong n ys) (self_eq n) ∙ ap (λ b. if b then true else wrong_in went_wrong n ys) e
is_wrong_in went_wrong n (y ∷ ys) x (inr h) e = by (nat_eq n y.0 && went_wrong n y.1) (is_wrong_in went_wrong n ys x h e)
  where
    by : (b : Bool) → wrong_in went_wrong n ys ≡ true → (if b then true else wrong_in went_wrong n ys) ≡ true
    by true e = refl
    by false e = e

-- a call without one has no wrong output among them
right_in : (went_wrong : OutputTruth) (n : ℕ) (ys : List (ℕ × Output)) (x : Output) → wrong_in went_wrong n ys ≡ false → Among (n, x) ys
    → went_wrong n x ≡ false
right_in went_wrong n ys x e h = by (went_wrong n x) refl
  where
    by : (b : Bool) → went_wrong n x ≡ b → went_wrong n x ≡ false
    by true q = absurd (false_true (sym e ∙ is_wrong_in went_wrong n ys x h q))
    by false q = q

-- ---- marks

pub unjudged_not_wrong : (mark : Mark) → is_unjudged mark ≡ true → is_wrong mark ≡ false
unjudged_not_wrong Unjudged e = refl
unjudged_not_wrong Right e = absurd (false_true e)
unjudged_not_wrong Trusted e = absurd (false_true e)
unjudged_not_wrong Unknown e = absurd (false_true e)
unjudged_not_wrong Wrong e = absurd (false_true e)

unknown_not_wrong : (mark : Mark) → is_unknown mark ≡ true → is_wrong mark ≡ false
unknown_not_wrong Unknown e = refl
unknown_not_wrong Right e = absurd (false_true e)
unknown_not_wrong Trusted e = absurd (false_true e)
unknown_not_wrong Unjudged e = absurd (false_true e)
unknown_not_wrong Wrong e = absurd (false_true e)

suspect_passes : (last : List ℕ) (marks : List Mark) (accused : Option ℕ) (n : ℕ) → Contains (suspects_of last marks accused) n
    → is_unjudged (mark_at marks n) ≡ true
unfolding suspects_of
suspect_passes last marks accused n h = All-contains (λ n. is_unjudged (mark_at marks n) ≡ true) (suspects_of last marks accused) n
    (filter_passes (λ n. is_unjudged (mark_at marks n)) (region_of last marks accused)) h

doubt_passes : (last : List ℕ) (marks : List Mark) (accused : Option ℕ) (n : ℕ) → Contains (doubts_of last marks accused) n
    → is_unknown (mark_at marks n) ≡ true
unfolding doubts_of
doubt_passes last marks accused n h = All-contains (λ n. is_unknown (mark_at marks n) ≡ true) (doubts_of last marks accused) n
    (filter_passes (λ n. is_unknown (mark_at marks n)) (region_of last marks accused)) h

-- a suspect or a doubt is not marked wrong
left_not_wrong : (calls : CallTree) (answers : List What) (n : ℕ) → n < length calls.routine
    → Contains (suspects_in calls answers) n ⊎ Contains (doubts_in calls answers) n → is_wrong (mark_in calls answers n) ≡ false
left_not_wrong calls answers n inside h =
    let marks = marks_of calls.routine answers in
    let at = at_mark calls.routine answers n inside in
    elim h [
      | inl s ↦ unjudged_not_wrong (mark_in calls answers n)
          (ap is_unjudged (sym at) ∙ suspect_passes calls.last marks (accused_of calls.routine answers) n s)
      | inr d ↦ unknown_not_wrong (mark_in calls answers n)
          (ap is_unknown (sym at) ∙ doubt_passes calls.last marks (accused_of calls.routine answers) n d)
    ]

clear_not_wrong : (mark : Mark) → is_clear mark ≡ true → is_wrong mark ≡ false
clear_not_wrong Right e = refl
clear_not_wrong Trusted e = refl
clear_not_wrong Unjudged e = absurd (false_true e)
clear_not_wrong Unknown e = absurd (false_true e)
clear_not_wrong Wrong e = absurd (false_true e)

module _ (r : meaning.Result State Call) (forest : Forest (belows r.events)) (call : ℕ) (o : Output) where
  abbrev listed : List (ℕ × Output)
  listed = slice_list r call o

  -- a used output is one of a child
  record UsedOf (k n : ℕ) (x : Output) : Type 0 where
    made : Call
    child : IsChild r k n made
    has : has_output made x ≡ true

  child_used : (k : ℕ) (e : Marked Call) (part : Output) (n : ℕ) (x : Output) → slice_get r.events k ≡ Some e → Used (pieces_of r k e) part n x → UsedOf k n x
  child_used k e part n x q u =
      let ps = pieces_of r k e in
      let s = pair_stands (only part) ps n x (used_met (only part) (k + 1) ps part n x
      (cut_rises e.mark (k + 1) 0 e.event.log (take e.event.below (drop (k + 1) r.events))) (only_self part) u) in
      record { made = s.0; child = child_of r e.mark k e.event.log e n s.0 forest q (holds ps n s.0 s.1 s.2); has = s.3 }

  -- each pair of the slice is an output of a call, if the first is
  pub record OutputOf (n : ℕ) (x : Output) : Type 0 where
    pub entry : Marked Call
    pub a_call : slice_get r.events n ≡ Some entry
    pub has : has_output entry.event x ≡ true

  pub output_of : OutputOf call o → (n : ℕ) (x : Output) → InSlice r call o n x → OutputOf n x
  output_of h n x First = h
  output_of h n x (Further number e part other from l q u) =
      let d = child_used number e part other from q u in
      record { entry = d.child.entry; a_call = d.child.is; has = ap (λ c. has_output c from) d.child.event ∙ d.has }

  module _ (calls : CallTree) (tree : IsTreeOf r calls) (answers : List What) (went_wrong : OutputTruth) (h : IsWrongOutput r calls answers went_wrong call o)
    where
      -- a call went wrong if it is marked so, or has a wrong output in the slice
      abbrev truth : ℕ → Bool
      truth n = if is_wrong (mark_in calls answers n) then true else wrong_in went_wrong n listed

      agrees : AgreesWithMarks calls answers truth
      agrees = record {
        clear = λ n inside e. ap (λ b. if b then true else wrong_in went_wrong n listed) (clear_not_wrong (mark_in calls answers n) e)
            ∙ right n e (wrong_in went_wrong n listed) refl;
        wrong = λ n inside e. ap (λ m. if is_wrong m then true else wrong_in went_wrong n listed) e;
      }
        where
          right : (n : ℕ) → is_clear (mark_in calls answers n) ≡ true → (b : Bool) → wrong_in went_wrong n listed ≡ b → wrong_in went_wrong n listed ≡ false
          right n e true q =
              let w = wrong_is_in went_wrong n listed q in
              absurd (false_true (sym (h.clear n w.0 (listed_slice r call o n w.0 w.1) e) ∙ w.2))
          right n e false q = q

      -- a child of a call that went right has no wrong output in the slice
      child_right : (n : ℕ) → truth n ≡ false → wrong_in went_wrong n listed ≡ false
      child_right n e = by (is_wrong (mark_in calls answers n)) e
        where
          by : (b : Bool) → (if b then true else wrong_in went_wrong n listed) ≡ false → wrong_in went_wrong n listed ≡ false
          by true e = absurd (false_true (sym e))
          by false e = e

      -- a call that is left has a wrong output in the slice, if it went wrong and all calls are right that it made
      buggy : (found : ℕ) → IsLeft calls answers found → IsBuggy calls truth found → wrong_in went_wrong found listed ≡ true
          → IsBuggyAtOutput r went_wrong found
      buggy found left is e =
          let w = wrong_is_in went_wrong found listed e in
          let s = listed_slice r call o found w.0 w.1 in
          let out = output_of (record { entry = h.entry; a_call = h.a_call; has = h.has }) found w.0 s in
          record {
            entry = out.entry;
            a_call = out.a_call;
            output = w.0;
            has = out.has;
            wrong = w.2;
            used_right = λ other from u.
                let d = child_used found out.entry w.0 other from out.a_call u in
                right_in went_wrong other listed from
                (child_right other (is.children_right other (tree.parents other d.child.inside ∙ ap Some d.child.parent)))
                (slice_listed r call o other from (Further found out.entry w.0 other from s out.a_call u));
          }

      -- the call that the search's law gives has one
      has_wrong : (found : ℕ) → IsLeft calls answers found → IsBuggy calls truth found → wrong_in went_wrong found listed ≡ true
      has_wrong found left is = elim left [
        | inl a ↦ is_wrong_in went_wrong found listed o (subst (λ n. Among (n, o) listed) (same a) (slice_listed r call o call o First))
            (subst (λ n. went_wrong n o ≡ true) (same a) h.wrong)
        | inr s ↦ ap (λ b. if b then true else wrong_in went_wrong found listed)
            (sym (left_not_wrong calls answers found (let a = is.a_call in let n = tree.tree.of_routines in omega (arith, a, n)) s)) ∙ is.wrong
      ]
        where
          same : accused_of calls.routine answers ≡ Some found → call ≡ found
          same a = some_same (sym h.accused ∙ a)

pub narrows : BuggyIsLeft → Narrowing
narrows law p input budget r q calls tree answers went_wrong call o h =
    let forest = forest_of p input budget r q in
    let left = law calls answers call (truth r forest call o calls tree answers went_wrong h) tree.tree h.accused
    (agrees r forest call o calls tree answers went_wrong h) in (
      left.0,
      left.1,
      buggy r forest call o calls tree answers went_wrong h left.0 left.1 left.2
          (has_wrong r forest call o calls tree answers went_wrong h left.0 left.1 left.2),
    )
