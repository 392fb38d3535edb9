-- Each list of marks is that of some answers, where each call has a routine of its own: so a wrong output narrows the fault whichever the marks are.
use Rattle.std.proofs.Common.{if◌then◌else◌, ◌++◌, ◌+◌, ◌<◌, ◌==◌, ◌||◌, ◌∙◌, ◌∷◌, ◌≡◌, ◌⊎◌, [], ℕ, Bool, Contains, List, None, Option, Some, ap, append-nil}
use Rattle.std.proofs.Common.{arith, false, length, refl, slice_index, subst, suc, sym, true, zero}
use Rattle.std.proofs.lemmas.{Bool.Decides.nat_tests, Option.get_or_from_slice_get, Option.slice_get_within}
use Rattle.std.proofs.lemmas.List.{ext_get_or, Elements.filter_map-append, Folds.list_any-append}
use Rattle.std.proofs.lemmas.List.FromFn.{get_or-map-range_with_len, get_or-range_with_len, length-map-range_with_len, length-range_with_len}
use Rattle.std.specs.List.{cons_option, filter_map, list_any, slice_get}
use Rattle.core_program.proofs.{CallsOfRunsNest.forest_of, OutcomesCompose.none_some, OutcomesCompose.some_same}
use Rattle.call_tree.specs.{Clear.is_clear, declared.records.Mark.Mark}
use Rattle.call_tree.specs.declared.records.Mark.TheVariants as marked
use Rattle.subtree_weights.specs.Searched.{mark_at}
use Rattle.answer_book.proofs.LastWhere.{last_where_same}
use Rattle.answer_book.specs.{Accused.accused_of, Accused.is_wrong, Numbers.last_of, Numbers.last_where, Numbers.numbers_below}
use Rattle.answer_book.specs.Marks.{is_trusted, judgement_on, mark_given, mark_of, marks_of, trusts}
use Rattle.answer_book.specs.declared.entries.Judgement.{Judgement, TheVariants.Right, TheVariants.Unknown, TheVariants.Wrong}
use Rattle.answer_book.specs.declared.entries.What.{What, TheVariants.Judged, TheVariants.Trusted}
use Rattle.optimal_query.specs.{Laws.CallTree, Region.doubts_of, Region.suspects_of}
use Rattle.output_slice.proofs.{AmongLists.get_at, WrongOutputsLead.output_of}
use Rattle.output_slice.specs.WrongOutputs.{Narrowing, NarrowingByMarks, accused_by}

-- ---- answers that give a call its mark

abbrev said : ℕ → Mark → List What
said k marked.Right = Judged k Right ∷ []
said k marked.Wrong = Judged k Wrong ∷ []
said k marked.Unknown = Judged k Unknown ∷ []
said k marked.Trusted = Trusted k ∷ []
said k marked.Unjudged = []

abbrev answers_from : ℕ → List Mark → List What
answers_from k [] = []
answers_from k (m ∷ ms) = said k m ++ answers_from (suc k) ms

abbrev judgement_by : Mark → Option Judgement
judgement_by marked.Right = Some Right
judgement_by marked.Wrong = Some Wrong
judgement_by marked.Unknown = Some Unknown
judgement_by m = None

abbrev trusted_by : Mark → Bool
trusted_by marked.Trusted = true
trusted_by m = false

self_eq : (n : ℕ) → (n == n) ≡ true
self_eq n = grind (arith, nat_tests)

-- ---- judgements

judged_here : (k : ℕ) (m : Mark) → filter_map (judgement_on k) (said k m) ≡ cons_option (judgement_by m) []
judged_here k marked.Right = ap (λ b. cons_option (if b then Some Right else None) []) (self_eq k)
judged_here k marked.Wrong = ap (λ b. cons_option (if b then Some Wrong else None) []) (self_eq k)
judged_here k marked.Unknown = ap (λ b. cons_option (if b then Some Unknown else None) []) (self_eq k)
judged_here k marked.Trusted = refl
judged_here k marked.Unjudged = refl

judged_there : (k s : ℕ) (m : Mark) → (s == k) ≡ false → filter_map (judgement_on k) (said s m) ≡ []
judged_there k s marked.Right e = ap (λ b. cons_option (if b then Some Right else None) []) e
judged_there k s marked.Wrong e = ap (λ b. cons_option (if b then Some Wrong else None) []) e
judged_there k s marked.Unknown e = ap (λ b. cons_option (if b then Some Unknown else None) []) e
judged_there k s marked.Trusted e = refl
judged_there k s marked.Unjudged e = refl

judged_first : (k s : ℕ) (m : Mark) (ms : List Mark) (l : List Judgement) → filter_map (judgement_on k) (said s m) ≡ l
    → filter_map (judgement_on k) (answers_from s (m ∷ ms)) ≡ l ++ filter_map (judgement_on k) (answers_from (suc s) ms)
judged_first k s m ms l e = filter_map-append (judgement_on k) (said s m) (answers_from (suc s) ms)
    ∙ ap (λ l. l ++ filter_map (judgement_on k) (answers_from (suc s) ms)) e

none_judged : (k s : ℕ) (ms : List Mark) → k < s → filter_map (judgement_on k) (answers_from s ms) ≡ []
none_judged k s [] h = refl
none_judged k s (m ∷ ms) h = judged_first k s m ms [] (judged_there k s m (let z : (s == k) ≡ false = grind (arith, nat_tests) in z))
    ∙ none_judged k (suc s) ms (omega (arith, h))

judged_at : (k s i : ℕ) (ms : List Mark) (m : Mark) → k ≡ s + i → slice_get ms i ≡ Some m
    → filter_map (judgement_on k) (answers_from s ms) ≡ cons_option (judgement_by m) []
judged_at k s i [] m e g = absurd (none_some g)
judged_at k s zero (x ∷ xs) m e g =
    let same : k ≡ s = omega (arith, e) in
    judged_first k s x xs (cons_option (judgement_by x) [])
    (subst (λ s. filter_map (judgement_on k) (said s x) ≡ cons_option (judgement_by x) []) same (judged_here k x))
    ∙ ap (λ l. cons_option (judgement_by x) [] ++ l) (none_judged k (suc s) xs (omega (arith, e)))
    ∙ append-nil (cons_option (judgement_by x) []) ∙ ap (λ m. cons_option (judgement_by m) []) (some_same g)
judged_at k s (suc i) (x ∷ xs) m e g =
    judged_first k s x xs [] (judged_there k s x (let z : (s == k) ≡ false = grind (arith, nat_tests) in z))
    ∙ judged_at k (suc s) i xs m (omega (arith, e)) g

last_alone : (o : Option Judgement) → last_of (cons_option o []) ≡ o
last_alone None = refl
last_alone (Some j) = refl

-- ---- trust

trusted_here : (k : ℕ) (m : Mark) → list_any (trusts k) (said k m) ≡ trusted_by m
trusted_here k marked.Right = refl
trusted_here k marked.Wrong = refl
trusted_here k marked.Unknown = refl
trusted_here k marked.Trusted = ap (λ b. b || false) (self_eq k)
trusted_here k marked.Unjudged = refl

trusted_there : (k s : ℕ) (m : Mark) → (s == k) ≡ false → list_any (trusts k) (said s m) ≡ false
trusted_there k s marked.Right e = refl
trusted_there k s marked.Wrong e = refl
trusted_there k s marked.Unknown e = refl
trusted_there k s marked.Trusted e = ap (λ b. b || false) e
trusted_there k s marked.Unjudged e = refl

trusted_first : (k s : ℕ) (m : Mark) (ms : List Mark) (b : Bool) → list_any (trusts k) (said s m) ≡ b
    → list_any (trusts k) (answers_from s (m ∷ ms)) ≡ (b || list_any (trusts k) (answers_from (suc s) ms))
trusted_first k s m ms b e = list_any-append (trusts k) (said s m) (answers_from (suc s) ms)
    ∙ ap (λ b. b || list_any (trusts k) (answers_from (suc s) ms)) e

none_trusted : (k s : ℕ) (ms : List Mark) → k < s → list_any (trusts k) (answers_from s ms) ≡ false
none_trusted k s [] h = refl
none_trusted k s (m ∷ ms) h = trusted_first k s m ms false (trusted_there k s m (let z : (s == k) ≡ false = grind (arith, nat_tests) in z))
    ∙ none_trusted k (suc s) ms (omega (arith, h))

trusted_at : (k s i : ℕ) (ms : List Mark) (m : Mark) → k ≡ s + i → slice_get ms i ≡ Some m → list_any (trusts k) (answers_from s ms) ≡ trusted_by m
trusted_at k s i [] m e g = absurd (none_some g)
trusted_at k s zero (x ∷ xs) m e g =
    let same : k ≡ s = omega (arith, e) in
    trusted_first k s x xs (trusted_by x) (subst (λ s. list_any (trusts k) (said s x) ≡ trusted_by x) same (trusted_here k x))
    ∙ ap (λ b. trusted_by x || b) (none_trusted k (suc s) xs (omega (arith, e))) ∙ or_none (trusted_by x) ∙ ap trusted_by (some_same g)
  where
    or_none : (b : Bool) → (b || false) ≡ b
    or_none true = refl
    or_none false = refl
trusted_at k s (suc i) (x ∷ xs) m e g =
    trusted_first k s x xs false (trusted_there k s x (let z : (s == k) ≡ false = grind (arith, nat_tests) in z))
    ∙ trusted_at k (suc s) i xs m (omega (arith, e)) g

-- ---- the marks by these answers

given_back : (m : Mark) → mark_given (judgement_by m) (trusted_by m) ≡ m
given_back marked.Right = refl
given_back marked.Wrong = refl
given_back marked.Unknown = refl
given_back marked.Trusted = refl
given_back marked.Unjudged = refl

module _ (marks : List Mark) where
  abbrev routine : List ℕ
  routine = numbers_below (length marks)

  abbrev answers : List What
  answers = answers_from 0 marks

  mark_is : (k : ℕ) (m : Mark) → slice_get marks k ≡ Some m → mark_of routine answers k ≡ m
  unfolding mark_of
  mark_is k m g =
      let at : k ≡ 0 + k = omega arith in
      let inside = slice_get_within marks k m g in
      ap (λ o. mark_given o (is_trusted answers (slice_index routine k))) (ap last_of (judged_at k 0 k marks m at g) ∙ last_alone (judgement_by m))
      ∙ ap (λ n. mark_given (judgement_by m) (is_trusted answers n)) (get_or-range_with_len 0 (length marks) k 0 inside ∙ sym at)
      ∙ ap (mark_given (judgement_by m)) (trusted_at k 0 k marks m at g) ∙ given_back m

  mark_there : (k : ℕ) → k < length marks → mark_of routine answers k ≡ mark_at marks k
  mark_there k l =
      let x = get_at marks k l in
      mark_is k x.0 x.1 ∙ sym (get_or_from_slice_get marks k x.0 marked.Unjudged x.1)

  many : length routine ≡ length marks
  many = length-range_with_len 0 (length marks)

  marks_are : marks_of routine answers ≡ marks
  marks_are =
      let size : length (marks_of routine answers) ≡ length marks = length-map-range_with_len (mark_of routine answers) 0 (length routine) ∙ many in
      ext_get_or marked.Unjudged (marks_of routine answers) marks size (λ k l.
      let inside : k < length marks = omega (arith, l, size) in
      let in_routine : k < length routine = omega (arith, inside, many) in
      get_or-map-range_with_len (mark_of routine answers) 0 (length routine) k k marked.Unjudged in_routine (omega arith) ∙ mark_there k inside)

  accused_is : accused_of routine answers ≡ accused_by marks
  unfolding accused_of
  accused_is = ap (λ n. last_where (λ call. is_wrong (mark_of routine answers call)) (numbers_below n)) many
      ∙ last_where_same (λ call. is_wrong (mark_of routine answers call)) (λ call. is_wrong (mark_at marks call)) (length marks)
      (λ k l. ap is_wrong (mark_there k l))

pub marks_narrow : Narrowing → NarrowingByMarks
marks_narrow law p input budget r q calls tree marks size went_wrong call o h =
    let forest = forest_of p input budget r q in
    let own : CallTree = record calls { routine = routine marks } in
    let found = law p input budget r q own (record {
      tree = record { numbered = tree.tree.numbered; of_routines = many marks ∙ size };
      parents = tree.parents;
    }) (answers marks) went_wrong call o (record {
      accused = accused_is marks ∙ h.accused;
      entry = h.entry;
      a_call = h.a_call;
      has = h.has;
      wrong = h.wrong;
      clear = λ other from s e.
          let out = output_of r forest call o (record { entry = h.entry; a_call = h.a_call; has = h.has }) other from s in
          let inside = slice_get_within r.events other out.entry out.a_call in
          let a_row = slice_get_within calls.parent other _ (tree.parents other inside) in
          let numbered = tree.tree.numbered.same_length in
          h.clear other from s (ap is_clear (sym (mark_there marks other (omega (arith, a_row, numbered, size)))) ∙ e);
    }) in (
      found.0,
      subst (λ a. (a ≡ Some found.0) ⊎ Contains (suspects_of calls.last marks a) found.0 ⊎ Contains (doubts_of calls.last marks a) found.0) (accused_is marks)
          (subst (λ ms. (accused_of (routine marks) (answers marks) ≡ Some found.0)
          ⊎ Contains (suspects_of calls.last ms (accused_of (routine marks) (answers marks))) found.0
          ⊎ Contains (doubts_of calls.last ms (accused_of (routine marks) (answers marks))) found.0) (marks_are marks) found.1),
      found.2,
    )
