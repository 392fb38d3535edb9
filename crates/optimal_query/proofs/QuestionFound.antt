-- The best of the calls that may be asked about is the question.
use Rattle.std.proofs.Common.{◌&&◌, ◌-◌, ◌<◌, ◌∙◌, ◌∷◌, ◌≡◌, ◌≤◌, [], ℕ, All, Bool, List, None, Option, Some, ap, arith, false, find, get_or, length, max}
use Rattle.std.{proofs.Common.nat_le, proofs.Common.refl, proofs.Common.slice_index, proofs.Common.true, specs.List.list_all}
use Rattle.std.proofs.lemmas.Bool.{and_from, and_left, and_right, le-leb, lt-leb}
use Rattle.std.proofs.lemmas.List.{Elements.All-head, Elements.All-tail, Elements.Contains-get_or, Folds.list_all_at}
use Rattle.call_tree.specs.{Clear.is_unjudged, declared.records.Mark.Mark}
use Rattle.weight_lanes.specs.{Places.left_at, declared.choice.Choice.Choice}
use Rattle.answer_book.specs.Numbers.{numbers_below}
use Rattle.optimal_query.proofs.PassingNumbers.{IsFirstFrom, find_filter, first_from, none_filtered}
use Rattle.optimal_query.proofs.Searched.{is_marked, passes_of, suspect_contains, suspects_are}
use Rattle.optimal_query.specs.{Region.suspects_of, Runs.Field, Runs.IsBestAmong, Runs.IsBestFrom, Runs.MayBeAsked}
use Rattle.optimal_query.specs.Question.{leaves_least, left_of, question_of, weight_of}

-- the field is that of the suspects: those of its calls that are open, with their weights
pub record Describes (field : Field) (marks : List Mark) (accused : Option ℕ) : Type 0 where
  pub suspected : (call : ℕ) → field.start ≤ call → call < field.end → MayBeAsked field call
      → is_marked is_unjudged field.last marks accused call ≡ true
  pub here : (call : ℕ) → call < length field.last → is_marked is_unjudged field.last marks accused call ≡ true
      → (field.start ≤ call) × (call < field.end)
  pub opened : (call : ℕ) → call < length field.last → is_marked is_unjudged field.last marks accused call ≡ true → MayBeAsked field call
  pub inside : field.end ≤ length field.last
  pub weight_is : (call : ℕ) → call < length field.last → is_marked is_unjudged field.last marks accused call ≡ true
      → slice_index field.weights call ≡ weight_of field.last (suspects_of field.last marks accused) call
  pub total_is : field.total ≡ length (suspects_of field.last marks accused)

-- a suspect's value is its measure
value_is : (field : Field) (marks : List Mark) (accused : Option ℕ) → Describes field marks accused → (call : ℕ) → call < length field.last
    → is_marked is_unjudged field.last marks accused call ≡ true
    → left_at field.weights field.total call ≡ left_of field.last (suspects_of field.last marks accused) call
value_is field marks accused d call inside p =
    ap (λ w. max (w - 1) (field.total - w)) (d.weight_is call inside p)
    ∙ ap (λ t. max (weight_of field.last (suspects_of field.last marks accused) call - 1)
    (t - weight_of field.last (suspects_of field.last marks accused) call))
    d.total_is

all_pass : (p : ℕ → Bool) (xs : List ℕ) → All (λ x. p x ≡ true) xs → list_all p xs ≡ true
all_pass p [] all = refl
all_pass p (x ∷ xs) all = ap (λ b. b && list_all p xs) (All-head (λ y. p y ≡ true) x xs all) ∙ all_pass p xs (All-tail (λ y. p y ≡ true) x xs all)

-- the question with its numbers
pub record IsQuestion (field : Field) (marks : List Mark) (accused : Option ℕ) (choice : Choice) : Type 0 where
  pub question : question_of field.last (suspects_of field.last marks accused) ≡ Some choice.at
  pub a_call : choice.at < length field.last
  pub left_is : choice.left ≡ left_of field.last (suspects_of field.last marks accused) choice.at
  pub weight_is : slice_index field.weights choice.at ≡ weight_of field.last (suspects_of field.last marks accused) choice.at

least_is : (field : Field) (marks : List Mark) (accused : Option ℕ) (choice : Choice) → Describes field marks accused
    → IsBestFrom (MayBeAsked field) (left_at field.weights field.total) field.start field.end choice
    → leaves_least field.last (suspects_of field.last marks accused) choice.at ≡ true
least_is field marks accused choice d best =
    let last = field.last in
    let suspects = suspects_of last marks accused in
    let p = is_marked is_unjudged last marks accused in
    let at : choice.at < length last = omega (arith, best.inside, d.inside) in
    let itself = value_is field marks accused d choice.at at (d.suspected choice.at best.from_here best.inside best.holds) in
    all_pass (λ other. nat_le (left_of last suspects choice.at) (left_of last suspects other)) suspects
    (λ k e inside.
    let other = get_or suspects k e in
    let there = passes_of last marks accused other (Contains-get_or suspects k e inside) in
    let here = d.here other there.0 there.1 in
    let less : choice.left ≤ left_at field.weights field.total other = best.least other here.0 here.1 (d.opened other there.0 there.1) in
    le-leb (left_of last suspects choice.at) (left_of last suspects other)
    (omega (arith, best.left_is, itself, value_is field marks accused d other there.0 there.1)))

-- a suspect before it leaves more
not_least : (field : Field) (marks : List Mark) (accused : Option ℕ) (choice : Choice) → Describes field marks accused
    → IsBestFrom (MayBeAsked field) (left_at field.weights field.total) field.start field.end choice
    → (other : ℕ) → other < choice.at → is_marked is_unjudged field.last marks accused other ≡ true
    → leaves_least field.last (suspects_of field.last marks accused) other ≡ false
not_least field marks accused choice d best other before p =
    let last = field.last in
    let suspects = suspects_of last marks accused in
    let at : choice.at < length last = omega (arith, best.inside, d.inside) in
    let suspected = d.suspected choice.at best.from_here best.inside best.holds in
    let itself = value_is field marks accused d choice.at at suspected in
    let here = d.here other (omega arith) p in
    let more : choice.left < left_at field.weights field.total other = best.first other here.0 before (d.opened other (omega arith) p) in
    let among = suspect_contains last marks accused choice.at at suspected in
    list_all_at (λ third. nat_le (left_of last suspects other) (left_of last suspects third)) suspects among.0 choice.at among.1
    (ap (λ third. nat_le (left_of last suspects other) (left_of last suspects third)) among.2
    ∙ lt-leb (left_of last suspects other) (left_of last suspects choice.at)
    (omega (arith, best.left_is, itself, value_is field marks accused d other (omega arith) p)))

earlier_fails : (field : Field) (marks : List Mark) (accused : Option ℕ) (choice : Choice) → Describes field marks accused
    → IsBestFrom (MayBeAsked field) (left_at field.weights field.total) field.start field.end choice
    → (other : ℕ) → other < choice.at → (b : Bool) → is_marked is_unjudged field.last marks accused other ≡ b
    → (is_marked is_unjudged field.last marks accused other && leaves_least field.last (suspects_of field.last marks accused) other) ≡ false
earlier_fails field marks accused choice d best other before true p =
    and_right (is_marked is_unjudged field.last marks accused other) (leaves_least field.last (suspects_of field.last marks accused) other)
    (not_least field marks accused choice d best other before p)
earlier_fails field marks accused choice d best other before false p =
    and_left (is_marked is_unjudged field.last marks accused other) (leaves_least field.last (suspects_of field.last marks accused) other) p

asks_first : (last : List ℕ) (marks : List Mark) (accused : Option ℕ) (call : ℕ)
    → IsFirstFrom (λ k. is_marked is_unjudged last marks accused k && leaves_least last (suspects_of last marks accused) k) 0 (length last) call
    → question_of last (suspects_of last marks accused) ≡ Some call
unfolding question_of
asks_first last marks accused call is =
    let p = is_marked is_unjudged last marks accused in
    let test = leaves_least last (suspects_of last marks accused) in
    ap (find test) (suspects_are last marks accused) ∙ find_filter test p (numbers_below (length last))
    ∙ first_from (λ k. p k && test k) 0 (length last) call is

pub question_is_best : (field : Field) (marks : List Mark) (accused : Option ℕ) (choice : Choice) → Describes field marks accused
    → IsBestAmong (MayBeAsked field) (left_at field.weights field.total) field.start field.end (Some choice)
    → IsQuestion field marks accused choice
question_is_best field marks accused choice d best =
    let last = field.last in
    let p = is_marked is_unjudged last marks accused in
    let test = leaves_least last (suspects_of last marks accused) in
    let at : choice.at < length last = omega (arith, best.inside, d.inside) in
    let suspected = d.suspected choice.at best.from_here best.inside best.holds in
    record {
      question = asks_first last marks accused choice.at (record {
        from_here = omega arith;
        inside = omega arith;
        passes = and_from (p choice.at) (test choice.at) suspected (least_is field marks accused choice d best);
        none_earlier = λ other h before. earlier_fails field marks accused choice d best other before (p other) refl;
      });
      a_call = at;
      left_is = best.left_is ∙ value_is field marks accused d choice.at at suspected;
      weight_is = d.weight_is choice.at at suspected;
    }

no_suspects : (last suspects : List ℕ) → suspects ≡ [] → question_of last suspects ≡ None
unfolding question_of
no_suspects last [] h = refl
no_suspects last (x ∷ xs) h = cc

none_passes_at : (field : Field) (marks : List Mark) (accused : Option ℕ) → Describes field marks accused
    → IsBestAmong (MayBeAsked field) (left_at field.weights field.total) field.start field.end None
    → (call : ℕ) → call < length field.last → (b : Bool) → is_marked is_unjudged field.last marks accused call ≡ b
    → is_marked is_unjudged field.last marks accused call ≡ false
none_passes_at field marks accused d none call inside true p =
    let here = d.here call inside p in
    absurd (none call here.0 here.1 (d.opened call inside p))
none_passes_at field marks accused d none call inside false p = p

-- where none is open there is no question
pub no_question_left : (field : Field) (marks : List Mark) (accused : Option ℕ) → Describes field marks accused
    → IsBestAmong (MayBeAsked field) (left_at field.weights field.total) field.start field.end None
    → question_of field.last (suspects_of field.last marks accused) ≡ None
no_question_left field marks accused d none =
    let p = is_marked is_unjudged field.last marks accused in
    no_suspects field.last (suspects_of field.last marks accused)
    (suspects_are field.last marks accused
    ∙ none_filtered p (length field.last) (λ call inside. none_passes_at field marks accused d none call inside (p call) refl))
