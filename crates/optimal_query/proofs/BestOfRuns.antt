-- The best of one run, and of one run after another.
use Rattle.std.proofs.Common.{◌+◌, ◌-◌, ◌<◌, ◌∙◌, ◌≡◌, ◌≢◌, ◌≤◌, ◌⊎◌, ℕ, All, Bool, List, None, Option, Some, ap, arith, cond, drop, false, inl, inr, length}
use Rattle.std.proofs.Common.{length-drop, max, nat_lt, refl, slice_index, subst, sym, take, true}
use Rattle.std.proofs.lemmas.{Bool.cases_eq, Bool.cases_order, Bool.ltb-false, Bool.ltb-true, List.get_or-drop, List.get_or-take, List.length-take-le}
use Rattle.weight_lanes.specs.{Places.IsSet, Places.IsWeightlessParent, Places.LeavesFewer, Places.left_at, declared.choice.Choice.Choice}
use Rattle.optimal_query.specs.Runs.{Field, IsBelowWeightless, IsBestAmong, IsBestFrom, IsField, LeavesNoMore, MayBeAsked, better_of}

pub cases_lt : (k b : ℕ) → (k < b) ⊎ (b ≤ k)
cases_lt k b = elim (cases_order k b) [
  | inl same ↦ inr (omega arith)
  | inr (inl less) ↦ inl less
  | inr (inr more) ↦ inr (omega arith)
]

later_wins : (P : ℕ → Type 0) (v : ℕ → ℕ) (a b c : ℕ) (x y : Choice) → IsBestFrom P v a b x → IsBestFrom P v b c y → y.left < x.left
    → IsBestFrom P v a c y
later_wins P v a b c x y bx by less = record {
  from_here = omega (arith, bx.from_here, bx.inside, by.from_here);
  inside = by.inside;
  holds = by.holds;
  left_is = by.left_is;
  least = λ k h i p. elim (cases_lt k b) [
    | inl before ↦ let l : x.left ≤ v k = bx.least k h before p in omega arith
    | inr after ↦ by.least k after i p
  ];
  first = λ k h i p. elim (cases_lt k b) [
    | inl before ↦ let l : x.left ≤ v k = bx.least k h before p in omega arith
    | inr after ↦ by.first k after i p
  ];
}

first_stays : (P : ℕ → Type 0) (v : ℕ → ℕ) (a b c : ℕ) (x y : Choice) → b ≤ c → IsBestFrom P v a b x → IsBestFrom P v b c y → x.left ≤ y.left
    → IsBestFrom P v a c x
first_stays P v a b c x y order bx by less = record {
  from_here = bx.from_here;
  inside = omega (arith, bx.inside);
  holds = bx.holds;
  left_is = bx.left_is;
  least = λ k h i p. elim (cases_lt k b) [
    | inl before ↦ bx.least k h before p
    | inr after ↦ let l : y.left ≤ v k = by.least k after i p in omega arith
  ];
  first = bx.first;
}

chosen : (P : ℕ → Type 0) (v : ℕ → ℕ) (a b c : ℕ) (x y : Choice) → b ≤ c → IsBestFrom P v a b x → IsBestFrom P v b c y
    → (less : Bool) → nat_lt y.left x.left ≡ less → IsBestAmong P v a c (cond less (Some y) (Some x))
chosen P v a b c x y order bx by true is = later_wins P v a b c x y bx by (ltb-true y.left x.left is)
chosen P v a b c x y order bx by false is = first_stays P v a b c x y order bx by (ltb-false y.left x.left is)

-- the calls from one number to another, and those after them
pub joined : (P : ℕ → Type 0) (v : ℕ → ℕ) (a b c : ℕ) (x y : Option Choice) → a ≤ b → b ≤ c → IsBestAmong P v a b x → IsBestAmong P v b c y
    → IsBestAmong P v a c (better_of x y)
joined P v a b c None None first order none_x none_y = λ k h i p. elim (cases_lt k b) [
  | inl before ↦ none_x k h before p
  | inr after ↦ none_y k after i p
]
joined P v a b c None (Some y) first order none_x by = record {
  from_here = omega (arith, by.from_here);
  inside = by.inside;
  holds = by.holds;
  left_is = by.left_is;
  least = λ k h i p. elim (cases_lt k b) [
    | inl before ↦ absurd (none_x k h before p)
    | inr after ↦ by.least k after i p
  ];
  first = λ k h i p. elim (cases_lt k b) [
    | inl before ↦ absurd (none_x k h before p)
    | inr after ↦ by.first k after i p
  ];
}
joined P v a b c (Some x) None first order bx none_y = record {
  from_here = bx.from_here;
  inside = omega (arith, bx.inside);
  holds = bx.holds;
  left_is = bx.left_is;
  least = λ k h i p. elim (cases_lt k b) [
    | inl before ↦ bx.least k h before p
    | inr after ↦ absurd (none_y k after i p)
  ];
  first = bx.first;
}
joined P v a b c (Some x) (Some y) first order bx by = chosen P v a b c x y order bx by (nat_lt y.left x.left) refl

-- properties that agree on these calls have the same best
pub alike : (P Q : ℕ → Type 0) (v : ℕ → ℕ) (a b : ℕ) (x : Option Choice) → ((k : ℕ) → a ≤ k → k < b → P k → Q k)
    → ((k : ℕ) → a ≤ k → k < b → Q k → P k) → IsBestAmong P v a b x → IsBestAmong Q v a b x
alike P Q v a b None to from none = λ k h i q. none k h i (from k h i q)
alike P Q v a b (Some x) to from bx = record {
  from_here = bx.from_here;
  inside = bx.inside;
  holds = to x.at bx.from_here bx.inside bx.holds;
  left_is = bx.left_is;
  least = λ k h i q. bx.least k h i (from k h i q);
  first = λ k h i q. let inside : x.at < b = bx.inside in bx.first k h i (from k h (omega arith) q);
}

kept : (P : ℕ → Type 0) (v : ℕ → ℕ) (a b : ℕ) (x : Option Choice) → IsBestAmong P v a b (better_of x None) → IsBestAmong P v a b x
kept P v a b None all = all
kept P v a b (Some x) all = all

-- the calls up to `from` were looked at, and no subtree there that weighs nothing goes on
pub record Seen (field : Field) (from : ℕ) (best : Option Choice) : Type 0 where
  pub start : field.start ≤ from
  pub end : from ≤ field.end
  pub ended : (above : ℕ) → field.start ≤ above → above < from → slice_index field.weights above ≡ 0 → slice_index field.last above < from
  pub best_is : IsBestAmong (MayBeAsked field) (left_at field.weights field.total) field.start from best

pub seen_none : (field : Field) → IsField field → Seen field field.start None
seen_none field is = record {
  start = omega arith;
  end = is.order;
  ended = λ above h i zero. absurd (let l : ⊥ = omega arith in l);
  best_is = λ k h i p. let l : ⊥ = omega arith in l;
}

-- a run of calls, of which none that weighs nothing has calls below it
pub record IsRun (field : Field) (from to : ℕ) : Type 0 where
  pub order : from ≤ to
  pub inside : to ≤ field.end
  pub run : (call : ℕ) → from ≤ call → call < to → slice_index field.weights call ≡ 0 → slice_index field.last call ≡ call

-- in a run what nothing is said of is open
open_in_run : (field : Field) (from to call : ℕ) (best : Option Choice) → IsField field → Seen field from best → IsRun field from to → from ≤ call
    → call < to → slice_index field.askable call ≢ 0 → MayBeAsked field call
open_in_run field from to call best is seen run h i unsaid = record {
  unsaid = unsaid;
  free = λ above s below zero. elim (cases_lt above from) [
    | inl before ↦ let l : slice_index field.last above < from = seen.ended above s before zero in omega arith
    | inr after ↦ elim (cases_lt above call) [
      | inl earlier ↦ let itself : slice_index field.last above ≡ above = run.run above after (omega arith) zero in omega arith
      | inr here ↦
          let same : above ≡ call = omega arith in
          let weighs : 1 ≤ slice_index field.weights above =
          is.weigh above s (omega (arith, run.inside)) (λ e. unsaid (ap (slice_index field.askable) (sym same) ∙ e)) in
          absurd (let l : ⊥ = omega arith in l)
    ]
  ];
}

pub run_at_least_one : (field : Field) (from to : ℕ) (best : Option Choice) → IsField field → Seen field from best → IsRun field from to
    → (call : ℕ) → from ≤ call → call < to → slice_index field.askable call ≢ 0 → 1 ≤ slice_index field.weights call
run_at_least_one field from to best is seen run call h i unsaid =
    let start : field.start ≤ from = seen.start in
    let end : to ≤ field.end = run.inside in
    is.weigh call (omega arith) (omega arith) unsaid

pub run_at_most_total : (field : Field) (from to : ℕ) (best : Option Choice) → IsField field → Seen field from best → IsRun field from to
    → (call : ℕ) → from ≤ call → call < to → slice_index field.askable call ≢ 0 → slice_index field.weights call ≤ field.total
run_at_most_total field from to best is seen run call h i unsaid =
    let start : field.start ≤ from = seen.start in
    let end : to ≤ field.end = run.inside in
    is.few call (omega arith) (omega arith) (open_in_run field from to call best is seen run h i unsaid)

-- with one run more
pub seen_run : (field : Field) (from to : ℕ) (best next : Option Choice) → IsField field → Seen field from best → IsRun field from to
    → IsBestAmong (λ call. slice_index field.askable call ≢ 0) (left_at field.weights field.total) from to next
    → Seen field to (better_of best next)
seen_run field from to best next is seen run among =
    let start : field.start ≤ from = seen.start in
    let order : from ≤ to = run.order in
    record {
      start = omega arith;
      end = run.inside;
      ended = λ above s h zero. elim (cases_lt above from) [
        | inl before ↦ let l : slice_index field.last above < from = seen.ended above s before zero in omega arith
        | inr after ↦ let itself : slice_index field.last above ≡ above = run.run above after h zero in omega arith
      ];
      best_is =
          joined (MayBeAsked field) (left_at field.weights field.total) field.start from to best next start order seen.best_is
          (alike (λ call. slice_index field.askable call ≢ 0) (MayBeAsked field) (left_at field.weights field.total) from to next
          (λ k h i unsaid. open_in_run field from to k best is seen run h i unsaid) (λ k h i free. free.unsaid) among);
    }

-- the subtree of a call that weighs nothing is left out
pub seen_past : (field : Field) (from : ℕ) (best : Option Choice) → IsField field → Seen field from best → from < field.end
    → slice_index field.weights from ≡ 0 → Seen field (slice_index field.last from + 1) best
seen_past field from best is seen inside zero =
    let start : field.start ≤ from = seen.start in
    let end : field.end ≤ length field.last = is.inside in
    let itself : from ≤ slice_index field.last from = is.from_itself from (omega arith) in
    let within : slice_index field.last from < field.end = is.within from start inside in
    record {
      start = omega arith;
      end = omega arith;
      ended = λ above s h nothing. elim (cases_lt above from) [
        | inl before ↦ let l : slice_index field.last above < from = seen.ended above s before nothing in omega arith
        | inr after ↦ let l : slice_index field.last above ≤ slice_index field.last from = is.nested from above after (omega arith) in omega arith
      ];
      best_is =
          let none : IsBestAmong (MayBeAsked field) (left_at field.weights field.total) from (slice_index field.last from + 1) None =
          λ k h i free. let l : slice_index field.last from < k = free.free from start h zero in omega arith in
          let all = joined (MayBeAsked field) (left_at field.weights field.total) field.start from (slice_index field.last from + 1) best None
          start (omega arith) seen.best_is none in
          kept (MayBeAsked field) (left_at field.weights field.total) field.start (slice_index field.last from + 1) best all;
    }

-- a call alone is a run, if it weighs something
run_of_one : (field : Field) (from : ℕ) → from < field.end → slice_index field.weights from ≢ 0 → IsRun field from (from + 1)
run_of_one field from inside weighs = record {
  order = omega arith;
  inside = omega arith;
  run = λ call h i zero. let same : from ≡ call = omega arith in absurd (weighs (ap (slice_index field.weights) same ∙ zero));
}

-- a call at which the search stands, and that nothing is said of, is a run alone
pub run_of_unsaid : (field : Field) (from : ℕ) (best : Option Choice) → IsField field → Seen field from best → from < field.end
    → slice_index field.askable from ≢ 0 → IsRun field from (from + 1)
run_of_unsaid field from best is seen inside unsaid =
    run_of_one field from inside (λ zero. let weighs = is.weigh from seen.start inside unsaid in let l : ⊥ = omega arith in l)

-- one call is the best of itself alone
pub best_alone : (weights askable : List ℕ) (total call left : ℕ) → slice_index askable call ≢ 0 → left ≡ left_at weights total call
    → IsBestFrom (λ other. slice_index askable other ≢ 0) (left_at weights total) call (call + 1) (record { left = left; at = call })
best_alone weights askable total call left unsaid is = record {
  from_here = omega arith;
  inside = omega arith;
  holds = unsaid;
  left_is = is;
  least = λ k h i p. let same : call ≡ k = omega arith in omega (arith, is, ap (left_at weights total) same);
  first = λ k h i p. absurd (let l : ⊥ = omega arith in l);
}

pub none_alone : (askable : List ℕ) (call : ℕ) → slice_index askable call ≡ 0 → (k : ℕ) → call ≤ k → k < call + 1 → ¬ (slice_index askable k ≢ 0)
none_alone askable call zero k h i unsaid = let same : k ≡ call = omega arith in unsaid (ap (slice_index askable) same ∙ zero)

-- where no call is found from `from` on that weighs nothing and has calls below it
pub none_below : (weights last : List ℕ) (end call : ℕ) → call < end → end ≤ length weights
    → ¬ IsWeightlessParent (take end weights) (take end last) call → slice_index weights call ≡ 0 → slice_index last call ≡ call
none_below weights last end call before inside absent zero = elim (cases_eq (slice_index last call) call) [
  | inl same ↦ same
  | inr differs ↦ absurd (absent (record {
    inside = omega (arith, length-take-le end weights inside);
    weightless = get_or-take end weights call 0 before ∙ zero;
    parent = λ e. differs (sym (get_or-take end last call 0 before) ∙ e);
  }))
]

-- a column from one place to another
abbrev pub part_of : List ℕ → ℕ → ℕ → List ℕ
part_of column from to = take (to - from) (drop from column)

pub part_long : (column : List ℕ) (from to : ℕ) → to ≤ length column → length (part_of column from to) ≡ to - from
part_long column from to inside =
    let long : length (drop from column) ≡ length column - from = length-drop from column in
    length-take-le (to - from) (drop from column) (omega arith)

pub part_at : (column : List ℕ) (from to place : ℕ) → place < to - from → slice_index (part_of column from to) place ≡ slice_index column (from + place)
part_at column from to place inside = get_or-take (to - from) (drop from column) place 0 inside ∙ get_or-drop from column place 0

-- columns between two places
pub record Between (weights askable : List ℕ) (from to : ℕ) : Type 0 where
  pub order : from ≤ to
  pub inside : to ≤ length weights
  pub same_length : length askable ≡ length weights

set_at : (weights askable : List ℕ) (from to call : ℕ) → Between weights askable from to → from ≤ call → call < to → slice_index askable call ≢ 0
    → IsSet (part_of askable from to) (call - from)
set_at weights askable from to call between h i unsaid =
    let same : from + (call - from) ≡ call = omega arith in
    let at = part_at askable from to (call - from) (omega arith) ∙ ap (slice_index askable) same in
    record {
      inside = omega (arith, part_long askable from to (omega (arith, between.inside, between.same_length)));
      nonzero = λ zero. unsaid (sym at ∙ zero);
    }

left_in_part : (weights : List ℕ) (total from to call : ℕ) → from ≤ call → call < to
    → left_at (part_of weights from to) total (call - from) ≡ left_at weights total call
left_in_part weights total from to call h i =
    let same : from + (call - from) ≡ call = omega arith in
    ap (λ w. max (w - 1) (total - w)) (part_at weights from to (call - from) (omega arith) ∙ ap (slice_index weights) same)

-- what `best` says of a part
pub record IsBestIn (weights askable : List ℕ) (total from to : ℕ) (choice : Choice) : Type 0 where
  pub at_askable : IsSet (part_of askable from to) choice.at
  pub left_is : choice.left ≡ left_at (part_of weights from to) total choice.at
  pub least : (place : ℕ) → IsSet (part_of askable from to) place → choice.left ≤ left_at (part_of weights from to) total place
  pub first : (place : ℕ) → place < choice.at → IsSet (part_of askable from to) place → left_at (part_of weights from to) total place ≢ choice.left

pub best_in_part : (weights askable : List ℕ) (total from to : ℕ) (choice : Choice) → Between weights askable from to
    → IsBestIn weights askable total from to choice
    → IsBestFrom (λ call. slice_index askable call ≢ 0) (left_at weights total) from to (record { left = choice.left; at = from + choice.at })
best_in_part weights askable total from to choice between best =
    let set = best.at_askable in
    let inside : choice.at < to - from =
    omega (arith, set.inside, part_long askable from to (omega (arith, between.inside, between.same_length))) in
    let same : from + choice.at - from ≡ choice.at = omega arith in
    record {
      from_here = omega arith;
      inside = omega arith;
      holds = λ zero. set.nonzero (part_at askable from to choice.at inside ∙ zero);
      left_is = best.left_is ∙ ap (λ w. max (w - 1) (total - w)) (part_at weights from to choice.at inside);
      least = λ k h i unsaid. let l = best.least (k - from) (set_at weights askable from to k between h i unsaid) in
          omega (arith, l, left_in_part weights total from to k h i);
      first = λ k h i unsaid.
          let within : k < to = omega arith in
          let there = set_at weights askable from to k between h within unsaid in
          let l = best.least (k - from) there in
          let n = best.first (k - from) (omega arith) there in
          omega (arith, l, n, left_in_part weights total from to k h within);
    }

pub none_in_part : (weights askable : List ℕ) (from to : ℕ) → Between weights askable from to → All (λ flag. flag ≡ 0) (part_of askable from to)
    → (call : ℕ) → from ≤ call → call < to → slice_index askable call ≢ 0 → ⊥
none_in_part weights askable from to between none call h i unsaid =
    let set = set_at weights askable from to call between h i unsaid in
    set.nonzero (none (call - from) 0 set.inside)

-- what is the best stays so, where the calls after it leave no fewer
stays : (P : ℕ → Type 0) (v : ℕ → ℕ) (a b c : ℕ) (best : Option Choice) → b ≤ c → IsBestAmong P v a b best
    → ((call : ℕ) → b ≤ call → call < c → P call → LeavesNoMore best (v call)) → IsBestAmong P v a c best
stays P v a b c None order none worse = λ k h i p. elim (cases_lt k b) [
  | inl before ↦ none k h before p
  | inr after ↦ worse k after i p
]
stays P v a b c (Some x) order bx worse = record {
  from_here = bx.from_here;
  inside = omega (arith, bx.inside);
  holds = bx.holds;
  left_is = bx.left_is;
  least = λ k h i p. elim (cases_lt k b) [
    | inl before ↦ bx.least k h before p
    | inr after ↦ worse k after i p
  ];
  first = bx.first;
}

-- the calls from `from` up to `to` leave no fewer than the best so far, and those from there up to `past` stand in subtrees
-- that weigh nothing
pub record Passed (field : Field) (from to past : ℕ) (best : Option Choice) : Type 0 where
  pub order : from ≤ to
  pub inside : to ≤ field.end
  pub worse : (call : ℕ) → from ≤ call → call < to → slice_index field.askable call ≢ 0 → LeavesNoMore best (left_at field.weights field.total call)
  pub at_least : to ≤ past
  pub beyond : (call : ℕ) → from ≤ call → call < to → slice_index field.weights call ≡ 0 → slice_index field.last call < past
  pub hidden : (call : ℕ) → to ≤ call → call < past → IsBelowWeightless field.last field.weights from to call

-- such a call may not be asked about
hidden_is_not_asked : (field : Field) (from to past call : ℕ) (best : Option Choice) → Seen field from best → Passed field from to past best
    → to ≤ call → call < past → ¬ MayBeAsked field call
hidden_is_not_asked field from to past call best seen passed h i free =
    let under = passed.hidden call h i in
    let start : field.start ≤ from = seen.start in
    let here : from ≤ under.above = under.from_here in
    let before : under.above < to = under.inside in
    let below : call ≤ slice_index field.last under.above = under.reaches in
    let l : slice_index field.last under.above < call = free.free under.above (omega arith) (omega arith) under.weightless in
    omega arith

past_inside : (field : Field) (from to past : ℕ) (best : Option Choice) → IsField field → Seen field from best → Passed field from to past best
    → past ≤ field.end
past_inside field from to past best is seen passed = elim (cases_lt to past) [
  | inl less ↦
      let under = passed.hidden (past - 1) (omega arith) (omega arith) in
      let start : field.start ≤ from = seen.start in
      let here : from ≤ under.above = under.from_here in
      let before : under.above < to = under.inside in
      let end : to ≤ field.end = passed.inside in
      let below : past - 1 ≤ slice_index field.last under.above = under.reaches in
      let l : slice_index field.last under.above < field.end = is.within under.above (omega arith) (omega arith) in
      omega arith
  | inr not_less ↦ let end : to ≤ field.end = passed.inside in omega arith
]

ended_past : (field : Field) (from to past : ℕ) (best : Option Choice) → IsField field → Seen field from best → Passed field from to past best
    → (above : ℕ) → field.start ≤ above → above < past → slice_index field.weights above ≡ 0 → slice_index field.last above < past
ended_past field from to past best is seen passed above s h zero =
    let order : from ≤ to = passed.order in
    let least : to ≤ past = passed.at_least in
    elim (cases_lt above from) [
      | inl before ↦ let l : slice_index field.last above < from = seen.ended above s before zero in omega arith
      | inr after ↦ elim (cases_lt above to) [
        | inl between ↦ passed.beyond above after between zero
        | inr late ↦
            let under = passed.hidden above late h in
            let before : under.above < to = under.inside in
            let l : slice_index field.last above ≤ slice_index field.last under.above = is.nested under.above above (omega arith) under.reaches in
            let k : slice_index field.last under.above < past = passed.beyond under.above under.from_here before under.weightless in
            omega arith
      ]
    ]

-- past calls that are no better
pub seen_past_worse : (field : Field) (from to past : ℕ) (best : Option Choice) → IsField field → Seen field from best
    → Passed field from to past best → Seen field past best
seen_past_worse field from to past best is seen passed =
    let start : field.start ≤ from = seen.start in
    let order : from ≤ to = passed.order in
    let least : to ≤ past = passed.at_least in
    record {
      start = omega arith;
      end = past_inside field from to past best is seen passed;
      ended = ended_past field from to past best is seen passed;
      best_is = stays (MayBeAsked field) (left_at field.weights field.total) field.start from past best (omega arith) seen.best_is
          (λ call h i free. elim (cases_lt call to) [
            | inl before ↦ passed.worse call h before free.unsaid
            | inr late ↦ absurd (hidden_is_not_asked field from to past call best seen passed late i free)
          ]);
    }

-- where no call of the columns up to `end` leaves fewer than a bound
pub no_fewer : (weights askable : List ℕ) (total bound end call : ℕ) → call < end → end ≤ length weights
    → ¬ LeavesFewer (take end weights) (take end askable) total bound call → slice_index askable call ≢ 0 → bound ≤ left_at weights total call
no_fewer weights askable total bound end call before inside not_fewer unsaid = elim (cases_lt (left_at weights total call) bound) [
  | inl less ↦ absurd (not_fewer (record {
    inside = omega (arith, length-take-le end weights inside);
    nonzero = λ zero. unsaid (sym (get_or-take end askable call 0 before) ∙ zero);
    fewer = subst (λ w. max (w - 1) (total - w) < bound) (sym (get_or-take end weights call 0 before)) less;
  }))
  | inr not_less ↦ not_less
]

-- with one call more
pub hidden_more : (last weights : List ℕ) (from to call : ℕ) → IsBelowWeightless last weights from to call
    → IsBelowWeightless last weights from (to + 1) call
hidden_more last weights from to call under = record {
  above = under.above;
  from_here = under.from_here;
  inside = omega (arith, under.inside);
  weightless = under.weightless;
  reaches = under.reaches;
}
