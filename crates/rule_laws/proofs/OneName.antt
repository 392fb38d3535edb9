-- What the headings of a part leave at the name of one of its routines.
use Rattle.std.proofs.Common.{if◌then◌else◌, ◌&&◌, ◌++◌, ◌+◌, ◌<◌, ◌||◌, ◌∙◌, ◌∷◌, ◌≡◌, ◌⊎◌, [], ℕ, Bool, List, None, Option, Some, ap, arith, cond, false, inl}
use Rattle.std.proofs.Common.{inr, is_none, length, length-set, nat_eq, not, refl, subst, sym, true}
use Rattle.std.proofs.lemmas.{Bool.cases_eq, Bool.Decides.nat_tests, Option.none-some, Option.same_Some}
use Rattle.std.specs.List.{list_any}
use Rattle.pas_tree.specs.{HeadingPlaces.heading_name, HeadingTrees.HeadingTree}
use Rattle.pas_tree.specs.BlockTrees.{BodyTree, RoutineTree, routine_body, routine_heading}
use Rattle.pas_tree.specs.BlockTrees as tree
use Rattle.core_program.specs.declared.rows.{PartRow.PartRow, Row.Row}
use Rattle.check_steps.specs.{Names.define_in, Regions.defined_in, Regions.or_else, Regions.region_at}
use Rattle.check_steps.specs.Known.{Known, and_definition, name_at, row_at, with_row}
use Rattle.check_steps.specs.Steps.{◌>>=◌, add_definition, ask, change, each, give, look, put, when}
use Rattle.check_steps.specs.declared.{breaks.Break.Break, regions.Def.Def, regions.Definition.Definition, words.SpelledToken.SpelledToken}
use Rattle.denoter_checker.specs.Formals.{formals_of, is_complete, is_function, result_of}
use Rattle.denoter_checker.specs.RoutineParts.{awaiting, awaits, complete_or_define, completed_by, completing, define_heading, define_routine, defining}
use Rattle.denoter_checker.specs.RoutineParts.{directed, is_forward, is_waiting, no_result, routine_name, without_formals}
use Rattle.rule_laws.proofs.{Breaks.Each, Breaks.In, Breaks.both, Telling.Misses, Telling.directed-only, Telling.no_two, Telling.other_rule}
use Rattle.rule_laws.proofs.Keeping.{Closed, Keeps, completing-keeps, defining-keeps, no_result-keeps, turn-keeps, without_formals-keeps}
use Rattle.rule_laws.proofs.Tables.{defined-more, one_or_other, row_beside, row_put}
use Rattle.rule_laws.specs.{ForwardHeadings.has_forward, ForwardHeadings.is_block, Laws.broken_at}

-- the spellings of a part stay, and its region and the row of a name are there
pub record Stays (k0 : Known) (region n : ℕ) (k : Known) : Type 0 where
  pub words : k.words ≡ k0.words
  pub names : k.names ≡ k0.names
  pub region_there : region < length k.regions
  pub row_there : n < length k.program.rows

-- the region has no definition at this token
abbrev pub Elsewhere : ℕ → ℕ → Known → Type 0
Elsewhere region n k = (name : ℕ) (d : Definition) → defined_in k.regions region name ≡ Some d → d.token ≡ n → ⊥

abbrev pub waiting_row : Bool → Row
waiting_row function = Row.Part (PartRow.Forward function None)

-- before the heading
pub record New (k0 : Known) (region n : ℕ) (k : Known) : Type 0 where
  pub stays : Stays k0 region n k
  pub elsewhere : Elsewhere region n k
  pub quiet : is_waiting (row_at k n) ≡ false

-- after a forward heading that is not the definition of its name
pub record Lost (k0 : Known) (region n : ℕ) (function : Bool) (k : Known) : Type 0 where
  pub stays : Stays k0 region n k
  pub elsewhere : Elsewhere region n k
  pub waits : row_at k n ≡ waiting_row function

-- after a forward heading that is the definition of its name
pub record Awaiting (k0 : Known) (region n name : ℕ) (function : Bool) (k : Known) : Type 0 where
  pub stays : Stays k0 region n k
  pub own : Definition
  pub own_is : defined_in k.regions region name ≡ Some own
  pub own_at : own.token ≡ n
  pub others : (m : ℕ) (d : Definition) → (m ≡ name → ⊥) → defined_in k.regions region m ≡ Some d → d.token ≡ n → ⊥
  pub waits : row_at k n ≡ waiting_row function

-- no heading waits here
pub record Quiet (k0 : Known) (region n : ℕ) (k : Known) : Type 0 where
  pub stays : Stays k0 region n k
  pub quiet : is_waiting (row_at k n) ≡ false

-- ---- rows at other numbers, and definitions at other tokens

pub stays-put : {k0 : Known} {region n : ℕ} (k : Known) (m : ℕ) (r : Row) → Stays k0 region n k → Stays k0 region n (with_row k m r)
stays-put {n = n} k m r s = record {
  words = s.words;
  names = s.names;
  region_there = s.region_there;
  row_there = subst (λ size. n < size) (sym (length-set k.program.rows m r)) s.row_there;
}

pub stays-define : {k0 : Known} {region n : ℕ} (k : Known) (name : ℕ) (d : Definition) → Stays k0 region n k
    → Stays k0 region n (and_definition k region name d)
stays-define {region = region} k name d s = record {
  words = s.words;
  names = s.names;
  region_there =
      let rows = region_at k.regions region in
      let more = record rows { names = rows.names ++ (name, d) ∷ [] } in
      subst (λ size. region < size) (sym (length-set k.regions region more)) s.region_there;
  row_there = s.row_there;
}

more_elsewhere : (region n : ℕ) (k : Known) (name : ℕ) (d : Definition) → region < length k.regions → (d.token ≡ n → ⊥)
    → (m : ℕ) (x : Definition) → (defined_in k.regions region m ≡ Some x → x.token ≡ n → ⊥)
    → defined_in (and_definition k region name d).regions region m ≡ Some x → x.token ≡ n → ⊥
more_elsewhere region n k name d below apart m x old e t =
    elim (one_or_other (defined_in k.regions region m) (nat_eq m name) d x (sym (defined-more k region name m d below) ∙ e)) [
      | inl was ↦ old was t
      | inr new ↦ apart (ap (λ (y : Definition). y.token) new.1 ∙ t)
    ]

beside : {n : ℕ} (k : Known) (m : ℕ) (r : Row) → (m ≡ n → ⊥) → row_at (with_row k m r) n ≡ row_at k n
beside {n = n} k m r apart = row_beside k m n r (λ e. apart (sym e))

pub new-closed : {k0 : Known} {region n : ℕ} → Closed region n (New k0 region n)
new-closed {region = region} {n = n} = record {
  puts = λ k m r apart i. record {
    stays = stays-put k m r i.stays;
    elsewhere = i.elsewhere;
    quiet = ap is_waiting (beside k m r apart) ∙ i.quiet;
  };
  defines = λ k d apart none i. record {
    stays = stays-define k (name_at k d.token) d i.stays;
    elsewhere = λ m x e t. more_elsewhere region n k (name_at k d.token) d i.stays.region_there apart m x (i.elsewhere m x) e t;
    quiet = i.quiet;
  };
}

pub lost-closed : {k0 : Known} {region n : ℕ} {function : Bool} → Closed region n (Lost k0 region n function)
lost-closed {region = region} {n = n} = record {
  puts = λ k m r apart i. record {
    stays = stays-put k m r i.stays;
    elsewhere = i.elsewhere;
    waits = beside k m r apart ∙ i.waits;
  };
  defines = λ k d apart none i. record {
    stays = stays-define k (name_at k d.token) d i.stays;
    elsewhere = λ m x e t. more_elsewhere region n k (name_at k d.token) d i.stays.region_there apart m x (i.elsewhere m x) e t;
    waits = i.waits;
  };
}

pub awaiting-closed : {k0 : Known} {region n name : ℕ} {function : Bool} → Closed region n (Awaiting k0 region n name function)
awaiting-closed {region = region} {n = n} {name = name} = record {
  puts = λ k m r apart i. record {
    stays = stays-put k m r i.stays;
    own = i.own;
    own_is = i.own_is;
    own_at = i.own_at;
    others = i.others;
    waits = beside k m r apart ∙ i.waits;
  };
  defines = λ k d apart none i. record {
    stays = stays-define k (name_at k d.token) d i.stays;
    own = i.own;
    own_is = defined-more k region (name_at k d.token) name d i.stays.region_there
        ∙ ap (λ (o : Option Definition). or_else o (cond (nat_eq name (name_at k d.token)) (Some d) None)) i.own_is;
    own_at = i.own_at;
    others = λ m x differs e t.
        more_elsewhere region n k (name_at k d.token) d i.stays.region_there apart m x (i.others m x differs) e t;
    waits = i.waits;
  };
}

quiet-put : {k0 : Known} {region n : ℕ} (k : Known) (m : ℕ) (r : Row) → is_waiting r ≡ false → Quiet k0 region n k → Quiet k0 region n (with_row k m r)
quiet-put {n = n} k m r calm i = record {
  stays = stays-put k m r i.stays;
  quiet = elim (cases_eq n m) [
    | inl same ↦
        ap is_waiting (ap (λ i. row_at (with_row k m r) i) same ∙ row_put k m r (subst (λ m. m < length k.program.rows) same i.stays.row_there)) ∙ calm
    | inr apart ↦ ap is_waiting (row_beside k m n r apart) ∙ i.quiet
  ];
}

quiet-define : {k0 : Known} {region n : ℕ} (k : Known) (name : ℕ) (d : Definition) → Quiet k0 region n k → Quiet k0 region n (and_definition k region name d)
quiet-define k name d i = record { stays = stays-define k name d i.stays; quiet = i.quiet }

pub quiet-closed : {k0 : Known} {region n : ℕ} → Closed region n (Quiet k0 region n)
quiet-closed = record {
  puts = λ k m r apart i. record { stays = stays-put k m r i.stays; quiet = ap is_waiting (beside k m r apart) ∙ i.quiet };
  defines = λ k d apart none i. quiet-define k (name_at k d.token) d i;
}

-- ---- what a heading completes

chosen : (b : Bool) (m n : ℕ) → (if b then Some m else None) ≡ Some n → m ≡ n
chosen true m n e = same_Some m n e
chosen false m n e = absurd (none-some n e)

pub awaited : (k : Known) (function : Bool) (o : Option Definition) (n : ℕ) → awaiting k function o ≡ Some n → (d : Definition) × (o ≡ Some d) × (d.token ≡ n)
awaited k function None n e = absurd (none-some n e)
awaited k function (Some d) n e = (d, refl, chosen (awaits function (row_at k d.token)) d.token n e)

pub completed_elsewhere : (region n : ℕ) (k : Known) → Elsewhere region n k → (h : HeadingTree) (body : BodyTree)
    → completed_by k region h body ≡ Some n → ⊥
completed_elsewhere region n k elsewhere h (tree.a_directive directive) e = none-some n e
completed_elsewhere region n k elsewhere h (tree.a_block_body b) e =
    let found = awaited k (is_function h) (defined_in k.regions region (name_at k (heading_name h))) n e in
    elsewhere (name_at k (heading_name h)) found.0 found.1 found.2

-- ---- the turn of the heading itself

abbrev pub own_definition : HeadingTree → Definition
own_definition h = record { def = Def.Routine (heading_name h); token = heading_name h; end = heading_name h }

when_put : (b : Bool) (m : ℕ) (r : Row) (k : Known) → b ≡ true → (when b (put m r) k).known ≡ with_row k m r
unfolding when change give
when_put true m r k e = refl
when_put false m r k e = absurd (let no : false ≡ true = e in cc)

when_no_put : (b : Bool) (m : ℕ) (r : Row) (k : Known) → b ≡ false → (when b (put m r) k).known ≡ k
unfolding when change give
when_no_put true m r k e = absurd (let no : true ≡ false = e in cc)
when_no_put false m r k e = refl

pub directed-waits : (h : HeadingTree) (directive : ℕ) (k : Known) → is_forward k directive ≡ true
    → (directed h directive k).known ≡ with_row k (heading_name h) (waiting_row (is_function h))
unfolding directed look ◌>>=◌ ask
directed-waits h directive k e = when_put (is_forward k directive) (heading_name h) (waiting_row (is_function h)) k e

directed-stays : (h : HeadingTree) (directive : ℕ) (k : Known) → is_forward k directive ≡ false → (directed h directive k).known ≡ k
unfolding directed look ◌>>=◌ ask
directed-stays h directive k e = when_no_put (is_forward k directive) (heading_name h) (waiting_row (is_function h)) k e

-- how a forward heading leaves its name: it is the definition, and breaks no rule 2; or it breaks it
abbrev pub Turned : Known → ℕ → ℕ → ℕ → Bool → Known → List Break → Type 0
Turned k0 region n name function k bs =
    (Awaiting k0 region n name function k × Each (Misses 2 n) bs) ⊎ (Lost k0 region n function k × In (broken_at 2 n) bs)

turned : {k0 : Known} {region : ℕ} (k : Known) (h : HeadingTree) (directive : ℕ) → New k0 region (heading_name h) k → is_forward k directive ≡ true
    → (o : Option Definition) → defined_in k.regions region (name_at k (heading_name h)) ≡ o → (nine ten : List Break)
    → Each (Misses 2 (heading_name h)) nine → Each (Misses 2 (heading_name h)) ten
    → Turned k0 region (heading_name h) (name_at k (heading_name h)) (is_function h)
    (directed h directive (when (is_none o) (add_definition region (name_at k (heading_name h)) (own_definition h)) k).known).known
    ((((if is_none o then [] else broken_at 2 (heading_name h) ∷ [])
    ++ (when (is_none o) (add_definition region (name_at k (heading_name h)) (own_definition h)) k).broken) ++ nine) ++ ten)
unfolding when change give
turned {k0 = k0} {region = region} k h directive i forward None e nine ten no_nine no_ten =
    let name = name_at k (heading_name h) in
    let more = and_definition k region name (own_definition h) in
    let left = with_row more (heading_name h) (waiting_row (is_function h)) in
    let P : Known → Type 0 = λ x. Awaiting k0 region (heading_name h) name (is_function h) x in
    let stays = stays-define k name (own_definition h) i.stays in
    let a : Awaiting k0 region (heading_name h) name (is_function h) left = record {
      stays = stays-put more (heading_name h) (waiting_row (is_function h)) stays;
      own = own_definition h;
      own_is = defined-more k region name name (own_definition h) i.stays.region_there
          ∙ ap (λ (o : Option Definition). or_else o (cond (nat_eq name name) (Some (own_definition h)) None)) e
          ∙ ap (λ (b : Bool). cond b (Some (own_definition h)) None) (let yes : nat_eq name name ≡ true = grind (arith, nat_tests) in yes);
      own_at = refl;
      others = λ m d differs is t. elim (one_or_other (defined_in k.regions region m) (nat_eq m name) (own_definition h) d
          (sym (defined-more k region name m (own_definition h) i.stays.region_there) ∙ is)) [
            | inl was ↦ i.elsewhere m d was t
            | inr new ↦ let yes : nat_eq m name ≡ true = new.0 in let same : m ≡ name = grind (arith, nat_tests, yes) in differs same
          ];
      waits = row_put more (heading_name h) (waiting_row (is_function h)) stays.row_there;
    } in
    inl (subst P (sym (directed-waits h directive more forward)) a, both (Misses 2 (heading_name h)) nine ten no_nine no_ten)
turned {k0 = k0} {region = region} k h directive i forward (Some d) e nine ten no_nine no_ten =
    let P : Known → Type 0 = λ x. Lost k0 region (heading_name h) (is_function h) x in
    let a : Lost k0 region (heading_name h) (is_function h) (with_row k (heading_name h) (waiting_row (is_function h))) = record {
      stays = stays-put k (heading_name h) (waiting_row (is_function h)) i.stays;
      elsewhere = i.elsewhere;
      waits = row_put k (heading_name h) (waiting_row (is_function h)) i.stays.row_there;
    } in
    inr (subst P (sym (directed-waits h directive k forward)) a, inl refl)

pub forward_in : (k0 k : Known) → k.words ≡ k0.words → k.names ≡ k0.names → (directive : ℕ) → is_forward k directive ≡ is_forward k0 directive
forward_in k0 k words names directive = ap (λ (w : List SpelledToken). is_forward (record k { words = w }) directive) words
    ∙ ap (λ (n : List (List ℕ)). is_forward (record k { words = k0.words; names = n }) directive) names

pub asked : (P : Break → Type 0) (b : Break) (ok : Bool) → P b → Each P (if ok then [] else b ∷ [])
asked P b true h = tt
asked P b false h = (h, tt)

pub own_turn : {k0 : Known} {region : ℕ} (k : Known) (position : ℕ) (h : HeadingTree) (body : BodyTree) → New k0 region (heading_name h) k
    → has_forward k0 body ≡ true
    → Turned k0 region (heading_name h) (name_at k (heading_name h)) (is_function h)
    (complete_or_define (completed_by k region h body) region position h body k).known
    (complete_or_define (completed_by k region h body) region position h body k).broken
unfolding defining define_heading define_in look ◌>>=◌ ask
own_turn {k0 = k0} {region = region} k position h (tree.a_directive directive) i forward =
    let n = heading_name h in
    let o = defined_in k.regions region (name_at k n) in
    let next = (when (is_none o) (add_definition region (name_at k n) (own_definition h)) k).known in
    let allows = no_two (n + 1) n (λ e. omega (arith, e)) in
    turned k h directive i (forward_in k0 k i.stays.words i.stays.names directive ∙ forward) o refl
    (if is_complete h then [] else broken_at 9 n ∷ []) (directed h directive next).broken
    (asked (Misses 2 n) (broken_at 9 n) (is_complete h) (other_rule 9 n 2 n (λ e. omega (arith, e))))
    ((directed-only allows h directive).of next)
own_turn k position h (tree.a_block_body b) i forward = absurd (let no : false ≡ true = forward in cc)

-- ---- where no heading waits

pub new_quiet : {k0 : Known} {region n : ℕ} {k : Known} → New k0 region n k → Quiet k0 region n k
new_quiet i = record { stays = i.stays; quiet = i.quiet }

quiet_when : {k0 : Known} {region n : ℕ} (k : Known) (name : ℕ) (d : Definition) (o : Option Definition) → Quiet k0 region n k
    → Quiet k0 region n (when (is_none o) (add_definition region name d) k).known
unfolding when change give
quiet_when k name d None i = quiet-define k name d i
quiet_when k name d (Some x) i = i

quiet_completing : {k0 : Known} {region n : ℕ} (first position : ℕ) (h : HeadingTree) → Keeps (Quiet k0 region n) (completing first position h)
quiet_completing first position h = completing-keeps first position h
    (λ k i. quiet-put k first (Row.Part (PartRow.Forward (is_function h) (Some position))) refl i)
    (λ k i. quiet-put k (heading_name h) (Row.Part (PartRow.Completing first)) refl i)

quiet_block : {k0 : Known} {region n : ℕ} (k : Known) (position : ℕ) (h : HeadingTree) (b : _) (o : Option ℕ) → Quiet k0 region n k
    → Quiet k0 region n (complete_or_define o region position h (tree.a_block_body b) k).known
unfolding defining define_heading define_in look ◌>>=◌ ask give
quiet_block {region = region} k position h b None i =
    quiet_when k (name_at k (heading_name h)) (own_definition h) (defined_in k.regions region (name_at k (heading_name h))) i
quiet_block k position h b (Some first) i = (quiet_completing first position h).of k i

-- a heading that does not wait for a block, at its own name
pub quiet_turn : {k0 : Known} {region : ℕ} (k : Known) (position : ℕ) (h : HeadingTree) (body : BodyTree) → New k0 region (heading_name h) k
    → has_forward k0 body ≡ false
    → Quiet k0 region (heading_name h) (complete_or_define (completed_by k region h body) region position h body k).known
unfolding defining define_heading define_in look ◌>>=◌ ask
quiet_turn {k0 = k0} {region = region} k position h (tree.a_directive directive) i none =
    let name = name_at k (heading_name h) in
    let o = defined_in k.regions region name in
    let next = (when (is_none o) (add_definition region name (own_definition h)) k).known in
    let q : Quiet k0 region (heading_name h) next = quiet_when k name (own_definition h) o (new_quiet i) in
    let P : Known → Type 0 = λ x. Quiet k0 region (heading_name h) x in
    subst P (sym (directed-stays h directive next (forward_in k0 next q.stays.words q.stays.names directive ∙ none))) q
quiet_turn {region = region} k position h (tree.a_block_body b) i none =
    quiet_block k position h b (completed_by k region h (tree.a_block_body b)) (new_quiet i)

quiet_other : {k0 : Known} {region n : ℕ} (k : Known) (position : ℕ) (h : HeadingTree) (body : BodyTree) (o : Option ℕ) → (heading_name h ≡ n → ⊥)
    → Quiet k0 region n k → Quiet k0 region n (complete_or_define o region position h body k).known
quiet_other k position h body None apart i = (defining-keeps quiet-closed h body apart).of k i
quiet_other k position h body (Some first) apart i = (quiet_completing first position h).of k i

-- ---- later headings, where one waits

-- whether a heading with this body has the block of one of this kind and name
abbrev pub has_block_of : Known → Bool → ℕ → HeadingTree → BodyTree → Bool
has_block_of k function name h body =
    is_block body && (if function then is_function h else not (is_function h)) && nat_eq name (name_at k (heading_name h))

pub completed_own : {k0 : Known} {region n name : ℕ} {function : Bool} (k : Known) → Awaiting k0 region n name function k → (h : HeadingTree) (b : _)
    → name_at k (heading_name h) ≡ name
    → completed_by k region h (tree.a_block_body b) ≡ (if (if function then is_function h else not (is_function h)) then Some n else None)
completed_own {region = region} {n = n} {function = function} k i h b same =
    ap (λ (m : ℕ). awaiting k (is_function h) (defined_in k.regions region m)) same
    ∙ ap (λ (o : Option Definition). awaiting k (is_function h) o) i.own_is
    ∙ ap (λ (t : ℕ). if awaits (is_function h) (row_at k t) then Some t else None) i.own_at
    ∙ ap (λ (r : Row). if awaits (is_function h) r then Some n else None) i.waits

completed_now : {k0 : Known} {region n name : ℕ} {function : Bool} (k : Known) (position : ℕ) (h : HeadingTree) → Awaiting k0 region n name function k
    → Quiet k0 region n (completing n position h k).known
unfolding completing ◌>>=◌ change
completed_now {k0 = k0} {region = region} {n = n} {name = name} {function = function} k position h i =
    let after_formals = (without_formals (formals_of h) k).known in
    let before = (no_result (result_of h) after_formals).known in
    let one : Keeps (Awaiting k0 region n name function) (without_formals (formals_of h)) = without_formals-keeps (formals_of h) in
    let two : Keeps (Awaiting k0 region n name function) (no_result (result_of h)) = no_result-keeps (result_of h) in
    let a : Awaiting k0 region n name function before = two.of after_formals (one.of k i) in
    let row = Row.Part (PartRow.Forward (is_function h) (Some position)) in
    let q : Quiet k0 region n (with_row before n row) = record {
      stays = stays-put before n row a.stays;
      quiet = ap is_waiting (row_put before n row a.stays.row_there);
    } in
    quiet-put (with_row before n row) (heading_name h) (Row.Part (PartRow.Completing n)) refl q

pub same_spelling : (k0 k : Known) → k.words ≡ k0.words → (token : ℕ) → name_at k token ≡ name_at k0 token
same_spelling k0 k words token = ap (λ (w : List SpelledToken). name_at (record k { words = w }) token) words

both_true : (a b : Bool) → true && a && b ≡ true → (a ≡ true) × (b ≡ true)
both_true true true e = (refl, refl)
both_true true false e = absurd (let no : false ≡ true = e in cc)
both_true false b e = absurd (let no : false ≡ true = e in cc)

pub first_false : (a b : Bool) → b ≡ true → true && a && b ≡ false → a ≡ false
first_false false b t f = refl
first_false true b t f = absurd (let no : true ≡ false = sym t ∙ f in cc)

equal : (m n : ℕ) → nat_eq m n ≡ true → n ≡ m
equal m n e = grind (arith, nat_tests, e)

unequal : (m n : ℕ) → nat_eq m n ≡ false → n ≡ m → ⊥
unequal m n e same = grind (arith, nat_tests, e, same)

-- the block is there
completing_turn : {k0 : Known} {region n name : ℕ} {function : Bool} (k : Known) (position : ℕ) (h : HeadingTree) (body : BodyTree)
    → Awaiting k0 region n name function k → has_block_of k0 function name h body ≡ true
    → Quiet k0 region n (complete_or_define (completed_by k region h body) region position h body k).known
completing_turn k position h (tree.a_directive directive) i has = absurd (let no : false ≡ true = has in cc)
completing_turn {k0 = k0} {region = region} {n = n} {name = name} {function = function} k position h (tree.a_block_body b) i has =
    let kind = if function then is_function h else not (is_function h) in
    let parts = both_true kind (nat_eq name (name_at k0 (heading_name h))) has in
    let same = same_spelling k0 k i.stays.words (heading_name h) ∙ equal name (name_at k0 (heading_name h)) parts.1 in
    let is : completed_by k region h (tree.a_block_body b) ≡ Some n =
    completed_own k i h b same ∙ ap (λ (c : Bool). if c then Some n else None) parts.0 in
    let P : Option ℕ → Type 0 = λ o. Quiet k0 region n (complete_or_define o region position h (tree.a_block_body b) k).known in
    subst P (sym is) (completed_now k position h i)

-- it is not: the heading completes something else, or nothing
not_this_kind : {k0 : Known} {region n name : ℕ} {function : Bool} (k : Known) (h : HeadingTree) (b : _)
    → Awaiting k0 region n name function k → has_block_of k0 function name h (tree.a_block_body b) ≡ false
    → nat_eq name (name_at k0 (heading_name h)) ≡ true → completed_by k region h (tree.a_block_body b) ≡ Some n → ⊥
not_this_kind {k0 = k0} {region = region} {n = n} {name = name} {function = function} k h b i lacks named e =
    let kind = if function then is_function h else not (is_function h) in
    let same = same_spelling k0 k i.stays.words (heading_name h) ∙ equal name (name_at k0 (heading_name h)) named in
    let none : completed_by k region h (tree.a_block_body b) ≡ None = completed_own k i h b same
    ∙ ap (λ (c : Bool). if c then Some n else None) (first_false kind (nat_eq name (name_at k0 (heading_name h))) named lacks) in
    none-some n (sym none ∙ e)

not_this_name : {k0 : Known} {region n name : ℕ} {function : Bool} (k : Known) (h : HeadingTree) (b : _)
    → Awaiting k0 region n name function k → nat_eq name (name_at k0 (heading_name h)) ≡ false → completed_by k region h (tree.a_block_body b) ≡ Some n → ⊥
not_this_name {k0 = k0} {region = region} {n = n} {name = name} k h b i differs e =
    let found = awaited k (is_function h) (defined_in k.regions region (name_at k (heading_name h))) n e in
    i.others (name_at k (heading_name h)) found.0
    (λ s. unequal name (name_at k0 (heading_name h)) differs (sym (same_spelling k0 k i.stays.words (heading_name h)) ∙ s)) found.1 found.2

not_completed : {k0 : Known} {region n name : ℕ} {function : Bool} (k : Known) (h : HeadingTree) (body : BodyTree)
    → Awaiting k0 region n name function k → has_block_of k0 function name h body ≡ false → completed_by k region h body ≡ Some n → ⊥
not_completed {n = n} k h (tree.a_directive directive) i lacks e = none-some n e
not_completed {k0 = k0} {region = region} {n = n} {name = name} {function = function} k h (tree.a_block_body b) i lacks e =
    elim (nat_eq name (name_at k0 (heading_name h))) as (λ c. nat_eq name (name_at k0 (heading_name h)) ≡ c → ⊥) [
      | true ↦ λ named. not_this_kind k h b i lacks named e
      | false ↦ λ differs. not_this_name k h b i differs e
    ] refl

-- ---- all of a part

pub new_before : {k0 : Known} {region n : ℕ} (rs : List RoutineTree) (position : ℕ) (k : Known) → Each (λ (s : RoutineTree). routine_name s ≡ n → ⊥) rs
    → New k0 region n k → New k0 region n (each (define_routine region) position rs k).known
unfolding ◌>>=◌ give
new_before [] position k apart i = i
new_before {region = region} {n = n} (r ∷ rs) position k apart i =
    let d = define_routine region position r k in
    new_before rs d.value d.known apart.1
    (turn-keeps new-closed position r apart.0 k (completed_elsewhere region n k i.elsewhere (routine_heading r) (routine_body r)) i)

pub lost_after : {k0 : Known} {region n : ℕ} {function : Bool} (rs : List RoutineTree) (position : ℕ) (k : Known)
    → Each (λ (s : RoutineTree). routine_name s ≡ n → ⊥) rs → Lost k0 region n function k
    → Lost k0 region n function (each (define_routine region) position rs k).known
unfolding ◌>>=◌ give
lost_after [] position k apart i = i
lost_after {region = region} {n = n} (r ∷ rs) position k apart i =
    let d = define_routine region position r k in
    lost_after rs d.value d.known apart.1
    (turn-keeps lost-closed position r apart.0 k (completed_elsewhere region n k i.elsewhere (routine_heading r) (routine_body r)) i)

pub quiet_after : {k0 : Known} {region n : ℕ} (rs : List RoutineTree) (position : ℕ) (k : Known)
    → Each (λ (s : RoutineTree). routine_name s ≡ n → ⊥) rs → Quiet k0 region n k
    → Quiet k0 region n (each (define_routine region) position rs k).known
unfolding ◌>>=◌ give define_routine look
quiet_after [] position k apart i = i
quiet_after {region = region} (r ∷ rs) position k apart i =
    let d = define_routine region position r k in
    quiet_after rs d.value d.known apart.1 (quiet_other k position (routine_heading r) (routine_body r)
    (completed_by k region (routine_heading r) (routine_body r)) apart.0 i)

-- a heading that does not have the block leaves it awaited
pub still_awaiting : {k0 : Known} {region n name : ℕ} {function : Bool} (position : ℕ) (r : RoutineTree) (k : Known) → (routine_name r ≡ n → ⊥)
    → Awaiting k0 region n name function k → has_block_of k0 function name (routine_heading r) (routine_body r) ≡ false
    → Awaiting k0 region n name function (define_routine region position r k).known
still_awaiting position r k apart i lacks = turn-keeps awaiting-closed position r apart k (not_completed k (routine_heading r) (routine_body r) i lacks) i

-- and one that has it does not
pub now_quiet : {k0 : Known} {region n name : ℕ} {function : Bool} (position : ℕ) (r : RoutineTree) (k : Known) → Awaiting k0 region n name function k
    → has_block_of k0 function name (routine_heading r) (routine_body r) ≡ true → Quiet k0 region n (define_routine region position r k).known
unfolding ◌>>=◌ give define_routine look
now_quiet position r k i has = completing_turn k position (routine_heading r) (routine_body r) i has

-- whether the heading still waits after the others: if none of them has its block
pub waits_after : {k0 : Known} {region n name : ℕ} {function : Bool} (rs : List RoutineTree) (position : ℕ) (k : Known)
    → Each (λ (s : RoutineTree). routine_name s ≡ n → ⊥) rs → Awaiting k0 region n name function k
    → is_waiting (row_at (each (define_routine region) position rs k).known n)
    ≡ not (list_any (λ (s : RoutineTree). has_block_of k0 function name (routine_heading s) (routine_body s)) rs)
unfolding ◌>>=◌ give
waits_after [] position k apart i = ap is_waiting i.waits
waits_after {k0 = k0} {region = region} {n = n} {name = name} {function = function} (r ∷ rs) position k apart i =
    let d = define_routine region position r k in
    elim (has_block_of k0 function name (routine_heading r) (routine_body r)) as (λ c. has_block_of k0 function name (routine_heading r) (routine_body r) ≡ c
    → is_waiting (row_at (each (define_routine region) d.value rs d.known).known n)
    ≡ not (c || list_any (λ (s : RoutineTree). has_block_of k0 function name (routine_heading s) (routine_body s)) rs)) [
      | true ↦ λ has. (quiet_after rs d.value d.known apart.1 (now_quiet position r k i has)).quiet
      | false ↦ λ lacks. waits_after rs d.value d.known apart.1 (still_awaiting position r k apart.0 i lacks)
    ] refl
