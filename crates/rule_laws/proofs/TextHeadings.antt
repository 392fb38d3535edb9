-- What the tables of a text say of headings, wherever its declarations are looked at.
use Rattle.std.proofs.Common.{if◌then◌else◌, ◌++◌, ◌<◌, ◌∙◌, ◌∷◌, ◌≡◌, ◌≤◌, ◌⊎◌, [], ℕ, Bool, List, None, Option, Some, ap, arith, false, inl, inr, length}
use Rattle.std.proofs.Common.{nat_eq, refl, subst, sym, true}
use Rattle.std.{proofs.lemmas.Bool.eqb-true, proofs.lemmas.Option.none-some, proofs.lemmas.Option.same_Some, specs.Map.lookup}
use Rattle.pas_tree.specs.{HeadingPlaces.heading_name, HeadingTrees.HeadingTree}
use Rattle.pas_tree.specs.BlockTrees.{BlockTree, BodyTree, RoutineTree, routine_body, routine_heading}
use Rattle.pas_tree.specs.BlockTrees as tree
use Rattle.core_program.specs.declared.rows.{NameRow.NameRow, PartRow.PartRow, Row.Row, TypeRow.TypeRow}
use Rattle.check_steps.specs.Known.{Known, and_definition, and_label, and_region, name_at, row_at, with_row}
use Rattle.check_steps.specs.Regions.{RegionRows, defined_in, fresh_region, region_at}
use Rattle.check_steps.specs.declared.{regions.Definition.Definition, regions.Frame.Frame, words.SpelledToken.SpelledToken}
use Rattle.denoter_checker.specs.{Formals.is_function, RoutineParts.awaiting, RoutineParts.awaits, RoutineParts.completed_by, RoutineParts.routine_name}
use Rattle.rule_laws.proofs.{Faces.row_either, Regions.region_either, Regions.region_more, Tables.lookup-last, Tables.one_or_other}
use Rattle.rule_laws.proofs.Lasting.{Declaring, Ends, Lasting, is_quiet, with_completion}
use Rattle.rule_laws.specs.{ForwardHeadings.is_block, TextParts.OfRoutines}

-- ---- definitions, after a change

abbrev entry : RegionRows → ℕ → Option Definition
entry rows n = lookup (nat_eq n) rows.names

-- a definition after one more is that one or was there
pub defined_either : (j : Known) (region name : ℕ) (d : Definition) (r n : ℕ) (e : Definition)
    → defined_in (and_definition j region name d).regions r n ≡ Some e
    → (defined_in j.regions r n ≡ Some e) ⊎ ((n ≡ name) × (d ≡ e))
defined_either j region name d r n e found =
    let rows = region_at j.regions region in
    let more = record rows { names = rows.names ++ (name, d) ∷ [] } in
    elim (region_either j.regions region r more) [
      | inl old ↦ inl (sym (ap (λ x. entry x n) old) ∙ found)
      | inr new ↦ elim (one_or_other (entry rows n) (nat_eq n name) d e
          (sym (lookup-last n name rows.names d) ∙ sym (ap (λ x. entry x n) new.1) ∙ found)) [
            | inl old ↦ inl (ap (λ i. defined_in j.regions i n) new.0 ∙ old)
            | inr own ↦ inr (eqb-true n name own.0, own.1)
          ]
    ]

pub label_defined : (j : Known) (region value token r n : ℕ) → defined_in (and_label j region value token).regions r n ≡ defined_in j.regions r n
label_defined j region value token r n =
    let rows = region_at j.regions region in
    let more = record rows { labels = rows.labels ++ (value, token) ∷ [] } in
    elim (region_either j.regions region r more) [
      | inl old ↦ ap (λ x. entry x n) old
      | inr new ↦ ap (λ x. entry x n) new.1 ∙ ap (λ i. defined_in j.regions i n) (sym new.0)
    ]

pub region_defined : (j : Known) (token : ℕ) (f : Frame) (r n : ℕ) (e : Definition) → defined_in (and_region j token f).regions r n ≡ Some e
    → defined_in j.regions r n ≡ Some e
region_defined j token f r n e found = elim (region_more j.regions r (fresh_region token (length j.frames))) [
  | inl old ↦ sym (ap (λ x. entry x n) old) ∙ found
  | inr new ↦ absurd (none-some e (sym (ap (λ x. entry x n) new) ∙ found))
]

-- ---- headings

-- In a block no directive follows a heading of this name.
abbrev pub IsNeverForward : Known → BlockTree → ℕ → Type 0
IsNeverForward k b name =
    OfRoutines (λ r. is_block (routine_body r) ≡ false → name_at k (routine_name r) ≡ name → ⊥) b

-- A forward heading of the text has the name at this token, so the name is not one of those that no directive follows.
pub record IsForwardName (k : Known) (b : BlockTree) (n : ℕ) : Type 0 where
  pub spelled : n < length k.words
  pub directed : IsNeverForward k b (name_at k n) → ⊥

-- a procedure or function of the text
pub record IsOfText (k : Known) (b : BlockTree) (r : RoutineTree) : Type 0 where
  pub spelled : routine_name r < length k.words
  pub directed : is_block (routine_body r) ≡ false → IsNeverForward k b (name_at k (routine_name r)) → ⊥

-- Definitions stand under their tokens' names, but for the required ones. Rows of forward headings, and of those that
-- complete them, stand at names of forward headings.
pub record Sound (k : Known) (b : BlockTree) (j : Known) : Type 0 where
  pub words : j.words ≡ k.words
  pub own : (r n : ℕ) (d : Definition) → defined_in j.regions r n ≡ Some d → (name_at k d.token ≡ n) ⊎ (length k.words ≤ d.token)
  pub forward : (n : ℕ) (function : Bool) (block : Option ℕ) → row_at j n ≡ Row.Part (PartRow.Forward function block) → IsForwardName k b n
  pub completing : (n first : ℕ) → row_at j n ≡ Row.Part (PartRow.Completing first) → IsNeverForward k b (name_at k n) → ⊥

-- the same definitions and rows
alike : (k : Known) (b : BlockTree) (j i : Known) → i.words ≡ j.words
    → ((r n : ℕ) (d : Definition) → defined_in i.regions r n ≡ Some d → defined_in j.regions r n ≡ Some d)
    → ((n : ℕ) → row_at i n ≡ row_at j n) → Sound k b j → Sound k b i
alike k b j i words defined rows s = record {
  words = words ∙ s.words;
  own = λ r n d e. s.own r n d (defined r n d e);
  forward = λ n function block e. s.forward n function block (sym (rows n) ∙ e);
  completing = λ n first e. s.completing n first (sym (rows n) ∙ e);
}

put_sound : (k : Known) (b : BlockTree) (j : Known) (m : ℕ) (r : Row)
    → ((function : Bool) (block : Option ℕ) → r ≡ Row.Part (PartRow.Forward function block) → IsForwardName k b m)
    → ((first : ℕ) → r ≡ Row.Part (PartRow.Completing first) → IsNeverForward k b (name_at k m) → ⊥)
    → Sound k b j → Sound k b (with_row j m r)
put_sound k b j m r forward completing s = record {
  words = s.words;
  own = s.own;
  forward = λ n function block e. elim (row_either j m n r) [
    | inl old ↦ s.forward n function block (sym old ∙ e)
    | inr new ↦ subst (IsForwardName k b) (sym new.0) (forward function block (sym new.1 ∙ e))
  ];
  completing = λ n first e. elim (row_either j m n r) [
    | inl old ↦ s.completing n first (sym old ∙ e)
    | inr new ↦ subst (λ x. IsNeverForward k b (name_at k x) → ⊥) (sym new.0) (completing first (sym new.1 ∙ e))
  ];
}

pub no_forward : (r : Row) (function : Bool) (block : Option ℕ) → is_quiet r ≡ true → r ≡ Row.Part (PartRow.Forward function block) → ⊥
no_forward r function block quiet e = let never : false ≡ true = sym (ap is_quiet e) ∙ quiet in cc

pub no_completing : (r : Row) (first : ℕ) → is_quiet r ≡ true → r ≡ Row.Part (PartRow.Completing first) → ⊥
no_completing r first quiet e = let never : false ≡ true = sym (ap is_quiet e) ∙ quiet in cc

pub same_row : (j : Known) (m n : ℕ) → row_at (with_row j m (row_at j m)) n ≡ row_at j n
same_row j m n = elim (row_either j m n (row_at j m)) [
  | inl old ↦ old
  | inr new ↦ new.1 ∙ ap (row_at j) (sym new.0)
]

-- ---- completions

pub record Awaited (function : Bool) (r : Row) : Type 0 where
  pub kind : Bool
  pub is : r ≡ Row.Part (PartRow.Forward kind None)

pub awaited : (function : Bool) (r : Row) → awaits function r ≡ true → Awaited function r
awaited function (Row.Part (PartRow.Forward kind None)) e = record { kind = kind; is = refl }
awaited function r e = absurd (let never : false ≡ true = e in cc)

pub record Found (j : Known) (function : Bool) (o : Option Definition) (first : ℕ) : Type 0 where
  pub d : Definition
  pub is : o ≡ Some d
  pub token : d.token ≡ first
  pub waiting : awaits function (row_at j first) ≡ true

if_awaits : (j : Known) (function : Bool) (d : Definition) (first : ℕ) (t : Bool) → awaits function (row_at j d.token) ≡ t
    → (if t then Some d.token else None) ≡ Some first → Found j function (Some d) first
if_awaits j function d first true e same = let at = same_Some d.token first same in record {
  d = d;
  is = refl;
  token = at;
  waiting = ap (λ n. awaits function (row_at j n)) (sym at) ∙ e;
}
if_awaits j function d first false e same = absurd (none-some first same)

found_by : (j : Known) (function : Bool) (o : Option Definition) (first : ℕ) → awaiting j function o ≡ Some first → Found j function o first
found_by j function None first e = absurd (none-some first e)
found_by j function (Some d) first e = if_awaits j function d first (awaits function (row_at j d.token)) refl e

pub completed_found : (j : Known) (region : ℕ) (h : HeadingTree) (body : BodyTree) (first : ℕ) → completed_by j region h body ≡ Some first
    → Found j (is_function h) (defined_in j.regions region (name_at j (heading_name h))) first
completed_found j region h (tree.a_directive directive) first e = absurd (none-some first e)
completed_found j region h (tree.a_block_body b) first e = found_by j (is_function h) (defined_in j.regions region (name_at j (heading_name h))) first e

pub spelled_as : (k j : Known) (n : ℕ) → j.words ≡ k.words → name_at j n ≡ name_at k n
spelled_as k j n words = ap (λ (ws : List SpelledToken). name_at (record k { words = ws }) n) words

-- the heading that is completed has the name of the one that completes it
pub record Completed (k : Known) (b : BlockTree) (r : RoutineTree) (first : ℕ) : Type 0 where
  pub forward : IsForwardName k b first
  pub same : name_at k first ≡ name_at k (routine_name r)

pub completion_sound : (k : Known) (b : BlockTree) (j : Known) (region first : ℕ) (r : RoutineTree)
    → completed_by j region (routine_heading r) (routine_body r) ≡ Some first
    → Sound k b j → Completed k b r first
completion_sound k b j region first r e s =
    let f = completed_found j region (routine_heading r) (routine_body r) first e in
    let row = awaited (is_function (routine_heading r)) (row_at j first) f.waiting in
    let forward = s.forward first row.kind None row.is in
    record {
      forward = forward;
      same = elim (s.own region (name_at j (routine_name r)) f.d f.is) [
        | inl own ↦ ap (name_at k) (sym f.token) ∙ own ∙ spelled_as k j (routine_name r) s.words
        | inr behind ↦ (let below = forward.spelled in let at = f.token in absurd (omega (arith, behind, below, at)))
      ];
    }

pub row_completing : (function : Bool) (position first : ℕ) → Row.Part (PartRow.Forward function (Some position)) ≡ Row.Part (PartRow.Completing first) → ⊥
row_completing function position first e = cc

pub row_forward : (first : ℕ) (function : Bool) (block : Option ℕ) → Row.Part (PartRow.Completing first) ≡ Row.Part (PartRow.Forward function block) → ⊥
row_forward first function block e = cc

complete_sound : (k : Known) (b : BlockTree) (j : Known) (region first position : ℕ) (r : RoutineTree)
    → completed_by j region (routine_heading r) (routine_body r) ≡ Some first
    → Sound k b j → Sound k b (with_completion j first position (is_function (routine_heading r)) (routine_name r))
complete_sound k b j region first position r e s =
    let c = completion_sound k b j region first r e s in
    let row = Row.Part (PartRow.Forward (is_function (routine_heading r)) (Some position)) in
    put_sound k b (with_row j first row) (routine_name r) (Row.Part (PartRow.Completing first))
    (λ function block x. absurd (row_forward first function block x))
    (λ at x none. c.forward.directed (subst (IsNeverForward k b) (sym c.same) none))
    (put_sound k b j first row (λ function block x. c.forward)
    (λ at x. absurd (row_completing (is_function (routine_heading r)) position at x)) s)

pub waits_row : (function : Bool) (first : ℕ) → Row.Part (PartRow.Forward function None) ≡ Row.Part (PartRow.Completing first) → ⊥
waits_row function first e = cc

pub no_record : (packed : Bool) (region cells : ℕ) (variants : Option ℕ) {r : PartRow} → Row.Type (TypeRow.Record packed region cells variants) ≡ Row.Part r → ⊥
no_record packed region cells variants e = cc

pub no_name : {n : NameRow} {r : PartRow} → Row.Name n ≡ Row.Part r → ⊥
no_name e = cc

defined_sound : (k : Known) (b : BlockTree) → Ends (Sound k b)
defined_sound k b j region d s = record {
  words = s.words;
  own = λ r n e found. elim (defined_either j region (name_at j d.token) d r n e found) [
    | inl old ↦ s.own r n e old
    | inr new ↦ inl (ap (λ (x : Definition). name_at k x.token) (sym new.1) ∙ sym (spelled_as k j d.token s.words) ∙ sym new.0)
  ];
  forward = s.forward;
  completing = s.completing;
}

pub sound_lasts : (k : Known) (b : BlockTree) → Lasting (IsOfText k b) (Sound k b)
sound_lasts k b = record {
  puts = λ j m r quiet s. put_sound k b j m r (λ function block e. absurd (no_forward r function block quiet e))
      (λ first e. absurd (no_completing r first quiet e)) s;
  stays = λ j m s. alike k b j (with_row j m (row_at j m)) refl (λ r n d e. e) (same_row j m) s;
  bodies = λ j n r same s. record { words = s.words; own = s.own; forward = s.forward; completing = s.completing };
  routines = λ j r s. record { words = s.words; own = s.own; forward = s.forward; completing = s.completing };
  frames = λ j f s. record { words = s.words; own = s.own; forward = s.forward; completing = s.completing };
  regions = λ j token f s. alike k b j (and_region j token f) refl (λ r n d e. region_defined j token f r n d e) (λ n. refl) s;
  defines = λ j region d at s. defined_sound k b j region d s;
  requires = λ j name d behind s. record {
    words = s.words;
    own = λ r n e found. elim (defined_either j 0 name d r n e found) [
      | inl old ↦ s.own r n e old
      | inr new ↦ (
          let many = ap (λ (ws : List SpelledToken). length ws) s.words in
          let at = ap (λ (x : Definition). x.token) new.1 in
          inr (omega (arith, behind, many, at)))
    ];
    forward = s.forward;
    completing = s.completing;
  };
  chooses = λ j list value s. record { words = s.words; own = s.own; forward = s.forward; completing = s.completing };
  records = λ j word packed region cells variants fresh s. put_sound k b j word (Row.Type (TypeRow.Record packed region cells variants))
      (λ function block e. absurd (no_record packed region cells variants e)) (λ first e. absurd (no_record packed region cells variants e)) s;
  waits = λ j r g none s. put_sound k b j (routine_name r) (Row.Part (PartRow.Forward (is_function (routine_heading r)) None))
      (λ function block e. record { spelled = g.spelled; directed = g.directed none })
      (λ first e. absurd (waits_row (is_function (routine_heading r)) first e)) s;
  completes = λ j region first position r g e s. complete_sound k b j region first position r e s;
}

pub sound_all : (k : Known) (b : BlockTree) → Declaring (IsOfText k b) (Sound k b)
sound_all k b = record {
  kept = sound_lasts k b;
  ends = defined_sound k b;
  declares = λ j region value token s.
      alike k b j (and_label j region value token) refl (λ r n d e. sym (label_defined j region value token r n) ∙ e) (λ n. refl) s;
  labels = λ j token value level s. put_sound k b j token (Row.Name (NameRow.Label false value level 0)) (λ function block e. absurd (no_name e))
      (λ first e. absurd (no_name e)) s;
  heads = λ j name number region named few s. put_sound k b j name (Row.Name (NameRow.Routine false number region)) (λ function block e. absurd (no_name e))
      (λ first e. absurd (no_name e)) s;
}
