-- The names of a text's procedures and functions.
use Rattle.std.proofs.Common.{◌++◌, ◌<◌, ◌||◌, ◌∙◌, ◌∷◌, ◌≡◌, ◌⊎◌, [], ℕ, Bool, List, None, Option, Some, ap, false, inl, inr, is_none, is_some, length, nat_le}
use Rattle.std.proofs.Common.{refl, subst, sym, true}
use Rattle.pas_tree.specs.{HeadingPlaces.heading_name, HeadingTrees.HeadingTree, declared.blocks.NextLabel.NextLabel}
use Rattle.pas_tree.specs.BlockTrees.{BodyTree, LabelPartTree, RoutineTree, routine_body, routine_heading}
use Rattle.pas_tree.specs.BlockTrees as tree
use Rattle.core_program.specs.declared.rows.{PartRow.PartRow, Row.Row}
use Rattle.check_steps.specs.{Known.Known, Known.and_label, Known.label_at, Known.name_at, Names.declare_in, Names.define_in}
use Rattle.check_steps.specs.Regions.{RegionRows, declared_in, defined_in}
use Rattle.check_steps.specs.Steps.{◌>>=◌, add_label, ask, change, each, give, look, put, when}
use Rattle.check_steps.specs.declared.{breaks.Break.Break, regions.Def.Def, regions.Definition.Definition, regions.Frame.Frame}
use Rattle.denoter_checker.specs.Formals.{is_function}
use Rattle.denoter_checker.specs.RoutineParts.{define_heading, defining, directed, directive_in, is_forward, routine_name}
use Rattle.decl_checker.specs.Labels.{define_label, define_labels, define_next_label}
use Rattle.rule_laws.proofs.{Breaks.In, Breaks.in_left, NameLaw.begun, NameLaw.label_turn}
use Rattle.rule_laws.proofs.Keeping.{Keeps, ask-keeps, bind-keeps, give-keeps, look-keeps, put-keeps, when-keeps}
use Rattle.rule_laws.proofs.NameTurns.{Region, Turn, define_goes, named}
use Rattle.rule_laws.specs.Laws.{broken_at}

-- ---- labels define no names

label_added : (p : Region) (done : List ℕ) (region : ℕ) → region ≡ p.region → (value token : ℕ) → Keeps (Turn p done) (add_label region value token)
unfolding change
label_added p done region e value token = record {
  of = λ j t. subst (λ r. Turn p done (and_label j r value token)) (sym e) (label_turn p done j value token t);
}

label_keeps : (p : Region) (done : List ℕ) (here : Frame) → here.region ≡ p.region → (token : ℕ) → Keeps (Turn p done) (define_label here token)
unfolding define_label declare_in
label_keeps p done here e token = bind-keeps (look-keeps (λ k. label_at k token)) (λ value.
    bind-keeps (ask-keeps _ token (nat_le value 9999)) (λ _.
    bind-keeps (bind-keeps (look-keeps (λ k. declared_in k.regions here.region value)) (λ held.
    bind-keeps (ask-keeps _ token (is_none held)) (λ _. when-keeps (is_none held) (label_added p done here.region e value token)))) (λ _.
    put-keeps token _ (λ j t. record { words = t.words; spellings = t.spellings; there = t.there; names = t.names; tokens = t.tokens }))))

next_labels_keep : (p : Region) (done : List ℕ) (here : Frame) → here.region ≡ p.region → (ns : List NextLabel)
    → Keeps (Turn p done) (each (define_next_label here) tt ns)
unfolding define_next_label
next_labels_keep p done here e [] = give-keeps tt
next_labels_keep p done here e (n ∷ ns) = bind-keeps (label_keeps p done here e n.number) (λ _. next_labels_keep p done here e ns)

pub labels_keep : (p : Region) (done : List ℕ) (here : Frame) → here.region ≡ p.region → (o : Option LabelPartTree)
    → Keeps (Turn p done) (define_labels here o)
labels_keep p done here e None = give-keeps tt
labels_keep p done here e (Some c) = bind-keeps (label_keeps p done here e c.first) (λ _. next_labels_keep p done here e c.others)

pub no_split : (before : List ℕ) (x : ℕ) (after : List ℕ) → [] ≡ before ++ x ∷ after → ⊥
no_split [] x after e = cc
no_split (y ∷ ys) x after e = cc

-- ---- one definition

-- what a definition at a token comes to
pub record Defined (j i : Known) (region x : ℕ) (bs : List Break) : Type 0 where
  pub there : region < length i.regions
  pub more : (n : ℕ) → is_some (defined_in i.regions region n) ≡ (is_some (defined_in j.regions region n) || named j (x ∷ []) n)
  pub told : is_some (defined_in j.regions region (name_at j x)) ≡ true → In (broken_at 2 x) bs

defined_here : (region : ℕ) (d : Definition) (j : Known) → region < length j.regions
    → Defined j (define_in region d j).known region d.token (define_in region d j).broken
defined_here region d j below =
    let p : Region = record { k = j; region = region; t = d.token } in
    let ends = (define_goes p d).of [] j (begun j region d.token below) in
    record {
      there = ends.turn.there;
      more = ends.turn.names;
      told = λ held. ends.back (inl (refl, ap (λ b. b || false) held));
    }

when_regions : (b : Bool) (m : ℕ) (r : Row) (k : Known) → (when b (put m r) k).known.regions ≡ k.regions
unfolding when change give
when_regions true m r k = refl
when_regions false m r k = refl

pub directive_regions : (h : HeadingTree) (body : BodyTree) (k : Known) → (directive_in h body k).known.regions ≡ k.regions
unfolding directed look ◌>>=◌ ask give
directive_regions h (tree.a_directive directive) k =
    when_regions (is_forward k directive) (heading_name h) (Row.Part (PartRow.Forward (is_function h) None)) k
directive_regions h (tree.a_block_body b) k = refl

-- a heading that completes no other
pub defining_here : (region : ℕ) (r : RoutineTree) (j : Known) → region < length j.regions
    → Defined j (defining region (routine_heading r) (routine_body r) j).known region (routine_name r)
    (defining region (routine_heading r) (routine_body r) j).broken
unfolding defining define_heading ◌>>=◌ ask
defining_here region r j below =
    let x = routine_name r in
    let d : Definition = record { def = Def.Routine x; token = x; end = x } in
    let one = defined_here region d j below in
    let same = directive_regions (routine_heading r) (routine_body r) (define_in region d j).known in
    record {
      there = subst (λ (rs : List RegionRows). region < length rs) (sym same) one.there;
      more = λ n. ap (λ (rs : List RegionRows). is_some (defined_in rs region n)) same ∙ one.more n;
      told = λ held. in_left (broken_at 2 x) (define_heading region (routine_heading r) j).broken _
          (in_left (broken_at 2 x) (define_in region d j).broken _ (one.told held));
    }

pub or_either : (b c : Bool) → (b || c) ≡ true → (b ≡ true) ⊎ (c ≡ true)
or_either true c e = inl refl
or_either false c e = inr e
