-- The labels that a block's label part declares, and their rows.
use Rattle.std.proofs.Common.{◌<◌, ◌∙◌, ◌∷◌, ◌≡◌, ◌⊎◌, [], ℕ, Bool, List, None, Option, Some, ap, arith, cond, false, inl, inr, is_none, is_some, length, map}
use Rattle.std.proofs.Common.{nat_eq, refl, subst, sym, true}
use Rattle.std.{proofs.lemmas.Bool.eq-eqb, specs.Map.lookup}
use Rattle.pas_tree.specs.{BlockTrees.BlockTree, BlockTrees.LabelPartTree, StatementPlaces.compound_word, declared.blocks.NextLabel.NextLabel}
use Rattle.pas_tree.specs.BlockTrees as tree
use Rattle.pas_tree.specs.TreeNodes.{block_node, compound_node, constant_part_node, routines_node, type_part_node, variable_part_node}
use Rattle.core_program.specs.{ProgramRows.ProgramRows, ProgramRows.row_at as row_in, declared.rows.NameRow.NameRow, declared.rows.Row.Row}
use Rattle.check_steps.specs.{Names.declare_in, Regions.RegionRows, Regions.declared_in, Regions.fresh_region, Regions.or_else}
use Rattle.check_steps.specs.Known.{Known, and_definition, label_at, name_at, row_at, with_row}
use Rattle.check_steps.specs.Steps.{◌>>=◌, add_label, ask, change, each, give, look, when}
use Rattle.check_steps.specs.declared.{regions.Definition.Definition, regions.Frame.Frame, words.SpelledToken.SpelledToken}
use Rattle.denoter_checker.specs.RoutineParts.{define_routines}
use Rattle.decl_checker.specs.{Labels.define_label, Labels.define_labels, Labels.define_next_label, Routines.block}
use Rattle.decl_checker.specs.Blocks.{define_block, define_constants, define_types, define_variables, word_after}
use Rattle.rule_laws.proofs.{Breaks.Each, Chains.labels_have, Faces.row_either, Keeping.Keeps, Keeping.bind-keeps, LabelParts.declared_more, Lasting.Ends}
use Rattle.rule_laws.proofs.{Lasting.Lasting, LastsLabels.define_label-lasts, LastsRoutineParts.define_routines-lasts, Leaves.Leaves, Leaves.bind-leaves}
use Rattle.rule_laws.proofs.{Leaves.is_fast, LeavesBlocks.types-leaves, LeavesBlocks.variables-leaves, LeavesRoutineParts.define_routines-leaves}
use Rattle.rule_laws.proofs.{LeavesRoutines.routines_in-leaves, LeavesStatements.compound_uses-leaves, Listed.Listed, Once.every_other}
use Rattle.rule_laws.proofs.{Regions.definition_labels, Regions.label_either, Regions.region_before, Standing.Stands, Standing.standing, Standing.standing_all}
use Rattle.rule_laws.proofs.{Standing.stands_at, Tables.row_put, TextFields.Any, TextFields.any_each, TextForwards.Both, TextForwards.both_all}
use Rattle.rule_laws.proofs.LastsBlocks.{define_constants-lasts, define_types-lasts, define_variables-lasts}
use Rattle.rule_laws.proofs.LeavesBlocks.{constants-leaves, define_constants-leaves, define_types-leaves, define_variables-leaves, put_body-leaves}
use Rattle.rule_laws.specs.{ForwardHeadings.routines_in as listed, NameLaws.block_labels, RegionNames.label_token, RegionNames.labels_of, Tokens.IsDistinct}

-- ---- a value that the region of a frame declares

pub record Declares (n : ℕ) (f : Frame) (v d : ℕ) (j : Known) : Type 0 where
  pub stands : Stands n f j
  pub is : declared_in j.regions f.region v ≡ Some d

declares_defined : (n : ℕ) (f : Frame) (v d : ℕ) (j : Known) (region name : ℕ) (x : Definition) → Stands n f (and_definition j region name x)
    → Declares n f v d j → Declares n f v d (and_definition j region name x)
declares_defined n f v d j region name x stands s = record { stands = stands; is = definition_labels j region name x f.region v ∙ s.is }

declares_ends : (n : ℕ) (f : Frame) (v d : ℕ) → Ends (Declares n f v d)
declares_ends n f v d j region x s = declares_defined n f v d j region (name_at j x.token) x ((standing_all {G = Any} n f).ends j region x s.stands) s

pub declares_lasts : (n : ℕ) (f : Frame) (v d : ℕ) → Lasting Any (Declares n f v d)
declares_lasts n f v d =
    let c : Lasting Any (Stands n f) = standing n f in
    record {
      puts = λ j m r quiet s. record { stands = c.puts j m r quiet s.stands; is = s.is };
      stays = λ j m s. record { stands = c.stays j m s.stands; is = s.is };
      bodies = λ j m r same s. record { stands = c.bodies j m r same s.stands; is = s.is };
      routines = λ j r s. record { stands = c.routines j r s.stands; is = s.is };
      frames = λ j g s. record { stands = c.frames j g s.stands; is = s.is };
      regions = λ j token g s. record {
        stands = c.regions j token g s.stands;
        is = ap (λ (r : RegionRows). lookup (nat_eq v) r.labels)
            (region_before j.regions f.region (fresh_region token (length j.frames)) s.stands.below) ∙ s.is;
      };
      defines = λ j region x at s. declares_ends n f v d j region x s;
      requires = λ j name x behind s. declares_defined n f v d j 0 name x (c.requires j name x behind s.stands) s;
      chooses = λ j list x s. record { stands = c.chooses j list x s.stands; is = s.is };
      records = λ j word packed region cells variants fresh s. record { stands = record { there = s.stands.there; below = s.stands.below }; is = s.is };
      waits = λ j r g none s. record { stands = c.waits j r g none s.stands; is = s.is };
      completes = λ j region first position r g e s. record { stands = c.completes j region first position r g e s.stands; is = s.is };
    }

-- ---- one label

some_else : (o p : Option ℕ) → is_some o ≡ true → is_some (or_else o p) ≡ true
some_else None p e = absurd cc
some_else (Some x) p e = refl

own_else : (o : Option ℕ) (v token : ℕ) → is_some (or_else o (cond (nat_eq v v) (Some token) None)) ≡ true
own_else (Some x) v token = refl
own_else None v token = by (nat_eq v v) (eq-eqb v v refl)
  where
    by : (b : Bool) → b ≡ true → is_some (cond b (Some token) None) ≡ true
    by true e = refl
    by false e = absurd cc

when_declared : (j : Known) (region value token : ℕ) → region < length j.regions → (o : Option ℕ) → declared_in j.regions region value ≡ o
    → is_some (declared_in (when (is_none o) (add_label region value token) j).known.regions region value) ≡ true
unfolding when change give
when_declared j region value token below (Some x) e = ap is_some e
when_declared j region value token below None e =
    ap is_some (declared_more j region value value token below) ∙ own_else (declared_in j.regions region value) value token

declared_now : (j : Known) (region value token : ℕ) → region < length j.regions
    → is_some (declared_in (declare_in region value token j).known.regions region value) ≡ true
unfolding declare_in look ◌>>=◌ ask
declared_now j region value token below = when_declared j region value token below (declared_in j.regions region value) refl

when_still : (j : Known) (region value token v : ℕ) → region < length j.regions → (b : Bool) → is_some (declared_in j.regions region v) ≡ true
    → is_some (declared_in (when b (add_label region value token) j).known.regions region v) ≡ true
unfolding when change give
when_still j region value token v below true some =
    ap is_some (declared_more j region value v token below)
    ∙ some_else (declared_in j.regions region v) (cond (nat_eq v value) (Some token) None) some
when_still j region value token v below false some = some

declared_still : (j : Known) (region value token v : ℕ) → region < length j.regions → is_some (declared_in j.regions region v) ≡ true
    → is_some (declared_in (declare_in region value token j).known.regions region v) ≡ true
unfolding declare_in look ◌>>=◌ ask
declared_still j region value token v below some = when_still j region value token v below (is_none (declared_in j.regions region value)) some

-- ---- a label part

-- the frame of a block, where its label part is gone over; its region declares some of these labels
pub record Base (k : Known) (t : BlockTree) (n : ℕ) (f : Frame) (L : ℕ → Type 0) (j : Known) : Type 0 where
  pub both : Both k t j
  pub stands : Stands n f j
  pub mine : (v d : ℕ) → declared_in j.regions f.region v ≡ Some d → L d

abbrev pub label_row : Known → Frame → ℕ → Row
label_row k f d = Row.Name (NameRow.Label false (label_at k d) f.level 0)

-- and one of its labels was
record Done (k : Known) (t : BlockTree) (n : ℕ) (f : Frame) (L : ℕ → Type 0) (d : ℕ) (j : Known) : Type 0 where
  base : Base k t n f L j
  some : is_some (declared_in j.regions f.region (label_at k d)) ≡ true
  row : row_at j d ≡ label_row k f d

spelled_same : (k j : Known) (x : ℕ) → j.words ≡ k.words → label_at j x ≡ label_at k x
spelled_same k j x words = ap (λ (ws : List SpelledToken). label_at (record k { words = ws }) x) words

label_rows : (f : Frame) (x : ℕ) (j : Known) → let i = (declare_in f.region (label_at j x) x j).known in
    (define_label f x j).known ≡ with_row i x (Row.Name (NameRow.Label false (label_at j x) f.level 0))
unfolding define_label look ◌>>=◌ ask change
label_rows f x j = refl

when_rows : (region value token : ℕ) (j : Known) (b : Bool) → (when b (add_label region value token) j).known.program ≡ j.program
unfolding when change give
when_rows region value token j true = refl
when_rows region value token j false = refl

declared_program : (region value token : ℕ) (j : Known) → (declare_in region value token j).known.program ≡ j.program
unfolding declare_in look ◌>>=◌ ask
declared_program region value token j = when_rows region value token j (is_none (declared_in j.regions region value))

when_mine : (region value token : ℕ) (j : Known) (b : Bool) (v d : ℕ)
    → declared_in (when b (add_label region value token) j).known.regions region v ≡ Some d → (declared_in j.regions region v ≡ Some d) ⊎ (token ≡ d)
unfolding when change give
when_mine region value token j true v d e = elim (label_either j region value token region v d e) [
  | inl old ↦ inl old
  | inr new ↦ inr new.1
]
when_mine region value token j false v d e = inl e

declared_mine : (region value token : ℕ) (j : Known) (v d : ℕ)
    → declared_in (declare_in region value token j).known.regions region v ≡ Some d → (declared_in j.regions region v ≡ Some d) ⊎ (token ≡ d)
unfolding declare_in look ◌>>=◌ ask
declared_mine region value token j v d e = when_mine region value token j (is_none (declared_in j.regions region value)) v d e

base_on : (k : Known) (t : BlockTree) (n : ℕ) (f : Frame) (L : ℕ → Type 0) (x : ℕ) (j : Known) → L x → Base k t n f L j
    → Base k t n f L (define_label f x j).known
base_on k t n f L x j ok s =
    let same = label_rows f x j in
    record {
      both = (define_label-lasts (both_all k t) f x).of j s.both;
      stands = (define_label-lasts (standing_all {G = Any} n f) f x).of j s.stands;
      mine = λ v d e. elim (declared_mine f.region (label_at j x) x j v d (sym (ap (λ (h : Known). declared_in h.regions f.region v) same) ∙ e)) [
        | inl old ↦ s.mine v d old
        | inr new ↦ subst L new ok
      ];
    }

label_done : (k : Known) (t : BlockTree) (n : ℕ) (f : Frame) (L : ℕ → Type 0) (x d : ℕ) (j : Known) → L x → Done k t n f L d j
    → Done k t n f L d (define_label f x j).known
label_done k t n f L x d j ok s =
    let v = label_at j x in
    let i = (declare_in f.region v x j).known in
    let words = s.base.both.sound.words in
    let same = label_rows f x j in
    record {
      base = base_on k t n f L x j ok s.base;
      some = ap (λ (h : Known). is_some (declared_in h.regions f.region (label_at k d))) same
          ∙ declared_still j f.region v x (label_at k d) s.base.stands.below s.some;
      row = ap (λ (h : Known). row_at h d) same ∙ elim (row_either i x d (Row.Name (NameRow.Label false v f.level 0))) [
        | inl old ↦ old ∙ ap (λ (p : ProgramRows). row_in p d) (declared_program f.region v x j) ∙ s.row
        | inr new ↦ new.1 ∙ ap (λ m. Row.Name (NameRow.Label false m f.level 0)) (spelled_same k j x words ∙ ap (label_at k) (sym new.0))
      ];
    }

label_first : (k : Known) (t : BlockTree) (n : ℕ) (f : Frame) (L : ℕ → Type 0) (d : ℕ) (j : Known) → L d → d < length k.words → Base k t n f L j
    → Done k t n f L d (define_label f d j).known
label_first k t n f L d j ok few s =
    let v = label_at j d in
    let i = (declare_in f.region v d j).known in
    let words = s.both.sound.words in
    let value = spelled_same k j d words in
    let same = label_rows f d j in
    let room = s.both.roomy.room in
    let many = ap (λ (p : ProgramRows). length p.rows) (declared_program f.region v d j) in
    record {
      base = base_on k t n f L d j ok s;
      some = ap (λ (h : Known). is_some (declared_in h.regions f.region (label_at k d))) same
          ∙ ap (λ m. is_some (declared_in i.regions f.region m)) (sym value) ∙ declared_now j f.region v d s.stands.below;
      row = ap (λ (h : Known). row_at h d) same
          ∙ row_put i d (Row.Name (NameRow.Label false v f.level 0)) (omega (arith, few, room, many))
          ∙ ap (λ m. Row.Name (NameRow.Label false m f.level 0)) value;
    }

-- labels of which each is one of these
abbrev All : (ℕ → Type 0) → List NextLabel → Type 0
All L ls = Each (λ (l : NextLabel). L l.number) ls

nexts_done : (k : Known) (t : BlockTree) (n : ℕ) (f : Frame) (L : ℕ → Type 0) (ls : List NextLabel) (d : ℕ) (j : Known) → All L ls → Done k t n f L d j
    → Done k t n f L d (each (define_next_label f) tt ls j).known
unfolding define_next_label ◌>>=◌ give
nexts_done k t n f L [] d j all s = s
nexts_done k t n f L (l ∷ ls) d j all s =
    nexts_done k t n f L ls d (define_label f l.number j).known all.1 (label_done k t n f L l.number d j all.0 s)

nexts_first : (k : Known) (t : BlockTree) (n : ℕ) (f : Frame) (L : ℕ → Type 0) (ls : List NextLabel) (d : ℕ) (j : Known) → All L ls → d < length k.words
    → Listed (map label_token ls) d → Base k t n f L j → Done k t n f L d (each (define_next_label f) tt ls j).known
unfolding define_next_label ◌>>=◌ give
nexts_first k t n f L [] d j all few h s = absurd h
nexts_first k t n f L (l ∷ ls) d j all few (inl e) s =
    nexts_done k t n f L ls d (define_label f l.number j).known all.1
    (subst (λ x. Done k t n f L d (define_label f x j).known) (sym e) (label_first k t n f L d j (subst L e all.0) few s))
nexts_first k t n f L (l ∷ ls) d j all few (inr h) s =
    nexts_first k t n f L ls d (define_label f l.number j).known all.1 few h (base_on k t n f L l.number j all.0 s)

nexts_all : (L : ℕ → Type 0) (ls : List NextLabel) → ((d : ℕ) → Listed (map label_token ls) d → L d) → All L ls
nexts_all L [] h = tt
nexts_all L (l ∷ ls) h = (h l.number (inl refl), nexts_all L ls (λ d i. h d (inr i)))

labels_done : (k : Known) (t : BlockTree) (n : ℕ) (f : Frame) (L : ℕ → Type 0) (p : Option LabelPartTree) (d : ℕ) (j : Known)
    → ((x : ℕ) → Listed (labels_of p) x → L x) → d < length k.words → Listed (labels_of p) d → Base k t n f L j
    → Done k t n f L d (define_labels f p j).known
unfolding ◌>>=◌
labels_done k t n f L None d j ok few h s = absurd h
labels_done k t n f L (Some p) d j ok few (inl e) s =
    nexts_done k t n f L p.others d (define_label f p.first j).known (nexts_all L p.others (λ x i. ok x (inr i)))
    (subst (λ x. Done k t n f L d (define_label f x j).known) (sym e) (label_first k t n f L d j (ok d (inl e)) few s))
labels_done k t n f L (Some p) d j ok few (inr h) s =
    nexts_first k t n f L p.others d (define_label f p.first j).known (nexts_all L p.others (λ x i. ok x (inr i))) few h
    (base_on k t n f L p.first j (ok p.first (inl refl)) s)

-- ---- a block

-- all tokens but one
abbrev pub But : ℕ → ℕ → Type 0
But d n = n ≡ d → ⊥

-- The region of the block declares the label's value, at one of its labels, and the label's row is there.
pub record Own (k : Known) (n : ℕ) (f : Frame) (labels : List ℕ) (d : ℕ) (j : Known) : Type 0 where
  pub first : ℕ
  pub listed : Listed labels first
  pub declares : Declares n f (label_at k d) first j
  pub row : row_at j d ≡ label_row k f d

record Got (o : Option ℕ) : Type 0 where
  d : ℕ
  is : o ≡ Some d

got : (o : Option ℕ) → is_some o ≡ true → Got o
got None e = absurd (let never : false ≡ true = e in cc)
got (Some d) e = record { d = d; is = refl }

pub block_own : (k : Known) (t : BlockTree) (n : ℕ) (f : Frame) (b : BlockTree) (d : ℕ) (j : Known) → IsDistinct (block_node b) → d < length k.words
    → Listed (block_labels b) d → Base k t n f (Listed (block_labels b)) j → Own k n f (block_labels b) d (define_block n b j).known
unfolding look ◌>>=◌
block_own k t n f (tree.a_block labels consts kinds variable_part routines body) d j distinct few h base =
    let has = labels_have labels d h in
    let v = label_at k d in
    let a = define_labels f labels j in
    let done = labels_done k t n f (Listed (labels_of labels)) labels d j (λ x i. i) few h base in
    let first = got (declared_in a.known.regions f.region v) done.some in
    let c = declares_lasts n f v first.d in
    let ends = declares_ends n f v first.d in
    let rest : Leaves (But d) (define_constants f.region consts >>= λ _. define_types f.region kinds >>= λ _. define_variables f.region variable_part >>= λ _.
    define_routines f.region routines) =
    bind-leaves (define_constants-leaves f.region consts (every_other (constant_part_node consts) d (λ i. distinct.2 d has (inl i)))) (λ _.
    bind-leaves (define_types-leaves f.region kinds (every_other (type_part_node kinds) d (λ i. distinct.2 d has (inr (inl i))))) (λ _.
    bind-leaves (define_variables-leaves f.region variable_part (every_other (variable_part_node variable_part) d (λ i. distinct.2 d has (inr (inr (inl i))))))
    (λ _. define_routines-leaves f.region routines (every_other (routines_node routines) d (λ i. distinct.2 d has (inr (inr (inr (inl i))))))))) in
    let kept : Keeps (Declares n f v first.d) (define_constants f.region consts >>= λ _. define_types f.region kinds >>= λ _.
    define_variables f.region variable_part >>= λ _. define_routines f.region routines) =
    bind-keeps (define_constants-lasts ends f.region consts) (λ _. bind-keeps (define_types-lasts c ends f.region kinds) (λ _.
    bind-keeps (define_variables-lasts c f.region variable_part) (λ _. define_routines-lasts c f.region routines (any_each (listed routines))))) in
    subst (λ (here : Frame). Own k n f (labels_of labels) d ((define_labels here labels >>= λ _. define_constants here.region consts >>= λ _.
    define_types here.region kinds >>= λ _. define_variables here.region variable_part >>= λ _. define_routines here.region routines) j).known)
    (sym (stands_at n f j base.stands)) (record {
      first = first.d;
      listed = done.base.mine v first.d first.is;
      declares = kept.of a.known (record { stands = done.base.stands; is = first.is });
      row = rest.of a.known d (λ o. o.is refl) (ap is_fast done.row) ∙ done.row;
    })

-- what is said of the block leaves the row
pub rest_leaves : (frame number place : ℕ) (b : BlockTree) (d : ℕ) → IsDistinct (block_node b) → Listed (block_labels b) d
    → Leaves (But d) (block frame number place b)
rest_leaves frame number place (tree.a_block labels consts kinds variable_part routines body) d distinct h =
    let has = labels_have labels d h in
    let rs = every_other (routines_node routines) d (λ i. distinct.2 d has (inr (inr (inr (inl i))))) in
    bind-leaves (
    bind-leaves (constants-leaves frame consts (every_other (constant_part_node consts) d (λ i. distinct.2 d has (inl i)))) (λ _.
    bind-leaves (types-leaves frame (word_after variable_part routines body) kinds
    (every_other (type_part_node kinds) d (λ i. distinct.2 d has (inr (inl i))))) (λ _.
    variables-leaves frame place variable_part (every_other (variable_part_node variable_part) d (λ i. distinct.2 d has (inr (inr (inl i))))))))
    (λ end. bind-leaves (put_body-leaves number end (compound_word body)) (λ _. bind-leaves (routines_in-leaves frame routines routines rs rs)
    (λ _. compound_uses-leaves frame body (every_other (compound_node body) d (λ i. distinct.2 d has (inr (inr (inr (inr i)))))))))
