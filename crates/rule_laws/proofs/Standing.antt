-- Frames that stay, and what a region declares from when it is opened.
use Rattle.std.proofs.Common.{◌++◌, ◌<◌, ◌∙◌, ◌∷◌, ◌≡◌, [], ℕ, Bool, List, None, Option, Some, ap, arith, length, length-set, nat_eq, refl, slice_get, subst}
use Rattle.std.{proofs.Common.suc, proofs.Common.sym, proofs.Common.unwrap_or, proofs.Common.zero, proofs.lemmas.List.length-append, specs.Map.lookup}
use Rattle.pas_tree.specs.BlockTrees.{RoutineTree}
use Rattle.core_program.specs.declared.rows.{Row.Row, TypeRow.TypeRow}
use Rattle.check_steps.specs.Known.{Known, and_definition, and_region, frame_at, name_at, with_row}
use Rattle.check_steps.specs.Regions.{RegionRows, declared_in, fresh_region, region_at}
use Rattle.check_steps.specs.Steps.{◌>>=◌, Step, change, extend, give, look}
use Rattle.check_steps.specs.declared.regions.{Definition.Definition, Frame.Frame}
use Rattle.denoter_checker.specs.Denoters.{open_record, put_record}
use Rattle.rule_laws.proofs.{Keeping.Keeps, Lasting.Declaring, Lasting.Lasting, Regions.definition_labels, Regions.last_region, Regions.region_before}

-- ---- a frame that stays, with a region that is there

pub record Stands (n : ℕ) (f : Frame) (j : Known) : Type 0 where
  pub there : slice_get j.frames n ≡ Some f
  pub below : f.region < length j.regions

pub got_still : {X : Type 0} (xs ys : List X) (n : ℕ) (x : X) → slice_get xs n ≡ Some x → slice_get (xs ++ ys) n ≡ Some x
got_still [] ys n x e = absurd (let never : None ≡ Some x = e in cc)
got_still (y ∷ xs) ys zero x e = e
got_still (y ∷ xs) ys (suc n) x e = got_still xs ys n x e

pub got_end : {X : Type 0} (xs : List X) (x : X) → slice_get (xs ++ x ∷ []) (length xs) ≡ Some x
got_end [] x = refl
got_end (y ∷ xs) x = got_end xs x

stands_defined : (n : ℕ) (f : Frame) (j : Known) (region name : ℕ) (d : Definition) → Stands n f j → Stands n f (and_definition j region name d)
stands_defined n f j region name d s =
    let rows = region_at j.regions region in
    let same = length-set j.regions region (record rows { names = rows.names ++ (name, d) ∷ [] }) in
    record { there = s.there; below = (let b = s.below in omega (arith, b, same)) }

pub standing : {G : RoutineTree → Type 0} (n : ℕ) (f : Frame) → Lasting G (Stands n f)
standing n f = record {
  puts = λ j m r quiet s. record { there = s.there; below = s.below };
  stays = λ j m s. record { there = s.there; below = s.below };
  bodies = λ j m r same s. record { there = s.there; below = s.below };
  routines = λ j r s. record { there = s.there; below = s.below };
  frames = λ j g s. record { there = got_still j.frames (g ∷ []) n f s.there; below = s.below };
  regions = λ j token g s. record {
    there = got_still j.frames (g ∷ []) n f s.there;
    below =
        let b = s.below in
        let more = length-append j.regions (fresh_region token (length j.frames) ∷ []) in
        omega (arith, b, more);
  };
  defines = λ j region d at s. stands_defined n f j region (name_at j d.token) d s;
  requires = λ j name d behind s. stands_defined n f j 0 name d s;
  chooses = λ j list value s. record { there = s.there; below = s.below };
  records = λ j word packed region cells variants fresh s. record { there = s.there; below = s.below };
  waits = λ j r g none s. record { there = s.there; below = s.below };
  completes = λ j region first position r g e s. record { there = s.there; below = s.below };
}

abbrev pub no_frame : Frame
no_frame = record { region = 0; outer = None; level = 0; withs = 0 }

pub stands_at : (n : ℕ) (f : Frame) (j : Known) → Stands n f j → frame_at j n ≡ f
stands_at n f j s = ap (λ (o : Option Frame). unwrap_or o no_frame) s.there

pub opened : (k : Known) (token : ℕ) (f : Frame) → f.region ≡ length k.regions → Stands (length k.frames) f (and_region k token f)
opened k token f e = record {
  there = got_end k.frames f;
  below =
      let more = length-append k.regions (fresh_region token (length k.frames) ∷ []) in
      omega (arith, e, more);
}

pub standing_all : {G : RoutineTree → Type 0} (n : ℕ) (f : Frame) → Declaring G (Stands n f)
standing_all n f = record {
  kept = standing n f;
  ends = λ j region d s. stands_defined n f j region (name_at j d.token) d s;
  declares = λ j region value token s.
      let rows = region_at j.regions region in
      let same = length-set j.regions region (record rows { labels = rows.labels ++ (value, token) ∷ [] }) in
      record { there = s.there; below = (let b = s.below in omega (arith, b, same)) };
  labels = λ j token value level s. record { there = s.there; below = s.below };
  heads = λ j name number region named few s. record { there = s.there; below = s.below };
}

-- ---- a region of fields

-- what is so of a record's frame until its type is made
pub record Opened (I : Known → Type 0) (n : ℕ) (f : Frame) (j : Known) : Type 0 where
  pub kept : I j
  pub stands : Stands n f j
  pub none : (value : ℕ) → declared_in j.regions f.region value ≡ None

pub opened_lasts : {G : RoutineTree → Type 0} {I : Known → Type 0} → Lasting G I → (n : ℕ) (f : Frame) → Lasting G (Opened I n f)
opened_lasts {G = G} {I = I} c n f =
    let e : Lasting G (Stands n f) = standing n f in
    record {
      puts = λ j m r quiet s. record { kept = c.puts j m r quiet s.kept; stands = e.puts j m r quiet s.stands; none = s.none };
      stays = λ j m s. record { kept = c.stays j m s.kept; stands = e.stays j m s.stands; none = s.none };
      bodies = λ j m r same s. record { kept = c.bodies j m r same s.kept; stands = e.bodies j m r same s.stands; none = s.none };
      routines = λ j r s. record { kept = c.routines j r s.kept; stands = e.routines j r s.stands; none = s.none };
      frames = λ j g s. record { kept = c.frames j g s.kept; stands = e.frames j g s.stands; none = s.none };
      regions = λ j token g s. record {
        kept = c.regions j token g s.kept;
        stands = e.regions j token g s.stands;
        none = λ v. ap (λ (x : RegionRows). lookup (nat_eq v) x.labels)
            (region_before j.regions f.region (fresh_region token (length j.frames)) s.stands.below)
            ∙ s.none v;
      };
      defines = λ j region d at s. record {
        kept = c.defines j region d at s.kept;
        stands = e.defines j region d at s.stands;
        none = λ v. definition_labels j region _ d f.region v ∙ s.none v;
      };
      requires = λ j name d behind s. record {
        kept = c.requires j name d behind s.kept;
        stands = e.requires j name d behind s.stands;
        none = λ v. definition_labels j 0 name d f.region v ∙ s.none v;
      };
      chooses = λ j list value s. record { kept = c.chooses j list value s.kept; stands = e.chooses j list value s.stands; none = s.none };
      records = λ j word packed region cells variants fresh s. record {
        kept = c.records j word packed region cells variants (record {
          before = fresh.before;
          held = fresh.held.kept;
          opened = fresh.opened;
          there = fresh.there;
          none = fresh.none;
        }) s.kept;
        stands = record { there = s.stands.there; below = s.stands.below };
        none = s.none;
      };
      waits = λ j r g none s. record { kept = c.waits j r g none s.kept; stands = e.waits j r g none s.stands; none = s.none };
      completes = λ j region first position r g x s. record {
        kept = c.completes j region first position r g x s.kept;
        stands = e.completes j region first position r g x s.stands;
        none = s.none;
      };
    }

-- A record type is made, whose region was opened before its fields.
pub record-made : {G : RoutineTree → Type 0} {I : Known → Type 0} → Lasting G I → (around word : ℕ) (packed : Bool) (variants : Option ℕ)
    (define : ℕ → Step (Unit {0})) (fields : ℕ → Step ℕ)
    → ((n : ℕ) (f : Frame) → Keeps (Opened I n f) (define n)) → ((n : ℕ) (f : Frame) → Keeps (Opened I n f) (fields n))
    → Keeps I (open_record around word >>= λ frame. define frame >>= λ _. fields frame >>= λ cells. put_record packed word frame cells variants)
unfolding open_record put_record look extend change give ◌>>=◌
record-made {I = I} c around word packed variants define fields defines makes = record {
  of = λ k i.
      let f : Frame = record { region = length k.regions; outer = Some around; level = (frame_at k around).level; withs = 0 } in
      let n = length k.frames in
      let j = and_region k word f in
      let start : Opened I n f j = record {
        kept = c.regions k word f i;
        stands = opened k word f refl;
        none = λ v. ap (λ (x : RegionRows). lookup (nat_eq v) x.labels) (last_region k.regions (fresh_region word n));
      } in
      let d = define n j in
      let e = fields n d.known in
      let end = (makes n f).of d.known ((defines n f).of j start) in
      let at = ap (λ (g : Frame). g.region) (stands_at n f e.known end.stands) in
      subst (λ region. I (with_row e.known word (Row.Type (TypeRow.Record packed region e.value variants)))) (sym at)
      (c.records e.known word packed f.region e.value variants (record {
        before = k;
        held = i;
        opened = refl;
        there = end.stands.below;
        none = end.none;
      }) end.kept);
}
