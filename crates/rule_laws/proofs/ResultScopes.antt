-- What is found from inside of with statements: the fields of their records, and else what the block finds.
use Rattle.std.proofs.Common.{if◌then◌else◌, ◌+◌, ◌<◌, ◌||◌, ◌∙◌, ◌∷◌, ◌≡◌, ◌≤◌, [], ℕ, Bool, List, None, Option, Some, ap, arith, false, length, nat_eq}
use Rattle.std.proofs.Common.{nat_le, refl, subst, suc, sym, true, zero}
use Rattle.std.proofs.lemmas.{List.length-append, Option.none-some, Option.same_Some}
use Rattle.check_steps.specs.{Around.reach, Frames.frame_in, Names.usable, Regions.RegionRows, Regions.defined_in, Regions.or_else, Regions.region_at}
use Rattle.check_steps.specs.Known.{Known, find, find_from, found_with, frame_at}
use Rattle.check_steps.specs.declared.regions.{Definition.Definition, Found.Found, Frame.Frame}
use Rattle.statement_checker.specs.Assignments.{begins_at, is_inside_from}
use Rattle.rule_laws.proofs.{Alike.find-outermost, Alike.find_further, Alike.frame_still, Alike.got_left, Touches.Longer}
use Rattle.rule_laws.specs.WithRecords.{closest}

-- ---- frames of records, the innermost first, and that of the block around them

pub record Opens (fs : List Frame) (fields : ℕ) (Outward : ℕ → Type 0) (f : ℕ) : Type 0 where
  pub there : f < length fs
  pub region : (frame_in fs f).region ≡ fields
  pub next : ℕ
  pub outer : (frame_in fs f).outer ≡ Some next
  pub before : next < f
  pub rest : Outward next

abbrev pub Leads : List Frame → ℕ → List ℕ → ℕ → Type 0
Leads fs block [] f = f ≡ block
Leads fs block (region ∷ outer) f = Opens fs region (λ g. Leads fs block outer g) f

pub at_least : (fs gs : List Frame) → Longer fs gs → length fs ≤ length gs
at_least fs gs l =
    let many : length gs ≡ length fs + length l.more = ap length l.is ∙ length-append fs l.more in
    omega (arith, many)

frame_left : (fs gs : List Frame) → Longer fs gs → (f : ℕ) → f < length fs → frame_in gs f ≡ frame_in fs f
frame_left fs gs l f below =
    ap (λ (xs : List Frame). frame_in xs f) l.is ∙ got_left fs l.more (record { region = 0; outer = None; level = 0; withs = 0 }) f below

-- with more frames
pub leads_on : (fs gs : List Frame) → Longer fs gs → (block : ℕ) (records : List ℕ) (f : ℕ) → Leads fs block records f → Leads gs block records f
leads_on fs gs l block [] f h = h
leads_on fs gs l block (region ∷ outer) f h =
    let same = frame_left fs gs l f h.there in
    let more = at_least fs gs l in
    let below : f < length fs = h.there in
    record {
      there = omega (arith, more, below);
      region = ap (λ (g : Frame). g.region) same ∙ h.region;
      next = h.next;
      outer = ap (λ (g : Frame). g.outer) same ∙ h.outer;
      before = h.before;
      rest = leads_on fs gs l block outer h.next h.rest;
    }

pub leads_below : (fs : List Frame) (block : ℕ) (records : List ℕ) (f : ℕ) → block < length fs → Leads fs block records f → f < length fs
leads_below fs block [] f below h = subst (λ x. x < length fs) (sym h) below
leads_below fs block (region ∷ outer) f below h = h.there

-- ---- what is found

-- the definition that is found
abbrev pub defined : Option Found → Option Definition
defined None = None
defined (Some f) = Some f.definition

either_defined : (d : Option Definition) (f g : ℕ) (x y : Option Found) → defined x ≡ defined y
    → defined (or_else (found_with f d) x) ≡ defined (or_else (found_with g d) y)
either_defined None f g x y e = e
either_defined (Some d) f g x y e = refl

-- tables with more frames
pub record IsLonger (k j : Known) : Type 0 where
  pub regions : j.regions ≡ k.regions
  pub frames : Longer k.frames j.frames
  pub falls : (f : ℕ) → reach (frame_in k.frames f).outer ≤ f

finds_from : (k j : Known) → IsLonger k j → (block : ℕ) → block < length k.frames → (records : List ℕ) (f v n : ℕ) → Leads j.frames block records f → f < n
    → defined (find_from n j (Some f) v) ≡ defined (closest k block records v)
finds_from k j l block below [] f v n h enough =
    ap (λ x. defined (find_from n j (Some x) v)) h
    ∙ ap defined (find_further k j v l.regions l.frames l.falls n (length k.frames) (Some block) (omega (arith, below)) (omega (arith, enough, h))
    (omega (arith, below)))
finds_from k j l block below (region ∷ outer) f v zero h enough = absurd (omega (arith, enough))
finds_from k j l block below (region ∷ outer) f v (suc n) h enough =
    let before = h.before in
    ap (λ r. defined (or_else (found_with f (defined_in j.regions r v)) (find_from n j (frame_at j f).outer v))) h.region
    ∙ ap (λ (rs : List RegionRows). defined (or_else (found_with f (defined_in rs region v)) (find_from n j (frame_at j f).outer v))) l.regions
    ∙ ap (λ o. defined (or_else (found_with f (defined_in k.regions region v)) (find_from n j o v))) h.outer
    ∙ either_defined (defined_in k.regions region v) f block (find_from n j (Some h.next) v) (closest k block outer v)
    (finds_from k j l block below outer h.next v n h.rest (omega (arith, before, enough)))

pub finds : (k j : Known) → IsLonger k j → (block : ℕ) → block < length k.frames → (records : List ℕ) (f v : ℕ) → Leads j.frames block records f
    → defined (find j f v) ≡ defined (closest k block records v)
finds k j l block below records f v h =
    let more = at_least k.frames j.frames l.frames in
    finds_from k j l block below records f v (length j.frames) h (leads_below j.frames block records f (omega (arith, below, more)) h)

-- ---- by the definition alone

abbrev usable_by : ℕ → Option Definition → Option Definition
usable_by at None = None
usable_by at (Some d) = if nat_le d.end at then Some d else None

some_defined : (f : Found) (b : Bool) → defined (if b then Some f else None) ≡ (if b then Some f.definition else None)
some_defined f true = refl
some_defined f false = refl

usable_defined : (at : ℕ) (o : Option Found) → defined (usable at o) ≡ usable_by at (defined o)
usable_defined at None = refl
usable_defined at (Some f) = some_defined f (nat_le f.definition.end at)

pub usable_alike : (at : ℕ) (x y : Option Found) → defined x ≡ defined y → defined (usable at x) ≡ defined (usable at y)
usable_alike at x y e = usable_defined at x ∙ ap (usable_by at) e ∙ sym (usable_defined at y)

-- ---- a definition that is found is one of a region

pub record InRegion (k : Known) (d : Definition) : Type 0 where
  pub region : ℕ
  pub name : ℕ
  pub is : defined_in k.regions region name ≡ Some d

found_definition : (f : ℕ) (d : Definition) (o : Found) → Some (record { definition = d; frame = f }) ≡ Some o → d ≡ o.definition
found_definition f d o e =
    let one : Found = record { definition = d; frame = f } in
    let same : one ≡ o = same_Some one o e in
    ap (λ (x : Found). x.definition) same

found_either : (k : Known) (frame region v : ℕ) (d : Option Definition) (o : Option Found) (f : Found) → defined_in k.regions region v ≡ d
    → ((g : Found) → o ≡ Some g → InRegion k g.definition) → or_else (found_with frame d) o ≡ Some f → InRegion k f.definition
found_either k frame region v None o f at later e = later f e
found_either k frame region v (Some d) o f at later e = record {
  region = region;
  name = v;
  is = at ∙ ap (λ (x : Definition). Some x) (found_definition frame d f e);
}

find_defined : (k : Known) (n : ℕ) (at : Option ℕ) (v : ℕ) (f : Found) → find_from n k at v ≡ Some f → InRegion k f.definition
find_defined k n None v f e = absurd (none-some f (sym (find-outermost k n v) ∙ e))
find_defined k zero (Some frame) v f e = absurd (none-some f e)
find_defined k (suc n) (Some frame) v f e =
    found_either k frame (frame_at k frame).region v (defined_in k.regions (frame_at k frame).region v) (find_from n k (frame_at k frame).outer v) f refl
    (λ g same. find_defined k n (frame_at k frame).outer v g same) e

closest_defined : (k : Known) (block : ℕ) (records : List ℕ) (v : ℕ) (f : Found) → closest k block records v ≡ Some f → InRegion k f.definition
closest_defined k block [] v f e = find_defined k (length k.frames) (Some block) v f e
closest_defined k block (region ∷ outer) v f e =
    found_either k block region v (defined_in k.regions region v) (closest k block outer v) f refl (λ g same. closest_defined k block outer v g same) e

usable_is : (f g : Found) (b : Bool) → (if b then Some f else None) ≡ Some g → Some f ≡ Some g
usable_is f g true e = e
usable_is f g false e = absurd (none-some g e)

pub usable_found : (at : ℕ) (o : Option Found) (f : Found) → usable at o ≡ Some f → o ≡ Some f
usable_found at None f e = e
usable_found at (Some g) f e = usable_is g f (nat_le g.definition.end at) e

-- what is named there is defined in a region
pub named_defined : (k : Known) (block : ℕ) (records : List ℕ) (at v : ℕ) (f : Found) → usable at (closest k block records v) ≡ Some f
    → InRegion k f.definition
named_defined k block records at v f e = closest_defined k block records v f (usable_found at (closest k block records v) f e)

-- ---- the region around that begins at a token

outside : (k : Known) (n token : ℕ) → is_inside_from n k None token ≡ false
outside k zero token = refl
outside k (suc n) token = refl

or_right : (b : Bool) → (b || true) ≡ true
or_right true = refl
or_right false = refl

or_on : (a b c d : Bool) → c ≡ a → (b ≡ true → d ≡ true) → (a || b) ≡ true → (c || d) ≡ true
or_on true b c d same on e = ap (λ x. x || d) same
or_on false b c d same on e = ap (λ x. x || d) same ∙ on e

not_false : false ≡ true → ⊥
not_false e = cc

inside_block : (k j : Known) → IsLonger k j → (token m n : ℕ) (at : Option ℕ) → reach at ≤ length k.frames → m ≤ n → is_inside_from m k at token ≡ true
    → is_inside_from n j at token ≡ true
inside_block k j l token m n None within more e = absurd (not_false (sym (outside k m token) ∙ e))
inside_block k j l token zero n (Some f) within more e = absurd (not_false e)
inside_block k j l token (suc m) zero (Some f) within more e = absurd (omega (arith, more))
inside_block k j l token (suc m) (suc n) (Some f) within more e =
    let same : frame_at j f ≡ frame_at k f = frame_still k j l.frames f (omega (arith, within)) in
    let out : reach (frame_at k f).outer ≤ f = l.falls f in
    let begins : begins_at j f token ≡ begins_at k f token =
    ap (λ (g : Frame). nat_eq (region_at j.regions g.region).token token) same
    ∙ ap (λ (rs : List RegionRows). nat_eq (region_at rs (frame_at k f).region).token token) l.regions in
    or_on (begins_at k f token) (is_inside_from m k (frame_at k f).outer token) (begins_at j f token) (is_inside_from n j (frame_at j f).outer token) begins
    (λ inner. ap (λ (g : Frame). is_inside_from n j g.outer token) same
    ∙ inside_block k j l token m n (frame_at k f).outer (omega (arith, out, within)) (omega (arith, more)) inner) e

pub inside_records : (k j : Known) → IsLonger k j → (block : ℕ) → block < length k.frames → (token m : ℕ) → is_inside_from m k (Some block) token ≡ true
    → (records : List ℕ) (f n : ℕ) → Leads j.frames block records f → length records + m ≤ n → is_inside_from n j (Some f) token ≡ true
inside_records k j l block below token m e [] f n h more =
    ap (λ x. is_inside_from n j (Some x) token) h ∙ inside_block k j l token m n (Some block) (omega (arith, below)) (omega (arith, more)) e
inside_records k j l block below token m e (region ∷ outer) f zero h more = absurd (omega (arith, more))
inside_records k j l block below token m e (region ∷ outer) f (suc n) h more =
    ap (λ o. begins_at j f token || is_inside_from n j o token) h.outer
    ∙ ap (λ b. begins_at j f token || b) (inside_records k j l block below token m e outer h.next n h.rest (omega (arith, more)))
    ∙ or_right (begins_at j f token)
