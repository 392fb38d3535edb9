-- Regions after one change of the tables.
use Rattle.std.proofs.Common.{◌++◌, ◌<◌, ◌∙◌, ◌∷◌, ◌≡◌, ◌⊎◌, [], ℕ, List, Some, ap, arith, inl, inr, length, nat_eq, refl, set, suc, sym, zero}
use Rattle.std.{proofs.lemmas.Bool.eqb-true, proofs.lemmas.Option.none-some, specs.Map.lookup}
use Rattle.check_steps.specs.{Known.Known, Known.and_definition, Known.and_label, Known.and_region, Regions.RegionRows, Regions.declared_in}
use Rattle.check_steps.specs.{Regions.fresh_region, Regions.region_at, declared.regions.Definition.Definition, declared.regions.Frame.Frame}
use Rattle.rule_laws.proofs.Tables.{lookup-last, one_or_other}

pub region_either : (rs : List RegionRows) (i r : ℕ) (x : RegionRows) → (region_at (set rs i x) r ≡ region_at rs r) ⊎ ((r ≡ i) × (region_at (set rs i x) r ≡ x))
region_either [] i r x = inl refl
region_either (y ∷ ys) zero zero x = inr (refl, refl)
region_either (y ∷ ys) zero (suc r) x = inl refl
region_either (y ∷ ys) (suc i) zero x = inl refl
region_either (y ∷ ys) (suc i) (suc r) x = elim (region_either ys i r x) [
  | inl e ↦ inl e
  | inr p ↦ inr (ap suc p.0, p.1)
]

-- one more region after them
pub region_before : (rs : List RegionRows) (r : ℕ) (x : RegionRows) → r < length rs → region_at (rs ++ x ∷ []) r ≡ region_at rs r
region_before [] r x below = absurd (omega (arith, below))
region_before (y ∷ ys) zero x below = refl
region_before (y ∷ ys) (suc r) x below = region_before ys r x (omega (arith, below))

pub last_region : (rs : List RegionRows) (x : RegionRows) → region_at (rs ++ x ∷ []) (length rs) ≡ x
last_region [] x = refl
last_region (y ∷ ys) x = last_region ys x

-- a definition leaves labels and frames of regions
pub definition_labels : (j : Known) (region name : ℕ) (d : Definition) (r v : ℕ)
    → declared_in (and_definition j region name d).regions r v ≡ declared_in j.regions r v
definition_labels j region name d r v =
    let rows = region_at j.regions region in
    let more = record rows { names = rows.names ++ (name, d) ∷ [] } in
    elim (region_either j.regions region r more) [
      | inl old ↦ ap (λ (x : RegionRows). lookup (nat_eq v) x.labels) old
      | inr new ↦ ap (λ (x : RegionRows). lookup (nat_eq v) x.labels) new.1 ∙ ap (λ i. declared_in j.regions i v) (sym new.0)
    ]

pub definition_frame : (j : Known) (region name : ℕ) (d : Definition) (r : ℕ)
    → (region_at (and_definition j region name d).regions r).frame ≡ (region_at j.regions r).frame
definition_frame j region name d r =
    let rows = region_at j.regions region in
    let more = record rows { names = rows.names ++ (name, d) ∷ [] } in
    elim (region_either j.regions region r more) [
      | inl old ↦ ap (λ (x : RegionRows). x.frame) old
      | inr new ↦ ap (λ (x : RegionRows). x.frame) new.1 ∙ ap (λ i. (region_at j.regions i).frame) (sym new.0)
    ]

-- a label leaves frames of regions, and labels of other regions
pub label_frame : (j : Known) (region value token r : ℕ)
    → (region_at (and_label j region value token).regions r).frame ≡ (region_at j.regions r).frame
label_frame j region value token r =
    let rows = region_at j.regions region in
    let more = record rows { labels = rows.labels ++ (value, token) ∷ [] } in
    elim (region_either j.regions region r more) [
      | inl old ↦ ap (λ (x : RegionRows). x.frame) old
      | inr new ↦ ap (λ (x : RegionRows). x.frame) new.1 ∙ ap (λ i. (region_at j.regions i).frame) (sym new.0)
    ]

pub label_labels : (j : Known) (region value token r v : ℕ) → (r ≡ region → ⊥)
    → declared_in (and_label j region value token).regions r v ≡ declared_in j.regions r v
label_labels j region value token r v apart =
    let rows = region_at j.regions region in
    let more = record rows { labels = rows.labels ++ (value, token) ∷ [] } in
    elim (region_either j.regions region r more) [
      | inl old ↦ ap (λ (x : RegionRows). lookup (nat_eq v) x.labels) old
      | inr new ↦ absurd (apart new.0)
    ]

-- ---- what is declared after a change was declared before, or is new

pub region_more : (rs : List RegionRows) (r : ℕ) (x : RegionRows) → (region_at (rs ++ x ∷ []) r ≡ region_at rs r) ⊎ (region_at (rs ++ x ∷ []) r ≡ x)
region_more [] zero x = inr refl
region_more [] (suc r) x = inl refl
region_more (y ∷ ys) zero x = inl refl
region_more (y ∷ ys) (suc r) x = region_more ys r x

pub label_either : (j : Known) (region value token r v d : ℕ) → declared_in (and_label j region value token).regions r v ≡ Some d
    → (declared_in j.regions r v ≡ Some d) ⊎ ((v ≡ value) × (token ≡ d))
label_either j region value token r v d found =
    let rows = region_at j.regions region in
    let more = record rows { labels = rows.labels ++ (value, token) ∷ [] } in
    elim (region_either j.regions region r more) [
      | inl old ↦ inl (sym (ap (λ (x : RegionRows). lookup (nat_eq v) x.labels) old) ∙ found)
      | inr new ↦ elim (one_or_other (lookup (nat_eq v) rows.labels) (nat_eq v value) token d
          (sym (lookup-last v value rows.labels token) ∙ sym (ap (λ (x : RegionRows). lookup (nat_eq v) x.labels) new.1) ∙ found)) [
            | inl old ↦ inl (ap (λ i. declared_in j.regions i v) new.0 ∙ old)
            | inr own ↦ inr (eqb-true v value own.0, own.1)
          ]
    ]

pub region_labels : (j : Known) (token : ℕ) (f : Frame) (r v d : ℕ) → declared_in (and_region j token f).regions r v ≡ Some d
    → declared_in j.regions r v ≡ Some d
region_labels j token f r v d found = elim (region_more j.regions r (fresh_region token (length j.frames))) [
  | inl old ↦ sym (ap (λ (x : RegionRows). lookup (nat_eq v) x.labels) old) ∙ found
  | inr new ↦ absurd (none-some d (sym (ap (λ (x : RegionRows). lookup (nat_eq v) x.labels) new) ∙ found))
]
