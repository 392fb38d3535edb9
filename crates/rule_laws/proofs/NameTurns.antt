-- The definitions of a region in turn.
use Rattle.std.proofs.Common.{if◌then◌else◌, ◌++◌, ◌<◌, ◌||◌, ◌∙◌, ◌∷◌, ◌≡◌, ◌⊎◌, [], ℕ, Bool, List, None, Option, Some, ap, cond, false, inl, inr, is_none}
use Rattle.std.proofs.Common.{is_some, length, length-set, nat_eq, refl, subst, sym, true}
use Rattle.std.{proofs.lemmas.Bool.eqb-true, specs.List.list_any}
use Rattle.check_steps.specs.{Known.Known, Known.name_at, Names.define_in, Regions.defined_in, Regions.or_else, Regions.region_at}
use Rattle.check_steps.specs.Steps.{◌>>=◌, add_definition, ask, change, give, look, when}
use Rattle.check_steps.specs.declared.{breaks.Break.Break, regions.Definition.Definition, words.SpelledToken.SpelledToken}
use Rattle.rule_laws.proofs.{Breaks.In, Breaks.in_either, Breaks.in_left, InTurn.Goes, InTurn.Rule, Tables.defined-more, Tables.one_or_other, Touches.any-last}
use Rattle.rule_laws.proofs.Listed.{Listed, listed_left, listed_right}
use Rattle.rule_laws.specs.{Laws.broken_at, RegionNames.is_defined}

-- the definitions of a region that are gone over from tables on, and the name that is looked at
pub record Region : Type 0 where
  pub k : Known
  pub region : ℕ
  pub t : ℕ

abbrev pub named : Known → List ℕ → ℕ → Bool
named k xs n = list_any (λ y. nat_eq n (name_at k y)) xs

-- the tables where some of the names were defined
pub record Turn (p : Region) (done : List ℕ) (j : Known) : Type 0 where
  pub words : j.words ≡ p.k.words
  pub spellings : j.names ≡ p.k.names
  pub there : p.region < length j.regions
  pub names : (n : ℕ) → is_some (defined_in j.regions p.region n) ≡ (is_some (defined_in p.k.regions p.region n) || named p.k done n)
  pub tokens : (n : ℕ) (d : Definition) → defined_in j.regions p.region n ≡ Some d
      → (defined_in p.k.regions p.region n ≡ Some d) ⊎ Listed done d.token

abbrev pub rule_two : Region → Rule
rule_two p = record {
  X = ℕ;
  at = λ x. x;
  Turn = Turn p;
  Bad = λ done x. is_defined p.k p.region done x ≡ true;
  t = p.t;
  b = broken_at 2 p.t;
}

-- ---- one name

pub spelled_same : (k j : Known) (x : ℕ) → j.words ≡ k.words → name_at j x ≡ name_at k x
spelled_same k j x words = ap (λ (ws : List SpelledToken). name_at (record k { words = ws }) x) words

or_assoc : (a b c : Bool) → ((a || b) || c) ≡ (a || (b || c))
or_assoc true b c = refl
or_assoc false b c = refl

pub or_none : (b : Bool) → (b || false) ≡ b
or_none true = refl
or_none false = refl

or_last : (a b : Bool) → (a || (b || true)) ≡ true
or_last true b = refl
or_last false true = refl
or_last false false = refl

some_more : (o : Option Definition) (b : Bool) (d : Definition) → is_some (or_else o (cond b (Some d) None)) ≡ (is_some o || b)
some_more (Some x) b d = refl
some_more None true d = refl
some_more None false d = refl

-- what its definition comes to
record Defined (p : Region) (done : List ℕ) (d : Definition) (j : Known) (o : Option Definition) : Type 0 where
  turn : Turn p (done ++ d.token ∷ []) (when (is_none o) (add_definition p.region (name_at j d.token) d) j).known

pub named_more : (k : Known) (done : List ℕ) (x n : ℕ) → named k (done ++ x ∷ []) n ≡ (named k done n || nat_eq n (name_at k x))
named_more k done x n = any-last (λ y. nat_eq n (name_at k y)) done x

-- a name that is there
pub again_named : (p : Region) (done : List ℕ) (x : ℕ) (n : ℕ) (b : Bool) → nat_eq n (name_at p.k x) ≡ b
    → (is_some (defined_in p.k.regions p.region (name_at p.k x)) || named p.k done (name_at p.k x)) ≡ true
    → (is_some (defined_in p.k.regions p.region n) || named p.k done n)
    ≡ (is_some (defined_in p.k.regions p.region n) || (named p.k done n || b))
again_named p done x n true e there =
    let same : n ≡ name_at p.k x = eqb-true n (name_at p.k x) e in
    ap (λ m. is_some (defined_in p.k.regions p.region m) || named p.k done m) same ∙ there
    ∙ sym (or_last (is_some (defined_in p.k.regions p.region n)) (named p.k done n))
again_named p done x n false e there = ap (λ b. is_some (defined_in p.k.regions p.region n) || b) (sym (or_none (named p.k done n)))

pub token_more : {X : Type 0} (done : List ℕ) (x n : ℕ) → X ⊎ Listed done n → X ⊎ Listed (done ++ x ∷ []) n
token_more done x n (inl old) = inl old
token_more done x n (inr listed) = inr (listed_left done (x ∷ []) n listed)

defined_by : (p : Region) (done : List ℕ) (d : Definition) (j : Known) → Turn p done j → (o : Option Definition)
    → defined_in j.regions p.region (name_at j d.token) ≡ o → Defined p done d j o
unfolding when change give
defined_by p done d j t None e =
    let name = name_at j d.token in
    let same = spelled_same p.k j d.token t.words in
    let rows = region_at j.regions p.region in
    let more = record rows { names = rows.names ++ (name, d) ∷ [] } in
    record {
      turn = record {
        words = t.words;
        spellings = t.spellings;
        there = subst (λ size. p.region < size) (sym (length-set j.regions p.region more)) t.there;
        names = λ n.
            ap is_some (defined-more j p.region name n d t.there)
            ∙ some_more (defined_in j.regions p.region n) (nat_eq n name) d
            ∙ ap (λ b. b || nat_eq n name) (t.names n)
            ∙ ap (λ m. (is_some (defined_in p.k.regions p.region n) || named p.k done n) || nat_eq n m) same
            ∙ or_assoc (is_some (defined_in p.k.regions p.region n)) (named p.k done n) (nat_eq n (name_at p.k d.token))
            ∙ ap (λ b. is_some (defined_in p.k.regions p.region n) || b) (sym (named_more p.k done d.token n));
        tokens = λ n x found. elim (one_or_other (defined_in j.regions p.region n) (nat_eq n name) d x
            (sym (defined-more j p.region name n d t.there) ∙ found)) [
              | inl old ↦ token_more done d.token x.token (t.tokens n x old)
              | inr new ↦ inr (listed_right done (d.token ∷ []) x.token (inl (ap (λ (y : Definition). y.token) new.1)))
            ];
      };
    }
defined_by p done d j t (Some x) e =
    let same = spelled_same p.k j d.token t.words in
    let there : (is_some (defined_in p.k.regions p.region (name_at p.k d.token)) || named p.k done (name_at p.k d.token)) ≡ true
    = sym (t.names (name_at p.k d.token)) ∙ ap (λ m. is_some (defined_in j.regions p.region m)) (sym same) ∙ ap is_some e in
    record {
      turn = record {
        words = t.words;
        spellings = t.spellings;
        there = t.there;
        names = λ n. t.names n ∙ again_named p done d.token n (nat_eq n (name_at p.k d.token)) refl there
            ∙ ap (λ b. is_some (defined_in p.k.regions p.region n) || b) (sym (named_more p.k done d.token n));
        tokens = λ n y found. token_more done d.token y.token (t.tokens n y found);
      };
    }

told_if : (x t : ℕ) (o : Option Definition) → In (broken_at 2 t) (if is_none o then [] else broken_at 2 x ∷ []) → (x ≡ t) × (is_some o ≡ true)
told_if x t None i = absurd i
told_if x t (Some d) i = elim i [
  | inl e ↦ (ap (λ (b : Break). b.token) e, refl)
  | inr n ↦ absurd n
]

if_told : (x t : ℕ) (o : Option Definition) → x ≡ t → is_some o ≡ true → In (broken_at 2 t) (if is_none o then [] else broken_at 2 x ∷ [])
if_told x t None e there = absurd (let never : false ≡ true = there in cc)
if_told x t (Some d) e there = inl (ap (λ n. broken_at 2 n) e)

no_more : (b : Bool) (region name : ℕ) (d : Definition) (j : Known) → (when b (add_definition region name d) j).broken ≡ []
unfolding when change give
no_more true region name d j = refl
no_more false region name d j = refl

in_end : (b : Break) (xs ys : List Break) → ys ≡ [] → In b (xs ++ ys) → In b xs
in_end b xs ys none i = elim (in_either b xs ys i) [
  | inl l ↦ l
  | inr r ↦ absurd (subst (λ (l : List Break). In b l) none r)
]

pub define_goes : (p : Region) (d : Definition) → Goes (rule_two p) (d.token ∷ []) (define_in p.region d)
unfolding define_in look ◌>>=◌ ask
define_goes p d = record {
  of = λ done j t.
      let name = name_at j d.token in
      let o = defined_in j.regions p.region name in
      let same = spelled_same p.k j d.token t.words in
      let b = broken_at 2 p.t in
      let own = if is_none o then [] else broken_at 2 d.token ∷ [] in
      let rest = (when (is_none o) (add_definition p.region name d) j).broken in
      let is : is_some o ≡ is_defined p.k p.region done d.token
      = ap (λ m. is_some (defined_in j.regions p.region m)) same ∙ t.names (name_at p.k d.token) in
      record {
        turn = (defined_by p done d j t o refl).turn;
        forth = λ i.
            let q = told_if d.token p.t o (in_end b own rest (no_more (is_none o) p.region name d j) i) in
            inl (q.0, sym is ∙ q.1);
        back = λ w. elim w [
          | inl v ↦ in_left b own rest (if_told d.token p.t o v.0 (is ∙ v.1))
          | inr n ↦ absurd n
        ];
      };
}
