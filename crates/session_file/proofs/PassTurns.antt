-- JSON's loops, a turn at a time, under the conversion to data.
use Rattle.std.proofs.Common.{◌-◌, ◌<◌, ◌∙◌, ◌∷◌, ◌≡◌, ◌≤◌, ℕ, Err, IfErr, List, None, Ok, Option, Result, Some, ap, length, option_and_then, option_map, refl}
use Rattle.std.proofs.Common.{suc, zero}
use Rattle.json.proofs.Grammar.{items_end, items_more, members_end, members_more, members_no_key, value-begin_array, value-begin_object}
use Rattle.json.specs.Json.{Parse, after_end_array, items, items_step, members, parse_map, read_key, value}
use Rattle.json.specs.Json as json
use Rattle.json.specs.Token.{Token}
use Rattle.serde_json.specs.{Find.as_u64, Read.converted, Read.of_items, Read.of_json, Read.of_members}
use Rattle.serde_json.specs.Data.{Data, Items, Members, Num, array, item, no_members, object, put}
use Rattle.session_file.specs.{Making.all_made, Passing.items_read, Passing.members_read, Passing.value_read}

-- ---- what was read, taken apart

abbrev or_else : {A : Type 0} → A → Option A → A
or_else d None = d
or_else d (Some a) = a

same_part : {A B : Type 0} (a : A) (r s : List Token) (x : Option B) (b : B) → option_map {U = B × List Token} (λ y. (y, r)) x ≡ Some (b, s)
    → (r ≡ s) × (x ≡ Some b)
same_part a r s None b e = absurd (cc)
same_part a r s (Some y) b e = let same = ap (or_else (y, r)) e in (ap (λ p. p.1) same, ap (λ p. Some p.0) same)

pub converted_some : {A B : Type 0} (f : A → Option B) (o : Option (A × List Token)) (b : B) (r : List Token) → converted f o ≡ Some (b, r)
    → (a : A) × (o ≡ Some (a, r)) × (f a ≡ Some b)
converted_some f None b r e = absurd (cc)
converted_some f (Some p) b r e = let both = same_part p.0 p.1 r (f p.0) b e in (p.0, ap (λ s. Some (p.0, s)) both.0, both.1)

no_part : {B : Type 0} (r : List Token) (x : Option B) → option_map {U = B × List Token} (λ y. (y, r)) x ≡ None → x ≡ None
no_part r None e = refl
no_part r (Some y) e = absurd (cc)

mapped_part : {A B : Type 0} (g : A → B) (r : List Token) (x : Option A) → option_map (λ b. (b, r)) (option_map g x) ≡ parse_map g (option_map (λ a. (a, r)) x)
mapped_part g r None = refl
mapped_part g r (Some a) = refl

pub converted-array : (o : Option (json.Items × List Token)) → converted of_json (parse_map json.array o) ≡ parse_map array (converted of_items o)
converted-array None = refl
converted-array (Some p) = mapped_part array p.1 (of_items p.0)

pub converted-object : (o : Option (json.Members × List Token))
    → converted of_json (parse_map json.object o) ≡ parse_map object (converted (λ ms. of_members ms no_members) o)
converted-object None = refl
converted-object (Some p) = mapped_part object p.1 (of_members p.0 no_members)

-- ---- the items of an array, of which S is made: s of those so far

module _ {S : Type 0} (next : S → Data → S) where
  abbrev pub made_of : S → json.Items → Option S
  made_of s js = option_map (all_made next s) (of_items js)

  made_with : (s : S) (d : Data) (o : Option Items) → option_map (all_made next s) (option_map (item d) o) ≡ option_map (all_made next (next s d)) o
  made_with s d None = refl
  made_with s d (Some ds) = refl

  with_item : (s : S) (j : json.Json) (d : Data) → of_json j ≡ Some d → (o : Option (json.Items × List Token))
      → converted (made_of s) (parse_map (json.item j) o) ≡ converted (made_of (next s d)) o
  with_item s j d e None = refl
  with_item s j d e (Some p) =
      ap (λ (x : Option Data). option_map (λ b. (b, p.1)) (option_map (all_made next s) (option_and_then (λ y. option_map (item y) (of_items p.0)) x))) e
      ∙ ap (option_map (λ b. (b, p.1))) (made_with s d (of_items p.0))

  module _ (p : Parse json.Json) where
    pub item_made : (s : S) (n : ℕ) (ts r : List Token) (d : Data) → 0 < n → after_end_array ts ≡ None → converted of_json (p ts) ≡ Some (d, r)
        → converted (made_of s) (items p n ts) ≡ converted (made_of (next s d)) (items p (n - 1) r)
    item_made s n ts r d some going e =
        let j = converted_some of_json (p ts) d r e in
        ap (converted (made_of s)) (items_more p n ts r j.0 some going j.1) ∙ with_item s j.0 d j.2 _

    pub items_made : (s : S) (n : ℕ) (ts r : List Token) → length ts ≤ n → after_end_array ts ≡ Some r
        → converted (made_of s) (items p n ts) ≡ Some (s, r)
    items_made s n ts r enough e = ap (converted (made_of s)) (items_end p n ts r enough e)

  found_all : (s t : S) (js : json.Items) (x : Option Items) → of_items js ≡ x → option_map (all_made next s) x ≡ Some t
      → (ds : Items) × (of_items js ≡ Some ds) × (all_made next s ds ≡ t)
  found_all s t js None is e = absurd (cc)
  found_all s t js (Some ds) is e = (ds, is, ap (or_else t) e)

  -- what was made is made of all the items
  pub all_found : (s t : S) (o : Option (json.Items × List Token)) (r : List Token) → converted (made_of s) o ≡ Some (t, r)
      → (ds : Items) × (converted of_items o ≡ Some (ds, r)) × (all_made next s ds ≡ t)
  all_found s t o r e =
      let read = converted_some (made_of s) o t r e in
      let found = found_all s t read.0 (of_items read.0) refl read.2 in
      (found.0, ap (converted of_items) read.1 ∙ ap (option_map (λ b. (b, r))) found.1, found.2)

  none_of : (s : S) (r : List Token) (x : Option Items) → option_map {U = Items × List Token} (λ b. (b, r)) x ≡ None
      → option_map {U = S × List Token} (λ b. (b, r)) (option_map (all_made next s) x) ≡ None
  none_of s r None e = refl
  none_of s r (Some ds) e = absurd (cc)

  -- nothing is made of items that are refused
  pub none_made : (s : S) (o : Option (json.Items × List Token)) → converted of_items o ≡ None → converted (made_of s) o ≡ None
  none_made s None e = refl
  none_made s (Some p) e = none_of s p.1 (of_items p.0) e

  none_by : (s : S) (r : List Token) (x : Option Items) → option_map {U = S × List Token} (λ b. (b, r)) (option_map (all_made next s) x) ≡ None
      → option_map {U = Items × List Token} (λ b. (b, r)) x ≡ None
  none_by s r None e = refl
  none_by s r (Some ds) e = absurd (cc)

  pub none_read : (s : S) (o : Option (json.Items × List Token)) → converted (made_of s) o ≡ None → converted of_items o ≡ None
  none_read s None e = refl
  none_read s (Some p) e = none_by s p.1 (of_items p.0) e

-- ---- items and members that are refused

without_item : (j : json.Json) → of_json j ≡ None → (o : Option (json.Items × List Token)) → converted of_items (parse_map (json.item j) o) ≡ None
without_item j e None = refl
without_item j e (Some p) = rw e

with_member : (k : List ℕ) (j : json.Json) (d : Data) (old : Members) → of_json j ≡ Some d → (o : Option (json.Members × List Token))
    → converted (λ ms. of_members ms old) (parse_map (json.member k j) o) ≡ converted (λ ms. of_members ms (put k d old)) o
with_member k j d old e None = refl
with_member k j d old e (Some p) = rw e

without_member : (k : List ℕ) (j : json.Json) (old : Members) → of_json j ≡ None → (o : Option (json.Members × List Token))
    → converted (λ ms. of_members ms old) (parse_map (json.member k j) o) ≡ None
without_member k j old e None = refl
without_member k j old e (Some p) = rw e

module _ (p : Parse json.Json) where
  no_item : (more : Parse json.Items) (o : Option (json.Json × List Token)) → converted of_json o ≡ None
      → converted of_items (option_and_then (λ q. parse_map (json.item q.0) (more q.1)) o) ≡ None
  no_item more None e = refl
  no_item more (Some q) e = without_item q.0 (no_part q.1 (of_json q.0) e) (more q.1)

  pub item_refused : (n : ℕ) (ts : List Token) → after_end_array ts ≡ None → converted of_json (p ts) ≡ None → converted of_items (items p n ts) ≡ None
  unfolding items
  item_refused zero ts going e = refl
  item_refused (suc n) ts going e = ap (λ o. converted of_items (items_step p (items p n) ts o)) going ∙ no_item (items p n) (p ts) e

  -- ---- the members of an object: `old` are those so far

  module _ (old : Members) where
    pub member_read : (n : ℕ) (k : List ℕ) (ts s r : List Token) (d : Data) → 0 < n → read_key ts ≡ Some (Some k, s) → converted of_json (p s) ≡ Some (d, r)
        → converted (λ ms. of_members ms old) (members p n ts) ≡ converted (λ ms. of_members ms (put k d old)) (members p (n - 1) r)
    member_read n k ts s r d some key e =
        let j = converted_some of_json (p s) d r e in
        ap (converted (λ ms. of_members ms old)) (members_more p n k ts s r j.0 some key j.1) ∙ with_member k j.0 d old j.2 _

    no_member : (k : List ℕ) (more : Parse json.Members) (o : Option (json.Json × List Token)) → converted of_json o ≡ None
        → converted (λ ms. of_members ms old) (option_and_then (λ q. parse_map (json.member k q.0) (more q.1)) o) ≡ None
    no_member k more None e = refl
    no_member k more (Some q) e = without_member k q.0 old (no_part q.1 (of_json q.0) e) (more q.1)

    pub member_refused : (n : ℕ) (k : List ℕ) (ts s : List Token) → read_key ts ≡ Some (Some k, s) → converted of_json (p s) ≡ None
        → converted (λ ms. of_members ms old) (members p n ts) ≡ None
    unfolding members
    member_refused zero k ts s key e = refl
    member_refused (suc n) k ts s key e = rw key (no_member k (members p n) (p s) e)

    pub key_refused : (n : ℕ) (ts : List Token) → read_key ts ≡ None → converted (λ ms. of_members ms old) (members p n ts) ≡ None
    key_refused n ts e = ap (converted (λ ms. of_members ms old)) (members_no_key p n ts e)

    pub members_over : (n : ℕ) (ts r : List Token) → length ts ≤ n → read_key ts ≡ Some (None, r)
        → converted (λ ms. of_members ms old) (members p n ts) ≡ Some (old, r)
    members_over n ts r enough e = ap (converted (λ ms. of_members ms old)) (members_end p n ts r enough e)

-- ---- numbers

pub number_there : (o : Option Num) (n : Option ℕ) → Some n ≡ option_map as_u64 o → (m : Num) × (o ≡ Some m)
number_there None n e = absurd (cc)
number_there (Some m) n e = (m, refl)

pub no_number : (o : Option Num) → None ≡ option_map as_u64 o → o ≡ None
no_number None e = refl
no_number (Some m) e = absurd (cc)

-- ---- what holds whatever went wrong

pub whatever : {T E P : Type 0} (r : Result T E) → P → IfErr r (λ _. P)
whatever (Ok x) p = tt
whatever (Err e) p = p

-- ---- an array or an object that is opened

pub array_opened : (depth : ℕ) (rest : List Token) → 0 < depth → value_read depth (Token.begin_array ∷ rest) ≡ parse_map array (items_read (depth - 1) rest)
array_opened depth rest h =
    ap (converted of_json) (value-begin_array depth rest h) ∙ converted-array (items (value (depth - 1)) (length rest) rest)

pub object_opened : (depth : ℕ) (rest : List Token) → 0 < depth
    → value_read depth (Token.begin_object ∷ rest) ≡ parse_map object (members_read (depth - 1) rest)
object_opened depth rest h =
    ap (converted of_json) (value-begin_object depth rest h) ∙ converted-object (members (value (depth - 1)) (length rest) rest)
