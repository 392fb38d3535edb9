-- The first frame outward whose region is a home of the name is that of its definition.
use Rattle.std.proofs.Common.{if◌then◌else◌, ◌∙◌, ◌≡◌, ℕ, Bool, IfSome, List, None, Option, Some, ap, false, length, refl, suc, sym, true, zero}
use Rattle.std.proofs.lemmas.Option.{same_Some}
use Rattle.check_steps.proofs.Outward.{find-outermost, label-outermost}
use Rattle.check_steps.specs.{Around.first_around, Around.is_among, Regions.declared_in, Regions.defined_in, Regions.or_else, declared.regions.Found.Found}
use Rattle.check_steps.specs.Known.{Known, find, find_from, find_label, find_label_from, found_in, found_with, frame_at}

-- ---- names

nowhere-turn : (k : Known) (n f name : ℕ) (b : Bool) (rest : Option ℕ) → (b ≡ false → defined_in k.regions (frame_at k f).region name ≡ None)
    → (rest ≡ None → find_from n k (frame_at k f).outer name ≡ None) → (if b then Some f else rest) ≡ None → find_from (suc n) k (Some f) name ≡ None
nowhere-turn k n f name true rest here on e = cc
nowhere-turn k n f name false rest here on e =
    ap (λ d. or_else (found_with f d) (find_from n k (frame_at k f).outer name)) (here refl) ∙ on e

nowhere-from : (k : Known) (name : ℕ) (test : ℕ → Bool) → ((r : ℕ) → test r ≡ false → defined_in k.regions r name ≡ None) → (n : ℕ) (at : Option ℕ)
    → first_around n k.frames test at ≡ None → find_from n k at name ≡ None
nowhere-from k name test none n None e = find-outermost k n name
nowhere-from k name test none zero (Some f) e = refl
nowhere-from k name test none (suc n) (Some f) e =
    nowhere-turn k n f name (test (frame_at k f).region) (first_around n k.frames test (frame_at k f).outer) (none (frame_at k f).region)
    (nowhere-from k name test none n (frame_at k f).outer) e

there-turn : (k : Known) (n f name g : ℕ) (found : Found) (b : Bool) (rest : Option ℕ) → found_in k g name ≡ Some found
    → (b ≡ false → defined_in k.regions (frame_at k f).region name ≡ None) → (rest ≡ Some g → find_from n k (frame_at k f).outer name ≡ Some found)
    → (if b then Some f else rest) ≡ Some g → find_from (suc n) k (Some f) name ≡ Some found
there-turn k n f name g found true rest is here on e =
    ap (λ o. or_else o (find_from n k (frame_at k f).outer name)) (ap (λ h. found_in k h name) (same_Some f g e) ∙ is)
there-turn k n f name g found false rest is here on e =
    ap (λ d. or_else (found_with f d) (find_from n k (frame_at k f).outer name)) (here refl) ∙ on e

there-from : (k : Known) (name g : ℕ) (found : Found) (test : ℕ → Bool) → found_in k g name ≡ Some found
    → ((r : ℕ) → test r ≡ false → defined_in k.regions r name ≡ None) → (n : ℕ) (at : Option ℕ)
    → first_around n k.frames test at ≡ Some g → find_from n k at name ≡ Some found
there-from k name g found test is none zero None e = cc
there-from k name g found test is none (suc n) None e = cc
there-from k name g found test is none zero (Some f) e = cc
there-from k name g found test is none (suc n) (Some f) e =
    there-turn k n f name g found (test (frame_at k f).region) (first_around n k.frames test (frame_at k f).outer) is (none (frame_at k f).region)
    (there-from k name g found test is none n (frame_at k f).outer) e

first-is : (result : Option (Option ℕ)) (v w : Option ℕ) → IfSome result (λ first. first ≡ v) → result ≡ Some w → v ≡ w
first-is None v w p e = cc
first-is (Some first) v w p e = sym p ∙ same_Some first w e

-- no region around may define the name
pub home-nowhere : (k : Known) (homes : List ℕ) (frame name : ℕ) (result : Option (Option ℕ))
    → ((r : ℕ) → is_among homes r ≡ false → defined_in k.regions r name ≡ None)
    → IfSome result (λ first. first ≡ first_around (length k.frames) k.frames (is_among homes) (Some frame))
    → result ≡ Some None → find k frame name ≡ None
home-nowhere k homes frame name result are p e =
    nowhere-from k name (is_among homes) are (length k.frames) (Some frame) (first-is result _ None p e)

-- the first one does
pub home-there : (k : Known) (homes : List ℕ) (frame name : ℕ) (result : Option (Option ℕ))
    → ((r : ℕ) → is_among homes r ≡ false → defined_in k.regions r name ≡ None)
    → IfSome result (λ first. first ≡ first_around (length k.frames) k.frames (is_among homes) (Some frame))
    → (f : ℕ) (found : Found) → result ≡ Some (Some f) → found_in k f name ≡ Some found → find k frame name ≡ Some found
home-there k homes frame name result are p f found e is =
    there-from k name f found (is_among homes) is are (length k.frames) (Some frame) (first-is result _ (Some f) p e)

-- ---- labels

label-nowhere-turn : (k : Known) (n f value : ℕ) (b : Bool) (rest : Option ℕ) → (b ≡ false → declared_in k.regions (frame_at k f).region value ≡ None)
    → (rest ≡ None → find_label_from n k (frame_at k f).outer value ≡ None) → (if b then Some f else rest) ≡ None
    → find_label_from (suc n) k (Some f) value ≡ None
label-nowhere-turn k n f value true rest here on e = cc
label-nowhere-turn k n f value false rest here on e = ap (λ o. or_else o (find_label_from n k (frame_at k f).outer value)) (here refl) ∙ on e

label-nowhere-from : (k : Known) (value : ℕ) (test : ℕ → Bool) → ((r : ℕ) → test r ≡ false → declared_in k.regions r value ≡ None) → (n : ℕ) (at : Option ℕ)
    → first_around n k.frames test at ≡ None → find_label_from n k at value ≡ None
label-nowhere-from k value test none n None e = label-outermost k n value
label-nowhere-from k value test none zero (Some f) e = refl
label-nowhere-from k value test none (suc n) (Some f) e =
    label-nowhere-turn k n f value (test (frame_at k f).region) (first_around n k.frames test (frame_at k f).outer) (none (frame_at k f).region)
    (label-nowhere-from k value test none n (frame_at k f).outer) e

label-there-turn : (k : Known) (n f value g token : ℕ) (b : Bool) (rest : Option ℕ) → declared_in k.regions (frame_at k g).region value ≡ Some token
    → (b ≡ false → declared_in k.regions (frame_at k f).region value ≡ None)
    → (rest ≡ Some g → find_label_from n k (frame_at k f).outer value ≡ Some token) → (if b then Some f else rest) ≡ Some g
    → find_label_from (suc n) k (Some f) value ≡ Some token
label-there-turn k n f value g token true rest is here on e =
    ap (λ o. or_else o (find_label_from n k (frame_at k f).outer value))
    (ap (λ h. declared_in k.regions (frame_at k h).region value) (same_Some f g e) ∙ is)
label-there-turn k n f value g token false rest is here on e =
    ap (λ o. or_else o (find_label_from n k (frame_at k f).outer value)) (here refl) ∙ on e

label-there-from : (k : Known) (value g token : ℕ) (test : ℕ → Bool) → declared_in k.regions (frame_at k g).region value ≡ Some token
    → ((r : ℕ) → test r ≡ false → declared_in k.regions r value ≡ None) → (n : ℕ) (at : Option ℕ)
    → first_around n k.frames test at ≡ Some g → find_label_from n k at value ≡ Some token
label-there-from k value g token test is none zero None e = cc
label-there-from k value g token test is none (suc n) None e = cc
label-there-from k value g token test is none zero (Some f) e = cc
label-there-from k value g token test is none (suc n) (Some f) e =
    label-there-turn k n f value g token (test (frame_at k f).region) (first_around n k.frames test (frame_at k f).outer) is (none (frame_at k f).region)
    (label-there-from k value g token test is none n (frame_at k f).outer) e

pub label-home-nowhere : (k : Known) (homes : List ℕ) (frame value : ℕ) (result : Option (Option ℕ))
    → ((r : ℕ) → is_among homes r ≡ false → declared_in k.regions r value ≡ None)
    → IfSome result (λ first. first ≡ first_around (length k.frames) k.frames (is_among homes) (Some frame))
    → result ≡ Some None → find_label k frame value ≡ None
label-home-nowhere k homes frame value result are p e =
    label-nowhere-from k value (is_among homes) are (length k.frames) (Some frame) (first-is result _ None p e)

pub label-home-there : (k : Known) (homes : List ℕ) (frame value : ℕ) (result : Option (Option ℕ))
    → ((r : ℕ) → is_among homes r ≡ false → declared_in k.regions r value ≡ None)
    → IfSome result (λ first. first ≡ first_around (length k.frames) k.frames (is_among homes) (Some frame))
    → (f token : ℕ) → result ≡ Some (Some f) → declared_in k.regions (frame_at k f).region value ≡ Some token → find_label k frame value ≡ Some token
label-home-there k homes frame value result are p f token e is =
    label-there-from k value f token (is_among homes) is are (length k.frames) (Some frame) (first-is result _ (Some f) p e)
