use Rattle.std.proofs.Common.{◌++◌, ◌<◌, ◌∙◌, ◌∷◌, ◌≡◌, [], List, ap, arith, length, map, refl}
use Rattle.std.proofs.{Math.Seq.get_or-append_seam, lemmas.List.length-map, lemmas.List.map-append, lemmas.List.Elements.All-push}
use Rattle.cell_value.specs.declared.entries.Touch.{Touch}
use Rattle.effect_log.proofs.AsideTouchesStay.{touches_stay}
use Rattle.effect_log.proofs.log.Log.push.Goals as goal
use Rattle.effect_log.specs.{Entries.IsWithin, Entries.touch_of, declared.log.Entry.Entry, declared.log.Entry.TheVariants.Aside}

pub invariant_of-self-in-Some : goal.invariant_of-self-in-Some
invariant_of-self-in-Some c =
    let kept = c.self.invariant in
    let entries : List Entry = c.self.inside.entries.items in
    let items : c.push.new.self.items ≡ entries ++ c.in-Some.entry ∷ [] = c.in_ok-push-in-Some.ensures.items in
    let is = c.in-Some.ensures in
    let room : length (map (touch_of c.self.inside.aside.items) entries) < 8000000 = rw (← c.self.view_is) at c.requires.room in
    let all : length (map (touch_of c.self.inside.aside.items) entries) ≡ length entries = length-map entries (touch_of c.self.inside.aside.items) in
    let few = c.self.inside.entries.ok.0 in
    let longer = c.in_ok-push-in-Some.ensures.len in
    record {
      few = omega (arith, longer);
      few_aside = omega (arith, longer);
      within = rw items (All-push (IsWithin (length c.self.inside.aside.items)) entries c.in-Some.entry kept.within
          (is.within (length c.self.inside.aside.items)));
    }

pub returns-in_ok-push-in-None-2-clause-added : goal.returns-in_ok-push-in-None-2-clause-added
returns-in_ok-push-in-None-2-clause-added c =
    let aside : List Touch = c.self.inside.aside.items in
    let entries : List Entry = c.self.inside.entries.items in
    let place : c.len-place.result ≡ length aside = c.len-place.ensures ∙ c.self.inside.aside.ok.0 in
    let asides : c.push-in-None.new.self.items ≡ aside ++ c.args.touch ∷ [] = c.in_ok-push-in-None.ensures.items in
    let items : c.push-in-None-2.new.self.items ≡ entries ++ Aside c.len-place.result ∷ [] =
    c.in_ok-push-in-None-2.ensures.items ∙ ap (λ (xs : List Entry). xs ++ Aside c.len-place.result ∷ []) c.in_ok-reserve-in-None.ensures.items in
    let last = get_or-append_seam aside c.args.touch [] (Touch.Look 0) in
    rw (asides, items, ← c.self.view_is, map-append, touches_stay aside c.args.touch entries c.self.invariant.within, place, last) refl
