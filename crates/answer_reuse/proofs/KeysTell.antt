-- Calls of one run are alike exactly where their keys are the same.
use Rattle.std.proofs.Common.{if◌then◌else◌, ◌++◌, ◌+◌, ◌-◌, ◌<◌, ◌∙◌, ◌∷◌, ◌≡◌, ◌≤◌, [], ℕ, Bool, List, None, Option, Some, ap, arith, drop, false, get_or}
use Rattle.std.proofs.Common.{length, map, nat_lt, refl, slice_get, slice_index, slice_range, subst, suc, sym, take, true, zero}
use Rattle.std.{proofs.Math.Seq.drop-append_seam, specs.Option.option_map}
use Rattle.std.proofs.lemmas.{Bool.Decides.nat_tests, List.length-map, List.take_at, List.FromFn.fill_by_all, List.FromFn.get_or-map-range_with_len}
use Rattle.cell_value.specs.{Effects.looked_of, Effects.made_of, Effects.reads_of, declared.entries.Touch.Touch}
use Rattle.core_program.{proofs.Effects.SameLog, proofs.Effects.relative, proofs.Effects.same_made, proofs.Effects.same_reads_of, specs.WholeTables.WholeTables}
use Rattle.core_program.specs.{Agree.EndedByItself, Numbering.StandsAt, ProgramRows.ProgramRows, Run.Call, Run.Result, RunLaws.calls_in, State.State}
use Rattle.call_tree.specs.Told.{part_of}
use Rattle.call_tree.specs.declared.records.Call as table
use Rattle.program_run.specs.declared.history.History.{History}
use Rattle.body_replay.{proofs.RecordsOfRuns.RowOf, proofs.RecordsOfRuns.RunOf, proofs.RecordsOfRuns.row_of_run, specs.Laws.CallsCarryToThemselves}
use Rattle.answer_book.{proofs.KeptLemmas.column_same, specs.Numbers.numbers_below}
use Rattle.answer_reuse.proofs.AlikeTouches.{figure_is, same_touches as touched, shown}
use Rattle.answer_reuse.proofs.FiguresTell.{same_args, same_item, same_touches}
use Rattle.answer_reuse.specs.{Alike.Alike, Laws.AlikeDidTheSame, Sorting.IsKeyOf, Sorting.SameKey, declared.keys.Keyed.Keyed}
use Rattle.answer_reuse.specs.Figures.{item_figure, touch_figure}
use Rattle.answer_reuse.specs.Keys.{Key, args_key, item_key, items_key, key_head, key_of, made_at, touch_key, touches_key, touches_made}

-- ---- a part of the log

part_is : (log : List Touch) (mark : ℕ) (w : List Touch) → StandsAt log mark w → slice_range log mark (mark + length w) ≡ w
part_is log mark w s =
    ap (λ n. take n (drop mark log)) (let z : mark + length w - mark ≡ length w = omega arith in z)
    ∙ ap (λ l. take (length w) (drop mark l)) s.is
    ∙ ap (λ n. take (length w) (drop n (s.before ++ (w ++ s.later)))) (sym s.at)
    ∙ ap (take (length w)) (drop-append_seam s.before (w ++ s.later))
    ∙ take_at w s.later (length w) refl

get_past : {X : Type 0} (xs ys : List X) (k : ℕ) → slice_get (xs ++ ys) (length xs + k) ≡ slice_get ys k
get_past [] ys k = let z : 0 + k ≡ k = omega arith in ap (slice_get ys) z
get_past (x ∷ xs) ys k = let z : suc (length xs) + k ≡ suc (length xs + k) = omega arith in ap (slice_get (x ∷ (xs ++ ys))) z ∙ get_past xs ys k

-- what a function gives of the elements before others
got_first : {X Y : Type 0} (f : X → Y) (xs ys : List X) (k : ℕ) (d : Option Y) → k < length xs
    → get_or (map (λ x. Some (f x)) xs) k d ≡ option_map f (slice_get (xs ++ ys) k)
got_first f [] ys k d l = absurd (omega arith)
got_first f (x ∷ xs) ys zero d l = refl
got_first f (x ∷ xs) ys (suc k) d l = got_first f xs ys k d (omega arith)

-- ---- the key of a call

abbrev made_by : (fresh made : ℕ) → ℕ
made_by fresh made = if nat_lt 0 made then fresh else 0

-- what a row and the log tell of a call
record Tells (h : History) (k : Keyed) (c : Call) : Type 0 where
  routine : k.row.now.routine ≡ c.routine
  top : k.row.now.entry.top ≡ c.entry.top
  place : k.row.now.entry.place ≡ c.entry.place
  args : k.row.now.args ≡ c.args
  way : k.row.now.way ≡ c.way
  made : made_at k.row.now ≡ made_by c.entry.fresh (made_of c.log)
  many : touches_made k.row.now ≡ length c.log
  touches : touches_key h.log k.row.now ≡ map (λ t. Some (touch_figure c.entry.place t)) c.log
  looked : k.looked ≡ looked_of c.entry.place c.log
  base : c.base ≡ c.entry.top
  items : c.entry.items ≡ h.input

made_is : (a b m : ℕ) → b ≡ a + m → (if nat_lt a b then a else 0) ≡ made_by a m
made_is a b m e = ap (λ t. if t then a else 0) (by (nat_lt a b) (nat_lt 0 m) refl refl)
  where
    by : (x y : Bool) → nat_lt a b ≡ x → nat_lt 0 m ≡ y → nat_lt a b ≡ nat_lt 0 m
    by true true f g = f ∙ sym g
    by false false f g = f ∙ sym g
    by true false f g = absurd (let u : a < b = grind (arith, nat_tests) in let v : m ≤ 0 = grind (arith, nat_tests) in omega (arith, u, v, e))
    by false true f g = absurd (let u : b ≤ a = grind (arith, nat_tests) in let v : 0 < m = grind (arith, nat_tests) in omega (arith, u, v, e))

module _ {p : ProgramRows} {input : List ℕ} {h : History} (g : RunOf p input h) (carry : CallsCarryToThemselves) where
  abbrev calls : List Call
  calls = calls_in g.result

  tells : (k : Keyed) → (key : IsKeyOf h k) → (r : RowOf p h (calls_in g.result) k.call k.row.now) → Tells h k r.call
  tells k key r =
      let is = r.recorded.is in
      let c = r.call in
      let way : k.row.now.way ≡ c.way = ap (λ (q : table.Call). q.way) is in
      let exit = (carry p input h.budget g.result g.is k.call c r.stands (subst EndedByItself way key.ended)).1 in
      let place : k.row.now.entry.place ≡ c.entry.place = ap (λ (q : table.Call). q.entry.place) is in
      let part : part_of h.log k.row.now ≡ c.log = ap (λ (q : table.Call). part_of h.log q) is ∙ part_is h.log r.recorded.mark c.log r.recorded.stands in
      let many : touches_made k.row.now ≡ length c.log = ap touches_made is
      ∙ (let z : r.recorded.mark + length c.log - r.recorded.mark ≡ length c.log = omega arith in z) in
      record {
        routine = ap (λ (q : table.Call). q.routine) is;
        top = ap (λ (q : table.Call). q.entry.top) is;
        place = place;
        args = ap (λ (q : table.Call). q.args) is;
        way = way;
        made = ap made_at is ∙ made_is c.entry.fresh c.exit.fresh (made_of c.log) (sym (ap (λ (τ : State). τ.fresh) exit));
        many = many;
        touches = ap (touches_key h.log) is ∙ whole c r.recorded.mark r.recorded.stands;
        looked = key.keyed.looked ∙ ap (looked_of k.row.now.entry.place) part ∙ ap (λ n. looked_of n c.log) place;
        base = r.recorded.base;
        items = r.items;
      }
    where
      whole : (c : Call) (mark : ℕ) (s : StandsAt h.log mark c.log)
          → map (λ i. option_map (touch_figure c.entry.place) (slice_get h.log (mark + i))) (numbers_below (mark + length c.log - mark))
          ≡ map (λ t. Some (touch_figure c.entry.place t)) c.log
      whole c mark s =
          sym (fill_by_all (λ i. option_map (touch_figure c.entry.place) (slice_get h.log (mark + i))) (map (λ t. Some (touch_figure c.entry.place t)) c.log)
          (mark + length c.log - mark) None
          (length-map c.log (λ t. Some (touch_figure c.entry.place t)) ∙ (let z : length c.log ≡ mark + length c.log - mark = omega arith in z))
          (λ k l. got_first (touch_figure c.entry.place) c.log s.later k None (omega arith)
          ∙ ap (option_map (touch_figure c.entry.place)) (sym (get_past s.before (c.log ++ s.later) k)
          ∙ ap (λ n. slice_get (s.before ++ (c.log ++ s.later)) (n + k)) s.at ∙ ap (λ l. slice_get l (mark + k)) (sym s.is))))

-- ---- alike calls have the same key, and the other way round

made_alike : (a b m : ℕ) → (0 < m → a ≡ b) → made_by a m ≡ made_by b m
made_alike a b m h = by (nat_lt 0 m) refl
  where
    by : (x : Bool) → nat_lt 0 m ≡ x → (if x then a else 0) ≡ (if x then b else 0)
    by true e = h (grind (arith, nat_tests))
    by false e = refl

fresh_from : (a b m : ℕ) → 0 < m → made_by a m ≡ made_by b m → a ≡ b
fresh_from a b m l e = by (nat_lt 0 m) refl e
  where
    by : (x : Bool) → nat_lt 0 m ≡ x → (if x then a else 0) ≡ (if x then b else 0) → a ≡ b
    by true f e = e
    by false f e = absurd (let z : m ≤ 0 = grind (arith, nat_tests) in omega (arith, z, l))

shown_of : (place : ℕ) (w : List Touch) → map (λ t. Some (touch_figure place t)) w ≡ map (λ t. Some (shown t)) (map (relative place) w)
shown_of place [] = refl
shown_of place (t ∷ w) = λ i. Some (figure_is place t i) ∷ shown_of place w i

module _ {h : History} {k l : Keyed} {c d : Call} (t : Tells h k c) (u : Tells h l d) where
  keys_of_alike : Alike c d → made_of c.log ≡ made_of d.log → SameLog c.entry.place d.entry.place c.log d.log → SameKey h k l
  keys_of_alike a made same =
      let routine : k.row.now.routine ≡ l.row.now.routine = t.routine ∙ a.routine ∙ sym u.routine in
      let top : k.row.now.entry.top ≡ l.row.now.entry.top = t.top ∙ a.top ∙ sym u.top in
      let fresh : 0 < made_of c.log → c.entry.fresh ≡ d.entry.fresh = λ q. a.fresh (omega arith) in
      let made_there : made_at k.row.now ≡ made_at l.row.now =
      t.made ∙ made_alike c.entry.fresh d.entry.fresh (made_of c.log) fresh ∙ ap (made_by d.entry.fresh) made ∙ sym u.made in
      let args : k.row.now.args ≡ l.row.now.args = t.args ∙ a.args ∙ sym u.args in
      let long : length c.log ≡ length d.log =
      sym (length-map c.log (relative c.entry.place)) ∙ ap length same ∙ length-map d.log (relative d.entry.place) in
      let many : touches_made k.row.now ≡ touches_made l.row.now = t.many ∙ long ∙ sym u.many in
      let looked : k.looked ≡ l.looked = t.looked ∙ a.looked ∙ sym u.looked in
      let touches : touches_key h.log k.row.now ≡ touches_key h.log l.row.now =
      t.touches ∙ shown_of c.entry.place c.log ∙ ap (map (λ t. Some (shown t))) same ∙ sym (shown_of d.entry.place d.log) ∙ sym u.touches in
      let item : (n : ℕ) → n < looked_of c.entry.place c.log → item_key h.input c.entry.place n ≡ item_key h.input d.entry.place n =
      λ n b. ap item_figure (ap (λ xs. slice_get xs (c.entry.place + n)) (sym t.items) ∙ a.items n b ∙ ap (λ xs. slice_get xs (d.entry.place + n)) u.items) in
      let items : items_key h.input k.row.now.entry.place k.looked ≡ items_key h.input l.row.now.entry.place l.looked =
      ap (λ n. items_key h.input n k.looked) t.place ∙ ap (items_key h.input c.entry.place) t.looked
      ∙ column_same (item_key h.input c.entry.place) (item_key h.input d.entry.place) (looked_of c.entry.place c.log) [] item
      ∙ ap (items_key h.input d.entry.place) (a.looked ∙ sym u.looked) ∙ ap (λ n. items_key h.input n l.looked) (sym u.place) in
      λ i. record {
        head = routine i ∷ top i ∷ made_there i ∷ length (args i) ∷ many i ∷ looked i ∷ 0 ∷ [];
        args = args_key (args i);
        touches = touches i;
        items = items i;
      }

  alike_of_keys : EndedByItself k.row.now.way → EndedByItself l.row.now.way → SameKey h k l → Alike c d
  alike_of_keys ended_k ended_l e =
      let head = ap (λ (q : Key). q.head) e in
      let logs : SameLog c.entry.place d.entry.place c.log d.log = same_touches (map (relative c.entry.place) c.log) (map (relative d.entry.place) d.log)
      (sym (shown_of c.entry.place c.log) ∙ sym t.touches ∙ ap (λ (q : Key). q.touches) e ∙ u.touches ∙ shown_of d.entry.place d.log) in
      let top : c.entry.top ≡ d.entry.top = sym t.top ∙ ap (λ l. slice_index l 1) head ∙ u.top in
      let made : made_of c.log ≡ made_of d.log = same_made c.entry.place d.entry.place c.log d.log logs in
      let there : made_by c.entry.fresh (made_of c.log) ≡ made_by d.entry.fresh (made_of c.log) =
      sym t.made ∙ ap (λ l. slice_index l 2) head ∙ u.made ∙ ap (made_by d.entry.fresh) (sym made) in
      let looked : looked_of c.entry.place c.log ≡ looked_of d.entry.place d.log = sym t.looked ∙ ap (λ l. slice_index l 5) head ∙ u.looked in
      let items : items_key h.input c.entry.place (looked_of c.entry.place c.log) ≡ items_key h.input d.entry.place (looked_of d.entry.place d.log) =
      sym (ap (λ n. items_key h.input n k.looked) t.place ∙ ap (items_key h.input c.entry.place) t.looked) ∙ ap (λ (q : Key). q.items) e
      ∙ (ap (λ n. items_key h.input n l.looked) u.place ∙ ap (items_key h.input d.entry.place) u.looked) in
      let item : (n : ℕ) → n < looked_of c.entry.place c.log → slice_get h.input (c.entry.place + n) ≡ slice_get h.input (d.entry.place + n) =
      λ n b. same_item (slice_get h.input (c.entry.place + n)) (slice_get h.input (d.entry.place + n))
      (sym (get_or-map-range_with_len (item_key h.input c.entry.place) 0 (looked_of c.entry.place c.log) n n [] b (omega arith))
      ∙ ap (λ l. get_or l n []) items
      ∙ get_or-map-range_with_len (item_key h.input d.entry.place) 0 (looked_of d.entry.place d.log) n n [] (omega (arith, b, looked)) (omega arith)) in
      record {
        way = (subst EndedByItself t.way ended_k, subst EndedByItself u.way ended_l);
        routine = sym t.routine ∙ ap (λ l. slice_index l 0) head ∙ u.routine;
        args = sym t.args ∙ same_args k.row.now.args l.row.now.args (ap (λ (q : Key). q.args) e) ∙ u.args;
        top = top;
        fresh = λ q. fresh_from c.entry.fresh d.entry.fresh (made_of c.log) (omega (arith, q, made)) there;
        reads = ap (λ b. reads_of b c.log) t.base ∙ same_reads_of c.entry.place d.entry.place c.log d.log logs c.entry.top
            ∙ ap (λ b. reads_of b d.log) (top ∙ sym u.base);
        looked = looked;
        items = λ n b. ap (λ xs. slice_get xs (c.entry.place + n)) t.items ∙ item n b ∙ ap (λ xs. slice_get xs (d.entry.place + n)) (sym u.items);
      }

-- two keyed calls of one run
module _ {p : ProgramRows} {input : List ℕ} {h : History} (g : RunOf p input h) (carry : CallsCarryToThemselves) (did : AlikeDidTheSame) where
  pub call_of_key : (k : Keyed) → IsKeyOf h k → RowOf p h (calls_in g.result) k.call k.row.now
  call_of_key k key = row_of_run g k.call k.row.now key.row

  pub same_key_of_alike : (k l : Keyed) (a : IsKeyOf h k) (b : IsKeyOf h l) → Alike (call_of_key k a).call (call_of_key l b).call → SameKey h k l
  same_key_of_alike k l a b alike =
      let r = call_of_key k a in
      let s = call_of_key l b in
      keys_of_alike (tells g carry k a r) (tells g carry l b s) alike
      (did p g.kept.whole input h.budget g.result g.is k.call l.call r.call s.call r.stands s.stands alike).made
      (touched carry p g.kept.whole input h.budget g.result g.is k.call l.call r.call s.call r.stands s.stands alike)

  pub alike_of_same_key : (k l : Keyed) (a : IsKeyOf h k) (b : IsKeyOf h l) → SameKey h k l → Alike (call_of_key k a).call (call_of_key l b).call
  alike_of_same_key k l a b e =
      let r = call_of_key k a in
      let s = call_of_key l b in
      alike_of_keys (tells g carry k a r) (tells g carry l b s) a.ended b.ended e
