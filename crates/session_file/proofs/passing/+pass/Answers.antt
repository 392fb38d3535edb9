use Rattle.std.proofs.Common.{◌-◌, ◌<◌, ◌∙◌, ◌∷◌, ◌≡◌, [], None, Some, ap, ap₂, arith, length, option_map, refl}
use Rattle.std.{specs.Prelude.⊤, proofs.lemmas.Result.IfErr-weaker, proofs.lemmas.Result.IfOk-weaker}
use Rattle.json.{proofs.Grammar.read_key-shorter, proofs.Grammar.value_is, specs.Reads.token_of, specs.Token.Token}
use Rattle.json.specs.Json.{after_end_array, items, parse_map, read_key, value}
use Rattle.serde_json.specs.Data.{array, boolean, null, number, object, put, string}
use Rattle.serde_json.specs.Read.{converted, number_of, of_json}
use Rattle.session_file.proofs.PassTurns.{all_found, array_opened, item_made, item_refused, items_made, key_refused, member_read, member_refused, members_over}
use Rattle.session_file.proofs.PassTurns.{no_number, none_made, none_read, number_there, object_opened, whatever}
use Rattle.session_file.proofs.passing.+pass.Goals as goal
use Rattle.session_file.specs.Passing.{value_read}

pub pass-returns-in_default-clause-refused : goal.pass-returns-in_default-clause-refused
pass-returns-in_default-clause-refused t c =
    let empty : c.args.reader.now ≡ [] = grind arith in
    ap (converted of_json) (ap (value c.args.depth) empty ∙ value_is c.args.depth [])

pub pass_items-items-preserved : goal.pass_items-items-preserved
pass_items-items-preserved t c =
    let p = value c.args.depth in
    let l = c.items in
    let n = l.invariant.0 in
    let going : (after_end_array l.reader ≡ None) × (c.take_end_array.new.self ≡ l.reader) = grind arith in
    let passed = c.in-Ok.ensures.passed in
    let r = c.pass.new.reader in
    let less : length r < length l.reader = rw (← going.1) c.in-Ok.ensures.shorter in
    let turn = item_made {S = ⊤} (λ _ _. tt) p tt n l.reader r passed.0 (omega (arith, l.invariant.1)) going.0 (rw (← going.1) passed.2) in
    (n - 1, omega (arith, l.invariant.1), l.invariant.2 ∙ turn, omega (arith, l.invariant.3))

pub pass_items-returns-in-Err-clause-refused : goal.pass_items-returns-in-Err-clause-refused
pass_items-returns-in-Err-clause-refused t c =
    let p = value c.args.depth in
    let l = c.items in
    let going : (after_end_array l.reader ≡ None) × (c.take_end_array.new.self ≡ l.reader) = grind arith in
    let all = items p (length c.args.reader.now) c.args.reader.now in
    none_read {S = ⊤} (λ _ _. tt) tt all
    (l.invariant.2 ∙ none_made {S = ⊤} (λ _ _. tt) tt (items p l.invariant.0 l.reader)
    (item_refused p l.invariant.0 l.reader going.0 (rw (← going.1) c.in-Err.ensures.refused)))

pub pass_items-returns-clause-passed : goal.pass_items-returns-clause-passed
pass_items-returns-clause-passed t c =
    let p = value c.args.depth in
    let l = c.items in
    let r = c.take_end_array.new.self in
    let over : after_end_array l.reader ≡ Some r = grind arith in
    let all = items p (length c.args.reader.now) c.args.reader.now in
    let found = all_found {S = ⊤} (λ _ _. tt) tt tt all r (l.invariant.2 ∙ items_made {S = ⊤} (λ _ _. tt) p tt l.invariant.0 l.reader r l.invariant.1 over) in
    (found.0, found.1)

pub pass_members-members-init : goal.pass_members-members-init
pass_members-members-init t c = (length c.args.reader.now, _, omega arith, refl, omega arith)

pub pass_members-returns-in_err-next_key-clause-refused : goal.pass_members-returns-in_err-next_key-clause-refused
pass_members-returns-in_err-next_key-clause-refused t c =
    let l = c.members in
    whatever c.from_residual.result (l.invariant.3 ∙ key_refused (value c.args.depth) l.invariant.1 l.invariant.0 l.reader c.in_err-next_key.ensures.value)

pub pass_members-members-preserved : goal.pass_members-members-preserved
pass_members-members-preserved t c =
    let p = value c.args.depth in
    let l = c.members in
    let n = l.invariant.0 in
    let old = l.invariant.1 in
    let k = c.in-Some.field-0.now in
    let s = c.next_key.new.self in
    let named : read_key l.reader ≡ Some (Some k, s) = grind arith in
    let passed = c.in-Ok.ensures.passed in
    let r = c.pass.new.reader in
    let less = read_key-shorter l.reader (Some k) s named in
    let lesser = c.in-Ok.ensures.shorter in (
      n - 1,
      put k passed.0 old,
      omega (arith, l.invariant.2),
      l.invariant.3 ∙ member_read p old n k l.reader s r passed.0 (omega (arith, l.invariant.2)) named passed.2,
      omega (arith, l.invariant.4),
    )

pub pass_members-returns-in-Err-clause-refused : goal.pass_members-returns-in-Err-clause-refused
pass_members-returns-in-Err-clause-refused t c =
    let l = c.members in
    let k = c.in-Some.field-0.now in
    let s = c.next_key.new.self in
    let named : read_key l.reader ≡ Some (Some k, s) = grind arith in
    l.invariant.3 ∙ member_refused (value c.args.depth) l.invariant.1 l.invariant.0 k l.reader s named c.in-Err.ensures.refused

pub pass_members-returns-clause-passed : goal.pass_members-returns-clause-passed
pass_members-returns-clause-passed t c =
    let l = c.members in
    let over : read_key l.reader ≡ Some (None, c.next_key.new.self) = grind arith in
    (l.invariant.1, l.invariant.3 ∙ members_over (value c.args.depth) l.invariant.1 l.invariant.0 l.reader c.next_key.new.self l.invariant.2 over)

pub pass_rest-returns-then-depth-eq0-clause-refused : goal.pass_rest-returns-then-depth-eq0-clause-refused
unfolding value
pass_rest-returns-then-depth-eq0-clause-refused t c =
    let none : c.args.depth ≡ 0 = omega arith in
    ap (converted of_json) (ap₂ value none (ap (λ k. token_of k ∷ c.args.reader.now) c.in-BeginArray.is))

pub pass_rest-returns-then-depth-eq0-2-clause-refused : goal.pass_rest-returns-then-depth-eq0-2-clause-refused
unfolding value
pass_rest-returns-then-depth-eq0-2-clause-refused t c =
    let none : c.args.depth ≡ 0 = omega arith in
    ap (converted of_json) (ap₂ value none (ap (λ k. token_of k ∷ c.args.reader.now) c.in-BeginObject.is))

pub pass_rest-returns-in-String-clause-passed : goal.pass_rest-returns-in-String-clause-passed
pass_rest-returns-in-String-clause-passed t c =
    let is = ap token_of c.in-String.is in
    (string c.in-String.field-0.now, is, ap (converted of_json) (ap (λ k. value c.args.depth (k ∷ c.args.reader.now)) is ∙ value_is c.args.depth _))

pub pass_rest-returns-in-Some-clause-passed : goal.pass_rest-returns-in-Some-clause-passed
pass_rest-returns-in-Some-clause-passed t c =
    let s = c.in-Number.text.now in
    let is : token_of c.args.token ≡ Token.number s = ap token_of c.in-Number.is in
    let there = number_there (number_of s) _ c.in-Some.ensures in (
      number there.0,
      (s, is, there.1),
      ap (converted of_json) (ap (λ k. value c.args.depth (k ∷ c.args.reader.now)) is ∙ value_is c.args.depth _)
          ∙ ap (λ n. option_map (λ d. (d, c.args.reader.now)) (option_map number n)) there.1,
    )

pub pass_rest-returns-in-None-clause-refused : goal.pass_rest-returns-in-None-clause-refused
pass_rest-returns-in-None-clause-refused t c =
    let s = c.in-Number.text.now in
    let is : token_of c.args.token ≡ Token.number s = ap token_of c.in-Number.is in
    ap (converted of_json) (ap (λ k. value c.args.depth (k ∷ c.args.reader.now)) is ∙ value_is c.args.depth _)
    ∙ ap (λ n. option_map (λ d. (d, c.args.reader.now)) (option_map number n)) (no_number (number_of s) c.in-None.ensures)

pub pass_rest-returns-in-Bool-clause-passed : goal.pass_rest-returns-in-Bool-clause-passed
pass_rest-returns-in-Bool-clause-passed t c =
    let is = ap token_of c.in-Bool.is in
    (boolean c.in-Bool.field-0, is, ap (converted of_json) (ap (λ k. value c.args.depth (k ∷ c.args.reader.now)) is ∙ value_is c.args.depth _))

pub pass_rest-returns-in-Null-clause-passed : goal.pass_rest-returns-in-Null-clause-passed
pass_rest-returns-in-Null-clause-passed t c =
    let is = ap token_of c.in-Null.is in
    (null, is, ap (converted of_json) (ap (λ k. value c.args.depth (k ∷ c.args.reader.now)) is ∙ value_is c.args.depth _))

pub pass_rest-returns-in-EndObject-clause-refused : goal.pass_rest-returns-in-EndObject-clause-refused
pass_rest-returns-in-EndObject-clause-refused t c =
    let none : value c.args.depth (token_of c.args.token ∷ c.args.reader.now) ≡ None =
    rw (value_is c.args.depth (token_of c.args.token ∷ c.args.reader.now)) (grind arith) in
    ap (converted of_json) none

pub pass_rest-returns-else-depth-eq0-clause-passed : goal.pass_rest-returns-else-depth-eq0-clause-passed
pass_rest-returns-else-depth-eq0-clause-passed t c =
    let is = ap token_of c.in-BeginArray.is in
    let r = c.args.reader.now in
    let opened = ap (λ k. value_read c.args.depth (k ∷ r)) is ∙ array_opened c.args.depth r (omega arith) in
    IfOk-weaker c.pass_items.result _ _ (λ _ found. (array found.0, is, opened ∙ ap (parse_map array) found.1)) c.pass_items.ensures.passed

pub pass_rest-returns-else-depth-eq0-clause-refused : goal.pass_rest-returns-else-depth-eq0-clause-refused
pass_rest-returns-else-depth-eq0-clause-refused t c =
    let is = ap token_of c.in-BeginArray.is in
    let r = c.args.reader.now in
    let opened = ap (λ k. value_read c.args.depth (k ∷ r)) is ∙ array_opened c.args.depth r (omega arith) in
    IfErr-weaker c.pass_items.result _ _ (λ _ none. opened ∙ ap (parse_map array) none) c.pass_items.ensures.refused

pub pass_rest-returns-else-depth-eq0-2-clause-passed : goal.pass_rest-returns-else-depth-eq0-2-clause-passed
pass_rest-returns-else-depth-eq0-2-clause-passed t c =
    let is = ap token_of c.in-BeginObject.is in
    let r = c.args.reader.now in
    let opened = ap (λ k. value_read c.args.depth (k ∷ r)) is ∙ object_opened c.args.depth r (omega arith) in
    IfOk-weaker c.pass_members.result _ _ (λ _ found. (object found.0, is, opened ∙ ap (parse_map object) found.1)) c.pass_members.ensures.passed

pub pass_rest-returns-else-depth-eq0-2-clause-refused : goal.pass_rest-returns-else-depth-eq0-2-clause-refused
pass_rest-returns-else-depth-eq0-2-clause-refused t c =
    let is = ap token_of c.in-BeginObject.is in
    let r = c.args.reader.now in
    let opened = ap (λ k. value_read c.args.depth (k ∷ r)) is ∙ object_opened c.args.depth r (omega arith) in
    IfErr-weaker c.pass_members.result _ _ (λ _ none. opened ∙ ap (parse_map object) none) c.pass_members.ensures.refused
