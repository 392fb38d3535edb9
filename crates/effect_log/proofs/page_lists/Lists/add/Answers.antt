use Rattle.std.proofs.Common.{◌∙◌, ℕ, Option, ap, arith, length}
use Rattle.cell_value.specs.declared.entries.{Change.Change, Seen.Seen}
use Rattle.effect_log.proofs.{AddressesAreListed.length_listed_to, ListsGoOn.grows}
use Rattle.effect_log.proofs.page_lists.Lists.add.Goals as goal
use Rattle.effect_log.specs.{Marks.changed_in, Marks.seen_in, Pages.cell_at}

pub add_seen-requires : goal.add_seen-requires
add_seen-requires c =
    let f : ℕ → Option Seen = λ (q : ℕ). seen_in c.args.log.now q (cell_at c.args.pages.now q) in
    let few = length_listed_to f c.args.addr in
    let same = ap length c.requires.so_far.reads in
    let low = c.requires.inside in
    omega arith

pub add_change-requires : goal.add_change-requires
add_change-requires c =
    let f : ℕ → Option Change = λ (q : ℕ). changed_in c.args.log.now q (cell_at c.args.pages.now q) in
    let few = length_listed_to f c.args.addr in
    let same = ap length c.requires.so_far.changes in
    let low = c.requires.inside in
    omega arith

pub returns : goal.returns
returns c = record {
  reads = grows (λ q. seen_in c.args.log.now q (cell_at c.args.pages.now q)) c.args.addr c.args.self.now.reads c.add_seen.new.reads c.seen_of.result
      c.requires.so_far.reads c.in_ok-add_seen.ensures (c.seen_of.ensures ∙ ap (seen_in c.args.log.now c.args.addr) c.at-cell.ensures);
  changes = grows (λ q. changed_in c.args.log.now q (cell_at c.args.pages.now q)) c.args.addr c.args.self.now.changes c.add_change.new.changes
      c.change_of.result c.requires.so_far.changes c.in_ok-add_change.ensures
      (c.change_of.ensures ∙ ap (changed_in c.args.log.now c.args.addr) c.at-cell.ensures);
}
