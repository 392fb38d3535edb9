use Rattle.std.proofs.Common.{ℕ, ap, arith, length, take}
use Rattle.std.proofs.lemmas.List.{length-take}
use Rattle.edge_ports.proofs.HandedLinesAreHeard.{HandsOutNext, handed_lines-handed, lines_of-handed}
use Rattle.edge_ports.proofs.lines.Lines.hand_out.Goals as goal
use Rattle.edge_ports.specs.Lines.{unread}

skipped : (c : goal.After-skip) → HandsOutNext c.args.self.now c.skip.new.self (take c.in-Some.count (unread c.args.self.now))
skipped c = record {
  used = c.in-Some.used;
  is = c.in-Some.ensures.used;
  next = c.in-Some.ensures.next;
  handed = ap (λ s. s.handed) c.skip.ensures;
  taken = ap (λ s. s.taken) c.skip.ensures;
}

shown : (c : goal.After-show) → HandsOutNext c.args.self.now c.show.new.self c.show.new.self.line
shown c = record {
  used = c.in-Some.used;
  is = c.in-Some.ensures.used;
  next = rw (ap (λ s. s.line) c.show.ensures) c.in-Some.ensures.next;
  handed = ap (λ s. s.handed) c.show.ensures;
  taken = ap (λ s. s.taken) c.show.ensures;
}

pub returns-then-count-gt-LINE_BYTES-clause-lines :
    goal.returns-then-count-gt-LINE_BYTES-clause-lines
returns-then-count-gt-LINE_BYTES-clause-lines c = (
  take c.in-Some.count (unread c.args.self.now),
  handed_lines-handed (skipped c) c.next_range.ensures.consistent.cut,
  omega (arith, c.if-count-gt-LINE_BYTES.true, c.in-Some.ensures.within, c.in-Some.ensures.used.within, length-take {A = ℕ}),
)

pub returns-then-count-gt-LINE_BYTES-clause-console :
    goal.returns-then-count-gt-LINE_BYTES-clause-console
returns-then-count-gt-LINE_BYTES-clause-console c = λ more end. (
  take c.in-Some.count (unread c.args.self.now),
  lines_of-handed (skipped c) more end,
  omega (arith, c.if-count-gt-LINE_BYTES.true, c.in-Some.ensures.within, c.in-Some.ensures.used.within, length-take {A = ℕ}),
)

pub returns-else-count-gt-LINE_BYTES-clause-lines :
    goal.returns-else-count-gt-LINE_BYTES-clause-lines
returns-else-count-gt-LINE_BYTES-clause-lines c = handed_lines-handed (shown c) c.next_range.ensures.consistent.cut

pub returns-else-count-gt-LINE_BYTES-clause-console :
    goal.returns-else-count-gt-LINE_BYTES-clause-console
returns-else-count-gt-LINE_BYTES-clause-console c = λ more end. (
  lines_of-handed (shown c) more end,
  omega (arith, c.if-count-gt-LINE_BYTES.false, ap (λ s. length {A = ℕ} s.line) c.show.ensures, length-take {A = ℕ}),
)
