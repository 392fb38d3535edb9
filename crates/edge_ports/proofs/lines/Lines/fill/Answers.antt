use Rattle.std.proofs.Common.{◌∙◌, ◌≡◌, ap, false, length, sym, true}
use Rattle.edge_ports.proofs.SameBytesCome.{filled_more, none_from, on_ok}
use Rattle.edge_ports.proofs.lines.Lines.fill.Goals as goal
use Rattle.edge_ports.specs.Lines.{line_end_of}

pub filling-preserved : goal.filling-preserved
filling-preserved g c =
    let ok = c.if-is_err.ensures.negation in
    filled_more (length c.unread-looked.result.now) c.filling.invariant
    (record {
      none = ap line_end_of (sym c.unread.ensures.bytes) ∙ sym c.line_end-place.ensures ∙ none_from c.line_end-place.result c.if-is_some.ensures;
      not_ended = sym c.has_ended.ensures ∙ c.if-has_ended.false;
      room = λ full. let both : false ≡ true = c.if-is_full.ensures.full.1 full in cc;
      within = c.is_full.ensures.consistent.handed;
    })
    (record {
      moved = c.take_more.ensures.moved;
      handed = c.take_more.ensures.handed;
      line = c.take_more.ensures.line;
      ends = on_ok c.take_more.result ok c.take_more.ensures.ok;
      calm = on_ok c.take_more.result ok c.take_more.ensures.calm;
    })
    (ap length c.unread-looked.ensures.bytes)
