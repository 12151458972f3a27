use Rattle.std.proofs.Common.{rules, ◌<◌, ◌∙◌, sym, arith, length}
use Rattle.holdings.proofs.Writing.{writes-more, drop_more}
use Rattle.holdings.proofs.lines.write_lines.Goals as goal

pub loop-key-preserved : goal.loop-key-preserved
loop-key-preserved c =
    let s = c.loop-key in
    let h : s.key-index < length c.args.keys.now = search rules in
    record {
      whole = writes-more s.last c.args.keys.now s.key-index h _ s.out _ s.at 9 (sym c.eq.ensures ∙ c.if-eq.false) s.invariant.whole c.write_line.ensures.line;
      behind = c.write_line.ensures.behind ∙ drop_more _ _ s.at 9 s.invariant.behind;
      few = omega arith;
    }
