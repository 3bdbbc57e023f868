use Rattle.std.proofs.Common.{of_calls, ◌∙◌, inl, inr, arith}
use Rattle.console.proofs.LineByLine.{next_line, no_line}
use Rattle.console.proofs.lines.for_each_line.Goals as goal

pub loop-number-preserved : goal.loop-number-preserved
loop-number-preserved g c =
    let before = c.loop-number.invariant in
    let number = c.in-Some.ensures.steps.0 in
    let line = c.in-Some.ensures.steps.1 in
    let called = rw (number.0, c.in_ok-call_mut.was) at c.call_mut.ensures in
    let known = rw (c.in_ok-line.was, before.1) at line.2 in (
      search of_calls,
      line.1 ∙ before.1,
      λ others.
          before.2 (next_line _ _ c.loop-number.answer c.call_mut.new.self c.loop-number.number-iterator.a.start c.in_ok-line.field-0 _ _ called known.0 known.1 (rw (number.1, number.0) at others)),
    )

pub returns : goal.returns
returns g c =
    c.loop-number.invariant.2
    (no_line _ _ _ _ _ (elim c.in-None.ensures.steps [ inl many ↦ inl (omega arith) | inr at_end ↦ inr at_end.1.2 ]))
