use Rattle.std.proofs.Common.{◌≡◌, Ok}
use Rattle.std.specs.Io.Buffered.{reader_remaining}
use Rattle.std.specs.Io.Iter.{split_byte, split_known_bytes}
use Rattle.console.specs.Lines.{AnswersLines}
use Rattle.console.proofs.lines.for_each_line.Given as goal

abbrev pub invariant-loop-number : goal.invariant-loop-number
invariant-loop-number g l =
    let answers = AnswersLines (λ p number line q. goal.F-step g p number line (Ok tt) q) (λ line. line.items) in
    let items = l.number-iterator in
    goal.F-IsAlwaysCallable g l.answer
    × (split_byte items.b ≡ 10)
    × (answers l.answer items.a.start (split_known_bytes (reader_remaining g.R.Read.remaining) items.b) → answers l.fn.answer 1 (g.R.Read.remaining l.fn.input))
