use Rattle.std.proofs.Common.{◌≡◌, ◌+◌, ◌*◌, ◌≤◌, length, drop}
use Rattle.lines.specs.Texts.{with_fields}
use Rattle.lines.proofs.reply.push_fields.Given as goal

-- the numbers that are left, behind the text so far, give the whole
abbrev pub invariant-loop-number : goal.invariant-loop-number
invariant-loop-number l =
    record {
      words : with_fields l.text.bytes (drop l.number-index l.numbers) ≡ with_fields l.initial.text.bytes l.numbers;
      short : length l.text.bytes ≤ length l.initial.text.bytes + 11 * l.number-index;
    }
