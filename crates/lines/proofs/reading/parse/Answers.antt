use Rattle.std.proofs.Common.{ap, ◌∙◌}
use Rattle.lines.specs.Format.{command_of}
use Rattle.lines.proofs.Readback.{its_text}
use Rattle.lines.proofs.Rests.{short_by_rest}
use Rattle.lines.proofs.reading.parse.Goals as goal

pub returns : goal.returns
returns c =
    let text = c.in_ok-text_of.ensures in
    let answer = c.read_command.ensures ∙ short_by_rest c.in_ok-text_of.field-0.now text.1 ∙ ap command_of text.0 in
    record { answer = answer; text = its_text c.args.line.now c.read_command.result answer }
