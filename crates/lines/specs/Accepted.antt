-- Which lines are accepted. Assumes nothing.
use Rattle.std.specs.Prelude.{◌≡◌, ℕ, ◌≤◌, List, [], ◌∷◌, ◌++◌, IfOk, Ok, Result}
use Rattle.faults.specs.declared.Cause.{Cause}
use Rattle.lines.specs.declared.command.Command.{Command}
use Rattle.lines.specs.Format.{largest, text_of_line, parsed}
use Rattle.lines.specs.Texts.{command_values, command_text}

-- a line that is accepted is the text of its command, byte for byte
abbrev pub ItsText : List ℕ → Result Command Cause → Type 0
ItsText line r = IfOk r (λ c. text_of_line line ≡ command_text c)

-- every number is one that a field can have
abbrev pub AllSmall : List ℕ → Type 0
AllSmall [] = Unit {0}
AllSmall (n ∷ ns) = (n ≤ largest) × AllSmall ns

-- the text of every such command is accepted, with and without a closing byte, and read as that command
abbrev pub CommandsAccepted : Type 0
CommandsAccepted = (c : Command) → AllSmall (command_values c) → (parsed (command_text c) ≡ Ok c) × (parsed (command_text c ++ (10 ∷ [])) ≡ Ok c)
