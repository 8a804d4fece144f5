-- The types of the code in the words of the definitions.
use Rattle.std.specs.Prelude.{ℕ, Option, Some, None}
use Rattle.text.specs.Text.{Text}
use Rattle.documents.specs.Choice.{mode_by_name}
use Rattle.documents.specs.declared.choice.Mode.{Mode}
use Rattle.documents.specs.declared.choice.Mode.TheVariants.{Trig, Turtle}
use Rattle.documents.specs.declared.choice.Choice.{Choice}
use Rattle.documents.specs.declared.choice.Choice.TheVariants.{Always, ByName}

-- A mode by the reader's number.
abbrev pub mode_number : Mode → ℕ
mode_number Trig = 0
mode_number Turtle = 1

-- What a word says, by number.
abbrev pub word_number : Option Choice → ℕ
word_number (Some (Always mode)) = mode_number mode
word_number (Some ByName) = 2
word_number None = 3

-- The mode of a file with this name, by number.
abbrev pub chosen : Choice → Text → ℕ
chosen (Always mode) name = mode_number mode
chosen ByName name = mode_by_name name
