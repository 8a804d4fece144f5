-- The text that a front and a back with escapes stand for.
use Rattle.std.specs.Prelude.{◌++◌, Bool, false}
use Rattle.text.specs.Text.{Text}
use Rattle.escape.specs.Escape.{unescape, bad_escape, unreserve}
use Rattle.spelling.specs.declared.Form.{Form}
use Rattle.spelling.specs.declared.Form.TheVariants.{Plain, Escaped, Reserved}

unfoldable pub undo : Form → Text → Text
undo Plain s = s
undo Escaped s = unescape s
undo Reserved s = unreserve s

-- Does an escape name no character?
unfoldable pub bad : Form → Text → Bool
bad Plain s = false
bad Escaped s = bad_escape s
bad Reserved s = false

unfoldable pub joined : Text → Form → Text → Text
joined front form back = front ++ undo form back
