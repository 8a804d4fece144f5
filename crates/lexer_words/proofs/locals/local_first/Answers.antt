-- `local_first` meets its contract.
use mathlib.Core.Path.{refl}
use Rattle.characters.specs.Bytes.{local_first}
use Rattle.characters.specs.Names.{base}
use Rattle.lexer_words.proofs.Parts.{local_char_is, local_plx_is}
use Rattle.lexer_words.proofs.locals.local_first.Goals as goal

pub returns-in-Some : goal.returns-in-Some
returns-in-Some c = local_char_is local_first base c.args.s.now c.args.at _ c.requires c.char_at.ensures refl refl _ c.in-Some.is

pub returns : goal.returns
returns c = local_plx_is local_first base c.args.s.now c.args.at _ c.requires c.char_at.ensures refl refl c.in_default.is _ c.plx.ensures
