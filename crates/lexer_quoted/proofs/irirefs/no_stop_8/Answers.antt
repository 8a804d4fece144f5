-- `no_stop_8` meets its contract.
use Rattle.lexer_quoted.proofs.irirefs.no_stop_8.Goals as goal

pub returns : goal.returns
returns c = rw (c.stops-8.ensures, c.stops-7.ensures, c.stops-6.ensures, c.stops-5.ensures, c.stops-4.ensures, c.stops-3.ensures, c.stops-2.ensures, c.stops.ensures)
