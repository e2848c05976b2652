use Rattle.lexer.proofs.Unique.{lexes_once}
use Rattle.lexer.proofs.reader.one_reading.Goals as goal

pub returns : goal.returns
returns c = lexes_once
