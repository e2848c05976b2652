use Rattle.std.proofs.Common.{◌≡◌, sym, ap, rules, codes, arith}
use Rattle.std.proofs.lemmas.Slice.Eq.{text_from_reads}
use Rattle.parser.specs.Symbols.{words, symbol_in}
use Rattle.parser.proofs.tokens.word.Goals as goal

pub returns-in-typeof : goal.returns-in-typeof
returns-in-typeof c =
    let text : c.args.text.now ≡ codes "typeof" = text_from_reads _ _ (omega arith) (search rules) in
    sym (ap (symbol_in words) text)
