-- antt computes that the table has the words, each in its row.
use Rattle.std.proofs.Common.{◌+◌, ◌%◌, ◌≡◌, rules, sym, ap, ◌∙◌, subst}
use Rattle.lexer.proofs.WordRows.{row_of, Rows, word_told}
use Rattle.lexer.proofs.marks.is_word.Goals as goal

pub returns : goal.returns
returns c =
    let rows = subst Rows (sym c.as_slice.ensures) (record { small = search; only = search; every = search }) in
    let row : c.from.result ≡ row_of c.args.text.now = c.from.ensures ∙ ap (λ b. (b + 159) % 256) c.byte_at-row.ensures in
    word_told _ _ _ row rows _ _ _ c.get.ensures.lookup.3 c.is_some_and.ensures (λ w k. search rules)
