use Rattle.std.proofs.Common.{◌∙◌, sym, ap, arith}
use Rattle.registers.specs.Library.{library_rows}
use Rattle.registers.specs.Meaning.{lines_of, look_up}
use Rattle.registers.specs.Standings.{stands, table_lines}
use Rattle.registers.proofs.Rows.{none_past, by_row}
use Rattle.registers.proofs.table.find_in.Goals as goal

pub returns-in_err-row : goal.returns-in_err-row
returns-in_err-row c = ap stands c.from_residual.ensures ∙ sym (none_past (lines_of library_rows) c.args.name.now 0 _ c.requires (omega (arith, c.in_err-row.ensures.lookup.3)))

pub returns : goal.returns
returns c =
    let at = c.in_ok-row.ensures.lookup.3 in
    c.find.ensures ∙ ap (λ r. look_up (table_lines r.now) c.args.name.now) (at.1 c.in_ok-row.row.now)
    ∙ by_row (lines_of library_rows) c.args.name.now _ _ c.requires at.0
