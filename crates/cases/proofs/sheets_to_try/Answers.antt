use Rattle.types.proofs.Worked.{examples_hold_lem}
use Rattle.cases.proofs.Meeting.{numbers}
use Rattle.cases.proofs.Sheets.{sheets}
use Rattle.cases.proofs.sheets_to_try.Goals as goal

pub returns : goal.returns
returns c = (sheets, examples_hold_lem.0, numbers)
