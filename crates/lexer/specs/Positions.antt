-- Lines and columns, both counted from 1. Assumes nothing.
use Rattle.std.specs.Prelude.{ℕ, ◌+◌, Bool, not, List, ◌++◌, count_by, codes, ◌==◌}
use Rattle.std.specs.Fmt.{decimal}
use Rattle.std.specs.List.{suffix_len}

abbrev pub is_feed : ℕ → Bool
is_feed b = b == 10

abbrev pub no_feed : ℕ → Bool
no_feed b = not (b == 10)

-- the line after some bytes: one more than their line feeds
abbrev pub line_after : List ℕ → ℕ
line_after bs = 1 + count_by is_feed bs

-- the column after some bytes: one more than the bytes at their end that are no line feeds
abbrev pub column_after : List ℕ → ℕ
column_after bs = 1 + suffix_len no_feed bs

-- LINE:COLUMN, both in decimal digits
abbrev pub position_text : ℕ → ℕ → List ℕ
position_text line column = decimal line ++ (codes ":" ++ decimal column)
