-- How an answer is written into bytes. Assumes nothing.
use Rattle.std.specs.Prelude.{ℕ, ◌+◌, ◌-◌, ◌/◌, ◌%◌, min, List, [], ◌∷◌, ◌++◌, length, take, drop}
use Rattle.checker.specs.declared.finding.Finding.{Finding}
use Rattle.checker.specs.Findings.{number_of}

-- the four lowest bytes of a number, the lowest first
abbrev pub word : ℕ → List ℕ
word v = v % 256 ∷ v / 256 % 256 ∷ v / 65536 % 256 ∷ v / 16777216 % 256 ∷ []

-- a finding: its kind, and its place
abbrev pub row : Finding → List ℕ
row f = word (number_of f.kind) ++ word f.place

-- one after the other
abbrev pub rows : List Finding → List ℕ
rows [] = []
rows (f ∷ fs) = row f ++ rows fs

-- the old bytes, with new ones in their place from an index on
unfoldable pub replaced : List ℕ → ℕ → List ℕ → List ℕ
replaced old at new = take at old ++ (new ++ drop (at + length new) old)

-- how many of so many findings have room after the first eight bytes; a call keeps 4,096 at most
abbrev pub fitting : ℕ → List ℕ → ℕ
fitting count out = min (min count 4096) ((length out - 8) / 8)
