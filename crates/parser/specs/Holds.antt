-- How the reader's table and stack stand for the configurations of Machine. No public contract cites it. Assumes nothing.
use Rattle.std.specs.Prelude.{◌≡◌, ℕ, suc, ◌+◌, ◌<◌, ◌≤◌, ◌⊎◌, List, [], ◌∷◌, ◌++◌, length, Some, None, Option, IfSome}
use Rattle.parser.specs.declared.symbols.Prefix.{Prefix as AnyPrefix}
use Rattle.parser.specs.declared.symbols.Operator.{Operator}
use Rattle.parser.specs.declared.symbols.Token.{Token}
use Rattle.parser.specs.declared.symbols.Follow.{Follow}
use Rattle.parser.specs.declared.tree.TreeEntry.{TreeEntry}
use Rattle.parser.specs.declared.tree.TreeEntry.TheVariants.{Unary, Binary, Choice}
use Rattle.parser.specs.declared.tree.OperatorEntry.{OperatorEntry}
use Rattle.parser.specs.declared.tree.OperatorEntry.TheVariants.{Blank, Infix, Prefix, Bracket, Consequent, Otherwise, Operand as Finished}
use Rattle.parser.specs.declared.builder.Position.{Position}
use Rattle.parser.specs.declared.builder.Position.TheVariants.{Start, Want, After}
use Rattle.parser.specs.Syntax.{Expr, size, sizes}
use Rattle.parser.specs.Grammar.{follow, left, level, binding, prefix, atom, Program}
use Rattle.parser.specs.Table.{tree_at, last_of, Tree, Listed, AllProper}
use Rattle.parser.specs.Machine.{right_infix, right_prefix, otherwise, Part, right, bracket, consequent, State, start, want, after, wants, Completes, Ready, Same}

-- the operand that has just ended: its index, and how many entries of the table are in use
pub record Operand : Type 0 where
  pub at : ℕ
  pub used : ℕ

-- the entries in use, the last statement that has ended, and what was seen last
pub record Progress : Type 0 where
  pub used : ℕ
  pub last : Option ℕ
  pub position : Position

-- the token lies in a sheet of this size
abbrev pub Within : ℕ → Token → Type 0
Within sheet t = (t.place < sheet) × (t.place + t.len ≤ sheet)

-- what stood below n in the table still stands there
pub record Kept (n : ℕ) (old new : List TreeEntry) : Type 0 where
  pub long : length new ≡ length old
  pub same : (i : ℕ) → i < n → tree_at new i ≡ tree_at old i

-- the frames are the open parts, whose expressions stand below n
pub data Frames (sheet : ℕ) (table : List TreeEntry) (n : ℕ) : List OperatorEntry → List Part → Type 0 where
  no_frame : Frames sheet table n [] []
  a_bracket : {fs : List OperatorEntry} {ps : List Part} → Frames sheet table n fs ps → Frames sheet table n (Bracket ∷ fs) (bracket ∷ ps)
  an_infix : {fs : List OperatorEntry} {ps : List Part} {op : Operator} {i : ℕ} {a : Expr} → i < n → Tree table i a → Frames sheet table n fs ps → Frames sheet table n (Infix op i ∷ fs) (right (right_infix op a) ∷ ps)
  a_prefix : {fs : List OperatorEntry} {ps : List Part} {op : AnyPrefix} {p : ℕ} → p < sheet → Frames sheet table n fs ps → Frames sheet table n (Prefix op p ∷ fs) (right (right_prefix op p) ∷ ps)
  an_otherwise : {fs : List OperatorEntry} {ps : List Part} {i j : ℕ} {a b : Expr} → i < n → j < n → Tree table i a → Tree table j b → Frames sheet table n fs ps → Frames sheet table n (Otherwise i j ∷ fs) (right (otherwise a b) ∷ ps)
  a_consequent : {fs : List OperatorEntry} {ps : List Part} {i : ℕ} {a : Expr} → i < n → Tree table i a → Frames sheet table n fs ps → Frames sheet table n (Consequent i ∷ fs) (consequent a ∷ ps)

-- how many entries the finished expressions in the open parts take
abbrev pub spent : List Part → ℕ
spent [] = 0
spent (right (right_infix op a) ∷ ps) = size a + spent ps
spent (right (right_prefix op p) ∷ ps) = spent ps
spent (right (otherwise a b) ∷ ps) = size a + size b + spent ps
spent (bracket ∷ ps) = spent ps
spent (consequent a ∷ ps) = size a + spent ps

-- the table and the stack hold the statements b and the open parts ps
pub record Before (sheet : ℕ) (table : List TreeEntry) (fs : List OperatorEntry) (used : ℕ) (last : Option ℕ) (b : List Expr) (ps : List Part) : Type 0 where
  pub frames : Frames sheet table used fs ps
  pub ready : Ready ps
  pub listed : Listed table last b
  pub low : IfSome last (λ i. i < used)
  pub proper : AllProper sheet table used

-- the same, after the operand e, which binds as tightly as k
pub record Ended (sheet : ℕ) (table : List TreeEntry) (fs : List OperatorEntry) (o : Operand) (last : Option ℕ) (k : ℕ) (b : List Expr) (ps : List Part) (e : Expr) : Type 0 where
  pub before : Before sheet table fs o.used last b ps
  pub fits : wants ps ≤ k
  pub low : o.at < o.used
  pub tree : Tree table o.at e
  pub exact : o.used ≡ sizes b + (spent ps + size e)

-- an expression that binds as tightly as k can be followed by t
abbrev pub Fits : Token → ℕ → Type 0
Fits t k = (f : Follow) → follow t.symbol ≡ Some f → left f ≤ k

-- t ends each open part whose operand binds as tightly as least
abbrev pub Ends : Token → ℕ → Type 0
Ends t least = (f : Follow) → follow t.symbol ≡ Some f → suc (level f) ≤ least

-- what comes of an operand where the open parts that t ends are completed
pub record AfterAll (sheet : ℕ) (table : List TreeEntry) (fs : List OperatorEntry) (o : Operand) (last : Option ℕ) (k : ℕ) (b : List Expr) (ps : List Part) (e : Expr) (t : Token) : Type 0 where
  pub tight : ℕ
  pub tree : Expr
  pub parts : List Part
  pub ended : Ended sheet table fs o last tight b parts tree
  pub goes : Fits t tight
  pub same : (ts : List Token) → Same (after k e) b ps (t ∷ ts) (after tight tree) b parts (t ∷ ts)

pub record Reduced (old : List TreeEntry) (fs : List OperatorEntry) (o : Operand) (least : ℕ) (new : List TreeEntry) (fs' : List OperatorEntry) (o' : Operand) : Type 0 where
  pub turns : (sheet : ℕ) (last : Option ℕ) (k : ℕ) (b : List Expr) (ps : List Part) (e : Expr) (t : Token) → Ended sheet old fs o last k b ps e → Fits t k → Ends t least → AfterAll sheet new fs' o' last k b ps e t

-- the entry of a part that ends with its operand, which stands at i
abbrev pub completion : OperatorEntry → ℕ → Option TreeEntry
completion Blank i = None
completion (Infix op l) i = Some (Binary op l i)
completion (Prefix op p) i = Some (Unary op p i)
completion Bracket i = None
completion (Consequent l) i = None
completion (Otherwise l m) i = Some (Choice l m i)
completion (Finished p e) i = None

-- how tightly the awaited operand binds
abbrev pub awaits : OperatorEntry → ℕ
awaits Blank = 0
awaits (Infix op l) = suc (binding op)
awaits (Prefix op p) = prefix
awaits Bracket = 0
awaits (Consequent l) = 0
awaits (Otherwise l m) = 0
awaits (Finished p e) = 0

-- the part on top does not end with its operand, or its operand binds looser than least
abbrev pub Lower : ℕ → List OperatorEntry → Type 0
Lower least [] = Unit {0}
Lower least (f ∷ fs) = (awaits f < least) ⊎ ((i : ℕ) → completion f i ≡ None)

-- where the reader is, and that the n entries in use are those of the statements b and of the expressions after them; at the
-- start of a statement the last entry in use is the last statement
pub data Stage (table : List TreeEntry) (n : ℕ) (last : Option ℕ) (b : List Expr) : Position → State → List Part → Type 0 where
  at_start : n ≡ sizes b → last ≡ last_of n → Stage table n last b Start start []
  at_want : {ps : List Part} → n ≡ sizes b + spent ps → Stage table n last b Want want ps
  at_after : {ps : List Part} {i : ℕ} {e : Expr} → i < n → Tree table i e → n ≡ sizes b + (spent ps + size e) → Stage table n last b (After i) (after atom e) ps

pub record Holds (sheet : ℕ) (table : List TreeEntry) (fs : List OperatorEntry) (p : Progress) (s : State) (b : List Expr) (ps : List Part) : Type 0 where
  pub before : Before sheet table fs p.used p.last b ps
  pub stage : Stage table p.used p.last b p.position s ps

-- the configuration that t leads to, and it is held
pub record Next (sheet : ℕ) (table : List TreeEntry) (fs : List OperatorEntry) (p : Progress) (s : State) (b : List Expr) (ps : List Part) (t : Token) : Type 0 where
  pub state : State
  pub statements : List Expr
  pub parts : List Part
  pub holds : Holds sheet table fs p state statements parts
  pub same : (ts : List Token) → Same s b ps (t ∷ ts) state statements parts ts

-- after the tokens before, the table and the stack hold a configuration that the same tokens complete, to the same program
pub record Sofar (sheet : ℕ) (before : List Token) (table : List TreeEntry) (fs : List OperatorEntry) (p : Progress) : Type 0 where
  pub state : State
  pub statements : List Expr
  pub parts : List Part
  pub holds : Holds sheet table fs p state statements parts
  pub means : (rest : List Token) (all : List Expr) → (Program (before ++ rest) all → Completes state statements parts rest all) × (Completes state statements parts rest all → Program (before ++ rest) all)
