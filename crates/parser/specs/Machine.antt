-- What the reader's open parts stand for: which tokens complete them, and to which program. No public contract cites it. Assumes nothing.
use Rattle.std.specs.Prelude.{◌≡◌, ℕ, suc, ◌≤◌, List, [], ◌∷◌, ◌++◌, Some}
use Rattle.parser.specs.declared.symbols.Prefix.{Prefix}
use Rattle.parser.specs.declared.symbols.Operator.{Operator}
use Rattle.parser.specs.declared.symbols.Symbol.TheVariants.{Close, Colon, Semicolon}
use Rattle.parser.specs.declared.symbols.Token.{Token}
use Rattle.parser.specs.declared.symbols.Follow.{Follow}
use Rattle.parser.specs.Syntax.{Expr, unary, binary, choice}
use Rattle.parser.specs.Grammar.{follow, binding, prefix, atom, left, level, Phrase, Suffix, Statements}

-- Onward k ℓ e ts e' us: after e, which binds as tightly as k, ts goes on to e', which binds as tightly as ℓ, and then us
pub data Onward : ℕ → ℕ → Expr → List Token → Expr → List Token → Type 0 where
  stop : {k ℓ : ℕ} {e : Expr} {ts : List Token} → ℓ ≤ k → Onward k ℓ e ts e ts
  step : {k ℓ : ℕ} {e a e' : Expr} {t : Token} {ts us vs : List Token} → (f : Follow) → follow t.symbol ≡ Some f → ℓ ≤ level f → left f ≤ k → Suffix f e ts a us → Onward (level f) ℓ a us e' vs → Onward k ℓ e (t ∷ ts) e' vs

-- an open part that ends where its last operand ends
pub data Right : Type 0 where
  right_infix : Operator → Expr → Right
  right_prefix : Prefix → ℕ → Right
  otherwise : Expr → Expr → Right

-- how tightly its operand binds, how tightly the whole binds, and the whole
abbrev pub wanted : Right → ℕ
wanted (right_infix op a) = suc (binding op)
wanted (right_prefix op p) = prefix
wanted (otherwise a b) = 0

abbrev pub tightness : Right → ℕ
tightness (right_infix op a) = binding op
tightness (right_prefix op p) = prefix
tightness (otherwise a b) = 0

abbrev pub built : Right → Expr → Expr
built (right_infix op a) e = binary op a e
built (right_prefix op p) e = unary op p e
built (otherwise a b) e = choice a b e

-- an open part, which waits for an operand
pub data Part : Type 0 where
  right : Right → Part
  bracket : Part
  consequent : Expr → Part

-- how tightly the awaited operand binds
abbrev pub wants : List Part → ℕ
wants [] = 0
wants (right r ∷ ps) = wanted r
wants (bracket ∷ ps) = 0
wants (consequent a ∷ ps) = 0

-- Closes before ps e ts ss: with e as the awaited operand and after the statements before, ts completes the program ss
pub data Closes (before : List Expr) : List Part → Expr → List Token → List Expr → Type 0 where
  ends : {e : Expr} {ss all : List Expr} {t : Token} {ts : List Token} → t.symbol ≡ Semicolon → Statements ts ss [] → all ≡ before ++ (e ∷ ss) → Closes before [] e (t ∷ ts) all
  shuts : {e e' : Expr} {ps : List Part} {all : List Expr} {t : Token} {ts us : List Token} → t.symbol ≡ Close → Onward atom (wants ps) e ts e' us → Closes before ps e' us all → Closes before (bracket ∷ ps) e (t ∷ ts) all
  applies : {r : Right} {e e' : Expr} {ps : List Part} {all : List Expr} {ts us : List Token} → Onward (tightness r) (wants ps) (built r e) ts e' us → Closes before ps e' us all → Closes before (right r ∷ ps) e ts all
  turns : {a e c e' : Expr} {ps : List Part} {all : List Expr} {t : Token} {ts us vs : List Token} → t.symbol ≡ Colon → Phrase 0 ts c us → Onward 0 (wants ps) (choice a e c) us e' vs → Closes before ps e' vs all → Closes before (consequent a ∷ ps) e (t ∷ ts) all

-- where the reader is: before a statement, before an operand, or after the operand e that binds as tightly as k
pub data State : Type 0 where
  start : State
  want : State
  after : ℕ → Expr → State

abbrev pub Completes : State → List Expr → List Part → List Token → List Expr → Type 0
Completes start before ps ts all = (ps ≡ []) × (ss : List Expr) × Statements ts ss [] × (all ≡ before ++ ss)
Completes want before ps ts all = (e : Expr) × (us : List Token) × Phrase (wants ps) ts e us × Closes before ps e us all
Completes (after k e) before ps ts all = (e' : Expr) × (us : List Token) × Onward k (wants ps) e ts e' us × Closes before ps e' us all

-- each open part binds as tightly as the part below it wants
abbrev pub Ready : List Part → Type 0
Ready [] = Unit {0}
Ready (right r ∷ ps) = (wants ps ≤ tightness r) × Ready ps
Ready (bracket ∷ ps) = Ready ps
Ready (consequent a ∷ ps) = (wants ps ≤ 0) × Ready ps

-- the one configuration is completed by ts as the other is by us
abbrev pub Same : (s : State) (before : List Expr) (ps : List Part) (ts : List Token) (s' : State) (before' : List Expr) (ps' : List Part) (us : List Token) → Type 0
Same s before ps ts s' before' ps' us = (all : List Expr) → (Completes s before ps ts all → Completes s' before' ps' us all) × (Completes s' before' ps' us all → Completes s before ps ts all)

-- nothing that begins with t completes the configuration
abbrev pub Dead : State → List Expr → List Part → Token → Type 0
Dead s before ps t = (ts : List Token) (all : List Expr) → Completes s before ps (t ∷ ts) all → ⊥
