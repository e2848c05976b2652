-- The grammar: which token lists are programs, and their trees. Assumes nothing.
use Rattle.std.specs.Prelude.{◌≡◌, ℕ, suc, ◌≤◌, List, [], ◌∷◌, ◌++◌, Some, None, Option}
use Rattle.parser.specs.declared.symbols.Leaf.{Leaf}
use Rattle.parser.specs.declared.symbols.Prefix.{Prefix}
use Rattle.parser.specs.declared.symbols.Prefix.TheVariants.{Negate}
use Rattle.parser.specs.declared.symbols.Operator.{Operator}
use Rattle.parser.specs.declared.symbols.Operator.TheVariants.{Multiply, Divide, Remainder, Add, Subtract, Less, Greater, AtMost, AtLeast, Same, Differs, And, Or}
use Rattle.parser.specs.declared.symbols.Symbol.{Symbol}
use Rattle.parser.specs.declared.symbols.Symbol.TheVariants.{Other, Leaf as ALeaf, Prefix as APrefix, Infix as AnInfix, Open, Close, Question, Colon, Semicolon}
use Rattle.parser.specs.declared.symbols.Token.{Token}
use Rattle.parser.specs.declared.symbols.Follow.{Follow}
use Rattle.parser.specs.declared.symbols.Follow.TheVariants.{Infix, Choice}
use Rattle.parser.specs.Syntax.{Expr, leaf, unary, binary, choice}

-- the token is an expression by itself
abbrev pub leaf_of : Symbol → Option Leaf
leaf_of Other = None
leaf_of (ALeaf l) = Some l
leaf_of (APrefix op) = None
leaf_of (AnInfix op) = None
leaf_of Open = None
leaf_of Close = None
leaf_of Question = None
leaf_of Colon = None
leaf_of Semicolon = None

-- `-` is an operator before its operand, too
abbrev pub prefix_of : Operator → Option Prefix
prefix_of Multiply = None
prefix_of Divide = None
prefix_of Remainder = None
prefix_of Add = None
prefix_of Subtract = Some Negate
prefix_of Less = None
prefix_of Greater = None
prefix_of AtMost = None
prefix_of AtLeast = None
prefix_of Same = None
prefix_of Differs = None
prefix_of And = None
prefix_of Or = None

-- the token is an operator before its operand
abbrev pub before : Symbol → Option Prefix
before Other = None
before (ALeaf l) = None
before (APrefix op) = Some op
before (AnInfix op) = prefix_of op
before Open = None
before Close = None
before Question = None
before Colon = None
before Semicolon = None

-- what a token that stands after an expression makes of it
abbrev pub follow : Symbol → Option Follow
follow Other = None
follow (ALeaf l) = None
follow (APrefix op) = None
follow (AnInfix op) = Some (Infix op)
follow Open = None
follow Close = None
follow Question = Some Choice
follow Colon = None
follow Semicolon = None

-- how tightly an operator binds; 0 is the loosest
abbrev pub binding : Operator → ℕ
binding Or = 1
binding And = 2
binding Same = 3
binding Differs = 3
binding Less = 4
binding Greater = 4
binding AtMost = 4
binding AtLeast = 4
binding Add = 5
binding Subtract = 5
binding Multiply = 6
binding Divide = 6
binding Remainder = 6

-- how tightly an operator before its operand binds, and a token or brackets
abbrev pub prefix : ℕ
prefix = 8

abbrev pub atom : ℕ
atom = 9

-- how tightly the expression before it has to bind
abbrev pub left : Follow → ℕ
left (Infix op) = binding op
left Choice = 1

-- how tightly the larger expression binds
abbrev pub level : Follow → ℕ
level (Infix op) = binding op
level Choice = 0

mutual
  -- Phrase ℓ ts e us: ts is an expression e that binds at least as tightly as ℓ, and then us
  pub data Phrase : ℕ → List Token → Expr → List Token → Type 0 where
    begins : {ℓ k : ℕ} {e : Expr} {ts us : List Token} → ℓ ≤ k → Operand k ts e us → Phrase ℓ ts e us
    goes_on : {ℓ : ℕ} {a e : Expr} {t : Token} {ts us vs : List Token} → (f : Follow) → follow t.symbol ≡ Some f → ℓ ≤ level f → Phrase (left f) ts a (t ∷ us) → Suffix f a us e vs → Phrase ℓ ts e vs

  -- Operand k ts e us: ts is an expression e that no shorter expression begins, which binds as tightly as k, and then us
  pub data Operand : ℕ → List Token → Expr → List Token → Type 0 where
    a_leaf : {l : Leaf} {t : Token} {us : List Token} → leaf_of t.symbol ≡ Some l → Operand atom (t ∷ us) (leaf l t.place t.len) us
    brackets : {e : Expr} {t c : Token} {ts us : List Token} → t.symbol ≡ Open → c.symbol ≡ Close → Phrase 0 ts e (c ∷ us) → Operand atom (t ∷ ts) e us
    prefixed : {op : Prefix} {e : Expr} {t : Token} {ts us : List Token} → before t.symbol ≡ Some op → Phrase prefix ts e us → Operand prefix (t ∷ ts) (unary op t.place e) us

  -- Suffix f a ts e us: after a and the token of f, ts completes e, and then us; a right operand binds tighter than its
  -- operator, so operators group to the left
  pub data Suffix : Follow → Expr → List Token → Expr → List Token → Type 0 where
    by_operator : {op : Operator} {a b : Expr} {ts us : List Token} → Phrase (suc (binding op)) ts b us → Suffix (Infix op) a ts (binary op a b) us
    by_choice : {a b c : Expr} {t : Token} {ts us vs : List Token} → t.symbol ≡ Colon → Phrase 0 ts b (t ∷ us) → Phrase 0 us c vs → Suffix Choice a ts (choice a b c) vs

-- Statements ts ss us: ts is the statements ss, each an expression and a semicolon, and then us
pub data Statements : List Token → List Expr → List Token → Type 0 where
  none : {us : List Token} → Statements us [] us
  more : {e : Expr} {ss : List Expr} {t : Token} {ts us vs : List Token} → t.symbol ≡ Semicolon → Phrase 0 ts e (t ∷ us) → Statements us ss vs → Statements ts (e ∷ ss) vs

abbrev pub Program : List Token → List Expr → Type 0
Program ts ss = Statements ts ss []

-- some program begins with ts
abbrev pub Begins : List Token → Type 0
Begins ts = (rest : List Token) × (ss : List Expr) × Program (ts ++ rest) ss
