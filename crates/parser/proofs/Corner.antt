-- A phrase is its first operand and what follows it. Assumes nothing.
use Rattle.std.proofs.Common.{ℕ, suc, ◌≤◌, List, le_refl, arith, lit≤}
use Rattle.parser.specs.declared.symbols.Token.{Token}
use Rattle.parser.specs.declared.symbols.Operator.{Operator}
use Rattle.parser.specs.declared.symbols.Operator.TheVariants.{Multiply, Divide, Remainder, Add, Subtract, Less, Greater, AtMost, AtLeast, Same, Differs, And, Or}
use Rattle.parser.specs.declared.symbols.Follow.{Follow}
use Rattle.parser.specs.declared.symbols.Follow.TheVariants.{Infix, Choice}
use Rattle.parser.specs.Syntax.{Expr}
use Rattle.parser.specs.Grammar.{binding, prefix, atom, left, level, Phrase, begins, goes_on, Operand}
use Rattle.parser.specs.Machine.{Onward, stop, step, Right, right_infix, right_prefix, otherwise, wanted, tightness}

-- how tightly things bind

pub binding_low : (op : Operator) → 1 ≤ binding op
binding_low Multiply = lit≤ tt
binding_low Divide = lit≤ tt
binding_low Remainder = lit≤ tt
binding_low Add = lit≤ tt
binding_low Subtract = lit≤ tt
binding_low Less = lit≤ tt
binding_low Greater = lit≤ tt
binding_low AtMost = lit≤ tt
binding_low AtLeast = lit≤ tt
binding_low Same = lit≤ tt
binding_low Differs = lit≤ tt
binding_low And = lit≤ tt
binding_low Or = lit≤ tt

pub binding_high : (op : Operator) → suc (binding op) ≤ prefix
binding_high Multiply = lit≤ tt
binding_high Divide = lit≤ tt
binding_high Remainder = lit≤ tt
binding_high Add = lit≤ tt
binding_high Subtract = lit≤ tt
binding_high Less = lit≤ tt
binding_high Greater = lit≤ tt
binding_high AtMost = lit≤ tt
binding_high AtLeast = lit≤ tt
binding_high Same = lit≤ tt
binding_high Differs = lit≤ tt
binding_high And = lit≤ tt
binding_high Or = lit≤ tt

pub level_left : (f : Follow) → level f ≤ left f
level_left (Infix op) = omega arith
level_left Choice = omega arith

pub left_one : (f : Follow) → 1 ≤ left f
left_one (Infix op) = binding_low op
left_one Choice = omega arith

pub left_atom : (f : Follow) → left f ≤ atom
left_atom (Infix op) = omega (arith, binding_high op)
left_atom Choice = omega arith

pub tight_wanted : (r : Right) → tightness r ≤ wanted r
tight_wanted (right_infix op a) = omega arith
tight_wanted (right_prefix op p) = omega arith
tight_wanted (otherwise a b) = omega arith

pub wanted_prefix : (r : Right) → wanted r ≤ prefix
wanted_prefix (right_infix op a) = binding_high op
wanted_prefix (right_prefix op p) = omega arith
wanted_prefix (otherwise a b) = omega arith

-- what takes a token in does not leave it to what is below, and what leaves it can be followed by it
pub right_shut : (r : Right) (f : Follow) → wanted r ≤ level f → left f ≤ tightness r → ⊥
right_shut (right_infix op a) (Infix q) h k = omega arith
right_shut (right_infix op a) Choice h k = omega arith
right_shut (right_prefix op p) (Infix q) h k = omega (arith, binding_high q)
right_shut (right_prefix op p) Choice h k = omega arith
right_shut (otherwise a b) f h k = omega (arith, left_one f)

pub left_fits : (r : Right) (f : Follow) → suc (level f) ≤ wanted r → left f ≤ tightness r
left_fits (right_infix op a) (Infix q) h = omega arith
left_fits (right_infix op a) Choice h = binding_low op
left_fits (right_prefix op p) (Infix q) h = omega (arith, binding_high q)
left_fits (right_prefix op p) Choice h = omega arith
left_fits (otherwise a b) f h = omega arith

pub loosen : {ℓ : ℕ} (m : ℕ) {ts us : List Token} {e : Expr} → m ≤ ℓ → Phrase ℓ ts e us → Phrase m ts e us
loosen m h (begins l p) = begins (omega arith) p
loosen m h (goes_on f o l d s) = goes_on f o (omega arith) d s

pub raise : {m ℓ : ℕ} (k : ℕ) {ts us : List Token} {e e' : Expr} → m ≤ k → Onward m ℓ e ts e' us → Onward k ℓ e ts e' us
raise k h (stop l) = stop (omega arith)
raise k h (step f o l b s x) = step f o l (omega arith) s x

pub join : {k m : ℕ} {ℓ : ℕ} {ts us vs : List Token} {e e' e'' : Expr} → ℓ ≤ m → Onward k m e ts e' us → Onward m ℓ e' us e'' vs → Onward k ℓ e ts e'' vs
join h (stop l) y = raise _ l y
join h (step f o l b s x) y = step f o (omega arith) b s (join h x y)

pub onto : {k ℓ : ℕ} {ts us vs : List Token} {e e' : Expr} → Phrase k ts e us → Onward k ℓ e us e' vs → Phrase ℓ ts e' vs
onto d (stop l) = loosen _ l d
onto d (step f o l b s x) = onto (goes_on f o (le_refl _) (loosen _ b d) s) x

pub record Split (ℓ : ℕ) (ts : List Token) (e : Expr) (us : List Token) : Type 0 where
  pub tight : ℕ
  pub first : Expr
  pub then : List Token
  pub head : Operand tight ts first then
  pub onward : Onward tight ℓ first then e us

pub split : {ℓ : ℕ} {ts us : List Token} {e : Expr} → Phrase ℓ ts e us → Split ℓ ts e us
split (begins l p) = record { tight = _; first = _; then = _; head = p; onward = stop l }
split (goes_on f o l d s) =
    let p = split d in
    record { tight = p.tight; first = p.first; then = p.then; head = p.head; onward = join (omega (arith, level_left f)) p.onward (step f o l (le_refl _) s (stop l)) }
