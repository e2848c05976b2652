-- How many notes an expression makes, and the notes of the last statement. Assumes nothing.
use Rattle.std.proofs.Common.{◌≡◌, ℕ, suc, ◌+◌, ◌*◌, ◌≤◌, List, [], ◌∷◌, ◌++◌, length, sym, refl, ap, ◌∙◌, subst, append_assoc, append-nil, arith, length-append}
use Rattle.types.specs.Types.{Ty, boolean}
use Rattle.building.proofs.Closed.{some_weight}
use Rattle.registers.specs.Meaning.{Meaning}
use Rattle.parser.specs.declared.symbols.Leaf.{Leaf}
use Rattle.parser.specs.declared.symbols.Prefix.{Prefix}
use Rattle.parser.specs.declared.symbols.Operator.{Operator}
use Rattle.parser.specs.Syntax.{Expr, place, size, sizes}
use Rattle.checker.specs.Conditions.{Condition, fits}
use Rattle.checker.specs.Rules.{LeafRule, a_number, a_string, a_true, a_false, a_null, a_name, PrefixRule, a_not, a_negation, a_typeof, InfixRule, arithmetic, comparison, logical, left_number, left_string, right_number, right_string, both_open, Note, asks, has, ends, conditions, types, Typed, typed_leaf, typed_unary, typed_binary, typed_choice, AllTyped, typed_none, typed_more}
use Rattle.checker.specs.Findings.{weigh}

ends_length : (cs : List Condition) (t : Ty) → length (ends cs t) ≡ suc (length cs)
ends_length [] t = refl
ends_length (c ∷ cs) t = ap suc (ends_length cs t)

few_of_leaf : {sheet : List ℕ} {Γ : Meaning} {p n : ℕ} {l : Leaf} {t : Ty} {cs : List Condition} → LeafRule sheet Γ p n l t cs → length cs ≤ 2
few_of_leaf (a_number x) = omega arith
few_of_leaf (a_string x) = omega arith
few_of_leaf a_true = omega arith
few_of_leaf a_false = omega arith
few_of_leaf a_null = omega arith
few_of_leaf a_name = omega arith

few_of_prefix : {p : ℕ} {t u : Ty} {op : Prefix} {cs : List Condition} → PrefixRule p t op u cs → length cs ≤ 2
few_of_prefix a_not = omega arith
few_of_prefix a_negation = omega arith
few_of_prefix a_typeof = omega arith

few_of_infix : {p q : ℕ} {s t u : Ty} {op : Operator} {cs : List Condition} → InfixRule p s q t op u cs → length cs ≤ 2
few_of_infix (arithmetic a) = omega arith
few_of_infix (comparison a) = omega arith
few_of_infix (logical a x) = omega arith
few_of_infix (left_number a) = omega arith
few_of_infix (left_string a) = omega arith
few_of_infix (right_number a b) = omega arith
few_of_infix (right_string a b) = omega arith
few_of_infix (both_open a b) = omega arith

module _ {sheet : List ℕ} {Γ : Meaning} where
  pub few_notes : {e : Expr} {t : Ty} {ns : List Note} → Typed sheet Γ e t ns → length ns ≤ 3 * size e
  few_notes (typed_leaf {t} {cs} r) = omega (arith, ends_length cs t, few_of_leaf r)
  few_notes (typed_unary {u} {cs} x r) = simp length-append (omega (arith, few_notes x, ends_length cs u, few_of_prefix r))
  few_notes (typed_binary {u} {cs} x y r) = simp length-append (omega (arith, few_notes x, few_notes y, ends_length cs u, few_of_infix r))
  few_notes (typed_choice x y z u) = simp length-append (omega (arith, few_notes x, few_notes y, few_notes z))

  pub few_notes_of_all : {es : List Expr} {ns : List Note} → AllTyped sheet Γ es ns → length ns ≤ 3 * sizes es
  few_notes_of_all typed_none = omega arith
  few_notes_of_all (typed_more x xs) = simp length-append (omega (arith, few_notes x, few_notes_of_all xs))

  -- the last statement
  pub last_typed : (ss : List Expr) {e : Expr} {ns : List Note} → AllTyped sheet Γ (ss ++ e ∷ []) ns → (ms ls : List Note) × (t : Ty) × AllTyped sheet Γ ss ms × Typed sheet Γ e t ls × (ns ≡ ms ++ ls)
  last_typed [] (typed_more {ms} x typed_none) = ([], ms, _, typed_none, x, append-nil ms)
  last_typed (s ∷ ss) (typed_more {ms} x xs) =
      let r = last_typed ss xs in
      (ms ++ r.0, r.1, r.2, typed_more x r.3, r.4, ap (λ ns. ms ++ ns) r.5 ∙ sym (append_assoc ms r.0 r.1))

  pub typed_last : {ss : List Expr} {e : Expr} {t : Ty} {ms ls : List Note} → AllTyped sheet Γ ss ms → Typed sheet Γ e t ls → AllTyped sheet Γ (ss ++ e ∷ []) (ms ++ ls)
  typed_last {e} {ls} typed_none y = subst (λ ns. AllTyped sheet Γ (e ∷ []) ns) (append-nil ls) (typed_more y typed_none)
  typed_last (typed_more {ms} {ns} x xs) y = rw append_assoc (typed_more x (typed_last xs y))

-- what is noted is few by its load

counts_append : (ms ns : List Note) → (length (conditions (ms ++ ns)) ≡ length (conditions ms) + length (conditions ns)) × (length (types (ms ++ ns)) ≡ length (types ms) + length (types ns))
counts_append [] ns = omega arith
counts_append (asks c ∷ ms) ns = omega (arith, counts_append ms ns)
counts_append (has t ∷ ms) ns = omega (arith, counts_append ms ns)

ends_counts : (cs : List Condition) (t : Ty) → (length (conditions (ends cs t)) ≡ length cs) × (length (types (ends cs t)) ≡ 1)
ends_counts [] t = omega arith
ends_counts (c ∷ cs) t = omega (arith, ends_counts cs t)

few_types : (ts : List Ty) → length ts ≤ weigh ts
few_types [] = omega arith
few_types (t ∷ ts) = omega (arith, some_weight t, few_types ts)

module _ {sheet : List ℕ} {Γ : Meaning} where
  few_conditions : {e : Expr} {t : Ty} {ns : List Note} → Typed sheet Γ e t ns → length (conditions ns) ≤ 2 * length (types ns)
  few_conditions (typed_leaf {t} {cs} r) = omega (arith, ends_counts cs t, few_of_leaf r)
  few_conditions (typed_unary {u} {ns} {cs} x r) = omega (arith, counts_append ns (ends cs u), ends_counts cs u, few_conditions x, few_of_prefix r)
  few_conditions (typed_binary {u} {ms} {ns} {cs} x y r) =
      omega (arith, counts_append ms (ns ++ ends cs u), counts_append ns (ends cs u), ends_counts cs u, few_conditions x, few_conditions y, few_of_infix r)
  few_conditions (typed_choice {a} {r} {u} {ls} {ms} {ns} x y z w) =
      let cs = fits (place a) r boolean ∷ [] in
      omega (arith, counts_append ls (ms ++ (ns ++ ends cs u)), counts_append ms (ns ++ ends cs u), counts_append ns (ends cs u), few_conditions x, few_conditions y, few_conditions z)

  few_conditions_of_all : {es : List Expr} {ns : List Note} → AllTyped sheet Γ es ns → length (conditions ns) ≤ 2 * length (types ns)
  few_conditions_of_all typed_none = omega arith
  few_conditions_of_all (typed_more {ms} {ns} x xs) = omega (arith, counts_append ms ns, few_conditions x, few_conditions_of_all xs)

  pub few_by_load : {es : List Expr} {ns : List Note} → AllTyped sheet Γ es ns → (length (conditions ns) ≤ 2 * weigh (types ns)) × (length (types ns) ≤ weigh (types ns))
  few_by_load {ns} x = omega (arith, few_conditions_of_all x, few_types (types ns))
