-- The first frame of a walk, and what it has told in the end. Assumes nothing.
use Rattle.std.proofs.Common.{◌≡◌, ℕ, suc, ◌+◌, ◌<◌, ◌≤◌, List, [], ◌∷◌, length, Ok, Err, Option, Result, sym, ap, ◌∙◌, subst, append-nil, arith}
use Rattle.std.specs.Result.{IsErr}
use Rattle.std.proofs.lemmas.Bool.{false≢true}
use Rattle.stack.specs.declared.Stack.{Stack}
use Rattle.stack.specs.Items.{held, room}
use Rattle.types.specs.declared.entries.TypeEntry.{TypeEntry}
use Rattle.registers.specs.Meaning.{Meaning, Sound}
use Rattle.parser.specs.declared.tree.TreeEntry.{TreeEntry}
use Rattle.parser.specs.declared.tree.WalkFrame.{WalkFrame}
use Rattle.parser.specs.declared.tree.WalkFrame.TheVariants.{Statements}
use Rattle.parser.specs.Syntax.{Expr, size, sizes}
use Rattle.parser.specs.Table.{Listed}
use Rattle.checker.specs.declared.finding.Finding.{Finding}
use Rattle.checker.specs.declared.stage.Checked.{Checked}
use Rattle.checker.specs.declared.store.TooHeavy.{TooHeavy}
use Rattle.checker.specs.Rules.{Note, AllTyped, conditions, types}
use Rattle.checker.specs.Findings.{none, blank, FirstOf, weigh}
use Rattle.checker.specs.Stores.{entries, Tabled}
use Rattle.checker.specs.Orders.{TypesHeld}
use Rattle.checker.specs.Owing.{exprs, turns, owes_none, owes_statements, Going, going}
use Rattle.checker.specs.Standing.{State, Rooms, Operands, no_operands, Goes, Runs, Tells, Told}
use Rattle.checker.specs.Walks.{WalkedAs, WalkedOrHeavy}
use Rattle.checker.proofs.Notes.{few_notes_of_all}
use Rattle.checker.proofs.Ordered.{is_type, is_orderly, stands_orderly}

counted : (ss : List Expr) → (sizes ss ≡ exprs ss + length ss) × (turns ss ≡ exprs ss + exprs ss + length ss)
counted [] = (omega arith, omega arith)
counted (e ∷ ss) = let h = counted ss in (omega (arith, h.0), omega (arith, h.1))

bounds : (ss : List Expr) → sizes ss ≤ 4096 → (suc (exprs ss) ≤ 4096) × (suc (turns ss) ≤ 8192)
bounds [] small = (omega arith, omega arith)
bounds (e ∷ ss) small = let h = counted (e ∷ ss) in (omega (arith, h.0), omega (arith, h.0, h.1))

first_going : (sheet : List ℕ) (Γ : Meaning) (table : List TreeEntry) (last : Option ℕ) (ss : List Expr) (ns : List Note) → Listed table last ss → sizes ss ≤ 4096 → AllTyped sheet Γ ss ns → Going sheet Γ table ns 8192 (Statements last ∷ []) [] []
first_going sheet Γ table last ss ns listed small typed =
    let b = bounds ss small in
    going (owes_statements listed typed (λ us. owes_none)) (append-nil ns) (omega (arith, b.1)) (omega (arith, b.0)) (omega (arith, few_notes_of_all typed))

first_goes : (sheet : List ℕ) (Γ : Meaning) (table : List TreeEntry) (last : Option ℕ) (ss : List Expr) (ns : List Note) (w : State) → Listed table last ss → sizes ss ≤ 4096 → AllTyped sheet Γ ss ns
    → held w.frames ≡ Statements last ∷ [] → held w.operators ≡ [] → Rooms w → 8192 ≤ length (entries w.store) → w.store.used ≡ 0 → w.store.count ≡ 0 → w.store.load ≡ 0
    → w.findings.count ≡ 0 → FirstOf blank w.findings.slots.now [] → Goes sheet Γ table ns 8192 (held w.frames) w
first_goes sheet Γ table last ss ns w listed small typed frames operators rooms size used count load none_yet blanks =
    record {
      notes = [];
      operands = [];
      tells = record { found = []; findings = none; kept = record { counts = none_yet; holds = blanks } };
      tabled = record { size = size; count = count; load = load; light = omega (arith, used, count); within = omega (arith, load); heads = λ k h. absurd (omega arith); filled = λ j a b. absurd (omega (arith, used)) };
      holds = subst (λ l. Operands (entries w.store) w.store.used l []) (sym operators) no_operands;
      rooms = rooms;
      goes = subst (λ l. Going sheet Γ table ns 8192 l [] []) (sym frames) (first_going sheet Γ table last ss ns listed small typed);
    }

-- what a walk tells that begins with the statement at an index and those before it
pub first_told : (sheet : List ℕ) (Γ : Meaning) (table : List TreeEntry) (last : Option ℕ) (ss : List Expr) (ns : List Note) (w v : State) (r : Result (Unit {0}) TooHeavy) (empty : Stack WalkFrame) {operators frames : ℕ}
    → Listed table last ss → sizes ss ≤ 4096 → AllTyped sheet Γ ss ns → Sound Γ → 4096 ≤ operators → 4096 ≤ frames → held empty ≡ [] → room empty ≡ frames
    → (length (held empty) < room empty → held w.frames ≡ Statements last ∷ held empty) → room w.frames ≡ room empty → held w.operators ≡ [] → room w.operators ≡ operators
    → 8192 ≤ length (entries w.store) → w.store.used ≡ 0 → w.store.count ≡ 0 → w.store.load ≡ 0 → w.findings.count ≡ 0 → FirstOf blank w.findings.slots.now [] → Runs sheet Γ table w v r → Told ns v r
first_told sheet Γ table last ss ns w v r empty listed small typed sound o f no_frames space push keeps no_operands_yet space' long used count load none_yet blanks runs =
    runs.runs ns sound
    (first_goes sheet Γ table last ss ns w listed small typed (push (omega (arith, space, ap length no_frames)) ∙ ap (λ l. Statements last ∷ l) no_frames) no_operands_yet
    (record { frames = omega (arith, keeps, space); operators = omega (arith, space') }) long used count load none_yet blanks)

-- what was told in the end
pub walked : (ns : List Note) (w : State) (c : Checked) → c.count ≡ w.findings.count → c.expressions ≡ w.store.count → c.used ≡ w.store.used → Tells w.findings (conditions ns) → Tabled w.store (types ns)
    → WalkedAs ns c w.findings.slots.now (entries w.store)
walked ns w c n e u t k = record {
  load = omega (arith, k.load, k.within);
  found = t.found;
  findings = t.findings;
  recorded = record {
    count = n ∙ t.kept.counts;
    list = t.kept.holds;
    expressions = e ∙ k.count;
    light = omega (arith, u, e, k.light, k.load);
    types_held = heads;
    in_order = (
      λ i l. stands_orderly (k.filled i (omega arith) (omega (arith, u))),
      λ i l. let h = heads i (omega (arith, e, k.count)) in (is_orderly h, is_type h),
    );
  };
}
  where
    heads : TypesHeld (entries w.store) c.used (types ns)
    heads = subst (λ n. TypesHeld (entries w.store) n (types ns)) (sym u) k.heads

-- or its load is too high
pub walked_heavy : (ns : List Note) (r : Result Checked TooHeavy) (listed : List Finding) (es : List TypeEntry) → IsErr r → 8192 < weigh (types ns) → WalkedOrHeavy ns r listed es
walked_heavy ns (Ok c) listed es h l = absurd (false≢true h)
walked_heavy ns (Err e) listed es h l = l
