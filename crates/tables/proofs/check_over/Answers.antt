use Rattle.std.proofs.Common.{◌≡◌, length, get_or, sym, subst, arith, rules}
use Rattle.registers.specs.Library.{library}
use Rattle.checker.specs.declared.calls.Call.TheVariants.{Check}
use Rattle.checker.specs.declared.calls.Answer.TheVariants.{Blank}
use Rattle.checker.specs.Runs.{Left}
use Rattle.tables.proofs.check_over.Goals as goal

moved : {A : Type 0} {x y : A} (P : A → Type 0) → x ≡ y → P y → P x
moved P e p = subst P (sym e) p

pub returns : goal.returns
returns c =
    let run = c.run-checked in
    let call = Check c.args.sheet in
    record {
      lawful = run.ensures.runs.law 0 call (omega arith);
      left = moved (λ es. Left (record { of_tree = length c.args.tree.now; of_operators = length c.args.operators.now; of_frames = length c.args.frames.now; of_types = length c.args.types.now }) library c.args.sheet.now run.new.findings es (get_or run.new.said 0 Blank) run.result) (let e = run.ensures.lent.types.0 in search rules) (run.ensures.runs.left 0 call (omega arith));
    }
