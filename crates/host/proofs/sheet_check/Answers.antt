use Rattle.std.proofs.Common.{arith}
use Rattle.host.specs.Answers.{no_room_to_check}
use Rattle.host.proofs.Telling.{full, tell_checked, tell_not_checked}
use Rattle.host.proofs.sheet_check.Goals as goal

pub returns-then-out-lt-HEAD : goal.returns-then-out-lt-HEAD
returns-then-out-lt-HEAD c = no_room_to_check c.if-out-lt-HEAD.true

pub returns-in-Ok : goal.returns-in-Ok
returns-in-Ok c =
    tell_checked c.args.sheet.now c.args.out.now (full (omega arith) (omega arith) (omega arith) (omega arith)) c.if-out-lt-HEAD.false c.checked.new.out c.checked.result c.in-Ok.c c.read_and_check.new.findings
    _ c.read_and_check.auto.findings c.in-Ok.ensures.checks c.checked.ensures.written c.checked.ensures.number

pub returns-in-Err : goal.returns-in-Err
returns-in-Err c =
    tell_not_checked c.args.sheet.now c.args.out.now (full (omega arith) (omega arith) (omega arith) (omega arith)) c.if-out-lt-HEAD.false c.refused.new.out c.refused.result c.in-Err.e c.from.result c.in-Err.ensures.checks.0 c.from.ensures
    c.refused.ensures.written c.refused.ensures.number
