use Rattle.std.proofs.Common.{arith}
use Rattle.host.specs.Answers.{no_room_to_read}
use Rattle.checker.proofs.Running.{readable}
use Rattle.host.proofs.Telling.{full, tell_program, tell_unread}
use Rattle.host.proofs.sheet_read.Goals as goal

pub returns-then-out-lt-HEAD : goal.returns-then-out-lt-HEAD
returns-then-out-lt-HEAD c = no_room_to_read c.if-out-lt-HEAD.true

pub returns-in-Ok : goal.returns-in-Ok
returns-in-Ok c = tell_program c.args.sheet.now c.args.out.now (full (omega arith) (omega arith) (omega arith) (omega arith)) c.if-out-lt-HEAD.false c.args.out.now 0 _ (readable c.in-Ok.ensures.reads)

pub returns-in-Err : goal.returns-in-Err
returns-in-Err c =
    tell_unread c.args.sheet.now c.args.out.now (full (omega arith) (omega arith) (omega arith) (omega arith)) c.if-out-lt-HEAD.false c.refused.new.out c.refused.result c.in-Err.e c.in-Err.ensures.reads
    c.refused.ensures.written c.refused.ensures.number
