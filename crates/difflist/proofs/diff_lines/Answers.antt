use native.Mathlib.Omega.{arith}
use Rattle.bits.proofs.OutcomeLaws.{left_by}
use Rattle.diff.proofs.AnswerLaws.{counted_by, are_both, list_told, list_untold}
use Rattle.difflist.proofs.FillLaws.{front_placed}
use Rattle.difflist.proofs.diff_lines.Goals as goal

pub returns-in_err-both_read-clause-answer : goal.returns-in_err-both_read-clause-answer
returns-in_err-both_read-clause-answer c =
    rw (left_by _ c.from_residual.ensures) (list_untold c.args.first.now c.args.second.now c.in_err-both_read.ensures c.args.out.now).0

pub returns-in_err-both_read-clause-buffer : goal.returns-in_err-both_read-clause-buffer
returns-in_err-both_read-clause-buffer c = (list_untold c.args.first.now c.args.second.now c.in_err-both_read.ensures c.args.out.now).1

pub put_lines-requires : goal.put_lines-requires
put_lines-requires c =
    (counted_by (are_both c.args.first.now c.args.second.now c.in_ok-both_read.ensures) c.open_count.ensures c.open_count-2.ensures, omega arith)

pub returns-clause-answer : goal.returns-clause-answer
returns-clause-answer c =
    (list_told c.args.first.now c.args.second.now c.in_ok-both_read.ensures c.put_lines.result c.args.out.now c.put_lines.new.out (front_placed c.put_lines.ensures)).0

pub returns-clause-buffer : goal.returns-clause-buffer
returns-clause-buffer c =
    (list_told c.args.first.now c.args.second.now c.in_ok-both_read.ensures c.put_lines.result c.args.out.now c.put_lines.new.out (front_placed c.put_lines.ensures)).1
