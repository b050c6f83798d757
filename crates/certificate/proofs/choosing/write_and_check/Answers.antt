use Rattle.std.proofs.Common.{length, arith}
use Rattle.certificate.proofs.Accepted.{front_valid, front_accepted}
use Rattle.certificate.proofs.choosing.write_and_check.Goals as goal

pub returns-clause-answer : goal.returns-clause-answer
returns-clause-answer c =
    let o = c.args.offers.now in
    front_accepted o.file.now o.problem c.args.size c.row_at-end.result (length c.args.work.now) c.args.sets.now c.args.numbers.now c.write_sheet.new.sheet
    c.requires.meaning c.requires.choice c.write_sheet.ensures.written (omega (arith, c.requires.room)) c.row_at-end.ensures.exact c.requires.words c.check.result c.check.ensures

pub returns-clause-valid : goal.returns-clause-valid
returns-clause-valid c =
    let o = c.args.offers.now in
    (front_valid o.file.now o.problem c.args.size c.args.sets.now c.args.numbers.now c.write_sheet.new.sheet c.requires.meaning c.requires.choice
    c.write_sheet.ensures.written (omega (arith, c.requires.room))).0
