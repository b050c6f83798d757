-- At most 600 rows of 64 numbers.
use Rattle.std.proofs.Common.{◌+◌, get_or}
use Rattle.std.proofs.lemmas.Nat.{mul-le}
use Rattle.linear.proofs.read.Goals as goal

pub check_numbers-requires-clause-few : goal.check_numbers-requires-clause-few
check_numbers-requires-clause-few c = mul-le c.args.n (get_or c.args.file.now (c.args.p + 1) 0) 600 64 c.requires.0 c.if-len-gt64.false
