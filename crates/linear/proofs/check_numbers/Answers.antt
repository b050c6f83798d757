-- Each turn reads one number; what is left then gives the answer.
use Rattle.std.proofs.Common.{◌≡◌, ◌+◌, true, false, leb, length, get_or, sym, ◌∙◌, arith}
use Rattle.std.proofs.lemmas.Bool.{le-leb, lt-leb}
use Rattle.linear.proofs.Reading.{numbers_step}
use Rattle.linear.proofs.check_numbers.Goals as goal

pub returns-then-place-file : goal.returns-then-place-file
returns-then-place-file c =
    let a : leb (length c.args.file.now) c.loop-place.place ≡ true = le-leb _ _ (omega arith) in
    let s = rw a at (numbers_step c.args.file.now c.args.shape (c.args.at + c.args.count) c.loop-place.place (omega arith)) in
    sym s ∙ c.loop-place.invariant.1

pub returns-then-file-place : goal.returns-then-file-place
returns-then-file-place c =
    let a : leb (length c.args.file.now) c.loop-place.place ≡ false = lt-leb _ _ (omega arith) in
    let b : leb c.args.shape.prime (get_or c.args.file.now c.loop-place.place 0) ≡ true = le-leb _ _ (omega arith) in
    let s = rw (a, b) at (numbers_step c.args.file.now c.args.shape (c.args.at + c.args.count) c.loop-place.place (omega arith)) in
    sym s ∙ c.loop-place.invariant.1

pub loop-place-preserved : goal.loop-place-preserved
loop-place-preserved c =
    let a : leb (length c.args.file.now) c.loop-place.place ≡ false = lt-leb _ _ (omega arith) in
    let b : leb c.args.shape.prime (get_or c.args.file.now c.loop-place.place 0) ≡ false = lt-leb _ _ (omega arith) in
    let s = rw (a, b) at (numbers_step c.args.file.now c.args.shape (c.args.at + c.args.count) c.loop-place.place (omega arith)) in
    (omega arith, sym s ∙ c.loop-place.invariant.1)
